-- What the end of a call's tests says of its answer, and of each test. Assumes nothing.
use Prim.Native.Nat.{ℕ, ◌≤◌, ◌<◌}
use mathlib.Core.Bool.{Bool, true, false, cond, ◌||◌, false≢true}
use mathlib.Core.List.{List, [], ◌∷◌, ◌++◌}
use mathlib.Core.Path.{◌≡◌, refl, sym, ap, ap₂, ◌∙◌}
use native.Mathlib.Omega.{arith}
use borrow.Author.Tests.{ltb-false, le-ltb, ne_eqb, eqb-false}
use lib.Dec.{ltb, eqb}
use Rattle.units.specs.declared.refusals.Fault.{Fault}
use Rattle.units.specs.declared.refusals.Fault.TheVariants.{TooWide, Refused}
use Rattle.units.specs.Refusals.{Reply, reply, fault_reply, refusal_number, Test, answer, refusal, then_reply, outside}
use Rattle.std.specs.Prelude.{Result, Ok, Err, IsErrAnd}
use Rattle.units.specs.declared.refusals.Refusal.{Refusal}
use Rattle.units.specs.declared.refusals.Refusal.TheVariants.{InputWidth, OutputWidth, FewCells, Place, Divisor, Line, ShortText}

-- no reason holds
abbrev pub Passed : List Test → Type 0
Passed [] = Unit {0}
Passed (t ∷ ts) = (t.holds ≡ false) × Passed ts

-- no test gives the number 0
abbrev pub Numbered : List Test → Type 0
Numbered [] = Unit {0}
Numbered (t ∷ ts) = (0 < t.gives.number) × Numbered ts

pub refusal_numbered : (r : Refusal) → 0 < refusal_number r
refusal_numbered InputWidth = omega arith
refusal_numbered OutputWidth = omega arith
refusal_numbered FewCells = omega arith
refusal_numbered Place = omega arith
refusal_numbered Divisor = omega arith
refusal_numbered Line = omega arith
refusal_numbered ShortText = omega arith

-- what is read off an answer is read off each of its cases
cond_maps : {A B : Type 0} (g : A → B) (holds : Bool) (a b : A) {c : B} → g b ≡ c → g (cond holds a b) ≡ cond holds (g a) c
cond_maps g true a b e = refl
cond_maps g false a b e = e

pub answer_maps : {A B : Type 0} (g : A → B) (refuse : Reply → A) (done : A) (ts : List Test)
    → g (answer refuse done ts) ≡ answer (λ (b : Reply). g (refuse b)) (g done) ts
unfolding answer
answer_maps g refuse done [] = refl
answer_maps g refuse done (t ∷ ts) =
    cond_maps g t.holds (refuse t.gives) (answer refuse done ts) (answer_maps g refuse done ts)

-- an answer whose cases give their numbers gives that of its tests
pub answer_number : {A : Type 0} (number : A → ℕ) (refuse : Reply → A) (done : A) (ts : List Test)
    → ((b : Reply) → number (refuse b) ≡ b.number)
    → number done ≡ 0
    → number (answer refuse done ts) ≡ (refusal ts).number
unfolding answer
answer_number number refuse done [] gives zero = zero
answer_number {A} number refuse done (t ∷ ts) gives zero =
    either t.holds (refuse t.gives) (answer refuse done ts) t.gives (refusal ts) (gives t.gives) (answer_number number refuse done ts gives zero)
  where
    either : (holds : Bool) (a b : A) (x y : Reply) → number a ≡ x.number → number b ≡ y.number → number (cond holds a b) ≡ (cond holds x y).number
    either true a b x y p q = p
    either false a b x y p q = q

-- and what holds of each case holds of the answer
abbrev pub Each : (Test → Type 0) → List Test → Type 0
Each P [] = Unit {0}
Each P (t ∷ ts) = P t × Each P ts

cond_has : {A : Type 0} (P : A → Type 0) (holds : Bool) {a b : A} → P a → P b → P (cond holds a b)
cond_has P true p q = p
cond_has P false p q = q

pub answer_has : {A : Type 0} (P : A → Type 0) (refuse : Reply → A) (done : A) (ts : List Test) → Each (λ (t : Test). P (refuse t.gives)) ts → P done
    → P (answer refuse done ts)
unfolding answer
answer_has P refuse done [] each p = p
answer_has P refuse done (t ∷ ts) each p =
    cond_has P t.holds {a = refuse t.gives} {b = answer refuse done ts} each.0 (answer_has P refuse done ts each.1 p)

-- what a call does counts only where no reason holds
cond_when : {A : Type 0} (holds : Bool) (a : A) {b c : A} → (holds ≡ false → b ≡ c) → cond holds a b ≡ cond holds a c
cond_when true a e = refl
cond_when false a e = e refl

pub answer_when : {A : Type 0} (refuse : Reply → A) (done done' : A) (ts : List Test) → (Passed ts → done ≡ done')
    → answer refuse done ts ≡ answer refuse done' ts
unfolding answer
answer_when refuse done done' [] e = e tt
answer_when refuse done done' (t ∷ ts) e =
    cond_when t.holds (refuse t.gives) (λ passes. answer_when refuse done done' ts (λ rest. e (passes, rest)))

-- one list of tests, and another after it
then_joins : (ts rest : List Test) → Numbered ts → refusal (ts ++ rest) ≡ then_reply (refusal ts) (refusal rest)
unfolding answer
then_joins [] rest p = refl
then_joins (t ∷ ts) rest p = join t.holds t.gives p.0 (refusal (ts ++ rest)) (refusal ts) (then_joins ts rest p.1)
  where
    join : (holds : Bool) (gives : Reply) → 0 < gives.number → (all some : Reply) → all ≡ then_reply some (refusal rest)
        → cond holds gives all ≡ then_reply (cond holds gives some) (refusal rest)
    join true gives h all some e = sym (simp (ne_eqb gives.number 0 (λ z. omega arith)))
    join false gives h all some e = e

pub then_is : (ts rest : List Test) → Numbered ts → {a b both : Reply} → both ≡ then_reply a b → a ≡ refusal ts → b ≡ refusal rest
    → both ≡ refusal (ts ++ rest)
then_is ts rest p e a b = e ∙ ap₂ then_reply a b ∙ sym (then_joins ts rest p)

-- one list passed, and the other; and back
pub passed_parts : (ts rest : List Test) → Passed (ts ++ rest) → Passed ts × Passed rest
passed_parts [] rest p = (tt, p)
passed_parts (t ∷ ts) rest p =
    let parts = passed_parts ts rest p.1 in
    ((p.0, parts.0), parts.1)

pub passed_also : (ts rest : List Test) → Passed ts → Passed rest → Passed (ts ++ rest)
passed_also [] rest p q = q
passed_also (t ∷ ts) rest p q = (p.0, passed_also ts rest p.1 q)

-- tests that pass leave the answer to those after them
pub rest_answers : {A : Type 0} (refuse : Reply → A) (done : A) (ts rest : List Test) → Passed ts
    → answer refuse done rest ≡ answer refuse done (ts ++ rest)
unfolding answer
rest_answers refuse done [] rest p = refl
rest_answers refuse done (t ∷ ts) rest p = rw p.0 (rest_answers refuse done ts rest p.1)

-- where every test passes the call is done
pub done_by : {A : Type 0} (refuse : Reply → A) (done : A) (ts : List Test) → Passed ts → done ≡ answer refuse done ts
unfolding answer
done_by refuse done [] p = refl
done_by refuse done (t ∷ ts) p = rw p.0 (done_by refuse done ts p.1)

-- where one does not, nothing after it counts
first_refused : {A : Type 0} (refuse : Reply → A) (rest : A) (holds : Bool) (gives after : Reply)
    → (0 < after.number → rest ≡ refuse after)
    → 0 < (cond holds gives after).number
    → cond holds (refuse gives) rest ≡ refuse (cond holds gives after)
first_refused refuse rest true gives after later h = refl
first_refused refuse rest false gives after later h = later h

refused_first : {A : Type 0} (refuse : Reply → A) (done : A) (ts rest : List Test) → 0 < (refusal ts).number
    → answer refuse done (ts ++ rest) ≡ refuse (refusal ts)
unfolding answer
refused_first refuse done [] rest h = absurd (omega arith)
refused_first refuse done (t ∷ ts) rest h =
    first_refused refuse (answer refuse done (ts ++ rest)) t.holds t.gives (refusal ts) (refused_first refuse done ts rest) h

pub refused_by : {A : Type 0} (refuse : Reply → A) (done : A) (ts rest : List Test) {b : Reply} → b ≡ refusal ts → 0 < b.number
    → refuse b ≡ answer refuse done (ts ++ rest)
refused_by refuse done ts rest e h = ap refuse e ∙ sym (refused_first refuse done ts rest (rw e at h))

-- where the first that does not pass comes after others
pub refused_after : {A : Type 0} (refuse : Reply → A) (done : A) (ts : List Test) (t : Test) (rest : List Test) → Passed ts → t.holds ≡ true
    → refuse t.gives ≡ answer refuse done (ts ++ (t ∷ rest))
unfolding answer
refused_after refuse done [] t rest p e = rw e
refused_after refuse done (s ∷ ts) t rest p e = rw p.0 (refused_after refuse done ts t rest p.1 e)

-- number 0 says that no reason holds
first_passed : (holds : Bool) (gives after : Reply) → 0 < gives.number → (cond holds gives after).number ≡ 0
    → (holds ≡ false) × (after.number ≡ 0)
first_passed true gives after p e = absurd (omega arith)
first_passed false gives after p e = (refl, e)

pub all_passed : (ts : List Test) → Numbered ts → (refusal ts).number ≡ 0 → Passed ts
unfolding answer
all_passed [] p e = tt
all_passed (t ∷ ts) p e =
    let first = first_passed t.holds t.gives (refusal ts) p.0 e in
    (first.0, all_passed ts p.1 first.1)

-- and so does that of an answer whose cases give their numbers
pub zero_passed : {A : Type 0} (number : A → ℕ) (refuse : Reply → A) (done : A) (ts : List Test) → Numbered ts
    → ((b : Reply) → number (refuse b) ≡ b.number)
    → number done ≡ 0
    → number (answer refuse done ts) ≡ 0
    → Passed ts
zero_passed number refuse done ts p gives zero e = all_passed ts p (sym (answer_number number refuse done ts gives zero) ∙ e)

-- and so does any other number that none of the tests gives
pub other_passed : {A : Type 0} (number : A → ℕ) (refuse : Reply → A) (done : A) (q : ℕ) (ts : List Test)
    → Each (λ (t : Test). eqb t.gives.number q ≡ false) ts
    → ((b : Reply) → number (refuse b) ≡ b.number)
    → number (answer refuse done ts) ≡ q
    → Passed ts
unfolding answer
other_passed number refuse done q [] apart gives e = tt
other_passed {A} number refuse done q (t ∷ ts) apart gives e =
    by_test t.holds refl (other_passed number refuse done q ts apart.1 gives) e
  where
    by_test : (holds : Bool) → t.holds ≡ holds → (number (answer refuse done ts) ≡ q → Passed ts)
        → number (cond holds (refuse t.gives) (answer refuse done ts)) ≡ q
        → Passed (t ∷ ts)
    by_test true is rest e = absurd (eqb-false t.gives.number q apart.0 (sym (gives t.gives) ∙ e))
    by_test false is rest e = (is, rest e)

-- What the code knows after a function has made some tests. They refused with r, so the call's answer is r's number
pub refused_so : {A : Type 0} (refuse : Reply → A) (done : A) (ts rest : List Test) (r : Refusal) → reply (refusal_number r) 0 ≡ refusal ts
    → refuse (reply (refusal_number r) 0) ≡ answer refuse done (ts ++ rest)
refused_so refuse done ts rest r tests = refused_by refuse done ts rest tests (refusal_numbered r)

-- What `?` hands on is that error, whatever is read off the answer
pub handed_on : {A E R : Type 0} (report : Result A E → R) (o : Result A E) (e : E) → IsErrAnd o (λ (x : E). x ≡ e) → report o ≡ report (Err e)
handed_on report (Ok x) e is = absurd is
handed_on report (Err x) e is = ap (λ (y : _). report (Err y)) is

-- they ended in a fault
pub fault_numbered : (fault : Fault) → 0 < (fault_reply fault).number
fault_numbered (TooWide n) = omega arith
fault_numbered (Refused r) = refusal_numbered r

pub fault_so : {A : Type 0} (refuse : Reply → A) (done : A) (ts rest : List Test) (fault : Fault) → fault_reply fault ≡ refusal ts
    → refuse (fault_reply fault) ≡ answer refuse done (ts ++ rest)
fault_so refuse done ts rest fault tests = refused_by refuse done ts rest tests (fault_numbered fault)

-- they are done, so none of their reasons holds
pub done_so : (ts : List Test) → Numbered ts → reply 0 0 ≡ refusal ts → Passed ts
done_so ts p tests = all_passed ts p (sym (ap (λ (b : Reply). b.number) tests))

-- and what comes after them counts
pub then_so : (ts rest : List Test) → Numbered ts → reply 0 0 ≡ refusal ts → {b : Reply} → b ≡ refusal rest → b ≡ refusal (ts ++ rest)
then_so ts rest p tests e = e ∙ rest_answers (λ (b : Reply). b) (reply 0 0) ts rest (done_so ts p tests)

-- a number that is not outside
pub or_false : (a b : Bool) → (a || b) ≡ false → (a ≡ false) × (b ≡ false)
or_false true b e = absurd (false≢true (sym e))
or_false false b e = (refl, e)

pub not_outside : (least most x : ℕ) → outside least most x ≡ false → (least ≤ x) × (x ≤ most)
unfolding outside
not_outside least most x e =
    let both = or_false (ltb x least) (ltb most x) e in
    (ltb-false x least both.0, ltb-false most x both.1)

pub within : (least most x : ℕ) → least ≤ x → x ≤ most → outside least most x ≡ false
unfolding outside
within least most x from to = simp (le-ltb x least from, le-ltb most x to)
