-- A case of an answer is known by document 01's number for it: so an answer that is stated by its numbers is stated whole.
-- Assumes nothing.
use Prim.Native.Nat.{ℕ}
use Rattle.std.specs.Prelude.{Result, Ok, Err}
use mathlib.Core.Bool.{cond}
use mathlib.Core.Path.{◌≡◌, refl, sym, ap, ◌∙◌}
use lib.Dec.{eqb}
use Rattle.units.specs.Sides.{side_number}
use Rattle.units.specs.Refusals.{Reply, reply_of, fault_reply, refusal_number}
use Rattle.units.specs.declared.refusals.Fault.{Fault}
use Rattle.units.specs.declared.refusals.Fault.TheVariants.{TooWide, Refused}
use Rattle.units.specs.declared.counts.Side.{Side}
use Rattle.units.specs.declared.counts.Side.TheVariants.{Left, Right}
use Rattle.units.specs.declared.refusals.Refusal.{Refusal}
use Rattle.units.specs.declared.refusals.Refusal.TheVariants.{InputWidth, OutputWidth, FewCells, Place, Divisor, Line, ShortText}

-- what can be read back is one to one
pub one_to_one : {A B : Type 0} (f : A → B) (back : B → A) → ((a : A) → back (f a) ≡ a) → (a b : A) → f a ≡ f b → a ≡ b
one_to_one f back reads a b e = sym (reads a) ∙ ap back e ∙ reads b

abbrev pub side_of : ℕ → Side
side_of s = cond (eqb s 0) Left Right

pub side_reads : (s : Side) → side_of (side_number s) ≡ s
side_reads Left = refl
side_reads Right = refl

abbrev pub refusal_of : ℕ → Refusal
refusal_of q =
    cond (eqb q 1) InputWidth
    (cond (eqb q 2) OutputWidth (cond (eqb q 3) FewCells (cond (eqb q 4) Place (cond (eqb q 6) Divisor (cond (eqb q 7) Line ShortText)))))

-- every answer is done, or names an over-wide field, or is refused
abbrev pub by_number : {A : Type 0} → ℕ → A → A → (Refusal → A) → A
by_number q done wide refused = cond (eqb q 0) done (cond (eqb q 5) wide (refused (refusal_of q)))

pub refused_reads : {A : Type 0} (r : Refusal) (done wide : A) (refused : Refusal → A)
    → by_number (refusal_number r) done wide refused ≡ refused r
refused_reads InputWidth done wide refused = refl
refused_reads OutputWidth done wide refused = refl
refused_reads FewCells done wide refused = refl
refused_reads Place done wide refused = refl
refused_reads Divisor done wide refused = refl
refused_reads Line done wide refused = refl
refused_reads ShortText done wide refused = refl

-- the fault that a number and an n name, where there is one
abbrev pub by_fault : {A : Type 0} → ℕ → ℕ → A → (Fault → A) → A
by_fault q n done faulty = by_number q done (faulty (TooWide (record { 0 = n }))) (λ (r : Refusal). faulty (Refused r))

pub fault_reads : {A : Type 0} (fault : Fault) (done : A) (faulty : Fault → A)
    → by_fault (fault_reply fault).number (fault_reply fault).n done faulty ≡ faulty fault
fault_reads (TooWide n) done faulty = refl
fault_reads (Refused r) done faulty = refused_reads r done _ (λ (r : Refusal). faulty (Refused r))

-- an answer that has no other value
answer_of : Reply → Result (Unit {0}) Refusal
answer_of b = by_number b.number (Ok tt) (Ok tt) (λ (r : Refusal). Err r)

answer_reads : (o : Result (Unit {0}) Refusal) → answer_of (reply_of o) ≡ o
unfolding answer_of
answer_reads (Ok _) = refl
answer_reads (Err r) = refused_reads r (Ok tt) (Ok tt) (λ (r : Refusal). Err r)

pub outcome_one_to_one : (a b : Result (Unit {0}) Refusal) → reply_of a ≡ reply_of b → a ≡ b
outcome_one_to_one = one_to_one reply_of answer_of answer_reads
