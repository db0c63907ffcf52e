-- The number of "Read memory", and the place that it names, are those of a list of tests. Assumes nothing.
use Prim.Native.Nat.{ℕ, ◌+◌, ◌^◌}
use mathlib.Core.Bool.{Bool, true, false, cond}
use mathlib.Core.List.{List, [], ◌∷◌, ◌++◌}
use mathlib.Core.Path.{◌≡◌, refl, sym, ap}
use native.Mathlib.Omega.{arith}
use lib.ListN.{replicate}
use Rattle.units.specs.Refusals.{Reply, reply, Test, answer, refusal, table_tests}
use Rattle.units.specs.declared.shapes.Shape.{Shape}
use Rattle.units.proofs.Laws.Tests.{Numbered}
use Rattle.memory_tokens.specs.Tokens.{Token, tokens}
use Rattle.memory_tokens.specs.Words.{saying}
use Rattle.memory_text.specs.Read.{Reading, Report, missing, lacking, complete, missing_among, token_tests, next_address, next_cells, stopped, obeyed, reading, refused, read_report}

-- what is read off an answer is read off its tests, where what it gives when they pass is that of more tests
joined : {A : Type 0} (get : A → ℕ) (of : Reply → ℕ) (refuse : Reply → A) (rest : A) (ts more : List Test)
    → ((b : Reply) → get (refuse b) ≡ of b)
    → get rest ≡ of (refusal more)
    → get (answer refuse rest ts) ≡ of (refusal (ts ++ more))
unfolding answer
joined get of refuse rest [] more gives e = e
joined {A} get of refuse rest (t ∷ ts) more gives e =
    either t.holds (refuse t.gives) (answer refuse rest ts) t.gives (refusal (ts ++ more)) (gives t.gives) (joined get of refuse rest ts more gives e)
  where
    either : (holds : Bool) (a b : A) (x y : Reply) → get a ≡ of x → get b ≡ of y → get (cond holds a b) ≡ of (cond holds x y)
    either true a b x y p q = p
    either false a b x y p q = q

no_test : refusal [] ≡ reply 0 0
unfolding answer
no_test = refl

-- the tests of a text: those of each token, by what it finds, and at the end that of a missing cell
pub text_tests : Shape → ℕ → List ℕ → List Token → List Test
text_tests s address cells [] = missing_among cells ∷ []
text_tests s address cells (t ∷ ts) =
    token_tests s address cells (saying t) ++ text_tests s (next_address address (saying t)) (next_cells address cells (saying t)) ts

-- all tests of a call
abbrev pub read_tests : Shape → List ℕ → ℕ → List Test
read_tests s text lent = table_tests s lent ++ text_tests s 0 (replicate (2 ^ s.k) missing) (tokens text)

-- the offset, with 8, 9, 5 and 10, or n, with 11; the other is zero
abbrev pub place_of : Report → ℕ
place_of r = r.offset + r.n

module _ (s : Shape) where
  obeyed_number : (address : ℕ) (cells : List ℕ) (ts : List Token) → (obeyed s address cells ts).report.number ≡ (refusal (text_tests s address cells ts)).number
  unfolding obeyed text_tests
  obeyed_number address cells [] =
      joined (λ (r : Reading). r.report.number) (λ (b : Reply). b.number) lacking (complete cells) (missing_among cells ∷ []) [] (λ b. refl) (sym (ap (λ (b : Reply). b.number) no_test))
  obeyed_number address cells (t ∷ ts) =
      joined (λ (r : Reading). r.report.number) (λ (b : Reply). b.number) stopped _ (token_tests s address cells (saying t)) _ (λ b. refl)
      (obeyed_number (next_address address (saying t)) (next_cells address cells (saying t)) ts)

  obeyed_place : (address : ℕ) (cells : List ℕ) (ts : List Token) → place_of (obeyed s address cells ts).report ≡ (refusal (text_tests s address cells ts)).n
  unfolding obeyed text_tests
  obeyed_place address cells [] =
      joined (λ (r : Reading). place_of r.report) (λ (b : Reply). b.n) lacking (complete cells) (missing_among cells ∷ []) [] (λ b. omega arith) (sym (ap (λ (b : Reply). b.n) no_test))
  obeyed_place address cells (t ∷ ts) =
      joined (λ (r : Reading). place_of r.report) (λ (b : Reply). b.n) stopped _ (token_tests s address cells (saying t)) _ (λ b. omega arith)
      (obeyed_place (next_address address (saying t)) (next_cells address cells (saying t)) ts)

  pub read_memory_number : (text : List ℕ) (lent : ℕ) → (read_report s text lent).number ≡ (refusal (read_tests s text lent)).number
  read_memory_number text lent =
      joined (λ (r : Report). r.number) (λ (b : Reply). b.number) refused (reading s text).report (table_tests s lent) _ (λ b. refl) (obeyed_number 0 _ (tokens text))

  pub read_memory_place : (text : List ℕ) (lent : ℕ) → place_of (read_report s text lent) ≡ (refusal (read_tests s text lent)).n
  read_memory_place text lent =
      joined (λ (r : Report). place_of r) (λ (b : Reply). b.n) refused (reading s text).report (table_tests s lent) _ (λ b. omega arith) (obeyed_place 0 _ (tokens text))

-- no test gives the number 0
numbered_also : (ts more : List Test) → Numbered ts → Numbered more → Numbered (ts ++ more)
numbered_also [] more p q = q
numbered_also (t ∷ ts) more p q = (p.0, numbered_also ts more p.1 q)

text_tests_numbered : (s : Shape) (address : ℕ) (cells : List ℕ) (ts : List Token) → Numbered (text_tests s address cells ts)
unfolding text_tests
text_tests_numbered s address cells [] = (omega arith, tt)
text_tests_numbered s address cells (t ∷ ts) =
    let next = next_address address (saying t) in
    let left = next_cells address cells (saying t) in
    numbered_also (token_tests s address cells (saying t)) (text_tests s next left ts) (omega arith) (text_tests_numbered s next left ts)

pub read_tests_numbered : (s : Shape) (text : List ℕ) (lent : ℕ) → Numbered (read_tests s text lent)
read_tests_numbered s text lent =
    let none = replicate (2 ^ s.k) missing in
    numbered_also (table_tests s lent) (text_tests s 0 none (tokens text)) (omega arith) (text_tests_numbered s 0 none (tokens text))
