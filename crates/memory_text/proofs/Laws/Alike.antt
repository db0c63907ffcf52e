-- Texts with the same words come to the same, but for offsets. Assumes nothing.
use Prim.Native.Nat.{ℕ, ◌^◌}
use mathlib.Core.Bool.{Bool, true, false}
use mathlib.Core.List.{List, [], ◌∷◌, map}
use mathlib.Core.Path.{◌≡◌, refl, ap, subst}
use native.Mathlib.Omega.{arith}
use lib.ListN.{length, drop, get_or, replicate}
use Rattle.units.specs.Refusals.{reply, test, answer}
use Rattle.units.specs.declared.shapes.Shape.{Shape}
use Rattle.memory_tokens.specs.Tokens.{Token, token, tokens}
use Rattle.memory_tokens.specs.Words.{saying}
use Rattle.memory_text.specs.Read.{Reading, missing, next_address, next_cells, stopped, obeyed, reading}
use Rattle.memory_text.specs.Layout.{words}

-- the same number, the same n and the same fields
pub record Alike (a b : Reading) : Type 0 where
  pub number : a.report.number ≡ b.report.number
  pub n : a.report.n ≡ b.report.n
  pub fields : a.fields ≡ b.fields

-- a token that fails the same test at two offsets, or none at both
same_tests : (bad past wide twice : Bool) (o p : ℕ) {x y : Reading} → Alike x y
    → Alike
    (answer stopped x (test bad (reply 8 o) ∷ test past (reply 9 o) ∷ test wide (reply 5 o) ∷ test twice (reply 10 o) ∷ []))
    (answer stopped y (test bad (reply 8 p) ∷ test past (reply 9 p) ∷ test wide (reply 5 p) ∷ test twice (reply 10 p) ∷ []))
unfolding answer
same_tests true past wide twice o p rest = record { number = refl; n = refl; fields = refl }
same_tests false true wide twice o p rest = record { number = refl; n = refl; fields = refl }
same_tests false false true twice o p rest = record { number = refl; n = refl; fields = refl }
same_tests false false false true o p rest = record { number = refl; n = refl; fields = refl }
same_tests false false false false o p rest = rest

words_of : List Token → List (List ℕ)
words_of = map (λ (t : Token). t.word)

obeyed_alike : (s : Shape) (address : ℕ) (cells : List ℕ) (ts us : List Token) → words_of ts ≡ words_of us → Alike (obeyed s address cells ts) (obeyed s address cells us)
unfolding obeyed words_of
obeyed_alike s address cells [] [] e = record { number = refl; n = refl; fields = refl }
obeyed_alike s address cells [] (u ∷ us) e = absurd (omega (arith, ap (λ (l : List (List ℕ)). length l) e))
obeyed_alike s address cells (t ∷ ts) [] e = absurd (omega (arith, ap (λ (l : List (List ℕ)). length l) e))
obeyed_alike s address cells (t ∷ ts) (u ∷ us) e =
    subst (λ (w : List ℕ). Alike (obeyed s address cells (t ∷ ts)) (obeyed s address cells (token u.offset w ∷ us))) (ap (λ (l : List (List ℕ)). get_or l 0 []) e)
    (same_tests _ _ _ _ t.offset u.offset
    (obeyed_alike s (next_address address (saying t)) (next_cells address cells (saying t)) ts us (ap (drop 1) e)))

-- "comments and white space change nothing but offsets"
pub same_words_read_alike : (s : Shape) (text other : List ℕ) → words text ≡ words other → Alike (reading s text) (reading s other)
unfolding words_of
same_words_read_alike s text other = obeyed_alike s 0 (replicate (2 ^ s.k) missing) (tokens text) (tokens other)
