-- The numbers of an answer are those of its report. Assumes nothing.
use mathlib.Core.List.{List}
use mathlib.Core.Path.{◌≡◌, ap, sym, ◌∙◌}
use Prim.Native.Nat.{ℕ}

pub numbers_told : {A R : Type 0} (reported : A → R) (numbers : R → List ℕ) {a b : A} {r : R} → a ≡ b → reported a ≡ r
    → numbers (reported b) ≡ numbers r
numbers_told reported numbers e h = ap numbers (sym (ap reported e) ∙ h)

-- and where the call also says what it leaves, that stays as it is
pub told_with : {A R Leaves : Type 0} (reported : A → R) (numbers : R → List ℕ) {a b : A} {r : R} → a ≡ b → (reported a ≡ r) × Leaves
    → (numbers (reported b) ≡ numbers r) × Leaves
told_with reported numbers e h = (numbers_told reported numbers e h.0, h.1)
