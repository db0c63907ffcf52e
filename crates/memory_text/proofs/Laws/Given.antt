-- Cells that were given, and cells that are missing. Assumes nothing.
use Prim.Native.Nat.{ℕ, zero, suc, ◌+◌, ◌≤◌, ◌<◌}
use mathlib.Core.Bool.{Bool, true, false, ◌||◌, cond}
use mathlib.Core.List.{List, [], ◌∷◌}
use mathlib.Core.Path.{◌≡◌, refl, sym, ◌∙◌}
use native.Mathlib.Omega.{arith}
use borrow.Author.Tests.{lt-ltb, le-ltb, ne_eqb, leb-false}
use lib.Dec.{ltb}
use lib.ListN.{length, get_or, set, replicate}
use lib.Pow.{pow_mono}
use Rattle.units.specs.Inner.Good.{GoodWidths}
use Rattle.units.specs.declared.shapes.Shape.{Shape}
use Rattle.entry.specs.Fields.{fields_end, is_wide}
use Rattle.entry.proofs.Laws.Fields.{fields_end_within}
use Rattle.units.proofs.Laws.Order.{by_order}
use Rattle.table.specs.First.{any_of}
use Rattle.memory_text.specs.Read.{missing, is_missing, any_missing}
use Rattle.memory_text.specs.Inner.Steps.{count_given}

pub is_missing_lem : (v : ℕ) → v ≡ missing → is_missing v ≡ true
unfolding is_missing
is_missing_lem v is = rw is

pub is_given : (v : ℕ) → (v ≡ missing → ⊥) → is_missing v ≡ false
unfolding is_missing
is_given v other = ne_eqb v missing other

-- no field stands for a missing cell
pub field_given : (s : Shape) → GoodWidths s → (v : ℕ) → is_wide s v ≡ false → is_missing v ≡ false
unfolding is_wide
field_given s g v narrow =
    is_given v (λ e. omega (arith, leb-false (fields_end s) v narrow, fields_end_within s, pow_mono g.narrow_out, e))

-- none is given at the start, and one more with each that was missing
pub count_none : (n : ℕ) → count_given (replicate n missing) ≡ 0
unfolding count_given
count_none zero = refl
count_none (suc n) = rw (is_missing_lem missing refl, count_none n)

pub count_set : (cells : List ℕ) (n v : ℕ) → n < length cells → is_missing (get_or cells n 0) ≡ true → is_missing v ≡ false
    → count_given (set cells n v) ≡ suc (count_given cells)
unfolding count_given
count_set [] n v h was is = absurd (omega arith)
count_set (c ∷ cs) zero v h was is = rw (was, is) (omega arith)
count_set (c ∷ cs) (suc n) v h was is = rw (count_set cs n v (omega arith) was is) (omega arith)

-- a cell is missing where fewer are given than there are
one_at_most : (b : Bool) → cond b 0 1 ≤ 1
one_at_most true = omega arith
one_at_most false = omega arith

pub count_within : (cells : List ℕ) → count_given cells ≤ length cells
unfolding count_given
count_within [] = omega arith
count_within (c ∷ cs) = omega (arith, one_at_most (is_missing c), count_within cs)

pub missing_by_count : (cells : List ℕ) → any_missing cells ≡ ltb (count_given cells) (length cells)
unfolding count_given any_of
missing_by_count [] = refl
missing_by_count (c ∷ cs) = by_cell (is_missing c) (count_given cs) (length cs) (count_within cs) (missing_by_count cs)
  where
    by_cell : (b : Bool) (x y : ℕ) → x ≤ y → {rest : Bool} → rest ≡ ltb x y → (b || rest) ≡ ltb (cond b 0 1 + x) (suc y)
    by_cell true x y h e = sym (lt-ltb (0 + x) (suc y) (omega arith))
    by_cell false x y h e =
        e ∙ by_order y x (λ l. le-ltb x y l ∙ sym (le-ltb (1 + x) (suc y) (omega arith))) (λ l. lt-ltb x y l ∙ sym (lt-ltb (1 + x) (suc y) (omega arith)))
