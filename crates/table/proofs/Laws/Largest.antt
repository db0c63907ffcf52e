-- A field is over-wide where the largest is. Assumes nothing.
use Prim.Native.Nat.{ℕ, ◌+◌, ◌≤◌, ◌<◌, max}
use mathlib.Core.Bool.{◌||◌}
use mathlib.Core.List.{List, [], ◌∷◌}
use mathlib.Core.Path.{◌≡◌, sym}
use native.Mathlib.Numerals.{add-one}
use native.Mathlib.Omega.{arith}
use borrow.Author.Tests.{lt-leb, le-leb}
use lib.Dec.{leb}
use lib.ListN.{length, drop, get_or, drop_of_length-le}
use lib.Seq.{drop-cons}
use Rattle.units.specs.declared.shapes.Shape.{Shape}
use Rattle.units.proofs.Laws.Order.{by_order}
use Rattle.entry.specs.Fields.{fields_end, is_wide}
use Rattle.entry.proofs.Laws.Fields.{fields_end_positive}
use Rattle.table.specs.First.{any_of}
use Rattle.table.specs.Wide.{any_wide}
use Rattle.table.specs.Inner.Largest.{largest_of}

-- the largest field, one after the other
pub largest_past : (cells : List ℕ) (at : ℕ) → length cells ≤ at → largest_of (drop at cells) ≡ 0
unfolding largest_of
largest_past cells at h = rw (drop_of_length-le cells h)

pub largest_after : (cells : List ℕ) (at : ℕ) → at < length cells
    → largest_of (drop at cells) ≡ max (get_or cells at 0) (largest_of (drop (at + 1) cells))
unfolding largest_of
largest_after cells at h = rw (add-one at, drop-cons cells at 0)

pub wide_by_largest : (s : Shape) (fs : List ℕ) → any_wide s fs ≡ is_wide s (largest_of fs)
unfolding any_of largest_of is_wide
wide_by_largest s [] = sym (lt-leb (fields_end s) 0 (fields_end_positive s))
wide_by_largest s (f ∷ fs) = rw (wide_by_largest s fs) (either (fields_end s) f (largest_of fs))
  where
    either : (p x y : ℕ) → (leb p x || leb p y) ≡ leb p (max x y)
    either p x y =
        by_order p x (λ h. rw (le-leb p x h, le-leb p (max x y) (omega arith)))
        (λ h. by_order p y
        (λ l. rw (lt-leb p x h, le-leb p y l, le-leb p (max x y) (omega arith)))
        (λ l. rw (lt-leb p x h, lt-leb p y l, lt-leb p (max x y) (omega arith))))
