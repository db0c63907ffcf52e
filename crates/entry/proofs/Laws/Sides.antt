-- Which of an entry's two errors is larger in size. MATH.md, 2. Assumes nothing.
use Prim.Native.Nat.{ℕ, suc, ◌+◌, ◌-◌, ◌*◌, ◌^◌, ◌≤◌, ◌<◌, max}
use mathlib.Core.Path.{◌≡◌, sym}
use native.Mathlib.Nat.{mul-zero}
use native.Mathlib.Omega.{arith}
use borrow.Author.Tests.{lt-ltb, le-ltb}
use lib.IntN.{pos, ◌-ℤ◌, nat_abs, +ℤ_idr}
use lib.Pow.{pow_pos}
use Rattle.units.specs.declared.shapes.Shape.{Shape}
use Rattle.units.proofs.Laws.Order.{by_order}
use Rattle.units.proofs.Laws.Powers.{odd_divides_no_power}
use Rattle.entry.specs.Errors.{unit, i_of, j_of, high, low, side_by_sizes, side}
use Rattle.entry.specs.Inner.Products.{side_by_middle}
use Rattle.entry.proofs.Laws.Worst.{dist, size_of_difference}

-- The sizes of u - b and u - a, where a is below b: their middle says which is larger
module _ (u a b : ℕ) (h : a < b) where
  pub left_larger : a + b < 2 * u
      → (max (nat_abs (pos u -ℤ pos b)) (nat_abs (pos u -ℤ pos a)) ≡ u - a)
      × (side_by_sizes (nat_abs (pos u -ℤ pos b)) (nat_abs (pos u -ℤ pos a)) ≡ 0)
  unfolding dist
  left_larger m = (simp size_of_difference (omega arith), simp (size_of_difference, lt-ltb (dist u b) (dist u a) (omega arith)))

  pub right_larger : 2 * u ≤ a + b
      → (max (nat_abs (pos u -ℤ pos b)) (nat_abs (pos u -ℤ pos a)) ≡ b - u)
      × (side_by_sizes (nat_abs (pos u -ℤ pos b)) (nat_abs (pos u -ℤ pos a)) ≡ 1)
  unfolding dist
  right_larger m = (simp size_of_difference (omega arith), simp (size_of_difference, le-ltb (dist u b) (dist u a) (omega arith)))

  -- so they are equal only where it is u
  pub middle_between : nat_abs (pos u -ℤ pos b) ≡ nat_abs (pos u -ℤ pos a) → a + b ≡ 2 * u
  unfolding dist
  middle_between e = omega (arith, rw (size_of_difference u b, size_of_difference u a) at e)

-- At an interval's ends the middle is half of (2i+1)·j
module _ (u i j : ℕ) (positive : 0 < j) where
  pub side_left : (2 * i + 1) * j < 2 * u → side u i j ≡ 0
  unfolding side low high
  side_left m = (left_larger u (i * j) ((i + 1) * j) (omega arith) (omega arith)).1

  pub side_right : 2 * u ≤ (2 * i + 1) * j → side u i j ≡ 1
  unfolding side low high
  side_right m = (right_larger u (i * j) ((i + 1) * j) (omega arith) (omega arith)).1

  -- so the sum of the products at both ends tells the side
  pub side_by_middle_lem : side_by_middle u (i * j + (i + 1) * j) ≡ side u i j
  side_by_middle_lem =
      by_order (2 * u) (i * j + (i + 1) * j)
      (λ h. rw (le-ltb (i * j + (i + 1) * j) (2 * u) h) (sym (side_right (omega arith))))
      (λ h. rw (lt-ltb (i * j + (i + 1) * j) (2 * u) h) (sym (side_left (omega arith))))

  pub equal_ends : nat_abs (low u i j) ≡ nat_abs (high u i j) → (2 * i + 1) * j ≡ 2 * u
  unfolding low high
  equal_ends e = omega (arith, middle_between u (i * j) ((i + 1) * j) (omega arith) e)

-- where j is 0 each error is u
pub ends_of_zero : (u i : ℕ) → (low u i 0 ≡ pos u) × (high u i 0 ≡ pos u)
unfolding low high
ends_of_zero u i = (rw (mul-zero (i + 1)) (+ℤ_idr (pos u)), rw (mul-zero i) (+ℤ_idr (pos u)))

-- "2i+1 is odd and above 1, so it can't divide a power of two; .. an entry's two errors never have equal size"
pub ends_never_equal : (p i j : ℕ) → 0 < i → 0 < j → nat_abs (low (2 ^ p) i j) ≡ nat_abs (high (2 ^ p) i j) → ⊥
ends_never_equal p i j above_0 positive e = odd_divides_no_power i (suc p) j above_0 (omega (arith, equal_ends (2 ^ p) i j positive e))

-- Document 01's side of two sizes, 0 or 1: equal ones have none
pub data IsSide (low_size high_size : ℕ) : ℕ → Type 0 where
  left : low_size < high_size → IsSide low_size high_size 0
  right : high_size < low_size → IsSide low_size high_size 1

larger_of_two : (low_size high_size : ℕ) → (low_size ≡ high_size → ⊥) → IsSide low_size high_size (side_by_sizes low_size high_size)
larger_of_two low_size high_size differ =
    by_order high_size low_size
    (λ (h : high_size ≤ low_size). rw (le-ltb low_size high_size h) (right (omega (arith, differ))))
    (λ (h : low_size < high_size). rw (lt-ltb low_size high_size h) (left h))

-- So every entry has a side, in tables of any widths and whatever the field
pub side_is_larger : (s : Shape) (n f : ℕ)
    → IsSide (nat_abs (low (unit s) (i_of s n) (j_of s f))) (nat_abs (high (unit s) (i_of s n) (j_of s f))) (side (unit s) (i_of s n) (j_of s f))
unfolding side
side_is_larger s n f =
    larger_of_two _ _ (ends_never_equal (s.k + s.m + 1) (i_of s n) (j_of s f) (omega (arith, pow_pos s.k)) (omega (arith, pow_pos s.m)))
