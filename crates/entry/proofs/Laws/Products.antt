-- Low and high from the products at an interval's ends. Assumes nothing.
use Prim.Native.Nat.{ℕ, ◌+◌, ◌*◌, ◌^◌, ◌≤◌, ◌<◌, max}
use mathlib.Core.Path.{◌≡◌, ap, ap₂, ◌∙◌}
use native.Mathlib.Omega.{arith}
use lib.IntN.{pos, ◌-ℤ◌, nat_abs}
use Rattle.units.specs.declared.shapes.Shape.{Shape}
use Rattle.entry.specs.Errors.{unit, i_of, low, high, worst, side}
use Rattle.entry.specs.Inner.Good.{GoodEntry}
use Rattle.entry.specs.Inner.Products.{low_of, high_of, side_by_middle}
use Rattle.entry.specs.declared.measure.Products.{Products}
use Rattle.entry.proofs.Laws.Differences.{less_sum, less_by}
use Rattle.entry.proofs.Laws.Good.{unit_bound, product_bound}
use Rattle.entry.proofs.Laws.Sides.{side_by_middle_lem}

module _ {e : Products} (u i j : ℕ) (is : e ≡ record { unit = u; left = i * j; right = (i + 1) * j }) where
  pub products_measure : (low_of e ≡ low u i j) × (high_of e ≡ high u i j)
  unfolding low high
  products_measure = (ap low_of is, ap high_of is)

  -- so the larger size is the worst error's, and their sum tells the entry's side
  pub products_larger : 0 < j → (max (nat_abs (low_of e)) (nat_abs (high_of e)) ≡ worst u i j) × (side_by_middle u (e.left + e.right) ≡ side u i j)
  unfolding worst
  products_larger positive = (
    ap₂ max (ap nat_abs products_measure.0) (ap nat_abs products_measure.1),
    ap (λ (p : Products). side_by_middle u (p.left + p.right)) is ∙ side_by_middle_lem u i j positive,
  )

-- an entry's two products differ, and are not too large
pub products_apart : {s : Shape} {n j : ℕ} {e : Products} → GoodEntry s n j
    → e ≡ record { unit = unit s; left = i_of s n * j; right = (i_of s n + 1) * j }
    → (e.left < e.right) × ((e.right ≤ 2 ^ 32) × (e.unit ≤ 2 ^ 31))
products_apart g is = rw is (omega (arith, g.above_0, product_bound g, unit_bound g.place.widths))

-- The product at the right end is the one at the left end and j more
pub right_from_left : (i j : ℕ) → (i + 1) * j ≡ i * j + j
right_from_left i j = omega arith

-- "so the second shall come by subtraction"
low_from_high : (u i j : ℕ) → low u i j ≡ high u i j -ℤ pos j
unfolding low high
low_from_high u i j = rw right_from_left (less_sum u (i * j) j)

-- "An entry's two errors differ by exactly j"
pub high_less_low : (u i j : ℕ) → high u i j -ℤ low u i j ≡ pos j
high_less_low u i j = rw low_from_high (less_by (high u i j) (pos j))
