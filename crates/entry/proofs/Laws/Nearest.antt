-- The nearest whole number is the nearest: it is off by at most a half, and every other whole number is off by at least a half,
-- since it is at least one away from this one. Assumes nothing.
use Prim.Native.Nat.{ℕ, ◌*◌, ◌≤◌, ◌<◌}
use mathlib.Core.Path.{ap}
use native.Mathlib.Nat.{le_of_eq, mul-le-mul_left}
use native.Mathlib.Omega.{arith}
use Rattle.units.proofs.Laws.Order.{by_order}
use Rattle.entry.specs.Rule.{nearest}
use Rattle.entry.proofs.Laws.Worst.{dist}
use Rattle.entry.proofs.Laws.Rule.{nearest_not_low, nearest_not_high}

-- no whole number x is nearer to a/b: |a/b - nearest| <= |a/b - x|, in parts of b
pub nearest_is_nearest : (a b x : ℕ) → 0 < b → dist a (b * nearest a b) ≤ dist a (b * x)
unfolding dist
nearest_is_nearest a b x b_pos =
    by_order x (nearest a b)
    (λ (l : x ≤ nearest a b).
    by_order (nearest a b) x
    (λ (g : nearest a b ≤ x). le_of_eq (ap (λ (y : ℕ). dist a (b * y)) (omega arith)))
    (λ (g : x < nearest a b). omega (arith, nearest_not_high a b, mul-le-mul_left b g)))
    (λ (l : nearest a b < x). omega (arith, nearest_not_low a b b_pos, mul-le-mul_left b l))
