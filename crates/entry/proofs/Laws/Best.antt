-- A value is best iff it passes: it is not too high and, unless it is the cap, not too low; and at most two values are. MATH.md, 3 and 4.
-- Assumes nothing.
use Prim.Native.Nat.{ℕ, suc, ◌+◌, ◌*◌, ◌≤◌, ◌<◌}
use mathlib.Core.Path.{◌≡◌}
use native.Mathlib.Nat.{mul-le-mul_left}
use native.Mathlib.Omega.{arith}
use Rattle.units.proofs.Laws.Order.{by_order}
use Rattle.entry.specs.Errors.{worst}
use Rattle.entry.specs.Least.{least}
use Rattle.entry.specs.Rule.{rule}
use Rattle.entry.proofs.Laws.Least.{unbeaten_is_least}
use Rattle.entry.proofs.Laws.Unbeaten.{Passes, passes_unbeaten, unbeaten_passes}
use Rattle.entry.proofs.Laws.Rule.{only_the_rule, rule_passes, rule_reaches_least}

module _ (u i most : ℕ) (positive : 0 < i) where
  -- the values from first on: the least worst error is had by those that pass, and by no other
  module _ (first : ℕ) (within : first * (i + 1) ≤ u) {j : ℕ} (from : first ≤ j) (to : j ≤ most) where
    pub passes_least : Passes u i most j → worst u i j ≡ least u i first most
    passes_least p = unbeaten_is_least u i from to (passes_unbeaten u i most p)

    pub least_passes : worst u i j ≡ least u i first most → Passes u i most j
    least_passes e =
        unbeaten_passes u i most positive to
        (λ x h. omega (arith, rule_reaches_least u i most first within (omega arith), passes_unbeaten u i most (rule_passes u i most) x h))

  -- Document 01: "Two neighbouring values can be equally good": they are the rule's and the one below it
  pub two_best_are_neighbours : {j x : ℕ} → j < x → x ≤ most → Passes u i most j → Passes u i most x
      → (x ≡ rule u i most) × (suc j ≡ x)
  two_best_are_neighbours {j} {x} l h best_j best_x =
      let below : 2 * u ≤ (2 * i + 1) * j + i + 1 = best_j.not_low (omega arith) in
      let step = mul-le-mul_left i l in (
        only_the_rule u i most h best_x.not_high (λ a. omega (arith, step)),
        by_order x (suc j) (λ a. omega arith) (λ a. omega (arith, best_x.not_high, mul-le-mul_left i a)),
      )
