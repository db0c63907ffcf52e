-- The laws at a table's own numbers: u is 2^P, i is 2^k + n, and the values run from 2^m to the cap. Assumes nothing.
use Prim.Native.Nat.{ℕ, suc, ◌+◌, ◌*◌, ◌^◌, ◌≤◌, ◌<◌}
use mathlib.Core.Bool.{true, false}
use mathlib.Core.Path.{◌≡◌, ap, ◌∙◌}
use native.Mathlib.Nat.{mul-le-mul_left, le_trans, le_of_lt}
use native.Mathlib.Omega.{arith}
use borrow.Author.Tests.{eq-eqb, eqb-true}
use lib.Pow.{pow-add, pow_pos}
use Rattle.units.specs.declared.shapes.Shape.{Shape}
use Rattle.entry.specs.Errors.{unit, i_of, j_of, worst}
use Rattle.entry.specs.Fields.{cap, is_wide}
use Rattle.entry.specs.Least.{least_worst, is_best}
use Rattle.entry.specs.Rule.{rule_value, rule_field}
use Rattle.entry.proofs.Laws.Fields.{smallest_within_cap, range_is_field}
use Rattle.entry.proofs.Laws.Unbeaten.{Passes}
use Rattle.entry.proofs.Laws.Rule.{rule_at_most, rule_at_least, rule_reaches_least}
use Rattle.entry.proofs.Laws.Best.{passes_least, least_passes, two_best_are_neighbours}

pub unit_is : (s : Shape) → unit s ≡ 2 * (2 ^ s.k * 2 ^ s.m)
unit_is s = omega (arith, pow-add 2 (s.k + s.m) 1, pow-add 2 s.k s.m)

-- 2^k steps of an interval's left end, times 2^(m+1) steps of an entry
pub unit_splits : (s : Shape) → unit s ≡ 2 ^ s.k * 2 ^ (s.m + 1)
unit_splits s = omega (arith, unit_is s, ap (λ (x : ℕ). 2 ^ s.k * x) (pow-add 2 s.m 1))

pub left_end_positive : (s : Shape) (n : ℕ) → 0 < i_of s n
left_end_positive s n = omega (arith, pow_pos s.k)

module _ (s : Shape) {n : ℕ} (h : n < 2 ^ s.k) where
  -- the smallest value is not too large at the right end of any interval
  pub smallest_within : 2 ^ s.m * (i_of s n + 1) ≤ unit s
  smallest_within = omega (arith, unit_is s, mul-le-mul_left (2 ^ s.m) h)

  pub rule_in_range : (2 ^ s.m ≤ rule_value s n) × (rule_value s n ≤ cap s)
  rule_in_range = (
    rule_at_least (unit s) (i_of s n) (cap s) (2 ^ s.m) smallest_within (smallest_within_cap s),
    rule_at_most (unit s) (i_of s n) (cap s),
  )

  -- the rule's field stands for the rule's value, and is a field
  pub rule_field_is : j_of s (rule_field s n) ≡ rule_value s n
  rule_field_is = omega (arith, rule_in_range.0)

  pub rule_field_narrow : is_wide s (rule_field s n) ≡ false
  rule_field_narrow = range_is_field s (rule_field s n) (omega (arith, rule_in_range))

  -- Demand 2: "every entry built has the least worst relative error of all m-bit entries"
  pub rule_value_reaches_least : worst (unit s) (i_of s n) (rule_value s n) ≡ least_worst s n
  rule_value_reaches_least =
      rule_reaches_least (unit s) (i_of s n) (cap s) (2 ^ s.m) smallest_within (smallest_within_cap s)

  pub rule_field_reaches_least : worst (unit s) (i_of s n) (j_of s (rule_field s n)) ≡ least_worst s n
  rule_field_reaches_least = ap (worst (unit s) (i_of s n)) rule_field_is ∙ rule_value_reaches_least

  -- the least worst error is had by the values that pass, and by no other
  module _ {j : ℕ} (from : 2 ^ s.m ≤ j) (to : j ≤ cap s) where
    pub passes_best : Passes (unit s) (i_of s n) (cap s) j → is_best s n j ≡ true
    passes_best p = eq-eqb _ _ (passes_least (unit s) (i_of s n) (cap s) (left_end_positive s n) (2 ^ s.m) smallest_within from to p)

    pub best_passes : is_best s n j ≡ true → Passes (unit s) (i_of s n) (cap s) j
    best_passes e = least_passes (unit s) (i_of s n) (cap s) (left_end_positive s n) (2 ^ s.m) smallest_within from to (eqb-true _ _ e)

  -- Document 01: "Two neighbouring values can be equally good": they are the rule's and the one below it
  pub two_best : {j x : ℕ} → 2 ^ s.m ≤ j → j < x → x ≤ cap s → is_best s n j ≡ true → is_best s n x ≡ true
      → (x ≡ rule_value s n) × (suc j ≡ x)
  two_best {j} {x} from l to best_j best_x =
      two_best_are_neighbours (unit s) (i_of s n) (cap s) (left_end_positive s n) l to
      (best_passes from (le_trans (le_of_lt l) to) best_j)
      (best_passes (le_trans from (le_of_lt l)) to best_x)
