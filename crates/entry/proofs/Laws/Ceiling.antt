-- How large the worst error of the rule's value can be. MATH.md, 5, with its two cases in one: a and b are any two numbers with
-- i between them, and u is their product. Assumes nothing.
use Prim.Native.Nat.{ℕ, ◌+◌, ◌-◌, ◌*◌, ◌^◌, ◌≤◌, ◌<◌}
use mathlib.Core.Path.{◌≡◌, subst}
use native.Mathlib.Nat.{mul-le-mul_left, mul-le-mul_right}
use native.Mathlib.Omega.{arith}
use borrow.Author.Tests.{le-leb, lt-leb}
use lib.Pow.{pow_mono}
use Rattle.units.proofs.Laws.Order.{by_order}
use Rattle.units.proofs.Laws.Powers.{power_splits}
use Rattle.units.specs.declared.shapes.Shape.{Shape}
use Rattle.entry.specs.Errors.{unit, i_of, worst}
use Rattle.entry.specs.Fields.{cap}
use Rattle.entry.specs.Least.{least_worst}
use Rattle.entry.specs.Rule.{rule}
use Rattle.entry.specs.Ceiling.{ceiling}
use Rattle.entry.proofs.Laws.Fields.{cap_at_least}
use Rattle.entry.proofs.Laws.Worst.{dist, worst_doubled}
use Rattle.entry.proofs.Laws.Rule.{rule_not_high, rule_not_low}
use Rattle.entry.proofs.Laws.Table.{unit_is, rule_value_reaches_least}

-- (i - a)·(b - i) is not below zero
between : (a i b : ℕ) → a ≤ i → i ≤ b → i * i + a * b ≤ i * b + a * i
between a i b above below =
    let e : b ≡ i + (b - i) = omega arith in
    rw e (omega (arith, mul-le-mul_right (b - i) above))

module _ (a b i most : ℕ) (above : a ≤ i) (below : i ≤ b) where
  -- the rule's value is no further above b than i is below a: (2i+1)·(a+b-i+1) - 2ab - i is 2(i-a)(b-i) + a + b + 1
  sum_within : i + rule (a * b) i most ≤ a + b
  sum_within =
      by_order (i + rule (a * b) i most) (a + b)
      (λ h. h)
      (λ h. omega (arith, mul-le-mul_left i h, between a i b above below, rule_not_high (a * b) i most))

  -- the error is at most half of that sum, unless the cap is too low: then it is what the cap leaves at the left end
  pub rule_within_ceiling : (left : ℕ) → a * b ≤ i * most + left → 2 * left ≤ a + b → 2 * worst (a * b) i (rule (a * b) i most) ≤ a + b
  unfolding dist
  rule_within_ceiling left h l =
      rw worst_doubled
      (by_order most (rule (a * b) i most)
      (λ g. omega (arith, sum_within, rule_not_high (a * b) i most, mul-le-mul_left i g))
      (λ g. omega (arith, sum_within, rule_not_high (a * b) i most, rule_not_low (a * b) i most g)))

module _ (s : Shape) {n : ℕ} (h : n < 2 ^ s.k) where
  -- twice the ceiling, for any two factors of the unit with i between them
  least_within : (a b : ℕ) → a * b ≡ unit s → a ≤ i_of s n → i_of s n ≤ b → 2 * 2 ^ s.k ≤ a + b → 2 * least_worst s n ≤ a + b
  least_within a b e above below l =
      let first : 2 ^ s.k ≤ i_of s n = omega arith in
      rw (← (rule_value_reaches_least s h))
      (subst (λ (u : ℕ). 2 * worst u (i_of s n) (rule u (i_of s n) (cap s)) ≤ a + b) e
      (rule_within_ceiling a b (i_of s n) (cap s) above below (2 ^ s.k)
      (omega (
        arith,
        e,
        unit_is s,
        mul-le-mul_left (2 ^ s.k) (cap_at_least s),
        mul-le-mul_right (cap s) first,
      ))
      l))

  -- Document 01, "Ceilings"; the first is the order's, demand 3
  pub least_within_ceiling : 1 ≤ s.k → 1 ≤ s.m → least_worst s n ≤ ceiling s
  unfolding ceiling
  least_within_ceiling k_positive m_positive =
      by_order s.k s.m
      (λ (l : s.k ≤ s.m).
      simp (le-leb s.k s.m l)
      (omega (
        arith,
        power_splits k_positive,
        least_within (2 ^ s.k) (2 * 2 ^ s.m) (omega (arith, unit_is s)) (omega arith) (omega (arith, pow_mono l)) (omega (arith, pow_mono l)),
      )))
      (λ (l : s.m < s.k).
      simp (lt-leb s.k s.m l)
      (omega (
        arith,
        power_splits m_positive,
        least_within (2 ^ s.m) (2 * 2 ^ s.k) (omega (arith, unit_is s)) (omega (arith, pow_mono l)) (omega arith) (omega arith),
      )))
