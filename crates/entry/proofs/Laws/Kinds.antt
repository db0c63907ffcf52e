-- Document 02, L5: "For m >= k both kinds build the same table." The nearest whole number is then below 2^(m+1), so no kind's cap cuts it
-- off. Assumes nothing.
use Prim.Native.Nat.{ℕ, ◌+◌, ◌*◌, ◌^◌, ◌≤◌, ◌<◌}
use mathlib.Core.Path.{◌≡◌, sym, ap, ◌∙◌}
use native.Mathlib.Nat.{mul-le-mul_left}
use native.Mathlib.Omega.{arith}
use lib.Pow.{pow_mono}
use Rattle.units.specs.Shapes.{shape}
use Rattle.units.specs.declared.kinds.Kind.{Kind}
use Rattle.units.specs.declared.shapes.Shape.{Shape}
use Rattle.units.proofs.Laws.Order.{by_order}
use Rattle.entry.specs.Errors.{unit, i_of, worst}
use Rattle.entry.specs.Fields.{cap}
use Rattle.entry.specs.Least.{least_worst}
use Rattle.entry.specs.Rule.{nearest, rule, rule_value}
use Rattle.entry.proofs.Laws.Fields.{cap_at_least}
use Rattle.entry.proofs.Laws.Rule.{nearest_not_high}
use Rattle.entry.proofs.Laws.Table.{unit_is, rule_value_reaches_least}

module _ (s : Shape) (wide : s.k ≤ s.m) {n : ℕ} (h : n < 2 ^ s.k) where
  nearest_within_cap : nearest (2 * unit s) (2 * i_of s n + 1) ≤ cap s
  nearest_within_cap =
      by_order (nearest (2 * unit s) (2 * i_of s n + 1)) (cap s)
      (λ l. l)
      (λ l.
      let most : 2 * 2 ^ s.m ≤ nearest (2 * unit s) (2 * i_of s n + 1) = omega (arith, cap_at_least s) in
      absurd (omega (
        arith,
        mul-le-mul_left (2 * i_of s n + 1) most,
        nearest_not_high (2 * unit s) (2 * i_of s n + 1),
        unit_is s,
        pow_mono wide,
      )))

  rule_is_nearest : rule_value s n ≡ nearest (2 * unit s) (2 * i_of s n + 1)
  unfolding rule
  rule_is_nearest = omega (arith, nearest_within_cap)

-- two tables that differ in kind alone
module _ (k m : ℕ) (a b : Kind) (wide : k ≤ m) {n : ℕ} (h : n < 2 ^ k) where
  pub kinds_choose_alike : rule_value (shape k m a) n ≡ rule_value (shape k m b) n
  kinds_choose_alike = rule_is_nearest (shape k m a) wide h ∙ sym (rule_is_nearest (shape k m b) wide h)

  pub kinds_reach_alike : least_worst (shape k m a) n ≡ least_worst (shape k m b) n
  kinds_reach_alike =
      sym (rule_value_reaches_least (shape k m a) h)
      ∙ ap (worst (unit (shape k m a)) (i_of (shape k m a) n)) kinds_choose_alike
      ∙ rule_value_reaches_least (shape k m b) h
