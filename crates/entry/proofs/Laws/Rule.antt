-- The rule's value is in range and reaches the least worst error, for any cap. MATH.md, 3. Assumes nothing.
use Prim.Native.Nat.{ℕ, ◌+◌, ◌*◌, ◌/◌, ◌≤◌, ◌<◌}
use mathlib.Core.Path.{◌≡◌, ap, sym, ◌∙◌}
use native.Mathlib.Nat.{div-add-mod, div-div-eq-div-mul, mod-lt, mul-le-mul_left, min-le_left, le-div_iff_mul-le}
use native.Mathlib.Omega.{arith}
use Rattle.units.proofs.Laws.Order.{by_order}
use Rattle.entry.specs.Errors.{worst}
use Rattle.entry.specs.Least.{least}
use Rattle.entry.specs.Rule.{nearest, rule}
use Rattle.entry.proofs.Laws.Least.{unbeaten_is_least}
use Rattle.entry.proofs.Laws.Unbeaten.{Passes, passes_unbeaten}

-- the nearest whole number is off by at most a half: from below
pub nearest_not_low : (a b : ℕ) → 0 < b → 2 * a < 2 * (b * nearest a b) + b
unfolding nearest
nearest_not_low a b p = omega (arith, div-add-mod (2 * a + b) (2 * b), mod-lt (2 * a + b) {m = 2 * b} (omega arith))

-- and from above
pub nearest_not_high : (a b : ℕ) → 2 * (b * nearest a b) ≤ 2 * a + b
unfolding nearest
nearest_not_high a b = omega (arith, div-add-mod (2 * a + b) (2 * b))

-- the half that is added drops out where the divisor is odd: one division
pub nearest_to_odd : (a i : ℕ) → nearest a (2 * i + 1) ≡ (a + i) / (2 * i + 1)
unfolding nearest
nearest_to_odd a i =
    sym (div-div-eq-div-mul (2 * a + (2 * i + 1)) 2 (2 * i + 1)) ∙ ap (λ (x : ℕ). x / (2 * i + 1)) (omega arith)

nearest_at_least : (u i j : ℕ) → j * (i + 1) ≤ u → j ≤ nearest (2 * u) (2 * i + 1)
unfolding nearest
nearest_at_least u i j h = (le-div_iff_mul-le {k = 2 * (2 * i + 1)} (omega arith)).1 (omega arith)

module _ (u i most : ℕ) where
  pub rule_at_most : rule u i most ≤ most
  unfolding rule
  rule_at_most = omega arith

  -- a value that is not too large at the right end is not above the rule's
  pub rule_at_least : (first : ℕ) → first * (i + 1) ≤ u → first ≤ most → first ≤ rule u i most
  unfolding rule
  rule_at_least first h l = omega (arith, nearest_at_least u i first h)

  pub rule_not_high : (2 * i + 1) * rule u i most ≤ 2 * u + i
  unfolding rule
  rule_not_high =
      omega (arith, nearest_not_high (2 * u) (2 * i + 1), mul-le-mul_left (2 * i + 1) (min-le_left (nearest (2 * u) (2 * i + 1)) most))

  pub rule_not_low : rule u i most < most → 2 * u ≤ (2 * i + 1) * rule u i most + i
  unfolding rule
  rule_not_low h =
      let e : rule u i most ≡ nearest (2 * u) (2 * i + 1) = omega arith in
      rw e (omega (arith, nearest_not_low (2 * u) (2 * i + 1) (omega arith)))

  -- and no other value is both
  never_two : {x y : ℕ} → x < y → (2 * i + 1) * y ≤ 2 * u + i → 2 * u ≤ (2 * i + 1) * x + i → ⊥
  never_two l a b = omega (arith, mul-le-mul_left i l)

  pub only_the_rule : {x : ℕ} → x ≤ most → (2 * i + 1) * x ≤ 2 * u + i → (x < most → 2 * u ≤ (2 * i + 1) * x + i) → x ≡ rule u i most
  only_the_rule {x} h a b =
      by_order x (rule u i most)
      (λ l.
      by_order (rule u i most) x
      (λ g. omega arith)
      (λ g. absurd (never_two g rule_not_high (b (omega (arith, rule_at_most))))))
      (λ l. absurd (never_two l a (rule_not_low (omega arith))))

  pub rule_passes : Passes u i most (rule u i most)
  rule_passes = record { not_high = rule_not_high; not_low = λ h. omega (arith, rule_not_low h) }

  -- Document 01: "that the rule reaches it is to be proved"
  pub rule_reaches_least : (first : ℕ) → first * (i + 1) ≤ u → first ≤ most → worst u i (rule u i most) ≡ least u i first most
  rule_reaches_least first h l =
      unbeaten_is_least u i (rule_at_least first h l) rule_at_most (passes_unbeaten u i most rule_passes)
