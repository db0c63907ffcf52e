-- The worst error falls with j while (2i+1)·j is well below 2u and rises where it is well above. So a value is beaten by no other
-- iff it is not too high and, unless it is the cap, not too low: one product and no division. MATH.md, 3 and 4. Assumes nothing.
use Prim.Native.Nat.{ℕ, zero, suc, ◌+◌, ◌-◌, ◌*◌, ◌≤◌, ◌<◌}
use mathlib.Core.Path.{ap}
use native.Mathlib.Nat.{le_of_eq, mul-le-mul_left}
use native.Mathlib.Omega.{arith}
use Rattle.units.proofs.Laws.Order.{by_order}
use Rattle.entry.specs.Errors.{worst}
use Rattle.entry.proofs.Laws.Worst.{worst_within, within_worst}

-- no value up to most has a smaller worst error than j
abbrev pub Unbeaten : ℕ → ℕ → ℕ → ℕ → Type 0
Unbeaten u i most j = (x : ℕ) → x ≤ most → worst u i j ≤ worst u i x

-- not too high, and at the cap or not too low
pub record Passes (u i most j : ℕ) : Type 0 where
  pub not_high : (2 * i + 1) * j ≤ 2 * u + i
  pub not_low : j < most → 2 * u ≤ (2 * i + 1) * j + i + 1

module _ (u i : ℕ) where
  beats_below : (j x : ℕ) → (2 * i + 1) * j ≤ 2 * u + i → x < j → worst u i j ≤ worst u i x
  beats_below j x a l =
      let ends = within_worst u i x in
      let step = mul-le-mul_left i l in
      worst_within u i j (worst u i x) (omega (arith, step)) (omega (arith, step))

  beats_above : (j x : ℕ) → 2 * u ≤ (2 * i + 1) * j + i + 1 → j < x → worst u i j ≤ worst u i x
  beats_above j x b l =
      let ends = within_worst u i x in
      let step = mul-le-mul_left i l in
      worst_within u i j (worst u i x) (omega (arith, step)) (omega (arith, step))

  beaten_from_below : (j : ℕ) → 2 * u + i < (2 * i + 1) * suc j → worst u i j < worst u i (suc j)
  beaten_from_below j a =
      let ends = within_worst u i (suc j) in
      omega (arith, worst_within u i j (worst u i (suc j) - 1) (omega arith) (omega arith))

  beaten_from_above : (j : ℕ) → 0 < i → (2 * i + 1) * j + i + 1 < 2 * u → worst u i (suc j) < worst u i j
  beaten_from_above j p b =
      let ends = within_worst u i j in
      omega (arith, worst_within u i (suc j) (worst u i j - 1) (omega arith) (omega arith))

module _ (u i most : ℕ) where
  pub passes_unbeaten : {j : ℕ} → Passes u i most j → Unbeaten u i most j
  passes_unbeaten {j} p x h =
      by_order x j
      (λ (l : x ≤ j).
      by_order j x
      (λ (e : j ≤ x). le_of_eq (ap (worst u i) (omega arith)))
      (λ (e : x < j). beats_below u i j x p.not_high e))
      (λ (l : j < x). beats_above u i j x (p.not_low (omega arith)) l)

  unbeaten_not_high : (j : ℕ) → j ≤ most → Unbeaten u i most j → (2 * i + 1) * j ≤ 2 * u + i
  unbeaten_not_high zero h best = omega arith
  unbeaten_not_high (suc j) h best =
      by_order ((2 * i + 1) * suc j) (2 * u + i)
      (λ l. l)
      (λ l. omega (arith, beaten_from_below u i j l, best j (omega arith)))

  pub unbeaten_passes : {j : ℕ} → 0 < i → j ≤ most → Unbeaten u i most j → Passes u i most j
  unbeaten_passes {j} p h best =
      record {
        not_high = unbeaten_not_high j h best;
        not_low =
            λ (below : j < most).
            by_order (2 * u) ((2 * i + 1) * j + i + 1)
            (λ l. l)
            (λ l. omega (arith, beaten_from_above u i j p l, best (suc j) below));
      }
