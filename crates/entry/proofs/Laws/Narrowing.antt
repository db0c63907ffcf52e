-- A narrower interval and a finer entry lose nothing. MATH.md, 6. Assumes nothing.
use Prim.Native.Nat.{ℕ, ◌+◌, ◌-◌, ◌*◌, ◌/◌, ◌%◌, ◌^◌, ◌≤◌, ◌<◌}
use mathlib.Core.Path.{◌≡◌, sym, ap, ap₂, subst, subst₂}
use native.Mathlib.Nat.{le_trans, mul-le-mul_right, le_of_mul-le-mul_right, mod-lt}
use native.Mathlib.Omega.{arith}
use lib.Pow.{pow-add, pow_pos, shr_lt, split}
use Rattle.units.specs.Kinds.{MayBeFollowedBy}
use Rattle.units.proofs.Laws.Kinds.{follows_scaled}
use Rattle.units.proofs.Laws.Powers.{power_splits}
use Rattle.units.specs.declared.shapes.Shape.{Shape}
use Rattle.entry.specs.Errors.{unit, i_of, worst}
use Rattle.entry.specs.Fields.{cap}
use Rattle.entry.specs.Least.{least, least_worst}
use Rattle.entry.specs.Inside.{Inside}
use Rattle.entry.proofs.Laws.Fields.{cap_by_kind, smallest_within_cap}
use Rattle.entry.proofs.Laws.Worst.{worst_within, within_worst}
use Rattle.entry.proofs.Laws.Least.{least_below, least_reached}
use Rattle.entry.proofs.Laws.Table.{unit_is}

-- intervals p times as fine, entries q times as fine: interval x of the finer ones lies within interval i
module _ (u i x p q : ℕ) (left : i * p ≤ x) (right : x + 1 ≤ (i + 1) * p) where
  pub narrower_interval_no_worse : (j : ℕ) → worst (u * (p * q)) x (j * q) ≤ p * q * worst u i j
  narrower_interval_no_worse j =
      let ends = within_worst u i j in
      worst_within (u * (p * q)) x (j * q) (p * q * worst u i j)
      (omega (arith, mul-le-mul_right (p * q) ends.0, mul-le-mul_right (j * q) left))
      (omega (arith, mul-le-mul_right (p * q) ends.1, mul-le-mul_right (j * q) right))

  pub narrower_least_no_worse : {first last : ℕ} (last_x : ℕ) → first ≤ last → last * q ≤ last_x
      → least (u * (p * q)) x (first * q) last_x ≤ p * q * least u i first last
  narrower_least_no_worse {first} {last} last_x h fits =
      let r = least_reached u i h in
      rw (← r.is)
      (le_trans
      (least_below (u * (p * q)) x (mul-le-mul_right q r.from) (le_trans (mul-le-mul_right q r.to) fits))
      (narrower_interval_no_worse r.j))

-- two tables, the first of a kind that may be followed by the second's, and the second with neither width smaller
module _ (s t : Shape) (follows : MayBeFollowedBy s.kind t.kind) (wider : s.k ≤ t.k) (finer : s.m ≤ t.m) where
  unit_scales : unit t ≡ unit s * (2 ^ (t.k - s.k) * 2 ^ (t.m - s.m))
  unit_scales =
      rw (unit_is s) (omega (arith, unit_is t, ap₂ (λ (x y : ℕ). x * y) (power_splits wider) (power_splits finer)))

  cap_scales : cap s * 2 ^ (t.m - s.m) ≤ cap t
  cap_scales =
      follows_scaled follows (cap s) (cap t) (2 ^ (s.m + 1)) (2 ^ (t.m - s.m)) (pow_pos (t.m - s.m)) (cap_by_kind s)
      (omega (arith, cap_by_kind t, ap (λ (x : ℕ). x * 2 ^ (t.m - s.m)) (pow-add 2 s.m 1), pow-add 2 t.m 1, power_splits finer))

  -- Demand 3: "its best entry's worst error, as an exact fraction, is no larger than that of the best entry of the first table
  -- whose interval contains it"
  pub nothing_loosens : {n y : ℕ} → Inside s n t y → least_worst t y * unit s ≤ least_worst s n * unit t
  nothing_loosens {n} {y} inside =
      let split = power_splits wider in
      let left : i_of s n * 2 ^ (t.k - s.k) ≤ i_of t y =
      le_of_mul-le-mul_right (omega (arith, inside.left, ap (λ (x : ℕ). i_of s n * x) split)) (pow_pos s.k) in
      let right : i_of t y + 1 ≤ (i_of s n + 1) * 2 ^ (t.k - s.k) =
      le_of_mul-le-mul_right (omega (arith, inside.right, ap (λ (x : ℕ). (i_of s n + 1) * x) split)) (pow_pos s.k) in
      let law : least_worst t y ≤ 2 ^ (t.k - s.k) * 2 ^ (t.m - s.m) * least_worst s n =
      subst₂ (λ (u first : ℕ). least u (i_of t y) first (cap t) ≤ 2 ^ (t.k - s.k) * 2 ^ (t.m - s.m) * least_worst s n)
      (sym unit_scales)
      (sym (power_splits finer))
      (narrower_least_no_worse (unit s) (i_of s n) (i_of t y) (2 ^ (t.k - s.k)) (2 ^ (t.m - s.m)) left right (cap t) (smallest_within_cap s) cap_scales) in
      omega (arith, mul-le-mul_right (unit s) law, ap (λ (x : ℕ). least_worst s n * x) unit_scales)

-- Demand 3: every interval of the second table lies within one of the first
pub record Containing (s t : Shape) (y : ℕ) : Type 0 where
  pub n : ℕ
  pub in_table : n < 2 ^ s.k
  pub contains : Inside s n t y

pub every_interval_contained : (s t : Shape) (y : ℕ) → s.k ≤ t.k → y < 2 ^ t.k → Containing s t y
every_interval_contained s t y wider h =
    let n : ℕ = y / 2 ^ (t.k - s.k) in
    let sum : t.k ≡ s.k + (t.k - s.k) = omega arith in
    let parts : n * 2 ^ (t.k - s.k) + y % 2 ^ (t.k - s.k) ≡ y = split y (t.k - s.k) in
    let rest : y % 2 ^ (t.k - s.k) < 2 ^ (t.k - s.k) = mod-lt y (pow_pos (t.k - s.k)) in
    let from : n * 2 ^ (t.k - s.k) ≤ y = omega arith in
    let to : y + 1 ≤ (n + 1) * 2 ^ (t.k - s.k) = omega arith in
    record {
      n = n;
      in_table = shr_lt s.k (t.k - s.k) (subst (λ (x : ℕ). y < 2 ^ x) sum h);
      contains =
          record {
            left = omega (arith, ap (λ (x : ℕ). i_of s n * x) (power_splits wider), ap (λ (x : ℕ). x * 2 ^ s.k) (power_splits wider), mul-le-mul_right (2 ^ s.k) from);
            right = omega (arith, ap (λ (x : ℕ). (i_of s n + 1) * x) (power_splits wider), ap (λ (x : ℕ). x * 2 ^ s.k) (power_splits wider), mul-le-mul_right (2 ^ s.k) to);
          };
    }
