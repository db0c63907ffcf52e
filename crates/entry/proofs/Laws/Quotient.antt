-- The quotient that stands at an interval is the builder's field, and it moves on by sums alone. Assumes nothing.
use Prim.Native.Nat.{ℕ, suc, ◌+◌, ◌-◌, ◌*◌, ◌/◌, ◌^◌, ◌≤◌, ◌<◌, min}
use mathlib.Core.Bool.{true, false, ◌||◌}
use mathlib.Core.Path.{◌≡◌, ap, sym, ◌∙◌}
use native.Mathlib.Nat.{add-mul-div_right, mul-le-mul_left}
use native.Mathlib.Omega.{arith}
use borrow.Author.Tests.{leb-true, ltb-true, le-leb, lt-ltb, eq-eqb, ne_eqb}
use lib.Dec.{leb, ltb, eqb}
use lib.Pow.{pow-add, pow_pos, pow_mono}
use Rattle.units.specs.declared.shapes.Shape.{Shape}
use Rattle.units.proofs.Laws.Order.{by_order}
use Rattle.units.proofs.Laws.Truth.{same_truth, both_true, second_true}
use Rattle.entry.specs.Errors.{unit, i_of, j_of}
use Rattle.entry.specs.Fields.{fields_end, cap, is_wide}
use Rattle.entry.specs.Least.{is_best}
use Rattle.entry.specs.Rule.{nearest, rule, rule_field}
use Rattle.entry.specs.Inner.Good.{GoodPlace}
use Rattle.entry.specs.Inner.Quotient.{by_at, over_at, Before, slack, meets}
use Rattle.entry.specs.declared.quotients.Quotient.{Quotient}
use Rattle.entry.proofs.Laws.Fields.{cap_is, fields_end_positive, field_in_range}
use Rattle.entry.proofs.Laws.Good.{interval_bound, unit_bound}
use Rattle.entry.proofs.Laws.Rule.{nearest_to_odd}
use Rattle.entry.proofs.Laws.Table.{unit_is, smallest_within, passes_best, best_passes}

-- what the division multiplied back says, fact by fact
module _ (over by slack end f : ℕ) where
  meets_says : meets over by slack end f ≡ true → (by * f ≤ over) × (f + 1 < end → over < by * f + by + slack)
  meets_says e =
      let both = both_true (leb (by * f) over) (eqb (f + 1) end || ltb over (by * f + by + slack)) e in (
        leb-true (by * f) over both.0,
        λ h. ltb-true over (by * f + by + slack) (second_true (eqb (f + 1) end) (ltb over (by * f + by + slack)) both.1 (ne_eqb (f + 1) end (λ same. omega arith))),
      )

  says_meets : f < end → by * f ≤ over → (f + 1 < end → over < by * f + by + slack) → meets over by slack end f ≡ true
  says_meets field not_above not_below =
      by_order end (f + 1)
      (λ (last : end ≤ f + 1). simp (le-leb (by * f) over not_above, eq-eqb (f + 1) end (omega arith)))
      (λ (more : f + 1 < end).
      simp (le-leb (by * f) over not_above, lt-ltb over (by * f + by + slack) (not_below more), ne_eqb (f + 1) end (λ same. omega arith)))

-- the numbers of an interval, top the first i, and the products before it
pub record Sized (i u p top : ℕ) : Type 0 where
  pub some : 0 < i
  pub interval : i < 2 ^ 16
  pub top_within : top ≤ 2 ^ 15
  pub below : i < 2 * top
  pub unit_within : u ≤ 2 ^ 31
  pub power_positive : 0 < p
  pub power_within : p ≤ 2 ^ 15
  pub enough : u ≤ 2 * (i * p)
  pub before : (2 * i - 1) * p + p ≡ 2 * (i * p)
  pub rest : (4 * top - (2 * i - 1)) * p + (2 * i - 1) * p ≡ 2 * u

pub sized : {s : Shape} {n : ℕ} → GoodPlace s n → Sized (i_of s n) (unit s) (2 ^ s.m) (2 ^ s.k)
sized {s} {n} g =
    let i : ℕ = i_of s n in
    let left : 2 ^ s.k ≤ i = omega arith in
    let odd : 2 * i - 1 + 1 ≡ 2 * i = omega (arith, pow_pos s.k) in
    let whole : 4 * 2 ^ s.k - (2 * i - 1) + (2 * i - 1) ≡ 4 * 2 ^ s.k = omega (arith, g.interval) in
    record {
      some = omega (arith, pow_pos s.k);
      interval = interval_bound g;
      top_within = pow_mono g.widths.narrow_in;
      below = omega (arith, g.interval);
      unit_within = unit_bound g.widths;
      power_positive = pow_pos s.m;
      power_within = pow_mono g.widths.narrow_out;
      enough = omega (arith, unit_is s, mul-le-mul_left (2 ^ s.m) left);
      before = omega (arith, ap (λ (x : ℕ). x * 2 ^ s.m) odd);
      rest = omega (arith, unit_is s, ap (λ (x : ℕ). x * 2 ^ s.m) whole);
    }

module _ {s : Shape} {n : ℕ} {q : Quotient} (g : GoodPlace s n) (b : Before s n q) where
  -- before an interval of the table, the dividend can fall and the divisor can rise
  pub quotient_has_next : (q.fall ≤ q.over) × (q.by + q.rise < 2 ^ 32)
  quotient_has_next = (
    omega (arith, b.over_is, b.fall_is, smallest_within s g.interval),
    omega (arith, b.by_is, b.rise_is, interval_bound g),
  )

  -- where they have, they are the interval's own numbers, but for the 2^m divisors that a field leaves out
  quotient_numbers : (q.by + q.rise ≡ by_at s n) × (q.over - q.fall + 2 ^ s.m * by_at s n ≡ over_at s n)
  quotient_numbers = (omega (arith, b.by_is, b.rise_is), omega (arith, b.over_is, b.fall_is, quotient_has_next))

  -- so the quotient is the field
  pub quotient_is_field : min ((q.over - q.fall) / (q.by + q.rise)) (fields_end s - 1) ≡ rule_field s n
  unfolding rule
  quotient_is_field =
      let over : ℕ = q.over - q.fall in
      let moved : nearest (2 * unit s) (by_at s n) ≡ over / by_at s n + 2 ^ s.m =
      nearest_to_odd (2 * unit s) (i_of s n)
      ∙ ap (λ (x : ℕ). x / by_at s n) (sym quotient_numbers.1)
      ∙ add-mul-div_right over (2 ^ s.m) (omega arith) in
      rw quotient_numbers.0 (omega (arith, moved, cap_is s, fields_end_positive s))

  -- and a field is best iff it meets them
  pub quotient_decides : (f : ℕ) → is_wide s f ≡ false
      → meets (q.over - q.fall) (q.by + q.rise) (slack s) (fields_end s) f ≡ is_best s n (j_of s f)
  quotient_decides f narrow =
      let over : ℕ = q.over - q.fall in
      let range = field_in_range s f narrow in
      rw quotient_numbers.0
      (same_truth _ _
      (λ yes.
      let says = meets_says over (by_at s n) (slack s) (fields_end s) f yes in
      passes_best s g.interval range.0 range.1
      (record {
        not_high = omega (arith, says.0, quotient_numbers.1);
        not_low = λ (h : j_of s f < cap s). omega (arith, says.1 (omega (arith, cap_is s)), quotient_numbers.1);
      }))
      (λ best.
      let passes = best_passes s g.interval range.0 range.1 best in
      says_meets over (by_at s n) (slack s) (fields_end s) f (omega (arith, range.1, cap_is s))
      (omega (arith, passes.not_high, quotient_numbers.1))
      (λ h. omega (arith, passes.not_low (omega (arith, cap_is s)), quotient_numbers.1))))

  -- and they stand before the next interval
  pub quotient_moves_on : Before s (suc n) (record { over = q.over - q.fall; by = q.by + q.rise; fall = q.fall; rise = q.rise })
  quotient_moves_on =
      record {
        by_is = omega (arith, b.by_is, b.rise_is);
        over_is = omega (arith, b.over_is, b.fall_is, quotient_has_next, pow-add 2 s.m 1, pow_pos s.m);
        rise_is = b.rise_is;
        fall_is = b.fall_is;
      }
