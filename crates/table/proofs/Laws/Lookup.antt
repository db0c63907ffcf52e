-- Where a divisor lies. Assumes nothing.
use Prim.Native.Nat.{ℕ, ◌+◌, ◌-◌, ◌*◌, ◌/◌, ◌^◌, ◌≤◌, ◌<◌}
use mathlib.Core.Bool.{Bool, true, false}
use mathlib.Core.List.{List, [], ◌∷◌}
use mathlib.Core.Path.{◌≡◌, refl, ap, ◌∙◌}
use native.Mathlib.Nat.{add-mul-div_right, le-div_iff_mul-le, div-lt_iff_lt-mul, div-mul-le_self, lt-div-mul-add, mul-le-mul_right, mul-lt-mul_of_pos_right}
use native.Mathlib.Omega.{arith}
use borrow.Author.Tests.{le-ltb}
use lib.ListN.{length, get_or}
use lib.Pow.{pow_pos}
use Rattle.units.specs.Refusals.{answer, reply}
use Rattle.units.specs.declared.shapes.Shape.{Shape}
use Rattle.units.proofs.Laws.Tests.{passed_also, done_by, refused_after}
use Rattle.units.proofs.Laws.Powers.{power_splits}
use Rattle.entry.specs.Errors.{i_of, j_of}
use Rattle.entry.specs.Everywhere.{Holds}
use Rattle.entry.specs.Fields.{is_wide, too_wide}
use Rattle.table.specs.Lookup.{Report, refused, looked_up, index_of, divisor_tests, lookup_tests, lookup_at, lookup_report}
use Rattle.table.specs.Shift.{shift_of, shifted}
use Rattle.table.specs.Inner.Good.{GoodLookup}
use Rattle.table.proofs.Laws.Good.{good_lookup}
use Rattle.table.proofs.Laws.Shift.{shift_reaches, shift_stays}

-- X from 32768 to 65535
module _ (s : Shape) (x : ℕ) (narrow : s.k ≤ 15) (from : 2 ^ 15 ≤ x) (to : x < 2 ^ 16) where
  -- X/2^(15-k) has k + 1 bits, and the first of them is set
  pub quotient_from : 2 ^ s.k ≤ x / 2 ^ (15 - s.k)
  quotient_from = (le-div_iff_mul-le (pow_pos (15 - s.k))).1 (omega (arith, power_splits narrow))

  pub quotient_to : x / 2 ^ (15 - s.k) < 2 * 2 ^ s.k
  quotient_to = (div-lt_iff_lt-mul (pow_pos (15 - s.k))).1 (omega (arith, power_splits narrow))

  -- that bit taken off before the shift, the rest is the index
  pub rest_is_index : (x - 2 ^ 15) / 2 ^ (15 - s.k) ≡ index_of s x
  rest_is_index =
      let rest : ℕ = x - 2 ^ 15 in
      let whole : x ≡ rest + 2 ^ s.k * 2 ^ (15 - s.k) = omega (arith, power_splits narrow) in
      let shifted : x / 2 ^ (15 - s.k) ≡ rest / 2 ^ (15 - s.k) + 2 ^ s.k =
      ap (λ (y : ℕ). y / 2 ^ (15 - s.k)) whole ∙ add-mul-div_right rest (2 ^ s.k) (pow_pos (15 - s.k))
      in
      omega (arith, shifted)

  pub index_below : index_of s x < 2 ^ s.k
  index_below = omega (arith, quotient_from, quotient_to)

  -- i/2^k <= X/2^15 < (i+1)/2^k
  index_contains : Holds (2 ^ s.k) (i_of s (index_of s x)) x (2 ^ 15)
  index_contains =
      let q : ℕ = x / 2 ^ (15 - s.k) in
      let split = power_splits narrow in
      let left : i_of s (index_of s x) ≡ x / 2 ^ (15 - s.k) = omega (arith, quotient_from) in
      rw left
      (record {
        fraction = pow_pos 15;
        from = omega (arith, ap (λ (z : ℕ). q * z) split, mul-le-mul_right (2 ^ s.k) (div-mul-le_self x (2 ^ (15 - s.k))));
        before =
            omega (
              arith,
              ap (λ (z : ℕ). (q + 1) * z) split,
              mul-lt-mul_of_pos_right (lt-div-mul-add {a = x} (pow_pos (15 - s.k))) (pow_pos s.k),
            );
      })

-- every X that is let in: its interval contains x = X·2^s/32768
pub interval_contains : (s : Shape) (x : ℕ) → s.k ≤ 15 → 1 ≤ x → x ≤ 65535
    → Holds (2 ^ s.k) (i_of s (index_of s (shifted x))) (shifted x) (2 ^ 15)
interval_contains s x narrow some to = index_contains s (shifted x) narrow (shift_reaches x some) (shift_stays x some to)

-- once every other test passed, the one field decides
module _ {s : Shape} {x : ℕ} (cells : List ℕ) (good : GoodLookup s x (length cells)) (n : ℕ) where
  pub field_refused : is_wide s (get_or cells n 0) ≡ true → refused (reply 5 n) ≡ lookup_at s x cells n
  field_refused wide =
      refused_after refused _ (divisor_tests s x (length cells)) (too_wide s n (get_or cells n 0)) [] (good_lookup good) wide

  pub field_found : is_wide s (get_or cells n 0) ≡ false → looked_up (shift_of x) n (j_of s (get_or cells n 0)) ≡ lookup_at s x cells n
  field_found narrow =
      done_by refused _ (lookup_tests s x cells n)
      (passed_also (divisor_tests s x (length cells)) (too_wide s n (get_or cells n 0) ∷ []) (good_lookup good) (narrow, tt))

-- the n that is given, with 0 and with 5, is that of the interval that has the shifted divisor
pub look_up_contains : (s : Shape) (x : ℕ) (cells : List ℕ) → GoodLookup s x (length cells)
    → Holds (2 ^ s.k) (i_of s (lookup_report s x cells).n) (shifted x) (2 ^ 15)
look_up_contains s x cells good = by_width (is_wide s (get_or cells n 0)) refl
  where
    n : ℕ
    n = index_of s (shifted x)

    contains : (r : Report) → r.n ≡ n → r ≡ lookup_report s x cells
        → Holds (2 ^ s.k) (i_of s (lookup_report s x cells).n) (shifted x) (2 ^ 15)
    contains r e is = rw (← is, e) (interval_contains s x good.table.widths.narrow_in good.some good.to)

    by_width : (wide : Bool) → is_wide s (get_or cells n 0) ≡ wide
        → Holds (2 ^ s.k) (i_of s (lookup_report s x cells).n) (shifted x) (2 ^ 15)
    by_width true e = contains _ refl (field_refused cells good n e)
    by_width false e = contains _ refl (field_found cells good n e)

-- Document 01: "of all the cells, its answer depends on cell n alone"
pub lookup_by_one_cell : (s : Shape) (x : ℕ) (a b : List ℕ) → 2 ^ s.k ≤ length a → 2 ^ s.k ≤ length b
    → get_or a (index_of s (shifted x)) 0 ≡ get_or b (index_of s (shifted x)) 0
    → lookup_report s x a ≡ lookup_report s x b
unfolding answer
lookup_by_one_cell s x a b long_a long_b e = simp (e, le-ltb (length a) (2 ^ s.k) long_a, le-ltb (length b) (2 ^ s.k) long_b)
