-- The least shift of a divisor: its bounds, that no smaller one reaches, that no other keeps the bounds, and how the machine finds it.
-- Assumes nothing.
use Prim.Native.Nat.{ℕ, zero, suc, ◌+◌, ◌-◌, ◌*◌, ◌^◌, ◌≤◌, ◌<◌}
use mathlib.Core.Bool.{Bool, true, false, cond, false≢true}
use mathlib.Core.Path.{◌≡◌, refl, sym, ap, ◌∙◌}
use native.Mathlib.Nat.{mul-le-mul_left, mul-le-mul_right, mul-lt-mul_of_pos_right, pow-suc}
use native.Mathlib.Omega.{arith}
use borrow.Author.Tests.{leb-true, leb-false, le-leb}
use lib.Count.{count_leading_zeros, leading_top}
use lib.Dec.{leb}
use lib.Pow.{pow_mono, pow_pos}
use Rattle.units.proofs.Laws.Order.{by_order}
use Rattle.units.proofs.Laws.Powers.{power_splits}
use Rattle.table.specs.Shift.{least_from, shift_of, shifted}

-- s is good, and none from `first` up to it is
record Least (good : ℕ → Bool) (first s : ℕ) : Type 0 where
  pub is : good s ≡ true
  pub none_before : (t : ℕ) → first ≤ t → t < s → good t ≡ false

-- the search finds it, if one of those tried is good
search_finds_least : (good : ℕ → Bool) (first tries t : ℕ) → first ≤ t → t < first + tries → good t ≡ true
    → Least good first (least_from good first tries)
unfolding least_from
search_finds_least good first zero t from to is = absurd (omega arith)
search_finds_least good first (suc tries) t from to is =
    by_first (good first) refl (λ after. search_finds_least good (suc first) tries t after (omega arith) is)
  where
    by_first : (b : Bool) → good first ≡ b → (suc first ≤ t → Least good (suc first) (least_from good (suc first) tries))
        → Least good first (cond b first (least_from good (suc first) tries))
    by_first true e rest = record { is = e; none_before = λ s h l. absurd (omega arith) }
    by_first false e rest =
        let least = rest (by_order t first (λ l. absurd (false≢true (sym e ∙ ap good (omega arith) ∙ is))) (λ l. l)) in
        record {
          is = least.is;
          none_before = λ s h l. by_order s first (λ below. ap good (omega arith) ∙ e) (λ above. least.none_before s above l);
        }

-- one place further is twice as much
doubled : (x s : ℕ) → x * 2 ^ suc s ≡ 2 * (x * 2 ^ s)
doubled x s = omega (arith, ap (λ (z : ℕ). x * z) (pow-suc 2 s))

module _ (x : ℕ) (some : 1 ≤ x) where
  least : Least (λ (s : ℕ). leb 32768 (x * 2 ^ s)) 0 (shift_of x)
  unfolding shift_of
  least = search_finds_least (λ (s : ℕ). leb 32768 (x * 2 ^ s)) 0 16 15 (omega arith) (omega arith) (le-leb 32768 (x * 2 ^ 15) (omega arith))

  -- "brings it to 32768 or more"
  pub shift_reaches : 32768 ≤ shifted x
  shift_reaches = leb-true 32768 (shifted x) least.is

  -- "the least s"
  pub no_smaller_shift : (t : ℕ) → t < shift_of x → x * 2 ^ t < 32768
  no_smaller_shift t h = leb-false 32768 (x * 2 ^ t) (least.none_before t (omega arith) h)

  pub shift_within : shift_of x ≤ 15
  shift_within = by_order (shift_of x) 15 (λ l. l) (λ g. absurd (omega (arith, no_smaller_shift 15 g)))

  module _ (to : x ≤ 65535) where
    pub shift_stays : shifted x < 65536
    shift_stays = by_size (shift_of x) refl
      where
        by_size : (s : ℕ) → shift_of x ≡ s → x * 2 ^ s < 65536
        by_size zero e = omega arith
        by_size (suc t) e = omega (arith, no_smaller_shift t (omega (arith, e)), doubled x t)

    -- and no other s has these two bounds
    pub shift_is_one : (t : ℕ) → 32768 ≤ x * 2 ^ t → x * 2 ^ t < 65536 → t ≡ shift_of x
    shift_is_one t from before =
        by_order t (shift_of x)
        (λ l. by_order (shift_of x) t (λ g. omega arith) (λ g. absurd (omega (arith, no_smaller_shift t g))))
        (λ g. absurd (omega (arith, shift_reaches, mul-le-mul_left x (pow_mono g), doubled x (shift_of x))))

    -- there are s zeros before X's first bit, of 16, and 16 more of 32: that bit, at place p, goes to place 15
    pub zeros_are_shift : count_leading_zeros 32 x ≡ shift_of x + 16
    zeros_are_shift =
        let top = leading_top 32 x some (omega arith) in
        let p : ℕ = top.0 in
        let within : p ≤ 15 = by_order p 15 (λ l. l) (λ l. absurd (omega (arith, top.2, pow_mono l))) in
        let split = power_splits within in
        let moved =
        shift_is_one (15 - p)
        (omega (arith, split, mul-le-mul_right (2 ^ (15 - p)) top.2))
        (omega (arith, split, doubled (2 ^ (15 - p)) p, mul-lt-mul_of_pos_right top.3 (pow_pos (15 - p)))) in
        omega (arith, top.1, moved)
