-- The facts of a list of tests that passed, by name, and how large the numbers of an entry can then be. Assumes nothing.
use Prim.Native.Nat.{ℕ, ◌+◌, ◌*◌, ◌^◌, ◌≤◌, ◌<◌}
use mathlib.Core.Bool.{false}
use mathlib.Core.List.{[], ◌∷◌}
use mathlib.Core.Path.{◌≡◌}
use native.Mathlib.Nat.{mul-le-mul}
use native.Mathlib.Omega.{arith}
use borrow.Author.Tests.{leb-false, lt-leb}
use lib.Pow.{pow_pos, pow_mono}
use Rattle.units.specs.Refusals.{width_tests, place}
use Rattle.units.specs.Inner.Good.{GoodWidths}
use Rattle.units.specs.declared.shapes.Shape.{Shape}
use Rattle.units.proofs.Laws.Good.{widths_good, good_widths}
use Rattle.units.proofs.Laws.Tests.{Passed, passed_parts, passed_also}
use Rattle.entry.specs.Errors.{unit, i_of, j_of}
use Rattle.entry.specs.Fields.{cap, is_wide, too_wide}
use Rattle.entry.specs.Inner.Good.{GoodPlace, GoodEntry}
use Rattle.entry.specs.Report.{place_tests, entry_tests}
use Rattle.entry.proofs.Laws.Fields.{field_in_range, cap_within_one}

module _ {s : Shape} {n : ℕ} where
  pub place_good : Passed (place_tests s n) → GoodPlace s n
  place_good p =
      let parts = passed_parts (width_tests s) (place s.k n ∷ []) p in
      record { widths = widths_good parts.0; interval = leb-false (2 ^ s.k) n parts.1.0 }

  pub good_place : GoodPlace s n → Passed (place_tests s n)
  good_place g =
      passed_also (width_tests s) (place s.k n ∷ []) (good_widths g.widths) (lt-leb (2 ^ s.k) n g.interval, tt)

  -- a value in range is an entry's
  pub good_value : {j : ℕ} → GoodPlace s n → (2 ^ s.m ≤ j) × (j ≤ cap s) → GoodEntry s n j
  good_value g range = record { place = g; above_0 = omega (arith, pow_pos s.m); entry = range.1 }

  -- and so is that of a field that is not over-wide
  pub good_field : (f : ℕ) → GoodPlace s n → is_wide s f ≡ false → GoodEntry s n (j_of s f)
  good_field f g narrow = good_value g (field_in_range s f narrow)

  pub good_entry_tests : (f : ℕ) → GoodPlace s n → is_wide s f ≡ false → Passed (entry_tests s n f)
  good_entry_tests f g narrow = passed_also (place_tests s n) (too_wide s n f ∷ []) (good_place g) (narrow, tt)

  pub interval_bound : GoodPlace s n → i_of s n < 2 ^ 16
  interval_bound g = omega (arith, pow_mono g.widths.narrow_in, g.interval)

  pub entry_bound : {j : ℕ} → GoodEntry s n j → j ≤ 2 ^ 16
  entry_bound {j} g =
      omega (arith, g.entry, cap_within_one s, pow_mono {i = s.m + 1} {j = 16} (omega (arith, g.place.widths.narrow_out)))

  pub product_bound : {j : ℕ} → GoodEntry s n j → (i_of s n + 1) * j ≤ 2 ^ 32
  product_bound {j} g =
      let i : i_of s n + 1 ≤ 2 ^ 16 = omega (arith, interval_bound g.place) in
      mul-le-mul i (entry_bound g)

pub unit_bound : {s : Shape} → GoodWidths s → unit s ≤ 2 ^ 31
unit_bound {s} g = pow_mono {i = s.k + s.m + 1} {j = 31} (omega (arith, g.narrow_in, g.narrow_out))
