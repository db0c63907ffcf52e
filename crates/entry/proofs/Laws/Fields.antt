-- What follows from what a field may be. Assumes nothing.
use Prim.Native.Nat.{ℕ, ◌+◌, ◌*◌, ◌^◌, ◌≤◌, ◌<◌}
use mathlib.Core.Bool.{Bool, false}
use mathlib.Core.Path.{◌≡◌, ap, ◌∙◌}
use native.Mathlib.Omega.{arith}
use borrow.Author.Tests.{leb-false, lt-leb}
use lib.Dec.{leb}
use lib.Pow.{pow-add, pow_mono, pow_pos}
use Rattle.units.specs.Kinds.{ones}
use Rattle.units.specs.Inner.Good.{GoodWidths}
use Rattle.units.specs.declared.shapes.Shape.{Shape}
use Rattle.units.proofs.Laws.Kinds.{ones_at_most}
use Rattle.entry.specs.Errors.{j_of}
use Rattle.entry.specs.Fields.{fields_end, is_wide, cap}

module _ (s : Shape) where
  -- there are fields
  pub fields_end_positive : 0 < fields_end s
  unfolding fields_end
  fields_end_positive = omega (arith, pow_pos s.m)

  -- no field stands for more than 1.0
  pub fields_end_within : fields_end s ≤ 2 ^ s.m + 1
  unfolding fields_end
  fields_end_within = omega (arith, ones_at_most s.kind)

  -- the value after the cap is that of the first number that is no field
  pub cap_is : cap s + 1 ≡ j_of s (fields_end s)
  unfolding cap
  cap_is = omega (arith, fields_end_positive)

  -- every value of m bits is within the cap, and the cap is at most 1.0
  pub cap_at_least : 2 * 2 ^ s.m ≤ cap s + 1
  unfolding fields_end
  cap_at_least = omega (arith, cap_is)

  pub cap_within_one : cap s ≤ 2 ^ (s.m + 1)
  cap_within_one = omega (arith, cap_is, fields_end_within, pow-add 2 s.m 1)

  -- Document 01: "never above 2^(m+1) - 1"; document 02: "the cap is 2^(m+1)"
  pub cap_by_kind : cap s + 1 ≡ 2 ^ (s.m + 1) + ones s.kind
  unfolding fields_end
  cap_by_kind = omega (arith, cap_is, pow-add 2 s.m 1)

  pub smallest_within_cap : 2 ^ s.m ≤ cap s
  smallest_within_cap = omega (arith, cap_is, fields_end_positive)

  -- a field stands for a value from 2^m to the cap, and every such value less 2^m is a field
  pub field_in_range : (f : ℕ) → is_wide s f ≡ false → (2 ^ s.m ≤ j_of s f) × (j_of s f ≤ cap s)
  unfolding is_wide
  field_in_range f e = omega (arith, leb-false (fields_end s) f e, cap_is)

  pub range_is_field : (f : ℕ) → j_of s f ≤ cap s → is_wide s f ≡ false
  unfolding is_wide
  range_is_field f h = lt-leb (fields_end s) f (omega (arith, cap_is))

-- a test by the first number that is no field
pub wide_by_end : (s : Shape) (f : ℕ) {end : ℕ} {test : Bool} → test ≡ leb end f → end ≡ fields_end s → test ≡ is_wide s f
unfolding is_wide
wide_by_end s f is end = is ∙ ap (λ (x : ℕ). leb x f) end

-- a value by that of field 0, which fits a cell
pub value_by_first : (s : Shape) (f : ℕ) {first value : ℕ} → value ≡ first + f → first ≡ 2 ^ s.m → value ≡ j_of s f
value_by_first s f is first = omega (arith, is, first)

pub first_bound : {s : Shape} {first : ℕ} → GoodWidths s → first ≡ 2 ^ s.m → first ≤ 2 ^ 16
first_bound g is = omega (arith, is, pow_mono g.narrow_out)

-- a field fits a cell
pub fields_end_bound : {s : Shape} → GoodWidths s → fields_end s ≤ 2 ^ 16
fields_end_bound {s} g = omega (arith, fields_end_within s, pow_mono g.narrow_out)
