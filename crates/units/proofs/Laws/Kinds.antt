-- What the kinds of tables have in common. Assumes nothing.
use Prim.Native.Nat.{ℕ, ◌+◌, ◌-◌, ◌*◌, ◌^◌, ◌≤◌, ◌<◌}
use mathlib.Core.Path.{◌≡◌, ap}
use native.Mathlib.Omega.{arith}
use lib.Pow.{pow-add, pow_pos}
use Rattle.units.specs.Kinds.{ones, fields_end_of, field_bits, MayBeFollowedBy, itself, gains_one}
use Rattle.units.specs.declared.kinds.Kind.{Kind}
use Rattle.units.specs.declared.kinds.Kind.TheVariants.{Plain, WithOne}
use Rattle.units.proofs.Laws.Powers.{power_splits}

-- no field stands for more than 1.0
pub ones_at_most : (kind : Kind) → ones kind ≤ 1
ones_at_most Plain = omega arith
ones_at_most WithOne = omega arith

-- the bits of a field hold every field, and one bit less does not
pub bits_hold_fields : (kind : Kind) (m : ℕ) → fields_end_of kind m ≤ 2 ^ field_bits kind m
bits_hold_fields Plain m = omega (arith, pow-add 2 m 0)
bits_hold_fields WithOne m = omega (arith, pow-add 2 m 1, pow_pos m)

pub fewer_bits_do_not : (kind : Kind) (m : ℕ) → 1 ≤ m → 2 ^ (field_bits kind m - 1) < fields_end_of kind m
fewer_bits_do_not Plain m h =
    let e : field_bits Plain m - 1 ≡ m - 1 = omega arith in
    rw e (omega (arith, power_splits h, pow_pos (m - 1)))
fewer_bits_do_not WithOne m h =
    let e : field_bits WithOne m - 1 ≡ m = omega arith in
    rw e (omega arith)

-- The largest values c and d of two tables: where the first may be followed by the second, whose values are q times as fine, the second has
-- the first's
pub follows_scaled : {a b : Kind} → MayBeFollowedBy a b → (c d x q : ℕ) → 0 < q → c + 1 ≡ x + ones a → d + 1 ≡ x * q + ones b → c * q ≤ d
follows_scaled (itself Plain) c d x q h first second = omega (arith, ap (λ (y : ℕ). y * q) first)
follows_scaled (itself WithOne) c d x q h first second = omega (arith, ap (λ (y : ℕ). y * q) first)
follows_scaled gains_one c d x q h first second = omega (arith, ap (λ (y : ℕ). y * q) first)
