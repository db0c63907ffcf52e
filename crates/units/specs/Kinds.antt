-- What a kind of table is. Document 02, L5. A table's values, its best entries, what is refused with 5, how wide its memory text is and
-- which tables it may be followed by depend on its kind by this page alone. Assumes nothing.
use Rattle.std.specs.Prelude.{ℕ, ◌+◌, ◌^◌}
use Rattle.units.specs.declared.kinds.Kind.{Kind}
use Rattle.units.specs.declared.kinds.Kind.TheVariants.{Plain, WithOne}

-- "In the second, field 2^m is allowed and means 1.0", by "an extra wire": how many fields, and wires, a kind has besides those of m bits
abbrev pub ones : Kind → ℕ
ones Plain = 0
ones WithOne = 1

-- "a field f of m bits, from 0 to 2^m - 1", and in tables with one 2^m: the first number that is no field
abbrev pub fields_end_of : Kind → ℕ → ℕ
fields_end_of kind m = 2 ^ m + ones kind

-- "as many digits as m bits need", and in tables with one as m+1 bits need: the bits of a field
abbrev pub field_bits : Kind → ℕ → ℕ
field_bits kind m = m + ones kind

-- "Demands 2 and 3 hold per kind, and from plain to with one; the step from with one to plain is not claimed": tables of the first kind may
-- be followed by tables of the second
pub data MayBeFollowedBy : Kind → Kind → Type 0 where
  itself : (kind : Kind) → MayBeFollowedBy kind kind
  gains_one : MayBeFollowedBy Plain WithOne
