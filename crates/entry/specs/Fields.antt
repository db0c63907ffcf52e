-- What a field may be, and so what the largest value is. Document 01, "Numbers and their units", and number 5 of its refusal table.
-- Every bound of fields and values follows from `fields_end`, which is the kind's. Assumes nothing.
use Rattle.std.specs.Prelude.{ℕ, ◌-◌, Bool, leb}
use Rattle.units.specs.Kinds.{fields_end_of}
use Rattle.units.specs.Refusals.{Test, test, reply}
use Rattle.units.specs.declared.shapes.Shape.{Shape}
use Rattle.entry.specs.Errors.{j_of}

-- the first number that is no field
unfoldable pub fields_end : Shape → ℕ
fields_end s = fields_end_of s.kind s.m

-- 5: "a field >= 2^m", and "for fields above 2^m in the new kind"
unfoldable pub is_wide : Shape → ℕ → Bool
is_wide s f = leb (fields_end s) f

-- for the field f of interval n: "number and the smallest such n"
abbrev pub too_wide : Shape → ℕ → ℕ → Test
too_wide s n f = test (is_wide s f) (reply 5 n)

-- "never above 2^(m+1) - 1, since a field has only m bits"; "in the second .. the cap is 2^(m+1)": the value of the last field
unfoldable pub cap : Shape → ℕ
cap s = j_of s (fields_end s - 1)
