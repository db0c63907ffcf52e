-- The least worst error of an interval, over every value that a field can hold. Document 01, "The best entry".
-- No rounding rule is named here. Assumes nothing.
use Rattle.std.specs.Prelude.{ℕ, zero, suc, ◌-◌, ◌^◌, min, Bool, eqb}
use Rattle.units.specs.declared.shapes.Shape.{Shape}
use Rattle.entry.specs.Errors.{unit, i_of, worst}
use Rattle.entry.specs.Fields.{cap}

-- the least worst error of the values first, first + 1, .., first + more
unfoldable pub least_of : ℕ → ℕ → ℕ → ℕ → ℕ
least_of u i first zero = worst u i first
least_of u i first (suc more) = min (worst u i first) (least_of u i (suc first) more)

-- the same of the values from first to last
unfoldable pub least : ℕ → ℕ → ℕ → ℕ → ℕ
least u i first last = least_of u i first (last - first)

-- ""Least worst error" means over all j from 2^m to 2^(m+1) - 1"; in tables with one "the cap is 2^(m+1), and least is over values up to
-- that"
abbrev pub least_worst : Shape → ℕ → ℕ
least_worst s n = least (unit s) (i_of s n) (2 ^ s.m) (cap s)

-- whether the value j of interval n is best: its worst error is the least
abbrev pub is_best : Shape → ℕ → ℕ → Bool
is_best s n j = eqb (worst (unit s) (i_of s n) j) (least_worst s n)
