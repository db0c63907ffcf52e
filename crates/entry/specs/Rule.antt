-- The builder's choice. Document 01, "The best entry" (Algorithm 1 of the source, with the cap made plain).
-- Assumes nothing.
use Rattle.std.specs.Prelude.{ℕ, ◌+◌, ◌-◌, ◌*◌, ◌/◌, ◌^◌, min}
use Rattle.units.specs.declared.shapes.Shape.{Shape}
use Rattle.entry.specs.Errors.{unit, i_of}
use Rattle.entry.specs.Fields.{cap}

-- the whole number nearest to a/b: a/b and a half, rounded down. "Nearest is worked out exactly."
unfoldable pub nearest : ℕ → ℕ → ℕ
nearest a b = (2 * a + b) / (2 * b)

-- "The best value is the whole number nearest to 2^(k+m+2)/(2i+1), but never above" the cap: u is 2^(k+m+1), half of 2^(k+m+2)
unfoldable pub rule : ℕ → ℕ → ℕ → ℕ
rule u i most = min (nearest (2 * u) (2 * i + 1)) most

-- the builder's value for interval n
abbrev pub rule_value : Shape → ℕ → ℕ
rule_value s n = rule (unit s) (i_of s n) (cap s)

-- and the field that is stored for it: "The leading one is not stored." Nothing is cut off at 0: law `rule_in_range`
abbrev pub rule_field : Shape → ℕ → ℕ
rule_field s n = rule_value s n - 2 ^ s.m
