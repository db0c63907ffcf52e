-- When one interval lies within another. The order, demand 3: the interval of the first table "whose interval contains it".
-- Assumes nothing.
use Rattle.std.specs.Prelude.{ℕ, ◌+◌, ◌*◌, ◌^◌, ◌≤◌}
use Rattle.units.specs.declared.shapes.Shape.{Shape}
use Rattle.entry.specs.Errors.{i_of}

-- Interval y of a table of shape t lies within interval n of one of shape s: neither end of it is outside.
-- With i = 2^k + n and x = 2^c + y, for k and c bits in, these are i/2^k <= x/2^c and (x+1)/2^c <= (i+1)/2^k
pub record Inside (s : Shape) (n : ℕ) (t : Shape) (y : ℕ) : Type 0 where
  pub left : i_of s n * 2 ^ t.k ≤ i_of t y * 2 ^ s.k
  pub right : (i_of t y + 1) * 2 ^ s.k ≤ (i_of s n + 1) * 2 ^ t.k
