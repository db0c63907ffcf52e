-- What a call's tests let through to the functions below it, fact by fact. Assumes nothing.
use Rattle.std.specs.Prelude.{ℕ, ◌^◌, ◌≤◌, ◌<◌}
use Rattle.units.specs.Inner.Good.{GoodWidths}
use Rattle.units.specs.declared.shapes.Shape.{Shape}
use Rattle.entry.specs.Fields.{cap}

-- 1, 2, and 4 for n: widths from 1 to 15, and an interval of the table
pub record GoodPlace (s : Shape) (n : ℕ) : Type 0 where
  pub widths : GoodWidths s
  pub interval : n < 2 ^ s.k

-- and an entry number above 0 and within the cap
pub record GoodEntry (s : Shape) (n j : ℕ) : Type 0 where
  pub place : GoodPlace s n
  pub above_0 : 0 < j
  pub entry : j ≤ cap s
