-- Document 01, "Numbers and their units". Assumes nothing.
use Rattle.std.specs.Prelude.{ℕ}
use Rattle.units.specs.declared.counts.Side.{Side}
use Rattle.units.specs.declared.counts.Side.TheVariants.{Left, Right}

-- "Its side is "left" (0) .., "right" (1) .."
abbrev pub side_number : Side → ℕ
side_number Left = 0
side_number Right = 1
