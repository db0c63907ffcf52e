-- `entry::fields_of` meets its contract: the end is 2^m, and one more where the kind has it. Assumes nothing.
use native.Mathlib.Omega.{arith}
use Rattle.entry.specs.Fields.{fields_end}
use Rattle.entry.proofs.fields.fields_of.Goals as goal

pub returns : goal.returns
unfolding fields_end
returns c = (c.small_power-size.ensures, omega (arith, c.small_power-size.ensures, c.ones.ensures))
