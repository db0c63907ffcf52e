-- `table::shift_of` meets its contract: the zeros before the 32 bits of X are 16 more than the least shift. Assumes nothing.
use native.Mathlib.Omega.{arith}
use Rattle.table.proofs.Laws.Shift.{zeros_are_shift}
use Rattle.table.proofs.lookups.shift_of.Goals as goal

pub overflow_sub-result : goal.overflow_sub-result
overflow_sub-result c = omega (arith, zeros_are_shift c.args.x c.requires.0 c.requires.1)

pub returns : goal.returns
returns c = omega (arith, zeros_are_shift c.args.x c.requires.0 c.requires.1)
