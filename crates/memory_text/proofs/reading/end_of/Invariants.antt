-- One of the cells from n on is missing, and the first of them is the first of all.
use Rattle.std.proofs.Common.{◌≡◌, true, drop}
use Rattle.table.specs.First.{first_of}
use Rattle.memory_text.specs.Read.{is_missing, any_missing, first_missing}
use Rattle.memory_text.proofs.reading.end_of.Given as goal

abbrev pub invariant-loop-n : goal.invariant-loop-n
invariant-loop-n l = (any_missing (drop l.n l.cells) ≡ true) × (first_of is_missing l.n (drop l.n l.cells) ≡ first_missing l.cells)
