-- The larger of what is found and the largest of the cells that are left is the largest of all.
use Rattle.std.proofs.Common.{◌≡◌, max, drop}
use Rattle.table.specs.Inner.Largest.{largest_of}
use Rattle.table.proofs.fields.largest.Given as goal

abbrev pub invariant-loop-f : goal.invariant-loop-f
invariant-loop-f l = max l.most (largest_of (drop l.f-index l.cells)) ≡ largest_of l.cells
