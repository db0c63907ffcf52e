-- The cells passed hold the rule's fields, the others are as they were, and the quotient stands before the next interval.
use Rattle.std.proofs.Common.{◌+◌, ◌*◌, ◌≡◌}
use Rattle.entry.specs.Errors.{i_of}
use Rattle.table.proofs.Laws.Filling.{Filling}
use Rattle.table.proofs.builders.fill.Given as goal

abbrev pub invariant-loop-cell : goal.invariant-loop-cell
invariant-loop-cell l = record {
  filling : Filling l.fn.first.shape l.fn.first.n.0 l.initial.cells l.cells l.quotient l.cell-index;
  even_is : l.even ≡ 2 * i_of l.fn.first.shape (l.fn.first.n.0 + l.cell-index);
}
