-- The scan over the cells from `at` on ends as that over all of them, none of them is over-wide, and the quotient stands before the
-- next interval.
use Rattle.std.proofs.Common.{length, ◌-◌}
use Rattle.entry.specs.Inner.Quotient.{Before}
use Rattle.entry.specs.Least.{is_best}
use Rattle.verdict.proofs.Laws.Scan.{Scanning}
use Rattle.verdict.proofs.scan.Given as goal

abbrev pub invariant-loop-at : goal.invariant-loop-at
invariant-loop-at l = Scanning (is_best l.shape) l.shape l.cells l.at × Before l.shape l.at l.quotient

abbrev pub decreases-loop-at : goal.decreases-loop-at
decreases-loop-at l = length l.cells - l.at
