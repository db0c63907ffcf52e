-- One of the cells from n on is over-wide, and the first of them is the first of all.
use Rattle.std.proofs.Common.{◌≡◌, true, drop}
use Rattle.table.specs.Wide.{any_wide, first_wide}
use Rattle.table.proofs.fields.wide_among.Given as goal

abbrev pub invariant-loop-n : goal.invariant-loop-n
invariant-loop-n l =
    (any_wide l.good.shape (drop l.n l.cells) ≡ true) × (first_wide l.good.shape l.n (drop l.n l.cells) ≡ first_wide l.good.shape 0 l.cells)
