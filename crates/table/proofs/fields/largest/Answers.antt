-- `table::largest` meets its contract. Assumes nothing.
use mathlib.Core.Path.{◌≡◌}
use native.Mathlib.Omega.{arith}
use lib.ListN.{drop}
use Rattle.table.specs.Inner.Largest.{largest_of}
use Rattle.table.proofs.Laws.Largest.{largest_after, largest_past}
use Rattle.table.proofs.fields.largest.Goals as goal

pub loop-f-preserved : goal.loop-f-preserved
loop-f-preserved c =
    omega (arith, c.loop-f.invariant, largest_after c.args.cells.now c.loop-f.f-index (omega arith))

pub returns : goal.returns
returns c =
    let none : largest_of (drop c.loop-f.f-index c.args.cells.now) ≡ 0 = largest_past c.args.cells.now c.loop-f.f-index (omega arith) in
    omega (arith, c.loop-f.invariant)
