-- `table::fill` meets its contract. Assumes nothing.
use Prim.Native.Nat.{◌+◌}
use native.Mathlib.Omega.{arith}
use Rattle.entry.specs.Inner.Good.{GoodPlace}
use Rattle.entry.proofs.Laws.Quotient.{quotient_has_next}
use Rattle.table.proofs.Laws.Filling.{filling_starts, filling_size, filling_goes_on}
use Rattle.table.proofs.builders.fill.Goals as goal

pub loop-cell-init : goal.loop-cell-init
loop-cell-init c = record { filling = filling_starts c.quotient_before-quotient.ensures; even_is = omega (arith, c.left_end-even.ensures) }

-- the cell that is to be written is that of an interval of the table
pub next-quotient-requires : goal.next-quotient-requires
next-quotient-requires c =
    quotient_has_next
    (record { widths = c.args.first.good.widths; interval = omega (arith, c.requires, filling_size c.loop-cell.invariant.filling) })
    c.loop-cell.invariant.filling.before

pub loop-cell-preserved : goal.loop-cell-preserved
loop-cell-preserved c =
    let inv = c.loop-cell.invariant.filling in
    let place : GoodPlace c.args.first.shape (c.args.first.n.0 + c.loop-cell.cell-index) =
    record { widths = c.args.first.good.widths; interval = omega (arith, c.requires, filling_size inv) }
    in
    record {
      filling =
          rw c.next-quotient.ensures
          (filling_goes_on inv place (omega (arith, filling_size inv)) (rw c.next-quotient.ensures at c.field_past.ensures));
      even_is = omega (arith, c.loop-cell.invariant.even_is);
    }
