-- `entry::quotient_before` meets its contract: both numbers are below 2^32. Assumes nothing.
use mathlib.Core.Path.{refl, sym}
use native.Mathlib.Omega.{arith}
use lib.Pow.{pow-add}
use Rattle.entry.specs.Errors.{unit}
use Rattle.entry.proofs.Laws.Quotient.{Sized, sized}
use Rattle.entry.proofs.quotients.quotient_before.Goals as goal

pub returns : goal.returns
returns c =
    let i = c.left_number-i.ensures in
    let size = c.power-size.ensures in
    let sizes : Sized c.left_number-i.result (unit c.args.place.shape) c.power-size.result c.power.result =
    rw (i, size, c.power.ensures) (sized c.args.place.good)
    in
    record {
      by_is = omega (arith, sizes, i);
      over_is = rw (sym i, sym size) (omega (arith, sizes, size, pow-add 2 c.args.place.shape.m 1));
      rise_is = refl;
      fall_is = omega (arith, size, pow-add 2 c.args.place.shape.m 1);
    }
