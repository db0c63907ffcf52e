-- `verdict::scan` meets its contract: the quotient, which has moved on to the cell at hand, tells whether its value is best.
-- Assumes nothing.
use Prim.Native.Nat.{ℕ, ◌≤◌, ◌<◌, ◌^◌}
use mathlib.Core.Path.{refl, sym, ◌∙◌}
use native.Mathlib.Omega.{arith}
use native.Mathlib.Numerals.{add-one}
use Rattle.units.specs.Inner.Good.{GoodWidths}
use Rattle.units.specs.declared.shapes.Shape.{Shape}
use Rattle.entry.specs.Inner.Good.{GoodPlace}
use Rattle.entry.proofs.Laws.Good.{good_field}
use Rattle.entry.proofs.Laws.Quotient.{quotient_has_next, quotient_decides, quotient_moves_on}
use Rattle.verdict.proofs.Laws.Scan.{scanning_ends, scanning_narrow, scanning_goes_on, scanning_stops}
use Rattle.verdict.proofs.scan.Goals as goal

-- the cell at hand is that of an interval
here : {s : Shape} {at size : ℕ} → GoodWidths s → size ≤ 2 ^ s.k → at < size → GoodPlace s at
here widths few inside = record { widths = widths; interval = omega arith }

pub next-quotient-requires : goal.next-quotient-requires
next-quotient-requires c =
    quotient_has_next (here c.args.good.good c.requires.fits c.if-cells-at.false) c.loop-at.invariant.1

pub invariant_of-not_best : goal.invariant_of-not_best
invariant_of-not_best c =
    record {
      good =
          rw c.entry_of-j.ensures
          (good_field _ (here c.args.good.good c.requires.fits c.if-cells-at.false) (scanning_narrow c.loop-at.invariant.0 c.if-cells-at.false));
    }

pub loop-at-preserved : goal.loop-at-preserved
loop-at-preserved c =
    let inv = c.loop-at.invariant in
    let inside = c.if-cells-at.false in
    let place = here c.args.good.good c.requires.fits inside in
    let decides = quotient_decides place inv.1 _ (scanning_narrow inv.0 inside) in (
      scanning_goes_on inv.0 inside refl (sym (c.if-not-is_best.ensures ∙ rw c.next-quotient.ensures decides)),
      rw (c.next-quotient.ensures, add-one c.loop-at.at) (quotient_moves_on place inv.1),
    )

pub returns-then-cells-at : goal.returns-then-cells-at
returns-then-cells-at c = scanning_ends c.loop-at.invariant.0 c.if-cells-at.true

pub returns-then-not-is_best : goal.returns-then-not-is_best
returns-then-not-is_best c =
    let inv = c.loop-at.invariant in
    let inside = c.if-cells-at.false in
    let decides = quotient_decides (here c.args.good.good c.requires.fits inside) inv.1 _ (scanning_narrow inv.0 inside) in
    c.not_best.ensures
    ∙ scanning_stops inv.0 inside c.entry_of-j.ensures
    (rw c.entry_of-j.ensures (sym (c.if-not-is_best.ensures ∙ rw c.next-quotient.ensures decides)))
