-- `survey::survey_fields` meets its contract: each entry has the largest worst error so far, or what was kept has. Assumes nothing.
use Prim.Native.Nat.{ℕ, ◌+◌}
use mathlib.Core.Path.{sym, ap₂, ◌∙◌}
use native.Mathlib.Omega.{arith}
use lib.ListN.{get_or}
use Rattle.entry.specs.Errors.{unit}
use Rattle.entry.specs.Inner.Products.{side_by_middle}
use Rattle.entry.proofs.Laws.Fields.{wide_by_end, value_by_first}
use Rattle.entry.proofs.Laws.Good.{good_field}
use Rattle.survey.specs.Finding.{Figures, entry_figures}
use Rattle.survey.proofs.Laws.Scan.{surveying_goes_on, surveying_stops, surveying_ends, larger_replaces, smaller_leaves}
use Rattle.survey.proofs.surveys.survey_fields.Goals as goal
use Rattle.survey.proofs.surveys.survey_fields.Goals.{then-most-larger, else-most-larger}

pub returns-then-is_wide : goal.returns-then-is_wide
returns-then-is_wide c =
    surveying_stops _ c.loop-at.invariant c.loop-at-test.true (sym (wide_by_end _ _ c.if-is_wide.ensures c.fields_of-fields.ensures.1))

pub invariant_of-larger_of : goal.invariant_of-larger_of
invariant_of-larger_of c =
    record {
      good =
          rw (value_by_first c.args.good.shape _ c.entry-j.ensures c.fields_of-fields.ensures.0)
          (good_field _ (record { widths = c.args.good.good; interval = omega (arith, c.requires) })
          (sym (wide_by_end _ _ c.if-is_wide.ensures c.fields_of-fields.ensures.1)));
    }

pub loop-at-preserved : goal.loop-at-preserved
loop-at-preserved c =
    let loop = c.loop-at in
    let s = c.args.good.shape in
    let n = c.args.first + loop.at in
    let old : Figures = record { worst = loop.most.0; n = loop.place.0; side = side_by_middle (unit s) loop.middle } in
    let new : Figures = entry_figures s n (get_or c.args.cells.now loop.at 0) in
    let is = rw (value_by_first s _ c.entry-j.ensures c.fields_of-fields.ensures.0) at c.larger_of-larger.ensures in
    let inside = c.loop-at-test.true in
    let narrow = sym (wide_by_end _ _ c.if-is_wide.ensures c.fields_of-fields.ensures.1) in
    elim c.if-most-larger.branch [
      | then-most-larger w ↦
          rw (w.most-is, w.place-is, w.middle-is)
          (surveying_goes_on c.args.cells.now loop.invariant inside narrow
          (ap₂ (λ (worst side : ℕ). record { worst = worst; n = n; side = side }) is.0 is.1
          ∙ larger_replaces old new (rw is.0 at w.if-most-larger.true)))
      | else-most-larger w ↦
          rw (w.most-is, w.place-is, w.middle-is)
          (surveying_goes_on c.args.cells.now loop.invariant inside narrow (smaller_leaves old new (rw is.0 at w.if-most-larger.false)))
    ]

pub returns : goal.returns
returns c = rw c.side_of.ensures (surveying_ends _ c.loop-at.invariant (omega arith))
