-- `verdict::check` meets its contract: its tests are those of the table's fields, and it scans the table, which is the first 2^k cells.
-- Assumes nothing.
use mathlib.Core.List.{[]}
use mathlib.Core.Path.{◌∙◌}
use native.Mathlib.Omega.{arith}
use lib.ListN.{length-take}
use Rattle.units.proofs.Laws.Tests.{handed_on, fault_so, done_by}
use Rattle.table.specs.Wide.{field_tests}
use Rattle.table.proofs.Laws.Fields.{fields_done}
use Rattle.table.proofs.Laws.Good.{good_fields}
use Rattle.verdict.specs.Check.{refused, reported}
use Rattle.verdict.proofs.check.Goals as goal

pub returns-in_err-good : goal.returns-in_err-good
returns-in_err-good c =
    handed_on reported _ _ c.from_residual.ensures.1
    ∙ fault_so refused _ (field_tests c.args.shape c.args.table.now) [] _ c.in_err-good.ensures.answer

pub slice_bounds-scan-end : goal.slice_bounds-scan-end
slice_bounds-scan-end c =
    let enough = (fields_done c.args.shape c.args.table.now c.in_ok-good.ensures.answer).table.enough in
    simp length-take (omega (arith, c.power-size.ensures, enough))

pub scan-requires-clause-narrow : goal.scan-requires-clause-narrow
scan-requires-clause-narrow c =
    rw (c.in_ok-good.ensures.same, c.power-size.ensures)
    (fields_done c.args.shape c.args.table.now c.in_ok-good.ensures.answer).narrow

pub returns : goal.returns
returns c =
    let s = c.args.shape in
    (rw (c.in_ok-good.ensures.same, c.power-size.ensures) at c.scan.ensures)
    ∙ done_by refused _ (field_tests s c.args.table.now) (good_fields (fields_done s c.args.table.now c.in_ok-good.ensures.answer))
