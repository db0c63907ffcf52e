-- `survey::whole` meets its contract: its tests are those of `survey_report`, and the fields are the first 2^k cells. Assumes nothing.
use Prim.Native.Nat.{◌^◌}
use mathlib.Core.List.{[], ◌∷◌}
use mathlib.Core.Path.{◌∙◌}
use native.Mathlib.Nat.{sub-zero}
use native.Mathlib.Omega.{arith}
use lib.ListN.{length}
use Rattle.units.specs.Refusals.{few_cells, width_tests}
use Rattle.units.proofs.Laws.Tests.{handed_on, done_so, refused_so}
use Rattle.survey.specs.Survey.{refused, reported}
use Rattle.survey.proofs.Laws.Scan.{after_passed}
use Rattle.survey.proofs.surveys.whole.Goals as goal

pub returns-in_err-good : goal.returns-in_err-good
returns-in_err-good c =
    handed_on reported _ _ c.from_residual.ensures.1 ∙ refused_so refused _ (width_tests c.args.shape) _ _ c.in_err-good.ensures.answer

pub returns : goal.returns
returns c =
    let s = c.args.shape in
    (rw (c.in_ok-good.ensures.same, c.power.ensures, sub-zero (2 ^ s.k)) at c.survey_part.ensures)
    ∙ after_passed (width_tests s) (few_cells (length c.args.table.now) (2 ^ s.k) ∷ []) s 0 _
    (done_so (width_tests s) (omega arith) c.in_ok-good.ensures.answer)
