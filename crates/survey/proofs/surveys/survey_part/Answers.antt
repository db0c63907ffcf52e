-- `survey::survey_part` meets its contract: the cells up to `end` are lent, or they are too few. Assumes nothing.
use mathlib.Core.List.{[], ◌∷◌}
use mathlib.Core.Path.{◌∙◌}
use borrow.Author.Tests.{lt-ltb, le-ltb}
use lib.ListN.{length}
use Rattle.units.specs.Refusals.{few_cells}
use Rattle.units.proofs.Laws.Tests.{refused_after}
use Rattle.survey.specs.Survey.{refused}
use Rattle.survey.proofs.Laws.Scan.{after_passed}
use Rattle.survey.proofs.surveys.survey_part.Goals as goal

pub returns-then-cells-part : goal.returns-then-cells-part
returns-then-cells-part c =
    refused_after refused _ [] (few_cells (length c.args.cells.now) c.args.part.end) _ tt (lt-ltb _ _ c.if-cells-part.true)

pub returns : goal.returns
returns c =
    c.survey_fields.ensures
    ∙ after_passed (few_cells (length c.args.cells.now) c.args.part.end ∷ []) [] c.args.good.shape c.args.first _ (le-ltb _ _ c.if-cells-part.false, tt)
