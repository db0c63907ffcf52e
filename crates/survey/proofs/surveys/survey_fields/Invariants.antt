-- What is left of the survey, from the finding so far, is the whole survey.
use Rattle.entry.specs.Errors.{unit}
use Rattle.entry.specs.Inner.Products.{side_by_middle}
use Rattle.survey.proofs.Laws.Scan.{Surveying}
use Rattle.survey.proofs.surveys.survey_fields.Given as goal

abbrev pub invariant-loop-at : goal.invariant-loop-at
invariant-loop-at l =
    Surveying l.shape l.first l.cells (record { worst = l.most.0; n = l.place.0; side = side_by_middle (unit l.shape) l.middle }) l.at
