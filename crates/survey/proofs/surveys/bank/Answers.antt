-- `survey::bank` meets its contract: its tests are those of the report, and the part that it hands on is the bank's. Assumes nothing.
use mathlib.Core.Path.{◌∙◌}
use native.Mathlib.Nat.{sub-zero}
use native.Mathlib.Omega.{arith}
use Rattle.units.proofs.Laws.Tests.{handed_on}
use Rattle.table.specs.Banks.{bank_size}
use Rattle.table.proofs.Laws.Located.{at_is_bank, not_named}
use Rattle.survey.specs.Survey.{refused, reported}
use Rattle.survey.proofs.Laws.Named.{named_passed}
use Rattle.survey.proofs.surveys.bank.Goals as goal

pub returns-in_err-bank : goal.returns-in_err-bank
returns-in_err-bank c =
    handed_on reported _ _ c.from_residual.ensures.1 ∙ not_named c.args.shape _ _ refused _ _ _ c.in_err-bank.ensures

pub overflow_sub-size : goal.overflow_sub-size
overflow_sub-size c = omega (arith, (at_is_bank c.args.shape c.args.h c.args.b _ c.in_ok-bank.ensures).ends)

pub overflow_cast-bank : goal.overflow_cast-bank
overflow_cast-bank c = omega (arith, (at_is_bank c.args.shape c.args.h c.args.b _ c.in_ok-bank.ensures).ends)

pub invariant_of-survey_part : goal.invariant_of-survey_part
invariant_of-survey_part c = record { good = (at_is_bank c.args.shape c.args.h c.args.b _ c.in_ok-bank.ensures).named.widths }

pub survey_part-requires : goal.survey_part-requires
survey_part-requires c = omega (arith, (at_is_bank c.args.shape c.args.h c.args.b _ c.in_ok-bank.ensures).ends)

pub returns : goal.returns
returns c =
    let is = at_is_bank c.args.shape c.args.h c.args.b _ c.in_ok-bank.ensures in
    (rw (is.size_is, is.first_is, sub-zero (bank_size _ _)) at c.survey_part.ensures) ∙ named_passed c.args.shape c.args.h c.args.b _ is _ _ _
