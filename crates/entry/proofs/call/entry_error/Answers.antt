-- `entry::entry_error` meets its contract: its tests are those of `entry_report`, and where they pass its errors are the entry's.
-- Assumes nothing.
use mathlib.Core.List.{[]}
use mathlib.Core.Path.{◌∙◌}
use native.Mathlib.Omega.{arith}
use Rattle.units.proofs.Laws.Tests.{handed_on, fault_so, done_so, done_by}
use Rattle.entry.specs.Report.{refused, reported, entry_tests}
use Rattle.entry.proofs.call.entry_error.Goals as goal

pub returns-in_err-entry : goal.returns-in_err-entry
returns-in_err-entry c =
    handed_on reported _ _ c.from_residual.ensures.1
    ∙ fault_so refused _ (entry_tests c.args.shape c.args.n.0 c.args.f) [] _ c.in_err-entry.ensures.answer

pub returns : goal.returns
returns c =
    let errors = c.errors_of.ensures in
    let is = c.in_ok-entry.ensures.same in
    let tests = entry_tests c.args.shape c.args.n.0 c.args.f in
    simp (errors.low_is, errors.high_is, errors.worst_is, errors.side_is, is.0, is.1.0, is.1.1)
    (done_by refused _ tests (done_so tests (omega arith) c.in_ok-entry.ensures.answer))
