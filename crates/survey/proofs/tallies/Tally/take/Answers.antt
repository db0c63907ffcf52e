-- `survey::Tally::take` meets its contract: its tests are those of `entry_tests` at the next n. Assumes nothing.
use mathlib.Core.Path.{ap, ◌∙◌}
use native.Mathlib.Omega.{arith}
use Rattle.units.specs.Refusals.{reply}
use Rattle.units.proofs.Laws.Tests.{done_so, done_by}
use Rattle.entry.specs.Report.{entry_tests}
use Rattle.survey.specs.Tally.{State, state_of, handed_back}
use Rattle.survey.proofs.tallies.Tally.take.Goals as goal

pub returns-in-Ok : goal.returns-in-Ok
returns-in-Ok c =
    let t = c.args.self in
    let tests = entry_tests t.shape t.next.0 c.args.f in
    ap (λ (t : State). handed_back t (reply 0 0)) c.add.ensures
    ∙ done_by (handed_back (state_of t)) _ tests (done_so tests (omega arith) c.in-Ok.ensures.answer)
