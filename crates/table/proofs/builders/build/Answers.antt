-- `table::build` meets its contract: a table is its own one bank at h = 0. Assumes nothing.
use mathlib.Core.Path.{refl, ◌∙◌}
use native.Mathlib.Omega.{arith}
use lib.ListN.{length}
use Rattle.units.specs.Refusals.{Reply, reply}
use Rattle.table.proofs.Laws.Whole.{whole_tests, whole_built}
use Rattle.table.proofs.builders.build.Goals as goal

pub returns-clause-answer : goal.returns-clause-answer
returns-clause-answer c =
    c.build_bank.ensures.answer ∙ whole_tests (λ (b : Reply). b) (reply 0 0) c.args.shape _ (length c.args.table.now) (omega arith)

pub returns-clause-cells : goal.returns-clause-cells
returns-clause-cells c = c.build_bank.ensures.cells ∙ whole_built c.args.shape _ c.args.table.now refl
