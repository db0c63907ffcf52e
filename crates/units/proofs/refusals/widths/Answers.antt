-- `units::widths` meets its contract: the two tests, one after the other. Assumes nothing.
use mathlib.Core.List.{[], ◌∷◌}
use native.Mathlib.Omega.{arith}
use Rattle.units.specs.Refusals.{input_width, output_width, width_tests}
use Rattle.units.proofs.Laws.Tests.{then_so, done_so}
use Rattle.units.proofs.Laws.Good.{widths_good}
use Rattle.units.proofs.refusals.widths.Goals as goal

pub invariant_of-result : goal.invariant_of-result
invariant_of-result c =
    record {
      good =
          widths_good
          (done_so (width_tests c.args.shape) (omega arith)
          (then_so (input_width _ ∷ []) (output_width _ ∷ []) (omega arith) c.in_ok-input_width.ensures c.in_ok-output_width.ensures));
    }
