-- `entry::least` meets its contract: the rule's value reaches the least worst error. Assumes nothing.
use mathlib.Core.Path.{ap, ◌∙◌}
use Rattle.entry.specs.Errors.{unit, i_of, worst}
use Rattle.entry.proofs.Laws.Good.{good_value}
use Rattle.entry.proofs.Laws.Table.{rule_in_range, rule_value_reaches_least}
use Rattle.entry.proofs.choice.least.Goals as goal

pub invariant_of-larger_of : goal.invariant_of-larger_of
invariant_of-larger_of c =
    let place = c.args.place in
    record { good = rw c.best.ensures (good_value place.good (rule_in_range place.shape place.good.interval)) }

pub returns : goal.returns
returns c =
    let place = c.args.place in
    c.larger_of.ensures.0
    ∙ ap (worst (unit place.shape) (i_of place.shape place.n.0)) c.best.ensures
    ∙ rule_value_reaches_least place.shape place.good.interval
