-- `entry::best` meets its contract. Assumes nothing.
use mathlib.Core.Path.{ap, ◌∙◌}
use Rattle.entry.specs.Errors.{j_of}
use Rattle.entry.proofs.Laws.Table.{rule_field_is}
use Rattle.entry.proofs.choice.best.Goals as goal

pub returns : goal.returns
returns c =
    c.entry_of.ensures ∙ ap (j_of c.args.place.shape) c.best_field.ensures ∙ rule_field_is c.args.place.shape c.args.place.good.interval
