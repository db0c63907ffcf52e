-- `entry::best_field` meets its contract. Assumes nothing.
use mathlib.Core.Path.{◌∙◌}
use Rattle.entry.proofs.Laws.Quotient.{quotient_has_next, quotient_is_field}
use Rattle.entry.proofs.choice.best_field.Goals as goal

pub next-requires : goal.next-requires
next-requires c = quotient_has_next c.args.place.good c.quotient_before.ensures

pub returns : goal.returns
returns c =
    c.field.ensures
    ∙ rw c.next.ensures (quotient_is_field c.args.place.good c.quotient_before.ensures)
