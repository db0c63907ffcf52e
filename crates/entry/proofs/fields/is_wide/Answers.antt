-- `entry::is_wide` meets its contract. Assumes nothing.
use Rattle.entry.proofs.Laws.Fields.{wide_by_end}
use Rattle.entry.proofs.fields.is_wide.Goals as goal

pub returns : goal.returns
returns c = wide_by_end _ _ c.is_wide.ensures c.fields_of.ensures.1
