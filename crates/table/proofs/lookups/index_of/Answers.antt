-- `table::index_of` meets its contract: the quotient's first bit is that of X, which is taken off. Assumes nothing.
use Rattle.table.proofs.Laws.Lookup.{rest_is_index}
use Rattle.table.proofs.lookups.index_of.Goals as goal

pub returns : goal.returns
returns c = rest_is_index c.args.good.shape c.args.x c.args.good.good.narrow_in c.requires.0 c.requires.1
