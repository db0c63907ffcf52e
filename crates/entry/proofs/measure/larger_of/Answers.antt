-- `entry::larger_of` meets its contract: the products are those of low and high. Assumes nothing.
use mathlib.Core.Path.{ap, ◌∙◌}
use Rattle.entry.specs.Inner.Products.{side_by_middle}
use Rattle.entry.proofs.Laws.Products.{products_larger, products_apart}
use Rattle.entry.proofs.measure.larger_of.Goals as goal

pub larger-requires : goal.larger-requires
larger-requires c = products_apart c.args.entry.good c.products_of.ensures

pub returns : goal.returns
returns c =
    let is = products_larger _ _ _ c.products_of.ensures c.args.entry.good.above_0 in
    (c.larger.ensures.0 ∙ is.0, ap (side_by_middle _) c.larger.ensures.1 ∙ is.1)
