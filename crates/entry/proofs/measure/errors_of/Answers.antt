-- `entry::errors_of` meets its contract: the products are those of low and high. Assumes nothing.
use mathlib.Core.Path.{ap, ◌∙◌}
use native.Mathlib.Omega.{arith}
use Rattle.entry.specs.Inner.Products.{side_by_middle}
use Rattle.entry.proofs.Laws.Products.{products_measure, products_larger, products_apart}
use Rattle.entry.proofs.measure.errors_of.Goals as goal

pub larger-larger-requires : goal.larger-larger-requires
larger-larger-requires c = products_apart c.args.entry.good c.products_of-e.ensures

pub difference-requires : goal.difference-requires
difference-requires c = omega (arith, products_apart c.args.entry.good c.products_of-e.ensures)

pub returns-clause-low_is : goal.returns-clause-low_is
returns-clause-low_is c = c.difference.ensures ∙ (products_measure _ _ _ c.products_of-e.ensures).0

pub returns-clause-high_is : goal.returns-clause-high_is
returns-clause-high_is c = c.difference-2.ensures ∙ (products_measure _ _ _ c.products_of-e.ensures).1

pub returns-clause-worst_is : goal.returns-clause-worst_is
returns-clause-worst_is c = c.larger-larger.ensures.0 ∙ (products_larger _ _ _ c.products_of-e.ensures c.args.entry.good.above_0).0

pub returns-clause-side_is : goal.returns-clause-side_is
returns-clause-side_is c =
    c.side_of.ensures
    ∙ ap (side_by_middle _) c.larger-larger.ensures.1
    ∙ (products_larger _ _ _ c.products_of-e.ensures c.args.entry.good.above_0).1
