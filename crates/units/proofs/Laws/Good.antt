-- The facts of a list of tests that passed, by name, and the list from its facts. Assumes nothing.
use Prim.Native.Nat.{ℕ, ◌^◌}
use mathlib.Core.List.{[], ◌∷◌}
use borrow.Author.Tests.{ltb-false, le-ltb}
use Rattle.units.specs.Refusals.{few_cells, width_tests, table_tests}
use Rattle.units.specs.Inner.Good.{GoodWidths, GoodTable}
use Rattle.units.specs.declared.shapes.Shape.{Shape}
use Rattle.units.proofs.Laws.Tests.{Passed, passed_parts, passed_also, not_outside, within}

module _ {s : Shape} where
  pub widths_good : Passed (width_tests s) → GoodWidths s
  widths_good p =
      let k = not_outside 1 15 s.k p.0 in
      let m = not_outside 1 15 s.m p.1.0 in
      record { some_in = k.0; narrow_in = k.1; some_out = m.0; narrow_out = m.1 }

  pub good_widths : GoodWidths s → Passed (width_tests s)
  good_widths g = (within 1 15 s.k g.some_in g.narrow_in, (within 1 15 s.m g.some_out g.narrow_out, tt))

  module _ {lent : ℕ} where
    pub table_good : Passed (table_tests s lent) → GoodTable s lent
    table_good p =
        let parts = passed_parts (width_tests s) (few_cells lent (2 ^ s.k) ∷ []) p in
        record { widths = widths_good parts.0; enough = ltb-false lent (2 ^ s.k) parts.1.0 }

    pub good_table : GoodTable s lent → Passed (table_tests s lent)
    good_table g =
        passed_also (width_tests s) (few_cells lent (2 ^ s.k) ∷ []) (good_widths g.widths) (le-ltb lent (2 ^ s.k) g.enough, tt)
