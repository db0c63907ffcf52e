-- The facts of a list of tests that passed, by name, and the list from its facts. Assumes nothing.
use Prim.Native.Nat.{ℕ, ◌^◌, ◌≤◌}
use mathlib.Core.Path.{◌≡◌}
use mathlib.Core.List.{List, [], ◌∷◌}
use borrow.Author.Tests.{ltb-false, leb-false, le-ltb, lt-leb}
use lib.ListN.{length, take}
use lib.Seq.{length-take-le}
use Rattle.units.specs.Refusals.{width_tests, table_tests, few_cells, divisor}
use Rattle.units.specs.Inner.Good.{GoodTable}
use Rattle.units.specs.declared.shapes.Shape.{Shape}
use Rattle.units.proofs.Laws.Good.{widths_good, good_widths, table_good, good_table}
use Rattle.units.proofs.Laws.Tests.{Passed, passed_parts, passed_also, not_outside, within}
use Rattle.table.specs.Banks.{bank_name, bank_place, named_tests, view_tests}
use Rattle.table.specs.Build.{bank_tests}
use Rattle.table.specs.Inner.Good.{GoodBank, GoodNamed, GoodView, GoodBuild, GoodFields, GoodLookup}
use Rattle.table.specs.Lookup.{divisor_tests}
use Rattle.table.specs.Wide.{wide_among, field_tests}

module _ {k h b : ℕ} where
  pub bank_good : 1 ≤ k → k ≤ 15 → Passed (bank_name k h b) → GoodBank k h b
  bank_good some narrow p = record { some = some; narrow = narrow; low = ltb-false k h p.0; number = leb-false (2 ^ h) b p.1.0 }

  pub good_bank : GoodBank k h b → Passed (bank_name k h b)
  good_bank g = (le-ltb k h g.low, (lt-leb (2 ^ h) b g.number, tt))

  module _ {lent : ℕ} where
    bank_place_good : 1 ≤ k → k ≤ 15 → Passed (bank_place k h b lent) → GoodView k h b lent
    bank_place_good some narrow p =
        let parts = passed_parts (bank_name k h b) (few_cells lent (2 ^ k) ∷ []) p in
        record { bank = bank_good some narrow parts.0; enough = ltb-false lent (2 ^ k) parts.1.0 }

    good_bank_place : GoodView k h b lent → Passed (bank_place k h b lent)
    good_bank_place g =
        passed_also (bank_name k h b) (few_cells lent (2 ^ k) ∷ []) (good_bank g.bank) (le-ltb lent (2 ^ k) g.enough, tt)

    pub view_good : Passed (view_tests k h b lent) → GoodView k h b lent
    view_good p =
        let range = not_outside 1 15 k p.0 in
        bank_place_good range.0 range.1 p.1

    pub good_view : GoodView k h b lent → Passed (view_tests k h b lent)
    good_view g = (within 1 15 k g.bank.some g.bank.narrow, good_bank_place g)

module _ {s : Shape} {h b : ℕ} where
  pub named_good : Passed (named_tests s h b) → GoodNamed s h b
  named_good p =
      let parts = passed_parts (width_tests s) (bank_name s.k h b) p in
      let widths = widths_good parts.0 in
      record { widths = widths; bank = bank_good widths.some_in widths.narrow_in parts.1 }

  pub good_named : GoodNamed s h b → Passed (named_tests s h b)
  good_named g = passed_also (width_tests s) (bank_name s.k h b) (good_widths g.widths) (good_bank g.bank)

module _ {s : Shape} {h b lent : ℕ} where
  pub build_good : Passed (bank_tests s h b lent) → GoodBuild s h b lent
  build_good p =
      let parts = passed_parts (width_tests s) (bank_place s.k h b lent) p in
      let widths = widths_good parts.0 in
      record { widths = widths; view = bank_place_good widths.some_in widths.narrow_in parts.1 }

  pub good_build : GoodBuild s h b lent → Passed (bank_tests s h b lent)
  good_build g = passed_also (width_tests s) (bank_place s.k h b lent) (good_widths g.widths) (good_bank_place g.view)

-- a table is its 2^k cells
pub table_size : {s : Shape} (cells : List ℕ) → GoodTable s (length cells) → length (take (2 ^ s.k) cells) ≡ 2 ^ s.k
table_size {s} cells g = length-take-le (2 ^ s.k) cells g.enough

module _ {s : Shape} {cells : List ℕ} where
  pub fields_good : Passed (field_tests s cells) → GoodFields s cells
  fields_good p =
      let parts = passed_parts (table_tests s (length cells)) (wide_among s 0 (take (2 ^ s.k) cells) ∷ []) p in
      record { table = table_good parts.0; narrow = parts.1.0 }

  pub good_fields : GoodFields s cells → Passed (field_tests s cells)
  good_fields g =
      passed_also (table_tests s (length cells)) (wide_among s 0 (take (2 ^ s.k) cells) ∷ []) (good_table g.table) (g.narrow, tt)

module _ {s : Shape} {x lent : ℕ} where
  pub lookup_good : Passed (divisor_tests s x lent) → GoodLookup s x lent
  lookup_good p =
      let parts = passed_parts (table_tests s lent) (divisor x ∷ []) p in
      let range = not_outside 1 65535 x parts.1.0 in
      record { table = table_good parts.0; some = range.0; to = range.1 }

  pub good_lookup : GoodLookup s x lent → Passed (divisor_tests s x lent)
  good_lookup g =
      passed_also (table_tests s lent) (divisor x ∷ []) (good_table g.table) (within 1 65535 x g.some g.to, tt)
