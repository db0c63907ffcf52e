-- What a build that is done leaves in each cell. Assumes nothing.
use Prim.Native.Nat.{ℕ, ◌+◌, ◌^◌, ◌≤◌, ◌<◌}
use mathlib.Core.List.{List}
use mathlib.Core.Path.{◌≡◌, sym, ap, ◌∙◌}
use native.Mathlib.Omega.{arith}
use lib.ListN.{length, get_or}
use Rattle.units.specs.Refusals.{Reply, table_tests}
use Rattle.units.specs.Inner.Good.{GoodTable}
use Rattle.units.specs.declared.shapes.Shape.{Shape}
use Rattle.units.proofs.Laws.Good.{good_table}
use Rattle.units.proofs.Laws.Tests.{done_by}
use Rattle.entry.specs.Errors.{unit, i_of, j_of, worst}
use Rattle.entry.specs.Least.{least_worst}
use Rattle.entry.specs.Rule.{rule_value, rule_field}
use Rattle.entry.proofs.Laws.Table.{rule_field_is, rule_field_reaches_least}
use Rattle.table.specs.Banks.{bank_start, bank_size}
use Rattle.table.specs.Build.{filled, built, bank_tests, bank_built}
use Rattle.table.specs.Inner.Good.{GoodBuild}
use Rattle.table.proofs.Laws.Banks.{bank_within}
use Rattle.table.proofs.Laws.Good.{good_build}
use Rattle.table.proofs.Laws.Rows.{length_filled, filled_in, filled_before, filled_after}

module _ (s : Shape) (cells : List ℕ) (good : GoodTable s (length cells)) where
  fits : 0 + 2 ^ s.k ≤ length cells
  fits = omega (arith, good.enough)

  pub built_is : built s cells ≡ filled (rule_field s) 0 (2 ^ s.k) cells
  built_is =
      sym (done_by (λ (_ : Reply). cells) (filled (rule_field s) 0 (2 ^ s.k) cells) (table_tests s (length cells)) (good_table good))

  -- Demand 2: "is the entry that document 01 names where two are equally good"
  pub built_field : (n : ℕ) → n < 2 ^ s.k → get_or (built s cells) n 0 ≡ rule_field s n
  built_field n h = rw built_is (filled_in (rule_field s) 0 (2 ^ s.k) cells fits n (omega arith) (omega arith))

  pub built_entry : (n : ℕ) → n < 2 ^ s.k → j_of s (get_or (built s cells) n 0) ≡ rule_value s n
  built_entry n h = ap (j_of s) (built_field n h) ∙ rule_field_is s h

  -- Demand 2: "every entry built has the least worst relative error of all m-bit entries"
  pub built_reaches_least : (n : ℕ) → n < 2 ^ s.k → worst (unit s) (i_of s n) (j_of s (get_or (built s cells) n 0)) ≡ least_worst s n
  built_reaches_least n h =
      ap (λ (f : ℕ). worst (unit s) (i_of s n) (j_of s f)) (built_field n h) ∙ rule_field_reaches_least s h

  -- Document 01: "Cells after them keep their value."
  pub built_keeps : (n : ℕ) → 2 ^ s.k ≤ n → get_or (built s cells) n 0 ≡ get_or cells n 0
  built_keeps n h = rw built_is (filled_after (rule_field s) 0 (2 ^ s.k) cells fits n (omega arith))

  pub length_built : length (built s cells) ≡ length cells
  length_built = rw built_is (length_filled (rule_field s) 0 (2 ^ s.k) cells fits)

-- the same of a bank: "every entry built"
module _ (s : Shape) (h b : ℕ) (cells : List ℕ) (good : GoodBuild s h b (length cells)) where
  within : bank_start s.k h b + bank_size s.k h ≤ 2 ^ s.k
  within = bank_within s.k h b good.view.bank.low good.view.bank.number

  bank_fits : bank_start s.k h b + bank_size s.k h ≤ length cells
  bank_fits = omega (arith, within, good.view.enough)

  pub bank_built_is : bank_built s h b cells ≡ filled (rule_field s) (bank_start s.k h b) (bank_size s.k h) cells
  bank_built_is =
      sym
      (done_by (λ (_ : Reply). cells) (filled (rule_field s) (bank_start s.k h b) (bank_size s.k h) cells) (bank_tests s h b (length cells))
      (good_build good))

  module _ (n : ℕ) (from : bank_start s.k h b ≤ n) (to : n < bank_start s.k h b + bank_size s.k h) where
    pub bank_built_field : get_or (bank_built s h b cells) n 0 ≡ rule_field s n
    bank_built_field = rw bank_built_is (filled_in (rule_field s) (bank_start s.k h b) (bank_size s.k h) cells bank_fits n from to)

    pub bank_built_entry : j_of s (get_or (bank_built s h b cells) n 0) ≡ rule_value s n
    bank_built_entry = ap (j_of s) bank_built_field ∙ rule_field_is s (omega (arith, within))

    pub bank_built_reaches_least : worst (unit s) (i_of s n) (j_of s (get_or (bank_built s h b cells) n 0)) ≡ least_worst s n
    bank_built_reaches_least =
        ap (λ (f : ℕ). worst (unit s) (i_of s n) (j_of s f)) bank_built_field ∙ rule_field_reaches_least s (omega (arith, within))

  -- Document 01: "The call fills only that bank's cells": those before and after it keep their value
  pub bank_built_keeps_before : (n : ℕ) → n < bank_start s.k h b → get_or (bank_built s h b cells) n 0 ≡ get_or cells n 0
  bank_built_keeps_before n l = rw bank_built_is (filled_before (rule_field s) (bank_start s.k h b) (bank_size s.k h) cells bank_fits n l)

  pub bank_built_keeps_after : (n : ℕ) → bank_start s.k h b + bank_size s.k h ≤ n → get_or (bank_built s h b cells) n 0 ≡ get_or cells n 0
  bank_built_keeps_after n l = rw bank_built_is (filled_after (rule_field s) (bank_start s.k h b) (bank_size s.k h) cells bank_fits n l)

  pub length_bank_built : length (bank_built s h b cells) ≡ length cells
  length_bank_built = rw bank_built_is (length_filled (rule_field s) (bank_start s.k h b) (bank_size s.k h) cells bank_fits)
