-- The laws of findings, of what the surveys report. Assumes nothing.
use Prim.Native.Nat.{ℕ, ◌+◌, ◌^◌, ◌≤◌, ◌<◌}
use mathlib.Core.Bool.{false}
use mathlib.Core.List.{List, [], ◌∷◌, ◌++◌}
use mathlib.Core.Path.{◌≡◌, sym, ap, ◌∙◌, subst}
use native.Mathlib.Omega.{arith}
use borrow.Author.Tests.{le-ltb}
use lib.ListN.{length, take, drop}
use lib.Pow.{pow_pos}
use lib.Seq.{get_or-take, get_or-drop}
use Rattle.units.specs.Refusals.{Test, few_cells, table_tests}
use Rattle.units.specs.declared.shapes.Shape.{Shape}
use Rattle.units.proofs.Laws.Good.{good_table}
use Rattle.units.proofs.Laws.Tests.{Passed, passed_also, done_by}
use Rattle.entry.specs.Fields.{is_wide}
use Rattle.table.specs.Banks.{bank_size, bank_start, bank_of, named_tests}
use Rattle.table.specs.Inner.Good.{GoodBank, GoodFields}
use Rattle.table.specs.Wide.{any_wide, wide_among}
use Rattle.table.proofs.Laws.Banks.{bank_within}
use Rattle.table.proofs.Laws.Good.{good_fields, good_named, table_size}
use Rattle.table.proofs.Laws.Shown.{bank_whole}
use Rattle.table.proofs.Laws.First.{all_none, each_none}
use Rattle.survey.specs.Finding.{Figures, fresh, finding_over}
use Rattle.survey.specs.Survey.{Report, refused, surveyed, survey_after, survey_report, bank_of_report}
use Rattle.survey.specs.Tally.{started, tallied_all}
use Rattle.survey.proofs.Laws.Join.{LargestBank, bank_figures, banks_give_whole, whole_is_largest_bank}
use Rattle.survey.proofs.Laws.Largest.{Largest, survey_is_largest}
use Rattle.survey.proofs.Laws.Tallied.{tally_is_survey}

-- where no test refuses, the finding is that over the fields
finding_is : (tests : List Test) (s : Shape) (n : ℕ) (fields : List ℕ) → Passed tests → any_wide s fields ≡ false
    → (survey_after tests s n fields).finding ≡ finding_over s n fields fresh
finding_is tests s n fields passed narrow =
    ap (λ (r : Report). r.finding)
    (sym
    (done_by refused (surveyed (finding_over s n fields fresh)) (tests ++ (wide_among s n fields ∷ []))
    (passed_also tests (wide_among s n fields ∷ []) passed (narrow, tt))))

module _ (s : Shape) (cells : List ℕ) (good : GoodFields s cells) where
  size : length (take (2 ^ s.k) cells) ≡ 2 ^ s.k
  size = table_size cells good.table

  table_finding : (survey_report s cells).finding ≡ finding_over s 0 (take (2 ^ s.k) cells) fresh
  table_finding = finding_is (table_tests s (length cells)) s 0 (take (2 ^ s.k) cells) (good_table good.table) good.narrow

  -- Document 01: Survey "gives the largest worst error, the smallest n that has it, and that entry's side"
  pub survey_reports_largest : Largest s 0 (take (2 ^ s.k) cells) (survey_report s cells).finding
  survey_reports_largest =
      rw table_finding (survey_is_largest s 0 (take (2 ^ s.k) cells) (omega (arith, size, pow_pos s.k)))

  -- "A running tally takes one entry at a time": over all fields of the table it has the survey's finding
  pub survey_is_tallied : survey_report s cells ≡ surveyed (tallied_all (started s 0) (take (2 ^ s.k) cells)).finding
  survey_is_tallied =
      tally_is_survey (table_tests s (length cells)) s 0 (take (2 ^ s.k) cells) good.table.widths (omega (arith, size)) (good_fields good)

  module _ (h : ℕ) (low : h ≤ s.k) where
    module _ (b : ℕ) (number : b < 2 ^ h) where
      good_bank : GoodBank s.k h b
      good_bank =
          record { some = good.table.widths.some_in; narrow = good.table.widths.narrow_in; low = low; number = number }

      within : bank_start s.k h b + bank_size s.k h ≤ 2 ^ s.k
      within = bank_within s.k h b low number

      bank_size_lem : length (bank_of s.k h b cells) ≡ bank_size s.k h
      bank_size_lem = bank_whole s.k h b cells (record { bank = good_bank; enough = good.table.enough })

      bank_narrow : any_wide s (bank_of s.k h b cells) ≡ false
      bank_narrow =
          each_none (is_wide s) (bank_of s.k h b cells)
          (λ i inside.
          let i_in : i < bank_size s.k h = omega (arith, bank_size_lem) in
          subst (λ (f : ℕ). is_wide s f ≡ false)
          (get_or-take (2 ^ s.k) cells (bank_start s.k h b + i) 0 (omega (arith, within))
          ∙ sym (get_or-drop (bank_start s.k h b) cells i 0)
          ∙ sym (get_or-take (bank_size s.k h) (drop (bank_start s.k h b) cells) i 0 i_in))
          (all_none (is_wide s) (take (2 ^ s.k) cells) good.narrow (bank_start s.k h b + i) (omega (arith, size, within))))

      abbrev tests : List Test
      tests = named_tests s h b ++ (few_cells (length cells) (bank_start s.k h b + bank_size s.k h) ∷ [])

      passed : Passed tests
      passed =
          passed_also (named_tests s h b) (few_cells (length cells) (bank_start s.k h b + bank_size s.k h) ∷ [])
          (good_named (record { widths = good.table.widths; bank = good_bank }))
          (le-ltb (length cells) (bank_start s.k h b + bank_size s.k h) (omega (arith, within, good.table.enough)), tt)

      bank_finding : (bank_of_report s h b cells).finding ≡ bank_figures s h cells b
      bank_finding = finding_is tests s (bank_start s.k h b) (bank_of s.k h b cells) passed bank_narrow

      -- and over all fields of a bank that bank's
      pub bank_is_tallied : bank_of_report s h b cells ≡ surveyed (tallied_all (started s (bank_start s.k h b)) (bank_of s.k h b cells)).finding
      bank_is_tallied =
          tally_is_survey tests s (bank_start s.k h b) (bank_of s.k h b cells) good.table.widths (omega (arith, within, bank_size_lem))
          (passed_also tests (wide_among s (bank_start s.k h b) (bank_of s.k h b cells) ∷ []) passed (bank_narrow, tt))

    -- of the banks' reports, the one with the largest worst error and, of equal ones, the smallest n
    pub record LargestReport (f : Figures) : Type 0 where
      pub b : ℕ
      pub number : b < 2 ^ h
      pub is : f ≡ (bank_of_report s h b cells).finding
      pub largest : (c : ℕ) → c < 2 ^ h → (bank_of_report s h c cells).finding.worst ≤ f.worst
      pub smallest : (c : ℕ) → c < 2 ^ h → (bank_of_report s h c cells).finding.worst ≡ f.worst → f.n ≤ (bank_of_report s h c cells).finding.n

    -- is the report of the whole table
    pub banks_report_whole : {f : Figures} → LargestReport f → f ≡ (survey_report s cells).finding
    banks_report_whole {f} r =
        banks_give_whole s h cells low good.table.enough
        (record {
          b = r.b;
          number = r.number;
          is = r.is ∙ bank_finding r.b r.number;
          largest = λ c l. subst (λ (x : Figures). x.worst ≤ f.worst) (bank_finding c l) (r.largest c l);
          smallest =
              λ c l.
              subst (λ (x : Figures). x.worst ≡ f.worst → f.n ≤ x.n) (bank_finding c l) (r.smallest c l);
        })
        ∙ sym table_finding

    -- and the report of the whole table is one, so a largest there always is
    pub whole_reports_largest : LargestReport (survey_report s cells).finding
    whole_reports_largest =
        let j : LargestBank s h cells (survey_report s cells).finding = rw table_finding (whole_is_largest_bank s h cells low good.table.enough) in
        record {
          b = j.b;
          number = j.number;
          is = j.is ∙ sym (bank_finding j.b j.number);
          largest =
              λ c l. subst (λ (x : Figures). x.worst ≤ (survey_report s cells).finding.worst) (sym (bank_finding c l)) (j.largest c l);
          smallest =
              λ c l.
              subst (λ (x : Figures). x.worst ≡ (survey_report s cells).finding.worst → (survey_report s cells).finding.n ≤ x.n)
              (sym (bank_finding c l)) (j.smallest c l);
        }
