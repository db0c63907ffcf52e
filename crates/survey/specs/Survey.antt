-- The answers of "Survey" and of the bank surveys. Document 01, "The calls" and "Refusal numbers and their order". Assumes nothing.
use Rattle.std.specs.Prelude.{ℕ, ◌+◌, ◌^◌, List, [], ◌∷◌, ◌++◌, length, take, Result, Ok, Err}
use Rattle.units.specs.Refusals.{Reply, fault_reply, Test, answer, table_tests, few_cells}
use Rattle.units.specs.declared.shapes.Shape.{Shape}
use Rattle.table.specs.Banks.{bank_size, bank_start, bank_of, named_tests}
use Rattle.table.specs.Wide.{wide_among}
use Rattle.survey.specs.Finding.{Figures, fresh, finding_over}
use Rattle.survey.specs.Tally.{figures_of}
use Rattle.survey.specs.declared.tallies.Finding.{Finding}
use Rattle.units.specs.declared.refusals.Fault.{Fault}

-- "the largest worst error, the smallest n that has it, and that entry's side"; with 5 only n. "Fields that an answer doesn't use are zero."
pub record Report : Type 0 where
  pub number : ℕ
  pub finding : Figures

abbrev pub refused : Reply → Report
refused b = record { number = b.number; finding = record { worst = 0; n = b.n; side = 0 } }

abbrev pub surveyed : Figures → Report
surveyed f = record { number = 0; finding = f }

-- what each case of the answer says in document 01's numbers
abbrev pub reported : Result Finding Fault → Report
reported (Ok f) = surveyed (figures_of f)
reported (Err fault) = refused (fault_reply fault)

-- the survey of some fields, the first of them that of interval n, after a call's other tests: "Survey and check look for 5 in the whole
-- lent table (or bank) first; a bank survey names that n in the whole table."
abbrev pub survey_after : List Test → Shape → ℕ → List ℕ → Report
survey_after tests s n fields = answer refused (surveyed (finding_over s n fields fresh)) (tests ++ (wide_among s n fields ∷ []))

-- "Survey reads any table": 1, 2, 3, 5
abbrev pub survey_report : Shape → List ℕ → Report
survey_report s cells = survey_after (table_tests s (length cells)) s 0 (take (2 ^ s.k) cells)

-- "A bank can be surveyed by itself, given its number; it then answers with n counted in the whole table": given its own cells; 3 is
-- "fewer than 2^(k-h) in the bank"
abbrev pub bank_report : Shape → ℕ → ℕ → List ℕ → Report
bank_report s h b cells =
    survey_after (named_tests s h b ++ (few_cells (length cells) (bank_size s.k h) ∷ [])) s (bank_start s.k h b)
    (take (bank_size s.k h) cells)

-- and given the table: 3 where the bank's last cell is not lent
abbrev pub bank_of_report : Shape → ℕ → ℕ → List ℕ → Report
bank_of_report s h b table =
    survey_after (named_tests s h b ++ (few_cells (length table) (bank_start s.k h b + bank_size s.k h) ∷ [])) s (bank_start s.k h b)
    (bank_of s.k h b table)
