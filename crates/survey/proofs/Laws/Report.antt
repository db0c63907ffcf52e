-- The answers can be read back from their numbers, so no two answers of a call have the same; and which of their values are zero.
-- Assumes nothing.
use Prim.Native.Nat.{ℕ, ◌+◌, ◌<◌, ◌^◌}
use mathlib.Core.Path.{◌≡◌, refl, ap}
use mathlib.Core.List.{List, [], ◌∷◌, ◌++◌}
use native.Mathlib.Omega.{arith}
use lib.ListN.{length, take}
use Rattle.units.specs.declared.counts.Side.{Side}
use Rattle.units.specs.Refusals.{Test, few_cells, table_tests}
use Rattle.units.specs.declared.shapes.Shape.{Shape}
use Rattle.units.proofs.Laws.OneToOne.{one_to_one, side_of, side_reads, by_fault, fault_reads}
use Rattle.units.proofs.Laws.Tests.{Each, answer_has}
use Rattle.table.specs.Banks.{bank_size, bank_start, bank_of, named_tests}
use Rattle.entry.specs.Fields.{is_wide}
use Rattle.table.specs.Wide.{wide_among}
use Rattle.table.proofs.Laws.First.{Smallest}
use Rattle.table.proofs.Laws.Wide.{five_names_smallest}
use Rattle.survey.specs.Finding.{Figures}
use Rattle.survey.specs.Survey.{Report, refused, reported, survey_after, survey_report, bank_report, bank_of_report}
use Rattle.survey.specs.Tally.{figures_of}
use Rattle.survey.specs.declared.tallies.Finding.{Finding}
use Rattle.std.specs.Prelude.{Result, Ok, Err}
use Rattle.units.specs.declared.refusals.Fault.{Fault}

pub finding_back : Figures → Finding
finding_back f = record { worst = record { 0 = f.worst }; n = record { 0 = f.n }; side = side_of f.side }

pub finding_reads : (f : Finding) → finding_back (figures_of f) ≡ f
unfolding finding_back
finding_reads f = ap (λ (s : Side). record { worst = f.worst; n = f.n; side = s }) (side_reads f.side)

answer_of : Report → Result Finding Fault
answer_of r = by_fault r.number r.finding.n (Ok (finding_back r.finding)) (λ (fault : Fault). Err fault)

reads : (a : Result Finding Fault) → answer_of (reported a) ≡ a
unfolding answer_of
reads (Ok f) = ap (λ (f : Finding). Ok f) (finding_reads f)
reads (Err fault) = fault_reads fault _ (λ (fault : Fault). Err fault)

pub reported_one_to_one : (a b : Result Finding Fault) → reported a ≡ reported b → a ≡ b
reported_one_to_one = one_to_one reported answer_of reads

-- "Fields that an answer doesn't use are zero, with any number, 0 and 5 too."
-- the three surveys: worst and side with 0 alone, n with 0 and 5. Their other tests each give a number only
pub record SurveyUnused (r : Report) : Type 0 where
  pub n_with_0_and_5 : 0 < r.number → (r.number ≡ 5 → ⊥) → r.finding.n ≡ 0
  pub worst_with_0 : 0 < r.number → r.finding.worst ≡ 0
  pub side_with_0 : 0 < r.number → r.finding.side ≡ 0

abbrev pub NumberOnly : Test → Type 0
NumberOnly t = t.gives.n ≡ 0

survey_refused : (tests : List Test) (rest : List Test) → Each NumberOnly tests → Each (λ (t : Test). SurveyUnused (refused t.gives)) rest
    → Each (λ (t : Test). SurveyUnused (refused t.gives)) (tests ++ rest)
survey_refused [] rest only after = after
survey_refused (t ∷ ts) rest only after = (
  record { n_with_0_and_5 = λ _ _. only.0; worst_with_0 = λ _. refl; side_with_0 = λ _. refl },
  survey_refused ts rest only.1 after,
)

survey_after_unused : (tests : List Test) → Each NumberOnly tests → (s : Shape) (n : ℕ) (fields : List ℕ) → SurveyUnused (survey_after tests s n fields)
survey_after_unused tests only s n fields =
    answer_has SurveyUnused refused _ (tests ++ (wide_among s n fields ∷ []))
    (survey_refused tests (wide_among s n fields ∷ []) only
    (record { n_with_0_and_5 = λ _ not. absurd (not refl); worst_with_0 = λ _. refl; side_with_0 = λ _. refl }, tt))
    (record { n_with_0_and_5 = λ h. absurd (omega arith); worst_with_0 = λ h. absurd (omega arith); side_with_0 = λ h. absurd (omega arith) })

pub survey_unused : (s : Shape) (cells : List ℕ) → SurveyUnused (survey_report s cells)
survey_unused s cells = survey_after_unused (table_tests s (length cells)) (refl, (refl, (refl, tt))) s 0 (take (2 ^ s.k) cells)

pub survey_bank_unused : (s : Shape) (h b : ℕ) (cells : List ℕ) → SurveyUnused (bank_report s h b cells)
survey_bank_unused s h b cells =
    survey_after_unused (named_tests s h b ++ (few_cells (length cells) (bank_size s.k h) ∷ [])) (refl, (refl, (refl, (refl, (refl, tt))))) s
    (bank_start s.k h b)
    (take (bank_size s.k h) cells)

pub survey_bank_of_unused : (s : Shape) (h b : ℕ) (table : List ℕ) → SurveyUnused (bank_of_report s h b table)
survey_bank_of_unused s h b table =
    survey_after_unused (named_tests s h b ++ (few_cells (length table) (bank_start s.k h b + bank_size s.k h) ∷ []))
    (refl, (refl, (refl, (refl, (refl, tt)))))
    s
    (bank_start s.k h b)
    (bank_of s.k h b table)

-- 5: "number and the smallest such n", the n of the table
survey_after_names : (tests : List Test) → Each (λ (t : Test). t.gives.number < 5) tests → (s : Shape) (n : ℕ) (fields : List ℕ)
    → (survey_after tests s n fields).number ≡ 5
    → Smallest (is_wide s) n fields (survey_after tests s n fields).finding.n
survey_after_names tests below s n fields =
    five_names_smallest (λ (r : Report). r.number) (λ (r : Report). r.finding.n) refused _ (λ b. (refl, refl)) refl tests below s n fields

pub survey_names_smallest : (s : Shape) (cells : List ℕ) → (survey_report s cells).number ≡ 5
    → Smallest (is_wide s) 0 (take (2 ^ s.k) cells) (survey_report s cells).finding.n
survey_names_smallest s cells = survey_after_names (table_tests s (length cells)) (omega arith) s 0 (take (2 ^ s.k) cells)

pub survey_bank_names_smallest : (s : Shape) (h b : ℕ) (cells : List ℕ) → (bank_report s h b cells).number ≡ 5
    → Smallest (is_wide s) (bank_start s.k h b) (take (bank_size s.k h) cells) (bank_report s h b cells).finding.n
survey_bank_names_smallest s h b cells =
    survey_after_names (named_tests s h b ++ (few_cells (length cells) (bank_size s.k h) ∷ [])) (omega arith) s (bank_start s.k h b)
    (take (bank_size s.k h) cells)

pub survey_bank_of_names_smallest : (s : Shape) (h b : ℕ) (table : List ℕ) → (bank_of_report s h b table).number ≡ 5
    → Smallest (is_wide s) (bank_start s.k h b) (bank_of s.k h b table) (bank_of_report s h b table).finding.n
survey_bank_of_names_smallest s h b table =
    survey_after_names (named_tests s h b ++ (few_cells (length table) (bank_start s.k h b + bank_size s.k h) ∷ [])) (omega arith) s
    (bank_start s.k h b)
    (bank_of s.k h b table)
