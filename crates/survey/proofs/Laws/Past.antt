-- "Cells past the table change no answer." Assumes nothing.
use Prim.Native.Nat.{ℕ, ◌+◌, ◌^◌, ◌≤◌}
use mathlib.Core.Bool.{Bool}
use mathlib.Core.List.{List, [], ◌∷◌, ◌++◌}
use mathlib.Core.Path.{◌≡◌, ap₂}
use lib.ListN.{length}
use lib.Seq.{take-append-le}
use Rattle.units.specs.Refusals.{Test, width_tests, test, reply}
use Rattle.units.specs.declared.shapes.Shape.{Shape}
use Rattle.table.specs.Banks.{bank_size, bank_start, named_tests}
use Rattle.table.proofs.Laws.Past.{enough_still, part_still}
use Rattle.survey.specs.Survey.{survey_after, survey_report, bank_report, bank_of_report}

-- a survey sees only whether the cells are enough, and the fields
same_survey : (tests : List Test) (s : Shape) (n : ℕ) {short short' : Bool} {fields fields' : List ℕ} → short ≡ short' → fields ≡ fields'
    → survey_after (tests ++ (test short (reply 3 0) ∷ [])) s n fields ≡ survey_after (tests ++ (test short' (reply 3 0) ∷ [])) s n fields'
same_survey tests s n = ap₂ (λ (b : Bool) (fs : List ℕ). survey_after (tests ++ (test b (reply 3 0) ∷ [])) s n fs)

pub survey_past_table : (s : Shape) (cells more : List ℕ) → 2 ^ s.k ≤ length cells → survey_report s (cells ++ more) ≡ survey_report s cells
survey_past_table s cells more h =
    same_survey (width_tests s) s 0 (enough_still cells more (2 ^ s.k) h) (take-append-le (2 ^ s.k) cells more h)

pub bank_past_bank : (s : Shape) (h b : ℕ) (cells more : List ℕ) → bank_size s.k h ≤ length cells → bank_report s h b (cells ++ more) ≡ bank_report s h b cells
bank_past_bank s h b cells more l =
    same_survey (named_tests s h b) s (bank_start s.k h b) (enough_still cells more (bank_size s.k h) l) (take-append-le (bank_size s.k h) cells more l)

pub bank_of_past_bank : (s : Shape) (h b : ℕ) (cells more : List ℕ) → bank_start s.k h b + bank_size s.k h ≤ length cells
    → bank_of_report s h b (cells ++ more) ≡ bank_of_report s h b cells
bank_of_past_bank s h b cells more l =
    same_survey (named_tests s h b) s (bank_start s.k h b) (enough_still cells more (bank_start s.k h b + bank_size s.k h) l)
    (part_still (bank_start s.k h b) (bank_size s.k h) cells more l)
