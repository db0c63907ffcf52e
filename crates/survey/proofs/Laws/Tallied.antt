-- A tally that takes the fields of a stretch one by one has the stretch's survey. Assumes nothing.
use Prim.Native.Nat.{ℕ, suc, ◌+◌, ◌^◌, ◌≤◌, ◌<◌}
use mathlib.Core.Bool.{false}
use mathlib.Core.List.{List, [], ◌∷◌, ◌++◌}
use mathlib.Core.Path.{◌≡◌, refl, sym, ap, ◌∙◌}
use native.Mathlib.Omega.{arith}
use lib.ListN.{length}
use Rattle.units.specs.Refusals.{Test}
use Rattle.units.specs.Inner.Good.{GoodWidths}
use Rattle.units.specs.declared.shapes.Shape.{Shape}
use Rattle.units.proofs.Laws.Tests.{Passed, passed_parts, done_by}
use Rattle.entry.specs.Fields.{is_wide}
use Rattle.entry.specs.Report.{entry_tests}
use Rattle.entry.proofs.Laws.Good.{good_entry_tests}
use Rattle.table.specs.Wide.{any_wide, wide_among}
use Rattle.table.proofs.Laws.First.{none_of}
use Rattle.survey.specs.Finding.{Figures, fresh, entry_figures, or_larger, finding_over}
use Rattle.survey.specs.Survey.{refused, surveyed, survey_after}
use Rattle.survey.specs.Tally.{State, started, handed_back, tally_report, tallied_all}

module _ (s : Shape) (widths : GoodWidths s) where
  -- one field more, where nothing refuses it
  one_more : (n f : ℕ) (old : Figures) → n < 2 ^ s.k → is_wide s f ≡ false
      → (tally_report (record { shape = s; next = n; finding = old }) f).state
      ≡ record { shape = s; next = suc n; finding = or_larger old (entry_figures s n f) }
  one_more n f old inside narrow =
      ap (λ r. r.state)
      (sym (done_by (handed_back (record { shape = s; next = n; finding = old })) _ (entry_tests s n f)
      (good_entry_tests f (record { widths = widths; interval = inside }) narrow)))
      ∙ ap (λ (x : ℕ). record { shape = s; next = x; finding = or_larger old (entry_figures s n f) }) (omega arith)

  tally_is : (n : ℕ) (fields : List ℕ) (old : Figures) → n + length fields ≤ 2 ^ s.k → any_wide s fields ≡ false
      → (tallied_all (record { shape = s; next = n; finding = old }) fields).finding ≡ finding_over s n fields old
  unfolding tallied_all finding_over
  tally_is n [] old inside narrow = refl
  tally_is n (f ∷ fs) old inside narrow =
      let both = none_of (is_wide s) f fs narrow in
      ap (λ (t : State). (tallied_all t fs).finding) (one_more n f old (omega arith) both.0)
      ∙ tally_is (suc n) fs (or_larger old (entry_figures s n f)) (omega arith) both.1

  -- "A running tally takes one entry at a time": over the fields of any stretch of the table, from its first n, it has the finding over them
  pub tally_is_finding : (n : ℕ) (fields : List ℕ) → n + length fields ≤ 2 ^ s.k → any_wide s fields ≡ false
      → (tallied_all (started s n) fields).finding ≡ finding_over s n fields fresh
  tally_is_finding n fields = tally_is n fields fresh

-- so over a table's or a bank's fields it has the survey's finding, where no test refuses
pub tally_is_survey : (tests : List Test) (s : Shape) (n : ℕ) (fields : List ℕ) → GoodWidths s → n + length fields ≤ 2 ^ s.k
    → Passed (tests ++ (wide_among s n fields ∷ []))
    → survey_after tests s n fields ≡ surveyed (tallied_all (started s n) fields).finding
tally_is_survey tests s n fields widths inside passed =
    sym (done_by refused (surveyed (finding_over s n fields fresh)) (tests ++ (wide_among s n fields ∷ [])) passed)
    ∙ ap surveyed (sym (tally_is_finding s widths n fields inside (passed_parts tests (wide_among s n fields ∷ []) passed).1.0))
