-- A survey field by field, from any finding so far. Assumes nothing.
use Prim.Native.Nat.{ℕ, suc, ◌+◌, ◌≤◌, ◌<◌}
use mathlib.Core.Bool.{true, false}
use mathlib.Core.List.{List, [], ◌∷◌, ◌++◌, append_assoc}
use mathlib.Core.Path.{◌≡◌, refl, sym, ap, ap₂, ◌∙◌}
use native.Mathlib.Nat.{add-zero}
use native.Mathlib.Numerals.{add-one}
use native.Mathlib.Omega.{arith}
use borrow.Author.Tests.{lt-ltb, le-ltb}
use lib.ListN.{length, drop, get_or, drop_of_length-le}
use lib.Seq.{drop-cons}
use Rattle.units.specs.Refusals.{reply, Test, answer}
use Rattle.units.specs.declared.shapes.Shape.{Shape}
use Rattle.units.proofs.Laws.Tests.{Passed, rest_answers}
use Rattle.entry.specs.Fields.{is_wide}
use Rattle.table.specs.First.{any_of, first_of}
use Rattle.table.specs.Wide.{wide_among}
use Rattle.survey.specs.Finding.{Figures, fresh, entry_figures, or_larger, finding_over}
use Rattle.survey.specs.Survey.{Report, refused, surveyed, survey_after}

-- what is left of a survey: the fields from interval n on, and the finding so far
abbrev pub survey_from : Shape → ℕ → List ℕ → Figures → Report
survey_from s n fields old = answer refused (surveyed (finding_over s n fields old)) (wide_among s n fields ∷ [])

none_left : (s : Shape) (n : ℕ) (old : Figures) → survey_from s n [] old ≡ surveyed old
unfolding answer any_of finding_over
none_left s n old = refl

narrow_first : (s : Shape) (n f : ℕ) (fs : List ℕ) (old : Figures) → is_wide s f ≡ false
    → survey_from s n (f ∷ fs) old ≡ survey_from s (suc n) fs (or_larger old (entry_figures s n f))
unfolding answer any_of first_of finding_over
narrow_first s n f fs old e = simp e

wide_first : (s : Shape) (n f : ℕ) (fs : List ℕ) (old : Figures) → is_wide s f ≡ true → survey_from s n (f ∷ fs) old ≡ refused (reply 5 n)
unfolding answer any_of first_of
wide_first s n f fs old e = simp e

-- an entry replaces the finding, or leaves it
pub larger_replaces : (old new : Figures) → old.worst < new.worst → new ≡ or_larger old new
larger_replaces old new h = rw (lt-ltb old.worst new.worst h) refl

pub smaller_leaves : (old new : Figures) → new.worst ≤ old.worst → old ≡ or_larger old new
smaller_leaves old new h = rw (le-ltb old.worst new.worst h) refl

-- the finding over the cells before `at`, the first of them that of interval `first`: what is left is the whole survey
pub record Surveying (s : Shape) (first : ℕ) (cells : List ℕ) (old : Figures) (at : ℕ) : Type 0 where
  pub within : at ≤ length cells
  pub left_is : survey_from s (first + at) (drop at cells) old ≡ survey_after [] s first cells

module _ {s : Shape} {first : ℕ} (cells : List ℕ) where
  pub surveying_starts : {old : Figures} → old ≡ fresh → Surveying s first cells old 0
  surveying_starts is =
      record { within = omega arith; left_is = ap₂ (λ (n : ℕ) (old : Figures). survey_from s n cells old) (add-zero first) is }

  module _ {old : Figures} {at : ℕ} (v : Surveying s first cells old at) where
    pub surveying_goes_on : at < length cells → is_wide s (get_or cells at 0) ≡ false
        → {next : Figures} → next ≡ or_larger old (entry_figures s (first + at) (get_or cells at 0))
        → Surveying s first cells next (at + 1)
    surveying_goes_on inside narrow is =
        let n : first + (at + 1) ≡ suc (first + at) = omega arith in
        record {
          within = omega arith;
          left_is =
              rw (is, n, add-one at)
              (sym (narrow_first s (first + at) (get_or cells at 0) (drop (suc at) cells) old narrow)
              ∙ (rw (drop-cons cells at 0 inside) at v.left_is));
        }

    pub surveying_stops : at < length cells → is_wide s (get_or cells at 0) ≡ true → refused (reply 5 (first + at)) ≡ survey_after [] s first cells
    surveying_stops inside wide =
        sym (wide_first s (first + at) (get_or cells at 0) (drop (suc at) cells) old wide) ∙ (rw (drop-cons cells at 0 inside) at v.left_is)

    pub surveying_ends : length cells ≤ at → surveyed old ≡ survey_after [] s first cells
    surveying_ends past = sym (none_left s (first + at) old) ∙ (rw (drop_of_length-le cells past) at v.left_is)

-- tests that pass leave the survey to those after them
pub after_passed : (tests rest : List Test) (s : Shape) (n : ℕ) (fields : List ℕ) → Passed tests → survey_after rest s n fields ≡ survey_after (tests ++ rest) s n fields
after_passed tests rest s n fields p =
    let wide : List Test = wide_among s n fields ∷ [] in
    let finding : Report = surveyed (finding_over s n fields fresh) in
    rest_answers refused finding tests (rest ++ wide) p ∙ ap (answer refused finding) (sym (append_assoc tests rest wide))
