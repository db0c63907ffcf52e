-- What is listed is the best table with its survey. Assumes nothing.
use Prim.Native.Nat.{ℕ, ◌+◌, ◌^◌}
use mathlib.Core.List.{List}
use mathlib.Core.Path.{◌≡◌, sym, ap, ◌∙◌}
use native.Mathlib.Omega.{arith}
use lib.ListN.{length, take, drop}
use lib.Seq.{take_at}
use Rattle.units.specs.Refusals.{reply, refusal, refusal_number, table_tests}
use Rattle.units.specs.Inner.Good.{GoodTable}
use Rattle.std.specs.Prelude.{Ok, Err}
use Rattle.units.specs.declared.refusals.Fault.{Fault}
use Rattle.units.specs.declared.refusals.Refusal.{Refusal}
use Rattle.units.specs.declared.shapes.Shape.{Shape}
use Rattle.units.proofs.Laws.Good.{table_good, good_table}
use Rattle.units.proofs.Laws.Tests.{done_so, all_passed, done_by, refusal_numbered, fault_numbered}
use Rattle.entry.specs.Rule.{rule_field}
use Rattle.table.specs.Build.{rows, built}
use Rattle.table.specs.Wide.{field_tests}
use Rattle.table.proofs.Laws.Built.{built_is, built_field, length_built}
use Rattle.table.proofs.Laws.Rows.{length_rows}
use Rattle.survey.specs.Finding.{fresh, finding_over}
use Rattle.survey.specs.Survey.{Report, refused, surveyed, reported, survey_report}
use Rattle.survey.specs.Tally.{figures_of}
use Rattle.survey.specs.declared.tallies.Finding.{Finding}
use Rattle.verdict.specs.Check as check_specs
use Rattle.listing_line.specs.Line.{asks, line_read}
use Rattle.listing_text.specs.Inner.Pages.{Listed}
use Rattle.listing_text.specs.Listing.{table_text, refused_text, text_for}
use Rattle.listing_text.proofs.Laws.Listing.{refused_shape_text, listed_shape_text}
use Rattle.recip.proofs.Promises.Demand2.{survey_number, check_number, built_passes}

module _ (s : Shape) (cells : List ℕ) (good : GoodTable s (length cells)) where
  -- the survey of a table that was built is never refused: its tests are the check's, and the table passes that
  pub built_survey_done : (survey_report s (built s cells)).number ≡ 0
  built_survey_done =
      survey_number (table_tests s (length (built s cells))) s 0 (take (2 ^ s.k) (built s cells))
      ∙ sym (check_number s (built s cells))
      ∙ ap (λ (r : check_specs.Report). r.number) (built_passes s cells good)

  fields_are : take (2 ^ s.k) (built s cells) ≡ rows (rule_field s) 0 (2 ^ s.k)
  fields_are =
      ap (take (2 ^ s.k)) (built_is s cells good)
      ∙ take_at (rows (rule_field s) 0 (2 ^ s.k)) (drop (0 + 2 ^ s.k) cells) (2 ^ s.k) (length_rows (rule_field s) 0 (2 ^ s.k))

  -- so its finding is that over the best fields
  figures_are : (f : Finding) → reported (Ok f) ≡ survey_report s (built s cells) → figures_of f ≡ finding_over s 0 (rows (rule_field s) 0 (2 ^ s.k)) fresh
  figures_are f e =
      let fields : List ℕ = take (2 ^ s.k) (built s cells) in
      let none : (refusal (field_tests s (built s cells))).number ≡ 0 =
      sym (survey_number (table_tests s (length (built s cells))) s 0 fields) ∙ built_survey_done in
      ap (λ (r : Report). r.finding)
      (e ∙ sym (done_by refused (surveyed (finding_over s 0 fields fresh)) (field_tests s (built s cells)) (all_passed (field_tests s (built s cells)) (omega arith) none)))
      ∙ ap (λ (x : List ℕ). finding_over s 0 x fresh) fields_are

  pub listed : (f : Finding) → reported (Ok f) ≡ survey_report s (built s cells) → Listed s (built s cells) (figures_of f)
  listed f e =
      record {
        good = record { widths = good.widths; enough = omega (arith, good.enough, length_built s cells good) };
        fields = built_field s cells good;
        surveyed = figures_are f e;
      }

-- what the build's answer asks to be written for a shape that was read, in a table of 32,768 cells: its refusal
module _ (input : List ℕ) (s : Shape) (read : line_read input ≡ asks s) where
  pub build_refused : (r : Refusal) → reply (refusal_number r) 0 ≡ refusal (table_tests s 32768) → refused_text (refusal_number r) ≡ text_for input
  build_refused r refused = refused_shape_text input s {b = reply (refusal_number r) 0} read refused (refusal_numbered r)

  module _ (cells : List ℕ) (size : 32768 ≡ length cells) (table : List ℕ) (e : table ≡ built s cells) (done : reply 0 0 ≡ refusal (table_tests s (length cells))) where
    good : GoodTable s (length cells)
    good = table_good (done_so (table_tests s (length cells)) (omega arith) done)

    -- or the table, with its survey
    pub build_listed : (f : Finding) → reported (Ok f) ≡ survey_report s table → (table_text s ≡ text_for input) × Listed s table (figures_of f)
    build_listed f found =
        (listed_shape_text input s read (rw (← size) at (good_table good)), rw e (listed s cells good f (rw e at found)))

    -- and no other answer of the survey comes
    pub build_surveyed : (fault : Fault) → reported (Err fault) ≡ survey_report s table → ⊥
    build_surveyed fault found =
        omega (arith, ap (λ (r : Report). r.number) (rw e at found) ∙ built_survey_done s cells good, fault_numbered fault)
