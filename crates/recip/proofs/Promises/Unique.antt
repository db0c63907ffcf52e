-- "That any two answers allowed by a statement are equal is itself proved": for each call, two answers that its contract allows are one.
-- So are two contents of the cells that it leaves or hands out. Assumes nothing.
use Prim.Native.Nat.{ℕ}
use mathlib.Core.List.{List}
use mathlib.Core.Path.{◌≡◌, sym, ◌∙◌}
use lib.ListN.{length}
use Rattle.units.specs.Refusals.{reply_of, refusal, table_tests}
use Rattle.std.specs.Prelude.{Result}
use Rattle.units.specs.declared.counts.Offset.{Offset}
use Rattle.units.specs.declared.refusals.Refusal.{Refusal}
use Rattle.units.specs.declared.refusals.Fault.{Fault}
use Rattle.units.specs.declared.shapes.Shape.{Shape}
use Rattle.units.proofs.Laws.OneToOne.{outcome_one_to_one}
use Rattle.entry.specs.Report as error_specs
use Rattle.entry.specs.declared.measure.Errors.{Errors}
use Rattle.entry.proofs.Laws.Report as error_laws
use Rattle.table.specs.Banks.{view_tests, shown}
use Rattle.table.specs.Build.{bank_tests, built, bank_built}
use Rattle.table.specs.Lookup as lookup_specs
use Rattle.table.specs.declared.lookups.Found.{Found}
use Rattle.table.proofs.Laws.Report as lookup_laws
use Rattle.survey.specs.Survey as survey_specs
use Rattle.survey.specs.Tally as tally_specs
use Rattle.survey.specs.declared.tallies.Finding.{Finding}
use Rattle.survey.specs.declared.tallies.Tally.{Tally}
use Rattle.survey.specs.declared.tallies.NotTaken.{NotTaken}
use Rattle.survey.proofs.Laws.Report as survey_laws
use Rattle.survey.proofs.Laws.TallyReport as tally_laws
use Rattle.memory_text.specs.Read as read_specs
use Rattle.memory_text.specs.Write as write_specs
use Rattle.memory_text.specs.declared.errors.ReadError.{ReadError}
use Rattle.memory_text.proofs.Laws.Report.{read_one_to_one, written_one_to_one}
use Rattle.verdict.specs.Check as check_specs
use Rattle.verdict.specs.declared.NotPassed.{NotPassed}
use Rattle.verdict.proofs.Laws.Report as check_laws

-- two answers with the same report, where the report is one to one
unique : {A B : Type 0} (f : A → B) → ((a b : A) → f a ≡ f b → a ≡ b) → (stated : B) (a b : A) → f a ≡ stated → f b ≡ stated → a ≡ b
unique f one stated a b p q = one a b (p ∙ sym q)

pub build_unique : (s : Shape) (cells : List ℕ) (a b : Result (Unit {0}) Refusal)
    → reply_of a ≡ refusal (table_tests s (length cells))
    → reply_of b ≡ refusal (table_tests s (length cells))
    → a ≡ b
build_unique s cells = unique reply_of outcome_one_to_one _

pub build_bank_unique : (s : Shape) (h n : ℕ) (cells : List ℕ) (a b : Result (Unit {0}) Refusal)
    → reply_of a ≡ refusal (bank_tests s h n (length cells))
    → reply_of b ≡ refusal (bank_tests s h n (length cells))
    → a ≡ b
build_bank_unique s h n cells = unique reply_of outcome_one_to_one _

pub show_bank_number_unique : (k h n : ℕ) (cells : List ℕ) (a b : Result (Unit {0}) Refusal)
    → reply_of a ≡ refusal (view_tests k h n (length cells))
    → reply_of b ≡ refusal (view_tests k h n (length cells))
    → a ≡ b
show_bank_number_unique k h n cells = unique reply_of outcome_one_to_one _

pub entry_error_unique : (s : Shape) (n f : ℕ) (a b : Result Errors Fault)
    → error_specs.reported a ≡ error_specs.entry_report s n f
    → error_specs.reported b ≡ error_specs.entry_report s n f
    → a ≡ b
entry_error_unique s n f = unique error_specs.reported error_laws.reported_one_to_one _

pub start_unique : (s : Shape) (first : ℕ) (a b : Tally)
    → tally_specs.state_of a ≡ tally_specs.started s first
    → tally_specs.state_of b ≡ tally_specs.started s first
    → a ≡ b
start_unique s first = unique tally_specs.state_of tally_laws.state_one_to_one _

pub take_unique : (t : Tally) (f : ℕ) (a b : Result Tally NotTaken)
    → tally_specs.reported a ≡ tally_specs.tally_report (tally_specs.state_of t) f
    → tally_specs.reported b ≡ tally_specs.tally_report (tally_specs.state_of t) f
    → a ≡ b
take_unique t f = unique tally_specs.reported tally_laws.reported_one_to_one _

pub survey_unique : (s : Shape) (cells : List ℕ) (a b : Result Finding Fault)
    → survey_specs.reported a ≡ survey_specs.survey_report s cells
    → survey_specs.reported b ≡ survey_specs.survey_report s cells
    → a ≡ b
survey_unique s cells = unique survey_specs.reported survey_laws.reported_one_to_one _

pub survey_bank_unique : (s : Shape) (h n : ℕ) (cells : List ℕ) (a b : Result Finding Fault)
    → survey_specs.reported a ≡ survey_specs.bank_report s h n cells
    → survey_specs.reported b ≡ survey_specs.bank_report s h n cells
    → a ≡ b
survey_bank_unique s h n cells = unique survey_specs.reported survey_laws.reported_one_to_one _

pub survey_bank_of_unique : (s : Shape) (h n : ℕ) (table : List ℕ) (a b : Result Finding Fault)
    → survey_specs.reported a ≡ survey_specs.bank_of_report s h n table
    → survey_specs.reported b ≡ survey_specs.bank_of_report s h n table
    → a ≡ b
survey_bank_of_unique s h n table = unique survey_specs.reported survey_laws.reported_one_to_one _

pub check_unique : (s : Shape) (cells : List ℕ) (a b : Result (Unit {0}) NotPassed)
    → check_specs.reported a ≡ check_specs.check_report s cells
    → check_specs.reported b ≡ check_specs.check_report s cells
    → a ≡ b
check_unique s cells = unique check_specs.reported check_laws.reported_one_to_one _

pub look_up_unique : (s : Shape) (x : ℕ) (cells : List ℕ) (a b : Result Found Fault)
    → lookup_specs.reported a ≡ lookup_specs.lookup_report s x cells
    → lookup_specs.reported b ≡ lookup_specs.lookup_report s x cells
    → a ≡ b
look_up_unique s x cells = unique lookup_specs.reported lookup_laws.reported_one_to_one _

pub write_memory_unique : (s : Shape) (cells : List ℕ) (room : ℕ) (a b : Result Offset Fault)
    → write_specs.reported a ≡ write_specs.write_report s cells room
    → write_specs.reported b ≡ write_specs.write_report s cells room
    → a ≡ b
write_memory_unique s cells room = unique write_specs.reported written_one_to_one _

pub read_memory_unique : (s : Shape) (text : List ℕ) (lent : ℕ) (a b : Result (Unit {0}) ReadError)
    → read_specs.reported a ≡ read_specs.read_report s text lent
    → read_specs.reported b ≡ read_specs.read_report s text lent
    → a ≡ b
read_memory_unique s text lent = unique read_specs.reported read_one_to_one _

-- the contents of cells: what Build, Build a bank, Write memory and Read memory leave, and what Show a bank
-- hands out
pub build_cells_unique : (s : Shape) (cells a b : List ℕ) → a ≡ built s cells → b ≡ built s cells → a ≡ b
build_cells_unique s cells a b p q = p ∙ sym q

pub build_bank_cells_unique : (s : Shape) (h n : ℕ) (cells a b : List ℕ) → a ≡ bank_built s h n cells → b ≡ bank_built s h n cells → a ≡ b
build_bank_cells_unique s h n cells a b p q = p ∙ sym q

pub show_bank_unique : (k h n : ℕ) (cells a b : List ℕ) → a ≡ shown k h n cells → b ≡ shown k h n cells → a ≡ b
show_bank_unique k h n cells a b p q = p ∙ sym q

pub write_memory_bytes_unique : (s : Shape) (cells bytes a b : List ℕ)
    → a ≡ write_specs.written_bytes s cells bytes → b ≡ write_specs.written_bytes s cells bytes → a ≡ b
write_memory_bytes_unique s cells bytes a b p q = p ∙ sym q

pub read_memory_cells_unique : (s : Shape) (text cells a b : List ℕ)
    → a ≡ read_specs.read_cells s text cells → b ≡ read_specs.read_cells s text cells → a ≡ b
read_memory_cells_unique s text cells a b p q = p ∙ sym q
