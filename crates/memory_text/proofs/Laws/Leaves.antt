-- "a refused file leaves the lent cells as they stood", and a refused write "writes nothing". Assumes nothing.
use Prim.Native.Nat.{ℕ, ◌^◌, ◌<◌}
use mathlib.Core.Bool.{Bool, true, false, cond}
use mathlib.Core.List.{List, [], ◌∷◌, ◌++◌}
use mathlib.Core.Path.{◌≡◌, refl, sym, ap, ◌∙◌}
use native.Mathlib.Omega.{arith}
use borrow.Author.Tests.{ne_eqb}
use lib.ListN.{length, drop}
use Rattle.units.specs.Refusals.{Reply, Test, answer, table_tests}
use Rattle.units.specs.declared.shapes.Shape.{Shape}
use Rattle.units.proofs.Laws.Tests.{other_passed, done_by}
use Rattle.memory_text.specs.Read as Read
use Rattle.memory_text.specs.Read.{reading, left_by, read_report, read_cells}
use Rattle.memory_text.specs.Write as Write
use Rattle.memory_text.specs.Write.{write_tests, write_report, written_bytes}

-- what a call leaves, by the tests that give its number
refused_keeps : {R : Type 0} (number : R → ℕ) (refuse : Reply → R) (done : R) (kept left : List ℕ) (ts : List Test)
    → (0 < number done → left ≡ kept)
    → 0 < number (answer refuse done ts)
    → answer (λ (_ : Reply). kept) left ts ≡ kept
unfolding answer
refused_keeps number refuse done kept left [] keeps h = keeps h
refused_keeps {R} number refuse done kept left (t ∷ ts) keeps h = by_test t.holds (refused_keeps number refuse done kept left ts keeps) h
  where
    by_test : (holds : Bool) → (0 < number (answer refuse done ts) → answer (λ (_ : Reply). kept) left ts ≡ kept)
        → 0 < number (cond holds (refuse t.gives) (answer refuse done ts))
        → cond holds kept (answer (λ (_ : Reply). kept) left ts) ≡ kept
    by_test true rest h = refl
    by_test false rest h = rest h

pub refused_read_writes_nothing : (s : Shape) (text cells : List ℕ) → 0 < (read_report s text (length cells)).number → read_cells s text cells ≡ cells
refused_read_writes_nothing s text cells =
    refused_keeps (λ (r : Read.Report). r.number) Read.refused (reading s text).report cells (left_by s (reading s text) cells) (table_tests s (length cells))
    (λ h. rw (ne_eqb (reading s text).report.number 0 (λ e. omega (arith, e, h))) refl)

pub refused_write_writes_nothing : (s : Shape) (cells bytes : List ℕ) → 0 < (write_report s cells (length bytes)).number → written_bytes s cells bytes ≡ bytes
refused_write_writes_nothing s cells bytes =
    refused_keeps (λ (r : Write.Report). r.number) Write.refused (Write.written _) bytes _ (write_tests s cells (length bytes)) (λ h. absurd (omega arith))

-- and a reading that is done leaves the fields that its text gives, and the cells past them
pub done_leaves_fields : (s : Shape) (text cells : List ℕ) → (read_report s text (length cells)).number ≡ 0
    → read_cells s text cells ≡ (reading s text).fields ++ drop (2 ^ s.k) cells
done_leaves_fields s text cells e =
    let tests = table_tests s (length cells) in
    let passed = other_passed (λ (r : Read.Report). r.number) Read.refused (reading s text).report 0 tests (refl, (refl, (refl, tt))) (λ b. refl) e in
    let zero : (reading s text).report.number ≡ 0 = ap (λ (r : Read.Report). r.number) (done_by Read.refused (reading s text).report tests passed) ∙ e in
    sym (done_by (λ (_ : Reply). cells) (left_by s (reading s text) cells) tests passed) ∙ rw zero refl
