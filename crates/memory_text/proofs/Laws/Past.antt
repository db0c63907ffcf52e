-- "Cells past the table change no answer and keep their values". Assumes nothing.
use Prim.Native.Nat.{ℕ, ◌^◌, ◌≤◌}
use mathlib.Core.Bool.{Bool, true, false, cond}
use mathlib.Core.List.{List, [], ◌∷◌, ◌++◌, append_assoc}
use mathlib.Core.Path.{◌≡◌, refl, sym, ap, ap₂, ◌∙◌}
use lib.Dec.{ltb, eqb}
use lib.ListN.{length, take, drop}
use lib.Seq.{take-append-le, drop-append-le}
use Rattle.units.specs.Refusals.{Reply, reply, test, answer, width_tests, table_tests, short_text}
use Rattle.units.specs.declared.shapes.Shape.{Shape}
use Rattle.units.proofs.Laws.Tests.{answer_maps}
use Rattle.table.specs.Wide.{wide_among}
use Rattle.table.proofs.Laws.Past.{enough_still}
use Rattle.memory_text.specs.Read as Read
use Rattle.memory_text.specs.Read.{Reading, reading, left_by, read_report, read_cells}
use Rattle.memory_text.specs.Write as Write
use Rattle.memory_text.specs.Write.{digit_count, lines_of, write_report, written_bytes}

module _ (s : Shape) (cells more : List ℕ) (enough : 2 ^ s.k ≤ length cells) where
  pub read_number_past_table : (text : List ℕ) → read_report s text (length (cells ++ more)) ≡ read_report s text (length cells)
  read_number_past_table text =
      ap (λ (few : Bool). answer Read.refused (reading s text).report (width_tests s ++ (test few (reply 3 0) ∷ []))) (enough_still cells more (2 ^ s.k) enough)

  left_past : (r : Reading) → left_by s r (cells ++ more) ≡ left_by s r cells ++ more
  left_past r = by_number (eqb r.report.number 0)
    where
      by_number : (zero : Bool) → cond zero (r.fields ++ drop (2 ^ s.k) (cells ++ more)) (cells ++ more) ≡ cond zero (r.fields ++ drop (2 ^ s.k) cells) cells ++ more
      by_number true = rw (drop-append-le (2 ^ s.k) cells more enough) (sym (append_assoc r.fields (drop (2 ^ s.k) cells) more))
      by_number false = refl

  pub read_cells_past_table : (text : List ℕ) → read_cells s text (cells ++ more) ≡ read_cells s text cells ++ more
  read_cells_past_table text =
      ap₂ (λ (few : Bool) (done : List ℕ). answer (λ (_ : Reply). cells ++ more) done (width_tests s ++ (test few (reply 3 0) ∷ [])))
      (enough_still cells more (2 ^ s.k) enough)
      (left_past (reading s text))
      ∙ sym (answer_maps (λ (xs : List ℕ). xs ++ more) (λ (_ : Reply). cells) (left_by s (reading s text) cells) (table_tests s (length cells)))

  -- the writer's tests and its text are of the table alone
  writer : {A : Type 0} → (Reply → A) → (List ℕ → A) → ℕ → Bool → List ℕ → A
  writer refuse done room few fields =
      answer refuse (done (lines_of (digit_count s) fields))
      (width_tests s ++ (test few (reply 3 0) ∷ wide_among s 0 fields ∷ short_text room (length (lines_of (digit_count s) fields)) ∷ []))

  same_writer : {A : Type 0} (refuse : Reply → A) (done : List ℕ → A) (room : ℕ)
      → writer refuse done room (ltb (length (cells ++ more)) (2 ^ s.k)) (take (2 ^ s.k) (cells ++ more))
      ≡ writer refuse done room (ltb (length cells) (2 ^ s.k)) (take (2 ^ s.k) cells)
  same_writer refuse done room =
      ap₂ (writer refuse done room) (enough_still cells more (2 ^ s.k) enough) (take-append-le (2 ^ s.k) cells more enough)

  pub write_number_past_table : (room : ℕ) → write_report s (cells ++ more) room ≡ write_report s cells room
  unfolding writer
  write_number_past_table room = same_writer Write.refused (λ (text : List ℕ). Write.written (length text)) room

  pub written_past_table : (bytes : List ℕ) → written_bytes s (cells ++ more) bytes ≡ written_bytes s cells bytes
  unfolding writer
  written_past_table bytes = same_writer (λ (_ : Reply). bytes) (λ (text : List ℕ). text ++ drop (length text) bytes) (length bytes)
