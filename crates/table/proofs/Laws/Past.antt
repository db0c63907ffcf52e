-- "Cells past the table change no answer and keep their values": of the builders and of Show a bank. Assumes nothing.
use Prim.Native.Nat.{ℕ, ◌+◌, ◌^◌, ◌≤◌}
use mathlib.Core.Bool.{Bool}
use mathlib.Core.List.{List, [], ◌∷◌, ◌++◌, append_assoc}
use mathlib.Core.Path.{◌≡◌, sym, ap, ap₂, ◌∙◌}
use native.Mathlib.Omega.{arith}
use borrow.Author.Tests.{le-ltb}
use lib.Dec.{ltb}
use lib.ListN.{length, take, drop, length-append, length-drop}
use lib.Seq.{take-append-le, drop-append-le}
use Rattle.units.specs.Refusals.{Reply, answer, refusal, test, reply, input_width, width_tests, table_tests}
use Rattle.units.specs.declared.shapes.Shape.{Shape}
use Rattle.units.proofs.Laws.Tests.{answer_maps, answer_when}
use Rattle.entry.specs.Rule.{rule_field}
use Rattle.table.specs.Banks.{bank_size, bank_start, bank_of, bank_name, view_tests, shown}
use Rattle.table.specs.Build.{rows, filled, built, bank_tests, bank_built}
use Rattle.table.proofs.Laws.Banks.{bank_within}
use Rattle.table.proofs.Laws.Good.{view_good, build_good}

-- cells enough, and more
pub enough_still : (cells more : List ℕ) (needed : ℕ) → needed ≤ length cells → ltb (length (cells ++ more)) needed ≡ ltb (length cells) needed
enough_still cells more needed h =
    le-ltb (length (cells ++ more)) needed (simp length-append (omega arith)) ∙ sym (le-ltb (length cells) needed h)

-- a stretch that lies within the cells
pub part_still : (first count : ℕ) (cells more : List ℕ) → first + count ≤ length cells
    → take count (drop first (cells ++ more)) ≡ take count (drop first cells)
part_still first count cells more h =
    ap (take count) (drop-append-le first cells more (omega arith))
    ∙ take-append-le count (drop first cells) more (simp length-drop (omega arith))

filled_past : (field : ℕ → ℕ) (first count : ℕ) (cells more : List ℕ) → first + count ≤ length cells
    → filled field first count (cells ++ more) ≡ filled field first count cells ++ more
filled_past field first count cells more h =
    ap₂ (λ (front back : List ℕ). front ++ (rows field first count ++ back)) (take-append-le first cells more (omega arith)) (drop-append-le (first + count) cells more h)
    ∙ simp append_assoc

module _ (s : Shape) (cells more : List ℕ) (enough : 2 ^ s.k ≤ length cells) where
  pub build_number_past_table : refusal (table_tests s (length (cells ++ more))) ≡ refusal (table_tests s (length cells))
  build_number_past_table =
      ap (λ (short : Bool). refusal (width_tests s ++ (test short (reply 3 0) ∷ []))) (enough_still cells more (2 ^ s.k) enough)

  pub built_past_table : built s (cells ++ more) ≡ built s cells ++ more
  built_past_table =
      ap₂ (λ (short : Bool) (done : List ℕ). answer (λ (_ : Reply). cells ++ more) done (width_tests s ++ (test short (reply 3 0) ∷ [])))
      (enough_still cells more (2 ^ s.k) enough)
      (filled_past (rule_field s) 0 (2 ^ s.k) cells more (omega arith))
      ∙ sym (answer_maps (λ (xs : List ℕ). xs ++ more) (λ (_ : Reply). cells) (filled (rule_field s) 0 (2 ^ s.k) cells) (table_tests s (length cells)))

module _ (s : Shape) (h b : ℕ) (cells more : List ℕ) (enough : 2 ^ s.k ≤ length cells) where
  pub build_bank_number_past_table : refusal (bank_tests s h b (length (cells ++ more))) ≡ refusal (bank_tests s h b (length cells))
  build_bank_number_past_table =
      ap (λ (short : Bool). refusal (width_tests s ++ (bank_name s.k h b ++ (test short (reply 3 0) ∷ [])))) (enough_still cells more (2 ^ s.k) enough)

  pub bank_built_past_table : bank_built s h b (cells ++ more) ≡ bank_built s h b cells ++ more
  bank_built_past_table =
      let first = bank_start s.k h b in
      let count = bank_size s.k h in
      ap
      (λ (short : Bool).
      answer (λ (_ : Reply). cells ++ more) (filled (rule_field s) first count (cells ++ more))
      (width_tests s ++ (bank_name s.k h b ++ (test short (reply 3 0) ∷ []))))
      (enough_still cells more (2 ^ s.k) enough)
      ∙ answer_when (λ (_ : Reply). cells ++ more) _ (filled (rule_field s) first count cells ++ more) (bank_tests s h b (length cells))
      (λ passed.
      let bank = (build_good {s = s} passed).view.bank in
      filled_past (rule_field s) first count cells more (omega (arith, bank_within s.k h b bank.low bank.number)))
      ∙ sym (answer_maps (λ (xs : List ℕ). xs ++ more) (λ (_ : Reply). cells) (filled (rule_field s) first count cells) (bank_tests s h b (length cells)))

module _ (k h b : ℕ) (cells more : List ℕ) (enough : 2 ^ k ≤ length cells) where
  pub show_bank_number_past_table : refusal (view_tests k h b (length (cells ++ more))) ≡ refusal (view_tests k h b (length cells))
  show_bank_number_past_table =
      ap (λ (short : Bool). refusal (input_width k ∷ (bank_name k h b ++ (test short (reply 3 0) ∷ [])))) (enough_still cells more (2 ^ k) enough)

  pub shown_past_table : shown k h b (cells ++ more) ≡ shown k h b cells
  shown_past_table =
      ap (λ (short : Bool). answer (λ (_ : Reply). []) (bank_of k h b (cells ++ more)) (input_width k ∷ (bank_name k h b ++ (test short (reply 3 0) ∷ []))))
      (enough_still cells more (2 ^ k) enough)
      ∙ answer_when (λ (_ : Reply). []) _ (bank_of k h b cells) (view_tests k h b (length cells))
      (λ passed.
      let bank = (view_good passed).bank in
      part_still (bank_start k h b) (bank_size k h) cells more (omega (arith, bank_within k h b bank.low bank.number)))
