-- The answers of `write_memory` and `read_memory` can be read back from their numbers, so no two answers have the same; and which of
-- their values are zero. Assumes nothing.
use Prim.Native.Nat.{ℕ, ◌^◌, ◌<◌}
use Rattle.std.specs.Prelude.{Result, Ok, Err}
use mathlib.Core.Bool.{cond}
use mathlib.Core.List.{List, [], ◌∷◌}
use mathlib.Core.Path.{◌≡◌, refl, ap, subst, ◌∙◌}
use native.Mathlib.Omega.{arith}
use lib.Dec.{eqb}
use lib.ListN.{length, take}
use Rattle.units.specs.declared.counts.Offset.{Offset}
use Rattle.units.specs.declared.refusals.Fault.{Fault}
use Rattle.units.specs.declared.refusals.Refusal.{Refusal}
use Rattle.units.specs.declared.refusals.Refusal.TheVariants.{InputWidth, OutputWidth, FewCells, Place, Divisor, Line, ShortText}
use Rattle.units.specs.declared.shapes.Shape.{Shape}
use Rattle.units.specs.Refusals.{Reply, reply, refusal, table_tests, short_text}
use Rattle.units.proofs.Laws.OneToOne.{one_to_one, by_number, by_fault, fault_reads}
use Rattle.units.proofs.Laws.Tests.{answer_has, refused_by, rest_answers, all_passed, other_passed, done_by}
use Rattle.units.proofs.Laws.Order.{by_order}
use Rattle.entry.specs.Fields.{is_wide}
use Rattle.table.specs.Wide.{field_tests}
use Rattle.table.proofs.Laws.First.{Smallest}
use Rattle.table.proofs.Laws.Wide.{five_names_smallest}
use Rattle.memory_tokens.specs.Tokens.{Token, tokens}
use Rattle.memory_tokens.specs.Words.{saying}
use Rattle.memory_text.specs.Read as Read
use Rattle.memory_text.specs.Read.{Reading, token_tests, next_address, next_cells, stopped, lacking, complete, missing_among, obeyed, reading, read_report}
use Rattle.memory_text.specs.Write as Write
use Rattle.memory_text.specs.Write.{memory_text, write_tests, write_report}
use Rattle.memory_text.specs.declared.errors.ReadError.{ReadError}
use Rattle.memory_text.specs.declared.errors.ReadError.TheVariants.{BadToken, PastTable, TooWide, GivenTwice, Missing, Refused}

write_answer_of : Write.Report → Result Offset Fault
write_answer_of r = by_fault r.number r.n (Ok (record { 0 = r.length })) (λ (fault : Fault). Err fault)

write_reads : (a : Result Offset Fault) → write_answer_of (Write.reported a) ≡ a
unfolding write_answer_of
write_reads (Ok end) = refl
write_reads (Err fault) = fault_reads fault _ (λ (fault : Fault). Err fault)

pub written_one_to_one : (a b : Result Offset Fault) → Write.reported a ≡ Write.reported b → a ≡ b
written_one_to_one = one_to_one Write.reported write_answer_of write_reads

read_answer_of : Read.Report → Result (Unit {0}) ReadError
read_answer_of r =
    cond (eqb r.number 8) (Err (BadToken (record { 0 = r.offset })))
    (cond (eqb r.number 9) (Err (PastTable (record { 0 = r.offset })))
    (cond (eqb r.number 10) (Err (GivenTwice (record { 0 = r.offset })))
    (cond (eqb r.number 11) (Err (Missing (record { 0 = r.n })))
    (by_number r.number (Ok tt) (Err (TooWide (record { 0 = r.offset }))) (λ (r : Refusal). Err (Refused r))))))

refused_read_reads : (r : Refusal) → read_answer_of (Read.error_report (Refused r)) ≡ Err (Refused r)
unfolding read_answer_of
refused_read_reads InputWidth = refl
refused_read_reads OutputWidth = refl
refused_read_reads FewCells = refl
refused_read_reads Place = refl
refused_read_reads Divisor = refl
refused_read_reads Line = refl
refused_read_reads ShortText = refl

read_reads : (a : Result (Unit {0}) ReadError) → read_answer_of (Read.reported a) ≡ a
unfolding read_answer_of
read_reads (Ok _) = refl
read_reads (Err (BadToken at)) = refl
read_reads (Err (PastTable at)) = refl
read_reads (Err (TooWide at)) = refl
read_reads (Err (GivenTwice at)) = refl
read_reads (Err (Missing n)) = refl
read_reads (Err (Refused r)) = refused_read_reads r

pub read_one_to_one : (a b : Result (Unit {0}) ReadError) → Read.reported a ≡ Read.reported b → a ≡ b
read_one_to_one = one_to_one Read.reported read_answer_of read_reads

-- "Fields that an answer doesn't use are zero": the length with 0 alone, n with 5 alone
pub record WriteUnused (r : Write.Report) : Type 0 where
  pub length_with_0 : 0 < r.number → r.length ≡ 0
  pub n_with_5 : (r.number ≡ 5 → ⊥) → r.n ≡ 0

pub write_unused : (s : Shape) (cells : List ℕ) (room : ℕ) → WriteUnused (write_report s cells room)
write_unused s cells room =
    let only : (b : ℕ) → WriteUnused (Write.refused (reply b 0)) = λ b. record { length_with_0 = λ _. refl; n_with_5 = λ _. refl } in
    answer_has WriteUnused Write.refused _ (write_tests s cells room)
    (only 1, (only 2, (only 3, (record { length_with_0 = λ _. refl; n_with_5 = λ not. absurd (not refl) }, (only 17, tt)))))
    (record { length_with_0 = λ h. absurd (omega arith); n_with_5 = λ _. refl })

-- the offset with 8, 9, 5 and 10 alone, n with 11 alone
pub record ReadUnused (r : Read.Report) : Type 0 where
  pub offset_with_8_9_5_10 : (r.number ≡ 8 → ⊥) → (r.number ≡ 9 → ⊥) → (r.number ≡ 5 → ⊥) → (r.number ≡ 10 → ⊥) → r.offset ≡ 0
  pub n_with_11 : (r.number ≡ 11 → ⊥) → r.n ≡ 0

only_number : (b : ℕ) → ReadUnused (Read.refused (reply b 0))
only_number b = record { offset_with_8_9_5_10 = λ _ _ _ _. refl; n_with_11 = λ _. refl }

obeyed_unused : (s : Shape) (address : ℕ) (cells : List ℕ) (ts : List Token) → ReadUnused (obeyed s address cells ts).report
unfolding obeyed
obeyed_unused s address cells [] =
    answer_has (λ (r : Reading). ReadUnused r.report) lacking (complete cells) (missing_among cells ∷ [])
    (record { offset_with_8_9_5_10 = λ _ _ _ _. refl; n_with_11 = λ not. absurd (not refl) }, tt) (only_number 0)
obeyed_unused s address cells (t ∷ ts) =
    answer_has (λ (r : Reading). ReadUnused r.report) stopped _ (token_tests s address cells (saying t)) (
      record { offset_with_8_9_5_10 = λ not _ _ _. absurd (not refl); n_with_11 = λ _. refl },
      (
        record { offset_with_8_9_5_10 = λ _ not _ _. absurd (not refl); n_with_11 = λ _. refl },
        (
          record { offset_with_8_9_5_10 = λ _ _ not _. absurd (not refl); n_with_11 = λ _. refl },
          (record { offset_with_8_9_5_10 = λ _ _ _ not. absurd (not refl); n_with_11 = λ _. refl }, tt),
        ),
      ),
    )
    (obeyed_unused s (next_address address (saying t)) (next_cells address cells (saying t)) ts)

pub read_unused : (s : Shape) (text : List ℕ) (lent : ℕ) → ReadUnused (read_report s text lent)
read_unused s text lent =
    answer_has ReadUnused Read.refused (reading s text).report (table_tests s lent) (only_number 1, (only_number 2, (only_number 3, tt)))
    (obeyed_unused s 0 _ (tokens text))

-- 5: "number and the smallest such n", of the writer, whose last test is another
pub write_names_smallest : (s : Shape) (cells : List ℕ) (room : ℕ) → (write_report s cells room).number ≡ 5
    → Smallest (is_wide s) 0 (take (2 ^ s.k) cells) (write_report s cells room).n
write_names_smallest s cells room five =
    let tests = field_tests s cells in
    let short = short_text room (length (memory_text s cells)) ∷ [] in
    let done = Write.written (length (memory_text s cells)) in
    by_order 1 (refusal tests).number
    (λ h.
    let is = refused_by Write.refused done tests short {b = refusal tests} refl h in
    subst (Smallest (is_wide s) 0 (take (2 ^ s.k) cells)) (ap (λ (r : Write.Report). r.n) is)
    (five_names_smallest (λ (b : Reply). b.number) (λ (b : Reply). b.n) (λ (b : Reply). b) (reply 0 0) (λ b. (refl, refl)) refl (table_tests s (length cells))
    (omega arith) s 0 (take (2 ^ s.k) cells)
    (ap (λ (r : Write.Report). r.number) is ∙ five)))
    (λ h.
    let passed = all_passed tests (omega arith) (omega (arith, h)) in
    let is = rest_answers Write.refused done tests short passed in
    let late = other_passed (λ (r : Write.Report). r.number) Write.refused done 5 short (refl, tt) (λ b. refl) (ap (λ (r : Write.Report). r.number) is ∙ five) in
    absurd (omega (arith, five, ap (λ (r : Write.Report). r.number) (done_by Write.refused done short late ∙ is))))
