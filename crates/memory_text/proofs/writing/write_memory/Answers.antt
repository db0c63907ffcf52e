-- `memory_text::write_memory` meets its contract: its tests are those of the table's fields and of the room, and the lines fill as many
-- bytes as the text has. Assumes nothing.
use Prim.Native.Nat.{ℕ, ◌+◌, ◌*◌, ◌^◌, ◌≤◌, ◌<◌}
use mathlib.Core.List.{List, [], ◌∷◌, ◌++◌}
use mathlib.Core.Path.{◌≡◌, sym, ap, ap₂, ◌∙◌}
use native.Mathlib.Omega.{arith}
use borrow.Author.Tests.{lt-ltb, le-ltb}
use lib.ListN.{length, take, drop, length-take}
use Rattle.units.specs.Refusals.{Reply, reply, answer, refusal, short_text}
use Rattle.units.specs.declared.shapes.Shape.{Shape}
use Rattle.units.proofs.Laws.Tests.{handed_on, fault_so, refused_after, done_by, passed_also}
use Rattle.table.specs.Inner.Good.{GoodFields}
use Rattle.table.specs.Wide.{field_tests}
use Rattle.table.proofs.Laws.Fields.{fields_done}
use Rattle.table.proofs.Laws.Good.{good_fields, table_size}
use Rattle.memory_text.specs.Write.{digit_count, memory_text, reported, refused, written, write_tests}
use Rattle.memory_text.proofs.Laws.Lines.{length_lines}
use Rattle.memory_text.proofs.writing.write_memory.Goals as goal

-- every test but that of the room passed
module _ (s : Shape) (cells : List ℕ) (tests : reply 0 0 ≡ refusal (field_tests s cells)) {t : Shape} {power count : ℕ} (same : t ≡ s) (power_is : power ≡ 2 ^ s.k)
    (count_is : count ≡ digit_count t) where
  good : GoodFields s cells
  good = fields_done s cells tests

  -- so the text has as many bytes as the code reckons
  size : length (memory_text s cells) ≡ power * (count + 1)
  size =
      length_lines (digit_count s) (take (2 ^ s.k) cells)
      ∙ ap₂ (λ (n digits : ℕ). n * digits) (table_size cells good.table ∙ sym power_is) (omega (arith, count_is, ap digit_count same))

  -- where the room is too small for it, and where it is not
  short : {A : Type 0} (refuse : Reply → A) (done : A) (room : ℕ) → room < power * (count + 1)
      → refuse (reply 17 0) ≡ answer refuse done (write_tests s cells room)
  short refuse done room h =
      refused_after refuse done (field_tests s cells) (short_text room (length (memory_text s cells))) [] (good_fields good)
      (lt-ltb room (length (memory_text s cells)) (omega (arith, size, h)))

  fits : {A : Type 0} (refuse : Reply → A) (done : A) (room : ℕ) → power * (count + 1) ≤ room
      → done ≡ answer refuse done (write_tests s cells room)
  fits refuse done room h =
      done_by refuse done (write_tests s cells room)
      (passed_also (field_tests s cells) (short_text room (length (memory_text s cells)) ∷ []) (good_fields good)
      (le-ltb room (length (memory_text s cells)) (omega (arith, size, h)), tt))

pub returns-in_err-good-clause-answer : goal.returns-in_err-good-clause-answer
returns-in_err-good-clause-answer c =
    handed_on reported _ _ c.from_residual.ensures.1
    ∙ fault_so refused _ (field_tests c.args.shape c.args.table.now) (short_text _ _ ∷ []) _ c.in_err-good.ensures.answer

pub returns-in_err-good-clause-bytes : goal.returns-in_err-good-clause-bytes
returns-in_err-good-clause-bytes c =
    fault_so (λ (_ : Reply). c.args.text.now) _ (field_tests c.args.shape c.args.table.now) (short_text _ _ ∷ []) _ c.in_err-good.ensures.answer

pub returns-then-text-length-clause-answer : goal.returns-then-text-length-clause-answer
returns-then-text-length-clause-answer c =
    let passed = c.in_ok-good.ensures in
    short c.args.shape c.args.table.now passed.answer passed.same c.power-size.ensures c.digit_count-count.ensures refused _ _ c.if-text-length.true

pub returns-then-text-length-clause-bytes : goal.returns-then-text-length-clause-bytes
returns-then-text-length-clause-bytes c =
    let passed = c.in_ok-good.ensures in
    short c.args.shape c.args.table.now passed.answer passed.same c.power-size.ensures c.digit_count-count.ensures (λ (_ : Reply). c.args.text.now) _ _
    c.if-text-length.true

pub slice_bounds-put_lines-end : goal.slice_bounds-put_lines-end
slice_bounds-put_lines-end c =
    let enough = (fields_done c.args.shape c.args.table.now c.in_ok-good.ensures.answer).table.enough in
    simp length-take (omega (arith, c.power-size.ensures, enough))

pub returns-clause-answer : goal.returns-clause-answer
returns-clause-answer c =
    let s = c.args.shape in
    let cells = c.args.table.now in
    let passed = c.in_ok-good.ensures in
    ap written (sym (size s cells passed.answer passed.same c.power-size.ensures c.digit_count-count.ensures))
    ∙ fits s cells passed.answer passed.same c.power-size.ensures c.digit_count-count.ensures refused _ _ c.if-text-length.false

pub returns-clause-bytes : goal.returns-clause-bytes
returns-clause-bytes c =
    let s = c.args.shape in
    let cells = c.args.table.now in
    let before = c.args.text.now in
    let passed = c.in_ok-good.ensures in
    (rw (c.power-size.ensures, c.digit_count-count.ensures, passed.same) at c.put_lines.ensures)
    ∙ ap (λ (n : ℕ). memory_text s cells ++ drop n before) (sym (length_lines (digit_count s) (take (2 ^ s.k) cells)))
    ∙ fits s cells passed.answer passed.same c.power-size.ensures c.digit_count-count.ensures (λ (_ : Reply). before) _ _ c.if-text-length.false
