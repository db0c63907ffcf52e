-- "Read back, a written table is the same table". Assumes nothing.
use Prim.Native.Nat.{ℕ, suc, ◌+◌, ◌*◌, ◌^◌, ◌≤◌, ◌<◌}
use mathlib.Core.Bool.{true, false}
use mathlib.Core.List.{List, [], ◌∷◌, ◌++◌, append_assoc}
use mathlib.Core.Path.{◌≡◌, refl, sym, ap, ap₂, ◌∙◌}
use native.Mathlib.Omega.{arith}
use borrow.Author.Tests.{leb-false, lt-leb}
use lib.Pow.{pow_mono}
use lib.ListN.{length, take, drop, get_or, replicate, length-append}
use lib.Seq.{get_or_at, set_at, take-append_seam, drop-append_seam}
use Rattle.units.specs.Inner.Good.{GoodWidths}
use Rattle.units.specs.Kinds.{field_bits}
use Rattle.units.specs.Refusals.{Reply, table_tests, short_text}
use Rattle.units.specs.declared.shapes.Shape.{Shape}
use Rattle.units.proofs.Laws.Good.{good_table}
use Rattle.units.proofs.Laws.Kinds.{bits_hold_fields}
use Rattle.units.proofs.Laws.Tests.{zero_passed, passed_parts, done_by}
use Rattle.entry.specs.Fields.{fields_end, is_wide}
use Rattle.table.specs.Inner.Good.{GoodFields}
use Rattle.table.specs.Wide.{any_wide, field_tests}
use Rattle.table.proofs.Laws.First.{none_of, each_none, all_none}
use Rattle.table.proofs.Laws.Good.{fields_good, table_size}
use Rattle.memory_text.specs.Write.{hex_digits}
use Rattle.memory_tokens.specs.Tokens.{newline, is_white, word_of, Token, token, tokens}
use Rattle.memory_tokens.specs.Words.{Saying, saying}
use Rattle.memory_text.specs.Layout.{Laid, nothing, gap, white, word}
use Rattle.memory_text.specs.Read as Read
use Rattle.memory_text.specs.Read.{missing, is_missing, any_missing, missing_among, lacking, complete, ended, obeyed, reading, next_address, next_cells, left_by, read_report, read_cells}
use Rattle.memory_text.specs.Write as Write
use Rattle.memory_text.specs.Write.{digit_count, lines_of, memory_text, write_tests, write_report, written_bytes}
use Rattle.memory_text.proofs.Laws.Digits.{length_digits, digits_show, digits_go_on, digits_are_numeral, numeral_is_value, digits_then_newline}
use Rattle.memory_text.proofs.Laws.Given.{is_missing_lem, field_given}
use Rattle.memory_text.proofs.Laws.Layout.{laid_out}
use Rattle.memory_text.proofs.Laws.Obey.{value_passes}

-- the tokens of lines: one a line
line_tokens : ℕ → ℕ → List ℕ → List Token
line_tokens at count [] = []
line_tokens at count (f ∷ fs) = token at (hex_digits count f) ∷ line_tokens (at + length (hex_digits count f) + 1) count fs

laid_word : (at : ℕ) (w text : List ℕ) (ts : List Token) → 0 < length w → word_of (w ++ text) ≡ w → Laid (at + length w) text ts → Laid at (w ++ text) (token at w ∷ ts)
laid_word at [] text ts some e laid = absurd (omega arith)
laid_word at (b ∷ bs) text ts some e laid = word at b bs text ts e laid

lines_laid : (at count : ℕ) (fs : List ℕ) → 0 < count → Laid at (lines_of count fs) (line_tokens at count fs)
unfolding lines_of line_tokens is_white
lines_laid at count [] some = nothing at
lines_laid at count (f ∷ fs) some =
    let w = hex_digits count f in
    rw (append_assoc w (newline ∷ []) (lines_of count fs))
    (laid_word at w (newline ∷ lines_of count fs) (line_tokens (at + length w + 1) count fs) (rw (length_digits count f) some)
    (digits_then_newline w (lines_of count fs) (digits_go_on count f))
    (gap (at + length w) (newline ∷ []) (lines_of count fs) _ (white newline refl) (lines_laid (at + length w + 1) count fs some)))

lines_tokens : (count : ℕ) (fs : List ℕ) → 0 < count → tokens (lines_of count fs) ≡ line_tokens 0 count fs
lines_tokens count fs some = laid_out 0 (lines_of count fs) (line_tokens 0 count fs) (lines_laid 0 count fs some)

module _ (s : Shape) (g : GoodWidths s) where
  some_digits : 0 < digit_count s
  some_digits = omega (arith, g.some_out)

  -- a field has no more digits than are written
  fits : (f : ℕ) → is_wide s f ≡ false → f < 2 ^ (4 * digit_count s)
  unfolding is_wide fields_end
  fits f narrow =
      let enough : field_bits s.kind s.m ≤ 4 * digit_count s = omega arith in
      omega (arith, leb-false (fields_end s) f narrow, bits_hold_fields s.kind s.m, pow_mono enough)

  -- so its line says the field
  line_says : (at f : ℕ) → is_wide s f ≡ false
      → saying (token at (hex_digits (digit_count s) f)) ≡ record { offset = at; formed = true; address = false; value = f }
  line_says at f narrow =
      let numeral = digits_are_numeral (digit_count s) f some_digits in
      let value = numeral_is_value (hex_digits (digit_count s) f) numeral in
      rw (value.0, value.1, numeral, digits_show (digit_count s) f (fits f narrow)) refl

  -- and the lines of fields give the cells one after the other
  lines_stored : (done fs : List ℕ) (at : ℕ) → length done + length fs ≡ 2 ^ s.k → any_wide s fs ≡ false
      → obeyed s (length done) (done ++ replicate (length fs) missing) (line_tokens at (digit_count s) fs) ≡ ended (done ++ fs)
  unfolding obeyed line_tokens
  lines_stored done [] at size narrow = refl
  lines_stored done (f ∷ fs) at size narrow =
      let narrows = none_of (is_wide s) f fs narrow in
      let t = saying (token at (hex_digits (digit_count s) f)) in
      let says = line_says at f narrows.0 in
      let value = ap (λ (x : Saying). x.value) says in
      let left = replicate (length fs) missing in
      let cells = done ++ (missing ∷ left) in
      let one_more : suc (length done) ≡ length (done ++ (f ∷ [])) = omega (arith, length-append done (f ∷ [])) in
      let ts = line_tokens (at + length (hex_digits (digit_count s) f) + 1) (digit_count s) fs in
      value_passes s (length done) cells t (ap (λ (x : Saying). x.formed) says) (ap (λ (x : Saying). x.address) says)
      (lt-leb (2 ^ s.k) (length done) (omega arith)) (ap (is_wide s) value ∙ narrows.0)
      (is_missing_lem _ (get_or_at done missing left 0 (length done) refl))
      (obeyed s (next_address (length done) t) (next_cells (length done) cells t) ts)
      ∙ ap (λ (x : Saying). obeyed s (next_address (length done) x) (next_cells (length done) cells x) ts) says
      ∙ ap₂ (λ (a : ℕ) (cs : List ℕ). obeyed s a cs ts) one_more (set_at done missing left f (length done) refl ∙ sym (append_assoc done (f ∷ []) left))
      ∙ lines_stored (done ++ (f ∷ [])) fs (at + length (hex_digits (digit_count s) f) + 1) (omega (arith, one_more)) narrows.1
      ∙ ap ended (append_assoc done (f ∷ []) fs)

-- a table of good fields, written and read
module _ (s : Shape) (cells : List ℕ) (good : GoodFields s cells) where
  fields : List ℕ
  fields = take (2 ^ s.k) cells

  size : length fields ≡ 2 ^ s.k
  unfolding fields
  size = table_size cells good.table

  none_missing : any_missing fields ≡ false
  unfolding fields
  none_missing = each_none is_missing fields (λ i h. field_given s good.table.widths (get_or fields i 0) (all_none (is_wide s) fields good.narrow i h))

  read_is : reading s (memory_text s cells) ≡ complete (take (2 ^ s.k) cells)
  unfolding fields
  read_is =
      ap₂ (λ (n : ℕ) (ts : List Token). obeyed s 0 (replicate n missing) ts) (sym size) (lines_tokens (digit_count s) fields (some_digits s good.table.widths))
      ∙ lines_stored s good.table.widths [] fields 0 (omega (arith, size)) good.narrow
      ∙ sym (done_by lacking (complete fields) (missing_among fields ∷ []) (none_missing, tt))

-- what comes of a text that is read into lent cells: it is done, the table's cells are those fields, and the others are as they were
pub record ReadsAs (s : Shape) (text fields lent : List ℕ) : Type 0 where
  pub done : read_report s text (length lent) ≡ Read.done
  pub cells : read_cells s text lent ≡ fields ++ drop (2 ^ s.k) lent

text_reads : (s : Shape) (cells lent : List ℕ) → GoodFields s cells → 2 ^ s.k ≤ length lent → ReadsAs s (memory_text s cells) (take (2 ^ s.k) cells) lent
text_reads s cells lent good enough =
    let tests = good_table (record { widths = good.table.widths; enough = enough }) in
    let is = read_is s cells good in
    record {
      done = sym (done_by Read.refused _ (table_tests s (length lent)) tests) ∙ ap (λ (r : Read.Reading). r.report) is;
      cells = sym (done_by (λ (_ : Reply). lent) _ (table_tests s (length lent)) tests) ∙ ap (λ (r : Read.Reading). left_by s r lent) is;
    }

-- what the writer leaves: up to the length that it gives, the text of a table of good fields. "bytes past the text stay"
pub record Wrote (s : Shape) (cells bytes : List ℕ) : Type 0 where
  pub good : GoodFields s cells
  pub text : take (write_report s cells (length bytes)).length (written_bytes s cells bytes) ≡ memory_text s cells
  pub past : drop (write_report s cells (length bytes)).length (written_bytes s cells bytes) ≡ drop (write_report s cells (length bytes)).length bytes

pub done_wrote : (s : Shape) (cells bytes : List ℕ) → (write_report s cells (length bytes)).number ≡ 0 → Wrote s cells bytes
done_wrote s cells bytes done =
    let tests = write_tests s cells (length bytes) in
    let text = memory_text s cells in
    let passed = zero_passed (λ (r : Write.Report). r.number) Write.refused (Write.written (length text)) tests (omega arith) (λ b. refl) refl done in
    let long = sym (ap (λ (r : Write.Report). r.length) (done_by Write.refused (Write.written (length text)) tests passed)) in
    let left = sym (done_by (λ (_ : Reply). bytes) (text ++ drop (length text) bytes) tests passed) in
    record {
      good = fields_good (passed_parts (field_tests s cells) (short_text (length bytes) (length text) ∷ []) passed).0;
      text = ap₂ take long left ∙ take-append_seam text (drop (length text) bytes);
      past = ap₂ drop long left ∙ drop-append_seam text (drop (length text) bytes) ∙ ap (λ (n : ℕ). drop n bytes) (sym long);
    }

-- so it is read back, into any cells
pub written_reads_back : (s : Shape) (cells bytes lent : List ℕ) → (write_report s cells (length bytes)).number ≡ 0 → 2 ^ s.k ≤ length lent
    → ReadsAs s (take (write_report s cells (length bytes)).length (written_bytes s cells bytes)) (take (2 ^ s.k) cells) lent
written_reads_back s cells bytes lent done enough =
    let wrote = done_wrote s cells bytes done in
    rw wrote.text (text_reads s cells lent wrote.good enough)
