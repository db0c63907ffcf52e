-- The memory text of a table, and the answer of "Write memory". Document 02, L2. Assumes nothing.
use Rattle.std.specs.Prelude.{ℕ, zero, suc, ◌+◌, ◌/◌, ◌%◌, ◌^◌, List, [], ◌∷◌, ◌++◌, cond, ltb, length, take, drop, Result, Ok, Err}
use Rattle.units.specs.Kinds.{field_bits}
use Rattle.units.specs.Refusals.{Reply, fault_reply, Test, answer, short_text}
use Rattle.units.specs.declared.counts.Offset.{Offset}
use Rattle.units.specs.declared.refusals.Fault.{Fault}
use Rattle.units.specs.declared.shapes.Shape.{Shape}
use Rattle.table.specs.Wide.{field_tests}
use Rattle.memory_tokens.specs.Tokens.{newline}

-- "lower-case hex": the byte of a digit below 16, 0 to 9 and then a to f
abbrev pub hex_digit : ℕ → ℕ
hex_digit d = cond (ltb d 10) (48 + d) (87 + d)

-- the last digits of a number, as many as `count` says, the most significant first
abbrev pub hex_digits : ℕ → ℕ → List ℕ
hex_digits zero f = []
hex_digits (suc count) f = hex_digits count (f / 16) ++ (hex_digit (f % 16) ∷ [])

-- "as many digits as m bits need", and in tables with one as m+1 bits need, four bits a digit
abbrev pub digit_count : Shape → ℕ
digit_count s = (field_bits s.kind s.m + 3) / 4

-- "a newline after each"
abbrev pub line_of : ℕ → ℕ → List ℕ
line_of count f = hex_digits count f ++ (newline ∷ [])

-- "one field per line", in "index order"
unfoldable pub lines_of : ℕ → List ℕ → List ℕ
lines_of count [] = []
lines_of count (f ∷ fs) = line_of count f ++ lines_of count fs

-- the text of a table, which is the first 2^k cells
abbrev pub memory_text : Shape → List ℕ → List ℕ
memory_text s cells = lines_of (digit_count s) (take (2 ^ s.k) cells)

-- "it gives the length". Values that an answer does not use are zero.
pub record Report : Type 0 where
  pub number : ℕ
  pub length : ℕ
  pub n : ℕ

abbrev pub refused : Reply → Report
refused b = record { number = b.number; length = 0; n = b.n }

abbrev pub written : ℕ → Report
written length = record { number = 0; length = length; n = 0 }

-- what each case of the answer says in the documents' numbers
abbrev pub reported : Result Offset Fault → Report
reported (Ok end) = written end.0
reported (Err fault) = refused (fault_reply fault)

-- "Refusals: 1, 2, 3 first. The writer then gives 5, then 17 if the lent text buffer is too short"
abbrev pub write_tests : Shape → List ℕ → ℕ → List Test
write_tests s cells room = field_tests s cells ++ (short_text room (length (memory_text s cells)) ∷ [])

abbrev pub write_report : Shape → List ℕ → ℕ → Report
write_report s cells room = answer refused (written (length (memory_text s cells))) (write_tests s cells room)

-- "bytes past the text stay", and "writes nothing in either case"
abbrev pub written_bytes : Shape → List ℕ → List ℕ → List ℕ
written_bytes s cells bytes =
    answer (λ (_ : Reply). bytes) (memory_text s cells ++ drop (length (memory_text s cells)) bytes) (write_tests s cells (length bytes))
