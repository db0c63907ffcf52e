-- The answer of "Read memory", and the cells that it leaves. Document 02, L2. Assumes nothing.
use Rattle.std.specs.Prelude.{ℕ, suc, ◌^◌, Bool, not, ◌&&◌, cond, List, [], ◌∷◌, ◌++◌, leb, eqb, length, drop, get_or, set, replicate, Result, Ok, Err}
use Rattle.units.specs.Refusals.{Reply, reply, Test, test, answer, refusal_number, table_tests}
use Rattle.units.specs.declared.shapes.Shape.{Shape}
use Rattle.entry.specs.Fields.{is_wide}
use Rattle.table.specs.First.{any_of, first_of}
use Rattle.memory_tokens.specs.Tokens.{Token, tokens}
use Rattle.memory_tokens.specs.Words.{Saying, saying}
use Rattle.memory_text.specs.declared.errors.ReadError.{ReadError}
use Rattle.memory_text.specs.declared.errors.ReadError.TheVariants.{BadToken, PastTable, TooWide, GivenTwice, Missing, Refused}

-- The number, "the offset of its first byte" with 8, 9, 5 and 10, and "the smallest missing n" with 11. Values that an answer
-- does not use are zero.
pub record Report : Type 0 where
  pub number : ℕ
  pub offset : ℕ
  pub n : ℕ

abbrev pub refused : Reply → Report
refused b = record { number = b.number; offset = 0; n = b.n }

abbrev pub done : Report
done = record { number = 0; offset = 0; n = 0 }

abbrev pub faulty : Reply → Report
faulty b = record { number = b.number; offset = b.n; n = 0 }

-- what each case of the answer says in the documents' numbers
abbrev pub error_report : ReadError → Report
error_report (BadToken at) = faulty (reply 8 at.0)
error_report (PastTable at) = faulty (reply 9 at.0)
error_report (TooWide at) = faulty (reply 5 at.0)
error_report (GivenTwice at) = faulty (reply 10 at.0)
error_report (Missing n) = refused (reply 11 n.0)
error_report (Refused r) = refused (reply (refusal_number r) 0)

abbrev pub reported : {A : Type 0} → Result A ReadError → Report
reported (Ok _) = done
reported (Err e) = error_report e

-- what stands for a cell that was not given: no table has such a field
abbrev pub missing : ℕ
missing = 65535

unfoldable pub is_missing : ℕ → Bool
is_missing cell = eqb cell missing

-- "at one token in the order 8, 9, 5, 10", of a token that finds an address and cells
--   8: "a bad character, an @ without digits or an unfinished comment"
--   9: "an @ address past the table or a value that would be stored past it"
--   5: "value too wide"
--   10: "cell given twice"
abbrev pub token_tests : Shape → ℕ → List ℕ → Saying → List Test
token_tests s address cells t =
    test (not t.formed) (reply 8 t.offset)
    ∷ test (leb (2 ^ s.k) (cond t.address t.value address)) (reply 9 t.offset)
    ∷ test (not t.address && is_wide s t.value) (reply 5 t.offset)
    ∷ test (not t.address && not (is_missing (get_or cells address 0))) (reply 10 t.offset)
    ∷ []

-- and what it leaves: an address is the next one, and a value stands at the address that it finds
abbrev pub next_address : ℕ → Saying → ℕ
next_address address t = cond t.address t.value (suc address)

abbrev pub next_cells : ℕ → List ℕ → Saying → List ℕ
next_cells address cells t = cond t.address cells (set cells address t.value)

-- whether a cell was not given, and the smallest n of one
abbrev pub any_missing : List ℕ → Bool
any_missing cells = any_of is_missing cells

abbrev pub first_missing : List ℕ → ℕ
first_missing cells = first_of is_missing 0 cells

-- what a text comes to: the answer, and the fields that it gives
pub record Reading : Type 0 where
  pub report : Report
  pub fields : List ℕ

abbrev pub stopped : Reply → Reading
stopped b = record { report = faulty b; fields = [] }

abbrev pub lacking : Reply → Reading
lacking b = record { report = refused b; fields = [] }

abbrev pub complete : List ℕ → Reading
complete cells = record { report = done; fields = cells }

-- "Without a faulty token, 11 gives the smallest missing n."
abbrev pub missing_among : List ℕ → Test
missing_among cells = test (any_missing cells) (reply 11 (first_missing cells))

abbrev pub ended : List ℕ → Reading
ended cells = answer lacking (complete cells) (missing_among cells ∷ [])

-- "The reader stops at the first faulty token": the tokens in order, from an address and cells on
unfoldable pub obeyed : Shape → ℕ → List ℕ → List Token → Reading
obeyed s address cells [] = ended cells
obeyed s address cells (t ∷ ts) =
    answer stopped (obeyed s (next_address address (saying t)) (next_cells address cells (saying t)) ts) (token_tests s address cells (saying t))

-- "0 at the start", and no cell given. The table is its 2^k cells
abbrev pub reading : Shape → List ℕ → Reading
reading s text = obeyed s 0 (replicate (2 ^ s.k) missing) (tokens text)

-- "Refusals: 1, 2, 3 first."
abbrev pub read_report : Shape → List ℕ → ℕ → Report
read_report s text lent = answer refused (reading s text).report (table_tests s lent)

-- "a refused file leaves the lent cells as they stood". Otherwise the table's cells hold the fields, and those past it keep theirs
abbrev pub left_by : Shape → Reading → List ℕ → List ℕ
left_by s r cells = cond (eqb r.report.number 0) (r.fields ++ drop (2 ^ s.k) cells) cells

abbrev pub read_cells : Shape → List ℕ → List ℕ → List ℕ
read_cells s text cells = answer (λ (_ : Reply). cells) (left_by s (reading s text) cells) (table_tests s (length cells))
