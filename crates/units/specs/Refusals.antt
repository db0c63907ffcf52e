-- Document 01, "Refusal numbers and their order", and the numbers of document 02. Assumes nothing.
use Rattle.std.specs.Prelude.{ℕ, ◌^◌, Bool, ◌||◌, cond, List, [], ◌∷◌, ◌++◌, ltb, leb, eqb, Result, Ok, Err}
use Rattle.units.specs.declared.refusals.Refusal.{Refusal}
use Rattle.units.specs.declared.refusals.Refusal.TheVariants.{InputWidth, OutputWidth, FewCells, Place, Divisor, Line, ShortText}
use Rattle.units.specs.declared.refusals.Fault.{Fault}
use Rattle.units.specs.declared.refusals.Fault.TheVariants.{TooWide, Refused}
use Rattle.units.specs.declared.shapes.Shape.{Shape}

-- The column "No."
abbrev pub refusal_number : Refusal → ℕ
refusal_number InputWidth = 1
refusal_number OutputWidth = 2
refusal_number FewCells = 3
refusal_number Place = 4
refusal_number Divisor = 6
refusal_number Line = 7
refusal_number ShortText = 17

-- The column "What comes back": the number and, with 5, an n. "Fields that an answer doesn't use are zero." In the tests of a memory
-- text it is an n with 11, and with 8, 9, 5 and 10 an offset.
pub record Reply : Type 0 where
  pub number : ℕ
  pub n : ℕ

abbrev pub reply : ℕ → ℕ → Reply
reply number n = record { number = number; n = n }

-- "0 | done", or a number only
abbrev pub reply_of : {A : Type 0} → Result A Refusal → Reply
reply_of (Ok _) = reply 0 0
reply_of (Err r) = reply (refusal_number r) 0

-- and with number 5, the n of the field
abbrev pub fault_reply : Fault → Reply
fault_reply (TooWide n) = reply 5 n.0
fault_reply (Refused r) = reply (refusal_number r) 0

abbrev pub fault_reply_of : {A : Type 0} → Result A Fault → Reply
fault_reply_of (Ok _) = reply 0 0
fault_reply_of (Err fault) = fault_reply fault

-- One test of a call: whether its reason holds (the column "When"), and what then comes back
pub record Test : Type 0 where
  pub holds : Bool
  pub gives : Reply

abbrev pub test : Bool → Reply → Test
test holds gives = record { holds = holds; gives = gives }

-- "Order in each call": the first test whose reason holds gives the answer. Where none does, the call is done
unfoldable pub answer : {A : Type 0} → (Reply → A) → A → List Test → A
answer refuse done [] = done
answer refuse done (t ∷ ts) = cond t.holds (refuse t.gives) (answer refuse done ts)

-- the number alone, and the n that it names
abbrev pub refusal : List Test → Reply
refusal ts = answer (λ (b : Reply). b) (reply 0 0) ts

-- the first of two
abbrev pub then_reply : Reply → Reply → Reply
then_reply first second = cond (eqb first.number 0) second first

-- x is not from least to most
unfoldable pub outside : ℕ → ℕ → ℕ → Bool
outside least most x = ltb x least || ltb most x

-- 1: "k not 1..15"
abbrev pub input_width : ℕ → Test
input_width k = test (outside 1 15 k) (reply 1 0)

-- 2: "m not 1..15"
abbrev pub output_width : ℕ → Test
output_width m = test (outside 1 15 m) (reply 2 0)

-- 3: "fewer than 2^k cells lent", or fewer than a bank has
abbrev pub few_cells : ℕ → ℕ → Test
few_cells lent needed = test (ltb lent needed) (reply 3 0)

-- 4: "h > k"
abbrev pub bank_height : ℕ → ℕ → Test
bank_height k h = test (ltb k h) (reply 4 0)

-- 4: "b >= 2^h"
abbrev pub bank_number : ℕ → ℕ → Test
bank_number h b = test (leb (2 ^ h) b) (reply 4 0)

-- 4: "n >= 2^k"
abbrev pub place : ℕ → ℕ → Test
place k n = test (leb (2 ^ k) n) (reply 4 0)

-- 6, as document 02 has it: "X is 0 or above 65535"
abbrev pub divisor : ℕ → Test
divisor x = test (outside 1 65535 x) (reply 6 0)

-- 17, of document 02: "the lent text buffer is too short"
abbrev pub short_text : ℕ → ℕ → Test
short_text lent needed = test (ltb lent needed) (reply 17 0)

-- the tests of every call that takes both widths begin so
abbrev pub width_tests : Shape → List Test
width_tests s = input_width s.k ∷ output_width s.m ∷ []

-- and those of every call that takes a whole table, so: 1, 2, 3
abbrev pub table_tests : Shape → ℕ → List Test
table_tests s lent = width_tests s ++ (few_cells lent (2 ^ s.k) ∷ [])
