-- What the functions that go over a text hand to each other: where they have come, and what the text is from there on. Assumes nothing.
use Rattle.std.specs.Prelude.{ℕ, suc, ◌+◌, ◌≤◌, ◌<◌, min, Bool, true, false, List, [], ◌∷◌, ◌≡◌, length, drop, get_or, Option, Some, None, Result, Ok, Err}
use Rattle.memory_tokens.specs.Tokens.{Token, Mode, outside, comment, tokens_in, unfinished, word_of, slash, star, opens, ends}
use Rattle.memory_tokens.specs.Words.{digit_of, Saying, saying, goes_on, is_numeral, shows}
use Rattle.memory_tokens.specs.declared.numerals.Numeral.{Numeral}
use Rattle.memory_tokens.specs.declared.words.Faulty.{Faulty}
use Rattle.memory_tokens.specs.declared.words.Said.{Said}
use Rattle.memory_tokens.specs.declared.words.Said.TheVariants.{Address, Value}
use Rattle.memory_tokens.specs.declared.words.Word.{Word}

-- the tokens of a text from a place on, and the rest of the word there
abbrev pub tokens_from : List ℕ → Mode → ℕ → List Token
tokens_from text mode at = tokens_in mode at (drop at text)

abbrev pub word_from : List ℕ → ℕ → List ℕ
word_from text at = word_of (drop at text)

-- whether a comment begins, or a token ends, before the byte at a place
abbrev pub opens_at : ℕ → List ℕ → ℕ → Bool
opens_at second text at = opens second (get_or text at 0) (drop (suc at) text)

abbrev pub ends_at : List ℕ → ℕ → Bool
ends_at text at = ends (get_or text at 0) (drop (suc at) text)

-- a place, no earlier than `least`, from which on the text has the tokens that it has from `at` on
pub record Left (text : List ℕ) (mode : Mode) (at least end : ℕ) : Type 0 where
  pub later : least ≤ end
  pub within : end ≤ length text
  pub same : tokens_from text mode at ≡ tokens_from text (outside false) end

-- the comment that begins at `from`: its slash is passed
abbrev pub CommentEnds : List ℕ → Bool → ℕ → Result ℕ Faulty → Type 0
CommentEnds text line from (Ok end) = Left text (comment line from false) (from + 1) (from + 1) end
CommentEnds text line from (Err faulty) = (faulty.0.0 ≡ from) × (tokens_from text (comment line from false) (from + 1) ≡ unfinished from ∷ [])

-- what is no comment, or one of either kind
abbrev pub CommentAt : List ℕ → ℕ → Result (Option ℕ) Faulty → Type 0
CommentAt text at (Ok None) = (opens_at slash text at ≡ false) × (opens_at star text at ≡ false)
CommentAt text at (Ok (Some end)) = Left text (outside false) at (at + 1) end
CommentAt text at (Err faulty) = (faulty.0.0 ≡ at) × (tokens_from text (outside false) at ≡ unfinished at ∷ [])

-- the gap from `from` on
pub record IsTokenAt (text : List ℕ) (from at : ℕ) : Type 0 where
  pub left : Left text (outside false) from from at
  pub inside : at < length text
  pub begins : ends_at text at ≡ false

abbrev pub GapEnds : List ℕ → ℕ → Result (Option ℕ) Faulty → Type 0
GapEnds text from (Ok None) = tokens_from text (outside false) from ≡ []
GapEnds text from (Ok (Some at)) = IsTokenAt text from at
GapEnds text from (Err faulty) = tokens_from text (outside false) from ≡ unfinished faulty.0.0 ∷ []

-- what a byte shows, if it is a digit
abbrev pub IsDigit : ℕ → Option ℕ → Type 0
IsDigit b None = digit_of b ≡ 16
IsDigit b (Some d) = (d ≡ digit_of b) × (d < 16)

-- a number as the code holds it: what is past every table and every field is 65536
abbrev pub capped : ℕ → ℕ
capped v = min v 65536

-- digits and underscores from a place on, after others that showed `before`
pub record RestIs (text : List ℕ) (from before value end : ℕ) : Type 0 where
  pub left : Left text (outside true) from from end
  pub good : goes_on (word_from text from) ≡ true
  pub value_is : value ≡ capped (shows before (word_from text from))

abbrev pub RestShown : List ℕ → ℕ → ℕ → Option Numeral → Type 0
RestShown text from before None = goes_on (word_from text from) ≡ false
RestShown text from before (Some n) = RestIs text from before n.value n.end

-- a whole number at a place
pub record NumeralIs (text : List ℕ) (from value end : ℕ) : Type 0 where
  pub left : Left text (outside true) from (from + 1) end
  pub good : is_numeral (word_from text from) ≡ true
  pub value_is : value ≡ capped (shows 0 (word_from text from))

abbrev pub NumeralAt : List ℕ → ℕ → Option Numeral → Type 0
NumeralAt text from None = is_numeral (word_from text from) ≡ false
NumeralAt text from (Some n) = NumeralIs text from n.value n.end

-- what a token says, as the code holds it
abbrev pub says_address : Said → Bool
says_address (Address v) = true
says_address (Value v) = false

abbrev pub number_said : Said → ℕ
number_said (Address v) = v
number_said (Value v) = v

abbrev pub says : Word → Saying
says w = record { offset = w.from.0; formed = true; address = says_address w.says; value = number_said w.says }

abbrev pub capped_saying : Saying → Saying
capped_saying t = record { offset = t.offset; formed = t.formed; address = t.address; value = capped t.value }

-- a token at a place, by its number
abbrev pub said : ℕ → Bool → Option Numeral → Result (Word × ℕ) Faulty
said from address None = Err (record { 0 = record { 0 = from } })
said from true (Some n) = Ok (record { from = record { 0 = from }; says = Address n.value }, n.end)
said from false (Some n) = Ok (record { from = record { 0 = from }; says = Value n.value }, n.end)

-- the next token: none; a faulty one; one that says something, and what is left after it
pub record IsFaulty (text : List ℕ) (at offset : ℕ) : Type 0 where
  pub first : Token
  pub rest : List Token
  pub tokens_are : tokens_from text (outside false) at ≡ first ∷ rest
  pub offset_is : first.offset ≡ offset
  pub bad : (saying first).formed ≡ false

pub record SaysSo (text : List ℕ) (at : ℕ) (word : Word) (end : ℕ) : Type 0 where
  pub first : Token
  pub tokens_are : tokens_from text (outside false) at ≡ first ∷ tokens_from text (outside false) end
  pub says_it : says word ≡ capped_saying (saying first)
  pub later : at + 1 ≤ end
  pub within : end ≤ length text

-- the token at a place, and the next one
abbrev pub TokenAt : List ℕ → ℕ → Result (Word × ℕ) Faulty → Type 0
TokenAt text at (Ok says) = SaysSo text at says.0 says.1
TokenAt text at (Err faulty) = IsFaulty text at faulty.0.0

abbrev pub NextToken : List ℕ → ℕ → Result (Option (Word × ℕ)) Faulty → Type 0
NextToken text at (Ok None) = tokens_from text (outside false) at ≡ []
NextToken text at (Ok (Some says)) = SaysSo text at says.0 says.1
NextToken text at (Err faulty) = IsFaulty text at faulty.0.0
