-- How a text is laid out: its tokens, and what stands between them. Document 02, L2. Assumes nothing.
use Rattle.std.specs.Prelude.{ℕ, ◌+◌, Bool, true, false, ◌||◌, ◌&&◌, List, [], ◌∷◌, ◌++◌, map, ◌≡◌, eqb, length}
use Rattle.table.specs.First.{any_of}
use Rattle.memory_tokens.specs.Tokens.{newline, star, slash, is_white, word_of, Token, token, unfinished, tokens}

-- whether a newline is among the bytes of a // comment
abbrev pub has_newline : List ℕ → Bool
has_newline bytes = any_of (λ (b : ℕ). eqb b newline) bytes

-- whether a slash follows a star among those of a /* comment, where the star that opens it does not count; starred says whether the byte
-- before them is a star that does
unfoldable pub has_end : Bool → List ℕ → Bool
has_end starred [] = false
has_end starred (b ∷ bs) = (eqb b slash && starred) || has_end (eqb b star) bs

-- what stands between tokens: one byte of white space, or a whole comment of either kind
pub data Gap : List ℕ → Type 0 where
  white : (b : ℕ) → is_white b ≡ true → Gap (b ∷ [])
  line : (body : List ℕ) → has_newline body ≡ false → Gap (slash ∷ slash ∷ (body ++ (newline ∷ [])))
  block : (body : List ℕ) → has_end false body ≡ false → Gap (slash ∷ star ∷ (body ++ (star ∷ slash ∷ [])))

-- a text from an offset on, and its tokens
pub data Laid : ℕ → List ℕ → List Token → Type 0 where
  nothing : (at : ℕ) → Laid at [] []
  last_line : (at : ℕ) (body : List ℕ) → has_newline body ≡ false → Laid at (slash ∷ slash ∷ body) []
  -- a comment without its end is the last token
  cut : (at : ℕ) (body : List ℕ) → has_end false body ≡ false → Laid at (slash ∷ star ∷ body) (unfinished at ∷ [])
  gap : (at : ℕ) (g text : List ℕ) (ts : List Token) → Gap g → Laid (at + length g) text ts → Laid at (g ++ text) ts
  -- the bytes of a token are all up to its end
  word : (at b : ℕ) (bs text : List ℕ) (ts : List Token) → word_of ((b ∷ bs) ++ text) ≡ b ∷ bs → Laid (at + length (b ∷ bs)) text ts
      → Laid at ((b ∷ bs) ++ text) (token at (b ∷ bs) ∷ ts)

-- the tokens without their offsets
abbrev pub words : List ℕ → List (List ℕ)
words text = map (λ (t : Token). t.word) (tokens text)
