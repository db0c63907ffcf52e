-- The tokens of a memory text. Document 02, L2. A text is a list of bytes. Assumes nothing.
use Rattle.std.specs.Prelude.{ℕ, suc, ◌-◌, Bool, true, false, ◌||◌, ◌&&◌, cond, List, [], ◌∷◌, leb, eqb, get_or}

abbrev pub newline : ℕ
newline = 10

abbrev pub star : ℕ
star = 42

abbrev pub slash : ℕ
slash = 47

-- "white space (blank, tab, newline, form feed)"
unfoldable pub is_white : ℕ → Bool
is_white b = eqb b 32 || (eqb b 9 || (eqb b newline || eqb b 12))

-- "both comment kinds": a slash, and after it a second one or a star. Below, bs is what stands after the byte b
unfoldable pub opens : ℕ → ℕ → List ℕ → Bool
opens second b bs = eqb b slash && eqb (get_or bs 0 0) second

-- "A token ends at white space, a comment or the end": whether it ends before b
unfoldable pub ends : ℕ → List ℕ → Bool
ends b bs = is_white b || (opens slash b bs || opens star b bs)

-- the bytes from here to the end of the token
unfoldable pub word_of : List ℕ → List ℕ
word_of [] = []
word_of (b ∷ bs) = cond (ends b bs) [] (b ∷ word_of bs)

-- "the offset of its first byte", and its bytes
pub record Token : Type 0 where
  pub offset : ℕ
  pub word : List ℕ

abbrev pub token : ℕ → List ℕ → Token
token offset word = record { offset = offset; word = word }

-- "an unfinished comment" is a faulty token, too: it stands as its first two bytes, which are no number
abbrev pub unfinished : ℕ → Token
unfinished from = token from (slash ∷ star ∷ [])

-- where the next byte stands
pub data Mode : Type 0 where
  -- in no comment; a token has begun, or not
  outside : (begun : Bool) → Mode
  -- in one, to the end of the line or not, that began at an offset; the byte before is a star, or not
  comment : (line : Bool) → (from : ℕ) → (starred : Bool) → Mode

-- whether the byte b at `at` is the last of a comment: a newline; or a slash after a star, and the fourth byte at the least, since
-- `/*/` is not finished
unfoldable pub closes : Bool → ℕ → Bool → ℕ → ℕ → Bool
closes line from starred at b = cond line (eqb b newline) (eqb b slash && (starred && leb 3 (at - from)))

-- the tokens from a byte on, in order; at is its offset. "the end, which also ends a // comment"
unfoldable pub tokens_in : Mode → ℕ → List ℕ → List Token
tokens_in (outside begun) at [] = []
tokens_in (comment line from starred) at [] = cond line [] (unfinished from ∷ [])
tokens_in (outside begun) at (b ∷ bs) =
    cond (is_white b) (tokens_in (outside false) (suc at) bs)
    (cond (opens slash b bs) (tokens_in (comment true at false) (suc at) bs)
    (cond (opens star b bs) (tokens_in (comment false at false) (suc at) bs)
    (cond begun (tokens_in (outside true) (suc at) bs) (token at (word_of (b ∷ bs)) ∷ tokens_in (outside true) (suc at) bs))))
tokens_in (comment line from starred) at (b ∷ bs) =
    cond (closes line from starred at b) (tokens_in (outside false) (suc at) bs) (tokens_in (comment line from (eqb b star)) (suc at) bs)

-- all of them
abbrev pub tokens : List ℕ → List Token
tokens text = tokens_in (outside false) 0 text
