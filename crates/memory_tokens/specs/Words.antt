-- What the bytes of a token say. Document 02, L2. Assumes nothing.
use Rattle.std.specs.Prelude.{ℕ, ◌+◌, ◌-◌, ◌*◌, Bool, true, false, ◌||◌, ◌&&◌, cond, List, [], ◌∷◌, leb, ltb, eqb}
use Rattle.memory_tokens.specs.Tokens.{Token}

-- "lower-case hex", "upper case too": what a byte shows, or 16 where it is no digit
unfoldable pub digit_of : ℕ → ℕ
digit_of b =
    cond (leb 48 b && leb b 57) (b - 48)
    (cond (leb 65 b && leb b 70) (b - 55)
    (cond (leb 97 b && leb b 102) (b - 87) 16))

unfoldable pub is_digit : ℕ → Bool
is_digit b = ltb (digit_of b) 16

abbrev pub underscore : ℕ
underscore = 95

abbrev pub at_sign : ℕ
at_sign = 64

-- digits and underscores
unfoldable pub goes_on : List ℕ → Bool
goes_on [] = true
goes_on (b ∷ bs) = (is_digit b || eqb b underscore) && goes_on bs

-- "underscores after a first digit"
unfoldable pub is_numeral : List ℕ → Bool
is_numeral [] = false
is_numeral (b ∷ bs) = is_digit b && goes_on bs

-- the number that digits show, after others that showed v; an underscore shows nothing
unfoldable pub shows : ℕ → List ℕ → ℕ
shows v [] = v
shows v (b ∷ bs) = shows (cond (is_digit b) (v * 16 + digit_of b) v) bs

-- "@ addresses in hex"
unfoldable pub is_address : List ℕ → Bool
is_address [] = false
is_address (b ∷ bs) = eqb b at_sign

-- the numeral of a token: what stands after the @, if it has one
unfoldable pub numeral_of : List ℕ → List ℕ
numeral_of [] = []
numeral_of (b ∷ bs) = cond (eqb b at_sign) bs (b ∷ bs)

-- what a token says: its place in the text, whether it is well formed, whether it is an address, and its number
pub record Saying : Type 0 where
  pub offset : ℕ
  pub formed : Bool
  pub address : Bool
  pub value : ℕ

abbrev pub saying : Token → Saying
saying t =
    record {
      offset = t.offset;
      formed = is_numeral (numeral_of t.word);
      address = is_address t.word;
      value = shows 0 (numeral_of t.word);
    }
