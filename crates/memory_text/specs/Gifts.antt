-- The cells that a text gives, over its tokens. Document 02, L2. Assumes nothing.
use Rattle.std.specs.Prelude.{ℕ, suc, ◌+◌, ◌<◌, cond, List, [], ◌∷◌, ◌≡◌, eqb, length, get_or}
use Rattle.memory_tokens.specs.Tokens.{Token, tokens}
use Rattle.memory_tokens.specs.Words.{saying}

-- a value, and the cell that it is for
pub record Gift : Type 0 where
  pub cell : ℕ
  pub value : ℕ

-- the values among tokens, in order, from an address on: an address is that of the next value, and each value moves it on by one
unfoldable pub gifts_from : ℕ → List Token → List Gift
gifts_from address [] = []
gifts_from address (t ∷ ts) =
    cond (saying t).address (gifts_from (saying t).value ts)
    (record { cell = address; value = (saying t).value } ∷ gifts_from (suc address) ts)

-- "0 at the start"
abbrev pub gifts : List ℕ → List Gift
gifts text = gifts_from 0 (tokens text)

-- how often a cell is given
unfoldable pub times : ℕ → List Gift → ℕ
times n [] = 0
times n (g ∷ gs) = cond (eqb g.cell n) 1 0 + times n gs

-- every value given is for one of the cells, and stands there
abbrev pub Stand : List ℕ → List Gift → Type 0
Stand fields [] = Unit {0}
Stand fields (g ∷ gs) = (g.cell < length fields) × ((get_or fields g.cell 0 ≡ g.value) × Stand fields gs)
