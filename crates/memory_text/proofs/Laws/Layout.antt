-- The tokens of a text that is laid out are those of its layout. Assumes nothing.
use Prim.Native.Nat.{ℕ, suc, ◌+◌, ◌-◌, ◌≤◌}
use mathlib.Core.Bool.{Bool, true, false, ◌&&◌, cond}
use mathlib.Core.List.{List, [], ◌∷◌, ◌++◌, append_assoc}
use mathlib.Core.Path.{◌≡◌, refl, ap, ap₂, ◌∙◌}
use native.Mathlib.Omega.{arith}
use borrow.Author.Tests.{le-leb, lt-leb}
use lib.Dec.{leb, eqb}
use lib.ListN.{length, drop, length-append}
use Rattle.units.proofs.Laws.Tests.{or_false}
use Rattle.table.proofs.Laws.First.{none_of}
use Rattle.memory_tokens.specs.Tokens.{newline, star, slash, is_white, opens, ends, word_of, Token, token, unfinished, outside, comment, closes, tokens_in}
use Rattle.memory_text.specs.Layout.{has_newline, has_end, Gap, white, line, block, Laid, nothing, last_line, cut, gap, word}
use Rattle.memory_tokens.proofs.Laws.Places.{stays_in_token, begins_token, leaves_token}

-- tokens from a place on that is told in two ways
from_there : (text : List ℕ) {a b : ℕ} → a ≡ b → tokens_in (outside false) a text ≡ tokens_in (outside false) b text
from_there text = ap (λ (x : ℕ). tokens_in (outside false) x text)

and_true : (x : Bool) → (x && true) ≡ x
and_true true = refl
and_true false = refl

-- a comment to the end of the line, from any byte of it on
module _ (from : ℕ) where
  line_closes : (body text : List ℕ) (starred : Bool) (at : ℕ) → has_newline body ≡ false
      → tokens_in (comment true from starred) at (body ++ (newline ∷ text)) ≡ tokens_in (outside false) (at + length body + 1) text
  unfolding tokens_in closes
  line_closes [] text starred at e = from_there text (omega arith)
  line_closes (b ∷ bs) text starred at e =
      let other = none_of (λ (x : ℕ). eqb x newline) b bs e in
      rw other.0 (line_closes bs text (eqb b star) (suc at) other.1 ∙ from_there text (omega arith))

  line_cut : (body : List ℕ) (starred : Bool) (at : ℕ) → has_newline body ≡ false → tokens_in (comment true from starred) at body ≡ []
  unfolding tokens_in closes
  line_cut [] starred at e = refl
  line_cut (b ∷ bs) starred at e =
      let other = none_of (λ (x : ℕ). eqb x newline) b bs e in
      rw other.0 (line_cut bs (eqb b star) (suc at) other.1)

  -- one to its end, or without one, from any byte after its first two on
  still : (b at : ℕ) → from + 2 ≤ at → (eqb b star && leb 3 (suc at - from)) ≡ eqb b star
  still b at h = rw (le-leb 3 (suc at - from) (omega arith)) (and_true (eqb b star))

  block_closes : (body text : List ℕ) (starred : Bool) (at : ℕ) → from + 2 ≤ at → has_end (starred && leb 3 (at - from)) body ≡ false
      → tokens_in (comment false from starred) at (body ++ (star ∷ slash ∷ text)) ≡ tokens_in (outside false) (at + length body + 2) text
  unfolding tokens_in closes has_end
  block_closes [] text starred at h e = rw (le-leb 3 (suc at - from) (omega arith)) (from_there text (omega arith))
  block_closes (b ∷ bs) text starred at h e =
      let none = or_false (eqb b slash && (starred && leb 3 (at - from))) (has_end (eqb b star) bs) e in
      rw none.0 (block_closes bs text (eqb b star) (suc at) (omega arith) (ap (λ (x : Bool). has_end x bs) (still b at h) ∙ none.1) ∙ from_there text (omega arith))

  block_cut : (body : List ℕ) (starred : Bool) (at : ℕ) → from + 2 ≤ at → has_end (starred && leb 3 (at - from)) body ≡ false
      → tokens_in (comment false from starred) at body ≡ unfinished from ∷ []
  unfolding tokens_in closes has_end
  block_cut [] starred at h e = refl
  block_cut (b ∷ bs) starred at h e =
      let none = or_false (eqb b slash && (starred && leb 3 (at - from))) (has_end (eqb b star) bs) e in
      rw none.0 (block_cut bs (eqb b star) (suc at) (omega arith) (ap (λ (x : Bool). has_end x bs) (still b at h) ∙ none.1))

-- a gap is passed
pub gap_passes : (at : ℕ) (g text : List ℕ) → Gap g → tokens_in (outside false) at (g ++ text) ≡ tokens_in (outside false) (at + length g) text
unfolding tokens_in is_white opens closes
gap_passes at g text (white b e) = rw e (from_there text (omega arith))
gap_passes at g text (line body e) =
    rw (append_assoc body (newline ∷ []) text)
    (line_closes at body text false (suc (suc at)) e ∙ from_there text (rw (length-append body (newline ∷ [])) (omega arith)))
gap_passes at g text (block body e) =
    let first : leb 3 (suc (suc at) - at) ≡ false = lt-leb 3 (suc (suc at) - at) (omega arith) in
    rw (append_assoc body (star ∷ slash ∷ []) text)
    (block_closes at body text true (suc (suc at)) (omega arith) (rw first e) ∙ from_there text (rw (length-append body (star ∷ slash ∷ [])) (omega arith)))

-- where a word has bytes, the token goes on before the first of them, and where it has none it ends
word_inside : (b : ℕ) (bs w : List ℕ) → word_of (b ∷ bs) ≡ b ∷ w → (ends b bs ≡ false) × (word_of bs ≡ w)
unfolding word_of
word_inside b bs w e = by_end (ends b bs) refl e
  where
    by_end : (is : Bool) → ends b bs ≡ is → cond is [] (b ∷ word_of bs) ≡ b ∷ w → (ends b bs ≡ false) × (word_of bs ≡ w)
    by_end true is e = absurd (omega (arith, ap (λ (l : List ℕ). length l) e))
    by_end false is e = (is, ap (drop 1) e)

word_over : (b : ℕ) (bs : List ℕ) → word_of (b ∷ bs) ≡ [] → ends b bs ≡ true
unfolding word_of
word_over b bs e = by_end (ends b bs) refl e
  where
    by_end : (is : Bool) → ends b bs ≡ is → cond is [] (b ∷ word_of bs) ≡ [] → ends b bs ≡ true
    by_end true is e = is
    by_end false is e = absurd (omega (arith, ap (λ (l : List ℕ). length l) e))

-- so the bytes of a token after its first are passed
token_passes : (at : ℕ) (bs text : List ℕ) → word_of (bs ++ text) ≡ bs → tokens_in (outside true) at (bs ++ text) ≡ tokens_in (outside false) (at + length bs) text
unfolding tokens_in
token_passes at [] [] e = refl
token_passes at [] (c ∷ cs) e = leaves_token at c cs (word_over c cs e) ∙ from_there (c ∷ cs) (omega arith)
token_passes at (b ∷ bs) text e =
    let inside = word_inside b (bs ++ text) bs e in
    stays_in_token at b (bs ++ text) inside.0 ∙ token_passes (suc at) bs text inside.1 ∙ from_there text (omega arith)

pub laid_out : (at : ℕ) (text : List ℕ) (ts : List Token) → Laid at text ts → tokens_in (outside false) at text ≡ ts
unfolding tokens_in is_white opens closes
laid_out at text ts (nothing _) = refl
laid_out at text ts (last_line _ body e) = line_cut at body false (suc (suc at)) e
laid_out at text ts (cut _ body e) =
    let first : leb 3 (suc (suc at) - at) ≡ false = lt-leb 3 (suc (suc at) - at) (omega arith) in
    block_cut at body true (suc (suc at)) (omega arith) (rw first e)
laid_out at text ts (gap _ g rest _ is laid) = gap_passes at g rest is ∙ laid_out (at + length g) rest ts laid
laid_out at text ts (word _ b bs rest us e laid) =
    let inside = word_inside b (bs ++ rest) bs e in
    begins_token at b (bs ++ rest) inside.0
    ∙ ap₂ (λ (w : List ℕ) (more : List Token). token at w ∷ more) e
    (token_passes (suc at) bs rest inside.1 ∙ from_there rest (omega arith) ∙ laid_out (at + length (b ∷ bs)) rest us laid)
