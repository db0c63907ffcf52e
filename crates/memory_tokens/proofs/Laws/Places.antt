-- The tokens that a text has from a place on, one byte after the other: each clause of their definition. Assumes nothing.
use Prim.Native.Nat.{ℕ, suc, ◌+◌, ◌≤◌, ◌<◌}
use mathlib.Core.Bool.{Bool, true, false, cond}
use mathlib.Core.List.{List, [], ◌∷◌}
use mathlib.Core.Path.{◌≡◌, refl, sym, ◌∙◌}
use native.Mathlib.Numerals.{add-one}
use native.Mathlib.Omega.{arith}
use borrow.Author.Tests.{eq-eqb, ne_eqb}
use lib.Dec.{eqb}
use lib.ListN.{length, drop, get_or, drop_of_length-le}
use lib.Seq.{drop-cons}
use Rattle.std.proofs.Common.{◌≢◌}
use Rattle.memory_tokens.specs.Tokens.{token, outside, comment, tokens_in, word_of, unfinished, is_white, opens, ends, closes, newline, slash, star}
use Rattle.memory_tokens.specs.Inner.Places.{tokens_from, word_from, opens_at, ends_at}
use Rattle.memory_tokens.proofs.Laws.Bytes.{comment_not_white}

-- a token ends in none of three ways
pub none_ends : (b : ℕ) (bs : List ℕ) → is_white b ≡ false → opens slash b bs ≡ false → opens star b bs ≡ false → ends b bs ≡ false
unfolding ends
none_ends b bs w l s = rw (w, l, s)

-- a token goes on or ends, whatever stands after it
pub stays_in_token : (at b : ℕ) (bs : List ℕ) → ends b bs ≡ false → tokens_in (outside true) at (b ∷ bs) ≡ tokens_in (outside true) (suc at) bs
unfolding tokens_in ends
stays_in_token at b bs e = grind arith

pub begins_token : (at b : ℕ) (bs : List ℕ) → ends b bs ≡ false
    → tokens_in (outside false) at (b ∷ bs) ≡ token at (word_of (b ∷ bs)) ∷ tokens_in (outside true) (suc at) bs
unfolding tokens_in ends
begins_token at b bs e = grind arith

pub leaves_token : (at b : ℕ) (bs : List ℕ) → ends b bs ≡ true → tokens_in (outside true) at (b ∷ bs) ≡ tokens_in (outside false) at (b ∷ bs)
unfolding tokens_in ends
leaves_token at b bs e = grind arith

-- a star does not matter to a comment to the end of the line
line_starred : (from : ℕ) (starred : Bool) (at : ℕ) (bs : List ℕ) → tokens_in (comment true from starred) at bs ≡ tokens_in (comment true from false) at bs
unfolding tokens_in closes
line_starred from starred at [] = refl
line_starred from starred at (b ∷ bs) = refl

module _ (text : List ℕ) where
  -- at the end of the text
  pub text_ends : (begun : Bool) (at : ℕ) → length text ≤ at → tokens_from text (outside begun) at ≡ []
  unfolding tokens_in
  text_ends begun at h = rw (drop_of_length-le text h)

  pub comment_cut : (line : Bool) (from : ℕ) (starred : Bool) (at : ℕ) → length text ≤ at
      → tokens_from text (comment line from starred) at ≡ cond line [] (unfinished from ∷ [])
  unfolding tokens_in
  comment_cut line from starred at h = rw (drop_of_length-le text h)

  pub line_cut : (from at : ℕ) → length text ≤ at → tokens_from text (comment true from false) at ≡ tokens_from text (outside false) at
  line_cut from at h = comment_cut true from false at h ∙ sym (text_ends false at h)

  pub word_past : (at : ℕ) → length text ≤ at → word_from text at ≡ []
  unfolding word_of
  word_past at h = rw (drop_of_length-le text h)

  module _ (at : ℕ) (h : at < length text) where
    -- white space, and a comment of either kind
    pub white_passes : (begun : Bool) → is_white (get_or text at 0) ≡ true → tokens_from text (outside begun) at ≡ tokens_from text (outside false) (at + 1)
    unfolding tokens_in
    white_passes begun e = rw (add-one at, drop-cons text at 0 h, e)

    pub line_begins : (begun : Bool) → opens_at slash text at ≡ true → tokens_from text (outside begun) at ≡ tokens_from text (comment true at false) (at + 1)
    unfolding tokens_in
    line_begins begun e = rw (add-one at, drop-cons text at 0 h, comment_not_white slash (get_or text at 0) (drop (suc at) text) e, e)

    pub block_begins : (begun : Bool) → opens_at slash text at ≡ false → opens_at star text at ≡ true
        → tokens_from text (outside begun) at ≡ tokens_from text (comment false at false) (at + 1)
    unfolding tokens_in
    block_begins begun n e = rw (add-one at, drop-cons text at 0 h, comment_not_white star (get_or text at 0) (drop (suc at) text) e, n, e)

    module _ (line : Bool) (from : ℕ) (starred : Bool) where
      pub comment_closes : closes line from starred at (get_or text at 0) ≡ true
          → tokens_from text (comment line from starred) at ≡ tokens_from text (outside false) (at + 1)
      unfolding tokens_in
      comment_closes e = rw (add-one at, drop-cons text at 0 h, e)

      pub comment_goes_on : closes line from starred at (get_or text at 0) ≡ false
          → tokens_from text (comment line from starred) at ≡ tokens_from text (comment line from (eqb (get_or text at 0) star)) (at + 1)
      unfolding tokens_in
      comment_goes_on e = rw (add-one at, drop-cons text at 0 h, e)

    -- a comment to the end of the line, in which a star does not matter
    module _ (from : ℕ) where
      pub line_closes : get_or text at 0 ≡ newline → tokens_from text (comment true from false) at ≡ tokens_from text (outside false) (at + 1)
      unfolding closes
      line_closes e = comment_closes true from false (eq-eqb (get_or text at 0) newline e)

      pub line_goes_on : get_or text at 0 ≢ newline → tokens_from text (comment true from false) at ≡ tokens_from text (comment true from false) (at + 1)
      unfolding closes
      line_goes_on e =
          comment_goes_on true from false (ne_eqb (get_or text at 0) newline e) ∙ line_starred from (eqb (get_or text at 0) star) (at + 1) (drop (at + 1) text)

    -- a token begins, goes on, and ends
    module _ (e : ends_at text at ≡ false) where
      pub token_begins : tokens_from text (outside false) at ≡ token at (word_from text at) ∷ tokens_from text (outside true) (at + 1)
      token_begins = rw (add-one at, drop-cons text at 0 h) (begins_token at (get_or text at 0) (drop (suc at) text) e)

      pub token_goes_on : tokens_from text (outside true) at ≡ tokens_from text (outside true) (at + 1)
      token_goes_on = rw (add-one at, drop-cons text at 0 h) (stays_in_token at (get_or text at 0) (drop (suc at) text) e)

      pub word_goes_on : word_from text at ≡ get_or text at 0 ∷ word_from text (at + 1)
      unfolding word_of
      word_goes_on = rw (add-one at, drop-cons text at 0 h, e)

    module _ (e : ends_at text at ≡ true) where
      pub token_ends : tokens_from text (outside true) at ≡ tokens_from text (outside false) at
      token_ends = rw (drop-cons text at 0 h) (leaves_token at (get_or text at 0) (drop (suc at) text) e)

      pub word_ends : word_from text at ≡ []
      unfolding word_of
      word_ends = rw (drop-cons text at 0 h, e)
