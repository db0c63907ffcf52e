-- The numbers of a memory text, byte after byte. Assumes nothing.
use Prim.Native.Nat.{ℕ, suc, ◌+◌, ◌*◌, ◌≤◌, ◌<◌}
use mathlib.Core.Bool.{Bool, true, false, cond}
use mathlib.Core.List.{List, [], ◌∷◌}
use mathlib.Core.Path.{◌≡◌, sym, ap, ◌∙◌}
use native.Mathlib.Omega.{arith}
use borrow.Author.Tests.{lt-ltb, le-ltb, ne_eqb}
use lib.Dec.{eqb}
use lib.ListN.{length, drop, get_or}
use Rattle.std.proofs.Common.{◌≢◌}
use Rattle.std.specs.Prelude.{Option, Some, None}
use Rattle.memory_tokens.specs.Tokens.{outside}
use Rattle.memory_tokens.specs.Words.{digit_of, is_digit, underscore, goes_on, is_numeral, shows}
use Rattle.memory_tokens.specs.Inner.Places.{tokens_from, word_from, ends_at, capped, RestIs, RestShown, NumeralAt}
use Rattle.memory_tokens.specs.declared.numerals.Numeral.{Numeral}
use Rattle.memory_tokens.proofs.Laws.Bytes.{digit_goes_on, underscore_goes_on}
use Rattle.memory_tokens.proofs.Laws.Places.{text_ends, token_goes_on, token_ends, word_past, word_goes_on, word_ends}

-- one byte of a number
module _ (v b : ℕ) (bs : List ℕ) where
  pub shows_digit : is_digit b ≡ true → shows v (b ∷ bs) ≡ shows (v * 16 + digit_of b) bs
  unfolding shows
  shows_digit e = rw e

  shows_other : is_digit b ≡ false → shows v (b ∷ bs) ≡ shows v bs
  unfolding shows
  shows_other e = rw e

-- a number that was capped before is capped alike after more digits
pub shows_capped : (v : ℕ) (bs : List ℕ) → capped (shows (capped v) bs) ≡ capped (shows v bs)
unfolding shows
shows_capped v [] = omega arith
shows_capped v (b ∷ bs) = by_digit (is_digit b) (digit_of b) (λ x. shows_capped x bs)
  where
    by_digit : (digit : Bool) (d : ℕ) → ((x : ℕ) → capped (shows (capped x) bs) ≡ capped (shows x bs))
        → capped (shows (cond digit (capped v * 16 + d) (capped v)) bs) ≡ capped (shows (cond digit (v * 16 + d) v) bs)
    by_digit true d rest =
        let same : capped (capped v * 16 + d) ≡ capped (v * 16 + d) = omega arith in
        sym (rest (capped v * 16 + d)) ∙ ap (λ (x : ℕ). capped (shows x bs)) same ∙ rest (v * 16 + d)
    by_digit false d rest = rest v

-- the rest of a number from `from` on, of which the bytes before `at` have been read
pub record Spelling (text : List ℕ) (from before value at : ℕ) : Type 0 where
  pub later : from ≤ at
  pub within : at ≤ length text
  pub small : value ≤ 65536
  pub tokens_are : tokens_from text (outside true) from ≡ tokens_from text (outside true) at
  pub good_is : goes_on (word_from text from) ≡ goes_on (word_from text at)
  pub value_is : capped (shows before (word_from text from)) ≡ capped (shows value (word_from text at))

module _ {text : List ℕ} {from before value at : ℕ} (s : Spelling text from before value at) where
  module _ (inside : at < length text) where
    b : ℕ
    b = get_or text at 0

    bs : List ℕ
    bs = drop (suc at) text

    pub spelling_digit : {d next : ℕ} → d ≡ digit_of (get_or text at 0) → d < 16 → next ≡ capped (value * 16 + d) → Spelling text from before next (at + 1)
    unfolding goes_on is_digit b bs
    spelling_digit {d} {next} is h e =
        let digit : is_digit b ≡ true = lt-ltb (digit_of b) 16 (rw (← is) h) in
        let goes = digit_goes_on b bs digit in
        let word = word_goes_on text at inside goes in
        let rest = word_from text (at + 1) in
        record {
          later = omega (arith, s.later);
          within = omega arith;
          small = omega (arith, e);
          tokens_are = s.tokens_are ∙ token_goes_on text at inside goes;
          good_is = s.good_is ∙ rw (word, digit);
          value_is =
              s.value_is
              ∙ ap capped (ap (shows value) word ∙ shows_digit value b rest digit ∙ ap (λ (x : ℕ). shows (value * 16 + x) rest) (sym is))
              ∙ sym (shows_capped (value * 16 + d) rest)
              ∙ ap (λ (x : ℕ). capped (shows x rest)) (sym e);
        }

    module _ (other : 16 ≤ digit_of (get_or text at 0)) where
      no_digit : is_digit b ≡ false
      unfolding is_digit b
      no_digit = le-ltb (digit_of (get_or text at 0)) 16 other

      pub spelling_underscore : get_or text at 0 ≡ underscore → Spelling text from before value (at + 1)
      unfolding goes_on b bs
      spelling_underscore is =
          let goes = underscore_goes_on b bs (rw is) in
          let word = word_goes_on text at inside goes in
          record {
            later = omega (arith, s.later);
            within = omega arith;
            small = s.small;
            tokens_are = s.tokens_are ∙ token_goes_on text at inside goes;
            good_is = s.good_is ∙ rw (word, no_digit, is);
            value_is = s.value_is ∙ ap capped (ap (shows value) word ∙ shows_other value b (word_from text (at + 1)) no_digit);
          }

      pub spelling_bad : eqb (get_or text at 0) underscore ≡ false → ends_at text at ≡ false → goes_on (word_from text from) ≡ false
      unfolding goes_on b
      spelling_bad other' goes = s.good_is ∙ rw (word_goes_on text at inside goes, no_digit, other')

    pub spelling_other : digit_of (get_or text at 0) ≡ 16 → get_or text at 0 ≢ underscore → ends_at text at ≡ false → goes_on (word_from text from) ≡ false
    spelling_other is other goes = spelling_bad (omega (arith, is)) (ne_eqb (get_or text at 0) underscore other) goes

  -- it ends where the token does
  ended : word_from text at ≡ [] → tokens_from text (outside true) at ≡ tokens_from text (outside false) at → RestIs text from before value at
  unfolding goes_on shows
  ended none same =
      record {
        left = record { later = s.later; within = s.within; same = s.tokens_are ∙ same };
        good = s.good_is ∙ rw none;
        value_is = sym (s.value_is ∙ rw none (omega (arith, s.small)));
      }

  pub spelling_stops : at < length text → ends_at text at ≡ true → RestIs text from before value at
  spelling_stops inside e = ended (word_ends text at inside e) (token_ends text at inside e)

  pub spelling_cut : length text ≤ at → RestIs text from before value at
  spelling_cut h = ended (word_past text at h) (text_ends text true at h ∙ sym (text_ends text false at h))

-- a whole number: its first byte, and the rest
module _ (text : List ℕ) (from : ℕ) where
  pub number_past : length text ≤ from → is_numeral (word_from text from) ≡ false
  unfolding is_numeral
  number_past h = rw (word_past text from h)

  module _ (inside : from < length text) where
    pub first_bad : 16 ≤ digit_of (get_or text from 0) → is_numeral (word_from text from) ≡ false
    unfolding is_numeral is_digit
    first_bad other = grind (arith, word_ends, word_goes_on, le-ltb)

    pub first_other : digit_of (get_or text from 0) ≡ 16 → is_numeral (word_from text from) ≡ false
    first_other is = first_bad (omega (arith, is))

    module _ {d : ℕ} (is : d ≡ digit_of (get_or text from 0)) (small : d < 16) where
      digit : is_digit (get_or text from 0) ≡ true
      unfolding is_digit
      digit = lt-ltb (digit_of (get_or text from 0)) 16 (rw (← is) small)

      goes : ends_at text from ≡ false
      goes = digit_goes_on (get_or text from 0) (drop (suc from) text) digit

      pub number_is : (r : Option Numeral) → RestShown text (from + 1) d r → NumeralAt text from r
      unfolding is_numeral
      number_is None p = rw (word_goes_on text from inside goes, digit) p
      number_is (Some n) p =
          let word = word_goes_on text from inside goes in
          record {
            left = record { later = p.left.later; within = p.left.within; same = token_goes_on text from inside goes ∙ p.left.same };
            good = rw (word, digit) p.good;
            value_is =
                let first : d ≡ 0 * 16 + digit_of (get_or text from 0) = omega (arith, is) in
                p.value_is
                ∙ ap capped (ap (λ (x : ℕ). shows x (word_from text (from + 1))) first ∙ sym (ap (shows 0) word ∙ shows_digit 0 (get_or text from 0) (word_from text (from + 1)) digit));
          }
