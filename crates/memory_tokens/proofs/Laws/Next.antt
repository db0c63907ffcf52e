-- The next token of a text. Assumes nothing.
use Prim.Native.Nat.{ℕ, ◌+◌, ◌≤◌, ◌<◌}
use mathlib.Core.Bool.{Bool, true, false}
use mathlib.Core.List.{List, [], ◌∷◌}
use mathlib.Core.Path.{◌≡◌, refl, sym, ap, subst, ◌∙◌}
use Rattle.std.specs.Prelude.{Option, Some, None, Result, Ok, Err}
use native.Mathlib.Omega.{arith}
use native.Mathlib.Nat.{add-zero}
use lib.Dec.{eqb}
use lib.ListN.{length, get_or}
use mir.Val.{bool_byte}
use Rattle.memory_tokens.specs.Tokens.{Token, token, unfinished, outside}
use Rattle.memory_tokens.specs.Words.{digit_of, is_digit, is_numeral, is_address, numeral_of, at_sign}
use Rattle.memory_tokens.specs.Inner.Places.{tokens_from, word_from, ends_at, IsTokenAt, NumeralIs, NumeralAt, says_address, number_said, IsFaulty, SaysSo, said, TokenAt, NextToken}
use Rattle.memory_tokens.specs.declared.numerals.Numeral.{Numeral}
use Rattle.memory_tokens.specs.declared.words.Faulty.{Faulty}
use Rattle.memory_tokens.specs.declared.words.Word.{Word}
use Rattle.memory_tokens.specs.declared.words.Said.{Said}
use Rattle.memory_tokens.specs.declared.words.Said.TheVariants.{Address, Value}
use Rattle.memory_tokens.proofs.Laws.Places.{token_begins, token_goes_on, word_goes_on}

-- where the number of a token begins, as the code has it: of an address, one byte later
abbrev pub start_of : List ℕ → ℕ → ℕ
start_of text from = from + bool_byte (eqb (get_or text from 0) at_sign)

-- a token whose number begins at `start`
record Splits (text : List ℕ) (from : ℕ) (address : Bool) (start : ℕ) : Type 0 where
  later : from ≤ start
  numeral_is : numeral_of (word_from text from) ≡ word_from text start
  address_is : is_address (word_from text from) ≡ address
  same : tokens_from text (outside true) (from + 1) ≡ tokens_from text (outside true) start

module _ (text : List ℕ) (from : ℕ) (inside : from < length text) (begins : ends_at text from ≡ false) where
  splits : (address : Bool) → eqb (get_or text from 0) at_sign ≡ address → Splits text from address (from + bool_byte address)
  unfolding numeral_of is_address
  splits true e =
      let word = word_goes_on text from inside begins in
      record { later = omega arith; numeral_is = rw (word, e); address_is = rw (word, e); same = refl }
  splits false e =
      let word = word_goes_on text from inside begins in
      record {
        later = omega arith;
        numeral_is = rw (add-zero from) (ap numeral_of word ∙ rw e (sym word));
        address_is = rw (word, e);
        same = rw (add-zero from) (sym (token_goes_on text from inside begins));
      }

  split : Splits text from (eqb (get_or text from 0) at_sign) (start_of text from)
  split = splits (eqb (get_or text from 0) at_sign) refl

  pub token_faulty : is_numeral (word_from text (start_of text from)) ≡ false → IsFaulty text from from
  token_faulty bad =
      record {
        first = token from (word_from text from);
        rest = tokens_from text (outside true) (from + 1);
        tokens_are = token_begins text from inside begins;
        offset_is = refl;
        bad = ap is_numeral split.numeral_is ∙ bad;
      }

  pub token_says : {end : ℕ} (s : Said) → NumeralIs text (start_of text from) (number_said s) end → eqb (get_or text from 0) at_sign ≡ says_address s
      → SaysSo text from (record { from = record { 0 = from }; says = s }) end
  token_says s n kind =
      let first = token from (word_from text from) in
      record {
        first = first;
        tokens_are = token_begins text from inside begins ∙ ap (λ (ts : List Token). first ∷ ts) (split.same ∙ n.left.same);
        says_it = rw (split.numeral_is, split.address_is, n.good, ← n.value_is, kind);
        later = omega (arith, n.left.later, split.later);
        within = n.left.within;
      }

  -- either, by its number: what a token at a place says
  pub token_said : (address : Bool) → eqb (get_or text from 0) at_sign ≡ address → (n : Option Numeral) → NumeralAt text (from + bool_byte address) n
      → TokenAt text from (said from address n)
  token_said address e None p =
      token_faulty (ap (λ (b : Bool). is_numeral (word_from text (from + bool_byte b))) e ∙ p)
  token_said true e (Some n) p = token_says (Address n.value) (subst (λ (b : Bool). NumeralIs text (from + bool_byte b) n.value n.end) (sym e) p) e
  token_said false e (Some n) p = token_says (Value n.value) (subst (λ (b : Bool). NumeralIs text (from + bool_byte b) n.value n.end) (sym e) p) e

pub byte_small : (b : Bool) → bool_byte b ≤ 1
byte_small true = omega arith
byte_small false = omega arith

-- an unfinished comment is a faulty token
pub unfinished_is_faulty : (text : List ℕ) (from at : ℕ) → tokens_from text (outside false) from ≡ unfinished at ∷ [] → IsFaulty text from at
unfolding is_numeral numeral_of is_digit digit_of
unfinished_is_faulty text from at e = record { first = unfinished at; rest = []; tokens_are = e; offset_is = refl; bad = refl }

-- after a gap
pub next_after_gap : (text : List ℕ) (from at : ℕ) → IsTokenAt text from at → (r : Result (Option (Word × ℕ)) Faulty) → NextToken text at r
    → NextToken text from r
next_after_gap text from at gap (Ok None) p = gap.left.same ∙ p
next_after_gap text from at gap (Ok (Some says)) p =
    record {
      first = p.first;
      tokens_are = gap.left.same ∙ p.tokens_are;
      says_it = p.says_it;
      later = omega (arith, p.later, gap.left.later);
      within = p.within;
    }
next_after_gap text from at gap (Err faulty) p =
    record { first = p.first; rest = p.rest; tokens_are = gap.left.same ∙ p.tokens_are; offset_is = p.offset_is; bad = p.bad }
