-- The digits of a number are a numeral of a memory text that shows the number. Assumes nothing.
use Prim.Native.Nat.{ℕ, zero, suc, ◌+◌, ◌*◌, ◌/◌, ◌%◌, ◌^◌, ◌<◌}
use mathlib.Core.Bool.{Bool, true, false, ◌||◌, cond, false≢true}
use mathlib.Core.List.{List, [], ◌∷◌, ◌++◌}
use mathlib.Core.Path.{◌≡◌, refl, ap, ◌∙◌}
use native.Mathlib.Omega.{arith}
use borrow.Author.Tests.{lt-ltb, le-ltb, le-leb, lt-leb}
use lib.Dec.{eqb}
use lib.ListN.{length, length-append}
use lib.Pow.{shr_lt}
use Rattle.units.proofs.Laws.Order.{by_order}
use Rattle.memory_text.specs.Write.{hex_digit, hex_digits}
use Rattle.memory_tokens.specs.Tokens.{newline, is_white, ends, word_of}
use Rattle.memory_tokens.specs.Words.{digit_of, is_digit, underscore, at_sign, goes_on, is_numeral, shows, is_address, numeral_of}
use Rattle.memory_tokens.proofs.Laws.Bytes.{both, not_that, digit_goes_on, underscore_goes_on}
use Rattle.memory_tokens.proofs.Laws.Numerals.{shows_digit}

pub length_digits : (count f : ℕ) → length (hex_digits count f) ≡ count
length_digits zero f = refl
length_digits (suc count) f = rw (length-append (hex_digits count (f / 16)), length_digits count (f / 16)) (omega arith)

-- a digit shows what it was written for
pub hex_digit_shows : (d : ℕ) → d < 16 → digit_of (hex_digit d) ≡ d
unfolding digit_of
hex_digit_shows d h =
    by_order 10 d
    (λ l.
    rw (
      le-ltb d 10 l,
      le-leb 48 (87 + d) (omega arith),
      lt-leb (87 + d) 57 (omega arith),
      le-leb 65 (87 + d) (omega arith),
      lt-leb (87 + d) 70 (omega arith),
      le-leb 97 (87 + d) (omega arith),
      le-leb (87 + d) 102 (omega arith),
    )
    (omega arith))
    (λ l. rw (lt-ltb d 10 l, le-leb 48 (48 + d) (omega arith), le-leb (48 + d) 57 (omega arith)) (omega arith))

-- digits one after the other
shows_append : (v : ℕ) (xs ys : List ℕ) → shows v (xs ++ ys) ≡ shows (shows v xs) ys
unfolding shows
shows_append v [] ys = refl
shows_append v (x ∷ xs) ys = shows_append (cond (is_digit x) (v * 16 + digit_of x) v) xs ys

hex_digit_is_digit : (d : ℕ) → d < 16 → is_digit (hex_digit d) ≡ true
unfolding is_digit
hex_digit_is_digit d h = lt-ltb (digit_of (hex_digit d)) 16 (rw (hex_digit_shows d h) h)

-- so the digits of a number show it
pub digits_show : (count f : ℕ) → f < 2 ^ (4 * count) → shows 0 (hex_digits count f) ≡ f
unfolding shows
digits_show zero f h = omega (arith, h)
digits_show (suc count) f h =
    let last = f % 16 in
    let small : last < 16 = omega arith in
    let four_more : 4 * count + 4 ≡ 4 * suc count = omega arith in
    let next : f < 2 ^ (4 * count + 4) = rw four_more h in
    shows_append 0 (hex_digits count (f / 16)) (hex_digit last ∷ [])
    ∙ shows_digit (shows 0 (hex_digits count (f / 16))) (hex_digit last) [] (hex_digit_is_digit last small)
    ∙ rw (digits_show count (f / 16) (shr_lt (4 * count) 4 next), hex_digit_shows last small) (omega arith)

-- and they are a numeral
goes_on_more : (xs : List ℕ) (b : ℕ) → goes_on xs ≡ true → is_digit b ≡ true → goes_on (xs ++ (b ∷ [])) ≡ true
unfolding goes_on
goes_on_more [] b e d = rw d refl
goes_on_more (x ∷ xs) b e d =
    let t = both (is_digit x || eqb x underscore) (goes_on xs) e in
    rw t.0 (goes_on_more xs b t.1 d)

pub digits_go_on : (count f : ℕ) → goes_on (hex_digits count f) ≡ true
unfolding goes_on
digits_go_on zero f = refl
digits_go_on (suc count) f = goes_on_more (hex_digits count (f / 16)) (hex_digit (f % 16)) (digits_go_on count (f / 16)) (hex_digit_is_digit (f % 16) (omega arith))

numeral_more : (xs : List ℕ) (b : ℕ) → is_numeral xs ≡ true → is_digit b ≡ true → is_numeral (xs ++ (b ∷ [])) ≡ true
unfolding is_numeral
numeral_more [] b e d = absurd (false≢true e)
numeral_more (x ∷ xs) b e d =
    let t = both (is_digit x) (goes_on xs) e in
    rw t.0 (goes_on_more xs b t.1 d)

pub digits_are_numeral : (count f : ℕ) → 0 < count → is_numeral (hex_digits count f) ≡ true
unfolding is_numeral goes_on
digits_are_numeral zero f h = absurd (omega arith)
digits_are_numeral (suc zero) f h = rw (hex_digit_is_digit (f % 16) (omega arith)) refl
digits_are_numeral (suc (suc count)) f h =
    numeral_more (hex_digits (suc count) (f / 16)) (hex_digit (f % 16)) (digits_are_numeral (suc count) (f / 16) (omega arith)) (hex_digit_is_digit (f % 16) (omega arith))

-- a numeral is no address
pub numeral_is_value : (xs : List ℕ) → is_numeral xs ≡ true → (is_address xs ≡ false) × (numeral_of xs ≡ xs)
unfolding is_numeral is_address numeral_of is_digit digit_of
numeral_is_value [] e = absurd (false≢true e)
numeral_is_value (x ∷ xs) e =
    let no_at = not_that x xs at_sign refl (both (is_digit x) (goes_on xs) e).0 in
    (no_at, rw no_at refl)

-- and is a word up to the newline
pub digits_then_newline : (xs text : List ℕ) → goes_on xs ≡ true → word_of (xs ++ (newline ∷ text)) ≡ xs
unfolding goes_on word_of ends is_white
digits_then_newline [] text e = refl
digits_then_newline (x ∷ xs) text e = by_digit (is_digit x) refl (digits_then_newline xs text (both (is_digit x || eqb x underscore) (goes_on xs) e).1) (both (is_digit x || eqb x underscore) (goes_on xs) e).0
  where
    by_digit : (digit : Bool) → is_digit x ≡ digit → word_of (xs ++ (newline ∷ text)) ≡ xs → (digit || eqb x underscore) ≡ true
        → word_of (x ∷ (xs ++ (newline ∷ text))) ≡ x ∷ xs
    by_digit true is rest d = rw (digit_goes_on x (xs ++ (newline ∷ text)) is) (ap (λ (w : List ℕ). x ∷ w) rest)
    by_digit false is rest d = rw (underscore_goes_on x (xs ++ (newline ∷ text)) d) (ap (λ (w : List ℕ). x ∷ w) rest)
