-- The definition of the input line is the documents' grammar: what is written so is read so, and what is read so was written so.
-- Assumes nothing.
use Prim.Native.Nat.{ℕ, ◌+◌, ◌-◌, ◌*◌, ◌≤◌, ◌<◌}
use mathlib.Core.Bool.{Bool, true, false, cond}
use mathlib.Core.List.{List, [], ◌∷◌, ◌++◌}
use mathlib.Core.Logic.{inl, inr}
use mathlib.Core.Path.{◌≡◌, refl, sym, ap, subst, ◌∙◌}
use native.Mathlib.Numerals.{add-one}
use native.Mathlib.Omega.{arith}
use lib.ListN.{length, take, drop, length-append, get_or-eq_default, drop_of_length-le}
use lib.Seq.{drop-cons, take_all, length-take-le}
use Rattle.std.proofs.lemmas.Bool.{cases_Bool}
use Rattle.std.proofs.lemmas.Bool.Decides.{nat_tests}
use Rattle.units.proofs.Laws.Order.{by_order}
use Rattle.units.specs.Shapes.{shape}
use Rattle.units.specs.declared.kinds.Kind.{Kind}
use Rattle.units.specs.declared.kinds.Kind.TheVariants.{Plain, WithOne}
use Rattle.units.specs.declared.shapes.Shape.{Shape}
use Rattle.listing_line.specs.Line.{byte_at, is_digit, word_end, word_value, kind_word, one_at, kind_at, kind_end, formed, widths_end, is_line, Line, asks, refused, line_read}

-- "one or two decimal digits", and the number that they show. The digit v is the byte 48 + v. "Leading zeros are allowed."
pub data Digits : List ℕ → ℕ → Type 0 where
  one : (v : ℕ) → v ≤ 9 → Digits ((48 + v) ∷ []) v
  two : (u v : ℕ) → u ≤ 9 → v ≤ 9 → Digits ((48 + u) ∷ (48 + v) ∷ []) (10 * u + v)

-- "one or two decimal digits, one space, one or two digits", the "optional third word "one" after one space", "one newline, then the end"
pub record Written (s : List ℕ) (t : Shape) : Type 0 where
  pub first : List ℕ
  pub second : List ℕ
  pub input_width : Digits first t.k
  pub output_width : Digits second t.m
  pub whole : s ≡ first ++ (32 ∷ (second ++ (kind_word t.kind ++ (10 ∷ []))))

digit_is : (v : ℕ) → v ≤ 9 → is_digit (48 + v) ≡ true
unfolding is_digit
digit_is v h = grind (arith, nat_tests)

space_is_none : is_digit 32 ≡ false
unfolding is_digit
space_is_none = refl

newline_is_none : is_digit 10 ≡ false
unfolding is_digit
newline_is_none = refl

shown : (v : ℕ) → 48 + v - 48 ≡ v
shown v = omega arith

-- each of the eight ways is a list of known length, so its reading computes
joined_reads : {a b : List ℕ} {k m : ℕ} → Digits a k → Digits b m → (kind : Kind)
    → line_read (a ++ (32 ∷ (b ++ (kind_word kind ++ (10 ∷ []))))) ≡ asks (shape k m kind)
unfolding line_read is_line formed word_end word_value one_at kind_at kind_end
joined_reads (one v h) (one w i) Plain =
    simp (space_is_none, newline_is_none, digit_is v h, digit_is w i, shown)
joined_reads (one v h) (one w i) WithOne =
    simp (space_is_none, digit_is v h, digit_is w i, shown)
joined_reads (one v h) (two u w i j) Plain =
    simp (space_is_none, digit_is v h, digit_is u i, digit_is w j, shown)
joined_reads (one v h) (two u w i j) WithOne =
    simp (space_is_none, digit_is v h, digit_is u i, digit_is w j, shown)
joined_reads (two t v g h) (one w i) Plain =
    simp (newline_is_none, digit_is t g, digit_is v h, digit_is w i, shown)
joined_reads (two t v g h) (one w i) WithOne =
    simp (space_is_none, digit_is t g, digit_is v h, digit_is w i, shown)
joined_reads (two t v g h) (two u w i j) Plain =
    simp (digit_is t g, digit_is v h, digit_is u i, digit_is w j, shown)
joined_reads (two t v g h) (two u w i j) WithOne =
    simp (digit_is t g, digit_is v h, digit_is u i, digit_is w j, shown)

-- what is written so is read so
pub written_reads : {s : List ℕ} {t : Shape} → Written s t → line_read s ≡ asks t
written_reads {t = t} w = ap line_read w.whole ∙ joined_reads w.input_width w.output_width t.kind

in_range : (b : ℕ) → is_digit b ≡ true → (48 ≤ b) × (b ≤ 57)
unfolding is_digit
in_range b h = grind (arith, nat_tests)

from_zero : (b : ℕ) → is_digit b ≡ true → 48 + (b - 48) ≡ b
from_zero b h = omega (arith, in_range b h)

-- a byte that is not 0 stands in the input, so what is left of the input from there on begins with it
stands : (s : List ℕ) (at b : ℕ) → byte_at s at ≡ b → 0 < b → drop at s ≡ b ∷ drop (at + 1) s
stands s at b e positive =
    by_order (length s) at (λ past. absurd (omega (arith, get_or-eq_default s 0 past))) (λ inside. rw (← e, add-one) (drop-cons s at 0 inside))

-- the one or two digits at a place
record Word (s : List ℕ) (at value end : ℕ) : Type 0 where
  word : List ℕ
  digits : Digits word value
  there : drop at s ≡ word ++ drop end s

-- by whether the second byte is a digit
word_by : (s : List ℕ) (at : ℕ) (t : Bool) → is_digit (byte_at s at) ≡ true → is_digit (byte_at s (at + 1)) ≡ t
    → Word s at (cond t (10 * (byte_at s at - 48) + (byte_at s (at + 1) - 48)) (byte_at s at - 48)) (cond t (at + 2) (at + 1))
word_by s at true h i =
    let b = byte_at s at in
    let d = byte_at s (at + 1) in
    let after : at + 1 + 1 ≡ at + 2 = omega arith in
    record {
      word = b ∷ d ∷ [];
      digits = rw (from_zero b h, from_zero d i) at (two (b - 48) (d - 48) (omega (arith, in_range b h)) (omega (arith, in_range d i)));
      there =
          stands s at b refl (omega (arith, in_range b h))
          ∙ ap (λ (rest : List ℕ). b ∷ rest) (stands s (at + 1) d refl (omega (arith, in_range d i)))
          ∙ ap (λ (n : ℕ). b ∷ d ∷ drop n s) after;
    }
word_by s at false h i =
    let b = byte_at s at in
    record {
      word = b ∷ [];
      digits = rw (from_zero b h) at (one (b - 48) (omega (arith, in_range b h)));
      there = stands s at b refl (omega (arith, in_range b h));
    }

word_at : (s : List ℕ) (at : ℕ) → is_digit (byte_at s at) ≡ true → Word s at (word_value s at) (word_end s at)
unfolding word_value word_end
word_at s at h = word_by s at (is_digit (byte_at s (at + 1))) h refl

-- the bytes of the kind, by whether " one" stands there
kind_by : (s : List ℕ) (at : ℕ) (t : Bool) → one_at s at ≡ t
    → drop at s ≡ kind_word (cond t WithOne Plain) ++ drop (at + length (kind_word (cond t WithOne Plain))) s
unfolding one_at
kind_by s at true h =
    let space : byte_at s at ≡ 32 = grind (arith, nat_tests) in
    let o : byte_at s (at + 1) ≡ 111 = grind (arith, nat_tests) in
    let n : byte_at s (at + 2) ≡ 110 = grind (arith, nat_tests) in
    let e : byte_at s (at + 3) ≡ 101 = grind (arith, nat_tests) in
    let second : at + 1 + 1 ≡ at + 2 = omega arith in
    let third : at + 2 + 1 ≡ at + 3 = omega arith in
    let fourth : at + 3 + 1 ≡ at + 4 = omega arith in
    cc (
      stands s at 32 space (omega arith),
      stands s (at + 1) 111 o (omega arith),
      stands s (at + 2) 110 n (omega arith),
      stands s (at + 3) 101 e (omega arith),
      second,
      third,
      fourth,
    )
kind_by s at false h =
    let nothing : at ≡ at + 0 = omega arith in
    ap (λ (n : ℕ). drop n s) nothing

kind_there : (s : List ℕ) (at : ℕ) → drop at s ≡ kind_word (kind_at s at) ++ drop (kind_end s at) s
unfolding kind_at kind_end
kind_there s at = kind_by s at (one_at s at) refl

-- the tests of the form, each by its name
record Tested (s : List ℕ) (a c : ℕ) : Type 0 where
  digit : is_digit (byte_at s 0) ≡ true
  space : byte_at s a ≡ 32
  next : is_digit (byte_at s (a + 1)) ≡ true
  newline : byte_at s c ≡ 10
  end : length s ≡ c + 1

tested : (s : List ℕ) (a c : ℕ) → formed s a c ≡ true → Tested s a c
unfolding formed
tested s a c h =
    record {
      digit = grind (arith, nat_tests);
      space = grind (arith, nat_tests);
      next = grind (arith, nat_tests);
      newline = grind (arith, nat_tests);
      end = grind (arith, nat_tests);
    }

-- what is asked for, where the input has the form
abbrev shape_in : List ℕ → Shape
shape_in s = shape (word_value s 0) (word_value s (word_end s 0 + 1)) (kind_at s (widths_end s))

-- the input is the first word, the space, the second word, the kind and the newline, one after the other
line_written : (s : List ℕ) → is_line s ≡ true → Written s (shape_in s)
unfolding is_line
line_written s h =
    let a = word_end s 0 in
    let b = widths_end s in
    let c = kind_end s b in
    let t = tested s a c h in
    let v = word_at s 0 t.digit in
    let w = word_at s (a + 1) t.next in
    let space = stands s a 32 t.space (omega arith) in
    let kind = kind_there s b in
    let newline = stands s c 10 t.newline (omega arith) in
    let end = drop_of_length-le s {i = c + 1} (omega (arith, t.end)) in
    record {
      first = v.word;
      second = w.word;
      input_width = v.digits;
      output_width = w.digits;
      whole = cc (v.there, w.there, space, kind, newline, end);
    }

not_line_refused : (s : List ℕ) → is_line s ≡ false → line_read s ≡ refused 7
unfolding line_read
not_line_refused s e = rw e

-- what is read so was written so
pub reads_written : (s : List ℕ) (t : Shape) → line_read s ≡ asks t → Written s t
reads_written s t e =
    elim (cases_Bool (is_line s)) [
      | inl h ↦
          let w = line_written s h in subst (Written s) (ap (λ (l : Line). l.shape) (sym (written_reads w) ∙ e)) w
      | inr h ↦ absurd (omega (arith, ap (λ (l : Line). l.number) (sym (not_line_refused s h) ∙ e)))
    ]

-- "Otherwise it writes "refused 7"."
pub otherwise_refused : (s : List ℕ) → ((t : Shape) → Written s t → ⊥) → line_read s ≡ refused 7
otherwise_refused s none =
    elim (cases_Bool (is_line s)) [ inl h ↦ absurd (none _ (line_written s h)) | inr h ↦ not_line_refused s h ]

-- no line has more than 10 bytes
few_digits : {a : List ℕ} {k : ℕ} → Digits a k → length a ≤ 2
few_digits (one v h) = omega arith
few_digits (two u v g h) = omega arith

pub kind_word_most : (kind : Kind) → length (kind_word kind) ≤ 4
kind_word_most Plain = omega arith
kind_word_most WithOne = omega arith

written_short : {s : List ℕ} {t : Shape} → Written s t → length s ≤ 10
written_short {t = t} w =
    rw w.whole
    (simp length-append (omega (arith, few_digits w.input_width, few_digits w.output_width, kind_word_most t.kind)))

long_refused : (s : List ℕ) → 10 < length s → line_read s ≡ refused 7
long_refused s h = otherwise_refused s (λ t w. absurd (omega (arith, written_short w)))

-- so the first 12 bytes of an input decide
pub twelve_bytes_decide : (s : List ℕ) → line_read (take 12 s) ≡ line_read s
twelve_bytes_decide s =
    by_order (length s) 12 (λ short. ap line_read (take_all 12 s short))
    (λ long. long_refused (take 12 s) (omega (arith, length-take-le 12 s (omega arith))) ∙ sym (long_refused s (omega arith)))
