-- The lines of a memory text, put one after the other. Assumes nothing.
use Prim.Native.Nat.{ℕ, zero, suc, ◌+◌, ◌-◌, ◌*◌, ◌/◌, ◌%◌, ◌≤◌, ◌<◌}
use mathlib.Core.List.{List, [], ◌∷◌, ◌++◌, append_assoc, append-nil}
use mathlib.Core.Path.{◌≡◌, refl, ap, sym, ◌∙◌}
use native.Mathlib.Nat.{mul-le-mul_left}
use native.Mathlib.Numerals.{add-one}
use native.Mathlib.Omega.{arith}
use lib.ListN.{length, take, drop, get_or, set, length-append, length-drop, take-append-drop, drop_of_length-le}
use lib.Seq.{drop-cons, drop-drop, take_at, drop_at, length-take-le}
use Rattle.units.proofs.Laws.Lists.{drop_set}
use Rattle.memory_text.proofs.Laws.Digits.{length_digits}
use Rattle.memory_text.specs.Write.{hex_digit, hex_digits}
use Rattle.memory_tokens.specs.Tokens.{newline}
use Rattle.memory_text.specs.Write.{line_of, lines_of}

-- the newline, at the end of a line's bytes
pub newline_put : (line : List ℕ) (f : ℕ) → 0 < length line
    → hex_digits (length line - 1) f ++ drop (length line - 1) (set line (length line - 1) newline) ≡ line_of (length line - 1) f
newline_put line f h =
    ap (λ (end : List ℕ). hex_digits (length line - 1) f ++ end)
    (drop_set line (length line - 1) newline (omega arith) ∙ ap (λ (rest : List ℕ). newline ∷ rest) (drop_of_length-le line {i = suc (length line - 1)} (omega arith)))

-- where the last digit is put, the others are left
pub digit_put : (line : List ℕ) (left rest : ℕ) → 0 < left → left ≤ length line
    → hex_digits (left - 1) (rest / 16) ++ drop (left - 1) (set line (left - 1) (hex_digit (rest % 16))) ≡ hex_digits left rest ++ drop left line
digit_put line zero rest some h = absurd (omega arith)
digit_put line (suc left) rest some h =
    let one_fewer : suc left - 1 ≡ left = omega arith in
    rw (one_fewer, drop_set line left (hex_digit (rest % 16)) (omega arith), append_assoc (hex_digits left (rest / 16))) refl

-- a line has a byte for each digit and one for the newline, and a text as many bytes for each line
pub length_line : (count f : ℕ) → length (line_of count f) ≡ suc count
length_line count f = length-append (hex_digits count f) (newline ∷ []) ∙ rw (length_digits count f) (omega arith)

pub length_lines : (count : ℕ) (fs : List ℕ) → length (lines_of count fs) ≡ length fs * suc count
unfolding lines_of
length_lines count [] = omega arith
length_lines count (f ∷ fs) =
    length-append (line_of count f) (lines_of count fs) ∙ omega (arith, length_line count f, length_lines count fs)

-- the lines of the first n fields are put: with those of the others they are all, and the bytes after them are as they were
pub record Putting (count : ℕ) (cells before text : List ℕ) (at n : ℕ) : Type 0 where
  pub within : n ≤ length cells
  pub at_is : at ≡ n * suc count
  pub size : length text ≡ length before
  pub lines_are : take at text ++ lines_of count (drop n cells) ≡ lines_of count cells
  pub rest_is : drop at text ≡ drop at before

module _ (count : ℕ) (cells before : List ℕ) (room : length cells * suc count ≤ length before) where
  pub putting_starts : Putting count cells before before 0 0
  putting_starts = record { within = omega arith; at_is = omega arith; size = refl; lines_are = refl; rest_is = refl }

  module _ (text : List ℕ) (at n : ℕ) (p : Putting count cells before text at n) where
    -- there is room for one line more
    pub putting_fits : n < length cells → at + suc count ≤ length text
    putting_fits inside = omega (arith, p.at_is, p.size, room, mul-le-mul_left (suc count) inside)

    module _ (inside : n < length cells) (line : List ℕ) (is : line ≡ line_of count (get_or cells n 0)) where
      front : length (take at text ++ line) ≡ at + suc count
      front =
          length-append (take at text) line
          ∙ omega (arith, length-take-le at text (omega (arith, putting_fits inside)), ap length is, length_line count (get_or cells n 0))

      rest : List ℕ
      rest = drop (suc count) (drop at text)

      whole : take at text ++ (line ++ rest) ≡ (take at text ++ line) ++ rest
      whole = sym (append_assoc (take at text) line rest)

      next_lines : line ++ lines_of count (drop (n + 1) cells) ≡ lines_of count (drop n cells)
      unfolding lines_of
      next_lines = rw (add-one n, drop-cons cells n 0 inside, is)

      pub putting_goes_on : Putting count cells before (take at text ++ (line ++ drop (suc count) (drop at text))) (at + suc count) (n + 1)
      unfolding rest
      putting_goes_on =
          record {
            within = omega arith;
            at_is = omega (arith, p.at_is);
            size =
                ap length whole
                ∙ length-append (take at text ++ line) rest
                ∙ omega (arith, front, length-drop (suc count) (drop at text), length-drop at text, putting_fits inside, p.size);
            lines_are =
                ap (λ (l : List ℕ). l ++ lines_of count (drop (n + 1) cells)) (ap (take (at + suc count)) whole ∙ take_at (take at text ++ line) rest (at + suc count) front)
                ∙ append_assoc (take at text) line (lines_of count (drop (n + 1) cells))
                ∙ ap (λ (l : List ℕ). take at text ++ l) next_lines
                ∙ p.lines_are;
            rest_is =
                ap (drop (at + suc count)) whole
                ∙ drop_at (take at text ++ line) rest (at + suc count) front
                ∙ ap (drop (suc count)) p.rest_is
                ∙ drop-drop (suc count) at before;
          }

    pub putting_ends : length cells ≤ n → text ≡ lines_of count cells ++ drop (length cells * suc count) before
    unfolding lines_of
    putting_ends all =
        let end : at ≡ length cells * suc count = p.at_is ∙ ap (λ (x : ℕ). x * suc count) (omega (arith, p.within)) in
        let lines : take at text ≡ lines_of count cells = sym (append-nil (take at text)) ∙ rw (drop_of_length-le cells all) at p.lines_are in
        sym (take-append-drop at text) ∙ rw (lines, p.rest_is, end) refl
