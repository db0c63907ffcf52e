-- The input line of the listing. Document 01, "The listing", with the third word of document 02, L5. Assumes nothing.
use Rattle.std.specs.Prelude.{ℕ, ◌+◌, ◌-◌, ◌*◌, Bool, ◌&&◌, cond, List, [], ◌∷◌, leb, eqb, length, get_or, Result, Ok, Err}
use Rattle.units.specs.Refusals.{refusal_number}
use Rattle.units.specs.Shapes.{shape}
use Rattle.units.specs.declared.kinds.Kind.{Kind}
use Rattle.units.specs.declared.kinds.Kind.TheVariants.{Plain, WithOne}
use Rattle.units.specs.declared.refusals.Refusal.{Refusal}
use Rattle.units.specs.declared.shapes.Shape.{Shape}

-- a byte of the input; past its end 0, which is no digit, no space and no newline
abbrev pub byte_at : List ℕ → ℕ → ℕ
byte_at s at = get_or s at 0

-- "decimal digits" are the bytes 48 to 57
unfoldable pub is_digit : ℕ → Bool
is_digit b = leb 48 b && leb b 57

-- "one or two decimal digits" from a place on: the place after them, and the number that they show
unfoldable pub word_end : List ℕ → ℕ → ℕ
word_end s at = cond (is_digit (byte_at s (at + 1))) (at + 2) (at + 1)

unfoldable pub word_value : List ℕ → ℕ → ℕ
word_value s at =
    cond (is_digit (byte_at s (at + 1))) (10 * (byte_at s at - 48) + (byte_at s (at + 1) - 48)) (byte_at s at - 48)

-- "The listing takes an optional third word "one" after one space": the bytes that say a kind
abbrev pub kind_word : Kind → List ℕ
kind_word Plain = []
kind_word WithOne = 32 ∷ 111 ∷ 110 ∷ 101 ∷ []

-- whether " one" stands at a place, the kind that is said there, and the place after it
unfoldable pub one_at : List ℕ → ℕ → Bool
one_at s at = eqb (byte_at s at) 32 && (eqb (byte_at s (at + 1)) 111 && (eqb (byte_at s (at + 2)) 110 && eqb (byte_at s (at + 3)) 101))

unfoldable pub kind_at : List ℕ → ℕ → Kind
kind_at s at = cond (one_at s at) WithOne Plain

unfoldable pub kind_end : List ℕ → ℕ → ℕ
kind_end s at = at + length (kind_word (kind_at s at))

-- "one or two decimal digits, one space, one or two digits", the kind, "one newline, then the end": the first digits end before the place
-- a, and the kind before c
unfoldable pub formed : List ℕ → ℕ → ℕ → Bool
formed s a c =
    is_digit (byte_at s 0)
    && (eqb (byte_at s a) 32 && (is_digit (byte_at s (a + 1)) && (eqb (byte_at s c) 10 && eqb (length s) (c + 1))))

-- the place after the second digits
abbrev pub widths_end : List ℕ → ℕ
widths_end s = word_end s (word_end s 0 + 1)

unfoldable pub is_line : List ℕ → Bool
is_line s = formed s (word_end s 0) (kind_end s (widths_end s))

-- The number of the refusal, or 0 and the shape. "Fields that an answer doesn't use are zero": the kind is plain.
pub record Line : Type 0 where
  pub number : ℕ
  pub shape : Shape

abbrev pub asks : Shape → Line
asks s = record { number = 0; shape = s }

abbrev pub refused : ℕ → Line
refused number = record { number = number; shape = shape 0 0 Plain }

-- what each case of the reading says in document 01's numbers
abbrev pub reported : Result Shape Refusal → Line
reported (Ok s) = asks s
reported (Err r) = refused (refusal_number r)

-- "Otherwise it writes "refused 7"", and 7 is "for any other third word"
unfoldable pub line_read : List ℕ → Line
line_read s = cond (is_line s) (asks (shape (word_value s 0) (word_value s (word_end s 0 + 1)) (kind_at s (widths_end s)))) (refused 7)
