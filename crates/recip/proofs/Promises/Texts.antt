-- Document 02, L2, of the definitions: small texts, and what the request says of each. One list under one theorem. Assumes nothing.
use Prim.Native.Nat.{ℕ}
use mathlib.Core.List.{List, [], ◌∷◌, ◌++◌}
use mathlib.Core.Path.{◌≡◌, refl}
use lib.ListN.{replicate}
use Rattle.units.specs.Refusals.{reply, answer, outside}
use Rattle.units.specs.Shapes.{shape}
use Rattle.units.specs.declared.kinds.Kind.TheVariants.{Plain, WithOne}
use Rattle.entry.specs.Fields.{fields_end, is_wide}
use Rattle.table.specs.First.{any_of, first_of}
use Rattle.memory_tokens.specs.Tokens.{is_white, opens, ends, word_of, closes, tokens_in}
use Rattle.memory_tokens.specs.Words.{digit_of, is_digit, goes_on, is_numeral, shows, is_address, numeral_of}
use Rattle.memory_text.specs.Read.{Reading, stopped, lacking, complete, is_missing, obeyed, reading}
use Rattle.memory_text.specs.Write.{lines_of, memory_text}

-- a table of two cells, and fields of five bits
abbrev pub read : List ℕ → Reading
read text = reading (shape 1 5 Plain) text

pub record TextExamples : Type 0 where
  -- (1,5) with fields 10 and 31: "0a", "1f"
  pub written : memory_text (shape 1 5 Plain) (10 ∷ 31 ∷ []) ≡ 48 ∷ 97 ∷ 10 ∷ 49 ∷ 102 ∷ 10 ∷ []
  -- (1,4) with one, and fields 16 and 3: five bits, "10", "03"
  pub with_one : memory_text (shape 1 4 WithOne) (16 ∷ 3 ∷ []) ≡ 49 ∷ 48 ∷ 10 ∷ 48 ∷ 51 ∷ 10 ∷ []
  -- "A 1_f": upper case, and an underscore after a first digit
  pub forms : read (65 ∷ 32 ∷ 49 ∷ 95 ∷ 102 ∷ []) ≡ complete (10 ∷ 31 ∷ [])
  -- "@1 2/**/@0//x" and "3" after a form feed and a newline: addresses go back, and comments are white space
  pub places : read (64 ∷ 49 ∷ 32 ∷ 50 ∷ 47 ∷ 42 ∷ 42 ∷ 47 ∷ 64 ∷ 48 ∷ 47 ∷ 47 ∷ 120 ∷ 10 ∷ 12 ∷ 51 ∷ []) ≡ complete (3 ∷ 2 ∷ [])
  -- a thousand zeros and a 1, and then 2: "leading zeros do no harm"
  pub zeros : read (replicate 1000 48 ++ (49 ∷ 9 ∷ 50 ∷ [])) ≡ complete (1 ∷ 2 ∷ [])
  -- "1@0": one faulty token
  pub joined : read (49 ∷ 64 ∷ 48 ∷ []) ≡ stopped (reply 8 0)
  -- "1 1/2": one faulty token, at 2
  pub slash : read (49 ∷ 32 ∷ 49 ∷ 47 ∷ 50 ∷ []) ≡ stopped (reply 8 2)
  -- "1 _1", "1 @", "1 x" and a carriage return: 8
  pub underscore_first : read (49 ∷ 32 ∷ 95 ∷ 49 ∷ []) ≡ stopped (reply 8 2)
  pub no_digits : read (49 ∷ 32 ∷ 64 ∷ []) ≡ stopped (reply 8 2)
  pub unknown : read (49 ∷ 32 ∷ 120 ∷ []) ≡ stopped (reply 8 2)
  pub return : read (49 ∷ 13 ∷ 10 ∷ 50 ∷ []) ≡ stopped (reply 8 0)
  -- "1 2 /*/": not finished, at 4
  pub unfinished : read (49 ∷ 32 ∷ 50 ∷ 32 ∷ 47 ∷ 42 ∷ 47 ∷ []) ≡ stopped (reply 8 4)
  -- "1 2 3": stored past the table, and "@" with a thousand f: past it
  pub third : read (49 ∷ 32 ∷ 50 ∷ 32 ∷ 51 ∷ []) ≡ stopped (reply 9 4)
  pub far : read (64 ∷ replicate 1000 102) ≡ stopped (reply 9 0)
  -- "20": too wide
  pub wide : read (50 ∷ 48 ∷ []) ≡ stopped (reply 5 0)
  -- of (1,5) with one "20 0" is read, and "21" is too wide
  pub one_read : reading (shape 1 5 WithOne) (50 ∷ 48 ∷ 32 ∷ 48 ∷ []) ≡ complete (32 ∷ 0 ∷ [])
  pub wide_with_one : reading (shape 1 5 WithOne) (50 ∷ 49 ∷ []) ≡ stopped (reply 5 0)
  -- "1 @0 20": 5 before 10, and "1 2 20": 9 before 5
  pub wide_first : read (49 ∷ 32 ∷ 64 ∷ 48 ∷ 32 ∷ 50 ∷ 48 ∷ []) ≡ stopped (reply 5 5)
  pub past_first : read (49 ∷ 32 ∷ 50 ∷ 32 ∷ 50 ∷ 48 ∷ []) ≡ stopped (reply 9 4)
  -- "1 @0 1": given twice
  pub twice : read (49 ∷ 32 ∷ 64 ∷ 48 ∷ 32 ∷ 49 ∷ []) ≡ stopped (reply 10 5)
  -- "@1 1": cell 0 is missing
  pub lacks : read (64 ∷ 49 ∷ 32 ∷ 49 ∷ []) ≡ lacking (reply 11 0)

pub text_examples : TextExamples
unfolding answer outside fields_end is_wide any_of first_of is_white opens ends word_of closes tokens_in digit_of is_digit goes_on is_numeral shows is_address numeral_of is_missing obeyed lines_of
text_examples =
    record {
      written = refl;
      with_one = refl;
      forms = refl;
      places = refl;
      zeros = refl;
      joined = refl;
      slash = refl;
      underscore_first = refl;
      no_digits = refl;
      unknown = refl;
      return = refl;
      unfinished = refl;
      third = refl;
      far = refl;
      wide = refl;
      one_read = refl;
      wide_with_one = refl;
      wide_first = refl;
      past_first = refl;
      twice = refl;
      lacks = refl;
    }
