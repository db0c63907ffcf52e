-- Single bytes of a memory text. Assumes nothing.
use Prim.Native.Nat.{ℕ}
use mathlib.Core.Bool.{Bool, true, false, ◌&&◌}
use mathlib.Core.List.{List}
use mathlib.Core.Path.{◌≡◌}
use native.Mathlib.Omega.{arith}
use lib.Dec.{eqb}
use Rattle.memory_tokens.specs.Tokens.{is_white, opens, ends}
use Rattle.memory_tokens.specs.Words.{is_digit, digit_of, underscore}

-- both of two tests
pub both : (a b : Bool) → (a && b) ≡ true → (a ≡ true) × (b ≡ true)
both a b e = grind arith

module _ (b : ℕ) (bs : List ℕ) where
  -- a digit is no byte that is not one
  pub not_that : (c : ℕ) → is_digit c ≡ false → is_digit b ≡ true → eqb b c ≡ false
  not_that c none one = grind arith

  -- so no token ends before it, nor before an underscore
  pub digit_goes_on : is_digit b ≡ true → ends b bs ≡ false
  unfolding ends is_white opens is_digit digit_of
  digit_goes_on e = grind arith

  pub underscore_goes_on : eqb b underscore ≡ true → ends b bs ≡ false
  unfolding ends is_white opens
  underscore_goes_on e = grind arith

-- nor is a slash white space
pub comment_not_white : (second b : ℕ) (bs : List ℕ) → opens second b bs ≡ true → is_white b ≡ false
unfolding opens is_white
comment_not_white second b bs e = grind arith
