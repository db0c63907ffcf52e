-- How far a divisor is shifted. Document 02, L1. Assumes nothing.
use Rattle.std.specs.Prelude.{ℕ, zero, suc, ◌*◌, ◌^◌, Bool, cond, leb}

-- the least number that is good, of so many from `first` on; where none is, the one after them
unfoldable pub least_from : (ℕ → Bool) → ℕ → ℕ → ℕ
least_from good first zero = first
least_from good first (suc tries) = cond (good first) first (least_from good (suc first) tries)

-- "the least s that brings it to 32768 or more". 0 to 15 are tried: 15 brings every X from 1 on there, and X = 0 is refused
unfoldable pub shift_of : ℕ → ℕ
shift_of x = least_from (λ (s : ℕ). leb 32768 (x * 2 ^ s)) 0 16

-- X·2^s
abbrev pub shifted : ℕ → ℕ
shifted x = x * 2 ^ shift_of x
