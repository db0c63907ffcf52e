-- `listing_text::put_digits` meets its contract: the digits that are left to put, and the cells after them, stay the same. Assumes nothing.
use Rattle.std.proofs.Common.{◌≡◌, ◌++◌, length, drop}
use Rattle.io.specs.Digits.{last_digits}
use Rattle.listing_text.proofs.digits.put_digits.Given as goal

abbrev pub invariant-loop-i : goal.invariant-loop-i
invariant-loop-i l = last_digits 10 l.i l.rest ++ drop l.i l.cells ≡ last_digits 10 (length l.initial.cells) l.n
