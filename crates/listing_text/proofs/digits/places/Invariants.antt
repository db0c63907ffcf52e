-- `listing_text::places` meets its contract: n has as many digits as the rest, and those passed. Assumes nothing.
use Rattle.std.proofs.Common.{ℕ, ◌+◌, ◌*◌, ◌≤◌, ◌≡◌}
use Rattle.io.specs.Digits.{IsDigitCount}
use Rattle.listing_text.specs.Text.{places}
use Rattle.listing_text.proofs.digits.places.Given as goal

abbrev pub invariant-loop-rest : goal.invariant-loop-rest
invariant-loop-rest l =
    (2 * l.passed + l.rest ≤ l.n) × ((r : ℕ) → IsDigitCount 10 1 l.rest r → l.passed + r ≡ places 20 l.n)

abbrev pub decreases-loop-rest : goal.decreases-loop-rest
decreases-loop-rest l = l.rest
