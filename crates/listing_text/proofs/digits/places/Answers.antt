-- `listing_text::places` meets its contract: n has as many digits as the rest, and those passed. Assumes nothing.
use Rattle.std.proofs.Common.{◌+◌, arith}
use Rattle.listing_text.proofs.Laws.Decimal.{places_are, fewest_more}
use Rattle.listing_text.proofs.digits.places.Goals as goal

pub loop-rest-init : goal.loop-rest-init
loop-rest-init c = (omega arith, λ r p. omega (arith, places_are 19 c.args.n r (omega arith) p))

pub loop-rest-preserved : goal.loop-rest-preserved
loop-rest-preserved c =
    (omega arith, λ r p. omega (arith, c.loop-rest.invariant.1 (r + 4) (fewest_more 4 (omega arith) p)))

pub returns-then-rest-lt100 : goal.returns-then-rest-lt100
returns-then-rest-lt100 c = c.loop-rest.invariant.1 2 (omega arith, omega arith, λ more. omega arith)

pub returns-then-rest-lt1000 : goal.returns-then-rest-lt1000
returns-then-rest-lt1000 c = c.loop-rest.invariant.1 3 (omega arith, omega arith, λ more. omega arith)

pub returns : goal.returns
returns c = c.loop-rest.invariant.1 4 (omega arith, omega arith, λ more. omega arith)
