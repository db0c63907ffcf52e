-- `memory_text::end_of` meets its contract: a cell is missing where fewer are given than there are, and then the loop finds it.
-- Assumes nothing.
use Prim.Native.Nat.{ℕ, ◌<◌}
use mathlib.Core.Bool.{true, false}
use mathlib.Core.List.{List}
use mathlib.Core.Path.{◌≡◌, refl, sym, ap, ◌∙◌}
use native.Mathlib.Omega.{arith}
use borrow.Author.Tests.{lt-ltb, le-ltb}
use lib.ListN.{length}
use Rattle.units.specs.Refusals.{reply, answer}
use Rattle.table.proofs.Laws.First.{one_within, first_here, first_after}
use Rattle.memory_text.specs.Read.{is_missing, any_missing, refused}
use Rattle.memory_text.specs.Inner.Steps.{count_given}
use Rattle.memory_text.proofs.Laws.Given.{is_missing_lem, is_given, missing_by_count}
use Rattle.memory_text.proofs.reading.end_of.Goals as goal

some : (cells : List ℕ) {given : ℕ} → given ≡ count_given cells → given < length cells → any_missing cells ≡ true
some cells is h = missing_by_count cells ∙ lt-ltb (count_given cells) (length cells) (omega (arith, is, h))

pub loop-n-init : goal.loop-n-init
loop-n-init c = (some c.args.cells.now c.requires.1 c.if-given-cells.true, refl)

pub loop-n-preserved : goal.loop-n-preserved
loop-n-preserved c =
    let loop = c.loop-n in
    let after = first_after is_missing c.args.cells.now loop.n (omega arith) (is_given _ c.if-cell.false) in
    (after.0 ∙ loop.invariant.0, after.1 ∙ loop.invariant.1)

pub returns-then-cell : goal.returns-then-cell
unfolding answer
returns-then-cell c =
    let cells = c.args.cells.now in
    let loop = c.loop-n in
    let first = sym (first_here is_missing cells loop.n (omega arith) (is_missing_lem _ c.if-cell.true)) ∙ loop.invariant.1 in
    (rw (some cells c.requires.1 c.if-given-cells.true) (ap (λ (n : ℕ). refused (reply 11 n)) first), tt)

-- one of the cells is missing, so the loop does not come to their end
pub returns-after-loop-n : goal.returns-after-loop-n
returns-after-loop-n c = absurd (omega (arith, one_within is_missing c.args.cells.now c.loop-n.n c.loop-n.invariant.0))

pub returns-else-given-cells : goal.returns-else-given-cells
unfolding answer
returns-else-given-cells c =
    let cells = c.args.cells.now in
    let none : any_missing cells ≡ false = missing_by_count cells ∙ le-ltb (count_given cells) (length cells) (omega (arith, c.requires.1)) in
    (rw none refl, rw none refl)
