-- `memory_text::obey_all` meets its contract: what a token leaves of the text comes to what the whole text comes to. Assumes nothing.
use native.Mathlib.Omega.{arith}
use lib.Pow.{pow_mono}
use Rattle.memory_text.proofs.Laws.Given.{count_within}
use Rattle.memory_text.proofs.Laws.Reached.{came_on, reached_starts, reached_ends, reached_bad, reached_stops, reached_on}
use Rattle.memory_text.proofs.reading.obey_all.Goals as goal

pub loop-word-init : goal.loop-word-init
loop-word-init c = reached_starts c.args.good.shape c.args.text.now c.args.cells.now c.requires

pub returns-in_err-word : goal.returns-in_err-word
returns-in_err-word c =
    let loop = c.loop-word in
    came_on _ _ _ _ c.from_residual.ensures.1
    (reached_bad c.args.good.shape c.args.text.now loop.cells loop.reached loop.at loop.invariant _ c.in_err-word.ensures)

pub obey-requires : goal.obey-requires
obey-requires c =
    let inv = c.loop-word.invariant in
    (inv.size, omega (arith, inv.counted, count_within c.loop-word.cells, inv.size, pow_mono c.args.good.good.narrow_in))

pub returns-in_err-reached : goal.returns-in_err-reached
returns-in_err-reached c =
    let loop = c.loop-word in
    came_on _ _ _ _ c.from_residual-in_err-reached.ensures.1
    (reached_stops c.args.good.shape c.args.text.now loop.cells loop.reached loop.at loop.invariant c.args.good.good c.in-Some.word c.in-Some.end
    (rw c.in-Some.is at c.in_ok-word.ensures) _ c.in_err-reached.ensures)

pub loop-word-preserved : goal.loop-word-preserved
loop-word-preserved c =
    let loop = c.loop-word in
    reached_on c.args.good.shape c.args.text.now loop.cells loop.reached loop.at loop.invariant c.args.good.good c.in-Some.word c.in-Some.end
    (rw c.in-Some.is at c.in_ok-word.ensures) _ c.in_ok-reached.reached c.in_ok-reached.ensures

pub returns : goal.returns
returns c =
    let loop = c.loop-word in
    reached_ends c.args.good.shape c.args.text.now loop.cells loop.reached loop.at loop.invariant c.end_of.result
    (rw c.in_default.is at c.in_ok-word.ensures) c.end_of.ensures
