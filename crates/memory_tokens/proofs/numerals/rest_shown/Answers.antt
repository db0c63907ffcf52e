-- `memory_tokens::rest_shown` meets its contract: each byte is a digit, an underscore, the end of the token, or bad. Assumes nothing.
use mathlib.Core.Path.{sym, ◌∙◌}
use native.Mathlib.Omega.{arith}
use Rattle.memory_tokens.proofs.Laws.Numerals.{spelling_digit, spelling_underscore, spelling_other, spelling_stops, spelling_cut}
use Rattle.memory_tokens.proofs.numerals.rest_shown.Goals as goal
use Rattle.memory_tokens.proofs.numerals.rest_shown.Goals.{in-Some, in-None}

pub loop-at-preserved : goal.loop-at-preserved
loop-at-preserved c =
    elim c.match-digit_of.branch [
      | in-Some w ↦ spelling_digit c.loop-at.invariant c.loop-at-test.true w.in-Some.ensures.0 w.in-Some.ensures.1 (w.value-is ∙ w.grown-value.ensures)
      | in-None w ↦ rw w.value-is (spelling_underscore c.loop-at.invariant c.loop-at-test.true (omega (arith, w.in-None.ensures)) w.if-text-at-eq95.true)
    ]

pub returns-in-None-2 : goal.returns-in-None-2
returns-in-None-2 c = spelling_stops c.loop-at.invariant c.loop-at-test.true (sym c.if-ends_before.ensures)

pub returns-in-None-3 : goal.returns-in-None-3
returns-in-None-3 c = grind (arith, spelling_other)

pub returns : goal.returns
returns c = grind (arith, spelling_cut)
