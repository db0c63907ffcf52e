-- `memory_text::put_lines` meets its contract: one line more fits while a field is left, and all are put where none is. Assumes nothing.
use Prim.Native.Nat.{ℕ, suc, ◌+◌, ◌-◌}
use mathlib.Core.Path.{◌≡◌, ap, ◌∙◌}
use native.Mathlib.Omega.{arith}
use lib.ListN.{length, take, drop, get_or, length-take, length-drop}
use Rattle.memory_text.specs.Write.{line_of}
use Rattle.memory_text.proofs.Laws.Lines.{putting_fits, putting_goes_on, putting_ends}
use Rattle.memory_text.proofs.writing.put_lines.Goals as goal

pub loop-f-preserved : goal.loop-f-preserved
loop-f-preserved c =
    let count = c.args.count in
    let cells = c.args.cells.now in
    let before = c.args.text.now in
    let loop = c.loop-f in
    let at = loop.at in
    let n = loop.f-index in
    let fits = putting_fits count cells before c.requires.1 loop.text at n loop.invariant c.loop-f-test.true in
    let long : at + count + 1 - at ≡ suc count = omega arith in
    let line : length (take (at + count + 1 - at) (drop at loop.text)) - 1 ≡ count = simp (length-take, length-drop) (omega (arith, fits)) in
    let next : at + suc count ≡ at + count + 1 = omega arith in
    rw (long, ← next)
    (putting_goes_on count cells before c.requires.1 loop.text at n loop.invariant c.loop-f-test.true _
    (c.put_line.ensures ∙ ap (λ (digits : ℕ). line_of digits (get_or cells n 0)) line))

pub returns : goal.returns
returns c =
    putting_ends c.args.count c.args.cells.now c.args.text.now c.requires.1 c.loop-f.text c.loop-f.at c.loop-f.f-index c.loop-f.invariant (omega arith)
