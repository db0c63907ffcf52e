-- `table::wide_among` meets its contract: a field is over-wide where the largest is, and then the loop finds it. Assumes nothing.
use Prim.Native.Nat.{ℕ}
use mathlib.Core.List.{[], ◌∷◌}
use mathlib.Core.Path.{refl, sym, ap, ◌∙◌}
use native.Mathlib.Omega.{arith}
use Rattle.units.specs.Refusals.{Reply, reply}
use Rattle.units.proofs.Laws.Tests.{refused_after, done_by}
use Rattle.entry.specs.Fields.{is_wide}
use Rattle.table.specs.Wide.{wide_among}
use Rattle.table.proofs.Laws.First.{one_within, first_here, first_after}
use Rattle.table.proofs.Laws.Largest.{wide_by_largest}
use Rattle.table.proofs.fields.wide_among.Goals as goal

pub loop-n-init : goal.loop-n-init
loop-n-init c =
    (wide_by_largest c.args.good.shape c.args.cells.now ∙ ap (is_wide _) (sym c.largest.ensures) ∙ sym c.if-is_wide.ensures, refl)

pub returns-then-is_wide-2 : goal.returns-then-is_wide-2
returns-then-is_wide-2 c =
    let s = c.args.good.shape in
    let cells = c.args.cells.now in
    let loop = c.loop-n in
    let wide = wide_by_largest s cells ∙ ap (is_wide s) (sym c.largest.ensures) ∙ sym c.if-is_wide.ensures in
    let first = sym (first_here (is_wide s) cells loop.n (omega arith) (sym c.if-is_wide-2.ensures)) ∙ loop.invariant.1 in
    ap (λ (n : ℕ). reply 5 n) first ∙ refused_after (λ (b : Reply). b) _ [] (wide_among s 0 cells) [] tt wide

pub loop-n-preserved : goal.loop-n-preserved
loop-n-preserved c =
    let loop = c.loop-n in
    let after = first_after (is_wide _) c.args.cells.now loop.n (omega arith) (sym c.if-is_wide-2.ensures) in
    (after.0 ∙ loop.invariant.0, after.1 ∙ loop.invariant.1)

-- one of the cells is over-wide, so the loop does not come to their end
pub returns-after-loop-n : goal.returns-after-loop-n
returns-after-loop-n c =
    absurd (omega (arith, one_within (is_wide c.args.good.shape) c.args.cells.now c.loop-n.n c.loop-n.invariant.0))

pub returns-else-is_wide : goal.returns-else-is_wide
returns-else-is_wide c =
    let s = c.args.good.shape in
    let narrow = wide_by_largest s c.args.cells.now ∙ ap (is_wide s) (sym c.largest.ensures) ∙ sym c.if-is_wide.ensures in
    done_by (λ (b : Reply). b) _ (wide_among s 0 c.args.cells.now ∷ []) (narrow, tt)
