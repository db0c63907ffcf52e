-- `table::look_up` meets its contract: its tests are those of `lookup_report`, and the index of X·2^s is below 2^k. Assumes nothing.
use Prim.Native.Nat.{ℕ, ◌*◌, ◌<◌, ◌^◌}
use mathlib.Core.List.{[], ◌∷◌}
use mathlib.Core.Path.{◌≡◌, sym, ap, ap₂, ◌∙◌}
use native.Mathlib.Omega.{arith}
use lib.ListN.{get_or}
use lib.Pow.{pow_mono}
use Rattle.units.specs.Refusals.{reply, refusal}
use Rattle.units.specs.declared.shapes.Shape.{Shape}
use Rattle.units.proofs.Laws.Tests.{handed_on, done_so, refused_so}
use Rattle.entry.specs.Fields.{fields_end, too_wide}
use Rattle.entry.proofs.Laws.Fields.{wide_by_end, value_by_first}
use Rattle.table.specs.Inner.Good.{GoodLookup}
use Rattle.table.specs.Lookup.{reported, refused, looked_up, index_of, divisor_tests, lookup_at}
use Rattle.table.specs.Shift.{shift_of, shifted}
use Rattle.table.proofs.Laws.Good.{lookup_good}
use Rattle.table.proofs.Laws.Lookup.{index_below, field_refused, field_found}
use Rattle.table.proofs.Laws.Shift.{shift_reaches, shift_stays, shift_within}
use Rattle.table.proofs.lookups.look_up.Goals as goal

-- every test but that of the field passed
good : (s : Shape) (x lent : ℕ) → reply 0 0 ≡ refusal (divisor_tests s x lent) → GoodLookup s x lent
good s x lent e = lookup_good (done_so (divisor_tests s x lent) (omega arith) e)

-- the index of X·2^s is below 2^k, so it is within the table, and small
below : (s : Shape) (x lent n : ℕ) → GoodLookup s x lent → n ≡ index_of s (shifted x) → (n < lent) × (n < 2 ^ 15)
below s x lent n g e =
    let narrow = g.table.widths.narrow_in in
    let inside = index_below s (shifted x) narrow (shift_reaches x g.some) (shift_stays x g.some g.to) in
    omega (arith, e, inside, g.table.enough, pow_mono narrow)

pub shift_of-s-requires : goal.shift_of-s-requires
shift_of-s-requires c =
    let g = good c.args.shape c.args.x _ c.in_ok-good.ensures.answer in
    (g.some, g.to)

pub shifted_by-requires : goal.shifted_by-requires
shifted_by-requires c =
    let g = good c.args.shape c.args.x _ c.in_ok-good.ensures.answer in
    (g.to, omega (arith, c.shift_of-s.ensures, shift_within c.args.x g.some))

-- what is looked up is X·2^s, from 32768 to 65535
pub index_of-at-requires : goal.index_of-at-requires
index_of-at-requires c =
    let x = c.args.x in
    let g = good c.args.shape x _ c.in_ok-good.ensures.answer in
    rw (c.shifted_by.ensures, c.shift_of-s.ensures) (shift_reaches x g.some, shift_stays x g.some g.to)

-- at the index of X·2^s
index_is : (s : Shape) (x : ℕ) {t : Shape} {shift y at : ℕ} → t ≡ s → shift ≡ shift_of x → y ≡ x * 2 ^ shift → at ≡ index_of t y
    → at ≡ index_of s (shifted x)
index_is s x same shift y at = at ∙ ap₂ index_of same (y ∙ ap (λ (n : ℕ). x * 2 ^ n) shift)

pub bounds-table-at : goal.bounds-table-at
bounds-table-at c =
    (below c.args.shape c.args.x _ _ (good c.args.shape c.args.x _ c.in_ok-good.ensures.answer)
    (index_is c.args.shape c.args.x c.in_ok-good.ensures.same c.shift_of-s.ensures c.shifted_by.ensures c.index_of-at.ensures)).0

pub returns-in_err-good : goal.returns-in_err-good
returns-in_err-good c =
    handed_on reported _ _ c.from_residual.ensures.1
    ∙ refused_so refused _ (divisor_tests c.args.shape _ _) (too_wide _ _ _ ∷ []) _ c.in_err-good.ensures.answer

-- whether the field at that index is over-wide
pub returns-then-is_wide : goal.returns-then-is_wide
returns-then-is_wide c =
    let args = c.args in
    field_refused args.table.now (good args.shape args.x _ c.in_ok-good.ensures.answer) c.index_of-at.result
    (sym (wide_by_end _ _ c.if-is_wide.ensures (c.fields_of-fields.ensures.1 ∙ ap fields_end c.in_ok-good.ensures.same)))
    ∙ ap (lookup_at args.shape args.x args.table.now)
    (index_is args.shape args.x c.in_ok-good.ensures.same c.shift_of-s.ensures c.shifted_by.ensures c.index_of-at.ensures)

pub returns : goal.returns
returns c =
    let args = c.args in
    let n = c.index_of-at.result in
    let f = get_or args.table.now n 0 in
    let same = c.in_ok-good.ensures.same in
    ap₂ (λ (s j : ℕ). looked_up s n j) c.shift_of-s.ensures
    (value_by_first args.shape f c.entry-j.ensures (c.fields_of-fields.ensures.0 ∙ ap (λ (s : Shape). 2 ^ s.m) same))
    ∙ field_found args.table.now (good args.shape args.x _ c.in_ok-good.ensures.answer) n
    (sym (wide_by_end _ _ c.if-is_wide.ensures (c.fields_of-fields.ensures.1 ∙ ap fields_end same)))
    ∙ ap (lookup_at args.shape args.x args.table.now)
    (index_is args.shape args.x same c.shift_of-s.ensures c.shifted_by.ensures c.index_of-at.ensures)
