-- `memory_text::obey` meets its contract: it makes the tests of a token in their order. Assumes nothing.
use Prim.Native.Nat.{ℕ, ◌^◌, ◌≤◌, ◌<◌}
use mathlib.Core.Bool.{true, false}
use mathlib.Core.List.{List}
use mathlib.Core.Path.{◌≡◌, refl}
use native.Mathlib.Omega.{arith}
use lib.Dec.{leb}
use lib.ListN.{length}
use lib.Pow.{pow_mono}
use borrow.Author.Tests.{le-leb, lt-leb}
use Rattle.units.specs.declared.shapes.Shape.{Shape}
use Rattle.entry.specs.Fields.{fields_end, is_wide}
use Rattle.entry.proofs.Laws.Fields.{fields_end_within}
use Rattle.memory_text.proofs.Laws.Given.{is_given, is_missing_lem, count_set}
use Rattle.memory_text.proofs.Laws.Obey.{address_past, address_passes, value_past, value_wide, value_twice, value_passes}
use Rattle.memory_text.proofs.storing.obey.Goals as goal

-- the cells are as many as the table has
module _ (s : Shape) (cells : List ℕ) (size : length cells ≡ 2 ^ s.k) (at : ℕ) where
  past : length cells ≤ at → leb (2 ^ s.k) at ≡ true
  past h = le-leb (2 ^ s.k) at (omega (arith, size, h))

  near : at < length cells → leb (2 ^ s.k) at ≡ false
  near h = lt-leb (2 ^ s.k) at (omega (arith, size, h))

module _ (s : Shape) (v end : ℕ) (end_is : end ≡ fields_end s) where
  wide : end ≤ v → is_wide s v ≡ true
  unfolding is_wide
  wide h = le-leb (fields_end s) v (omega (arith, end_is, h))

  narrow : v < end → is_wide s v ≡ false
  unfolding is_wide
  narrow h = lt-leb (fields_end s) v (omega (arith, end_is, h))

pub returns-then-cells-next : goal.returns-then-cells-next
returns-then-cells-next c =
    let a = c.args in
    rw c.in-Address.is
    (address_past a.good.shape a.before.address a.cells.now _ refl refl (past a.good.shape _ c.requires.0 _ c.if-cells-next.true))

pub returns-else-cells-next : goal.returns-else-cells-next
returns-else-cells-next c =
    let a = c.args in
    rw c.in-Address.is
    record {
      passed = address_passes a.good.shape a.before.address a.cells.now _ refl refl (near a.good.shape _ c.requires.0 _ c.if-cells-next.false);
      address_is = refl;
      cells_are = refl;
      near = omega (arith, c.requires.0);
      small = omega (arith, c.requires.0, pow_mono a.good.good.narrow_in);
      counted = λ e. e;
    }

pub returns-then-cells-address : goal.returns-then-cells-address
returns-then-cells-address c =
    let a = c.args in
    rw c.in-Value.is
    (value_past a.good.shape _ a.cells.now _ refl refl (past a.good.shape _ c.requires.0 _ c.if-cells-address.true))

pub returns-then-fields_of-value : goal.returns-then-fields_of-value
returns-then-fields_of-value c =
    let a = c.args in
    rw c.in-Value.is
    (value_wide a.good.shape _ a.cells.now _ refl refl (near a.good.shape _ c.requires.0 _ c.if-cells-address.false)
    (wide a.good.shape _ _ c.fields_of.ensures.1 c.if-fields_of-value.true))

pub returns-then-cells-address-2 : goal.returns-then-cells-address-2
returns-then-cells-address-2 c =
    let a = c.args in
    rw c.in-Value.is
    (value_twice a.good.shape _ a.cells.now _ refl refl (near a.good.shape _ c.requires.0 _ c.if-cells-address.false)
    (narrow a.good.shape _ _ c.fields_of.ensures.1 c.if-fields_of-value.false)
    (is_given _ c.if-cells-address-2.true))

pub overflow_cast-cells : goal.overflow_cast-cells
overflow_cast-cells c =
    omega (arith, c.fields_of.ensures.1, fields_end_within c.args.good.shape, pow_mono c.args.good.good.narrow_out)

pub returns-else-cells-address-2 : goal.returns-else-cells-address-2
returns-else-cells-address-2 c =
    let a = c.args in
    let small : c.in-Value.value ≤ 32768 =
    omega (arith, c.fields_of.ensures.1, fields_end_within a.good.shape, pow_mono a.good.good.narrow_out) in
    let first = is_missing_lem _ c.if-cells-address-2.false in
    rw c.in-Value.is
    record {
      passed =
          value_passes a.good.shape _ a.cells.now _ refl refl (near a.good.shape _ c.requires.0 _ c.if-cells-address.false)
          (narrow a.good.shape _ _ c.fields_of.ensures.1 c.if-fields_of-value.false)
          first;
      address_is = omega arith;
      cells_are = refl;
      near = omega (arith, c.requires.0);
      small = omega (arith, small);
      counted = λ e. omega (arith, e, count_set a.cells.now a.before.address c.in-Value.value (omega arith) first (is_given _ (λ w. omega (arith, w, small))));
    }
