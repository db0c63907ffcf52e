-- What a reading leaves in the lent cells. Assumes nothing.
use Prim.Native.Nat.{ℕ, ◌^◌}
use mathlib.Core.Bool.{Bool, true, false, false≢true}
use mathlib.Core.List.{List, ◌++◌}
use mathlib.Core.Path.{◌≡◌, refl, sym, ap, ◌∙◌}
use native.Mathlib.Omega.{arith}
use borrow.Author.Tests.{ne_eqb}
use lib.Dec.{eqb}
use lib.ListN.{length, drop}
use Rattle.std.specs.Prelude.{Result, Ok, Err, is_ok, OnOk}
use Rattle.units.specs.Refusals.{refusal_number}
use Rattle.units.specs.declared.shapes.Shape.{Shape}
use Rattle.units.proofs.Laws.Tests.{refusal_numbered}
use Rattle.memory_text.specs.Read.{Report, Reading, reported, left_by}
use Rattle.memory_text.specs.Inner.Steps.{Came}
use Rattle.memory_text.specs.declared.errors.ReadError.{ReadError}
use Rattle.memory_text.specs.declared.errors.ReadError.TheVariants.{BadToken, PastTable, TooWide, GivenTwice, Missing, Refused}

-- only "done" has the number 0
done_number : (a : Result (Unit {0}) ReadError) → eqb (reported a).number 0 ≡ is_ok a
done_number (Ok _) = refl
done_number (Err (BadToken _)) = refl
done_number (Err (PastTable _)) = refl
done_number (Err (TooWide _)) = refl
done_number (Err (GivenTwice _)) = refl
done_number (Err (Missing _)) = refl
done_number (Err (Refused r)) = ne_eqb (refusal_number r) 0 (λ e. omega (arith, refusal_numbered r))

where_ok : {P : Type 0} (a : Result (Unit {0}) ReadError) → is_ok a ≡ true → OnOk a P → P
where_ok (Ok _) is p = p
where_ok (Err _) is p = absurd (false≢true is)

module _ (s : Shape) (r : Reading) (a : Result (Unit {0}) ReadError) (cells table : List ℕ) (came : Came r a cells) where
  number_is : {b : Bool} → is_ok a ≡ b → eqb r.report.number 0 ≡ b
  number_is is = ap (λ (x : Report). eqb x.number 0) (sym came.0) ∙ done_number a ∙ is

  -- the fields of a text that gives every cell, or nothing
  pub done_leaves : is_ok a ≡ true → length cells ≡ 2 ^ s.k → cells ++ drop (length cells) table ≡ left_by s r table
  done_leaves is size = rw (number_is is, size, where_ok a is came.1) refl

  pub refused_leaves : is_ok a ≡ false → table ≡ left_by s r table
  refused_leaves is = rw (number_is is) refl
