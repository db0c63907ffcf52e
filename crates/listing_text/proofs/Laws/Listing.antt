-- Which text an input asks for. Assumes nothing.
use Prim.Native.Nat.{ℕ, ◌<◌}
use mathlib.Core.List.{List, []}
use mathlib.Core.Path.{◌≡◌, refl, sym, ◌∙◌}
use native.Mathlib.Omega.{arith}
use borrow.Author.Tests.{ne_eqb}
use Rattle.units.specs.Refusals.{Reply, refusal, refusal_number, table_tests}
use Rattle.units.specs.declared.shapes.Shape.{Shape}
use Rattle.units.specs.declared.refusals.Refusal.{Refusal}
use Rattle.units.proofs.Laws.Tests.{Passed, done_by, refused_by, refusal_numbered}
use Rattle.listing_line.specs.Line.{line_read, asks, refused}
use Rattle.listing_text.specs.Listing.{table_text, refused_text, shape_text, text_of, text_for}

-- another form
pub refused_line_text : (input : List ℕ) (r : Refusal) → refused (refusal_number r) ≡ line_read input → refused_text (refusal_number r) ≡ text_for input
unfolding text_of
refused_line_text input r e = rw (sym e, ne_eqb (refusal_number r) 0 (λ z. omega (arith, refusal_numbered r))) refl

shape_text_lem : (input : List ℕ) (s : Shape) → line_read input ≡ asks s → shape_text s ≡ text_for input
unfolding text_of
shape_text_lem input s e = rw e refl

-- a shape that is refused
pub refused_shape_text : (input : List ℕ) (s : Shape) {b : Reply} → line_read input ≡ asks s → b ≡ refusal (table_tests s 32768) → 0 < b.number
    → refused_text b.number ≡ text_for input
refused_shape_text input s e is h =
    refused_by (λ (b : Reply). refused_text b.number) (table_text s) (table_tests s 32768) [] is h ∙ shape_text_lem input s e

-- and one that is listed
pub listed_shape_text : (input : List ℕ) (s : Shape) → line_read input ≡ asks s → Passed (table_tests s 32768) → table_text s ≡ text_for input
listed_shape_text input s e p =
    done_by (λ (b : Reply). refused_text b.number) (table_text s) (table_tests s 32768) p ∙ shape_text_lem input s e
