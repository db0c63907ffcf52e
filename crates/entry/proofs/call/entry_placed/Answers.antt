-- `entry::entry_placed` meets its contract: the tests of the place, and after them that of the field. Assumes nothing.
use Prim.Native.Nat.{ℕ}
use mathlib.Core.Bool.{Bool}
use mathlib.Core.List.{[], ◌∷◌}
use mathlib.Core.Path.{◌≡◌, sym, ap, ◌∙◌}
use native.Mathlib.Omega.{arith}
use Rattle.units.proofs.Laws.Tests.{handed_on, refused_so, refused_after, done_so, done_by}
use Rattle.units.specs.Refusals.{Reply, reply, fault_reply_of, refusal}
use Rattle.units.specs.declared.shapes.Shape.{Shape}
use Rattle.entry.specs.Fields.{too_wide, is_wide}
use Rattle.entry.specs.Inner.Good.{GoodPlace}
use Rattle.entry.specs.Report.{place_tests, entry_tests}
use Rattle.entry.proofs.Laws.Good.{place_good, good_place, good_field, good_entry_tests}
use Rattle.entry.proofs.call.entry_placed.Goals as goal

-- widths and place are good
good : (s : Shape) (n : ℕ) → reply 0 0 ≡ refusal (place_tests s n) → GoodPlace s n
good s n e = place_good (done_so (place_tests s n) (omega arith) e)

-- and what is told of f is told by that shape
told : (s : Shape) (f : ℕ) {g : Shape} {wide : Bool} → g ≡ s → wide ≡ is_wide g f → is_wide s f ≡ wide
told s f same is = ap (λ (t : Shape). is_wide t f) (sym same) ∙ sym is

pub returns-in_err-place-clause-answer : goal.returns-in_err-place-clause-answer
returns-in_err-place-clause-answer c =
    handed_on fault_reply_of _ _ c.from_residual.ensures.1
    ∙ refused_so (λ (b : Reply). b) (reply 0 0) (place_tests c.args.shape c.args.n.0) (too_wide _ _ _ ∷ []) _ c.in_err-place.ensures.answer

pub returns-then-is_wide-clause-answer : goal.returns-then-is_wide-clause-answer
returns-then-is_wide-clause-answer c =
    refused_after (λ (b : Reply). b) _ (place_tests c.args.shape c.args.n.0) (too_wide c.args.shape c.args.n.0 c.args.f) []
    (good_place (good c.args.shape c.args.n.0 c.in_ok-place.ensures.answer))
    (told c.args.shape c.args.f c.in_ok-place.ensures.same.0 c.if-is_wide.ensures)

pub invariant_of-result : goal.invariant_of-result
invariant_of-result c =
    record {
      good =
          rw (c.entry_of-j.ensures, c.in_ok-place.ensures.same.0)
          (good_field _ (good c.args.shape c.args.n.0 c.in_ok-place.ensures.answer)
          (told c.args.shape c.args.f c.in_ok-place.ensures.same.0 c.if-is_wide.ensures));
    }

pub returns-clause-answer : goal.returns-clause-answer
returns-clause-answer c =
    done_by (λ (b : Reply). b) _ (entry_tests c.args.shape c.args.n.0 c.args.f)
    (good_entry_tests _ (good c.args.shape c.args.n.0 c.in_ok-place.ensures.answer)
    (told c.args.shape c.args.f c.in_ok-place.ensures.same.0 c.if-is_wide.ensures))
