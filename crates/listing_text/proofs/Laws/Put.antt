-- A text that is copied is put, and one after another is put as one text. Assumes nothing.
use Prim.Native.Nat.{ℕ, ◌+◌, ◌≤◌}
use mathlib.Core.Path.{refl, ap, ◌∙◌}
use mathlib.Core.List.{List, ◌++◌, append_assoc}
use lib.ListN.{length, take, length-append}
use lib.Seq.{paste, length-paste, take-paste, take-length}
use native.Mathlib.Omega.{arith}
use Rattle.listing_text.specs.Inner.Pages.{Put}

-- a text that is pasted into a page, whole
pub put_pasted : (page : List ℕ) (at : ℕ) (text : List ℕ) → at + length text ≤ length page
    → Put text (length text) page at (paste page at text (length text)) (at + length text)
put_pasted page at text h =
    record {
      size = length-paste page at text (length text) h (omega arith);
      end_is = refl;
      room = omega arith;
      text_is = take-paste page at text (length text) (omega arith) (omega arith) ∙ ap (λ (t : List ℕ). take at page ++ t) (take-length text);
    }

pub put_then : {xs ys a b c : List ℕ} {some more at mid end : ℕ} → Put xs some a at b mid → Put ys more b mid c end
    → Put (xs ++ ys) (some + more) a at c end
put_then {xs} {ys} {a} {at = at} p q =
    record {
      size = q.size ∙ p.size;
      end_is = rw (length-append xs ys) (omega (arith, p.end_is, q.end_is));
      room = omega (arith, p.room, q.room);
      text_is = q.text_is ∙ ap (λ (t : List ℕ). t ++ ys) p.text_is ∙ append_assoc (take at a) xs ys;
    }

-- a text of a few bytes at most is one of more at most
pub put_within : {xs a b : List ℕ} {few many at end : ℕ} → few ≤ many → Put xs few a at b end → Put xs many a at b end
put_within h p = record { size = p.size; end_is = p.end_is; room = omega (arith, p.room); text_is = p.text_is }
