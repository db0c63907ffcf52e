-- How far a reading has come: what is left of the text, from the address and the cells that it has reached, comes to what the whole text
-- comes to. Assumes nothing.
use Prim.Native.Nat.{ℕ, ◌^◌, ◌≤◌}
use Rattle.std.specs.Prelude.{Result, Ok, Err, IsErrAnd}
use mathlib.Core.Bool.{Bool, true, false, cond, not, ◌&&◌}
use mathlib.Core.List.{List, [], ◌∷◌}
use mathlib.Core.Path.{◌≡◌, refl, sym, ap, ap₂, ◌∙◌}
use native.Mathlib.Omega.{arith}
use lib.Dec.{leb}
use lib.Pow.{pow_mono}
use lib.ListN.{length, get_or, set, replicate, length-set, length-replicate}
use borrow.Author.Tests.{le-leb, lt-leb}
use Rattle.units.specs.Inner.Good.{GoodWidths}
use Rattle.units.specs.Refusals.{reply, test, answer}
use Rattle.units.specs.declared.counts.Offset.{Offset}
use Rattle.units.specs.declared.shapes.Shape.{Shape}
use Rattle.units.proofs.Laws.Order.{by_order}
use Rattle.entry.specs.Fields.{fields_end, is_wide}
use Rattle.entry.proofs.Laws.Fields.{fields_end_bound}
use Rattle.memory_tokens.specs.Tokens.{outside}
use Rattle.memory_tokens.specs.Words.{Saying, saying}
use Rattle.memory_text.specs.Read.{Reading, error_report, missing, is_missing, token_tests, next_address, next_cells, stopped, ended, obeyed, reading}
use Rattle.memory_tokens.specs.Inner.Places.{tokens_from, capped, says, capped_saying, IsFaulty, SaysSo}
use Rattle.memory_text.specs.Inner.Steps.{count_given, Came, GoesOn, Stops}
use Rattle.memory_text.specs.declared.errors.ReadError.{ReadError}
use Rattle.memory_text.specs.declared.errors.ReadError.TheVariants.{BadToken}
use Rattle.memory_text.specs.declared.storing.Progress.{Progress}
use Rattle.memory_tokens.specs.declared.words.Word.{Word}
use Rattle.memory_text.proofs.Laws.Given.{count_none}

-- a number that is capped fails the same tests
capped_leb : (p v : ℕ) → p ≤ 65536 → leb p (capped v) ≡ leb p v
capped_leb p v h =
    by_order p v (λ l. le-leb p (capped v) (omega arith) ∙ sym (le-leb p v l)) (λ l. lt-leb p (capped v) (omega arith) ∙ sym (lt-leb p v l))

capped_place : (p a v : ℕ) (is : Bool) → p ≤ 65536 → leb p (cond is (capped v) a) ≡ leb p (cond is v a)
capped_place p a v true h = capped_leb p v h
capped_place p a v false h = refl

capped_wide : (s : Shape) (v : ℕ) → GoodWidths s → is_wide s (capped v) ≡ is_wide s v
unfolding is_wide
capped_wide s v g = capped_leb (fields_end s) v (fields_end_bound g)

capped_tests : (s : Shape) (a : ℕ) (cells : List ℕ) (t : Saying) → GoodWidths s → token_tests s a cells (capped_saying t) ≡ token_tests s a cells t
capped_tests s a cells t g =
    ap₂
    (λ (past wide : Bool).
    test (not t.formed) (reply 8 t.offset)
    ∷ test past (reply 9 t.offset)
    ∷ test (not t.address && wide) (reply 5 t.offset)
    ∷ test (not t.address && not (is_missing (get_or cells a 0))) (reply 10 t.offset)
    ∷ [])
    (capped_place (2 ^ s.k) a t.value t.address (omega (arith, pow_mono g.narrow_in)))
    (capped_wide s t.value g)

-- what `?` hands on comes to what its error says
pub came_on : {A : Type 0} (r : Reading) (o : Result A ReadError) (e : ReadError) (after : List ℕ) → IsErrAnd o (λ (x : ReadError). x ≡ e)
    → error_report e ≡ r.report
    → Came r o after
came_on r (Ok x) e after is same = absurd is
came_on r (Err x) e after is same = (ap error_report is ∙ same, tt)

-- a token leaves as many cells as there were
pub next_length : (a : ℕ) (cells : List ℕ) (t : Saying) → length (next_cells a cells t) ≡ length cells
next_length a cells t = by_kind t.address
  where
    by_kind : (is : Bool) → length (cond is cells (set cells a t.value)) ≡ length cells
    by_kind true = refl
    by_kind false = length-set cells a t.value

pub record Reached (s : Shape) (text cells : List ℕ) (p : Progress) (at : ℕ) : Type 0 where
  pub size : length cells ≡ 2 ^ s.k
  pub within : at ≤ length text
  pub near : p.address ≤ 2 ^ s.k
  pub counted : p.given ≡ count_given cells
  pub left_is : obeyed s p.address cells (tokens_from text (outside false) at) ≡ reading s text

module _ (s : Shape) (text : List ℕ) where
  pub reached_starts : (cells : List ℕ) → cells ≡ replicate (2 ^ s.k) missing → Reached s text cells (record { address = 0; given = 0 }) 0
  reached_starts cells is =
      record {
        size = ap length is ∙ length-replicate (2 ^ s.k) missing;
        within = omega arith;
        near = omega arith;
        counted = sym (ap count_given is ∙ count_none (2 ^ s.k));
        left_is = rw is refl;
      }

  module _ (cells : List ℕ) (p : Progress) (at : ℕ) (r : Reached s text cells p at) where
    -- no token is left
    pub reached_ends : (a : Result (Unit {0}) ReadError) → tokens_from text (outside false) at ≡ [] → Came (ended cells) a cells → Came (reading s text) a cells
    unfolding obeyed
    reached_ends a none came =
        let is : ended cells ≡ reading s text = sym (ap (obeyed s p.address cells) none) ∙ r.left_is in
        rw (← is) came

    -- a faulty one is next
    pub reached_bad : (from : Offset) → IsFaulty text at from.0 → error_report (BadToken from) ≡ (reading s text).report
    unfolding obeyed answer
    reached_bad from f =
        let is : stopped (reply 8 f.first.offset) ≡ reading s text = sym (ap (obeyed s p.address cells) f.tokens_are ∙ rw f.bad refl) ∙ r.left_is in
        rw (← is, ← f.offset_is) refl

    module _ (g : GoodWidths s) (word : Word) (end : ℕ) (next : SaysSo text at word end) where
      -- the tests of the next one are those of its number as the code holds it
      same_tests : token_tests s p.address cells (says word) ≡ token_tests s p.address cells (saying next.first)
      same_tests = ap (token_tests s p.address cells) next.says_it ∙ capped_tests s p.address cells (saying next.first) g

      rest : Reading
      rest =
          obeyed s (next_address p.address (saying next.first)) (next_cells p.address cells (saying next.first)) (tokens_from text (outside false) end)

      becomes : answer stopped rest (token_tests s p.address cells (says word)) ≡ reading s text
      unfolding obeyed rest
      becomes = ap (answer stopped rest) same_tests ∙ sym (ap (obeyed s p.address cells) next.tokens_are) ∙ r.left_is

      -- the reading stops at it
      pub reached_stops : (e : ReadError) → Stops s p (says word) cells e → error_report e ≡ (reading s text).report
      reached_stops e stop = ap (λ (x : Reading). x.report) (sym (stop rest) ∙ becomes)

      -- or goes on after it
      pub reached_on : (after : List ℕ) (q : Progress) → GoesOn s p (says word) cells after q → Reached s text after q end
      unfolding rest
      reached_on after q on =
          let t = saying next.first in
          let uncapped : capped t.value ≡ t.value = omega (arith, on.small, ap (λ (x : Saying). x.value) next.says_it) in
          let it : says word ≡ t =
          next.says_it ∙ ap (λ (v : ℕ). record { offset = t.offset; formed = t.formed; address = t.address; value = v }) uncapped in
          record {
            size = ap length on.cells_are ∙ next_length p.address cells (says word) ∙ r.size;
            within = next.within;
            near = on.near;
            counted = on.counted r.counted;
            left_is =
                ap₂ (λ (a : ℕ) (cs : List ℕ). obeyed s a cs (tokens_from text (outside false) end)) (on.address_is ∙ ap (next_address p.address) it)
                (on.cells_are ∙ ap (next_cells p.address cells) it)
                ∙ sym (on.passed rest)
                ∙ becomes;
          }
