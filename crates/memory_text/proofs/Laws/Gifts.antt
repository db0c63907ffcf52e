-- A text that is read gives every cell exactly once, and one that lacks a cell gives those before the first such. Assumes nothing.
use Prim.Native.Nat.{ℕ, suc, ◌+◌, ◌^◌, ◌<◌}
use mathlib.Core.Bool.{Bool, true, false, cond, false≢true}
use mathlib.Core.List.{List, [], ◌∷◌}
use mathlib.Core.Path.{◌≡◌, refl, sym, ap, ◌∙◌}
use native.Mathlib.Omega.{arith}
use borrow.Author.Tests.{eqb-true, eqb-false, leb-false, not-false}
use lib.Dec.{eqb}
use lib.ListN.{length, get_or, set, replicate, length-set, length-replicate, get_or-replicate}
use lib.Seq.{get_or-set_same, get_or-set_other}
use Rattle.units.specs.Refusals.{reply, answer, table_tests}
use Rattle.units.specs.Inner.Good.{GoodWidths}
use Rattle.units.specs.declared.shapes.Shape.{Shape}
use Rattle.units.proofs.Laws.Good.{table_good}
use Rattle.units.proofs.Laws.Tests.{Passed, other_passed, done_by}
use Rattle.table.proofs.Laws.First.{all_none, first_is_smallest}
use Rattle.memory_tokens.specs.Tokens.{Token, tokens}
use Rattle.memory_tokens.specs.Words.{Saying, saying}
use Rattle.memory_text.specs.Read.{Reading, Report, missing, is_missing, any_missing, first_missing, lacking, complete, missing_among, token_tests, next_address, next_cells, stopped, ended, obeyed, reading, refused, read_report}
use Rattle.memory_text.specs.Gifts.{Gift, gifts_from, gifts, times, Stand}
use Rattle.memory_text.proofs.Laws.Given.{is_missing_lem, field_given}
use Rattle.memory_text.proofs.Laws.Reached.{next_length}

-- what values leave in cells
record Leaves (cells final : List ℕ) (gs : List Gift) : Type 0 where
  size : length final ≡ length cells
  -- a cell that was missing is given once, or is still missing; every other is given no more
  once : (n : ℕ) → n < length cells → cond (is_missing (get_or cells n 0)) 1 0 ≡ times n gs + cond (is_missing (get_or final n 0)) 1 0
  kept : (n : ℕ) → is_missing (get_or cells n 0) ≡ false → get_or final n 0 ≡ get_or cells n 0
  stand : Stand final gs

-- one more value, for a cell that was missing
module _ (address v : ℕ) (cells final : List ℕ) (inside : address < length cells) (was : is_missing (get_or cells address 0) ≡ true) (is : is_missing v ≡ false) where
  abbrev after : List ℕ
  after = set cells address v

  here : get_or after address 0 ≡ v
  here = get_or-set_same cells address v 0 inside

  elsewhere : (n : ℕ) → eqb address n ≡ false → get_or after n 0 ≡ get_or cells n 0
  elsewhere n other = get_or-set_other cells address n v 0 (λ e. eqb-false address n other (sym e))

  once_more : (n : ℕ) (gs : List Gift)
      → cond (is_missing (get_or after n 0)) 1 0 ≡ times n gs + cond (is_missing (get_or final n 0)) 1 0
      → cond (is_missing (get_or cells n 0)) 1 0 ≡ times n (record { cell = address; value = v } ∷ gs) + cond (is_missing (get_or final n 0)) 1 0
  unfolding times
  once_more n gs rest = by_cell (eqb address n) refl
    where
      by_cell : (same : Bool) → eqb address n ≡ same
          → cond (is_missing (get_or cells n 0)) 1 0 ≡ (cond same 1 0 + times n gs) + cond (is_missing (get_or final n 0)) 1 0
      by_cell true same =
          let e : address ≡ n = eqb-true address n same in
          let given : is_missing (get_or after n 0) ≡ false = ap (λ (x : ℕ). is_missing (get_or after x 0)) (sym e) ∙ ap is_missing here ∙ is in
          let gone : is_missing (get_or cells n 0) ≡ true = ap (λ (x : ℕ). is_missing (get_or cells x 0)) (sym e) ∙ was in
          rw gone (omega (arith, rw given at rest))
      by_cell false same = rw (sym (elsewhere n same)) (omega (arith, rest))

  kept_still : (n : ℕ) → is_missing (get_or cells n 0) ≡ false → (is_missing (get_or after n 0) ≡ false → get_or final n 0 ≡ get_or after n 0)
      → get_or final n 0 ≡ get_or cells n 0
  kept_still n given rest = by_cell (eqb address n) refl
    where
      by_cell : (same : Bool) → eqb address n ≡ same → get_or final n 0 ≡ get_or cells n 0
      by_cell true same = absurd (false≢true (sym given ∙ ap (λ (x : ℕ). is_missing (get_or cells x 0)) (sym (eqb-true address n same)) ∙ was))
      by_cell false same = rest (ap is_missing (elsewhere n same) ∙ given) ∙ elsewhere n same

  leaves_more : (gs : List Gift) → Leaves after final gs → Leaves cells final (record { cell = address; value = v } ∷ gs)
  leaves_more gs l =
      record {
        size = l.size ∙ length-set cells address v;
        once = λ n h. once_more n gs (l.once n (rw (length-set cells address v) h));
        kept = λ n given. kept_still n given (l.kept n);
        stand = (omega (arith, inside, l.size, length-set cells address v), (l.kept address (ap is_missing here ∙ is) ∙ here, l.stand));
      }

-- what a token leaves: an address gives nothing
leaves_one : (address v : ℕ) (cells final : List ℕ) (ts : List Token) (is : Bool)
    → (is ≡ false → (address < length cells) × ((is_missing (get_or cells address 0) ≡ true) × (is_missing v ≡ false)))
    → Leaves (cond is cells (set cells address v)) final (gifts_from (cond is v (suc address)) ts)
    → Leaves cells final (cond is (gifts_from v ts) (record { cell = address; value = v } ∷ gifts_from (suc address) ts))
leaves_one address v cells final ts true value l = l
leaves_one address v cells final ts false value l =
    let is = value refl in
    leaves_more address v cells final is.0 is.1.0 is.1.1 (gifts_from (suc address) ts) l

-- a text that has no faulty token: its number is 0, or 11, which no token gives
record Obeyed (s : Shape) (address : ℕ) (cells : List ℕ) (ts : List Token) : Type 0 where
  final : List ℕ
  comes_to : obeyed s address cells ts ≡ ended final
  leaves : Leaves cells final (gifts_from address ts)

module _ (s : Shape) (g : GoodWidths s) (q : ℕ) (not8 : eqb 8 q ≡ false) (not9 : eqb 9 q ≡ false) (not5 : eqb 5 q ≡ false) (not10 : eqb 10 q ≡ false) where
  value_facts : (address : ℕ) (cells : List ℕ) (t : Saying) → length cells ≡ 2 ^ s.k → Passed (token_tests s address cells t) → t.address ≡ false
      → (address < length cells) × ((is_missing (get_or cells address 0) ≡ true) × (is_missing t.value ≡ false))
  value_facts address cells t size p is =
      let near = rw is at p.1.0 in (
        omega (arith, leb-false (2 ^ s.k) address near, size),
        (not-false _ (rw is at p.1.1.1.0), field_given s g t.value (rw is at p.1.1.0)),
      )

  obeys : (address : ℕ) (cells : List ℕ) (ts : List Token) → length cells ≡ 2 ^ s.k → (obeyed s address cells ts).report.number ≡ q → Obeyed s address cells ts
  unfolding obeyed gifts_from times
  obeys address cells [] size e =
      record { final = cells; comes_to = refl; leaves = record { size = refl; once = λ n h. omega arith; kept = λ n given. refl; stand = tt } }
  obeys address cells (t ∷ ts) size e =
      let tests = token_tests s address cells (saying t) in
      let rest = obeyed s (next_address address (saying t)) (next_cells address cells (saying t)) ts in
      let passed = other_passed (λ (r : Reading). r.report.number) stopped rest q tests (not8, (not9, (not5, (not10, tt)))) (λ b. refl) e in
      let is : rest ≡ obeyed s address cells (t ∷ ts) = done_by stopped rest tests passed in
      let o = obeys (next_address address (saying t)) (next_cells address cells (saying t)) ts (next_length address cells (saying t) ∙ size) (ap (λ (r : Reading). r.report.number) is ∙ e) in
      record {
        final = o.final;
        comes_to = sym is ∙ o.comes_to;
        leaves = leaves_one address (saying t).value cells o.final ts (saying t).address (value_facts address cells (saying t) size passed) o.leaves;
      }

module _ (s : Shape) (text : List ℕ) (lent : ℕ) where
  -- no cell was given at the start
  abbrev empty : List ℕ
  empty = replicate (2 ^ s.k) missing

  -- a text without a faulty token, of a table whose tests passed
  unfaulty : (q : ℕ) → eqb 1 q ≡ false → eqb 2 q ≡ false → eqb 3 q ≡ false
      → eqb 8 q ≡ false → eqb 9 q ≡ false → eqb 5 q ≡ false → eqb 10 q ≡ false
      → (read_report s text lent).number ≡ q
      → ((reading s text).report ≡ read_report s text lent) × Obeyed s 0 empty (tokens text)
  unfaulty q not1 not2 not3 not8 not9 not5 not10 e =
      let passed = other_passed (λ (r : Report). r.number) refused (reading s text).report q (table_tests s lent) (not1, (not2, (not3, tt))) (λ b. refl) e in
      let is = done_by refused (reading s text).report (table_tests s lent) passed in (
        is,
        obeys s (table_good passed).widths q not8 not9 not5 not10 0 (replicate (2 ^ s.k) missing) (tokens text) (length-replicate (2 ^ s.k) missing)
            (ap (λ (r : Report). r.number) is ∙ e),
      )

  -- how often a cell is given, by whether it is missing at the end
  counted : (o : Obeyed s 0 empty (tokens text)) (n : ℕ) → n < 2 ^ s.k → 1 ≡ times n (gifts text) + cond (is_missing (get_or o.final n 0)) 1 0
  counted o n h =
      let first : is_missing (get_or (replicate (2 ^ s.k) missing) n 0) ≡ true = is_missing_lem _ (get_or-replicate (2 ^ s.k) n missing 0 h) in
      rw first at (o.leaves.once n (rw (length-replicate (2 ^ s.k) missing) h))

  size : (o : Obeyed s 0 empty (tokens text)) → length o.final ≡ 2 ^ s.k
  size o = o.leaves.size ∙ length-replicate (2 ^ s.k) missing

-- the end of a text: done, or 11
ended_done : (cells : List ℕ) → (ended cells).report.number ≡ 0 → (any_missing cells ≡ false) × ((ended cells).fields ≡ cells)
ended_done cells e =
    let tests = missing_among cells ∷ [] in
    let passed = other_passed (λ (r : Reading). r.report.number) lacking (complete cells) 0 tests (refl, tt) (λ b. refl) e in
    (passed.0, sym (ap (λ (r : Reading). r.fields) (done_by lacking (complete cells) tests passed)))

ended_lacks : (cells : List ℕ) → (ended cells).report.number ≡ 11 → (any_missing cells ≡ true) × ((ended cells).report.n ≡ first_missing cells)
unfolding answer
ended_lacks cells e = by_missing (any_missing cells) refl e
  where
    by_missing : (some : Bool) → any_missing cells ≡ some
        → (cond {A = Reading} some (lacking (reply 11 (first_missing cells))) (complete cells)).report.number ≡ 11
        → (any_missing cells ≡ true) × ((ended cells).report.n ≡ first_missing cells)
    by_missing true is e = (is, rw is refl)
    by_missing false is e = absurd (omega (arith, e))

-- a reading that is done has every cell of the table given exactly once, and the fields are the values given
pub record GivesAll (s : Shape) (text : List ℕ) : Type 0 where
  pub once : (n : ℕ) → n < 2 ^ s.k → times n (gifts text) ≡ 1
  pub size : length (reading s text).fields ≡ 2 ^ s.k
  pub stand : Stand (reading s text).fields (gifts text)

pub done_gives_all : (s : Shape) (text : List ℕ) (lent : ℕ) → (read_report s text lent).number ≡ 0 → GivesAll s text
done_gives_all s text lent e =
    let u = unfaulty s text lent 0 refl refl refl refl refl refl refl e in
    let o = u.1 in
    let end = ended_done o.final (sym (ap (λ (r : Reading). r.report.number) o.comes_to) ∙ ap (λ (r : Report). r.number) u.0 ∙ e) in
    let fields : (reading s text).fields ≡ o.final = ap (λ (r : Reading). r.fields) o.comes_to ∙ end.1 in
    record {
      once = λ n h. sym (omega (arith, rw (all_none is_missing o.final end.0 n (omega (arith, size s text lent o))) at (counted s text lent o n h)));
      size = ap length fields ∙ size s text lent o;
      stand = rw fields o.leaves.stand;
    }

-- "Without a faulty token, 11 gives the smallest missing n": it is not given, and every one before it is, once
pub record NamesMissing (s : Shape) (text : List ℕ) (n : ℕ) : Type 0 where
  pub within : n < 2 ^ s.k
  pub not_given : times n (gifts text) ≡ 0
  pub given_before : (i : ℕ) → i < n → times i (gifts text) ≡ 1

pub lacking_names_smallest : (s : Shape) (text : List ℕ) (lent : ℕ) → (read_report s text lent).number ≡ 11 → NamesMissing s text (read_report s text lent).n
lacking_names_smallest s text lent e =
    let u = unfaulty s text lent 11 refl refl refl refl refl refl refl e in
    let o = u.1 in
    let end = ended_lacks o.final (sym (ap (λ (r : Reading). r.report.number) o.comes_to) ∙ ap (λ (r : Report). r.number) u.0 ∙ e) in
    let least = first_is_smallest is_missing 0 o.final end.0 in
    let n : (read_report s text lent).n ≡ least.at = sym (ap (λ (r : Report). r.n) u.0) ∙ ap (λ (r : Reading). r.report.n) o.comes_to ∙ end.1 ∙ omega (arith, least.is) in
    rw n
    record {
      within = omega (arith, least.within, size s text lent o);
      not_given = omega (arith, rw least.it_holds at (counted s text lent o least.at (omega (arith, least.within, size s text lent o))));
      given_before = λ i h. omega (arith, rw (least.none_before i h) at (counted s text lent o i (omega (arith, least.within, size s text lent o))));
    }
