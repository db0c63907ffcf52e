-- Every text is laid out. Assumes nothing.
use Prim.Native.Nat.{ℕ, zero, suc, ◌+◌, ◌≤◌, ◌<◌}
use mathlib.Core.Bool.{Bool, true, false, ◌&&◌, ◌||◌, false≢true}
use mathlib.Core.List.{List, [], ◌∷◌, ◌++◌, append_assoc}
use mathlib.Core.Path.{◌≡◌, refl, sym, ap, ap₂, subst, ◌∙◌}
use native.Mathlib.Omega.{arith}
use borrow.Author.Tests.{eqb-true}
use lib.Dec.{eqb}
use lib.ListN.{length, length-append}
use Rattle.table.specs.First.{any_of}
use Rattle.memory_tokens.specs.Tokens.{newline, star, slash, is_white, opens, ends, word_of, Token, outside, tokens_in}
use Rattle.memory_text.specs.Layout.{has_newline, has_end, Gap, white, line, block, Laid, nothing, last_line, cut, gap, word}
use Rattle.memory_tokens.proofs.Laws.Bytes.{both}
use Rattle.memory_text.proofs.Laws.Layout.{laid_out}
use Rattle.memory_tokens.proofs.Laws.Places.{none_ends}

-- a // comment has a newline, or ends with the text
record Line (bs : List ℕ) : Type 0 where
  body : List ℕ
  after : List ℕ
  is : bs ≡ body ++ (newline ∷ after)
  none : has_newline body ≡ false

find_newline : (bs : List ℕ) → has_newline bs ≡ true → Line bs
unfolding any_of
find_newline [] e = absurd (false≢true e)
find_newline (b ∷ bs) e = by_byte (eqb b newline) refl (find_newline bs) e
  where
    by_byte : (here : Bool) → eqb b newline ≡ here → (has_newline bs ≡ true → Line bs) → (here || has_newline bs) ≡ true → Line (b ∷ bs)
    by_byte true is next e = record { body = []; after = bs; is = ap (λ (x : ℕ). x ∷ bs) (eqb-true b newline is); none = refl }
    by_byte false is next e =
        let r = next e in
        record { body = b ∷ r.body; after = r.after; is = ap (λ (l : List ℕ). b ∷ l) r.is; none = rw is r.none }

-- a /* comment has an end, or none
data End (starred : Bool) (bs : List ℕ) : Type 0 where
  now : (after : List ℕ) → starred ≡ true → bs ≡ slash ∷ after → End starred bs
  later : (body after : List ℕ) → bs ≡ body ++ (star ∷ slash ∷ after) → has_end starred body ≡ false → End starred bs

find_end : (starred : Bool) (bs : List ℕ) → has_end starred bs ≡ true → End starred bs
unfolding has_end
find_end starred [] e = absurd (false≢true e)
find_end starred (b ∷ bs) e = by_byte (eqb b slash && starred) refl (find_end (eqb b star) bs) e
  where
    onward : (eqb b slash && starred) ≡ false → End (eqb b star) bs → End starred (b ∷ bs)
    onward not_here (now after is e) = later [] after (ap₂ (λ (x : ℕ) (l : List ℕ). x ∷ l) (eqb-true b star is) e) refl
    onward not_here (later body after e none) = later (b ∷ body) after (ap (λ (l : List ℕ). b ∷ l) e) (rw not_here none)

    by_byte : (here : Bool) → (eqb b slash && starred) ≡ here → (has_end (eqb b star) bs ≡ true → End (eqb b star) bs)
        → (here || has_end (eqb b star) bs) ≡ true → End starred (b ∷ bs)
    by_byte true is next e =
        let parts = both (eqb b slash) starred is in
        now bs parts.1 (ap (λ (x : ℕ). x ∷ bs) (eqb-true b slash parts.0))
    by_byte false is next e = onward is (next e)

-- what follows a word
record Rest (bs : List ℕ) : Type 0 where
  rest : List ℕ
  is : bs ≡ word_of bs ++ rest

find_rest : (bs : List ℕ) → Rest bs
unfolding word_of
find_rest [] = record { rest = []; is = refl }
find_rest (b ∷ bs) = choose (ends b bs) refl (find_rest bs)
  where
    choose : (over : Bool) → ends b bs ≡ over → Rest bs → Rest (b ∷ bs)
    choose true is r = record { rest = b ∷ bs; is = rw is refl }
    choose false is r = record { rest = r.rest; is = rw is (ap (λ (l : List ℕ). b ∷ l) r.is) }

word_begins : (b : ℕ) (bs : List ℕ) → ends b bs ≡ false → word_of (b ∷ bs) ≡ b ∷ word_of bs
unfolding word_of
word_begins b bs e = rw e refl

-- a slash, and the byte after it
record Second (second : ℕ) (bs : List ℕ) : Type 0 where
  tail : List ℕ
  is : bs ≡ second ∷ tail

opened : (second b : ℕ) (bs : List ℕ) → 0 < second → opens second b bs ≡ true → (b ≡ slash) × Second second bs
unfolding opens
opened second b [] some e = absurd (omega (arith, eqb-true 0 second (both (eqb b slash) (eqb 0 second) e).1))
opened second b (c ∷ cs) some e =
    let parts = both (eqb b slash) (eqb c second) e in
    (eqb-true b slash parts.0, record { tail = cs; is = ap (λ (x : ℕ). x ∷ cs) (eqb-true c second parts.1) })

record Lays (at : ℕ) (text : List ℕ) : Type 0 where
  ts : List Token
  laid : Laid at text ts

lays_as : (at : ℕ) {text other : List ℕ} → text ≡ other → Lays at other → Lays at text
lays_as at e l = subst (λ (x : List ℕ). Lays at x) (sym e) l

lays_gap : (at : ℕ) (g text : List ℕ) → Gap g → Lays (at + length g) text → Lays at (g ++ text)
lays_gap at g text is l = record { ts = l.ts; laid = gap at g text l.ts is l.laid }

module _ (n : ℕ) (next : (at : ℕ) (text : List ℕ) → length text ≤ n → Lays at text) (at b : ℕ) (bs : List ℕ) (h : length bs ≤ n) where
  line_comment : (cs : List ℕ) → length cs ≤ n → (some : Bool) → has_newline cs ≡ some → Lays at (slash ∷ slash ∷ cs)
  line_comment cs h false e = record { ts = []; laid = last_line at cs e }
  line_comment cs h true e =
      let r = find_newline cs e in
      lays_as at (ap (λ (l : List ℕ). slash ∷ slash ∷ l) (r.is ∙ sym (append_assoc r.body (newline ∷ []) r.after)))
      (lays_gap at (slash ∷ slash ∷ (r.body ++ (newline ∷ []))) r.after (line r.body r.none)
      (next _ r.after (omega (arith, h, ap length r.is, length-append r.body (newline ∷ r.after)))))

  block_comment : (cs : List ℕ) → length cs ≤ n → (some : Bool) → has_end false cs ≡ some → Lays at (slash ∷ star ∷ cs)
  block_comment cs h false e = record { ts = _; laid = cut at cs e }
  block_comment cs h true e = by_end (find_end false cs e)
    where
      by_end : End false cs → Lays at (slash ∷ star ∷ cs)
      by_end (now after is e) = absurd (false≢true is)
      by_end (later body after e none) =
          lays_as at (ap (λ (l : List ℕ). slash ∷ star ∷ l) (e ∙ sym (append_assoc body (star ∷ slash ∷ []) after)))
          (lays_gap at (slash ∷ star ∷ (body ++ (star ∷ slash ∷ []))) after (block body none)
          (next _ after (omega (arith, h, ap length e, length-append body (star ∷ slash ∷ after)))))

  a_word : ends b bs ≡ false → Lays at (b ∷ bs)
  a_word e =
      let r = find_rest bs in
      let whole : b ∷ bs ≡ (b ∷ word_of bs) ++ r.rest = ap (λ (l : List ℕ). b ∷ l) r.is in
      let l = next (at + length (b ∷ word_of bs)) r.rest (omega (arith, h, ap length r.is, length-append (word_of bs) r.rest)) in
      lays_as at whole
      record { ts = _; laid = word at b (word_of bs) r.rest l.ts (ap word_of (sym whole) ∙ word_begins b bs e) l.laid }

  by_star : (is : Bool) → opens star b bs ≡ is → is_white b ≡ false → opens slash b bs ≡ false → Lays at (b ∷ bs)
  by_star true is w o =
      let p = opened star b bs (omega arith) is in
      lays_as at (ap₂ (λ (x : ℕ) (l : List ℕ). x ∷ l) p.0 p.1.is)
      (block_comment p.1.tail (omega (arith, h, ap length p.1.is)) (has_end false p.1.tail) refl)
  by_star false is w o = a_word (none_ends b bs w o is)

  by_slash : (is : Bool) → opens slash b bs ≡ is → is_white b ≡ false → Lays at (b ∷ bs)
  by_slash true is w =
      let p = opened slash b bs (omega arith) is in
      lays_as at (ap₂ (λ (x : ℕ) (l : List ℕ). x ∷ l) p.0 p.1.is)
      (line_comment p.1.tail (omega (arith, h, ap length p.1.is)) (has_newline p.1.tail) refl)
  by_slash false is w = by_star (opens star b bs) refl w is

  by_white : (is : Bool) → is_white b ≡ is → Lays at (b ∷ bs)
  by_white true is = lays_gap at (b ∷ []) bs (white b is) (next _ bs (omega (arith, h)))
  by_white false is = by_slash (opens slash b bs) refl is

lays_some : (n : ℕ) → ((at : ℕ) (text : List ℕ) → length text ≤ n → Lays at text) → (at : ℕ) (text : List ℕ) → length text ≤ suc n → Lays at text
lays_some n next at [] h = record { ts = []; laid = nothing at }
lays_some n next at (b ∷ bs) h = by_white n next at b bs (omega (arith, h)) (is_white b) refl

lays_none : (at : ℕ) (text : List ℕ) → length text ≤ 0 → Lays at text
lays_none at [] h = record { ts = []; laid = nothing at }
lays_none at (b ∷ bs) h = absurd (omega arith)

lays : (n : ℕ) → (at : ℕ) (text : List ℕ) → length text ≤ n → Lays at text
lays zero = lays_none
lays (suc n) = lays_some n (lays n)

-- every text is laid out, and its tokens are those of its layout
pub every_text_laid : (at : ℕ) (text : List ℕ) → Laid at text (tokens_in (outside false) at text)
every_text_laid at text =
    let l = lays (length text) at text (omega arith) in
    subst (λ (ts : List Token). Laid at text ts) (sym (laid_out at text l.ts l.laid)) l.laid
