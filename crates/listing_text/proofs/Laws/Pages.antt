-- Each line that is put makes a page's part of the text one line longer, and parts that follow each other are the text. Assumes nothing.
use Prim.Native.Nat.{ℕ, zero, suc, ◌+◌, ◌-◌, ◌^◌, ◌≤◌, ◌<◌}
use mathlib.Core.Path.{◌≡◌, refl, sym, ap, ◌∙◌}
use mathlib.Core.List.{List, [], ◌++◌, append_assoc, append-nil}
use native.Mathlib.Nat.{suc-add, zero-add, add-zero}
use native.Mathlib.Omega.{arith}
use borrow.Author.Tests.{lt-ltb, le-ltb}
use lib.ListN.{length, take, get_or}
use Rattle.units.specs.declared.shapes.Shape.{Shape}
use Rattle.entry.specs.Inner.Good.{GoodPlace, GoodEntry}
use Rattle.entry.specs.Errors.{j_of}
use Rattle.entry.proofs.Laws.Good.{good_field}
use Rattle.entry.proofs.Laws.Table.{rule_field_narrow}
use Rattle.survey.specs.Finding.{Figures}
use Rattle.listing_text.specs.Text.{first_line, entry_line, last_line, refused_line}
use Rattle.listing_text.specs.Inner.Pages.{Put, line_most, Listed, IsPart, Paged}
use Rattle.entry.specs.Rule.{rule_field}
use Rattle.listing_text.specs.Listing.{Lines, line_of, lines_from, part, best_figures, refused_text, text_for, listing}

-- no lines
pub lines_none : (line : ℕ → List ℕ) (t : ℕ) → lines_from line t (t - t) ≡ []
unfolding lines_from
lines_none line t = let none : t - t ≡ 0 = omega arith in rw none refl

-- lines, and after them others
pub lines_join : (line : ℕ → List ℕ) (t a b : ℕ) → lines_from line t (a + b) ≡ lines_from line t a ++ lines_from line (t + a) b
unfolding lines_from
lines_join line t zero b = rw (zero-add b, add-zero t) refl
lines_join line t (suc a) b =
    ap (λ (x : ℕ). lines_from line t x) (suc-add a b)
    ∙ ap (λ (r : List ℕ). line t ++ r) (lines_join line (suc t) a b)
    ∙ sym (append_assoc (line t) (lines_from line (suc t) a) (lines_from line (suc t + a) b))
    ∙ ap (λ (x : ℕ). line t ++ lines_from line (suc t) a ++ lines_from line x b) (omega arith)

-- the lines of a part, and those of the part after it
pub parts_join : (text : Lines) (from next to : ℕ) → from ≤ next → next ≤ to → part text from to ≡ part text from next ++ part text next to
parts_join text from next to h i =
    let split : to - from ≡ (next - from) + (to - next) = omega arith in
    let seam : from + (next - from) ≡ next = omega arith in
    rw (split, lines_join text.line from (next - from) (to - next), seam) refl

-- one more line
pub lines_more : (line : ℕ → List ℕ) (from next : ℕ) → from ≤ next
    → lines_from line from (next + 1 - from) ≡ lines_from line from (next - from) ++ line next
unfolding lines_from
lines_more line from next h =
    let one : next + 1 - next ≡ 1 = omega arith in
    let text : Lines = record { count = next + 1; line = line } in
    parts_join text from next (next + 1) h (omega arith) ∙ rw one (ap (λ (r : List ℕ). part text from next ++ r) (append-nil (line next)))

pub line_of_first : (s : Shape) → line_of s 0 ≡ first_line s
unfolding line_of
line_of_first s = refl

pub line_of_entry : (s : Shape) (t : ℕ) → 0 < t → t - 1 < 2 ^ s.k → line_of s t ≡ entry_line s (t - 1) (rule_field s (t - 1))
unfolding line_of
line_of_entry s zero later h = absurd (omega arith)
line_of_entry s (suc n) later h =
    let n_is : suc n - 1 ≡ n = omega arith in rw (n_is, lt-ltb n (2 ^ s.k) (omega arith)) refl

pub line_of_last : (s : Shape) (t : ℕ) → 0 < t → 2 ^ s.k ≤ t - 1 → line_of s t ≡ last_line (best_figures s)
unfolding line_of
line_of_last s zero later h = absurd (omega arith)
line_of_last s (suc n) later h = rw (le-ltb n (2 ^ s.k) (omega arith)) refl

-- what is listed is an entry of the table
pub listed_entry : (s : Shape) (n : ℕ) {cells : List ℕ} {w : Figures} → Listed s cells w → n < 2 ^ s.k → GoodEntry s n (j_of s (get_or cells n 0))
listed_entry s n listed h =
    let place : GoodPlace s n = record { widths = listed.good.widths; interval = h } in
    rw (listed.fields n h) (good_field (rule_field s n) place (rule_field_narrow s h))

-- a page that holds the lines from `from` up to `next` in its bytes up to `end`, and has room for the next one
pub record Ready (text : Lines) (from : ℕ) (page : List ℕ) (next end : ℕ) : Type 0 where
  pub onward : from ≤ next
  pub more : next < text.count
  pub room : end + line_most ≤ length page
  pub text_is : take end page ≡ part text from next

pub ready_first : (text : Lines) (from : ℕ) (page : List ℕ) → from < text.count → line_most ≤ length page → Ready text from page from 0
ready_first text from page h i =
    record { onward = omega arith; more = h; room = omega arith; text_is = sym (lines_none text.line from) }

pub ready_again : {text : Lines} {from next end : ℕ} {page : List ℕ} → Paged text from page next end → next < text.count
    → end + line_most ≤ length page
    → Ready text from page next end
ready_again p h i =
    record { onward = omega (arith, p.lines.some); more = h; room = i; text_is = p.lines.bytes_are }

-- where the next line is put, the page holds one more
pub page_more : (text : Lines) (from : ℕ) {next at end : ℕ} {before after : List ℕ} → Ready text from before next at
    → Put (text.line next) line_most before at after end
    → Paged text from after (next + 1) end
page_more text from {next} r p =
    record {
      inside = omega (arith, r.room, p.size, p.room);
      lines =
          record {
            some = omega (arith, r.onward);
            within = omega (arith, r.more);
            bytes_are = p.text_is ∙ ap (λ (x : List ℕ). x ++ text.line next) r.text_is ∙ sym (lines_more text.line from next r.onward);
          };
    }

-- which line is put, and what an entry's needs
pub ruleset put_lines = (line_of_first, line_of_entry, line_of_last, listed_entry)

-- how the lines of a page begin and grow
pub ruleset filled_lines = (lines_none, lines_more)

-- the same bytes, and the same text
pub part_of : {text other : Lines} {from next : ℕ} {bytes same : List ℕ} → IsPart text from next bytes → text ≡ other → same ≡ bytes
    → IsPart other from next same
part_of p e b = rw (← e, b) p

-- a refusal's line is its whole text
pub refused_part : (number : ℕ) {most end : ℕ} {before after : List ℕ} → Put (refused_line number) most before 0 after end
    → IsPart (refused_text number) 0 1 (take end after)
unfolding lines_from
refused_part number p =
    record { some = omega arith; within = omega arith; bytes_are = p.text_is ∙ sym (append-nil (refused_line number)) }

-- parts handed over one after the other, from one line up to another, and all their bytes
pub data Pages (text : Lines) : ℕ → ℕ → List ℕ → Type 0 where
  none : {t : ℕ} → Pages text t t []
  more : {from next to : ℕ} {bytes rest : List ℕ} → IsPart text from next bytes → Pages text next to rest → Pages text from to (bytes ++ rest)

onward : {text : Lines} {from to : ℕ} {bytes : List ℕ} → Pages text from to bytes → from ≤ to
onward none = omega arith
onward (more p ps) = omega (arith, p.some, onward ps)

lines_are : (text : Lines) (from to : ℕ) {bytes : List ℕ} → Pages text from to bytes → bytes ≡ part text from to
lines_are text from to none = sym (lines_none text.line from)
lines_are text from to (more {next = next} p ps) =
    rw (p.bytes_are, lines_are text next to ps) (sym (parts_join text from next to (omega (arith, p.some)) (onward ps)))

-- what is handed over for an input, part by part up to its last line, is the whole text for it, in order
pub pages_are_the_text : (input : List ℕ) {bytes : List ℕ} → Pages (text_for input) 0 (text_for input).count bytes → bytes ≡ listing input
pages_are_the_text input ps = lines_are (text_for input) 0 (text_for input).count ps
