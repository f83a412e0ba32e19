-- One more line of a record text.
use Rattle.std.proofs.Common.{◌≡◌, ◌+◌, ◌-◌, ◌<◌, ◌≤◌, ℕ, List, [], ◌∷◌, ◌++◌, None, Result, Ok, Err, zero, suc, fold, length, take, drop, get_or, ap, sym, subst, ◌∙◌, refl, arith, length-drop, add-zero, inl, inr}
use Rattle.std.proofs.lemmas.Bool.{cases_lt}
use Rattle.std.proofs.lemmas.List.{get_or-drop, drop-drop, take_more, take_all}
use Rattle.std.proofs.lemmas.List.Sums.{fold-append}
use borrow.Author.Count.{below_more}
use Rattle.std.specs.List.{position_or_len, after_first}
use Rattle.std.specs.Str.Lines.{lines}
use Rattle.gl_text.specs.Text.{is_line_feed}
use Rattle.gl_text.proofs.TextLemmas.{lines_first, lines_last}
use Rattle.gl_journal.specs.declared.reader.Standing.{Standing}
use Rattle.gl_journal.specs.declared.refusal.Refusal.{Refusal}
use Rattle.gl_journal.specs.declared.refusal.Refusal.TheVariants.{Kind, Memory}
use Rattle.gl_journal.specs.Meaning.{line_read, said, or_same, fault_of, fault_at, AreClean, IsFirst, FaultsFirst, refused_at, nothing}
use Rattle.gl_journal.specs.Refused.{Refused}

-- ## A text has no more lines than bytes

-- a text of at most k bytes has no more lines than bytes
lines_few_by : (k : ℕ) (bs : List ℕ) → length bs ≤ k → length (lines bs) ≤ length bs
lines_few_by k [] le = let none : lines [] ≡ [] = refl in omega (arith, ap length none)
lines_few_by zero (b ∷ bs) le = absurd (omega arith)
lines_few_by (suc k) (b ∷ bs) le =
    let all : List ℕ = b ∷ bs in
    elim (cases_lt (position_or_len is_line_feed (b ∷ bs)) (length (b ∷ bs))) [
      | inl h ↦
          let rest : List ℕ = after_first is_line_feed (b ∷ bs) in
          let left : length rest ≡ length (b ∷ bs) - (position_or_len is_line_feed (b ∷ bs) + 1) =
          length-drop (position_or_len is_line_feed (b ∷ bs) + 1) (b ∷ bs) in
          let more : length (lines rest) ≤ length rest = lines_few_by k rest (omega arith) in
          omega (arith, ap length (lines_first (b ∷ bs) h), more, left, h)
      | inr h ↦ omega (arith, ap length (lines_last (b ∷ bs) (omega arith) h))
    ]

-- a text has no more lines than bytes
pub lines_few : (bs : List ℕ) → length (lines bs) ≤ length bs
lines_few bs = lines_few_by (length bs) bs (omega arith)

-- ## What a reader has behind the first n lines

pub record Reads (text : List ℕ) (n : ℕ) (left : List (List ℕ)) (s : Standing) : Type 0 where
  pub rest : left ≡ drop n (lines text)
  pub says : s ≡ said (take n (lines text))
  pub clean : (i : ℕ) → i < n → fault_at (lines text) i ≡ None

-- the line at place n, where it is the first of what is left
record IsNext (ls : List (List ℕ)) (n : ℕ) (line : List ℕ) (rest : List (List ℕ)) : Type 0 where
  there : n < length ls
  here : get_or ls n [] ≡ line
  after : drop (n + 1) ls ≡ rest
  taken : take (n + 1) ls ≡ take n ls ++ line ∷ []

-- the first of the lines that are left from n on stands at n
next_of : (ls : List (List ℕ)) (n : ℕ) (line : List ℕ) (rest : List (List ℕ)) → drop n ls ≡ line ∷ rest → IsNext ls n line rest
next_of ls n line rest e =
    let there : n < length ls = omega (arith, length-drop n ls, ap length e) in
    let here : get_or ls n [] ≡ line = ap (λ k. get_or ls k []) (sym (add-zero n)) ∙ sym (get_or-drop n ls 0 [])
    ∙ ap (λ l. get_or l 0 []) e in
    record {
      there = there;
      here = here;
      after = sym (drop-drop 1 n ls) ∙ ap (drop 1) e;
      taken = take_more ls n [] there ∙ ap (λ x. take n ls ++ x ∷ []) here;
    }

-- the fault of the next line
fault_here : (text line : List ℕ) (n : ℕ) (rest : List (List ℕ)) (s : Standing) (r : Result Standing ℕ) → Reads text n (line ∷ rest) s
    → line_read s line ≡ r
    → fault_at (lines text) n ≡ fault_of r
fault_here text line n rest s r reads is =
    let next = next_of (lines text) n line rest (sym reads.rest) in
    ap (λ t. fault_of (line_read t (get_or (lines text) n []))) (sym reads.says) ∙ ap (λ l. fault_of (line_read s l)) next.here
    ∙ ap fault_of is

-- a line without a fault is read: what it says is said, and the rest is left
pub read_on : (text line : List ℕ) (n : ℕ) (rest : List (List ℕ)) (s t : Standing) → Reads text n (line ∷ rest) s → line_read s line ≡ Ok t
    → Reads text (n + 1) rest t
read_on text line n rest s t reads is =
    let next = next_of (lines text) n line rest (sym reads.rest) in
    let heard : said (take (n + 1) (lines text)) ≡ t =
    ap said next.taken ∙ fold-append (λ u l. or_same u (line_read u l)) nothing (take n (lines text)) (line ∷ [])
    ∙ ap (λ u. or_same u (line_read u line)) (sym reads.says) ∙ ap (or_same s) is in
    record {
      rest = sym next.after;
      says = sym heard;
      clean = below_more (λ i. fault_at (lines text) i ≡ None) n reads.clean (fault_here text line n rest s (Ok t) reads is);
    }

-- the first line that has a fault
pub read_fault : (text line : List ℕ) (n kind : ℕ) (rest : List (List ℕ)) (s : Standing) → Reads text n (line ∷ rest) s → line_read s line
    ≡ Err kind
    → IsFirst (lines text) n kind
read_fault text line n kind rest s reads is = record {
  there = (next_of (lines text) n line rest (sym reads.rest)).there;
  fault = fault_here text line n rest s (Err kind) reads is;
  before = reads.clean;
}

-- the end of the text
pub read_all : (text : List ℕ) (n : ℕ) (s : Standing) → Reads text n [] s → (s ≡ said (lines text)) × AreClean (lines text)
read_all text n s reads =
    let past : length (lines text) ≤ n = omega (arith, length-drop n (lines text), ap length reads.rest) in
    (reads.says ∙ ap said (take_all n (lines text) past), λ i below. reads.clean i (omega arith))

-- the same where the line is numbered m, and so many were given
pub numbered_on : (text line : List ℕ) (n m given : ℕ) (rest : List (List ℕ)) (s t : Standing) → m ≡ n + 1 → given ≡ m
    → Reads text n (line ∷ rest) s
    → line_read s line ≡ Ok t → Reads text given rest t
numbered_on text line n m given rest s t next same reads is =
    subst (λ k. Reads text k rest t) (sym (same ∙ next)) (read_on text line n rest s t reads is)

-- a line that is refused, after lines without a fault, is the first with one
pub numbered_fault : (text line : List ℕ) (first n m : ℕ) (rest : List (List ℕ)) (s : Standing) (refusal : Refusal) → m ≡ n + 1
    → Reads text n (line ∷ rest) s
    → Refused (line_read s line) refusal → FaultsFirst (lines text) first (refused_at (first + (m - 1)) refusal)
numbered_fault text line first n m rest s (Kind kind) next reads is =
    (n, omega arith, read_fault text line n kind rest s reads is)
numbered_fault text line first n m rest s (Memory e) next reads is = tt

-- a line that is still to be read is one of the text's bytes
pub number_few : (text line : List ℕ) (n m : ℕ) (rest : List (List ℕ)) (s : Standing) → m ≡ n + 1 → Reads text n (line ∷ rest) s
    → m ≤ length text
number_few text line n m rest s next reads =
    let there = (next_of (lines text) n line rest (sym reads.rest)).there in
    omega (arith, there, lines_few text)
