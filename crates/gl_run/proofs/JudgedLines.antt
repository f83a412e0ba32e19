-- The lines of a trace with what was said of them: what is right by the race law suits its line.
use Rattle.std.proofs.Common.{◌≡◌, ◌+◌, ℕ, zero, suc, pos, List, [], ◌∷◌, ◌++◌, Some, true, false, refl, sym, subst, ap, ◌∙◌, length, map, take, arith, inl, inr, Contains}
use Rattle.std.specs.Prelude.{◌⊎◌, option_map}
use Rattle.std.specs.List.{slice_get, AllByRecursion}
use Rattle.std.proofs.lemmas.List.{take_more}
use Rattle.std.proofs.lemmas.Option.{slice_get-map, slice_get_within, get_or_from_slice_get}
use Rattle.gl_model.proofs.RisingLists.{All-with_one}
use Rattle.gl_model.specs.declared.row.Item.{Item}
use Rattle.gl_model.specs.declared.row.Item.TheVariants.{Act as Acts, Access, Commit as Commits}
use Rattle.gl_model.specs.declared.row.Judged.{Judged}
use Rattle.gl_model.specs.declared.row.Judged.TheVariants.{NoAccess, Performed, Raised}
use Rattle.gl_model.specs.declared.tx.Number.{Number}
use Rattle.gl_model.specs.declared.tx.Why.TheVariants.{Raised as WasRaised}
use Rattle.gl_model.specs.Entries.{Entry, Plain, Abort}
use Rattle.gl_model.specs.HappensBefore.{IsRacy}
use Rattle.gl_model.specs.Records.{Lists, NumberOn}
use Rattle.gl_model.specs.Rising.{with_one, with_all}
use Rattle.gl_model.specs.Trace.{Line, Tracing, AreVerdicts, IsJudgedRightly, after_lines, before_lines, last_place, line_tx, look_count, with_entry, with_item}
use Rattle.gl_draws.proofs.Sets.{contains_map}
use Rattle.gl_lines.proofs.TraceNext.{end_place, last_is, there}
use Rattle.gl_trace.specs.TraceLine.{TraceLine}
use Rattle.gl_trace.specs.Judging.{Suits, AreJudged, judged_lines, line_of}

-- the judged line at a place is the line there and what was said there
judged_at : (ls : List TraceLine) (js : List Judged) (k : ℕ) (l : TraceLine) (j : Judged) → slice_get ls k ≡ Some l → slice_get js k
    ≡ Some j
    → slice_get (judged_lines ls js) k ≡ Some (l, j)
judged_at [] js k l j here there = cc
judged_at (x ∷ xs) [] k l j here there = cc
judged_at (x ∷ xs) (y ∷ ys) zero l j here there = cc
judged_at (x ∷ xs) (y ∷ ys) (suc k) l j here there = judged_at xs ys k l j here there

-- what holds of both lists holds of all
all_of_both : (P : ℕ → Type 0) (xs ys : List ℕ) → AllByRecursion P xs → AllByRecursion P ys → AllByRecursion P (with_all xs ys)
all_of_both P [] ys first second = second
all_of_both P (x ∷ xs) ys first second = all_of_both P xs (with_one x ys) first.1 (All-with_one P x ys first.0 second)

-- what is true of each number in a list is true of all, along the list
recursive : (P : ℕ → Type 0) (xs : List ℕ) → ((v : ℕ) → Contains xs v → P v) → AllByRecursion P xs
recursive P [] h = tt
recursive P (x ∷ xs) h = (h x (0, omega arith, refl), recursive P xs (λ v c. h v (suc c.0, omega (arith, c.1), c.2)))

-- what is true of all of a list, along it, is true of each in it
by_place : (P : ℕ → Type 0) (xs : List ℕ) (v : ℕ) → AllByRecursion P xs → Contains xs v → P v
by_place P [] v all c = absurd (let below = c.1 in omega arith)
by_place P (x ∷ xs) v all (zero, below, here) = rw (sym here) all.0
by_place P (x ∷ xs) v all (suc k, below, here) = by_place P xs v all.1 (k, omega (arith, below), here)

-- what is in the variables of a commit is read or written by it
in_either : (reads writes : List ℕ) (v : ℕ) → Contains (with_all writes reads) v → Contains reads v ⊎ Contains writes v
in_either reads writes v c =
    by_place (λ z. Contains reads z ⊎ Contains writes z) (with_all writes reads) v
    (all_of_both (λ z. Contains reads z ⊎ Contains writes z) writes reads (recursive _ writes (λ z h. inr h))
    (recursive _ reads (λ z h. inl h))) c

-- at one place of a list stands one entry
entry_same : (es : List Entry) (i : ℕ) (e f : Entry) → slice_get es i ≡ Some e → slice_get es i ≡ Some f → e ≡ f
entry_same es i e f a b = let s : Some e ≡ Some f = sym a ∙ b in cc

-- the last entry of a list is racy on its own variables alone
numbered : (R : Lists) (t : ℕ) (e : Entry) (x : ℕ) → IsRacy (with_entry R t e) (last_place (with_entry R t e) t) x → (k : ℕ)
    × NumberOn e x k
numbered R t e x racy =
    let here : IsRacy (with_entry R t e) (end_place R t) x = subst (λ c. IsRacy (with_entry R t e) c x) (last_is R t e) racy in
    let same : here.before.second ≡ e = entry_same (with_entry R t e t) (length (R t)) here.before.second e here.before.here (there R t e)
    in
    (here.before.later, subst (λ f. NumberOn f x here.before.later) same here.before.also_numbered)

-- a number of a commit's line is of a variable that it reads or writes
of_commit : (reads writes : List ℕ) (numbers : ℕ → ℕ) (x k : ℕ)
    → Contains (line_tx reads writes numbers).numbers (record { var = x; nth = k }) → Contains (with_all writes reads) x
of_commit reads writes numbers x k c =
    let m = contains_map (λ y. record { var = y; nth = numbers y + look_count reads y }) (with_all writes reads)
    (record { var = x; nth = k }) c in
    let same : m.0 ≡ x = ap (λ (n : Number). n.var) m.2 in
    subst (Contains (with_all writes reads)) same m.1

-- what is rightly judged of an item suits it
right_suits : (s : Tracing) (t : ℕ) (item : Item) (j : Judged)
    → IsJudgedRightly (with_item t item j s).lists (last_place (with_item t item j s).lists t) item j → Suits item j
right_suits s t (Acts act) NoAccess r = tt
right_suits s t (Acts act) Performed r = cc
right_suits s t (Acts act) (Raised var) r = cc
right_suits s t (Access x write) NoAccess r = r
right_suits s t (Access x write) Performed r = tt
right_suits s t (Access x write) (Raised var) r = let n = numbered s.lists t (Plain x (s.numbers x) false write (pos 0) true) var r.0
    in sym n.1.0
right_suits s t (Commits reads writes) NoAccess r = r
right_suits s t (Commits reads writes) Performed r = tt
right_suits s t (Commits reads writes) (Raised var) r =
    let n = numbered s.lists t (Abort (line_tx reads writes s.numbers) (WasRaised var)) var r.0
    in in_either reads writes var (of_commit reads writes s.numbers var n.0 n.1)

-- the lines with one more, told, are the others told and then that one
pub after_push : (lines : List Line) (l : Line) (s : Tracing) → after_lines (lines ++ l ∷ []) s
    ≡ with_item l.thread l.item l.judged (after_lines lines s)
after_push [] l s = refl
after_push (x ∷ xs) l s = after_push xs l (with_item x.thread x.item x.judged s)

-- each line of a trace whose verdicts are right suits its verdict
line_suits : (lines : List Line) → AreVerdicts lines → (k : ℕ) (l : Line) → slice_get lines k ≡ Some l → Suits l.item l.judged
line_suits lines right k l at =
    let upto : take (k + 1) lines ≡ take k lines ++ l ∷ [] =
    take_more lines k l (slice_get_within lines k l at) ∙ ap (λ x. take k lines ++ x ∷ []) (get_or_from_slice_get lines k l l at) in
    let same : after_lines (take (k + 1) lines) before_lines
    ≡ with_item l.thread l.item l.judged (after_lines (take k lines) before_lines) =
    ap (λ ls. after_lines ls before_lines) upto ∙ after_push (take k lines) l before_lines in
    right_suits (after_lines (take k lines) before_lines) l.thread l.item l.judged
    (subst (λ (z : Tracing). IsJudgedRightly z.lists (last_place z.lists l.thread) l.item l.judged) same (right k l at))

-- lines with what was said of them are judged, if what was said is right
pub verdicts_judged : (ls : List TraceLine) (js : List Judged) → length js ≡ length ls → AreVerdicts (map line_of (judged_lines ls js))
    → AreJudged ls js
verdicts_judged ls js count right = record {
  count = count;
  suits = λ k l j here there.
      let at : slice_get (map line_of (judged_lines ls js)) k ≡ Some (line_of (l, j)) =
      slice_get-map line_of (judged_lines ls js) k ∙ ap (option_map line_of) (judged_at ls js k l j here there) in
      line_suits _ right k (line_of (l, j)) at;
}
