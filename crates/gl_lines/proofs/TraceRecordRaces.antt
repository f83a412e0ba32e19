-- Where the verdicts of a trace are right, its record obeys the law of races.
use Rattle.std.proofs.Common.{◌≡◌, ℕ, zero, suc, ◌+◌, ◌<◌, ◌≤◌, ◌==◌, List, [], ◌∷◌, ◌++◌, length, take, refl, ap, subst, sym, ◌∙◌, inl, inr, arith, Some, true, false, Bool, eq-eqb, ne_eqb, add-one}
use Rattle.std.specs.Prelude.{if◌then◌else◌, pos, slice_get}
use Rattle.std.proofs.lemmas.List.{take_all}
use Rattle.std.proofs.lemmas.Option.{slice_get_cases}
use native.Mathlib.Decide.{ℕ_discrete}
use Rattle.gl_model.specs.declared.event.Act.{Act}
use Rattle.gl_model.specs.declared.event.Act.TheVariants.{Begin, End, Acq, Rel, VRead, VWrite, Fork, Join, Alloc, Print, Input, Fail}
use Rattle.gl_model.specs.declared.limits.TheConstants.{THREADS}
use Rattle.gl_model.specs.declared.record.Ending.TheVariants.{Halt}
use Rattle.gl_model.specs.declared.row.Item.{Item}
use Rattle.gl_model.specs.declared.row.Item.TheVariants.{Act as Acts, Access as AccessTo, Commit as CommitsOn}
use Rattle.gl_model.specs.declared.row.Judged.{Judged}
use Rattle.gl_model.specs.declared.row.Judged.TheVariants.{NoAccess, Performed, Raised}
use Rattle.gl_model.specs.declared.tx.Why.TheVariants.{Raised as WasRaised}
use Rattle.gl_model.specs.Entries.{Entry, Sync, Commit, Plain, Abort, Over}
use Rattle.gl_model.specs.HappensBefore.{IsRacy, IsRaisedRightly, Races}
use Rattle.gl_model.specs.Records.{Lists, Place, NumberOn}
use Rattle.gl_model.specs.Trace.{Line, Tracing, with_entry, with_act, with_end, with_line, with_plain, with_commit, with_item, line_tx, own_count, with_numbers, before_lines, after_lines, last_place, IsJudgedRightly, AreVerdicts, is_empty, with_over, with_ending, with_endings}
use Rattle.gl_laws.proofs.Bridge.{same_entry}
use Rattle.gl_lines.specs.TraceRecords.{RecordRaces}
use Rattle.gl_lines.proofs.LineSets.{number_is}
use Rattle.gl_lines.proofs.RacyGrowth.{IsBelow, new_place, below_push, races_push}
use Rattle.gl_lines.proofs.TraceNext.{end_place, last_is}
use Rattle.gl_lines.proofs.TraceSound.{take_one}

-- the record so far obeys the law of races, and what comes next is above all in it
record IsSoFar (s : Tracing) : Type 0 where
  below : IsBelow s.lists s.next s.numbers
  races : Races s.lists

-- with an event the record so far obeys the law of races, and what comes next is above all in it
act_so_far : (t : ℕ) (act : Act) (s : Tracing) → IsSoFar s → IsSoFar (with_act t act s)
act_so_far t act s k = record {
  below = below_push s.lists s.next s.numbers k.below t (Sync s.next act (pos 0)) (s.next + 1) s.numbers (omega arith) (λ x. omega arith)
      (λ p e. let is : s.next ≡ p = cc in omega arith) (λ x m n. absurd n);
  races = races_push s.lists s.next s.numbers k.below t (Sync s.next act (pos 0)) (λ p e. let is : s.next ≡ p = cc in omega arith)
      (λ x m n. absurd n) k.races tt;
}

-- with a thread's End the record so far obeys the race law still
end_so_far : (t : ℕ) (s : Tracing) → IsSoFar s → IsSoFar (with_end t s)
end_so_far t s k = let m = act_so_far t End s k in record { below = m.below; races = m.races }

-- with the events of a line that is no access it does too
line_so_far : (t : ℕ) (act : Act) (s : Tracing) → IsSoFar s → IsSoFar (with_line t act s)
line_so_far t (Begin f) s k = act_so_far t (Begin f) s k
line_so_far t End s k = act_so_far t End s k
line_so_far t (Acq o) s k = act_so_far t (Acq o) s k
line_so_far t (Rel o) s k = act_so_far t (Rel o) s k
line_so_far t (VRead v) s k = act_so_far t (VRead v) s k
line_so_far t (VWrite v) s k = act_so_far t (VWrite v) s k
line_so_far t (Fork u f) s k = act_so_far u (Begin f) (with_act t (Fork u f) s) (act_so_far t (Fork u f) s k)
line_so_far t (Join u) s k = here (s.ended u)
  where
    here : (b : Bool) → IsSoFar (if b then with_act t (Join u) s else with_act t (Join u) (with_end u s))
    here true = act_so_far t (Join u) s k
    here false = act_so_far t (Join u) (with_end u s) (end_so_far u s k)
line_so_far t (Alloc c) s k = act_so_far t (Alloc c) s k
line_so_far t Print s k = act_so_far t Print s k
line_so_far t Input s k = act_so_far t Input s k
line_so_far t (Fail c) s k = act_so_far t (Fail c) s k

-- a plain access that was judged rightly
module _ (t x : ℕ) (write : Bool) (s : Tracing) (k : IsSoFar s) where
  abbrev e : Bool → Entry
  e raised = Plain x (s.numbers x) false write (pos 0) raised

  -- behind the access the next number of each variable is no lower than before
  more : (y : ℕ) → s.numbers y ≤ (if y == x then s.numbers x + 1 else s.numbers y)
  more y = elim (ℕ_discrete y x) [
    | yes same ↦ (let b : (y == x) ≡ true = eq-eqb y x same in let n : s.numbers y ≡ s.numbers x = ap s.numbers same in rw b (omega arith))
    | no other ↦ (let b : (y == x) ≡ false = ne_eqb y x other in rw b (omega arith))
  ]

  -- a number of the access's entry is below the variable's next number behind it
  own : (raised : Bool) (y m : ℕ) → NumberOn (e raised) y m → m < (if y == x then s.numbers x + 1 else s.numbers y)
  own raised y m n = let b : (y == x) ≡ true = eq-eqb y x (sym n.0) in let i : s.numbers x ≡ m = n.1 in rw b (omega arith)

  -- with a plain access that is raised exactly where it is racy, the record so far obeys the law of races, and what comes next is above all
  -- in it
  plain_so_far : (raised : Bool) → IsRaisedRightly (with_entry s.lists t (e raised)) (end_place s.lists t) (e raised)
      → IsSoFar (with_plain t x write raised s)
  plain_so_far raised right = record {
    below = below_push s.lists s.next s.numbers k.below t (e raised) s.next (λ y. if y == x then s.numbers x + 1 else s.numbers y)
        (omega arith) more (λ p z. absurd (cc)) (own raised);
    races = races_push s.lists s.next s.numbers k.below t (e raised) (λ p z. absurd (cc)) (λ y m n. let i : s.numbers x ≡ m = n.1
        in let v : s.numbers x ≡ s.numbers y = ap s.numbers n.0 in omega arith) k.races right;
  }

  -- the access is racy on no other variable than its own
  only : (raised : Bool) (y : ℕ) → IsRacy (with_entry s.lists t (e raised)) (end_place s.lists t) y → x ≡ y
  only raised y racy =
      let same = same_entry (with_entry s.lists t (e raised)) (end_place s.lists t) racy.before.second (e raised) racy.before.here
      (new_place s.lists s.next s.numbers k.below t (e raised)) in
      (subst (λ f. NumberOn f y racy.before.later) same racy.before.also_numbered).0

-- a commit that was judged rightly
module _ (t : ℕ) (reads writes : List ℕ) (s : Tracing) (k : IsSoFar s) where
  abbrev one_or_none : Bool → Bool → ℕ
  one_or_none a b = if a then 1 else if b then 1 else 0

  -- where one of two tests holds, one_or_none counts 1
  counted : (y : ℕ) (a b : Bool) → (if a then true else b) ≡ true → one_or_none a b ≡ 1
  counted y true b i = refl
  counted y false true i = refl
  counted y false false i = absurd (cc)

  -- where an entry has no other numbers than the commit line's, they are at or above the next numbers before the line and below those
  -- behind it
  inside : (f : Entry) → ((y m : ℕ) → NumberOn f y m
      → Rattle.std.specs.Prelude.Contains (line_tx reads writes s.numbers).numbers (record { var = y; nth = m })) → (y m : ℕ)
      → NumberOn f y m → (s.numbers y ≤ m) × (m < with_numbers reads writes s.numbers y)
  inside f of y m n =
      let i = number_is reads writes s.numbers y m (of y m n) in
      let c : own_count reads writes y ≡ 1 = counted y (Rattle.gl_model.specs.Trace.is_in y reads)
      (Rattle.gl_model.specs.Trace.is_in y writes) i.0 in
      let at = i.1 in (omega arith, omega arith)

  -- behind the commit line the next number of each variable is no lower than before
  grown : (y : ℕ) → s.numbers y ≤ with_numbers reads writes s.numbers y
  grown y = omega arith

  abbrev f : Entry
  f = Commit s.next (line_tx reads writes s.numbers)

  -- with a performed commit that is racy on no variable, the record so far obeys the law of races, and what comes next is above all in it
  commit_so_far : ((y : ℕ) → IsRacy (with_entry s.lists t f) (end_place s.lists t) y → ⊥) → IsSoFar (with_commit t reads writes Performed s)
  commit_so_far right = record {
    below = below_push s.lists s.next s.numbers k.below t f (s.next + 1) (with_numbers reads writes s.numbers) (omega arith) grown
        (λ p z. let is : s.next ≡ p = cc in omega arith) (λ y m n. (inside f (λ y m n. n) y m n).1);
    races = races_push s.lists s.next s.numbers k.below t f (λ p z. let is : s.next ≡ p = cc in omega arith)
        (λ y m n. (inside f (λ y m n. n) y m n).0) k.races right;
  }

  abbrev g : ℕ → Entry
  g var = Abort (line_tx reads writes s.numbers) (WasRaised var)

  -- so it is with a refused commit that is racy on the variable that it names and on none below it
  refused_so_far : (var : ℕ) → IsRaisedRightly (with_entry s.lists t (g var)) (end_place s.lists t) (g var)
      → IsSoFar (with_commit t reads writes (Raised var) s)
  refused_so_far var right = record {
    below = below_push s.lists s.next s.numbers k.below t (g var) s.next (with_numbers reads writes s.numbers) (omega arith) grown
        (λ p z. absurd (cc)) (λ y m n. (inside (g var) (λ y m n. n) y m n).1);
    races = races_push s.lists s.next s.numbers k.below t (g var) (λ p z. absurd (cc)) (λ y m n. (inside (g var) (λ y m n. n) y m n).0)
        k.races right;
  }

-- what holds of the last place of the list with one more entry holds of the place where the list before ended
moved : (P : Place → Type 0) (R : Lists) (t : ℕ) (e : Entry) → P (last_place (with_entry R t e) t) → P (end_place R t)
moved P R t e p = subst P (last_is R t e) p

-- with a line that is judged rightly it does too
item_so_far : (t : ℕ) (item : Item) (judged : Judged) (s : Tracing) → IsSoFar s
    → IsJudgedRightly (with_item t item judged s).lists (last_place (with_item t item judged s).lists t) item judged
    → IsSoFar (with_item t item judged s)
item_so_far t (Acts act) judged s k j = line_so_far t act s k
item_so_far t (AccessTo x write) NoAccess s k j = absurd j
item_so_far t (AccessTo x write) Performed s k j =
    let none = moved (λ c. (y : ℕ) → IsRacy (with_entry s.lists t (e t x write s k false)) c y → ⊥) s.lists t (e t x write s k false) j in
    plain_so_far t x write s k false (λ i. absurd (let z : false ≡ true = i in cc), λ r. absurd (none x r))
item_so_far t (AccessTo x write) (Raised var) s k j =
    let racy = moved (λ c. IsRacy (with_entry s.lists t (e t x write s k true)) c var) s.lists t (e t x write s k true) j.0 in
    let same = only t x write s k true var racy in
    plain_so_far t x write s k true (
      λ i. subst (IsRacy (with_entry s.lists t (e t x write s k true)) (end_place s.lists t)) (sym same)
          racy,
      λ r. refl,
    )
item_so_far t (CommitsOn reads writes) NoAccess s k j = absurd j
item_so_far t (CommitsOn reads writes) Performed s k j =
    commit_so_far t reads writes s k (moved (λ c. (y : ℕ) → IsRacy (with_entry s.lists t (f t reads writes s k)) c y → ⊥) s.lists t
    (f t reads writes s k) j)
item_so_far t (CommitsOn reads writes) (Raised var) s k j =
    refused_so_far t reads writes s k var (moved (λ c. IsRacy (with_entry s.lists t (g t reads writes s k var)) c var
    × ((y : ℕ) → y < var → IsRacy (with_entry s.lists t (g t reads writes s k var)) c y → ⊥)) s.lists t (g t reads writes s k var) j)

-- with Over at the end of a list it does too
over_so_far : (t : ℕ) (s : Tracing) → IsSoFar s → IsSoFar (with_over t s)
over_so_far t s k = record {
  below = below_push s.lists s.next s.numbers k.below t (Over Halt) s.next s.numbers (omega arith) (λ x. omega arith) (λ p z. absurd (cc))
      (λ x m n. absurd n);
  races = races_push s.lists s.next s.numbers k.below t (Over Halt) (λ p z. absurd (cc)) (λ x m n. absurd n) k.races tt;
}

-- with the ending of a thread it does too
ending_so_far : (t : ℕ) (s : Tracing) → IsSoFar s → IsSoFar (with_ending t s)
ending_so_far t s k = outer (is_empty (s.lists t))
  where
    inner : (b : Bool) → IsSoFar (if b then s else with_end t s)
    inner true = k
    inner false = end_so_far t s k

    outer : (b : Bool) → IsSoFar (if b then s else with_over t (if s.ended t then s else with_end t s))
    outer true = k
    outer false = over_so_far t (if s.ended t then s else with_end t s) (inner (s.ended t))

-- with the endings of the threads below n it does too
endings_so_far : (n : ℕ) (s : Tracing) → IsSoFar s → IsSoFar (with_endings n s)
endings_so_far zero s k = k
endings_so_far (suc n) s k = ending_so_far n (with_endings n s) (endings_so_far n s k)

-- before the first line it does
first_so_far : IsSoFar before_lines
first_so_far = act_so_far 0 (Begin 0) (record { lists = λ _. []; next = 0; numbers = λ _. 0; ended = λ _. false })
    (record {
      below = record { positions = λ c e p there is. absurd (cc); drawn = λ c e x k there n. absurd (cc) };
      races = λ c e there. absurd (cc);
    })

-- the record after a line more is that with the line's entries
after_push : (lines : List Line) (l : Line) (s : Tracing) → after_lines (lines ++ l ∷ []) s
    ≡ with_item l.thread l.item l.judged (after_lines lines s)
after_push [] l s = refl
after_push (m ∷ lines) l s = after_push lines l (with_item m.thread m.item m.judged s)

-- after each number of lines with right verdicts it does
lines_so_far : (lines : List Line) → AreVerdicts lines → (k : ℕ) → k ≤ length lines → IsSoFar (after_lines (take k lines) before_lines)
lines_so_far lines right zero le = first_so_far
lines_so_far lines right (suc k) le = elim ((slice_get_cases lines k).1) [
  | inl c ↦
      (let l = c.0 in
      let at : slice_get lines k ≡ Some l = c.2 in
      let s = after_lines (take k lines) before_lines in
      let whole : after_lines (take (suc k) lines) before_lines
      ≡ with_item l.thread l.item l.judged s = ap (λ ls. after_lines ls before_lines) (take_one lines k l at)
      ∙ after_push (take k lines) l before_lines in
      let one : k + 1 ≡ suc k = add-one k in
      let lists : (after_lines (take (k + 1) lines) before_lines).lists
      ≡ (with_item l.thread l.item l.judged s).lists = ap (λ n. (after_lines (take n lines) before_lines).lists) one
      ∙ ap (λ (z : Tracing). z.lists) whole in
      let j : IsJudgedRightly (with_item l.thread l.item l.judged s).lists
      (last_place (with_item l.thread l.item l.judged s).lists l.thread) l.item l.judged =
      subst (λ (R : Lists). IsJudgedRightly R (last_place R l.thread) l.item l.judged) lists (right k l at) in
      subst IsSoFar (sym whole) (item_so_far l.thread l.item l.judged s (lines_so_far lines right k (omega arith)) j))
  | inr c ↦ absurd (let m = c.0 in omega arith)
]

-- where the verdicts are right, the record of the trace obeys the race law
pub record_races : RecordRaces
record_races lines right =
    let k : IsSoFar (after_lines lines before_lines) =
    subst (λ ls. IsSoFar (after_lines ls before_lines)) (take_all (length lines) lines (omega arith))
    (lines_so_far lines right (length lines) (omega arith)) in
    (endings_so_far THREADS (after_lines lines before_lines) k).races
