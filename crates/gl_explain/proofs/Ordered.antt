-- What a clock says of the lines that were taken, as happens-before.
use Rattle.std.proofs.Common.{◌≡◌, ◌∙◌, ℕ, ◌<◌, ◌≤◌, List, [], ◌∷◌, ◌++◌, take, sym, ap, subst, arith, inl, inr, Some, None}
use Rattle.std.specs.Prelude.{◌↔◌, Option}
use Rattle.std.proofs.lemmas.Bool.{cases_lt}
use Rattle.std.proofs.lemmas.List.{take-map}
use Rattle.gl_model.specs.Locksets.{Access, IsAccessOf}
use Rattle.gl_model.specs.Machine.{trace_setting}
use Rattle.gl_model.specs.Next.{HappensBeforeNext}
use Rattle.gl_model.specs.Trace.{Line}
use Rattle.gl_clocks.specs.Clocks.{tick}
use Rattle.gl_clocks.proofs.Ordered.{list_law}
use Rattle.gl_core.specs.Cells.{at}
use Rattle.gl_core.specs.EpochLaws.{known_next}
use Rattle.gl_lines.specs.Traced.{history}
use Rattle.gl_lines.specs.TraceLaws.{commit_of}
use Rattle.gl_lines.specs.TraceRows.{access_at}
use Rattle.gl_lines.specs.TraceStates.{AreSound}
use Rattle.gl_explain.specs.declared.told.Told.{Told}
use Rattle.gl_explain.specs.declared.told.Kept.{Kept}
use Rattle.gl_explain.specs.Explained.{IsLearnt}
use Rattle.gl_explain.specs.Races.{Conflicts, IsCulprit, IsUnknown, IsPassed}
use Rattle.gl_explain.specs.Told.{line_of, lines_of, told_of}
use Rattle.gl_explain.proofs.Behind.{map_at, map_there, told}
use Rattle.gl_explain.specs.Marks.{AreKept, plain_behind, Tells}
use Rattle.gl_explain.proofs.Taken.{thread_runs}

module _ (kept : List Kept) (next : Told) (sound : AreSound (lines_of (told_of kept) ++ line_of next ∷ []))
    (are : AreKept (lines_of (told_of kept)) kept)
    (known : List ℕ) (is : (u : ℕ) → at known u ≡ known_next (history (lines_of (told_of kept))) next.thread (commit_of next.item) u) where
  abbrev before : List Told
  before = told_of kept

  abbrev lines : List Line
  lines = lines_of (told_of kept)

  -- the first i lines are those of the first i of what was told
  front : (i : ℕ) → take i lines ≡ lines_of (take i before)
  front i = take-map line_of i before

  -- what the next line's thread knows has passed an access exactly where the access happens before the next one
  by_law : (a : Access) → IsAccessOf (history lines) a → (v : Option (List ℕ))
      → (tick a < known_next (history lines) next.thread v a.thread) ↔ HappensBeforeNext (history lines) a next.thread v
  by_law a there None = let n = thread_runs lines (line_of next) sound
      in (list_law trace_setting (history lines) n.0 n.1.0.allowed a there next.thread n.1.1).0
  by_law a there (Some xs) = let n = thread_runs lines (line_of next) sound
      in (list_law trace_setting (history lines) n.0 n.1.0.allowed a there next.thread n.1.1).1 xs

  -- a clock that has passed an access
  ordered : (a : Access) → IsAccessOf (history lines) a
      → (tick a < at known a.thread) ↔ HappensBeforeNext (history lines) a next.thread (commit_of next.item)
  ordered a there = subst (λ n. (tick a < n) ↔ HappensBeforeNext (history lines) a next.thread (commit_of next.item)) (sym (is a.thread))
      (by_law a there (commit_of next.item))

  -- by the clock the marks tell which lines are culprits of the next one
  pub culprits : (x i : ℕ) → IsUnknown kept next x known i ↔ IsCulprit before next x i
  culprits x i = (
    λ w. (let k = w.0 in
        let marked = are.marked i k w.1 in
        let placed = are.placed i k w.1 in
        let mark = marked.mark w.2.0.performed in
        let law = ordered (access_at (take i lines) (line_of k.told)) (placed.access w.2.0.performed) in
        record {
          told = k.told;
          there = map_there told kept i k w.1;
          conflicts = w.2.0;
          unordered = λ hb. (let less = w.2.1 in let passed =
              law.1 (subst (λ ls. HappensBeforeNext (history lines) (access_at ls (line_of k.told)) next.thread (commit_of next.item))
              (sym (front i)) hb) in omega arith);
        }),
    λ c. (let m = map_at told kept i c.told c.there in
        let k = m.0 in
        let conflicts = subst (λ t. Conflicts t next x) (sym m.2) c.conflicts in
        let marked = are.marked i k m.1 in
        let placed = are.placed i k m.1 in
        let mark = marked.mark conflicts.performed in
        let a : Access = access_at (take i lines) (line_of k.told) in
        let law = ordered a (placed.access conflicts.performed) in
        let unknown : at known k.told.thread < k.mark = elim (cases_lt (tick a) (at known k.told.thread)) [
          | inl passed ↦ absurd (c.unordered (subst
              (λ ls. HappensBeforeNext (history lines) (access_at ls (line_of c.told)) next.thread (commit_of next.item)) (front i)
              (subst (λ t. HappensBeforeNext (history lines) (access_at (take i lines) (line_of t)) next.thread (commit_of next.item)) m.2
              (law.0 passed))))
          | inr over ↦ omega arith
        ] in
        (k, m.1, (conflicts, unknown))),
  )

  -- and which lines of a thread were learnt of
  pub learnts : (t i : ℕ) → IsPassed kept t (at known t) i ↔ IsLearnt before next t i
  learnts t i = (
    λ w. (let k = w.0 in
        let marked = are.marked i k w.1 in
        let placed = are.placed i k w.1 in
        let own = marked.own in
        let P : ℕ → Type 0 = λ u. k.own ≤ at known u in
        let less = subst P (sym w.2.0) w.2.1 in
        let hb = (ordered (plain_behind (take i lines) k.told.thread) placed.plain).0 (omega arith) in
        record {
          told = k.told;
          there = map_there told kept i k w.1;
          own = w.2.0;
          ordered = subst (λ u. HappensBeforeNext (history lines) (plain_behind (lines_of (take i before)) u) next.thread
              (commit_of next.item)) w.2.0 (subst (λ ls. HappensBeforeNext (history lines) (plain_behind ls k.told.thread) next.thread
              (commit_of next.item)) (front i) hb);
        }),
    λ c. (let m = map_at told kept i c.told c.there in
        let k = m.0 in
        let marked = are.marked i k m.1 in
        let placed = are.placed i k m.1 in
        let own = marked.own in
        let mine : k.told.thread ≡ t = ap (λ (z : Told). z.thread) m.2 ∙ c.own in
        let hb = subst (λ u. HappensBeforeNext (history lines) (plain_behind (lines_of (take i before)) u) next.thread
        (commit_of next.item)) (sym mine) c.ordered in
        let passed = (ordered (plain_behind (take i lines) k.told.thread) placed.plain).1
        (subst (λ ls. HappensBeforeNext (history lines) (plain_behind ls k.told.thread) next.thread (commit_of next.item))
        (sym (front i)) hb) in
        let P : ℕ → Type 0 = λ u. k.own ≤ at known u in
        (k, m.1, (mine, subst P mine (omega arith)))),
  )

  -- so by the clock they tell both
  pub tells : Tells kept next known
  tells = record { culprits = culprits; learnts = learnts }
