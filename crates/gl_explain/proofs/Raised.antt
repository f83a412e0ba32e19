-- A line that is raised races with one of those before it.
use Rattle.std.proofs.Common.{◌≡◌, ◌∙◌, ℕ, ◌+◌, List, [], ◌∷◌, ◌++◌, length, length-append, take, refl, sym, ap, subst, arith, inl, inr, None, true}
use Rattle.std.specs.Prelude.{Contains}
use Rattle.std.proofs.lemmas.List.{take_all, take-map}
use Rattle.gl_model.specs.declared.row.Item.{Item}
use Rattle.gl_model.specs.declared.row.Item.TheVariants.{Act as Acts, Access as AccessTo, Commit as CommitsOn}
use Rattle.gl_model.specs.declared.row.Judged.{Judged}
use Rattle.gl_model.specs.declared.row.Judged.TheVariants.{NoAccess, Performed, Raised}
use Rattle.gl_model.specs.Entries.{Entry}
use Rattle.gl_model.specs.HappensBefore.{IsRacy}
use Rattle.gl_model.specs.Locksets.{Access}
use Rattle.gl_model.specs.Machine.{State, Running}
use Rattle.gl_model.specs.Next.{HappensBeforeNext}
use Rattle.gl_model.specs.Records.{Lists, EntryAt, IsPlain}
use Rattle.gl_model.specs.Rising.{with_all}
use Rattle.gl_model.specs.Trace.{Line, AreVerdicts, IsJudgedRightly, last_place, with_entry}
use Rattle.gl_draws.specs.NextRaces.{IsRacyNext}
use Rattle.gl_draws.proofs.EntryKinds.{is_in-contains}
use Rattle.gl_lines.specs.Traced.{Traced, traced, history, draws_of, after_line, after_item, entered, plain_entry, refused_entry}
use Rattle.gl_lines.specs.TraceLaws.{Accesses, WritesTo, commit_of, lists_behind}
use Rattle.gl_lines.specs.TraceRows.{access_at}
use Rattle.gl_lines.specs.TraceStates.{AreSound}
use Rattle.gl_lines.proofs.LineSets.{is_in-touches}
use Rattle.gl_lines.proofs.TraceEvents.{IsRecorded}
use Rattle.gl_lines.proofs.TraceLawProofs.{lists_are, get_last}
use Rattle.gl_lines.proofs.TraceNext.{end_place, last_is, there, racy_plain_on, racy_refused_on}
use Rattle.gl_lines.proofs.TraceSound.{traced_push}
use Rattle.gl_lines.proofs.VerdictLaw.{item_alike, entry_writes}
use Rattle.gl_explain.specs.declared.told.Told.{Told}
use Rattle.gl_explain.specs.Marks.{AreOfLines}
use Rattle.gl_explain.specs.Races.{IsCulprit}
use Rattle.gl_explain.specs.Told.{line_of, lines_of}
use Rattle.gl_explain.proofs.Behind.{map_at}
use Rattle.gl_explain.proofs.Taken.{IsSaidOf, thread_runs}

-- the lists behind lines with one more are those that the last line leaves
behind : (lines : List Line) (l : Line) → lists_behind (lines ++ l ∷ []) ≡ (after_line l (traced lines)).tracing.lists
behind lines l = sym (lists_are (lines ++ l ∷ [])) ∙ ap (λ (z : Traced). z.tracing.lists) (traced_push lines l)

-- the last line of a trace whose verdicts are right is judged rightly
last_right : (lines : List Line) (l : Line) → AreVerdicts (lines ++ l ∷ [])
    → IsJudgedRightly (after_line l (traced lines)).tracing.lists (last_place (after_line l (traced lines)).tracing.lists l.thread) l.item
    l.judged
last_right lines l right =
    let whole : take (length lines + 1) (lines ++ l ∷ []) ≡ lines ++ l
    ∷ [] = take_all (length lines + 1) (lines ++ l ∷ []) (omega (arith, length-append lines (l ∷ []))) in
    subst (λ (R : Lists). IsJudgedRightly R (last_place R l.thread) l.item l.judged) (ap lists_behind whole ∙ behind lines l)
    (right (length lines) l (get_last lines l))

-- something is said of each access
fits : (R : Lists) (c : _) (item : Item) (judged : Judged) → IsJudgedRightly R c item judged → IsSaidOf item judged
fits R c (Acts act) judged j = tt
fits R c (AccessTo x write) NoAccess j = absurd j
fits R c (AccessTo x write) Performed j = tt
fits R c (AccessTo x write) (Raised var) j = tt
fits R c (CommitsOn reads writes) NoAccess j = absurd j
fits R c (CommitsOn reads writes) Performed j = tt
fits R c (CommitsOn reads writes) (Raised var) j = tt

-- what was said of the last line of such a trace is said of its item
pub said_fits : (lines : List Line) (l : Line) → AreVerdicts (lines ++ l ∷ []) → IsSaidOf l.item l.judged
said_fits lines l right = fits (after_line l (traced lines)).tracing.lists
    (last_place (after_line l (traced lines)).tracing.lists l.thread) l.item l.judged (last_right lines l right)

module _ (s : Traced) (now : State) (r : IsRecorded s now) (t : ℕ) (running : now.threads t ≡ Running) where
  abbrev Next : Item → ℕ → Type 0
  Next item var = Accesses item var × IsRacyNext s.history var (s.draws var) t (commit_of item) (entered item (Raised var) s)

  -- an entry that is racy at the last place of its thread's list is racy at the place where the list ended before it
  moved : (e : Entry) (y : ℕ) → IsRacy (with_entry s.tracing.lists t e) (last_place (with_entry s.tracing.lists t e) t) y
      → IsRacy (with_entry s.tracing.lists t e) (end_place s.tracing.lists t) y
  moved e y racy = subst (λ c. IsRacy (with_entry s.tracing.lists t e) c y) (last_is s.tracing.lists t e) racy

  -- the entry that is put last stands at the last place of its thread's list
  entry_there : (e : Entry) → EntryAt (with_entry s.tracing.lists t e) (last_place (with_entry s.tracing.lists t e) t) e
  entry_there e = subst (λ c. EntryAt (with_entry s.tracing.lists t e) c e) (sym (last_is s.tracing.lists t e)) (there s.tracing.lists t e)

  -- if a line is rightly raised on a variable, it accesses the variable and is racy on it as the next access
  next_racy : (item : Item) (var : ℕ) → IsJudgedRightly (after_item t item (Raised var) s).tracing.lists
      (last_place (after_item t item (Raised var) s).tracing.lists t) item (Raised var) → Next item var
  next_racy (Acts act) var j = absurd (cc)
  next_racy (AccessTo x write) var j =
      let e = plain_entry x write true s in
      let a = racy_plain_on s now r t running x write true var (moved e var j.0) in
      (a, (item_alike s now r t running (AccessTo x write) (Raised var) e (entry_there e) var a).0 j.0)
  next_racy (CommitsOn reads writes) var j =
      let e = refused_entry reads writes var s in
      let a : Contains (with_all writes reads) var =
      is_in-contains var (with_all writes reads) (is_in-touches reads writes var
      ∙ racy_refused_on s now r t running reads writes var var (moved e var j.0)) in
      (a, (item_alike s now r t running (CommitsOn reads writes) (Raised var) e (entry_there e) var a).0 j.0)

  -- a line whose entry is plain is no commit
  plain_entered : (item : Item) (judged : Judged) → IsPlain (entered item judged s) → commit_of item ≡ None
  plain_entered (Acts act) judged p = refl
  plain_entered (AccessTo x write) judged p = refl
  plain_entered (CommitsOn reads writes) NoAccess p = absurd p
  plain_entered (CommitsOn reads writes) Performed p = absurd p
  plain_entered (CommitsOn reads writes) (Raised var) p = absurd p

-- so one of the lines before it is a culprit
pub culprit_there : (before : List Told) (next : Told) (x : ℕ) → AreSound (lines_of before ++ line_of next ∷ [])
    → AreVerdicts (lines_of before ++ line_of next ∷ []) → AreOfLines (lines_of before) (draws_of (lines_of before)) → next.judged
    ≡ Raised x
    → (i : ℕ) × IsCulprit before next x i
culprit_there before next x sound right drawn raised =
    let lines = lines_of before in
    let s = traced lines in
    let n = thread_runs lines (line_of next) sound in
    let t = next.thread in
    let j = subst (λ (g : Judged). IsJudgedRightly (after_item t next.item g s).tracing.lists
    (last_place (after_item t next.item g s).tracing.lists t) next.item g) raised (last_right lines (line_of next) right) in
    let found = next_racy s n.0 n.1.0 t n.1.1 next.item x j in
    let r = found.1 in
    let o = drawn x r.earlier r.entry r.among r.made r.performed in
    let m = map_at line_of before o.place o.line o.there in
    let thread : r.earlier.thread ≡ o.line.thread = ap (λ (a : Access). a.thread) o.access in (
      o.place,
      record {
        told = m.0;
        there = m.1;
        conflicts = record {
          performed = ap (λ (l : Line). l.judged) m.2 ∙ o.performed;
          touches = subst (λ (l : Line). Accesses l.item x) (sym m.2) o.touches;
          another = λ e. r.apart (thread ∙ sym (ap (λ (l : Line). l.thread) m.2) ∙ e);
          writes = elim r.conflict.0 [
            | inl a ↦ inl (subst (λ (l : Line). WritesTo l.item x) (sym m.2) (o.writes a))
            | inr b ↦ inr ((entry_writes s n.0 n.1.0 t n.1.1 next.item (Raised x) x found.0).0 b)
          ];
          plain = elim r.conflict.1 [
            | inl a ↦ inl (subst (λ (l : Line). commit_of l.item ≡ None) (sym m.2) (o.plain a))
            | inr b ↦ inr (plain_entered s n.0 n.1.0 t n.1.1 next.item (Raised x) b)
          ];
        };
        unordered = λ hb.
            let P : Access → Type 0 = λ a. HappensBeforeNext (history lines) a t (commit_of next.item) in
            let front : take o.place lines ≡ lines_of (take o.place before) = take-map line_of o.place before in
            r.unordered (subst P (sym o.access) (subst (λ ls. P (access_at ls o.line)) (sym front)
            (subst (λ l. P (access_at (lines_of (take o.place before)) l)) m.2 hb)));
      },
    )
