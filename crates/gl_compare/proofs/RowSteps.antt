-- A line more: what the judge by rows keeps follows it, and what it said of it is right.
use Rattle.std.proofs.Common.{◌≡◌, ℕ, ◌≤◌, List, [], ◌∷◌, ◌++◌, length, replicate, zero, suc, refl, sym, ◌∙◌, ap, subst, arith, Ok, Err, None, true, false, Bool}
use Rattle.std.specs.Prelude.{Result, ◌||◌, ◌↔◌, IfOk, IsTrue, Contains, slice_index_or}
use Rattle.std.proofs.lemmas.Bool.{ltb-false}
use native.Mathlib.Decide.{ℕ_discrete}
use Rattle.gl_model.specs.declared.event.Act.{Act}
use Rattle.gl_model.specs.declared.event.Act.TheVariants.{Begin, Join}
use Rattle.gl_model.specs.declared.event.Event.TheVariants.{Act as Does, Commit as CommitsEvent}
use Rattle.gl_model.specs.declared.event.Stamp.{Stamp}
use Rattle.gl_model.specs.declared.limits.TheConstants.{THREADS, TX_VARIABLES}
use Rattle.gl_model.specs.declared.row.Item.{Item}
use Rattle.gl_model.specs.declared.row.Item.TheVariants.{Act as Acts, Access, Commit as CommitsOn}
use Rattle.gl_model.specs.declared.row.Judged.{Judged}
use Rattle.gl_model.specs.declared.row.Judged.TheVariants.{NoAccess, Performed, Raised}
use Rattle.gl_model.specs.declared.row.Question.{Question}
use Rattle.gl_model.specs.declared.row.Row.{Row}
use Rattle.gl_model.specs.Infos.{InfoFor, AreLeastOwned}
use Rattle.gl_model.specs.Machine.{State, Running, trace_setting}
use Rattle.gl_model.specs.Rising.{Rises, with_all}
use Rattle.gl_model.specs.Trace.{Line, AreVerdicts, is_in}
use Rattle.gl_model.specs.TraceSteps.{item_joins, item_leaves, act_joins, is_ended, is_running, is_too_wide, item_fault, holder}
use Rattle.gl_draws.specs.RowFacts.{RowStands, SomeFails, InfoOf}
use Rattle.gl_draws.proofs.EntryKinds.{is_in-contains, contains-is_in}
use Rattle.gl_judge.proofs.RowTests.{rows_stand}
use Rattle.gl_lines.specs.TraceLaws.{IsJudgedBy}
use Rattle.gl_lines.specs.Traced.{Traced, block_of, after_act as traced_act, after_item, traced, history, draws_of, with_stamp}
use Rattle.gl_lines.specs.TraceStates.{steps_of, AreSound}
use Rattle.gl_lines.proofs.RowNotes.{stay_law, follow_law}
use Rattle.gl_lines.proofs.TraceLawProofs.{sound_front, last_clean, last_runs}
use Rattle.gl_lines.proofs.TraceMachine.{or_false, ended_push, holder_push, clean_parts, runs}
use Rattle.gl_lines.proofs.TraceSound.{traced_push, steps_push, sound_traced}
use Rattle.gl_lines.proofs.VerdictLaw.{grow_law}
use Rattle.gl_reference.proofs.Places.{place_of, contains_at, less_before}
use Rattle.gl_shortcut.specs.Ordering.{IsOfNext}
use Rattle.gl_compare.specs.Held.{hold_of, AreLeastHeld}
use Rattle.gl_compare.specs.Rows.{untouched, row_of, asked_plain, asked_commit, asked_part, Tells, AreNoted, PlainDone, CommitDone}
use Rattle.gl_compare.specs.RowsFollow.{AreFollowed}
use Rattle.gl_compare.proofs.Holding.{hold_push, act_holds, owned_held}
use Rattle.gl_compare.proofs.OwnRows.{plain_info, commit_info}
use Rattle.gl_compare.proofs.Within.{none_at}

-- what follows from what holds of a success holds of it
pub if_ok_map : {A B : Type 0} (r : Result A B) (P Q : A → Type 0) → IfOk r P → ((a : A) → P a → Q a) → IfOk r Q
if_ok_map (Ok a) P Q k f = f a k
if_ok_map (Err e) P Q k f = tt

-- what follows from two things that hold of a success holds of it
pub if_ok_both : {A B : Type 0} (r : Result A B) (P Q R : A → Type 0) → IfOk r P → IfOk r Q → ((a : A) → P a → Q a → R a) → IfOk r R
if_ok_both (Ok a) P Q R k l f = f a k l
if_ok_both (Err e) P Q R k l f = tt

-- a line, by thread, item and what was said of it
abbrev pub line : ℕ → Item → Judged → Line
line t item judged = record { thread = t; item = item; judged = judged }

-- after sound lines that the judge follows, the next one is judged rightly and followed
abbrev pub Stepped : ℕ → Item → Judged → List Stamp → List Row → List Bool → List Stamp → List Row → List Bool → Type 0
Stepped t item judged h kept over h' kept' over' =
    (lines : List Line) → AreSound (lines ++ line t item judged ∷ []) → AreVerdicts lines → AreFollowed lines h kept over →
    AreVerdicts (lines ++ line t item judged ∷ []) × AreFollowed (lines ++ line t item judged ∷ []) h' kept' over'

-- what is kept of the lines with one more
followed_push : (lines : List Line) (l : Line) (h h' : List Stamp) (kept kept' : List Row) (over over' : List Bool)
    → AreFollowed lines h kept over → h' ≡ (after_item l.thread l.item l.judged (traced lines)).history
    → ((m : ℕ) → hold_of m h' ≡ item_leaves m l.thread l.item (hold_of m h))
    → ((y : ℕ) → RowStands trace_setting (history (lines ++ l ∷ [])) y (draws_of (lines ++ l ∷ []) y) (row_of kept' y))
    → ((u : ℕ) → slice_index_or over' u false ≡ (slice_index_or over u false || item_joins u l.item))
    → AreFollowed (lines ++ l ∷ []) h' kept' over'
followed_push lines l h h' kept kept' over over' f e holds rows ended = record {
  events = e ∙ ap (λ (s : Traced). s.history) (sym (traced_push lines l));
  holders = λ m. holds m ∙ ap (item_leaves m l.thread l.item) (f.holders m)
      ∙ sym (holder_push (steps_of lines) (l.thread, l.item) m) ∙ ap (holder m) (sym (steps_push lines l));
  rows = rows;
  ended = λ u. ended u ∙ ap (λ b. b || item_joins u l.item) (f.ended u)
      ∙ sym (ended_push (steps_of lines) (l.thread, l.item) u) ∙ ap (λ ss. is_ended ss u) (sym (steps_push lines l));
}

-- in a list of threads of which none has ended none has
none_ended : (n u : ℕ) → slice_index_or (replicate n false) u false ≡ false
none_ended zero u = refl
none_ended (suc n) zero = refl
none_ended (suc n) (suc u) = none_ended n u

-- before the first line what the judge keeps follows
pub followed_first : (h : List Stamp) (kept : List Row) → h ≡ with_stamp [] 0 (Does (Begin 0)) → kept ≡ []
    → AreFollowed [] h kept (replicate 16 false)
followed_first h kept is none = record {
  events = is;
  holders = λ m. ap (hold_of m) is;
  rows = λ y. subst (λ rows. RowStands trace_setting (history []) y [] (row_of rows y)) (sym none) (record {
    word = refl;
    last_write = tt;
    threads = refl;
    reads = λ t. subst (λ o. InfoOf trace_setting (history []) false o None) (sym (none_at THREADS t)) tt;
  });
  ended = none_ended 16;
}

-- a line that is no access is followed where its events and who has ended are
pub stepped_act : (t : ℕ) (act : Act) (h h' : List Stamp) (kept kept' : List Row) (over over' : List Bool) (joined : Bool) → kept' ≡ kept
    → ((u : ℕ) → act ≡ Join u → joined ≡ slice_index_or over u false) →
    ((s : Traced) → s.history ≡ h → ((u : ℕ) → act ≡ Join u → joined ≡ s.tracing.ended u) → h' ≡ (traced_act t act s).history)
    → ((u : ℕ) → slice_index_or over' u false ≡ (slice_index_or over u false || act_joins u act)) →
    Stepped t (Acts act) NoAccess h kept over h' kept' over'
stepped_act t act h h' kept kept' over over' joined same joins events ends lines sound right f =
    let l = line t (Acts act) NoAccess in
    let s = traced lines in
    let k = sound_traced lines (sound_front lines l sound) in
    let e : h' ≡ (traced_act t act s).history = events s (sym f.events) (λ u is. joins u is ∙ f.ended u ∙ sym (k.1.ended u)) in (
      grow_law lines l sound right (λ y. untouched) (λ y. asked_plain t false []) (λ y a. absurd a) (λ y a. absurd a) refl,
      followed_push lines l h h' kept kept' over over' f e
          (λ m. ap (hold_of m) e ∙ act_holds m t act s ∙ ap (λ z. item_leaves m t (Acts act) (hold_of m z)) (sym f.events))
          (λ y. subst (λ rows. RowStands trace_setting (history (lines ++ l ∷ [])) y (draws_of (lines ++ l ∷ []) y) (row_of rows y))
          (sym same) (stay_law lines l sound y (row_of kept y) (f.rows y) (λ a. absurd a)))
          ends,
    )

-- a no says that no Info fails
told_no : (h : List Stamp) (row : Row) (q : Question) → IsTrue false ↔ SomeFails h row q → SomeFails h row q → ⊥
told_no h row q tells fails = let e = tells.1 fails in absurd (cc)

-- where it is not so that it holds it does not
not_true : (b : Bool) → (b ≡ true → ⊥) → b ≡ false
not_true true none = absurd (none refl)
not_true false none = refl

-- a plain line
module _ (lines : List Line) (t x : ℕ) (write : Bool) (kept kept' : List Row) (over : List Bool) (h : List Stamp)
    (f : AreFollowed lines h kept over) (held : List ℕ) (now : State)
    (next : IsOfNext trace_setting (history lines) (asked_plain t write held)) where
  abbrev stands : (y : ℕ) → RowStands trace_setting (history lines) y (draws_of lines y) (row_of kept y)
  stands = f.rows

  -- what the row tells is whether one of its Infos fails
  says : (b : Bool) → Tells (history lines) (row_of kept x) (asked_plain t write held) b
      → IsTrue b ↔ SomeFails (history lines) (row_of kept x) (asked_plain t write held)
  says b tells = tells next (rows_stand trace_setting (history lines) x (draws_of lines x) (row_of kept x) (f.rows x))

  -- an access that is done by its row is judged by whether an Info of the row fails
  pub plain_judged : (judged : Judged)
      → PlainDone (history lines) (row_of kept x) (asked_plain t write held) x judged (row_of kept' x)
      → IsJudgedBy (λ y. SomeFails (history lines) (row_of kept y) (asked_plain t write held)) (Access x write) judged
  plain_judged NoAccess d = d
  plain_judged Performed d = λ y a fails. told_no (history lines) (row_of kept x) (asked_plain t write held) (says false d.0)
      (subst (λ z. SomeFails (history lines) (row_of kept z) (asked_plain t write held)) (sym a) fails)
  plain_judged (Raised var) d = (
    sym d.0,
    subst (λ z. SomeFails (history lines) (row_of kept z) (asked_plain t write held)) (sym d.0) ((says true d.1).0 refl),
    λ y less a fails. let e = d.0 in omega arith,
  )

-- the row of the accessed variable stands behind a plain line
plain_row : (lines : List Line) (t x : ℕ) (write : Bool) (judged : Judged) → AreSound (lines ++ line t (Access x write) judged ∷ [])
    → (old new : Row) → RowStands trace_setting (history lines) x (draws_of lines x) old → (held : List ℕ) (now : State)
    → now.threads t ≡ Running → Rattle.gl_lines.proofs.TraceEvents.IsRecorded (traced lines) now → AreLeastOwned now t held
    → PlainDone (history lines) old (asked_plain t write held) x judged new
    → RowStands trace_setting (history (lines ++ line t (Access x write) judged ∷ [])) x
    (draws_of (lines ++ line t (Access x write) judged ∷ []) x) new
plain_row lines t x write NoAccess sound old new stands held now running r own d = absurd d
plain_row lines t x write Performed sound old new stands held now running r own d =
    let l = line t (Access x write) Performed in
    let n = d.1 in
    let info : InfoFor trace_setting (traced lines).history n.info
    (record { thread = t; block = block_of t (traced lines); variables = None }) n.info.write =
    plain_info (traced lines) now r t running held own write n.info n.is in
    follow_law lines l sound x old new n.info stands refl (λ z. z)
    (subst (λ (s : Traced). InfoFor trace_setting s.history n.info
    (record { thread = t; block = block_of t (traced lines); variables = None }) n.info.write) (sym (traced_push lines l)) info)
    (λ e. sym n.is.write ∙ e, λ e. n.is.write ∙ e)
    (record { value = n.value; write = n.write; read = λ none. n.read (not_true write none) })
plain_row lines t x write (Raised var) sound old new stands held now running r own d =
    let l = line t (Access x write) (Raised var) in
    subst (RowStands trace_setting (history (lines ++ l ∷ [])) x (draws_of (lines ++ l ∷ []) x)) (sym d.2)
    (stay_law lines l sound x old stands (λ a. tt))

-- a plain line adds no event
plain_history : (t x : ℕ) (write : Bool) (judged : Judged) (s : Traced) → s.history ≡ (after_item t (Access x write) judged s).history
plain_history t x write NoAccess s = refl
plain_history t x write Performed s = refl
plain_history t x write (Raised var) s = refl

-- a plain line that is judged by its row, and noted there where it is performed, is followed
pub stepped_plain : (t x : ℕ) (write : Bool) (judged : Judged) (h h' : List Stamp) (kept kept' : List Row) (over over' : List Bool) → h'
    ≡ h → over' ≡ over → ((y : ℕ) → (y ≡ x → ⊥) → row_of kept' y ≡ row_of kept y) →
    ((held : List ℕ) × AreLeastHeld (λ m. hold_of m h) t held
    × PlainDone h (row_of kept x) (asked_plain t write held) x judged (row_of kept' x))
    → Stepped t (Access x write) judged h kept over h' kept' over'
stepped_plain t x write judged h h' kept kept' over over' same_events same_over others done lines sound right f =
    let l = line t (Access x write) judged in
    let k = sound_traced lines (sound_front lines l sound) in
    let running = runs (steps_of lines) k.0 k.1.state t (last_runs lines l sound) in
    let own = owned_held (λ m. hold_of m h) (steps_of lines) k.0 t done.0 f.holders k.1.state done.1 in
    let next : IsOfNext trace_setting (history lines) (asked_plain t write done.0) =
    record { thread = refl; write_mark = refl; commit = refl; now = k.0; allowed = k.1.recorded.allowed; runs = running; held = own } in
    let d : PlainDone (history lines) (row_of kept x) (asked_plain t write done.0) x judged (row_of kept' x) =
    subst (λ z. PlainDone z (row_of kept x) (asked_plain t write done.0) x judged (row_of kept' x)) f.events done.2 in
    let After : ℕ → Row → Type 0 = λ y row. RowStands trace_setting (history (lines ++ l ∷ [])) y (draws_of (lines ++ l ∷ []) y) row in (
      grow_law lines l sound right (λ y. row_of kept y) (λ y. asked_plain t write done.0) (λ y a. f.rows y)
          (λ y a. record { thread = refl; write = (λ e. e, λ e. e); commit = refl })
          (plain_judged lines t x write kept kept' over h f done.0 k.0 next judged d),
      followed_push lines l h h' kept kept' over over' f (same_events ∙ f.events ∙ plain_history t x write judged (traced lines))
          (λ m. ap (hold_of m) same_events)
          (λ y. elim (ℕ_discrete y x) [
            | yes e ↦ subst (λ z. After z (row_of kept' z)) (sym e)
                (plain_row lines t x write judged sound (row_of kept x) (row_of kept' x) (f.rows x) done.0 k.0 running k.1.recorded own d)
            | no o ↦ subst (After y) (sym (others y o)) (stay_law lines l sound y (row_of kept y) (f.rows y) (λ a. absurd (o (sym a))))
          ])
          (λ u. ap (λ bs. slice_index_or bs u false) same_over ∙ sym (or_false (slice_index_or over u false))),
    )

-- a commit line
module _ (lines : List Line) (t : ℕ) (reads writes : List ℕ) (kept kept' : List Row) (stands : (y : ℕ)
    → RowStands trace_setting (history lines) y (draws_of lines y) (row_of kept y)) (held : List ℕ)
    (next : (y : ℕ) → IsOfNext trace_setting (history lines) (asked_part (asked_commit t (with_all writes reads) held) writes y)) where
  abbrev asked : ℕ → Question
  asked = asked_part (asked_commit t (with_all writes reads) held) writes

  abbrev Fails : ℕ → Type 0
  Fails y = SomeFails (history lines) (row_of kept y) (asked_part (asked_commit t (with_all writes reads) held) writes y)

  -- what the row of y tells of the commit is whether one of its Infos fails
  says_part : (y : ℕ) (b : Bool) → Tells (history lines) (row_of kept y) (asked y) b → IsTrue b ↔ Fails y
  says_part y b tells = tells (next y) (rows_stand trace_setting (history lines) y (draws_of lines y) (row_of kept y) (stands y))

  -- where it tells that none fails, none does
  says_no : (y : ℕ) → Tells (history lines) (row_of kept y) (asked y) false → Fails y → ⊥
  says_no y tells = told_no (history lines) (row_of kept y) (asked y) (says_part y false tells)

  -- a commit that is done by the rows of its variables is judged by the first of them in whose row an Info fails
  pub commit_judged : (h' : List Stamp) (judged : Judged) → Rises (with_all writes reads)
      → CommitDone (history lines) kept t (with_all writes reads) asked judged h' kept' → IsJudgedBy Fails (CommitsOn reads writes) judged
  commit_judged h' NoAccess rising d = d
  commit_judged h' Performed rising d = λ y c. let place = place_of (with_all writes reads) y c in says_no y (d.0 place.0 y place.1)
  commit_judged h' (Raised var) rising d =
      let first = d.0 in (
        contains_at (with_all writes reads) first.0 var first.1,
        (says_part var true first.2).0 refl,
        λ y less c. let place = place_of (with_all writes reads) y c
            in says_no y
            (first.3 place.0 y (less_before (with_all writes reads) first.0 place.0 var y rising first.1 place.1 less) place.1),
      )

-- the events behind a commit line
commit_history : (lines : List Line) (t : ℕ) (reads writes : List ℕ) (judged : Judged) (kept kept' : List Row) (asked : ℕ → Question)
    (h' : List Stamp) → CommitDone (history lines) kept t (with_all writes reads) asked judged h' kept'
    → h' ≡ (after_item t (CommitsOn reads writes) judged (traced lines)).history
commit_history lines t reads writes NoAccess kept kept' asked h' d = absurd d
commit_history lines t reads writes Performed kept kept' asked h' d = d.1
commit_history lines t reads writes (Raised var) kept kept' asked h' d = d.1

-- a commit leaves each monitor as it was
commit_holds : (m : ℕ) (h : List Stamp) (t : ℕ) (variables : List ℕ) (judged : Judged) (kept kept' : List Row) (asked : ℕ → Question)
    (h' : List Stamp) → CommitDone h kept t variables asked judged h' kept' → hold_of m h' ≡ hold_of m h
commit_holds m h t variables NoAccess kept kept' asked h' d = absurd d
commit_holds m h t variables Performed kept kept' asked h' d = ap (hold_of m) d.1
    ∙ hold_push m h (record { thread = t; event = CommitsEvent variables })
commit_holds m h t variables (Raised var) kept kept' asked h' d = ap (hold_of m) d.1

-- the lines with a performed commit
abbrev with_performed : List Line → ℕ → List ℕ → List ℕ → List Line
with_performed lines t reads writes = lines ++ line t (CommitsOn reads writes) Performed ∷ []

-- each row stands behind a commit line
commit_rows : (lines : List Line) (t : ℕ) (reads writes : List ℕ) (judged : Judged)
    → AreSound (lines ++ line t (CommitsOn reads writes) judged ∷ []) → (kept kept' : List Row)
    → ((y : ℕ) → RowStands trace_setting (history lines) y (draws_of lines y) (row_of kept y)) → (held : List ℕ)
    → ((now : State) → Rattle.gl_lines.specs.TraceStates.IsStateOf (steps_of (lines ++ line t (CommitsOn reads writes) judged ∷ [])) now
    → AreLeastOwned now t held) → (h' : List Stamp)
    → CommitDone (history lines) kept t (with_all writes reads) (asked_part (asked_commit t (with_all writes reads) held) writes) judged h'
    kept' → (y : ℕ) → RowStands trace_setting (history (lines ++ line t (CommitsOn reads writes) judged ∷ [])) y
    (draws_of (lines ++ line t (CommitsOn reads writes) judged ∷ []) y) (row_of kept' y)
commit_rows lines t reads writes NoAccess sound kept kept' stands held own h' d y = absurd d
commit_rows lines t reads writes (Raised var) sound kept kept' stands held own h' d y =
    let l = line t (CommitsOn reads writes) (Raised var) in
    subst (λ rows. RowStands trace_setting (history (lines ++ l ∷ [])) y (draws_of (lines ++ l ∷ []) y) (row_of rows y)) (sym d.2)
    (stay_law lines l sound y (row_of kept y) (stands y) (λ a. tt))
commit_rows lines t reads writes Performed sound kept kept' stands held own h' d y = by (is_in y (with_all writes reads)) refl
  where
    log_is : history (with_performed lines t reads writes) ≡ with_stamp (history lines) t (CommitsEvent (with_all writes reads))
    log_is = ap (λ (s : Traced). s.history) (traced_push lines (line t (CommitsOn reads writes) Performed))

    same : h' ≡ history (with_performed lines t reads writes)
    same = d.1 ∙ sym log_is

    noted : AreNoted (with_all writes reads) (asked_part (asked_commit t (with_all writes reads) held) writes)
        (length (history (with_performed lines t reads writes))) kept kept'
    noted = subst (λ (z : List Stamp). AreNoted (with_all writes reads) (asked_part (asked_commit t (with_all writes reads) held) writes)
        (length z) kept kept') same d.2

    by : (b : Bool) → is_in y (with_all writes reads) ≡ b → RowStands trace_setting (history (with_performed lines t reads writes)) y
        (draws_of (with_performed lines t reads writes) y) (row_of kept' y)
    by false e =
        let out : Contains (with_all writes reads) y → ⊥ = (λ c. let z = contains-is_in y (with_all writes reads) c in cc) in
        subst (RowStands trace_setting (history (with_performed lines t reads writes)) y (draws_of (with_performed lines t reads writes) y))
        (sym (noted.others y out))
        (stay_law lines (line t (CommitsOn reads writes) Performed) sound y (row_of kept y) (stands y) (λ a. absurd (out a)))
    by true e =
        let c = is_in-contains y (with_all writes reads) e in
        let n = noted.noted y c in
        let k = sound_traced (with_performed lines t reads writes) sound in
        follow_law lines (line t (CommitsOn reads writes) Performed) sound y (row_of kept y) (row_of kept' y) n.info (stands y) c (λ z. z)
        (commit_info (history lines) (history (with_performed lines t reads writes)) k.0 k.1.recorded.allowed t (with_all writes reads)
        log_is held (own k.0 k.1.state) writes y n.info n.is)
        (λ i. is_in-contains y writes (sym n.is.write ∙ i), λ w. n.is.write ∙ contains-is_in y writes w)
        (record {
          value = n.value;
          write = λ w. n.write (contains-is_in y writes w);
          read = λ none. n.read (not_true (is_in y writes) (λ i. none (is_in-contains y writes i)));
        })

-- a commit line that is judged by the rows of its variables, and noted there where it is performed, is followed
pub stepped_commit : (t : ℕ) (reads writes : List ℕ) (judged : Judged) (h h' : List Stamp) (kept kept' : List Row)
    (over over' : List Bool) → over' ≡ over →
    ((held variables : List ℕ) × AreLeastHeld (λ m. hold_of m h) t held × Rises variables
    × (length (with_all writes reads) ≤ TX_VARIABLES → variables ≡ with_all writes reads)
    × CommitDone h kept t variables (asked_part (asked_commit t variables held) writes) judged h' kept')
    → Stepped t (CommitsOn reads writes) judged h kept over h' kept' over'
stepped_commit t reads writes judged h h' kept kept' over over' same_over done lines sound right f =
    let l = line t (CommitsOn reads writes) judged in
    let k = sound_traced lines (sound_front lines l sound) in
    let V = with_all writes reads in
    let held = done.0 in
    let running = runs (steps_of lines) k.0 k.1.state t (last_runs lines l sound) in
    let own = owned_held (λ m. hold_of m h) (steps_of lines) k.0 t done.0 f.holders k.1.state done.2 in
    let narrow = (clean_parts (is_too_wide (CommitsOn reads writes)) (is_running (steps_of lines) t)
    (item_fault (steps_of lines) t (CommitsOn reads writes)) (last_clean lines l sound)).0 in
    let are : done.1 ≡ with_all writes reads = done.4 (ltb-false TX_VARIABLES (length (with_all writes reads)) narrow) in
    let rising : Rises (with_all writes reads) = subst Rises are done.3 in
    let d : CommitDone (history lines) kept t (with_all writes reads) (asked_part (asked_commit t (with_all writes reads) done.0) writes)
    judged h' kept' =
    subst (λ z. CommitDone z kept t (with_all writes reads) (asked_part (asked_commit t (with_all writes reads) done.0) writes) judged h'
    kept') f.events
    (subst (λ vs. CommitDone h kept t vs (asked_part (asked_commit t vs done.0) writes) judged h' kept') are done.5) in
    let next : (y : ℕ) → IsOfNext trace_setting (history lines) (asked_part (asked_commit t (with_all writes reads) done.0) writes y) =
    (λ y. record { thread = refl; write_mark = refl; commit = refl; now = k.0; allowed = k.1.recorded.allowed; runs = running; held = own })
    in
    let holds : (m : ℕ) → hold_of m h' ≡ hold_of m h = (λ m. commit_holds m (history lines) t (with_all writes reads) judged kept kept'
    (asked_part (asked_commit t (with_all writes reads) done.0) writes) h' d ∙ ap (hold_of m) (sym f.events)) in
    let later : (m : ℕ) → hold_of m h ≡ holder m (steps_of (lines ++ l ∷ [])) = (λ m. f.holders m
    ∙ sym (holder_push (steps_of lines) (t, CommitsOn reads writes) m) ∙ ap (holder m) (sym (steps_push lines l))) in (
      grow_law lines l sound right (λ y. row_of kept y) (asked_part (asked_commit t (with_all writes reads) done.0) writes)
          (λ y a. f.rows y)
          (λ y a. record { thread = refl; write = (is_in-contains y writes, contains-is_in y writes); commit = refl })
          (commit_judged lines t reads writes kept kept' f.rows done.0 next h' judged rising d),
      followed_push lines l h h' kept kept' over over' f
          (commit_history lines t reads writes judged kept kept' (asked_part (asked_commit t (with_all writes reads) done.0) writes) h' d)
          holds
          (commit_rows lines t reads writes judged sound kept kept' f.rows done.0
          (λ later_now st. owned_held (λ m. hold_of m h) (steps_of (lines ++ l ∷ [])) later_now t done.0 later st done.2) h' d)
          (λ u. ap (λ bs. slice_index_or bs u false) same_over ∙ sym (or_false (slice_index_or over u false))),
    )
