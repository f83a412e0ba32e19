-- A line more: what the detector keeps follows it, and what it said of it is right.
use Rattle.std.proofs.Common.{◌≡◌, ℕ, ◌+◌, ◌<◌, ◌≤◌, List, [], ◌∷◌, ◌++◌, length, refl, sym, ◌∙◌, ap, subst, arith, Some, None, true, false, Bool, not}
use Rattle.std.specs.Prelude.{◌||◌, ◌&&◌, ◌↔◌, Contains, slice_index_or, if◌then◌else◌}
use Rattle.std.proofs.lemmas.Bool.{ltb-false}
use native.Mathlib.Decide.{ℕ_discrete}
use Rattle.gl_model.specs.declared.event.Act.{Act}
use Rattle.gl_model.specs.declared.event.Act.TheVariants.{Join}
use Rattle.gl_model.specs.declared.event.Event.TheVariants.{Commit as Commits}
use Rattle.gl_model.specs.declared.event.Stamp.{Stamp}
use Rattle.gl_model.specs.declared.event.Element.TheVariants.{Thread}
use Rattle.gl_model.specs.declared.limits.TheConstants.{THREADS, TX_VARIABLES}
use Rattle.gl_model.specs.declared.row.Item.{Item}
use Rattle.gl_model.specs.declared.row.Item.TheVariants.{Act as Acts, Access, Commit as CommitsOn}
use Rattle.gl_model.specs.declared.row.Judged.{Judged}
use Rattle.gl_model.specs.declared.row.Judged.TheVariants.{NoAccess, Performed, Raised}
use Rattle.gl_model.specs.Machine.{State, Running, trace_setting, with_at}
use Rattle.gl_model.specs.Records.{Writes}
use Rattle.gl_model.specs.Rising.{Rises, with_all}
use Rattle.gl_model.specs.Trace.{Line, AreVerdicts, is_in}
use Rattle.gl_model.specs.TraceSteps.{item_joins, act_joins, is_ended, is_running, is_too_wide, item_fault}
use Rattle.gl_draws.specs.Draws.{Entered, Looked, Draw, draw}
use Rattle.gl_draws.specs.NextRaces.{IsRacyNext}
use Rattle.gl_lines.specs.TraceLaws.{IsJudgedBy}
use Rattle.gl_lines.specs.Traced.{Traced, block_of, touches, with_look, with_own, plain_entry, commit_entry, refused_entry, entered, after_act as traced_act, after_item, after_line, traced}
use Rattle.gl_lines.specs.TraceStates.{steps_of, AreSound}
use Rattle.gl_draws.specs.Verdicts.{DrawsHold}
use Rattle.gl_draws.proofs.EntryKinds.{is_in-contains, contains-is_in}
use Rattle.gl_lines.proofs.LineSets.{is_in-touches, its_writes}
use Rattle.gl_lines.proofs.RowNotes.{act_more}
use Rattle.gl_lines.proofs.TraceEvents.{IsRecorded}
use Rattle.gl_lines.proofs.TraceLawProofs.{sound_front, last_clean, last_runs, hold_law}
use Rattle.gl_lines.proofs.TraceMachine.{or_false, ended_push, clean_parts, runs, with_at-here, with_at-else}
use Rattle.gl_lines.proofs.TracePlain.{block_here}
use Rattle.gl_lines.proofs.TraceSound.{traced_push, steps_push, sound_traced}
use Rattle.gl_lines.proofs.VerdictLaw.{entry_writes, races_law}
use Rattle.gl_clocks.specs.Clocks.{Clocks, clocks, taken}
use Rattle.gl_clocks.proofs.Own.{own_law}
use Rattle.gl_core.specs.Marks.{Marks, latest_fails}
use Rattle.gl_core.specs.declared.tables.Tables.{Tables}
use Rattle.gl_core.specs.Follows.{AreFollowed}
use Rattle.gl_core.specs.Latests.{latest_of, part_fails, noted, plain_epoch, PlainDone}
use Rattle.gl_core.specs.Lines.{commit_epoch, CommitDone, ClocksDone}
use Rattle.gl_core.specs.Stands.{IsEpochOf, LatestStands}
use Rattle.gl_core.specs.TablesView.{clocks_in, AreClocksOf}
use Rattle.gl_core.proofs.FindFirst.{find_none, find_first}
use Rattle.gl_core.proofs.Grown.{stays, noted_stands}
use Rattle.gl_core.proofs.Telling.{tell_law}

-- a line, by thread, item and what was said of it
abbrev pub line : ℕ → Item → Judged → Line
line t item judged = record { thread = t; item = item; judged = judged }

-- after sound lines that the detector follows, the next one is judged rightly and followed
abbrev pub Stepped : ℕ → Item → Judged → Tables → List Marks → List Bool → Tables → List Marks → List Bool → Type 0
Stepped t item judged T kept over T' kept' over' =
    (lines : List Line) → AreSound (lines ++ line t item judged ∷ []) → AreVerdicts lines → AreFollowed lines T kept over →
    AreVerdicts (lines ++ line t item judged ∷ []) × AreFollowed (lines ++ line t item judged ∷ []) T' kept' over'

-- where the tables, what is kept and who has ended stand for what one line more leaves, the lines are followed with it
followed_push : (lines : List Line) (l : Line) (T : Tables) (kept : List Marks) (over : List Bool)
    → AreClocksOf (after_line l (traced lines)).history T
    → ((y : ℕ) → LatestStands y ((after_line l (traced lines)).draws y) (latest_of kept y))
    → ((u : ℕ) → slice_index_or over u false ≡ (is_ended (steps_of lines) u || item_joins u l.item))
    → AreFollowed (lines ++ l ∷ []) T kept over
followed_push lines l T kept over clocks stands ended = record {
  clocks = subst (λ (s : Traced). AreClocksOf s.history T) (sym (traced_push lines l)) clocks;
  latests = λ y. subst (λ (s : Traced). LatestStands y (s.draws y) (latest_of kept y)) (sym (traced_push lines l)) (stands y);
  ended = λ u. ended u ∙ sym (ended_push (steps_of lines) (l.thread, l.item) u) ∙ ap (λ ss. is_ended ss u) (sym (steps_push lines l));
}

-- a line that is no access is followed where its clocks and who has ended are
pub stepped_act : (t : ℕ) (act : Act) (T T' : Tables) (kept kept' : List Marks) (over over' : List Bool) (joined : Bool) → kept' ≡ kept
    → ((u : ℕ) → act ≡ Join u → joined ≡ slice_index_or over u false) →
    ((s : Traced) → AreClocksOf s.history T → ((u : ℕ) → act ≡ Join u → joined ≡ s.tracing.ended u)
    → AreClocksOf (traced_act t act s).history T')
    → ((u : ℕ) → slice_index_or over' u false ≡ (slice_index_or over u false || act_joins u act)) →
    Stepped t (Acts act) NoAccess T kept over T' kept' over'
stepped_act t act T T' kept kept' over over' joined same joins events ends lines sound right f =
    let l = line t (Acts act) NoAccess in
    let s = traced lines in
    let k = sound_traced lines (sound_front lines l sound) in
    let e : AreClocksOf (traced_act t act s).history T' = events s f.clocks (λ u is. joins u is ∙ f.ended u ∙ sym (k.1.ended u)) in
    let stands : (y : ℕ) → LatestStands y ((traced_act t act s).draws y) (latest_of kept' y) =
    (λ y. subst (λ (ds : ℕ → List Draw). LatestStands y (ds y) (latest_of kept' y)) (sym (act_more t act s).2)
    (subst (λ (ls : List Marks). LatestStands y (s.draws y) (latest_of ls y)) (sym same) (f.latests y))) in (
      races_law lines l sound right refl,
      followed_push lines l T' kept' over' e stands (λ u. ends u
          ∙ ap (λ b. b || act_joins u act) (f.ended u)),
    )

-- a test and one that fails fail
and_not_true : (b : Bool) → (b && not true) ≡ false
and_not_true true = refl
and_not_true false = refl

-- a test and one that holds are the test
and_not_false : (b : Bool) → (b && not false) ≡ b
and_not_false true = refl
and_not_false false = refl

-- where neither of two tests holds, the first fails
not_first : (a b : Bool) → (if a then true else b) ≡ false → a ≡ false
not_first true b e = absurd (cc)
not_first false b e = refl

-- the clocks of the tables are those of the events
same_clocks : (h : List Stamp) (T : Tables) → AreClocksOf h T → clocks_in T ≡ clocks h
same_clocks h T are = λ i y u. are.clocks y u i

module _ (s : Traced) (now : State) (r : IsRecorded s now) (t : ℕ) (near : t < THREADS) (running : now.threads t ≡ Running) (all : (y : ℕ)
    → DrawsHold s.history y (s.draws y)) (T : Tables) (are : AreClocksOf s.history T) (kept kept' : List Marks) (stands : (y : ℕ)
    → LatestStands y (s.draws y) (latest_of kept y)) where
  -- what the thread knows of itself
  own_is : clocks_in T (Thread t) t ≡ block_of t s + 2
  own_is = let b = block_here s now r t running in are.clocks (Thread t) t ∙ own_law s.history t (block_of t s) b.event b.here b.own b.upto

  -- a plain access of x
  module _ (x : ℕ) (write : Bool) (others : (y : ℕ) → (y ≡ x → ⊥) → latest_of kept' y ≡ latest_of kept y) where
    abbrev D : Bool → Draw
    D raised = draw t (block_of t s) (Entered (plain_entry x write raised s))

    -- if what is kept of x stands for its draws with the access, what is kept of each variable stands for its draws with it
    each : (raised : Bool) → LatestStands x (D raised ∷ s.draws x) (latest_of kept' x) → (y : ℕ)
        → LatestStands y (with_at s.draws x (D raised ∷ s.draws x) y) (latest_of kept' y)
    each raised here y = elim (ℕ_discrete y x) [
      | yes e ↦ subst (λ z. LatestStands z (with_at s.draws x (D raised ∷ s.draws x) z) (latest_of kept' z)) (sym e)
          (subst (λ ds. LatestStands x ds (latest_of kept' x)) (sym (with_at-here s.draws x (D raised ∷ s.draws x))) here)
      | no o ↦ subst (λ ds. LatestStands y ds (latest_of kept' y)) (sym (with_at-else s.draws x y (D raised ∷ s.draws x) o))
          (subst (λ l. LatestStands y (s.draws y) l) (sym (others y o)) (stands y))
    ]

    -- the epoch of the plain access is that of its draw
    epoch : IsEpochOf (plain_epoch t (clocks_in T (Thread t) t)) (D false)
    epoch = record { thread = refl; mark = (let o = own_is in omega arith); commit = refl }

    -- where the access is raised or noted by what is kept, what is kept then stands for the draws behind the line
    pub plain_stands : (judged : Judged) → PlainDone (clocks_in T (Thread t)) (latest_of kept x) t x write judged (latest_of kept' x)
        → (y : ℕ) → LatestStands y ((after_item t (Access x write) judged s).draws y) (latest_of kept' y)
    plain_stands NoAccess d = absurd d
    plain_stands Performed d = each false (subst (LatestStands x (D false ∷ s.draws x)) (sym d.1)
        (noted_stands x (s.draws x) (latest_of kept x) (stands x) (D false) near (plain_epoch t (clocks_in T (Thread t) t)) epoch write
        (and_not_false write) (and_not_false (not write))))
    plain_stands (Raised var) d = each true (subst (LatestStands x (D true ∷ s.draws x)) (sym d.2)
        (stays x (s.draws x) (latest_of kept x) (stands x) (D true) (and_not_true write) (and_not_true (not write))))

    -- what is kept of x fails by what the thread knows exactly where the plain access is racy on x
    tells : (raised : Bool) → (latest_fails (clocks_in T (Thread t)) false write (latest_of kept x) ≡ true) ↔ IsRacyNext s.history x
        (s.draws x) t None (plain_entry x write raised s)
    tells raised = subst (λ (C : Clocks). (latest_fails (C (Thread t)) false write (latest_of kept x) ≡ true) ↔ IsRacyNext s.history x
        (s.draws x) t None (plain_entry x write raised s)) (sym (same_clocks s.history T are))
        (tell_law trace_setting s.history now r.allowed t running x (s.draws x) (all x) (latest_of kept x) (stands x) None write
        (plain_entry x write raised s) tt (λ e. (refl, e), λ w. w.1))

    -- and the line is judged by whether it is racy as the next access
    pub plain_judged : (judged : Judged) → PlainDone (clocks_in T (Thread t)) (latest_of kept x) t x write judged (latest_of kept' x)
        → IsJudgedBy (λ y. IsRacyNext s.history y (s.draws y) t None (entered (Access x write) judged s)) (Access x write) judged
    plain_judged NoAccess d = d
    plain_judged Performed d = λ y a racy.
        let g = (tells false).1 (subst (λ z. IsRacyNext s.history z (s.draws z) t None (plain_entry x write false s)) (sym a) racy) in
        let e = d.0 in cc
    plain_judged (Raised var) d = (
      sym d.0,
      subst (λ z. IsRacyNext s.history z (s.draws z) t None (plain_entry x write true s)) (sym d.0) ((tells true).0 d.1),
      λ y less a racy. let e = d.0 in omega arith,
    )

  -- a commit
  module _ (reads writes : List ℕ) where
    abbrev C : Draw
    C = draw t s.tracing.next (Entered (commit_entry reads writes s))

    abbrev looked : ℕ → List Draw
    looked y = with_look (is_in y reads) t (block_of t s) (s.draws y)

    -- what is kept of a variable stands for its draws with the thread's look, if there is one, too
    look_stands : (y : ℕ) (b : Bool) → LatestStands y (with_look b t (block_of t s) (s.draws y)) (latest_of kept y)
    look_stands y true = stays y (s.draws y) (latest_of kept y) (stands y)
        (draw t (block_of t s) (Looked (Rattle.std.specs.Prelude.pos 0))) refl refl
    look_stands y false = stands y

    -- the tables count as many events as the trace
    next_is : T.next ≡ s.tracing.next
    next_is = are.next ∙ sym r.next

    -- the epoch of the commit is that of its draw
    commit_is : IsEpochOf (commit_epoch t T.next) C
    commit_is = record { thread = refl; mark = ap (λ n. n + 1) next_is; commit = refl }

    -- what is kept of a variable, with the commit noted, stands for its draws with the commit's own
    touched : (y : ℕ) → LatestStands y (C ∷ looked y) (noted (is_in y writes) (commit_epoch t T.next) (latest_of kept y))
    touched y = noted_stands y (looked y) (latest_of kept y) (look_stands y (is_in y reads)) C near (commit_epoch t T.next) commit_is
        (is_in y writes) (ap (is_in y) (its_writes reads writes s.tracing.numbers))
        (ap (λ ws. not (is_in y ws)) (its_writes reads writes s.tracing.numbers))

    -- what is kept of a variable, with the commit noted where it touches it, stands for the draws that the commit leaves
    by_touch : (y : ℕ) (b : Bool) → touches reads writes y ≡ b
        → LatestStands y (with_own b t s.tracing.next (commit_entry reads writes s) (looked y)) (if b
        then noted (is_in y writes) (commit_epoch t T.next) (latest_of kept y) else latest_of kept y)
    by_touch y true e = touched y
    by_touch y false e = look_stands y (is_in y reads)

    -- what is kept of a variable stands for the draws that a refused attempt leaves
    refused : (var y : ℕ) (b : Bool) → LatestStands y (with_own b t (block_of t s) (refused_entry reads writes var s) (looked y))
        (latest_of kept y)
    refused var y true = stays y (looked y) (latest_of kept y) (look_stands y (is_in y reads))
        (draw t (block_of t s) (Entered (refused_entry reads writes var s))) refl refl
    refused var y false = look_stands y (is_in y reads)

    abbrev Done : Judged → Type 0
    Done judged = CommitDone (taken (clocks_in T) (record { thread = t; event = Commits (with_all writes reads) })) kept t T.next
        (with_all writes reads) writes judged kept'

    -- where the commit is raised or noted by what is kept, what is kept then stands for the draws behind the line
    pub commit_stands : (judged : Judged) → CommitDone
        (taken (clocks_in T) (record { thread = t; event = Commits (with_all writes reads) })) kept t T.next (with_all writes reads) writes
        judged kept' → (y : ℕ) → LatestStands y ((after_item t (CommitsOn reads writes) judged s).draws y) (latest_of kept' y)
    commit_stands NoAccess d y = absurd d
    commit_stands Performed d y =
        let same : is_in y (with_all writes reads) ≡ touches reads writes y = is_in-touches reads writes y in
        subst (LatestStands y (with_own (touches reads writes y) t s.tracing.next (commit_entry reads writes s) (looked y)))
        (sym (d.1 y ∙ ap (λ b. if b then noted (is_in y writes) (commit_epoch t T.next) (latest_of kept y) else latest_of kept y) same))
        (by_touch y (touches reads writes y) refl)
    commit_stands (Raised var) d y = subst (λ ls. LatestStands y
        (with_own (touches reads writes y) t (block_of t s) (refused_entry reads writes var s) (looked y)) (latest_of ls y)) (sym d.1)
        (refused var y (touches reads writes y))

    -- of the variables that the commit touches, its entry writes exactly those that are among its writes
    part_writes : (judged : Judged) (y : ℕ) → Contains (with_all writes reads) y
        → (is_in y writes ≡ true) ↔ Writes (entered (CommitsOn reads writes) judged s) y
    part_writes judged y c =
        let w = entry_writes s now r t running (CommitsOn reads writes) judged y c in
        (λ i. w.1 (is_in-contains y writes i), λ x. contains-is_in y writes (w.0 x))

    abbrev fails_on : ℕ → Bool
    fails_on = part_fails (taken (clocks_in T) (record { thread = t; event = Commits (with_all writes reads) })) writes kept

    -- what is kept of a variable that the commit touches fails exactly where the commit is racy on it
    tells_part : (judged : Judged) (y : ℕ) → Contains (with_all writes reads) y
        → (fails_on y ≡ true) ↔ IsRacyNext s.history y (s.draws y) t (Some (with_all writes reads))
        (entered (CommitsOn reads writes) judged s)
    tells_part judged y c = subst (λ (D : Clocks).
        (part_fails (taken D (record { thread = t; event = Commits (with_all writes reads) })) writes kept y ≡ true) ↔ IsRacyNext s.history
        y
        (s.draws y) t (Some (with_all writes reads)) (entered (CommitsOn reads writes) judged s)) (sym (same_clocks s.history T are))
        (tell_law trace_setting s.history now r.allowed t running y (s.draws y) (all y) (latest_of kept y) (stands y)
        (Some (with_all writes reads)) (is_in y writes) (entered (CommitsOn reads writes) judged s) c (part_writes judged y c))

    -- and the line is judged by the variables on which it is racy as the next access
    pub commit_judged : (judged : Judged) → Rises (with_all writes reads)
        → CommitDone (taken (clocks_in T) (record { thread = t; event = Commits (with_all writes reads) })) kept t T.next
        (with_all writes reads) writes judged kept'
        → IsJudgedBy (λ y. IsRacyNext s.history y (s.draws y) t (Some (with_all writes reads)) (entered (CommitsOn reads writes) judged s))
        (CommitsOn reads writes) judged
    commit_judged NoAccess rising d = d
    commit_judged Performed rising d = λ y c racy. find_none fails_on (with_all writes reads) d.0 y
        (contains-is_in y (with_all writes reads) c) ((tells_part Performed y c).1 racy)
    commit_judged (Raised var) rising d =
        let first = find_first fails_on (with_all writes reads) var rising d.0 in
        let c = is_in-contains var (with_all writes reads) first.0 in (
          c,
          (tells_part (Raised var) var c).0 first.1,
          λ y less k racy. first.2 y less (contains-is_in y (with_all writes reads) k)
              ((tells_part (Raised var) y k).1 racy),
        )

    -- where the clocks went on by it, they are those of the events behind the line
    pub commit_clocks : (T' : Tables) (judged : Judged) → ClocksDone T t (with_all writes reads) judged T'
        → AreClocksOf (after_item t (CommitsOn reads writes) judged s).history T'
    commit_clocks T' NoAccess d = absurd d
    commit_clocks T' Performed d = d s.history are
    commit_clocks T' (Raised var) d = subst (AreClocksOf s.history) (sym d) are

-- a plain access leaves the clocks as they are
plain_clocks : (t x : ℕ) (write : Bool) (judged : Judged) (s : Traced) (T : Tables) → AreClocksOf s.history T
    → AreClocksOf (after_item t (Access x write) judged s).history T
plain_clocks t x write NoAccess s T are = are
plain_clocks t x write Performed s T are = are
plain_clocks t x write (Raised var) s T are = are

-- a plain line that is raised exactly where its variable fails, and else noted, is followed
pub stepped_plain : (t x : ℕ) (write : Bool) (judged : Judged) (T T' : Tables) (kept kept' : List Marks) (over over' : List Bool)
    → t < THREADS → T' ≡ T → over' ≡ over → ((y : ℕ) → (y ≡ x → ⊥) → latest_of kept' y ≡ latest_of kept y) →
    PlainDone (clocks_in T (Thread t)) (latest_of kept x) t x write judged (latest_of kept' x)
    → Stepped t (Access x write) judged T kept over T' kept' over'
stepped_plain t x write judged T T' kept kept' over over' near same_tables same_over others done lines sound right f =
    let l = line t (Access x write) judged in
    let s = traced lines in
    let k = sound_traced lines (sound_front lines l sound) in
    let running = runs (steps_of lines) k.0 k.1.state t (last_runs lines l sound) in
    let all = hold_law lines (sound_front lines l sound) right in (
      races_law lines l sound right (plain_judged s k.0 k.1.recorded t near running all T f.clocks kept kept' f.latests x write others
          judged done),
      followed_push lines l T' kept' over' (subst (AreClocksOf (after_item t (Access x write) judged s).history) (sym same_tables)
          (plain_clocks t x write judged s T f.clocks))
          (plain_stands s k.0 k.1.recorded t near running all T f.clocks kept kept' f.latests x write others judged done)
          (λ u. ap (λ bs. slice_index_or bs u false) same_over ∙ f.ended u ∙ sym (or_false (is_ended (steps_of lines) u))),
    )

-- a commit line that is refused for its first variable that fails, and else noted, is followed
pub stepped_commit : (t : ℕ) (reads writes : List ℕ) (judged : Judged) (T T' : Tables) (kept kept' : List Marks) (over over' : List Bool)
    → t < THREADS → over' ≡ over →
    (length (with_all writes reads) ≤ TX_VARIABLES → Rises (with_all writes reads)
    × CommitDone (taken (clocks_in T) (record { thread = t; event = Commits (with_all writes reads) })) kept t T.next
    (with_all writes reads) writes judged kept' × ClocksDone T t (with_all writes reads) judged T') →
    Stepped t (CommitsOn reads writes) judged T kept over T' kept' over'
stepped_commit t reads writes judged T T' kept kept' over over' near same_over done lines sound right f =
    let l = line t (CommitsOn reads writes) judged in
    let s = traced lines in
    let k = sound_traced lines (sound_front lines l sound) in
    let running = runs (steps_of lines) k.0 k.1.state t (last_runs lines l sound) in
    let all = hold_law lines (sound_front lines l sound) right in
    let narrow = (clean_parts (is_too_wide (CommitsOn reads writes)) (is_running (steps_of lines) t)
    (item_fault (steps_of lines) t (CommitsOn reads writes)) (last_clean lines l sound)).0 in
    let d = done (ltb-false TX_VARIABLES (length (with_all writes reads)) narrow) in (
      races_law lines l sound right (commit_judged s k.0 k.1.recorded t near running all T f.clocks kept kept' f.latests reads writes
          judged d.0 d.1),
      followed_push lines l T' kept' over' (commit_clocks s k.0 k.1.recorded t near running all T f.clocks kept kept' f.latests reads
          writes T' judged d.2)
          (commit_stands s k.0 k.1.recorded t near running all T f.clocks kept kept' f.latests reads writes judged d.1)
          (λ u. ap (λ bs. slice_index_or bs u false) same_over ∙ f.ended u ∙ sym (or_false (is_ended (steps_of lines) u))),
    )
