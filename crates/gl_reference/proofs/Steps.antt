-- A line more: what the judge keeps follows it, and what it said of it is right.
use Rattle.std.proofs.Common.{◌≡◌, ℕ, ◌≤◌, List, [], ◌∷◌, ◌++◌, length, map, refl, sym, ◌∙◌, ap, subst, arith, Ok, Err, Some, None, true, false, Bool}
use Rattle.std.specs.Prelude.{Result, Option, ◌||◌, ◌↔◌, IfOk, IsTrue, Contains, slice_index_or}
use Rattle.std.proofs.lemmas.Bool.{ltb-false}
use Rattle.gl_model.specs.declared.event.Act.{Act}
use Rattle.gl_model.specs.declared.event.Act.TheVariants.{Join}
use Rattle.gl_model.specs.declared.event.Event.TheVariants.{Commit as Commits}
use Rattle.gl_model.specs.declared.event.Stamp.{Stamp}
use Rattle.gl_model.specs.declared.limits.TheConstants.{TX_VARIABLES}
use Rattle.gl_model.specs.declared.row.Item.{Item}
use Rattle.gl_model.specs.declared.row.Item.TheVariants.{Act as Acts, Access, Commit as CommitsOn}
use Rattle.gl_model.specs.declared.row.Judged.{Judged}
use Rattle.gl_model.specs.declared.row.Judged.TheVariants.{NoAccess, Performed as WasPerformed, Raised}
use Rattle.gl_model.specs.Machine.{State, Running}
use Rattle.gl_model.specs.Records.{IsPlain, Writes}
use Rattle.gl_model.specs.Rising.{Rises, with_all}
use Rattle.gl_model.specs.Trace.{Line, AreVerdicts, is_in}
use Rattle.gl_model.specs.TraceSteps.{item_joins, act_joins, is_ended, is_running, is_too_wide, item_fault}
use Rattle.gl_reference.specs.Races.{IsRacyNext as IsRacyBy, IsPartOf, IsRacyPart, IsFirstRacy}
use Rattle.gl_reference.specs.declared.races.Performed.{Performed}
use Rattle.gl_reference.specs.declared.races.Next.{Next}
use Rattle.gl_reference.proofs.CommitParts.{same_part}
use Rattle.gl_draws.specs.Draws.{Draw}
use Rattle.gl_draws.specs.NextRaces.{IsRacyNext}
use Rattle.gl_lines.specs.TraceLaws.{IsJudgedBy}
use Rattle.gl_lines.specs.Traced.{Traced, block_of, entered, plain_entry, after_act as traced_act, after_item, after_line, traced}
use Rattle.gl_lines.specs.TraceStates.{steps_of, AreSound}
use Rattle.gl_draws.proofs.EntryKinds.{is_in-contains, contains-is_in}
use Rattle.gl_lines.proofs.RowNotes.{act_more}
use Rattle.gl_lines.proofs.TraceEvents.{IsRecorded}
use Rattle.gl_lines.proofs.TraceLawProofs.{sound_front, last_clean, last_runs}
use Rattle.gl_lines.proofs.TraceMachine.{or_false, ended_push, clean_parts, runs}
use Rattle.gl_lines.proofs.TracePlain.{block_here}
use Rattle.gl_lines.proofs.TraceSound.{traced_push, steps_push, sound_traced}
use Rattle.gl_lines.proofs.VerdictLaw.{entry_writes, races_law}
use Rattle.gl_reference.specs.Follows.{AreFollowed}
use Rattle.gl_reference.specs.Lines.{IsLastOf, plain_next, plain_done, part_done, PlainDone, CommitDone}
use Rattle.gl_reference.specs.Performed.{ArePerformed}
use Rattle.gl_reference.proofs.Bridge.{racy_draw, racy_kept}
use Rattle.gl_reference.proofs.Growth.{raised_kept, plain_kept, refused_kept, commit_kept}
use Rattle.gl_reference.proofs.Places.{place_of, contains_at, less_before}

-- what follows from what holds of a success holds of it
pub if_ok_map : {A B : Type 0} (r : Result A B) (P Q : A → Type 0) → IfOk r P → ((a : A) → P a → Q a) → IfOk r Q
if_ok_map (Ok a) P Q k f = f a k
if_ok_map (Err e) P Q k f = tt

-- a line, by thread, item and what was said of it
abbrev pub line : ℕ → Item → Judged → Line
line t item judged = record { thread = t; item = item; judged = judged }

-- after sound lines that the judge follows, the next one is judged rightly and followed
abbrev pub Stepped : ℕ → Item → Judged → List Stamp → List Performed → List Bool → List Stamp → List Performed → List Bool → Type 0
Stepped t item judged h ps over h' ps' over' =
    (lines : List Line) → AreSound (lines ++ line t item judged ∷ []) → AreVerdicts lines → AreFollowed lines h ps over →
    AreVerdicts (lines ++ line t item judged ∷ []) × AreFollowed (lines ++ line t item judged ∷ []) h' ps' over'

-- where the events, the performed accesses and who has ended are those after one line more, the judge has followed that line too
followed_push : (lines : List Line) (l : Line) (h : List Stamp) (ps : List Performed) (over : List Bool) → h
    ≡ (after_line l (traced lines)).history → ArePerformed (after_line l (traced lines)).draws ps
    → ((u : ℕ) → slice_index_or over u false ≡ (is_ended (steps_of lines) u || item_joins u l.item))
    → AreFollowed (lines ++ l ∷ []) h ps over
followed_push lines l h ps over e performed ended = record {
  events = e ∙ ap (λ (s : Traced). s.history) (sym (traced_push lines l));
  performed = subst (λ (s : Traced). ArePerformed s.draws ps) (sym (traced_push lines l)) performed;
  ended = λ u. ended u ∙ sym (ended_push (steps_of lines) (l.thread, l.item) u) ∙ ap (λ ss. is_ended ss u) (sym (steps_push lines l));
}

-- a line that is no access is followed where its events and who has ended are
pub stepped_act : (t : ℕ) (act : Act) (h h' : List Stamp) (ps ps' : List Performed) (over over' : List Bool) (joined : Bool) → ps' ≡ ps
    → ((u : ℕ) → act ≡ Join u → joined ≡ slice_index_or over u false) →
    ((s : Traced) → s.history ≡ h → ((u : ℕ) → act ≡ Join u → joined ≡ s.tracing.ended u) → h' ≡ (traced_act t act s).history)
    → ((u : ℕ) → slice_index_or over' u false ≡ (slice_index_or over u false || act_joins u act)) →
    Stepped t (Acts act) NoAccess h ps over h' ps' over'
stepped_act t act h h' ps ps' over over' joined same joins events ends lines sound right f =
    let l = line t (Acts act) NoAccess in
    let s = traced lines in
    let k = sound_traced lines (sound_front lines l sound) in
    let e : h' ≡ (traced_act t act s).history = events s (sym f.events) (λ u is. joins u is ∙ f.ended u ∙ sym (k.1.ended u)) in
    let performed : ArePerformed (traced_act t act s).draws ps' =
    subst (λ (ds : ℕ → List Draw). ArePerformed ds ps') (sym (act_more t act s).2) (subst (ArePerformed s.draws) (sym same) f.performed)
    in (
      races_law lines l sound right refl,
      followed_push lines l h' ps' over' e performed (λ u. ends u
          ∙ ap (λ b. b || act_joins u act) (f.ended u)),
    )

-- a plain access is no event: the events stay
plain_history : (t x : ℕ) (write : Bool) (judged : Judged) (s : Traced) → s.history ≡ (after_item t (Access x write) judged s).history
plain_history t x write NoAccess s = refl
plain_history t x write WasPerformed s = refl
plain_history t x write (Raised var) s = refl

-- a plain access that is raised exactly where it races is judged by its variable
plain_judged : (s : Traced) (ps ps' : List Performed) (t x : ℕ) (write : Bool) (judged : Judged) → ArePerformed s.draws ps
    → PlainDone s.history ps t x write judged ps'
    → IsJudgedBy (λ y. IsRacyNext s.history y (s.draws y) t None (entered (Access x write) judged s)) (Access x write) judged
plain_judged s ps ps' t x write NoAccess are d = d
plain_judged s ps ps' t x write WasPerformed are d =
    λ y a racy. d.0 (racy_kept s.history s.draws ps are (plain_next t x write) (plain_entry x write false s) (λ e. tt, λ w. refl)
    (λ e. (refl, e), λ w. w.1) (subst (λ z. IsRacyNext s.history z (s.draws z) t None (plain_entry x write false s)) (sym a) racy))
plain_judged s ps ps' t x write (Raised var) are d = (
  sym d.0,
  subst (λ z. IsRacyNext s.history z (s.draws z) t None (plain_entry x write true s)) (sym d.0)
      (racy_draw s.history s.draws ps are (plain_next t x write) (plain_entry x write true s) (λ e. tt, λ w. refl)
      (λ e. (refl, e), λ w. w.1)
      d.1),
  λ y less a racy. let e = d.0 in omega arith,
)

-- the accesses that the judge keeps are the performed ones after a plain line too
plain_performed : (s : Traced) (ps ps' : List Performed) (t x : ℕ) (write : Bool) (judged : Judged) → IsLastOf s.history t (block_of t s)
    → ArePerformed s.draws ps → PlainDone s.history ps t x write judged ps'
    → ArePerformed (after_item t (Access x write) judged s).draws ps'
plain_performed s ps ps' t x write NoAccess last are d = absurd d
plain_performed s ps ps' t x write WasPerformed last are d = plain_kept s t x write ps ps' d.1.0 (d.1.1 (block_of t s) last) d.1.2 are
plain_performed s ps ps' t x write (Raised var) last are d = raised_kept s t x write ps ps' d.2 are

-- a plain line that is raised exactly where it races, and else kept, is followed
pub stepped_plain : (t x : ℕ) (write : Bool) (judged : Judged) (h h' : List Stamp) (ps ps' : List Performed) (over over' : List Bool) → h'
    ≡ h → over' ≡ over → PlainDone h ps t x write judged ps' → Stepped t (Access x write) judged h ps over h' ps' over'
stepped_plain t x write judged h h' ps ps' over over' same_events same_over done lines sound right f =
    let l = line t (Access x write) judged in
    let s = traced lines in
    let k = sound_traced lines (sound_front lines l sound) in
    let running = runs (steps_of lines) k.0 k.1.state t (last_runs lines l sound) in
    let b = block_here s k.0 k.1.recorded t running in
    let last : IsLastOf s.history t (block_of t s) = record { event = b.event; here = b.here; own = b.own; last = b.upto } in
    let d : PlainDone s.history ps t x write judged ps' = subst (λ z. PlainDone z ps t x write judged ps') f.events done in (
      races_law lines l sound right (plain_judged s ps ps' t x write judged f.performed d),
      followed_push lines l h' ps' over' (same_events ∙ f.events ∙ plain_history t x write judged s)
          (plain_performed s ps ps' t x write judged last f.performed d) (λ u. ap (λ bs. slice_index_or bs u false) same_over ∙ f.ended u
          ∙ sym (or_false (is_ended (steps_of lines) u))),
    )

-- a commit
module _ (s : Traced) (now : State) (r : IsRecorded s now) (t : ℕ) (running : now.threads t ≡ Running) (reads writes : List ℕ)
    (ps : List Performed) (are : ArePerformed s.draws ps) where
  abbrev next_part : ℕ → Next
  next_part y = record { thread = t; var = y; write = is_in y writes; variables = Some (with_all writes reads) }

  -- the next access of y is the part on y of the commit
  is_part : (y : ℕ) → IsPartOf t (with_all writes reads) writes y (next_part y)
  is_part y = (refl, refl, refl, (is_in-contains y writes, contains-is_in y writes))

  -- however the commit is judged, that its parts have no variables and that its entry is plain are equally false
  not_plain : (judged : Judged) → (Some (with_all writes reads) ≡ None) ↔ IsPlain (entered (CommitsOn reads writes) judged s)
  not_plain NoAccess = (λ e. absurd (cc), λ w. absurd w)
  not_plain WasPerformed = (λ e. absurd (cc), λ w. absurd w)
  not_plain (Raised var) = (λ e. absurd (cc), λ w. absurd w)

  -- the commit's part on one of its variables is a write exactly where the commit's entry writes that variable
  part_writes : (judged : Judged) (y : ℕ) → Contains (with_all writes reads) y
      → (is_in y writes ≡ true) ↔ Writes (entered (CommitsOn reads writes) judged s) y
  part_writes judged y c =
      let w = entry_writes s now r t running (CommitsOn reads writes) judged y c in
      (λ i. w.1 (is_in-contains y writes i), λ x. contains-is_in y writes (w.0 x))

  abbrev Racy : Judged → ℕ → Type 0
  Racy judged y = IsRacyNext s.history y (s.draws y) t (Some (with_all writes reads)) (entered (CommitsOn reads writes) judged s)

  -- where the commit's entry is racy on one of its variables by the draws, its part there is racy by the events and performed accesses
  part_racy : (judged : Judged) (y : ℕ) → Contains (with_all writes reads) y → Racy judged y
      → IsRacyPart s.history ps t (with_all writes reads) writes y
  part_racy judged y c racy = (
    next_part y,
    is_part y,
    racy_kept s.history s.draws ps are (next_part y)
        (entered (CommitsOn reads writes) judged s) (not_plain judged) (part_writes judged y c) racy,
  )

  -- where the commit's part on one of its variables is racy by the events and performed accesses, its entry is racy there by the draws
  racy_part : (judged : Judged) (y : ℕ) → Contains (with_all writes reads) y → IsRacyPart s.history ps t (with_all writes reads) writes y
      → Racy judged y
  racy_part judged y c w =
      let racy : IsRacyBy s.history ps (next_part y) =
      subst (IsRacyBy s.history ps) (same_part s.history ps t (with_all writes reads) writes y w.0 (next_part y) w.1 (is_part y)) w.2 in
      racy_draw s.history s.draws ps are (next_part y) (entered (CommitsOn reads writes) judged s) (not_plain judged)
      (part_writes judged y c) racy

  -- what was done with the commit judges it right: performed, it is racy on none of its
  -- variables; raised, it is so on the variable named, the least such one
  commit_judged : (h' : List Stamp) (ps' : List Performed) (judged : Judged) → Rises (with_all writes reads)
      → CommitDone s.history ps t (with_all writes reads) writes judged h' ps' → IsJudgedBy (Racy judged) (CommitsOn reads writes) judged
  commit_judged h' ps' NoAccess rising d = d
  commit_judged h' ps' WasPerformed rising d = λ y c racy. let place = place_of (with_all writes reads) y c
      in d.0 place.0 y place.1 (part_racy WasPerformed y c racy)
  commit_judged h' ps' (Raised var) rising d =
      let first = d.0 in
      let c = contains_at (with_all writes reads) first.0 var first.1 in (
        c,
        racy_part (Raised var) var c first.2,
        λ y less k racy. let place = place_of (with_all writes reads) y k
            in first.3 place.0 y (less_before (with_all writes reads) first.0 place.0 var y rising first.1 place.1 less) place.1
            (part_racy (Raised var) y k racy),
      )

  -- the accesses that are kept after the commit are the performed accesses of the draws after it
  commit_performed : (h' : List Stamp) (ps' : List Performed) (judged : Judged)
      → CommitDone s.history ps t (with_all writes reads) writes judged h' ps'
      → ArePerformed (after_item t (CommitsOn reads writes) judged s).draws ps'
  commit_performed h' ps' NoAccess d = absurd d
  commit_performed h' ps' WasPerformed d = commit_kept s t reads writes ps ps' (length s.history) (sym r.next) d.2 are
  commit_performed h' ps' (Raised var) d = refused_kept s t reads writes var ps ps' d.2 are

  -- the events that are kept after the commit are those of the trace after it
  commit_history : (h' : List Stamp) (ps' : List Performed) (judged : Judged)
      → CommitDone s.history ps t (with_all writes reads) writes judged h' ps' → h'
      ≡ (after_item t (CommitsOn reads writes) judged s).history
  commit_history h' ps' NoAccess d = absurd d
  commit_history h' ps' WasPerformed d = d.1
  commit_history h' ps' (Raised var) d = d.1

-- a commit line that is refused for its first race, and else kept, is followed
pub stepped_commit : (t : ℕ) (reads writes : List ℕ) (judged : Judged) (h h' : List Stamp) (ps ps' : List Performed)
    (over over' : List Bool) → over' ≡ over →
    ((variables : List ℕ) × Rises variables × (length (with_all writes reads) ≤ TX_VARIABLES → variables ≡ with_all writes reads)
    × CommitDone h ps t variables writes judged h' ps') → Stepped t (CommitsOn reads writes) judged h ps over h' ps' over'
stepped_commit t reads writes judged h h' ps ps' over over' same_over done lines sound right f =
    let l = line t (CommitsOn reads writes) judged in
    let s = traced lines in
    let k = sound_traced lines (sound_front lines l sound) in
    let running = runs (steps_of lines) k.0 k.1.state t (last_runs lines l sound) in
    let narrow = (clean_parts (is_too_wide (CommitsOn reads writes)) (is_running (steps_of lines) t)
    (item_fault (steps_of lines) t (CommitsOn reads writes)) (last_clean lines l sound)).0 in
    let are : done.0 ≡ with_all writes reads = done.2 (ltb-false TX_VARIABLES (length (with_all writes reads)) narrow) in
    let rising : Rises (with_all writes reads) = subst Rises are done.1 in
    let d : CommitDone s.history ps t (with_all writes reads) writes judged h' ps' =
    subst (λ z. CommitDone z ps t (with_all writes reads) writes judged h' ps') f.events
    (subst (λ vs. CommitDone h ps t vs writes judged h' ps') are done.3) in (
      races_law lines l sound right (commit_judged s k.0 k.1.recorded t running reads writes ps f.performed h' ps' judged rising d),
      followed_push lines l h' ps' over' (commit_history s k.0 k.1.recorded t running reads writes ps f.performed h' ps' judged d)
          (commit_performed s k.0 k.1.recorded t running reads writes ps f.performed h' ps' judged d)
          (λ u. ap (λ bs. slice_index_or bs u false) same_over ∙ f.ended u ∙ sym (or_false (is_ended (steps_of lines) u))),
    )

-- what the judge does with an access, and with a commit
module _ (h h0 : List Stamp) (ps ps0 ps1 : List Performed) (t x : ℕ) (write b : Bool) (events : h0 ≡ h) (kept : ps0 ≡ ps1) (same : ps1
    ≡ ps) (test : IsTrue b ↔ IsRacyBy h0 ps0 (plain_next t x write)) where
  -- an answer that tells whether a plain access is racy over h0 and ps0 tells it over h and ps, which are the same
  asked_plain : IsTrue b ↔ IsRacyBy h ps (plain_next t x write)
  asked_plain = subst (λ z. IsTrue b ↔ IsRacyBy z ps (plain_next t x write)) events
      (subst (λ z. IsTrue b ↔ IsRacyBy h0 z (plain_next t x write)) (kept ∙ same) test)

  -- where the answer is yes, the plain access is raised, as it has to be, and the accesses that are kept stay
  pub done_raised : b ≡ true → PlainDone h ps t x write (Raised x) ps1
  done_raised e = (refl, asked_plain.0 e, same)

  -- where the answer is no, the plain access is performed, as it has to be, and kept in the block of its thread's last event
  pub done_performed : (h2 : List Stamp) (block : ℕ) (ps' : List Performed) → b ≡ false → h2 ≡ h → ((p : ℕ) → IsLastOf h2 t p → block ≡ p)
      → ps' ≡ ps1 ++ plain_done block t x write ∷ [] → PlainDone h ps t x write WasPerformed ps'
  done_performed h2 block ps' e here last is = (
    λ racy. let found = asked_plain.1 racy in absurd (cc),
    (
      block,
      subst (λ z. (p : ℕ) → IsLastOf z t p → block ≡ p) here last,
      is
          ∙ ap (λ z. z ++ plain_done block t x write ∷ []) same,
    ),
  )

module _ (h h0 h1 : List Stamp) (ps ps0 ps1 : List Performed) (t : ℕ) (variables writes : List ℕ) (o : Option ℕ) (events : h0 ≡ h1)
    (same_events : h1 ≡ h) (kept : ps0 ≡ ps1) (same : ps1 ≡ ps) (first : IsFirstRacy h0 ps0 t variables writes o) where
  -- a commit's first racy variable over h0 and ps0, or that there is none, is the same over h and ps
  asked_commit : IsFirstRacy h ps t variables writes o
  asked_commit = subst (λ z. IsFirstRacy z ps t variables writes o) (events ∙ same_events)
      (subst (λ z. IsFirstRacy h0 z t variables writes o) (kept ∙ same) first)

  -- where the commit is first racy on var, it is refused for var, as it has to be, and the events and the kept accesses stay
  pub done_refused : (var : ℕ) → o ≡ Some var → CommitDone h ps t variables writes (Raised var) h1 ps1
  done_refused var e = (subst (IsFirstRacy h ps t variables writes) e asked_commit, same_events, same)

  -- where it is racy on none of its variables, it is performed, as it has to be: it is an event, and its parts are kept in that block
  pub done_committed : (h' : List Stamp) (block : ℕ) (ps' : List Performed) → o ≡ None → h' ≡ h1
      ++ record { thread = t; event = Commits variables } ∷ [] → block ≡ length h1 → ps' ≡ ps1
      ++ map (part_done block t variables writes) variables → CommitDone h ps t variables writes WasPerformed h' ps'
  done_committed h' block ps' e is at all = (
    subst (IsFirstRacy h ps t variables writes) e asked_commit,
    is ∙ ap (λ z. z ++ record { thread = t; event = Commits variables } ∷ []) same_events,
    all ∙ ap (λ z. z ++ map (part_done block t variables writes) variables) same
        ∙ ap (λ b. ps ++ map (part_done b t variables writes) variables) (at ∙ ap length same_events),
  )
