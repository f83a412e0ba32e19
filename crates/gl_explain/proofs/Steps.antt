-- What is known when a line is taken.
use Rattle.std.proofs.Common.{◌≡◌, ◌∙◌, ℕ, ◌+◌, ◌-◌, ◌^◌, ◌≤◌, List, [], ◌∷◌, ◌++◌, length, length-append, refl, sym, ap, subst, arith, Some, All, false}
use Rattle.std.specs.Prelude.{slice_get, string_bytes}
use Rattle.std.proofs.lemmas.List.{map-append, length-map}
use Rattle.std.proofs.lemmas.Option.{slice_get_within, get_or_from_slice_get}
use Rattle.gl_core.specs.Cells.{at}
use Rattle.gl_core.specs.EpochLaws.{known_next}
use Rattle.gl_core.specs.Follows.{Follows, IsReady, IsStepped}
use Rattle.gl_clocks.specs.Clocks.{tick}
use Rattle.gl_core.specs.declared.detector.Detector.{Detector}
use Rattle.gl_lines.specs.Traced.{history}
use Rattle.gl_lines.specs.TraceLaws.{commit_of}
use Rattle.gl_lines.specs.TraceRows.{access_at}
use Rattle.gl_lines.specs.TraceStates.{AreSound}
use Rattle.gl_lines.specs.TraceStates.{steps_of as record_steps}
use Rattle.gl_lines.proofs.TraceLawProofs.{sound_front, last_clean}
use Rattle.gl_lines.proofs.TraceMachine.{clean_parts}
use Rattle.gl_model.specs.declared.row.Judged.TheVariants.{Performed, Raised}
use Rattle.gl_model.specs.Trace.{Line, AreVerdicts}
use Rattle.gl_model.specs.TraceSteps.{Step, IsStep, IsLineItem, AreClean, is_running, is_too_wide, item_fault}
use Rattle.gl_trace.specs.Trace.{AreLines}
use Rattle.gl_trace.specs.TraceLine.{steps_of}
use Rattle.gl_explain.specs.declared.told.Told.{Told}
use Rattle.gl_explain.specs.declared.told.Kept.{Kept}
use Rattle.gl_explain.specs.declared.explainer.Explainer.{Explainer}
use Rattle.gl_explain.specs.Follows.{IsTold}
use Rattle.gl_names.specs.Names.{name_of}
use Rattle.gl_explain.specs.Written.{IsWritten}
use Rattle.gl_explain.specs.Marks.{AreKept, Tells, plain_behind}
use Rattle.gl_explain.specs.Races.{IsCulprit}
use Rattle.gl_explain.specs.Told.{line_of, lines_of, told_of, trace_line_of, trace_of, step_of}
use Rattle.gl_explain.proofs.Behind.{map_there, told}
use Rattle.gl_explain.proofs.Ordered.{tells}
use Rattle.gl_explain.proofs.Raised.{culprit_there, said_fits}
use Rattle.gl_explain.proofs.Taken.{IsSaidOf, kept_push}

-- each of a list of steps is a step
step_at : (ss : List Step) → All IsStep ss → (k : ℕ) (s : Step) → slice_get ss k ≡ Some s → IsStep s
step_at ss h k s there = subst IsStep (get_or_from_slice_get ss k s s there) (h k s (slice_get_within ss k s there))

-- the steps of the told lines are those of their trace
steps_same : (done : List Told) → record_steps (lines_of done) ≡ steps_of (trace_of done)
steps_same [] = refl
steps_same (p ∷ ps) = ap (λ r. step_of p ∷ r) (steps_same ps)

-- lines that a trace can have, none of which has a fault behind those before it, are sound lines of a record
lines_sound : (done : List Told) → AreLines (trace_of done) → AreSound (lines_of done)
lines_sound done are = record {
  in_range = λ k l at.
      let s : Step = (l.thread, l.item) in
      let here : slice_get (record_steps (lines_of done)) k
      ≡ Some s = map_there (λ (l : Line). (l.thread, l.item)) (lines_of done) k l at in
      step_at (steps_of (trace_of done)) are.range k s (sym (ap (λ ss. slice_get ss k) (steps_same done)) ∙ here);
  clean = subst AreClean (sym (steps_same done)) are.clean;
}

pub record Facts (kept : List Kept) (t : Told) (known : List ℕ) (new : Detector) : Type 0 where
  pub sound : AreSound (lines_of (told_of kept) ++ line_of t ∷ [])
  pub right : AreVerdicts (lines_of (told_of kept) ++ line_of t ∷ [])
  pub follows : Follows (lines_of (told_of kept) ++ line_of t ∷ []) new
  pub said : IsSaidOf t.item t.judged
  pub tells_so : Tells kept t known
  pub near : (i : ℕ) (k : Kept) → slice_get kept i ≡ Some k → IsLineItem k.told.item
  pub few : length kept ≤ 2 ^ 32 - 2
  pub race : (var : ℕ) → t.judged ≡ Raised var → (i : ℕ) × IsCulprit (told_of kept) t var i

-- the lines with one more are sound, if the trace of them is lines
pub sound_on : (kept : List Kept) (t : Told) → AreLines (trace_of (told_of kept) ++ trace_line_of t ∷ [])
    → AreSound (lines_of (told_of kept) ++ line_of t ∷ [])
sound_on kept t are =
    let more : trace_of (told_of kept ++ t ∷ []) ≡ trace_of (told_of kept) ++ trace_line_of t
    ∷ [] = map-append trace_line_of (told_of kept) (t ∷ []) in
    subst AreSound (map-append line_of (told_of kept) (t ∷ [])) (lines_sound (told_of kept ++ t ∷ []) (subst AreLines (sym more) are))

-- what is known before a line is taken, from the lines and what the detector keeps
pub facts : (kept : List Kept) (t : Told) (known : List ℕ) (old new : Detector)
    → AreLines (trace_of (told_of kept) ++ trace_line_of t ∷ []) → AreVerdicts (lines_of (told_of kept))
    → Follows (lines_of (told_of kept)) old → AreKept (lines_of (told_of kept)) kept →
    IsStepped t.thread t.item t.judged old new
    → ((lines : List Line) → Follows lines old → is_too_wide t.item ≡ false → (u : ℕ) → at known u
    ≡ known_next (history lines) t.thread (commit_of t.item) u) → Facts kept t known new
facts kept t known old new are right follows is_kept stepped knows =
    let lines = lines_of (told_of kept) in
    let sound = sound_on kept t are in
    let on = stepped lines sound right follows in
    let narrow = (clean_parts (is_too_wide t.item) (is_running (record_steps lines) t.thread)
    (item_fault (record_steps lines) t.thread t.item) (last_clean lines (line_of t) sound)).0 in
    let front = sound_front lines (line_of t) sound in
    record {
      sound = sound;
      right = on.0;
      follows = on.1;
      said = said_fits lines (line_of t) on.0;
      tells_so = tells kept t sound is_kept known (knows lines follows narrow);
      near = λ i k there. (front.in_range i (line_of k.told) (map_there line_of (told_of kept) i k.told (map_there told kept i k there))).1;
      few = omega (
        arith,
        are.few,
        length-append (trace_of (told_of kept)) (trace_line_of t ∷ []),
        length-map (told_of kept) trace_line_of,
        length-map kept told,
      );
      race = λ var raised. culprit_there (told_of kept) t var sound on.0 is_kept.drawn raised;
    }

-- the same of lines that are those that were kept
pub known_facts : (kept : List Kept) (done : List Told) (t : Told) (known : List ℕ) (old new : Detector) → told_of kept ≡ done
    → AreLines (trace_of done ++ trace_line_of t ∷ []) → AreVerdicts (lines_of done) → Follows (lines_of done) old
    → AreKept (lines_of done) kept →
    IsStepped t.thread t.item t.judged old new
    → ((lines : List Line) → Follows lines old → is_too_wide t.item ≡ false → (u : ℕ) → at known u
    ≡ known_next (history lines) t.thread (commit_of t.item) u) → Facts kept t known new
known_facts kept done t known old new is are right follows is_kept stepped knows =
    facts kept t known old new (subst (λ ds. AreLines (trace_of ds ++ trace_line_of t ∷ [])) (sym is) are)
    (subst (λ ds. AreVerdicts (lines_of ds)) (sym is) right) (subst (λ ds. Follows (lines_of ds) old) (sym is) follows)
    (subst (λ ds. AreKept (lines_of ds) kept) (sym is) is_kept) stepped knows

-- what the explainer has behind the line
pub told_on : (kept : List Kept) (done : List Told) (t : Told) (known : List ℕ) (own mark : ℕ) (old : Detector) (x : Explainer)
    → told_of kept ≡ done → Follows (lines_of done) old → AreKept (lines_of done) kept → Facts kept t known x.detector
    → IsReady x.detector →
    x.kept.items ≡ kept ++ record { told = t; own = own; mark = mark } ∷ [] →
    ((lines : List Line) (l : Line) → Follows lines old → AreSound (lines ++ l ∷ []) → l.thread ≡ t.thread → own
    ≡ tick (plain_behind lines t.thread) + 1) →
    ((lines : List Line) → own ≡ tick (plain_behind lines t.thread) + 1 → Follows (lines ++ line_of t ∷ []) x.detector → t.judged
    ≡ Performed → mark ≡ tick (access_at lines (line_of t)) + 1) →
    IsWritten (name_of x.writer.names) (told_of kept ++ t ∷ []) (string_bytes x.writer.text) → IsTold (done ++ t ∷ []) x
told_on kept done t known own mark old x is follows is_kept f ready items owns marks written =
    let k : Kept = record { told = t; own = own; mark = mark } in
    let lines = lines_of (told_of kept) in
    let before = subst (λ ds. Follows (lines_of ds) old) (sym is) follows in
    let were = subst (λ ds. AreKept (lines_of ds) kept) (sym is) is_kept in
    let own_is = owns lines (line_of t) before f.sound refl in
    let more : lines ++ line_of t ∷ [] ≡ lines_of (told_of kept ++ t ∷ []) = sym (map-append line_of (told_of kept) (t ∷ [])) in
    let pushed : AreKept (lines ++ line_of t ∷ []) (kept ++ k ∷ []) =
    kept_push lines kept k f.sound f.said (record { own = own_is; mark = marks lines own_is f.follows }) were in
    subst (λ ds. IsTold (ds ++ t ∷ []) x) is (record {
      right = subst AreVerdicts more f.right;
      ready = ready;
      follows = subst (λ ls. Follows ls x.detector) more f.follows;
      kept = ap told_of items ∙ map-append told kept (k ∷ []);
      are_kept = subst (λ ls. AreKept ls x.kept.items) more (subst (AreKept (lines ++ line_of t ∷ [])) (sym items) pushed);
      written = written;
    })
