-- Lines of a trace with what was said of each, one after another.
use Rattle.std.proofs.Common.{cond, ◌*◌, Option, None, IfSome, IfOk, ◌≡◌, ◌+◌, ◌≤◌, ◌<◌, ℕ, suc, append-nil, List, [], ◌∷◌, ◌++◌, Some, Result, Ok, Err, OnOk, All, refl, ap, sym, subst, ◌∙◌, length, length-append, get_or, map, arith, if◌then◌else◌, ◌==◌}
use Rattle.std.specs.Prelude.{option_map}
use Rattle.std.specs.List.{slice_get, count_by, flat_map}
use Rattle.std.proofs.lemmas.Grind.{flat_map-append}
use Rattle.std.proofs.Math.Seq.{get_or-append_seam}
use Rattle.std.proofs.lemmas.Bool.{ne_eqb}
use Rattle.std.proofs.lemmas.List.Sums.{sum_by-append, count_by-le-length}
use Rattle.std.proofs.lemmas.List.{map-append}
use Rattle.std.proofs.lemmas.Option.{slice_get_within, slice_get-map, get_or_from_slice_get}
use Rattle.gl_core.specs.Follows.{Follows, IsStepped}
use Rattle.gl_core.specs.declared.detector.Detector.{Detector}
use Rattle.gl_lines.specs.TraceStates.{AreSound}
use Rattle.gl_lines.specs.TraceStates.{steps_of as record_steps}
use Rattle.gl_model.specs.declared.row.Judged.{Judged}
use Rattle.gl_model.specs.declared.row.Judged.TheVariants.{NoAccess, Performed, Raised}
use Rattle.gl_model.specs.Trace.{Line, AreVerdicts}
use Rattle.gl_model.specs.TraceSteps.{Step, IsStep, AreClean}
use Rattle.gl_trace.proofs.TracerLemmas.{IsLineAt, line_at}
use Rattle.gl_trace.specs.Judging.{judged_lines, line_of}
use Rattle.gl_trace.specs.Reads.{IsReadTo}
use Rattle.gl_trace.specs.Trace.{AreLines}
use Rattle.gl_trace.specs.TraceLine.{TraceLine, step_of, steps_of}
use Rattle.gl_trace.specs.Traced.{IsUpTo}
use Rattle.gl_trace.specs.Verdicts.{is_race, verdict_line, verdicts_said, races_line, said_text}
use Rattle.gl_trace.specs.declared.reader.TraceReader.{TraceReader}
use Rattle.gl_trace.specs.declared.tracer.Tracer.{Tracer}
use Rattle.gl_run.specs.Check.{Said, lines_said, status_of}
use Rattle.gl_run.specs.Recording.{IsRecorded}
use Rattle.gl_run.specs.Said.{IsSaid}
use Rattle.gl_run.specs.declared.verdicts.Verdicts.{Verdicts}
use Rattle.gl_run.proofs.JudgedLines.{verdicts_judged}

-- the text of what was said of a line
abbrev pub verdict_of : Said → List ℕ
verdict_of p = verdict_line p.0.0 p.1

-- the lines that the reader has given, and what was said of them
pub record AreChecked (text : List ℕ) (reader : TraceReader) (v : Verdicts) : Type 0 where
  pub done : List Said
  pub read : IsReadTo text (lines_said done) reader
  pub said : IsSaid done v

-- the lines and verdicts of what was said, taken apart and put together, are what was said
split : (done : List Said) → judged_lines (lines_said done) (verdicts_said done) ≡ done
split [] = refl
split (p ∷ ps) = ap (λ r. p ∷ r) (split ps)

-- the lines of what was said, with one more, are the others and then its
pub lines_push : (done : List Said) (l : TraceLine) (j : Judged) → lines_said (done ++ (l, j) ∷ []) ≡ lines_said done ++ l ∷ []
lines_push done l j = map-append (λ (p : Said). p.0) done ((l, j) ∷ [])

-- the verdicts of what was said, with one more, are the others and then its
said_push : (done : List Said) (l : TraceLine) (j : Judged) → verdicts_said (done ++ (l, j) ∷ []) ≡ verdicts_said done ++ j ∷ []
said_push done l j = map-append (λ (p : Said). p.1) done ((l, j) ∷ [])

-- there are as many lines as was said of
lines_count : (done : List Said) → length (lines_said done) ≡ length done
lines_count [] = refl
lines_count (p ∷ ps) = ap suc (lines_count ps)

-- there are as many verdicts as was said of
said_count : (done : List Said) → length (verdicts_said done) ≡ length done
said_count [] = refl
said_count (p ∷ ps) = ap suc (said_count ps)

-- each of a list of steps is a step
step_at : (ss : List Step) → All IsStep ss → (k : ℕ) (s : Step) → slice_get ss k ≡ Some s → IsStep s
step_at ss h k s there = subst IsStep (get_or_from_slice_get ss k s s there) (h k s (slice_get_within ss k s there))

-- the steps of a record of lines are those of the lines
steps_same : (done : List Said) → record_steps (map line_of done) ≡ steps_of (lines_said done)
steps_same [] = refl
steps_same (p ∷ ps) = ap (λ r. step_of p.0 ∷ r) (steps_same ps)

-- lines that a trace can have, none of which has a fault behind those before it, are sound lines of a record, whatever was said of them
pub said_sound : (done : List Said) → All IsStep (steps_of (lines_said done)) → AreClean (steps_of (lines_said done))
    → AreSound (map line_of done)
said_sound done range clean = record {
  in_range = λ k l at.
      let s : Step = (l.thread, l.item) in
      let here : slice_get (record_steps (map line_of done)) k ≡ Some s =
      slice_get-map (λ (l : Line). (l.thread, l.item)) (map line_of done) k ∙ ap (option_map (λ (l : Line). (l.thread, l.item))) at in
      step_at (steps_of (lines_said done)) range k s (sym (ap (λ ss. slice_get ss k) (steps_same done)) ∙ here);
  clean = subst AreClean (sym (steps_same done)) clean;
}

-- what is known of one line more, where what is said of all is right
pub said_next : (done : List Said) (l : TraceLine) (j : Judged) → AreLines (lines_said done ++ l ∷ [])
    → AreVerdicts (map line_of (done ++ (l, j) ∷ [])) → IsLineAt l j
said_next done l j are right =
    let d : List Said = done ++ (l, j) ∷ [] in
    let count : length (verdicts_said d) ≡ length (lines_said d) = said_count d ∙ sym (lines_count d) in
    let judged = verdicts_judged (lines_said d) (verdicts_said d) count (subst (λ x. AreVerdicts (map line_of x)) (sym (split d)) right) in
    let below : length done < length (lines_said d) = omega (arith, lines_count d, length-append done ((l, j) ∷ [])) in
    let at = line_at (lines_said d) (verdicts_said d) (subst AreLines (sym (lines_push done l j)) are) judged (length done) l j below in
    let here : get_or (lines_said d) (length done) l ≡ l =
    ap (λ x. get_or x (length done) l) (lines_push done l j) ∙ ap (λ n. get_or (lines_said done ++ l ∷ []) n l) (sym (lines_count done))
    ∙ get_or-append_seam (lines_said done) l [] l in
    let there : get_or (verdicts_said d) (length done) j ≡ j =
    ap (λ x. get_or x (length done) j) (said_push done l j) ∙ ap (λ n. get_or (verdicts_said done ++ j ∷ []) n j) (sym (said_count done))
    ∙ get_or-append_seam (verdicts_said done) j [] j in
    subst (λ (x : TraceLine). IsLineAt x j) here (subst (λ (y : Judged). IsLineAt (get_or (lines_said d) (length done) l) y) there at)

-- one line more is counted where it is a race
pub races_push : (done : List Said) (l : TraceLine) (j : Judged) → count_by is_race (verdicts_said (done ++ (l, j) ∷ []))
    ≡ count_by is_race (verdicts_said done) + count_by is_race (j ∷ [])
races_push done l j = ap (count_by is_race) (said_push done l j) ∙ sum_by-append (λ x. cond (is_race x) 1 0) (verdicts_said done) (j ∷ [])

-- the races of a list are those of its first and of the rest
first_counted : (j : Judged) (js : List Judged) → count_by is_race (j ∷ js) ≡ count_by is_race (j ∷ []) + count_by is_race js
first_counted j js = sum_by-append (λ x. cond (is_race x) 1 0) (j ∷ []) js

-- the status is told by how many races there are
status_counted : (js : List Judged) → status_of js ≡ (if count_by is_race js == 0 then 0 else 6)
status_counted [] = refl
status_counted (NoAccess ∷ js) = status_counted js ∙ ap (λ n. if n == 0 then 0 else 6) (omega (arith, first_counted NoAccess js))
status_counted (Performed ∷ js) = status_counted js ∙ ap (λ n. if n == 0 then 0 else 6) (omega (arith, first_counted Performed js))
status_counted (Raised var ∷ js) =
    sym (ap (λ b. if b then 0 else 6) (ne_eqb (count_by is_race (Raised var ∷ js)) 0 (λ e. omega (arith, first_counted (Raised var) js))))

-- the status, made from the count of races, is that of the verdicts
pub status_end : (done : List Said) (status races : ℕ) → status ≡ (if races == 0 then 0 else 6) → races
    ≡ count_by is_race (verdicts_said done) → status ≡ status_of (verdicts_said done)
status_end done status races is count = is ∙ ap (λ n. if n == 0 then 0 else 6) count ∙ sym (status_counted (verdicts_said done))

-- what is up to a is up to a greater b
pub up_to_more : (a b : ℕ) (tracer : Tracer) → a ≤ b → IsUpTo a tracer → IsUpTo b tracer
up_to_more a b tracer h u = record { next = omega (arith, u.next); numbers = λ x below. let n = u.numbers x below in omega arith }

-- the whole text
pub text_end : (done : List Said) (bytes text : List ℕ) (races : ℕ) → bytes ≡ text ++ races_line races → text ≡ flat_map verdict_of done
    → races ≡ count_by is_race (verdicts_said done) → bytes ≡ said_text done
text_end done bytes text races whole front count =
    whole ∙ ap (λ x. x ++ races_line races) front ∙ ap (λ n. flat_map verdict_of done ++ races_line n) count

-- a record of few lines has room for one more
pub recorded_room : (lines : List Line) (most : ℕ) (tracer : Option Tracer) → 2 * length lines + 1 ≤ most → IsRecorded lines tracer
    → IfSome tracer (IsUpTo most)
recorded_room lines most None h recorded = tt
recorded_room lines most (Some tracer) h recorded = up_to_more (2 * length lines + 1) most tracer h recorded.1

-- fewer lines are races than there are lines
pub few_races : (done : List Said) → count_by is_race (verdicts_said done) ≤ length (lines_said done)
few_races done = omega (arith, count_by-le-length is_race (verdicts_said done), said_count done, lines_count done)

-- there are as many lines as was said of
pub lines_length : (done : List Said) → length (map line_of done) ≡ length (lines_said done)
lines_length [] = refl
lines_length (p ∷ ps) = ap suc (lines_length ps)

-- two things that are true of a right result are both
pub both_on_ok : {T E : Type 0} (P Q : Type 0) (r : Result T E) → OnOk r P → OnOk r Q → OnOk r (P × Q)
both_on_ok P Q (Ok x) p q = (p, q)
both_on_ok P Q (Err e) p q = tt

-- what follows from a fact about a right result is true of it
pub more_on_ok : {T E : Type 0} (P Q : Type 0) (r : Result T E) → (P → Q) → OnOk r P → OnOk r Q
more_on_ok P Q (Ok x) f p = f p
more_on_ok P Q (Err e) f p = tt

-- what the detector says of one line more
pub said_on : (done : List Said) (l : TraceLine) (j : Judged) (old new : Detector) → IsStepped l.1 l.2 j old new
    → AreVerdicts (map line_of done)
    → Follows (map line_of done) old → AreLines (lines_said done ++ l ∷ [])
    → AreVerdicts (map line_of (done ++ (l, j) ∷ [])) × Follows (map line_of (done ++ (l, j) ∷ [])) new
said_on done l j old new stepped right follows are =
    let lines : map line_of (done ++ (l, j) ∷ []) ≡ map line_of done ++ line_of (l, j) ∷ [] = map-append line_of done ((l, j) ∷ []) in
    let all = subst AreLines (sym (lines_push done l j)) are in
    let sound = subst AreSound lines (said_sound (done ++ (l, j) ∷ []) all.range all.clean) in
    let said = stepped (map line_of done) sound right follows in
    (subst AreVerdicts (sym lines) said.0, subst (λ x. Follows x new) (sym lines) said.1)

-- the text of one verdict more
pub text_push : (done : List Said) (l : TraceLine) (j : Judged) → flat_map verdict_of done ++ verdict_line l.0 j
    ≡ flat_map verdict_of (done ++ (l, j) ∷ [])
text_push done l j = sym (flat_map-append verdict_of done ((l, j) ∷ [])
    ∙ ap (λ x. flat_map verdict_of done ++ x) (append-nil (verdict_line l.0 j)))

-- what follows from a fact about what a right result gives is true of it
pub more_if_ok : {T E : Type 0} (P Q : T → Type 0) (r : Result T E) → ((x : T) → P x → Q x) → IfOk r P → IfOk r Q
more_if_ok P Q (Ok x) f p = f x p
more_if_ok P Q (Err e) f p = tt
