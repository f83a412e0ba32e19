-- The laws of traces.
use Rattle.std.proofs.Common.{◌≡◌, ℕ, zero, suc, ◌+◌, ◌≤◌, List, [], ◌∷◌, ◌++◌, length, take, refl, ap, subst, sym, ◌∙◌, inl, inr, arith, Some, None, true, false, Bool, length-append, add-one}
use Rattle.std.specs.Prelude.{slice_get, if◌then◌else◌}
use Rattle.std.proofs.lemmas.List.{take_all, take-append-le, length-map}
use Rattle.std.proofs.lemmas.Option.{slice_get_cases, slice_get_within}
use Rattle.std.proofs.lemmas.Bool.{cases_lt}
use Rattle.gl_model.specs.declared.event.Act.{Act}
use Rattle.gl_model.specs.declared.event.Act.TheVariants.{Begin, End, Acq, Rel, VRead, VWrite, Fork, Join, Alloc, Print, Input, Fail}
use Rattle.gl_model.specs.declared.row.Item.{Item}
use Rattle.gl_model.specs.declared.row.Item.TheVariants.{Act as Acts, Access, Commit as CommitsOn}
use Rattle.gl_model.specs.declared.row.Judged.{Judged}
use Rattle.gl_model.specs.declared.row.Judged.TheVariants.{NoAccess, Performed, Raised}
use Rattle.gl_model.specs.Machine.{State}
use Rattle.gl_model.specs.Records.{Lists, Place}
use Rattle.gl_model.specs.Trace.{Line, Tracing, with_item, with_line, after_lines, last_place, IsJudgedRightly, AreVerdicts}
use Rattle.gl_model.specs.TraceSteps.{Step as Said, IsStep, is_running, is_too_wide, item_fault, step_fault}
use Rattle.gl_lines.specs.TraceLaws.{lists_behind, TraceIsAllowed, RunsAsSaid, AreTraced, TraceIsTied, VerdictsHold}
use Rattle.gl_lines.specs.Traced.{Traced, with_event, with_last, after_act, after_item, after_line, after_each, at_first, traced, history, draws_of}
use Rattle.gl_lines.specs.TraceStates.{steps_of, AreSound}
use Rattle.gl_draws.specs.Verdicts.{DrawsHold}
use Rattle.gl_lines.proofs.TraceLines.{IsTraced}
use Rattle.gl_lines.proofs.TraceMachine.{clean_parts, runs, runs_back}
use Rattle.gl_lines.proofs.TraceSound.{each_push, steps_push, take_one, step_at, up_to, sound_traced}
use Rattle.gl_lines.proofs.TraceVerdicts.{item_holds}

-- the events of a line that is no access leave the record that they leave by themselves
act_tracing : (t : ℕ) (act : Act) (s : Traced) → (after_act t act s).tracing ≡ with_line t act s.tracing
act_tracing t (Begin f) s = refl
act_tracing t End s = refl
act_tracing t (Acq o) s = refl
act_tracing t (Rel o) s = refl
act_tracing t (VRead v) s = refl
act_tracing t (VWrite v) s = refl
act_tracing t (Fork u f) s = refl
act_tracing t (Join u) s = here (s.tracing.ended u)
  where
    here : (b : Bool) → (if b then with_event t (Join u) s else with_event t (Join u) (with_last u s)).tracing
        ≡ (if b then (with_event t (Join u) s).tracing else (with_event t (Join u) (with_last u s)).tracing)
    here true = refl
    here false = refl
act_tracing t (Alloc c) s = refl
act_tracing t Print s = refl
act_tracing t Input s = refl
act_tracing t (Fail c) s = refl

-- a line leaves the record that it leaves by itself
item_tracing : (t : ℕ) (item : Item) (judged : Judged) (s : Traced) → (after_item t item judged s).tracing
    ≡ with_item t item judged s.tracing
item_tracing t (Acts act) judged s = act_tracing t act s
item_tracing t (Access x write) NoAccess s = refl
item_tracing t (Access x write) Performed s = refl
item_tracing t (Access x write) (Raised var) s = refl
item_tracing t (CommitsOn reads writes) NoAccess s = refl
item_tracing t (CommitsOn reads writes) Performed s = refl
item_tracing t (CommitsOn reads writes) (Raised var) s = refl

-- lines leave the record that they leave by themselves
pub each_tracing : (lines : List Line) (s : Traced) → (after_each lines s).tracing ≡ after_lines lines s.tracing
each_tracing [] s = refl
each_tracing (l ∷ lines) s = each_tracing lines (after_line l s) ∙ ap (after_lines lines) (item_tracing l.thread l.item l.judged s)

-- the lists that are followed are those of the record after the lines
pub lists_are : (lines : List Line) → (traced lines).tracing.lists ≡ lists_behind lines
lists_are lines = ap (λ (t : Tracing). t.lists) (each_tracing lines at_first)

-- what stands at k in a list stands there in a longer one that begins with it
get_front : {A : Type 0} (xs ys : List A) (k : ℕ) (x : A) → slice_get xs k ≡ Some x → slice_get (xs ++ ys) k ≡ Some x
get_front [] ys k x e = absurd (cc)
get_front (z ∷ xs) ys zero x e = e
get_front (z ∷ xs) ys (suc k) x e = get_front xs ys k x e

-- the new member stands at the end
pub get_last : {A : Type 0} (xs : List A) (x : A) → slice_get (xs ++ x ∷ []) (length xs) ≡ Some x
get_last [] x = refl
get_last (z ∷ xs) x = get_last xs x

module _ (lines : List Line) (l : Line) (sound : AreSound (lines ++ l ∷ [])) where
  -- the step of the last line: its thread and its item
  said : Said
  said = (l.thread, l.item)

  -- there are as many steps as lines
  count : length (steps_of lines) ≡ length lines
  count = length-map lines (λ (m : Line). (m.thread, m.item))

  -- the lines before the last one are sound
  pub sound_front : AreSound lines
  sound_front = record {
    in_range = λ k m e. sound.in_range k m (get_front lines (l ∷ []) k m e);
    clean = λ k s e.
        let near = slice_get_within (steps_of lines) k s e in
        let f = sound.clean k s (subst (λ ss. slice_get ss k ≡ Some s) (sym (steps_push lines l))
        (get_front (steps_of lines) ((l.thread, l.item) ∷ []) k s e)) in
        subst (λ ss. step_fault ss s.0 s.1 ≡ None) (ap (take k) (steps_push lines l)
        ∙ take-append-le k (steps_of lines) ((l.thread, l.item) ∷ []) (omega arith)) f;
  }

  -- the last line is one that a trace can have
  pub last_in_range : IsStep (l.thread, l.item)
  last_in_range = sound.in_range (length lines) l (get_last lines l)

  -- it has no fault behind those before it
  pub last_clean : step_fault (steps_of lines) l.thread l.item ≡ None
  last_clean =
      let e : slice_get (steps_of lines ++ (l.thread, l.item) ∷ []) (length (steps_of lines))
      ≡ Some (l.thread, l.item) = get_last (steps_of lines) (l.thread, l.item) in
      let f = sound.clean (length (steps_of lines)) (l.thread, l.item)
      (subst (λ ss. slice_get ss (length (steps_of lines)) ≡ Some (l.thread, l.item)) (sym (steps_push lines l)) e) in
      let front : take (length (steps_of lines)) (steps_of (lines ++ l ∷ []))
      ≡ steps_of lines = ap (take (length (steps_of lines))) (steps_push lines l)
      ∙ (take-append-le (length (steps_of lines)) (steps_of lines) ((l.thread, l.item) ∷ []) (omega arith)
      ∙ take_all (length (steps_of lines)) (steps_of lines) (omega arith)) in
      subst (λ ss. step_fault ss l.thread l.item ≡ None) front f

  -- its thread runs behind those before it
  pub last_runs : is_running (steps_of lines) l.thread ≡ true
  last_runs = (clean_parts (is_too_wide l.item) (is_running (steps_of lines) l.thread) (item_fault (steps_of lines) l.thread l.item)
      last_clean).1

-- what is said of a line, in the record behind it
abbrev pub JudgedThere : List Line → Line → Type 0
JudgedThere lines l = IsJudgedRightly (lists_behind lines) (last_place (lists_behind lines) l.thread) l.item l.judged

-- verdicts and one more that is right in its record are verdicts
pub verdicts_push : (lines : List Line) (l : Line) → AreVerdicts lines → JudgedThere (lines ++ l ∷ []) l → AreVerdicts (lines ++ l ∷ [])
verdicts_push lines l all last k m e = elim (cases_lt k (length lines)) [
  | inl near ↦
      (let c = (slice_get_cases lines k).1 in
      elim c [
        | inl d ↦
            (let there = get_front lines (l ∷ []) k d.0 d.2 in
            let same : d.0 ≡ m = (let a = there in cc) in
            let front : take (k + 1) lines ≡ take (k + 1) (lines ++ l ∷ []) = sym (take-append-le (k + 1) lines (l ∷ []) (omega arith)) in
            subst (λ ls. JudgedThere ls m) front (all k m (d.2 ∙ ap Some same)))
        | inr d ↦ absurd (let z = d.0 in omega arith)
      ])
  | inr far ↦
      (let n = slice_get_within (lines ++ l ∷ []) k m e in
      let here : k ≡ length lines = omega (arith, length-append lines (l ∷ [])) in
      let at = get_last lines l in
      let e' : slice_get (lines ++ l ∷ []) (length lines) ≡ Some m = subst (λ j. slice_get (lines ++ l ∷ []) j ≡ Some m) here e in
      let same : l ≡ m = cc in
      let whole : take (k + 1) (lines ++ l ∷ []) ≡ lines ++ l
      ∷ [] = take_all (k + 1) (lines ++ l ∷ []) (omega (arith, length-append lines (l ∷ []))) in
      subst (λ ls. JudgedThere ls m) (sym whole) (subst (λ (z : Line). JudgedThere (lines ++ l ∷ []) z) same last))
]

-- the machine allows the events of a sound trace, and its state is as the steps leave it
pub allowed_law : TraceIsAllowed
allowed_law lines sound = let t = sound_traced lines sound in (t.0, t.1.recorded.allowed, t.1.state)

-- a thread runs in that state exactly where the steps say so
pub runs_law : RunsAsSaid
runs_law lines now k t = (λ r. runs_back (steps_of lines) now k t r, λ r. runs (steps_of lines) now k t r)

-- the lists of a sound trace are those of its events and draws, without a repeat
pub tied_law : TraceIsTied
tied_law lines sound = let t = sound_traced lines sound in made t.0 t.1
  where
    made : (now : State) → IsTraced (steps_of lines) (traced lines) now → AreTraced lines
    made now t = record {
      events = subst (λ (R : Lists). (u : ℕ) → Rattle.gl_draws.specs.Events.AreEvents (history lines) u (R u)) (lists_are lines)
          t.recorded.events;
      tied = record {
        at = subst (λ (R : Lists). (u : ℕ) → Rattle.gl_draws.specs.Ties.AreDrawn (draws_of lines) u (R u) [])
            (lists_are lines) t.recorded.drawn;
      };
      alone = subst (λ (R : Lists). (c : Place) (e : Rattle.gl_model.specs.Entries.Entry) → Rattle.gl_model.specs.Records.EntryAt R c e
          → Rattle.gl_draws.specs.Ties.IsRepeat e → ⊥) (lists_are lines) t.recorded.alone;
    }

module _ (lines : List Line) (sound : AreSound lines) (right : AreVerdicts lines) where
  -- after the first k lines what is said of each draw so far holds
  holds_to : (k : ℕ) → k ≤ length lines → (x : ℕ)
      → DrawsHold (after_each (take k lines) at_first).history x ((after_each (take k lines) at_first).draws x)
  holds_to zero le x = tt
  holds_to (suc k) le x = elim ((slice_get_cases lines k).1) [
    | inl c ↦
        (let e : slice_get lines k ≡ Some c.0 = c.2 in
        let l = c.0 in
        let before = up_to lines sound k (omega arith) in
        let s = after_each (take k lines) at_first in
        let clean = sound.clean k (l.thread, l.item) (step_at lines sound k l e) in
        let parts = clean_parts (is_too_wide l.item) (is_running (take k (steps_of lines)) l.thread)
        (item_fault (take k (steps_of lines)) l.thread l.item) clean in
        let running = runs (take k (steps_of lines)) before.0 before.1.state l.thread parts.1 in
        let more : k + 1 ≡ suc k = add-one k in
        let whole : after_each (take (suc k) lines) at_first ≡ after_line l s = ap (λ ls. after_each ls at_first) (take_one lines k l e)
        ∙ each_push (take k lines) l at_first in
        let lists : lists_behind (take (k + 1) lines) ≡ (after_line l s).tracing.lists = ap (λ n. lists_behind (take n lines)) more
        ∙ sym (lists_are (take (suc k) lines)) ∙ ap (λ (z : Traced). z.tracing.lists) whole in
        let judged : IsJudgedRightly (after_line l s).tracing.lists (last_place (after_line l s).tracing.lists l.thread) l.item l.judged =
        subst (λ (R : Lists). IsJudgedRightly R (last_place R l.thread) l.item l.judged) lists (right k l e) in
        subst (λ (z : Traced). (x : ℕ) → DrawsHold z.history x (z.draws x)) (sym whole)
        (item_holds s before.0 before.1.recorded l.thread running (λ y. holds_to k (omega arith) y) l.item l.judged judged) x)
    | inr c ↦ absurd (let m = c.0 in omega arith)
  ]

-- where the verdicts are right, what they say of each draw holds
pub hold_law : VerdictsHold
hold_law lines sound right = subst (λ ls. (x : ℕ) → DrawsHold (history ls) x (draws_of ls x)) (take_all (length lines) lines (omega arith))
    (holds_to lines sound right (length lines) (omega arith))
