-- The lists of a sound trace are shaped.
use Rattle.std.proofs.Common.{◌≡◌, ◌≢◌, ℕ, zero, suc, ◌+◌, ◌≤◌, ◌==◌, List, [], ◌∷◌, ◌++◌, length, take, refl, ap, subst, sym, ◌∙◌, inl, inr, arith, Some, None, true, false, Bool, eq-eqb, ne_eqb}
use Rattle.std.specs.Prelude.{◌||◌, if◌then◌else◌, ℤ, pos, slice_get}
use Rattle.std.proofs.lemmas.List.{take_all, length-map}
use Rattle.std.proofs.lemmas.Option.{slice_get_cases}
use native.Mathlib.Decide.{ℕ_discrete}
use Rattle.gl_model.specs.declared.event.Act.{Act}
use Rattle.gl_model.specs.declared.event.Act.TheVariants.{Begin, End, Acq, Rel, VRead, VWrite, Fork, Join, Alloc, Print, Input, Fail}
use Rattle.gl_model.specs.declared.row.Item.{Item}
use Rattle.gl_model.specs.declared.row.Item.TheVariants.{Act as Acts, Access as AccessTo, Commit as CommitsOn}
use Rattle.gl_model.specs.declared.row.Judged.{Judged}
use Rattle.gl_model.specs.declared.row.Judged.TheVariants.{NoAccess, Performed, Raised}
use Rattle.gl_model.specs.declared.row.StepFault.TheVariants.{CannotFork}
use Rattle.gl_model.specs.Entries.{Entry, Sync}
use Rattle.gl_model.specs.Records.{Lists}
use Rattle.gl_model.specs.Trace.{Line, with_entry}
use Rattle.gl_model.specs.TraceSteps.{Step as Said, IsLineItem, item_forks, is_started, is_ended, is_running, is_too_wide, item_fault, act_fault}
use Rattle.gl_lines.specs.Traced.{Traced, with_event, with_last, plain_entry, commit_entry, refused_entry, after_act, after_item, after_line, after_each, at_first, traced}
use Rattle.gl_lines.specs.TraceStates.{steps_of, AreSound}
use Rattle.gl_lines.proofs.TraceMachine.{AreKept, started_push, or_false, if_none, clean_parts, running_parts}
use Rattle.gl_lines.proofs.TraceShapes.{AreShaped, usual_shaped, end_shaped, begin_shaped, shaped_none}
use Rattle.gl_lines.proofs.TraceSound.{each_push, take_one, step_at, up_to}
use Rattle.gl_lines.proofs.TraceThreads.{join_parts}

-- entries of two threads can be added in either order
both_entries : (R : Lists) (t u : ℕ) (e f : Entry) → t ≢ u → with_entry (with_entry R u f) t e ≡ with_entry (with_entry R t e) u f
both_entries R t u e f apart = λ i w. each w i
  where
    each : (w : ℕ) → with_entry (with_entry R u f) t e w ≡ with_entry (with_entry R t e) u f w
    each w = elim (ℕ_discrete w t) [
      | yes same ↦ (let a : (w == t) ≡ true = eq-eqb w t same in let b : (w == u) ≡ false = ne_eqb w u (λ z. apart (sym same ∙ z))
          in rw (a, b) refl)
      | no other ↦ (let a : (w == t) ≡ false = ne_eqb w t other in rw a refl)
    ]

module _ (steps : List Said) (s : Traced) (t : ℕ) (runs : is_started steps t ≡ true) (alive : s.tracing.ended t ≡ false) (ends : (u : ℕ)
    → s.tracing.ended u ≡ is_ended steps u) (kept : AreKept steps) (k : AreShaped (is_started steps) s.tracing.ended s.tracing.lists) where
  -- a step that forks no thread changes nothing in which threads were started
  started_is : (item : Item) → ((u : ℕ) → item_forks u item ≡ false) → is_started steps ≡ is_started (steps ++ (t, item) ∷ [])
  started_is item none = λ i u. (sym (started_push steps (t, item) u ∙ ap (λ b. is_started steps u || b) (none u)
      ∙ or_false (is_started steps u))) i

  -- the lists are shaped behind a step that forks no thread and leaves an entry that is no Trim, no Over, no End and no Fork
  usual : (item : Item) (e : Entry) → ((u : ℕ) → item_forks u item ≡ false)
      → ((Rattle.gl_model.specs.Form.IsTrim e → ⊥) × (Rattle.gl_model.specs.Form.IsOver e → ⊥) × (Rattle.gl_model.specs.Form.IsEnd e → ⊥))
      → ((p u f : ℕ) (value : ℤ) → e ≡ Sync p (Fork u f) value → ⊥)
      → AreShaped (is_started (steps ++ (t, item) ∷ [])) s.tracing.ended (with_entry s.tracing.lists t e)
  usual item e none is no_fork = subst (λ f. AreShaped f s.tracing.ended (with_entry s.tracing.lists t e)) (started_is item none)
      (usual_shaped (is_started steps) s.tracing.ended s.tracing.lists k t runs alive e is (λ p u f v z. absurd (no_fork p u f v z)))

  -- the lists are shaped behind a line that is no access and has no fault
  shaped_act : (act : Act) → IsLineItem (Acts act) → act_fault steps t act ≡ None
      → AreShaped (is_started (steps ++ (t, Acts act) ∷ [])) (after_act t act s).tracing.ended (after_act t act s).tracing.lists
  shaped_act (Begin f) is clean = absurd is
  shaped_act End is clean = absurd is
  shaped_act (Acq o) is clean = usual (Acts (Acq o)) (Sync s.tracing.next (Acq o) (pos 0)) (λ u. refl) (λ z. z, λ z. z, λ z. z)
      (λ p u f v z. cc)
  shaped_act (Rel o) is clean = usual (Acts (Rel o)) (Sync s.tracing.next (Rel o) (pos 0)) (λ u. refl) (λ z. z, λ z. z, λ z. z)
      (λ p u f v z. cc)
  shaped_act (VRead o) is clean = usual (Acts (VRead o)) (Sync s.tracing.next (VRead o) (pos 0)) (λ u. refl) (λ z. z, λ z. z, λ z. z)
      (λ p u f v z. cc)
  shaped_act (VWrite o) is clean = usual (Acts (VWrite o)) (Sync s.tracing.next (VWrite o) (pos 0)) (λ u. refl) (λ z. z, λ z. z, λ z. z)
      (λ p u f v z. cc)
  shaped_act (Fork u f) is clean = subst (λ R. AreShaped (is_started (steps ++ (t, Acts (Fork u f)) ∷ [])) s.tracing.ended R)
      (both_entries s.tracing.lists t u (Sync s.tracing.next (Fork u f) (pos 0)) (Sync (s.tracing.next + 1) (Begin f) (pos 0)) apart)
      (subst (λ g. AreShaped g s.tracing.ended (with_entry (with_entry s.tracing.lists u (Sync (s.tracing.next + 1) (Begin f) (pos 0))) t
      (Sync s.tracing.next (Fork u f) (pos 0)))) (λ i w. sym (started_push steps (t, Acts (Fork u f)) w) i) after)
    where
      unstarted : is_started steps u ≡ false
      unstarted = if_none (is_started steps u) CannotFork clean

      apart : t ≢ u
      apart e = let z : is_started steps u ≡ true = subst (λ w. is_started steps w ≡ true) e runs in let y = unstarted in cc

      unended : (b : Bool) → is_ended steps u ≡ b → b ≡ false
      unended true e = absurd (let z = kept.started u e in let y = unstarted in cc)
      unended false e = refl

      begun : AreShaped (λ w. is_started steps w || (u == w)) s.tracing.ended
          (with_entry s.tracing.lists u (Sync (s.tracing.next + 1) (Begin f) (pos 0)))
      begun = begin_shaped (is_started steps) s.tracing.ended s.tracing.lists k u (s.tracing.next + 1) f is.0 unstarted (ends u
          ∙ unended (is_ended steps u) refl)

      here : (b : Bool) → (b || (u == u)) ≡ true
      here true = refl
      here false = eq-eqb u u refl

      after : AreShaped (λ w. is_started steps w || (u == w)) s.tracing.ended
          (with_entry (with_entry s.tracing.lists u (Sync (s.tracing.next + 1) (Begin f) (pos 0))) t
          (Sync s.tracing.next (Fork u f) (pos 0)))
      after = usual_shaped (λ w. is_started steps w || (u == w)) s.tracing.ended
          (with_entry s.tracing.lists u (Sync (s.tracing.next + 1) (Begin f) (pos 0))) begun t (ap (λ b. b || (u == t)) runs) alive
          (Sync s.tracing.next (Fork u f) (pos 0)) (λ z. z, λ z. z, λ z. z)
          (λ p v g value z. let same : u ≡ v = cc in subst (λ w. (is_started steps w || (u == w)) ≡ true) same (here (is_started steps u)))
  shaped_act (Join u) is clean = by (s.tracing.ended u) refl
    where
      parts : (is_started steps u ≡ true) × ((u == t) ≡ false)
      parts = join_parts (is_started steps u) (u == t) clean

      by : (b : Bool) → s.tracing.ended u ≡ b → AreShaped (is_started (steps ++ (t, Acts (Join u)) ∷ [])) (if b
          then with_event t (Join u) s else with_event t (Join u) (with_last u s)).tracing.ended (if b then with_event t (Join u) s
          else with_event t (Join u) (with_last u s)).tracing.lists
      by true e = usual (Acts (Join u)) (Sync s.tracing.next (Join u) (pos 0)) (λ u. refl) (λ z. z, λ z. z, λ z. z) (λ p u f v z. cc)
      by false e =
          let last = end_shaped (is_started steps) s.tracing.ended s.tracing.lists k u parts.0 e s.tracing.next in
          let other : (t == u) ≡ false = ne_eqb t u (λ z. let b : (u == t) ≡ true = eq-eqb u t (sym z) in let y = parts.1 in cc) in
          let live : (if t == u then true else s.tracing.ended t) ≡ false = rw other alive in
          subst (λ g. AreShaped g (λ w. if w == u then true else s.tracing.ended w)
          (with_entry (with_entry s.tracing.lists u (Sync s.tracing.next End (pos 0))) t (Sync (s.tracing.next + 1) (Join u) (pos 0))))
          (started_is (Acts (Join u)) (λ u. refl))
          (usual_shaped (is_started steps) (λ w. if w == u then true else s.tracing.ended w)
          (with_entry s.tracing.lists u (Sync s.tracing.next End (pos 0))) last t runs live (Sync (s.tracing.next + 1) (Join u) (pos 0))
          (λ z. z, λ z. z, λ z. z) (λ p u f v z. absurd (cc)))
  shaped_act (Alloc c) is clean = absurd is
  shaped_act Print is clean = absurd is
  shaped_act Input is clean = absurd is
  shaped_act (Fail c) is clean = absurd is

  -- the lists are shaped behind a line that has no fault
  shaped_item : (item : Item) (judged : Judged) → IsLineItem item → item_fault steps t item ≡ None
      → AreShaped (is_started (steps ++ (t, item) ∷ [])) (after_item t item judged s).tracing.ended
      (after_item t item judged s).tracing.lists
  shaped_item (Acts act) judged is clean = shaped_act act is clean
  shaped_item (AccessTo x write) NoAccess is clean =
      usual (AccessTo x write) (plain_entry x write false s) (λ u. refl) (λ z. z, λ z. z, λ z. z) (λ p u f v z. cc)
  shaped_item (AccessTo x write) Performed is clean =
      usual (AccessTo x write) (plain_entry x write false s) (λ u. refl) (λ z. z, λ z. z, λ z. z) (λ p u f v z. cc)
  shaped_item (AccessTo x write) (Raised var) is clean =
      usual (AccessTo x write) (plain_entry x write true s) (λ u. refl) (λ z. z, λ z. z, λ z. z) (λ p u f v z. cc)
  shaped_item (CommitsOn reads writes) NoAccess is clean =
      usual (CommitsOn reads writes) (commit_entry reads writes s) (λ u. refl) (λ z. z, λ z. z, λ z. z) (λ p u f v z. cc)
  shaped_item (CommitsOn reads writes) Performed is clean =
      usual (CommitsOn reads writes) (commit_entry reads writes s) (λ u. refl) (λ z. z, λ z. z, λ z. z) (λ p u f v z. cc)
  shaped_item (CommitsOn reads writes) (Raised var) is clean =
      usual (CommitsOn reads writes) (refused_entry reads writes var s) (λ u. refl) (λ z. z, λ z. z, λ z. z) (λ p u f v z. cc)

-- before the first line the lists are shaped
first_shaped : AreShaped (is_started []) at_first.tracing.ended at_first.tracing.lists
first_shaped = subst (λ g. AreShaped g (λ _. false) (with_entry (λ _. []) 0 (Sync 0 (Begin 0) (pos 0)))) (λ i w. same w i)
    (begin_shaped (λ _. false) (λ _. false) (λ _. []) nothing 0 0 0 (omega arith) refl refl)
  where
    nothing : AreShaped (λ _. false) (λ _. false) (λ _. [])
    nothing = record { shape = λ u. shaped_none false refl; begun = λ u. refl; few = λ u le. refl; forks = λ w i p u f v a. absurd (cc) }

    same : (w : ℕ) → (false || (0 == w)) ≡ is_started [] w
    same w = elim (ℕ_discrete w 0) [
      | yes e ↦ (let a : (0 == w) ≡ true = eq-eqb 0 w (sym e) in let b : (w == 0) ≡ true = eq-eqb w 0 e in rw (a, b) refl)
      | no other ↦ (let a : (0 == w) ≡ false = ne_eqb 0 w (λ z. other (sym z)) in let b : (w == 0) ≡ false = ne_eqb w 0 other
          in rw (a, b) refl)
    ]

module _ (lines : List Line) (sound : AreSound lines) where
  -- the lists are shaped behind the first k lines
  shaped_to : (k : ℕ) → k ≤ length lines → AreShaped (is_started (take k (steps_of lines)))
      (after_each (take k lines) at_first).tracing.ended (after_each (take k lines) at_first).tracing.lists
  shaped_to zero le = first_shaped
  shaped_to (suc k) le = elim ((slice_get_cases lines k).1) [
    | inl c ↦
        (let l = c.0 in
        let at : slice_get lines k ≡ Some l = c.2 in
        let s = after_each (take k lines) at_first in
        let before = up_to lines sound k (omega arith) in
        let clean = clean_parts (is_too_wide l.item) (is_running (take k (steps_of lines)) l.thread)
        (item_fault (take k (steps_of lines)) l.thread l.item) (sound.clean k (l.thread, l.item) (step_at lines sound k l at)) in
        let parts = running_parts (is_started (take k (steps_of lines)) l.thread) (is_ended (take k (steps_of lines)) l.thread) clean.1 in
        let next = shaped_item (take k (steps_of lines)) s l.thread parts.0 (before.1.ended l.thread ∙ parts.1) before.1.ended
        before.1.kept (shaped_to k (omega arith)) l.item l.judged (sound.in_range k l at).1 clean.2 in
        let whole : after_each (take (suc k) lines) at_first ≡ after_line l s = ap (λ ls. after_each ls at_first) (take_one lines k l at)
        ∙ each_push (take k lines) l at_first in
        subst (λ ss. AreShaped (is_started ss) (after_each (take (suc k) lines) at_first).tracing.ended
        (after_each (take (suc k) lines) at_first).tracing.lists)
        (sym (take_one (steps_of lines) k (l.thread, l.item) (step_at lines sound k l at)))
        (subst (λ (z : Traced). AreShaped (is_started (take k (steps_of lines) ++ (l.thread, l.item) ∷ [])) z.tracing.ended
        z.tracing.lists) (sym whole) next))
    | inr c ↦ absurd (let m = c.0 in omega arith)
  ]

  -- the lists behind the lines are shaped, by which threads were started and which have ended
  pub lists_shaped : AreShaped (is_started (steps_of lines)) (traced lines).tracing.ended (traced lines).tracing.lists
  lists_shaped =
      let n : length (steps_of lines) ≡ length lines = length-map lines (λ (l : Line). (l.thread, l.item)) in
      subst (λ ss. AreShaped (is_started ss) (traced lines).tracing.ended (traced lines).tracing.lists)
      (take_all (length lines) (steps_of lines) (omega arith))
      (subst (λ ls. AreShaped (is_started (take (length lines) (steps_of lines))) (after_each ls at_first).tracing.ended
      (after_each ls at_first).tracing.lists) (take_all (length lines) lines (omega arith)) (shaped_to (length lines) (omega arith)))
