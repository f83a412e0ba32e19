-- What is rightly said of the lines of a trace is settled, and so is the answer of `check`.
use Rattle.std.proofs.Common.{◌≡◌, ◌+◌, ℕ, zero, suc, List, [], ◌∷◌, ◌++◌, Option, None, Some, map, take, refl, ap, sym, subst, ◌∙◌, inl, inr, arith, append_assoc, All}
use Rattle.std.specs.Prelude.{slice_get}
use Rattle.std.proofs.lemmas.List.{map-append, take-append-le}
use Rattle.std.proofs.lemmas.Option.{slice_get_within}
use Rattle.gl_lines.specs.TraceLaws.{LastIsSettled}
use Rattle.gl_lines.specs.TraceStates.{AreSound}
use Rattle.gl_lines.specs.TraceStates.{steps_of as record_steps}
use Rattle.gl_model.specs.Trace.{Line, AreVerdicts, IsJudgedRightly, after_lines, before_lines, last_place}
use Rattle.gl_model.specs.TraceSteps.{IsStep, AreClean, step_fault}
use Rattle.gl_trace.specs.Judging.{line_of}
use Rattle.gl_trace.specs.Trace.{IsTrace, IsFirstFault}
use Rattle.gl_trace.specs.TraceLine.{TraceLine, steps_of}
use Rattle.gl_trace.specs.Verdicts.{said_text, verdicts_said}
use Rattle.gl_run.specs.Check.{AcceptsTrace, KeepsRecord, RefusesTrace, Said, lines_said, status_of}
use Rattle.gl_run.specs.Laws.{ChecksAreApart, ChecksAreOne}
use Rattle.gl_run.specs.Output.{refusal}
use Rattle.gl_run.specs.declared.keep.Keep.{Keep}
use Rattle.gl_run.specs.declared.keep.Keep.TheVariants.{Record, Nothing}
use Rattle.gl_run.specs.declared.kept.Kept.{Kept}
use Rattle.gl_run.specs.declared.kept.Kept.TheVariants.{Trace, Run}
use Rattle.gl_run.proofs.SaidLines.{said_sound}
use Rattle.gl_run.proofs.SameRecord.{same_record}

-- what stands in the first of two lists stands there in both together
get_front : {A : Type 0} (xs ys : List A) (k : ℕ) (x : A) → slice_get xs k ≡ Some x → slice_get (xs ++ ys) k ≡ Some x
get_front [] ys k x e = absurd cc
get_front (z ∷ xs) ys zero x e = e
get_front (z ∷ xs) ys (suc k) x e = get_front xs ys k x e

-- what is rightly said of lines is rightly said of the first of them
verdicts_front : (xs ys : List Line) → AreVerdicts (xs ++ ys) → AreVerdicts xs
verdicts_front xs ys right k l at =
    let near = slice_get_within xs k l at in
    let front : take (k + 1) (xs ++ ys) ≡ take (k + 1) xs = take-append-le (k + 1) xs ys (omega arith) in
    subst (λ ls. let R = (after_lines ls before_lines).lists in IsJudgedRightly R (last_place R l.thread) l.item l.judged) front
    (right k l (get_front xs ys k l at))

-- and the first lines of sound ones are sound
sound_front : (xs ys : List Line) → AreSound (xs ++ ys) → AreSound xs
sound_front xs ys sound =
    let steps : record_steps (xs ++ ys) ≡ record_steps xs ++ record_steps ys = map-append (λ (l : Line). (l.thread, l.item)) xs ys in
    record {
      in_range = λ k l at. sound.in_range k l (get_front xs ys k l at);
      clean = λ k s at.
          let near = slice_get_within (record_steps xs) k s at in
          let clean = sound.clean k s (subst (λ ss. slice_get ss k ≡ Some s) (sym steps)
          (get_front (record_steps xs) (record_steps ys) k s at)) in
          subst (λ ss. step_fault ss s.0 s.1 ≡ None) (ap (take k) steps
          ∙ take-append-le k (record_steps xs) (record_steps ys) (omega arith)) clean;
    }

-- equal lists of lines have equal first lines
head_same : (l m : TraceLine) (ls ms : List TraceLine) → l ∷ ls ≡ m ∷ ms → l ≡ m
head_same l m ls ms e = cc

-- equal lists of lines have equal rests
tail_same : (l m : TraceLine) (ls ms : List TraceLine) → l ∷ ls ≡ m ∷ ms → ls ≡ ms
tail_same l m ls ms e = cc

-- equal lines with equal verdicts are the same said thing
said_same : (p q : Said) → p.0 ≡ q.0 → p.1 ≡ q.1 → p ≡ q
said_same (l, j) (m, k) e f = ap (λ x. (x, j)) e ∙ ap (λ x. (m, x)) f

module _ (settled : LastIsSettled) where
  -- of the next line one thing is rightly said
  next_same : (front : List Said) (p q : Said) (ps qs : List Said) → p.0 ≡ q.0 → AreSound (map line_of (front ++ p ∷ ps))
      → AreVerdicts (map line_of (front ++ p ∷ ps)) → AreVerdicts (map line_of (front ++ q ∷ qs)) → p.1 ≡ q.1
  next_same front p q ps qs line sound one other =
      let split : (r : Said) (rs : List Said) → map line_of (front ++ r ∷ rs) ≡ (map line_of front ++ line_of r ∷ []) ++ map line_of rs =
      λ r rs. map-append line_of front (r ∷ rs) ∙ sym (append_assoc (map line_of front) (line_of r ∷ []) (map line_of rs)) in
      let first = verdicts_front (map line_of front ++ line_of p ∷ []) (map line_of ps) (subst AreVerdicts (split p ps) one) in
      let second = verdicts_front (map line_of front ++ line_of q ∷ []) (map line_of qs) (subst AreVerdicts (split q qs) other) in
      let second' : AreVerdicts (map line_of front ++ line_of (p.0, q.1) ∷ []) =
      subst (λ (l : TraceLine). AreVerdicts (map line_of front ++ line_of (l, q.1) ∷ [])) (sym line) second in
      settled (map line_of front) p.0.1 p.0.2 p.1 q.1
      (sound_front (map line_of front ++ line_of p ∷ []) (map line_of ps) (subst AreSound (split p ps) sound)) first second'

  -- so is one of all lines
  all_same : (front ps qs : List Said) → lines_said ps ≡ lines_said qs → AreSound (map line_of (front ++ ps))
      → AreVerdicts (map line_of (front ++ ps))
      → AreVerdicts (map line_of (front ++ qs)) → ps ≡ qs
  all_same front [] [] lines sound one other = refl
  all_same front [] (q ∷ qs) lines sound one other = absurd cc
  all_same front (p ∷ ps) [] lines sound one other = absurd cc
  all_same front (p ∷ ps) (q ∷ qs) lines sound one other =
      let line : p.0 ≡ q.0 = head_same p.0 q.0 (lines_said ps) (lines_said qs) lines in
      let same : p ≡ q = said_same p q line (next_same front p q ps qs line sound one other) in
      let on : (rs : List Said) → front ++ p ∷ rs ≡ (front ++ p ∷ []) ++ rs = λ rs. sym (append_assoc front (p ∷ []) rs) in
      let other' : AreVerdicts (map line_of (front ++ p ∷ qs)) =
      subst (λ (r : Said). AreVerdicts (map line_of (front ++ r ∷ qs))) (sym same) other in
      let rest = all_same (front ++ p ∷ []) ps qs (tail_same p.0 q.0 (lines_said ps) (lines_said qs) lines)
      (subst (λ rs. AreSound (map line_of rs)) (on ps) sound)
      (subst (λ rs. AreVerdicts (map line_of rs)) (on ps) one) (subst (λ rs. AreVerdicts (map line_of rs)) (on qs) other') in
      ap (λ r. r ∷ ps) same ∙ ap (λ rs. q ∷ rs) rest

-- one record is kept of what was said
one_kept : (keep : Keep) (lines : List Line) (j k : Option Kept) → KeepsRecord keep lines j → KeepsRecord keep lines k → j ≡ k
one_kept Nothing lines j k one two = one ∙ sym two
one_kept Record lines None k one two = absurd one
one_kept Record lines (Some (Run made)) k one two = absurd one
one_kept Record lines (Some (Trace made)) None one two = absurd two
one_kept Record lines (Some (Trace made)) (Some (Run other)) one two = absurd two
one_kept Record lines (Some (Trace made)) (Some (Trace other)) one two =
    ap (λ r. Some (Trace r)) (same_record made other one.0 two.0 (λ t. one.1 t ∙ sym (two.1 t)))

module _ (settled : LastIsSettled) (apart : (text : List ℕ) (trace : List TraceLine) (line kind : ℕ) → IsTrace text trace
    → IsFirstFault text line kind → ⊥)
    (faults : (text : List ℕ) (a b j k : ℕ) → IsFirstFault text a j → IsFirstFault text b k → (a ≡ b) × (j ≡ k))
    (traces : (text : List ℕ) (a b : List TraceLine) → IsTrace text a → IsTrace text b → a ≡ b)
    (range : (text : List ℕ) (trace : List TraceLine) → IsTrace text trace → All IsStep (steps_of trace))
    (clean : (text : List ℕ) (trace : List TraceLine) → IsTrace text trace → AreClean (steps_of trace)) where
  -- two answers of one trace that is accepted have the same status, bytes and what is kept
  accepted_same : (keep : Keep) (input : List ℕ) (s t : ℕ) (a b : List ℕ) (j k : Option Kept) → AcceptsTrace keep input s a j
      → AcceptsTrace keep input t b k
      → (s ≡ t) × (a ≡ b) × (j ≡ k)
  accepted_same keep input s t a b j k one two =
      let x = one.answer in
      let y = two.answer in
      let lines : lines_said x.said ≡ lines_said y.said = sym x.all ∙ traces input one.trace two.trace one.meaning two.meaning ∙ y.all in
      let sound = said_sound x.said (subst (λ ls. All IsStep (steps_of ls)) x.all (range input one.trace one.meaning))
      (subst (λ ls. AreClean (steps_of ls)) x.all (clean input one.trace one.meaning)) in
      let same : x.said ≡ y.said = all_same settled [] x.said y.said lines sound x.right y.right in (
        x.status_is ∙ ap (λ said. status_of (verdicts_said said)) same ∙ sym y.status_is,
        x.bytes_are ∙ ap said_text same ∙ sym y.bytes_are,
        one_kept keep (map line_of y.said) j k (subst (λ said. KeepsRecord keep (map line_of said) j) same x.kept_is) y.kept_is,
      )

  -- two answers of one text that is refused have the same status, bytes and what is kept
  refused_same : (input : List ℕ) (s t : ℕ) (a b : List ℕ) (j k : Option Kept) → RefusesTrace input s a j → RefusesTrace input t b k
      → (s ≡ t) × (a ≡ b) × (j ≡ k)
  refused_same input s t a b j k one two =
      let same = faults input one.line two.line one.kind two.kind one.fault two.fault in (
        one.status_is ∙ sym two.status_is,
        one.bytes_are ∙ ap (λ n. refusal n one.kind) same.0 ∙ ap (refusal two.line) same.1 ∙ sym two.bytes_are,
        one.kept_is ∙ sym two.kept_is,
      )

  -- no text is both accepted and refused by `check`
  pub checks_apart : ChecksAreApart
  checks_apart keep input s t a b j k one two = apart input one.trace two.line two.kind one.meaning two.fault

  -- `check` has one answer for each input
  pub checks_one : ChecksAreOne
  checks_one keep input s t a b j k one two =
      elim one [
        | inl x ↦ elim two [ inl y ↦ accepted_same keep input s t a b j k x y | inr y ↦ absurd (checks_apart keep input s t a b j k x y) ]
        | inr x ↦ elim two [ inl y ↦ absurd (checks_apart keep input t s b a k j y x) | inr y ↦ refused_same input s t a b j k x y ]
      ]
