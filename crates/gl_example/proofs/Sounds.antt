-- The first steps of a trace are sound lines, whatever was said of them.
use Rattle.std.proofs.Common.{◌≡◌, ◌<◌, ℕ, zero, suc, List, [], ◌∷◌, ◌++◌, Some, All, refl, ap, ◌∙◌, sym, subst, length, take, drop, arith}
use Rattle.std.specs.Prelude.{option_map}
use Rattle.std.specs.List.{slice_get}
use Rattle.std.proofs.lemmas.List.{take-append-le, take-append-drop}
use Rattle.std.proofs.lemmas.Option.{slice_get_within, slice_get-map, get_or_from_slice_get}
use Rattle.gl_model.specs.declared.row.Judged.{Judged}
use Rattle.gl_model.specs.Trace.{Line}
use Rattle.gl_model.specs.TraceSteps.{Step, IsStep, step_fault}
use Rattle.gl_lines.specs.TraceStates.{AreSound, steps_of}
use Rattle.gl_example.specs.Steps.{IsTrace, lines_of}

-- what stands in the first of two lists stands there in both together
get_kept : (xs ys : List Step) (k : ℕ) (x : Step) → slice_get xs k ≡ Some x → slice_get (xs ++ ys) k ≡ Some x
get_kept [] ys k x e = cc
get_kept (z ∷ zs) ys zero x e = e
get_kept (z ∷ zs) ys (suc k) x e = get_kept zs ys k x e

-- each of a list of steps is a step
step_at : (ss : List Step) → All IsStep ss → (k : ℕ) (s : Step) → slice_get ss k ≡ Some s → IsStep s
step_at ss h k s there = subst IsStep (get_or_from_slice_get ss k s s there) (h k s (slice_get_within ss k s there))

-- the steps of the lines made of steps and as many verdicts are the steps
steps_same : (ss : List Step) (js : List Judged) → length js ≡ length ss → steps_of (lines_of ss js) ≡ ss
steps_same [] js e = refl
steps_same (x ∷ xs) [] e = absurd (omega (arith, e))
steps_same (x ∷ xs) (y ∷ ys) e = ap (λ r. x ∷ r) (steps_same xs ys (omega (arith, e)))

-- lines whose steps are the first of a trace are sound
sound : (all : List Step) (n : ℕ) (lines : List Line) → IsTrace all → steps_of lines ≡ take n all → AreSound lines
sound all n lines is same = record {
  in_range = λ k l at.
      let s : Step = (l.thread, l.item) in
      let here : slice_get (steps_of lines) k ≡ Some s = slice_get-map (λ (l : Line). (l.thread, l.item)) lines k
      ∙ ap (option_map (λ (l : Line). (l.thread, l.item))) at in
      step_at all is.range k s (whole k s (sym (ap (λ ss. slice_get ss k) same) ∙ here));
  clean = λ k s at.
      let here : slice_get (take n all) k ≡ Some s = sym (ap (λ ss. slice_get ss k) same) ∙ at in
      let near : k < length (take n all) = slice_get_within (take n all) k s here in
      let front : take k (take n all) ≡ take k all =
      sym (take-append-le k (take n all) (drop n all) (omega (arith, near))) ∙ ap (take k) (take-append-drop n all) in
      ap (λ ss. step_fault (take k ss) s.0 s.1) same ∙ ap (λ ss. step_fault ss s.0 s.1) front ∙ is.clean k s (whole k s here);
}
  where
    whole : (k : ℕ) (s : Step) → slice_get (take n all) k ≡ Some s → slice_get all k ≡ Some s
    whole k s at = ap (λ ss. slice_get ss k) (sym (take-append-drop n all)) ∙ get_kept (take n all) (drop n all) k s at

-- the lines made of the first steps of a trace and as many verdicts are sound
pub front_sound : (all : List Step) (n : ℕ) (js : List Judged) → IsTrace all → length js ≡ length (take n all)
    → AreSound (lines_of (take n all) js)
front_sound all n js is count = sound all n (lines_of (take n all) js) is (steps_same (take n all) js count)
