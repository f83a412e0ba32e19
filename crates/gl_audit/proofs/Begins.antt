-- In a run of the machine a thread begins in main or in a function that it may be forked with: one that is there, of one argument at most.
use Rattle.std.proofs.Common.{◌≡◌, ◌≢◌, ℕ, ℤ, zero, suc, ◌+◌, ◌<◌, ◌≤◌, ◌==◌, Bool, true, List, length, Option, Some, None, refl, sym, subst, ◌∙◌, ap, inl, inr, arith, eq-eqb}
use Rattle.std.specs.Prelude.{Contains, pos, ◌⊎◌}
use Rattle.std.specs.List.{range_with_len}
use Rattle.std.proofs.lemmas.Bool.Decides.{nat_tests}
use Rattle.std.proofs.lemmas.List.Elements.{All-contains, filter_passes}
use Rattle.std.proofs.lemmas.Option.{slice_get_cases, slice_get_within}
use native.Mathlib.Decide.{ℕ_discrete}
use Rattle.gl_model.proofs.ListsOf.{other_false}
use Rattle.gl_model.specs.declared.event.Act.TheVariants.{Begin, End, Acq, Rel, VRead, VWrite, Fork, Join, Alloc, Print, Input, Fail}
use Rattle.gl_model.specs.declared.event.Event.{Event}
use Rattle.gl_model.specs.declared.event.Event.TheVariants.{Act as Does, Commit as Commits}
use Rattle.gl_model.specs.declared.event.Stamp.{Stamp}
use Rattle.gl_model.specs.Entries.{Sync}
use Rattle.gl_model.specs.Form.{IsMachineRun}
use Rattle.gl_model.specs.Machine.{Effect, Forked, Ended, NeverForked, Running, Setting, State, ThreadState, start, with_at}
use Rattle.gl_model.specs.Records.{At, IsEventAt, IsEventList, Lists, Place}
use Rattle.gl_bytecode.specs.Instructions.{args_of}
use Rattle.gl_bytecode.specs.Lawful.{forkable_of, setting_of}
use Rattle.gl_bytecode.specs.Programs.{Bytecode, Function, function_at}
use Rattle.gl_bytecode.specs.Validity.{IsValid}
use Rattle.gl_acts.specs.Acting.{RunsMachine}
use Rattle.gl_follow.specs.Beginnings.{BeginsAreRight}

-- a function is main or may be forked in a setting
abbrev MayStart : Setting → ℕ → Type 0
MayStart setting f = (f ≡ setting.main) ⊎ Contains setting.forkable f

-- each thread that is forked may start in its function
abbrev ForkedRight : Setting → State → Type 0
ForkedRight setting s = (t f : ℕ) (v : ℤ) → s.threads t ≡ Forked f v → MayStart setting f

-- two forks that are the same are of the same function
forked_same : (f g : ℕ) (v w : ℤ) → Forked f v ≡ Forked g w → f ≡ g
forked_same f g v w e = cc

-- what was set for a thread is what it has
at_here : (threads : ℕ → ThreadState) (u : ℕ) (x : ThreadState) → with_at threads u x u ≡ x
at_here threads u x = (let here : (u == u) ≡ true = eq-eqb u u refl in rw here refl)

-- setting one thread leaves another as it was
at_other : (threads : ℕ → ThreadState) (u t : ℕ) (x : ThreadState) → t ≢ u → with_at threads u x t ≡ threads t
at_other threads u t x other = rw (other_false t u other) refl

-- if each forked thread may start in its function, and one that changes too, each may so after the change
one_changed :
    (setting : Setting) (s : State) (u : ℕ) (x : ThreadState) → ForkedRight setting s
    → ((f : ℕ) (v : ℤ) → x ≡ Forked f v → MayStart setting f) →
    (t f : ℕ) (v : ℤ) → with_at s.threads u x t ≡ Forked f v → MayStart setting f
one_changed setting s u x right here t f v is = elim (ℕ_discrete t u) [
  | yes same ↦ here f v (sym (at_here s.threads u x) ∙ subst (λ z. with_at s.threads u x z ≡ Forked f v) same is)
  | no other ↦ right t f v (sym (at_other s.threads u t x other) ∙ is)
]

-- after an event each forked thread may start in its function, if each might before
effect_right :
    (setting : Setting) (s new : State) (t : ℕ) (event : Event) (value : ℤ) → ForkedRight setting s → Effect setting s t event value new →
    ForkedRight setting new
effect_right setting s new t (Commits xs) value right e = subst (ForkedRight setting) (sym e) right
effect_right setting s new t (Does (Begin f)) value right e =
    subst (ForkedRight setting) (sym e) (one_changed setting s t Running right (λ g v is. absurd (cc)))
effect_right setting s new t (Does End) value right e =
    subst (ForkedRight setting) (sym e) (one_changed setting s t Ended right (λ g v is. absurd (cc)))
effect_right setting s new t (Does (Acq o)) value right e = subst (ForkedRight setting) (sym e.2) right
effect_right setting s new t (Does (Rel o)) value right e = subst (ForkedRight setting) (sym e.2) right
effect_right setting s new t (Does (VRead v)) value right e = subst (ForkedRight setting) (sym e.1) right
effect_right setting s new t (Does (VWrite v)) value right e = subst (ForkedRight setting) (sym e) right
effect_right setting s new t (Does (Fork u f)) value right e =
    subst (ForkedRight setting) (sym e.1)
    (one_changed setting s u (Forked f value) right (λ g w is. subst (MayStart setting) (forked_same f g value w is) (inr e.0.3)))
effect_right setting s new t (Does (Join u)) value right e = subst (ForkedRight setting) (sym e.1) right
effect_right setting s new t (Does (Alloc c)) value right e = subst (ForkedRight setting) (sym e.4) right
effect_right setting s new t (Does Print) value right e = subst (ForkedRight setting) (sym e) right
effect_right setting s new t (Does Input) value right e = subst (ForkedRight setting) (sym e.1) right
effect_right setting s new t (Does (Fail code)) value right e = subst (ForkedRight setting) (sym e.1) right

-- at the start each forked thread may start in its function
start_right : (setting : Setting) → ForkedRight setting (start setting)
start_right setting t f v is = elim (ℕ_discrete t 0) [
  | yes same ↦
      inl (sym (forked_same setting.main f (pos 0) v
      (sym (at_here (λ _. NeverForked) 0 (Forked setting.main (pos 0))) ∙ subst (λ z. (start setting).threads z ≡ Forked f v) same is)))
  | no other ↦ absurd (let none : NeverForked ≡ Forked f v = sym (at_other (λ _. NeverForked) 0 t (Forked setting.main (pos 0)) other) ∙ is
      in cc)
]

module _ (setting : Setting) (R : Lists) (h : List Stamp) (is_list : IsEventList h R) (machine : IsMachineRun setting R h) where
  -- at each position of the run each forked thread has a function that it may start with
  always_right : (n : ℕ) → n ≤ length h → ForkedRight setting (machine.at n)
  always_right zero le = subst (ForkedRight setting) (sym machine.first) (start_right setting)
  always_right (suc n) le = next (always_right n (omega arith)) where
    -- the event at position n stands at some place of the record
    stamp : (s : Stamp) × ((c : Place) × IsEventAt R c n s)
    stamp = elim (slice_get_cases h n).1 [
      | inl there ↦ (there.0, is_list.made n there.0 there.2)
      | inr past ↦ absurd (let ge = past.0 in omega arith)
    ]

    -- if it is so before the event at position n, it is so after it
    next : ForkedRight setting (machine.at n) → ForkedRight setting (machine.at (suc n))
    next right =
        let s = stamp.0 in
        let step = machine.steps stamp.1.0 n s stamp.1.1 in
        let one : n + 1 ≡ suc n = omega arith in
        subst (λ k. ForkedRight setting (machine.at k)) one
        (effect_right setting (machine.at n) (machine.at (n + 1)) s.thread s.event _ right step.effect)

  -- a thread's Begin in the record is in a function that a thread may start with
  pub begins_rightly : (t i at f : ℕ) (value : ℤ) → At (R t) i (Sync at (Begin f) value) → MayStart setting f
  begins_rightly t i at f value there =
      let place : Place = record { thread = t; index = i } in
      let s : Stamp = record { thread = t; event = Does (Begin f) } in
      let e : IsEventAt R place at s = record { entry = Sync at (Begin f) value; there = there; position = refl; event = refl; own = refl }
      in
      let within = slice_get_within h at s (is_list.listed place at s e) in
      let step = machine.steps place at s e in
      always_right at (omega arith) t f value step.may

-- a function of one argument is there and has fewer than two
has_one : (P : Bytecode) (f : ℕ) (o : Option Function) → function_at P f ≡ o → (args_of o == 1) ≡ true → (F : Function)
    × (function_at P f ≡ Some F) × (F.args < 2)
has_one P f None there one = cc
has_one P f (Some F) there one = (F, there, (let is : F.args ≡ 1 = grind (arith, nat_tests) in omega arith))

-- in a run of a valid program each thread begins in main or in a function that it may be forked with
pub begins_are_right : (P : Bytecode) (inputs : List ℤ) (R : Lists) → IsValid P → RunsMachine (setting_of P inputs) R → BeginsAreRight P R
begins_are_right P inputs R valid runs t i at f value there =
    by_start (begins_rightly (setting_of P inputs) R runs.0 runs.1 runs.2 t i at f value there) where
      by_start : MayStart (setting_of P inputs) f → (F : Function) × (function_at P f ≡ Some F) × (F.args < 2)
      by_start (inl main) =
          let m = valid.1.main in
          let none = m.2 in
          (m.0, ap (function_at P) main ∙ m.1, omega arith)
      by_start (inr forked) =
          let p : ℕ → Bool = λ g. args_of (function_at P g) == 1 in
          has_one P f (function_at P f) refl
          (All-contains (λ x. p x ≡ true) (forkable_of P) f (filter_passes p (range_with_len 0 (length P.functions))) forked)
