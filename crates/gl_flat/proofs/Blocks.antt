-- In a well-formed record each laid-out entry has a block, and a plain access is made by a running thread.
use Rattle.std.proofs.Common.{◌≡◌, ◌≢◌, ℕ, zero, suc, ◌+◌, ◌<◌, List, length, refl, ap, subst, sym, ◌∙◌, inl, inr, arith, Some, None}
use Rattle.std.specs.Prelude.{◌⊎◌, ℤ, Bool, Option, slice_get}
use Rattle.std.proofs.lemmas.Option.{slice_get_within, slice_get_cases}
use Rattle.std.proofs.Math.Nat.{eq-or-lt_of_le}
use native.Mathlib.Decide.{ℕ_discrete}
use Rattle.gl_model.specs.declared.event.Act.TheVariants.{Begin, End, Acq, Rel, VRead, VWrite, Fork, Join, Alloc, Print, Input, Fail}
use Rattle.gl_model.specs.declared.event.Event.{Event}
use Rattle.gl_model.specs.declared.event.Event.TheVariants.{Act as Does, Commit as Commits}
use Rattle.gl_model.specs.declared.event.Stamp.{Stamp}
use Rattle.gl_model.specs.Entries.{Entry, Sync, Commit, Plain, Abort, Trim, Over}
use Rattle.gl_model.specs.Flat.{InFlatOrder, IsLaidOut}
use Rattle.gl_model.specs.Form.{At, Form, IsBegin, IsEnd, IsMachineRun, IsOver, IsTrim, value_of}
use Rattle.gl_model.specs.HappensBefore.{program_order}
use Rattle.gl_model.specs.Edges.{one_step}
use Rattle.gl_model.specs.Machine.{Setting, State, Step, Running, NeverForked, Forked}
use Rattle.gl_model.specs.Records.{Lists, Place, EntryAt, PositionsRise, IsBlockOf}
use Rattle.gl_laws.proofs.Bridge.{same_entry, same_place}
use Rattle.gl_laws.proofs.FlatLaws.{block_of_event, chain_stands}
use Rattle.gl_draws.proofs.DrawTies.{with_here, with_else}
use Rattle.gl_draws.proofs.Running.{end_entry}
use Rattle.gl_flat.proofs.FlatOrder.{HasBlock}

-- after a step that is not its End the thread runs
runs_on : (setting : Setting) (old new : State) (t : ℕ) (value : ℤ) (e : Event) →
    Step setting old (record { thread = t; event = e }) value new → (e ≡ Does End → ⊥) → new.threads t ≡ Running
runs_on setting old new t value (Does (Begin f)) s no_end = ap (λ (z : State). z.threads t) s.effect ∙ with_here old.threads t Running
runs_on setting old new t value (Does End) s no_end = absurd (no_end refl)
runs_on setting old new t value (Does (Acq o)) s no_end = ap (λ (z : State). z.threads t) s.effect.2 ∙ s.may
runs_on setting old new t value (Does (Rel o)) s no_end = ap (λ (z : State). z.threads t) s.effect.2 ∙ s.may
runs_on setting old new t value (Does (VRead v)) s no_end = ap (λ (z : State). z.threads t) s.effect.1 ∙ s.may
runs_on setting old new t value (Does (VWrite v)) s no_end = ap (λ (z : State). z.threads t) s.effect ∙ s.may
runs_on setting old new t value (Does (Fork u f)) s no_end =
    let never = s.effect.0.2 in
    let other : t ≢ u = λ same. let q : old.threads t ≡ NeverForked = ap old.threads same ∙ never in let z : Running ≡ NeverForked =
    sym s.may ∙ q in cc in
    ap (λ (z : State). z.threads t) s.effect.1 ∙ with_else old.threads u t (Forked f value) other ∙ s.may
runs_on setting old new t value (Does (Join u)) s no_end = ap (λ (z : State). z.threads t) s.effect.1 ∙ s.may
runs_on setting old new t value (Does (Alloc c)) s no_end = ap (λ (z : State). z.threads t) s.effect.4 ∙ s.may
runs_on setting old new t value (Does Print) s no_end = ap (λ (z : State). z.threads t) s.effect ∙ s.may
runs_on setting old new t value (Does Input) s no_end = ap (λ (z : State). z.threads t) s.effect.1 ∙ s.may
runs_on setting old new t value (Does (Fail c)) s no_end = ap (λ (z : State). z.threads t) s.effect.1 ∙ s.may
runs_on setting old new t value (Commits xs) s no_end = ap (λ (z : State). z.threads t) s.effect ∙ s.may

-- an entry is a note of trimming, or not
trim_or_not : (e : Entry) → IsTrim e ⊎ (IsTrim e → ⊥)
trim_or_not (Trim low) = inl tt
trim_or_not (Sync at act value) = inr (λ z. z)
trim_or_not (Commit at tx) = inr (λ z. z)
trim_or_not (Plain var nth cached write value raised) = inr (λ z. z)
trim_or_not (Abort tx why) = inr (λ z. z)
trim_or_not (Over ending) = inr (λ z. z)

-- a trim is not laid out
trim_not_laid : (e : Entry) → IsTrim e → IsLaidOut e → ⊥
trim_not_laid (Trim low) t l = l
trim_not_laid (Sync at act value) t l = t
trim_not_laid (Commit at tx) t l = t
trim_not_laid (Plain var nth cached write value raised) t l = t
trim_not_laid (Abort tx why) t l = t
trim_not_laid (Over ending) t l = t

module _ (R : Lists) (form : Form R) where
  -- along each list of a well-formed record positions rise
  pub positions_rise : PositionsRise R
  positions_rise c d p q s r e f before =
      let there : At (R c.thread) d.index f.entry = subst (λ t. At (R t) d.index f.entry) (sym before.0) f.there in
      (form.formed c.thread).positions_rise c.index d.index p q e.entry f.entry e.there there before.1 e.position f.position

  -- the place of a Begin has a block
  begin_block : (t i : ℕ) (e : Entry) → At (R t) i e → IsBegin e → HasBlock R (record { thread = t; index = i })
  begin_block t i (Sync at (Begin func) value) there is = (
    at,
    block_of_event R positions_rise (record { thread = t; index = i }) at (record { thread = t; event = Does (Begin func) })
        (record { entry = Sync at (Begin func) value; there = there; position = refl; event = refl; own = refl }),
  )
  begin_block t i (Sync at act value) there is = absurd is
  begin_block t i (Commit at tx) there is = absurd is
  begin_block t i (Plain var nth cached write value raised) there is = absurd is
  begin_block t i (Abort tx why) there is = absurd is
  begin_block t i (Trim low) there is = absurd is
  begin_block t i (Over ending) there is = absurd is

  -- before a place all is trimmed, or an entry has a block
  abbrev Reached : ℕ → ℕ → Type 0
  Reached t i = ((j : ℕ) (f : Entry) → At (R t) j f → j < i → IsTrim f) ⊎
      ((d : ℕ) × (d < i) × HasBlock R (record { thread = t; index = d }))

  -- for each place of a list: all entries before it are Trims, or some place before it has a block
  reached : (t i : ℕ) → Reached t i
  reached t zero = inl (λ j f at lt. absurd (omega arith))
  reached t (suc i) = elim (reached t i) [
    | inl all ↦ more all (slice_get (R t) i) refl
    | inr b ↦
        inr (b.0, (let z = b.1 in omega arith), b.2)
  ]
    where
      still : ((j : ℕ) (f : Entry) → At (R t) j f → j < i → IsTrim f) → ((f : Entry) → At (R t) i f → IsTrim f) → (j : ℕ) (f : Entry) →
          At (R t) j f → j < suc i → IsTrim f
      still all here j f at lt = elim (ℕ_discrete j i) [
        | yes same ↦ here f (subst (λ z. At (R t) z f) same at)
        | no ne ↦
            all j f at (omega arith)
      ]

      more : ((j : ℕ) (f : Entry) → At (R t) j f → j < i → IsTrim f) → (o : Option Entry) → slice_get (R t) i ≡ o → Reached t (suc i)
      more all None at = inl (still all (λ f here. let z : None ≡ Some f = sym at ∙ here in absurd (cc)))
      more all (Some e) at = elim (trim_or_not e) [
        | inl is ↦ inl (still all (λ f here. let z : Some e ≡ Some f = sym at ∙ here in let s : e ≡ f = cc in subst IsTrim s is))
        | inr isnt ↦ inr (i, omega arith, begin_block t i e at ((form.formed t).begins i e at isnt all))
      ]

  -- each laid-out entry has a block
  pub laid_block : (c : Place) (e : Entry) → EntryAt R c e → IsLaidOut e → HasBlock R c
  laid_block c e there laid = elim (reached c.thread (suc c.index)) [
    | inl all ↦ absurd (trim_not_laid e (all c.index e there (omega arith)) laid)
    | inr b ↦ elim (ℕ_discrete b.0 c.index) [
      | yes same ↦ subst (λ z. HasBlock R z) (same_place (record { thread = c.thread; index = b.0 }) c refl same) b.2
      | no ne ↦ (let w : InFlatOrder R (record { thread = c.thread; index = b.0 }) c =
          chain_stands R positions_rise b.2 (one_step (program_order (refl, let z = b.1 in omega arith))) in (w.second, w.of_second))
    ]
  ]

  -- behind an End stands no plain access
  not_behind_end : (t i j : ℕ) (e : Entry) (var nth : ℕ) (cached write raised : Bool) (value : ℤ) → At (R t) i e → IsEnd e →
      At (R t) j (Plain var nth cached write value raised) → i < j → ⊥
  not_behind_end t i j e var nth cached write raised value at is there lt =
      elim ((slice_get_cases (R t) (i + 1)).1) [ inl w ↦ over w.0 w.2 | inr w ↦ (let z = w.0 in let n = near in omega arith) ]
    where
      near : j < length (R t)
      near = slice_get_within (R t) j (Plain var nth cached write value raised) there

      over : (f : Entry) → At (R t) (i + 1) f → ⊥
      over f next =
          let is_over : IsOver f = ((form.formed t).over_after_end i e f at next).0 is in
          let len : length (R t) ≡ (i + 1) + 1 = (form.formed t).nothing_after (i + 1) f next is_over in
          let n = near in
          let level : j ≡ i + 1 = omega arith in
          let same : Some f ≡ Some (Plain var nth cached write value raised) = sym next ∙
          subst (λ z. At (R t) z (Plain var nth cached write value raised)) level there in
          let s : f ≡ Plain var nth cached write value raised = cc in
          subst IsOver s is_over

  module _ (setting : Setting) (h : List Stamp) (machine : IsMachineRun setting R h) where
    -- a plain access is made by a running thread
    pub plain_runs : (c : Place) (p var nth : ℕ) (cached write raised : Bool) (value : ℤ) →
        EntryAt R c (Plain var nth cached write value raised) → IsBlockOf R c p → (machine.at (p + 1)).threads c.thread ≡ Running
    plain_runs c p var nth cached write raised value there b =
        subst (λ t. (machine.at (p + 1)).threads t ≡ Running) b.made.own
        (runs_on setting (machine.at p) (machine.at (p + 1)) b.event.thread (value_of b.made.entry) b.event.event
        (machine.steps (record { thread = c.thread; index = b.index }) p b.event b.made) no_end)
      where
        no_end : b.event.event ≡ Does End → ⊥
        no_end is =
            let end : IsEnd b.made.entry = end_entry b.made.entry (b.made.event ∙ ap Some is) in
            elim (eq-or-lt_of_le b.within) [
              | inl same ↦
                  (let at : At (R c.thread) c.index b.made.entry = subst (λ z. At (R c.thread) z b.made.entry) same b.made.there in
                  let s = same_entry R c b.made.entry (Plain var nth cached write value raised) at there in
                  subst IsEnd s end)
              | inr lt ↦ not_behind_end c.thread b.index c.index b.made.entry var nth cached write raised value b.made.there end there lt
            ]
