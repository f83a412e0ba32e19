-- How far a list has come goes on from one entry to the next.
use Rattle.std.proofs.Common.{◌≡◌, ℕ, ◌+◌, ◌<◌, List, refl, sym, arith, inl, inr}
use Rattle.std.specs.Prelude.{◌⊎◌}
use Rattle.gl_model.specs.Entries.{Entry, Sync, Trim, Over}
use Rattle.gl_model.specs.declared.event.Act.TheVariants.{Begin}
use Rattle.gl_model.specs.Form.{IsBegin, IsEnd, IsOver, IsTrim}
use Rattle.gl_model.specs.Records.{At}
use Rattle.gl_form.specs.Passed.{Follows, IsAtStage}
use Rattle.gl_form.specs.declared.stage.Stage.TheVariants.{Fresh, Running, Ended, Over as AllOver}
use Rattle.gl_form.proofs.Lasts.{before_next, same_entry}

-- a Trim is no End
trim_no_end : (e : Entry) → IsTrim e → IsEnd e → ⊥
trim_no_end (Trim low) trim ends = ends
trim_no_end _ trim ends = trim

-- a Trim is no Over
trim_no_over : (e : Entry) → IsTrim e → IsOver e → ⊥
trim_no_over (Trim low) trim over = over
trim_no_over _ trim over = trim

-- a Begin is no Over
begin_no_over : (e : Entry) → IsBegin e → IsOver e → ⊥
begin_no_over (Over ending) begins over = begins
begin_no_over _ begins over = over

-- an End is no Over
end_no_over : (e : Entry) → IsEnd e → IsOver e → ⊥
end_no_over (Over ending) ends over = ends
end_no_over _ ends over = over

-- a Begin is no Trim
begin_no_trim : (e : Entry) → IsBegin e → IsTrim e → ⊥
begin_no_trim (Trim low) begins trim = begins
begin_no_trim _ begins trim = trim

-- a Begin is no End
begin_no_end : (e : Entry) → IsBegin e → IsEnd e → ⊥
begin_no_end (Sync at (Begin f) value) begins ends = ends
begin_no_end _ begins ends = begins

module _ (es : List Entry) (i : ℕ) (e : Entry) (at : At es i e) where
  -- what holds of the entry there holds of each entry that stands there
  here : (P : Entry → Type 0) (j : ℕ) (f : Entry) → P e → At es j f → j ≡ i → P f
  here P j f of_e there same = (let one : f ≡ e = same_entry es i j e f at there same in rw one of_e)

  -- what holds of an entry that stands there holds of e
  back : (P : Entry → Type 0) (j : ℕ) (f : Entry) → P f → At es j f → j ≡ i → P e
  back P j f of_f there same = (let one : f ≡ e = same_entry es i j e f at there same in rw (sym one) of_f)

  -- what no entry before the place is, nor that at the place, none before the next place is
  none_next :
      (P : Entry → Type 0) → ((j : ℕ) (f : Entry) → At es j f → j < i → P f → ⊥) → (P e → ⊥) → (j : ℕ) (f : Entry) → At es j f → j < i + 1 →
      P f → ⊥
  none_next P none not_here j f there before is = elim (before_next i j before) [
    | inl less ↦ none j f there less is
    | inr same ↦ not_here (back P j f is there same)
  ]

  -- what holds of all entries before the place, and of that at the place, holds of all before the next place
  all_next :
      (P : Entry → Type 0) → ((j : ℕ) (f : Entry) → At es j f → j < i → P f) → P e → (j : ℕ) (f : Entry) → At es j f → j < i + 1 → P f
  all_next P all of_e j f there before = elim (before_next i j before) [
    | inl less ↦ all j f there less
    | inr same ↦ here P j f of_e there same
  ]

  module _ (fresh : IsAtStage es i Fresh) where
    -- where all before place i are Trims, the rules are kept there by an entry that is no Over, and that is Begin unless it is a Trim
    fresh_follows : (IsTrim e → ⊥) ⊎ IsTrim e → ((IsTrim e → ⊥) → IsBegin e) → (IsOver e → ⊥) → Follows es i
    fresh_follows cases begins no_over = record {
      begins = λ f there no_trim all. here IsBegin i f (begins (λ trim. no_trim (here IsTrim i f trim there refl))) there refl;
      over_after_end = λ j f g next there also. (
        (λ ends. absurd (trim_no_end f (fresh j f there (omega arith)) ends)),
        (λ over. absurd (no_over (back IsOver i g over also refl))),
      );
      nothing_after = λ j f g there also before over. trim_no_over f (fresh j f there before) over;
    }

    -- where all before place i are Trims, a Trim there keeps the rules, and all before place i + 1 are Trims
    pub fresh_trim : IsTrim e → Follows es i × IsAtStage es (i + 1) Fresh
    fresh_trim trim =
        (fresh_follows (inr trim) (λ other. absurd (other trim)) (λ over. trim_no_over e trim over), all_next IsTrim fresh trim)

    -- where all before place i are Trims, a Begin there keeps the rules, and the thread is running after it
    pub fresh_begin : IsBegin e → Follows es i × IsAtStage es (i + 1) Running
    fresh_begin begins = (
      fresh_follows (inl (λ trim. begin_no_trim e begins trim)) (λ other. begins) (λ over. begin_no_over e begins over),
      (
        (i, (e, at, omega arith, λ trim. begin_no_trim e begins trim)),
        none_next IsOver (λ j f there before over. trim_no_over f (fresh j f there before) over) (λ over. begin_no_over e begins over),
        (i, (e, at, refl, λ ends. begin_no_end e begins ends)),
      ),
    )

    -- where all before place i are Trims, an entry there that is neither a Trim nor a Begin breaks the rules
    pub fresh_other : (IsTrim e → ⊥) → (IsBegin e → ⊥) → Follows es i → ⊥
    fresh_other no_trim no_begin follows = no_begin (follows.begins e at no_trim (λ j f there before. fresh j f there before))

  module _ (running : IsAtStage es i Running) where
    -- where the thread is running, the entry just before place i is no End
    not_end : (j : ℕ) (f : Entry) → At es j f → i ≡ j + 1 → IsEnd f → ⊥
    not_end j f there next ends =
        let last = running.2.1.2 in
        let same : f ≡ running.2.1.0 = same_entry es running.2.0 j running.2.1.0 f running.2.1.1 there (omega arith) in
        running.2.1.3 (rw (sym same) ends)

    -- where the thread is running, any entry but an Over keeps the rules of Begin, End and Over
    running_follows : (IsOver e → ⊥) → Follows es i
    running_follows no_over = record {
      begins = λ f there no_trim all. absurd (running.0.1.3 (all running.0.0 running.0.1.0 running.0.1.1 running.0.1.2));
      over_after_end =
          λ j f g next there also. (
            (λ ends. absurd (not_end j f there next ends)),
            (λ over. absurd (no_over (back IsOver i g over also refl))),
          );
      nothing_after = λ j f g there also before over. running.1 j f there before over;
    }

    -- where the thread is running, an End keeps the rules, and the thread has ended after it
    pub running_end : IsEnd e → Follows es i × IsAtStage es (i + 1) Ended
    running_end ends = (
      running_follows (λ over. end_no_over e ends over),
      ((i, (e, at, refl, ends)), none_next IsOver running.1 (λ over. end_no_over e ends over)),
    )

    -- where the thread is running, an entry that is neither an End nor an Over keeps the rules, and the thread runs on
    pub running_on : (IsEnd e → ⊥) → (IsOver e → ⊥) → Follows es i × IsAtStage es (i + 1) Running
    running_on no_end no_over = (
      running_follows no_over,
      (
        (running.0.0, (running.0.1.0, running.0.1.1, (let less = running.0.1.2 in omega arith), running.0.1.3)),
        none_next IsOver running.1 no_over,
        (i, (e, at, refl, no_end)),
      ),
    )

    -- where the thread is running, an Over breaks the rules
    pub running_over : IsOver e → Follows es i → ⊥
    running_over over follows = running.2.1.3 ((follows.over_after_end running.2.0 running.2.1.0 e running.2.1.2 running.2.1.1 at).1 over)

  module _ (ended : IsAtStage es i Ended) where
    -- where the thread has ended, an Over keeps the rules, and the list is over after it
    pub ended_over : IsOver e → Follows es i × IsAtStage es (i + 1) AllOver
    ended_over over = (
      record {
        begins = λ f there no_trim all. absurd (trim_no_end ended.0.1.0 (all ended.0.0 ended.0.1.0 ended.0.1.1 (let next = ended.0.1.2 in
            omega arith)) ended.0.1.3);
        over_after_end = λ j f g next there also. (
          (λ ends. here IsOver i g over also refl),
          (λ is. (let last = ended.0.1.2 in
              let same : f ≡ ended.0.1.0 = same_entry es ended.0.0 j ended.0.1.0 f ended.0.1.1 there (omega arith) in
              rw same ended.0.1.3)),
        );
        nothing_after = λ j f g there also before is. ended.1 j f there before is;
      },
      (i, (e, at, omega arith, over)),
    )

    -- where the thread has ended, an entry that is no Over breaks the rules
    pub ended_other : (IsOver e → ⊥) → Follows es i → ⊥
    ended_other no_over follows = no_over ((follows.over_after_end ended.0.0 ended.0.1.0 e ended.0.1.2 ended.0.1.1 at).0 ended.0.1.3)

  -- where an Over came before place i, any entry there breaks the rules
  pub over_any : IsAtStage es i AllOver → Follows es i → ⊥
  over_any over follows = follows.nothing_after over.0 over.1.0 e over.1.1 at over.1.2 over.1.3
