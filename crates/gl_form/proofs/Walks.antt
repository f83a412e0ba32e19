-- A walk along a list: what it has kept at the head of the list, and at its end.
use Rattle.std.proofs.Common.{◌≡◌, ◌≢◌, ℕ, ◌+◌, ◌<◌, ◌≤◌, Bool, true, false, List, [], ◌∷◌, length, refl, sym, ◌∙◌, ap, subst, arith, inl}
use Rattle.std.proofs.Common.{inr, zero, suc, map, get_or}
use Rattle.std.specs.Prelude.{MatchBool}
use Rattle.std.specs.List.{AllByRecursion}
use Rattle.std.specs.Option.{option_map}
use Rattle.std.proofs.lemmas.Bool.{cases_lt}
use Rattle.std.proofs.lemmas.Option.{slice_get-map, slice_get_read, slice_get_within}
use Rattle.gl_model.specs.declared.tx.Why.TheVariants.{Changed, Raised}
use Rattle.gl_model.specs.declared.record.Entry.{Entry as StoredEntry}
use Rattle.gl_model.specs.Kept.{IsEntryKept}
use Rattle.gl_model.specs.Entries.{Entry, seen, Sync, Commit, Plain, Abort, Trim, Over}
use Rattle.gl_model.specs.Form.{EntryForm, IsOver}
use Rattle.gl_model.specs.Records.{At}
use Rattle.gl_form.specs.Passed.{Follows, IsAllowed, StandAfterLooks}
use Rattle.gl_form.proofs.Lasts.{before_next}
use Rattle.gl_form.specs.Rules.{DrawsOn, FormFails, HasLow, HasPosition, KeepsForm, RisesAt}

-- an empty list has an entry at no place
no_entry : (i : ℕ) (e : Entry) → At [] i e → ⊥
no_entry i e at = cc

-- the own numbers of an entry that is formed stand after its looks'
pub formed_stands : (t : ℕ) (e : Entry) → EntryForm t e → StandAfterLooks e
formed_stands t (Commit at tx) form x k m (value, look) own = form.after_looks x k m value look own
formed_stands t (Abort tx (Raised var)) form x k m (value, look) own = form.after_looks x k m value look own
formed_stands t (Abort tx (Changed var read found)) form x k m (value, look) own = form.0.after_looks x k m value look own
formed_stands t (Sync at act value) form x k m look own = absurd look
formed_stands t (Plain var nth cached write value raised) form x k m look own = absurd look
formed_stands t (Trim low) form x k m look own = absurd look
formed_stands t (Over ending) form x k m look own = absurd look

module _ (t : ℕ) (es : List Entry) (i : ℕ) where
  -- a place that keeps all rules of form keeps those of Begin, End and Over
  pub follows_of : KeepsForm t es i → Follows es i
  follows_of keeps = record { begins = keeps.begins; over_after_end = keeps.over_after_end; nothing_after = keeps.nothing_after }

  -- where an entry at place i keeps these rules, the form is kept there
  pub keeps_here :
      (e : Entry) → At es i e → EntryForm t e → Follows es i → RisesAt HasPosition es i → RisesAt HasLow es i →
      ((x : ℕ) → RisesAt (DrawsOn x) es i) →
      IsAllowed es i → KeepsForm t es i
  keeps_here e at form follows positions lows numbers allowed = record {
    main = λ first zero none. no_entry i e (subst (λ fs. At fs i e) none at);
    well_formed = λ f there. (let same : e ≡ f = cc in subst (EntryForm t) same form);
    begins = follows.begins;
    positions_rise = positions;
    numbers_rise = numbers;
    lows_rise = lows;
    over_after_end = follows.over_after_end;
    nothing_after = follows.nothing_after;
    ends = λ some last. (let within = slice_get_within es i e at in absurd (omega arith));
    cached = allowed;
  }

  -- at and behind the end of a list the form is kept, where thread 0's list has an entry, and a list with entries has an Over
  pub keeps_past :
      length es ≤ i → (t ≡ 0 → es ≢ []) → (es ≢ [] → i ≡ length es → (j : ℕ) × ((e : Entry) × At es j e × IsOver e)) → KeepsForm t es i
  keeps_past past main ends = record {
    main = λ first zero. main first;
    well_formed = λ f there. absurd (nothing f there);
    begins = λ f there. absurd (nothing f there);
    positions_rise = λ j k m e f at there. absurd (nothing f there);
    numbers_rise = λ x j k m e f at there. absurd (nothing f there);
    lows_rise = λ j k m e f at there. absurd (nothing f there);
    over_after_end = λ j e f next at there. absurd (nothing f there);
    nothing_after = λ j e f at there. absurd (nothing f there);
    ends = ends;
    cached = λ x k write value there. absurd (nothing _ there);
  } where
    -- no entry stands at place i, which is at or behind the end of the list
    nothing : (f : Entry) → At es i f → ⊥
    nothing f there = (let within = slice_get_within es i f there in omega arith)

  -- where all other rules are kept at place i, whether a cached entry has
  -- its right there decides whether the form is kept and the walk goes on
  pub walks_on :
      (e : Entry) → At es i e → EntryForm t e → Follows es i → RisesAt HasPosition es i → RisesAt HasLow es i →
      ((x : ℕ) → RisesAt (DrawsOn x) es i) → (Rights Next : Type 0) →
      (Rights → Next) → (answer : Bool) → MatchBool answer (IsAllowed es i × Rights) (IsAllowed es i → ⊥) →
      MatchBool answer (KeepsForm t es i × Next) (KeepsForm t es i → ⊥)
  walks_on e at form follows positions lows numbers Rights Next next true allowed =
      (keeps_here e at form follows positions lows numbers allowed.0, next allowed.1)
  walks_on e at form follows positions lows numbers Rights Next next false wrong = λ keeps. wrong keeps.cached

-- ## A whole list

-- what stands at place i of a stored list stands, as it is seen, at place i of the list as it is seen
pub entry_at : (list : List StoredEntry) (i : ℕ) (x : StoredEntry) → i < length list → x ≡ get_or list i x → At (map seen list) i (seen x)
entry_at list i x less is = slice_get-map seen list i ∙ ap (option_map seen) (slice_get_read list (length list) i x refl less is)

-- of a list whose entries all keep to the ids that there are, the one at a place does
pub entry_kept : (es : List Entry) (i : ℕ) (e : Entry) → AllByRecursion IsEntryKept es → At es i e → IsEntryKept e
entry_kept [] i e kept at = absurd (no_entry i e at)
entry_kept (f ∷ es) zero e kept at = (let same : f ≡ e = cc in subst IsEntryKept same kept.0)
entry_kept (f ∷ es) (suc i) e kept at = entry_kept es i e kept.1 at

module _ (t : ℕ) (es : List Entry) (n : ℕ) (keep : (j : ℕ) → j < n → KeepsForm t es j) where
  -- if place n keeps the rules too, so do the first n + 1 places
  pub keep_more : KeepsForm t es n → (j : ℕ) → j < n + 1 → KeepsForm t es j
  keep_more here j less = elim (before_next n j less) [
    | inl lt ↦ keep j lt
    | inr same ↦ (let P : ℕ → Type 0 = KeepsForm t es in
        subst P (sym same) here)
  ]

  -- none of the first n places fails the form
  pub earlier_keep : (j : ℕ) → j < n → FormFails t es j → ⊥
  earlier_keep j less fails = fails (keep j less)

  -- a list that ends with Over fails nowhere
  pub over_keeps : n ≡ length es → (j : ℕ) × ((e : Entry) × At es j e × (j < n) × IsOver e) → (i : ℕ) → FormFails t es i → ⊥
  over_keeps all (j, (e, at, less, over)) i fails = elim (cases_lt i n) [
    | inl lt ↦ fails (keep i lt)
    | inr ge ↦ fails (keeps_past t es i (omega arith) (λ first none. no_entry j e (subst (λ fs. At fs j e) none at))
        (λ some last. (j, (e, at, over))))
  ]

  -- one without an Over fails at its end
  pub no_over_fails : n ≡ length es → 0 < n → ((j : ℕ) (e : Entry) → At es j e → j < n → IsOver e → ⊥) → FormFails t es n
  no_over_fails all some none keeps = (
      let over = keeps.ends (λ (is : es ≡ []). let same = ap length is in omega arith) all in
      let within = slice_get_within es over.0 over.1.0 over.1.1 in
      none over.0 over.1.0 over.1.1 (omega arith) over.1.2)
