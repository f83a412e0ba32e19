-- A list that has not begun.
use Rattle.std.proofs.Common.{◌≡◌, ℕ, zero, suc, List, [], ◌∷◌, refl, sym, ap, subst, ◌∙◌, Bool, true, false, Some}
use Rattle.gl_model.specs.declared.event.Act.{Act}
use Rattle.gl_model.specs.declared.event.Act.TheVariants.{Begin, End, Acq, Rel, VRead, VWrite, Fork, Join, Alloc, Print, Input, Fail}
use Rattle.gl_model.specs.Entries.{Entry, Sync, Commit, Plain, Abort, Trim, Over}
use Rattle.gl_model.specs.Form.{At, EntryForm, IsEnd, IsOver}
use Rattle.gl_draws.specs.Forming.{MayStore}
use Rattle.gl_rule.specs.Lives.{Life, Unbegun, Running, Ended, Closed, life_act, life_after, life_from, life_of}

-- whether a life has begun
has_begun : Life → Bool
has_begun Unbegun = false
has_begun Running = true
has_begun Ended = true
has_begun Closed = true

-- after an act a life has begun
act_begins : (act : Act) → has_begun (life_act act) ≡ true
unfolding has_begun
act_begins (Begin f) = refl
act_begins End = refl
act_begins (Acq o) = refl
act_begins (Rel o) = refl
act_begins (VRead v) = refl
act_begins (VWrite v) = refl
act_begins (Fork u f) = refl
act_begins (Join u) = refl
act_begins (Alloc c) = refl
act_begins Print = refl
act_begins Input = refl
act_begins (Fail k) = refl

-- a life that has begun has begun after any entry
begun_after : (life : Life) (x : Entry) → has_begun life ≡ true → has_begun (life_after life x) ≡ true
unfolding has_begun
begun_after Unbegun x e = absurd (cc)
begun_after Running (Sync at act value) e = act_begins act
begun_after Running (Commit at tx) e = refl
begun_after Running (Plain var nth cached write value raised) e = refl
begun_after Running (Abort tx why) e = refl
begun_after Running (Trim low) e = refl
begun_after Running (Over ending) e = refl
begun_after Ended x e = refl
begun_after Closed x e = refl

-- a life that has begun has begun after any list
begun_stays : (life : Life) (es : List Entry) → has_begun life ≡ true → has_begun (life_from life es) ≡ true
begun_stays life [] e = e
begun_stays life (x ∷ es) e = begun_stays (life_after life x) es (begun_after life x e)

-- a life that has begun is not, after any list, one that has not
begun_not : (life : Life) (es : List Entry) → has_begun life ≡ true → life_from life es ≡ Unbegun → ⊥
unfolding has_begun
begun_not life es e none = let a : has_begun (life_from life es) ≡ true = begun_stays life es e in let c : has_begun (life_from life es)
    ≡ false = ap has_begun none in absurd (cc)

-- what stands in two equal options is equal
some_same : (a c : Entry) → Some a ≡ Some c → a ≡ c
some_same a c e = cc

-- an entry behind which a list has not begun is neither End nor Over
first_none : (x : Entry) (es : List Entry) → life_from (life_after Unbegun x) es ≡ Unbegun → (life_after Unbegun x ≡ Unbegun)
    × (IsEnd x → ⊥) × (IsOver x → ⊥)
unfolding has_begun
first_none (Sync at act value) es e = absurd (begun_not (life_act act) es (act_begins act) e)
first_none (Commit at tx) es e = absurd (begun_not Running es refl e)
first_none (Plain var nth cached write value raised) es e = (refl, (λ h. h), (λ h. h))
first_none (Abort tx why) es e = (refl, (λ h. h), (λ h. h))
first_none (Trim low) es e = (refl, (λ h. h), (λ h. h))
first_none (Over ending) es e = absurd (begun_not Closed es refl e)

-- a list that has not begun has no end and is not over
pub none_ended : (es : List Entry) → life_of es ≡ Unbegun → (i : ℕ) (e : Entry) → At es i e → (IsEnd e → ⊥) × (IsOver e → ⊥)
none_ended [] u i e at = absurd (cc)
none_ended (x ∷ es) u zero e at = let f = first_none x es u in let same = some_same x e at
    in (subst (λ z. IsEnd z → ⊥) same f.1, subst (λ z. IsOver z → ⊥) same f.2)
none_ended (x ∷ es) u (suc i) e at = none_ended es (ap (λ l. life_from l es) (sym (first_none x es u).0) ∙ u) i e at

-- the first event may be stored where the list has not begun
pub begins_store : (t : ℕ) (es : List Entry) (n f : ℕ) (value : _) → life_of es ≡ Unbegun → EntryForm t (Sync n (Begin f) value)
    → MayStore t es (Sync n (Begin f) value)
begins_store t es n f value u form = record {
  well_formed = form;
  begins = λ _ _. tt;
  lows = λ i low high at e. absurd (cc);
  after_end = λ i g at last. ((λ end. absurd ((none_ended es u i g at).0 end)), (λ over. absurd over));
  open_still = λ i g at over. (none_ended es u i g at).1 over;
  cached = λ x k write v e. absurd (cc);
  repeats = λ x k v e. absurd (cc);
}
