-- What a thread's own list says of it.
use Rattle.std.proofs.Common.{◌≡◌, ℕ, zero, suc, ◌+◌, List, [], ◌∷◌, length, refl, sym, ap, subst, arith, ◌∙◌, Some, None}
use Rattle.gl_model.specs.declared.event.Act.{Act}
use Rattle.gl_model.specs.declared.event.Act.TheVariants.{Begin, End, Acq, Rel, VRead, VWrite, Fork, Join, Alloc, Print, Input, Fail}
use Rattle.gl_model.specs.Entries.{Entry, Sync, Commit, Plain, Abort, Trim, Over}
use Rattle.gl_model.specs.Form.{At, IsEnd, IsOver, IsTrim}
use Rattle.gl_draws.specs.Ties.{last_position, or_else}
use Rattle.gl_rule.specs.Adding.{MayEnd}
use Rattle.gl_rule.specs.View.{shelf}
use Rattle.gl_rule.specs.Lives.{Life, Unbegun, Running, Ended, Closed, life_act, life_entry, life_after, life_from, life_of}

-- a closed list does not run after further entries
closed_stays : (es : List Entry) → life_from Closed es ≡ Running → ⊥
closed_stays [] e = absurd (cc)
closed_stays (x ∷ es) e = closed_stays es e

-- a list that goes on from an ended thread does not leave it running
ended_stays : (es : List Entry) → life_from Ended es ≡ Running → ⊥
ended_stays [] e = absurd (cc)
ended_stays (x ∷ es) e = closed_stays es e

-- an entry of an end makes the thread's life ended by its act
act_ends : (act : Act) (at : ℕ) (value : _) → IsEnd (Sync at act value) → life_act act ≡ Ended
act_ends End at value h = refl
act_ends (Begin f) at value h = absurd h
act_ends (Acq o) at value h = absurd h
act_ends (Rel o) at value h = absurd h
act_ends (VRead o) at value h = absurd h
act_ends (VWrite o) at value h = absurd h
act_ends (Fork u f) at value h = absurd h
act_ends (Join u) at value h = absurd h
act_ends (Alloc c) at value h = absurd h
act_ends Print at value h = absurd h
act_ends Input at value h = absurd h
act_ends (Fail k) at value h = absurd h

-- after the entry of its end a thread has ended
entry_ends : (life : Life) (x : Entry) → IsEnd x → life_entry life x ≡ Ended
entry_ends life (Sync a b c) h = act_ends b a c h
entry_ends life (Commit a b) h = absurd h
entry_ends life (Plain a b c d f g) h = absurd h
entry_ends life (Abort a b) h = absurd h
entry_ends life (Trim a) h = absurd h
entry_ends life (Over a) h = absurd h

-- after the entry that ends its list a thread is closed
entry_closes : (life : Life) (x : Entry) → IsOver x → life_entry life x ≡ Closed
entry_closes life (Over a) h = refl
entry_closes life (Sync a b c) h = absurd h
entry_closes life (Commit a b) h = absurd h
entry_closes life (Plain a b c d f g) h = absurd h
entry_closes life (Abort a b) h = absurd h
entry_closes life (Trim a) h = absurd h

-- a thread that runs after its list had no end at that entry
no_end_here : (life : Life) (x : Entry) (es : List Entry) → life_from (life_after life x) es ≡ Running → IsEnd x → ⊥
no_end_here Unbegun x es e h = ended_stays es (ap (λ l. life_from l es) (sym (entry_ends Unbegun x h)) ∙ e)
no_end_here Running x es e h = ended_stays es (ap (λ l. life_from l es) (sym (entry_ends Running x h)) ∙ e)
no_end_here Ended x es e h = ended_stays (x ∷ es) e
no_end_here Closed x es e h = closed_stays (x ∷ es) e

-- a thread that runs after its list had no entry there that ends the list
no_over_here : (life : Life) (x : Entry) (es : List Entry) → life_from (life_after life x) es ≡ Running → IsOver x → ⊥
no_over_here Unbegun x es e h = closed_stays es (ap (λ l. life_from l es) (sym (entry_closes Unbegun x h)) ∙ e)
no_over_here Running x es e h = closed_stays es (ap (λ l. life_from l es) (sym (entry_closes Running x h)) ∙ e)
no_over_here Ended x es e h = ended_stays (x ∷ es) e
no_over_here Closed x es e h = closed_stays (x ∷ es) e

-- what stands in two equal options is equal
some_same : (a c : Entry) → Some a ≡ Some c → a ≡ c
some_same a c e = cc

-- the entries have none of these, where a life that goes on shows it of each
none_of : (P : Entry → Type 0) → ((life : Life) (x : Entry) (es : List Entry) → life_from (life_after life x) es ≡ Running → P x → ⊥)
    → (life : Life) (es : List Entry) → life_from life es ≡ Running → (i : ℕ) (e : Entry) → At es i e → P e → ⊥
none_of P here life [] run i e at h = absurd (cc)
none_of P here life (x ∷ es) run zero e at h = here life x es run (subst P (sym (some_same x e at)) h)
none_of P here life (x ∷ es) run (suc i) e at h = none_of P here (life_after life x) es run i e at h

-- a list whose life is running has no End
pub no_end : (es : List Entry) → life_of es ≡ Running → (i : ℕ) (e : Entry) → At es i e → IsEnd e → ⊥
no_end es run i e at h = none_of IsEnd no_end_here Unbegun es run i e at h

-- nor Over
pub no_over : (es : List Entry) → life_of es ≡ Running → (i : ℕ) (e : Entry) → At es i e → IsOver e → ⊥
no_over es run i e at h = none_of IsOver no_over_here Unbegun es run i e at h

-- an option, or else something, is something
or_some : (o : _) (p : ℕ) → (q : ℕ) × (or_else o (Some p) ≡ Some q)
or_some None p = (p, refl)
or_some (Some q) p = (q, refl)

-- the list of a thread that runs has an event
pub has_block : (es : List Entry) → life_of es ≡ Running → (p : ℕ) × (last_position es ≡ Some p)
has_block [] run = absurd (cc)
has_block (Sync a b c ∷ es) run = or_some (last_position es) a
has_block (Commit a b ∷ es) run = or_some (last_position es) a
has_block (Plain a b c d f g ∷ es) run = let r = has_block es run in (r.0, ap (λ o. or_else o None) r.1)
has_block (Abort a b ∷ es) run = let r = has_block es run in (r.0, ap (λ o. or_else o None) r.1)
has_block (Trim a ∷ es) run = let r = has_block es run in (r.0, ap (λ o. or_else o None) r.1)
has_block (Over a ∷ es) run = absurd (closed_stays es run)

-- it has an entry that is no Trim
pub has_begun : (es : List Entry) → life_of es ≡ Running → (i : ℕ) × ((e : Entry) × At es i e × (IsTrim e → ⊥))
has_begun [] run = absurd (cc)
has_begun (Sync a b c ∷ es) run = (0, (Sync a b c, refl, λ t. t))
has_begun (Commit a b ∷ es) run = (0, (Commit a b, refl, λ t. t))
has_begun (Plain a b c d f g ∷ es) run = (0, (Plain a b c d f g, refl, λ t. t))
has_begun (Abort a b ∷ es) run = (0, (Abort a b, refl, λ t. t))
has_begun (Trim a ∷ es) run = let r = has_begun es run in (suc r.0, r.1)
has_begun (Over a ∷ es) run = absurd (closed_stays es run)

-- an act after which a thread has ended is an end
ends_act : (act : Act) (at : ℕ) (value : _) → life_act act ≡ Ended → IsEnd (Sync at act value)
ends_act End at value e = tt
ends_act (Begin f) at value e = absurd (cc)
ends_act (Acq o) at value e = absurd (cc)
ends_act (Rel o) at value e = absurd (cc)
ends_act (VRead o) at value e = absurd (cc)
ends_act (VWrite o) at value e = absurd (cc)
ends_act (Fork u f) at value e = absurd (cc)
ends_act (Join u) at value e = absurd (cc)
ends_act (Alloc c) at value e = absurd (cc)
ends_act Print at value e = absurd (cc)
ends_act Input at value e = absurd (cc)
ends_act (Fail k) at value e = absurd (cc)

-- an entry after which a thread has ended that had not before is that of an end
ends_entry : (life : Life) (x : Entry) → (life ≡ Ended → ⊥) → life_entry life x ≡ Ended → IsEnd x
ends_entry life (Sync a b c) ne e = ends_act b a c e
ends_entry life (Commit a b) ne e = absurd (cc)
ends_entry life (Plain a b c d f g) ne e = absurd (ne e)
ends_entry life (Abort a b) ne e = absurd (ne e)
ends_entry life (Trim a) ne e = absurd (ne e)
ends_entry life (Over a) ne e = absurd (cc)

-- an entry that makes a thread's life ended is that of an end
is_end : (life : Life) (x : Entry) → life_after life x ≡ Ended → IsEnd x
is_end Unbegun x e = ends_entry Unbegun x (λ z. cc) e
is_end Running x e = ends_entry Running x (λ z. cc) e
is_end Ended x e = absurd (cc)
is_end Closed x e = absurd (cc)

-- a list after which a thread has ended has the entry of its end last
last_end : (life : Life) (x : Entry) (es : List Entry) → life_from life (x ∷ es) ≡ Ended → (i : ℕ) × (length (x ∷ es) ≡ i + 1)
    × ((e : Entry) × At (x ∷ es) i e × IsEnd e)
last_end life x [] e = (0, refl, (x, refl, is_end life x e))
last_end life x (y ∷ es) e = let r = last_end (life_after life x) y es e in (suc r.0, (let n = r.1 in omega arith), r.2)

-- the last entry of a thread that has ended is its End
pub may_end : (t : ℕ) (es : List Entry) → life_of es ≡ Ended → MayEnd (shelf t es)
may_end t [] e = absurd (cc)
may_end t (x ∷ es) e = let r = last_end Unbegun x es e in record { index = r.0; last = r.1; entry = r.2.0; there = r.2.1; is = r.2.2 }
