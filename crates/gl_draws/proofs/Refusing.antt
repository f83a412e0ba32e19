-- What is said of refused attempts goes on to hold behind later events, and with a larger number of events judged for later numbers.
use Rattle.std.proofs.Common.{◌≡◌, ℕ, zero, suc, ◌<◌, ◌≤◌, List, [], ◌∷◌, ◌++◌, length, take, sym, refl, ap, subst, arith, ◌∙◌, inl, inr, Some, length-append}
use Rattle.std.proofs.lemmas.Option.{slice_get_within}
use Rattle.gl_model.specs.declared.event.Stamp.{Stamp}
use Rattle.gl_model.specs.declared.tx.Tx.{Tx}
use Rattle.gl_model.specs.declared.tx.Why.TheVariants.{Raised, Changed}
use Rattle.gl_model.specs.Entries.{Entry, Sync, Commit, Plain, Abort, Trim, Over}
use Rattle.gl_model.specs.Records.{variables_of}
use Rattle.gl_draws.proofs.Reaching.{get_front}
use Rattle.gl_draws.specs.Draws.{What, Entered, Looked, Open, Draw, DrawAt, Among}
use Rattle.gl_draws.specs.NextRaces.{IsRacyNext}
use Rattle.gl_draws.specs.Refusals.{IsRefusedRightly, IsRefusal, RefusalRight, RefusalsHold, AreJudgedOnce}
use Rattle.gl_draws.specs.Verdicts.{DrawHolds, DrawsHold}
use Rattle.gl_draws.proofs.LastOnes.{each_at}
use Rattle.gl_draws.proofs.Pushes.{at_cases}

-- the first n of a longer list are the first n of the list, where it has so many
pub take_front : (log more : List Stamp) (n : ℕ) → n ≤ length log → take n (log ++ more) ≡ take n log
take_front log more zero le = refl
take_front [] more (suc n) le = absurd (omega arith)
take_front (x ∷ xs) more (suc n) le = ap (λ l. x ∷ l) (take_front xs more n (omega arith))

-- a refusal that was right is so with more events
right_grows : (log more : List Stamp) (until : ℕ → ℕ) (x : ℕ) (ds : List Draw) (t p : ℕ) (w : What) → RefusalRight log until x ds t p w
    → RefusalRight (log ++ more) until x ds t p w
right_grows log more until x ds t p (Entered (Abort tx (Raised var))) r =
    let e = sym (take_front log more (until (length ds)) r.within) in record {
      within = let a = r.within in omega (arith, length-append log more);
      block = r.block;
      upto = λ q s at own lt. r.upto q s (sym (get_front log more q (let a = r.within in omega arith)) ∙ at) own lt;
      named = λ is. subst (λ l. IsRacyNext l x ds t (Some (variables_of tx)) (Abort tx (Raised var))) e (r.named is);
      least = λ lt racy. r.least lt (subst (λ l. IsRacyNext l x ds t (Some (variables_of tx)) (Abort tx (Raised var))) (sym e) racy);
      behind = r.behind;
    }
right_grows log more until x ds t p (Entered (Abort tx (Changed a b c))) r = tt
right_grows log more until x ds t p (Entered (Commit at tx)) r = r
right_grows log more until x ds t p (Entered (Sync a b c)) r = tt
right_grows log more until x ds t p (Entered (Plain a b c d e f)) r = tt
right_grows log more until x ds t p (Entered (Trim a)) r = tt
right_grows log more until x ds t p (Entered (Over a)) r = tt
right_grows log more until x ds t p (Looked z) r = tt
right_grows log more until x ds t p Open r = tt

-- what is said of a variable's refusals holds with more events
pub refusals_grow : (log more : List Stamp) (until : ℕ → ℕ) (x : ℕ) (ds : List Draw) → RefusalsHold log until x ds
    → RefusalsHold (log ++ more) until x ds
refusals_grow log more until x [] r = tt
refusals_grow log more until x (d ∷ ds) r =
    (right_grows log more until x ds d.thread d.block d.what r.0, refusals_grow log more until x ds r.1)

-- the numbers below that of the head are judged as before
right_until : (log : List Stamp) (u u' : ℕ → ℕ) (x : ℕ) (ds : List Draw) (t p : ℕ) (w : What) → ((k : ℕ) → k ≤ length ds → u' k ≡ u k)
    → RefusalRight log u x ds t p w → RefusalRight log u' x ds t p w
right_until log u u' x ds t p (Entered (Abort tx (Raised var))) same r =
    subst (λ n. IsRefusedRightly log x ds t p tx var n) (sym (same (length ds) (omega arith))) r
right_until log u u' x ds t p (Entered (Abort tx (Changed a b c))) same r = tt
right_until log u u' x ds t p (Entered (Commit at tx)) same r = λ k a at' is. let q =
    Rattle.gl_draws.proofs.DrawPlaces.draw_below ds k a at' in subst (λ n. n ≤ p) (sym (same k (omega arith))) (r k a at' is)
right_until log u u' x ds t p (Entered (Sync a b c)) same r = tt
right_until log u u' x ds t p (Entered (Plain a b c d e f)) same r = tt
right_until log u u' x ds t p (Entered (Trim a)) same r = tt
right_until log u u' x ds t p (Entered (Over a)) same r = tt
right_until log u u' x ds t p (Looked z) same r = tt
right_until log u u' x ds t p Open same r = tt

-- what is said of refusals asks nothing of how far numbers that are not drawn were judged
pub refusals_until : (log : List Stamp) (u u' : ℕ → ℕ) (x : ℕ) (ds : List Draw) → ((k : ℕ) → k < length ds → u' k ≡ u k)
    → RefusalsHold log u x ds → RefusalsHold log u' x ds
refusals_until log u u' x [] same r = tt
refusals_until log u u' x (d ∷ ds) same r = (
  right_until log u u' x ds d.thread d.block d.what (λ k le. same k (omega arith)) r.0,
  refusals_until log u u' x ds
      (λ k lt. same k (omega arith)) r.1,
)

-- each draw of a rule that holds is in the list of events
pub block_in : (log : List Stamp) (x : ℕ) (ds : List Draw) (a : Draw) → DrawsHold log x ds → Among ds a → a.block < length log
block_in log x ds a all among = let h = (each_at (DrawHolds log x) ds a all among).1.placed in slice_get_within log a.block h.event h.here

-- a refused attempt among the draws was judged over events of the list
refusal_within : (log : List Stamp) (until : ℕ → ℕ) (x : ℕ) (ds : List Draw) (k : ℕ) (a : Draw) → RefusalsHold log until x ds
    → DrawAt ds k a → IsRefusal a.what → until k ≤ length log
refusal_within log until x [] k a r at is = absurd at
refusal_within log until x (d ∷ ds) k a r (inl e) is = by d.what refl (subst (λ (z : Draw). IsRefusal z.what) e.1 is)
  where
    by : (w : What) → d.what ≡ w → IsRefusal d.what → until k ≤ length log
    by (Entered (Abort tx (Raised var))) same is = let q : RefusalRight log until x ds d.thread d.block (Entered (Abort tx (Raised var))) =
        subst (λ z. RefusalRight log until x ds d.thread d.block z) same r.0 in subst (λ z. until z ≤ length log) (sym e.0) q.within
    by (Entered (Abort tx (Changed a b c))) same is =
        absurd (let z : IsRefusal (Entered (Abort tx (Changed a b c))) = subst IsRefusal same is in z)
    by (Entered (Commit at tx)) same is = absurd (let z : IsRefusal (Entered (Commit at tx)) = subst IsRefusal same is in z)
    by (Entered (Sync a b c)) same is = absurd (let z : IsRefusal (Entered (Sync a b c)) = subst IsRefusal same is in z)
    by (Entered (Plain a b c d e f)) same is = absurd (let z : IsRefusal (Entered (Plain a b c d e f)) = subst IsRefusal same is in z)
    by (Entered (Trim a)) same is = absurd (let z : IsRefusal (Entered (Trim a)) = subst IsRefusal same is in z)
    by (Entered (Over a)) same is = absurd (let z : IsRefusal (Entered (Over a)) = subst IsRefusal same is in z)
    by (Looked v) same is = absurd (let z : IsRefusal (Looked v) = subst IsRefusal same is in z)
    by Open same is = absurd (let z : IsRefusal Open = subst IsRefusal same is in z)
refusal_within log until x (d ∷ ds) k a r (inr at) is = refusal_within log until x ds k a r.1 at is

-- a commit that comes at the end of the list is at or behind what each refused attempt before it was judged over
pub refusals_commit : (log more : List Stamp) (until : ℕ → ℕ) (x : ℕ) (ds : List Draw) (at : ℕ) (tx : Tx) → RefusalsHold log until x ds
    → RefusalRight (log ++ more) until x ds at (length log) (Entered (Commit at tx))
refusals_commit log more until x ds at tx r k a is refusal = refusal_within log until x ds k a r is refusal

-- an entry more that is no refused attempt leaves those judged once
pub refusals_push : (until : ℕ → ℕ → ℕ) (es : List Entry) (e : Entry) → ((tx : Tx) (var : ℕ) → e ≡ Abort tx (Raised var) → ⊥)
    → AreJudgedOnce until es → AreJudgedOnce until (es ++ e ∷ [])
refusals_push until es e not k i tx var at =
    elim (at_cases es e (Abort tx (Raised var)) i at) [ inl old ↦ k i tx var old | inr new ↦ absurd (not tx var (sym new.1)) ]
