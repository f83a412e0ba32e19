-- The monitors that a thread owns, one after another.
use Rattle.std.proofs.Common.{◌≡◌, ◌∙◌, ℕ, zero, suc, ◌+◌, ◌<◌, ◌≤◌, List, [], ◌∷◌, ◌++◌, length, take, refl, sym, ap, subst, arith, inl, inr, true, false, ne_eqb, replicate}
use Rattle.std.specs.Prelude.{◌↔◌, Contains, fold, min, nat_lt, slice_index_or}
use Rattle.std.specs.List.{AllByRecursion}
use Rattle.std.proofs.lemmas.Bool.{cases_lt, ltb-true, ltb-false}
use Rattle.std.proofs.lemmas.List.{get_or-replicate}
use Rattle.gl_model.specs.declared.event.Act.{Act}
use Rattle.gl_model.specs.declared.event.Act.TheVariants.{Begin, End, Acq, Rel, VRead, VWrite, Fork, Join, Alloc, Print, Input, Fail}
use Rattle.gl_model.specs.declared.limits.TheConstants.{MONITORS}
use Rattle.gl_model.specs.Elements.{IsActInRange}
use Rattle.gl_model.specs.Entries.{Entry, Sync, Commit, Plain, Abort, Trim, Over}
use Rattle.gl_model.specs.Kept.{IsEntryKept}
use Rattle.gl_model.specs.Rising.{Rises}
use Rattle.gl_causes.specs.Owned.{AreDepths, AreOwned, depth, depth_after, depth_after_act}
use Rattle.gl_model.proofs.RisingPushes.{in_none, in_push, rises_push}

-- these are the monitors below n that are entered, by the table
pub record AreOwnedBelow (depths : List ℕ) (n : ℕ) (monitors : List ℕ) : Type 0 where
  pub rises : Rises monitors
  pub each : (m : ℕ) → Contains monitors m ↔ ((m < n) × (0 < slice_index_or depths m 0))

module _ (depths : List ℕ) where
  -- below 0 no monitor is entered
  pub none_owned : AreOwnedBelow depths 0 []
  none_owned = record { rises = tt; each = λ m. (λ c. absurd (in_none m c), λ w. let n = w.0 in absurd (omega arith)) }

  -- a monitor n that is entered comes behind those below n
  pub one_owned : (n : ℕ) (monitors : List ℕ) → nat_lt 0 (slice_index_or depths n 0) ≡ true → AreOwnedBelow depths n monitors
      → AreOwnedBelow depths (n + 1) (monitors ++ n ∷ [])
  one_owned n monitors test o = let held : 0 < slice_index_or depths n 0 = ltb-true 0 (slice_index_or depths n 0) test in record {
    rises = rises_push monitors n (λ y c. ((o.each y).0 c).0) o.rises;
    each = λ m. (
      λ c. elim ((in_push monitors n m).0 c) [
        | inl before ↦ (let w = (o.each m).0 before in let l = w.0 in (omega arith, w.1))
        | inr here ↦ (let P : ℕ → Type 0 = λ z. 0 < slice_index_or depths z 0
            in (omega arith, subst P (sym here) held))
      ],
      λ w. (in_push monitors n m).1 (let l = w.0
          in elim (cases_lt m n) [ inl below ↦ inl ((o.each m).1 (below, w.1)) | inr over ↦ inr (omega arith) ]),
    );
  }

  -- where monitor n is not entered, those below n are all those below n + 1
  pub not_owned : (n : ℕ) (monitors : List ℕ) → nat_lt 0 (slice_index_or depths n 0) ≡ false → AreOwnedBelow depths n monitors
      → AreOwnedBelow depths (n + 1) monitors
  not_owned n monitors test o = let least = ltb-false 0 (slice_index_or depths n 0) test
      in let held : slice_index_or depths n 0 ≡ 0 = omega arith in record {
        rises = o.rises;
        each = λ m. (
          λ c. (let w = (o.each m).0 c in let l = w.0 in (omega arith, w.1)),
          λ w. (let l = w.0 in elim (cases_lt m n) [
            | inl below ↦ (o.each m).1 (below, w.1)
            | inr over ↦
                (let same : m ≡ n = omega arith in
                let P : ℕ → Type 0 = λ z. slice_index_or depths z 0 ≡ 0 in
                let none' = subst P (sym same) held in
                let held' = w.1 in absurd (omega arith))
          ]),
        );
      }

-- before the first entry no monitor is entered
pub none_entered : AreDepths [] (replicate MONITORS 0)
none_entered m near = get_or-replicate MONITORS m 0 0 near

-- an act in range does not enter a monitor that there is not
act_near : (m : ℕ) (act : Act) → MONITORS ≤ m → IsActInRange act → depth_after_act m 0 act ≡ 0
act_near m (Acq o) far near = let e = ne_eqb o m (λ e. omega arith) in rw e refl
act_near m (Rel o) far near = let e = ne_eqb o m (λ e. omega arith) in rw e refl
act_near m (Begin f) far near = refl
act_near m End far near = refl
act_near m (VRead v) far near = refl
act_near m (VWrite v) far near = refl
act_near m (Fork u f) far near = refl
act_near m (Join u) far near = refl
act_near m (Alloc c) far near = refl
act_near m Print far near = refl
act_near m Input far near = refl
act_near m (Fail k) far near = refl

-- a kept entry leaves a monitor that there is not free
entry_near : (m : ℕ) (e : Entry) → MONITORS ≤ m → IsEntryKept e → depth_after m 0 e ≡ 0
entry_near m (Sync at act value) far kept = act_near m act far kept
entry_near m (Commit at tx) far kept = refl
entry_near m (Plain var nth cached write value raised) far kept = refl
entry_near m (Abort tx why) far kept = refl
entry_near m (Trim low) far kept = refl
entry_near m (Over ending) far kept = refl

-- kept entries leave a monitor that there is not free
left_alone : (m n : ℕ) (es : List Entry) → MONITORS ≤ m → AllByRecursion IsEntryKept es → depth m (take n es) ≡ 0
left_alone m zero [] far kept = refl
left_alone m (suc n) [] far kept = refl
left_alone m zero (e ∷ es) far kept = refl
left_alone m (suc n) (e ∷ es) far kept =
    ap (λ d. fold (depth_after m) d (take n es)) (entry_near m e far kept.0) ∙ left_alone m n es far kept.1

-- of no entries none are taken
take_none : (k : ℕ) → take {A = Entry} k [] ≡ []
take_none zero = refl
take_none (suc k) = refl

-- taking at most as many entries as there are takes what taking that many does
taken_min : (es : List Entry) (n : ℕ) → take (min (length es) n) es ≡ take n es
taken_min [] n = take_none (min zero n) ∙ sym (take_none n)
taken_min (e ∷ es) zero = ap (λ k. take k (e ∷ es)) (let z : min (suc (length es)) 0 ≡ 0 = omega arith in z)
taken_min (e ∷ es) (suc n) = ap (λ k. take k (e ∷ es)) (let z : min (suc (length es)) (suc n) ≡ suc (min (length es) n) = omega arith in z)
    ∙ ap (λ l. e ∷ l) (taken_min es n)

-- the monitors that the table gives to the thread are those that it owns
pub all_owned : (es : List Entry) (n : ℕ) (depths monitors : List ℕ) → AreDepths (take (min (length es) n) es) depths
    → AllByRecursion IsEntryKept es → AreOwnedBelow depths MONITORS monitors → AreOwned (take n es) monitors
all_owned es n depths monitors are kept o = record {
  rises = o.rises;
  each = λ m. (
    λ c. (let w = (o.each m).0 c in let d = are m w.0 in
        let same : depth m (take (min (length es) n) es) ≡ depth m (take n es) = ap (depth m) (taken_min es n) in
        let l = w.1 in omega arith),
    λ held. elim (cases_lt m MONITORS) [
      | inl below ↦ (o.each m).1 (
        below,
        let d = are m below in
            let same : depth m (take (min (length es) n) es) ≡ depth m (take n es) = ap (depth m) (taken_min es n) in omega arith,
      )
      | inr far ↦ absurd (let free : depth m (take n es) ≡ 0 = left_alone m n es far kept in omega arith)
    ],
  );
}
