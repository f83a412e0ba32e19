-- The monitors that a thread owns, one after another.
use Rattle.std.proofs.Common.{◌≡◌, ◌∙◌, ℕ, suc, ◌+◌, ◌<◌, ◌≤◌, List, [], ◌∷◌, ◌++◌, map, refl, sym, ap, subst, arith, inl, inr, Some, None, true, false, ne_eqb, replicate}
use Rattle.std.specs.Prelude.{◌↔◌, Contains, slice_get, slice_index_or}
use Rattle.std.specs.List.{fold}
use Rattle.std.proofs.lemmas.Bool.{cases_lt}
use Rattle.std.proofs.lemmas.List.{get_or-replicate}
use Rattle.gl_model.specs.declared.event.Act.{Act}
use Rattle.gl_model.specs.declared.event.Act.TheVariants.{Begin, End, Acq, Rel, VRead, VWrite, Fork, Join, Alloc, Print, Input, Fail}
use Rattle.gl_model.specs.declared.limits.TheConstants.{MONITORS}
use Rattle.gl_model.specs.declared.row.Item.{Item}
use Rattle.gl_model.specs.declared.row.Item.TheVariants.{Act as Acts, Access, Commit}
use Rattle.gl_model.specs.Rising.{Rises}
use Rattle.gl_model.specs.TraceSteps.{Step, Hold, IsLineItem, item_leaves, act_leaves, holder, is_held_by}
use Rattle.gl_explain.specs.declared.told.Told.{Told}
use Rattle.gl_explain.specs.Owned.{AreOwned, AreHolders}
use Rattle.gl_explain.specs.Told.{step_of}
use Rattle.gl_model.proofs.RisingPushes.{in_none, in_push, rises_push}

-- these are the monitors below n that thread t owns, by the table
pub record AreOwnedBelow (holders : List Hold) (t n : ℕ) (monitors : List ℕ) : Type 0 where
  pub rises : Rises monitors
  pub each : (m : ℕ) → Contains monitors m ↔ ((m < n) × (is_held_by t (slice_index_or holders m None) ≡ true))

module _ (holders : List Hold) (t : ℕ) where
  -- below 0 thread t owns no monitor
  pub none_owned : AreOwnedBelow holders t 0 []
  none_owned = record { rises = tt; each = λ m. (λ c. absurd (in_none m c), λ w. let n = w.0 in absurd (omega arith)) }

  -- a monitor n that it owns comes behind those below n
  pub one_owned : (n : ℕ) (monitors : List ℕ) → is_held_by t (slice_index_or holders n None) ≡ true → AreOwnedBelow holders t n monitors
      → AreOwnedBelow holders t (n + 1) (monitors ++ n ∷ [])
  one_owned n monitors held o = record {
    rises = rises_push monitors n (λ y c. ((o.each y).0 c).0) o.rises;
    each = λ m. (
      λ c. elim ((in_push monitors n m).0 c) [
        | inl before ↦ (let w = (o.each m).0 before in let l = w.0 in (omega arith, w.1))
        | inr here ↦ (let P : ℕ → Type 0 = λ z. is_held_by t (slice_index_or holders z None) ≡ true
            in (omega arith, subst P (sym here) held))
      ],
      λ w. (in_push monitors n m).1 (let l = w.0
          in elim (cases_lt m n) [ inl below ↦ inl ((o.each m).1 (below, w.1)) | inr over ↦ inr (omega arith) ]),
    );
  }

  -- where it does not own monitor n, those below n are all those below n + 1
  pub not_owned : (n : ℕ) (monitors : List ℕ) → is_held_by t (slice_index_or holders n None) ≡ false → AreOwnedBelow holders t n monitors
      → AreOwnedBelow holders t (n + 1) monitors
  not_owned n monitors held o = record {
    rises = o.rises;
    each = λ m. (
      λ c. (let w = (o.each m).0 c in let l = w.0 in (omega arith, w.1)),
      λ w. (let l = w.0 in elim (cases_lt m n) [
        | inl below ↦ (o.each m).1 (below, w.1)
        | inr over ↦
            (let same : m ≡ n = omega arith in
            let P : ℕ → Type 0 = λ z. is_held_by t (slice_index_or holders z None) ≡ false in
            let no' = subst P (sym same) held in
            let yes = w.1 in absurd (cc))
      ]),
    );
  }

-- before the first line no monitor is owned
pub none_held : AreHolders [] (replicate MONITORS None)
none_held m near = get_or-replicate MONITORS m None None near

-- no line enters or leaves a monitor that there is not
act_near : (m t : ℕ) (act : Act) (held : Hold) → MONITORS ≤ m → IsLineItem (Acts act) → act_leaves m t act held ≡ held
act_near m t (Acq o) held far near = let e = ne_eqb o m (λ e. omega arith) in rw e refl
act_near m t (Rel o) held far near = let e = ne_eqb o m (λ e. omega arith) in rw e refl
act_near m t (Begin f) held far near = refl
act_near m t End held far near = refl
act_near m t (VRead v) held far near = refl
act_near m t (VWrite v) held far near = refl
act_near m t (Fork u f) held far near = refl
act_near m t (Join u) held far near = refl
act_near m t (Alloc c) held far near = refl
act_near m t Print held far near = refl
act_near m t Input held far near = refl
act_near m t (Fail k) held far near = refl

-- an item of a line leaves what is held of a monitor that there is not
item_near : (m t : ℕ) (item : Item) (held : Hold) → MONITORS ≤ m → IsLineItem item → item_leaves m t item held ≡ held
item_near m t (Acts act) held far near = act_near m t act held far near
item_near m t (Access x write) held far near = refl
item_near m t (Commit reads writes) held far near = refl

-- the items of a record leave what is held of a monitor that there is not
left_alone : (m : ℕ) (steps : List Step) (held : Hold) → MONITORS ≤ m → ((i : ℕ) (s : Step) → slice_get steps i ≡ Some s → IsLineItem s.1)
    → fold (λ held s. item_leaves m s.0 s.1 held) held steps ≡ held
left_alone m [] held far near = refl
left_alone m (s ∷ steps) held far near =
    ap (λ h. fold (λ held s. item_leaves m s.0 s.1 held) h steps) (item_near m s.0 s.1 held far (near 0 s refl))
    ∙ left_alone m steps held far (λ i r at. near (suc i) r at)

-- the monitors that the table gives to the thread are those that it owns
pub all_owned : (before : List Told) (holders : List Hold) (t : ℕ) (monitors : List ℕ) → AreHolders (map step_of before) holders
    → ((i : ℕ) (s : Step) → slice_get (map step_of before) i ≡ Some s → IsLineItem s.1) → AreOwnedBelow holders t MONITORS monitors
    → AreOwned before t monitors
all_owned before holders t monitors are near o = record {
  rises = o.rises;
  each = λ m. (
    λ c. (let w = (o.each m).0 c in ap (is_held_by t) (sym (are m w.0)) ∙ w.1),
    λ held. elim (cases_lt m MONITORS) [
      | inl below ↦ (o.each m).1 (below, ap (is_held_by t) (are m below) ∙ held)
      | inr far ↦
          (let free : holder m (map step_of before) ≡ None = left_alone m (map step_of before) None far near in
          let never : is_held_by t (holder m (map step_of before)) ≡ false = ap (is_held_by t) free in
          absurd (cc))
    ],
  );
}
