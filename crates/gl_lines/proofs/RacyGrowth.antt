-- Whether an entry is racy does not change when its record grows.
use Rattle.std.proofs.Common.{◌≡◌, ℕ, ◌<◌, ◌≤◌, [], ◌∷◌, length, refl, ap, subst, sym, ◌∙◌, inl, inr, arith, Some}
use Rattle.std.specs.Prelude.{◌⊎◌, ◌↔◌}
use Rattle.gl_model.specs.declared.tx.Why.TheVariants.{Changed, Raised}
use Rattle.gl_model.specs.Entries.{Entry, Sync, Commit, Plain, Abort, Trim, Over}
use Rattle.gl_model.specs.HappensBefore.{HappensBefore, by_steps, from_commit, through_commit, RefusedCommitEdge, IsRacy, IsRaisedRightly, Races}
use Rattle.gl_model.specs.Records.{Lists, Place, EntryAt, position_of, InVariableOrder, NumberOn}
use Rattle.gl_model.specs.Trace.{with_entry}
use Rattle.gl_laws.proofs.Bridge.{same_entry, same_place}
use Rattle.gl_laws.proofs.Growth.{Grows, InOld, chain_back, happens_before_kept}
use Rattle.gl_draws.proofs.Pushes.{at_kept, at_new, at_cases, at_within}
use Rattle.gl_lines.proofs.TraceEvents.{entry_own, each_list}
use Rattle.gl_lines.proofs.TraceNext.{end_place}

module _ (R R' : Lists) (n : Place) (e : Entry) (grows : Grows R R' n e) (above : (c : Place) (f : Entry) (x k m : ℕ) → EntryAt R c f
    → NumberOn f x m → NumberOn e x k → m < k) where
  -- an entry before an old one, on a variable, is an old one
  old_before : (x : ℕ) (c d : Place) (f : Entry) → EntryAt R d f → (b : InVariableOrder R' x c d) → EntryAt R c b.first
  old_before x c d f old b = elim (grows.only c b.first b.there) [ inl was ↦ was | inr new ↦ absurd (late new) ]
    where
      same : b.second ≡ f
      same = same_entry R' d b.second f b.here (grows.kept d f old)

      late : (c ≡ n) × (b.first ≡ e) → ⊥
      late new =
          let l : b.later < b.number = above d f x b.number b.later old (subst (λ g. NumberOn g x b.later) same b.also_numbered)
          (subst (λ g. NumberOn g x b.number) new.1 b.numbered) in
          elim b.order [
            | inl lt ↦ omega arith
            | inr level ↦ (let q = level.0 in omega arith)
          ]

  -- what is before an old entry in the order of a variable in the larger record is so in the smaller one
  order_back : (x : ℕ) (c d : Place) (f : Entry) → EntryAt R d f → InVariableOrder R' x c d → InVariableOrder R x c d
  order_back x c d f old b =
      let same = same_entry R' d b.second f b.here (grows.kept d f old) in
      record {
        first = b.first;
        second = f;
        there = old_before x c d f old b;
        here = old;
        number = b.number;
        later = b.later;
        numbered = b.numbered;
        also_numbered = subst (λ g. NumberOn g x b.later) same b.also_numbered;
        order = b.order;
      }

  -- two entries that are in the order of a variable are in that order in the larger record
  order_kept : (x : ℕ) (c d : Place) → InVariableOrder R x c d → InVariableOrder R' x c d
  order_kept x c d b = record {
    first = b.first;
    second = b.second;
    there = grows.kept c b.first b.there;
    here = grows.kept d b.second b.here;
    number = b.number;
    later = b.later;
    numbered = b.numbered;
    also_numbered = b.also_numbered;
    order = b.order;
  }

  -- a commit's edge to an old refused attempt in the larger record is there in the smaller one
  refused_back : (c d : Place) (f : Entry) → EntryAt R d f → RefusedCommitEdge R' c d → RefusedCommitEdge R c d
  refused_back c d f old i =
      let b = order_back i.var c d f old i.before in
      let made = same_entry R' c i.made b.first i.there (grows.kept c b.first b.there) in
      let refused = same_entry R' d i.refused f i.here (grows.kept d f old) in
      record {
        made = i.made;
        refused = i.refused;
        there = subst (EntryAt R c) (sym made) b.there;
        here = subst (EntryAt R d) (sym refused) old;
        is_commit = i.is_commit;
        is_refused = i.is_refused;
        var = i.var;
        before = b;
      }

  -- what happens before an old entry in the larger record does so in the smaller one
  happens_before_back : (c d : Place) (f : Entry) → EntryAt R d f → HappensBefore R' c d → HappensBefore R c d
  unfolding InOld
  happens_before_back c d f old (by_steps k) = by_steps (chain_back R R' n e grows (f, old) k)
  happens_before_back c d f old (from_commit i) = from_commit (refused_back c d f old i)
  happens_before_back c d f old (through_commit b k i) = let j = refused_back b d f old i
      in through_commit b (chain_back R R' n e grows (j.made, j.there) k) j

  pub racy_kept : (d : Place) (f : Entry) (x : ℕ) → EntryAt R d f → IsRacy R d x ↔ IsRacy R' d x
  unfolding order_kept order_back
  racy_kept d f x old = (forth, back)
    where
      forth : IsRacy R d x → IsRacy R' d x
      forth r = record {
        other = r.other;
        another = r.another;
        before = order_kept x r.other d r.before;
        performed = r.performed;
        conflict = r.conflict;
        unordered = λ h. r.unordered (happens_before_back r.other d f old h);
      }

      back : IsRacy R' d x → IsRacy R d x
      back r =
          let same = same_entry R' d r.before.second f r.before.here (grows.kept d f old) in
          record {
            other = r.other;
            another = r.another;
            before = order_back x r.other d f old r.before;
            performed = r.performed;
            conflict = subst (λ g. Rattle.gl_model.specs.Records.Conflict r.before.first g x) same r.conflict;
            unordered = λ h. r.unordered (happens_before_kept R R' n e grows h);
          }

  -- what is raised rightly in the record is so in the grown one
  pub raised_kept : (d : Place) (f : Entry) → EntryAt R d f → IsRaisedRightly R d f → IsRaisedRightly R' d f
  raised_kept d (Plain var nth cached write value raised) old i = let k = racy_kept d (Plain var nth cached write value raised) var old
      in (λ e. k.0 (i.0 e), λ r. i.1 (k.1 r))
  raised_kept d (Commit at tx) old i = λ x r. i x ((racy_kept d (Commit at tx) x old).1 r)
  raised_kept d (Abort tx (Raised var)) old i =
      ((racy_kept d (Abort tx (Raised var)) var old).0 i.0, λ x lt r. i.1 x lt ((racy_kept d (Abort tx (Raised var)) x old).1 r))
  raised_kept d (Abort tx (Changed var read found)) old i = tt
  raised_kept d (Sync at act value) old i = tt
  raised_kept d (Trim low) old i = tt
  raised_kept d (Over ending) old i = tt

-- positions are below this one, and numbers of each variable below that
pub record IsBelow (R : Lists) (next : ℕ) (numbers : ℕ → ℕ) : Type 0 where
  pub positions : (c : Place) (e : Entry) (p : ℕ) → EntryAt R c e → position_of e ≡ Some p → p < next
  pub drawn : (c : Place) (e : Entry) (x k : ℕ) → EntryAt R c e → NumberOn e x k → k < numbers x

module _ (R : Lists) (next : ℕ) (numbers : ℕ → ℕ) (below : IsBelow R next numbers) (t : ℕ) (e : Entry) where
  -- the new entry stands at the end of its thread's list
  pub new_place : EntryAt (with_entry R t e) (end_place R t) e
  new_place = subst (λ es. Rattle.std.specs.Prelude.slice_get es (length (R t)) ≡ Some e) (sym (entry_own R t e)) (at_new (R t) e)

  -- an entry of the larger record is an old one at its place, or the new one at the end of thread t's list
  entry_cases : (c : Place) (f : Entry) → EntryAt (with_entry R t e) c f → EntryAt R c f ⊎ ((c ≡ end_place R t) × (f ≡ e))
  entry_cases c f there = each_list (λ w es. (i : ℕ) (g : Entry) → Rattle.gl_model.specs.Form.At es i g
      → EntryAt R (record { thread = w; index = i }) g ⊎ ((record { thread = w; index = i } ≡ end_place R t) × (g ≡ e))) R t e
      (λ i g at. elim (at_cases (R t) e g i at) [
        | inl old ↦ inl old
        | inr new ↦ inr (same_place (record { thread = t; index = i }) (end_place R t) refl new.0, new.1)
      ])
      (λ w other i g at. inl at) c.thread c.index f there

  -- an old entry stands at its place in the larger record
  entry_kept : (c : Place) (f : Entry) → EntryAt R c f → EntryAt (with_entry R t e) c f
  entry_kept c f there = each_list (λ w es. (i : ℕ) (g : Entry) → EntryAt R (record { thread = w; index = i }) g
      → Rattle.gl_model.specs.Form.At es i g) R t e
      (λ i g at. at_kept (R t) (e ∷ []) i g at) (λ w other i g at. at) c.thread c.index f there

  -- where its position, if it is an event, is not below the next one, the record grows by it
  pub grows_by : ((p : ℕ) → position_of e ≡ Some p → next ≤ p) → Grows R (with_entry R t e) (end_place R t) e
  grows_by behind = record {
    kept = entry_kept;
    only = entry_cases;
    at_end = λ c f there same. subst (λ w. c.index < length (R w)) same (at_within (R c.thread) c.index f there);
    above = λ p q c s is ev. let l = below.positions c ev.entry q ev.there ev.position in let m = behind p is in omega arith;
  }

  -- where the new bounds are no lower than the old ones, and the entry's position
  -- and numbers are below them, all of the record with the entry is below them
  pub below_push : (next' : ℕ) (numbers' : ℕ → ℕ) → next ≤ next' → ((x : ℕ) → numbers x ≤ numbers' x)
      → ((p : ℕ) → position_of e ≡ Some p → p < next') → ((x k : ℕ) → NumberOn e x k → k < numbers' x)
      → IsBelow (with_entry R t e) next' numbers'
  below_push next' numbers' le les at own = record {
    positions = λ c f p there is. elim (entry_cases c f there) [
      | inl old ↦ (let l = below.positions c f p old is in omega arith)
      | inr new ↦ at p (sym (ap position_of new.1) ∙ is)
    ];
    drawn = λ c f x k there n. elim (entry_cases c f there) [
      | inl old ↦ (let l = below.drawn c f x k old n in let m = les x in omega arith)
      | inr new ↦ own x k (subst (λ g. NumberOn g x k) new.1 n)
    ];
  }

  -- where the entry's position and numbers are not below the old bounds, and it is raised rightly, the law of races goes on to hold
  pub races_push : ((p : ℕ) → position_of e ≡ Some p → next ≤ p) → ((x k : ℕ) → NumberOn e x k → numbers x ≤ k) → Races R
      → IsRaisedRightly (with_entry R t e) (end_place R t) e → Races (with_entry R t e)
  races_push behind own races right c f there = elim (entry_cases c f there) [
    | inl old ↦ raised_kept R (with_entry R t e) (end_place R t) e (grows_by behind) (λ b g x k m at n l. let u = below.drawn b g x m at n
        in let v = own x k l in omega arith) c f old (races c f old)
    | inr new ↦ subst (λ z. IsRaisedRightly (with_entry R t e) z f) (sym new.0)
        (subst (IsRaisedRightly (with_entry R t e) (end_place R t)) (sym new.1) right)
  ]
