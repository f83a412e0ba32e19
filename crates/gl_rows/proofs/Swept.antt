-- A sweep: what the tries of rows and the raise of the first segment say together.
use Rattle.std.proofs.Common.{◌≡◌, ℕ, suc, ◌+◌, ◌-◌, ◌*◌, ◌/◌, ◌<◌, ◌≤◌, max, List, [], ◌∷◌, ◌++◌, Ok, Err, refl, sym, ap, subst, arith, ◌∙◌, inl, inr, true, false, Bool, append_assoc, append-nil, lit<}
use borrow.Author.Tests.{ltb-true}
use Rattle.std.specs.Prelude.{◌≢◌, Contains, Result, IfOk, IfErr, nat_lt, if◌then◌else◌}
use Rattle.std.proofs.lemmas.Bool.{ltb-false, le-ltb}
use Rattle.std.proofs.lemmas.List.Elements.{Contains-append_left, Contains-append_right}
use Rattle.std.proofs.Math.Nat.{le-div_iff_mul-le, le-max_right}
use native.Mathlib.Decide.{ℕ_discrete}
use Rattle.gl_events.specs.Settling.{MaySettle, IsSettled, IsOpen, trims}
use Rattle.gl_model.specs.declared.limits.TheConstants.{VARIABLES}
use Rattle.gl_model.specs.Entries.{Trim}
use Rattle.gl_rule.specs.declared.slot.Slot.TheVariants as slot
use Rattle.gl_rule.specs.View.{Read, Hold, Taken, Busy, saw, saw_tail}
use Rattle.gl_table.specs.declared.shared.Busy.{Busy as WasBusy}
use Rattle.gl_table.specs.PassView.{PassView, Own, view_of, after}
use Rattle.gl_table.specs.TableView.{TableView}
use Rattle.gl_rows.specs.Advancing.{HasAdvanced, LoadedHolds}
use Rattle.gl_rows.specs.Sweeping.{IsFar, IsStill, IsTried, AreTried, IsSwept}
use Rattle.gl_rows.specs.Walks.{ReadBusy}
use Rattle.gl_rows.proofs.Costs.{costs_same, costs_steps, costs_walked, costs_both}

-- more reads say no less
far_left : (t x to : ℕ) (a b : List Read) → IsFar t x to a → IsFar t x to (a ++ b)
far_left t x to a b (inl (m, has, le)) = inl (m, Contains-append_left a b (Hold (suc x) m) has, le)
far_left t x to a b (inr (by, has, other)) = inr (by, Contains-append_left a b (Busy (suc x) by) has, other)

-- reads that show a row to be far do so with reads before them
far_right : (t x to : ℕ) (a b : List Read) → IsFar t x to b → IsFar t x to (a ++ b)
far_right t x to a b (inl (m, has, le)) = inl (m, Contains-append_right a b (Hold (suc x) m) has, le)
far_right t x to a b (inr (by, has, other)) = inr (by, Contains-append_right a b (Busy (suc x) by) has, other)

-- what was read by a pass, whose number is as it was
far_of : (x to : ℕ) (p q : PassView) (a : List Read) → q.own ≡ p.own → IsFar q.own.id x to a → IsFar p.own.id x to a
far_of x to p q a same far = subst (λ (o : Own). IsFar o.id x to a) same far

-- a pass that stays still from p to q and from q to r does from p to r
still_trans : (p q r : PassView) → IsStill p q → IsStill q r → IsStill p r
still_trans p q r a b = record {
  own = b.own ∙ a.own;
  spare = b.spare ∙ a.spare;
  quiet = b.quiet
      ∙ a.quiet;
  later = (let m = a.later in let n = b.later in omega arith);
}

-- a pass is still the same as itself
still_same : (p : PassView) → IsStill p p
still_same p = record { own = refl; spare = refl; quiet = refl; later = omega arith }

-- one thing more among what it read changes nothing of a pass's own
still_saw : (p q : PassView) (r : Read) → q ≡ after p (saw (view_of p) r) → IsStill p q
still_saw p q r is = subst (IsStill p) (sym is) (record { own = refl; spare = refl; quiet = refl; later = omega arith })

-- the hold of object x + 1 is that of the next after x
at_once : (x m : ℕ) → Hold (x + 1) m ≡ Hold (suc x) m
at_once x m = let same : x + 1 ≡ suc x = omega arith in ap (λ k. Hold k m) same

-- a row whose hold was loaded, and is far enough, was tried
pub tried_far : (x to n : ℕ) (p q : PassView) → q ≡ after p (saw (view_of p) (Hold (x + 1) n)) → to ≤ n → IsTried x to p q
tried_far x to n p q is le = record {
  still = still_saw p q (Hold (x + 1) n) is;
  further = Hold (x + 1) n ∷ [];
  reads = ap (λ (z : PassView). z.reads) is;
  far = inl (n, subst (λ h. Contains (h ∷ []) (Hold (suc x) n)) (sym (at_once x n)) (0, omega arith, refl), le);
  cost = costs_both 1 0 9 p q q (costs_steps 1 p q (ap (λ (z : PassView). z.known) is) (ap (λ (z : PassView). z.moves) is))
      (costs_same q) (omega arith);
}

-- the hold that was loaded of x's row, after the row was taken, shows the row to be far
holds_far : (t x to hold steps : ℕ) (row : _) (holds : List Read) → LoadedHolds x to hold holds steps
    → IsFar t x to (Taken (suc x) (slot.Row row) ∷ holds)
holds_far t x to hold steps row holds (inl (le, is, some)) =
    inl (hold, subst (λ hs. Contains (Taken (suc x) (slot.Row row) ∷ hs) (Hold (suc x) hold)) (sym is) (1, omega arith, refl), le)
holds_far t x to hold steps row holds (inr (before, below, same, is, some)) =
    inl (
      hold,
      subst (λ hs. Contains (Taken (suc x) (slot.Row row) ∷ hs) (Hold (suc x) hold)) (sym is) (2, omega arith, refl),
      (let e = same
          in omega arith),
    )

-- loading and raising a hold takes at most eight steps
few_steps : (x to hold steps : ℕ) (holds : List Read) → LoadedHolds x to hold holds steps → steps ≤ 8
few_steps x to hold steps holds (inl (le, is, some)) = omega arith
few_steps x to hold steps holds (inr (before, below, same, is, some)) = omega arith

-- a row whose hold was loaded, and that then was moved up to the position or was found busy, was tried
pub tried_by : (x to n : ℕ) (p q r : PassView) (answer : Result ℕ WasBusy) → q ≡ after p (saw (view_of p) (Hold (x + 1) n))
    → IfOk answer (λ hold. HasAdvanced x to q hold r) → IfErr answer (λ b. ReadBusy x b.by q r) → IsStill q r → IsTried x to p r
tried_by x to n p q r (Ok hold) is done busy still =
    let h = done in record {
      still = still_trans p q r (still_saw p q (Hold (x + 1) n) is) still;
      further = (Hold (x + 1) n ∷ []) ++ (Taken (suc x) (slot.Row h.row) ∷ h.holds);
      reads = h.reads ∙ ap (λ (z : PassView). z.reads ++ Taken (suc x) (slot.Row h.row) ∷ h.holds) is
          ∙ append_assoc p.reads (Hold (x + 1) n ∷ []) (Taken (suc x) (slot.Row h.row) ∷ h.holds);
      far = far_right p.own.id x to (Hold (x + 1) n ∷ []) (Taken (suc x) (slot.Row h.row) ∷ h.holds)
          (holds_far p.own.id x to hold h.steps h.row h.holds h.loaded);
      cost = costs_both 1 8 9 p q r (costs_steps 1 p q (ap (λ (z : PassView). z.known) is) (ap (λ (z : PassView). z.moves) is))
          (costs_walked h.from h.steps 8 h.events q r h.known h.cost (few_steps x to hold h.steps h.holds h.loaded)) (omega arith);
    }
tried_by x to n p q r (Err b) is done busy still = record {
  still = still_trans p q r (still_saw p q (Hold (x + 1) n) is) still;
  further = (Hold (x + 1) n ∷ []) ++ Busy (suc x) b.by ∷ [];
  reads = busy.reads ∙ ap (λ (z : PassView). z.reads ++ Busy (suc x) b.by ∷ []) is
      ∙ append_assoc p.reads (Hold (x + 1) n ∷ []) (Busy (suc x) b.by ∷ []);
  far = far_right p.own.id x to (Hold (x + 1) n ∷ []) (Busy (suc x) b.by ∷ [])
      (inr (b.by, (0, omega arith, refl), subst (λ (z : PassView). b.by ≢ z.own.id) is busy.other));
  cost = costs_both 1 1 9 p q r (costs_steps 1 p q (ap (λ (z : PassView). z.known) is) (ap (λ (z : PassView). z.moves) is))
      (costs_steps 1 q r busy.known busy.cost) (omega arith);
}

-- a pass that did nothing has tried the rows below 0
pub tried_none : (to : ℕ) (p : PassView) → AreTried 0 to p p
tried_none to p = record {
  still = still_same p;
  further = [];
  reads = sym (append-nil p.reads);
  far = λ x near. absurd (omega arith);
  cost = costs_same p;
}

-- once the row of k was tried too, the rows of the variables below k + 1 were tried
pub tried_next : (k to : ℕ) (p q r : PassView) → AreTried k to p q → IsTried k to q r → AreTried (k + 1) to p r
tried_next k to p q r a t = record {
  still = still_trans p q r a.still t.still;
  further = a.further ++ t.further;
  reads = t.reads ∙ ap (λ (l : List Read). l ++ t.further) a.reads ∙ append_assoc p.reads a.further t.further;
  far = λ x near. elim (ℕ_discrete x k) [
    | yes e ↦ subst (λ y. IsFar p.own.id y to (a.further ++ t.further)) (sym e)
        (far_right p.own.id k to a.further t.further (far_of k to p q t.further a.still.own t.far))
    | no ne ↦ far_left p.own.id x to a.further t.further (a.far x (omega arith))
  ];
  cost = costs_both (9 * k) 9 (9 * (k + 1)) p q r a.cost t.cost (omega arith);
}

-- loading the tail changes nothing of what the pass owns, which holds no object
pub may_try : (z : TableView) (p q : PassView) (tail : ℕ) → MaySettle z p → q ≡ after p (saw_tail (view_of p) tail) → (q.own ≡ p.own)
    × (q.own.held ≡ [])
may_try z p q tail may is =
    let own : q.own ≡ p.own = ap (λ (x : PassView). x.own) is
    ∙ ap (λ l. record p.own { held = Rattle.std.proofs.Common.map (Rattle.gl_rule.specs.View.with_tail tail) l }) may.held
    ∙ ap (λ l. record p.own { held = l }) (sym may.held) in
    (own, ap (λ (o : Own). o.held) own ∙ may.held)

-- and the rows tried: the first segment may be raised
pub may_settle : (z : TableView) (p q r : PassView) → MaySettle z p → q.own ≡ p.own → q.spare ≡ p.spare → IsStill q r → MaySettle z r
may_settle z p q r may own spare still =
    let all = still.own ∙ own in record {
      table = ap (λ (o : Own). o.table) all ∙ may.table;
      held = ap (λ (o : Own). o.held) all ∙ may.held;
      spare = (let s = may.spare in let a = still.spare in omega arith);
      goes_on = subst (λ (o : Own). IsOpen o.mine) (sym all) may.goes_on;
    }

-- a Trim of the segment that was asked for, where it lies above the first one, is one of what that became, where it rose
same_trims : (before to low : ℕ) → low ≡ max before to → trims before to ≡ trims before low
same_trims before to low is = by (nat_lt before to) refl
  where
    by : (b : Bool) → nat_lt before to ≡ b → trims before to ≡ trims before low
    by true e = ap (trims before) (let same : to ≡ low = (let b = ltb-true before to e in omega arith) in same)
    by false e =
        let le : to ≤ before = ltb-false before to e in
        let below : low ≤ before = omega arith in
        ap (λ b. if b then Trim to ∷ [] else []) e ∙ sym (ap (λ b. if b then Trim low ∷ [] else []) (le-ltb before low below))

-- where the tail was loaded, then each row was tried, and then the first segment was settled, the pass has swept
pub swept : (z : TableView) (p q r s : PassView) (tail to low : ℕ) → 0 < z.key.cells → q ≡ after p (saw_tail (view_of p) tail)
    → p.seen ≤ tail → q.own ≡ p.own → to ≡ tail / z.key.cells * z.key.cells → AreTried VARIABLES to q r → IsSettled z r s low
    → IsSwept z p s low
swept z p q r s tail to low some is later own to_is tried settles =
    let l = settles.holds in
    let o = l.one (lit< tt) in
    let reads_q : q.reads ≡ p.reads = ap (λ (x : PassView). x.reads) is in
    let answer = settles.answer in
    let up : settles.least / z.key.cells ≤ low =
    subst (λ n. settles.least / z.key.cells ≤ n) (sym answer) (le-max_right settles.before (settles.least / z.key.cells)) in
    let last : List Read = Hold 0 settles.before ∷ Hold 0 low ∷ [] in
    let end = tried.further ++ (l.further ++ last) in
    record {
      before = settles.before;
      own = settles.own ∙ ap (λ (x : Own). record x { mine = x.mine ++ trims settles.before (settles.least / z.key.cells) })
          (tried.still.own ∙ own)
          ∙ ap (λ l. record p.own { mine = p.own.mine ++ l }) (same_trims settles.before (settles.least / z.key.cells) low answer);
      tries = tried.further;
      holds = l.further;
      reads = settles.reads ∙ ap (λ (x : PassView). x.reads ++ last) l.is ∙ append_assoc r.reads l.further last
          ∙ ap (λ (x : List Read). x ++ (l.further ++ last)) tried.reads
          ∙ append_assoc q.reads tried.further (l.further ++ last) ∙ ap (λ (x : List Read). x ++ end) reads_q;
      tail = tail;
      later = (later, (let a = tried.still.later in let b = settles.seen in let c = ap (λ (x : PassView). x.seen) is in omega arith));
      far = λ x near. subst (λ n. IsFar p.own.id x n tried.further) to_is (far_of x to p q tried.further own (tried.far x near));
      least = settles.least;
      each = l.each;
      is_one = o;
      low_is = answer;
      reaches = elim (far_of o.0 to p q tried.further own (tried.far o.0 o.1)) [
        | inl (m, has, far) ↦ inl (
            let old = subst (λ (x : List Read). Contains x (Hold (suc o.0) m)) (sym tried.reads)
            (Contains-append_right q.reads tried.further (Hold (suc o.0) m) has) in
            let risen = l.risen o.0 settles.least m o.2 old in
            let le : to ≤ settles.least = omega arith in
            let seg : tail / z.key.cells ≤ settles.least / z.key.cells =
            (le-div_iff_mul-le {k = z.key.cells} {x = tail / z.key.cells} {y = settles.least} some).1
            (subst (λ n. n ≤ settles.least) to_is le) in
            omega arith)
        | inr (by, has, other) ↦ inr (
          o.0,
          by,
          settles.least,
          has,
          other,
          o.2,
          up,
        )
      ];
      cost =
          let first = costs_steps 1 p q (ap (λ (x : PassView). x.known) is) (ap (λ (x : PassView). x.moves) is) in
          let rows = costs_both 1 (9 * VARIABLES) (9 * VARIABLES + 1) p q r first tried.cost (omega arith) in
          costs_both (9 * VARIABLES + 1) (VARIABLES + 1) (10 * VARIABLES + 2) p r s rows
          (costs_steps (VARIABLES + 1) r s settles.known settles.cost) (omega arith);
    }
