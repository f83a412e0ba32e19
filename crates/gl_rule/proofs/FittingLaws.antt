-- The list in the table, up to what was seen, fits the pass; so what was shown over each fitting list holds of the table.
use Rattle.std.proofs.Common.{◌≡◌, ℕ, zero, suc, ◌<◌, ◌≤◌, List, [], ◌∷◌, ◌++◌, length, take, drop, sym, refl, subst, arith, ◌∙◌, true, false, Some, inl, inr}
use Rattle.std.specs.Prelude.{slice_get, Contains}
use Rattle.std.proofs.lemmas.List.{take-append-drop, length-take-le}
use Rattle.std.proofs.lemmas.List.Elements.{All-weaker}
use Rattle.gl_model.specs.declared.event.Stamp.{Stamp}
use Rattle.gl_model.specs.declared.row.Row.{Row}
use Rattle.gl_model.specs.Machine.{Setting, State, Run, Allows, start}
use Rattle.gl_draws.specs.Draws.{Draw, access_of, last_write, last_read}
use Rattle.gl_draws.specs.RowFacts.{read_of, RowStands, IsWithin}
use Rattle.gl_draws.proofs.EventTies.{events_front}
use Rattle.gl_draws.proofs.Reaching.{get_front}
use Rattle.gl_draws.proofs.RowGrowth.{info_front, row_grows, row_front}
use Rattle.gl_draws.proofs.TestLaw.{of_write}
use Rattle.gl_rule.specs.declared.slot.Slot.{Slot}
use Rattle.gl_rule.specs.declared.slot.Slot.TheVariants as slot
use Rattle.gl_rule.specs.View.{View, Held, Shelf}
use Rattle.gl_rule.specs.World.{World}
use Rattle.gl_rule.specs.Positions.{ShelfFits}
use Rattle.gl_rule.specs.Values.{Stands, StandsHeld, with_draw}
use Rattle.gl_rule.specs.Knowledge.{AreBelow, TailFits, KnowledgeFits}
use Rattle.gl_rule.specs.Fitting.{IsFitting, InfosStand, Follows, MayLeaveAt}
use Rattle.gl_rule.proofs.HeldLists.{only_shelf}

-- a beginning of what the machine allows is allowed
pub run_front : (setting : Setting) (old now : State) (xs ys : List Stamp) → Run setting old (xs ++ ys) now → (mid : State)
    × Run setting old xs mid
run_front setting old now [] ys r = (old, refl)
run_front setting old now (x ∷ xs) ys r = let f = run_front setting r.1 now xs ys r.3 in (f.0, (r.0, r.1, r.2, f.1))

-- what the table says of a pass with one shelf
pub record Facts (setting : Setting) (seat : ℕ → ℕ) (j : ℕ) (s : Shelf) (v : View) (hold : ℕ → ℕ) (log : List Stamp) : Type 0 where
  pub now : State
  pub allowed : Allows setting log now
  pub one : v.shelves ≡ s ∷ []
  pub shelf : ShelfFits log seat j s
  pub knowledge : KnowledgeFits hold log v

-- the table's list up to n fits the pass, where its own events are below n
pub front_fits_at : (setting : Setting) (s : Shelf) (n : ℕ) (known : List (ℕ × Stamp)) (now : State) (l more : List Stamp) → length l ≡ n
    → Allows setting (l ++ more) now → Rattle.gl_draws.specs.Events.AreEvents (l ++ more) s.thread s.marked → AreBelow n s
    → Rattle.std.specs.List.All (λ (k : ℕ × Stamp). slice_get (l ++ more) k.0 ≡ Some k.1) known → IsFitting setting s n known l
front_fits_at setting s n known now l more long allowed events low k =
    let r = run_front setting (start setting) now l more allowed in record {
      long = long;
      now = r.0;
      allowed = r.1;
      knows = All-weaker (λ (e : ℕ × Stamp). slice_get (l ++ more) e.0 ≡ Some e.1) (λ (e : ℕ × Stamp). e.0 < length l → slice_get l e.0
          ≡ Some e.1) (λ e was near. sym (get_front l more e.0 near) ∙ was) known k;
      own = events_front (l ++ more) s.thread s.marked events l more refl (λ i p e a b. let b' = low i p e a b in omega arith);
    }

-- so does that up to what was seen
pub front_fits : (setting : Setting) (seat : ℕ → ℕ) (j : ℕ) (s : Shelf) (v : View) (hold : ℕ → ℕ) (l more : List Stamp) → length l ≡ v.seen
    → Facts setting seat j s v hold (l ++ more) → IsFitting setting s v.seen v.known l
front_fits setting seat j s v hold l more long f =
    front_fits_at setting s v.seen v.known f.now l more long f.allowed f.shelf.events
    (only_shelf (AreBelow v.seen) v s f.one f.knowledge.own) f.knowledge.known

-- the Infos of a row that stands, and lies within the front, stand for accesses over the front
pub infos_front : (setting : Setting) (l more : List Stamp) (x : ℕ) (ds : List Draw) (row : Row) → RowStands setting (l ++ more) x ds row
    → IsWithin row (length l) → InfosStand setting l row
infos_front setting l more x ds row s w = record {
  last_write = λ i e. let d = of_write setting (l ++ more) true row.last_write (last_write x ds) i s.last_write e
      in (access_of d.0, info_front setting l more i (access_of d.0) true (w.last_write i e) d.2);
  reads = λ t i e. let d = of_write setting (l ++ more) false (read_of row.reads t) (last_read x t ds) i (s.reads t) e
      in (access_of d.0, info_front setting l more i (access_of d.0) false (w.reads t i e) d.2);
}

-- a row whose Infos stand within n has them within m, where n is at most m
pub within_seen : (row : Row) (n m : ℕ) → n ≤ m → IsWithin row n → IsWithin row m
within_seen row n m le w = record {
  last_write = λ i e. let a = w.last_write i e in omega arith;
  reads = λ t i e. let a = w.reads t i e
      in omega arith;
}

module _ (setting : Setting) (seat : ℕ → ℕ) (j : ℕ) (s : Shelf) (v : View) (hold : ℕ → ℕ) (h : Held) (x : ℕ) (taken row : Row)
    (right : Follows setting s v h x taken row) (ds : List Draw) where
  record Put (log : List Stamp) : Type 0 where
    facts : Facts setting seat j s v hold log
    stands : RowStands setting log x ds taken
    tails : (n : ℕ) → Contains h.tails n → (n ≤ v.seen) × IsWithin taken n

  -- where the first events of a list are as many as the pass has seen, the row that is put back stands over the whole list
  put_at : (l more : List Stamp) → length l ≡ v.seen → Put (l ++ more) → RowStands setting (l ++ more) x (with_draw h.drew ds) row
  put_at l more long p =
      let fits = front_fits setting seat j s v hold l more long p.facts in
      let fresh = p.tails right.fresh.0 right.fresh.1 in
      let le = fresh.0 in
      let within : IsWithin taken (length l) = within_seen taken right.fresh.0 (length l) (omega arith) fresh.1 in
      row_grows setting l more x (with_draw h.drew ds) row (right.follows l fits ds (row_front setting l more x ds taken within p.stands))

  -- a row that follows the taken one stands over the table's list
  pub put_stands : (log : List Stamp) → Facts setting seat j s v hold log → RowStands setting log x ds taken
      → ((n : ℕ) → Contains h.tails n → (n ≤ v.seen) × IsWithin taken n) → RowStands setting log x (with_draw h.drew ds) row
  put_stands log f stands tails =
      let is : log ≡ take v.seen log ++ drop v.seen log = sym (take-append-drop v.seen log) in
      let n = f.knowledge.seen in
      let long : length (take v.seen log) ≡ v.seen = length-take-le v.seen log n in
      subst (λ k. Put k → RowStands setting k x (with_draw h.drew ds) row) (sym is) (put_at (take v.seen log) (drop v.seen log) long)
      (record { facts = f; stands = stands; tails = tails })

-- an object that is put back is as it has to be at home
pub leave_stands : (setting : Setting) (w : World) (seat : ℕ → ℕ) (j : ℕ) (s : Shelf) (v : View) (hold : ℕ → ℕ) (h : Held) (k : ℕ)
    (taken y : Slot) → Facts setting seat j s v hold w.log → MayLeaveAt setting s v h k taken y
    → StandsHeld setting w hold h.drew k taken → ((n : ℕ) → Contains h.tails n → TailFits (length w.log) hold v.seen k taken n)
    → Stands setting w hold k y
leave_stands setting w seat j s v hold h zero (slot.List l) y f may st tails = subst (Stands setting w hold zero) (sym may) st
leave_stands setting w seat j s v hold h zero slot.Empty y f may st tails = absurd st
leave_stands setting w seat j s v hold h zero (slot.Row r) y f may st tails = absurd st
leave_stands setting w seat j s v hold h (suc x) (slot.Row taken) (slot.Row row) f may st tails = (
  subst (λ ds. RowStands setting w.log x ds row) (sym st.0.draws_are) (elim may.right [
    | inl a ↦ put_stands setting seat j s v hold h x taken row a st.0.before w.log f st.0.stands (λ n c. let t = tails n c in (t.0, t.1))
    | inr b ↦ b.stays w.log st.0.before st.0.stands
  ]),
  record {
    at = λ i has. elim (may.above i has) [
      | inl a ↦ (let t = tails a.0 a.1 in let up = t.2 in let le = a.2 in omega arith)
      | inr b ↦ (let q = st.1.at b.0 b.1 in let le = b.2 in omega arith)
    ];
  },
)
leave_stands setting w seat j s v hold h (suc x) slot.Empty y f may st tails = absurd st
leave_stands setting w seat j s v hold h (suc x) (slot.List l) y f may st tails = absurd st
leave_stands setting w seat j s v hold h (suc x) (slot.Row taken) slot.Empty f may st tails = absurd may
leave_stands setting w seat j s v hold h (suc x) (slot.Row taken) (slot.List l) f may st tails = absurd may
