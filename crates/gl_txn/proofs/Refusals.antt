-- An attempt that is dropped since its commit would complete a race.
use Rattle.gl_txn.specs.Changing.{look_in}
use Rattle.gl_txn.proofs.Changes.{look_found}
use Rattle.std.proofs.Common.{◌≡◌, ℕ, zero, suc, ◌<◌, ◌==◌, List, [], ◌∷◌, map, true, false, refl, sym, ap, ◌∙◌, subst, arith, Some, None}
use Rattle.std.specs.Prelude.{Contains, slice_get}
use native.Mathlib.Decide.{ℕ_discrete}
use Rattle.gl_model.specs.declared.event.Stamp.{Stamp}
use Rattle.gl_model.specs.declared.tx.Number.{Number}
use Rattle.gl_model.specs.declared.tx.Tx.{Tx}
use Rattle.gl_model.specs.declared.tx.Why.TheVariants.{Raised}
use Rattle.gl_model.specs.Machine.{Setting}
use Rattle.gl_model.specs.Records.{variables_of}
use Rattle.gl_model.specs.Rising.{Rises}
use Rattle.gl_model.specs.Trace.{is_in}
use Rattle.gl_draws.specs.RowFacts.{SomeFails}
use Rattle.gl_draws.proofs.EntryKinds.{is_in-contains, contains-is_in}
use Rattle.gl_rule.specs.Fitting.{InfosStand}
use Rattle.gl_rule.specs.Lives.{Running, life_of}
use Rattle.gl_table.specs.CaughtUp.{block_of}
use Rattle.gl_table.specs.PassView.{PassView}
use Rattle.gl_table.specs.Putting.{MayAbort}
use Rattle.gl_txn.specs.Drawing.{attempt_in, numbered, drew_on, HasDrawn}
use Rattle.gl_txn.specs.Holding.{vars_of, row_at, AreHeld}
use Rattle.gl_txn.specs.Racing.{asked_of, RacesOn}
use Rattle.gl_txn.specs.Trying.{Draws}
use Rattle.gl_txn.specs.declared.taken.TakenRow.{TakenRow}
use Rattle.gl_txn.proofs.EndFacts.{may_drop, names_one}
use Rattle.gl_txn.proofs.Holdings.{row_among, row_here, row_past, above_in}
use Rattle.gl_txn.proofs.Numberings.{row_found, in_vars}

-- a row is found for each of the rows' variables
pub row_of : (rows : List TakenRow) (y : ℕ) → is_in y (vars_of rows) ≡ true → (r : TakenRow) × (row_at rows y ≡ Some r)
row_of [] y b = absurd (cc)
row_of (q ∷ rs) y b = elim (ℕ_discrete q.var y) [
  | yes e ↦ (q, row_here q rs y e)
  | no ne ↦ (let f : (y == q.var) ≡ false = Rattle.std.proofs.Common.ne_eqb y q.var (λ e. ne (sym e)) in let r = row_of rs y (rw f at b)
      in (r.0, row_past q rs y ne ∙ r.1))
]

-- rows that are equal as options are equal
some_row : (a b : TakenRow) → Some a ≡ Some b → a ≡ b
some_row a b e = cc

-- each of the rows is that of its variable
pub row_is : (rows : List TakenRow) → Rises (vars_of rows) → (r : TakenRow) → Contains rows r → (b : is_in r.var (vars_of rows) ≡ true)
    → (row_of rows r.var b).0 ≡ r
row_is rows rises r c b = some_row (row_of rows r.var b).0 r (sym (row_of rows r.var b).1 ∙ found rows rises c)
  where
    found : (rows : List TakenRow) → Rises (vars_of rows) → Contains rows r → row_at rows r.var ≡ Some r
    found [] rises c = absurd (let l = c.1 in omega arith)
    found (q ∷ rs) rises (zero, l, e) = row_here q rs r.var (ap (λ (z : TakenRow). z.var) e) ∙ ap (λ (z : TakenRow). Some z) e
    found (q ∷ rs) rises (suc k, l, e) = row_past q rs r.var
        (λ z. (let far = above_in q.var (vars_of rs) r.var rises.0 (among rs (k, omega arith, e)) in absurd (omega arith)))
        ∙ found rs rises.1 (k, omega arith, e)
      where
        among : (xs : List TakenRow) → Contains xs r → Contains (vars_of xs) r.var
        among [] c = absurd (let l = c.1 in omega arith)
        among (x ∷ xs) (zero, l, e) = (0, omega arith, ap (λ (z : TakenRow). z.var) e)
        among (x ∷ xs) (suc k, l, e) = let f = among xs (k, omega arith, e) in (suc f.0, (let l = f.1 in omega arith), f.2)

-- a row that stands at a place is in the list
in_place : (rows : List TakenRow) (i : ℕ) (r : TakenRow) → slice_get rows i ≡ Some r → Contains rows r
in_place [] i r e = absurd (cc)
in_place (x ∷ xs) zero r e = (0, omega arith, (let same : x ≡ r = cc in same))
in_place (x ∷ xs) (suc i) r e = let c = in_place xs i r e in (suc c.0, (let l = c.1 in omega arith), c.2)

-- of rising variables a lower one stands before
pub lower_before : (rows : List TakenRow) → Rises (vars_of rows) → (i k : ℕ) (r u : TakenRow) → slice_get rows i ≡ Some r
    → slice_get rows k ≡ Some u → u.var < r.var → k < i
lower_before [] rises i k r u e f less = absurd (cc)
lower_before (q ∷ rs) rises zero zero r u e f less = let a : q ≡ r = cc in let b : q ≡ u = cc in let x = ap (λ (z : TakenRow). z.var) a
    in let y = ap (λ (z : TakenRow). z.var) b in absurd (omega arith)
lower_before (q ∷ rs) rises zero (suc k) r u e f less = let far = above_in q.var (vars_of rs) u.var rises.0 (in_vars rs k u f) in let a : q
    ≡ r = cc in let x = ap (λ (z : TakenRow). z.var) a in absurd (omega arith)
lower_before (q ∷ rs) rises (suc i) zero r u e f less = omega arith
lower_before (q ∷ rs) rises (suc i) (suc k) r u e f less = let l = lower_before rs rises.1 i k r u e f less in omega arith

module _ (tx : Tx) (p q : PassView) (rows : List TakenRow) (x : ℕ) (numbers : List Number) (draws : Draws (attempt_in tx) p.own)
    (races : RacesOn p rows tx x) (drawn : HasDrawn p q None rows (p.seen ∷ []) numbers) (all : numbered numbers ≡ vars_of rows)
    (runs : life_of p.own.mine ≡ Running) where
  abbrev pub raised_tx : Tx
  raised_tx = record { looks = tx.looks; writes = tx.writes; numbers = numbers }

  abbrev zs : List ℕ
  zs = variables_of tx

  -- the numbers are on just the variables of the transaction
  are : numbered numbers ≡ variables_of tx
  are = all ∙ races.of

  -- the variables of the transaction rise
  rises : Rises (variables_of tx)
  rises = subst Rises races.of races.held.are.1

  -- the pass holds just the rows, each one of the transaction's variables marked for its end
  held : AreHeld q.own.held None rows (p.seen ∷ []) (drew_on p (variables_of tx))
  held = subst (λ ys. AreHeld q.own.held None rows (p.seen ∷ []) (drew_on p ys)) are drawn.held

  -- each variable of the transaction is one of the rows'
  in_by : (y : ℕ) → is_in y (variables_of tx) ≡ true → is_in y (vars_of rows) ≡ true
  in_by y b = subst (λ ys. is_in y ys ≡ true) (sym races.of) b

  abbrev in_rows : (y : ℕ) → is_in y (variables_of tx) ≡ true → (r : TakenRow) × (row_at rows y ≡ Some r)
  in_rows y b = row_of rows y (in_by y b)

  -- where the Infos of the row of each of the transaction's variables stand for accesses, those of all rows do
  stand_all : (setting : Setting) (l : List Stamp)
      → ((y : ℕ) (b : is_in y (variables_of tx) ≡ true) → InfosStand setting l (in_rows y b).0.row) → (r : TakenRow) → Contains rows r
      → InfosStand setting l r.row
  stand_all setting l stand r c =
      let b : is_in r.var (vars_of rows) ≡ true = contains-is_in r.var (vars_of rows) (among rows c) in
      let d : is_in r.var (variables_of tx) ≡ true = subst (λ ys. is_in r.var ys ≡ true) races.of b in
      subst (λ (u : TakenRow). InfosStand setting l u.row) (row_is rows races.held.are.1 r c (in_by r.var d)) (stand r.var d)
    where
      among : (xs : List TakenRow) → Contains xs r → Contains (vars_of xs) r.var
      among [] c = absurd (let l = c.1 in omega arith)
      among (x ∷ xs) (zero, l, e) = (0, omega arith, ap (λ (z : TakenRow). z.var) e)
      among (x ∷ xs) (suc k, l, e) = let f = among xs (k, omega arith, e) in (suc f.0, (let l = f.1 in omega arith), f.2)

  -- the row of a variable stands at some place
  place_of : (xs : List TakenRow) (y : ℕ) (r : TakenRow) → row_at xs y ≡ Some r → (k : ℕ) × (slice_get xs k ≡ Some r)
  place_of [] y r e = absurd (cc)
  place_of (u ∷ xs) y r e = elim (ℕ_discrete u.var y) [
    | yes same ↦ (0, sym (row_here u xs y same) ∙ e)
    | no other ↦ (let f = place_of xs y r (sym (row_past u xs y other) ∙ e) in (suc f.0, f.1))
  ]

  -- the row that is found for x is the one with the race
  row_x : (b : is_in x (variables_of tx) ≡ true) → (in_rows x b).0 ≡ races.row
  row_x b = some_row (in_rows x b).0 races.row (sym (in_rows x b).1 ∙ ap (row_at rows) races.var
      ∙ row_found rows races.place races.row races.held.are.1 races.there)

  -- once its numbers are drawn, the attempt may be dropped for a race on x
  pub may_refuse : MayAbort q (record { looks = tx.looks; writes = tx.writes; numbers = numbers }) (Raised x)
  may_refuse = subst (λ (z : PassView). MayAbort z (record { looks = tx.looks; writes = tx.writes; numbers = numbers }) (Raised x))
      (sym drawn.is) (
        block_of p.own.mine,
        p.seen,
        asked_of p.own.id tx,
        λ setting. record {
          drop = may_drop (attempt_in tx) tx.writes p q.own.held None rows (p.seen ∷ []) numbers (variables_of tx) draws are rises held
              drawn.above in_rows runs (Raised x) names;
          below = races.below;
          saw = λ y b. (0, omega arith, refl);
          asks = λ y. (
            refl,
            refl,
            (
              λ b. is_in-contains y (map (λ w. w.var) tx.writes) b,
              λ c. contains-is_in y (map (λ w. w.var) tx.writes)
                  c,
            ),
          );
          touches = subst (λ ys. is_in x ys ≡ true) races.of
              (contains-is_in x (vars_of rows) (subst (λ k. Contains (vars_of rows) k) (sym races.var)
              (in_vars rows races.place races.row races.there)));
          words = λ y b value nth c.
              (let r = (in_rows y b).0 in
              let at = (row_among rows y r (in_rows y b).1).1 in
              let k = place_of rows y r (in_rows y b).1 in
              let f = look_found tx.looks races.looks.1 (record { var = y; value = value; nth = nth }) c in
              sym (races.unchanged k.0 r k.1 (record { var = y; value = value; nth = nth }) (ap (look_in tx.looks) at ∙ f)));
          judged = λ l fits stand b. subst (λ (u : TakenRow). SomeFails l u.row (asked_of p.own.id tx x)) (sym (row_x b))
              (races.races setting l fits (stand_all setting l stand));
          least = λ l fits stand y b less fails.
              (let r = (in_rows y b).0 in
              let at = (row_among rows y r (in_rows y b).1).1 in
              let k = place_of rows y r (in_rows y b).1 in
              let before = lower_before rows races.held.are.1 races.place k.0 races.row r races.there k.1 (let z = races.var
              in omega arith) in
              races.least k.0 r before k.1 setting l fits (stand_all setting l stand)
              (subst (λ n. SomeFails l r.row (asked_of p.own.id tx n)) (sym at) fails));
        },
      )
    where
      names : Rattle.gl_model.specs.Form.NumbersName (record { looks = tx.looks; writes = tx.writes; numbers = numbers }) (variables_of tx)
      names = names_one (attempt_in tx) tx.writes p q.own.held None rows (p.seen ∷ []) numbers (variables_of tx) draws are rises held
          drawn.above in_rows runs
