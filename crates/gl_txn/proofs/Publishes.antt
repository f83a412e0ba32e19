-- What is asked of the commit that is published, and what stands after it.
use Rattle.gl_txn.proofs.Changes.{look_found, place_at}
use Rattle.std.proofs.Common.{◌≡◌, ℕ, zero, suc, ◌+◌, ◌<◌, ◌≤◌, List, [], ◌∷◌, ◌++◌, length, map, true, false, refl, sym, ap, ◌∙◌, subst, arith, Some, None, eq-eqb, add-one}
use Rattle.std.specs.Prelude.{Contains, Option, ℤ, pos, if◌then◌else◌}
use Rattle.gl_model.specs.declared.event.Stamp.{Stamp}
use Rattle.gl_model.specs.declared.limits.TheConstants.{THREADS}
use Rattle.gl_model.specs.declared.row.Question.{Question}
use Rattle.gl_model.specs.declared.tx.Number.{Number}
use Rattle.gl_model.specs.declared.tx.Tx.{Tx}
use Rattle.gl_model.specs.Entries.{Entry, Commit}
use Rattle.gl_model.specs.Form.{NumbersName, At}
use Rattle.gl_model.specs.Infos.{AreLeastOwned}
use Rattle.gl_model.specs.Kept.{AreVariables}
use Rattle.gl_model.specs.Machine.{Setting, State, Allows, Step}
use Rattle.gl_model.specs.Records.{variables_of}
use Rattle.gl_model.specs.Rising.{Rises}
use Rattle.gl_model.specs.Trace.{is_in}
use Rattle.gl_draws.specs.Draws.{Draw, draw, Entered}
use Rattle.gl_draws.specs.Events.{AreEvents}
use Rattle.gl_draws.specs.RowFacts.{SomeFails}
use Rattle.gl_draws.proofs.EntryKinds.{contains-is_in}
use Rattle.gl_draws.proofs.Pushes.{at_new}
use Rattle.gl_rule.specs.declared.slot.Slot.{Slot}
use Rattle.gl_rule.specs.declared.slot.Slot.TheVariants as slot
use Rattle.gl_rule.specs.Commits.{MayCommit, drew_commit}
use Rattle.gl_rule.specs.Fitting.{InfosStand, MayLeaveAt}
use Rattle.gl_rule.specs.Taken.{StateTold}
use Rattle.gl_rule.specs.View.{View, Held, Read, Taken, Hold, new_held, with_tail, after_publish, left, moved}
use Rattle.gl_rule.proofs.HeldLists.{in_mapped}
use Rattle.gl_rule.proofs.Lasting.{no_end}
use Rattle.gl_state.specs.ListView.{ListView}
use Rattle.gl_state.specs.States.{IsStateOf}
use Rattle.gl_table.specs.CaughtUp.{block_of}
use Rattle.gl_table.specs.Committing.{MayPublishTx, published_tx, commit_stamp}
use Rattle.gl_table.specs.PassView.{PassView, view_of, shelf_of, after}
use Rattle.gl_table.specs.Putting.{MayPutBack}
use Rattle.gl_table.specs.TableView.{TableView}
use Rattle.gl_table.proofs.Doing.{state_runs}
use Rattle.gl_table.proofs.Passes.{published_object}
use Rattle.gl_txn.specs.Changing.{look_in}
use Rattle.gl_txn.specs.Drawing.{attempt_in, end_of, numbered, drew_on, MayNumber, with_entry}
use Rattle.gl_txn.specs.Ending.{HasRoomAt}
use Rattle.gl_txn.specs.Holding.{vars_of, row_at, AreHeld, undrawn}
use Rattle.gl_txn.specs.Noting.{AreCommitted, drew_commit_at}
use Rattle.gl_txn.specs.Publishing.{IsReady, with_room}
use Rattle.gl_txn.specs.Racing.{asked_of}
use Rattle.gl_txn.specs.Trying.{Draws}
use Rattle.gl_txn.specs.declared.taken.TakenRow.{TakenRow}
use Rattle.gl_txn.proofs.EndFacts.{row_one, each_one, looks_one, owns_one, once_one, names_one}
use Rattle.gl_txn.proofs.Finding.{found_held}
use Rattle.gl_txn.proofs.Holdings.{row_among}
use Rattle.gl_txn.proofs.LookSteps.{block_is, or_no}
use Rattle.gl_txn.proofs.Published.{held_reached, held_published, may_store_commit}
use Rattle.gl_txn.proofs.Refusals.{row_of, row_is}

-- after publishing, what is held of the list is the new list
taken_after : (n : ℕ) (y : Slot) (drew : Held → Option Draw) (h : Held) → h.object ≡ 0 → (after_publish n y drew h).taken ≡ y
taken_after n y drew h e = ap (λ b. (if b then record h { taken = y; tails = suc n ∷ [] }
    else record h { tails = suc n ∷ h.tails; drew = drew h }).taken) (eq-eqb h.object 0 e)

-- the read that is put last is in the list
last_read : (xs : List Read) (x : Read) → Contains (xs ++ x ∷ []) x
last_read [] x = (0, omega arith, refl)
last_read (y ∷ xs) x = let r = last_read xs x in let near = r.1 in (suc r.0, omega arith, r.2)

module _ (z : TableView) (o : PassView) (rows : List TakenRow) (tx : Tx) (l : ListView) (R : IsReady o rows tx)
    (told : StateTold z.key.setting (view_of o) l) (low tail : ℕ) (later : o.seen ≤ tail) (room : HasRoomAt z low tail) where
  abbrev P : PassView
  P = with_room o l low tail

  abbrev pub the_list : Held
  the_list = with_tail tail (new_held 0 (slot.List l))

  -- the pass holds just the list and the rows, with this tail seen
  pub held_there : AreHeld (with_room o l low tail).own.held (Some (with_tail tail (new_held 0 (slot.List l)))) rows (tail ∷ o.seen ∷ [])
      undrawn
  held_there = held_reached o.own.held rows (o.seen ∷ []) R.held (slot.List l) tail

  -- so it may draw the numbers of the commit
  pub numbers_there : MayNumber (with_room o l low tail) rows
  numbers_there = record {
    list = Some (with_tail tail (new_held 0 (slot.List l)));
    tails = tail ∷ o.seen
        ∷ [];
    held = held_there;
    owed = R.owed;
    few = R.few;
    runs = R.runs;
    each = R.draws.each;
  }

  module _ (H : List Held) (numbers : List Number)
      (drawn_held : AreHeld H (Some (with_tail tail (new_held 0 (slot.List l)))) rows (tail ∷ o.seen ∷ [])
      (drew_on (with_room o l low tail) (numbered numbers)))
      (above : (y k m : ℕ) (look : Option ℤ) → Contains o.own.drawn (record { var = y; nth = k; look = look })
      → Contains numbers (record { var = y; nth = m }) → k < m) (all : numbered numbers ≡ vars_of rows) where
    abbrev Q : PassView
    Q = record (with_room o l low tail) {
      own = record (with_room o l low tail).own { held = H; drawn = o.own.drawn ++ map end_of numbers };
    }

    abbrev end : Tx
    end = record { looks = tx.looks; writes = tx.writes; numbers = numbers }

    -- the numbers are on just the variables of the transaction
    are : numbered numbers ≡ variables_of tx
    are = all ∙ R.of

    -- the variables of the transaction rise
    rises : Rises (variables_of tx)
    rises = subst Rises R.of R.held.are.1

    -- the pass holds just the list and the rows, each row of the transaction's variables marked for its end
    held : AreHeld H (Some (with_tail tail (new_held 0 (slot.List l)))) rows (tail ∷ o.seen ∷ [])
        (drew_on (with_room o l low tail) (variables_of tx))
    held = subst (λ ys. AreHeld H (Some (with_tail tail (new_held 0 (slot.List l)))) rows (tail ∷ o.seen ∷ [])
        (drew_on (with_room o l low tail) ys)) are drawn_held

    -- before the numbers of the end, those that wait are the numbers of the attempt's looks, at most one a variable
    draws : Draws (attempt_in tx) (with_room o l low tail).own
    draws = record { looks = R.draws.looks; ends = R.draws.ends; each = R.draws.each }

    -- each variable of the transaction is one of the rows'
    in_by : (y : ℕ) → is_in y (variables_of tx) ≡ true → is_in y (vars_of rows) ≡ true
    in_by y b = subst (λ ys. is_in y ys ≡ true) (sym R.of) b

    abbrev in_rows : (y : ℕ) → is_in y (variables_of tx) ≡ true → (r : TakenRow) × (row_at rows y ≡ Some r)
    in_rows y b = row_of rows y (in_by y b)

    -- the variable of a row is among those of the rows
    among : (xs : List TakenRow) (r : TakenRow) → Contains xs r → Contains (vars_of xs) r.var
    among [] r c = absurd (let n = c.1 in omega arith)
    among (x ∷ xs) r (zero, n, e) = (0, omega arith, ap (λ (z : TakenRow). z.var) e)
    among (x ∷ xs) r (suc k, n, e) = let f = among xs r (k, omega arith, e) in (suc f.0, (let n = f.1 in omega arith), f.2)

    -- where the Infos of the row of each of the transaction's variables stand for accesses, those of all rows do
    stand_all : (setting : Setting) (k : List Stamp)
        → ((y : ℕ) (b : is_in y (variables_of tx) ≡ true) → InfosStand setting k (in_rows y b).0.row) → (r : TakenRow) → Contains rows r
        → InfosStand setting k r.row
    stand_all setting k stand r c =
        let b : is_in r.var (vars_of rows) ≡ true = contains-is_in r.var (vars_of rows) (among rows r c) in
        let d : is_in r.var (variables_of tx) ≡ true = subst (λ ys. is_in r.var ys ≡ true) R.of b in
        subst (λ (u : TakenRow). InfosStand setting k u.row) (row_is rows R.held.are.1 r c (in_by r.var d)) (stand r.var d)

    -- the numbers are on just the variables of the transaction, each above that of a look of the same variable
    names : NumbersName (record { looks = tx.looks; writes = tx.writes; numbers = numbers }) (variables_of tx)
    names = names_one (attempt_in tx) tx.writes (with_room o l low tail) H (Some (with_tail tail (new_held 0 (slot.List l)))) rows (tail
        ∷ o.seen ∷ []) numbers (variables_of tx) draws are rises held above in_rows R.runs

    -- so the transaction may be committed, as it was judged over the events that were seen before the list was taken
    commits : MayCommit z.key.setting (shelf_of o)
        (view_of (record (with_room o l low tail) {
          own = record (with_room o l low tail).own { held = H; drawn = o.own.drawn ++ map end_of numbers };
          moves = moved (length numbers) (with_room o l low tail).moves;
        }))
        (record { looks = tx.looks; writes = tx.writes; numbers = numbers }) (block_of o.own.mine) o.seen (asked_of o.own.id tx)
    commits = record {
      block = block_is o.own.mine R.runs;
      goes_on = no_end o.own.mine R.runs;
      below = R.below;
      rows = row_one (attempt_in tx) tx.writes (with_room o l low tail) H (Some (with_tail tail (new_held 0 (slot.List l)))) rows (tail
          ∷ o.seen ∷ []) numbers (variables_of tx) draws are rises held above in_rows R.runs;
      saw = λ y b. (1, omega arith, refl);
      each = each_one (attempt_in tx) tx.writes (with_room o l low tail) H (Some (with_tail tail (new_held 0 (slot.List l)))) rows (tail
          ∷ o.seen ∷ []) numbers (variables_of tx) draws are rises held above in_rows R.runs;
      looks = looks_one (attempt_in tx) tx.writes (with_room o l low tail) H (Some (with_tail tail (new_held 0 (slot.List l)))) rows (tail
          ∷ o.seen ∷ []) numbers (variables_of tx) draws are rises held above in_rows R.runs;
      owns = owns_one (attempt_in tx) tx.writes (with_room o l low tail) H (Some (with_tail tail (new_held 0 (slot.List l)))) rows (tail
          ∷ o.seen ∷ []) numbers (variables_of tx) draws are rises held above in_rows R.runs;
      once = once_one (attempt_in tx) tx.writes (with_room o l low tail) H (Some (with_tail tail (new_held 0 (slot.List l)))) rows (tail
          ∷ o.seen ∷ []) numbers (variables_of tx) draws are rises held above in_rows R.runs;
      names = names;
      words = λ y b value nth c.
          (let r = (in_rows y b).0 in
          let at = (row_among rows y r (in_rows y b).1).1 in
          let k = place_at rows y r (in_rows y b).1 in
          let f = look_found tx.looks R.looks.1 (record { var = y; value = value; nth = nth }) c in
          sym (R.unchanged k.0 r k.1 (record { var = y; value = value; nth = nth }) (ap (look_in tx.looks) at ∙ f)));
      asks = λ y. (refl, refl, λ n w. contains-is_in y (map (λ w. w.var) tx.writes) w);
      judged = λ k fits stand y b fails.
          (let r = (in_rows y b).0 in
          let at = (row_among rows y r (in_rows y b).1).1 in
          let place = place_at rows y r (in_rows y b).1 in
          R.clear place.0 r place.1 z.key.setting k fits (stand_all z.key.setting k stand)
          (subst (λ n. SomeFails k r.row (asked_of o.own.id tx n)) (sym at) fails));
    }

    -- the commit is a step of the machine from the list's state, and leaves that state
    steps : (now : State) → IsStateOf l now → (new : State)
        × Step z.key.setting now (commit_stamp o.own.id (record { looks = tx.looks; writes = tx.writes; numbers = numbers })) (pos 0) new
        × IsStateOf l new
    steps now is = (now, record { may = state_runs z.key.setting o l told R.runs now is; effect = refl }, is)

    pub may_publish : MayPublishTx z.key (record (with_room o l low tail) {
      own = record (with_room o l low tail).own { held = H; drawn = o.own.drawn ++ map end_of numbers };
      moves = moved (length numbers) (with_room o l low tail).moves;
    })
        (record { looks = tx.looks; writes = tx.writes; numbers = numbers }) l
    may_publish = record {
      held = with_tail tail (new_held 0 (slot.List l));
      old = l;
      may = record {
        held = (found_held 0 H (with_tail tail (new_held 0 (slot.List l))) (drawn_held.at 0)).0;
        list = refl;
        state = refl;
        tail = tail;
        saw = (0, omega arith, refl);
        low = low;
        read = last_read (o.reads ++ Taken 0 (slot.List l) ∷ []) (Hold 0 low);
        room = room;
        stored = refl;
        by = refl;
        kept = subst AreVariables R.of R.held.are;
        position = λ n. refl;
        event = λ n. refl;
        carries = λ n. refl;
        step = steps;
        form = may_store_commit o.own.id o.own.mine tail (record { looks = tx.looks; writes = tx.writes; numbers = numbers }) R.runs names;
        paid = R.owed;
        few = R.few;
      };
      tail = refl;
      block = block_of o.own.mine;
      judged = o.seen;
      question = asked_of o.own.id tx;
      commits = commits;
    }

-- after it was published at n the list goes back
module _ (setting : Setting) (q r : PassView) (l : ListView) (t : Held) (object : t.object ≡ 0) (rows : List TakenRow) (tails : List ℕ)
    (drew : ℕ → Option Draw) (held : AreHeld q.own.held (Some t) rows tails drew) (tx : Tx) (n : ℕ) (are : vars_of rows ≡ variables_of tx)
    (is : r ≡ published_tx q tx n l) where
  abbrev d : Draw
  d = draw q.own.id n (Entered (Commit n tx))

  abbrev list_after : Held
  list_after = after_publish n (slot.List l) (drew_commit (variables_of tx) (draw q.own.id n (Entered (Commit n tx)))) t

  -- the list may be put back with the value that is held of it
  leave_list : (s : _) (v : View) (h : Held) (k : ℕ) (x y : Slot) → k ≡ 0 → y ≡ x → MayLeaveAt setting s v h k x y
  leave_list s v h k x y e same = subst (λ z. MayLeaveAt setting s v h z x y) (sym e) same

  -- so the list may be put back once the commit was published
  pub list_back : MayPutBack setting (shelf_of r) (view_of r) 0 (slot.List l) false
  list_back =
      let drew : Held → Option Draw = drew_commit (variables_of tx) (draw q.own.id n (Entered (Commit n tx))) in
      let h = after_publish n (slot.List l) drew t in
      let zero_object = published_object n (slot.List l) drew t ∙ object in
      subst (λ (r : PassView). MayPutBack setting (shelf_of r) (view_of r) 0 (slot.List l) false) (sym is) (record {
        held = h;
        has = in_mapped (after_publish n (slot.List l) drew) q.own.held t (found_held 0 q.own.held t (held.at 0)).0;
        object = zero_object;
        may = leave_list (shelf_of (published_tx q tx n l)) (view_of (published_tx q tx n l)) h h.object h.taken (slot.List l) zero_object
            (sym (taken_after n (slot.List l) drew t object));
        quiet = λ e. absurd (cc);
      })

  module _ (s : PassView) (put : s ≡ after r (left (view_of r) 0 false)) where
    -- the pass is then the one that published the commit and put the list back
    whole : s ≡ after (published_tx q tx n l) (left (view_of (published_tx q tx n l)) 0 false)
    whole = put ∙ ap (λ (r : PassView). after r (left (view_of r) 0 false)) is

    -- where the question is of the commit, the pass holds just its rows, with the commit as the last event that it has seen
    pub committed : (rows_written : Rattle.gl_txn.specs.Holding.HaveWrites tx.writes rows) (base : Question) → base.thread ≡ s.own.id
        → base.thread < THREADS → base.commit ≡ Some (variables_of tx)
        → ((setting : Setting) (k : List Stamp) (now : State) → AreEvents k s.own.id s.own.mine → Allows setting k now
        → AreLeastOwned now s.own.id base.held) → AreCommitted s rows base (n + 1)
    committed rows_written base thread near commit owned = record {
      tx = tx;
      position = n;
      behind = refl;
      seen = ap (λ (z : PassView). z.seen) whole ∙ sym (add-one n);
      index = length q.own.mine;
      there = subst (λ (es : List Entry). At es (length q.own.mine) (Commit n tx)) (sym (ap (λ (z : PassView). z.own.mine) whole))
          (at_new q.own.mine (Commit n tx));
      tails = suc n ∷ tails;
      fresh = (0, omega arith, sym (add-one n));
      held = subst (λ (u : PassView). AreHeld u.own.held None rows (suc n ∷ tails) (drew_commit_at u tx n)) (sym whole)
          (held_published q.own.held t object rows tails drew held n (slot.List l) (variables_of tx) are
          (draw q.own.id n (Entered (Commit n tx))));
      writes = rows_written;
      thread = thread;
      near = near;
      commit = commit;
      owned = owned;
    }

    -- once all is put back, the pass has the commit at n more in its list and among what it knows, no number waits, and it has seen the
    -- tail behind n
    pub published_is : (p u : PassView) (numbers : List Number) → q
        ≡ record p {
          own = record p.own { held = q.own.held; drawn = p.own.drawn ++ map end_of numbers };
          moves = moved (length numbers) p.moves;
        } → u ≡ record s { own = record s.own { held = [] }; moves = u.moves }
        → u ≡ record (with_entry p (Commit n tx)) {
          seen = suc n;
          known = p.known ++ (n, commit_stamp p.own.id tx) ∷ [];
          stored = [];
          moves = u.moves;
        }
    published_is p u numbers drawn back =
        back ∙ ap (λ (s : PassView). record s { own = record s.own { held = [] }; moves = u.moves }) whole
        ∙ ap (λ (q : PassView). record (after (published_tx q tx n l) (left (view_of (published_tx q tx n l)) 0 false)) {
          own = record (after (published_tx q tx n l) (left (view_of (published_tx q tx n l)) 0 false)).own { held = [] };
          moves = u.moves;
        }) drawn
        ∙ ap (λ b. record (with_entry p (Commit n tx)) {
          seen = suc n;
          known = p.known ++ (n, commit_stamp p.own.id tx)
              ∷ [];
          stored = [];
          moves = u.moves;
          quiet = b;
        }) (or_no p.quiet)
