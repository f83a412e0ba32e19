-- From the rows that were taken to an end that is certain.
use Rattle.gl_txn.proofs.Changes.{look_found}
use Rattle.std.proofs.Common.{◌≡◌, ℕ, zero, suc, ◌-◌, ◌<◌, ◌≤◌, List, [], ◌∷◌, ◌++◌, map, refl, sym, ap, ◌∙◌, subst, arith, Some, None}
use Rattle.std.specs.Prelude.{◌≢◌, Contains, Option, slice_get}
use Rattle.gl_model.specs.declared.event.Stamp.{Stamp}
use Rattle.gl_model.specs.declared.limits.TheConstants.{THREADS}
use Rattle.gl_model.specs.declared.row.Question.{Question}
use Rattle.gl_model.specs.declared.row.Row.{Row}
use Rattle.gl_model.specs.declared.tx.Tx.{Tx}
use Rattle.gl_model.specs.Infos.{AreLeastOwned}
use Rattle.gl_model.specs.Kept.{AreVariables}
use Rattle.gl_model.specs.Machine.{Setting, State, Allows}
use Rattle.gl_model.specs.Records.{variables_of}
use Rattle.gl_draws.specs.Events.{AreEvents}
use Rattle.gl_draws.specs.RowFacts.{IsWithin, SomeFails}
use Rattle.gl_rule.specs.declared.slot.Slot.TheVariants as slot
use Rattle.gl_rule.specs.Knowledge.{AreBelow}
use Rattle.gl_rule.specs.View.{Held, saw_tail, with_tail}
use Rattle.gl_table.specs.PassView.{PassView, view_of, shelf_of, after}
use Rattle.gl_table.specs.TableView.{TableView}
use Rattle.gl_txn.specs.Changing.{AreUnchangedIn, IsFirstChange, look_in}
use Rattle.gl_txn.specs.Drawing.{attempt_in, MayNumber, HasDropped}
use Rattle.gl_txn.specs.Ending.{entry_of, AreUnchanged, OverEach, IsClear, IsCauseBy, IsWaitBy}
use Rattle.gl_rule.specs.Fitting.{IsFitting}
use Rattle.gl_rule.specs.View.{Read, Busy, Taken, Hold}
use Rattle.gl_model.specs.Rising.{Rises}
use Rattle.gl_model.specs.declared.tx.Look.{Look}
use Rattle.gl_rows.proofs.Windows.{fits_before}
use Rattle.std.proofs.Common.{append-nil, Ok, Err}
use Rattle.std.specs.Prelude.{Result, IfOk, IfErr}
use Rattle.gl_txn.specs.Stages.{ReachedEnd, ReachedWait}
use Rattle.gl_txn.specs.declared.changing.Change.{Change}
use Rattle.gl_txn.specs.declared.stops.TxEnd.TheVariants as end
use Rattle.gl_txn.specs.declared.stops.TxWait.{TxWait}
use Rattle.gl_txn.specs.declared.stops.TxWait.TheVariants as wait
use Rattle.gl_txn.proofs.Sizes.{of_look}
use Rattle.gl_model.proofs.PutParts.{found_part}
use Rattle.gl_txn.specs.Holding.{vars_of, found, row_at, row_held, held_by, held_of, AreHeld, undrawn, HaveTaken, HaveWrites}
use Rattle.gl_txn.specs.Publishing.{IsReady}
use Rattle.gl_txn.specs.Racing.{asked_on, asked_of, MayJudge, KnowsOn, Over, AreClear, IsFirstRace, RacesOn}
use Rattle.gl_txn.specs.Stages.{HoldsRows, EndsAs, IsPutBack}
use Rattle.gl_txn.specs.Trying.{Draws, MayTry}
use Rattle.gl_txn.specs.declared.stops.TxEnd.{TxEnd}
use Rattle.gl_txn.specs.declared.taken.TakenRow.{TakenRow}
use Rattle.gl_txn.proofs.Finding.{found_held, found_mapped, changed, once_mapped}
use Rattle.gl_txn.proofs.Refusals.{row_of, row_is, lower_before}

-- a tail was seen while the rows are held
held_tail : (held : List Held) (rows : List TakenRow) (tails : List ℕ) → AreHeld held None rows tails undrawn → (n : ℕ)
    → AreHeld (map (with_tail n) held) None rows (n ∷ tails) undrawn
held_tail held rows tails a n = record { at = at; once = once_mapped (with_tail n) (λ h. refl) held a.once; are = a.are }
  where
    by_row : (o : Option TakenRow) → changed (with_tail n) (held_by tails undrawn o) ≡ held_by (n ∷ tails) undrawn o
    by_row None = refl
    by_row (Some r) = refl

    at : (k : ℕ) → found k (map (with_tail n) held) ≡ held_of None rows (n ∷ tails) undrawn k
    at zero = found_mapped (with_tail n) (λ h. refl) 0 held ∙ ap (changed (with_tail n)) (a.at 0)
    at (suc y) = found_mapped (with_tail n) (λ h. refl) (suc y) held ∙ ap (changed (with_tail n)) (a.at (suc y)) ∙ by_row (row_at rows y)

-- the test of a row speaks of the thread, the kind and the variables of a question
same_test : (l : List Stamp) (row : Row) (q u : Question) → q.thread ≡ u.thread → q.write ≡ u.write → q.commit ≡ u.commit
    → SomeFails l row q → SomeFails l row u
same_test l row q u a b c f =
    subst (λ (v : Question). SomeFails l row v) (ap (λ t. record q { thread = t }) a
    ∙ ap (λ w. record q { thread = u.thread; write = w }) b ∙ ap (λ o. record q { thread = u.thread; write = u.write; commit = o }) c
    ∙ refl) f

module _ (p q r : PassView) (rows : List TakenRow) (tx : Tx) (h : HoldsRows p rows tx) (n : ℕ) (saw : q ≡ after p (saw_tail (view_of p) n))
    (below : AreBelow n (shelf_of p)) (k : KnowsOn q r) (base : Question) (thread : base.thread ≡ p.own.id) (commit : base.commit
    ≡ Some (variables_of tx)) where
  abbrev T : PassView
  T = after p (saw_tail (view_of p) n)

  -- the pass is the one that saw the tail, but for the events that it has come to know since, their words and its steps
  is : r ≡ record (after p (saw_tail (view_of p) n)) { known = p.known ++ k.more; loaded = r.loaded; moves = r.moves }
  is = ap (λ (u : PassView). record u { moves = r.moves }) k.is
      ∙ ap (λ (u : PassView). record u { known = u.known ++ k.more; loaded = r.loaded; moves = r.moves }) saw

  -- it may draw the numbers of the attempt's end
  pub may_number_seen : MayNumber r rows
  may_number_seen = subst (λ (u : PassView). MayNumber u rows) (sym is)
      (record {
        list = None;
        tails = n ∷ [];
        held = held_tail p.own.held rows [] h.held n;
        owed = h.owed;
        few = h.few;
        runs = h.runs;
        each = h.draws.each;
      })

  -- once the tail is seen, the numbers that wait are those of the attempt's looks, at most one a variable
  draws_seen : Draws (attempt_in tx) (after p (saw_tail (view_of p) n)).own
  draws_seen = record { looks = h.draws.looks; ends = h.draws.ends; each = h.draws.each }

  -- so they are of the judging pass
  pub draws_now : Draws (attempt_in tx) r.own
  draws_now = subst (λ (u : PassView). Draws (attempt_in tx) u.own) (sym is) draws_seen

  -- where the question that was judged fails on a row, that of the transaction does
  test_same : (id : ℕ) → id ≡ p.own.id → (l : List Stamp) (row : Row) (y : ℕ) → SomeFails l row (asked_on base tx.writes y)
      → SomeFails l row (asked_of id tx y)
  test_same id e l row y f = same_test l row (asked_on base tx.writes y) (asked_of id tx y) (thread ∙ sym e) refl commit f

  -- and where that of the transaction fails on it, the one that was judged does
  test_back : (id : ℕ) → id ≡ p.own.id → (l : List Stamp) (row : Row) (y : ℕ) → SomeFails l row (asked_of id tx y)
      → SomeFails l row (asked_on base tx.writes y)
  test_back id e l row y f = same_test l row (asked_of id tx y) (asked_on base tx.writes y) (e ∙ sym thread) refl (sym commit) f

  -- the pass is of the same thread
  id_is : r.own.id ≡ p.own.id
  id_is = ap (λ (u : PassView). u.own.id) is

  -- it holds just the rows, as they were taken, with the tail seen that it has seen last
  seen_held : AreHeld r.own.held None rows (r.seen ∷ []) undrawn
  seen_held = subst (λ (u : PassView). AreHeld u.own.held None rows (u.seen ∷ []) undrawn) (sym is) (held_tail p.own.held rows [] h.held n)

  -- its own events stand below that tail
  seen_below : AreBelow r.seen (shelf_of r)
  seen_below = subst (λ (u : PassView). AreBelow u.seen (shelf_of u)) (sym is) below

  -- where no word was changed and the first race is on x, the commit completes a race on x and on no variable below
  pub races_on : AreUnchangedIn tx.looks rows → AreVariables (map (λ l. l.var) tx.looks) → (x : ℕ) → IsFirstRace r base tx.writes rows x
      → RacesOn r rows tx x
  races_on unchanged looks x f = record {
    of = h.of;
    unchanged = unchanged;
    looks = looks;
    held = seen_held;
    below = seen_below;
    place = f.place;
    row = f.row;
    there = f.there;
    var = f.var;
    races = λ setting l fits stand. subst (λ y. SomeFails l f.row.row (asked_of r.own.id tx y)) (sym f.var)
        (test_same r.own.id id_is l f.row.row f.row.var (f.races setting l fits stand));
    least = λ j u near at setting l fits stand fails. f.before j u near at setting l fits stand
        (test_back r.own.id id_is l u.row u.var fails);
  }

  -- where no word was changed and all rows are clear, the pass is ready to commit
  pub is_ready : AreClear r base tx.writes rows → AreUnchangedIn tx.looks rows → AreVariables (map (λ l. l.var) tx.looks)
      → IsReady r rows tx
  is_ready clear unchanged looks = record {
    of = h.of;
    held = seen_held;
    below = seen_below;
    owed = ap (λ (u : PassView). u.own.owed) is ∙ h.owed;
    few = subst (λ (u : PassView). Rattle.gl_draws.specs.Ties.counted u.own.mine < Rattle.std.specs.Prelude.◌^◌ 2 50) (sym is) h.few;
    runs = ap (λ (u : PassView). Rattle.gl_rule.specs.Lives.life_of u.own.mine) is ∙ h.runs;
    draws = draws_now;
    looks = looks;
    writes = h.writes;
    unchanged = unchanged;
    clear = λ j u at setting l fits stand fails. clear j u at setting l fits stand (test_back r.own.id id_is l u.row u.var fails);
  }

  -- an end that is stored by the judging pass leaves the pass as one that is stored right after the rows were taken
  pub ends_seen : (e : TxEnd) (s : PassView) → EndsAs tx e r s → EndsAs tx e p s
  ends_seen e s f = record {
    ended = f.ended;
    looks = f.looks;
    writes = f.writes;
    own = f.own ∙ ap (λ (u : PassView). record u.own { mine = u.own.mine ++ entry_of e f.ended ∷ []; drawn = []; held = [] }) is;
    quiet = f.quiet ∙ ap (λ (u : PassView). u.quiet) is;
    spare = f.spare ∙ ap (λ (u : PassView). u.spare - 1) is;
  }

  -- and so does putting all back
  pub back_seen : (s : PassView) → IsPutBack r s → IsPutBack p s
  back_seen s f = record {
    own = f.own ∙ ap (λ (u : PassView). record u.own { held = [] }) is;
    quiet = f.quiet
        ∙ ap (λ (u : PassView). u.quiet) is;
    spare = f.spare ∙ ap (λ (u : PassView). u.spare) is;
  }

  -- the pass is of the same table
  pub seen_table : r.own.table ≡ p.own.table
  seen_table = ap (λ (u : PassView). u.own.table) is

  -- and has as much spare room in its list
  pub seen_spare : r.spare ≡ p.spare
  seen_spare = ap (λ (u : PassView). u.spare) is

-- the Infos of the rows lie within a tail that was seen since they were taken
rows_within : (p : PassView) (rows : List TakenRow) (tx : Tx) → HoldsRows p rows tx → (n : ℕ)
    → ((h : Held) (row : Row) → Contains p.own.held h → h.taken ≡ slot.Row row → IsWithin row n) → (r : TakenRow) → Contains rows r
    → IsWithin r.row n
rows_within p rows tx h n within r c = within (row_held [] undrawn r) r.row
    (found_held (suc r.var) p.own.held (row_held [] undrawn r) (h.held.at (suc r.var) ∙ ap (held_by [] undrawn) (there r c))).0 refl
  where
    among : (xs : List TakenRow) (r : TakenRow) → Contains xs r → Contains (vars_of xs) r.var
    among [] r c = absurd (let n = c.1 in omega arith)
    among (x ∷ xs) r (zero, n, e) = (0, omega arith, ap (λ (z : TakenRow). z.var) e)
    among (x ∷ xs) r (suc k, n, e) = let f = among xs r (k, omega arith, e) in (suc f.0, (let n = f.1 in omega arith), f.2)

    there : (r : TakenRow) → Contains rows r → row_at rows r.var ≡ Some r
    there r c =
        let b = Rattle.gl_draws.proofs.EntryKinds.contains-is_in r.var (vars_of rows) (among rows r c) in
        (row_of rows r.var b).1 ∙ ap (λ (u : TakenRow). Some u) (row_is rows h.held.are.1 r c b)

-- the rows may be judged once the tail was seen
pub may_judge : (p q : PassView) (rows : List TakenRow) (tx : Tx) → HoldsRows p rows tx → (n : ℕ) → q ≡ after p (saw_tail (view_of p) n)
    → ((h : Held) (row : Row) → Contains p.own.held h → h.taken ≡ slot.Row row → IsWithin row n) → (base : Question) → base.thread
    ≡ q.own.id
    → base.thread < THREADS
    → ((setting : Setting) (l : List Stamp) (now : State) → AreEvents l q.own.id q.own.mine → Allows setting l now
    → AreLeastOwned now q.own.id base.held) → MayJudge q rows base
may_judge p q rows tx h n saw within base thread near owned = record {
  list = None;
  tails = n ∷ [];
  drew = undrawn;
  held = subst (λ (u : PassView). AreHeld u.own.held None rows (n ∷ []) undrawn) (sym saw) (held_tail p.own.held rows [] h.held n);
  within = λ r c. subst (λ (u : PassView). IsWithin r.row u.seen) (sym saw) (rows_within p rows tx h n within r c);
  thread = thread;
  near = near;
  runs = ap (λ (u : PassView). Rattle.gl_rule.specs.Lives.life_of u.own.mine) saw ∙ h.runs;
  owned = owned;
}

-- the rows that were taken are held
pub holds_rows : (z : TableView) (p q : PassView) (ys : List ℕ) (rows : List TakenRow) (tx : Tx) → MayTry z p (attempt_in tx) → ys
    ≡ variables_of tx → HaveTaken p q ys rows → HaveWrites tx.writes rows → HoldsRows q rows tx
holds_rows z p q ys rows tx may vars t writes = record {
  of = t.of ∙ vars;
  held = t.held;
  owed = ap (λ (u : PassView). u.own.owed) t.is ∙ may.owed;
  few = subst (λ (u : PassView). Rattle.gl_draws.specs.Ties.counted u.own.mine < Rattle.std.specs.Prelude.◌^◌ 2 50) (sym t.is) may.few;
  runs = ap (λ (u : PassView). Rattle.gl_rule.specs.Lives.life_of u.own.mine) t.is ∙ may.runs;
  draws = subst (λ (u : PassView). Draws (attempt_in tx) u.own) (sym t.is)
      (record { looks = may.draws.looks; ends = may.draws.ends; each = may.draws.each });
  writes = writes;
}

-- what is asked of a pass that goes on with an attempt does not speak of its writes
pub may_try_writes : (z : TableView) (p : PassView) (a b : Rattle.gl_txn.specs.Attempts.Attempting) → b.looks ≡ a.looks → MayTry z p a
    → MayTry z p b
may_try_writes z p a b e m = record {
  table = m.table;
  held = m.held;
  owed = m.owed;
  few = m.few;
  runs = m.runs;
  draws = record {
    looks = λ y k value. subst (λ (ls : List Rattle.gl_model.specs.declared.tx.Look.Look). Rattle.std.specs.Prelude.◌↔◌
        (Contains p.own.drawn (record { var = y; nth = k; look = Some value })) (Contains ls (record { var = y; value = value; nth = k })))
        (sym e) (m.draws.looks y k value);
    ends = m.draws.ends;
    each = m.draws.each;
  };
}

-- ---- why an attempt ended, or has to wait

-- a row that stands at a place is in the list
in_at : (rows : List TakenRow) (i : ℕ) (r : TakenRow) → slice_get rows i ≡ Some r → Contains rows r
in_at [] i r e = absurd (cc)
in_at (x ∷ xs) zero r e = (0, omega arith, (let same : x ≡ r = cc in same))
in_at (x ∷ xs) (suc i) r e = let c = in_at xs i r e in (suc c.0, (let l = c.1 in omega arith), c.2)

-- a row that is in the list stands at some place
at_in : (rows : List TakenRow) (r : TakenRow) → Contains rows r → (k : ℕ) × (slice_get rows k ≡ Some r)
at_in [] r c = absurd (let l = c.1 in omega arith)
at_in (x ∷ xs) r (zero, l, e) = (0, ap (λ (z : TakenRow). Some z) e)
at_in (x ∷ xs) r (suc k, l, e) = let f = at_in xs r (k, omega arith, e) in (suc f.0, f.1)

-- where the looks' variables rise, each look is the one that is found for the variable of its row
look_same : (a : Tx) (l : Look) (r : TakenRow) → Rises (map (λ l. l.var) a.looks) → Contains a.looks l → r.var ≡ l.var
    → look_in a.looks r.var ≡ Some l
look_same a l r rises c e = ap (look_in a.looks) e ∙ look_found a.looks rises l c

-- rows that are unchanged by the looks of an attempt are unchanged in the attempt
pub unchanged_all : (a : Tx) (rows : List TakenRow) → AreVariables (map (λ l. l.var) a.looks) → AreUnchangedIn a.looks rows
    → AreUnchanged (attempt_in a) rows
unchanged_all a rows looks u l r c d e = let k = at_in rows r d in u k.0 r k.1 l (look_same a l r looks.1 c e)

module _ (p q r : PassView) (rows : List TakenRow) (tx : Tx) (h : HoldsRows p rows tx) (n : ℕ) (saw : q ≡ after p (saw_tail (view_of p) n))
    (below : AreBelow n (shelf_of p)) (k : KnowsOn q r) (base : Question) (thread : base.thread ≡ p.own.id) (commit : base.commit
    ≡ Some (variables_of tx))
    (later : p.seen ≤ n) (looks : AreVariables (map (λ l. l.var) tx.looks)) (unchanged : AreUnchangedIn tx.looks rows)
    (reaches : (h : Held) (row : Row) → Contains p.own.held h → h.taken ≡ slot.Row row → IsWithin row n) where
  abbrev J : PassView
  J = record (after p (saw_tail (view_of p) n)) { known = p.known ++ k.more; loaded = r.loaded; moves = r.moves }

  -- the pass is the one that saw the tail, but for the events that it has come to know since, their words and its steps
  at_j : r ≡ record (after p (saw_tail (view_of p) n)) { known = p.known ++ k.more; loaded = r.loaded; moves = r.moves }
  at_j = ap (λ (u : PassView). record u { moves = r.moves }) k.is
      ∙ ap (λ (u : PassView). record u { known = u.known ++ k.more; loaded = r.loaded; moves = r.moves }) saw

  -- it has seen the tail n
  seen_j : r.seen ≡ n
  seen_j = ap (λ (u : PassView). u.seen) at_j

  -- it has read no turn, hold or stop word since
  reads_j : r.reads ≡ p.reads
  reads_j = ap (λ (u : PassView). u.reads) at_j

  -- what is said over each list that fits the judging pass is said over each that fits with more that is known
  over_j : (P : List Stamp → Type 0) → Over r rows P → (setting : Setting) (known more : List (ℕ × Stamp)) → known ≡ r.known ++ more
      → OverEach setting (shelf_of p) r.seen known rows P
  over_j P over setting known more e l fits stand =
      over setting l (subst (λ (u : PassView). IsFitting setting (shelf_of u) r.seen r.known l) (sym at_j)
      (fits_before setting (shelf_of p) r.seen r.known more l (subst (λ ks. IsFitting setting (shelf_of p) r.seen ks l) e fits))) stand

  -- where all rows are clear, nothing speaks against the commit, also where the pass knows more events by then
  pub is_clear_by : AreClear r base tx.writes rows → (setting : Setting) (s : PassView) (more : List (ℕ × Stamp)) → s.known ≡ r.known
      ++ more → (most : ℕ) → r.seen ≤ most → IsClear setting (attempt_in tx) (shelf_of p) p.seen most rows s
  is_clear_by clear setting s more known most within = record {
    unchanged = unchanged_all tx rows looks unchanged;
    upto = r.seen;
    later = (let e = seen_j in omega arith);
    within = within;
    reaches = λ u c. subst (IsWithin u.row) (sym seen_j) (rows_within p rows tx h n reaches u c);
    unraced = λ l fits stand u c fails.
        (let j = at_in rows u c in
        over_j (λ l. SomeFails l u.row (asked_on base tx.writes u.var) → ⊥) (λ setting l f st. clear j.0 u j.1 setting l f st) setting
        s.known more known l fits stand
        (same_test l u.row (asked_of p.own.id tx u.var) (asked_on base tx.writes u.var) (sym thread) refl (sym commit) fails));
  }

  -- where all rows are clear, a commit for which the list was reached has its cause
  pub done_cause : (z : TableView) → AreClear r base tx.writes rows → (e : TxEnd) (s : PassView) → ReachedEnd z e r s
      → IsCauseBy z (attempt_in tx) e (shelf_of p) p.seen p.reads rows s
  done_cause z clear (end.Done at) s d = record {
    clear = is_clear_by clear z.key.setting s d.more d.known at (let a = d.later in let b = d.here in omega arith);
    list = d.list;
    low = d.low;
    tail = d.tail;
    reads = d.reads ∙ ap (λ (l : List Read). l ++ (Taken 0 (slot.List d.list) ∷ Hold 0 d.low ∷ [])) reads_j;
    room = d.room;
    here = d.here;
    seen = d.seen;
  }
  done_cause z clear (end.Raised var) s d = absurd d
  done_cause z clear (end.Changed var read found) s d = absurd d

  -- where all rows are clear, a wait for the list or for room has its cause
  pub wait_cause : (z : TableView) → AreClear r base tx.writes rows → (w : TxWait) (s : PassView) → ReachedWait z w r s
      → IsWaitBy z (attempt_in tx) w (shelf_of p) p.seen p.reads rows s
  wait_cause z clear (wait.Busy by) s d = record {
    near = d.near;
    other = subst (λ (u : PassView). by ≢ u.own.id) at_j d.other;
    clear = is_clear_by clear z.key.setting s [] (d.known ∙ sym (append-nil r.known)) s.seen (let c = d.seen in omega arith);
    reads = d.reads ∙ ap (λ (l : List Read). l ++ Busy 0 by ∷ []) reads_j;
  }
  wait_cause z clear (wait.RingFull low tail) s d = record {
    clear = is_clear_by clear z.key.setting s [] (d.known ∙ sym (append-nil r.known)) s.seen
        (let a = d.later in let c = d.seen in omega arith);
    list = d.list;
    reads = d.reads ∙ ap (λ (l : List Read). l ++ (Taken 0 (slot.List d.list) ∷ Hold 0 low ∷ [])) reads_j;
    seen = d.seen;
    full = d.full;
  }

  -- where the first race is on x, an attempt that is dropped has the cause of one that was raised on x
  pub raised_cause : (z : TableView) (x : ℕ) → IsFirstRace r base tx.writes rows x → (why : _) (s : PassView) → HasDropped tx why r s
      → IsCauseBy z (attempt_in tx) (end.Raised x) (shelf_of p) p.seen p.reads rows s
  raised_cause z x f why s d =
      let same_seen : s.seen ≡ r.seen = ap (λ (u : PassView). u.seen) d.is in
      let same_known : s.known ≡ r.known ++ [] = ap (λ (u : PassView). u.known) d.is ∙ sym (append-nil r.known) in
      record {
        reads = ap (λ (u : PassView). u.reads) d.is ∙ reads_j;
        unchanged = unchanged_all tx rows looks unchanged;
        later = (let e = seen_j in omega arith);
        reaches = λ u c. subst (IsWithin u.row) (sym (same_seen ∙ seen_j)) (rows_within p rows tx h n reaches u c);
        row = f.row;
        of = in_at rows f.place f.row f.there;
        here = sym f.var;
        races = λ l fits stand. same_test l f.row.row (asked_on base tx.writes f.row.var) (asked_of p.own.id tx f.row.var) thread refl
            commit
            (over_j (λ l. SomeFails l f.row.row (asked_on base tx.writes f.row.var)) f.races z.key.setting s.known [] same_known l
            (subst (λ m. IsFitting z.key.setting (shelf_of p) m s.known l) same_seen fits) stand);
        least = λ l fits stand u c less fails.
            (let j = at_in rows u c in
            let before = lower_before rows h.held.are.1 f.place j.0 f.row u f.there j.1 (let e = f.var in omega arith) in
            over_j (λ l. SomeFails l u.row (asked_on base tx.writes u.var) → ⊥)
            (λ setting l g st. f.before j.0 u before j.1 setting l g st) z.key.setting s.known [] same_known l
            (subst (λ m. IsFitting z.key.setting (shelf_of p) m s.known l) same_seen fits) stand
            (same_test l u.row (asked_of p.own.id tx u.var) (asked_on base tx.writes u.var) (sym thread) refl (sym commit) fails));
      }

-- an attempt that was dropped as changed has its cause
pub changed_cause : (z : TableView) (p s : PassView) (rows : List TakenRow) (tx : Tx) → HoldsRows p rows tx
    → AreVariables (map (λ l. l.var) tx.looks) → (c : Change) → IsFirstChange tx.looks rows c → (why : _) → HasDropped tx why p s
    → IsCauseBy z (attempt_in tx) (end.Changed c.var c.read c.found) (shelf_of p) p.seen p.reads rows s
changed_cause z p s rows tx h looks c f why d =
    let found = found_part of_look f.row.var tx.looks f.is.look f.is.looked in
    record {
      reads = ap (λ (u : PassView). u.reads) d.is;
      look = f.is.look;
      looked = found.0;
      at = found.1 ∙ sym f.is.var;
      read_is = sym f.is.read;
      row = f.row;
      of = in_at rows f.place f.row f.there;
      here = sym f.is.var;
      found_is = sym f.is.found;
      other = f.is.other;
      least = λ l r a b e less.
          (let k = at_in rows r b in
          let before = lower_before rows h.held.are.1 f.place k.0 f.row r f.there k.1 (let v = f.is.var in omega arith) in
          f.before k.0 r before k.1 l (look_same tx l r looks.1 a e));
    }

-- a result that answers with one fact of the end answers with what follows from it
pub cause_ok : {E : Type 0} (z : TableView) (r : Result TxEnd E) (P Q : TxEnd → Type 0) → ((e : TxEnd) → P e → Q e) → IfOk r P → IfOk r Q
cause_ok z (Ok e) P Q f h = f e h
cause_ok z (Err w) P Q f h = tt

-- a result that errs with one fact of the wait errs with what follows from it
pub cause_err : {A B : Type 0} (z : TableView) (r : Result A (B × TxWait)) (P Q : TxWait → Type 0) → ((w : TxWait) → P w → Q w)
    → IfErr r (λ w. P w.1) → IfErr r (λ w. Q w.1)
cause_err z (Ok e) P Q f h = tt
cause_err z (Err w) P Q f h = f w.1 h
