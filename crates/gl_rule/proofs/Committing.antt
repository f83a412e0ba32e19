-- The rule when a commit is published.
use Rattle.std.proofs.Common.{◌≡◌, ◌≢◌, ℕ, suc, ◌+◌, ◌^◌, ◌%◌, ◌<◌, ◌≤◌, List, [], ◌∷◌, ◌++◌, length, take, drop, sym, refl, ap, subst, arith, ◌∙◌, inl, inr, Some, None, true, false, Bool}
use Rattle.std.specs.Prelude.{ℤ, pos, Contains, ◌⊎◌, Option, slice_get, if◌then◌else◌}
use Rattle.std.specs.List.{All}
use Rattle.std.proofs.lemmas.List.{take-append-drop, length-take-le}
use Rattle.std.proofs.lemmas.List.Elements.{All-contains}
use Rattle.atomic_table.specs.Table as table
use Rattle.gl_model.specs.declared.event.Event.TheVariants.{Commit as Commits}
use Rattle.gl_model.specs.declared.event.Stamp.{Stamp}
use Rattle.gl_model.specs.declared.limits.TheConstants.{THREADS}
use Rattle.gl_model.specs.declared.row.Row.{Row}
use Rattle.gl_model.specs.declared.row.Question.{Question}
use Rattle.gl_model.specs.declared.tx.Tx.{Tx}
use Rattle.gl_model.specs.Entries.{Commit}
use Rattle.gl_model.specs.Form.{Draws}
use Rattle.gl_model.specs.Machine.{Setting, State, Allows}
use Rattle.gl_model.specs.Records.{variables_of}
use Rattle.gl_model.specs.Trace.{is_in}
use Rattle.gl_draws.specs.Draws.{What, Entered, Looked, Open, Draw, draw, DrawAt, Among}
use Rattle.gl_draws.specs.Resolved.{resolved, AreOf}
use Rattle.gl_draws.specs.RowFacts.{RowStands, IsWithin}
use Rattle.gl_draws.specs.Ties.{Drawn, IsStill, IsKept, in_list, in_flight, count_by}
use Rattle.gl_draws.specs.Verdicts.{DrawsHold}
use Rattle.gl_draws.proofs.CommitLaw.{commit_holds}
use Rattle.gl_draws.proofs.Resolves.{count_resolved, length_resolved}
use Rattle.gl_draws.proofs.DrawPlaces.{one_draw}
use Rattle.gl_draws.proofs.EntryKinds.{is_in-contains, contains-is_in}
use Rattle.gl_draws.proofs.Sets.{map_contains}
use Rattle.gl_draws.proofs.Resolving.{drawn_commit}
use Rattle.gl_draws.proofs.EndedAttempts.{foreign, foreign_back}
use Rattle.gl_draws.proofs.RowGrowth.{row_grows}
use Rattle.gl_draws.proofs.Running.{running_law}
use Rattle.gl_draws.proofs.VerdictGrowth.{draws_grow}
use Rattle.gl_rule.specs.declared.slot.Slot.{Slot}
use Rattle.gl_rule.specs.declared.slot.Slot.TheVariants as slot
use Rattle.gl_state.specs.ListView.{ListView}
use Rattle.gl_rule.specs.Objects.{Key, Board, board, capacity}
use Rattle.gl_rule.specs.View.{View, Held, Shelf, HasObject, shelf}
use Rattle.gl_rule.specs.World.{World}
use Rattle.gl_rule.specs.Positions.{ShelfFits}
use Rattle.gl_rule.specs.Numbers.{NumbersHold, ShelfDraws}
use Rattle.gl_rule.specs.Values.{StandsHeld, HeldStands, RowHeld, with_draw}
use Rattle.gl_rule.specs.Knowledge.{TailsFit}
use Rattle.gl_rule.specs.Fitting.{MayPublish}
use Rattle.gl_rule.specs.Commits.{MayCommit, is_object, drew_commit}
use Rattle.gl_rule.specs.Rule.{Fits, Rule}
use Rattle.gl_rule.specs.Told.{Published}
use Rattle.gl_rule.proofs.HeldLists.{only_shelf}
use Rattle.gl_rule.proofs.FittingLaws.{front_fits_at, infos_front}
use Rattle.gl_draws.specs.Draws.{last_write}
use Rattle.gl_draws.specs.Events.{AreEvents}
use Rattle.gl_draws.proofs.EventTies.{events_other}
use Rattle.gl_draws.specs.Repeated.{IsCalm}
use Rattle.gl_rule.specs.Owed.{OwedOne, repeats_of}
use Rattle.gl_rule.proofs.Owing.{calm_write, calm_any, write_past, open_unrepeated}
use Rattle.gl_draws.specs.Refusals.{RefusalsHold}
use Rattle.gl_draws.proofs.Refusing.{refusals_grow, refusals_commit}
use Rattle.gl_draws.proofs.Forming.{counted_push}
use Rattle.gl_rule.proofs.Publishing.{publishes}
use Rattle.gl_rule.proofs.Raising.{row_tail}

-- equal lists have equal rests
pub cons_tail : (a c : Draw) (xs ys : List Draw) → a ∷ xs ≡ c ∷ ys → xs ≡ ys
cons_tail a c xs ys e = cc

-- a choice whose test is true takes the first branch
pub the_then : (q : Bool) (a c : Option Draw) → q ≡ true → (if q then a else c) ≡ a
the_then q a c e = rw e refl

-- a choice whose test is false takes the second branch
pub the_else : (q : Bool) (a c : Option Draw) → q ≡ false → (if q then a else c) ≡ c
the_else q a c e = rw e refl

-- an open number waits for no look
pub still_open : (w : What) (o : Option ℤ) → w ≡ Open → IsStill w o → o ≡ None
still_open w o e s = let z : IsStill Open o = subst (λ a. IsStill a o) e s in z

-- a number that waits for the end of an attempt is open
pub still_none : (w : What) → IsStill w None → w ≡ Open
still_none (Looked v) s = absurd (cc)
still_none Open s = refl
still_none (Entered e) s = absurd s

-- and one that waits with a look is not
pub still_some : (w : What) (v : ℤ) → IsStill w (Some v) → w ≡ Open → ⊥
still_some w v s e = let z : IsStill Open (Some v) = subst (λ a. IsStill a (Some v)) e s in let q : Some v ≡ None = z in cc

-- where d was drawn on a held row it is the last draw of its variable, and the row stands for the draws below it
pub held_open : (setting : Setting) (w : World) (hold : ℕ → ℕ) (drew : Option Draw) (k y : ℕ) (d : Draw) (z : Slot) (row : Row) → k ≡ suc y
    → z ≡ slot.Row row → drew ≡ Some d → StandsHeld setting w hold drew k z → (ds : List Draw) × (w.draws y ≡ d ∷ ds)
    × RowStands setting w.log y ds row
held_open setting w hold drew k y d z row e is was st =
    let a : StandsHeld setting w hold (Some d) (suc y) (slot.Row row) =
    subst (λ o. StandsHeld setting w hold o (suc y) (slot.Row row)) was
    (subst (λ r. StandsHeld setting w hold drew (suc y) r) is (subst (λ i. StandsHeld setting w hold drew i z) e st)) in
    (a.0.before, a.0.draws_are, a.0.stands)

module _ (key : Key) (w : World) (b : Board) (id : ℕ) (v : View) (s : Shelf) (tx : Tx) (p m : ℕ) (question : ℕ → Question) (one : v.shelves
    ≡ s ∷ []) (may : MayCommit key.setting s v tx p m question) (mine : Fits key b w id v) where
  abbrev ys : List ℕ
  ys = variables_of tx

  -- its one list has its thread's events, in a form that it may have so far
  fits : ShelfFits w.log w.seat id s
  fits = only_shelf (ShelfFits w.log w.seat id) v s one mine.positions.shelves

  -- each draw of its thread has its entry in the list, or waits for it
  draws : ShelfDraws w.draws v.drawn s
  draws = only_shelf (ShelfDraws w.draws v.drawn) v s one mine.numbers.shelves

  -- on each of the commit's variables the mark for its end is the last draw, and the held row stands for the draws below it
  open_row : (y : ℕ) (c : is_in y ys ≡ true) → (ds : List Draw) × (w.draws y ≡ draw s.thread p Open ∷ ds)
      × RowStands key.setting w.log y ds (may.rows y c).row
  open_row y c = let r = may.rows y c in held_open key.setting w b.hold r.one.drew r.one.object y (draw s.thread p Open) r.one.taken r.row
      r.object r.taken r.drew (All-contains (HeldStands key.setting w b.hold) v.held r.one mine.values.held r.held)

  -- the tail m is at most what the pass has seen, and the Infos of each of these rows stand within it
  tail_of_row : (y : ℕ) (c : is_in y ys ≡ true) → (m ≤ v.seen) × IsWithin (may.rows y c).row m
  tail_of_row y c = let r = may.rows y c in let t =
      row_tail (length w.log) b.hold v.seen r.one.object y m r.one.taken r.row r.object r.taken
      (All-contains (TailsFit (length w.log) b.hold v.seen) v.held r.one mine.knowledge.tails r.held m (may.saw y c)) in (t.0, t.1)

  -- where the mark is the last draw on a variable, its number is one of the transaction's
  number_of : (y : ℕ) (ds : List Draw) → w.draws y ≡ draw s.thread p Open ∷ ds → Contains tx.numbers (record { var = y; nth = length ds })
  number_of y ds is =
      let at : DrawAt (w.draws y) (length ds) (draw s.thread p Open) =
      subst (λ l. DrawAt l (length ds) (draw s.thread p Open)) (sym is) (inl (refl, refl)) in
      by (draws.numbers.kept y (length ds) (draw s.thread p Open) at refl)
    where
      by : IsKept s.marked v.drawn y (length ds) (draw s.thread p Open) → Contains tx.numbers (record { var = y; nth = length ds })
      by (in_list i e a n f g) = absurd f
      by (in_flight look c st) = (may.owns y (length ds)).0
          (subst (λ o. Contains v.drawn (record { var = y; nth = length ds; look = o })) st c)

  -- each number of the transaction is on one of its variables
  named_in : (y k : ℕ) → Contains tx.numbers (record { var = y; nth = k }) → is_in y ys ≡ true
  named_in y k c = contains-is_in y ys (subst (λ l. Contains l y) may.names.variables
      (map_contains (λ n. n.var) tx.numbers (record { var = y; nth = k }) c))

  -- the numbers that wait are those of the transaction
  pub are_of : AreOf w.draws s.thread p (length w.log) tx s.marked v.drawn
  are_of = record {
    heads = λ y c. let r = open_row y c in (r.0, r.1, number_of y r.0 r.1);
    looks = λ y k value c. (
      (may.looks y k value).0 c,
      λ n.
          let f = draws.numbers.in_flight (record { var = y; nth = k; look = None }) ((may.owns y k).1 n) in
          let g = draws.numbers.in_flight (record { var = y; nth = k; look = Some value }) c in
          let same : f.0 ≡ g.0 = one_draw (w.draws y) k f.0 g.0 f.1 g.1 in
          still_some g.0.what value g.3 (sym (ap (λ (z : Draw). z.what) same) ∙ still_none f.0.what f.3),
    );
    own = λ y k c. let n = (may.owns y k).0 c in (named_in y k n, λ ds is. may.once y k (length ds) n (number_of y ds is));
    all = λ y k d. waits y k d;
    above = λ y k i j e at d d'. let o = waits y i d' in draws.above y k i j e o.0 at d o.1;
  }
    where
      waits : (y k : ℕ) → Draws (Commit (length w.log) tx) y k → (look : Option ℤ)
          × Contains v.drawn (record { var = y; nth = k; look = look })
      waits y k (inl l) = (Some l.0, (may.looks y k l.0).1 l.1)
      waits y k (inr n) = (None, (may.owns y k).1 n)

  abbrev d : Draw
  d = draw s.thread (length w.log) (Entered (Commit (length w.log) tx))

  abbrev after : ℕ → List Draw
  after = resolved w.draws (variables_of tx) (draw s.thread (length w.log) (Entered (Commit (length w.log) tx)))

  -- on the commit's variables the commit stands afterwards in the place of the mark
  after_in : (y : ℕ) → is_in y ys ≡ true → (ds : List Draw) → w.draws y ≡ draw s.thread p Open ∷ ds → after y ≡ d ∷ ds
  after_in y c ds is = rw (c, is) refl

  -- on any other variable the draws stay
  after_out : (y : ℕ) → is_in y ys ≡ false → after y ≡ w.draws y
  after_out y c = rw c refl

  -- on each of the commit's variables the mark for its end is the last draw
  heads : (y : ℕ) → is_in y ys ≡ true → (ds : List Draw) × (w.draws y ≡ draw s.thread p Open ∷ ds)
  heads y c = let r = open_row y c in (r.0, r.1)

  -- each thread has as many draws on each variable as before
  same_count : (u y : ℕ) → count_by u (after y) ≡ count_by u (w.draws y)
  same_count u y = count_resolved w.draws s.thread p ys d refl heads u y

  -- on each variable there are as many draws as before
  same_length : (y : ℕ) → length (after y) ≡ length (w.draws y)
  same_length y = length_resolved w.draws s.thread p ys d refl heads y

  -- the counters count the draws after the commit as before
  pub numbers_after : (count : ℕ → ℕ) → NumbersHold count w.draws → NumbersHold count after
  numbers_after count k = record {
    counts = λ y near. k.counts y near
        ∙ sym (same_length y);
    threads = λ y f among. among_after y f among;
    few = λ y u. subst (λ z. z ≤ 2 ^ 51 + 2) (sym (same_count u y)) (k.few y u);
  }
    where
      among_after : (y : ℕ) (f : Draw) → Among (after y) f → f.thread < THREADS
      among_after y f among = by (is_in y ys) refl
        where
          by : (c : Bool) → is_in y ys ≡ c → f.thread < THREADS
          by false c = k.threads y f (subst (λ l. Among l f) (after_out y c) among)
          by true c =
              let r = open_row y c in
              elim (subst (λ l. Among l f) (after_in y c r.0 r.1) among) [
                | inl same ↦ subst (λ (z : Draw). z.thread < THREADS) (sym same) fits.named
                | inr old ↦ k.threads y f (subst (λ l. Among l f) (sym r.1) (inr old))
              ]

  -- a list that the machine allows, with the thread's events and those that the pass knows, where the draws and the held rows are right
  record Seen (log : List Stamp) : Type 0 where
    now : State
    allowed : Allows key.setting log now
    events : Rattle.gl_draws.specs.Events.AreEvents log s.thread s.marked
    known : All (λ (k : ℕ × Stamp). slice_get log k.0 ≡ Some k.1) v.known
    verdicts : (y : ℕ) → DrawsHold log y (w.draws y)
    stands : (y : ℕ) (c : is_in y ys ≡ true) → RowStands key.setting log y (open_row y c).0 (may.rows y c).row

  -- what is said of the commit's draws is right
  right_at : (l more : List Stamp) → length l ≡ m → Seen (l ++ more) → (y : ℕ) (c : is_in y ys ≡ true)
      → DrawsHold ((l ++ more) ++ record { thread = s.thread; event = Commits (variables_of tx) } ∷ []) y
      (draw s.thread (length (l ++ more)) (Entered (Commit (length (l ++ more)) tx)) ∷ (open_row y c).0)
  right_at l more long f y c =
      let fit = front_fits_at key.setting s m v.known f.now l more long f.allowed f.events may.below f.known in
      let within : (z : ℕ) (e : is_in z ys ≡ true)
      → IsWithin (may.rows z e).row (length l) = λ z e. subst (IsWithin (may.rows z e).row) (sym long) (tail_of_row z e).1 in
      let none = may.judged l fit (λ z e. infos_front key.setting l more z (open_row z e).0 (may.rows z e).row (f.stands z e) (within z e))
      y c in
      let running = running_law key.setting l fit.now s.thread p s.marked fit.allowed fit.own may.block may.goes_on in
      let all : DrawsHold (l ++ more) y (open_row y c).0 = (subst (λ z. DrawsHold (l ++ more) y z) (open_row y c).1 (f.verdicts y)).1 in
      let q = may.asks y in
      commit_holds key.setting l more fit.now fit.allowed s.thread running (length (l ++ more)) refl tx y (open_row y c).0 all
      (may.rows y c).row (f.stands y c) (within y c) (question y) q.0 q.1 (is_in-contains y ys c) (q.2 (length (l ++ more))) none
      (number_of y (open_row y c).0 (open_row y c).1) (may.words y c)

  -- what is said of each draw is right with the commit in the place of its open numbers
  pub commit_right : (now : State) → Allows key.setting w.log now → ((y : ℕ) → DrawsHold w.log y (w.draws y)) → (y : ℕ)
      → DrawsHold (w.log ++ record { thread = s.thread; event = Commits (variables_of tx) } ∷ []) y (after y)
  commit_right now allowed verdicts y = by (is_in y ys) refl
    where
      x : Stamp
      x = record { thread = s.thread; event = Commits (variables_of tx) }

      seen : (c : is_in y ys ≡ true) → DrawsHold (w.log ++ record { thread = s.thread; event = Commits (variables_of tx) } ∷ []) y
          (draw s.thread (length w.log) (Entered (Commit (length w.log) tx)) ∷ (open_row y c).0)
      seen c =
          let is : w.log ≡ take m w.log ++ drop m w.log = sym (take-append-drop m w.log) in
          let le : m ≤ length w.log = (let a = (tail_of_row y c).0 in let g = mine.knowledge.seen in omega arith) in
          let long : length (take m w.log) ≡ m = length-take-le m w.log le in
          let F : List Stamp → Type 0 = λ k. Seen k
          → DrawsHold (k ++ record { thread = s.thread; event = Commits (variables_of tx) } ∷ []) y
          (draw s.thread (length k) (Entered (Commit (length k) tx)) ∷ (open_row y c).0) in
          subst F (sym is) (λ f. right_at (take m w.log) (drop m w.log) long f y c)
          (record {
            now = now;
            allowed = allowed;
            events = fits.events;
            known = mine.knowledge.known;
            verdicts = verdicts;
            stands = λ z e. (open_row z e).2;
          })

      by : (c : Bool) → is_in y ys ≡ c → DrawsHold (w.log ++ record { thread = s.thread; event = Commits (variables_of tx) } ∷ []) y
          (after y)
      by false c = subst (λ l. DrawsHold (w.log ++ record { thread = s.thread; event = Commits (variables_of tx) } ∷ []) y l)
          (sym (after_out y c)) (draws_grow w.log (record { thread = s.thread; event = Commits (variables_of tx) } ∷ []) y (w.draws y)
          (verdicts y))
      by true c = subst (λ l. DrawsHold (w.log ++ record { thread = s.thread; event = Commits (variables_of tx) } ∷ []) y l)
          (sym (after_in y c (open_row y c).0 (open_row y c).1)) (seen c)

  -- a variable's draws stay, or its row is held
  pub elsewhere : (y : ℕ) → (after y ≡ w.draws y) ⊎ HasObject v (suc y)
  elsewhere y = by (is_in y ys) refl
    where
      by : (c : Bool) → is_in y ys ≡ c → (after y ≡ w.draws y) ⊎ HasObject v (suc y)
      by false c = inl (after_out y c)
      by true c = let r = may.rows y c in inr (r.one, r.held, r.object)

  -- another thread's numbers stay
  pub numbers_foreign : (r : Shelf) (drawn : List Drawn) → r.thread ≢ s.thread → ShelfDraws w.draws drawn r → ShelfDraws after drawn r
  numbers_foreign r drawn apart k = record {
    numbers = foreign w.draws s.thread p (length w.log) (variables_of tx) (Entered (Commit (length w.log) tx)) (λ y c. let q = open_row y c
        in (q.0, q.1)) r.thread r.marked drawn apart k.numbers;
    few = λ y. let a = k.few y in let e = same_count r.thread y in omega arith;
    two = k.two;
    above = k.above;
    runs = k.runs;
  }

  -- the thread's own numbers have their entry now
  pub numbers_own : ShelfDraws after [] (shelf s.thread (s.marked ++ Commit (length w.log) tx ∷ []))
  numbers_own = record {
    numbers = drawn_commit w.draws s.thread p (length w.log) tx s.marked v.drawn draws.numbers are_of;
    few = λ y. let a = draws.few y in let t = draws.two y in let e = same_count s.thread y
        in let g = counted_push s.marked (Commit (length w.log) tx) (λ z. z) in omega arith;
    two = λ y. omega arith;
    above = λ y n i j e o at dr has. absurd (let l = has.1 in omega arith);
    runs = λ o has. absurd (let l = has.1 in omega arith);
  }

  -- a held row stands for the draws below the commit
  pub held_after : (new : State) (g : Held) (y : ℕ) (row : Row) → Contains v.held g → g.object ≡ suc y → RowHeld key.setting w y g.drew row
      → RowHeld key.setting (record w {
        log = w.log ++ record { thread = s.thread; event = Commits (variables_of tx) }
            ∷ [];
        now = new;
        draws = after;
      }) y (drew_commit (variables_of tx) d g) row
  held_after new g y row has is r = by (is_in y ys) refl
    where
      x : Stamp
      x = record { thread = s.thread; event = Commits (variables_of tx) }

      by : (c : Bool) → is_in y ys ≡ c → RowHeld key.setting
          (record w { log = w.log ++ record { thread = s.thread; event = Commits (variables_of tx) } ∷ []; now = new; draws = after }) y
          (drew_commit (variables_of tx) d g) row
      by false c =
          let o : is_object g.object ys ≡ false = ap (λ k. is_object k ys) is ∙ c in
          rw o (record {
            before = r.before;
            draws_are = after_out y c
                ∙ r.draws_are;
            stands = row_grows key.setting w.log (record { thread = s.thread; event = Commits (variables_of tx) } ∷ []) y
                r.before row r.stands;
          })
      by true c =
          let o : is_object g.object ys ≡ true = ap (λ k. is_object k ys) is ∙ c in
          let was : w.draws y ≡ draw s.thread p Open ∷ r.before = r.draws_are ∙ ap (λ z. with_draw z r.before) (may.each g y has is c) in
          rw o (record {
            before = r.before;
            draws_are = after_in y c r.before was;
            stands =
                row_grows key.setting w.log (record { thread = s.thread; event = Commits (variables_of tx) } ∷ []) y r.before row r.stands;
          })

  -- what is said of refused attempts goes on to hold
  pub refused_after : ((y : ℕ) → RefusalsHold w.log (w.until y) y (w.draws y)) → (y : ℕ)
      → RefusalsHold (w.log ++ record { thread = s.thread; event = Commits (variables_of tx) } ∷ []) (w.until y) y (after y)
  refused_after all y = by (is_in y ys) refl
    where
      x : Stamp
      x = record { thread = s.thread; event = Commits (variables_of tx) }

      by : (c : Bool) → is_in y ys ≡ c → RefusalsHold (w.log ++ record { thread = s.thread; event = Commits (variables_of tx) } ∷ [])
          (w.until y) y (after y)
      by false c = subst (λ l. RefusalsHold (w.log ++ record { thread = s.thread; event = Commits (variables_of tx) } ∷ []) (w.until y) y
          l) (sym (after_out y c)) (refusals_grow w.log (record { thread = s.thread; event = Commits (variables_of tx) } ∷ []) (w.until y) y
          (w.draws y) (all y))
      by true c =
          let r = open_row y c in
          let old : RefusalsHold w.log (w.until y) y r.0 = (subst (λ l. RefusalsHold w.log (w.until y) y l) r.1 (all y)).1 in
          subst (λ l. RefusalsHold (w.log ++ record { thread = s.thread; event = Commits (variables_of tx) } ∷ []) (w.until y) y l)
          (sym (after_in y c r.0 r.1)) (
            refusals_commit w.log (record { thread = s.thread; event = Commits (variables_of tx) } ∷ []) (w.until y) y r.0 (length w.log) tx
                old,
            refusals_grow w.log (record { thread = s.thread; event = Commits (variables_of tx) } ∷ []) (w.until y) y r.0 old,
          )

  -- the draws below what was drawn on a held row are as before
  pub behind_same : (g : Held) (y : ℕ) (ds : List Draw) → Contains v.held g → g.object ≡ suc y → after y
      ≡ with_draw (drew_commit (variables_of tx) d g) ds → w.draws y ≡ with_draw g.drew ds
  behind_same g y ds has is e = by (is_in y ys) refl
    where
      by : (c : Bool) → is_in y ys ≡ c → w.draws y ≡ with_draw g.drew ds
      by false c =
          let o : is_object g.object ys ≡ false = ap (λ k. is_object k ys) is ∙ c in
          sym (after_out y c) ∙ e ∙ ap (λ z. with_draw z ds) (the_else (is_object g.object ys) (Some d) g.drew o)
      by true c =
          let o : is_object g.object ys ≡ true = ap (λ k. is_object k ys) is ∙ c in
          let r = open_row y c in
          let cons : d ∷ r.0 ≡ d ∷ ds = sym (after_in y c r.0 r.1) ∙ e
          ∙ ap (λ z. with_draw z ds) (the_then (is_object g.object ys) (Some d) g.drew o) in
          let same : r.0 ≡ ds = cons_tail d d r.0 ds cons in
          r.1 ∙ ap (λ l. draw s.thread p Open ∷ l) same ∙ sym (ap (λ z. with_draw z ds) (may.each g y has is c))

  -- a draw of the thread has its repeats as before, or is the commit and has none
  pub repeats_after : (y k : ℕ) (g : Draw) → DrawAt (after y) k g → g.thread ≡ s.thread → DrawAt (w.draws y) k g
      ⊎ ((g.repeats ≡ []) × (repeats_of y k s.marked ≡ []))
  repeats_after y k g at own = by (is_in y ys) refl
    where
      by : (c : Bool) → is_in y ys ≡ c → DrawAt (w.draws y) k g ⊎ ((g.repeats ≡ []) × (repeats_of y k s.marked ≡ []))
      by false c = inl (subst (λ l. DrawAt l k g) (after_out y c) at)
      by true c =
          let r = open_row y c in
          elim (subst (λ l. DrawAt l k g) (after_in y c r.0 r.1) at) [
            | inl new ↦ inr (
              ap (λ (z : Draw). z.repeats) new.1,
              ap (λ n. repeats_of y n s.marked) new.0
                  ∙ open_unrepeated w.draws v.owed v.shelves s y (draw s.thread p Open) r.0 one r.1 refl refl refl mine.owed,
            )
            | inr old ↦ inl (subst (λ l. DrawAt l k g) (sym r.1) (inr old))
          ]

  -- the last write of an owed variable is as before
  pub calm_after : (now : State) → Allows key.setting w.log now → ((y : ℕ) → DrawsHold w.log y (w.draws y))
      → (shelves : List Shelf) (y : ℕ) → OwedOne w.draws shelves y
      → ((r : Shelf) → Contains shelves r → (s.thread ≢ r.thread) × AreEvents w.log r.thread r.marked) → last_write y (after y)
      ≡ last_write y (w.draws y)
  calm_after now allowed verdicts shelves y o other = by (is_in y ys) refl
    where
      x : Stamp
      x = record { thread = s.thread; event = Commits (variables_of tx) }

      by : (c : Bool) → is_in y ys ≡ c → last_write y (after y) ≡ last_write y (w.draws y)
      by false c = ap (last_write y) (after_out y c)
      by true c =
          let r = open_row y c in
          let right : DrawsHold (w.log ++ record { thread = s.thread; event = Commits (variables_of tx) } ∷ []) y (d ∷ r.0) =
          subst (λ l. DrawsHold (w.log ++ record { thread = s.thread; event = Commits (variables_of tx) } ∷ []) y l)
          (after_in y c r.0 r.1) (commit_right now allowed verdicts y) in
          let last : last_write y r.0 ≡ Some o.draw = sym (write_past y (draw s.thread p Open) r.0 refl) ∙ ap (last_write y) (sym r.1)
          ∙ o.last in
          let calm = calm_write (w.log ++ record { thread = s.thread; event = Commits (variables_of tx) } ∷ []) w.draws shelves y d r.0 o
          last (λ q has. let a = other q has in (
            a.0,
            events_other w.log q.thread q.marked a.1
                (record { thread = s.thread; event = Commits (variables_of tx) }) a.0,
          )) right in
          ap (last_write y) (after_in y c r.0 r.1) ∙ write_past y d r.0 calm
          ∙ sym (ap (last_write y) r.1 ∙ write_past y (draw s.thread p Open) r.0 refl)

  -- and nothing was performed behind it
  pub calmly_after : (now : State) → Allows key.setting w.log now → ((y : ℕ) → DrawsHold w.log y (w.draws y))
      → (shelves : List Shelf) (y : ℕ) → OwedOne w.draws shelves y
      → ((r : Shelf) → Contains shelves r → (s.thread ≢ r.thread) × AreEvents w.log r.thread r.marked) → IsCalm y (w.draws y)
      → IsCalm y (after y)
  calmly_after now allowed verdicts shelves y o other calm = by (is_in y ys) refl
    where
      by : (c : Bool) → is_in y ys ≡ c → IsCalm y (after y)
      by false c = subst (IsCalm y) (sym (after_out y c)) calm
      by true c =
          let r = open_row y c in
          let right : DrawsHold (w.log ++ record { thread = s.thread; event = Commits (variables_of tx) } ∷ []) y (d ∷ r.0) =
          subst (λ l. DrawsHold (w.log ++ record { thread = s.thread; event = Commits (variables_of tx) } ∷ []) y l)
          (after_in y c r.0 r.1) (commit_right now allowed verdicts y) in
          let last : last_write y r.0 ≡ Some o.draw = sym (write_past y (draw s.thread p Open) r.0 refl) ∙ ap (last_write y) (sym r.1)
          ∙ o.last in
          absurd (calm_any (w.log ++ record { thread = s.thread; event = Commits (variables_of tx) } ∷ []) w.draws shelves y d r.0 o last
          (λ q has. let a = other q has in (
            a.0,
            events_other w.log q.thread q.marked a.1
                (record { thread = s.thread; event = Commits (variables_of tx) }) a.0,
          )) right (Commit (length w.log) tx) refl tt)

-- publishing a commit keeps the rule
pub publishes_commit : (key : Key) (slots id : ℕ) (v : View) (c : List (ℕ × Slot)) (s : Shelf) (h : Held) (l l' : ListView) (tx : Tx)
    (p m : ℕ) (question : ℕ → Question) → v.shelves ≡ s ∷ [] → MayCommit key.setting s v tx p m question
    → MayPublish key s v h l l' (λ n. Commit n tx) (record { thread = s.thread; event = Commits (variables_of tx) }) (pos 0)
    → table.Allows (Rule key) slots id (v, c) 0 (λ n. (n + 1) % 2 ^ 64)
    (Published s (λ n. Commit n tx) (record { thread = s.thread; event = Commits (variables_of tx) }) (slot.List l')
    (λ n g. drew_commit (variables_of tx) (draw s.thread n (Entered (Commit n tx))) g) v c)
publishes_commit key slots id v c s h l l' tx p m question one may all =
    publishes key slots id v c s h l l' (λ n. Commit n tx) (record { thread = s.thread; event = Commits (variables_of tx) }) (pos 0)
    (λ n g. drew_commit (variables_of tx) (draw s.thread n (Entered (Commit n tx))) g) one all (λ w st new H here exact step.
    let b = board (capacity key) st.words in
    let mine = H.views.at id v here in
    record {
      draws = resolved w.draws (variables_of tx) (draw s.thread (length w.log) (Entered (Commit (length w.log) tx)));
      change = record {
        numbers = numbers_after key w b id v s tx p m question one may mine b.count H.whole.numbers;
        verdicts = commit_right key w b id v s tx p m question one may mine w.now H.whole.machine.allowed H.whole.verdicts;
        refused = refused_after key w b id v s tx p m question one may mine H.whole.refused;
        behind = λ g y ds has is e. behind_same key w b id v s tx p m question one may mine g y ds has is e;
        repeats = λ y k g at own. repeats_after key w b id v s tx p m question one may mine y k g at own;
        calm = λ shelves y o other. calm_after key w b id v s tx p m question one may mine w.now H.whole.machine.allowed H.whole.verdicts
            shelves y o other;
        calmly = λ shelves y o other calm. calmly_after key w b id v s tx p m question one may mine w.now H.whole.machine.allowed
            H.whole.verdicts shelves y o other calm;
        foreign = λ u y k g ne own at. foreign_back w.draws s.thread p (length w.log) (variables_of tx)
            (Entered (Commit (length w.log) tx)) (λ z c. let q = open_row key w b id v s tx p m question one may mine z c in (q.0, q.1)) u y
            k g ne own at;
        elsewhere = elsewhere key w b id v s tx p m question one may mine;
        others = numbers_foreign key w b id v s tx p m question one may mine;
        own = numbers_own key w b id v s tx p m question one may mine;
        held = λ g y row has is r. let a = held_after key w b id v s tx p m question one may mine new g y row has is r
            in record { before = a.before; draws_are = a.draws_are; stands = a.stands };
      };
    })
