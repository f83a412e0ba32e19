-- The row that comes back after a commit: over each fitting list it is that of the draws of the row as it was taken, and of the commit's.
use Rattle.std.proofs.Common.{◌≡◌, ℕ, zero, suc, ◌+◌, ◌<◌, ◌≤◌, ◌==◌, List, [], ◌∷◌, ◌++◌, length, map, take, set, replicate, true, false, Bool, refl, sym, ap, ◌∙◌, subst, arith, Some, None, inl, inr, eq-eqb, ne_eqb, length-set}
use Rattle.std.specs.Prelude.{Contains, Option, ◌↔◌, ◌⊎◌, ℤ, is_some, slice_set, if◌then◌else◌}
use Rattle.std.proofs.lemmas.Bool.{cases_lt}
use Rattle.std.proofs.lemmas.List.{take_all, get_or-set_same, get_or-set_other, get_or_past}
use native.Mathlib.Decide.{ℕ_discrete}
use Rattle.gl_model.specs.declared.event.Stamp.{Stamp}
use Rattle.gl_model.specs.declared.limits.TheConstants.{THREADS, VARIABLES}
use Rattle.gl_model.specs.declared.row.Info.{Info}
use Rattle.gl_model.specs.declared.row.Question.{Question}
use Rattle.gl_model.specs.declared.row.Row.{Row}
use Rattle.gl_model.specs.declared.tx.Pair.{Pair}
use Rattle.gl_model.specs.declared.tx.Tx.{Tx}
use Rattle.gl_model.specs.Entries.{Commit}
use Rattle.gl_model.specs.Infos.{InfoFor, AreLeastOwned}
use Rattle.gl_model.specs.Lockset.{Has}
use Rattle.gl_model.specs.Locksets.{InitialLockset}
use Rattle.gl_model.specs.Machine.{Setting, Allows}
use Rattle.gl_model.specs.Records.{variables_of}
use Rattle.gl_model.specs.Trace.{is_in}
use Rattle.gl_draws.specs.Draws.{Draw, draw, Entered, access_of, last_read, value_in}
use Rattle.gl_draws.specs.RowFacts.{InfoOf, RowStands, read_of}
use Rattle.gl_judge.specs.Noted.{IsNewInfo}
use Rattle.gl_rule.specs.Fitting.{IsFitting}
use Rattle.gl_rule.specs.Values.{InRow}
use Rattle.gl_rule.proofs.Agreeing.{commit_stands}
use Rattle.gl_table.specs.PassView.{PassView, shelf_of, view_of, after}
use Rattle.gl_txn.specs.Holding.{vars_of, found, row_held, AreHeld, write_in}
use Rattle.gl_txn.specs.Noting.{IsNotedRow, AreCommitted, drew_commit_at}
use Rattle.gl_txn.proofs.Finding.{found_held}
use Rattle.gl_txn.proofs.Holdings.{held_last, held_fewer, held_none, front_are, vars_pushed}
use Rattle.gl_txn.proofs.TakeSteps.{put_is, put_held}
use Rattle.gl_rule.specs.declared.slot.Slot.TheVariants as slot
use Rattle.gl_rule.specs.View.{Held, left}
use Rattle.gl_table.specs.Putting.{MayPutBack}
use Rattle.gl_model.specs.Kept.{AreVariables}
use Rattle.std.proofs.lemmas.List.Elements.{Contains-append_left, Contains-append_right}
use Rattle.gl_txn.specs.declared.taken.TakenRow.{TakenRow}

-- where no thread has a read, each has none
none_at : (n k : ℕ) → read_of (replicate n None) k ≡ None
none_at zero k = refl
none_at (suc n) zero = refl
none_at (suc n) (suc k) = none_at n k

-- a variable with a write is among those that were written, and its value is that of the write
written_by : (x : ℕ) (ws : List Pair) (v : ℤ) → write_in ws x ≡ Some v → (is_in x (map (λ w. w.var) ws) ≡ true) × (value_in x ws ≡ v)
written_by x [] v e = absurd (cc)
written_by x (w ∷ ws) v e = elim (ℕ_discrete x w.var) [
  | yes same ↦ (let a : (w.var == x) ≡ true = eq-eqb w.var x (sym same) in let b : (x == w.var) ≡ true = eq-eqb x w.var same
      in let z : Some w.value ≡ Some v = rw a at e in (rw b refl, rw b (let is : w.value ≡ v = cc in is)))
  | no other ↦ (let a : (w.var == x) ≡ false = ne_eqb w.var x (λ z. other (sym z)) in let b : (x == w.var) ≡ false = ne_eqb x w.var other
      in let r = written_by x ws v (rw a at e) in (rw b r.0, rw b r.1))
]

-- a variable without a write is not among those that were written
unwritten_by : (x : ℕ) (ws : List Pair) → write_in ws x ≡ None → is_in x (map (λ w. w.var) ws) ≡ false
unwritten_by x [] e = refl
unwritten_by x (w ∷ ws) e = elim (ℕ_discrete x w.var) [
  | yes same ↦ absurd (let a : (w.var == x) ≡ true = eq-eqb w.var x (sym same) in let z : Some w.value ≡ None = rw a at e in cc)
  | no other ↦ (let a : (w.var == x) ≡ false = ne_eqb w.var x (λ z. other (sym z)) in let b : (x == w.var) ≡ false = ne_eqb x w.var other
      in rw b (unwritten_by x ws (rw a at e)))
]

module _ (setting : Setting) (l : List Stamp) (x t n : ℕ) (near : t < THREADS) (tx : Tx) (ds : List Draw) (old : Row)
    (s : RowStands setting l x ds old) (i : Info) where
  abbrev d : Draw
  d = draw t n (Entered (Commit n tx))

  -- a row whose last write is the commit, with no reads and its word, stands with the commit as the last draw
  pub wrote_stands : (v : ℤ) → write_in tx.writes x ≡ Some v → (new : Row) → new.value ≡ v → new.last_write ≡ Some i → new.reads
      ≡ replicate THREADS None → InfoFor setting l i (access_of (draw t n (Entered (Commit n tx)))) true
      → RowStands setting l x (draw t n (Entered (Commit n tx)) ∷ ds) new
  wrote_stands v w new value last reads f =
      let b = written_by x tx.writes v w in
      let iw : is_in x (map (λ w. w.var) tx.writes) ≡ true = b.0 in
      record {
        word = rw iw (value ∙ sym b.1);
        last_write = rw (iw, last) f;
        threads = ap length reads;
        reads = λ u. (let r : read_of new.reads u ≡ None = ap (λ xs. read_of xs u) reads ∙ none_at THREADS u in rw (iw, r) tt);
      }

  -- the row has a place for the thread's read
  there : t < length old.reads
  there = let k = s.threads in omega arith

  -- with i in that place, each thread's read in the row stands for its last read, and that of thread t for the commit
  by_read : (new : Row) (u : ℕ) → new.reads ≡ slice_set old.reads t (Some i)
      → InfoFor setting l i (access_of (draw t n (Entered (Commit n tx)))) false
      → InfoOf setting l false (read_of new.reads u) (if t == u then Some (draw t n (Entered (Commit n tx))) else last_read x u ds)
  by_read new u e g = elim (ℕ_discrete t u) [
    | yes same ↦
        (let b : (t == u) ≡ true = eq-eqb t u same in
        let r : read_of new.reads u ≡ Some i = ap (λ xs. read_of xs u) e ∙ ap (read_of (set old.reads t (Some i))) (sym same)
        ∙ get_or-set_same old.reads t (Some i) None there in
        rw (b, r) g)
    | no other ↦
        (let b : (t == u) ≡ false = ne_eqb t u other in
        let r : read_of new.reads u ≡ read_of old.reads u = ap (λ xs. read_of xs u) e
        ∙ get_or-set_other old.reads t u (Some i) None (λ z. other (sym z)) in
        rw (b, r) (s.reads u))
  ]

  -- so does one in which the commit is its thread's read, where it writes nothing there
  pub read_stands : write_in tx.writes x ≡ None → (new : Row) → new.value ≡ old.value → new.last_write ≡ old.last_write → new.reads
      ≡ slice_set old.reads t (Some i) → InfoFor setting l i (access_of (draw t n (Entered (Commit n tx)))) false
      → RowStands setting l x (draw t n (Entered (Commit n tx)) ∷ ds) new
  read_stands w new value last reads f =
      let iw : is_in x (map (λ w. w.var) tx.writes) ≡ false = unwritten_by x tx.writes w in
      record {
        word = rw iw (value ∙ s.word);
        last_write = rw (iw, last) s.last_write;
        threads = ap length reads ∙ length-set old.reads t (Some i) ∙ s.threads;
        reads = λ u. rw (iw) (by_read new u reads f);
      }

-- the Info of an own commit, directly behind it, stands for it over each fitting list
module _ (p : PassView) (rows : List TakenRow) (base : Question) (at : ℕ) (c : AreCommitted p rows base at) (write : Bool) (i : Info)
    (is : IsNewInfo (record base { write = write }) at i) where
  -- over each list that fits the pass, such an Info stands for the commit's access
  pub info_stands : (setting : Setting) (l : List Stamp) → IsFitting setting (shelf_of p) p.seen p.known l
      → InfoFor setting l i (access_of (draw p.own.id c.position (Entered (Commit c.position c.tx)))) write
  info_stands setting l fits = commit_stands setting (shelf_of p) p.seen p.known c.position c.tx write i (record {
    index = c.index;
    there = c.there;
    thread = is.thread ∙ c.thread;
    writes = is.write;
    commit = is.commit ∙ ap is_some c.commit;
    at = is.pos ∙ c.behind;
    starts = λ y. subst (λ (t : ℕ). Has i.set y ↔ InitialLockset t (Some (variables_of c.tx)) y) c.thread
        (subst (λ (o : Option (List ℕ)). Has i.set y ↔ InitialLockset base.thread o y) c.commit (is.set y));
    held = λ k owner f allowed. (let whole : take (c.position + 1) k
        ≡ k = take_all (c.position + 1) k (let a = f.long in let b = c.seen in let e = c.behind in omega arith) in
        subst (AreLeastOwned owner p.own.id) (sym is.held)
        (c.owned setting k owner f.own (subst (λ z. Allows setting z owner) whole allowed)));
  }) l fits

-- infos that are equal as options are equal
some_info : (i j : Info) → Some i ≡ Some j → i ≡ j
some_info i j e = cc

module _ (setting : Setting) (p : PassView) (rows : List TakenRow) (base : Question) (at : ℕ) (r : TakenRow)
    (c : AreCommitted p (rows ++ r ∷ []) base at) (new : Row) where
  -- the last row is held, with the commit drawn on it
  last : found (suc r.var) p.own.held ≡ Some (row_held c.tails (drew_commit_at p c.tx c.position) r)
  last = held_last p.own.held None rows r c.tails (drew_commit_at p c.tx c.position) c.held

  -- the word that is to be written to it is the one that the transaction writes there
  word : r.write ≡ write_in c.tx.writes r.var
  word = c.writes r (Contains-append_right rows (r ∷ []) r (0, omega arith, refl))

  -- the thread is one that there is
  t_near : p.own.id < THREADS
  t_near = subst (λ k. k < THREADS) c.thread c.near

  -- over each fitting list over which the row stood as it was taken, the noted row stands with the commit as the last draw
  follows_by : (w : Option ℤ) → r.write ≡ w → IsNotedRow base at w r.row new → (l : List Stamp)
      → IsFitting setting (shelf_of p) p.seen p.known l → (ds : List Draw) → RowStands setting l r.var ds r.row
      → RowStands setting l r.var (draw p.own.id c.position (Entered (Commit c.position c.tx)) ∷ ds) new
  follows_by None w noted l fits ds s =
      let k = noted.read refl in
      read_stands setting l r.var p.own.id c.position t_near c.tx ds r.row s noted.info (sym word ∙ w) new noted.value k.0 (k.1
      ∙ ap (λ (u : ℕ). slice_set r.row.reads u (Some noted.info)) c.thread)
      (info_stands p (rows ++ r ∷ []) base at c false noted.info noted.is setting l fits)
  follows_by (Some v) w noted l fits ds s =
      let mid = noted.1 in
      let k = mid.write refl in
      wrote_stands setting l r.var p.own.id c.position t_near c.tx ds r.row s mid.info v (sym word ∙ w) new
      (ap (λ (z : Row). z.value) noted.2) (ap (λ (z : Row). z.last_write) noted.2 ∙ k.0) (ap (λ (z : Row). z.reads) noted.2 ∙ k.1)
      (info_stands p (rows ++ r ∷ []) base at c true mid.info mid.is setting l fits)

  abbrev Above : Info → Type 0
  Above i = ((n : ℕ) × Contains c.tails n × (n ≤ i.pos)) ⊎ ((o : Info) × InRow r.row o × (o.pos ≤ i.pos))

  -- an Info that stands directly behind the commit stands at a tail that was seen since the row was taken
  above_new : (i info : Info) → info ≡ i → info.pos ≡ at → Above i
  above_new i info e pos = inl (at, c.fresh, (let q = ap (λ (z : Info). z.pos) e in omega arith))

  -- each Info of the noted row stands at or behind such a tail, or no lower than one of the row as it was taken
  above_by : (w : Option ℤ) → IsNotedRow base at w r.row new → (i : Info) → InRow new i → Above i
  above_by None noted i (inl e) = let k = noted.read refl in inr (i, inl (sym k.0 ∙ e), omega arith)
  above_by None noted i (inr (u, e)) =
      let k = noted.read refl in
      let is : read_of (set r.row.reads base.thread (Some noted.info)) u ≡ Some i = sym (ap (λ xs. read_of xs u) k.1) ∙ e in
      elim (ℕ_discrete u base.thread) [
        | yes same ↦ elim (cases_lt u (length r.row.reads)) [
          | inl near ↦ above_new i noted.info (some_info noted.info i
              (sym (get_or-set_same r.row.reads base.thread (Some noted.info) None (let z = same in omega arith))
              ∙ ap (read_of (set r.row.reads base.thread (Some noted.info))) (sym same) ∙ is)) noted.is.pos
          | inr past ↦ absurd (let none : read_of (set r.row.reads base.thread (Some noted.info)) u
              ≡ None = get_or_past (set r.row.reads base.thread (Some noted.info)) u None
              (let z = length-set r.row.reads base.thread (Some noted.info) in omega arith) in let z : None ≡ Some i = sym none ∙ is in cc)
        ]
        | no other ↦ inr (i, inr (u, sym (get_or-set_other r.row.reads base.thread u (Some noted.info) None other) ∙ is), omega arith)
      ]
  above_by (Some v) noted i (inl e) = let mid = noted.1 in let k = mid.write refl
      in above_new i mid.info (some_info mid.info i (sym k.0 ∙ sym (ap (λ (z : Row). z.last_write) noted.2) ∙ e)) mid.is.pos
  above_by (Some v) noted i (inr (u, e)) =
      let mid = noted.1 in let k = mid.write refl in
      absurd (let z : None ≡ Some i = sym (none_at THREADS u) ∙ ap (λ xs. read_of xs u) (sym k.1)
      ∙ sym (ap (λ (z : Row). read_of z.reads u) noted.2) ∙ e in cc)

  -- so the noted row may be put back
  pub may_put_noted : IsNotedRow base at r.write r.row new → MayPutBack setting (shelf_of p) (view_of p) (suc r.var) (slot.Row new) false
  may_put_noted noted = record {
    held = row_held c.tails (drew_commit_at p c.tx c.position) r;
    has = (found_held (suc r.var) p.own.held (row_held c.tails (drew_commit_at p c.tx c.position) r) last).0;
    object = refl;
    may = record {
      right = inl (record { fresh = (at, c.fresh); follows = follows_by r.write refl noted });
      above = above_by r.write noted;
    };
    quiet = λ e. absurd (cc);
  }

  -- its variable is one that there is
  pub noted_near : r.var < VARIABLES
  noted_near = (front_are (vars_of rows) r.var (subst AreVariables (vars_pushed rows r) c.held.are)).1

  -- once it is put back, the pass holds the other rows of its commit
  pub noted_fewer : (q : PassView) → q ≡ after p (left (view_of p) (suc r.var) false) → AreCommitted q rows base at
  noted_fewer q is = subst (λ (z : PassView). AreCommitted z rows base at) (sym (put_is p q r.var is)) (record {
    tx = c.tx;
    position = c.position;
    behind = c.behind;
    seen = c.seen;
    index = c.index;
    there = c.there;
    tails = c.tails;
    fresh = c.fresh;
    held = subst (λ (h : List Held). AreHeld h None rows c.tails (drew_commit_at p c.tx c.position)) (sym (put_held p q r.var is))
        (held_fewer p.own.held None rows r c.tails (drew_commit_at p c.tx c.position) c.held);
    writes = λ u d. c.writes u (Contains-append_left rows (r ∷ []) u d);
    thread = c.thread;
    near = c.near;
    commit = c.commit;
    owned = c.owned;
  })

-- a pass whose committed rows have all gone back is as before, with nothing held and other moves
pub noted_all : (p q : PassView) (base : Question) (at : ℕ) → q ≡ record p { own = record p.own { held = q.own.held }; moves = q.moves }
    → AreCommitted q [] base at → q ≡ record p { own = record p.own { held = [] }; moves = q.moves }
noted_all p q base at is c = is ∙ ap (λ (h : List Held). record p { own = record p.own { held = h }; moves = q.moves })
    (held_none q.own.held c.tails (drew_commit_at q c.tx c.position) c.held)
