-- The rows of a trace at its next line.
use Rattle.std.proofs.Common.{◌≡◌, ℕ, ◌<◌, ◌==◌, List, [], ◌∷◌, ◌++◌, length, set, replicate, refl, ap, subst, sym, ◌∙◌, arith, Some, None, true, false, Bool, not, append_assoc, eq-eqb, ne_eqb, length-set}
use Rattle.std.specs.Prelude.{◌&&◌, if◌then◌else◌, pos, Contains, slice_set, ◌↔◌}
use Rattle.std.proofs.lemmas.List.{get_or-set_same, get_or-set_other}
use native.Mathlib.Decide.{ℕ_discrete}
use Rattle.gl_model.specs.declared.event.Act.{Act}
use Rattle.gl_model.specs.declared.event.Act.TheVariants.{Begin, End, Acq, Rel, VRead, VWrite, Fork, Join, Alloc, Print, Input, Fail}
use Rattle.gl_model.specs.declared.event.Event.TheVariants.{Act as Does, Commit as Commits}
use Rattle.gl_model.specs.declared.event.Stamp.{Stamp}
use Rattle.gl_model.specs.declared.limits.TheConstants.{THREADS}
use Rattle.gl_model.specs.declared.row.Info.{Info}
use Rattle.gl_model.specs.declared.row.Item.{Item}
use Rattle.gl_model.specs.declared.row.Item.TheVariants.{Act as Acts, Access as AccessTo, Commit as CommitsOn}
use Rattle.gl_model.specs.declared.row.Judged.{Judged}
use Rattle.gl_model.specs.declared.row.Judged.TheVariants.{NoAccess, Performed, Raised}
use Rattle.gl_model.specs.declared.row.Row.{Row}
use Rattle.gl_model.specs.Entries.{Entry, Commit}
use Rattle.gl_model.specs.Infos.{InfoFor}
use Rattle.gl_model.specs.Machine.{State, trace_setting, with_at}
use Rattle.gl_model.specs.Rising.{with_all}
use Rattle.gl_model.specs.Trace.{Line, is_in, line_tx}
use Rattle.gl_draws.specs.Draws.{Entered, Looked, Draw, draw, access_of, is_write, is_read, last_read, word_of, wrote}
use Rattle.gl_draws.specs.RowFacts.{InfoOf, read_of, RowStands}
use Rattle.gl_lines.specs.Traced.{Traced, block_of, plain_entry, commit_entry, refused_entry, with_look, with_own, touches, with_attempt, with_event, with_last, with_stamp, after_act, after_plain, after_item, traced}
use Rattle.gl_lines.specs.TraceLaws.{Accesses, WritesTo, commit_of}
use Rattle.gl_lines.specs.TraceRows.{IsRaised, block_at, access_at, RowsStay, IsNotedBy, RowsFollow}
use Rattle.gl_draws.proofs.EntryKinds.{is_in-contains, contains-is_in}
use Rattle.gl_lines.proofs.LineSets.{its_variables, its_writes, is_in-touches}
use Rattle.gl_draws.proofs.RowGrowth.{row_grows, row_stays, none_at}
use Rattle.gl_lines.proofs.TraceAttempts.{zero_in}
use Rattle.gl_lines.proofs.TraceEvents.{IsRecorded}
use Rattle.gl_lines.proofs.TraceLawProofs.{sound_front, last_in_range}
use Rattle.gl_lines.proofs.TraceMachine.{with_at-here, with_at-else}
use Rattle.gl_lines.proofs.TraceSound.{traced_push, sound_traced}

-- a line that is no access adds events at the end of the list and leaves the draws as they are
pub act_more : (t : ℕ) (act : Act) (s : Traced) → (more : List Stamp) × ((after_act t act s).history ≡ s.history ++ more)
    × ((after_act t act s).draws ≡ s.draws)
act_more t (Begin f) s = (record { thread = t; event = Does (Begin f) } ∷ [], refl, refl)
act_more t End s = (record { thread = t; event = Does End } ∷ [], refl, refl)
act_more t (Acq o) s = (record { thread = t; event = Does (Acq o) } ∷ [], refl, refl)
act_more t (Rel o) s = (record { thread = t; event = Does (Rel o) } ∷ [], refl, refl)
act_more t (VRead v) s = (record { thread = t; event = Does (VRead v) } ∷ [], refl, refl)
act_more t (VWrite v) s = (record { thread = t; event = Does (VWrite v) } ∷ [], refl, refl)
act_more t (Fork u f) s = (
  record { thread = t; event = Does (Fork u f) } ∷ record { thread = u; event = Does (Begin f) }
      ∷ [],
  append_assoc s.history (record { thread = t; event = Does (Fork u f) } ∷ []) (record { thread = u; event = Does (Begin f) } ∷ []),
  refl,
)
act_more t (Join u) s = here (s.tracing.ended u)
  where
    here : (b : Bool) → (more : List Stamp) × ((if b then with_event t (Join u) s else with_event t (Join u) (with_last u s)).history
        ≡ s.history ++ more) × ((if b then with_event t (Join u) s else with_event t (Join u) (with_last u s)).draws ≡ s.draws)
    here true = (record { thread = t; event = Does (Join u) } ∷ [], refl, refl)
    here false = (
      record { thread = u; event = Does End } ∷ record { thread = t; event = Does (Join u) }
          ∷ [],
      append_assoc s.history (record { thread = u; event = Does End } ∷ []) (record { thread = t; event = Does (Join u) } ∷ []),
      refl,
    )
act_more t (Alloc c) s = (record { thread = t; event = Does (Alloc c) } ∷ [], refl, refl)
act_more t Print s = (record { thread = t; event = Does Print } ∷ [], refl, refl)
act_more t Input s = (record { thread = t; event = Does Input } ∷ [], refl, refl)
act_more t (Fail c) s = (record { thread = t; event = Does (Fail c) } ∷ [], refl, refl)

-- an attempt that does not touch y, or neither writes nor reads it
attempt_stays : (h : List Stamp) (y t q p : ℕ) (e : Entry) (b c : Bool) (ds : List Draw) (row : Row)
    → (b ≡ true → (is_write y (Entered e) ≡ false) × (is_read y (Entered e) ≡ false)) → RowStands trace_setting h y ds row
    → RowStands trace_setting h y (with_own b t p e (with_look c t q ds)) row
attempt_stays h y t q p e b c ds row none s = own b refl
  where
    look : (c : Bool) → RowStands trace_setting h y (with_look c t q ds) row
    look true = row_stays trace_setting h y ds row s (draw t q (Looked (pos 0))) refl refl
    look false = s

    own : (b' : Bool) → b ≡ b' → RowStands trace_setting h y (with_own b' t p e (with_look c t q ds)) row
    own true is = let n = none is in row_stays trace_setting h y (with_look c t q ds) row (look c) (draw t p (Entered e)) n.0 n.1
    own false is = look c

-- what is no variable of the commit is not touched by it
not_touched : (reads writes : List ℕ) (y : ℕ) → (Contains (with_all writes reads) y → ⊥) → touches reads writes y ≡ true → ⊥
not_touched reads writes y none is = none (is_in-contains y (with_all writes reads) (is_in-touches reads writes y ∙ is))

-- what was raised is no performed write
raised_writes : (w : Bool) → (w && not true) ≡ false
raised_writes true = refl
raised_writes false = refl

module _ (s : Traced) (t : ℕ) (y : ℕ) (row : Row) (stands : RowStands trace_setting s.history y (s.draws y) row) where
  -- a row stands on at a line that is no access
  act_stays : (act : Act) → RowStands trace_setting (after_act t act s).history y ((after_act t act s).draws y) row
  act_stays act =
      let m = act_more t act s in
      subst (λ h. RowStands trace_setting h y ((after_act t act s).draws y) row) (sym m.1)
      (subst (λ (d : ℕ → List Draw). RowStands trace_setting (s.history ++ m.0) y (d y) row) (sym m.2)
      (row_grows trace_setting s.history m.0 y (s.draws y) row stands))

  -- a row of y stands on at a plain access of another variable, and at one of y that was raised
  plain_stays : (x : ℕ) (write raised : Bool) → (x ≡ y → raised ≡ true)
      → RowStands trace_setting s.history y ((after_plain t x write raised s).draws y) row
  plain_stays x write raised when = elim (ℕ_discrete y x) [
    | yes same ↦
        (let r = when (sym same) in
        let d : Draw = draw t (block_of t s) (Entered (plain_entry x write raised s)) in
        subst (λ ds. RowStands trace_setting s.history y ds row)
        (sym (ap (with_at s.draws x (d ∷ s.draws x)) same ∙ with_at-here s.draws x (d ∷ s.draws x)))
        (subst (λ z. RowStands trace_setting s.history y (d ∷ s.draws z) row) same
        (row_stays trace_setting s.history y (s.draws y) row stands d (ap (λ b. write && not b) r ∙ raised_writes write)
        (ap (λ b. not write && not b) r ∙ raised_writes (not write)))))
    | no other ↦ subst (λ ds. RowStands trace_setting s.history y ds row)
        (sym (with_at-else s.draws x y (draw t (block_of t s) (Entered (plain_entry x write raised s)) ∷ s.draws x) other)) stands
  ]

  -- a row of y stands on at a performed commit that does not have y among its variables
  commit_stays : (reads writes : List ℕ) → (Contains (with_all writes reads) y → ⊥)
      → RowStands trace_setting (with_stamp s.history t (Commits (with_all writes reads))) y
      (with_attempt t (block_of t s) s.tracing.next (commit_entry reads writes s) reads writes s.draws y) row
  commit_stays reads writes none =
      let h = with_stamp s.history t (Commits (with_all writes reads)) in
      attempt_stays h y t (block_of t s) s.tracing.next (commit_entry reads writes s) (touches reads writes y) (is_in y reads) (s.draws y)
      row (λ i. absurd (not_touched reads writes y none i))
      (row_grows trace_setting s.history (record { thread = t; event = Commits (with_all writes reads) } ∷ []) y (s.draws y) row stands)

  -- behind a line that does not access y, or was raised, the row of y stands as before
  pub item_stays : (item : Item) (judged : Judged) → (Accesses item y → IsRaised judged)
      → RowStands trace_setting (after_item t item judged s).history y ((after_item t item judged s).draws y) row
  item_stays (Acts act) judged when = act_stays act
  item_stays (AccessTo x write) NoAccess when = plain_stays x write false (λ e. absurd (when e))
  item_stays (AccessTo x write) Performed when = plain_stays x write false (λ e. absurd (when e))
  item_stays (AccessTo x write) (Raised var) when = plain_stays x write true (λ e. refl)
  item_stays (CommitsOn reads writes) NoAccess when = commit_stays reads writes (λ c. when c)
  item_stays (CommitsOn reads writes) Performed when = commit_stays reads writes (λ c. when c)
  item_stays (CommitsOn reads writes) (Raised var) when =
      attempt_stays s.history y t (block_of t s) (block_of t s) (refused_entry reads writes var s) (touches reads writes y) (is_in y reads)
      (s.draws y) row (λ i. (refl, refl)) stands

-- a row stands on at a line that does not access its variable, or was raised
pub stay_law : RowsStay
stay_law lines l sound y row stands when =
    subst (λ (z : Traced). RowStands trace_setting z.history y (z.draws y) row) (sym (traced_push lines l))
    (item_stays (traced lines) l.thread y row stands l.item l.judged when)

-- a row with a performed access noted
module _ (h : List Stamp) (x : ℕ) (ds : List Draw) (old new : Row) (s : RowStands trace_setting h x ds old) (words : word_of x ds ≡ pos 0)
    (d : Draw) (near : d.thread < THREADS) (i : Info) (value : new.value ≡ old.value) where
  -- where the draw d is a performed write of 0, the row stands with d once the Info of d is its last write and it has no reads
  note_write : is_write x d.what ≡ true → wrote x d ≡ pos 0 → InfoFor trace_setting h i (access_of d) true → new.last_write ≡ Some i
      → new.reads ≡ replicate THREADS None → RowStands trace_setting h x (d ∷ ds) new
  note_write w zero' f last reads = record {
    word = rw w (value ∙ s.word ∙ words ∙ sym zero');
    last_write = rw (w, last) f;
    threads = ap length reads;
    reads = λ u. let n : read_of new.reads u ≡ None = ap (λ rs. read_of rs u) reads ∙ none_at trace_setting h x ds old s THREADS u
        in rw (w, n) tt;
  }

  -- where the draw d is a performed read and no write, the row stands with d once the Info of d is put in its thread's place among the
  -- reads
  note_read : is_write x d.what ≡ false → is_read x d.what ≡ true → InfoFor trace_setting h i (access_of d) false → new.last_write
      ≡ old.last_write → new.reads ≡ slice_set old.reads d.thread (Some i) → RowStands trace_setting h x (d ∷ ds) new
  note_read w r f last reads = record {
    word = rw w (value ∙ s.word);
    last_write = rw (w, last) s.last_write;
    threads = ap length reads ∙ length-set old.reads d.thread (Some i) ∙ s.threads;
    reads = λ u. rw (w, r) (here u (ℕ_discrete d.thread u));
  }
    where
      there : d.thread < length old.reads
      there = let n = s.threads in omega arith

      here : (u : ℕ) → Dec (d.thread ≡ u) → InfoOf trace_setting h false (read_of new.reads u) (if d.thread == u then Some d
          else last_read x u ds)
      here u (yes e) =
          let b : (d.thread == u) ≡ true = eq-eqb d.thread u e in
          let g : read_of new.reads u ≡ Some i = ap (λ rs. read_of rs u) reads ∙ ap (read_of (set old.reads d.thread (Some i))) (sym e)
          ∙ get_or-set_same old.reads d.thread (Some i) None there in
          rw (b, g) f
      here u (no ne) =
          let b : (d.thread == u) ≡ false = ne_eqb d.thread u ne in
          let g : read_of new.reads u ≡ read_of old.reads u = ap (λ rs. read_of rs u) reads
          ∙ get_or-set_other old.reads d.thread u (Some i) None (λ e. ne (sym e)) in
          rw (b, g) (s.reads u)

module _ (s : Traced) (now : State) (r : IsRecorded s now) (t : ℕ) (near : t < THREADS) (y : ℕ) (old new : Row) (i : Info)
    (stands : RowStands trace_setting s.history y (s.draws y) old) where
  -- a plain access of y
  plain_follows : (write : Bool) → InfoFor trace_setting s.history i (record { thread = t; block = block_of t s; variables = None }) write
      → (w : Bool) → write ≡ w → IsNotedBy t (AccessTo y write) y i old new
      → RowStands trace_setting s.history y (draw t (block_of t s) (Entered (plain_entry y write false s)) ∷ s.draws y) new
  plain_follows write f true is n =
      let k = n.write is in
      note_write s.history y (s.draws y) old new stands (r.words y) (draw t (block_of t s) (Entered (plain_entry y write false s))) near i
      n.value (ap (λ b. b && true) is) refl (subst
      (InfoFor trace_setting s.history i (record { thread = t; block = block_of t s; variables = None })) is f) k.0 k.1
  plain_follows write f false is n =
      let k = n.read (λ e. let z : true ≡ false = sym e ∙ is in cc) in
      note_read s.history y (s.draws y) old new stands (r.words y) (draw t (block_of t s) (Entered (plain_entry y write false s))) near i
      n.value (ap (λ b. b && true) is) (ap (λ b. not b && true) is)
      (subst (InfoFor trace_setting s.history i (record { thread = t; block = block_of t s; variables = None })) is f) k.0 k.1

  -- a commit that touches y
  module _ (reads writes : List ℕ) where
    abbrev log : List Stamp
    log = with_stamp s.history t (Commits (with_all writes reads))

    abbrev own : Draw
    own = draw t s.tracing.next (Entered (Commit s.tracing.next (line_tx reads writes s.tracing.numbers)))

    -- the access of the commit's own draw is in the block of the event that comes next, and has the commit's variables
    same_access : access_of own ≡ record { thread = t; block = length s.history; variables = Some (with_all writes reads) }
    same_access = λ i. record { thread = t; block = r.next i; variables = Some (its_variables reads writes s.tracing.numbers i) }

    -- behind the commit's event, and with its look of y or without one, the old row stands
    looked : (c : Bool) → RowStands trace_setting log y (with_look c t (block_of t s) (s.draws y)) old
    looked true = row_stays trace_setting log y (s.draws y) old
        (row_grows trace_setting s.history (record { thread = t; event = Commits (with_all writes reads) } ∷ []) y (s.draws y) old stands)
        (draw t (block_of t s) (Looked (pos 0))) refl refl
    looked false = row_grows trace_setting s.history (record { thread = t; event = Commits (with_all writes reads) } ∷ []) y (s.draws y)
        old stands

    -- the word of y is 0, with the commit's look or without one
    word_there : (c : Bool) → word_of y (with_look c t (block_of t s) (s.draws y)) ≡ pos 0
    word_there true = r.words y
    word_there false = r.words y

    -- the commit's own draw is a write of y exactly where y is among the variables that it writes
    writes_there : (w : Bool) → is_in y writes ≡ w → is_write y own.what ≡ w
    writes_there w is = ap (is_in y) (its_writes reads writes s.tracing.numbers) ∙ is

    -- where y is a variable of a performed commit, the row of y with the Info of that access noted stands behind the commit
    commit_follows : (mark : Bool) → InfoFor trace_setting log i
        (record { thread = t; block = length s.history; variables = Some (with_all writes reads) }) mark
        → ((mark ≡ true) ↔ Contains writes y) → IsNotedBy t (CommitsOn reads writes) y i old new → (b : Bool) → touches reads writes y ≡ b
        → Contains (with_all writes reads) y →
        RowStands trace_setting log y (with_own b t s.tracing.next (commit_entry reads writes s)
        (with_look (is_in y reads) t (block_of t s) (s.draws y))) new
    commit_follows mark f marks n false is there =
        absurd (let a = sym (is_in-touches reads writes y) ∙ contains-is_in y (with_all writes reads) there in cc)
    commit_follows mark f marks n true is there = by (is_in y writes) refl
      where
        info : (w : Bool) → mark ≡ w → InfoFor trace_setting log i (access_of own) w
        info w e = subst (λ a. InfoFor trace_setting log i a w) (sym same_access)
            (subst (InfoFor trace_setting log i (record { thread = t; block = length s.history; variables = Some (with_all writes reads) }))
            e f)

        unmarked : (m : Bool) → mark ≡ m → (Contains writes y → ⊥) → mark ≡ false
        unmarked true e none = absurd (none (marks.0 e))
        unmarked false e none = e

        by : (w : Bool) → is_in y writes ≡ w → RowStands trace_setting log y (own ∷ with_look (is_in y reads) t (block_of t s) (s.draws y))
            new
        by true e =
            let c = is_in-contains y writes e in
            let k = n.write c in
            note_write log y (with_look (is_in y reads) t (block_of t s) (s.draws y)) old new (looked (is_in y reads))
            (word_there (is_in y reads)) own near i n.value (writes_there true e) (zero_in y writes) (info true (marks.1 c)) k.0 k.1
        by false e =
            let none : Contains writes y → ⊥ = (λ c. let z = contains-is_in y writes c in cc) in
            let k = n.read none in
            note_read log y (with_look (is_in y reads) t (block_of t s) (s.draws y)) old new (looked (is_in y reads))
            (word_there (is_in y reads)) own near i n.value (writes_there false e) (ap not (writes_there false e))
            (info false (unmarked mark refl none)) k.0 k.1

module _ (lines : List Line) (s : Traced) (now : State) (r : IsRecorded s now) (t : ℕ) (near : t < THREADS) (y : ℕ) (old new : Row)
    (i : Info) (stands : RowStands trace_setting s.history y (s.draws y) old) where
  -- behind a performed plain access of y the row stands that has the Info of that access noted
  at_plain : (x : ℕ) (write : Bool) → x ≡ y
      → InfoFor trace_setting s.history i (record { thread = t; block = block_of t s; variables = None }) i.write
      → ((i.write ≡ true) ↔ (write ≡ true)) → IsNotedBy t (AccessTo x write) y i old new
      → RowStands trace_setting s.history y ((after_plain t x write false s).draws y) new
  at_plain x write same f marks n =
      subst (λ ds. RowStands trace_setting s.history y ds new)
      (sym (ap (λ z. with_at s.draws z (draw t (block_of t s) (Entered (plain_entry z write false s)) ∷ s.draws z) y) same
      ∙ with_at-here s.draws y (draw t (block_of t s) (Entered (plain_entry y write false s)) ∷ s.draws y)))
      (plain_follows s now r t near y old new i stands write
      (subst (InfoFor trace_setting s.history i (record { thread = t; block = block_of t s; variables = None }))
      (both i.write write marks) f) write refl (record { value = n.value; write = n.write; read = n.read }))
    where
      both : (a b : Bool) → ((a ≡ true) ↔ (b ≡ true)) → a ≡ b
      both true b k = sym (k.0 refl)
      both false true k = let z : false ≡ true = k.1 refl in z
      both false false k = refl

-- a row stands with the line's access noted, where the Info stands for that
pub follow_law : RowsFollow
follow_law lines l sound y old new i stands access performed f marks n =
    let k = sound_traced lines (sound_front lines l sound) in
    let near = (last_in_range lines l sound).0 in
    subst (λ (z : Traced). RowStands trace_setting z.history y (z.draws y) new) (sym (traced_push lines l))
    (by l.thread near l.item l.judged k.0 k.1.recorded access performed
    (subst (λ (z : Traced). InfoFor trace_setting z.history i (access_at lines l) i.write) (traced_push lines l) f) marks n)
  where
    by : (t : ℕ) → t < THREADS → (item : Item) (judged : Judged) (now : State) → IsRecorded (traced lines) now → Accesses item y
        → (IsRaised judged → ⊥) → InfoFor trace_setting (after_item t item judged (traced lines)).history i
        (record { thread = t; block = block_at lines t item; variables = commit_of item }) i.write → ((i.write ≡ true) ↔ WritesTo item y)
        → IsNotedBy t item y i old new →
        RowStands trace_setting (after_item t item judged (traced lines)).history y ((after_item t item judged (traced lines)).draws y) new
    by t near (Acts act) judged now r a p f marks n = absurd a
    by t near (AccessTo x write) (Raised var) now r a p f marks n = absurd (p tt)
    by t near (AccessTo x write) NoAccess now r a p f marks n =
        at_plain lines (traced lines) now r t near y old new i stands x write a f marks n
    by t near (AccessTo x write) Performed now r a p f marks n =
        at_plain lines (traced lines) now r t near y old new i stands x write a f marks n
    by t near (CommitsOn reads writes) (Raised var) now r a p f marks n = absurd (p tt)
    by t near (CommitsOn reads writes) NoAccess now r a p f marks n =
        commit_follows (traced lines) now r t near y old new i stands reads writes i.write f marks n (touches reads writes y) refl a
    by t near (CommitsOn reads writes) Performed now r a p f marks n =
        commit_follows (traced lines) now r t near y old new i stands reads writes i.write f marks n (touches reads writes y) refl a
