-- A pass between taking a row and putting it back, for an access.
use Rattle.std.proofs.Common.{◌≡◌, ℕ, zero, suc, ◌+◌, ◌*◌, length, ◌-◌, ◌<◌, ◌||◌, not, map, List, [], ◌∷◌, ◌++◌, set, replicate, refl, sym, ap, subst, arith, ◌∙◌, inl, inr, true, false, Bool, Some, None, eq-eqb}
use Rattle.std.specs.Prelude.{ℤ, pos, Option, ◌↔◌, ◌⊎◌, if◌then◌else◌, slice_set, slice_index_or, Contains}
use Rattle.std.proofs.lemmas.Option.{slice_get_within}
use Rattle.std.specs.Option.{is_some}
use Rattle.gl_model.specs.declared.event.Stamp.{Stamp}
use Rattle.gl_model.specs.declared.limits.TheConstants.{THREADS}
use Rattle.gl_model.specs.declared.row.Info.{Info}
use Rattle.gl_model.specs.declared.row.Row.{Row}
use Rattle.gl_model.specs.declared.row.Question.{Question}
use Rattle.gl_model.specs.Entries.{Entry, Plain}
use Rattle.gl_model.specs.Infos.{InfoFor, AreLeastOwned}
use Rattle.gl_model.specs.Lockset.{Has}
use Rattle.gl_model.specs.Locksets.{InitialLockset}
use Rattle.gl_model.specs.Machine.{Setting, Allows}
use Rattle.gl_draws.specs.Events.{AreEvents}
use Rattle.gl_draws.specs.Draws.{Draw, draw, Entered, access_of as access_drawn}
use Rattle.gl_draws.specs.RowFacts.{RowStands, SomeFails, IsWithin}
use Rattle.gl_draws.specs.Ties.{last_position}
use Rattle.gl_draws.proofs.EventTies.{last_own}
use Rattle.gl_draws.proofs.Running.{running_law}
use Rattle.gl_judge.specs.declared.judging.Verdict.{Verdict}
use Rattle.gl_judge.specs.declared.judging.Verdict.TheVariants.{Race}
use Rattle.gl_judge.specs.Noted.{IsNewInfo, IsNoted}
use Rattle.gl_judge.specs.Standing as judging
use Rattle.gl_rule.specs.declared.slot.Slot.TheVariants as slot
use Rattle.gl_rule.specs.Fitting.{IsFitting, InfosStand, MayMark}
use Rattle.gl_rule.specs.Lives.{Running, life_of}
use Rattle.gl_rule.specs.Values.{InRow}
use Rattle.gl_rule.specs.View.{Held, Moves, moved, with_loads, Taken, shelf, new_held, with_tail, without, took, saw_tail, marked, left}
use Rattle.gl_rule.proofs.Moves.{six_steps}
use Rattle.gl_rule.proofs.Lasting.{no_end, has_block}
use Rattle.gl_shortcut.specs.Ordering.{IsOfNext}
use Rattle.gl_table.specs.CaughtUp.{block_of, or_zero}
use Rattle.gl_table.specs.PassView.{PassView, Own, view_of, shelf_of, after, after_storing}
use Rattle.gl_table.specs.Putting.{MayMarkPlain, MayPutBack, marked_plain, held_at}
use Rattle.gl_table.specs.TableView.{TableView}
use Rattle.gl_rows.specs.declared.accessing.PlainAccess.{PlainAccess}
use Rattle.gl_rows.specs.declared.accessing.Seen.{Seen}
use Rattle.gl_rows.specs.declared.accessing.Seen.TheVariants.{Value, Raised}
use Rattle.gl_rows.specs.Accessing.{MayAccess, access_of, RowAfter, IsSeen, HasNumber, Answers, is_raised, value_told, question_of, IsJudged, LoadsOnce}
use Rattle.gl_rows.specs.Walks.{placed_from, HasWalked, HoldsRow}
use Rattle.gl_rows.proofs.Costs.{walk_costs}
use Rattle.gl_rows.proofs.Noting.{OwnLeast, fits_pop, own_stands, still_last, raised_follows, write_follows, read_follows}
use Rattle.gl_rows.proofs.Windows.{stand_judged}

-- the row was taken, and the tail loaded
abbrev pub with_row : PassView → ℕ → Row → ℕ → PassView
with_row p x row tail = after (after p (took (view_of p) (suc x) (slot.Row row)))
    (saw_tail (view_of (after p (took (view_of p) (suc x) (slot.Row row)))) tail)

-- and events were loaded: it has the words and the moves of the pass that loaded them
abbrev pub walked_row : PassView → ℕ → Row → ℕ → List (ℕ × Stamp) → PassView → PassView
walked_row p x row tail known walker = record (with_row p x row tail) { known = known; loaded = walker.loaded; moves = walker.moves }

-- a held row of x, as it is after the list was seen to a length
abbrev pub row_held : ℕ → Row → ℕ → Held
row_held x row tail = with_tail tail (new_held (suc x) (slot.Row row))

-- the row is found among the held objects
pub held_is : (p : PassView) (x : ℕ) (row : Row) (tail : ℕ) → held_at (x + 1) (with_row p x row tail).own.held ≡ row_held x row tail
held_is p x row tail = ap (λ b. if b then row_held x row tail else held_at (x + 1) (map (with_tail tail) p.own.held))
    (eq-eqb (suc x) (x + 1) (omega arith))

-- a walk over the row that was taken changes the pass in nothing but what it knows and loaded and how many steps it made
pub walked_is : (p : PassView) (x : ℕ) (row : Row) (tail : ℕ) (w u : PassView) → w ≡ with_row p x row tail → HasWalked row w u → u
    ≡ walked_row p x row tail u.known u
walked_is p x row tail w u is walk =
    let known = ap (λ (z : PassView). z.known) walk.is in
    walk.is ∙ ap (λ (l : List (ℕ × Stamp)). record w { known = l; loaded = u.loaded; moves = with_loads (5 * length walk.events) w.moves })
    (sym known)
    ∙ ap (λ (m : Moves). record w { known = u.known; loaded = u.loaded; moves = m }) (sym (ap (λ (z : PassView). z.moves) walk.is))
    ∙ ap (λ (z : PassView). record z { known = u.known; loaded = u.loaded; moves = u.moves }) is

-- the question, as far as it is looked at by a test
asks_as : (p : PassView) (q : Question) (write : Option ℤ) → q.thread ≡ p.own.id → q.commit ≡ None → q.write ≡ is_some write
    → record { thread = q.thread; write = q.write; commit = q.commit; held = [] } ≡ question_of p.own write
asks_as p q write by plain writes =
    ap (λ t. record { thread = t; write = q.write; commit = q.commit; held = [] }) by
    ∙ ap (λ v. record { thread = p.own.id; write = q.write; commit = v; held = [] }) plain
    ∙ ap (λ b. record { thread = p.own.id; write = b; commit = None; held = [] }) writes

-- a list that has a last position has it as its block
pub block_is : (es : List Entry) (p : ℕ) → last_position es ≡ Some p → last_position es ≡ Some (block_of es)
block_is es p e = e ∙ ap Some (sym (ap or_zero e))

-- the least monitors that the thread owns, once the row was taken, are those that it owned before
pub least_before : (setting : Setting) (p : PassView) (x : ℕ) (row : Row) (tail : ℕ) (w : PassView) (held : List ℕ) → w
    ≡ with_row p x row tail → OwnLeast setting w.own.id w.own.mine held → OwnLeast setting p.own.id p.own.mine held
least_before setting p x row tail w held is least =
    λ l now. subst (λ (z : PassView). AreEvents l z.own.id z.own.mine → Allows setting l now → AreLeastOwned now z.own.id held) is
    (least l now)

-- what is judged over the lists that the pass cannot tell from the table's
pub judged_row : (setting : Setting) (p : PassView) (x : ℕ) (row : Row) (tail : ℕ) (w u : PassView) (q : Question) (write : Option ℤ)
    (verdict : Verdict) (race : Bool) → life_of p.own.mine ≡ Running → w ≡ with_row p x row tail → HasWalked row w u
    → q.thread ≡ p.own.id → q.commit ≡ None → q.write ≡ is_some write → OwnLeast setting w.own.id w.own.mine q.held
    → ((l : List Stamp) → IsFitting setting (shelf_of u) u.seen u.known l → IsOfNext setting l q → judging.InfosStand setting l row
    → (verdict ≡ Race) ↔ SomeFails l row q)
    → ((race ≡ true) ↔ (verdict ≡ Race)) → (l : List Stamp) → IsFitting setting (shelf_of p) tail u.known l → InfosStand setting l row
    → (race ≡ true) ↔ SomeFails l row (question_of p.own write)
judged_row setting p x row tail w u q write verdict race runs is walk by plain writes least judges same l f stand =
    let u_is = walked_is p x row tail w u is walk in
    let fits = subst (λ (z : PassView). IsFitting setting (shelf_of z) z.seen u.known l) (sym u_is) f in
    let b = has_block p.own.mine runs in
    let before = least_before setting p x row tail w q.held is least in
    let next : IsOfNext setting l q = record {
      thread = refl;
      write_mark = refl;
      commit = refl;
      now = f.now;
      allowed = f.allowed;
      runs = subst (λ t. f.now.threads t ≡ Rattle.gl_model.specs.Machine.Running) (sym by)
          (running_law setting l f.now p.own.id b.0 p.own.mine f.allowed f.own b.1 (no_end p.own.mine runs));
      held = subst (λ t. AreLeastOwned f.now t q.held) (sym by) (before l f.now f.own f.allowed);
    } in
    let k = judges l fits next (stand_judged setting l row stand) in
    let both : (race ≡ true) ↔ SomeFails l row q = (λ r. k.0 (same.0 r), λ s. same.1 (k.1 s)) in
    subst (λ (z : Question). (race ≡ true) ↔ SomeFails l row z) (asks_as p q write by plain writes) both

-- the row is held, and lies within the tail
pub holds_row : (p : PassView) (x : ℕ) (row : Row) (tail : ℕ) (w : PassView) → w ≡ with_row p x row tail → HoldsRow w row
holds_row p x row tail w is = subst (λ (z : PassView). HoldsRow z row) (sym is)
    (row_held x row tail, (0, omega arith, refl), (x, refl), refl)

-- a row that was taken has no place beyond what the pass has seen
pub row_within : (p : PassView) (x : ℕ) (row : Row) (tail : ℕ) (v w : PassView) → v ≡ after p (took (view_of p) (suc x) (slot.Row row))
    → ((h : Held) (r : Row) → Contains v.own.held h → h.taken ≡ slot.Row r → IsWithin r tail) → w ≡ with_row p x row tail
    → IsWithin row w.seen
row_within p x row tail v w took_is within is =
    let has = subst (λ (z : PassView). Contains z.own.held (new_held (suc x) (slot.Row row))) (sym took_is) (0, omega arith, refl) in
    subst (IsWithin row) (sym (ap (λ (z : PassView). z.seen) is)) (within (new_held (suc x) (slot.Row row)) row has refl)

-- an access writes where a value is given, and is raised as it is said; a read has the row's word, and where it is raised 0
pub access_facts : (row : Row) (w : Option ℤ) (r : Bool) → ((access_of row w r).write ≡ is_some w) × ((access_of row w r).raised ≡ r)
    × ((access_of row w r).write ≡ false → (access_of row w r).raised ≡ false → (access_of row w r).value ≡ row.value)
    × ((access_of row w r).raised ≡ true → (access_of row w r).write ≡ false → (access_of row w r).value ≡ pos 0)
access_facts row (Some v) r = (refl, refl, (λ a b. absurd (cc)), (λ a b. absurd (cc)))
access_facts row None true = (refl, refl, (λ a b. absurd (cc)), (λ a b. refl))
access_facts row None false = (refl, refl, (λ a b. refl), (λ a b. absurd (cc)))

-- what its answer says of its entry
pub record EntryTold (row : Row) (write : Option ℤ) (a : PlainAccess) (n : ℕ) (s : Seen) : Type 0 where
  pub write_is : a.write ≡ is_some write
  pub value : a.value ≡ value_told write s
  pub raised : a.raised ≡ is_raised s
  pub number : HasNumber n s
  pub answers : Answers row write s

-- what was seen at an access of a row is what its entry tells
pub entry_told : (row : Row) (write : Option ℤ) (r : Bool) (n : ℕ) (s : Seen) → IsSeen (access_of row write r) n s
    → EntryTold row write (access_of row write r) n s
entry_told row (Some v) r n (Value u) i = record { write_is = refl; value = refl; raised = i.0; number = tt; answers = i.1 }
entry_told row (Some v) r n (Raised m) i = record { write_is = refl; value = refl; raised = i.0; number = i.1; answers = tt }
entry_told row None true n (Value u) i = absurd (let e = i.0 in cc)
entry_told row None false n (Value u) i = record { write_is = refl; value = sym i.1; raised = refl; number = tt; answers = i.1 }
entry_told row None true n (Raised m) i = record { write_is = refl; value = refl; raised = refl; number = i.1; answers = tt }
entry_told row None false n (Raised m) i = absurd (let e = i.0 in cc)

-- the access may be marked
pub may_mark_row : (z : TableView) (p : PassView) (x : ℕ) (row : Row) (tail : ℕ) (known : List (ℕ × Stamp)) (walker : PassView)
    (write : Option ℤ) (race : Bool) → MayAccess z p x
    → ((l : List Stamp) → IsFitting z.key.setting (shelf_of p) tail known l → InfosStand z.key.setting l row
    → (race ≡ true) ↔ SomeFails l row (question_of p.own write))
    → (a : PlainAccess) → a ≡ access_of row write race
    → MayMarkPlain z.key.setting (walked_row p x row tail known walker) x a.write a.value a.raised
may_mark_row z p x row tail known walker write race may judged a is =
    let b = has_block p.own.mine may.runs in
    let f = access_facts row write race in
    let m = access_of row write race in
    let w = walked_row p x row tail known walker in
    subst (λ (k : PlainAccess). MayMarkPlain z.key.setting w x k.write k.value k.raised) (sym is) (record {
      taken = row;
      question = question_of p.own write;
      may = subst (λ h. MayMark z.key.setting (shelf_of w) (view_of w) h x row (block_of p.own.mine) (question_of p.own write) m.write
          m.value m.raised) (sym (held_is p x row tail)) (record {
            draws = record {
              held = (0, omega arith, refl);
              object = refl;
              is = refl;
              first = refl;
              block = block_is p.own.mine b.0 b.1;
              goes_on = no_end p.own.mine may.runs;
              few = may.few;
              paid = may.owed;
            };
            idle = may.drawn;
            fresh = (tail, (0, omega arith, refl));
            by = refl;
            plain = refl;
            writes = sym f.0;
            judged = λ l fits stand. let k = judged l fits stand in (λ r. k.0 (sym f.1 ∙ r), λ s. f.1 ∙ k.1 s);
            reads = f.2;
            zero = f.3;
          });
    })

-- a list of n infos that are none
abbrev nones : ℕ → List (Option Info)
nones n = replicate n None

-- among infos that are none, each is none
none_there : (n t : ℕ) → slice_index_or (nones n) t None ≡ None
none_there zero t = refl
none_there (suc n) zero = refl
none_there (suc n) (suc t) = none_there n t

-- an info in a list where one was set is the new one, or was there
set_cases : (l : List (Option Info)) (t u : ℕ) (x : Option Info) (o : Info) → slice_index_or (slice_set l t x) u None ≡ Some o
    → (x ≡ Some o) ⊎ (slice_index_or l u None ≡ Some o)
set_cases [] t u x o e = inr e
set_cases (y ∷ l) zero zero x o e = inl e
set_cases (y ∷ l) zero (suc u) x o e = inr e
set_cases (y ∷ l) (suc t) zero x o e = inr e
set_cases (y ∷ l) (suc t) (suc u) x o e = set_cases l t u x o e

-- infos that are equal as options are equal
some_info : (a c : Info) → Some a ≡ Some c → a ≡ c
some_info a c e = cc

-- the row that keeps a performed write, and a performed read
wrote_is : (row new noted : Row) (q : Question) (at : ℕ) (value : ℤ) (n : IsNoted row q at noted) → q.write ≡ true → new
    ≡ record noted { value = value } → new ≡ record { value = value; last_write = Some n.info; reads = replicate THREADS None }
wrote_is row new noted q at value n w is =
    let k = n.write w in is ∙ ap (λ o. record { value = value; last_write = o; reads = noted.reads }) k.0
    ∙ ap (λ rs. record { value = value; last_write = Some n.info; reads = rs }) k.1

-- a row after a read is the old one with the value read and the reader's info set
read_is : (row new noted : Row) (q : Question) (at : ℕ) (value : ℤ) (n : IsNoted row q at noted) → q.write ≡ false → new
    ≡ record noted { value = value } → new ≡ record {
      value = value;
      last_write = row.last_write;
      reads = set row.reads q.thread (Some n.info);
    }
read_is row new noted q at value n w is =
    let k = n.read w in is ∙ ap (λ o. record { value = value; last_write = o; reads = noted.reads }) k.0
    ∙ ap (λ rs. record { value = value; last_write = row.last_write; reads = rs }) k.1

-- an Info of the row afterwards stands at the position, or was there
new_or_old : (row new : Row) (q : Question) (at : ℕ) (write raised : Bool) (value : ℤ) → q.write ≡ write
    → RowAfter row (record { write = write; value = value; raised = raised }) q at new → (o : Info) → InRow new o → (o.pos ≡ at)
    ⊎ InRow row o
new_or_old row new q at write raised value w (inl r) o has = inr (subst (λ k. InRow k o) r.1 has)
new_or_old row new q at true raised value w (inr r) o has =
    elim (subst (λ k. InRow k o) (wrote_is row new r.1.0 q at value r.1.1 w r.1.2) has) [
      | inl e ↦ inl (ap (λ (i : Info). i.pos) (sym (some_info r.1.1.info o e)) ∙ r.1.1.is.pos)
      | inr (u, e) ↦ absurd (let n = none_there 16 u in let z : ◌≡◌ {A = Option Info} None (Some o) = sym n ∙ e in cc)
    ]
new_or_old row new q at false raised value w (inr r) o has =
    elim (subst (λ k. InRow k o) (read_is row new r.1.0 q at value r.1.1 w r.1.2) has) [
      | inl e ↦ inr (inl e)
      | inr (u, e) ↦ elim (set_cases row.reads q.thread u (Some r.1.1.info) o e) [
        | inl i ↦ inl (ap (λ (i : Info). i.pos) (sym (some_info r.1.1.info o i)) ∙ r.1.1.is.pos)
        | inr old ↦ inr (inr (u, old))
      ]
    ]

-- the pass when the access is marked, and when the row is put back
module _ (p : PassView) (x : ℕ) (row : Row) (tail : ℕ) (known : List (ℕ × Stamp)) (walker : PassView) (nth : ℕ) where
  -- the pass after the mark, by the held object
  abbrev pub at_held : PlainAccess → Held → PassView
  at_held a h =
      let w = walked_row p x row tail known walker in
      after_storing w (marked (view_of w) (shelf w.own.id (w.own.mine ++ Plain x nth false a.write a.value a.raised ∷ [])) w.own.drawn h
      (draw p.own.id (block_of p.own.mine) (Entered (Plain x nth false a.write a.value a.raised))))

  -- the pass afterwards
  pub record IsStored (a : PlainAccess) (r : PassView) : Type 0 where
    pub own : r.own ≡ record p.own { mine = p.own.mine ++ Plain x nth false a.write a.value a.raised ∷ [] }
    pub reads : r.reads ≡ p.reads ++ Taken (suc x) (slot.Row row) ∷ []
    pub seen : r.seen ≡ tail
    pub known_is : r.known ≡ known
    pub quiet : r.quiet ≡ p.quiet
    pub spare : r.spare ≡ p.spare - 1
    pub cost : r.moves ≡ moved 2 (moved 1 walker.moves)

  -- a test or false is the test
  or_false : (b : Bool) → (b || false) ≡ b
  or_false true = refl
  or_false false = refl

  -- where one object alone is held, none is without it
  none_left : (k : ℕ) (h : Held) → h.object ≡ k → without k (h ∷ []) ≡ []
  none_left k h e = ap (λ b. if not b then h ∷ [] else []) (eq-eqb h.object k e)

  -- once the access was marked on the row, and the row put back, the pass is the one that stored the access
  pub is_stored : (a : PlainAccess) (u r : PassView) → p.own.held ≡ [] → u
      ≡ marked_plain (walked_row p x row tail known walker) x nth a.write a.value a.raised → r ≡ after u (left (view_of u) (suc x) false)
      → IsStored a r
  is_stored a u r empty is end =
      let h = row_held x row tail in
      let h' : Held = record h { drew = Some (draw p.own.id (block_of p.own.mine) (Entered (Plain x nth false a.write a.value a.raised))) }
      in
      let all = end ∙ ap (λ (z : PassView). after z (left (view_of z) (suc x) false)) (is ∙ ap (at_held a) (held_is p x row tail)) in
      let gone : without (suc x) (h' ∷ without (suc x) (h ∷ map (with_tail tail) p.own.held)) ≡ p.own.held =
      ap (λ (l : List Held). without (suc x) (h' ∷ without (suc x) (h ∷ map (with_tail tail) l))) empty
      ∙ ap (λ (l : List Held). without (suc x) (h' ∷ l)) (none_left (suc x) h refl) ∙ none_left (suc x) h' refl ∙ sym empty in
      record {
        own = ap (λ (z : PassView). z.own) all ∙ ap
            (λ (l : List Held). record p.own { mine = p.own.mine ++ Plain x nth false a.write a.value a.raised ∷ []; held = l }) gone;
        reads = ap (λ (z : PassView). z.reads) all;
        seen = ap (λ (z : PassView). z.seen) all;
        known_is = ap (λ (z : PassView). z.known) all;
        quiet = ap (λ (z : PassView). z.quiet) all ∙ or_false p.quiet;
        spare = ap (λ (z : PassView). z.spare) all;
        cost = ap (λ (z : PassView). z.moves) all;
      }

  -- what fits it then fitted it before
  pub fits_stored : (setting : Setting) (a : PlainAccess) (r : PassView) → IsStored a r → (l : List Stamp)
      → IsFitting setting (shelf_of r) r.seen r.known l → IsFitting setting (shelf_of p) tail known l
  fits_stored setting a r s l f =
      let g = subst (λ (o : Own). IsFitting setting (shelf o.id o.mine) r.seen r.known l) s.own f in
      let h = subst (λ m. IsFitting setting (shelf p.own.id (p.own.mine ++ Plain x nth false a.write a.value a.raised ∷ [])) m r.known l)
      s.seen g in
      fits_pop setting p.own.id p.own.mine (Plain x nth false a.write a.value a.raised) tail known l refl
      (subst (λ (k : List (ℕ × Stamp)). IsFitting setting
      (shelf p.own.id (p.own.mine ++ Plain x nth false a.write a.value a.raised ∷ [])) tail k l) s.known_is h)

module _ (setting : Setting) (p : PassView) (x : ℕ) (row : Row) (tail : ℕ) (known : List (ℕ × Stamp)) (walker : PassView)
    (runs : life_of p.own.mine ≡ Running) (nth : ℕ) (q : Question) (near : p.own.id < THREADS) (by : q.thread ≡ p.own.id) (plain : q.commit
    ≡ None) (least : OwnLeast setting p.own.id p.own.mine q.held) where
  -- the last event among the pass's own entries is that of its block
  last : last_position p.own.mine ≡ Some (block_of p.own.mine)
  last = let b = has_block p.own.mine runs in block_is p.own.mine b.0 b.1

  abbrev entry : Bool → Bool → ℤ → Entry
  entry write raised value = Plain x nth false write value raised

  abbrev drawn : Bool → Bool → ℤ → Draw
  drawn write raised value = draw p.own.id (block_of p.own.mine) (Entered (Plain x nth false write value raised))

  abbrev Fits : Bool → Bool → ℤ → List Stamp → Type 0
  Fits write raised value l = IsFitting setting (shelf p.own.id (p.own.mine ++ Plain x nth false write value raised ∷ [])) tail known l

  -- a new Info for the question at the position that was seen stands for the access over each fitting list
  stands : (i : Info) → IsNewInfo q tail i → (write raised : Bool) (value : ℤ) → q.write ≡ write → (l : List Stamp)
      → Fits write raised value l → InfoFor setting l i (access_drawn (drawn write raised value)) write
  stands i n write raised value w l f =
      let goes = no_end p.own.mine runs in
      let k = last_own l p.own.id (p.own.mine ++ entry write raised value ∷ []) f.own (block_of p.own.mine)
      (still_last setting p.own.id (block_of p.own.mine) x nth p.own.mine write raised value last goes tail known) in
      let below = slice_get_within l (block_of p.own.mine) k.event k.here in
      let long = f.long in
      let at = n.pos in
      own_stands setting p.own.id (block_of p.own.mine) x nth p.own.mine write raised value last goes tail known i (n.thread ∙ by) (n.write
      ∙ w) (n.commit ∙ ap is_some plain) (omega arith) (omega arith)
      (λ y. subst (λ t. Has i.set y ↔ InitialLockset t None y) by (subst (λ v. Has i.set y ↔ InitialLockset q.thread v y) plain (n.set y)))
      (subst (OwnLeast setting p.own.id p.own.mine) (sym n.held) least) l f

  -- the row after the access stands for the draws with the access's own over each fitting list
  follows : (write raised : Bool) (value : ℤ) → q.write ≡ write → (write ≡ false → raised ≡ false → value ≡ row.value) → (new : Row)
      → RowAfter row (record { write = write; value = value; raised = raised }) q tail new → (l : List Stamp) → Fits write raised value l
      → (ds : List Draw) → RowStands setting l x ds row
      → RowStands setting l x (drawn write raised value ∷ ds) new
  follows write true value w v new (inl r) l f ds s =
      subst (RowStands setting l x (drawn write true value ∷ ds)) (sym r.1)
      (raised_follows setting p.own.id (block_of p.own.mine) x nth p.own.mine value tail known write row l f ds s)
  follows write true value w v new (inr r) l f ds s = absurd (let e = r.0 in cc)
  follows write false value w v new (inl r) l f ds s = absurd (let e = r.0 in cc)
  follows true false value w v new (inr r) l f ds s =
      subst (RowStands setting l x (drawn true false value ∷ ds)) (sym (wrote_is row new r.1.0 q tail value r.1.1 w r.1.2))
      (write_follows setting p.own.id (block_of p.own.mine) x nth p.own.mine value tail known row r.1.1.info
      (λ m g. stands r.1.1.info r.1.1.is true false value w m g) l f ds s)
  follows false false value w v new (inr r) l f ds s =
      let same = read_is row new r.1.0 q tail value r.1.1 w r.1.2
      ∙ ap (λ k. record { value = k; last_write = row.last_write; reads = set row.reads q.thread (Some r.1.1.info) }) (v refl refl)
      ∙ ap (λ t. record { value = row.value; last_write = row.last_write; reads = set row.reads t (Some r.1.1.info) }) by in
      subst (RowStands setting l x (drawn false false value ∷ ds)) (sym same)
      (read_follows setting p.own.id (block_of p.own.mine) x nth p.own.mine value tail known row r.1.1.info near
      (λ m g. stands r.1.1.info r.1.1.is false false value w m g) l f ds s)

  -- the row may be put back
  pub may_put_row : (a : PlainAccess) → q.write ≡ a.write → (a.write ≡ false → a.raised ≡ false → a.value ≡ row.value)
      → (new : Row) (u : PassView) → u ≡ marked_plain (walked_row p x row tail known walker) x nth a.write a.value a.raised
      → RowAfter row a q tail new
      → MayPutBack setting (shelf_of u) (view_of u) (suc x) (slot.Row new) false
  may_put_row a w v new u is r =
      let back : MayPutBack setting (shelf_of (at_held p x row tail known walker nth a (row_held x row tail)))
      (view_of (at_held p x row tail known walker nth a (row_held x row tail))) (suc x) (slot.Row new) false = record {
        held = record (row_held x row tail) { drew = Some (drawn a.write a.raised a.value) };
        has = (0, omega arith, refl);
        object = refl;
        may = record {
          right = inl (record {
            fresh = (tail, (0, omega arith, refl));
            follows = λ l f ds s. follows a.write a.raised a.value w v new r l f ds s;
          });
          above = λ o has. elim (new_or_old row new q tail a.write a.raised a.value w r o has)
              [ inl at ↦ inl (tail, (0, omega arith, refl), omega arith) | inr old ↦ inr (o, old, omega arith) ];
        };
        quiet = λ e. absurd (cc);
      } in
      subst (λ (z : PassView). MayPutBack setting (shelf_of z) (view_of z) (suc x) (slot.Row new) false)
      (sym (is ∙ ap (at_held p x row tail known walker nth a) (held_is p x row tail))) back

-- an access that walked over its row, and made three steps more, loaded each event once
loads_once : (p : PassView) (x : ℕ) (row : Row) (tail : ℕ) (w u r : PassView) → w ≡ with_row p x row tail → HasWalked row w u → r.seen
    ≡ tail → r.known ≡ u.known → r.moves ≡ moved 2 (moved 1 u.moves) → LoadsOnce row p r
loads_once p x row tail w u r is walk seen known cost =
    let at = ap (λ (z : PassView). z.seen) is in
    let ends = walk.ends in
    record {
      from = walk.from;
      events = walk.events;
      known = known ∙ ap (λ (z : PassView). z.known) walk.is ∙ ap (λ (z : PassView). z.known ++ placed_from walk.from walk.events) is;
      ends = omega arith;
      cost = cost ∙ ap (λ (z : PassView). moved 2 (moved 1 z.moves)) walk.is
          ∙ ap (λ (z : PassView). moved 2 (moved 1 (with_loads (5 * length walk.events) z.moves))) is
          ∙ ap (with_loads (5 * length walk.events)) (six_steps p.moves);
      named = walk.named;
    }

-- none, where an early cut is sure of each Info that conflicts
pub loads_none : (p : PassView) (x : ℕ) (row : Row) (tail : ℕ) (w u r : PassView) → w ≡ with_row p x row tail → u ≡ w → r.known ≡ u.known
    → r.moves ≡ moved 2 (moved 1 u.moves) → (r.known ≡ p.known) × (r.moves ≡ moved 6 p.moves)
loads_none p x row tail w u r is same known cost = (
  known ∙ ap (λ (z : PassView). z.known) (same ∙ is),
  cost ∙ ap (λ (z : PassView). moved 2 (moved 1 z.moves)) (same ∙ is) ∙ six_steps p.moves,
)

-- what the call tells of the row that it took
pub is_judged : (setting : Setting) (p : PassView) (x : ℕ) (row : Row) (tail : ℕ) (known : List (ℕ × Stamp)) (u : PassView)
    (nth : ℕ) (write : Option ℤ) (race : Bool) (a : PlainAccess) (s : Seen) (r : PassView) (w : PassView) → w ≡ with_row p x row tail
    → IsWithin row w.seen → HasWalked row w u → known ≡ u.known
    → a ≡ access_of row write race → IsSeen a nth s → IsStored p x row tail known u nth a r
    → ((l : List Stamp) → IsFitting setting (shelf_of p) tail known l → InfosStand setting l row
    → (race ≡ true) ↔ SomeFails l row (question_of p.own write)) → IsJudged setting x write p s r
is_judged setting p x row tail known u nth write race a s r w took within walk events is seen stored judged =
    let told = entry_told row write race nth s (subst (λ (b : PlainAccess). IsSeen b nth s) is seen) in
    let same : is_raised s ≡ race = sym told.raised ∙ (access_facts row write race).1 in
    let loads = loads_once p x row tail w u r took walk stored.seen (stored.known_is ∙ events) stored.cost in
    record {
      row = row;
      took = stored.reads;
      within = subst (IsWithin row) (ap (λ (z : PassView). z.seen) took ∙ sym stored.seen) within;
      answers = told.answers;
      loads = loads;
      cost = walk_costs row loads.from r.seen 6 loads.events p r loads.ends loads.named loads.cost;
      raised = λ l f stand. let k = judged l (fits_stored p x row tail known u nth setting a r stored l f) stand
          in (λ e. k.0 (sym same ∙ e), λ e. same ∙ k.1 e);
    }
