-- A pass while it moves a row up: how it goes from step to step.
use Rattle.std.proofs.Common.{◌≡◌, ℕ, suc, ◌+◌, ◌*◌, length, ◌<◌, ◌≤◌, ◌||◌, not, List, [], ◌∷◌, ◌++◌, refl, sym, ap, subst, arith, ◌∙◌, inl, inr, true, false, Bool, Some, None, eq-eqb, ne_eqb, append_assoc, append-nil}
use Rattle.std.specs.Prelude.{Contains, if◌then◌else◌}
use Rattle.gl_model.specs.declared.event.Stamp.{Stamp}
use Rattle.gl_model.specs.declared.row.Info.{Info}
use Rattle.gl_model.specs.declared.row.Row.{Row}
use Rattle.gl_model.specs.Machine.{Setting}
use Rattle.gl_draws.specs.Moved.{IsRowMoved}
use Rattle.gl_draws.specs.RowFacts.{RowStands, IsWithin}
use Rattle.gl_draws.proofs.MovedRows.{row_moved}
use Rattle.gl_rule.specs.declared.slot.Slot.{Slot}
use Rattle.gl_rule.specs.declared.slot.Slot.TheVariants as slot
use Rattle.gl_rule.specs.Fitting.{IsFitting, MayRaise, MayLeaveAt}
use Rattle.gl_rule.specs.Values.{InRow, with_draw}
use Rattle.gl_rule.specs.View.{Held, Read, CellWord, Taken, Hold, new_held, with_tail, without, took, saw_tail, saw_floor, raised, left, Moves, moved, with_loads}
use Rattle.gl_rule.proofs.Moves.{five_steps, eight_steps, loads_none}
use Rattle.gl_table.specs.PassView.{PassView, view_of, shelf_of, after}
use Rattle.gl_table.specs.Putting.{MayPutBack, held_at}
use Rattle.gl_table.specs.Says.{no_held}
use Rattle.gl_rows.specs.Advancing.{HasAdvanced}
use Rattle.gl_rows.specs.Walks.{placed_from, HasWalkedTo, HoldsRow}

-- something or false is that something
or_false : (b : Bool) → (b || false) ≡ b
or_false true = refl
or_false false = refl

-- nothing is held without the only object that was
none_left : (k : ℕ) (h : Held) → h.object ≡ k → without k (h ∷ []) ≡ []
none_left k h e = ap (λ b. if not b then h ∷ [] else []) (eq-eqb h.object k e)

-- the only held slot, of the row of x, is what is held of x
head_held : (x : ℕ) (h : Held) → h.object ≡ suc x → held_at (x + 1) (h ∷ []) ≡ h
head_held x h e = ap (λ b. if b then h else no_held) (eq-eqb h.object (x + 1) (omega arith))

-- the pass holds this alone, and has these reads and moves
abbrev pub holding : PassView → List Held → List Read → Moves → PassView
holding q held reads m = record q { own = record q.own { held = held }; reads = reads; moves = m }

-- a row is taken, where nothing is held
take_step : (p : PassView) (x : ℕ) (row : Row) → p.own.held ≡ [] → after p (took (view_of p) (suc x) (slot.Row row))
    ≡ holding p (new_held (suc x) (slot.Row row) ∷ []) (p.reads ++ Taken (suc x) (slot.Row row) ∷ []) (moved 2 p.moves)
take_step p x row empty = ap (λ (l : List Held). holding p (new_held (suc x) (slot.Row row) ∷ l) (p.reads ++ Taken (suc x) (slot.Row row)
    ∷ []) (moved 2 p.moves)) empty

-- the hold of the one held row is loaded
floor_step : (q : PassView) (x n : ℕ) (h : Held) → q.own.held ≡ h ∷ [] → h.object ≡ suc x
    → after q (saw_floor (view_of q) (held_at (x + 1) q.own.held) n)
    ≡ holding q (record h { floor = Some n } ∷ []) (q.reads ++ Hold h.object n ∷ []) (moved 1 q.moves)
floor_step q x n h e at =
    let G : Held → List Held → PassView = λ g l. holding q (record g { floor = Some n } ∷ without g.object l) (q.reads ++ Hold g.object n
    ∷ []) (moved 1 q.moves) in
    ap (λ (l : List Held). G (held_at (x + 1) l) l) e ∙ ap (λ (g : Held). G g (h ∷ [])) (head_held x h at)
    ∙ ap (λ (l : List Held). holding q (record h { floor = Some n } ∷ l) (q.reads ++ Hold h.object n ∷ []) (moved 1 q.moves))
    (none_left h.object h refl)

-- the hold of the one held row is raised, with the row as it is moved up
raise_step : (q : PassView) (x to : ℕ) (row : Row) (h : Held) → q.own.held ≡ h ∷ [] → h.object ≡ suc x
    → after q (raised (view_of q) (held_at (x + 1) q.own.held) (slot.Row row) to)
    ≡ holding q (record h { taken = slot.Row row; tails = q.seen ∷ []; floor = Some to } ∷ []) q.reads (moved 1 q.moves)
raise_step q x to row h e at =
    let G : Held → List Held → PassView = λ g l. holding q (record g { taken = slot.Row row; tails = q.seen ∷ []; floor = Some to }
    ∷ without g.object l) q.reads (moved 1 q.moves) in
    ap (λ (l : List Held). G (held_at (x + 1) l) l) e ∙ ap (λ (g : Held). G g (h ∷ [])) (head_held x h at)
    ∙ ap (λ (l : List Held). holding q (record h { taken = slot.Row row; tails = q.seen ∷ []; floor = Some to } ∷ l) q.reads
    (moved 1 q.moves))
    (none_left h.object h refl)

-- the row is put back
put_step : (q : PassView) (x : ℕ) (h : Held) → q.own.held ≡ h ∷ [] → h.object ≡ suc x → after q (left (view_of q) (suc x) false)
    ≡ holding q [] q.reads (moved 2 q.moves)
put_step q x h e at =
    ap (λ b. record (holding q (without (suc x) q.own.held) q.reads (moved 2 q.moves)) {
      quiet = q.quiet || false;
      stored =
          (if b then [] else q.stored);
    })
    (ne_eqb (suc x) 0 (λ z. omega arith))
    ∙ ap (λ b. record (holding q (without (suc x) q.own.held) q.reads (moved 2 q.moves)) { quiet = b }) (or_false q.quiet)
    ∙ ap (λ (l : List Held). holding q (without (suc x) l) q.reads (moved 2 q.moves)) e
    ∙ ap (λ (l : List Held). holding q l q.reads (moved 2 q.moves)) (none_left (suc x) h at)

-- a row that goes back as it was taken, or as its hold was raised, may go back
pub may_put_same : (setting : Setting) (q : PassView) (x : ℕ) (h : Held) (row : Row) → q.own.held ≡ h ∷ [] → h.object ≡ suc x → h.taken
    ≡ slot.Row row → h.drew ≡ None → MayPutBack setting (shelf_of q) (view_of q) (suc x) (slot.Row row) false
may_put_same setting q x h row e at is none = record {
  held = h;
  has = subst (λ (l : List Held). Contains l h) (sym e) (0, omega arith, refl);
  object = at;
  may = subst (λ k. MayLeaveAt setting (shelf_of q) (view_of q) h k h.taken (slot.Row row)) (sym at)
      (subst (λ (y : Slot). MayLeaveAt setting (shelf_of q) (view_of q) h (suc x) y (slot.Row row)) (sym is) (record {
        right = inr (record { stays = λ l ds s. subst (λ d. RowStands setting l x (with_draw d ds) row) (sym none) s });
        above = λ i has. inr (i, has, omega arith);
      }));
  quiet = λ f. absurd (cc);
}

module _ (p : PassView) (x : ℕ) (row : Row) (before : ℕ) where
  abbrev pub floored : Held
  floored = record (new_held (suc x) (slot.Row row)) { floor = Some before }

  abbrev pub reads_floored : List Read
  reads_floored = (p.reads ++ Taken (suc x) (slot.Row row) ∷ []) ++ Hold (suc x) before ∷ []

  abbrev pub floor_moves : Moves
  floor_moves = moved 1 (moved 2 p.moves)

  -- the row was taken, and its hold loaded
  abbrev pub floor_pass : PassView
  floor_pass = holding p (floored ∷ []) reads_floored floor_moves

  -- where nothing was held, the pass that took the row holds just that row, and has it among what it read
  pub took_is : (v : PassView) → p.own.held ≡ [] → v ≡ after p (took (view_of p) (suc x) (slot.Row row)) → v
      ≡ holding p (new_held (suc x) (slot.Row row) ∷ []) (p.reads ++ Taken (suc x) (slot.Row row) ∷ []) (moved 2 p.moves)
  took_is v empty is = is ∙ take_step p x row empty

  -- the held row, as the call for its hold asks for it
  pub holds_first : (v : PassView) → v ≡ holding p (new_held (suc x) (slot.Row row) ∷ []) (p.reads ++ Taken (suc x) (slot.Row row) ∷ [])
      (moved 2 p.moves) → Contains v.own.held (held_at (x + 1) v.own.held) × ((held_at (x + 1) v.own.held).object ≡ suc x)
  holds_first v is = subst (λ (z : PassView). Contains z.own.held (held_at (x + 1) z.own.held)
      × ((held_at (x + 1) z.own.held).object ≡ suc x)) (sym is)
      (subst (λ (h : Held). Contains (new_held (suc x) (slot.Row row) ∷ []) h × (h.object ≡ suc x))
      (sym (head_held x (new_held (suc x) (slot.Row row)) refl)) ((0, omega arith, refl), refl))

  -- once the row's hold was loaded too, the pass is the one that took the row and loaded its hold
  pub floor_is : (v u : PassView) → v ≡ holding p (new_held (suc x) (slot.Row row) ∷ []) (p.reads ++ Taken (suc x) (slot.Row row) ∷ [])
      (moved 2 p.moves) → u
      ≡ after v (saw_floor (view_of v) (held_at (x + 1) v.own.held) before) → u ≡ floor_pass
  floor_is v u is step =
      let q = holding p (new_held (suc x) (slot.Row row) ∷ []) (p.reads ++ Taken (suc x) (slot.Row row) ∷ []) (moved 2 p.moves) in
      step ∙ ap (λ (z : PassView). after z (saw_floor (view_of z) (held_at (x + 1) z.own.held) before)) is
      ∙ floor_step q x before (new_held (suc x) (slot.Row row)) refl refl

  -- where the hold is far enough the row goes back
  pub may_put_first : (setting : Setting) (u : PassView) → u ≡ floor_pass
      → MayPutBack setting (shelf_of u) (view_of u) (suc x) (slot.Row row) false
  may_put_first setting u is = subst (λ (z : PassView). MayPutBack setting (shelf_of z) (view_of z) (suc x) (slot.Row row) false) (sym is)
      (may_put_same setting floor_pass x floored row refl refl refl refl)

  -- where the row goes back then, the pass is the first one, but for what it read and how many steps it made
  pub first_is : (u r : PassView) → p.own.held ≡ [] → u ≡ floor_pass → r ≡ after u (left (view_of u) (suc x) false) → r
      ≡ record p { reads = reads_floored; moves = moved 2 floor_moves }
  first_is u r empty is step =
      step ∙ ap (λ (z : PassView). after z (left (view_of z) (suc x) false)) is ∙ put_step floor_pass x floored refl refl
      ∙ ap (λ (l : List Held). record p { own = record p.own { held = l }; reads = reads_floored; moves = moved 2 floor_moves }) (sym empty)

  -- the tail was loaded, and events
  abbrev pub lifted : ℕ → List (ℕ × Stamp) → List CellWord → Moves → PassView
  lifted tail known loaded m = record (holding p
      (with_tail tail floored ∷ []) reads_floored m) { seen = tail; known = known; loaded = loaded }

  -- once the tail was loaded, the pass has seen that tail, and so has the row that it holds
  pub tail_is : (u v : PassView) (tail : ℕ) → u ≡ floor_pass → v ≡ after u (saw_tail (view_of u) tail)
      → v ≡ lifted tail p.known p.loaded (moved 1 floor_moves)
  tail_is u v tail is step = step ∙ ap (λ (z : PassView). after z (saw_tail (view_of z) tail)) is

  -- the row is held still
  pub holds_lifted : (v : PassView) (tail : ℕ) → v ≡ lifted tail p.known p.loaded (moved 1 floor_moves) → HoldsRow v row
  holds_lifted v tail is = subst (λ (z : PassView). HoldsRow z row) (sym is)
      (with_tail tail floored, (0, omega arith, refl), (x, refl), refl)

  -- where each held row lies within the tail that was loaded, the row lies within what the pass has seen
  pub within_lifted : (u v : PassView) (tail : ℕ) → u ≡ floor_pass
      → ((h : Held) (r : Row) → Contains u.own.held h → h.taken ≡ slot.Row r → IsWithin r tail)
      → v ≡ lifted tail p.known p.loaded (moved 1 floor_moves)
      → IsWithin row v.seen
  within_lifted u v tail was within is =
      let has = subst (λ (z : PassView). Contains z.own.held floored) (sym was) (0, omega arith, refl) in
      subst (IsWithin row) (sym (ap (λ (z : PassView). z.seen) is)) (within floored row has refl)

  -- a walk over the row's Infos changes the pass in nothing but what it knows and loaded and how many steps it made
  pub lifted_is : (v w : PassView) (to tail : ℕ) → v ≡ lifted tail p.known p.loaded (moved 1 floor_moves) → HasWalkedTo row to v w → w
      ≡ lifted tail w.known w.loaded w.moves
  lifted_is v w to tail is walk =
      let known = ap (λ (z : PassView). z.known) walk.is in
      walk.is ∙ ap (λ (l : List (ℕ × Stamp)). record v {
        known = l;
        loaded = w.loaded;
        moves = with_loads
            (5 * length walk.events) v.moves;
      })
      (sym known)
      ∙ ap (λ (m : Moves). record v { known = w.known; loaded = w.loaded; moves = m }) (sym (ap (λ (z : PassView). z.moves) walk.is))
      ∙ ap (λ (z : PassView). record z { known = w.known; loaded = w.loaded; moves = w.moves }) is

  -- the hold may be raised
  pub may_raise_row : (setting : Setting) (w : PassView) (to tail : ℕ) (new : Row) → w ≡ lifted tail w.known w.loaded w.moves → before < to
      → to ≤ tail → ((l : List Stamp) → IsFitting setting (shelf_of w) w.seen w.known l → IsRowMoved l row new)
      → ((i : Info) → InRow new i → to ≤ i.pos)
      → (taken : Row) × MayRaise setting (shelf_of w) (view_of w) (held_at (x + 1) w.own.held) x taken new to
  may_raise_row setting w to tail new is below near moved above =
      let q = lifted tail w.known w.loaded w.moves in
      let h = with_tail tail floored in
      let at_q : (l : List Stamp) → IsFitting setting (shelf_of q) q.seen q.known l
      → IsRowMoved l row new = subst (λ (z : PassView). (l : List Stamp) → IsFitting setting (shelf_of z) z.seen w.known l
      → IsRowMoved l row new) is moved in
      let may : MayRaise setting (shelf_of q) (view_of q) h x row new to = record {
        held = (0, omega arith, refl);
        object = refl;
        is = refl;
        first = refl;
        right = record { fresh = (tail, (0, omega arith, refl)); follows = λ l f ds s. row_moved setting l x ds row new (at_q l f) s };
        above = above;
        seen = near;
        from = inl (before, refl, omega arith);
      } in (
        row,
        subst (λ (z : PassView). MayRaise setting (shelf_of z) (view_of z) (held_at (x + 1) z.own.held) x row new to) (sym is)
            (subst (λ (g : Held). MayRaise setting (shelf_of q) (view_of q) g x row new to) (sym (head_held x h refl)) may),
      )

  abbrev pub raised_held : ℕ → ℕ → Row → Held
  raised_held to tail new = record (with_tail tail floored) { taken = slot.Row new; tails = tail ∷ []; floor = Some to }

  -- it was raised
  abbrev pub raised_pass : ℕ → ℕ → Row → List (ℕ × Stamp) → List CellWord → Moves → PassView
  raised_pass to tail new known loaded m = holding (lifted tail known loaded m) (raised_held to tail new ∷ []) reads_floored (moved 1 m)

  -- once the hold was raised, the pass holds the row as it is moved up, with that hold
  pub raised_is : (w u : PassView) (to tail : ℕ) (new : Row) → w ≡ lifted tail w.known w.loaded w.moves → u
      ≡ after w (raised (view_of w) (held_at (x + 1) w.own.held) (slot.Row new) to) → u ≡ raised_pass to tail new w.known w.loaded w.moves
  raised_is w u to tail new is step =
      step ∙ ap (λ (z : PassView). after z (raised (view_of z) (held_at (x + 1) z.own.held) (slot.Row new) to)) is
      ∙ raise_step (lifted tail w.known w.loaded w.moves) x to new (with_tail tail floored) refl refl

  -- the held row is there, as the call for its hold asks for it
  pub holds_raised : (u : PassView) (to tail : ℕ) (new : Row) (known : List (ℕ × Stamp)) (loaded : List CellWord) (m : Moves) → u
      ≡ raised_pass to tail new known loaded m → Contains u.own.held (held_at (x + 1) u.own.held)
      × ((held_at (x + 1) u.own.held).object ≡ suc x)
  holds_raised u to tail new known loaded m is =
      subst (λ (z : PassView). Contains z.own.held (held_at (x + 1) z.own.held) × ((held_at (x + 1) z.own.held).object ≡ suc x)) (sym is)
      (subst (λ (h : Held). Contains (raised_held to tail new ∷ []) h × (h.object ≡ suc x))
      (sym (head_held x (raised_held to tail new) refl)) ((0, omega arith, refl), refl))

  -- the hold is then what it was raised to
  pub hold_is : (u : PassView) (to tail hold : ℕ) (new : Row) (known : List (ℕ × Stamp)) (loaded : List CellWord) (m : Moves) → u
      ≡ raised_pass to tail new known loaded m → ((m : ℕ) → (held_at (x + 1) u.own.held).floor ≡ Some m → hold ≡ m) → hold ≡ to
  hold_is u to tail hold new known loaded m is same =
      same to (ap (λ (z : PassView). (held_at (x + 1) z.own.held).floor) is
      ∙ ap (λ (h : Held). h.floor) (head_held x (raised_held to tail new) refl))

  -- and was loaded
  abbrev pub last_pass : ℕ → ℕ → ℕ → Row → List (ℕ × Stamp) → List CellWord → Moves → PassView
  last_pass to tail hold new known loaded m =
      holding (lifted tail known loaded m) (record (raised_held to tail new) { floor = Some hold } ∷ []) (reads_floored ++ Hold (suc x) hold
      ∷ []) (moved 1 (moved 1 m))

  -- once the hold was loaded again, the pass has it among what it read
  pub last_is : (u v : PassView) (to tail hold : ℕ) (new : Row) (known : List (ℕ × Stamp)) (loaded : List CellWord) (m : Moves) → u
      ≡ raised_pass to tail new known loaded m → v ≡ after u (saw_floor (view_of u) (held_at (x + 1) u.own.held) hold) → v
      ≡ last_pass to tail hold new known loaded m
  last_is u v to tail hold new known loaded m is step =
      step ∙ ap (λ (z : PassView). after z (saw_floor (view_of z) (held_at (x + 1) z.own.held) hold)) is
      ∙ floor_step (raised_pass to tail new known loaded m) x hold (raised_held to tail new) refl refl

  -- the row that was moved up may be put back then
  pub may_put_last : (setting : Setting) (v : PassView) (to tail hold : ℕ) (new : Row) (known : List (ℕ × Stamp))
      (loaded : List CellWord) (m : Moves)
      → v ≡ last_pass to tail hold new known loaded m → MayPutBack setting (shelf_of v) (view_of v) (suc x) (slot.Row new) false
  may_put_last setting v to tail hold new known loaded m is =
      subst (λ (z : PassView). MayPutBack setting (shelf_of z) (view_of z) (suc x) (slot.Row new) false) (sym is)
      (may_put_same setting (last_pass to tail hold new known loaded m) x (record (raised_held to tail new) { floor = Some hold }) new refl
      refl refl refl)

  -- once it was put back, the pass is the first one, but for the tail that
  -- it has seen, what it knows, loaded and read, and how many steps it made
  pub end_is : (v r : PassView) (to tail hold : ℕ) (new : Row) (known : List (ℕ × Stamp)) (loaded : List CellWord) (m : Moves)
      → p.own.held ≡ [] → v
      ≡ last_pass to tail hold new known loaded m → r ≡ after v (left (view_of v) (suc x) false)
      → r ≡ record p {
        seen = tail;
        known = known;
        loaded = loaded;
        moves = moved 2 (moved 1 (moved 1 m));
        reads = reads_floored ++ Hold (suc x) hold ∷ [];
      }
  end_is v r to tail hold new known loaded m empty is step =
      step ∙ ap (λ (z : PassView). after z (left (view_of z) (suc x) false)) is
      ∙ put_step (last_pass to tail hold new known loaded m) x (record (raised_held to tail new) { floor = Some hold }) refl refl
      ∙ ap (λ (l : List Held). record p {
        own = record p.own { held = l };
        seen = tail;
        known = known;
        loaded = loaded;
        moves = moved 2 (moved 1 (moved 1 m));
        reads = reads_floored ++ Hold (suc x) hold ∷ [];
      }) (sym empty)

  -- what the call tells
  pub advanced_first : (r : PassView) (to : ℕ) → to ≤ before → r ≡ record p { reads = reads_floored; moves = moved 2 floor_moves }
      → HasAdvanced x to p before r
  advanced_first r to far is = record {
    row = row;
    holds = Hold (suc x) before ∷ [];
    steps = 5;
    loaded = inl (far, refl, refl);
    reads = ap (λ (z : PassView). z.reads) is ∙ append_assoc p.reads (Taken (suc x) (slot.Row row) ∷ []) (Hold (suc x) before ∷ []);
    from = 0;
    events = [];
    known = ap (λ (z : PassView). z.known) is ∙ sym (append-nil p.known);
    ends = inl refl;
    cost = ap (λ (z : PassView). z.moves) is ∙ five_steps p.moves ∙ loads_none (moved 5 p.moves);
  }

  -- where the hold was raised from below the position, and is the position in the end, the pass has advanced the row to it
  pub advanced_last : (v w r : PassView) (to tail hold : ℕ) → before < to → hold ≡ to
      → v ≡ lifted tail p.known p.loaded (moved 1 floor_moves)
      → HasWalkedTo row to v w → r ≡ record p {
        seen = tail;
        known = w.known;
        loaded = w.loaded;
        moves = moved 2 (moved 1 (moved 1 w.moves));
        reads = reads_floored ++ Hold (suc x) hold
            ∷ [];
      } → HasAdvanced x to p hold r
  advanced_last v w r to tail hold below same was walk is = record {
    row = row;
    holds = Hold (suc x) before ∷ Hold (suc x) hold ∷ [];
    steps = 8;
    loaded = inr (before, below, same, refl, refl);
    reads = ap (λ (z : PassView). z.reads) is
        ∙ append_assoc (p.reads ++ Taken (suc x) (slot.Row row) ∷ []) (Hold (suc x) before ∷ []) (Hold (suc x) hold ∷ [])
        ∙ append_assoc p.reads (Taken (suc x) (slot.Row row) ∷ []) (Hold (suc x) before ∷ Hold (suc x) hold ∷ []);
    from = walk.from;
    events = walk.events;
    known = ap (λ (z : PassView). z.known) is ∙ ap (λ (z : PassView). z.known) walk.is
        ∙ ap (λ (z : PassView). z.known ++ placed_from walk.from walk.events) was;
    ends = inr walk.ends;
    cost = ap (λ (z : PassView). z.moves) is ∙ ap (λ (z : PassView). moved 2 (moved 1 (moved 1 z.moves))) walk.is
        ∙ ap (λ (z : PassView). moved 2 (moved 1 (moved 1 (with_loads (5 * length walk.events) z.moves)))) was
        ∙ ap (with_loads (5 * length walk.events)) (eight_steps p.moves);
  }
