-- A pass between taking the list and putting it back.
use Rattle.std.proofs.Common.{◌≡◌, ℕ, suc, List, [], ◌∷◌, length, eq-eqb, refl, sym, ap, subst, arith, ◌∙◌, false, Some, inr}
use Rattle.std.specs.Prelude.{ℤ, Option, if◌then◌else◌}
use Rattle.gl_model.specs.declared.event.Act.{Act}
use Rattle.gl_model.specs.declared.event.Event.TheVariants.{Act as Does}
use Rattle.gl_model.specs.declared.event.Stamp.{Stamp}
use Rattle.gl_model.specs.Entries.{Entry, Sync}
use Rattle.gl_model.specs.Form.{EntryForm}
use Rattle.gl_model.specs.Machine.{Setting, State, Step, Running as Runs, Owned}
use Rattle.gl_rule.specs.declared.slot.Slot.{Slot}
use Rattle.gl_rule.specs.declared.slot.Slot.TheVariants as slot
use Rattle.gl_table.specs.Doing.{IsStepOf}
use Rattle.gl_state.specs.Entering.{monitor_of, IsShallow}
use Rattle.gl_rule.specs.Fitting.{MayLeaveAt}
use Rattle.gl_state.specs.ListView.{ListView}
use Rattle.gl_model.specs.declared.row.Row.{Row}
use Rattle.gl_rule.specs.Cells.{packed}
use Rattle.gl_rule.specs.Lives.{Running, life_of}
use Rattle.gl_rule.specs.Objects.{Key}
use Rattle.gl_table.specs.PassView.{PassView, view_of, shelf_of, after, after_storing}
use Rattle.gl_draws.specs.Forming.{MayStore}
use Rattle.gl_table.specs.Putting.{DoesNotHold, MayPublishAct, MayPutBack, published_act}
use Rattle.gl_state.specs.States.{IsStateOf, monitor_state}
use Rattle.gl_rule.specs.Taken.{StateTold}
use Rattle.gl_rule.specs.View.{View, Held, Shelf, shelf, new_held, with_tail, took, saw, saw_tail, Hold, filled, published, after_publish}
use Rattle.gl_draws.specs.Draws.{Draw}
use Rattle.gl_rule.proofs.HeldLists.{in_mapped}
use Rattle.gl_table.proofs.Passes.{published_object}
use Rattle.gl_draws.proofs.Running.{running_law}
use Rattle.gl_table.proofs.Depths.{depth_law}
use Rattle.gl_rule.proofs.Lasting.{no_end, no_over, has_block, has_begun}

-- who holds nothing does not hold this
pub holds_none : (held : List Held) (k : ℕ) → held ≡ [] → DoesNotHold held k
holds_none held k none h c = absurd (let n : length held ≡ 0 = ap length none in let l = c.1 in omega arith)

-- the list was taken
abbrev pub with_list : PassView → ListView → PassView
with_list p l = after p (took (view_of p) 0 (slot.List l))

-- and the first segment and the tail loaded
abbrev pub with_room : PassView → ListView → ℕ → ℕ → PassView
with_room p l low tail = after (after (with_list p l) (saw (view_of (with_list p l)) (Hold 0 low)))
    (saw_tail (view_of (after (with_list p l) (saw (view_of (with_list p l)) (Hold 0 low)))) tail)

-- an act's entry may be stored by a thread that runs
pub may_store : (t : ℕ) (es : List Entry) (n : ℕ) (act : Act) (value : ℤ) → life_of es ≡ Running → EntryForm t (Sync n act value)
    → MayStore t es (Sync n act value)
may_store t es n act value runs form = record {
  well_formed = form;
  begins = λ _ all. absurd (let b = has_begun es runs in b.1.2 (all b.0 b.1.0 b.1.1));
  lows = λ i low high at e. absurd (cc);
  after_end = λ i f at last. ((λ end. absurd (no_end es runs i f at end)), (λ over. absurd over));
  open_still = no_over es runs;
  cached = λ x k write v e. absurd (cc);
  repeats = λ x k v e. absurd (cc);
}

-- one-element lists that are equal have equal elements
one_shelf : (a c : Shelf) → a ∷ [] ≡ c ∷ [] → a ≡ c
one_shelf a c e = cc

-- the thread runs in each state that the list's state may stand for
pub state_runs : (setting : Setting) (p : PassView) (l : ListView) → StateTold setting (view_of p) l → life_of p.own.mine ≡ Running
    → (now : State) → IsStateOf l now → now.threads p.own.id ≡ Runs
state_runs setting p l told runs now is =
    let b = has_block p.own.mine runs in
    let s : told.shelf ≡ shelf_of p = sym (one_shelf (shelf_of p) told.shelf told.one) in
    let own = subst (λ (z : Shelf). Rattle.gl_draws.specs.Events.AreEvents told.log z.thread z.marked) s told.own in
    is.threads p.own.id ∙ sym (told.is.threads p.own.id)
    ∙ running_law setting told.log told.now p.own.id b.0 p.own.mine told.allowed own b.1 (no_end p.own.mine runs)

-- a monitor that is told as owned is owned by that thread to that depth
some_owned : (m : Option (ℕ × ℕ)) (k : ℕ × ℕ) → m ≡ Some k → monitor_state m ≡ Owned k.0 k.1
some_owned m k e = ap monitor_state e

-- in the state that a pass was told of, no monitor was entered so often that it could not be counted
pub shallow : (setting : Setting) (v : View) (l : ListView) (o : ℕ) → StateTold setting v l → IsShallow l o
shallow setting v l o told = record {
  few = λ m is.
      let a = depth_law setting told.log told.now told.allowed o m.0 m.1 (told.is.monitors o ∙ some_owned (monitor_of l o) m is) in
      let b = told.few m.0 in
      omega arith;
}

-- the list may go back as it was taken
pub may_put_back : (setting : Setting) (p : PassView) (l : ListView)
    → MayPutBack setting (shelf_of (with_list p l)) (view_of (with_list p l)) 0 (slot.List l) false
may_put_back setting p l = record {
  held = new_held 0 (slot.List l);
  has = (0, omega arith, refl);
  object = refl;
  may = refl;
  quiet =
      λ e. absurd (cc);
}

-- a pass that read how much room there is may put the list back as it took it
pub may_put_full : (setting : Setting) (p : PassView) (l : ListView) (low tail : ℕ)
    → MayPutBack setting (shelf_of (with_room p l low tail)) (view_of (with_room p l low tail)) 0 (slot.List l) false
may_put_full setting p l low tail = record {
  held = with_tail tail (new_held 0 (slot.List l));
  has = (0, omega arith, refl);
  object =
      refl;
  may = refl;
  quiet = λ e. absurd (cc);
}

-- the list may be left where it is as it was taken
leave_list : (setting : Setting) (s : Shelf) (v : View) (h : Held) (k : ℕ) (x y : Slot) → k ≡ 0 → y ≡ x → MayLeaveAt setting s v h k x y
leave_list setting s v h k x y e is = subst (λ z. MayLeaveAt setting s v h z x y) (sym e) is

-- after publishing, what is held of the list is the new list
taken_after : (n : ℕ) (y : Slot) (drew : Held → Option Draw) (h : Held) → h.object ≡ 0 → (after_publish n y drew h).taken ≡ y
taken_after n y drew h e = ap (λ b. (if b then record h { taken = y; tails = suc n ∷ [] }
    else record h { tails = suc n ∷ h.tails; drew = drew h }).taken) (eq-eqb h.object 0 e)

-- and once the act is published it may go back as it is then
pub may_put_told : (key : Key) (setting : Setting) (p : PassView) (act : Act) (value : ℤ) (l : ListView) (n : ℕ) (q : PassView)
    → MayPublishAct key p act value l
    → q ≡ published_act p act value n l → MayPutBack setting (shelf_of q) (view_of q) 0 (slot.List l) false
may_put_told key setting p act value l n q m is =
    let drew : Held → Option Draw = λ g. g.drew in
    let y = slot.List l in
    let x : Stamp = record { thread = p.own.id; event = Does act } in
    let u = published (filled (view_of p) (packed x)) p.own.id p.own.mine (Sync n act value) n x y drew in
    let h = after_publish n y drew m.held in
    let zero_object = published_object n y drew m.held ∙ m.may.list in
    subst (λ (r : PassView). MayPutBack setting (shelf_of r) (view_of r) 0 y false) (sym is) (record {
      held = h;
      has = in_mapped (after_publish n y drew) p.own.held m.held m.may.held;
      object = zero_object;
      may = leave_list setting (shelf_of (after_storing p u)) (view_of (after_storing p u)) h h.object h.taken y zero_object
          (sym (taken_after n y drew m.held m.may.list));
      quiet = λ e. absurd (cc);
    })

-- the act is one step of the machine
pub is_step : (setting : Setting) (p : PassView) (l l' : ListView) (act : Act) (value : ℤ) → StateTold setting (view_of p) l
    → ((now : State) → IsStateOf l now → (new : State) × Step setting now (record { thread = p.own.id; event = Does act }) value new
    × IsStateOf l' new) → IsStepOf setting p act value
is_step setting p l l' act value told step =
    let s : told.shelf ≡ shelf_of p = sym (one_shelf (shelf_of p) told.shelf told.one) in
    let r = step told.now told.is in
    record {
      log = told.log;
      now = told.now;
      allowed = told.allowed;
      own =
          subst (λ (z : Shelf). Rattle.gl_draws.specs.Events.AreEvents told.log z.thread z.marked) s told.own;
      new = r.0;
      step = r.1;
    }

-- a row was taken
abbrev pub with_row : PassView → ℕ → Row → PassView
with_row p x row = after p (took (view_of p) (suc x) (slot.Row row))

-- and may go back as it was taken
pub may_put_row : (setting : Setting) (p : PassView) (x : ℕ) (row : Row)
    → MayPutBack setting (shelf_of (with_row p x row)) (view_of (with_row p x row)) (suc x) (slot.Row row) false
may_put_row setting p x row = record {
  held = new_held (suc x) (slot.Row row);
  has = (0, omega arith, refl);
  object = refl;
  may = record { right = inr (record { stays = λ l ds st. st }); above = λ i has. inr (i, has, omega arith) };
  quiet = λ e. absurd (cc);
}
