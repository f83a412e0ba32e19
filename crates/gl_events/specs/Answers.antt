-- What is asked of a pass that makes an event, and what is true of its answer.
use Rattle.std.specs.Prelude.{◌≡◌, ◌≢◌, ℕ, ℤ, suc, ◌+◌, ◌*◌, ◌<◌, ◌≤◌, Bool, false, ◌==◌, List, [], ◌∷◌, ◌++◌, count_by}
use Rattle.gl_model.specs.declared.event.Act.{Act}
use Rattle.gl_model.specs.declared.event.Event.TheVariants.{Act as Does}
use Rattle.gl_model.specs.declared.limits.TheConstants.{THREADS}
use Rattle.gl_model.specs.Machine.{State, Step}
use Rattle.gl_draws.specs.Ties.{counted}
use Rattle.gl_rule.specs.declared.slot.Slot.TheVariants as slot
use Rattle.gl_rule.specs.Lives.{life_of}
use Rattle.gl_rule.specs.Objects.{capacity}
use Rattle.gl_rule.specs.Taken.{StateTold}
use Rattle.gl_rule.specs.View.{Read, Busy, Taken, Hold}
use Rattle.gl_state.specs.declared.state.Stage.TheVariants as stage
use Rattle.gl_state.specs.Acts.{stage_of, is_live}
use Rattle.gl_state.specs.Entering.{IsOfOther}
use Rattle.gl_state.specs.ListView.{ListView}
use Rattle.gl_state.specs.States.{IsStateOf}
use Rattle.gl_table.specs.Doing.{IsStepOf}
use Rattle.gl_table.specs.PassView.{PassView, view_of}
use Rattle.gl_table.specs.TableView.{TableView}
use Rattle.gl_events.specs.Acting.{MayAct}
use Rattle.gl_events.specs.Calls.{life_for, done_of}
use Rattle.gl_events.specs.declared.call.Call.{Call}
use Rattle.gl_events.specs.declared.call.Call.TheVariants as call
use Rattle.gl_events.specs.declared.done.Done.{Done}
use Rattle.gl_events.specs.declared.done.Stop.{Stop}
use Rattle.gl_events.specs.declared.done.Stop.TheVariants as stop
use Rattle.gl_rule.specs.Bounded.{most_entries}

-- the pass is of this table, holds and owes nothing, and has room for an entry; its thread is as far as the call asks
pub record MayCall (c : Call) (z : TableView) (p : PassView) : Type 0 where
  pub table : p.own.table ≡ z.id
  pub held : p.own.held ≡ []
  pub drawn : p.own.drawn ≡ []
  pub owed : p.own.owed ≡ []
  pub spare : 0 < p.spare
  pub few : counted p.own.mine < most_entries
  pub life : life_of p.own.mine ≡ life_for c

-- the pass, which was p and is q, took the list with the state l, and then read this
pub record Looked (z : TableView) (p q : PassView) (l : ListView) (further : List Read) : Type 0 where
  pub told : StateTold z.key.setting (view_of p) l
  pub reads : q.reads ≡ (p.reads ++ Taken 0 (slot.List l) ∷ []) ++ further

-- for what the state makes thread t wait
abbrev pub Refuses : Call → ℕ → ListView → Stop → Type 0
Refuses call.Begin t l s = (s ≡ stop.NotForked (count_by is_live l.threads)) × ((f : ℕ) (value : ℤ) → stage_of l t ≢ stage.Forked f value)
Refuses call.End t l s = ⊥
Refuses (call.Enter o) t l s = (owner : ℕ) × (s ≡ stop.Blocked owner) × IsOfOther l o t owner
Refuses (call.Exit o) t l s = ⊥
Refuses (call.VRead v) t l s = ⊥
Refuses (call.VWrite v value) t l s = ⊥
Refuses (call.Fork f value) t l s = ⊥
Refuses (call.Join u) t l s = (s ≡ stop.NotEnded u) × (stage_of l u ≢ stage.Never) × (stage_of l u ≢ stage.Ended)
Refuses (call.Alloc c) t l s = ⊥
Refuses (call.Print value) t l s = ⊥
Refuses call.Input t l s = ⊥

-- there is room for an event at this tail, where the ring begins with the segment low
abbrev pub HasRoomAt : TableView → ℕ → ℕ → Type 0
HasRoomAt z low tail = tail < low * z.key.cells + capacity z.key

-- the state made the thread wait, and nothing else was read
abbrev pub IsRefused : Call → TableView → PassView → PassView → Stop → Type 0
IsRefused c z p q s = (l : ListView) × Looked z p q l [] × Refuses c p.own.id l s

-- why the call stopped: the turn was read as held by another pass; the state that was taken made the thread wait; or it did not, and
-- there was no room
abbrev pub IsCause : Call → TableView → PassView → PassView → Stop → Type 0
IsCause c z p q (stop.Busy by) = (by < THREADS) × (q.reads ≡ p.reads ++ Busy 0 by ∷ []) × (q.seen ≡ p.seen) × (by ≢ p.own.id)
IsCause c z p q (stop.Blocked owner) = IsRefused c z p q (stop.Blocked owner) × (q.seen ≡ p.seen)
IsCause c z p q (stop.NotEnded thread) = IsRefused c z p q (stop.NotEnded thread) × (q.seen ≡ p.seen)
IsCause c z p q (stop.NotForked live) = IsRefused c z p q (stop.NotForked live) × (q.seen ≡ p.seen)
IsCause c z p q (stop.RingFull low tail) =
    (l : ListView) × Looked z p q l (Hold 0 low ∷ []) × ((s : Stop) → Refuses c p.own.id l s → ⊥) × (q.seen ≡ tail) × (p.seen ≤ tail)
    × (HasRoomAt z low tail → ⊥)

-- after a stop the pass knows what it knew, and has the room that it had
abbrev pub IsStop : Call → TableView → PassView → PassView → Stop → Type 0
IsStop c z p q s = IsCause c z p q s × (q.known ≡ p.known) × (q.spare ≡ p.spare)

-- the act was published with this value, as the state that was taken allows, where there was room, and is one step of the machine
pub record IsDone (z : TableView) (p q : PassView) (act : Act) (value : ℤ) (d : Done) : Type 0 where
  pub state : ListView
  pub low : ℕ
  pub tail : ℕ
  pub looked : Looked z p q state (Hold 0 low ∷ [])
  pub may : MayAct z.key.setting p.own.id state act value
  pub room : HasRoomAt z low tail
  pub later : p.seen ≤ tail
  -- it stands at the tail
  pub here : d.at ≡ tail
  pub step : IsStepOf z.key.setting p act value
  -- from each state of the machine that the taken state stands for, it is one to a state that this one stands for
  pub next : ListView
  pub moves : (now : State) → IsStateOf state now → (new : State)
      × Step z.key.setting now (record { thread = p.own.id; event = Does act }) value new × IsStateOf next new
  pub answer : d ≡ done_of d.at act value
  pub seen : q.seen ≡ suc d.at
  pub known : q.known ≡ p.known ++ (d.at, record { thread = p.own.id; event = Does act }) ∷ []
  pub quiet : q.quiet ≡ p.quiet
  pub spare : p.spare ≡ q.spare + 1

-- whether no thread was live in the state that was taken
abbrev pub says_quiet : Stop → Bool
says_quiet (stop.NotForked live) = live == 0
says_quiet (stop.Busy by) = false
says_quiet (stop.Blocked owner) = false
says_quiet (stop.NotEnded thread) = false
says_quiet (stop.RingFull low tail) = false
