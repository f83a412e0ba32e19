-- A pass between taking the list and putting it back.
use Rattle.std.proofs.Common.{◌≡◌, ℕ, zero, suc, ◌==◌, cond, ne_eqb, ◌+◌, ◌≤◌, List, [], ◌∷◌, ◌++◌, refl, sym, ap, subst, arith, ◌∙◌, false, true, Bool}
use Rattle.std.specs.Prelude.{ℤ, Contains, ◌||◌, count_by, slice_index_or}
use Rattle.gl_model.specs.declared.event.Act.{Act}
use Rattle.gl_model.specs.declared.event.Act.TheVariants.{Begin, End, Acq, Rel, VRead, VWrite, Fork, Join, Alloc, Print, Input, Fail}
use Rattle.gl_model.specs.declared.event.Event.TheVariants.{Act as Does}
use Rattle.gl_model.specs.Entries.{Sync}
use Rattle.gl_model.specs.Machine.{Setting, State, Step}
use Rattle.gl_draws.specs.Forming.{MayStore}
use Rattle.gl_rule.specs.declared.slot.Slot.TheVariants as slot
use Rattle.gl_rule.specs.Lives.{Running, life_of}
use Rattle.gl_rule.specs.Taken.{StateTold}
use Rattle.gl_rule.specs.View.{View, new_held, with_tail, Hold, Taken}
use Rattle.gl_state.specs.ListView.{ListView}
use Rattle.gl_state.specs.States.{IsStateOf, IsQuiet}
use Rattle.gl_state.specs.declared.state.Stage.{Stage}
use Rattle.gl_state.specs.declared.state.Stage.TheVariants as stage
use Rattle.gl_state.specs.Acts.{is_live}
use Rattle.gl_state.proofs.Steps.{none_live}
use Rattle.gl_table.specs.Doing.{announced}
use Rattle.gl_table.specs.PassView.{PassView, view_of, shelf_of}
use Rattle.gl_table.specs.Putting.{MayPublishAct, MayPutBack}
use Rattle.gl_table.specs.TableView.{TableView}
use Rattle.gl_table.proofs.Doing.{with_list, with_room, may_store, state_runs, is_step}
use Rattle.gl_events.specs.Acting.{MayAct, Becomes, IsPlan}
use Rattle.gl_events.specs.Answers.{MayCall, HasRoomAt, Refuses, IsDone, says_quiet}
use Rattle.gl_events.specs.declared.done.Done.{Done}
use Rattle.gl_events.specs.declared.done.Stop.{Stop}
use Rattle.gl_events.specs.Calls.{IsFor, life_for, act_of, value_of, done_of}
use Rattle.gl_events.specs.declared.call.Call.{Call}
use Rattle.gl_events.specs.declared.call.Call.TheVariants as call
use Rattle.gl_events.proofs.Acts.{Runs, runs_at, in_range, form, acts_step}
use Rattle.gl_events.proofs.Answering.{says}
use Rattle.std.proofs.lemmas.List.Sums.{sum_by-cons}
use Rattle.gl_events.proofs.Lives.{begins_store}

-- the entry may be stored next
stores : (c : Call) (setting : Setting) (p : PassView) (l : ListView) (act : Act) (value : ℤ) (n : ℕ) → life_of p.own.mine ≡ life_for c
    → IsFor c act value → MayAct setting p.own.id l act value → MayStore p.own.id p.own.mine (Sync n act value)
stores c setting p l act value n life is may = by c life is
  where
    f0 : Rattle.gl_model.specs.Form.EntryForm p.own.id (Sync n act value)
    f0 = form setting p.own.id l act value n may

    running : life_of p.own.mine ≡ Running → MayStore p.own.id p.own.mine (Sync n act value)
    running e = may_store p.own.id p.own.mine n act value e f0

    by : (c : Call) → life_of p.own.mine ≡ life_for c → IsFor c act value → MayStore p.own.id p.own.mine (Sync n act value)
    by call.Begin e is =
        subst (λ (a : Act). MayStore p.own.id p.own.mine (Sync n a value)) (sym is.1)
        (begins_store p.own.id p.own.mine n is.0 value e
        (subst (λ (a : Act). Rattle.gl_model.specs.Form.EntryForm p.own.id (Sync n a value)) is.1 f0))
    by call.End e is = running e
    by (call.Enter o) e is = running e
    by (call.Exit o) e is = running e
    by (call.VRead v) e is = running e
    by (call.VWrite v w) e is = running e
    by (call.Fork f w) e is = running e
    by (call.Join u) e is = running e
    by (call.Alloc k) e is = running e
    by (call.Print w) e is = running e
    by call.Input e is = running e

-- the thread runs, but where the act is its first
act_runs : (c : Call) (setting : Setting) (p : PassView) (l : ListView) (act : Act) (value : ℤ) → StateTold setting (view_of p) l
    → life_of p.own.mine ≡ life_for c → IsFor c act value → (now : State) → IsStateOf l now → Runs p.own.id act now
act_runs c setting p l act value told life is now s = by c life is
  where
    running : life_of p.own.mine ≡ Running → Runs p.own.id act now
    running e = runs_at p.own.id act now (state_runs setting p l told e now s)

    by : (c : Call) → life_of p.own.mine ≡ life_for c → IsFor c act value → Runs p.own.id act now
    by call.Begin e is = subst (λ (a : Act). Runs p.own.id a now) (sym is.1) tt
    by call.End e is = running e
    by (call.Enter o) e is = running e
    by (call.Exit o) e is = running e
    by (call.VRead v) e is = running e
    by (call.VWrite v w) e is = running e
    by (call.Fork f w) e is = running e
    by (call.Join u) e is = running e
    by (call.Alloc k) e is = running e
    by (call.Print w) e is = running e
    by call.Input e is = running e

-- each machine state that the list's state stands for has the step
pub steps : (c : Call) (setting : Setting) (p : PassView) (l l' : ListView) (act : Act) (value : ℤ) → StateTold setting (view_of p) l
    → life_of p.own.mine ≡ life_for c → IsFor c act value → MayAct setting p.own.id l act value → Becomes setting p.own.id act value l l'
    → (now : State) → IsStateOf l now → (new : State) × Step setting now (record { thread = p.own.id; event = Does act }) value new
    × IsStateOf l' new
steps c setting p l l' act value told life is may to now s =
    acts_step setting p.own.id act value l l' now may to (act_runs c setting p l act value told life is now s) s

-- what the state allows may be published, where there is room
pub publishable : (c : Call) (z : TableView) (p : PassView) (l l' : ListView) (low tail : ℕ) (act : Act) (value : ℤ) → MayCall c z p
    → StateTold z.key.setting (view_of p) l → IsFor c act value → MayAct z.key.setting p.own.id l act value
    → Becomes z.key.setting p.own.id act value l l' → HasRoomAt z low tail → MayPublishAct z.key (with_room p l low tail) act value l'
publishable c z p l l' low tail act value call told is may to room = record {
  held = with_tail tail (new_held 0 (slot.List l));
  old = l;
  may = record {
    held = (0, omega arith, refl);
    list = refl;
    state = refl;
    tail = tail;
    saw = (0, omega arith, refl);
    low = low;
    read = last_read (p.reads ++ Taken 0 (slot.List l) ∷ []) (Hold 0 low);
    room = room;
    stored = refl;
    by = refl;
    kept = in_range z.key.setting p.own.id l act value may;
    position = λ n. refl;
    event = λ n. refl;
    carries = λ n. refl;
    step = steps c z.key.setting p l l' act value told call.life is may to;
    form = stores c z.key.setting p l act value tail call.life is may;
    paid = call.owed;
    few = call.few;
  };
  tail = refl;
}
  where
    last_read : (xs : List _) (x : Rattle.gl_rule.specs.View.Read) → Contains (xs ++ x ∷ []) x
    last_read [] x = (0, omega arith, refl)
    last_read (y ∷ xs) x = let r = last_read xs x in let near = r.1 in (suc r.0, omega arith, r.2)

-- one if the test is true, and zero otherwise
abbrev one_if : Bool → ℕ
one_if b = cond b 1 0

-- a test that no thread in the list and not the default passes is false of each
none_of : (p : Stage → Bool) (d : Stage) → p d ≡ false → (xs : List Stage) → count_by p xs ≡ 0 → (t : ℕ) → p (slice_index_or xs t d) ≡ false
none_of p d out [] none t = out
none_of p d out (x ∷ xs) none zero = first (p x) (let n : one_if (p x) + count_by p xs ≡ 0 = sym (sum_by-cons (λ y. one_if (p y)) x xs)
    ∙ none in omega arith)
  where
    first : (b : Bool) → one_if b ≡ 0 → b ≡ false
    first true e = absurd (omega arith)
    first false e = refl
none_of p d out (x ∷ xs) none (suc t) = none_of p d out xs (let n : one_if (p x) + count_by p xs
    ≡ 0 = sym (sum_by-cons (λ y. one_if (p y)) x xs) ∙ none in omega arith) t

-- a thread that waits to be forked where none is live has seen that
quiet_state : (c : Call) (t : ℕ) (l : ListView) (s : Stop) → Refuses c t l s → says_quiet s ≡ true → (now : State) → IsStateOf l now
    → IsQuiet now
quiet_state call.Begin t l s r q now is =
    let z : (count_by is_live l.threads == 0) ≡ true = sym (ap says_quiet r.0) ∙ q in
    none_live l now is (none_of is_live stage.Never refl l.threads (same_zero (count_by is_live l.threads) z))
  where
    same_zero : (n : ℕ) → (n == 0) ≡ true → n ≡ 0
    same_zero zero e = refl
    same_zero (suc n) e = absurd (let f : (suc n == 0) ≡ false = ne_eqb (suc n) 0 (λ z. absurd (omega arith)) in let c : true
        ≡ false = sym e ∙ f in cc)
quiet_state (call.Enter o) t l s r q now is = absurd (let z : false ≡ true = sym (ap says_quiet r.1) ∙ q in cc)
quiet_state (call.Join u) t l s r q now is = absurd (let z : false ≡ true = sym (ap says_quiet r.0) ∙ q in cc)
quiet_state call.End t l s r q now is = absurd r
quiet_state (call.Exit o) t l s r q now is = absurd r
quiet_state (call.VRead v) t l s r q now is = absurd r
quiet_state (call.VWrite v w) t l s r q now is = absurd r
quiet_state (call.Fork f w) t l s r q now is = absurd r
quiet_state (call.Alloc k) t l s r q now is = absurd r
quiet_state (call.Print w) t l s r q now is = absurd r
quiet_state call.Input t l s r q now is = absurd r

-- the list goes back as it was taken
pub put_refused : (c : Call) (setting : Setting) (p : PassView) (t : ℕ) (l : ListView) (s : Stop) (b : Bool) → b ≡ says_quiet s
    → Refuses c t l s → MayPutBack setting (shelf_of (with_list p l)) (view_of (with_list p l)) 0 (slot.List l) b
put_refused c setting p t l s b is r = record {
  held = new_held 0 (slot.List l);
  has = (0, omega arith, refl);
  object = refl;
  may = refl;
  quiet = λ e. quiet_state c t l s r (sym is ∙ e);
}

-- what is true of the answer
pub done_is : (c : Call) (z : TableView) (p q : PassView) (l l' : ListView) (low tail : ℕ) (act : Act) (value : ℤ) (d : Done)
    → MayCall c z p → StateTold z.key.setting (view_of p) l → IsPlan c z.key.setting p.own.id l (record { act = act; value = value })
    → Becomes z.key.setting p.own.id act value l l' → HasRoomAt z low tail → p.seen ≤ tail → d.at ≡ tail → d ≡ done_of d.at act value → q
    ≡ announced (with_room p l low tail) act value d.at (slot.List l')
    → IsDone z p q (act_of c d) (value_of c d) d
done_is c z p q l l' low tail act value d call told plan to room later here answer is =
    let s = says c d.at value act plan.0 in
    let same_act : act_of c d ≡ act = ap (act_of c) answer ∙ s.0 in
    let same_value : value_of c d ≡ value = ap (value_of c) answer ∙ s.1 in
    let base : IsDone z p (announced (with_room p l low tail) act value d.at (slot.List l')) act value d = record {
      state = l;
      low = low;
      tail = tail;
      looked = record { told = told; reads = refl };
      may = plan.1;
      room = room;
      later = later;
      here = here;
      step = is_step z.key.setting p l l' act value told (steps c z.key.setting p l l' act value told call.life plan.0 plan.1 to);
      next = l';
      moves = steps c z.key.setting p l l' act value told call.life plan.0 plan.1 to;
      answer = answer;
      seen = refl;
      known = refl;
      quiet = or_no p.quiet;
      spare = (let some = call.spare in omega arith);
    } in
    subst (λ (a : Act). IsDone z p q a (value_of c d) d) (sym same_act)
    (subst (λ (v : ℤ). IsDone z p q act v d) (sym same_value) (subst (λ (q : PassView). IsDone z p q act value d) (sym is) base))
  where
    or_no : (b : Bool) → (b || false) ≡ b
    or_no true = refl
    or_no false = refl

-- what is done is done at the place that it is said to be
at_of : (n : ℕ) (act : Act) (value : ℤ) → (done_of n act value).at ≡ n
at_of n (Begin f) value = refl
at_of n End value = refl
at_of n (Acq o) value = refl
at_of n (Rel o) value = refl
at_of n (VRead v) value = refl
at_of n (VWrite v) value = refl
at_of n (Fork u f) value = refl
at_of n (Join u) value = refl
at_of n (Alloc c) value = refl
at_of n Print value = refl
at_of n Input value = refl
at_of n (Fail k) value = refl

-- and of one that was published at n
pub answered : (c : Call) (z : TableView) (p q : PassView) (l l' : ListView) (low tail n : ℕ) (act : Act) (value : ℤ) (d : Done)
    → MayCall c z p → StateTold z.key.setting (view_of p) l → IsPlan c z.key.setting p.own.id l (record { act = act; value = value })
    → Becomes z.key.setting p.own.id act value l l' → HasRoomAt z low tail → p.seen ≤ tail → n ≡ tail → d ≡ done_of n act value → q
    ≡ announced (with_room p l low tail) act value n (slot.List l')
    → IsDone z p q (act_of c d) (value_of c d) d
answered c z p q l l' low tail n act value d call told plan to room later here answer is =
    let e : d.at ≡ n = ap (λ (d : Done). d.at) answer ∙ at_of n act value in
    done_is c z p q l l' low tail act value d call told plan to room later (e ∙ here) (subst (λ k. d ≡ done_of k act value) (sym e) answer)
    (subst (λ k. q ≡ announced (with_room p l low tail) act value k (slot.List l')) (sym e) is)
