-- The cause of one end is not that of another: thread 0 has begun, and another thread commits.
use Rattle.std.proofs.Common.{◌≡◌, ◌≢◌, ℕ, zero, suc, ◌<◌, List, [], ◌∷◌, drop, refl, sym, ap, ◌∙◌, subst, arith, true, inl, inr, Some, None}
use Rattle.std.specs.Prelude.{◌↔◌, pos, Contains, slice_get}
use Rattle.std.proofs.lemmas.List.Elements.{All-weaker}
use Rattle.gl_model.specs.declared.event.Act.TheVariants.{Begin, End}
use Rattle.gl_model.specs.declared.event.Element.{Element}
use Rattle.gl_model.specs.declared.event.Element.TheVariants.{Thread, Tx, Var}
use Rattle.gl_model.specs.declared.event.Event.TheVariants.{Act as Does}
use Rattle.gl_model.specs.declared.event.Stamp.{Stamp}
use Rattle.gl_model.specs.declared.row.Info.{Info}
use Rattle.gl_model.specs.declared.row.Row.{Row}
use Rattle.gl_model.specs.declared.tx.Look.{Look}
use Rattle.gl_model.specs.Edges.{EventAt}
use Rattle.gl_model.specs.Infos.{AreLeastOwned, InfoFor}
use Rattle.gl_model.specs.Lockset.{Has}
use Rattle.gl_model.specs.Locksets.{Access, IsOrderedOrExcepted}
use Rattle.gl_model.specs.Machine.{Setting, State, Running, start, with_at, Allows}
use Rattle.gl_draws.specs.RowFacts.{Fails, SomeFails}
use Rattle.gl_rule.specs.Fitting.{IsFitting, InfosStand}
use Rattle.gl_rule.specs.View.{shelf}
use Rattle.gl_table.specs.PassView.{PassView}
use Rattle.gl_txn.specs.Attempts.{variables_in}
use Rattle.gl_txn.specs.Ending.{asked}
use Rattle.gl_txn.specs.Laws.{begun, IsFirstWrite, IsUntouched, KnowsBegun, RacyIsNotDone, ClearIsNotRaised, UnlookedIsNotChanged}
use Rattle.gl_txn.specs.declared.taken.TakenRow.{TakenRow}

-- the state in which thread 0 runs and nothing else was done
abbrev first_state : Setting → State
first_state setting = record (start setting) { threads = with_at (start setting).threads 0 Running }

-- the log in which thread 0 has begun is allowed
allows_begun : (setting : Setting) → Allows setting (begun setting) (first_state setting)
allows_begun setting = (pos 0, first_state setting, record { may = refl; effect = refl }, refl)

-- an event of that list is the one at position 0
at_begun : (setting : Setting) (p : ℕ) (s : Stamp) → EventAt (begun setting) p s
    → (p ≡ 0) × (s ≡ record { thread = 0; event = Does (Begin setting.main) })
at_begun setting zero s e = (refl, (let same : record { thread = 0; event = Does (Begin setting.main) } ≡ s = cc in sym same))
at_begun setting (suc p) s e = absurd (cc)

-- a pass of another thread that has made no event cannot tell the list from the table's
fits_begun : (setting : Setting) (t : ℕ) (q : PassView) → t ≢ 0 → KnowsBegun setting q
    → IsFitting setting (shelf t []) 1 q.known (begun setting)
fits_begun setting t q other knows = record {
  long = refl;
  now = first_state setting;
  allowed = allows_begun setting;
  knows = All-weaker (λ (k : ℕ × Stamp). k.0 ≡ 0 → k.1 ≡ record { thread = 0; event = Does (Begin setting.main) })
      (λ (k : ℕ × Stamp). k.0 < 1 → slice_get (begun setting) k.0 ≡ Some k.1) known q.known knows;
  own = record {
    listed = λ i p e ev there at is. absurd (cc);
    made = λ p s there same. absurd (other (sym same ∙ ap (λ (u : Stamp). u.thread) (at_begun setting p s there).1));
    rise = λ i j p q e f there also before at behind. absurd (cc);
  };
}
  where
    known : (k : ℕ × Stamp) → (k.0 ≡ 0 → k.1 ≡ record { thread = 0; event = Does (Begin setting.main) }) → k.0 < 1
        → slice_get (begun setting) k.0 ≡ Some k.1
    known (zero, s) is less = ap (λ (u : Stamp). Some u) (sym (is refl))
    known (suc p, s) is less = absurd (omega arith)

-- the Info of that write stands for the access of thread 0 behind its Begin
abbrev first_access : Access
first_access = record { thread = 0; block = 0; variables = None }

-- a begin is not an end
begin_is_no_end : (f : ℕ) → Does (Begin f) ≡ Does End → ⊥
begin_is_no_end f e = cc

-- at the first state thread 0 owns no monitor
owned_by_none : (setting : Setting) → AreLeastOwned (first_state setting) 0 []
owned_by_none setting = record {
  rising = λ k less. absurd (omega arith);
  owned = λ o c. absurd (let l = c.1 in omega arith);
  at_most_four = omega arith;
  least = λ o owns. absurd (let e = owns.1 in cc);
}

-- the info of a first write stands in the log in which thread 0 has begun
write_stands : (setting : Setting) (row : Row) (w : IsFirstWrite row) → InfoFor setting (begun setting) w.info first_access true
write_stands setting row w = record {
  access = record {
    event = record { thread = 0; event = Does (Begin setting.main) };
    there = refl;
    own = refl;
    goes_on = begin_is_no_end setting.main;
    commit = λ xs e. absurd (cc);
  };
  thread = w.thread;
  write_mark = w.write;
  commit_mark = rw w.commit ((λ n. n), (λ n. n));
  owner = first_state setting;
  before = allows_begun setting;
  held = rw w.held (owned_by_none setting);
  behind = rw w.pos (omega arith);
  within = rw w.pos (omega arith);
  set = rw w.pos w.set;
}

-- the infos of a row with a first write stand in the log in which thread 0 has begun
row_stands : (setting : Setting) (row : Row) → IsFirstWrite row → InfosStand setting (begun setting) row
row_stands setting row w = record {
  last_write = λ i e. (
    first_access,
    (let same : w.info ≡ i = some_info w.info i (sym w.there ∙ e)
        in subst (λ (j : Info). InfoFor setting (begun setting) j first_access true) same (write_stands setting row w)),
  );
  reads = λ t i e. absurd (let n = w.unread t in cc);
}
  where
    some_info : (i j : Info) → Some i ≡ Some j → i ≡ j
    some_info i j e = cc

-- the element of the transactions is not a thread
tx_is_no_thread : Tx ≡ Thread 0 → ⊥
tx_is_no_thread e = cc

-- a variable is not a thread
var_is_no_thread : (x : ℕ) → Var x ≡ Thread 0 → ⊥
var_is_no_thread x e = cc

-- an element that is thread 0 is a thread of id 0
thread_is : (t : ℕ) → Thread t ≡ Thread 0 → t ≡ 0
thread_is t e = cc

-- an info at position 1 whose set is thread 0 alone fails the test of another thread's commit
fails_at : (setting : Setting) (t : ℕ) (xs : List ℕ) (i : Info) → t ≢ 0 → i.pos ≡ 1
    → ((y : Element) → Has i.set y ↔ (y ≡ Thread 0)) → Fails (begun setting) i t (Some xs)
fails_at setting t xs i other stands set ordered = elim at_one [
  | inl tx ↦ tx_is_no_thread ((set Tx).0 tx)
  | inr (inl own) ↦ other (thread_is t ((set (Thread t)).0 own))
  | inr (inr acquired) ↦ (let v = acquired.1.1.0 in var_is_no_thread v
      (sym acquired.1.1.2 ∙ (set acquired.1.0).0 acquired.1.2))
]
  where
    at_one : IsOrderedOrExcepted (Has i.set) t (Some xs)
    at_one = subst (λ n. IsOrderedOrExcepted (Rattle.gl_model.specs.Locksets.AfterAll (Has i.set) (drop n (begun setting))) t
        (Some xs)) stands
        ordered

-- what is in a one-element list of rows is its row
of_one : (r u : TakenRow) → Contains (r ∷ []) u → r ≡ u
of_one r u (zero, l, e) = e
of_one r u (suc k, l, e) = absurd (omega arith)

-- a commit that races is not Done there
pub racy_is_not_done : RacyIsNotDone
racy_is_not_done z a t before r q other write knows done =
    let clear = done.clear in
    let upto : 1 ≡ clear.upto = (let l = clear.later in let w = clear.within in omega arith) in
    let fits = subst (λ n. IsFitting z.key.setting (shelf t []) n q.known (begun z.key.setting)) upto
    (fits_begun z.key.setting t q other knows) in
    clear.unraced (begun z.key.setting) fits
    (λ u c. subst (λ (v : TakenRow). InfosStand z.key.setting (begun z.key.setting) v.row) (of_one r u c)
    (row_stands z.key.setting r.row write)) r (0, omega arith, refl)
    (inl (write.info, write.there, fails_at z.key.setting t (variables_in a.looks a.writes) write.info other write.pos write.set))

-- no Info of an untouched row fails
none_fails : (l : List Stamp) (row : Row) (q : _) → IsUntouched row → SomeFails l row q → ⊥
none_fails l row q u (inl f) = let w = u.unwritten in let e = f.1 in cc
none_fails l row q u (inr f) = let n = u.unread f.1.0 in let e = f.1.2 in cc

-- the infos of an untouched row stand in any log
untouched_stands : (setting : Setting) (l : List Stamp) (row : Row) → IsUntouched row → InfosStand setting l row
untouched_stands setting l row u = record {
  last_write = λ i e. absurd (let w = u.unwritten in cc);
  reads = λ t i e. absurd (let n = u.unread t in cc);
}

-- one that races with nothing is not Raised
pub clear_is_not_raised : ClearIsNotRaised
clear_is_not_raised setting a x t before r q other untouched knows seen raised =
    let fits = subst (λ n. IsFitting setting (shelf t []) n q.known (begun setting)) (sym seen) (fits_begun setting t q other knows) in
    let is = of_one r raised.row raised.of in
    none_fails (begun setting) raised.row.row (asked t a raised.row.var) (subst (λ (v : TakenRow). IsUntouched v.row) is untouched)
    (raised.races (begun setting) fits
    (λ u c. subst (λ (v : TakenRow). InfosStand setting (begun setting) v.row) (of_one r u c)
    (untouched_stands setting (begun setting) r.row untouched)))

-- an attempt that looked at nothing is not Changed
pub unlooked_is_not_changed : UnlookedIsNotChanged
unlooked_is_not_changed a x read found before rows q none changed =
    no_look (subst (λ (ls : List Look). Contains ls changed.look) none changed.looked)
  where
    no_look : {l : Look} → Contains [] l → ⊥
    no_look c = let n = c.1 in absurd (omega arith)
