-- A thread goes on by each answer.
use Rattle.std.proofs.Common.{◌≡◌, ℕ, ◌<◌, ◌^◌, true, List, [], ◌∷◌, ◌++◌, refl, sym, ◌∙◌, ap, arith, Option, Some, None, subst, is_some}
use Rattle.std.specs.Prelude.{if◌then◌else◌}
use Rattle.std.proofs.lemmas.List.{append-nil, append_assoc}
use Rattle.atomic_table.specs.Seated.{TableId}
use Rattle.gl_model.specs.Entries.{Entry, Sync, Commit, Plain, Abort, Trim, Over as Ended'}
use Rattle.gl_model.specs.Machine.{ThreadState}
use Rattle.gl_bytecode.specs.declared.ask.Ask.{Ask}
use Rattle.gl_bytecode.specs.declared.ask.Ask.TheVariants.{Go, Begin, End, Over, Read, Write, VRead, VWrite, Enter, Exit, Fork, Join, Alloc, Print, Input, TxBegin, TxEnd}
use Rattle.gl_bytecode.specs.declared.ask.Reply.{Reply}
use Rattle.gl_bytecode.specs.declared.ask.Stage.{Stage}
use Rattle.gl_bytecode.specs.declared.ask.Stage.TheVariants.{New, Begins, Runs, Waits, Drops, Leaves, Ends, Over as IsOver}
use Rattle.gl_bytecode.specs.Attending.{runs_after}
use Rattle.gl_bytecode.specs.Machine.{Config, ask_of, next, takes, takes_at}
use Rattle.gl_bytecode.specs.Programs.{Bytecode}
use Rattle.gl_bytecode.specs.Runs.{Along, Exchange, Made, Quiet, Progress, told_one, replied, looks_after, writes_after, without_trims, entries_of}
use Rattle.gl_bytecode.proofs.Growth.{along_quiet, along_made, along_trim}
use Rattle.gl_bytecode.proofs.Soundness.{Fits-next}
use Rattle.gl_draws.specs.Ties.{counted}
use Rattle.gl_vm.specs.Asking.{AsksInRange, levels_told, state_at, state_told}
use Rattle.gl_vm.specs.Orderly.{IsOrderly, StageIsOrderly}
use Rattle.gl_vm.proofs.Work.{Falls, step_falls, entries_bounded}
use Rattle.gl_rule.specs.Lives.{life_of}
use Rattle.gl_table.specs.PassView.{Own}
use Rattle.gl_txn.specs.Attempts.{Attempting}
use Rattle.gl_riders.specs.Exchanges.{IsAnswered, LeavesRightly, life_told, suits}
use Rattle.gl_rule.specs.Levels.{levels_of}
use Rattle.gl_riders.specs.Riding.{DrawsFor, Rides, life_of_state, progress_of}
use Rattle.gl_riders.specs.Sparing.{Spares}
use Rattle.gl_riders.specs.Sweeping.{AreTrims, IsSwept}
use Rattle.gl_riders.proofs.Sparings.{spares_on, spares_trims}
use Rattle.gl_riders.proofs.Lists.{IsOpen, counted_same, levels_swept, life_swept}

-- ## The machine takes what fits its ask

-- at an orderly stage a suitable reply that leaves rightly is taken
takes_stage :
    (P : Bytecode) (c : Config) (reply : Reply) (stage : Stage) → StageIsOrderly P c stage → suits c.attempt (ask_of stage) reply ≡ true →
    LeavesRightly c (ask_of stage) reply → takes_at stage c.attempt reply ≡ true
takes_stage P c reply New orderly fits leaves = fits
takes_stage P c reply Begins orderly fits leaves = fits
takes_stage P c reply Runs orderly fits leaves = fits
takes_stage P c reply (Waits Go) orderly fits leaves = absurd orderly.asks
takes_stage P c reply (Waits Begin) orderly fits leaves = absurd orderly.asks
takes_stage P c reply (Waits End) orderly fits leaves = absurd orderly.asks
takes_stage P c reply (Waits (Over e)) orderly fits leaves = absurd orderly.asks
takes_stage P c reply (Waits (Read x)) orderly fits leaves = fits
takes_stage P c reply (Waits (Write x a)) orderly fits leaves = fits
takes_stage P c reply (Waits (VRead v)) orderly fits leaves = fits
takes_stage P c reply (Waits (VWrite v a)) orderly fits leaves = fits
takes_stage P c reply (Waits (Enter o)) orderly fits leaves = fits
takes_stage P c reply (Waits (Exit o)) orderly fits leaves = fits
takes_stage P c reply (Waits (Fork f a)) orderly fits leaves = fits
takes_stage P c reply (Waits (Join u)) orderly fits leaves = fits
takes_stage P c reply (Waits (Alloc k)) orderly fits leaves = fits
takes_stage P c reply (Waits (Print a)) orderly fits leaves = fits
takes_stage P c reply (Waits Input) orderly fits leaves = fits
takes_stage P c reply (Waits TxBegin) orderly fits leaves = fits
takes_stage P c reply (Waits (TxEnd keep)) orderly fits leaves = fits
takes_stage P c reply (Drops failure) orderly fits leaves = fits
takes_stage P c reply (Leaves ending o) orderly fits leaves = leaves orderly.entered
takes_stage P c reply (Ends ending) orderly fits leaves = fits
takes_stage P c reply (IsOver ending) orderly fits leaves = cc

-- an orderly thread takes a suitable reply that leaves rightly
pub takes_told : (P : Bytecode) (c : Config) (reply : Reply) → IsOrderly P c → suits c.attempt (ask_of c.stage) reply ≡ true
    → LeavesRightly c (ask_of c.stage) reply → takes c reply ≡ true
takes_told P c reply orderly fits leaves = takes_stage P c reply c.stage orderly.stage fits leaves

-- ## One answer more

-- a progress that goes along a list goes along it with one exchange more
along_more :
    (P : Bytecode) (steps t : ℕ) (list : List Entry) (p q : Progress) (x : Exchange) → Along P steps t list p → told_one P x p ≡ Some q →
    without_trims (entries_of (x ∷ [])) ≡ entries_of (x ∷ []) → Along P steps t (list ++ entries_of (x ∷ [])) q
along_more P steps t list p q (Made e) along told kept = along_made P steps t list p q e along told kept
along_more P steps t list p q (Quiet r) along told kept =
    let at : List Entry → Type 0 = λ es. Along P steps t es q in
    subst at (sym (append-nil list)) (along_quiet P steps t list p q r along told)

-- what an answer does to a life is what it does to a thread's state
life_by : (ask : Ask) (s : ThreadState) → life_told ask (life_of_state s) ≡ life_of_state (state_told ask s)
life_by Go s = refl
life_by Begin s = refl
life_by End s = refl
life_by (Over e) s = refl
life_by (Read x) s = refl
life_by (Write x a) s = refl
life_by (VRead v) s = refl
life_by (VWrite v a) s = refl
life_by (Enter o) s = refl
life_by (Exit o) s = refl
life_by (Fork f a) s = refl
life_by (Join u) s = refl
life_by (Alloc k) s = refl
life_by (Print a) s = refl
life_by Input s = refl
life_by TxBegin s = refl
life_by (TxEnd keep) s = refl

-- a thread that rides on its list rides on after a right answer
pub rides_on :
    (P : Bytecode) (id : TableId) (c : Config) (reply : Reply) (own new : Own) (txn after : Option Attempting) → Rides P id c own txn →
    IsAnswered P c (ask_of c.stage) reply own new txn after → AsksInRange P (ask_of (next P c reply).stage) →
    is_some (next P c reply).attempt ≡ runs_after (ask_of c.stage) (is_some c.attempt) → Rides P id (next P c reply) new after
rides_on P id c reply own new txn after rides answered range attempt =
    let d = next P c reply in
    let ask = ask_of c.stage in
    let p = progress_of c txn in
    let taken : takes c reply ≡ true = takes_told P c reply rides.orderly answered.fitting answered.leaves in
    let f : Falls P c ask reply d = step_falls P c reply rides.orderly taken in
    let told : told_one P answered.exchange p ≡ Some (progress_of d after) =
    ap (replied P p) answered.gives
    ∙ ap (λ b. if b then Some (let q : Progress = record { config = d; looks = looks_after p ask reply; writes = writes_after p ask reply }
    in q) else None) taken
    ∙ (λ i. Some (record { config = d; looks = sym answered.looks i; writes = sym answered.writes i })) in
    let same_id : new.id ≡ own.id = ap (λ (v : Own). v.id) answered.rest in
    let bound = f.limit in
    let short = rides.short in
    record {
      along =
          (let at : ℕ × ℕ × List Entry → Type 0 = λ t. Along P t.0 t.1 t.2 (progress_of d after) in
          subst at (λ i. (sym f.limit i, sym same_id i, sym answered.mine i))
          (along_more P c.limit own.id own.mine p (progress_of d after) answered.exchange rides.along told answered.kept));
      short = omega arith;
      fits = Fits-next P c reply rides.fits taken answered.starts;
      orderly = f.orderly;
      in_range = range;
      running = answered.running ∙ ap (runs_after ask) rides.running ∙ sym attempt;
      life = answered.life ∙ ap (life_told ask) rides.life ∙ life_by ask (state_at 0 c.stage) ∙ ap life_of_state (sym (f.state 0));
      levels = answered.levels ∙ ap (levels_told ask reply) rides.levels ∙ sym f.levels;
      table = ap (λ (v : Own). v.table) answered.rest ∙ rides.table;
      held = ap (λ (v : Own). v.held) answered.rest ∙ rides.held;
      spares = spares_on own new answered.exchange rides.spares answered.repeats answered.mine;
      drawn = answered.drawn;
    }

-- ## Trims

-- a progress that goes along a list goes along it with trims after it
along_trims : (P : Bytecode) (steps t : ℕ) (list ts : List Entry) (p : Progress) → Along P steps t list p → AreTrims ts
    → Along P steps t (list ++ ts) p
along_trims P steps t list [] p along trims =
    (let at : List Entry → Type 0 = λ es. Along P steps t es p in subst at (sym (append-nil list)) along)
along_trims P steps t list (Trim low ∷ ts) p along trims =
    let at : List Entry → Type 0 = λ es. Along P steps t es p in
    subst at (append_assoc list (Trim low ∷ []) ts)
    (along_trims P steps t (list ++ Trim low ∷ []) ts p (along_trim P steps t list p low along) trims)
along_trims P steps t list (Sync at act value ∷ ts) p along trims = absurd trims
along_trims P steps t list (Commit at tx ∷ ts) p along trims = absurd trims
along_trims P steps t list (Plain x n k w v r ∷ ts) p along trims = absurd trims
along_trims P steps t list (Abort tx why ∷ ts) p along trims = absurd trims
along_trims P steps t list (Ended' e ∷ ts) p along trims = absurd trims

-- draws stay right when what is drawn is the same
draws_same : (txn : Option Attempting) (old new : Own) → new.drawn ≡ old.drawn → DrawsFor txn old → DrawsFor txn new
draws_same None old new same draws = same ∙ draws
draws_same (Some a) old new same draws = record {
  looks = λ y k value. (
    (λ there. (draws.looks y k value).0 (rw same at there)),
    (λ there. rw same ((draws.looks y k value).1 there)),
  );
  ends = λ y k there. draws.ends y k (rw same at there);
  each = λ y. rw same (draws.each y);
}

-- a thread that rides rides on after its list was swept, if its life is open
pub rides_swept : (P : Bytecode) (id : TableId) (c : Config) (old new : Own) (txn : Option Attempting) → Rides P id c old txn
    → IsOpen (life_of old.mine) → IsSwept old new → Rides P id c new txn
rides_swept P id c old new txn rides goes swept =
    let id : new.id ≡ old.id = ap (λ (v : Own). v.id) swept.own in
    let mine : new.mine ≡ old.mine ++ swept.trims = ap (λ (v : Own). v.mine) swept.own in
    record {
      along =
          (let at : ℕ × List Entry → Type 0 = λ t. Along P c.limit t.0 t.1 (progress_of c txn) in
          subst at (λ i. (sym id i, sym mine i)) (along_trims P c.limit old.id old.mine swept.trims (progress_of c txn) rides.along
          swept.are_trims));
      short = rides.short;
      fits = rides.fits;
      orderly = rides.orderly;
      in_range = rides.in_range;
      running = rides.running;
      life = ap life_of mine ∙ life_swept old.mine swept.trims goes swept.are_trims ∙ rides.life;
      levels = ap levels_of mine ∙ levels_swept old.mine swept.trims swept.are_trims ∙ rides.levels;
      table = ap (λ (v : Own). v.table) swept.own ∙ rides.table;
      held = ap (λ (v : Own). v.held) swept.own ∙ rides.held;
      spares = (let at : List Entry → Type 0 = λ es. Spares es
          in subst at (sym mine) (spares_trims old.mine swept.trims rides.spares swept.are_trims));
      drawn = draws_same txn old new (ap (λ (v : Own). v.drawn) swept.own) rides.drawn;
    }

-- ## Words that are written back

-- a thread that rides rides on after something owed was paid
pub rides_paid : (P : Bytecode) (id : TableId) (c : Config) (old new : Own) (txn : Option Attempting) → Rides P id c old txn → new
    ≡ record old { owed = new.owed } → Rides P id c new txn
rides_paid P id c old new txn rides paid = rw paid (record {
  along = rides.along;
  short = rides.short;
  fits = rides.fits;
  orderly = rides.orderly;
  in_range = rides.in_range;
  running = rides.running;
  life = rides.life;
  levels = rides.levels;
  table = rides.table;
  held = rides.held;
  spares = rides.spares;
  drawn = draws_same txn old (record old { owed = new.owed }) refl rides.drawn;
})

-- ## What the calls ask

-- a thread that rides has fewer counted entries than 2 ^ 50
pub rides_few : (P : Bytecode) (id : TableId) (c : Config) (own : Own) (txn : Option Attempting) → Rides P id c own txn
    → counted own.mine < 2 ^ 50
rides_few P id c own txn rides =
    let bound = entries_bounded P c.limit own.id own.mine (progress_of c txn) rides.along in
    let same = counted_same own.mine in
    let within = rides.orderly.within in
    let short = rides.short in
    omega arith
