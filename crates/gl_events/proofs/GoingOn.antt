-- A pass that goes on behind an event of its own.
use Rattle.std.proofs.Common.{◌≡◌, ℕ, ℤ, suc, ◌∷◌, ◌++◌, [], refl, sym, ap, ◌∙◌, subst}
use Rattle.std.specs.Prelude.{List, Bool, true, false, if◌then◌else◌, ◌<◌, ◌^◌}
use Rattle.gl_model.specs.declared.event.Act.{Act}
use Rattle.gl_model.specs.declared.event.Act.TheVariants.{Rel, Fork, Fail}
use Rattle.gl_model.specs.Entries.{Entry, Sync}
use Rattle.gl_draws.specs.Ties.{counted}
use Rattle.gl_draws.proofs.Forming.{counted_push}
use Rattle.gl_rule.specs.Lives.{Life, Running, Unbegun, life_act, life_after, life_from, life_of}
use Rattle.gl_table.specs.Doing.{told}
use Rattle.gl_table.specs.PassView.{Own, PassView}
use Rattle.gl_table.specs.TableView.{TableView}
use Rattle.gl_events.specs.Answers.{MayCall}
use Rattle.gl_events.specs.Calls.{life_for}
use Rattle.gl_events.specs.declared.call.Call.{Call}

-- the life after two lists is the life after the second, from that after the first
life_appended : (life : Life) (xs ys : List Entry) → life_from life (xs ++ ys) ≡ life_from (life_from life xs) ys
life_appended life [] ys = refl
life_appended life (x ∷ xs) ys = life_appended (life_after life x) xs ys

-- an event is one entry more
pub one_more : (p q : PassView) (at : ℕ) (act : Act) (value : ℤ) → q.own ≡ told (Sync at act value) p.own → counted q.own.mine
    ≡ suc (counted p.own.mine)
one_more p q at act value is = ap (λ (o : Own). counted o.mine) is ∙ counted_push p.own.mine (Sync at act value) (λ h. h)

-- behind an event of a thread that runs, which leaves it running, it may call again while there is room
pub goes_on : (c : Call) (z : TableView) (p q : PassView) (at : ℕ) (act : Act) (value : ℤ)
    → MayCall c z p → life_for c ≡ Running → life_act act ≡ Running → q.own ≡ told (Sync at act value) p.own
    → 0 < q.spare → suc (counted p.own.mine) < 2 ^ 50 → MayCall c z q
goes_on c z p q at act value may runs stays is room few = record {
  table = ap (λ (o : Own). o.table) is ∙ may.table;
  held = ap (λ (o : Own). o.held) is ∙ may.held;
  drawn = ap (λ (o : Own). o.drawn) is ∙ may.drawn;
  owed = ap (λ (o : Own). o.owed) is ∙ may.owed;
  spare = room;
  few = subst (λ n. n < 2 ^ 50) (sym (one_more p q at act value is)) few;
  life = ap (λ (o : Own). life_of o.mine) is ∙ life_appended Unbegun p.own.mine (Sync at act value ∷ [])
      ∙ ap (λ l. life_after l (Sync at act value)) (may.life ∙ runs) ∙ stays ∙ sym runs;
}

-- a call that stopped left all of the pass's own as it was
pub stays : (c : Call) (z : TableView) (p q : PassView) → MayCall c z p → q.own ≡ p.own → q.spare ≡ p.spare → MayCall c z q
stays c z p q may same room = record {
  table = ap (λ (o : Own). o.table) same ∙ may.table;
  held = ap (λ (o : Own). o.held) same ∙ may.held;
  drawn = ap (λ (o : Own). o.drawn) same ∙ may.drawn;
  owed = ap (λ (o : Own). o.owed) same ∙ may.owed;
  spare = subst (λ n. 0 < n) (sym room) may.spare;
  few = subst (λ (o : Own). counted o.mine < 2 ^ 50) (sym same) may.few;
  life = ap (λ (o : Own). life_of o.mine) same ∙ may.life;
}

-- an exit leaves the thread running, whether it was in the monitor or not
pub exit_runs : (b : Bool) (monitor code : ℕ) → life_act (if b then Rel monitor else Fail code) ≡ Running
exit_runs true monitor code = refl
exit_runs false monitor code = refl

-- so does a fork, whether there is room for a thread or not
pub fork_runs : (b : Bool) (child func code : ℕ) → life_act (if b then Fork child func else Fail code) ≡ Running
fork_runs true child func code = refl
fork_runs false child func code = refl
