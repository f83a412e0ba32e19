-- What an Info that is noted for a line's access stands for.
use Rattle.std.proofs.Common.{◌≡◌, ℕ, ◌+◌, ◌-◌, ◌<◌, List, [], length, take, drop, refl, sym, ◌∙◌, ap, subst, arith, Some, None, Bool}
use Rattle.std.specs.Prelude.{◌↔◌, slice_range}
use Rattle.std.proofs.lemmas.List.{take_all, length_push}
use Rattle.std.proofs.lemmas.Option.{slice_get_within}
use Rattle.gl_model.specs.declared.event.Event.TheVariants.{Commit as Commits}
use Rattle.gl_model.specs.declared.event.Stamp.{Stamp}
use Rattle.gl_model.specs.declared.row.Info.{Info}
use Rattle.gl_model.specs.Edges.{EventAt}
use Rattle.gl_model.specs.Infos.{InfoFor, AreLeastOwned}
use Rattle.gl_model.specs.Lockset.{Has}
use Rattle.gl_model.specs.Locksets.{AfterAll, InitialLockset}
use Rattle.gl_model.specs.Machine.{State, Allows, Running, start, trace_setting}
use Rattle.gl_draws.proofs.EventTies.{new_event}
use Rattle.gl_draws.proofs.OwnInfo.{own_info}
use Rattle.gl_draws.proofs.Owners.{state_at, least_owned}
use Rattle.gl_judge.specs.Noted.{IsNewInfo}
use Rattle.gl_lines.specs.Traced.{Traced, block_of, with_stamp}
use Rattle.gl_lines.proofs.TraceEvents.{IsRecorded}
use Rattle.gl_lines.proofs.TracePlain.{block_here, block_goes_on}
use Rattle.gl_compare.specs.Rows.{asked_plain, asked_commit, asked_part}

-- the Info of a plain access that is made now
pub plain_info : (s : Traced) (now : State) → IsRecorded s now → (t : ℕ) → now.threads t ≡ Running → (held : List ℕ)
    → AreLeastOwned now t held → (write : Bool) (i : Info) → IsNewInfo (asked_plain t write held) (length s.history) i
    → InfoFor trace_setting s.history i (record { thread = t; block = block_of t s; variables = None }) i.write
plain_info s now r t running held own write i n =
    let b = block_here s now r t running in
    let there : block_of t s < length s.history = slice_get_within s.history (block_of t s) b.event b.here in
    let at = n.pos in
    let k = state_at trace_setting (start trace_setting) now s.history (block_of t s + 1) t r.allowed
    (λ p e here mine. let u = b.upto p e here mine in omega arith) in
    own_info trace_setting s.history now r.allowed (record { thread = t; block = block_of t s; variables = None })
    (record { event = b.event; here = b.here; own = b.own; goes_on = block_goes_on s now r t running }) refl b.upto i i.write n.thread refl
    n.commit k.state k.run (least_owned k.state now t i.held k.owns (subst (AreLeastOwned now t) (sym n.held) own)) (omega arith)
    (omega arith) n.set

-- the Info of a commit that is the last event
module _ (h log : List Stamp) (now : State) (allowed : Allows trace_setting log now) (t : ℕ) (xs : List ℕ) (is : log
    ≡ with_stamp h t (Commits xs)) (held : List ℕ) (own : AreLeastOwned now t held) (writes : List ℕ) (y : ℕ) (i : Info)
    (n : IsNewInfo (asked_part (asked_commit t xs held) writes y) (length log) i) where
  abbrev it : Stamp
  it = record { thread = t; event = Commits xs }

  -- the commit is one event more
  long : length log ≡ length h + 1
  long = ap length is ∙ length_push h it

  -- so many events of the list are all of it
  whole : take (length h + 1) log ≡ log
  whole = take_all (length h + 1) log (omega (arith, long))

  -- no event stands after it
  nothing : slice_range log (length h + 1) i.pos ≡ []
  nothing =
      let at = n.pos in
      let l = long in
      let none : i.pos - (length h + 1) ≡ 0 = omega arith in
      ap (λ k. take k (drop (length h + 1) log)) none

  -- the new Info stands for the part of the commit on y, as a write where it writes y
  pub commit_info : InfoFor trace_setting log i (record { thread = t; block = length h; variables = Some xs }) i.write
  commit_info =
      let at = n.pos in
      let l = long in
      record {
        access = record {
          event = it;
          there = subst (λ z. EventAt z (length h) it) (sym is) (new_event h it);
          own = refl;
          goes_on = λ e. cc;
          commit = λ ys v. cc;
        };
        thread = n.thread;
        write_mark = refl;
        commit_mark = (λ e. refl, λ e. n.commit);
        owner = now;
        before = subst (λ k. Allows trace_setting k now) (sym whole) allowed;
        held = subst (AreLeastOwned now t) (sym n.held) own;
        behind = omega arith;
        within = omega arith;
        set = λ z. subst (λ r. Has i.set z ↔ AfterAll (InitialLockset t (Some xs)) r z) (sym nothing) (n.set z);
      }
