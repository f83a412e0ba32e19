use Rattle.std.proofs.Common.{◌≡◌, ◌∙◌, ◌+◌, ◌++◌, [], ℕ, Bor, ap, arith, map}
use Rattle.std.specs.Prelude.{unwrap_or}
use Rattle.std.proofs.lemmas.List.{append-nil}
use Rattle.gl_model.specs.Entries.{Entry, seen}
use Rattle.gl_model.specs.declared.record.Entry.{Entry as StoredEntry}
use Rattle.gl_report.specs.ByThread.{by_thread, with_thread}
use Rattle.gl_model.proofs.ThreadLists.{all_below, below, below_none}
use Rattle.gl_report.proofs.ByThread.{gathers_next}
use Rattle.gl_report.proofs.Reporting.{all_are}
use Rattle.gl_report.proofs.entries.entries_of.Goals as goal
use Rattle.gl_report.proofs.entries.entries_of.Goals.{in-Some+in_ok-add_list, in_default}

pub loop-thread-init : goal.loop-thread-init
loop-thread-init c = rw (c.new-entries.ensures.items, below_none c.args.made.now)

pub loop-thread-preserved : goal.loop-thread-preserved
loop-thread-preserved c =
    let made = c.args.made.now in
    let t = c.loop-thread.thread in
    let gathered = by_thread (below t made) in
    let next = gathers_next t made c.keeps.ensures.0 in
    elim c.match-thread.branch [
      | in-Some+in_ok-add_list w ↦
          (let more : by_thread (below (t + 1) made) ≡ gathered ++ with_thread (t, map seen w.in-Some.list.now) =
          next ∙ ap (λ o. gathered ++ with_thread (t, unwrap_or o [])) w.in-Some.ensures in
          cc (c.loop-thread.invariant, w.in_ok-add_list.ensures))
      | in_default w ↦
          (let more : by_thread (below (t + 1) made) ≡ gathered = next
          ∙ ap (λ o. gathered ++ with_thread (t, unwrap_or o [])) w.in_default.ensures ∙ append-nil gathered in
          cc (c.loop-thread.invariant))
    ]

pub returns : goal.returns
returns c =
    let made = c.args.made.now in
    let view : ℕ × Bor StoredEntry → ℕ × Entry = λ p. (p.0, seen p.1.now) in
    let are : map view c.loop-thread.entries.items ≡ by_thread made =
    c.loop-thread.invariant ∙ ap (λ n. by_thread (below n made)) (omega arith) ∙ ap by_thread (all_below made c.keeps.ensures.1) in
    record { by_thread = are; all = all_are view c.loop-thread.entries.items made are }
