use Rattle.std.proofs.Common.{◌≡◌, [], ap, length, arith, map}
use Rattle.std.specs.Prelude.{unwrap_or}
use Rattle.gl_model.specs.Entries.{seen}
use Rattle.gl_model.specs.Lists.{lists_of}
use Rattle.gl_causes.specs.Stands.{stand_seen}
use Rattle.gl_causes.proofs.Standing.{next_thread}
use Rattle.gl_causes.proofs.stands.stands_of.Goals as goal
use Rattle.gl_causes.proofs.stands.stands_of.Goals.{in-Some+in_ok-add_list, in_default}

pub loop-thread-preserved : goal.loop-thread-preserved
loop-thread-preserved c =
    let R = lists_of c.args.made.now in
    let t = c.loop-thread.thread in
    elim c.match-thread.branch [
      | in-Some+in_ok-add_list w ↦ (let same : R t ≡ map seen w.in-Some.list.now = ap (λ o. unwrap_or o []) w.in-Some.ensures
          in rw w.stands-is (w.in_ok-add_list.ensures R same c.loop-thread.invariant))
      | in_default w ↦ (let none : R t ≡ [] = ap (λ o. unwrap_or o []) w.in_default.ensures
          in rw w.stands-is (next_thread R t 0 (map stand_seen c.loop-thread.stands.items) (let l = ap length none
          in omega arith) c.loop-thread.invariant))
    ]
