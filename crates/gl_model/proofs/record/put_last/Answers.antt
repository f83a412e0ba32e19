use Rattle.std.proofs.Common.{◌<◌, ◌≤◌, length, get_or, arith}
use Rattle.gl_model.specs.declared.record.ThreadList.{ThreadList}
use Rattle.gl_model.proofs.Pushed.{on_ok, append_seen, start_seen, above_default}
use Rattle.gl_model.proofs.record.put_last.Goals as goal
use Rattle.gl_model.proofs.record.put_last.Goals.{else-i-len-via-then-i-len+else-index-thread, else-i-len-via-else-i-len}

pub returns-then-index-thread-clause-ok : goal.returns-then-index-thread-clause-ok
returns-then-index-thread-clause-ok c =
    let same = c.deref.ensures.value in
    let long = c.deref.ensures.len in
    let m : c.place_of-i.result < length c.deref.result.now = omega arith in
    let n : c.place_of-i.result < length c.args.lists.now.items = rw same at m in
    on_ok c.append_at.result _ _ (append_seen c.deref.result.now c.args.lists.now.items c.append_at.new.lists.items c.place_of-i.result
    c.args.thread c.args.entry same c.place_of-i.ensures.below c.index.result.now n c.index.ensures c.if-index-thread.true)
    c.append_at.ensures.ok

pub returns-clause-ok : goal.returns-clause-ok
returns-clause-ok c =
    let same = c.deref.ensures.value in
    let n : c.place_of-i.result ≤ length c.args.lists.now.items = rw same at c.place_of-i.ensures.within in
    on_ok c.start_at.result _ _ (start_seen c.deref.result.now c.args.lists.now.items c.start_at.new.lists.items c.place_of-i.result
    c.args.thread c.args.entry same c.place_of-i.ensures.below n above) c.start_at.ensures.ok
  where
    above : (d : ThreadList) → c.place_of-i.result < length c.args.lists.now.items
        → c.args.thread < (get_or c.args.lists.now.items c.place_of-i.result d).thread
    above d l = elim c.else-i-len.branch [
      | else-i-len-via-then-i-len+else-index-thread w ↦
          above_default c.args.lists.now.items c.place_of-i.result c.args.thread w.index.result.now d l w.index.ensures
          w.if-index-thread.false (rw c.deref.ensures.value at c.place_of-i.ensures.here)
      | else-i-len-via-else-i-len w ↦ absurd (let s = c.deref.ensures.len in let f = w.if-i-len.false
          in let m : c.place_of-i.result < length c.deref.result.now = rw c.deref.ensures.value l in omega arith)
    ]
