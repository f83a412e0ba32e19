use Rattle.std.proofs.Common.{◌<◌, length, arith}
use Rattle.gl_model.proofs.Pushed.{on_ok, on_err, grown, put_back}
use Rattle.gl_model.proofs.record.append_at.Goals as goal

pub returns-clause-ok : goal.returns-clause-ok
returns-clause-ok c =
    let l = c.index_mut-list.result.now in
    let n : c.args.i < length c.args.lists.now.items = let ok = c.args.lists.now.ok in omega arith in
    on_ok c.append.result _ _ (λ more. grown c.args.lists.now.items c.args.i l c.append.new.self n c.index_mut-list.ensures.value
    c.args.entry c.append.ensures.thread more) c.append.ensures.ok

pub returns-clause-err : goal.returns-clause-err
returns-clause-err c =
    let l = c.index_mut-list.result.now in
    let n : c.args.i < length c.args.lists.now.items = let ok = c.args.lists.now.ok in omega arith in
    on_err c.append.result _ _ (λ refused w. (
      w.0,
      put_back c.args.lists.now.items c.args.i l c.append.new.self n
          c.index_mut-list.ensures.value c.append.ensures.thread w.1,
    )) c.append.ensures.err
