use Rattle.std.proofs.Common.{◌∙◌, ◌≤◌, ◌<◌, length, arith}
use Rattle.std.proofs.lemmas.List.{length-set}
use Rattle.gl_model.proofs.RisingLists.{moved_more, kept_more}
use Rattle.gl_model.proofs.rising.put_among.Goals as goal

pub loop-j-preserved : goal.loop-j-preserved
loop-j-preserved g c =
    let l = c.loop-j in
    let n : l.j < length l.parts = omega arith in
    let le : c.args.i ≤ l.j = omega arith in
    record {
      moved = moved_more l.parts c.args.parts.now c.args.i l.j c.args.x l.carried c.index-parts-j.result le n l.invariant.long
          c.index-parts-j.is l.invariant.kept l.invariant.moved;
      kept = kept_more l.parts c.args.parts.now l.j l.carried l.invariant.kept;
      long = length-set l.parts l.j l.carried ∙ l.invariant.long;
    }
