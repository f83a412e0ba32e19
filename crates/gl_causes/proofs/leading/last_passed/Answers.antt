use Rattle.std.proofs.Common.{◌≡◌, ◌≤◌, ◌∙◌, ap, sym, map, length, arith, Some}
use Rattle.std.specs.Prelude.{slice_get}
use Rattle.std.proofs.lemmas.List.{length-map}
use Rattle.gl_model.specs.Entries.{seen}
use Rattle.gl_causes.proofs.Passing.{block_on, last_all, last_new, last_on, passed_not, passed_there}
use Rattle.gl_causes.proofs.leading.last_passed.Goals as goal
use Rattle.gl_causes.proofs.leading.last_passed.Goals.{then-is_passed, else-is_passed}
use Rattle.gl_raised.proofs.Gathering.{seen_at}

pub loop-index-preserved : goal.loop-index-preserved
loop-index-preserved c =
    let list = c.args.list.now in
    let es = map seen list in
    let i = c.loop-index.index in
    let e = seen c.index-list-index.result in
    let there : slice_get es i ≡ Some e = seen_at list i c.index-list-index.result c.loop-index-test.true
    ∙ ap (λ x. Some (seen x)) (sym c.index-list-index.is) in
    let so_far = c.loop-index.invariant in
    record {
      block = c.block_behind-block.ensures ∙ block_on es i e c.loop-index.block there so_far.block;
      last = elim c.if-is_passed.branch [
        | then-is_passed w ↦
            rw w.last-is (last_new es c.args.known i
            (passed_there es c.args.known i e c.loop-index.block there so_far.block (sym c.is_passed.ensures ∙ w.if-is_passed.true)))
        | else-is_passed w ↦
            rw w.last-is (last_on es c.args.known i c.loop-index.last
            (passed_not es c.args.known i e c.loop-index.block there so_far.block (sym c.is_passed.ensures ∙ w.if-is_passed.false))
            so_far.last)
      ];
    }

pub returns : goal.returns
returns c =
    let list = c.args.list.now in
    let n = length-map list seen in
    let all : length (map seen list) ≤ c.loop-index.index = (let a = c.loop-index-test.false in omega arith) in
    last_all (map seen list) c.args.known c.loop-index.index c.loop-index.last all c.loop-index.invariant.last
