use Rattle.std.proofs.Common.{◌≡◌, ◌≤◌, ◌+◌, ◌++◌, ◌∷◌, [], ◌∙◌, Some, ap, sym, map, arith, length, subst}
use Rattle.std.specs.Prelude.{slice_get}
use Rattle.std.proofs.lemmas.List.{length-map, map-append}
use Rattle.gl_model.specs.Entries.{seen}
use Rattle.gl_causes.specs.Stands.{AreStands, stand_seen}
use Rattle.gl_raised.specs.Gathers.{block_before}
use Rattle.gl_causes.proofs.Standing.{next_thread, stands_more}
use Rattle.gl_raised.proofs.Gathering.{block_more, seen_at}
use Rattle.gl_causes.proofs.stands.add_list.Goals as goal

pub loop-index-preserved : goal.loop-index-preserved
loop-index-preserved c =
    let list = c.args.list.now in
    let i = c.loop-index.index in
    let t = c.args.thread in
    let e = seen c.index-list-index.result in
    let at = c.block_after-block.result in
    let there : slice_get (map seen list) i ≡ Some e = seen_at list i c.index-list-index.result c.loop-index-test.true
    ∙ ap (λ x. Some (seen x)) (sym c.index-list-index.is) in
    let block = c.block_after-block.ensures ∙ block_more (map seen list) i c.loop-index.block e there c.loop-index.invariant.block in
    let more : map stand_seen c.push.new.self.items ≡ map stand_seen c.loop-index.stands.items
    ++ (record { place = record { thread = t; index = i }; block = at; entry = e }) ∷ [] = ap (map stand_seen) c.in_ok-push.ensures.items
    ∙ map-append stand_seen c.loop-index.stands.items _ in record {
      block = block;
      laid_out = λ R same start. subst (AreStands R (record { thread = t; index = i + 1 })) (sym more)
          (stands_more R t i at e (map stand_seen c.loop-index.stands.items) (ap (λ l. slice_get l i) same ∙ there)
          (block ∙ ap (λ l. block_before l (i + 1)) (sym same)) (c.loop-index.invariant.laid_out R same start));
    }

pub returns : goal.returns
returns c R same start =
    let n = length-map c.args.list.now seen in
    let whole : length (R c.args.thread) ≤ c.loop-index.index =
    (let a = c.loop-index-test.false in let l = ap length same in omega arith) in
    next_thread R c.args.thread c.loop-index.index (map stand_seen c.loop-index.stands.items) whole
    (c.loop-index.invariant.laid_out R same start)
