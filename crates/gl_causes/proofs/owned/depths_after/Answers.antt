use Rattle.std.proofs.Common.{◌≡◌, ◌<◌, ◌≤◌, ◌∙◌, ap, sym, subst, arith, length, map, take, Some}
use Rattle.std.specs.Prelude.{slice_get}
use Rattle.std.proofs.lemmas.List.{get_or-replicate}
use Rattle.gl_model.specs.Entries.{seen}
use Rattle.gl_model.specs.declared.limits.TheConstants.{MONITORS}
use Rattle.gl_causes.specs.Owned.{AreDepths}
use Rattle.gl_raised.proofs.Kept.{at_kept}
use Rattle.gl_causes.proofs.Owning.{none_entered}
use Rattle.gl_causes.proofs.Walks.{taken}
use Rattle.gl_causes.proofs.owned.depths_after.Goals as goal
use Rattle.gl_raised.proofs.Gathering.{seen_at}

pub loop-i-init : goal.loop-i-init
loop-i-init c = record {
  depths = none_entered;
  within = λ m h. subst (λ d. d ≤ 0) (sym (get_or-replicate MONITORS m 0 0 h)) (omega arith);
}

pub take_entry-requires-clause-kept : goal.take_entry-requires-clause-kept
take_entry-requires-clause-kept c =
    let list = c.args.list.now in
    let i = c.loop-i.i in
    let near : i < length list = (let a = c.loop-i-test.true in let b = c.requires.near in omega arith) in
    let there : slice_get (map seen list) i ≡ Some (seen c.index-list-i.result) = seen_at list i c.index-list-i.result near
    ∙ ap (λ x. Some (seen x)) (sym c.index-list-i.is) in
    at_kept (map seen list) c.requires.kept i (seen c.index-list-i.result) there

pub loop-i-preserved : goal.loop-i-preserved
loop-i-preserved c =
    let list = c.args.list.now in
    let i = c.loop-i.i in
    let near : i < length list = (let a = c.loop-i-test.true in let b = c.requires.near in omega arith) in
    let there : slice_get (map seen list) i ≡ Some (seen c.index-list-i.result) = seen_at list i c.index-list-i.result near
    ∙ ap (λ x. Some (seen x)) (sym c.index-list-i.is) in
    let more = taken (map seen list) i (seen c.index-list-i.result) there in
    let before = c.loop-i.invariant in record {
      depths = subst (λ l. AreDepths l c.take_entry.new.depths) (sym more)
          (c.take_entry.ensures.depths (take i (map seen list)) before.depths);
      within = c.take_entry.ensures.within i before.within;
    }
