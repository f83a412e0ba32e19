use Rattle.std.proofs.Common.{rules, ◌≡◌, ◌+◌, ◌-◌, refl, subst, arith, length, map, Some}
use Rattle.gl_core.specs.Cells.{at}
use Rattle.gl_model.specs.Lists.{lists_of}
use Rattle.gl_causes.specs.Judging.{IsLatest, races_among}
use Rattle.gl_causes.specs.Leading.{IsPlacePassed}
use Rattle.gl_causes.specs.Stands.{stand_seen}
use Rattle.gl_causes.proofs.Walks.{some_counted}
use Rattle.gl_causes.proofs.cause.cause_of.Goals as goal

pub overflow_sub-result : goal.overflow_sub-result
overflow_sub-result c =
    let w = c.requires in
    let some = some_counted c.args.asked.now (map stand_seen c.args.stands.now) w.0 w.1.0 w.1.1.0 w.1.1.1.0 w.1.1.1.1 in
    let e = c.find-found.ensures.count in omega arith

pub returns : goal.returns
returns c =
    let a = c.args.asked.now in
    let ss = map stand_seen c.args.stands.now in
    let w = c.requires in
    let some = some_counted a ss w.0 w.1.0 w.1.1.0 w.1.1.1.0 w.1.1.1.1 in
    let is : c.find-found.result.last ≡ Some c.unwrap-last.result = search rules in
    let e = c.find-found.ensures.count in
    let R = lists_of c.args.made.now in
    let t = c.unwrap-last.result.place.thread in
    let leading : IsPlacePassed (R t) t (at a.known t) c.last_known.result =
    subst (λ n. IsPlacePassed (R t) t n c.last_known.result) c.known_of.ensures c.last_known.ensures in
    record {
      at_is = refl;
      var_is = refl;
      nth = c.unwrap-last.result.nth;
      last = subst (IsLatest a ss) is c.find-found.ensures.last;
      leading = leading;
      others = (let z : length (races_among a ss) ≡ (c.find-found.result.count - 1) + 1 = omega arith in z);
    }
