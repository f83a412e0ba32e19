use Rattle.std.proofs.Common.{◌≡◌, ◌∙◌, ◌≤◌, [], List, ap, arith, get_or, length, map, subst, sym}
use Rattle.std.proofs.lemmas.List.{length-map}
use Rattle.gl_places.specs.Uses.{Use, UseFailsAt, use_seen}
use Rattle.gl_listing.specs.Looking.{AreInOrder}
use Rattle.gl_listing.proofs.Adding.{item_seen}
use Rattle.gl_listing.proofs.Found.{IsFound, found_all, found_more}
use Rattle.gl_listing.proofs.draws.Draws.first_wrong.Goals as goal

pub first_wrong-requires : goal.first_wrong-requires
first_wrong-requires c =
    let i = c.loop-list.list-index in
    let are = ap (map (λ us. map use_seen us.items)) c.deref-list-items.ensures.value ∙ c.self.view_is in
    let one : map use_seen c.deref.result.now ≡ get_or c.args.self.now i [] =
    ap (map use_seen) c.deref.ensures.value
    ∙ item_seen (λ us. map use_seen us.items) c.deref-list-items.result.now c.args.self.now i c.list-item.result are c.list-item.is
    c.loop-list-test.true in
    record { in_order = subst AreInOrder (sym one) (c.requires i) }

pub loop-list-preserved : goal.loop-list-preserved
loop-list-preserved c =
    let i = c.loop-list.list-index in
    let are = ap (map (λ us. map use_seen us.items)) c.deref-list-items.ensures.value ∙ c.self.view_is in
    let one : map use_seen c.deref.result.now ≡ get_or c.args.self.now i [] =
    ap (map use_seen) c.deref.ensures.value
    ∙ item_seen (λ us. map use_seen us.items) c.deref-list-items.result.now c.args.self.now i c.list-item.result are c.list-item.is
    c.loop-list-test.true in
    let P : List Use → Type 0 = λ us. IsFound (UseFailsAt us) c.in_ok-found.found in
    found_more c.args.self.now i c.loop-list.first c.in_ok-found.found c.earlier-first.result c.loop-list.invariant
    (subst P one c.in_ok-found.ensures) c.earlier-first.ensures

pub returns : goal.returns
returns c =
    let items = c.deref-list-items.result.now in
    let are = ap (map (λ us. map use_seen us.items)) c.deref-list-items.ensures.value ∙ c.self.view_is in
    let past : length c.args.self.now ≤ c.loop-list.list-index =
    (let same = ap length are in let long = length-map items (λ us. map use_seen us.items) in let end = c.loop-list-test.false
    in omega arith) in
    found_all c.args.self.now c.loop-list.list-index c.loop-list.first past c.loop-list.invariant
