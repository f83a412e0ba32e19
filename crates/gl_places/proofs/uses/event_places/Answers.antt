use Rattle.std.proofs.Common.{◌≡◌, ◌∙◌, ap, arith, map, length}
use Rattle.std.proofs.lemmas.List.{length-map, map-set}
use Rattle.gl_places.specs.declared.uses.Use.{Use as StoredUse}
use Rattle.gl_places.specs.Places.{seen}
use Rattle.gl_places.specs.Uses.{positions_of, use_seen}
use Rattle.gl_places.proofs.EventPlaces.{all_uses, put_all, put_more, put_none, within}
use Rattle.gl_places.proofs.UsesMade.{seen_at}
use Rattle.gl_places.proofs.uses.event_places.Goals as goal

abbrev no_use : StoredUse
no_use = record { place = record { thread = 0; index = 0 }; number = 0 }

pub loop-event-init : goal.loop-event-init
loop-event-init c =
    let places = c.in_ok-places.places.ok.0 in
    let uses = c.in_ok-uses.uses.ok.0 in
    let made = c.in_ok-places.ensures.len in
    let counted = c.len.ensures in
    let long : length c.in_ok-places.places.items ≡ length c.in_ok-uses.uses.items = omega arith in
    put_none c.in_ok-uses.uses.items (positions_of c.args.made.now) c.in_ok-uses.ensures c.in_ok-places.places.items long

pub index_mut-requires : goal.index_mut-requires
index_mut-requires c =
    let made = c.args.made.now in
    let k = c.loop-event.event-index in
    let are : map use_seen c.deref-event-items.result.now ≡ positions_of made = ap (map use_seen) c.deref-event-items.ensures.value
    ∙ c.in_ok-uses.ensures in
    let at = seen_at c.deref-event-items.result.now (positions_of made) k no_use are c.loop-event-test.true in
    let less = within made c.keeps.ensures c.requires.listed k _ _ at in
    let long = c.loop-event.invariant.long in
    let same = length-map c.loop-event.places.items seen in
    omega arith

pub loop-event-preserved : goal.loop-event-preserved
loop-event-preserved c =
    let made = c.args.made.now in
    let k = c.loop-event.event-index in
    let are : map use_seen c.deref-event-items.result.now ≡ positions_of made = ap (map use_seen) c.deref-event-items.ensures.value
    ∙ c.in_ok-uses.ensures in
    let at = seen_at c.deref-event-items.result.now (positions_of made) k no_use are c.loop-event-test.true in
    put_more made c.keeps.ensures c.requires.listed k _ _ (map seen c.loop-event.places.items) _ c.loop-event.invariant at
    (map-set seen c.loop-event.places.items _ _)

pub returns : goal.returns
returns c =
    let made = c.args.made.now in
    let are : map use_seen c.deref-event-items.result.now ≡ positions_of made = ap (map use_seen) c.deref-event-items.ensures.value
    ∙ c.in_ok-uses.ensures in
    let long = all_uses c.deref-event-items.result.now (positions_of made) are in
    let past = c.loop-event-test.false in
    put_all made c.keeps.ensures c.requires.listed c.loop-event.event-index (map seen c.loop-event.places.items) (omega arith)
    c.loop-event.invariant
