use Rattle.std.proofs.Common.{◌≡◌, ◌+◌, arith, length, map, subst, sym}
use Rattle.std.proofs.lemmas.List.{length-map}
use Rattle.gl_model.specs.Lists.{lists_of}
use Rattle.gl_places.specs.Places.{seen as seen_place}
use Rattle.gl_raised.proofs.BlockRows.{AreRows, all_rows, next_row, place_at}
use Rattle.gl_raised.proofs.rows.block_clocks.Goals as goal

pub next_clock-requires-clause-event : goal.next_clock-requires-clause-event
next_clock-requires-clause-event c =
    let i = c.loop-place.place-index in
    let e = (c.requires.places i (seen_place _)).0 (place_at c.args.places.now i _ c.loop-place-test.true) in
    (i, (e.0, e.1))

pub loop-place-preserved : goal.loop-place-preserved
loop-place-preserved c =
    let R = lists_of c.args.made.now in
    let i = c.loop-place.place-index in
    let next = next_row R (map seen_place c.args.places.now) i _ c.loop-place.rows.items _ c.loop-place.tables c.next_clock.new.tables
    c.requires.places (place_at c.args.places.now i _ c.loop-place-test.true) c.loop-place.invariant c.in_ok-next_clock.ensures.sized
    c.in_ok-next_clock.ensures.clock in
    subst (λ rows. AreRows R (i + 1) rows c.next_clock.new.tables) (sym c.in_ok-push.ensures.items) next

pub returns : goal.returns
returns c =
    let R = lists_of c.args.made.now in
    let places = map seen_place c.args.places.now in
    let all : c.loop-place.place-index ≡ length places =
    (let a = c.loop-place-test.false in let b = c.loop-place.auto.place-index-end in let n = length-map c.args.places.now seen_place
    in omega arith) in
    all_rows R places c.loop-place.rows.items c.loop-place.tables c.requires.places
    (subst (λ i. AreRows R i c.loop-place.rows.items c.loop-place.tables) all c.loop-place.invariant)
