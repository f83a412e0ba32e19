use Rattle.std.proofs.Common.{arith, map, refl}
use Rattle.std.proofs.lemmas.List.{length-map}
use Rattle.gl_places.specs.declared.uses.Use.{Use as StoredUse}
use Rattle.gl_places.specs.Uses.{numbers_in, use_seen}
use Rattle.gl_places.proofs.UsesMade.{number_of, seen_at}
use Rattle.gl_listing.proofs.Found.{first_place, nowhere}
use Rattle.gl_listing.proofs.Marking.{met_all, met_more, met_wrong}
use Rattle.gl_listing.proofs.wrong.first_wrong.Goals as goal

abbrev no_use : StoredUse
no_use = record { place = record { thread = 0; index = 0 }; number = 0 }

pub returns-then-not-mark : goal.returns-then-not-mark
returns-then-not-mark c =
    let us = map use_seen c.args.uses.now in
    let k = c.loop-tried.tried-index in
    let at = seen_at c.args.uses.now us k no_use refl c.loop-tried-test.true in
    first_place us c.requires.in_order k _ at
    (met_wrong (numbers_in us) k _ c.loop-tried.met.items c.loop-tried.invariant (number_of us k _ at) c.if-not-mark.ensures)

pub loop-tried-preserved : goal.loop-tried-preserved
loop-tried-preserved c =
    let us = map use_seen c.args.uses.now in
    let k = c.loop-tried.tried-index in
    let at = seen_at c.args.uses.now us k no_use refl c.loop-tried-test.true in
    met_more (numbers_in us) k _ c.loop-tried.met.items _ c.loop-tried.invariant (number_of us k _ at) c.if-not-mark.ensures

pub returns : goal.returns
returns c =
    let us = map use_seen c.args.uses.now in
    let past = c.loop-tried-test.false in
    let uses = length-map c.args.uses.now use_seen in
    let numbers = length-map us (λ u. u.1) in
    nowhere us (met_all (numbers_in us) c.loop-tried.tried-index c.loop-tried.met.items (omega arith) c.loop-tried.invariant)
