use Rattle.std.proofs.Common.{◌≡◌, ◌≤◌, Some, length, map, refl, subst, sym, ◌∙◌, arith, slice_index_or}
use Rattle.std.specs.Prelude.{slice_get}
use Rattle.std.specs.List.{AllByRecursion}
use Rattle.gl_model.specs.Kept.{IsEntryKept}
use Rattle.gl_model.specs.Lists.{lists_of}
use Rattle.gl_places.specs.Places.{seen as seen_place}
use Rattle.gl_flat.proofs.KeptEntries.{lists_kept, walkable}
use Rattle.gl_flat.proofs.Passing.{all_passed, at_map_or, first_walk}
use Rattle.gl_flat.proofs.Tables.{map_length}
use Rattle.gl_flat.proofs.walk.flat_fault.Goals as goal

pub pass_block-requires-clause-kept : goal.pass_block-requires-clause-kept
pass_block-requires-clause-kept c =
    let event = slice_index_or c.args.events.now c.loop-event.event-index (record { thread = 0; index = 0 }) in
    subst (AllByRecursion IsEntryKept) (sym c.list_of-entries.ensures) (lists_kept c.args.made.now c.keeps.ensures event.thread)

pub returns-in-Some : goal.returns-in-Some
returns-in-Some c =
    let p = c.loop-event.event-index in
    let event = slice_index_or c.args.events.now p (record { thread = 0; index = 0 }) in
    let at : slice_get (map seen_place c.args.events.now) p ≡ Some (seen_place event) =
    at_map_or seen_place c.args.events.now p (record { thread = 0; index = 0 }) (omega arith) in
    let made = (c.requires.places p (seen_place event)).0 at in
    c.in-Some.ensures (lists_of c.args.made.now) (walkable c.args.made.now c.keeps.ensures c.requires.form c.requires.listed) event.thread p
    made.0 (sym c.list_of-entries.ensures) made.1 c.loop-event.invariant.1

pub loop-event-preserved : goal.loop-event-preserved
loop-event-preserved c =
    let p = c.loop-event.event-index in
    let event = slice_index_or c.args.events.now p (record { thread = 0; index = 0 }) in
    let at : slice_get (map seen_place c.args.events.now) p ≡ Some (seen_place event) =
    at_map_or seen_place c.args.events.now p (record { thread = 0; index = 0 }) (omega arith) in
    let made = (c.requires.places p (seen_place event)).0 at in (
      c.pass_block.auto.words ∙ c.loop-event.invariant.0,
      c.in_default.ensures (lists_of c.args.made.now) (walkable c.args.made.now c.keeps.ensures c.requires.form c.requires.listed)
          event.thread p made.0 (sym c.list_of-entries.ensures) made.1 c.loop-event.invariant.1,
    )

pub returns : goal.returns
returns c =
    let far : length (map seen_place c.args.events.now) ≤ c.loop-event.event-index =
    omega (arith, map_length seen_place c.args.events.now, c.loop-event-test.false) in
    all_passed (lists_of c.args.made.now) (walkable c.args.made.now c.keeps.ensures c.requires.form c.requires.listed)
    (map seen_place c.args.events.now) c.requires.places c.loop-event.event-index c.loop-event.words far c.loop-event.invariant.1

pub loop-event-init : goal.loop-event-init
loop-event-init c = (refl, first_walk (lists_of c.args.made.now) 1024)
