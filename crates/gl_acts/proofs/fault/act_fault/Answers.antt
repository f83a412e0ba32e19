use Rattle.std.proofs.Common.{◌≡◌, ◌<◌, ◌^◌, List, arith, length, map, subst, sym}
use Rattle.std.specs.Prelude.{slice_index_or}
use Rattle.std.proofs.lemmas.List.{length-map}
use Rattle.gl_bytecode.specs.Lawful.{setting_of}
use Rattle.gl_model.specs.Lists.{lists_of}
use Rattle.gl_model.specs.Machine.{start}
use Rattle.gl_model.specs.Records.{Lists}
use Rattle.gl_places.specs.declared.place.Place.{Place as StoredPlace}
use Rattle.gl_places.specs.Places.{AreEventPlaces, seen as seen_place}
use Rattle.gl_state.proofs.Starting.{first_is}
use Rattle.gl_state.specs.ListView.{ListView}
use Rattle.gl_state.specs.States.{IsStateOf}
use Rattle.gl_acts.proofs.Walking.{are_shallow, at_start, goes_on, IsFar, seen_at, stops, walked}
use Rattle.gl_acts.proofs.fault.act_fault.Goals as goal

-- the place that a loop's element is said by past its end
abbrev first : StoredPlace
first = record { thread = 0; index = 0 }

-- so many places as the program has
long : (xs : List StoredPlace) → length (map seen_place xs) ≡ length xs
long xs = length-map xs seen_place

-- the places that the loop walks are those of the events
walks : (R : Lists) (xs ys : List StoredPlace) → xs ≡ ys → AreEventPlaces R (map seen_place ys) → AreEventPlaces R (map seen_place xs)
walks R xs ys same places = subst (λ (z : List StoredPlace). AreEventPlaces R (map seen_place z)) (sym same) places

pub loop-place-init : goal.loop-place-init
loop-place-init c =
    let setting = setting_of c.args.program.now c.args.inputs.now in
    at_start setting (lists_of c.args.made.now) c.in_ok-state.state
    (subst (λ (z : ListView). IsStateOf z (start (setting_of c.args.program.now c.args.inputs.now))) (sym c.in_ok-state.ensures)
    (first_is setting c.main.result (sym c.main.ensures.value)))

pub makes_step-requires : goal.makes_step-requires
makes_step-requires c =
    let xs = c.deref-place-items.result.now in
    let R = lists_of c.args.made.now in
    let setting = setting_of c.args.program.now c.args.inputs.now in
    let places = walks (lists_of c.args.made.now) xs c.in_ok-places.places.items c.deref-place-items.ensures.value c.in_ok-places.ensures in
    let many : length (map seen_place xs) ≡ length xs = long xs in
    let less : c.loop-place.place-index < length xs = c.loop-place-test.true in
    let few : length xs < 2 ^ 62 = omega (arith, c.deref-place-items.type_inv.1) in
    are_shallow setting R (map seen_place xs) places
    c.loop-place.place-index c.loop-place.state (omega arith) (omega arith) c.loop-place.invariant

pub returns-then-not-makes_step : goal.returns-then-not-makes_step
returns-then-not-makes_step c =
    let xs = c.deref-place-items.result.now in
    let R = lists_of c.args.made.now in
    let setting = setting_of c.args.program.now c.args.inputs.now in
    let places = walks (lists_of c.args.made.now) xs c.in_ok-places.places.items c.deref-place-items.ensures.value c.in_ok-places.ensures in
    let many : length (map seen_place xs) ≡ length xs = long xs in
    let less : c.loop-place.place-index < length xs = c.loop-place-test.true in
    let k = c.loop-place.place-index in
    stops setting R (map seen_place xs) places
    k (seen_place (slice_index_or xs k first)) c.loop-place.state (omega arith)
    (seen_at xs k first less) c.loop-place.invariant c.if-not-makes_step.ensures

pub loop-place-preserved : goal.loop-place-preserved
loop-place-preserved c =
    let xs = c.deref-place-items.result.now in
    let R = lists_of c.args.made.now in
    let setting = setting_of c.args.program.now c.args.inputs.now in
    let places = walks (lists_of c.args.made.now) xs c.in_ok-places.places.items c.deref-place-items.ensures.value c.in_ok-places.ensures in
    let less : c.loop-place.place-index < length xs = c.loop-place-test.true in
    let k = c.loop-place.place-index in
    goes_on setting R (map seen_place xs) places
    k (seen_place (slice_index_or xs k first)) c.loop-place.state c.makes_step.new.state
    (seen_at xs k first less) c.loop-place.invariant c.if-not-makes_step.ensures

pub returns : goal.returns
returns c =
    let xs = c.deref-place-items.result.now in
    let R = lists_of c.args.made.now in
    let setting = setting_of c.args.program.now c.args.inputs.now in
    let places = walks (lists_of c.args.made.now) xs c.in_ok-places.places.items c.deref-place-items.ensures.value c.in_ok-places.ensures in
    let many : length (map seen_place xs) ≡ length xs = long xs in
    let all : c.loop-place.place-index ≡ length (map seen_place xs) = omega
    (arith, c.loop-place.auto.place-index-end, c.loop-place-test.false) in
    walked setting R (map seen_place xs) places
    c.loop-place.state c.requires.form c.requires.listed
    (subst (λ n. IsFar (setting_of c.args.program.now c.args.inputs.now) (lists_of c.args.made.now) n c.loop-place.state) all
    c.loop-place.invariant)
