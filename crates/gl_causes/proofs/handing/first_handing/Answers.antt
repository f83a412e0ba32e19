use Rattle.std.proofs.Common.{◌≡◌, ◌<◌, ◌≤◌, ◌∙◌, Some, None, ap, refl, sym, length, arith, if◌then◌else◌, nat_lt}
use Rattle.std.specs.Prelude.{slice_get}
use Rattle.std.proofs.lemmas.List.{length-map}
use Rattle.std.proofs.lemmas.Option.{slice_get-get_or}
use Rattle.gl_model.specs.Entries.{seen}
use Rattle.gl_model.specs.Lists.{lists_of}
use Rattle.gl_places.specs.Places.{seen as seen_place}
use Rattle.gl_causes.specs.Handing.{entry_way}
use Rattle.gl_causes.proofs.Handings.{entry_at, hands_on, listed, none_left, none_more}
use Rattle.gl_causes.proofs.handing.first_handing.Goals as goal

pub returns-in-Some : goal.returns-in-Some
returns-in-Some c =
    let R = lists_of c.args.made.now in
    let t = c.args.place.thread in
    let list = c.in_ok-list.list.now in
    let n = c.loop-index.index in
    let e = c.index-list-index.result in
    let less : n < length list = omega arith in
    let at : slice_get list n ≡ Some e = slice_get-get_or list n _ less ∙ ap Some (sym c.index-list-index.is) in
    let told : (if nat_lt c.args.place.index n then entry_way (seen e) else None) ≡ Some c.in-Some.way =
    sym c.way_behind.ensures ∙ c.in-Some.is in
    let hands = hands_on (seen_place c.args.place) n (seen e) c.in-Some.way told in
    record {
      entry = seen e;
      thread = refl;
      behind = hands.0;
      there = entry_at R t list n e (listed c.args.made.now t list c.in_ok-list.ensures) at;
      hands = hands.1;
      first = c.loop-index.invariant;
    }

pub loop-index-preserved : goal.loop-index-preserved
loop-index-preserved c =
    let R = lists_of c.args.made.now in
    let t = c.args.place.thread in
    let list = c.in_ok-list.list.now in
    let n = c.loop-index.index in
    let e = c.index-list-index.result in
    let less : n < length list = omega arith in
    let at : slice_get list n ≡ Some e = slice_get-get_or list n _ less ∙ ap Some (sym c.index-list-index.is) in
    let told : (if nat_lt c.args.place.index n then entry_way (seen e) else None) ≡ None =
    sym c.way_behind.ensures ∙ c.in_default.is in
    none_more R (seen_place c.args.place) n (seen e) c.loop-index.invariant
    (entry_at R t list n e (listed c.args.made.now t list c.in_ok-list.ensures) at) told

pub returns : goal.returns
returns c =
    let R = lists_of c.args.made.now in
    let t = c.args.place.thread in
    let list = c.in_ok-list.list.now in
    let end : length list ≤ c.loop-index.index = omega arith in
    let same = listed c.args.made.now t list c.in_ok-list.ensures in
    let long : length (R t) ≡ length list = ap length same ∙ length-map list seen in
    none_left R (seen_place c.args.place) c.loop-index.index c.loop-index.invariant (omega (arith, end, long))
