use Rattle.std.proofs.Common.{◌≡◌, ◌+◌, ◌∙◌, ap, sym, subst, arith, length, map, refl, take, Some, None}
use Rattle.std.specs.Prelude.{slice_get}
use Rattle.gl_causes.specs.Judging.{IsLatest, later, race_number, races_among}
use Rattle.gl_causes.specs.Stands.{Stand, stand_seen}
use Rattle.gl_causes.proofs.Walks.{at_seen, count_none, count_some, latest_none, latest_some, taken}
use Rattle.gl_causes.proofs.races.find.Goals as goal
use Rattle.gl_causes.proofs.races.find.Goals.{in-Some, in_default}

pub loop-place-preserved : goal.loop-place-preserved
loop-place-preserved c =
    let stands = c.args.stands.now in
    let ss = map stand_seen stands in
    let a = c.args.asked.now in
    let i = c.loop-place.place-index in
    let s : Stand = stand_seen c.loop-place-item.result in
    let here : slice_get (map stand_seen stands) i ≡ Some (stand_seen c.loop-place-item.result) =
    at_seen stand_seen stands i c.loop-place-item.result c.loop-place-test.true
    ∙ ap (λ x. Some (stand_seen x)) (sym c.loop-place-item.is) in
    let more = taken ss i s here in
    let before = c.loop-place.invariant in
    elim c.match-race_number.branch [
      | in-Some w ↦
          (let k = w.in-Some.nth in
          let some : race_number a s ≡ Some k = sym w.in-Some.ensures in
          record {
            last = subst (IsLatest a (take (i + 1) ss)) (sym (w.last-is ∙ w.later-last.ensures))
                (subst (λ l. IsLatest a l (later c.loop-place.last (record { place = c.loop-place-item.result.0; nth = k }))) (sym more)
                (latest_some a (take i ss) s c.loop-place.last c.loop-place-item.result.0 k some refl before.last));
            count = w.count-is ∙ ap (λ n. n + 1) before.count ∙ sym (count_some a (take i ss) s k some)
                ∙ ap (λ l. length (races_among a l)) (sym more);
            few = rw w.count-is (let f = before.few in omega arith);
          })
      | in_default w ↦
          (let none : race_number a s ≡ None = sym w.in_default.ensures in
          record {
            last = subst (IsLatest a (take (i + 1) ss)) (sym w.last-is)
                (subst (λ l. IsLatest a l c.loop-place.last) (sym more) (latest_none a (take i ss) s c.loop-place.last none before.last));
            count = w.count-is ∙ before.count ∙ sym (count_none a (take i ss) s none) ∙ ap (λ l. length (races_among a l)) (sym more);
            few = rw w.count-is (let f = before.few in omega arith);
          })
    ]
