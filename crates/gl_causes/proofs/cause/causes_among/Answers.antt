use Rattle.std.proofs.Common.{◌≡◌, ◌+◌, ◌∙◌, ap, sym, subst, map, Some, None}
use Rattle.std.specs.Prelude.{slice_get}
use Rattle.gl_model.specs.Lists.{lists_of}
use Rattle.gl_places.specs.Places.{seen}
use Rattle.gl_causes.specs.Finding.{AreFound, IsFound}
use Rattle.gl_causes.specs.Judging.{refusal_of}
use Rattle.gl_causes.specs.Stands.{Stand, stand_seen}
use Rattle.gl_causes.proofs.Walks.{at_seen, found_none, found_some}
use Rattle.gl_causes.proofs.cause.causes_among.Goals as goal
use Rattle.gl_causes.proofs.cause.causes_among.Goals.{in-Some+in_ok-push, in_default}

pub cause_of-requires : goal.cause_of-requires
cause_of-requires c =
    let stands = c.args.stands.now in
    let i = c.loop-stand.stand-index in
    let here : slice_get (map stand_seen stands) i ≡ Some (stand_seen c.stand-item.result) =
    at_seen stand_seen stands i c.stand-item.result c.loop-stand-test.true ∙ ap (λ x. Some (stand_seen x)) (sym c.stand-item.is) in
    c.requires.races i (stand_seen c.stand-item.result) c.in-Some.refusal c.asked_of-asked.result here (sym c.in-Some.ensures)
    c.asked_of-asked.ensures

pub loop-stand-preserved : goal.loop-stand-preserved
loop-stand-preserved c =
    let stands = c.args.stands.now in
    let ss = map stand_seen stands in
    let rows = c.args.rows.now in
    let R = lists_of c.args.made.now in
    let i = c.loop-stand.stand-index in
    let s : Stand = stand_seen c.stand-item.result in
    let here : slice_get (map stand_seen stands) i ≡ Some (stand_seen c.stand-item.result) =
    at_seen stand_seen stands i c.stand-item.result c.loop-stand-test.true ∙ ap (λ x. Some (stand_seen x)) (sym c.stand-item.is) in
    let old = c.loop-stand.causes.items in
    elim c.match-refusal_of.branch [
      | in-Some+in_ok-push w ↦
          (let a = w.asked_of-asked.result in
          let e = w.cause_of.result in
          let found = w.cause_of.ensures in
          let own : IsFound R a ss e.at e = subst (λ p. IsFound R a ss p e) (sym found.at_is) found in
          rw w.causes-is (subst (AreFound R rows ss (i + 1)) (sym w.in_ok-push.ensures.items)
          (found_some R rows ss i s here old c.loop-stand.invariant w.in-Some.refusal a e (sym w.in-Some.ensures) (ap seen found.at_is)
          w.asked_of-asked.ensures own)))
      | in_default w ↦
          (let none : refusal_of s.entry ≡ None = sym w.in_default.ensures in
          rw w.causes-is (found_none R rows ss i s here old c.loop-stand.invariant none))
    ]
