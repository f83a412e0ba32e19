use Rattle.std.proofs.Common.{Some, inl, map, subst, sym}
use Rattle.gl_model.specs.Lists.{lists_of}
use Rattle.gl_places.specs.Places.{AreEventPlaces, seen as seen_place}
use Rattle.gl_flat.proofs.Faulty.{decides, decides_all}
use Rattle.gl_flat.proofs.fault.word_fault.Goals as goal

pub flat_fault-requires-clause-places : goal.flat_fault-requires-clause-places
flat_fault-requires-clause-places c = subst (λ l. AreEventPlaces (lists_of c.args.made.now) (map seen_place l))
    (sym c.deref.ensures.value) c.in_ok-events.ensures

pub returns-in-Some-clause-legal : goal.returns-in-Some-clause-legal
returns-in-Some-clause-legal c = λ setting h is_list machine. decides c.args.made.now c.keeps.ensures c.requires.form setting h is_list
    machine (Some c.in-Some.place) (inl c.in-Some.ensures)

pub returns-clause-legal : goal.returns-clause-legal
returns-clause-legal c = λ setting h is_list machine. decides_all c.args.made.now c.keeps.ensures c.requires.form setting h is_list machine
    c.in-None.ensures c.look_fault.result c.look_fault.ensures
