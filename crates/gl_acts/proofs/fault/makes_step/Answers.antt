use Rattle.gl_bytecode.specs.Lawful.{setting_of}
use Rattle.gl_model.specs.Entries.{seen}
use Rattle.gl_model.specs.Lists.{lists_of}
use Rattle.gl_places.specs.Places.{seen as seen_place}
use Rattle.gl_acts.proofs.Keeping.{place_kept}
use Rattle.gl_acts.proofs.Walking.{makes}
use Rattle.gl_acts.proofs.fault.makes_step.Goals as goal

pub apply_entry-requires-clause-there : goal.apply_entry-requires-clause-there
apply_entry-requires-clause-there c = (place_kept c.args.made.now c.keeps.ensures.1 c.args.place.thread c.args.place.index
    (seen c.in-Some.entry.now) c.in-Some.ensures.some).0

pub apply_entry-requires-clause-kept : goal.apply_entry-requires-clause-kept
apply_entry-requires-clause-kept c = (place_kept c.args.made.now c.keeps.ensures.1 c.args.place.thread c.args.place.index
    (seen c.in-Some.entry.now) c.in-Some.ensures.some).1

pub returns-else-not-has_forked : goal.returns-else-not-has_forked
returns-else-not-has_forked c =
    makes (setting_of c.args.program.now c.args.inputs.now) (lists_of c.args.made.now) (seen_place c.args.place) c.args.state.now
    c.apply_entry.new.state
    (seen c.in-Some.entry.now) c.in-Some.ensures.some c.apply_entry.result c.if-not-has_forked.ensures c.apply_entry.ensures
