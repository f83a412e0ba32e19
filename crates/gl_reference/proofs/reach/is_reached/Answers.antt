use Rattle.std.proofs.Common.{length, refl}
use Rattle.std.proofs.lemmas.Option.{slice_get_read}
use Rattle.gl_reference.specs.Steps.{access_of}
use Rattle.gl_reference.proofs.Marks.{asked}
use Rattle.gl_reference.proofs.reach.is_reached.Goals as goal

pub returns : goal.returns
returns c s there = asked c.args.events.now (access_of c.args.access.now) c.args.marks.now (length c.args.marks.now)
    c.index-events-marks.result s c.starts-first.result c.is_led_to-later.result
    (slice_get_read c.args.events.now (length c.args.events.now) (length c.args.marks.now) c.index-events-marks.result refl c.requires
    c.index-events-marks.is) there c.starts-first.ensures c.is_led_to-later.ensures
