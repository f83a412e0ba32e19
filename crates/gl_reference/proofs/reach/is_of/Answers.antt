use Rattle.std.proofs.Common.{◌≡◌, ◌<◌, length, get_or, false, refl, arith}
use Rattle.std.proofs.lemmas.Option.{slice_get-get_or, slice_get_read}
use Rattle.gl_reference.proofs.Truths.{eq_test}
use Rattle.gl_reference.proofs.Marks.{marked_here}
use Rattle.gl_reference.proofs.reach.is_of.Goals as goal

pub returns : goal.returns
returns c =
    let n : c.args.p < length c.args.events.now = omega arith in
    marked_here c.args.events.now c.args.marks.now (λ r. r.thread ≡ c.args.u) c.args.p (get_or c.args.marks.now c.args.p false) _
    c.index-events-p.result (slice_get-get_or c.args.marks.now c.args.p false c.requires.here)
    (slice_get_read c.args.events.now (length c.args.events.now) c.args.p c.index-events-p.result refl n c.index-events-p.is)
    (eq_test c.index-events-p.result.thread c.args.u)
