use Rattle.std.proofs.Common.{◌≡◌, ◌∙◌, sym, rules}
use Rattle.std.specs.Prelude.{pos}
use Rattle.gl_bytecode.specs.Lawful.{setting_of}
use Rattle.gl_state.specs.Acts.{HasRoom, reference_in}
use Rattle.gl_acts.proofs.Applied.{class_in, made}
use Rattle.gl_acts.proofs.changes.make.Goals as goal

pub returns-else-reference-by : goal.returns-else-reference-by
returns-else-reference-by c inputs =
    let fields = c.in-Some.fields in
    let same : c.in-Some-next_object.reference ≡ c.args.by.value = search rules in
    let room : HasRoom c.args.state.now fields = search rules in
    let told : c.in-Some-next_object.reference ≡ pos (reference_in c.args.state.now c.args.class) = search rules in
    made (setting_of c.args.program.now inputs) c.args.by.thread c.args.by.value c.args.state.now c.requires.runs
    c.args.class fields c.make.new.self
    (class_in c.args.program.now inputs c.args.class c.class_of.result fields c.class_of.ensures c.in-Some.is)
    room (sym told ∙ same) c.make.ensures
