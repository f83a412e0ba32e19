use Rattle.std.proofs.Common.{◌++◌, append_assoc}
use Rattle.std.specs.Prelude.{codes, string_bytes}
use Rattle.std.specs.Fmt.{decimal}
use Rattle.gl_names.specs.Names.{name_of}
use Rattle.gl_names.specs.declared.kind.Kind.TheVariants.{Thread}
use Rattle.gl_explain.specs.Phrases.{thing_text}
use Rattle.gl_explain.proofs.Joining.{joined}
use Rattle.gl_explain.proofs.text.push_did.Goals as goal

pub returns : goal.returns
returns c =
    let word = codes "  what thread " in
    let thread = thing_text (name_of c.args.names.now) Thread c.args.told.now.thread in
    let line = codes " did in line " ++ decimal c.args.told.now.line in
    joined c.push_number.result (string_bytes c.args.out.now) (string_bytes c.push_thread.new.out) (string_bytes c.push_number.new.out)
    (word ++ thread) line (word ++ (thread ++ line)) c.in_ok-push_thread.ensures c.push_number.ensures (append_assoc word thread line)
