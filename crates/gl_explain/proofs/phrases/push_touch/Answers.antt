use Rattle.std.proofs.Common.{refl}
use Rattle.std.specs.Prelude.{codes, string_bytes}
use Rattle.gl_model.specs.Trace.{is_in}
use Rattle.gl_names.specs.Names.{name_of}
use Rattle.gl_explain.specs.Phrases.{access_text}
use Rattle.gl_explain.proofs.Joining.{joined}
use Rattle.gl_explain.proofs.phrases.push_touch.Goals as goal

pub returns-in_ok-push_str-in-Commit : goal.returns-in_ok-push_str-in-Commit
returns-in_ok-push_str-in-Commit c =
    rw c.in-Commit.is
    (joined c.push_access-in-Commit.result (string_bytes c.args.out.now) (string_bytes c.push_str.new.self)
    (string_bytes c.push_access-in-Commit.new.out) (codes "commits and ")
    (access_text (name_of c.args.names.now) (is_in c.args.var c.in-Commit.writes) c.args.var) _ c.in_ok-push_str-in-Commit.ensures.bytes
    (rw c.has.ensures at c.push_access-in-Commit.ensures) refl)
