use Rattle.std.proofs.Common.{◌≡◌, ◌<◌, ◌++◌, ◌∷◌, [], length, ap, sym, arith}
use Rattle.gl_bytecode.specs.Programs.{Draft}
use Rattle.gl_bytecode.proofs.Drafts.{on_ok_then, written_last}
use Rattle.gl_bytecode.proofs.parts.Parts.catch.Goals as goal

pub returns-clause-ok : goal.returns-clause-ok
returns-clause-ok c =
    let functions = c.self.inside.functions in
    let many : c.len-last.result ≡ length functions.items = omega (arith, functions.ok.0, c.len-last.ensures) in
    let some : 0 < length functions.items = (rw (sym c.self.view_is) at c.requires) in
    on_ok_then c.push_catch.result _ _ c.push_catch.ensures.ok
    (λ is. rw (sym c.self.view_is) (ap (λ Fs. let D : Draft =
    record { classes = c.self.inside.classes.items; functions = Fs; main = c.self.inside.main } in D)
    (written_last (λ F. record F { catches = F.catches ++ (record { from = c.args.from; to = c.args.to; target = c.args.target }) ∷ [] })
    functions.items c.len-last.result _ _ many some c.index_mut-function.ensures.value is)))
