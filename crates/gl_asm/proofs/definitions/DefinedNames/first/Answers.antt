use Rattle.std.proofs.Common.{◌≡◌, None, Some, rules, slice_get}
use Rattle.gl_asm.specs.Definitions.{first_definition}
use Rattle.gl_asm.specs.NameIndex.{place_in, scope_key}
use Rattle.gl_asm.proofs.IndexLemmas.{first_at}
use Rattle.gl_asm.proofs.definitions.DefinedNames.first.Goals as goal

pub returns-in-Some : goal.returns-in-Some
returns-in-Some c =
    let place : place_in c.self.inside.index (scope_key c.args.scope, c.args.name) ≡ Some c.in-Some.place.now = search rules in
    let found : slice_get c.self.inside.list.items c.in-Some.place.now
    ≡ first_definition c.self.inside.list.items c.args.scope c.args.name.now
    = first_at c.self.inside.list.items c.self.inside.index c.self.invariant c.args.scope c.args.name _ place in
    search (rules, found)

pub returns-in-None : goal.returns-in-None
returns-in-None c =
    let place : place_in c.self.inside.index (scope_key c.args.scope, c.args.name) ≡ None = search rules in
    let found : None ≡ first_definition c.self.inside.list.items c.args.scope c.args.name.now
    = first_at c.self.inside.list.items c.self.inside.index c.self.invariant c.args.scope c.args.name _ place in
    search (rules, found)
