use Rattle.std.proofs.Common.{length, rules, subst, sym}
use Rattle.gl_asm.specs.NameIndex.{IsIndex, IsNoted}
use Rattle.gl_asm.proofs.IndexLemmas.{index_more}
use Rattle.gl_asm.proofs.definitions.DefinedNames.with.Goals as goal

pub invariant_of-result : goal.invariant_of-result
invariant_of-result c =
    let noted : IsNoted c.self.inside.index c.note.new.index c.key.result (length c.self.inside.list.items) = search rules in
    subst (λ ds. IsIndex ds c.note.new.index) (sym c.in_ok-push.ensures.items)
    (index_more c.self.inside.list.items c.args.definition c.self.inside.index c.note.new.index c.key.result c.key.ensures.scope
    c.key.ensures.name c.self.invariant noted)
