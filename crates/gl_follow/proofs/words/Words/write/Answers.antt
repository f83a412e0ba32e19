use Rattle.std.proofs.Common.{◌≡◌, ◌||◌, true, is_some, nat_lt, sym, ap, ◌∙◌, subst, refl}
use Rattle.std.proofs.lemmas.Int.{to_z-of_z}
use Rattle.gl_model.specs.declared.limits.TheConstants.{TX_VARIABLES}
use Rattle.gl_model.specs.Rising.{with_one, with_part}
use Rattle.gl_bytecode.specs.Runs.{word_of}
use Rattle.gl_follow.specs.Words.{Touched, pair_var, size_of}
use Rattle.gl_follow.proofs.WordLemmas.{vars_of, write_enters, write_fits, write_more, write_result}
use Rattle.gl_follow.proofs.words.Words.write.Goals as goal

pub unreachable-requires : goal.unreachable-requires
unreachable-requires c =
    let room = subst (λ (t : Touched). ((is_some (word_of t.writes c.args.var) || is_some (word_of t.looks c.args.var)) || nat_lt
    (size_of t) TX_VARIABLES) ≡ true) (sym c.self.view_is) c.requires.room in
    let full = c.in_default.ensures.full.0 refl in
    write_enters c.args.var c.self.inside.looks c.self.inside.writes c.self.inside.all c.self.invariant room full.0 full.1

pub unreachable-requires-in_default-put : goal.unreachable-requires-in_default-put
unreachable-requires-in_default-put c =
    let full = c.in_default-put.ensures.full.0 refl in
    write_fits c.args.var c.self.inside.looks c.self.inside.writes c.insert.new.self (c.in-Ok.ensures.ok
    ∙ ap (with_one c.args.var) c.self.invariant)
    c.keeps.ensures c.keeps-2.ensures c.keeps-3.ensures.0 full.0 full.1

pub invariant_of-self : goal.invariant_of-self
invariant_of-self c =
    let put : c.put.new.self ≡ with_part pair_var (record { var = c.args.var; value = c.args.value }) c.self.inside.writes =
    simp (to_z-of_z, c.ranges.value) at c.in-Ok-put.ensures.ok in
    c.in-Ok.ensures.ok ∙ write_more c.args.var c.args.value c.self.inside.looks c.self.inside.writes c.self.inside.all c.self.invariant
    ∙ ap (vars_of c.self.inside.looks) (sym put)

pub returns : goal.returns
returns c =
    let put : c.put.new.self ≡ with_part pair_var (record { var = c.args.var; value = c.args.value }) c.self.inside.writes =
    simp (to_z-of_z, c.ranges.value) at c.in-Ok-put.ensures.ok in
    write_result c.args.self.now c.self.inside.looks c.self.inside.writes c.put.new.self c.args.var c.args.value c.self.view_is put
