use Rattle.std.proofs.Common.{◌≡◌, ◌<◌, sym, ap, ◌∙◌, subst, refl}
use Rattle.std.proofs.lemmas.Int.{to_z-of_z}
use Rattle.gl_model.specs.declared.limits.TheConstants.{TX_VARIABLES}
use Rattle.gl_model.specs.Rising.{with_part}
use Rattle.gl_follow.specs.Words.{Touched, pair_var, size_of}
use Rattle.gl_follow.proofs.WordLemmas.{look_enters, look_fits, look_more, look_result, vars_of}
use Rattle.gl_follow.proofs.words.Words.look.Goals as goal

pub unreachable-requires : goal.unreachable-requires
unreachable-requires c =
    let room = subst (λ (t : Touched). size_of t < TX_VARIABLES) (sym c.self.view_is) c.requires.room in
    look_enters c.self.inside.looks c.self.inside.writes c.self.inside.all c.self.invariant room (c.in_default.ensures.full.0 refl).0

pub unreachable-requires-in_default-put : goal.unreachable-requires-in_default-put
unreachable-requires-in_default-put c =
    let room = subst (λ (t : Touched). size_of t < TX_VARIABLES) (sym c.self.view_is) c.requires.room in
    look_fits c.self.inside.looks c.self.inside.writes room (c.in_default-put.ensures.full.0 refl).0

pub invariant_of-self : goal.invariant_of-self
invariant_of-self c =
    let put : c.put.new.self ≡ with_part pair_var (record { var = c.args.var; value = c.args.value }) c.self.inside.looks =
    simp (to_z-of_z, c.ranges.value) at c.in-Ok-put.ensures.ok in
    c.in-Ok.ensures.ok ∙ look_more c.args.var c.args.value c.self.inside.looks c.self.inside.writes c.self.inside.all c.self.invariant
    ∙ ap (λ l. vars_of l c.self.inside.writes) (sym put)

pub returns : goal.returns
returns c =
    let put : c.put.new.self ≡ with_part pair_var (record { var = c.args.var; value = c.args.value }) c.self.inside.looks =
    simp (to_z-of_z, c.ranges.value) at c.in-Ok-put.ensures.ok in
    look_result c.args.self.now c.self.inside.looks c.self.inside.writes c.put.new.self c.args.var c.args.value c.self.view_is put
