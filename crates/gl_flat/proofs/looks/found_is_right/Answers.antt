use Rattle.std.proofs.Common.{FitsSigned, subst, sym, w64}
use Rattle.std.specs.Prelude.{MatchBool}
use Rattle.std.proofs.lemmas.Int.{to_z-of_z}
use Rattle.gl_model.specs.Flat.{IsWordBelow}
use Rattle.gl_flat.proofs.RightLooks.{no_number, number_found}
use Rattle.gl_flat.proofs.looks.found_is_right.Goals as goal

pub returns-in-Some : goal.returns-in-Some
returns-in-Some c = λ R are.
    let fits : FitsSigned w64 c.args.found = c.ranges.found in
    let n = c.in-Some.number in
    number_found R c.args.numbers.now n c.args.var c.args.found c.is_word_below.result c.keeps.ensures.1 (sym c.in-Some.ensures)
    (subst (λ v. MatchBool c.is_word_below.result (IsWordBelow R c.args.var n.nth v) (IsWordBelow R c.args.var n.nth v → ⊥))
    (to_z-of_z w64 c.args.found fits) (c.is_word_below.ensures R are))

pub returns-in-None : goal.returns-in-None
returns-in-None c = λ R are. no_number R c.args.numbers.now c.args.var c.args.found c.keeps.ensures.1 (sym c.in-None.ensures)
