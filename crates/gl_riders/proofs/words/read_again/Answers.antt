use Rattle.std.proofs.Common.{◌≡◌, ◌∙◌, sym, rules, FitsSigned, w64, Some, None, ap}
use Rattle.std.specs.Option.{option_map}
use Rattle.std.proofs.lemmas.Int.{to_z-of_z}
use Rattle.gl_cache.specs.Words.{Word, word_at}
use Rattle.gl_riders.proofs.Owings.{has_word, may_read, owns_read}
use Rattle.gl_riders.proofs.words.read_again.Goals as goal

pub add_repeat-requires-clause-may : goal.add_repeat-requires-clause-may
add_repeat-requires-clause-may c =
    let fits : FitsSigned w64 c.in-Some.value = search rules in
    let found : option_map (λ (w : Word). w.value) (word_at c.args.words.now c.args.var) ≡ Some c.in-Some.value = sym c.find.ensures
    ∙ c.in-Some.is in
    simp to_z-of_z (may_read c.args.pass.now c.args.words.now c.args.var c.args.nth c.in-Some.value c.requires.owns c.requires.held
    c.requires.runs c.requires.right found)

pub returns : goal.returns
returns c =
    let fits : FitsSigned w64 c.in-Some.value = search rules in
    let found : option_map (λ (w : Word). w.value) (word_at c.args.words.now c.args.var) ≡ Some c.in-Some.value = sym c.find.ensures
    ∙ c.in-Some.is in
    let done = simp to_z-of_z at c.add_repeat.ensures in
    simp to_z-of_z (record {
      done = done;
      owns = owns_read c.args.words.now c.args.pass.now.own c.add_repeat.new.pass.own c.args.var c.args.nth c.in-Some.value c.requires.owns
          found done;
    })

pub unreachable-requires : goal.unreachable-requires
unreachable-requires c =
    let h = has_word c.args.words.now c.args.pass.now.own c.args.var c.args.nth None c.requires.owns c.requires.right in
    let e : ◌≡◌ {A = _} (option_map (λ (w : Word). w.value) (Some h.word)) None = ap (option_map (λ (w : Word). w.value)) (sym h.there)
    ∙ sym c.find.ensures ∙ c.in-None.is in
    cc
