use Rattle.std.proofs.Common.{◌≡◌, Some, is_some, false, true, rules}
use Rattle.std.specs.BTreeMap.{Updates}
use Rattle.gl_asm.specs.NameIndex.{key_cmp, place_in}
use Rattle.gl_asm.proofs.IndexLemmas.{noted_new, noted_there}
use Rattle.gl_asm.proofs.definitions.note.Goals as goal

pub returns-in_ok-insert : goal.returns-in_ok-insert
returns-in_ok-insert c =
    let free : is_some (place_in c.args.index.now c.args.key) ≡ false = search rules in
    let put : Updates (λ one other. key_cmp one.0 one.1.now other) c.args.index.now c.insert.new.self c.args.key (Some c.args.place) =
    search rules in
    noted_new c.args.index.now c.insert.new.self c.args.key c.args.place free put

pub returns-else-not-contains_key : goal.returns-else-not-contains_key
returns-else-not-contains_key c =
    let there : is_some (place_in c.args.index.now c.args.key) ≡ true = search rules in
    noted_there c.args.index.now c.args.key c.args.place there
