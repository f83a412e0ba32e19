use Rattle.std.proofs.Common.{ℕ, List, refl, sym, subst, ◌∙◌}
use Rattle.atomic_table.specs.Table.{opening}
use Rattle.gl_rule.specs.declared.slot.Slot.{Slot}
use Rattle.gl_rule.specs.Objects.{capacity, word_count}
use Rattle.gl_rule.specs.Opened.{empty_shelves}
use Rattle.gl_rule.specs.Rule.{Rule}
use Rattle.gl_rule.specs.View.{blank}
use Rattle.gl_rule.proofs.Opening.{begins}
use Rattle.gl_state.specs.Starting.{first_state}
use Rattle.gl_state.proofs.Starting.{first_is}
use Rattle.gl_table.specs.KeyOf.{key_of}
use Rattle.gl_table.specs.Words.{no_words}
use Rattle.gl_table.proofs.new.lay.Goals as goal

pub new-requires : goal.new-requires
new-requires c =
    let key = key_of c.args.layout.now in
    let rule = begins key (first_state c.args.layout.now.main) (first_is key.setting c.args.layout.now.main refl) in
    subst (λ (ws : List ℕ). Rule key (opening ws c.in_ok-slots.slots.items (blank empty_shelves)))
    (sym (c.as_slice.ensures.value ∙ c.in_ok-words.ensures))
    (subst (λ (l : List Slot). Rule key (opening (no_words (word_count (capacity key))) l (blank empty_shelves))) (sym c.in_ok-slots.ensures)
    rule)
