use Rattle.std.proofs.Common.{◌≡◌, ℕ, List, [], None, Option, Bool, length, map, sym, ap, subst, ◌∙◌, arith}
use Rattle.std.specs.Prelude.{slice_index_or}
use Rattle.std.specs.List.{All}
use Rattle.std.proofs.lemmas.List.{get_or-replicate, length-replicate}
use Rattle.std.proofs.lemmas.List.Elements.{All-nil}
use Rattle.gl_model.specs.declared.limits.TheConstants.{VARIABLES}
use Rattle.gl_model.specs.Entries.{seen}
use Rattle.gl_model.specs.Kept.{IsEntryKept}
use Rattle.gl_rule.specs.Levels.{levels_of}
use Rattle.gl_rule.proofs.Levels.{levels_none}
use Rattle.gl_table.specs.RightOf.{right_of}
use Rattle.gl_table.specs.RightsView.{RightsView}
use Rattle.gl_table.proofs.own_list.OwnList.empty.Goals as goal

pub invariant_of-result : goal.invariant_of-result
invariant_of-result c =
    let none : map seen c.new.result.items ≡ [] = ap (map seen) c.new.ensures.items in
    let is = c.in_ok-none-2.ensures in
    let rights = ap (λ (r : RightsView). r.rights) is in
    let block = ap (λ (r : RightsView). r.block) is in
    record {
      levels = c.in_ok-none.ensures ∙ sym (ap levels_of none ∙ levels_none);
      long = ap length rights ∙ length-replicate {A = Option (ℕ × Bool)} VARIABLES None;
      rights = λ x near. ap (λ (l : List (Option (ℕ × Bool))). slice_index_or l x None) rights
          ∙ get_or-replicate {A = Option (ℕ × Bool)} VARIABLES x None None near ∙ sym (ap (λ l. right_of l x) none);
      blocks = (let b = block in omega arith);
      kept = subst (All IsEntryKept) (sym none) (All-nil IsEntryKept);
    }
