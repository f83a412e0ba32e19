use Rattle.std.proofs.Common.{◌≡◌, ◌+◌, ◌++◌, ◌∷◌, [], ℕ, List, length-append, subst, map, length, sym, ap, ◌∙◌, arith}
use Rattle.std.specs.Prelude.{slice_index}
use Rattle.std.proofs.lemmas.List.{map-append, length-map}
use Rattle.gl_model.specs.Entries.{seen}
use Rattle.gl_rule.specs.Levels.{levels_of, levels_entry}
use Rattle.gl_rule.proofs.Levels.{levels_few, levels_push}
use Rattle.gl_table.proofs.RightsKept.{rights_long, rights_push}
use Rattle.gl_model.specs.Kept.{IsEntryKept}
use Rattle.std.specs.List.{All}
use Rattle.std.proofs.lemmas.List.Elements.{All-push}
use Rattle.gl_table.proofs.own_list.OwnList.push.Goals as goal

pub note-requires-clause-few : goal.note-requires-clause-few
note-requires-clause-few c = λ o.
    let mine = map seen c.self.inside.list.items in
    let is : slice_index c.self.inside.levels o
    ≡ slice_index (levels_of mine) o = ap (λ (l : List ℕ). slice_index l o) c.self.invariant.levels in
    let few = levels_few mine o in
    let long : length mine ≡ length c.self.inside.list.items = length-map c.self.inside.list.items seen in
    let fields = c.self.inside.list.ok in
    let a = fields.0 in
    let b = fields.1 in
    let small = c.self.inside.list.small in
    omega arith

pub note-requires-2-clause-few : goal.note-requires-2-clause-few
note-requires-2-clause-few c =
    let mine = map seen c.self.inside.list.items in
    let blocks = c.self.invariant.blocks in
    let long : length mine ≡ length c.self.inside.list.items = length-map c.self.inside.list.items seen in
    let fields = c.self.inside.list.ok in
    let a = fields.0 in
    let b = fields.1 in
    let small = c.self.inside.list.small in
    omega arith

pub invariant_of-self : goal.invariant_of-self
invariant_of-self c =
    let e = seen c.args.entry in
    let mine = map seen c.self.inside.list.items in
    let more : map seen c.push_reserved.new.self.items ≡ mine ++ e ∷ [] = ap (map seen) c.push_reserved.ensures.items
    ∙ map-append seen c.self.inside.list.items _ in
    let i = c.self.invariant in
    let n = ap length more in
    let m : length (mine ++ e ∷ []) ≡ length mine + 1 = length-append mine (e ∷ []) in
    let blocks = i.blocks in
    let begun = c.note-2.ensures.block in
    record {
      levels = c.note.ensures ∙ ap (λ l. levels_entry l e) i.levels ∙ sym (ap levels_of more ∙ levels_push mine e);
      long = ap length c.note-2.ensures.rights ∙ rights_long c.self.inside.rights.rights e i.long;
      rights = rights_push c.self.inside.rights.rights c.note-2.new.self.rights mine (map seen c.push_reserved.new.self.items) e i.long
          i.rights c.note-2.ensures.rights more;
      blocks = omega arith;
      kept = subst (All IsEntryKept) (sym more) (All-push IsEntryKept mine e i.kept c.requires.kept);
    }
