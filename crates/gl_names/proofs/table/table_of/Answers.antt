use Rattle.std.proofs.Common.{◌≡◌, ◌∙◌, ap, sym, subst, rules}
use Rattle.std.specs.Option.{option_or}
use Rattle.gl_names.specs.Names.{name_in, name_of, naming}
use Rattle.gl_names.specs.Tables.{slot}
use Rattle.gl_names.proofs.NameLemmas.{empty, one_more, or_first, or_last}
use Rattle.gl_names.proofs.table.table_of.Goals as goal

pub loop-line-init : goal.loop-line-init
loop-line-init c = record {
  length = search rules;
  names = λ n. or_first _ _ _ (empty c.from.result n c.in_ok-table.table.items (c.in_ok-table.ensures.items_if_clones_equal (search rules)))
      (ap (name_in c.args.kind n) c.new-lines.ensures.left);
}

pub loop-line-preserved : goal.loop-line-preserved
loop-line-preserved c =
    let kind = c.args.kind in
    let left = c.next_line.new.self.left in
    record {
      length = c.take.ensures.length ∙ c.loop-line.invariant.length;
      names = λ n. one_more (slot c.loop-line.table.items n) (naming kind n c.text-text.result.now) (slot c.take.new.table.items n)
          (name_in kind n left) (name_of c.args.text.now kind n) (c.take.ensures.slots n)
          (subst (λ text. option_or (slot c.loop-line.table.items n) (option_or (naming kind n text) (name_in kind n left))
          ≡ name_of c.args.text.now kind n) (sym c.text-text.ensures)
          (subst (λ lines. option_or (slot c.loop-line.table.items n) (name_in kind n lines) ≡ name_of c.args.text.now kind n)
          c.in-Some.ensures.line (c.loop-line.invariant.names n)));
    }

pub returns : goal.returns
returns c = λ n. sym (or_last (slot c.loop-line.table.items n))
    ∙ subst (λ lines. option_or (slot c.loop-line.table.items n) (name_in c.args.kind n lines) ≡ name_of c.args.text.now c.args.kind n)
    c.in_default.ensures.line (c.loop-line.invariant.names n)
