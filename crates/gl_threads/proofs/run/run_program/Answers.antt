use Rattle.std.proofs.Common.{◌≡◌, ◌∙◌, ap, subst, sym, rules}
use Rattle.gl_segments.specs.declared.Ring.{Ring}
use Rattle.gl_table.specs.TableView.{TableView}
use Rattle.gl_riders.specs.Riding.{IsSetFor}
use Rattle.gl_model.specs.Lists.{lists_of}
use Rattle.gl_model.specs.Machine.{Setting}
use Rattle.gl_bytecode.specs.Lawful.{setting_of}
use Rattle.gl_rule.specs.Objects.{Key}
use Rattle.gl_threads.proofs.Closing.{closed_lawful, closed_sparing}
use Rattle.gl_threads.proofs.run.run_program.Goals as goal

pub work-requires-clause-set : goal.work-requires-clause-set
work-requires-clause-set g c =
    let set : c.in-Ok.made.0.key.setting ≡ setting_of c.args.program.now c.args.inputs = ap (λ (k : Key). k.setting) c.in-Ok.ensures.key
    ∙ c.in_ok-layout.ensures.setting in
    let is : IsSetFor c.args.program.now c.in-Ok.made.0.key.setting = set
    ∙ ap (setting_of c.args.program.now) (sym (ap (λ (s : Setting). s.inputs) set)) in
    let at : TableView → Type 0 = λ t. IsSetFor c.args.program.now t.key.setting in
    let there = subst at (sym c.shared.view_is) is in
    search (rules, there)

pub returns-in-Ok-close : goal.returns-in-Ok-close
returns-in-Ok-close g c =
    let set : c.in-Ok.made.0.key.setting ≡ setting_of c.args.program.now c.args.inputs = ap (λ (k : Key). k.setting) c.in-Ok.ensures.key
    ∙ c.in_ok-layout.ensures.setting in
    record {
      lawful =
          closed_lawful c.args.program.now c.args.inputs c.args.options.now.steps c.in-Ok.made.0.id c.in-Ok.made.0.key.setting
          c.in_ok-passes.passes.items
          (lists_of c.in-Ok-close.sealed.entries) set c.in_ok-passes.ensures.done c.in_ok-passes.ensures.runs c.in-Ok-close.ensures.lists
          c.in-Ok-close.ensures.lawful;
      sparing = closed_sparing c.in_ok-passes.passes.items (lists_of c.in-Ok-close.sealed.entries) c.in_ok-passes.ensures.sparing
          c.in-Ok-close.ensures.lists;
      ring = (
        ap (λ (k : Key). k.segments) (c.in-Ok-close.ensures.key ∙ c.in-Ok.ensures.key)
            ∙ ap (λ (r : Ring). r.segments) c.in_ok-layout.ensures.ring,
        ap (λ (k : Key). k.cells) (c.in-Ok-close.ensures.key ∙ c.in-Ok.ensures.key)
            ∙ ap (λ (r : Ring). r.cells) c.in_ok-layout.ensures.ring,
      );
    }
