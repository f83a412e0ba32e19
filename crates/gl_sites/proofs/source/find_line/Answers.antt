use Rattle.std.proofs.Common.{◌≡◌, true, false, [], ap, sym, subst, ◌∙◌}
use Rattle.std.specs.List.{before_first}
use Rattle.std.specs.Str.{IsTrimAscii}
use Rattle.gl_text.specs.Text.{is_hash}
use Rattle.gl_sites.specs.Adding.{finds, words_add}
use Rattle.gl_sites.proofs.Walking.{Next, none_found, searches_by, searches_none, source_found}
use Rattle.gl_sites.proofs.source.find_line.Goals as goal

pub loop-line-init : goal.loop-line-init
loop-line-init c =
    searches_none c.args.text.now c.new-lines.result [] c.args.function c.args.place c.new-lines.ensures.given c.new-lines.ensures.left

pub returns-then-finds : goal.returns-then-finds
returns-then-finds c = λ adding all.
    let before = c.loop-line in
    let line = c.in-Some.line in
    let next : Next before.lines line.text c.next_line.new.self c.adds_of-adds.result = record {
      lefts = c.in-Some.ensures.line;
      given = c.in-Some.ensures.number.1 ∙ c.in-Some.ensures.number.0;
      is = c.adds_of-adds.ensures ∙ ap words_add c.words.ensures;
    } in
    let is_found : finds c.adds_of-adds.result before.reached.functions before.reached.instructions c.args.function c.args.place ≡ true =
    sym c.finds.ensures ∙ c.if-finds.true in
    let quoted : IsTrimAscii (before_first is_hash line.text) c.quote_of.result.now =
    subst (λ l. IsTrimAscii (before_first is_hash l) c.quote_of.result.now) c.text.ensures c.quote_of.ensures in
    source_found c.args.text.now adding before.lines before.reached.functions before.reached.instructions before.reached.name.now line.text
    c.next_line.new.self c.adds_of-adds.result c.args.function c.args.place c.number.result c.quote_of.result.now all before.invariant next
    is_found (c.number.ensures ∙ c.in-Some.ensures.number.0) quoted

pub loop-line-preserved : goal.loop-line-preserved
loop-line-preserved c =
    let before = c.loop-line in
    let line = c.in-Some.line in
    let next : Next before.lines line.text c.next_line.new.self c.adds_of-adds.result = record {
      lefts = c.in-Some.ensures.line;
      given = c.in-Some.ensures.number.1 ∙ c.in-Some.ensures.number.0;
      is = c.adds_of-adds.ensures ∙ ap words_add c.words.ensures;
    } in
    let not_found : finds c.adds_of-adds.result before.reached.functions before.reached.instructions c.args.function c.args.place ≡ false =
    sym c.finds.ensures ∙ c.if-finds.false in
    searches_by c.args.text.now before.lines before.reached.functions before.reached.instructions before.reached.name.now line.text
    c.next_line.new.self c.adds_of-adds.result c.args.function c.args.place c.pass.new.self.functions c.pass.new.self.instructions
    c.pass.new.self.name.now before.invariant next not_found c.pass.ensures.functions c.pass.ensures.instructions c.pass.ensures.name

pub returns : goal.returns
returns c = λ adding all.
    let before = c.loop-line in
    none_found c.args.text.now adding before.lines before.reached.functions before.reached.instructions before.reached.name.now
    c.args.function c.args.place all before.invariant c.in_default.ensures.line
