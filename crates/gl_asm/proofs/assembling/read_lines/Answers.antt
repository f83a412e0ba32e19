use Rattle.std.proofs.Common.{◌≡◌, ◌+◌, ◌-◌, Ok, length, ap, sym, ◌∙◌, subst, rules}
use Rattle.gl_model.specs.declared.limits.TheConstants.{INPUTS}
use Rattle.gl_asm.specs.Additions.{IsPlaced}
use Rattle.gl_asm.specs.Sayings.{said}
use Rattle.gl_asm.proofs.Reading.{reads_on}
use Rattle.gl_asm.proofs.assembling.read_lines.Goals as goal

pub loop-line-preserved-in_ok-map_err-2 : goal.loop-line-preserved-in_ok-map_err-2
loop-line-preserved-in_ok-map_err-2 c =
    let table = c.args.table.now in
    let before = c.loop-line in
    let line = c.in-Some.line in
    let number : line.number ≡ before.lines.given + 1 = c.in-Some.ensures.number.0 in
    let given : c.next_line.new.self.given ≡ before.lines.given + 1 = c.in-Some.ensures.number.1 ∙ number in
    let have : c.len-have.result ≡ length before.inputs = c.len-have.ensures.count in
    let says : said table before.counts (before.lines.given + 1) (length before.inputs) line.text ≡ Ok c.in-Ok.addition =
    ap (λ n. said table before.counts n (length before.inputs) line.text) (sym number)
    ∙ ap (λ n. said table before.counts line.number n line.text) (sym have) ∙ c.in-Ok.ensures.ok in
    let placed : IsPlaced before.counts.functions (INPUTS - length before.inputs) c.in-Ok.addition =
    subst (λ n. IsPlaced before.counts.functions (INPUTS - n) c.in-Ok.addition) have c.in-Ok.ensures.placed in
    reads_on table c.args.text.now before.parts before.inputs before.counts before.lines line.text c.next_line.new.self c.in-Ok.addition
    c.add.new.parts c.give.new.inputs c.counted-counts.result before.invariant c.in-Some.ensures.line given says c.in-Ok.ensures.starts
    placed
    (search rules) (search rules) (search rules)

pub loop-line-preserved : goal.loop-line-preserved
loop-line-preserved c =
    let table = c.args.table.now in
    let before = c.loop-line in
    let line = c.in-Some.line in
    let number : line.number ≡ before.lines.given + 1 = c.in-Some.ensures.number.0 in
    let given : c.next_line.new.self.given ≡ before.lines.given + 1 = c.in-Some.ensures.number.1 ∙ number in
    let have : c.len-have.result ≡ length before.inputs = c.len-have.ensures.count in
    let says : said table before.counts (before.lines.given + 1) (length before.inputs) line.text ≡ Ok c.in-Ok.addition =
    ap (λ n. said table before.counts n (length before.inputs) line.text) (sym number)
    ∙ ap (λ n. said table before.counts line.number n line.text) (sym have) ∙ c.in-Ok.ensures.ok in
    let placed : IsPlaced before.counts.functions (INPUTS - length before.inputs) c.in-Ok.addition =
    subst (λ n. IsPlaced before.counts.functions (INPUTS - n) c.in-Ok.addition) have c.in-Ok.ensures.placed in
    reads_on table c.args.text.now before.parts before.inputs before.counts before.lines line.text c.next_line.new.self c.in-Ok.addition
    c.add.new.parts c.give.new.inputs c.counted-counts.result before.invariant c.in-Some.ensures.line given says c.in-Ok.ensures.starts
    placed
    (search rules) (search rules) (search rules)
