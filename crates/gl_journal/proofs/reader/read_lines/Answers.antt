use Rattle.std.proofs.Common.{◌≡◌, ◌+◌, ◌-◌, ◌≤◌, ◌∷◌, length, ap, sym, subst, ◌∙◌, arith}
use Rattle.std.specs.Str.Lines.{lines}
use Rattle.gl_journal.specs.Meaning.{FaultsFirst, refused_at}
use Rattle.gl_journal.proofs.Reading.{Reads, number_few, numbered_fault, numbered_on, read_all}
use Rattle.gl_journal.proofs.reader.read_lines.Goals as goal

pub loop-line-preserved : goal.loop-line-preserved
loop-line-preserved c =
    let text = c.args.bytes.now in
    let old = c.loop-line in
    let line = c.in-Some.line in
    let reads : Reads text old.lines.given (line.text ∷ c.next_line.new.self.left) old.standing =
    subst (λ l. Reads text old.lines.given l old.standing) c.in-Some.ensures.line old.invariant.0 in (
      numbered_on text line.text old.lines.given line.number c.next_line.new.self.given c.next_line.new.self.left old.standing
          c.read_line.new.self
          c.in-Some.ensures.number.0 c.in-Some.ensures.number.1 reads c.in-Ok.ensures.ok,
      c.in-Ok.ensures.thread,
    )

pub overflow_add-first_line : goal.overflow_add-first_line
overflow_add-first_line c =
    let text = c.args.bytes.now in
    let old = c.loop-line in
    let line = c.in-Some.line in
    let reads : Reads text old.lines.given (line.text ∷ c.next_line.new.self.left) old.standing =
    subst (λ l. Reads text old.lines.given l old.standing) c.in-Some.ensures.line old.invariant.0 in
    let few : line.number ≤ length text = number_few text line.text old.lines.given line.number c.next_line.new.self.left old.standing
    c.in-Some.ensures.number.0 reads in
    let number : c.number.result ≡ line.number = c.number.ensures in
    omega (arith, c.requires.last)

pub returns-in-Err-clause-fault : goal.returns-in-Err-clause-fault
returns-in-Err-clause-fault c =
    let text = c.args.bytes.now in
    let first = c.args.first_line in
    let old = c.loop-line in
    let line = c.in-Some.line in
    let reads : Reads text old.lines.given (line.text ∷ c.next_line.new.self.left) old.standing =
    subst (λ l. Reads text old.lines.given l old.standing) c.in-Some.ensures.line old.invariant.0 in
    let at : c.refused_at.result ≡ refused_at (first + (line.number - 1)) c.in-Err.refusal =
    c.refused_at.ensures ∙ ap (λ n. refused_at (first + (n - 1)) c.in-Err.refusal) c.number.ensures in
    subst (FaultsFirst (lines text) first) (sym at)
    (numbered_fault text line.text first old.lines.given line.number c.next_line.new.self.left old.standing c.in-Err.refusal
    c.in-Some.ensures.number.0 reads c.in-Err.ensures.fault)

pub returns-clause-clean : goal.returns-clause-clean
returns-clause-clean c =
    let text = c.args.bytes.now in
    let old = c.loop-line in
    (read_all text old.lines.given old.standing
    (subst (λ l. Reads text old.lines.given l old.standing) c.in_default.ensures.line old.invariant.0)).1
