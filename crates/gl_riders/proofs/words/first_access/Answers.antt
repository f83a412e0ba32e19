use Rattle.std.proofs.Common.{◌≡◌, ◌∙◌, sym, rules, FitsSigned, w64, false, subst, ℤ}
use Rattle.std.proofs.lemmas.Int.{to_z-of_z}
use Rattle.gl_cache.specs.Words.{with_word}
use Rattle.gl_rows.specs.Accessing.{HasEntry, value_told}
use Rattle.gl_rows.specs.declared.accessing.Seen.TheVariants.{Value, Raised}
use Rattle.gl_riders.specs.Owing.{Owns}
use Rattle.gl_riders.proofs.Owings.{owns_access, owns_raised, unowed, value_or}
use Rattle.gl_riders.proofs.words.first_access.Goals as goal

pub access-requires-clause-may : goal.access-requires-clause-may
access-requires-clause-may g c = record {
  table = c.requires.may.table;
  held = c.requires.may.held;
  drawn = c.requires.may.drawn;
  owed = unowed c.args.thread.now.words c.args.thread.now.pass.own c.args.wanted.var c.args.wanted.write c.requires.owns c.requires.right;
  spare = c.requires.may.spare;
  few = c.requires.may.few;
  runs = c.requires.may.runs;
}

pub returns-in-Ok-Raised-clause-owns : goal.returns-in-Ok-Raised-clause-owns
returns-in-Ok-Raised-clause-owns g c =
    let is : HasEntry c.args.wanted.var c.args.wanted.write c.args.thread.now.pass.own (Raised c.in-Ok-Raised.nth) c.access.new.pass.own =
    rw c.in-Ok-Raised.field-0-is at c.in-Ok-Raised.ensures.own in
    owns_raised c.args.thread.now.words c.args.thread.now.pass.own c.access.new.pass.own c.args.wanted.var c.in-Ok-Raised.nth c.args.wanted.write c.requires.owns is

pub returns-in-Ok-Value-clause-owns : goal.returns-in-Ok-Value-clause-owns
returns-in-Ok-Value-clause-owns g c =
    let is : HasEntry c.args.wanted.var c.args.wanted.write c.args.thread.now.pass.own (Value c.in-Ok-Value.value) c.access.new.pass.own =
    rw c.in-Ok-Value.field-0-is at c.in-Ok-Value.ensures.own in
    let fits : FitsSigned w64 c.in-Ok-Value.value = search rules in
    let fits' : FitsSigned w64 c.unwrap_or.result = search rules in
    let value : c.unwrap_or.result ≡ value_told c.args.wanted.write (Value c.in-Ok-Value.value) = (simp to_z-of_z at c.unwrap_or.ensures)
    ∙ value_or c.args.wanted.write c.in-Ok-Value.value in
    let put : c.put.new.self ≡ with_word c.args.wanted.var (record { value = c.unwrap_or.result; dirty = false }) c.args.thread.now.words =
    simp to_z-of_z at c.put.ensures in
    let at : ℤ → Type 0 = λ a. Owns (with_word c.args.wanted.var (record { value = a; dirty = false }) c.args.thread.now.words) c.access.new.pass.own in
    rw put
    (subst at (sym value)
    (owns_access c.args.thread.now.words c.args.thread.now.pass.own c.access.new.pass.own c.args.wanted.var c.args.wanted.write c.in-Ok-Value.value c.requires.owns
    c.requires.there c.requires.right is))

pub returns-in-Err-clause-kept : goal.returns-in-Err-clause-kept
returns-in-Err-clause-kept g c = c.in-Err.ensures.busy.own
