use Rattle.std.proofs.Common.{◌∙◌, ap, FitsSigned, w64, rules}
use Rattle.std.proofs.lemmas.Int.{to_z-of_z}
use Rattle.gl_rows.specs.WritingBack.{without_owed}
use Rattle.gl_table.specs.PassView.{Own, PassView}
use Rattle.gl_riders.proofs.Owings.{nothing_owed, paid, rest_on}
use Rattle.gl_riders.proofs.Stopping.{pays_more, was_busy}
use Rattle.gl_riders.proofs.words.flush.Goals as goal

pub write_back-requires : goal.write_back-requires
write_back-requires c =
    let fits : FitsSigned w64 c.in-Some.value = search rules in
    let i = c.owed.invariant in
    simp to_z-of_z (record {
      table = ap (λ (v : Own). v.table) i.rest ∙ c.requires.table;
      near = c.in-Some.ensures.0;
      held = ap (λ (v : Own). v.held) i.rest ∙ c.requires.held;
      owes = (i.owns.owed c.in-Some.var c.in-Some.value).1 c.in-Some.ensures.1;
    })

pub owed-smaller : goal.owed-smaller
owed-smaller c =
    (paid c.owed.words c.owed.pass.own c.write_back.new.pass.own c.in-Some.var c.in-Some.value c.owed.invariant.owns c.in-Some.ensures.0
    c.in-Some.ensures.1 c.in-Ok.ensures.own).less

pub owed-preserved : goal.owed-preserved
owed-preserved c =
    let p = paid c.owed.words c.owed.pass.own c.write_back.new.pass.own c.in-Some.var c.in-Some.value c.owed.invariant.owns
    c.in-Some.ensures.0 c.in-Some.ensures.1 c.in-Ok.ensures.own in
    record {
      owns = rw c.clean.ensures p.owns;
      rest = rest_on c.args.pass.now.own c.owed.pass.own c.write_back.new.pass.own (without_owed c.in-Some.var c.owed.pass.own.owed)
          c.owed.invariant.rest c.in-Ok.ensures.own;
      spare = ap (λ (v : PassView). v.spare) c.in-Ok.ensures.stored.1 ∙ c.owed.invariant.spare;
      paid = pays_more c.args.pass.now c.owed.pass c.write_back.new.pass c.in-Some.var c.in-Some.value c.owed.invariant.paid
          ((c.owed.invariant.owns.owed c.in-Some.var c.in-Some.value).1 c.in-Some.ensures.1) c.in-Ok.ensures.stored;
    }

pub returns-in-None : goal.returns-in-None
returns-in-None c = record {
  owns = c.owed.invariant.owns;
  rest = c.owed.invariant.rest;
  spare = c.owed.invariant.spare;
  done = λ t. record {
    vars = c.owed.invariant.paid.0;
    paid = c.owed.invariant.paid.1;
    none = nothing_owed c.owed.words c.owed.pass.own c.owed.invariant.owns c.in-None.ensures;
  };
  stuck = λ t. (cc);
}

pub returns-in-Err : goal.returns-in-Err
returns-in-Err c =
    let same = c.in-Err.ensures.kept in
    record {
      owns = rw same c.owed.invariant.owns;
      rest = rw same c.owed.invariant.rest;
      spare = ap (λ (v : PassView). v.spare) c.in-Err.ensures.busy.1 ∙ c.owed.invariant.spare;
      done = λ t. (cc);
      stuck = λ t. record {
        vars = c.owed.invariant.paid.0;
        mid = c.owed.pass;
        paid = c.owed.invariant.paid.1;
        var = c.in-Some.var;
        owed = (c.in-Some.value, (c.owed.invariant.owns.owed c.in-Some.var c.in-Some.value).1 c.in-Some.ensures.1);
        by = _;
        stops = was_busy c.owed.pass c.write_back.new.pass c.in-Some.var _ c.in-Err.ensures.busy.0 c.in-Err.ensures.other
            c.in-Err.ensures.busy.1;
      };
    }
