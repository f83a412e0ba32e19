use Rattle.std.proofs.Common.{◌≡◌, ◌<◌, length, refl, ap, arith}
use Rattle.std.specs.Prelude.{slice_index_or}
use Rattle.std.proofs.lemmas.Option.{MatchOption-at_none, MatchOption-at_some, slice_get_read, slice_get_within}
use Rattle.gl_bytecode.specs.Faults.{IsRight}
use Rattle.gl_bytecode.proofs.Validation.{holds_of_more}
use Rattle.gl_bytecode.proofs.contents.Contents.first_fault.Goals as goal

pub returns-in-Some : goal.returns-in-Some
returns-in-Some c =
    let many = ap length c.loop-number.invariant.0 in
    let within : c.loop-number.number < length c.args.self.now.functions = omega arith in
    let at : c.function-item.result ≡ slice_index_or c.args.self.now.functions c.loop-number.number c.function-item.result =
    (rw c.loop-number.invariant.0 at c.function-item.is) in
    let found = MatchOption-at_some _ _ c.in-Some.fault c.in-Some.is c.in_ok-fault.ensures in
    record {
      function = c.function-item.result;
      there = rw found.0 (slice_get_read c.args.self.now.functions (length c.args.self.now.functions) c.loop-number.number
          c.function-item.result refl within at);
      first = found.1;
      before = rw found.0 c.loop-number.invariant.1;
    }

pub returns : goal.returns
returns c = λ f F is.
    let many = ap length c.loop-number.invariant.0 in
    let within = slice_get_within c.args.self.now.functions f F is in
    c.loop-number.invariant.1 f F (omega arith) is

pub loop-number-preserved : goal.loop-number-preserved
loop-number-preserved c =
    let many = ap length c.loop-number.invariant.0 in
    let within : c.loop-number.number < length c.args.self.now.functions = omega arith in
    let at : c.function-item.result ≡ slice_index_or c.args.self.now.functions c.loop-number.number c.function-item.result =
    (rw c.loop-number.invariant.0 at c.function-item.is) in
    let right : IsRight c.args.self.now c.function-item.result = MatchOption-at_none _ _ c.in_default.is c.in_ok-fault.ensures in (
      c.loop-number.invariant.0,
      holds_of_more (IsRight c.args.self.now) c.args.self.now.functions c.loop-number.number c.function-item.result within at right
          c.loop-number.invariant.1,
    )
