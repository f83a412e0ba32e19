use Rattle.std.proofs.Common.{◌≡◌, inl, inr, sym, ap, arith, ◌∙◌, None}
use Rattle.std.proofs.lemmas.Bool.{cases_lt}
use Rattle.std.proofs.lemmas.List.{get_or_past}
use Rattle.gl_draws.specs.RowFacts.{read_of}
use Rattle.gl_judge.proofs.Walked.{read_item}
use Rattle.gl_compare.proofs.rows.least_read.Goals as goal

-- the reads that were looked at are all
pub returns-clause-below : goal.returns-clause-below
returns-clause-below c t i e = elim (cases_lt t c.loop-read.read-index) [
  | inl below ↦ c.loop-read.invariant.below t i below e
  | inr past ↦ absurd (let far = c.loop-read-test.false in let gone : read_of c.args.reads.now t
      ≡ None = get_or_past c.args.reads.now t None (omega arith) in let there = e in cc)
]

-- at the read that is looked at next
pub loop-read-preserved : goal.loop-read-preserved
loop-read-preserved c =
    let item = read_item c.args.reads.now c.loop-read.read-index c.read-item.result c.loop-read-test.true c.read-item.is in
    let inv = c.loop-read.invariant in
    let lower = c.lower-from.ensures in
    record {
      upto = let a = lower.upto in let b = inv.upto in omega arith;
      below = λ t i near e. elim (cases_lt t c.loop-read.read-index) [
        | inl below ↦ (let a = lower.upto in let b = inv.below t i below e in omega arith)
        | inr past ↦ (let same : t ≡ c.loop-read.read-index = omega arith
            in lower.below i (sym item ∙ ap (read_of c.args.reads.now) (sym same) ∙ e))
      ];
    }
