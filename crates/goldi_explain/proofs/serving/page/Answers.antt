use Rattle.std.proofs.Common.{◌<◌, length, inr, subst, ap, Err}
use Rattle.goldi_explain.specs.Answers.{most_of}
use Rattle.goldi_explain.proofs.Limits.{too_long}
use Rattle.goldi_explain.proofs.serving.page.Goals as goal

pub returns-in-Ok-refused-clause-page : goal.returns-in-Ok-refused-clause-page
returns-in-Ok-refused-clause-page g c =
    let e = c.in-Err-TooLong.ensures in
    let found = too_long (g.S.Source.left c.args.source.now) (g.S.Source.left c.read_all.new.source) c.most_of.result
    (e.too_long (ap Err c.in-Err-TooLong.field-0-is)) (e.over (ap Err c.in-Err-TooLong.field-0-is)) in
    record {
      input = found.0;
      all = found.1;
      pages = inr (
        subst (λ most. most < length found.0) c.most_of.ensures found.2,
        c.in-Ok-refused.ensures.status,
        c.in-Ok-refused.ensures.text,
      );
    }
