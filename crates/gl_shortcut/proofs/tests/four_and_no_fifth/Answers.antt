use Rattle.std.proofs.Common.{rules, refl}
use Rattle.gl_shortcut.proofs.tests.four_and_no_fifth.Goals as goal

pub late-requires : goal.late-requires
late-requires g c = record { callable = λ i q w r s. ∣ (r.1, s) ∣₁; yes = λ i q w r s says. says.1 refl }

pub early-requires-2 : goal.early-requires-2
early-requires-2 g c = record {
  callable = λ i q r. search rules;
  yes = λ i q r says. says.1 refl;
  surely = λ i q r holds answer says. says.0.1 holds;
}
