use Rattle.std.proofs.Common.{refl}
use Rattle.goldi.proofs.main.Goals as goal

pub early-requires-3 : goal.early-requires-3
early-requires-3 c joined = record {
  callable = λ i q r. ∣ tt ∣₁;
  yes = λ i q r says. says.1 refl;
  surely = λ i q r holds answer says. says.0.1 holds;
}

pub late-requires : goal.late-requires
late-requires c joined = record { callable = λ i q w r s. ∣ (r.1, s) ∣₁; yes = λ i q w r s says. says.1 refl }
