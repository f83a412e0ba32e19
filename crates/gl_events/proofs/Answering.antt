-- What a call answers says which act it published.
use Rattle.std.proofs.Common.{◌≡◌, ℕ, refl, sym, subst, inl, inr}
use Rattle.std.specs.Prelude.{ℤ}
use Rattle.gl_model.specs.declared.event.Act.{Act}
use Rattle.gl_events.specs.Calls.{IsFor, HasCode, act_of, value_of, done_of}
use Rattle.gl_events.specs.declared.call.Call.{Call}
use Rattle.gl_events.specs.declared.call.Call.TheVariants as call

-- what a call's answer says of the act that was published
abbrev pub Says : Call → ℕ → ℤ → Act → Type 0
Says c n v a = (act_of c (done_of n a v) ≡ a) × (value_of c (done_of n a v) ≡ v) × HasCode c (done_of n a v)

-- the answer made from an act that is one for the call says that act and its value
pub says : (c : Call) (n : ℕ) (v : ℤ) (a : Act) → IsFor c a v → Says c n v a
says call.Begin n v a is = subst (Says call.Begin n v) (sym is.1) (refl, refl, refl)
says call.End n v a is = subst (Says call.End n v) (sym is.0) (refl, sym is.1, refl)
says (call.Enter o) n v a is = subst (Says (call.Enter o) n v) (sym is.0) (refl, sym is.1, refl)
says (call.Exit o) n v a (inl is) = subst (Says (call.Exit o) n v) (sym is.0) (refl, sym is.1, inl refl)
says (call.Exit o) n v a (inr is) = subst (Says (call.Exit o) n v) (sym is.0) (refl, sym is.1, inr refl)
says (call.VRead x) n v a is = subst (Says (call.VRead x) n v) (sym is) (refl, refl, refl)
says (call.VWrite x w) n v a is = subst (Says (call.VWrite x w) n v) (sym is.0) (refl, sym is.1, refl)
says (call.Fork f w) n v a (inl is) = subst (Says (call.Fork f w) n v) (sym is.1) (refl, sym is.2, inl (refl, refl))
says (call.Fork f w) n v a (inr is) = subst (Says (call.Fork f w) n v) (sym is.0) (refl, sym is.1, inr refl)
says (call.Join u) n v a (inl is) = subst (Says (call.Join u) n v) (sym is.0) (refl, sym is.1, inl refl)
says (call.Join u) n v a (inr is) = subst (Says (call.Join u) n v) (sym is.0) (refl, sym is.1, inr refl)
says (call.Alloc k) n v a (inl is) = subst (Says (call.Alloc k) n v) (sym is) (refl, refl, inl refl)
says (call.Alloc k) n v a (inr is) = subst (Says (call.Alloc k) n v) (sym is.0) (refl, sym is.1, inr refl)
says (call.Print w) n v a is = subst (Says (call.Print w) n v) (sym is.0) (refl, sym is.1, refl)
says call.Input n v a (inl is) = subst (Says call.Input n v) (sym is) (refl, refl, inl refl)
says call.Input n v a (inr is) = subst (Says call.Input n v) (sym is.0) (refl, sym is.1, inr refl)
