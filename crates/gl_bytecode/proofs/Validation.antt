-- Functions that are looked at one after the other, and what follows for the whole.
use Rattle.std.proofs.Common.{◌≡◌, ℕ, ◌+◌, ◌<◌, nat_lt, Bool, true, false, List, length, Option, Some, refl, subst, arith}
use Rattle.std.specs.Prelude.{slice_get, slice_index_or}
use Rattle.std.proofs.lemmas.Bool.Decides.{nat_tests}
use Rattle.std.proofs.lemmas.Option.{slice_get_read}
use Rattle.gl_bytecode.specs.Programs.{Function}

-- an option that is there is one thing
some_same : {X : Type 0} (o : Option X) (x y : X) → o ≡ Some x → o ≡ Some y → x ≡ y
some_same o x y first second = cc

-- what holds of the functions before a place, and of that place's, holds of one function more
pub holds_of_more :
    (Q : Function → Type 0) (Fs : List Function) (n : ℕ) (F : Function) → n < length Fs → F ≡ slice_index_or Fs n F → Q F →
    ((g : ℕ) (G : Function) → g < n → slice_get Fs g ≡ Some G → Q G) → (g : ℕ) (G : Function) → g < n + 1 → slice_get Fs g ≡ Some G → Q G
holds_of_more Q Fs n F within at here before g G less is = by_test (nat_lt g n) refl where
  by_test : (b : Bool) → nat_lt g n ≡ b → Q G
  by_test true passes = before g G (grind (arith, nat_tests)) is
  by_test false fails =
      let last : g ≡ n = grind (arith, nat_tests) in
      let there : slice_get Fs n ≡ Some F = slice_get_read Fs (length Fs) n F refl within at in
      let there' : slice_get Fs g ≡ Some F = rw last there in
      subst Q (some_same (slice_get Fs g) F G there' is) here
