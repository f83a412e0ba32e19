-- The functions that a thread begins in.
use Rattle.std.proofs.Common.{◌≡◌, ℕ, zero, suc, ◌+◌, ◌<◌, ◌≤◌, ◌==◌, Bool, true, false, ◌∷◌, length, refl, ◌∙◌, ap, arith, Option, Some, None, inl, inr, cond}
use Rattle.std.specs.Prelude.{Contains, filter}
use Rattle.std.specs.List.{range_with_len}
use Rattle.std.proofs.lemmas.Bool.Decides.{nat_tests}
use Rattle.std.proofs.lemmas.List.Elements.{All-contains, filter_passes}
use Rattle.std.proofs.lemmas.Option.{slice_get_cases}
use native.Mathlib.Decide.{ℕ_discrete}
use Rattle.gl_model.specs.Machine.{Setting}
use Rattle.gl_bytecode.specs.Fits.{Fits}
use Rattle.gl_bytecode.specs.Instructions.{args_of}
use Rattle.gl_bytecode.specs.Lawful.{forkable_of}
use Rattle.gl_bytecode.specs.Machine.{Config}
use Rattle.gl_bytecode.specs.Programs.{Bytecode, Function, function_at}
use Rattle.gl_events.specs.Acting.{MayStart}
use Rattle.gl_riders.specs.Riding.{IsSetFor}

-- a number from a to below a + n that passes the test is among the range's that do
in_range : (p : ℕ → Bool) (a n f : ℕ) → a ≤ f → f < a + n → p f ≡ true → Contains (filter p (range_with_len a n)) f
in_range p a zero f low high is = absurd (omega arith)
in_range p a (suc n) f low high is = elim (ℕ_discrete a f) [
  | yes same ↦ (let here : p a ≡ true = (rw same is) in rw here (0, omega arith, same))
  | no other ↦ by_test (p a) (in_range p (a + 1) n f (omega (arith, other)) (omega arith) is)
] where
  by_test : (b : Bool) → Contains (filter p (range_with_len (a + 1) n)) f
      → Contains (cond b (a ∷ filter p (range_with_len (a + 1) n)) (filter p (range_with_len (a + 1) n))) f
  by_test true there = (suc there.0, (let less = there.1 in omega arith), there.2)
  by_test false there = there

-- a function that a program has stands below its number of functions
function_below : (P : Bytecode) (f : ℕ) (F : Function) → function_at P f ≡ Some F → f < length P.functions
function_below P f F there = elim ((slice_get_cases P.functions f).1) [ inl in' ↦ in'.1 | inr out ↦ absurd (let none = out.1 in cc) ]

-- a function of one argument may be forked in a setting for the program
pub may_fork : (P : Bytecode) (setting : Setting) (f : ℕ) (F : Function) → IsSetFor P setting → function_at P f ≡ Some F → F.args ≡ 1
    → Contains setting.forkable f
may_fork P setting f F set there one =
    let one' : (args_of (function_at P f) == 1) ≡ true = rw (there, one) refl in
    let in' : Contains (forkable_of P) f = in_range (λ g. args_of (function_at P g) == 1) 0 (length P.functions) f (omega arith)
    (let less = function_below P f F there in omega arith) one' in
    rw set in'

-- a function of one argument has fewer than two
has_one : (P : Bytecode) (f : ℕ) (o : Option Function) → function_at P f ≡ o → (args_of o == 1) ≡ true → (F : Function)
    × (function_at P f ≡ Some F) × (F.args < 2)
has_one P f None there one = cc
has_one P f (Some F) there one = (F, there, (let is : F.args ≡ 1 = grind (arith, nat_tests) in omega arith))

-- a function that a thread may start with is there and has fewer than two arguments
pub may_begin : (P : Bytecode) (setting : Setting) (c : Config) (f : ℕ) → IsSetFor P setting → Fits P c → MayStart setting f
    → (F : Function) × (function_at P f ≡ Some F) × (F.args < 2)
may_begin P setting c f set fits (inl main) =
    let m = fits.sound.main in
    let is : f ≡ P.main = main ∙ ap (λ (s : Setting). s.main) set in
    let none = m.2 in
    (m.0, ap (function_at P) is ∙ m.1, omega arith)
may_begin P setting c f set fits (inr forked) =
    let in' : Contains (forkable_of P) f = rw set at forked in
    let p : ℕ → Bool = λ g. args_of (function_at P g) == 1 in
    has_one P f (function_at P f) refl (All-contains (λ x. p x ≡ true) (forkable_of P) f
    (filter_passes p (range_with_len 0 (length P.functions))) in')
