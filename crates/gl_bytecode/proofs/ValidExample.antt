-- There is a valid program: push 5, print, halt.
use Rattle.std.proofs.Common.{◌≡◌, ℕ, zero, suc, pos, [], ◌∷◌, Some, None, refl, sym, lit≤}
use Rattle.gl_bytecode.specs.declared.instr.Instr.TheVariants.{Push, Print, Halt}
use Rattle.gl_bytecode.specs.Examples.{five}
use Rattle.gl_bytecode.specs.Programs.{Function, function_at}
use Rattle.gl_bytecode.specs.Validity.{Depths, Goes, IsValid}

abbrev main' : Function
main' = record { args = 0; locals = 0; code = Push (pos 5) ∷ Print ∷ Halt ∷ []; catches = [] }

abbrev depths : Depths
depths zero zero = Some 0
depths zero (suc zero) = Some 1
depths zero (suc (suc zero)) = Some 0
depths zero (suc (suc (suc at))) = None
depths (suc f) at = None

-- main is its only function
only_main : (Q : ℕ → Function → Type 0) → Q 0 main' → (f : ℕ) (F : Function) → function_at five f ≡ Some F → Q f F
only_main Q q zero F is = (let same : main' ≡ F = cc in rw (sym same) q)
only_main Q q (suc f) F is = cc

-- each place has the depth that leads there
goes_at_depth : (at d : ℕ) → depths 0 at ≡ Some d → Goes five depths 0 main' at d
goes_at_depth zero d is =
    (let same : 0 ≡ d = cc in
    rw (sym same) (record { instr = Push (pos 5); there = refl; names = tt; operands = lit≤ tt; room = lit≤ tt; onward = (refl, tt) }))
goes_at_depth (suc zero) d is =
    (let same : 1 ≡ d = cc in
    rw (sym same) (record { instr = Print; there = refl; names = tt; operands = lit≤ tt; room = lit≤ tt; onward = (refl, tt) }))
goes_at_depth (suc (suc zero)) d is =
    (let same : 0 ≡ d = cc in
    rw (sym same) (record { instr = Halt; there = refl; names = tt; operands = lit≤ tt; room = lit≤ tt; onward = tt }))
goes_at_depth (suc (suc (suc at))) d is = cc

-- the depths are right, so it is valid
pub five_is_valid : IsValid five
five_is_valid = (
  depths,
  record {
    main = (main', refl, refl);
    short = only_main _ (lit≤ tt);
    locals = only_main _ (lit≤ tt, lit≤ tt);
    starts = only_main (λ f F. depths f 0 ≡ Some 0) refl;
    handles = only_main _ tt;
    goes = λ f at d F is. only_main (λ g G. depths g at ≡ Some d → Goes five depths g G at d) (goes_at_depth at d) f F is;
  },
)
