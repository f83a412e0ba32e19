-- Tests of a function's code that compute: where they pass, nothing is wrong with the function. For its depths a list is given, with the
-- depth at each place.
use Rattle.std.proofs.Common.{◌≡◌, ℕ, zero, suc, ◌+◌, ◌-◌, nat_lt, nat_le, ◌==◌, Bool, true, false, ◌&&◌, List, [], ◌∷◌, length, Option, Some, None, refl, ap, subst, arith, zero-add}
use Rattle.std.specs.Prelude.{slice_get, if◌then◌else◌}
use Rattle.std.specs.List.{AllByRecursion, list_all}
use Rattle.std.specs.Option.{option_and_then}
use Rattle.std.proofs.lemmas.Bool.Decides.{nat_tests}
use Rattle.std.proofs.lemmas.Bool.{and_parts, leb-true}
use Rattle.gl_bytecode.specs.declared.instr.Instr.{Instr}
use Rattle.gl_bytecode.specs.declared.limits.TheConstants.{OPERANDS}
use Rattle.gl_bytecode.specs.Faults.{AreDepths, IsRight, LeadsOn, catch_fault, falls_off, fault_at, instr_fault}
use Rattle.gl_bytecode.specs.Instructions.{gives, needs, successors}
use Rattle.gl_bytecode.specs.Programs.{Bytecode}
use Rattle.gl_gen.specs.Bank.{plain_function}

-- ## What is named

-- a test for no fault
abbrev pub is_none : Option ℕ → Bool
is_none None = true
is_none (Some kind) = false

-- where the test for no fault passes, there is none
of_none : (o : Option ℕ) → is_none o ≡ true → o ≡ None
of_none None is = refl
of_none (Some kind) is = cc

-- where each element passes the test for no fault, there is none at any place
each_none : {X : Type 0} (f : X → Option ℕ) (xs : List X) (k : ℕ) → list_all (λ x. is_none (f x)) xs ≡ true
    → option_and_then f (slice_get xs k) ≡ None
each_none f [] k is = refl
each_none f (x ∷ xs) zero is = of_none (f x) (and_parts _ _ is).0
each_none f (x ∷ xs) (suc k) is = each_none f xs k (and_parts _ _ is).1

-- where each instruction passes the test, nothing that a function without catches names is wrong
named_right : (P : Bytecode) (args locals : ℕ) (code : List Instr)
    → list_all (λ i. is_none (instr_fault P (plain_function args locals code) i)) code ≡ true
    → (at : ℕ) → fault_at P (plain_function args locals code) at ≡ None
named_right P args locals code is at = by_test (nat_lt at (length code)) where
  by_test :
      (b : Bool) →
      (if b then option_and_then (instr_fault P (plain_function args locals code)) (slice_get code at)
      else option_and_then (catch_fault (plain_function args locals code)) (slice_get [] (at - length code)))
      ≡ None
  by_test true = each_none (instr_fault P (plain_function args locals code)) code at is
  by_test false = refl

-- ## Depths

-- a test for this depth
abbrev pub is_depth : ℕ → Option ℕ → Bool
is_depth n None = false
is_depth n (Some m) = m == n

-- an instruction at a place that is reached with n values leads on by these depths
abbrev pub leads_on : Bytecode → List ℕ → ℕ → Instr → ℕ → Bool
leads_on P depths at i n =
    nat_le n OPERANDS && nat_le (needs P i) n && list_all (λ to. is_depth ((n - needs P i) + gives i) (slice_get depths to))
    (successors i at)

-- a test that an instruction leads on from the depth at its place, if it has one
abbrev pub leads_from : Bytecode → List ℕ → ℕ → Instr → Option ℕ → Bool
leads_from P depths at i None = true
leads_from P depths at i (Some n) = leads_on P depths at i n

-- and so does each of the code from this place on
abbrev pub lead_on : Bytecode → List ℕ → ℕ → List Instr → Bool
lead_on P depths at [] = true
lead_on P depths at (i ∷ more) = leads_from P depths at i (slice_get depths at) && lead_on P depths (at + 1) more

-- what passes the test for a depth is that depth
of_depth : (n : ℕ) (o : Option ℕ) → is_depth n o ≡ true → o ≡ Some n
of_depth n None is = cc
of_depth n (Some m) is = (let same : m ≡ n = grind (arith, nat_tests) in ap Some same)

-- where the depths at places all pass the test, they are all that depth
onward : (depths : List ℕ) (n : ℕ) (tos : List ℕ) → list_all (λ to. is_depth n (slice_get depths to)) tos ≡ true
    → AllByRecursion (λ to. slice_get depths to ≡ Some n) tos
onward depths n [] is = tt
onward depths n (to ∷ tos) is = (of_depth n (slice_get depths to) (and_parts _ _ is).0, onward depths n tos (and_parts _ _ is).1)

-- an instruction that passes the test leads on with the depths of the list
leads : (P : Bytecode) (depths : List ℕ) (at : ℕ) (i : Instr) (n : ℕ) → leads_on P depths at i n ≡ true
    → LeadsOn P (slice_get depths) i at n
leads P depths at i n is =
    let all = and_parts _ _ is in
    let room = and_parts _ _ all.0 in
    record {
      within = leb-true n OPERANDS room.0;
      operands = leb-true (needs P i) n room.1;
      onward = onward depths ((n - needs P i) + gives i) (successors i at) all.1;
    }

-- an instruction that passes the test at its place passes it for the depth there
at_depth : (P : Bytecode) (depths : List ℕ) (at : ℕ) (i : Instr) (o : Option ℕ) (n : ℕ) → leads_from P depths at i o ≡ true → o ≡ Some n
    → leads_on P depths at i n ≡ true
at_depth P depths at i None n is there = cc
at_depth P depths at i (Some m) n is there = (let same : m ≡ n = cc in subst (λ k. leads_on P depths at i k ≡ true) same is)

-- where the code passes the test from a place on, each instruction with a depth leads on
lead_from :
    (P : Bytecode) (depths : List ℕ) (at : ℕ) (code : List Instr) → lead_on P depths at code ≡ true → (k n : ℕ) (i : Instr)
    → slice_get code k ≡ Some i →
    slice_get depths (at + k) ≡ Some n → LeadsOn P (slice_get depths) i (at + k) n
lead_from P depths at [] is k n i there = cc
lead_from P depths at (j ∷ more) is zero n i there =
    let same : j ≡ i = cc in
    let here : at ≡ at + 0 = omega arith in
    let Q : ℕ → Type 0 = λ p. slice_get depths p ≡ Some n → LeadsOn P (slice_get depths) i p n in
    subst Q here
    (λ depth. leads P depths at i n (at_depth P depths at i (slice_get depths at) n
    (subst (λ x. leads_from P depths at x (slice_get depths at) ≡ true) same (and_parts _ _ is).0) depth))
lead_from P depths at (j ∷ more) is (suc k) n i there =
    let further : (at + 1) + k ≡ at + suc k = omega arith in
    let Q : ℕ → Type 0 = λ p. slice_get depths p ≡ Some n → LeadsOn P (slice_get depths) i p n in
    subst Q further (lead_from P depths (at + 1) more (and_parts _ _ is).1 k n i there)

-- where a function's code passes the test and starts with an empty stack, the listed depths are its depths
are_depths : (P : Bytecode) (args locals : ℕ) (code : List Instr) (depths : List ℕ) → slice_get depths 0 ≡ Some 0 → lead_on P depths 0 code
    ≡ true
    → AreDepths P (plain_function args locals code) (slice_get depths)
are_depths P args locals code depths starts is = record {
  starts = starts;
  handles = tt;
  leads = λ at n i there.
      let Q : ℕ → Type 0 = λ p. slice_get depths p ≡ Some n → LeadsOn P (slice_get depths) i p n in
      subst Q (zero-add at) (lead_from P depths 0 code is at n i there);
}

-- ## The whole function

-- where a function's code passes all tests, nothing is wrong with the function
pub right_by :
    (P : Bytecode) (args locals : ℕ) (code : List Instr) (depths : List ℕ)
    → list_all (λ i. is_none (instr_fault P (plain_function args locals code) i)) code ≡ true →
    falls_off (plain_function args locals code) ≡ false → slice_get depths 0 ≡ Some 0 → lead_on P depths 0 code ≡ true
    → IsRight P (plain_function args locals code)
right_by P args locals code depths named ended starts is =
    record {
      named = named_right P args locals code named;
      ended = ended;
      depths = (slice_get depths, are_depths P args locals code depths starts is);
    }
