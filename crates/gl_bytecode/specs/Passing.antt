-- What holds along the search for the depths of a function's stack.
use Rattle.std.specs.Prelude.{◌≡◌, ℕ, ◌+◌, ◌-◌, ◌*◌, ◌<◌, ◌≤◌, ◌⊎◌, false, List, [], ◌∷◌, length, map, slice_get, slice_index_or, Option, Some, None}
use Rattle.std.specs.List.{AllByRecursion}
use Rattle.gl_bytecode.specs.declared.depths.Claim.{Claim}
use Rattle.gl_bytecode.specs.declared.instr.Instr.{Instr}
use Rattle.gl_bytecode.specs.declared.limits.TheConstants.{OPERANDS}
use Rattle.gl_bytecode.specs.Faults.{AreDepths, fault_at, falls_off}
use Rattle.gl_bytecode.specs.Instructions.{gives, needs, successors}
use Rattle.gl_bytecode.specs.Programs.{Bytecode, Function}

-- the depth that was found at a place
abbrev pub found : List (Option ℕ) → ℕ → Option ℕ
found depths at = slice_index_or depths at None

abbrev pub IsIn : Claim → List Claim → Type 0
IsIn claim [] = ⊥
IsIn claim (c ∷ cs) = (c ≡ claim) ⊎ IsIn claim cs

-- the place is reached with n values: that was found, or it is still to be looked at
abbrev pub IsKnown : List (Option ℕ) → List Claim → ℕ → ℕ → Type 0
IsKnown depths claims to n = (found depths to ≡ Some n) ⊎ IsIn (record { at = to; depth = n }) claims

-- the claims that an instruction at a place makes of its successors
abbrev pub claims_after : ℕ → List ℕ → List Claim
claims_after n tos = map (λ to. let c : Claim = record { at = to; depth = n } in c) tos

-- an instruction that was looked at has its operands, and its successors are known
pub record WasSeen (P : Bytecode) (depths : List (Option ℕ)) (claims : List Claim) (i : Instr) (at n : ℕ) : Type 0 where
  pub within : n ≤ OPERANDS
  pub operands : needs P i ≤ n
  pub onward : AllByRecursion (λ to. IsKnown depths claims to ((n - needs P i) + gives i)) (successors i at)

-- all depths that are right say the same
pub record IsForced (depths : List (Option ℕ)) (claims : List Claim) (depth : ℕ → Option ℕ) : Type 0 where
  pub by_depths : (at n : ℕ) → found depths at ≡ Some n → depth at ≡ Some n
  pub by_claims : AllByRecursion (λ c. depth c.at ≡ Some c.depth) claims

-- the search, with these depths found and these claims to be looked at
pub record Passing (P : Bytecode) (F : Function) (depths : List (Option ℕ)) (claims : List Claim) : Type 0 where
  pub named : (k : ℕ) → fault_at P F k ≡ None
  pub ended : falls_off F ≡ false
  pub long : length depths ≡ length F.code
  pub within : AllByRecursion (λ c. c.at < length F.code) claims
  pub starts : IsKnown depths claims 0 0
  pub handles : AllByRecursion (λ c. IsKnown depths claims c.target 1) F.catches
  pub seen : (at n : ℕ) (i : Instr) → slice_get F.code at ≡ Some i → found depths at ≡ Some n → WasSeen P depths claims i at n
  pub forced : (depth : ℕ → Option ℕ) → AreDepths P F depth → IsForced depths claims depth

-- how many places have no depth yet
abbrev pub unknown : List (Option ℕ) → ℕ
unknown [] = 0
unknown (None ∷ ds) = unknown ds + 1
unknown (Some n ∷ ds) = unknown ds

-- how much the search has to do yet
abbrev pub work : List (Option ℕ) → List Claim → ℕ
work depths claims = 2 * unknown depths + length claims
