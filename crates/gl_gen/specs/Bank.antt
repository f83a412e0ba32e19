-- The bank: main gives eight accounts 1000 each, starts a thread for each of them, waits for all, and prints the sum of the accounts.
-- The thread of an account moves 1 from it to the next account, so many times, each time in a transaction.
use Rattle.std.specs.Prelude.{ℕ, pos, negsuc, ◌+◌, ◌%◌, List, [], ◌∷◌, ◌++◌, map}
use Rattle.std.specs.List.{flat_map, range_with_len}
use Rattle.gl_bytecode.specs.declared.instr.Instr.{Instr}
use Rattle.gl_bytecode.specs.declared.instr.Instr.TheVariants.{Push, Load, Store, Inc, Add, Sub, Jnz, Ret, Halt, New, Get, Put, Fork, Join, Txbegin, Commit, Print}
use Rattle.gl_bytecode.specs.Programs.{Bytecode, Function}

-- ## Main

-- account k is field k of the bank, which lies in local 0
abbrev pub opening : ℕ → List Instr
opening k = Load 0 ∷ Push (pos 1000) ∷ Put k ∷ []

-- the thread of account k runs function k + 1, and its number lies in local k + 1
abbrev pub starting : ℕ → List Instr
starting k = Load 0 ∷ Fork (k + 1) ∷ Store (k + 1) ∷ []

abbrev pub waiting : ℕ → List Instr
waiting k = Load (k + 1) ∷ Join ∷ []

abbrev pub adding : ℕ → List Instr
adding k = Load 0 ∷ Get k ∷ Add ∷ []

-- what is done for each account, and for each but account 0
abbrev pub for_each : (ℕ → List Instr) → List Instr
for_each code = flat_map code (range_with_len 0 8)

abbrev pub for_others : (ℕ → List Instr) → List Instr
for_others code = flat_map code (range_with_len 1 7)

abbrev pub main_code : List Instr
main_code =
    (New 0 ∷ Store 0 ∷ []) ++ for_each opening ++ for_each starting ++ for_each waiting ++ (Load 0 ∷ Get 0 ∷ []) ++ for_others adding
    ++ (Print ∷ Halt ∷ [])

-- ## The thread of an account

abbrev pub next : ℕ → ℕ
next k = (k + 1) % 8

-- of n transfers, from account k; local 0 has the bank, local 1 how many transfers are left
abbrev pub transfer_code : ℕ → ℕ → List Instr
transfer_code n k =
    Push (pos n) ∷ Store 1
    ∷ Txbegin
    ∷ Load 0 ∷ Load 0 ∷ Get k ∷ Push (pos 1) ∷ Sub ∷ Put k
    ∷ Load 0 ∷ Load 0 ∷ Get (next k) ∷ Push (pos 1) ∷ Add ∷ Put (next k)
    ∷ Commit
    ∷ Inc 1 (negsuc 0) ∷ Load 1 ∷ Jnz 2
    ∷ Push (pos 0) ∷ Ret ∷ []

-- ## The program

-- a function without catches
abbrev pub plain_function : ℕ → ℕ → List Instr → Function
plain_function args locals code = record { args = args; locals = locals; code = code; catches = [] }

abbrev pub main_function : Function
main_function = plain_function 0 9 main_code

abbrev pub transfer_function : ℕ → ℕ → Function
transfer_function n k = plain_function 1 2 (transfer_code n k)

-- the bank of n transfers a thread
abbrev pub bank_program : ℕ → Bytecode
bank_program n = record {
  classes = (record { plain = 8; volatile = 0 }) ∷ [];
  functions = main_function ∷ map (transfer_function n) (range_with_len 0 8);
  main = 0;
}
