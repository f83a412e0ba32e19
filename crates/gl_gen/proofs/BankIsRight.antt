-- Nothing is wrong with the bank.
use Rattle.std.proofs.Common.{◌≡◌, ℕ, zero, suc, List, [], ◌∷◌, ◌++◌, map, Some, refl, subst}
use Rattle.std.specs.Prelude.{slice_get}
use Rattle.std.specs.List.{AllByRecursion, flat_map, range_with_len}
use Rattle.gl_bytecode.specs.Faults.{IsFaultless, IsRight}
use Rattle.gl_bytecode.specs.Programs.{Bytecode}
use Rattle.gl_gen.specs.Bank.{bank_program, main_code, main_function, transfer_code, transfer_function}
use Rattle.gl_gen.proofs.RightCode.{right_by}

-- the depths of main: two instructions, three for each account's first value, and so on
abbrev of_each : List ℕ → List ℕ
of_each depths = flat_map (λ k. depths) (range_with_len 0 8)

-- the depth of the stack at each place of main
abbrev main_depths : List ℕ
main_depths =
    (0 ∷ 1 ∷ []) ++ of_each (0 ∷ 1 ∷ 2 ∷ []) ++ of_each (0 ∷ 1 ∷ 1 ∷ []) ++ of_each (0 ∷ 1 ∷ []) ++ (0 ∷ 1 ∷ [])
    ++ flat_map (λ k. 1 ∷ 2 ∷ 2 ∷ []) (range_with_len 1 7) ++ (1 ∷ 0 ∷ [])

-- the depth of the stack at each place of an account's function
abbrev transfer_depths : List ℕ
transfer_depths = 0 ∷ 1 ∷ 0 ∷ 0 ∷ 1 ∷ 2 ∷ 2 ∷ 3 ∷ 2 ∷ 0 ∷ 1 ∷ 2 ∷ 2 ∷ 3 ∷ 2 ∷ 0 ∷ 0 ∷ 0 ∷ 1 ∷ 0 ∷ 1 ∷ []

-- nothing is wrong with main in the bank
main_is_right : (n : ℕ) → IsRight (bank_program n) main_function
main_is_right n = right_by (bank_program n) 0 9 main_code main_depths refl refl refl refl

-- nothing is wrong with an account's function
transfer_is_right : (P : Bytecode) (n k : ℕ) → IsRight P (transfer_function n k)
transfer_is_right P n k = right_by P 1 2 (transfer_code n k) transfer_depths refl refl refl refl

-- what holds of the thing of each number holds of all things of a list of numbers
all_mapped : {X : Type 0} (Q : X → Type 0) (f : ℕ → X) (ks : List ℕ) → ((k : ℕ) → Q (f k)) → AllByRecursion Q (map f ks)
all_mapped Q f [] each = tt
all_mapped Q f (k ∷ ks) each = (each k, all_mapped Q f ks each)

-- what holds of all elements holds of the one at each place
at_place : {X : Type 0} (Q : X → Type 0) (xs : List X) → AllByRecursion Q xs → (k : ℕ) (x : X) → slice_get xs k ≡ Some x → Q x
at_place Q [] all k x there = cc
at_place Q (y ∷ xs) all zero x there = (let same : y ≡ x = cc in subst Q same all.0)
at_place Q (y ∷ xs) all (suc k) x there = at_place Q xs all.1 k x there

-- the bank is faultless, with any number of transfers
pub bank_is_faultless : (n : ℕ) → IsFaultless (bank_program n)
bank_is_faultless n =
    let P = bank_program n in
    record {
      main = refl;
      short = refl;
      right = at_place (IsRight P) P.functions (
        main_is_right n,
        all_mapped (IsRight P) (transfer_function n) (range_with_len 0 8)
            (transfer_is_right P n),
      );
    }
