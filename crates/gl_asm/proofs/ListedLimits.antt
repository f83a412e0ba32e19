-- A program that nothing is wrong with is within the limits, and its lines can say it.
use Rattle.std.proofs.Common.{◌≡◌, ◌<◌, ◌≤◌, ◌==◌, ◌||◌, ℕ, List, [], ◌∷◌, zero, suc, subst, Bool, true, false, Option, Some, None, length, refl, ap, ◌∙◌, arith, nat_lt, slice_get}
use Rattle.std.specs.List.{AllByRecursion, list_any}
use Rattle.std.specs.Option.{option_and_then}
use Rattle.std.proofs.Math.Bool.{or-true}
use Rattle.std.proofs.lemmas.Bool.{and_parts, ltb-true, ltb-false, leb-true, or_parts}
use Rattle.std.proofs.lemmas.Bool.Decides.{nat_tests}
use Rattle.std.proofs.lemmas.List.Folds.{list_any_at}
use Rattle.std.proofs.lemmas.Option.{get_or_from_slice_get, slice_get_within}
use Rattle.gl_model.specs.declared.limits.TheConstants.{VARIABLES, VOLATILES}
use Rattle.gl_bytecode.specs.declared.instr.Catch.{Catch}
use Rattle.gl_bytecode.specs.declared.instr.Instr.{Instr}
use Rattle.gl_bytecode.specs.declared.instr.Instr.TheVariants.{Push, Load, Store, Inc, Jump, Jz, Jnz, Call, Throw, New, Get, Put, Vget, Vput, Fork}
use Rattle.gl_bytecode.specs.declared.limits.TheConstants.{CATCHES}
use Rattle.gl_bytecode.specs.Faults.{AllThrowInRange, IsFaultless, ThrowsInRange, has_args, instr_fault, is_long_class, is_long_function, is_too_long}
use Rattle.gl_bytecode.specs.Programs.{Bytecode, Function, function_at, instr_at}
use Rattle.gl_bytecode.proofs.Faultless.{IsNamed, all_from, catch_named, faultless_is_sound, holds, instr_right, none_at, limits_of}
use Rattle.gl_asm.specs.declared.table.Operand.TheVariants.{Label}
use Rattle.gl_asm.specs.Code.{code_of}
use Rattle.gl_asm.specs.Listable.{AreTyped, IsTyped, OperandsAreTyped}
use Rattle.gl_asm.specs.Listing.{catch_names, is_label}
use Rattle.gl_asm.specs.Words.{operand_of}
use Rattle.gl_asm.proofs.ListedWalk.{IsHandler, IsLabel, IsListable, IsSayable, IsShortClass, IsThere}
use Rattle.gl_asm.proofs.ListedWords.{Fits}

-- ## Limits

-- each class of a program that is not too long has no more fields than a class may have
pub short_classes : (P : Bytecode) → is_too_long P ≡ false → AllByRecursion IsShortClass P.classes
short_classes P short = all_from IsShortClass P.classes (λ k fields is.
    let ends = or_parts _ _ (none_at is_long_class P.classes k fields (limits_of P short).each_class is) in
    (ltb-false VARIABLES fields.plain ends.0, ltb-false VOLATILES fields.volatile ends.1))

-- where the arguments of a function are counted, there is the function
args_there : (n : ℕ) (o : Option Function) → has_args n o ≡ true → (F : Function) × (o ≡ Some F)
args_there n None is = cc
args_there n (Some F) is = (F, refl)

-- a function that has so many arguments is there
function_there : (P : Bytecode) (n f : ℕ) → has_args n (function_at P f) ≡ true → f < length P.functions
function_there P n f is = let there = args_there n (function_at P f) is in slice_get_within P.functions f there.0 there.1

-- the main of a faultless program is one of its functions
pub has_main : (P : Bytecode) → IsFaultless P → P.main < length P.functions
has_main P ok = function_there P 0 P.main ok.main

-- ## Labels

-- where an element at some place passes a test, some element of the list passes it
some_has : {X : Type 0} (p : X → Bool) (xs : List X) (k : ℕ) (x : X) → slice_get xs k ≡ Some x → p x ≡ true → list_any p xs ≡ true
some_has p xs k x is has = list_any_at p xs k x (slice_get_within xs k x is) (ap p (get_or_from_slice_get xs k x x is) ∙ has)

-- a number is equal to itself
itself : (n : ℕ) → (n == n) ≡ true
itself n = grind (arith, nat_tests)

-- the place that an instruction goes to is listed
jump_label : (F : Function) (at : ℕ) (i : Instr) (to : ℕ) → slice_get F.code at ≡ Some i → operand_of i ≡ Label to
    → nat_lt to (length F.code) ≡ true → IsLabel F to
jump_label F at i to there goes within =
    let inside = ltb-true to (length F.code) within in
    let some : list_any (λ j. is_label to (operand_of j)) F.code
    ≡ true = some_has (λ j. is_label to (operand_of j)) F.code at i there (ap (is_label to) goes ∙ itself to) in
    (omega arith, ap (λ b. b || list_any (catch_names to) F.catches) some)

-- a place that a catch names is listed
catch_label : (F : Function) (k : ℕ) (h : Catch) (at : ℕ) → slice_get F.catches k ≡ Some h → catch_names at h ≡ true → at ≤ length F.code
    → IsLabel F at
catch_label F k h at there names within =
    let some : list_any (catch_names at) F.catches ≡ true = some_has (catch_names at) F.catches k h there names in
    let jumps = list_any (λ j. is_label at (operand_of j)) F.code in
    (within, ap (λ b. jumps || b) some ∙ or-true jumps)

-- where the first of three holds, one of them does
first_of_three : (a b c : Bool) → a ≡ true → (a || b || c) ≡ true
first_of_three true b c is = refl
first_of_three false b c is = cc

-- where the second of three holds, one of them does
second_of_three : (a b c : Bool) → b ≡ true → (a || b || c) ≡ true
second_of_three true b c is = refl
second_of_three false true c is = refl
second_of_three false false c is = cc

-- where the third of three holds, one of them does
third_of_three : (a b c : Bool) → c ≡ true → (a || b || c) ≡ true
third_of_three true b c is = refl
third_of_three false true c is = refl
third_of_three false false c is = is

-- the three places of each catch of a function whose names are right are places that get labels
handler_there : (P : Bytecode) (F : Function) → IsNamed P F → (k : ℕ) (h : Catch) → slice_get F.catches k ≡ Some h → IsHandler F h
handler_there P F named k h is =
    let all = holds _ _ (catch_named P F named k h is) in
    let parts = and_parts _ _ all in
    let firsts = and_parts _ _ parts.0 in
    let target = ltb-true h.target (length F.code) firsts.0 in
    let order = leb-true h.from h.to firsts.1 in
    let within = leb-true h.to (length F.code) parts.1 in
    let from_end = h.from == h.from in (
      catch_label F k h h.from is (first_of_three (h.from == h.from) (h.to == h.from) (h.target == h.from) (itself h.from))
          (omega (arith, order, within)),
      catch_label F k h h.to is (second_of_three (h.from == h.to) (h.to == h.to) (h.target == h.to) (itself h.to)) within,
      catch_label F k h h.target is (third_of_three (h.from == h.target) (h.to == h.target) (h.target == h.target) (itself h.target))
          (omega (arith, target)),
    )

-- ## Operands

-- what an instruction names is there, where the instruction has no fault
there_of : (P : Bytecode) (F : Function) (at : ℕ) (i : Instr) → slice_get F.code at ≡ Some i → instr_fault P F i ≡ None
    → IsThere P F (operand_of i)
there_of P F at (Jump to) there right = jump_label F at (Jump to) to there refl (holds (nat_lt to (length F.code)) _ right)
there_of P F at (Jz to) there right = jump_label F at (Jz to) to there refl (holds (nat_lt to (length F.code)) _ right)
there_of P F at (Jnz to) there right = jump_label F at (Jnz to) to there refl (holds (nat_lt to (length F.code)) _ right)
there_of P F at (Call f) there right = ltb-true f (length P.functions) (holds (nat_lt f (length P.functions)) _ right)
there_of P F at (Fork f) there right = function_there P 1 f (holds (has_args 1 (function_at P f)) _ right)
there_of P F at (New c) there right = ltb-true c (length P.classes) (holds (nat_lt c (length P.classes)) _ right)
there_of P F at _ there right = tt

-- an operand fits a line, where it is of its type and the code that is thrown is in range
fits_if : (i : Instr) → ThrowsInRange i → IsTyped (operand_of i) → Fits (operand_of i)
fits_if (Push n) thrown typed = typed
fits_if (Load k) thrown typed = typed
fits_if (Store k) thrown typed = typed
fits_if (Inc k n) thrown typed = typed
fits_if (Jump to) thrown typed = typed
fits_if (Jz to) thrown typed = typed
fits_if (Jnz to) thrown typed = typed
fits_if (Call f) thrown typed = typed
fits_if (Throw code) thrown typed = thrown
fits_if (New c) thrown typed = typed
fits_if (Get k) thrown typed = typed
fits_if (Put k) thrown typed = typed
fits_if (Vget k) thrown typed = typed
fits_if (Vput k) thrown typed = typed
fits_if (Fork f) thrown typed = typed
fits_if _ thrown typed = tt

-- what holds of all elements holds of the one at each place
holds_at : {X : Type 0} (P : X → Type 0) (xs : List X) (k : ℕ) (x : X) → AllByRecursion P xs → slice_get xs k ≡ Some x → P x
holds_at P [] k x all is = cc
holds_at P (y ∷ xs) zero x all is = let same : y ≡ x = cc in subst P same all.0
holds_at P (y ∷ xs) (suc k) x all is = holds_at P xs k x all.1 is

-- the operands of an instruction that is there fit a line, where codes are in range and operands of their types
fit_of : (P : Bytecode) (o : Option Function) (at : ℕ) (i : Instr) → ((F : Function) → o ≡ Some F → AllByRecursion ThrowsInRange F.code)
    → AreTyped (code_of o)
    → option_and_then (λ (F : Function). slice_get F.code at) o ≡ Some i → Fits (operand_of i)
fit_of P None at i thrown typed is = cc
fit_of P (Some F) at i thrown typed is = fits_if i (holds_at ThrowsInRange F.code at i (thrown F refl) is) (typed at i is)

-- the operands of a program fit, where they are of their types and the codes that are thrown are in range
fits_at : (P : Bytecode) → AllThrowInRange P.functions → OperandsAreTyped P → (f at : ℕ) (i : Instr) → instr_at P f at ≡ Some i
    → Fits (operand_of i)
fits_at P thrown typed f at i is =
    fit_of P (function_at P f) at i (λ F there. holds_at (λ (G : Function). AllByRecursion ThrowsInRange G.code) P.functions f F thrown
    there) (typed f) is

-- ## Functions

-- each function of a faultless program can be listed, where its codes are in range and its operands of their types
pub listable : (P : Bytecode) → IsFaultless P → AllThrowInRange P.functions → OperandsAreTyped P → (f : ℕ) (F : Function) → function_at P f
    ≡ Some F → IsListable P F
listable P ok thrown typed f F is =
    let sound = (faultless_is_sound P ok).1 in
    let locals = sound.locals f F is in
    let named = (ok.right f F is).named in
    let long = or_parts _ _ (none_at is_long_function P.functions f F (limits_of P ok.short).each_function is) in
    let many = or_parts _ _ long.0 in
    let here : (at : ℕ) (i : Instr) → slice_get F.code at ≡ Some i → option_and_then (λ G. slice_get G.code at) (function_at P f) ≡ Some i =
    λ at i there. ap (option_and_then (λ (G : Function). slice_get G.code at)) is ∙ there
    in
    record {
      args = omega (arith, locals.0, locals.1);
      locals = locals.1;
      code = sound.short f F is;
      catches = ltb-false CATCHES (length F.catches) many.0;
      instrs = all_from (IsSayable P F) F.code (λ at i there. record {
        fits = fits_at P thrown typed f at i (here at i there);
        there = there_of P F at i there (instr_right P F named at i there);
      });
      handlers = all_from (IsHandler F) F.catches (λ k h there. handler_there P F named k h there);
    }
