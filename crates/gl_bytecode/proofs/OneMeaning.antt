-- A draft has no two first faults, and that of a faultless program has none.
use Rattle.std.proofs.Common.{◌≡◌, ℕ, ◌<◌, Option, Some, refl, sym, ◌∙◌, subst, inl, inr}
use Rattle.std.specs.Prelude.{◌⊎◌}
use Rattle.std.proofs.lemmas.Bool.{cases_order}
use Rattle.gl_bytecode.specs.declared.fault.ProgFault.{ProgFault}
use Rattle.gl_bytecode.specs.Faults.{IsFaultless, IsFirstFault, IsFirstIn, IsFirstOfFunctions, IsRight, NamesWrong, fault_at, program_of}
use Rattle.gl_bytecode.specs.Programs.{Bytecode, Draft, Function, draft_of, function_at}

-- a function with a fault is not one without
not_right : (P : Bytecode) (F : Function) (kind at : ℕ) → IsFirstIn P F kind at → IsRight P F → ⊥
not_right P F kind at (inl x) right = (let one = x.wrong in let other = right.named at in cc)
not_right P F kind at (inr (inl x)) right = (let one = x.ended in let other = right.ended in cc)
not_right P F kind at (inr (inr x)) right = x.depths right.depths

-- a faultless program has no first fault of its functions
first_apart : (P : Bytecode) (x : ProgFault) → IsFaultless P → IsFirstOfFunctions P x → ⊥
first_apart P x ok r = not_right P r.function x.kind x.at r.first (ok.right x.function r.function r.there)

-- a faultless program has no first fault
pub apart : (P : Bytecode) (x : ProgFault) → IsFaultless P → IsFirstFault (draft_of P) x → ⊥
apart P x ok (inl no_main) = (let one = no_main.0 in let other = ok.main in cc)
apart P x ok (inr (inl long)) = (let one = long.1 in let other = ok.short in cc)
apart P x ok (inr (inr functions)) = first_apart P x ok functions.2

-- ## Two first faults of one function

-- a function has one first name that is wrong
names_once : (P : Bytecode) (F : Function) (j k a b : ℕ) → NamesWrong P F j a → NamesWrong P F k b → (j ≡ k) × (a ≡ b)
names_once P F j k a b x y = by_order (cases_order a b) where
  by_order : (a ≡ b) ⊎ ((a < b) ⊎ (b < a)) → (j ≡ k) × (a ≡ b)
  by_order (inr (inl less)) = (let one = y.before a less in let other = x.wrong in cc)
  by_order (inl same) =
      let one = x.wrong in
      let other : fault_at P F a ≡ Some k = rw same y.wrong in
      (cc, same)
  by_order (inr (inr less)) = (let one = x.before b less in let other = y.wrong in cc)

-- a function has one first fault
once : (P : Bytecode) (F : Function) (j k a b : ℕ) → IsFirstIn P F j a → IsFirstIn P F k b → (j ≡ k) × (a ≡ b)
once P F j k a b (inl x) (inl y) = names_once P F j k a b x y
once P F j k a b (inl x) (inr (inl y)) = (let one = x.wrong in let other = y.named a in cc)
once P F j k a b (inl x) (inr (inr y)) = (let one = x.wrong in let other = y.named a in cc)
once P F j k a b (inr (inl x)) (inl y) = (let one = y.wrong in let other = x.named b in cc)
once P F j k a b (inr (inl x)) (inr (inl y)) = (x.kind_is ∙ sym y.kind_is, x.at_is ∙ sym y.at_is)
once P F j k a b (inr (inl x)) (inr (inr y)) = (let one = x.ended in let other = y.ended in cc)
once P F j k a b (inr (inr x)) (inl y) = (let one = y.wrong in let other = x.named b in cc)
once P F j k a b (inr (inr x)) (inr (inl y)) = (let one = x.ended in let other = y.ended in cc)
once P F j k a b (inr (inr x)) (inr (inr y)) = (x.kind_is ∙ sym y.kind_is, x.at_is ∙ sym y.at_is)

-- ## Two first faults of one draft

-- an option that is there is one function
some_same : (o : Option Function) (F G : Function) → o ≡ Some F → o ≡ Some G → F ≡ G
some_same o F G first second = cc

-- faults of the same kind, function and place are the same
fault_is : (x y : ProgFault) → x.kind ≡ y.kind → x.function ≡ y.function → x.at ≡ y.at → x ≡ y
fault_is x y kinds functions places =
    let made : ℕ → ℕ → ℕ → ProgFault = λ kind function at. record { kind = kind; function = function; at = at } in
    let same : made x.kind x.function x.at ≡ made y.kind y.function y.at = rw (kinds, functions, places) refl in
    same

-- the functions of a program have one first fault
functions_once : (P : Bytecode) (x y : ProgFault) → IsFirstOfFunctions P x → IsFirstOfFunctions P y → x ≡ y
functions_once P x y r s = by_order (cases_order x.function y.function) where
  by_order : (x.function ≡ y.function) ⊎ ((x.function < y.function) ⊎ (y.function < x.function)) → x ≡ y
  by_order (inr (inl less)) = absurd (not_right P r.function x.kind x.at r.first (s.before x.function r.function less r.there))
  by_order (inl same) =
      let there : function_at P x.function ≡ Some s.function = rw same s.there in
      let one_function : s.function ≡ r.function = some_same (function_at P x.function) s.function r.function there r.there in
      let Q : Function → Type 0 = λ F. IsFirstIn P F y.kind y.at in
      let both = once P r.function x.kind y.kind x.at y.at r.first (subst Q one_function s.first) in
      fault_is x y both.0 same both.1
  by_order (inr (inr less)) = absurd (not_right P s.function y.kind y.at s.first (r.before y.function s.function less s.there))

-- a draft has one first fault
pub faults_once : (D : Draft) (x y : ProgFault) → IsFirstFault D x → IsFirstFault D y → x ≡ y
faults_once D x y (inl a) (inl b) = a.1 ∙ sym b.1
faults_once D x y (inl a) (inr (inl b)) = (let one = a.0 in let other = b.0 in cc)
faults_once D x y (inl a) (inr (inr b)) = (let one = a.0 in let other = b.0 in cc)
faults_once D x y (inr (inl a)) (inl b) = (let one = a.0 in let other = b.0 in cc)
faults_once D x y (inr (inl a)) (inr (inl b)) = a.2 ∙ sym b.2
faults_once D x y (inr (inl a)) (inr (inr b)) = (let one = a.1 in let other = b.1 in cc)
faults_once D x y (inr (inr a)) (inl b) = (let one = a.0 in let other = b.0 in cc)
faults_once D x y (inr (inr a)) (inr (inl b)) = (let one = a.1 in let other = b.1 in cc)
faults_once D x y (inr (inr a)) (inr (inr b)) = functions_once (program_of D) x y a.2 b.2
