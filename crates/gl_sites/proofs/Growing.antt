-- The instructions of a program's functions, while lines add to it.
use Rattle.std.proofs.Common.{◌≡◌, ℕ, zero, suc, ◌+◌, ◌<◌, List, [], ◌∷◌, ◌++◌, Some, length, fold, take, refl, sym, ap, subst, inl, inr, arith, length-append}
use Rattle.std.specs.Prelude.{◌⊎◌, slice_get}
use Rattle.gl_bytecode.specs.declared.instr.Catch.{Catch}
use Rattle.gl_bytecode.specs.declared.instr.Instr.{Instr}
use Rattle.gl_bytecode.specs.Programs.{Draft, Function, with_last}
use Rattle.gl_asm.specs.declared.additions.Addition.{Addition}
use Rattle.gl_asm.specs.declared.additions.Addition.TheVariants.{Nothing, Class as AddsClass, Function as AddsFunction, Instruction as AddsInstruction, Catch as AddsCatch, Inputs as AddsInputs}
use Rattle.gl_asm.specs.Code.{code_of}
use Rattle.gl_asm.specs.Texts.{added}

-- the instructions of function f
abbrev pub code_at : List Function → ℕ → List Instr
code_at Fs f = code_of (slice_get Fs f)

-- the function with an instruction more
abbrev pub with_more : Instr → Function → Function
with_more x F = record F { code = F.code ++ x ∷ [] }

-- the function with a catch more
abbrev pub with_one : Catch → Function → Function
with_one k F = record F { catches = F.catches ++ k ∷ [] }

-- ## Lists

-- what stands in a list stands in a longer one
pub get_before : {A : Type 0} (xs ys : List A) (i : ℕ) (x : A) → slice_get xs i ≡ Some x → slice_get (xs ++ ys) i ≡ Some x
get_before [] ys i x is = cc
get_before (a ∷ xs) ys zero x is = is
get_before (a ∷ xs) ys (suc i) x is = get_before xs ys i x is

-- the one behind a list
pub get_last : {A : Type 0} (xs : List A) (x : A) → slice_get (xs ++ x ∷ []) (length xs) ≡ Some x
get_last [] x = refl
get_last (a ∷ xs) x = get_last xs x

-- in a list with one more stands what was there before, or the one
pub get_either : {A : Type 0} (xs : List A) (y : A) (i : ℕ) (x : A) → slice_get (xs ++ y ∷ []) i ≡ Some x
    → (slice_get xs i ≡ Some x) ⊎ (length xs ≡ i)
get_either [] y zero x is = inr refl
get_either [] y (suc i) x is = cc
get_either (a ∷ xs) y zero x is = inl is
get_either (a ∷ xs) y (suc i) x is =
    elim (get_either xs y i x is) [
      | inl old ↦ inl old
      | inr last ↦ inr (ap suc last)
    ]

-- ## One instruction more

-- each instruction stays
pub stays_with : (Fs : List Function) (y : Instr) (f i : ℕ) (x : Instr) → slice_get (code_at Fs f) i ≡ Some x
    → slice_get (code_at (with_last (with_more y) Fs) f) i ≡ Some x
stays_with [] y f i x is = is
stays_with (F ∷ []) y zero i x is = get_before F.code (y ∷ []) i x is
stays_with (F ∷ []) y (suc f) i x is = is
stays_with (F ∷ G ∷ Fs) y zero i x is = is
stays_with (F ∷ G ∷ Fs) y (suc f) i x is = stays_with (G ∷ Fs) y f i x is

-- the new one stands behind those of the last function
pub stands_last : (Fs : List Function) (y : Instr) (f : ℕ) → length Fs ≡ f + 1
    → slice_get (code_at (with_last (with_more y) Fs) f) (length (code_at Fs f)) ≡ Some y
stands_last [] y f is = absurd (omega (arith, is))
stands_last (F ∷ []) y zero is = get_last F.code y
stands_last (F ∷ []) y (suc f) is = absurd (omega (arith, is))
stands_last (F ∷ G ∷ Fs) y zero is = absurd (omega (arith, is))
stands_last (F ∷ G ∷ Fs) y (suc f) is = stands_last (G ∷ Fs) y f (omega (arith, is))

-- the last function has one more
pub longer_by_one : (Fs : List Function) (y : Instr) (f : ℕ) → length Fs ≡ f + 1
    → length (code_at (with_last (with_more y) Fs) f) ≡ length (code_at Fs f) + 1
longer_by_one [] y f is = absurd (omega (arith, is))
longer_by_one (F ∷ []) y zero is = length-append F.code (y ∷ [])
longer_by_one (F ∷ []) y (suc f) is = absurd (omega (arith, is))
longer_by_one (F ∷ G ∷ Fs) y zero is = absurd (omega (arith, is))
longer_by_one (F ∷ G ∷ Fs) y (suc f) is = longer_by_one (G ∷ Fs) y f (omega (arith, is))

-- an instruction was there before, or is the new one
pub was_or_comes : (Fs : List Function) (y : Instr) (f i : ℕ) (x : Instr)
    → slice_get (code_at (with_last (with_more y) Fs) f) i ≡ Some x
    → (slice_get (code_at Fs f) i ≡ Some x) ⊎ ((length Fs ≡ f + 1) × (length (code_at Fs f) ≡ i))
was_or_comes [] y f i x is = inl is
was_or_comes (F ∷ []) y zero i x is =
    elim (get_either F.code y i x is) [
      | inl old ↦ inl old
      | inr last ↦ inr (refl, last)
    ]
was_or_comes (F ∷ []) y (suc f) i x is = inl is
was_or_comes (F ∷ G ∷ Fs) y zero i x is = inl is
was_or_comes (F ∷ G ∷ Fs) y (suc f) i x is =
    elim (was_or_comes (G ∷ Fs) y f i x is) [
      | inl old ↦ inl old
      | inr here ↦ let count = here.0 in inr (omega (arith, count), here.1)
    ]

-- ## Other additions

-- a catch changes no instruction
pub same_with_catch : (Fs : List Function) (k : Catch) (f : ℕ) → code_at (with_last (with_one k) Fs) f ≡ code_at Fs f
same_with_catch [] k f = refl
same_with_catch (F ∷ []) k zero = refl
same_with_catch (F ∷ []) k (suc f) = refl
same_with_catch (F ∷ G ∷ Fs) k zero = refl
same_with_catch (F ∷ G ∷ Fs) k (suc f) = same_with_catch (G ∷ Fs) k f

-- a new function has no instruction, and the others are as they were
pub same_with_function : (Fs : List Function) (F : Function) (f : ℕ) → F.code ≡ [] → code_at (Fs ++ F ∷ []) f ≡ code_at Fs f
same_with_function [] F zero none = none
same_with_function [] F (suc f) none = refl
same_with_function (G ∷ Fs) F zero none = refl
same_with_function (G ∷ Fs) F (suc f) none = same_with_function Fs F f none

-- ## Any addition

-- each instruction stays
pub stays_added : (D : Draft) (a : Addition) (f i : ℕ) (x : Instr) → slice_get (code_at D.functions f) i ≡ Some x
    → slice_get (code_at (added D a).functions f) i ≡ Some x
stays_added D Nothing f i x is = is
stays_added D (AddsClass p v) f i x is = is
stays_added D (AddsFunction args locals) f i x is =
    subst (λ code. slice_get code i ≡ Some x)
    (sym (same_with_function D.functions (record { args = args; locals = locals; code = []; catches = [] }) f refl)) is
stays_added D (AddsInstruction y) f i x is = stays_with D.functions y f i x is
stays_added D (AddsCatch k) f i x is = subst (λ code. slice_get code i ≡ Some x) (sym (same_with_catch D.functions k f)) is
stays_added D (AddsInputs zs) f i x is = is

-- and stays behind all that is added
pub stays : (D : Draft) (adding : List Addition) (f i : ℕ) (x : Instr) → slice_get (code_at D.functions f) i ≡ Some x
    → slice_get (code_at (fold added D adding).functions f) i ≡ Some x
stays D [] f i x is = is
stays D (a ∷ adding) f i x is = stays (added D a) adding f i x (stays_added D a f i x is)

-- the addition is an instruction of the last function, which has so many before it
pub record Comes (D : Draft) (a : Addition) (f i : ℕ) : Type 0 where
  pub instr : Instr
  pub is : a ≡ AddsInstruction instr
  pub functions : length D.functions ≡ f + 1
  pub instructions : length (code_at D.functions f) ≡ i

-- an instruction was there before an addition, or is added by it
pub was_or_added : (D : Draft) (a : Addition) (f i : ℕ) (x : Instr) → slice_get (code_at (added D a).functions f) i ≡ Some x
    → (slice_get (code_at D.functions f) i ≡ Some x) ⊎ Comes D a f i
was_or_added D Nothing f i x is = inl is
was_or_added D (AddsClass p v) f i x is = inl is
was_or_added D (AddsFunction args locals) f i x is = inl (subst (λ code. slice_get code i ≡ Some x)
    (same_with_function D.functions (record { args = args; locals = locals; code = []; catches = [] }) f refl) is)
was_or_added D (AddsInstruction y) f i x is =
    elim (was_or_comes D.functions y f i x is) [
      | inl old ↦ inl old
      | inr here ↦ inr (record { instr = y; is = refl; functions = here.0; instructions = here.1 })
    ]
was_or_added D (AddsCatch k) f i x is = inl (subst (λ code. slice_get code i ≡ Some x) (same_with_catch D.functions k f) is)
was_or_added D (AddsInputs zs) f i x is = inl is

-- after so many of the additions comes the instruction
pub record ComesAt (D : Draft) (adding : List Addition) (f i : ℕ) : Type 0 where
  pub before : ℕ
  pub addition : Addition
  pub there : slice_get adding before ≡ Some addition
  pub comes : Comes (fold added D (take before adding)) addition f i

-- an instruction was there before all additions, or is added by one
pub comes_from : (D : Draft) (adding : List Addition) (f i : ℕ) (x : Instr)
    → slice_get (code_at (fold added D adding).functions f) i ≡ Some x
    → (slice_get (code_at D.functions f) i ≡ Some x) ⊎ ComesAt D adding f i
comes_from D [] f i x is = inl is
comes_from D (a ∷ adding) f i x is =
    elim (comes_from (added D a) adding f i x is) [
      | inl early ↦
          elim (was_or_added D a f i x early) [
            | inl old ↦ inl old
            | inr here ↦ inr (record { before = 0; addition = a; there = refl; comes = here })
          ]
      | inr later ↦ inr (record { before = suc later.before; addition = later.addition; there = later.there; comes = later.comes })
    ]

-- an instruction that is added by the one at this place stands where it comes, behind any number of additions from there on
pub stands_behind : (D : Draft) (adding : List Addition) (k m f i : ℕ) (y : Instr) → slice_get adding k ≡ Some (AddsInstruction y) → k < m
    → length (fold added D (take k adding)).functions ≡ f + 1 → length (code_at (fold added D (take k adding)).functions f) ≡ i
    → slice_get (code_at (fold added D (take m adding)).functions f) i ≡ Some y
stands_behind D [] k m f i y there less functions instructions = cc
stands_behind D (a ∷ adding) zero zero f i y there less functions instructions = absurd (omega (arith, less))
stands_behind D (a ∷ adding) zero (suc m) f i y there less functions instructions =
    let is : a ≡ AddsInstruction y = cc in
    let here : slice_get (code_at (added D (AddsInstruction y)).functions f) i ≡ Some y =
    subst (λ n. slice_get (code_at (added D (AddsInstruction y)).functions f) n ≡ Some y) instructions
    (stands_last D.functions y f functions) in
    stays (added D a) (take m adding) f i y
    (subst (λ b. slice_get (code_at (added D b).functions f) i ≡ Some y) (sym is) here)
stands_behind D (a ∷ adding) (suc k) zero f i y there less functions instructions = absurd (omega (arith, less))
stands_behind D (a ∷ adding) (suc k) (suc m) f i y there less functions instructions =
    stands_behind (added D a) adding k m f i y there (omega (arith, less)) functions instructions
