-- A program that nothing is wrong with is valid.
use Rattle.std.proofs.Common.{◌≡◌, ℕ, zero, suc, ◌+◌, ◌-◌, ◌<◌, ◌≤◌, nat_lt, Bool, true, false, not, List, [], ◌∷◌, length, Option, Some, None, refl, sym, ◌∙◌, ap, subst, arith}
use Rattle.std.specs.Prelude.{slice_get, sum_by, if◌then◌else◌}
use Rattle.std.specs.List.{AllByRecursion, list_any}
use Rattle.std.proofs.lemmas.Bool.Decides.{nat_tests}
use Rattle.std.proofs.lemmas.List.Sums.{sum_by-cons}
use Rattle.std.proofs.lemmas.Option.{slice_get_within}
use Rattle.std.proofs.lemmas.Bool.{and_parts, or_parts, ltb-true, ltb-false}
use Rattle.gl_bytecode.specs.declared.instr.Catch.{Catch}
use Rattle.gl_bytecode.specs.declared.instr.Flow.{Flow}
use Rattle.gl_bytecode.specs.declared.instr.Flow.TheVariants.{Leaves, Next, Always, Either}
use Rattle.gl_bytecode.specs.declared.instr.Instr.{Instr}
use Rattle.gl_bytecode.specs.declared.instr.Instr.TheVariants.{Jump, Jz, Jnz, Ret, Halt, Throw}
use Rattle.gl_bytecode.specs.declared.limits.TheConstants.{CODE, LOCALS, OPERANDS}
use Rattle.gl_model.specs.declared.limits.TheConstants.{CLASSES, FUNCTIONS}
use Rattle.gl_bytecode.specs.Faults.{AreDepths, HasDepths, IsFaultless, IsRight, catch_fault, closes, fault_at, falls_off, has_args, instr_fault, is_closed, is_long_class, is_long_function, is_too_long, named_fault, unless}
use Rattle.gl_bytecode.specs.Instructions.{Named, Nothing, Local, Place, Called, Forked, Class, Thrown, flow, gives, named_by, needs, places_after, successors}
use Rattle.gl_bytecode.specs.Programs.{Bytecode, Function, function_at}
use Rattle.gl_bytecode.specs.Validity.{Depths, Goes, IsThere, IsValid, NamesWhatIs}

-- ## Tests

-- a test holds, where there is no fault for want of it
pub holds : (b : Bool) (kind : ℕ) → unless b kind ≡ None → b ≡ true
holds true kind is = refl
holds false kind is = cc

-- ## Lists

-- a test that no element passes fails at each place
pub none_at : {X : Type 0} (p : X → Bool) (xs : List X) (k : ℕ) (x : X) → list_any p xs ≡ false → slice_get xs k ≡ Some x → p x ≡ false
none_at p [] k x none is = cc
none_at p (y ∷ xs) zero x none is = (let same : y ≡ x = cc in rw (sym same) (or_parts (p y) (list_any p xs) none).0)
none_at p (y ∷ xs) (suc k) x none is = none_at p xs k x (or_parts (p y) (list_any p xs) none).1 is

-- no element is more than the sum
at_most_sum : {X : Type 0} (f : X → ℕ) (xs : List X) (k : ℕ) (x : X) → slice_get xs k ≡ Some x → f x ≤ sum_by f xs
at_most_sum f [] k x is = cc
at_most_sum f (y ∷ xs) zero x is =
    (let same : y ≡ x = cc in let sum = sum_by-cons f y xs in let same' : f y ≡ f x = ap f same in omega arith)
at_most_sum f (y ∷ xs) (suc k) x is = (let sum = sum_by-cons f y xs in let more = at_most_sum f xs k x is in omega arith)

-- what holds at each place holds of all elements
pub all_from : {X : Type 0} (Q : X → Type 0) (xs : List X) → ((k : ℕ) (x : X) → slice_get xs k ≡ Some x → Q x) → AllByRecursion Q xs
all_from Q [] each = tt
all_from Q (x ∷ xs) each = (each 0 x refl, all_from Q xs (λ k y is. each (suc k) y is))

-- two things that hold of all elements, joined
pub all_with : {X : Type 0} (Q R S : X → Type 0) (xs : List X) → ((x : X) → Q x → R x → S x) → AllByRecursion Q xs → AllByRecursion R xs
    → AllByRecursion S xs
all_with Q R S [] join q r = tt
all_with Q R S (x ∷ xs) join q r = (join x q.0 r.0, all_with Q R S xs join q.1 r.1)

-- below the length of a list there is an element
there_below : {X : Type 0} (xs : List X) (k : ℕ) → k < length xs → (x : X) × (slice_get xs k ≡ Some x)
there_below [] k ltb-true = absurd (omega arith)
there_below (x ∷ xs) zero ltb-true = (x, refl)
there_below (x ∷ xs) (suc k) ltb-true = there_below xs k (omega arith)

-- ## What is named

-- what has no fault is there
named_right : (P : Bytecode) (F : Function) (n : Named) → named_fault P F n ≡ None → IsThere P F n
named_right P F Nothing none = tt
named_right P F (Local k) none = ltb-true k F.locals (holds (nat_lt k F.locals) _ none)
named_right P F (Place to) none = tt
named_right P F (Called f) none = ltb-true f (length P.functions) (holds (nat_lt f (length P.functions)) _ none)
named_right P F (Forked f) none = with_args 1 (function_at P f) (holds (has_args 1 (function_at P f)) _ none) where
  with_args : (n : ℕ) (o : Option Function) → has_args n o ≡ true → (G : Function) × (o ≡ Some G) × (G.args ≡ n)
  with_args n None is = cc
  with_args n (Some G) is = (G, refl, grind (arith, nat_tests))
named_right P F (Class c) none = ltb-true c (length P.classes) (holds (nat_lt c (length P.classes)) _ none)
named_right P F (Thrown code) none = tt

-- an instruction without a fault names what is there
pub names_right : (P : Bytecode) (F : Function) (i : Instr) → instr_fault P F i ≡ None → NamesWhatIs P F i
names_right P F i none = named_right P F (named_by i) none

-- the instruction that a jump names is there
abbrev TargetIsThere : Function → Flow → Type 0
TargetIsThere F Leaves = Unit {0}
TargetIsThere F Next = Unit {0}
TargetIsThere F (Always to) = to < length F.code
TargetIsThere F (Either to) = to < length F.code

-- a jump without a fault goes to an instruction that is there
target_there : (P : Bytecode) (F : Function) (i : Instr) → instr_fault P F i ≡ None → TargetIsThere F (flow i)
target_there P F (Jump to) none = ltb-true to (length F.code) (holds (nat_lt to (length F.code)) _ none)
target_there P F (Jz to) none = ltb-true to (length F.code) (holds (nat_lt to (length F.code)) _ none)
target_there P F (Jnz to) none = ltb-true to (length F.code) (holds (nat_lt to (length F.code)) _ none)
target_there P F _ none = tt

-- and so is the one that follows, where it is gone on to
next_there :
    (F : Function) (at : ℕ) (i : Instr) → slice_get F.code at ≡ Some i → falls_off F ≡ false → is_closed (flow i) ≡ false →
    at + 1 < length F.code
next_there F at i is ended goes_on = by_test (nat_lt (at + 1) (length F.code)) refl where
  by_test : (b : Bool) → nat_lt (at + 1) (length F.code) ≡ b → at + 1 < length F.code
  by_test true passes = ltb-true (at + 1) (length F.code) passes
  by_test false fails =
      let within = slice_get_within F.code at i is in
      let past = ltb-false (at + 1) (length F.code) fails in
      let last : length F.code - 1 ≡ at = omega arith in
      let falls : falls_off F ≡ true = rw (last, is, goes_on) refl in
      cc

-- the places after an instruction are there, where its target is and it does not fall off
successors_there :
    (F : Function) (at : ℕ) (fl : Flow) → TargetIsThere F fl → (is_closed fl ≡ false → at + 1 < length F.code) →
    AllByRecursion (λ to. to < length F.code) (places_after fl at)
successors_there F at Leaves target next = tt
successors_there F at Next target next = (next refl, tt)
successors_there F at (Always to) target next = (target, tt)
successors_there F at (Either to) target next = (target, (next refl, tt))

-- ## One function

-- where all that is named is there, this is known at each place
abbrev pub IsNamed : Bytecode → Function → Type 0
IsNamed P F = (at : ℕ) → fault_at P F at ≡ None

-- each instruction of a function whose names are right has no fault
pub instr_right : (P : Bytecode) (F : Function) → IsNamed P F → (at : ℕ) (i : Instr) → slice_get F.code at ≡ Some i → instr_fault P F i
    ≡ None
instr_right P F named at i is =
    let within = slice_get_within F.code at i is in
    let passes : nat_lt at (length F.code) ≡ true = grind (arith, nat_tests) in
    (rw (passes, is) at (named at))

-- nor has each catch
pub catch_named : (P : Bytecode) (F : Function) → IsNamed P F → (k : ℕ) (c : Catch) → slice_get F.catches k ≡ Some c → catch_fault F c
    ≡ None
catch_named P F named k c is =
    let past : nat_lt (length F.code + k) (length F.code) ≡ false = grind (arith, nat_tests) in
    let back : (length F.code + k) - length F.code ≡ k = omega arith in
    (rw (past, back, is) at (named (length F.code + k)))

-- the target of each catch is there
pub catch_right : (P : Bytecode) (F : Function) → IsNamed P F → (k : ℕ) (c : Catch) → slice_get F.catches k ≡ Some c
    → c.target < length F.code
catch_right P F named k c is =
    let all = holds _ _ (catch_named P F named k c is) in
    let target = (and_parts _ _ (and_parts _ _ all).0).0 in
    ltb-true c.target (length F.code) target

-- the successors of each instruction are there
pub successors_of :
    (P : Bytecode) (F : Function) → IsNamed P F → falls_off F ≡ false → (at : ℕ) (i : Instr) → slice_get F.code at ≡ Some i →
    AllByRecursion (λ to. to < length F.code) (successors i at)
successors_of P F named ended at i is =
    successors_there F at (flow i) (target_there P F i (instr_right P F named at i is)) (next_there F at i is ended)

-- a function that does not fall off has a first instruction
pub starts_there : (F : Function) → falls_off F ≡ false → 0 < length F.code
starts_there F ended = by_code F.code ended where
  by_code : (code : List Instr) → not (closes (slice_get code (length code - 1))) ≡ false → 0 < length code
  by_code [] is = cc
  by_code (i ∷ code) is = omega arith

-- the depth at a place of the code
abbrev clipped : Function → (ℕ → Option ℕ) → ℕ → Option ℕ
clipped F depth at = if nat_lt at (length F.code) then depth at else None

-- within the code the clipped depths are the depths
clipped_there : (F : Function) (depth : ℕ → Option ℕ) (at : ℕ) → at < length F.code → clipped F depth at ≡ depth at
clipped_there F depth at within = (let passes : nat_lt at (length F.code) ≡ true = grind (arith, nat_tests) in rw passes refl)

-- a clipped depth is that of a place in the code
within_clip : (F : Function) (depth : ℕ → Option ℕ) (at n : ℕ) → clipped F depth at ≡ Some n → (at < length F.code) × (depth at ≡ Some n)
within_clip F depth at n is = by_test (nat_lt at (length F.code)) refl is where
  by_test : (b : Bool) → nat_lt at (length F.code) ≡ b → (if b then depth at else None) ≡ Some n → (at < length F.code)
      × (depth at ≡ Some n)
  by_test true passes is = (ltb-true at (length F.code) passes, is)
  by_test false fails is = cc

-- an instruction that leaves its function puts nothing on the stack
leaves_nothing : (i : Instr) → flow i ≡ Leaves → gives i ≡ 0
leaves_nothing Ret is = refl
leaves_nothing Halt is = refl
leaves_nothing (Throw code) is = refl
leaves_nothing _ is = cc

-- a depth at a place of the code is at most what a stack holds
room_after :
    (P : Bytecode) (F : Function) (depth : ℕ → Option ℕ) → AreDepths P F depth → (m : ℕ) (to : ℕ) → to < length F.code →
    depth to ≡ Some m → m ≤ OPERANDS
room_after P F depth are m to within is =
    let there = there_below F.code to within in
    (are.leads to m there.0 there.1 is).within

-- what an instruction leaves on the stack has room there, however it goes on
room_of :
    (P : Bytecode) (F : Function) (depth : ℕ → Option ℕ) → AreDepths P F depth → (i : Instr) (at n m : ℕ) (fl : Flow) → flow i ≡ fl →
    n ≤ OPERANDS → m ≡ (n - needs P i) + gives i → AllByRecursion (λ to. to < length F.code) (places_after fl at) →
    AllByRecursion (λ to. depth to ≡ Some m) (places_after fl at) → m ≤ OPERANDS
room_of P F depth are i at n m Leaves is within m_is there onward = (let none = leaves_nothing i is in omega arith)
room_of P F depth are i at n m Next is within m_is there onward = room_after P F depth are m (at + 1) there.0 onward.0
room_of P F depth are i at n m (Always to) is within m_is there onward = room_after P F depth are m to there.0 onward.0
room_of P F depth are i at n m (Either to) is within m_is there onward = room_after P F depth are m to there.0 onward.0

-- ## All functions

-- the depths of each function, at the places of its code
abbrev all_depths : (P : Bytecode) (Fs : List Function) → AllByRecursion (HasDepths P) Fs → Depths
all_depths P [] all f at = None
all_depths P (F ∷ Fs) all zero at = clipped F all.0.0 at
all_depths P (F ∷ Fs) all (suc f) at = all_depths P Fs all.1 f at

record DepthsOf (P : Bytecode) (D : Depths) (f : ℕ) (F : Function) : Type 0 where
  depth : ℕ → Option ℕ
  are : AreDepths P F depth
  same : (at : ℕ) → D f at ≡ clipped F depth at

-- the depths of all functions are those of each
depths_of :
    (P : Bytecode) (Fs : List Function) (all : AllByRecursion (HasDepths P) Fs) (f : ℕ) (F : Function) → slice_get Fs f ≡ Some F →
    DepthsOf P (all_depths P Fs all) f F
depths_of P [] all f F is = cc
depths_of P (G ∷ Fs) all zero F is =
    let same : G ≡ F = cc in
    let Q : Function → Type 0 = λ H. DepthsOf P (all_depths P (G ∷ Fs) all) 0 H in
    subst Q same (record { depth = all.0.0; are = all.0.1; same = λ at. refl })
depths_of P (G ∷ Fs) all (suc f) F is =
    let d = depths_of P Fs all.1 f F is in
    record { depth = d.depth; are = d.are; same = d.same }

-- a function's depths carry over to the program's
goes_from :
    (P : Bytecode) (D : Depths) (f : ℕ) (F : Function) → IsRight P F → DepthsOf P D f F → (at n : ℕ) → D f at ≡ Some n →
    Goes P D f F at n
goes_from P D f F right d at n is =
    let clip = within_clip F d.depth at n (sym (d.same at) ∙ is) in
    let found = there_below F.code at clip.0 in
    let i = found.0 in
    let leads = d.are.leads at n i found.1 clip.1 in
    let named = instr_right P F right.named at i found.1 in
    let there = successors_of P F right.named right.ended at i found.1 in
    record {
      instr = i;
      there = found.1;
      names = names_right P F i named;
      operands = leads.operands;
      room = room_of P F d.depth d.are i at n _ (flow i) refl leads.within refl there leads.onward;
      onward =
          all_with (λ to. to < length F.code) (λ to. d.depth to ≡ Some ((n - needs P i) + gives i))
          (λ to. D f to ≡ Some ((n - needs P i) + gives i)) (successors i at)
          (λ to within has. d.same to ∙ clipped_there F d.depth to within ∙ has) there leads.onward;
    }

-- main is there, with so many arguments
main_there : (n : ℕ) (o : Option Function) → has_args n o ≡ true → (F : Function) × (o ≡ Some F) × (F.args ≡ n)
main_there n None is = cc
main_there n (Some F) is = (F, refl, grind (arith, nat_tests))

-- ## The limits

-- each limit on a program, taken alone
pub record Limits (P : Bytecode) : Type 0 where
  pub code : sum_by (λ (F : Function). length F.code) P.functions ≤ CODE
  pub functions : length P.functions ≤ FUNCTIONS
  pub classes : length P.classes ≤ CLASSES
  pub each_function : list_any is_long_function P.functions ≡ false
  pub each_class : list_any is_long_class P.classes ≡ false

-- a program that is not too long keeps to each single limit
pub limits_of : (P : Bytecode) → is_too_long P ≡ false → Limits P
limits_of P short =
    let a = or_parts _ _ short in
    let b = or_parts _ _ a.0 in
    let c = or_parts _ _ b.0 in
    let d = or_parts _ _ c.0 in
    record {
      code = ltb-false CODE (sum_by (λ (F : Function). length F.code) P.functions) d.0;
      functions = ltb-false FUNCTIONS (length P.functions) d.1;
      classes = ltb-false CLASSES (length P.classes) c.1;
      each_function = b.1;
      each_class = a.1;
    }

-- no function is longer than a program may be
short_of : (P : Bytecode) → IsFaultless P → (f : ℕ) (F : Function) → function_at P f ≡ Some F → length F.code ≤ CODE
short_of P ok f F is =
    let all = (limits_of P ok.short).code in
    let one = at_most_sum (λ (G : Function). length G.code) P.functions f F is in
    omega arith

-- each function has its arguments among its locals, and no more locals than a frame
locals_of : (P : Bytecode) → IsFaultless P → (f : ℕ) (F : Function) → function_at P f ≡ Some F → (F.args ≤ F.locals) × (F.locals ≤ LOCALS)
locals_of P ok f F is =
    let none = none_at is_long_function P.functions f F (limits_of P ok.short).each_function is in
    let a = or_parts _ _ none in
    let b = or_parts _ _ a.0 in
    (ltb-false F.locals F.args b.1, ltb-false LOCALS F.locals a.1)

-- a program without a fault is valid, by the depths of its functions
pub faultless_is_sound : (P : Bytecode) → IsFaultless P → IsValid P
faultless_is_sound P ok =
    let all = all_from (HasDepths P) P.functions (λ f F is. (ok.right f F is).depths) in
    let D : Depths = all_depths P P.functions all in
    let of : (f : ℕ) (F : Function) → function_at P f ≡ Some F → DepthsOf P D f F = λ f F is. depths_of P P.functions all f F is in (
      D,
      record {
        main = main_there 0 (function_at P P.main) ok.main;
        short = λ f F is. short_of P ok f F is;
        locals = λ f F is. locals_of P ok f F is;
        starts = λ f F is.
            let d = of f F is in
            d.same 0 ∙ clipped_there F d.depth 0 (starts_there F (ok.right f F is).ended) ∙ d.are.starts;
        handles = λ f F is.
            let d = of f F is in
            all_with (λ c. c.target < length F.code) (λ c. d.depth c.target ≡ Some 1) (λ c. D f c.target ≡ Some 1) F.catches
            (λ c within has. d.same c.target ∙ clipped_there F d.depth c.target within ∙ has)
            (all_from (λ c. c.target < length F.code) F.catches (catch_right P F (ok.right f F is).named)) d.are.handles;
        goes = λ f at n F is at_depth. goes_from P D f F (ok.right f F is) (of f F is) at n at_depth;
      },
    )
