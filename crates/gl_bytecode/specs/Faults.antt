-- What is wrong with a program: the fault at each place of a function, and which fault is the first of all.
use Rattle.std.specs.Prelude.{◌≡◌, ℕ, ◌+◌, ◌-◌, ◌<◌, ◌≤◌, ◌⊎◌, nat_lt, nat_le, ◌==◌, ◌&&◌, ◌||◌, not, Bool, true, false, if◌then◌else◌, List, length, sum_by, slice_get, Option, Some, None, unwrap_or}
use Rattle.std.specs.List.{AllByRecursion, list_any}
use Rattle.std.specs.Option.{option_and_then}
use Rattle.gl_model.specs.declared.limits.TheConstants.{CLASSES, FUNCTIONS, VARIABLES, VOLATILES}
use Rattle.gl_bytecode.specs.declared.fault.ProgError.{ProgError}
use Rattle.gl_bytecode.specs.declared.fault.ProgError.TheVariants.{Fault, Memory}
use Rattle.gl_bytecode.specs.declared.fault.ProgFault.{ProgFault}
use Rattle.gl_bytecode.specs.declared.fault.TheConstants.{BAD_JUMP, BAD_FUNCTION, BAD_CLASS, BAD_LOCAL, STACK_DEPTH, FALLS_OFF_END, TOO_LONG, NO_MAIN}
use Rattle.gl_bytecode.specs.declared.instr.Catch.{Catch}
use Rattle.gl_bytecode.specs.declared.instr.Flow.{Flow}
use Rattle.gl_bytecode.specs.declared.instr.Flow.TheVariants.{Leaves, Next, Always, Either}
use Rattle.gl_bytecode.specs.declared.instr.Instr.{Instr}
use Rattle.gl_bytecode.specs.declared.limits.TheConstants.{CATCHES, CODE, LEAST_THROWN, LOCALS, MOST_THROWN, OPERANDS}
use Rattle.gl_bytecode.specs.declared.object.Fields.{Fields}
use Rattle.gl_bytecode.specs.Instructions.{Named, Nothing, Local, Place, Called, Forked, Class, Thrown, flow, gives, named_by, needs, successors}
use Rattle.gl_bytecode.specs.Programs.{Bytecode, Draft, Function, function_at}

-- ## The instructions and catches of one function

-- this kind of fault, but where a test holds
abbrev pub unless : Bool → ℕ → Option ℕ
unless holds kind = if holds then None else Some kind

-- there is a function, and it has so many arguments
abbrev pub has_args : ℕ → Option Function → Bool
has_args n None = false
has_args n (Some F) = F.args == n

-- what is wrong with what is named in function F: the local, place, function or class is not there
abbrev pub named_fault : Bytecode → Function → Named → Option ℕ
named_fault P F Nothing = None
named_fault P F (Local k) = unless (nat_lt k F.locals) BAD_LOCAL
named_fault P F (Place to) = unless (nat_lt to (length F.code)) BAD_JUMP
named_fault P F (Called f) = unless (nat_lt f (length P.functions)) BAD_FUNCTION
named_fault P F (Forked f) = unless (has_args 1 (function_at P f)) BAD_FUNCTION
named_fault P F (Class c) = unless (nat_lt c (length P.classes)) BAD_CLASS
named_fault P F (Thrown code) = None

abbrev pub instr_fault : Bytecode → Function → Instr → Option ℕ
instr_fault P F i = named_fault P F (named_by i)

-- what is wrong with a catch of function F: its target is no instruction, or its ends are not in order within the code
abbrev pub catch_fault : Function → Catch → Option ℕ
catch_fault F c = unless (nat_lt c.target (length F.code) && nat_le c.from c.to && nat_le c.to (length F.code)) BAD_JUMP

-- what is wrong at a place of function F: an instruction's index, or the code's length and a catch's number
abbrev pub fault_at : Bytecode → Function → ℕ → Option ℕ
fault_at P F at =
    if nat_lt at (length F.code) then option_and_then (instr_fault P F) (slice_get F.code at)
    else option_and_then (catch_fault F) (slice_get F.catches (at - length F.code))

-- ## The end of one function

-- what follows it in the code is not gone on to
abbrev pub is_closed : Flow → Bool
is_closed Leaves = true
is_closed (Always to) = true
is_closed Next = false
is_closed (Either to) = false

abbrev pub closes : Option Instr → Bool
closes None = false
closes (Some i) = is_closed (flow i)

-- there is no instruction, or the last one is no jump, ret, halt or throw
abbrev pub falls_off : Function → Bool
falls_off F = not (closes (slice_get F.code (length F.code - 1)))

-- ## The depths of one function's stack

-- an instruction that is reached with n values on the stack has its operands, and each of its successors is reached
-- with as many as it leaves
pub record LeadsOn (P : Bytecode) (depth : ℕ → Option ℕ) (i : Instr) (at n : ℕ) : Type 0 where
  pub within : n ≤ OPERANDS
  pub operands : needs P i ≤ n
  pub onward : AllByRecursion (λ to. depth to ≡ Some ((n - needs P i) + gives i)) (successors i at)

-- these are depths for all that is reached of function F
pub record AreDepths (P : Bytecode) (F : Function) (depth : ℕ → Option ℕ) : Type 0 where
  pub starts : depth 0 ≡ Some 0
  pub handles : AllByRecursion (λ c. depth c.target ≡ Some 1) F.catches
  pub leads : (at n : ℕ) (i : Instr) → slice_get F.code at ≡ Some i → depth at ≡ Some n → LeadsOn P depth i at n

abbrev pub HasDepths : Bytecode → Function → Type 0
HasDepths P F = (depth : ℕ → Option ℕ) × AreDepths P F depth

-- ## One function

-- nothing is wrong with it
pub record IsRight (P : Bytecode) (F : Function) : Type 0 where
  pub named : (at : ℕ) → fault_at P F at ≡ None
  pub ended : falls_off F ≡ false
  pub depths : HasDepths P F

-- at this place, and at none before it, something that is named is not there
pub record NamesWrong (P : Bytecode) (F : Function) (kind at : ℕ) : Type 0 where
  pub wrong : fault_at P F at ≡ Some kind
  pub before : (k : ℕ) → k < at → fault_at P F k ≡ None

-- all that is named is there, and the function may be run past its end
pub record FallsOff (P : Bytecode) (F : Function) (kind at : ℕ) : Type 0 where
  pub named : (k : ℕ) → fault_at P F k ≡ None
  pub ended : falls_off F ≡ true
  pub kind_is : kind ≡ FALLS_OFF_END
  pub at_is : at ≡ length F.code - 1

-- only depths are wanting
pub record LacksDepths (P : Bytecode) (F : Function) (kind at : ℕ) : Type 0 where
  pub named : (k : ℕ) → fault_at P F k ≡ None
  pub ended : falls_off F ≡ false
  pub depths : ¬ HasDepths P F
  pub kind_is : kind ≡ STACK_DEPTH
  pub at_is : at ≡ 0

-- the first fault of function F is of this kind and at this place
abbrev pub IsFirstIn : Bytecode → Function → ℕ → ℕ → Type 0
IsFirstIn P F kind at = NamesWrong P F kind at ⊎ FallsOff P F kind at ⊎ LacksDepths P F kind at

-- ## A whole program

abbrev pub is_long_class : Fields → Bool
is_long_class c = nat_lt VARIABLES c.plain || nat_lt VOLATILES c.volatile

abbrev pub is_long_function : Function → Bool
is_long_function F = nat_lt CATCHES (length F.catches) || nat_lt F.locals F.args || nat_lt LOCALS F.locals

-- one of the limits is passed; that of the instructions is on all functions together
abbrev pub is_too_long : Bytecode → Bool
is_too_long P =
    nat_lt CODE (sum_by (λ F. length F.code) P.functions) || nat_lt FUNCTIONS (length P.functions) || nat_lt CLASSES (length P.classes)
    || list_any is_long_function P.functions || list_any is_long_class P.classes

-- nothing is wrong with a program
pub record IsFaultless (P : Bytecode) : Type 0 where
  pub main : has_args 0 (function_at P P.main) ≡ true
  pub short : is_too_long P ≡ false
  pub right : (f : ℕ) (F : Function) → function_at P f ≡ Some F → IsRight P F

-- it is the first fault of the first function that has one
pub record IsFirstOfFunctions (P : Bytecode) (fault : ProgFault) : Type 0 where
  pub function : Function
  pub there : function_at P fault.function ≡ Some function
  pub first : IsFirstIn P function fault.kind fault.at
  pub before : (g : ℕ) (G : Function) → g < fault.function → function_at P g ≡ Some G → IsRight P G

-- ## Drafts

-- a draft as a program
abbrev pub program_of : Draft → Bytecode
program_of D = record { classes = D.classes; functions = D.functions; main = unwrap_or D.main 0 }

-- a function is main, and has no arguments
abbrev pub has_main : Draft → Bool
has_main D = has_args 0 (option_and_then (λ f. slice_get D.functions f) D.main)

-- a fault of the whole
abbrev pub of_whole : ℕ → ProgFault
of_whole kind = record { kind = kind; function = 0; at = 0 }

-- the first fault of a draft: without main nothing else is looked at, past a limit no function is
abbrev pub IsFirstFault : Draft → ProgFault → Type 0
IsFirstFault D fault =
    ((has_main D ≡ false) × (fault ≡ of_whole NO_MAIN))
    ⊎ ((has_main D ≡ true) × (is_too_long (program_of D) ≡ true) × (fault ≡ of_whole TOO_LONG))
    ⊎ ((has_main D ≡ true) × (is_too_long (program_of D) ≡ false) × IsFirstOfFunctions (program_of D) fault)

-- the kind is one of those that a fault has
abbrev pub IsKind : ℕ → Type 0
IsKind kind = (BAD_JUMP ≤ kind) × (kind ≤ NO_MAIN)

-- an error that is a fault has such a kind
abbrev pub TellsKind : ProgError → Type 0
TellsKind (Fault fault) = IsKind fault.kind
TellsKind (Memory error) = Unit {0}

-- an error that is a fault is the first one
abbrev pub TellsFirst : Draft → ProgError → Type 0
TellsFirst D (Fault fault) = IsFirstFault D fault
TellsFirst D (Memory error) = Unit {0}

-- ## Codes that are thrown

abbrev pub IsThrowable : Named → Type 0
IsThrowable (Thrown code) = (LEAST_THROWN ≤ code) × (code ≤ MOST_THROWN)
IsThrowable Nothing = Unit {0}
IsThrowable (Local k) = Unit {0}
IsThrowable (Place to) = Unit {0}
IsThrowable (Called f) = Unit {0}
IsThrowable (Forked f) = Unit {0}
IsThrowable (Class c) = Unit {0}

abbrev pub ThrowsInRange : Instr → Type 0
ThrowsInRange i = IsThrowable (named_by i)

abbrev pub AllThrowInRange : List Function → Type 0
AllThrowInRange Fs = AllByRecursion (λ F. AllByRecursion ThrowsInRange F.code) Fs
