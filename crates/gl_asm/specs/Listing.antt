-- The canonical listing of a program.
use Rattle.std.specs.Prelude.{ℕ, ◌+◌, List, [], ◌∷◌, ◌++◌, Bool, false, ◌==◌, ◌||◌, if◌then◌else◌, codes, length}
use Rattle.std.specs.List.{list_any, flat_map}
use Rattle.std.specs.Fmt.{decimal, signed_decimal}
use Rattle.gl_asm.specs.declared.table.Operand.{Operand}
use Rattle.gl_asm.specs.declared.table.Operand.TheVariants.{Nothing, Value, Index, IndexAndValue, Code, Label, Function as OfFunction, Class}
use Rattle.gl_asm.specs.Words.{word_of, operand_of}
use Rattle.gl_bytecode.specs.declared.instr.Catch.{Catch}
use Rattle.gl_bytecode.specs.declared.instr.Instr.{Instr}
use Rattle.gl_bytecode.specs.declared.object.Fields.{Fields}
use Rattle.gl_bytecode.specs.Programs.{Bytecode, Function}

-- the texts of numbered things, one after another
abbrev pub each_from : {A : Type 0} → (ℕ → A → List ℕ) → ℕ → List A → List ℕ
each_from text i [] = []
each_from text i (x ∷ xs) = text i x ++ each_from text (i + 1) xs

-- ## Names

abbrev pub function_name : ℕ → ℕ → List ℕ
function_name main f = if f == main then codes "main" else codes "f" ++ decimal f

abbrev pub label_name : ℕ → List ℕ
label_name at = codes "L" ++ decimal at

-- ## Instructions

abbrev pub operand_text : ℕ → Operand → List ℕ
operand_text main Nothing = []
operand_text main (Value n) = codes " " ++ signed_decimal n
operand_text main (Index k) = codes " " ++ decimal k
operand_text main (IndexAndValue k n) = codes " " ++ (decimal k ++ (codes " " ++ signed_decimal n))
operand_text main (Code code) = codes " " ++ decimal code
operand_text main (Label to) = codes " " ++ label_name to
operand_text main (OfFunction f) = codes " " ++ function_name main f
operand_text main (Class c) = codes " c" ++ decimal c

abbrev pub instr_line : ℕ → Instr → List ℕ
instr_line main i = codes "  " ++ (word_of i ++ (operand_text main (operand_of i) ++ codes "\n"))

-- ## Labels

abbrev pub is_label : ℕ → Operand → Bool
is_label at (Label to) = to == at
is_label at _ = false

abbrev pub catch_names : ℕ → Catch → Bool
catch_names at c = (c.from == at) || (c.to == at) || (c.target == at)

-- a jump or a catch names the place
abbrev pub is_named : List Instr → List Catch → ℕ → Bool
is_named code catches at = list_any (λ i. is_label at (operand_of i)) code || list_any (catch_names at) catches

abbrev pub label_line : Bool → ℕ → List ℕ
label_line named at = if named then label_name at ++ codes ":\n" else []

-- ## Functions

-- an instruction, behind its label
abbrev pub code_line : ℕ → List Instr → List Catch → ℕ → Instr → List ℕ
code_line main code catches at i = label_line (is_named code catches at) at ++ instr_line main i

abbrev pub catch_line : Catch → List ℕ
catch_line c =
    codes "  catch " ++ (label_name c.from ++ (codes " " ++ (label_name c.to ++ (codes " " ++ (label_name c.target ++ codes "\n")))))

abbrev pub header : ℕ → ℕ → ℕ → ℕ → List ℕ
header main f args locals =
    codes "func " ++ (function_name main f ++ (codes " " ++ (decimal args ++ (codes " " ++ (decimal locals ++ codes "\n")))))

-- the instructions, the label at the end and the catches
abbrev pub body : ℕ → List Instr → List Catch → List ℕ
body main code catches =
    each_from (code_line main code catches) 0 code
    ++ (label_line (is_named code catches (length code)) (length code) ++ flat_map catch_line catches)

abbrev pub function_text : ℕ → ℕ → Function → List ℕ
function_text main f F = header main f F.args F.locals ++ body main F.code F.catches

-- ## Programs

abbrev pub class_line : ℕ → Fields → List ℕ
class_line c fields =
    codes "class c" ++ (decimal c ++ (codes " " ++ (decimal fields.plain ++ (codes " " ++ (decimal fields.volatile ++ codes "\n")))))

abbrev pub listing : Bytecode → List ℕ
listing P = each_from class_line 0 P.classes ++ each_from (function_text P.main) 0 P.functions
