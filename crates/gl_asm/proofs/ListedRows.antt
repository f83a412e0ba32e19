-- The rows of the canonical listing: its lines without their line feeds.
use Rattle.std.proofs.Common.{◌≡◌, ◌+◌, ℕ, List, [], ◌∷◌, ◌++◌, length, Bool, true, false, refl, ap, sym, ◌∙◌, append_assoc}
use Rattle.std.specs.List.{flat_map}
use Rattle.gl_bytecode.specs.declared.instr.Catch.{Catch}
use Rattle.gl_bytecode.specs.declared.instr.Instr.{Instr}
use Rattle.gl_bytecode.specs.declared.object.Fields.{Fields}
use Rattle.gl_bytecode.specs.Programs.{Bytecode, Function}
use Rattle.gl_asm.specs.Listing.{body, catch_line, class_line, code_line, each_from, function_text, header, instr_line, is_named, label_line, listing}
use Rattle.gl_text.proofs.WordLines.{ended, indented, spaced}
use Rattle.gl_asm.proofs.ListedWords.{catch_line_is, catch_words, class_line_is, class_words, header_is, header_words, instr_line_is, instr_words, label_line_is, label_words}

-- ## One row

-- the row of a class
abbrev pub class_row : ℕ → Fields → List ℕ
class_row c fields = spaced (class_words c fields)

-- the row with which a function starts
abbrev pub header_row : ℕ → ℕ → ℕ → ℕ → List ℕ
header_row main f args locals = spaced (header_words main f args locals)

-- the row of a label
abbrev pub label_row : ℕ → List ℕ
label_row at = spaced (label_words at)

-- the row of an instruction
abbrev pub instr_row : ℕ → Instr → List ℕ
instr_row main i = indented (instr_words main i)

-- the row of a catch
abbrev pub catch_row : Catch → List ℕ
catch_row c = indented (catch_words c)

-- ## Rows before others

-- the rows of the classes, numbered from here on, and then other rows
abbrev pub class_rows : ℕ → List Fields → List (List ℕ) → List (List ℕ)
class_rows c [] rest = rest
class_rows c (fields ∷ more) rest = class_row c fields ∷ class_rows (c + 1) more rest

-- a label's row, where the place is named, and then other rows
abbrev pub label_rows : Bool → ℕ → List (List ℕ) → List (List ℕ)
label_rows true at rest = label_row at ∷ rest
label_rows false at rest = rest

-- the instructions from a place on; of these are the places that are named
abbrev pub code_rows : ℕ → (ℕ → Bool) → ℕ → List Instr → List (List ℕ) → List (List ℕ)
code_rows main named at [] rest = rest
code_rows main named at (i ∷ more) rest = label_rows (named at) at (instr_row main i ∷ code_rows main named (at + 1) more rest)

-- the rows of the catches, and then other rows
abbrev pub catch_rows : List Catch → List (List ℕ) → List (List ℕ)
catch_rows [] rest = rest
catch_rows (c ∷ more) rest = catch_row c ∷ catch_rows more rest

-- whether a jump or a catch of the function names a place
abbrev pub names_of : Function → ℕ → Bool
names_of F at = is_named F.code F.catches at

-- the rows of one function, and then other rows
abbrev pub function_rows : ℕ → ℕ → Function → List (List ℕ) → List (List ℕ)
function_rows main f F rest =
    header_row main f F.args F.locals
    ∷ code_rows main (names_of F) 0 F.code (label_rows (names_of F (length F.code)) (length F.code) (catch_rows F.catches rest))

-- the rows of the functions, numbered from here on
abbrev pub functions_rows : ℕ → ℕ → List Function → List (List ℕ)
functions_rows main f [] = []
functions_rows main f (F ∷ more) = function_rows main f F (functions_rows main (f + 1) more)

-- all rows of a program's listing
abbrev pub rows : Bytecode → List (List ℕ)
rows P = class_rows 0 P.classes (functions_rows P.main 0 P.functions)

-- ## The listing is its rows, each with its line feed

-- the rows of the classes, with their line feeds, are the listing's lines of classes
classes_text : (c : ℕ) (Cs : List Fields) (rest : List (List ℕ)) → flat_map ended (class_rows c Cs rest) ≡ each_from class_line c Cs
    ++ flat_map ended rest
classes_text c [] rest = refl
classes_text c (fields ∷ more) rest =
    ap (λ l. ended (class_row c fields) ++ l) (classes_text (c + 1) more rest)
    ∙ ap (λ l. l ++ (each_from class_line (c + 1) more ++ flat_map ended rest)) (sym (class_line_is c fields))
    ∙ sym (append_assoc (class_line c fields) (each_from class_line (c + 1) more) (flat_map ended rest))

-- the row of a label, with its line feed, is the listing's line, or both are missing
label_text : (named : Bool) (at : ℕ) (rest : List (List ℕ)) → flat_map ended (label_rows named at rest) ≡ label_line named at
    ++ flat_map ended rest
label_text true at rest = ap (λ l. l ++ flat_map ended rest) (sym (label_line_is at))
label_text false at rest = refl

-- the rows of instructions, with their line feeds, are the listing's lines of instructions with the labels before them
code_text : (main : ℕ) (code : List Instr) (catches : List Catch) (at : ℕ) (is : List Instr) (rest : List (List ℕ))
    → flat_map ended (code_rows main (is_named code catches) at is rest) ≡ each_from (code_line main code catches) at is
    ++ flat_map ended rest
code_text main code catches at [] rest = refl
code_text main code catches at (i ∷ more) rest =
    let named = is_named code catches in
    let others = each_from (code_line main code catches) (at + 1) more in
    label_text (named at) at (instr_row main i ∷ code_rows main named (at + 1) more rest)
    ∙ ap (λ l. label_line (named at) at ++ (l ++ flat_map ended (code_rows main named (at + 1) more rest))) (sym (instr_line_is main i))
    ∙ ap (λ l. label_line (named at) at ++ (instr_line main i ++ l)) (code_text main code catches (at + 1) more rest)
    ∙ sym (append_assoc (label_line (named at) at) (instr_line main i) (others ++ flat_map ended rest))
    ∙ sym (append_assoc (code_line main code catches at i) others (flat_map ended rest))

-- the rows of catches, with their line feeds, are the listing's lines of catches
catches_text : (cs : List Catch) (rest : List (List ℕ)) → flat_map ended (catch_rows cs rest) ≡ flat_map catch_line cs
    ++ flat_map ended rest
catches_text [] rest = refl
catches_text (c ∷ more) rest =
    ap (λ l. ended (catch_row c) ++ l) (catches_text more rest)
    ∙ ap (λ l. l ++ (flat_map catch_line more ++ flat_map ended rest)) (sym (catch_line_is c))
    ∙ sym (append_assoc (catch_line c) (flat_map catch_line more) (flat_map ended rest))

-- the rows of instructions, of the label at the end and of catches are the listing's text of a function's body
body_text : (main : ℕ) (code : List Instr) (catches : List Catch) (rest : List (List ℕ))
    → flat_map ended (code_rows main (is_named code catches) 0 code
    (label_rows (is_named code catches (length code)) (length code) (catch_rows catches rest)))
    ≡ body main code catches ++ flat_map ended rest
body_text main code catches rest =
    let instrs = each_from (code_line main code catches) 0 code in
    let label = label_line (is_named code catches (length code)) (length code) in
    let handlers = flat_map catch_line catches in
    let end = flat_map ended rest in
    code_text main code catches 0 code (label_rows (is_named code catches (length code)) (length code) (catch_rows catches rest))
    ∙ ap (λ l. instrs ++ l) (label_text (is_named code catches (length code)) (length code) (catch_rows catches rest))
    ∙ ap (λ l. instrs ++ (label ++ l)) (catches_text catches rest)
    ∙ ap (λ l. instrs ++ l) (sym (append_assoc label handlers end))
    ∙ sym (append_assoc instrs (label ++ handlers) end)

-- the rows of a function, with their line feeds, are the function's text
function_is : (main f : ℕ) (F : Function) (rest : List (List ℕ)) → flat_map ended (function_rows main f F rest) ≡ function_text main f F
    ++ flat_map ended rest
function_is main f F rest =
    let first = header main f F.args F.locals in
    let inner = body main F.code F.catches in
    ap (λ l. ended (header_row main f F.args F.locals) ++ l) (body_text main F.code F.catches rest)
    ∙ ap (λ l. l ++ (inner ++ flat_map ended rest)) (sym (header_is main f F.args F.locals))
    ∙ sym (append_assoc first inner (flat_map ended rest))

-- the rows of the functions, with their line feeds, are the functions' texts
functions_text : (main f : ℕ) (Fs : List Function) → flat_map ended (functions_rows main f Fs) ≡ each_from (function_text main) f Fs
functions_text main f [] = refl
functions_text main f (F ∷ more) =
    function_is main f F (functions_rows main (f + 1) more) ∙ ap (λ l. function_text main f F ++ l) (functions_text main (f + 1) more)

-- the rows of a program, with their line feeds, are its listing
pub listing_is : (P : Bytecode) → flat_map ended (rows P) ≡ listing P
listing_is P =
    classes_text 0 P.classes (functions_rows P.main 0 P.functions)
    ∙ ap (λ l. each_from class_line 0 P.classes ++ l) (functions_text P.main 0 P.functions)
