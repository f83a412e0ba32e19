-- The rows of a listing have no bad byte, and are short enough for a text.
use Rattle.std.proofs.Common.{◌+◌, ◌*◌, ◌<◌, ◌≤◌, ℕ, List, [], ◌∷◌, Bool, true, false, length, codes, arith, length-append}
use Rattle.std.specs.Prelude.{sum_by}
use Rattle.std.specs.List.{AllByRecursion, flat_map}
use Rattle.std.proofs.lemmas.List.Sums.{sum_by-cons}
use Rattle.gl_model.specs.declared.limits.TheConstants.{CLASSES, FUNCTIONS}
use Rattle.gl_bytecode.specs.declared.instr.Catch.{Catch}
use Rattle.gl_bytecode.specs.declared.instr.Instr.{Instr}
use Rattle.gl_bytecode.specs.declared.limits.TheConstants.{CODE}
use Rattle.gl_bytecode.specs.declared.object.Fields.{Fields}
use Rattle.gl_bytecode.specs.Programs.{Bytecode, Function}
use Rattle.gl_asm.specs.declared.limits.TheConstants.{LONGEST, MOST_INDEX}
use Rattle.gl_asm.proofs.ListedLengths.{catch_length, class_length, header_length, instr_length, label_length}
use Rattle.gl_text.proofs.WordLines.{IsPlain, ended, plain_indented, plain_spaced}
use Rattle.gl_asm.proofs.ListedRows.{catch_row, catch_rows, class_row, class_rows, code_rows, function_rows, functions_rows, header_row, instr_row, label_row, label_rows, names_of, rows}
use Rattle.gl_asm.proofs.ListedWalk.{IsHandler, IsListable, IsSayable, IsShortClass}
use Rattle.gl_asm.proofs.ListedWords.{catch_are_words, catch_words, class_are_words, class_words, header_are_words, header_words, instr_are_words, instr_words, label_are_words, label_words}
use Rattle.gl_bytecode.proofs.Faultless.{Limits}

-- rows without a bad byte, that take so many bytes at most with their line feeds
abbrev pub AreRows : List (List ℕ) → ℕ → Type 0
AreRows rs most = AllByRecursion IsPlain rs × (length (flat_map ended rs) ≤ most)

-- one row more takes as many bytes more as it has, and one for its line feed
row_more : (row : List ℕ) (rest : List (List ℕ)) (bytes most : ℕ) → IsPlain row → length row ≤ bytes → AreRows rest most
    → AreRows (row ∷ rest) (bytes + 1 + most)
row_more row rest bytes most plain short are =
    ((plain, are.0), omega (arith, length-append (ended row) (flat_map ended rest), length-append row (codes "\n"), short, are.1))

-- and so they take no more than a greater number
more_room : (rs : List (List ℕ)) (few most : ℕ) → few ≤ most → AreRows rs few → AreRows rs most
more_room rs few most less are = (are.0, omega (arith, are.1))

-- each class's row takes 25 bytes at most
class_sizes : (c : ℕ) (Cs : List Fields) (rest : List (List ℕ)) (most : ℕ) → c + length Cs ≤ CLASSES → AllByRecursion IsShortClass Cs
    → AreRows rest most
    → AreRows (class_rows c Cs rest) (25 * length Cs + most)
class_sizes c [] rest most room short are = more_room rest most (25 * 0 + most) (omega arith) are
class_sizes c (fields ∷ Cs) rest most room short are =
    let plain : fields.plain ≤ MOST_INDEX = omega (arith, short.0.0) in
    let volatile : fields.volatile ≤ MOST_INDEX = omega (arith, short.0.1) in
    let small : c ≤ MOST_INDEX = omega arith in
    let others = class_sizes (c + 1) Cs rest most (omega arith) short.1 are in
    more_room (class_rows c (fields ∷ Cs) rest) (24 + 1 + (25 * length Cs + most)) (25 * length (fields ∷ Cs) + most) (omega arith)
    (row_more (class_row c fields) (class_rows (c + 1) Cs rest) 24 (25 * length Cs + most)
    (plain_spaced (class_words c fields) (class_are_words c fields small plain volatile))
    (class_length c fields small plain volatile) others)

-- a label's row takes eight bytes at most
label_sizes : (named : Bool) (at : ℕ) (rest : List (List ℕ)) (most : ℕ) → at ≤ MOST_INDEX → AreRows rest most
    → AreRows (label_rows named at rest) (8 + most)
label_sizes true at rest most small are =
    row_more (label_row at) rest 7 most (plain_spaced (label_words at) (label_are_words at small)) (label_length at small) are
label_sizes false at rest most small are = more_room rest most (8 + most) (omega arith) are

-- each catch's row takes 29 bytes at most
catch_sizes : (F : Function) (hs : List Catch) (rest : List (List ℕ)) (most : ℕ) → length F.code ≤ CODE → AllByRecursion (IsHandler F) hs
    → AreRows rest most
    → AreRows (catch_rows hs rest) (29 * length hs + most)
catch_sizes F [] rest most short there are = more_room rest most (29 * 0 + most) (omega arith) are
catch_sizes F (h ∷ hs) rest most short there are =
    let from : h.from ≤ MOST_INDEX = omega (arith, there.0.0.0) in
    let to : h.to ≤ MOST_INDEX = omega (arith, there.0.1.0) in
    let target : h.target ≤ MOST_INDEX = omega (arith, there.0.2.0) in
    more_room (catch_rows (h ∷ hs) rest) (28 + 1 + (29 * length hs + most)) (29 * length (h ∷ hs) + most) (omega arith)
    (row_more (catch_row h) (catch_rows hs rest) 28 (29 * length hs + most)
    (plain_indented (catch_words h) (catch_are_words h from to target))
    (catch_length h from to target) (catch_sizes F hs rest most short there.1 are))

-- each instruction's row takes 45 bytes at most, with that of its label
code_sizes : (P : Bytecode) (F : Function) (at : ℕ) (is : List Instr) (rest : List (List ℕ)) (most : ℕ) → at + length is ≤ CODE
    → AllByRecursion (IsSayable P F) is → AreRows rest most
    → AreRows (code_rows P.main (names_of F) at is rest) (45 * length is + most)
code_sizes P F at [] rest most room said are = more_room rest most (45 * 0 + most) (omega arith) are
code_sizes P F at (i ∷ is) rest most room said are =
    let next = code_rows P.main (names_of F) (at + 1) is rest in
    let others = code_sizes P F (at + 1) is rest most (omega arith) said.1 are in
    let line = row_more (instr_row P.main i) next 36 (45 * length is + most)
    (plain_indented (instr_words P.main i) (instr_are_words P.main i said.0.fits))
    (instr_length P.main i said.0.fits) others in
    more_room (code_rows P.main (names_of F) at (i ∷ is) rest) (8 + (36 + 1 + (45 * length is + most))) (45 * length (i ∷ is) + most)
    (omega arith)
    (label_sizes (names_of F at) at (instr_row P.main i ∷ next) (36 + 1 + (45 * length is + most)) (omega arith) line)

-- a function's rows take 45 bytes for each instruction and 496 for all else, at most
function_sizes : (P : Bytecode) (F : Function) (f : ℕ) (rest : List (List ℕ)) (most : ℕ) → f < FUNCTIONS → IsListable P F
    → AreRows rest most
    → AreRows (function_rows P.main f F rest) (45 * length F.code + 496 + most)
function_sizes P F f rest most room is are =
    let end = length F.code in
    let few = is.catches in
    let args : F.args ≤ MOST_INDEX = omega (arith, is.args) in
    let locals : F.locals ≤ MOST_INDEX = omega (arith, is.locals) in
    let handlers = catch_sizes F F.catches rest most is.code is.handlers are in
    let last = label_sizes (names_of F end) end (catch_rows F.catches rest) (29 * length F.catches + most) (omega (arith, is.code))
    handlers in
    let code = code_sizes P F 0 F.code (label_rows (names_of F end) end (catch_rows F.catches rest)) (8 + (29 * length F.catches + most))
    (omega (arith, is.code)) is.instrs last in
    more_room (function_rows P.main f F rest) (23 + 1 + (45 * end + (8 + (29 * length F.catches + most)))) (45 * end + 496 + most)
    (omega (arith, few))
    (row_more (header_row P.main f F.args F.locals)
    (code_rows P.main (names_of F) 0 F.code (label_rows (names_of F end) end (catch_rows F.catches rest))) 23
    (45 * end + (8 + (29 * length F.catches + most)))
    (plain_spaced (header_words P.main f F.args F.locals) (header_are_words P.main f F.args F.locals (omega arith) args locals))
    (header_length P.main f F.args F.locals (omega arith) args locals) code)

-- the rows of all functions take 45 bytes for each of all instructions and 496 for each function, at most
functions_sizes : (P : Bytecode) (f : ℕ) (Gs : List Function) → f + length Gs ≤ FUNCTIONS → AllByRecursion (IsListable P) Gs
    → AreRows (functions_rows P.main f Gs) (45 * sum_by (λ (F : Function). length F.code) Gs + 496 * length Gs)
functions_sizes P f [] room are = (tt, omega arith)
functions_sizes P f (F ∷ Gs) room are =
    let size = λ (G : Function). length G.code in
    let others = functions_sizes P (f + 1) Gs (omega arith) are.1 in
    more_room (functions_rows P.main f (F ∷ Gs)) (45 * length F.code + 496 + (45 * sum_by size Gs + 496 * length Gs))
    (45 * sum_by size (F ∷ Gs) + 496 * length (F ∷ Gs))
    (omega (arith, sum_by-cons size F Gs))
    (function_sizes P F f (functions_rows P.main (f + 1) Gs) (45 * sum_by size Gs + 496 * length Gs) (omega arith) are.0 others)

-- no program within the limits has a listing that is too long
pub rows_fit : (P : Bytecode) → Limits P → AllByRecursion IsShortClass P.classes → AllByRecursion (IsListable P) P.functions
    → AreRows (rows P) LONGEST
rows_fit P limits classes functions =
    let size = λ (G : Function). length G.code in
    let code = limits.code in
    let many = limits.functions in
    let some = limits.classes in
    let rest = functions_sizes P 0 P.functions (omega arith) functions in
    more_room (rows P) (25 * length P.classes + (45 * sum_by size P.functions + 496 * length P.functions)) LONGEST
    (omega (arith, code, many, some))
    (class_sizes 0 P.classes (functions_rows P.main 0 P.functions) (45 * sum_by size P.functions + 496 * length P.functions) (omega arith)
    classes rest)
