-- The listing of a program is a text of that program, and of no inputs.
use Rattle.std.proofs.Common.{◌≡◌, ℤ, Result, ◌≤◌, ℕ, List, [], false, Option, Some, None, Ok, length, refl, ap, sym, ◌∙◌, arith, nat_lt, subst}
use Rattle.std.specs.Prelude.{option_map, codes}
use Rattle.std.specs.List.{AllByRecursion}
use Rattle.std.specs.Str.Lines.{lines}
use Rattle.std.proofs.lemmas.Bool.Decides.{nat_tests}
use Rattle.gl_bytecode.specs.Faults.{AllThrowInRange, IsFaultless, program_of}
use Rattle.gl_bytecode.specs.Programs.{Bytecode, Draft, draft_of}
use Rattle.gl_bytecode.proofs.Faultless.{all_from, limits_of}
use Rattle.gl_asm.specs.declared.definitions.Definition.{Definition}
use Rattle.gl_asm.specs.declared.definitions.Scope.TheVariants.{Functions}
use Rattle.gl_asm.specs.declared.limits.TheConstants.{LONGEST}
use Rattle.gl_asm.specs.Additions.{meaning_of, meant}
use Rattle.gl_asm.specs.Definitions.{definitions, first_definition}
use Rattle.gl_asm.specs.Forms.{none_yet}
use Rattle.gl_asm.specs.Listable.{OperandsAreTyped}
use Rattle.gl_asm.specs.Listing.{listing}
use Rattle.gl_asm.specs.Texts.{IsText, LineFault, lines_read, text_read}
use Rattle.gl_asm.proofs.ListedLimits.{has_main, listable, short_classes}
use Rattle.gl_text.proofs.WordLines.{lines_of_ended}
use Rattle.gl_asm.proofs.ListedNames.{main_is}
use Rattle.gl_asm.proofs.ListedRows.{functions_rows, listing_is, rows}
use Rattle.gl_asm.proofs.ListedSize.{rows_fit}
use Rattle.gl_asm.proofs.ListedTable.{Stands, nothing_free}
use Rattle.gl_asm.proofs.ListedWalk.{IsListable, IsShortClass, Meant, classes_draft, walk_classes, walk_functions}

-- a name that means a number has a definition with this number
number_is : (o : Option Definition) (n : ℕ) → meant o ≡ Ok n → option_map (λ (d : Definition). d.number) o ≡ Some n
number_is None n is = cc
number_is (Some d) n is = let e : d.number ≡ n = cc in ap Some e

-- what the rows say is the program
rows_say : (P : Bytecode) → IsFaultless P → AllByRecursion IsShortClass P.classes → AllByRecursion (IsListable P) P.functions
    → lines_read (rows P) ≡ Ok (draft_of P, [])
rows_say P ok classes functions =
    let T = definitions (rows P) in
    let named = option_map (λ (d : Definition). d.number) (first_definition T Functions (codes "main")) in
    let whole = lines_read (rows P) in
    let limits = limits_of P ok.short in
    let begin : Stands (Meant P T) T whole P.main none_yet 0 (rows P) (classes_draft [] named) =
    record { before = []; line = 1; table = refl; going = λ known. refl; free = nothing_free P.main } in
    let first = walk_classes P.classes 0 (length P.classes) [] P.classes named (functions_rows P.main 0 P.functions) (omega arith)
    limits.classes refl classes begin in
    let others = walk_functions P T whole P.classes named P.functions (length P.classes) 0 (length P.functions) 0 0 0 [] P.functions
    (omega arith) limits.functions refl functions first.0 in
    let known : Meant P T = (λ k below. first.1 k (omega arith) below, λ f below. others.1 f (omega arith) below) in
    let main : named ≡ Some P.main =
    number_is (first_definition T Functions (codes "main")) P.main
    (ap (meaning_of T Functions) (sym (main_is P.main)) ∙ known.1 P.main (has_main P ok)) in
    sym (others.0 known) ∙ ap (λ m. Ok (record { classes = P.classes; functions = P.functions; main = m }, [])) main

-- what is at most as great does not pass a test for greater
not_over : (a b : ℕ) → b ≤ a → nat_lt a b ≡ false
not_over a b most = grind (arith, nat_tests)

-- a text that is not too long is read by its lines
pub read_short : (text : List ℕ) → length text ≤ LONGEST → text_read text ≡ lines_read (lines text)
unfolding text_read
read_short text short = rw (not_over LONGEST (length text) short) refl

-- the listing of a faultless program whose codes are in range and whose operands are of their types is a text of that program
pub listing_is_text : (P : Bytecode) → IsFaultless P → AllThrowInRange P.functions → OperandsAreTyped P → IsText (listing P) P []
listing_is_text P ok thrown typed =
    let classes = short_classes P ok.short in
    let functions = all_from (IsListable P) P.functions (λ f F is. listable P ok thrown typed f F is) in
    let are = rows_fit P (limits_of P ok.short) classes functions in
    let same : lines (listing P) ≡ rows P = ap lines (sym (listing_is P)) ∙ lines_of_ended (rows P) are.0 in
    record {
      read = read_short (listing P) (subst (λ l. length l ≤ LONGEST) (listing_is P) are.1) ∙ ap lines_read same
          ∙ rows_say P ok classes functions;
      faultless = ok;
    }

-- a reading that is all right gives one draft and one list of inputs
same_draft : (r : Result (Draft × List ℤ) LineFault) (a b : Draft × List ℤ) → r ≡ Ok a → r ≡ Ok b → b ≡ a
same_draft r a b one two = cc

-- what the listing is a text of is the program
pub listing_is_of_one : (P : Bytecode) → IsFaultless P → AllThrowInRange P.functions → OperandsAreTyped P
    → (Q : Bytecode) (inputs : List ℤ) → IsText (listing P) Q inputs → (Q ≡ P) × (inputs ≡ [])
listing_is_of_one P ok thrown typed Q inputs is =
    let same = same_draft (text_read (listing P)) (draft_of P, []) (draft_of Q, inputs) (listing_is_text P ok thrown typed).read is.read in
    (ap (λ d. program_of d.0) same, ap (λ d. d.1) same)
