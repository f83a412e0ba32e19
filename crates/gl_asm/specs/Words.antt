-- The words of the instructions, and what stands behind them.
use Rattle.std.specs.Prelude.{ℕ, ℤ, List, codes, Option, find, bytes_eq}
use Rattle.gl_asm.specs.declared.table.Operand.{Operand}
use Rattle.gl_asm.specs.declared.table.Operand.TheVariants.{Nothing, Value, Index, IndexAndValue, Code, Label, Function, Class}
use Rattle.gl_asm.specs.declared.table.TheConstants.{INSTRUCTIONS}
use Rattle.gl_bytecode.specs.declared.instr.Instr.{Instr}
use Rattle.gl_bytecode.specs.declared.instr.Instr.TheVariants.{Push, Pop, Dup, Swap, Load, Store, Inc, Add, Sub, Mul, Div, Rem, Neg, Eq, Lt, Le, Not, And, Or, Xor, Jump, Jz, Jnz, Call, Ret, Halt, Throw, Nop, New, Get, Put, Vget, Vput, Enter, Exit, Fork, Join, SelfId, Txbegin, Commit, Print, Input}

pub record Written : Type 0 where
  pub word : List ℕ
  -- what stands behind the word
  pub operand : Operand
  -- the instruction of the same word with an index and a value, of which it takes those that it has
  pub others : ℕ → ℤ → Instr

abbrev pub says : List ℕ → Operand → (ℕ → ℤ → Instr) → Written
says word operand others = record { word = word; operand = operand; others = others }

-- a word alone
abbrev pub bare : List ℕ → Instr → Written
bare word i = says word Nothing (λ index value. i)

-- how an instruction is written
abbrev pub written : Instr → Written
written (Push n) = says (codes "push") (Value n) (λ index value. Push value)
written Pop = bare (codes "pop") Pop
written Dup = bare (codes "dup") Dup
written Swap = bare (codes "swap") Swap
written (Load k) = says (codes "load") (Index k) (λ index value. Load index)
written (Store k) = says (codes "store") (Index k) (λ index value. Store index)
written (Inc k n) = says (codes "inc") (IndexAndValue k n) (λ index value. Inc index value)
written Add = bare (codes "add") Add
written Sub = bare (codes "sub") Sub
written Mul = bare (codes "mul") Mul
written Div = bare (codes "div") Div
written Rem = bare (codes "rem") Rem
written Neg = bare (codes "neg") Neg
written Eq = bare (codes "eq") Eq
written Lt = bare (codes "lt") Lt
written Le = bare (codes "le") Le
written Not = bare (codes "not") Not
written And = bare (codes "and") And
written Or = bare (codes "or") Or
written Xor = bare (codes "xor") Xor
written (Jump to) = says (codes "jump") (Label to) (λ index value. Jump index)
written (Jz to) = says (codes "jz") (Label to) (λ index value. Jz index)
written (Jnz to) = says (codes "jnz") (Label to) (λ index value. Jnz index)
written (Call f) = says (codes "call") (Function f) (λ index value. Call index)
written Ret = bare (codes "ret") Ret
written Halt = bare (codes "halt") Halt
written (Throw code) = says (codes "throw") (Code code) (λ index value. Throw code)
written Nop = bare (codes "nop") Nop
written (New c) = says (codes "new") (Class c) (λ index value. New index)
written (Get k) = says (codes "get") (Index k) (λ index value. Get index)
written (Put k) = says (codes "put") (Index k) (λ index value. Put index)
written (Vget k) = says (codes "vget") (Index k) (λ index value. Vget index)
written (Vput k) = says (codes "vput") (Index k) (λ index value. Vput index)
written Enter = bare (codes "enter") Enter
written Exit = bare (codes "exit") Exit
written (Fork f) = says (codes "fork") (Function f) (λ index value. Fork index)
written Join = bare (codes "join") Join
written SelfId = bare (codes "self") SelfId
written Txbegin = bare (codes "txbegin") Txbegin
written Commit = bare (codes "commit") Commit
written Print = bare (codes "print") Print
written Input = bare (codes "input") Input

abbrev pub word_of : Instr → List ℕ
word_of i = (written i).word

abbrev pub operand_of : Instr → Operand
operand_of i = (written i).operand

abbrev pub filled : Instr → ℕ → ℤ → Instr
filled i index value = (written i).others index value

-- the instruction of a word, with any operands
abbrev pub template_of : List ℕ → Option Instr
template_of word = find (λ i. bytes_eq (word_of i) word) INSTRUCTIONS
