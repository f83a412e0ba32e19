-- The text of the bank: the lines that say it in the language of program texts.
use Rattle.std.specs.Prelude.{ℕ, ◌+◌, List, [], ◌∷◌, ◌++◌, codes}
use Rattle.std.specs.List.{flat_map, range_with_len}
use Rattle.std.specs.Fmt.{decimal}
use Rattle.gl_gen.specs.Bank.{next}

-- the bytes of a line
abbrev pub Line : Type 0
Line = List ℕ

-- ## Main

abbrev pub opening_lines : ℕ → List Line
opening_lines k = codes "  load 0" ∷ codes "  push 1000" ∷ (codes "  put " ++ decimal k) ∷ []

abbrev pub starting_lines : ℕ → List Line
starting_lines k = codes "  load 0" ∷ (codes "  fork w" ++ decimal k) ∷ (codes "  store " ++ decimal (k + 1)) ∷ []

abbrev pub waiting_lines : ℕ → List Line
waiting_lines k = (codes "  load " ++ decimal (k + 1)) ∷ codes "  join" ∷ []

abbrev pub adding_lines : ℕ → List Line
adding_lines k = codes "  load 0" ∷ (codes "  get " ++ decimal k) ∷ codes "  add" ∷ []

-- the lines for each account, and for each but account 0
abbrev pub lines_for_each : (ℕ → List Line) → List Line
lines_for_each lines = flat_map lines (range_with_len 0 8)

abbrev pub lines_for_others : (ℕ → List Line) → List Line
lines_for_others lines = flat_map lines (range_with_len 1 7)

abbrev pub main_lines : List Line
main_lines =
    (codes "func main 0 9" ∷ codes "  new Bank" ∷ codes "  store 0" ∷ [])
    ++ lines_for_each opening_lines ++ lines_for_each starting_lines ++ lines_for_each waiting_lines
    ++ (codes "  load 0" ∷ codes "  get 0" ∷ []) ++ lines_for_others adding_lines ++ (codes "  print" ∷ codes "  halt" ∷ [])

-- ## The thread of an account

abbrev pub transfer_lines : ℕ → ℕ → List Line
transfer_lines n k =
    (codes "func w" ++ (decimal k ++ codes " 1 2"))
    ∷ (codes "  push " ++ decimal n)
    ∷ codes "  store 1"
    ∷ codes "a:"
    ∷ codes "  txbegin"
    ∷ codes "  load 0"
    ∷ codes "  load 0"
    ∷ (codes "  get " ++ decimal k)
    ∷ codes "  push 1"
    ∷ codes "  sub"
    ∷ (codes "  put " ++ decimal k)
    ∷ codes "  load 0"
    ∷ codes "  load 0"
    ∷ (codes "  get " ++ decimal (next k))
    ∷ codes "  push 1"
    ∷ codes "  add"
    ∷ (codes "  put " ++ decimal (next k))
    ∷ codes "  commit"
    ∷ codes "  inc 1 -1"
    ∷ codes "  load 1"
    ∷ codes "  jnz a"
    ∷ codes "  push 0"
    ∷ codes "  ret"
    ∷ []

-- ## The whole

-- the lines of the bank of n transfers a thread
abbrev pub bank_lines : ℕ → List Line
bank_lines n = (codes "class Bank 8 0" ∷ main_lines) ++ lines_for_each (transfer_lines n)

-- each with its line feed
abbrev pub bank_text : ℕ → List ℕ
bank_text n = flat_map (λ line. line ++ codes "\n") (bank_lines n)
