-- The kinds of synchronization: the word that tells each, the greatest number of such an act, and the act of a number.
use Rattle.std.specs.Prelude.{ℕ, ◌+◌, ◌-◌, ◌*◌, ◌/◌, ◌%◌, List, [], ◌∷◌, Result, Ok, Err, bytes_eq, codes, if◌then◌else◌}
use Rattle.gl_model.specs.declared.event.Act.{Act}
use Rattle.gl_model.specs.declared.event.Act.TheVariants as acts
use Rattle.gl_model.specs.declared.limits.TheConstants.{CLASSES, FUNCTIONS, MONITORS, THREADS, VOLATILES}
use Rattle.gl_text.specs.declared.kinds.TheConstants.{BAD_NUMBER}
use Rattle.gl_journal.specs.declared.sync_kinds.SyncKind.{SyncKind}
use Rattle.gl_journal.specs.declared.sync_kinds.SyncKind.TheVariants.{Begin, End, Acq, Rel, VRead, VWrite, Fork, Join, Alloc, Print, Input, Fail}
use Rattle.gl_journal.specs.Fields.{Word}

abbrev pub word_of : SyncKind → Word
word_of Begin = codes "begin"
word_of End = codes "end"
word_of Acq = codes "acq"
word_of Rel = codes "rel"
word_of VRead = codes "vread"
word_of VWrite = codes "vwrite"
word_of Fork = codes "fork"
word_of Join = codes "join"
word_of Alloc = codes "alloc"
word_of Print = codes "print"
word_of Input = codes "input"
word_of Fail = codes "fail"

abbrev pub kinds : List SyncKind
kinds = Begin ∷ End ∷ Acq ∷ Rel ∷ VRead ∷ VWrite ∷ Fork ∷ Join ∷ Alloc ∷ Print ∷ Input ∷ Fail ∷ []

abbrev pub kind_among : List SyncKind → Word → Result SyncKind ℕ
kind_among [] word = Err BAD_NUMBER
kind_among (k ∷ ks) word = if bytes_eq word (word_of k) then Ok k else kind_among ks word

-- the kind that a word tells
abbrev pub kind_in : Word → Result SyncKind ℕ
kind_in word = kind_among kinds word

-- the greatest number of an act of this kind, 0 where it has none
abbrev pub most_of : SyncKind → ℕ
most_of Begin = FUNCTIONS - 1
most_of End = 0
most_of Acq = MONITORS - 1
most_of Rel = MONITORS - 1
most_of VRead = VOLATILES - 1
most_of VWrite = VOLATILES - 1
most_of Fork = THREADS * FUNCTIONS - 1
most_of Join = THREADS - 1
most_of Alloc = CLASSES - 1
most_of Print = 0
most_of Input = 0
most_of Fail = 255

-- the act of this kind and this number; that of a fork is the child plus 16 times the function
abbrev pub act_of : SyncKind → ℕ → Act
act_of Begin n = acts.Begin n
act_of End n = acts.End
act_of Acq n = acts.Acq n
act_of Rel n = acts.Rel n
act_of VRead n = acts.VRead n
act_of VWrite n = acts.VWrite n
act_of Fork n = acts.Fork (n % THREADS) (n / THREADS)
act_of Join n = acts.Join n
act_of Alloc n = acts.Alloc n
act_of Print n = acts.Print
act_of Input n = acts.Input
act_of Fail n = acts.Fail n

abbrev pub kind_of : Act → SyncKind
kind_of (acts.Begin f) = Begin
kind_of acts.End = End
kind_of (acts.Acq o) = Acq
kind_of (acts.Rel o) = Rel
kind_of (acts.VRead v) = VRead
kind_of (acts.VWrite v) = VWrite
kind_of (acts.Fork u f) = Fork
kind_of (acts.Join u) = Join
kind_of (acts.Alloc c) = Alloc
kind_of acts.Print = Print
kind_of acts.Input = Input
kind_of (acts.Fail code) = Fail

-- the number of an act, 0 where it has none
abbrev pub arg_of : Act → ℕ
arg_of (acts.Begin f) = f
arg_of acts.End = 0
arg_of (acts.Acq o) = o
arg_of (acts.Rel o) = o
arg_of (acts.VRead v) = v
arg_of (acts.VWrite v) = v
arg_of (acts.Fork u f) = u + THREADS * f
arg_of (acts.Join u) = u
arg_of (acts.Alloc c) = c
arg_of acts.Print = 0
arg_of acts.Input = 0
arg_of (acts.Fail code) = code
