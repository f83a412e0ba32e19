-- What an Info and a Question stand for: a performed access with its lockset up to a position, and a next access.
use Rattle.std.specs.Prelude.{◌≡◌, ℕ, ◌+◌, ◌<◌, ◌≤◌, Bool, List, length, take, Contains, Option, IsSome, IsTrue, ◌⊎◌, ◌↔◌}
use Rattle.std.specs.List.Sorted.{IsStrictlyIncreasing}
use Rattle.gl_model.specs.declared.event.Stamp.{Stamp}
use Rattle.gl_model.specs.declared.event.Element.{Element}
use Rattle.gl_model.specs.declared.limits.TheConstants.{HELD}
use Rattle.gl_model.specs.declared.row.Info.{Info}
use Rattle.gl_model.specs.declared.row.Question.{Question}
use Rattle.gl_model.specs.Lockset.{Has}
use Rattle.gl_model.specs.Locksets.{Access, IsAccessOf, LocksetAt}
use Rattle.gl_model.specs.Machine.{Setting, State, Allows, Owns, Running}

-- these are the least monitors that thread t owns: all of them, or as many as are kept, and the others are above them
pub record AreLeastOwned (s : State) (t : ℕ) (held : List ℕ) : Type 0 where
  pub rising : IsStrictlyIncreasing held
  pub owned : (o : ℕ) → Contains held o → Owns s t o
  pub at_most_four : length held ≤ HELD
  pub least : (o : ℕ) → Owns s t o → Contains held o ⊎ ((length held ≡ HELD) × ((m : ℕ) → Contains held m → m < o))

-- the Info stands for the access, that writes or not, in the list h
pub record InfoFor (setting : Setting) (h : List Stamp) (info : Info) (a : Access) (write : Bool) : Type 0 where
  pub access : IsAccessOf h a
  pub thread : info.thread ≡ a.thread
  pub write_mark : info.write ≡ write
  pub commit_mark : IsTrue info.commit ↔ IsSome a.variables
  -- held as the thread owned them at the access
  pub owner : State
  pub before : Allows setting (take (a.block + 1) h) owner
  pub held : AreLeastOwned owner a.thread info.held
  pub behind : a.block < info.pos
  pub within : info.pos ≤ length h
  pub set : (y : Element) → Has info.set y ↔ LocksetAt h a info.pos y

-- the question is of a next access after h: of thread u, that writes or not, a commit where it has variables
pub record QuestionOf (setting : Setting) (h : List Stamp) (q : Question) (u : ℕ) (write : Bool) (variables : Option (List ℕ)) : Type 0
  where
    pub thread : q.thread ≡ u
    pub write_mark : q.write ≡ write
    pub commit : q.commit ≡ variables
    pub now : State
    pub allowed : Allows setting h now
    pub runs : now.threads u ≡ Running
    pub held : AreLeastOwned now u q.held
