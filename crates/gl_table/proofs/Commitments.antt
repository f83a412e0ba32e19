-- What is asked of a commit does not speak of the words in its cell.
use Rattle.std.proofs.Common.{ℕ, List}
use Rattle.gl_model.specs.declared.row.Question.{Question}
use Rattle.gl_model.specs.declared.tx.Tx.{Tx}
use Rattle.gl_model.specs.Machine.{Setting}
use Rattle.gl_rule.specs.Commits.{MayCommit, HeldRow}
use Rattle.gl_rule.specs.View.{View, Shelf, filled}

-- a held row is that row whatever words are stored in the cell
row_stored : (s : Shelf) (v : View) (p y : ℕ) (ws : List ℕ) → HeldRow s v p y → HeldRow s (filled v ws) p y
row_stored s v p y ws r = record { one = r.one; row = r.row; held = r.held; object = r.object; taken = r.taken; drew = r.drew }

-- a commit that may be made may be made whatever words are stored in the cell
pub commit_stored : (setting : Setting) (s : Shelf) (v : View) (tx : Tx) (p m : ℕ) (question : ℕ → Question) (ws : List ℕ)
    → MayCommit setting s v tx p m question → MayCommit setting s (filled v ws) tx p m question
unfolding row_stored
commit_stored setting s v tx p m question ws may = record {
  block = may.block;
  goes_on = may.goes_on;
  below = may.below;
  rows = λ y b. row_stored s v p y ws (may.rows y b);
  saw = may.saw;
  each = may.each;
  looks = may.looks;
  owns = may.owns;
  once = may.once;
  names = may.names;
  words = may.words;
  asks = may.asks;
  judged = may.judged;
}
