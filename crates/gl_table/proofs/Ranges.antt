-- Ids in entries are ones that there are.
use Rattle.std.proofs.Common.{◌≡◌, ℕ, ◌<◌, List, subst}
use Rattle.std.specs.Prelude.{Bool, ℤ}
use Rattle.std.specs.List.{All}
use Rattle.gl_model.specs.declared.limits.TheConstants.{VARIABLES}
use Rattle.gl_model.specs.Entries.{Entry, Sync, Commit, Plain, Abort, Trim, Over}
use Rattle.gl_model.specs.Form.{At, GivesRight}
use Rattle.gl_model.specs.Kept.{IsEntryKept}
use Rattle.gl_rule.specs.Adding.{MayCache}
use Rattle.gl_rule.specs.View.{View, Shelf}
use Rattle.gl_rule.proofs.Lasting.{has_block, no_end}
use Rattle.gl_table.specs.PassView.{PassView, view_of, shelf_of}
use Rattle.gl_table.specs.Repeating.{MayRepeat}
use Rattle.gl_table.proofs.RightOf.{right_stands}
use Rattle.std.proofs.Common.{[], ◌∷◌, zero, suc}
use Rattle.std.proofs.lemmas.List.Elements.{All-head, All-tail}

-- what holds of each entry holds of the one at i
pub entry_at : (P : Entry → Type 0) (es : List Entry) (i : ℕ) (e : Entry) → All P es → At es i e → P e
entry_at P [] i e all at = absurd (cc)
entry_at P (y ∷ es) zero e all at = let same : y ≡ e = cc in subst P same (All-head P y es all)
entry_at P (y ∷ es) (suc i) e all at = entry_at P es i e (All-tail P y es all) at

-- a kept entry that gives a right gives it for a variable that there is
gives_in_range : (e : Entry) (x k : ℕ) (w : Bool) → IsEntryKept e → GivesRight e x k w → x < VARIABLES
gives_in_range (Plain var nth cached write value raised) x k w kept gives = subst (λ n. n < VARIABLES) gives.2 kept
gives_in_range (Sync a b c) x k w kept gives = absurd gives
gives_in_range (Commit a b) x k w kept gives = absurd gives
gives_in_range (Abort a b) x k w kept gives = absurd gives
gives_in_range (Trim a) x k w kept gives = absurd gives
gives_in_range (Over a) x k w kept gives = absurd gives

-- a variable that may be repeated is one that there is
pub right_in_range : (s : Shelf) (v : View) (x k : ℕ) (write : Bool) (value : ℤ) → All IsEntryKept s.marked → MayCache s v x k write value
    → x < VARIABLES
right_in_range s v x k write value kept may =
    gives_in_range may.right.entry x k may.right.by_write
    (entry_at IsEntryKept s.marked may.right.index may.right.entry kept may.right.there) may.right.gives

-- who may repeat an access may add it
pub may_cache : (p : PassView) (x k : ℕ) (write : Bool) (value : ℤ) → MayRepeat p x k write value
    → MayCache (shelf_of p) (view_of p) x k write value
may_cache p x k write value may =
    let b = has_block p.own.mine may.runs in
    record {
      held = may.held;
      right = right_stands p.own.mine x k may.by_write write may.right may.enough;
      word = may.word;
      position = b.0;
      block = b.1;
      goes_on = no_end p.own.mine may.runs;
    }
