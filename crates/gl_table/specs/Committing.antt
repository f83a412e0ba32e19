-- What is asked of a commit that is published, and the pass after it.
use Rattle.std.specs.Prelude.{◌≡◌, ℕ, pos}
use Rattle.gl_model.specs.declared.event.Event.TheVariants.{Commit as Commits}
use Rattle.gl_model.specs.declared.event.Stamp.{Stamp}
use Rattle.gl_model.specs.declared.row.Question.{Question}
use Rattle.gl_model.specs.declared.tx.Tx.{Tx}
use Rattle.gl_model.specs.Entries.{Commit}
use Rattle.gl_model.specs.Records.{variables_of}
use Rattle.gl_draws.specs.Draws.{draw, Entered}
use Rattle.gl_rule.specs.declared.slot.Slot.TheVariants as slot
use Rattle.gl_rule.specs.Cells.{packed}
use Rattle.gl_rule.specs.Commits.{MayCommit, drew_commit}
use Rattle.gl_rule.specs.Fitting.{MayPublish}
use Rattle.gl_rule.specs.Objects.{Key}
use Rattle.gl_rule.specs.View.{Held, filled, published}
use Rattle.gl_state.specs.ListView.{ListView}
use Rattle.gl_table.specs.PassView.{PassView, view_of, shelf_of, after_storing}

-- the commit of the attempt by thread t
abbrev pub commit_stamp : ℕ → Tx → Stamp
commit_stamp t tx = record { thread = t; event = Commits (variables_of tx) }

-- the pass may publish the event, whose words are not stored yet, and may commit: its rows are held and were marked, and none of their
-- Infos fails its test
pub record MayPublishTx (key : Key) (p : PassView) (tx : Tx) (state : ListView) : Type 0 where
  pub held : Held
  pub old : ListView
  pub may : MayPublish key (shelf_of p) (filled (view_of p) (packed (commit_stamp p.own.id tx))) held old state
      (λ n. Commit n tx) (commit_stamp p.own.id tx) (pos 0)
  pub tail : may.tail ≡ p.seen
  pub block : ℕ
  pub judged : ℕ
  pub question : ℕ → Question
  pub commits : MayCommit key.setting (shelf_of p) (view_of p) tx block judged question

-- the pass after the commit was published at n
abbrev pub published_tx : PassView → Tx → ℕ → ListView → PassView
published_tx p tx n state =
    let x = commit_stamp p.own.id tx in
    after_storing p (published (filled (view_of p) (packed x)) p.own.id p.own.mine (Commit n tx) n x (slot.List state)
    (drew_commit (variables_of tx) (draw p.own.id n (Entered (Commit n tx)))))
