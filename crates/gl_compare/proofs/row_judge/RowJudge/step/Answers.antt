use Rattle.std.proofs.Common.{◌≡◌, ◌≤◌, ℕ, List, length, sym, subst}
use Rattle.gl_model.specs.declared.limits.TheConstants.{TX_VARIABLES}
use Rattle.gl_model.specs.declared.row.Item.{Item}
use Rattle.gl_model.specs.declared.row.Judged.{Judged}
use Rattle.gl_model.specs.Rising.{Rises, with_all}
use Rattle.gl_compare.specs.Held.{hold_of, AreLeastHeld}
use Rattle.gl_compare.specs.Rows.{row_of, asked_plain, asked_commit, asked_part, PlainDone, CommitDone}
use Rattle.gl_compare.specs.RowsFollow.{IsStepped}
use Rattle.gl_compare.proofs.RowSteps.{if_ok_map, if_ok_both, stepped_plain, stepped_commit}
use Rattle.gl_compare.proofs.row_judge.RowJudge.step.Goals as goal

pub returns-in-Access-clause-right : goal.returns-in-Access-clause-right
returns-in-Access-clause-right c = if_ok_both c.access.result
    (λ (judged : Judged). (y : ℕ) → (y ≡ c.in-Access.var → ⊥) → row_of c.access.new.self.rows.items y ≡ row_of c.args.self.now.rows.items y)
    (λ (judged : Judged). (held : List ℕ) × AreLeastHeld (λ m. hold_of m c.args.self.now.events.items) c.args.thread held
    × PlainDone c.args.self.now.events.items (row_of c.args.self.now.rows.items c.in-Access.var)
    (asked_plain c.args.thread c.in-Access.write held) c.in-Access.var judged (row_of c.access.new.self.rows.items c.in-Access.var))
    (λ (judged : Judged). IsStepped c.args.thread c.args.item.now judged c.args.self.now c.access.new.self) c.access.ensures.others
    c.access.ensures.done
    (λ judged others done. subst (λ (i : Item). IsStepped c.args.thread i judged c.args.self.now c.access.new.self) (sym c.in-Access.is)
    (stepped_plain c.args.thread c.in-Access.var c.in-Access.write judged c.args.self.now.events.items c.access.new.self.events.items
    c.args.self.now.rows.items c.access.new.self.rows.items c.args.self.now.ended c.access.new.self.ended
    c.access.ensures.events c.access.ensures.ended others done))

pub returns-in-Commit-clause-right : goal.returns-in-Commit-clause-right
returns-in-Commit-clause-right c = if_ok_map c.commit.result
    (λ (judged : Judged). (held variables : List ℕ) × AreLeastHeld (λ m. hold_of m c.args.self.now.events.items) c.args.thread held
    × Rises variables × (length (with_all c.in-Commit.writes c.in-Commit.reads) ≤ TX_VARIABLES
    → variables ≡ with_all c.in-Commit.writes c.in-Commit.reads)
    × CommitDone c.args.self.now.events.items c.args.self.now.rows.items c.args.thread variables
    (asked_part (asked_commit c.args.thread variables held) c.in-Commit.writes) judged
    c.commit.new.self.events.items c.commit.new.self.rows.items)
    (λ (judged : Judged). IsStepped c.args.thread c.args.item.now judged c.args.self.now c.commit.new.self) c.commit.ensures.done
    (λ judged done. subst (λ (i : Item). IsStepped c.args.thread i judged c.args.self.now c.commit.new.self) (sym c.in-Commit.is)
    (stepped_commit c.args.thread c.in-Commit.reads c.in-Commit.writes judged c.args.self.now.events.items c.commit.new.self.events.items
    c.args.self.now.rows.items c.commit.new.self.rows.items c.args.self.now.ended c.commit.new.self.ended c.commit.ensures.ended done))
