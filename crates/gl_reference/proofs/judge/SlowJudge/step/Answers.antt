use Rattle.std.proofs.Common.{◌≡◌, ◌≤◌, List, ℕ, length, sym, subst}
use Rattle.gl_model.specs.declared.limits.TheConstants.{TX_VARIABLES}
use Rattle.gl_model.specs.declared.row.Item.{Item}
use Rattle.gl_model.specs.declared.row.Judged.{Judged}
use Rattle.gl_model.specs.Rising.{Rises, with_all}
use Rattle.gl_reference.specs.Follows.{IsStepped}
use Rattle.gl_reference.specs.Lines.{PlainDone, CommitDone}
use Rattle.gl_reference.proofs.Steps.{if_ok_map, stepped_plain, stepped_commit}
use Rattle.gl_reference.proofs.judge.SlowJudge.step.Goals as goal

pub returns-in-Access-clause-right : goal.returns-in-Access-clause-right
returns-in-Access-clause-right c = if_ok_map c.access.result
    (λ (judged : Judged). PlainDone c.args.self.now.events.items c.args.self.now.performed.items c.args.thread c.in-Access.var
    c.in-Access.write judged c.access.new.self.performed.items)
    (λ (judged : Judged). IsStepped c.args.thread c.args.item.now judged c.args.self.now c.access.new.self) c.access.ensures.done
    (λ judged done. subst (λ (i : Item). IsStepped c.args.thread i judged c.args.self.now c.access.new.self) (sym c.in-Access.is)
    (stepped_plain c.args.thread c.in-Access.var c.in-Access.write judged c.args.self.now.events.items c.access.new.self.events.items
    c.args.self.now.performed.items c.access.new.self.performed.items c.args.self.now.ended c.access.new.self.ended
    c.access.ensures.events c.access.ensures.ended done))

pub returns-in-Commit-clause-right : goal.returns-in-Commit-clause-right
returns-in-Commit-clause-right c = if_ok_map c.commit.result
    (λ (judged : Judged). (variables : List ℕ) × Rises variables
    × (length (with_all c.in-Commit.writes c.in-Commit.reads) ≤ TX_VARIABLES → variables ≡ with_all c.in-Commit.writes c.in-Commit.reads)
    × CommitDone c.args.self.now.events.items c.args.self.now.performed.items c.args.thread variables c.in-Commit.writes judged
    c.commit.new.self.events.items c.commit.new.self.performed.items)
    (λ (judged : Judged). IsStepped c.args.thread c.args.item.now judged c.args.self.now c.commit.new.self) c.commit.ensures.done
    (λ judged done. subst (λ (i : Item). IsStepped c.args.thread i judged c.args.self.now c.commit.new.self) (sym c.in-Commit.is)
    (stepped_commit c.args.thread c.in-Commit.reads c.in-Commit.writes judged c.args.self.now.events.items c.commit.new.self.events.items
    c.args.self.now.performed.items c.commit.new.self.performed.items c.args.self.now.ended c.commit.new.self.ended
    c.commit.ensures.ended done))
