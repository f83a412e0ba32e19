-- An attempt that is dropped: what its entry makes of the pass.
use Rattle.std.proofs.Common.{◌≡◌, ℕ, suc, ◌<◌, List, [], ◌∷◌, ◌++◌, refl, ap, arith, ◌∙◌, true, ◌==◌, eq-eqb}
use Rattle.std.specs.Prelude.{Contains, Bool}
use Rattle.std.proofs.lemmas.List.Elements.{All-contains}
use Rattle.atomic_table.specs.Table as table
use Rattle.gl_model.specs.declared.limits.TheConstants.{VARIABLES}
use Rattle.gl_model.specs.declared.tx.Tx.{Tx}
use Rattle.gl_model.specs.declared.tx.Why.{Why}
use Rattle.gl_model.specs.declared.tx.Why.TheVariants.{Changed, Raised}
use Rattle.gl_model.specs.Entries.{Entry, Abort}
use Rattle.gl_model.specs.Kept.{IsTxKept, IsWhyKept}
use Rattle.gl_model.specs.Machine.{trace_setting}
use Rattle.gl_model.specs.Records.{variables_of}
use Rattle.gl_model.specs.Trace.{is_in}
use Rattle.gl_draws.specs.Draws.{draw, Looked, Entered}
use Rattle.gl_rule.specs.declared.slot.Slot.{Slot}
use Rattle.gl_rule.specs.Adding.{MayAdd}
use Rattle.gl_rule.specs.Commits.{with_drew, dropped}
use Rattle.gl_rule.specs.Objects.{objects}
use Rattle.gl_rule.specs.View.{View, Held, shelf}
use Rattle.gl_table.specs.CaughtUp.{caught_up, first_marked, adds_one, or_zero, block_of}
use Rattle.gl_table.specs.PassInside.{IsPass, AreOut}
use Rattle.gl_table.specs.Putting.{MayAbortAs}
use Rattle.gl_table.proofs.Out as out
use Rattle.gl_table.proofs.Passes.{pass_adds}

-- the variable of a row that is held is one that there is
held_near : (c : List (ℕ × Slot)) (order : List ℕ) (held : List Held) → AreOut c order held → (h : Held) (x : ℕ) → Contains held h
    → h.object ≡ suc x → x < VARIABLES
held_near c order held gone h x has object =
    let a : h.object < objects = All-contains (λ k. k < objects) order h.object gone.near (out.is_out c order held gone h has) in
    omega arith

-- a variable is in the list that has it alone
here_in : (x : ℕ) → is_in x (x ∷ []) ≡ true
here_in x = let b : (x == x) ≡ true = eq-eqb x x refl in rw b refl

-- its list has the entry behind what it had
pub added_list : (v : View) (t : ℕ) (l : List Entry) (tx : Tx) (why : Why) → first_marked (adds_one v t l (Abort tx why)).shelves ≡ l
    ++ Abort tx why ∷ []
added_list v t l tx (Changed var read found) = refl
added_list v t l tx (Raised var) = refl

module _ (me : table.Me Slot View) (t : ℕ) (mine : List Entry) (seen : ℕ) (order : List ℕ) (quiet : Bool)
    (p : IsPass me t mine seen order quiet) where
  abbrev now : View
  now = caught_up me.0 t mine

  -- the entry by which an attempt may be dropped may be added to the view
  may_add : (tx : Tx) (why : Why) → MayAbortAs (shelf t mine) now tx why → (u : View) → u ≡ adds_one now t mine (Abort tx why)
      → MayAdd now (Abort tx why) u
  may_add tx (Changed var read found) m u added = (
    shelf t mine,
    refl,
    (
      m.0,
      m.1,
      added ∙ ap
          (λ k. dropped now t mine (Abort tx (Changed var read found)) (var ∷ []) (draw t k (Looked found))) (ap or_zero m.1.drop.block),
    ),
  )
  may_add tx (Raised var) m u added = (
    shelf t mine,
    refl,
    (
      m.0,
      m.1,
      m.2,
      m.3,
      added
          ∙ ap (λ k. dropped now t mine (Abort tx (Raised var)) (variables_of tx) (draw t k (Entered (Abort tx (Raised var)))))
          (ap or_zero (m.3 trace_setting).drop.block),
    ),
  )

  -- a reason for which the attempt may be dropped can be kept
  pub abort_kept : (tx : Tx) (why : Why) → MayAbortAs (shelf t mine) now tx why → IsWhyKept why
  abort_kept tx (Changed var read found) m = let r = m.1.drop.rows var (here_in var)
      in held_near me.1 order now.held p.out r.one var r.held r.object
  abort_kept tx (Raised var) m = let f = m.3 trace_setting in let r = f.drop.rows var f.touches
      in held_near me.1 order now.held p.out r.one var r.held r.object

  -- the entry leaves how far the pass has seen
  same_seen : (tx : Tx) (why : Why) → (adds_one now t mine (Abort tx why)).seen ≡ now.seen
  same_seen tx (Changed var read found) = refl
  same_seen tx (Raised var) = refl

  -- the entry leaves whether the pass is quiet
  same_quiet : (tx : Tx) (why : Why) → (adds_one now t mine (Abort tx why)).quiet ≡ now.quiet
  same_quiet tx (Changed var read found) = refl
  same_quiet tx (Raised var) = refl

  -- the entry leaves which words are stored
  same_stored : (tx : Tx) (why : Why) → (adds_one now t mine (Abort tx why)).stored ≡ now.stored
  same_stored tx (Changed var read found) = refl
  same_stored tx (Raised var) = refl

  -- with the entry all that is held is still out
  gone : (tx : Tx) (why : Why) → AreOut me.1 order (adds_one now t mine (Abort tx why)).held
  gone tx (Changed var read found) = out.out_mapped me.1 order now.held p.out
      (with_drew (var ∷ []) (draw t (block_of mine) (Looked found))) (λ h. refl)
  gone tx (Raised var) = out.out_mapped me.1 order now.held p.out
      (with_drew (variables_of tx) (draw t (block_of mine) (Entered (Abort tx (Raised var))))) (λ h. refl)

  -- once it was dropped, with a transaction that can be kept, the pass has that entry more in its list, and the rest is as before
  pub pass_aborts : (tx : Tx) (why : Why) (mine' : List Entry) → MayAbortAs (shelf t mine) now tx why → IsTxKept tx → mine' ≡ mine
      ++ Abort tx why ∷ [] → IsPass me t mine' seen order quiet × (caught_up me.0 t mine' ≡ adds_one now t mine (Abort tx why))
  pass_aborts tx why mine' m kept more = pass_adds me t mine seen order quiet p (Abort tx why) mine' (may_add tx why m) (same_seen tx why)
      (same_quiet tx why) (same_stored tx why) (gone tx why) refl (kept, abort_kept tx why m) more
