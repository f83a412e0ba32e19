-- The test of an Info that stands for an access says whether the access is ordered before a next one, or both are commits.
use Rattle.std.proofs.Common.{ℕ, ◌<◌, List, length, refl, subst, sym, inl, inr, arith, Some, None, Bool}
use Rattle.std.specs.Prelude.{◌↔◌, ◌⊎◌, Option, IsSome}
use Rattle.std.proofs.Math.Logic.{∥∥₁_elim}
use Rattle.std.proofs.lemmas.Option.{slice_get_within}
use Rattle.gl_model.specs.declared.event.Event.TheVariants.{Commit as Commits}
use Rattle.gl_model.specs.declared.event.Stamp.{Stamp}
use Rattle.gl_model.specs.declared.event.Element.{Element}
use Rattle.gl_model.specs.declared.event.Element.TheVariants.{Thread, Tx}
use Rattle.gl_model.specs.declared.row.Info.{Info}
use Rattle.gl_model.specs.declared.row.Question.{Question}
use Rattle.gl_model.specs.Infos.{InfoFor}
use Rattle.gl_model.specs.Locksets.{Access, IsOrderedOrExcepted, InitialLockset, LocksetAt}
use Rattle.gl_model.specs.Machine.{Setting}
use Rattle.gl_model.specs.Next.{HappensBeforeNext}
use Rattle.gl_laws.proofs.NextMembership.{membership}
use Rattle.gl_laws.proofs.Walks.{walk_on}
use Rattle.gl_draws.specs.RowFacts.{set_after, Fails}
use Rattle.gl_draws.proofs.CommitLaw.{taken_map, start_mark}
use Rattle.gl_draws.proofs.Membership.{mark_at_start, set_means}
use Rattle.gl_draws.proofs.NextTestLaw.{made_of}
use Rattle.gl_shortcut.specs.Ordering.{IsOfNext, IsOrderedBefore}

module _ (setting : Setting) (h : List Stamp) (i : Info) (a : Access) (write : Bool) (stands : InfoFor setting h i a write) (q : Question)
    (next : IsOfNext setting h q) where
  -- after the events the Info's set has exactly what the access's lockset has
  here : (y : Element) → set_after h i y ↔ LocksetAt h a (length h) y
  here y = walk_on setting h i a write stands y

  -- the access's block is a position of the list
  near : a.block < length h
  near = slice_get_within h a.block stands.access.event stands.access.there

  -- what passes is ordered, or both are commits
  ordered : (v : Option (List ℕ)) → IsOrderedOrExcepted (set_after h i) q.thread v → HappensBeforeNext h a q.thread v
      ⊎ (IsSome a.variables × IsSome v)
  ordered None c = inl ((membership setting h next.now next.allowed a stands.access q.thread next.runs).0.0 ((here (Thread q.thread)).0 c))
  ordered (Some xs) (inl c) =
      let m = start_mark a.thread a.variables (mark_at_start setting h next.now next.allowed a (made_of h a stands.access) ((here Tx).0 c))
      in
      inr (subst IsSome (sym m.1) refl, refl)
  ordered (Some xs) (inr c) =
      inl (((membership setting h next.now next.allowed a stands.access q.thread next.runs).1 xs).0
      (taken_map (set_after h i) (LocksetAt h a (length h)) (record { thread = q.thread; event = Commits xs }) (λ y k. (here y).0 k)
      (Thread q.thread) c))

  -- where the Info passes the test, the access happens before the question's, or both are commits
  pub passes_ordered : IsOrderedOrExcepted (set_after h i) q.thread q.commit → IsOrderedBefore h a q
  passes_ordered c = ∣ ordered q.commit c ∣₁

  -- and the other way round
  passes : (v : Option (List ℕ)) → HappensBeforeNext h a q.thread v → IsOrderedOrExcepted (set_after h i) q.thread v
  passes None c = (here (Thread q.thread)).1 ((membership setting h next.now next.allowed a stands.access q.thread next.runs).0.1 c)
  passes (Some xs) c =
      inr (taken_map (LocksetAt h a (length h)) (set_after h i) (record { thread = q.thread; event = Commits xs }) (λ y k. (here y).1 k)
      (Thread q.thread) (((membership setting h next.now next.allowed a stands.access q.thread next.runs).1 xs).1 c))

  -- a commit's Info passes the test of a commit
  has_mark : IsSome a.variables → set_after h i Tx
  has_mark some = (here Tx).1 ((set_means setting h next.now next.allowed a (made_of h a stands.access) (length h) near (omega arith) Tx).1
      (inl (starts a.variables some)))
    where
      starts : (o : Option (List ℕ)) → IsSome o → InitialLockset a.thread o Tx
      starts None e = absurd (cc)
      starts (Some ws) e = inr (inl refl)

  -- where the access and the next one are commits, the test passes
  both_pass : (v : Option (List ℕ)) → IsSome a.variables → IsSome v → IsOrderedOrExcepted (set_after h i) q.thread v
  both_pass None some none = absurd (cc)
  both_pass (Some xs) some one = inl (has_mark some)

  -- and where one of these is so, the Info does not fail the test
  pub ordered_passes : IsOrderedBefore h a q → Fails h i q.thread q.commit → ⊥
  ordered_passes o fails = ∥∥₁_elim o (λ x y. absurd x)
      (λ k. fails (elim k [ inl before ↦ passes q.commit before | inr both ↦ both_pass q.commit both.0 both.1 ]))
