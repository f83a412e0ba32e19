-- Where the performed accesses are those of the draws, a next access is racy by the one as by the other.
use Rattle.std.proofs.Common.{◌≡◌, ℕ, List, refl, sym, ◌∙◌, ap, subst, inl, inr, None, true}
use Rattle.std.specs.Prelude.{◌⊎◌, ◌↔◌}
use Rattle.gl_model.specs.declared.event.Stamp.{Stamp}
use Rattle.gl_model.specs.Entries.{Entry, Plain, Commit}
use Rattle.gl_model.specs.Locksets.{Access}
use Rattle.gl_model.specs.Next.{HappensBeforeNext}
use Rattle.gl_model.specs.Records.{IsPerformed, IsPlain, Writes}
use Rattle.gl_reference.specs.Races.{IsRacyNext as IsRacyBy}
use Rattle.gl_reference.specs.declared.races.Performed.{Performed}
use Rattle.gl_reference.specs.declared.races.Next.{Next}
use Rattle.gl_draws.specs.Draws.{Entered, Draw, Among, variables_in}
use Rattle.gl_draws.specs.NextRaces.{IsRacyNext}
use Rattle.gl_reference.specs.Performed.{IsDrawnFor, ArePerformed}

-- a performed access that is no commit is a plain one
plain_of : (e : Entry) → IsPerformed e → variables_in (Entered e) ≡ None → IsPlain e
plain_of (Plain var nth cached write value raised) p none = tt
plain_of (Commit at tx) p none = absurd (cc)
plain_of _ p none = absurd p

-- a plain access has no variables of a commit
none_of : (e : Entry) → IsPlain e → variables_in (Entered e) ≡ None
none_of (Plain var nth cached write value raised) p = refl
none_of _ p = absurd p

-- a performed access has the variables of the draw that it is for
variables_are : (x : ℕ) (d : Draw) (p : Performed) (k : IsDrawnFor x d p) → p.access.variables ≡ variables_in (Entered k.entry)
variables_are x d p k = ap (λ (a : Access). a.variables) k.access ∙ ap variables_in k.made

-- a performed access is of the thread of the draw that it is for
thread_is : (x : ℕ) (d : Draw) (p : Performed) → IsDrawnFor x d p → p.access.thread ≡ d.thread
thread_is x d p k = ap (λ (a : Access). a.thread) k.access

module _ (h : List Stamp) (draws : ℕ → List Draw) (ps : List Performed) (are : ArePerformed draws ps) (n : Next) (f : Entry)
    (plain : (n.variables ≡ None) ↔ IsPlain f) (write : (n.write ≡ true) ↔ Writes f n.var) where
  -- if the next access is racy by the performed accesses, it is racy by the draws of its variable
  pub racy_draw : IsRacyBy h ps n → IsRacyNext h n.var (draws n.var) n.thread n.variables f
  racy_draw (i, (p, here, ((((same, apart), writes), kind), unordered))) =
      let k = are.drawn i p here in
      let d = k.0 in
      let is = k.2 in
      record {
        earlier = d;
        entry = is.entry;
        among = subst (λ y. Among (draws y) d) same k.1;
        made = is.made;
        performed = is.performed;
        apart = λ e. apart (thread_is p.var d p is ∙ e);
        conflict = (
          elim writes [ inl a ↦ inl (subst (Writes is.entry) same (is.write.0 a)) | inr b ↦ inr (write.0 b) ],
          elim kind [ inl a ↦ inl (plain_of is.entry is.performed (sym (variables_are p.var d p is) ∙ a)) | inr b ↦ inr (plain.0 b) ],
        );
        unordered = λ o. unordered (subst (λ a. HappensBeforeNext h a n.thread n.variables) (sym is.access) o);
      }

  -- if the next access is racy by the draws of its variable, it is racy by the performed accesses
  pub racy_kept : IsRacyNext h n.var (draws n.var) n.thread n.variables f → IsRacyBy h ps n
  racy_kept r =
      let k = are.kept n.var r.earlier r.entry r.among r.made r.performed in
      let p = k.1 in
      let is = k.3 in
      let one : is.entry ≡ r.entry = (let a = is.made in let b = r.made in cc) in
      let writes : (p.write ≡ true) ⊎ (n.write ≡ true) =
      elim r.conflict.0 [ inl a ↦ inl (is.write.1 (subst (λ e. Writes e n.var) (sym one) a)) | inr b ↦ inr (write.1 b) ] in
      let kind : (p.access.variables ≡ None) ⊎ (n.variables ≡ None) =
      elim r.conflict.1 [
        | inl a ↦ inl (variables_are n.var r.earlier p is ∙ none_of is.entry (subst IsPlain (sym one) a))
        | inr b ↦ inr (plain.1 b)
      ] in (
        k.0,
        (
          p,
          k.2,
          (
            (((is.var, λ e. r.apart (sym (thread_is n.var r.earlier p is) ∙ e)), writes), kind),
            λ o. r.unordered
                (subst (λ a. HappensBeforeNext h a n.thread n.variables) is.access o),
          ),
        ),
      )
