-- More draws, and the accesses that were performed with them.
use Rattle.std.proofs.Common.{◌≡◌, ℕ, ◌+◌, List, [], ◌∷◌, ◌++◌, length, map, refl, sym, ◌∙◌, ap, subst, inl, inr, Some, None, zero, suc, true, false, Bool}
use Rattle.std.specs.Prelude.{◌⊎◌, Contains, slice_get, pos}
use native.Mathlib.Decide.{ℕ_discrete}
use Rattle.std.proofs.lemmas.List.{append-nil}
use Rattle.gl_model.specs.Entries.{Entry}
use Rattle.gl_model.specs.Machine.{with_at}
use Rattle.gl_model.specs.Records.{IsPerformed}
use Rattle.gl_model.specs.Rising.{with_all}
use Rattle.gl_model.specs.Trace.{is_in}
use Rattle.gl_reference.specs.declared.races.Performed.{Performed}
use Rattle.gl_draws.specs.Draws.{Entered, Looked, Draw, draw, Among}
use Rattle.gl_lines.specs.Traced.{Traced, block_of, plain_entry, commit_entry, refused_entry, with_look, with_own, touches, with_attempt}
use Rattle.gl_draws.proofs.EntryKinds.{is_in-contains, contains-is_in}
use Rattle.gl_lines.proofs.LineSets.{is_in-touches, its_variables, its_writes}
use Rattle.gl_lines.proofs.TraceMachine.{with_at-here, with_at-else}
use Rattle.gl_reference.specs.Lines.{plain_done, part_done}
use Rattle.gl_reference.specs.Performed.{IsDrawnFor, ArePerformed}
use Rattle.gl_reference.proofs.Places.{get_kept, get_more, get_cases, map_cases, map_there, place_of, contains_at}

module _ (draws draws' : ℕ → List Draw) (ps ps' more : List Performed) (is : ps' ≡ ps ++ more) (are : ArePerformed draws ps)
    (stay : (y : ℕ) (d : Draw) → Among (draws y) d → Among (draws' y) d)
    (new : (y : ℕ) (d : Draw) (e : Entry) → Among (draws' y) d → d.what ≡ Entered e → IsPerformed e → Among (draws y) d
    ⊎ ((j : ℕ) × (p : Performed) × (slice_get more j ≡ Some p) × IsDrawnFor y d p))
    (made : (j : ℕ) (p : Performed) → slice_get more j ≡ Some p → (d : Draw) × Among (draws' p.var) d × IsDrawnFor p.var d p) where
  -- each performed entry that drew a number, before or now, has its access among those that were kept and those that came
  both_kept : (y : ℕ) (d : Draw) (e : Entry) → Among (draws' y) d → d.what ≡ Entered e → IsPerformed e → (i : ℕ) × (p : Performed)
      × (slice_get (ps ++ more) i ≡ Some p) × IsDrawnFor y d p
  both_kept y d e among what performed = elim (new y d e among what performed) [
    | inl old ↦ (let k = are.kept y d e old what performed in (k.0, k.1, get_kept ps more k.0 k.1 k.2, k.3))
    | inr n ↦ (length ps + n.0, n.1, get_more ps more n.0 n.1 n.2, n.3)
  ]

  -- each access that was kept, and each that came, has its draw among those of its variable now
  both_drawn : (i : ℕ) (p : Performed) → slice_get (ps ++ more) i ≡ Some p → (d : Draw) × Among (draws' p.var) d × IsDrawnFor p.var d p
  both_drawn i p at = elim (get_cases ps more i p at) [
    | inl old ↦ (let k = are.drawn i p old in (k.0, stay p.var k.0 k.1, k.2))
    | inr n ↦ made n.0 p n.1
  ]

  -- the accesses that were kept, with those that came, are the performed accesses of all draws now
  pub performed_more : ArePerformed draws' ps'
  performed_more = subst (ArePerformed draws') (sym is) (record { kept = both_kept; drawn = both_drawn })

-- where no draw that came is for a performed entry, the accesses that were kept are still the performed ones of the draws
pub performed_same : (draws draws' : ℕ → List Draw) (ps ps' : List Performed) → ps' ≡ ps → ArePerformed draws ps
    → ((y : ℕ) (d : Draw) → Among (draws y) d → Among (draws' y) d) →
    ((y : ℕ) (d : Draw) (e : Entry) → Among (draws' y) d → d.what ≡ Entered e → IsPerformed e → Among (draws y) d) → ArePerformed draws' ps'
performed_same draws draws' ps ps' is are stay new =
    performed_more draws draws' ps ps' [] (is ∙ sym (append-nil ps)) are stay
    (λ y d e among what performed. inl (new y d e among what performed)) (λ j p at. absurd (cc))

-- a plain access of x draws a number
module _ (s : Traced) (t x : ℕ) (write : Bool) where
  abbrev pub drawn_plain : Bool → Draw
  drawn_plain raised = draw t (block_of t s) (Entered (plain_entry x write raised s))

  abbrev pub plain_draws : Bool → ℕ → List Draw
  plain_draws raised = with_at s.draws x (drawn_plain raised ∷ s.draws x)

  -- what was drawn before on any variable is still among its draws after the plain access
  stays : (raised : Bool) (y : ℕ) (d : Draw) → Among (s.draws y) d → Among (plain_draws raised y) d
  stays raised y d among = elim (ℕ_discrete y x) [
    | yes same ↦ subst (λ z. Among (plain_draws raised z) d) (sym same)
        (subst (λ ds. Among ds d) (sym (with_at-here s.draws x (drawn_plain raised ∷ s.draws x)))
        (inr (subst (λ z. Among (s.draws z) d) same among)))
    | no other ↦ subst (λ ds. Among ds d) (sym (with_at-else s.draws x y (drawn_plain raised ∷ s.draws x) other)) among
  ]

  -- each draw after the plain access was there before, or is the access's own, on x
  news : (raised : Bool) (y : ℕ) (d : Draw) → Among (plain_draws raised y) d → Among (s.draws y) d ⊎ ((y ≡ x) × (d ≡ drawn_plain raised))
  news raised y d among = elim (ℕ_discrete y x) [
    | yes same ↦
        (let here : Among (drawn_plain raised ∷ s.draws x) d =
        subst (λ ds. Among ds d) (with_at-here s.draws x (drawn_plain raised ∷ s.draws x))
        (subst (λ z. Among (plain_draws raised z) d) same among) in
        elim here [ inl is ↦ inr (same, is) | inr old ↦ inl (subst (λ z. Among (s.draws z) d) (sym same) old) ])
    | no other ↦ inl (subst (λ ds. Among ds d) (with_at-else s.draws x y (drawn_plain raised ∷ s.draws x) other) among)
  ]

  -- the entry of a draw that a raised access made was not performed
  not_performed : (d : Draw) (e : Entry) → d ≡ drawn_plain true → d.what ≡ Entered e → IsPerformed e → ⊥
  not_performed d e is what performed =
      let same : Entered (plain_entry x write true s) ≡ Entered e = sym (ap (λ (z : Draw). z.what) is) ∙ what in
      let entry : plain_entry x write true s ≡ e = cc in
      let raised : true ≡ false = subst IsPerformed (sym entry) performed in
      cc

  -- after a plain access that was raised, the same accesses as before are the performed ones of the draws
  pub raised_kept : (ps ps' : List Performed) → ps' ≡ ps → ArePerformed s.draws ps → ArePerformed (plain_draws true) ps'
  raised_kept ps ps' is are = performed_same s.draws (plain_draws true) ps ps' is are (stays true)
      (λ y d e among what performed. elim (news true y d among) [ inl old ↦ old | inr n ↦ absurd (not_performed d e n.1 what performed) ])

  -- the draw of a plain access that was not raised is that of the access which is kept for it, in the block of its thread
  its_draw : (block : ℕ) → block ≡ block_of t s → IsDrawnFor x (drawn_plain false) (plain_done block t x write)
  its_draw block is = record {
    entry = plain_entry x write false s;
    made = refl;
    performed = refl;
    var = refl;
    access = ap (λ b. record { thread = t; block = b; variables = None }) is;
    write = (λ e. (refl, e), λ w. w.1);
  }

  -- what stands in a list of one element is that element
  one_is : (p q : Performed) (j : ℕ) → slice_get (p ∷ []) j ≡ Some q → p ≡ q
  one_is p q zero e = cc
  one_is p q (suc j) e = absurd (cc)

  -- after a plain access that was not raised, the accesses from before,
  -- and this one in its thread's block, are the performed ones of the draws
  pub plain_kept : (ps ps' : List Performed) (block : ℕ) → block ≡ block_of t s → ps' ≡ ps ++ plain_done block t x write ∷ []
      → ArePerformed s.draws ps → ArePerformed (plain_draws false) ps'
  plain_kept ps ps' block at is are = performed_more s.draws (plain_draws false) ps ps' (plain_done block t x write ∷ []) is are
      (stays false)
      (λ y d e among what performed. elim (news false y d among) [
        | inl old ↦ inl old
        | inr n ↦ inr (
          0,
          plain_done block t x write,
          refl,
          subst (λ z. IsDrawnFor z d (plain_done block t x write)) (sym n.0)
              (subst (λ z. IsDrawnFor x z (plain_done block t x write)) (sym n.1) (its_draw block at)),
        )
      ])
      (λ j p here. subst (λ z. (d : Draw) × Among (plain_draws false z.var) d × IsDrawnFor z.var d z)
      (one_is (plain_done block t x write) p j here) (
        drawn_plain false,
        subst (λ ds. Among ds (drawn_plain false)) (sym (with_at-here s.draws x (drawn_plain false ∷ s.draws x)))
            (inl refl),
        its_draw block at,
      ))

-- an attempt draws a number for each look, and one for its entry
module _ (t q p : ℕ) (e : Entry) (ds : List Draw) where
  -- each draw from before is there after the attempt
  pub attempt_stays : (own look : Bool) (d : Draw) → Among ds d → Among (with_own own t p e (with_look look t q ds)) d
  attempt_stays true true d among = inr (inr among)
  attempt_stays true false d among = inr among
  attempt_stays false true d among = inr among
  attempt_stays false false d among = among

  -- each draw after the attempt was there before, or is for its look, or is for its entry where it draws a number of its own
  pub attempt_news : (own look : Bool) (d : Draw) → Among (with_own own t p e (with_look look t q ds)) d → Among ds d
      ⊎ ((d ≡ draw t q (Looked (pos 0))) ⊎ ((own ≡ true) × (d ≡ draw t p (Entered e))))
  attempt_news true true d (inl is) = inr (inr (refl, is))
  attempt_news true true d (inr (inl is)) = inr (inl is)
  attempt_news true true d (inr (inr old)) = inl old
  attempt_news true false d (inl is) = inr (inr (refl, is))
  attempt_news true false d (inr old) = inl old
  attempt_news false true d (inl is) = inr (inl is)
  attempt_news false true d (inr old) = inl old
  attempt_news false false d old = inl old

-- a draw for a look has no entry
looked_not : (t q : ℕ) (d : Draw) (e : Entry) → d ≡ draw t q (Looked (pos 0)) → d.what ≡ Entered e → ⊥
looked_not t q d e is what = let same : Looked (pos 0) ≡ Entered e = sym (ap (λ (z : Draw). z.what) is) ∙ what in cc

-- a draw that was made for an entry is for no other
entry_is : (t q : ℕ) (d : Draw) (e f : Entry) → d ≡ draw t q (Entered f) → d.what ≡ Entered e → f ≡ e
entry_is t q d e f is what = let same : Entered f ≡ Entered e = sym (ap (λ (z : Draw). z.what) is) ∙ what in cc

module _ (s : Traced) (t : ℕ) (reads writes : List ℕ) where
  abbrev pub refused_draws : ℕ → ℕ → List Draw
  refused_draws var = with_attempt t (block_of t s) (block_of t s) (refused_entry reads writes var s) reads writes s.draws

  -- after a commit that was refused for a race, the same accesses as before are the performed ones of the draws
  pub refused_kept : (var : ℕ) (ps ps' : List Performed) → ps' ≡ ps → ArePerformed s.draws ps → ArePerformed (refused_draws var) ps'
  refused_kept var ps ps' is are = performed_same s.draws (refused_draws var) ps ps' is are
      (λ y d among. attempt_stays t (block_of t s) (block_of t s) (refused_entry reads writes var s) (s.draws y) (touches reads writes y)
      (is_in y reads) d among)
      (λ y d e among what performed. elim (attempt_news t (block_of t s) (block_of t s) (refused_entry reads writes var s) (s.draws y)
      (touches reads writes y) (is_in y reads) d among) [
        | inl old ↦ old
        | inr (inl look) ↦ absurd (looked_not t (block_of t s) d e look what)
        | inr (inr own) ↦ absurd (subst IsPerformed (sym (entry_is t (block_of t s) d e (refused_entry reads writes var s) own.1 what))
            performed)
      ])

  abbrev pub commit_draws : ℕ → List Draw
  commit_draws = with_attempt t (block_of t s) s.tracing.next (commit_entry reads writes s) reads writes s.draws

  abbrev drawn_commit : Draw
  drawn_commit = draw t s.tracing.next (Entered (commit_entry reads writes s))

  abbrev part : ℕ → ℕ → Performed
  part block = part_done block t (with_all writes reads) writes

  -- for each variable y, the commit's draw is that of the commit's part on y, in the block that the commit begins
  part_draw : (block : ℕ) → block ≡ s.tracing.next → (y : ℕ) → IsDrawnFor y drawn_commit (part block y)
  part_draw block at y = record {
    entry = commit_entry reads writes s;
    made = refl;
    performed = tt;
    var = refl;
    access = ap (λ b. record { thread = t; block = b; variables = Some (with_all writes reads) }) at
        ∙ ap (λ vs. record { thread = t; block = s.tracing.next; variables = Some vs })
        (sym (its_variables reads writes s.tracing.numbers));
    write = (
      λ i. subst (λ ws. Contains ws y) (sym (its_writes reads writes s.tracing.numbers)) (is_in-contains y writes i),
      λ c.
          contains-is_in y writes (subst (λ ws. Contains ws y) (its_writes reads writes s.tracing.numbers) c),
    );
  }

  -- where the commit draws a number of its own on y, its draw is among those of y afterwards
  own_among : (y : ℕ) (own look : Bool) → own ≡ true
      → Among (with_own own t s.tracing.next (commit_entry reads writes s) (with_look look t (block_of t s) (s.draws y))) drawn_commit
  own_among y true look e = inl refl
  own_among y false look e = absurd (cc)

  -- each variable of the commit has its part
  part_kept : (block : ℕ) → block ≡ s.tracing.next → (y : ℕ) (d : Draw) → touches reads writes y ≡ true → d ≡ drawn_commit → (j : ℕ)
      × (p : Performed) × (slice_get (map (part block) (with_all writes reads)) j ≡ Some p) × IsDrawnFor y d p
  part_kept block at y d touched is =
      let place = place_of (with_all writes reads) y (is_in-contains y (with_all writes reads) (is_in-touches reads writes y ∙ touched))
      in (
        place.0,
        part block y,
        map_there (part block) (with_all writes reads) place.0 y place.1,
        subst (λ z. IsDrawnFor y z (part block y))
            (sym is) (part_draw block at y),
      )

  -- each part that is kept of the commit has its draw among those of its variable after the commit
  part_drawn : (block : ℕ) → block ≡ s.tracing.next → (j : ℕ) (p : Performed) → slice_get (map (part block) (with_all writes reads)) j
      ≡ Some p → (d : Draw) × Among (commit_draws p.var) d × IsDrawnFor p.var d p
  part_drawn block at j p here =
      let m = map_cases (part block) (with_all writes reads) j p here in
      let touched : touches reads writes m.0 ≡ true = sym (is_in-touches reads writes m.0)
      ∙ contains-is_in m.0 (with_all writes reads) (contains_at (with_all writes reads) j m.0 m.1) in
      subst (λ z. (d : Draw) × Among (commit_draws z.var) d × IsDrawnFor z.var d z) m.2
      (drawn_commit, own_among m.0 (touches reads writes m.0) (is_in m.0 reads) touched, part_draw block at m.0)

  -- after a commit that was performed, the accesses from before, and its part on each of its variables, are the performed ones of the draws
  pub commit_kept : (ps ps' : List Performed) (block : ℕ) → block ≡ s.tracing.next → ps' ≡ ps
      ++ map (part_done block t (with_all writes reads) writes) (with_all writes reads) → ArePerformed s.draws ps
      → ArePerformed commit_draws ps'
  commit_kept ps ps' block at is are = performed_more s.draws commit_draws ps ps' (map (part block) (with_all writes reads)) is are
      (λ y d among. attempt_stays t (block_of t s) s.tracing.next (commit_entry reads writes s) (s.draws y) (touches reads writes y)
      (is_in y reads) d among)
      (λ y d e among what performed. elim (attempt_news t (block_of t s) s.tracing.next (commit_entry reads writes s) (s.draws y)
      (touches reads writes y) (is_in y reads) d among) [
        | inl old ↦ inl old
        | inr (inl look) ↦ absurd (looked_not t (block_of t s) d e look what)
        | inr (inr own) ↦ inr (part_kept block at y d own.0 own.1)
      ])
      (part_drawn block at)
