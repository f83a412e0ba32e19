-- The entry that was added to a record is racy in it exactly where it is so as the next access before it.
use Rattle.std.proofs.Common.{◌≡◌, ◌≢◌, ℕ, ◌<◌, List, [], ◌∷◌, length, refl, ap, subst, sym, ◌∙◌, inl, inr, arith, Some, None}
use Rattle.std.specs.Prelude.{◌↔◌, Option}
use Rattle.std.proofs.lemmas.Option.{slice_get_within}
use Rattle.gl_model.specs.declared.event.Stamp.{Stamp}
use Rattle.gl_model.specs.declared.event.Element.TheVariants.{Thread}
use Rattle.gl_model.specs.Entries.{Entry}
use Rattle.gl_model.specs.HappensBefore.{HappensBefore, IsRacy}
use Rattle.gl_model.specs.Locksets.{IsAccessOf, LocksetAt, AfterAcquiring}
use Rattle.gl_model.specs.Machine.{Setting, State, Allows, Running}
use Rattle.gl_model.specs.Next.{HappensBeforeNext}
use Rattle.gl_model.specs.Records.{Lists, Place, EntryAt, IsBlockOf, NumberOn, IsPerformed, Conflict}
use Rattle.gl_laws.specs.Closure.{StandsFor}
use Rattle.gl_laws.proofs.Bridge.{same_entry}
use Rattle.gl_laws.proofs.ClosureLaws.{commit_law}
use Rattle.gl_laws.proofs.NextLaw.{plain_next, refused_next}
use Rattle.gl_laws.proofs.NextMembership.{membership}
use Rattle.gl_draws.specs.Added.{IsAdded, IsAddedCommit, AddedIsRacy}
use Rattle.gl_draws.specs.Draws.{Entered, Draw, access_of, Among, DrawAt}
use Rattle.gl_draws.specs.NextRaces.{IsRacyNext}
use Rattle.gl_draws.specs.Verdicts.{IsPlaced}
use Rattle.gl_draws.proofs.CommitLaw.{taken_map}
use Rattle.gl_draws.proofs.DrawEntries.{own_for, performed_draws, block_of_entry, place_of_draw, stands}
use Rattle.gl_draws.proofs.DrawPlaces.{block_of_place, draw_among}
use Rattle.gl_draws.proofs.RaceLaw.{commits_there}
use Rattle.gl_draws.proofs.RowGrowth.{same_set}

-- the access of a placed draw is one of the list
pub access_is : (h : List Stamp) (d : Draw) → IsPlaced h d → IsAccessOf h (access_of d)
access_is h d p = record {
  event = p.event;
  there = p.here;
  own = p.own;
  goes_on = p.goes_on;
  commit = λ xs v. let c =
      (commits_there h d p).at xs v in let e : c.0 ≡ p.event = (let a = c.1 in let b = p.here in cc) in ap (λ (z : Stamp). z.event) (sym e)
      ∙ c.3;
}

-- the entry e at the place d was added, and what happens before it there happens before it as the next access
module _ (h h' : List Stamp) (R : Lists) (ds ds' : ℕ → List Draw) (d : Place) (e : Entry) (v : Option (List ℕ)) (y m : ℕ)
    (i : IsAdded h h' R ds ds' d e y m)
    (alike : (o : Draw) (c : Place) → IsPlaced h o → StandsFor R c (access_of o) → c ≢ d
    → HappensBeforeNext h (access_of o) d.thread v ↔ HappensBefore R c d) where
  -- the access of a draw stands for its entry
  stood : (k : ℕ) (o : Draw) (g : Entry) → DrawAt (ds' y) k o → o.what ≡ Entered g → IsPerformed g → (c : Place) → c.thread ≡ o.thread
      → EntryAt R c g → IsBlockOf R c o.block → StandsFor R c (access_of o)
  stood k o g at made performed c own there block =
      stands R h' i.listed i.rise o g made performed (i.placed o (draw_among (ds' y) k o at)) c own there block

  -- where the entry that was added is racy on y in the record, it is so as the next access before it
  from_record : IsRacy R d y → IsRacyNext h y (ds y) d.thread v e
  from_record racy = record {
    earlier = o.0;
    entry = racy.before.first;
    among = among;
    made = made;
    performed = racy.performed;
    apart = λ same. racy.another (sym o.2 ∙ same);
    conflict = subst (λ f. Conflict racy.before.first f y) same racy.conflict;
    unordered = λ hb. racy.unordered ((alike o.0 racy.other (i.before o.0 among)
        (stood racy.before.number o.0 racy.before.first o.1 made racy.performed racy.other (sym o.2) racy.before.there block)
        (λ eq. racy.another (ap (λ (c : Place). c.thread) eq))).0 hb);
  }
    where
      same : racy.before.second ≡ e
      same = same_entry R d racy.before.second e racy.before.here i.here

      later : racy.before.later ≡ m
      later = i.one racy.before.later (subst (λ f. NumberOn f y racy.before.later) same racy.before.also_numbered)

      less : racy.before.number < m
      less = elim racy.before.order [ inl lt ↦ (let l = later in omega arith) | inr level ↦ absurd (racy.another level.1.0) ]

      o : (b : Draw) × DrawAt (ds' y) racy.before.number b × (b.thread ≡ racy.other.thread)
          × Rattle.gl_draws.specs.Ties.IsKept (R racy.other.thread) [] y racy.before.number b
          × Rattle.gl_draws.specs.Ties.IsFor b.what racy.before.first y racy.before.number
      o = (i.tied.at racy.other.thread).made y racy.before.number racy.other.index racy.before.first racy.before.there
          (performed_draws racy.before.first y racy.before.number racy.performed (i.alone racy.other racy.before.first racy.before.there)
          racy.before.numbered)

      made : o.0.what ≡ Entered racy.before.first
      made = own_for o.0.what racy.before.first y racy.before.number racy.before.numbered o.4

      among : Among (ds y) o.0
      among = i.old racy.before.number o.0 racy.before.first o.1 made less

      block : IsBlockOf R racy.other o.0.block
      block = block_of_place R racy.other.thread racy.other.index o.0.block
          (block_of_entry R ds' i.tied racy.other racy.before.first y racy.before.number o.0 racy.before.there
          (performed_draws racy.before.first y racy.before.number racy.performed (i.alone racy.other racy.before.first racy.before.there)
          racy.before.numbered) o.1 o.2 made)

  -- where it is racy on y as the next access, it is so in the record
  to_record : IsRacyNext h y (ds y) d.thread v e → IsRacy R d y
  to_record racy =
      let k = i.fresh racy.earlier racy.among in
      let p = place_of_draw R ds' i.tied y k.0 racy.earlier racy.entry k.2 racy.made in
      let c : Place = record { thread = racy.earlier.thread; index = p.index } in
      let block = block_of_place R racy.earlier.thread p.index racy.earlier.block p.block in
      record {
        other = c;
        another = racy.apart;
        before = record {
          first = racy.entry;
          second = e;
          there = p.there;
          here = i.here;
          number = k.0;
          later = m;
          numbered = p.number;
          also_numbered = i.number;
          order = inl k.1;
        };
        performed = racy.performed;
        conflict = racy.conflict;
        unordered = λ hb. racy.unordered ((alike racy.earlier c (i.before racy.earlier racy.among)
            (stood k.0 racy.earlier racy.entry k.2 racy.made racy.performed c refl p.there block)
            (λ eq. racy.apart (ap (λ (z : Place). z.thread) eq))).1 hb);
      }

  -- so the entry is racy on y in the record exactly where it is so as the next access before it
  pub racy_alike : IsRacy R d y ↔ IsRacyNext h y (ds y) d.thread v e
  racy_alike = (from_record, to_record)

-- what comes before a commit that was added comes before it as the next event
module _ (setting : Setting) (h h' : List Stamp) (now : State) (allowed : Allows setting h now) (R : Lists) (d : Place)
    (running : now.threads d.thread ≡ Running) (ds ds' : ℕ → List Draw) (e : Entry) (y m : ℕ) (i : IsAdded h h' R ds ds' d e y m)
    (xs : List ℕ) (a : IsAddedCommit setting h h' R d xs) where
  abbrev x : Stamp
  x = a.event

  -- an access that was placed before happens before the next commit of that thread on these variables exactly where its place happens
  -- before the added commit
  commit_alike : (o : Draw) (c : Place) → IsPlaced h o → StandsFor R c (access_of o)
      → HappensBeforeNext h (access_of o) d.thread (Some xs) ↔ HappensBefore R c d
  commit_alike o c placed stands = (λ hb. record'.0 (grown (own_commit.1 (list.1 hb))), λ hb. list.0 (own_commit.0 (back (record'.1 hb))))
    where
      near : o.block < length h
      near = slice_get_within h o.block placed.event placed.here

      next : Stamp
      next = record { thread = d.thread; event = Rattle.gl_model.specs.declared.event.Event.TheVariants.Commit xs }

      same : a.event ≡ next
      same = λ j. record { thread = a.own j; event = a.is j }

      list : AfterAcquiring (LocksetAt h (access_of o) (length h)) next (Thread d.thread) ↔ HappensBeforeNext h (access_of o) d.thread
          (Some xs)
      list = (membership setting h now allowed (access_of o) (access_is h o placed) d.thread running).1 xs

      own_commit : AfterAcquiring (LocksetAt h (access_of o) (length h)) a.event (Thread a.event.thread) ↔ AfterAcquiring
          (LocksetAt h (access_of o) (length h)) next (Thread d.thread)
      own_commit = subst (λ (s : Stamp). AfterAcquiring (LocksetAt h (access_of o) (length h)) a.event (Thread a.event.thread) ↔
          AfterAcquiring (LocksetAt h (access_of o) (length h)) s (Thread s.thread)) same (λ k. k, λ k. k)

      record' : AfterAcquiring (LocksetAt h' (access_of o) (length h)) a.event (Thread a.event.thread) ↔ HappensBefore R c d
      record' = commit_law setting R h' a.now i.listed i.rise a.allowed c (access_of o) stands d (length h) a.event xs a.here a.is near

      set_is : (z : _) → LocksetAt h' (access_of o) (length h) z ≡ LocksetAt h (access_of o) (length h) z
      set_is z = subst (λ l. LocksetAt l (access_of o) (length h) z ≡ LocksetAt h (access_of o) (length h) z) (sym a.whole)
          (same_set setting h (a.event ∷ []) (access_of o) (length h) z near (omega arith))

      grown : AfterAcquiring (LocksetAt h (access_of o) (length h)) a.event (Thread a.event.thread)
          → AfterAcquiring (LocksetAt h' (access_of o) (length h)) a.event (Thread a.event.thread)
      grown = taken_map (LocksetAt h (access_of o) (length h)) (LocksetAt h' (access_of o) (length h)) a.event
          (λ z k. subst (λ (X : Type 0). X) (sym (set_is z)) k) (Thread a.event.thread)

      back : AfterAcquiring (LocksetAt h' (access_of o) (length h)) a.event (Thread a.event.thread)
          → AfterAcquiring (LocksetAt h (access_of o) (length h)) a.event (Thread a.event.thread)
      back = taken_map (LocksetAt h' (access_of o) (length h)) (LocksetAt h (access_of o) (length h)) a.event
          (λ z k. subst (λ (X : Type 0). X) (set_is z) k) (Thread a.event.thread)

-- an entry that was added to a record is racy in it exactly where it was so as the next access before
pub added_law : AddedIsRacy
added_law setting h h' now allowed R ds ds' d running e None y m i a =
    racy_alike h h' R ds ds' d e None y m i (λ o c placed stands other. plain_next R h
    (subst (λ l. Rattle.gl_model.specs.Records.IsEventList l R) a.0 i.listed) i.rise c (access_of o) stands d a.1 other)
added_law setting h h' now allowed R ds ds' d running e (Some xs) y m i (inl a) =
    racy_alike h h' R ds ds' d e (Some xs) y m i
    (λ o c placed stands other. refused_next R h (subst (λ l. Rattle.gl_model.specs.Records.IsEventList l R) a.0 i.listed) i.rise c
    (access_of o) stands d xs a.1 other)
added_law setting h h' now allowed R ds ds' d running e (Some xs) y m i (inr a) =
    racy_alike h h' R ds ds' d e (Some xs) y m i
    (λ o c placed stands other. commit_alike setting h h' now allowed R d running ds ds' e y m i xs a o c placed stands)
