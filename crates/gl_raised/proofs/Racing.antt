-- The accesses, in the order of their numbers, tell the races of a record.
use Rattle.std.proofs.Common.{◌≡◌, ◌≢◌, ℕ, zero, suc, ◌+◌, ◌-◌, ◌^◌, ◌<◌, ◌≤◌, ◌==◌, List, [], ◌∷◌, length, take, drop, Bool, true, false, refl, ap, sym, ◌∙◌, subst, inl, inr, arith, Some, None, eq-eqb}
use Rattle.std.specs.Prelude.{◌⊎◌, ◌↔◌, Contains, if◌then◌else◌, slice_get, unwrap_or}
use Rattle.std.proofs.lemmas.Bool.{cases_lt, eqb-true}
use Rattle.std.proofs.lemmas.List.{length-take-le, take-append-drop}
use Rattle.gl_draws.proofs.Reaching.{event_back}
use Rattle.gl_model.specs.Next.{Reaches}
use Rattle.std.proofs.Math.Nat.{eq-or-lt_of_le}
use Rattle.std.proofs.lemmas.Option.{slice_get_within, slice_get-get_or, get_or_from_slice_get}
use Rattle.gl_clocks.specs.Clocks.{clocks, tick}
use Rattle.gl_clocks.proofs.Own.{own_law}
use Rattle.gl_core.specs.Cells.{cell}
use Rattle.gl_draws.specs.Ties.{last_position, BlockAt}
use Rattle.gl_draws.specs.Verdicts.{Precedes}
use Rattle.gl_draws.proofs.DrawPlaces.{block_of_place}
use Rattle.gl_laws.specs.Closure.{StandsFor}
use Rattle.gl_laws.proofs.Bridge.{same_entry, one_position}
use Rattle.gl_model.specs.declared.event.Act.TheVariants.{End}
use Rattle.gl_model.specs.declared.event.Element.TheVariants.{Thread}
use Rattle.gl_model.specs.declared.event.Event.TheVariants.{Act as Does, Commit as Commits}
use Rattle.gl_model.specs.declared.event.Stamp.{Stamp}
use Rattle.gl_model.specs.declared.tx.Tx.{Tx}
use Rattle.gl_model.specs.declared.tx.Why.TheVariants.{Changed, Raised}
use Rattle.gl_model.specs.Edges.{EventAt}
use Rattle.gl_model.specs.Entries.{Entry, Sync, Commit, Plain, Abort, Trim, Over}
use Rattle.gl_model.specs.Form.{Form, GivesRight, Numbered, NumberDraws}
use Rattle.gl_model.specs.HappensBefore.{HappensBefore, IsCommit, IsRefusedCommit, IsRacy}
use Rattle.gl_model.specs.Locksets.{Access as AnAccess}
use Rattle.gl_model.specs.Machine.{Setting, State, Allows}
use Rattle.gl_model.specs.Records.{Lists, Place, EntryAt, IsEventAt, IsEventList, IsBlockOf, IsPlain, IsPerformed, NumberOn, Writes, PositionsRise, variables_of}
use Rattle.gl_places.specs.Places.{seen}
use Rattle.gl_raised.specs.Accesses.{IsAccess, accesses_of}
use Rattle.gl_raised.specs.Earlier.{handed_on, IsLearned, ClaimsKnow}
use Rattle.gl_raised.specs.Gathers.{IsClaimOf}
use Rattle.gl_raised.specs.Judged.{IsRacyClaim}
use Rattle.gl_raised.specs.Rows.{AreBlockClocks}
use Rattle.gl_raised.specs.declared.access.Access.{Access}
use Rattle.gl_raised.specs.declared.access.Claim.{Claim}
use Rattle.gl_raised.proofs.Blocks.{has_block, goes_on}
use Rattle.gl_raised.proofs.Orders.{block_told, plain_told, commit_told, refused_told, ByCommit, other_reaches, own_reaches}
use Rattle.gl_raised.proofs.Parts.{IsPart, part_means, part_there}

-- the number of an access was drawn by an entry of its thread: by itself, or by the one that it repeats
drawn : (R : Lists) → Form R → (c : Place) (e : Entry) → EntryAt R c e → (x k : ℕ) → NumberOn e x k → (i : ℕ)
    × ((f : Entry) × EntryAt R (record { thread = c.thread; index = i }) f × NumberDraws f x k)
drawn R form c (Plain var nth false write value raised) here x k n =
    (c.index, (Plain var nth false write value raised, here, (refl, n.0, n.1)))
drawn R form c (Plain var nth true write value false) here x k n =
    let r = (form.formed c.thread).cached c.index var nth write value here in
    (r.index, (r.entry, r.there, given r.entry r.by_write r.gives))
  where
    given : (f : Entry) (w : Bool) → GivesRight f var nth w → NumberDraws f x k
    given (Plain v l ca wr va ra) w g = (g.0, g.2 ∙ n.0, g.3 ∙ n.1)
    given _ w g = absurd g
drawn R form c (Plain var nth true write value true) here x k n =
    absurd (let z : true ≡ false = ((form.formed c.thread).well_formed c.index (Plain var nth true write value true) here).0 in cc)
drawn R form c (Commit at tx) here x k n = (c.index, (Commit at tx, here, n))
drawn R form c (Abort tx (Raised var)) here x k n = (c.index, (Abort tx (Raised var), here, n))
drawn R form c (Abort tx (Changed var read found)) here x k n = absurd n
drawn R form c (Sync at act value) here x k n = absurd n
drawn R form c (Trim low) here x k n = absurd n
drawn R form c (Over ending) here x k n = absurd n

-- so accesses with one number on a variable are of one thread
pub one_thread :
    (R : Lists) → Form R → Numbered R → (c d : Place) (e f : Entry) → EntryAt R c e → EntryAt R d f → (x k : ℕ) → NumberOn e x k
    → NumberOn f x k → c.thread ≡ d.thread
one_thread R form numbered c d e f a b x k n m =
    let p = drawn R form c e a x k n in
    let q = drawn R form d f b x k m in
    let same = (numbered x).1.once (record { thread = c.thread; index = p.0 }) (record { thread = d.thread; index = q.0 }) p.1.0 q.1.0 k
    p.1.1 q.1.1 (inr p.1.2) (inr q.1.2) in
    ap (λ (z : Place). z.thread) same

-- a commit's block is its own position
commit_block : (es : List Entry) (i : ℕ) (at : ℕ) (tx : Tx) → slice_get es i ≡ Some (Commit at tx) → last_position (take (suc i) es)
    ≡ Some at
commit_block [] i at tx e = absurd (cc)
commit_block (x ∷ es) zero at tx e = let z : x ≡ Commit at tx = cc in rw z refl
commit_block (x ∷ es) (suc i) at tx e = rw (commit_block es i at tx e) refl

-- a commit has an event, that of a commit, which is its own block
pub commit_event : (R : Lists) (c : Place) (e : Entry) → EntryAt R c e → IsCommit e → (p : ℕ) × (s : Stamp) × IsEventAt R c p s
    × ((xs : List ℕ) × (s.event ≡ Commits xs)) × BlockAt (R c.thread) c.index p
commit_event R c (Commit at tx) here is = (
  at,
  record { thread = c.thread; event = Commits (variables_of tx) },
  record { entry = Commit at tx; there = here; position = refl; event = refl; own = refl },
  (variables_of tx, refl),
  commit_block (R c.thread) c.index at tx here,
)
commit_event R c _ here is = absurd is

-- an entry that has a number is an access
number_access : (e : Entry) (x k : ℕ) → NumberOn e x k → IsAccess e
number_access (Plain var nth cached write value raised) x k n = tt
number_access (Sync at act value) x k n = absurd n
number_access (Commit at tx) x k n = tt
number_access (Abort tx (Raised var)) x k n = tt
number_access (Abort tx (Changed var read found)) x k n = absurd n
number_access (Trim low) x k n = absurd n
number_access (Over ending) x k n = absurd n

-- a commit that was performed is not a refused one
pub no_two : (e : Entry) → IsCommit e → IsRefusedCommit e → ⊥
no_two (Commit at tx) i r = r
no_two _ i r = i

-- a plain entry is no commit
pub not_plain_commit : (e : Entry) → IsPlain e → IsCommit e → ⊥
not_plain_commit (Plain var nth cached write value raised) i r = r
not_plain_commit _ i r = i

-- a plain entry is no refused commit
not_plain_refused : (e : Entry) → IsPlain e → IsRefusedCommit e → ⊥
not_plain_refused (Plain var nth cached write value raised) i r = r
not_plain_refused _ i r = i

-- a commit, or a refused one, drew its numbers itself
pub draws_itself : (e : Entry) (x k : ℕ) → IsCommit e ⊎ IsRefusedCommit e → NumberOn e x k → NumberDraws e x k
draws_itself (Commit at tx) x k w n = n
draws_itself (Abort tx (Raised var)) x k w n = n
draws_itself (Abort tx (Changed var read found)) x k w n = absurd n
draws_itself (Plain var nth cached write value raised) x k w n = absurd (elim w [ inl z ↦ z | inr z ↦ z ])
draws_itself (Sync at act value) x k w n = absurd n
draws_itself (Trim low) x k w n = absurd n
draws_itself (Over ending) x k w n = absurd n

-- a commit is performed
commit_done : (e : Entry) → IsCommit e → IsPerformed e
commit_done (Commit at tx) i = tt
commit_done (Sync at act value) i = absurd i
commit_done (Plain var nth cached write value raised) i = absurd i
commit_done (Abort tx why) i = absurd i
commit_done (Trim low) i = absurd i
commit_done (Over ending) i = absurd i

-- a refused commit is not performed
refused_not_done : (e : Entry) → IsRefusedCommit e → IsPerformed e → ⊥
refused_not_done (Abort tx why) i p = p
refused_not_done (Commit at tx) i p = i
refused_not_done (Sync at act value) i p = i
refused_not_done (Plain var nth cached write value raised) i p = i
refused_not_done (Trim low) i p = i
refused_not_done (Over ending) i p = i

-- what the code has of a record
pub record Judging (setting : Setting) (R : Lists) (h : List Stamp) (now : State) (claims : List Claim) (us : List Access)
    (rows before known : List (List ℕ)) : Type 0 where
  pub form : Form R
  pub numbered : Numbered R
  pub is_list : IsEventList h R
  pub allowed : Allows setting h now
  pub short : length h < 2 ^ 64
  pub claim : (k : ℕ) (l : Claim) → slice_get claims k ≡ Some l → (e : Entry) × IsClaimOf R l e
  pub all : (c : Place) (e : Entry) → EntryAt R c e → IsAccess e → (k : ℕ)
      × ((l : Claim) × (slice_get claims k ≡ Some l) × (seen l.place ≡ c))
  pub one : (j k : ℕ) (l m : Claim) → slice_get claims j ≡ Some l → slice_get claims k ≡ Some m → seen l.place ≡ seen m.place → j ≡ k
  pub parts :
      (a : Access) →
      Contains us a ↔ ((k : ℕ) × ((l : Claim) × ((e : Entry) × (slice_get claims k ≡ Some l) × EntryAt R (seen l.place) e
      × Contains (accesses_of k l.place.thread l.block e) a)))
  pub ordered : (i j : ℕ) (v w : Access) → slice_get us i ≡ Some v → slice_get us j ≡ Some w → i ≤ j → v.nth ≤ w.nth
  pub clocks_are : AreBlockClocks h rows
  pub first : (k : ℕ) (l : Claim) → slice_get claims k ≡ Some l → (u : ℕ) → cell before k u ≡ cell rows l.block u
  pub learned : ClaimsKnow rows us (length us) before known

module _ (setting : Setting) (R : Lists) (h : List Stamp) (now : State) (claims : List Claim) (us : List Access)
    (rows before known : List (List ℕ)) (J : Judging setting R h now claims us rows before known) where
  -- along the list of each thread the positions of its events rise
  rise : PositionsRise R
  rise c d p q s r a b o = (J.form.formed c.thread).positions_rise c.index d.index p q a.entry b.entry a.there
      (subst (λ t. slice_get (R t) d.index ≡ Some b.entry) (sym o.0) b.there) o.1 a.position b.position

  -- an entry of the record with the claim that it has and one of its accesses
  pub record IsUse (a : Access) (c : Place) (e : Entry) : Type 0 where
    pub there : EntryAt R c e
    pub is_access : IsAccess e
    pub own : a.thread ≡ c.thread
    pub block : ℕ
    pub block_at : BlockAt (R c.thread) c.index block
    pub claimed : Claim
    pub at : slice_get claims a.claim ≡ Some claimed
    pub place : seen claimed.place ≡ c
    pub in_block : claimed.block ≡ block
    pub part : IsPart a.claim c.thread block e a

  -- each of the accesses is one of an entry of the record at some place
  use_of : (a : Access) → Contains us a → (c : Place) × ((e : Entry) × IsUse a c e)
  use_of a i = (
    seen l.place,
    (
      e,
      record {
        there = w.1.1.2;
        is_access = is;
        own = part.thread;
        block = b.0;
        block_at = b.1;
        claimed = l;
        at = subst (λ k. slice_get claims k ≡ Some l) (sym part.claim) w.1.1.1;
        place = refl;
        in_block = block;
        part = subst (λ q. IsPart a.claim l.place.thread q e a) block
            (subst (λ k. IsPart k l.place.thread l.block e a) (sym part.claim) part);
      },
    ),
  )
    where
      w : (k : ℕ) × ((l : Claim) × ((e : Entry) × (slice_get claims k ≡ Some l) × EntryAt R (seen l.place) e
          × Contains (accesses_of k l.place.thread l.block e) a))
      w = (J.parts a).0 i

      l : Claim
      l = w.1.0

      e : Entry
      e = w.1.1.0

      part : IsPart w.0 l.place.thread l.block e a
      part = part_means w.0 l.place.thread l.block e a w.1.1.3

      is : IsAccess e
      is = number_access e a.var a.nth part.number

      b : (q : ℕ) × BlockAt (R l.place.thread) l.place.index q
      b = has_block R J.form (seen l.place) e w.1.1.2 is

      block : l.block ≡ b.0
      block = (J.claim w.0 l w.1.1.1).1.block ∙ ap (λ o. unwrap_or o 0)
          (ap (λ n. last_position (take n (R l.place.thread))) (let z : l.place.index + 1 ≡ suc l.place.index = omega arith in z) ∙ b.1)

  -- an entry that has a number on a variable has an access of that variable with that number among the accesses
  use_there : (c : Place) (e : Entry) → EntryAt R c e → (x n : ℕ) → NumberOn e x n → (a : Access) × Contains us a × (a.var ≡ x)
      × (a.nth ≡ n) × IsUse a c e
  use_there c e here x n number =
      let is = number_access e x n number in
      let k = J.all c e here is in
      let l = k.1.0 in
      let here' : EntryAt R (seen l.place) e = subst (λ z. EntryAt R z e) (sym k.1.2) here in
      let a = part_there k.0 l.place.thread l.block e x n number in
      let i = (J.parts a.0).1 (k.0, (l, (e, k.1.1, here', a.1))) in
      let u = use_of a.0 i in
      let claim_of : (J.parts a.0).0 i ≡ (J.parts a.0).0 i = refl in
      (a.0, i, a.2, a.3, same_use a.0 k.0 l e c here k.1.1 k.1.2 (part_means k.0 l.place.thread l.block e a.0 a.1) u.0 u.1.0 u.1.1)
    where
      same_use : (a : Access) (k : ℕ) (l : Claim) (e : Entry) (c : Place) → EntryAt R c e → slice_get claims k ≡ Some l → seen l.place ≡ c
          → IsPart k l.place.thread l.block e a → (d : Place) (f : Entry) → IsUse a d f → IsUse a c e
      same_use a k l e c here at place part d f u =
          let at' : slice_get claims a.claim ≡ Some l = subst (λ k. slice_get claims k ≡ Some l) (sym part.claim) at in
          let same : u.claimed ≡ l = (let y = u.at in cc) in
          let d_is : d ≡ c = sym u.place ∙ ap (λ (m : Claim). seen m.place) same ∙ place in
          let there : EntryAt R c f = subst (λ z. EntryAt R z f) d_is u.there in
          let f_is : f ≡ e = (let y = here in cc) in
          subst (IsUse a c) f_is (subst (λ z. IsUse a z f) d_is u)

  -- an access among the accesses stands at some index of their list
  in_list : (a : Access) → Contains us a → (i : ℕ) × (slice_get us i ≡ Some a)
  in_list a (i, l, e) = (i, slice_get-get_or us i a l ∙ ap Some e)

  -- what stands at an index of the list is one of the accesses
  of_list : (i : ℕ) (a : Access) → slice_get us i ≡ Some a → Contains us a
  of_list i a e = (i, slice_get_within us i a e, get_or_from_slice_get us i a a e)

  -- two accesses of one claim are of one place and of one entry
  same_claim : (a b : Access) (c d : Place) (e f : Entry) → IsUse a c e → IsUse b d f → a.claim ≡ b.claim → (c ≡ d) × (f ≡ e)
  same_claim a b c d e f u v same =
      let at' : slice_get claims a.claim ≡ Some v.claimed = subst (λ k. slice_get claims k ≡ Some v.claimed) (sym same) v.at in
      let one : u.claimed ≡ v.claimed = (let y = u.at in cc) in
      let place : c ≡ d = sym u.place ∙ ap (λ (m : Claim). seen m.place) one ∙ v.place in
      let there : EntryAt R c f = subst (λ z. EntryAt R z f) (sym place) v.there in
      (place, let y = u.there in cc)

  -- the block of a use
  block_is : (a : Access) (c : Place) (e : Entry) → (u : IsUse a c e) → IsBlockOf R c u.block
  block_is a c e u = block_of_place R c.thread c.index u.block u.block_at

  -- the event of a use's block stands in the history at the block's position
  block_event : (a : Access) (c : Place) (e : Entry) → (u : IsUse a c e) → EventAt h u.block (block_is a c e u).event
  block_event a c e u = let b = block_is a c e u in J.is_list.listed (record { thread = c.thread; index = b.index }) u.block b.event b.made

  -- the event of a use's block is not the end of its thread
  block_goes_on : (a : Access) (c : Place) (e : Entry) → (u : IsUse a c e) → (block_is a c e u).event.event ≢ Does End
  block_goes_on a c e u = goes_on R J.form c e u.there u.is_access u.block (block_is a c e u)

  -- the access that a performed entry is
  pub record Stood (a : Access) (c : Place) (e : Entry) : Type 0 where
    pub access : AnAccess
    pub stands : StandsFor R c access
    pub same_tick : tick access ≡ a.tick
    pub plain : IsPlain e → access.variables ≡ None

  -- a use whose entry is plain stands for an access, with the use's tick
  stood_plain : (a : Access) (c : Place) (e : Entry) → IsUse a c e → IsPlain e → Stood a c e
  stood_plain a c e u plain = record {
    access = record { thread = c.thread; block = u.block; variables = None };
    stands = record { thread = refl; block = block_is a c e u; goes_on = block_goes_on a c e u; kind = inl (e, u.there, plain, refl) };
    same_tick = sym its_tick;
    plain = λ p. refl;
  }
    where
      its_tick : a.tick ≡ u.block + 1
      its_tick = elim u.part.kind [
        | inl p ↦ (let z = p.2 in let l = slice_get_within h u.block (block_is a c e u).event (block_event a c e u) in let s = J.short
            in omega arith)
        | inr (inl k) ↦ absurd (not_plain_commit e plain k.0)
        | inr (inr k) ↦ absurd (not_plain_refused e plain k.0)
      ]

  -- a use whose entry is a commit stands for an access, with the use's tick
  stood_commit : (a : Access) (c : Place) (e : Entry) → IsUse a c e → IsCommit e → Stood a c e
  stood_commit a c e u is =
      let v = commit_event R c e u.there is in
      let same : u.block ≡ v.0 = (let x = u.block_at in let y = v.4 in cc) in record {
        access = record { thread = c.thread; block = u.block; variables = Some v.3.0 };
        stands = record {
          thread = refl;
          block = block_is a c e u;
          goes_on = block_goes_on a c e u;
          kind = inr (v.3.0, refl, (v.1, subst (λ p. IsEventAt R c p v.1) (sym same) v.2, v.3.1));
        };
        same_tick = sym its_tick;
        plain = λ p. absurd (not_plain_commit e p is);
      }
    where
      its_tick : a.tick ≡ u.block
      its_tick = elim u.part.kind [
        | inl p ↦ absurd (not_plain_commit e p.0 is)
        | inr (inl k) ↦ k.3
        | inr (inr k) ↦ absurd (no_two e is k.0)
      ]

  -- a use whose entry is plain or a commit stands for an access, with the use's tick
  stood : (a : Access) (c : Place) (e : Entry) → IsUse a c e → IsPlain e ⊎ IsCommit e → Stood a c e
  stood a c e u (inl p) = stood_plain a c e u p
  stood a c e u (inr k) = stood_commit a c e u k

  -- the clock of a block tells what precedes it
  row_told : (v : Access) (c : Place) (e : Entry) → (s : Stood v c e) → (u : Access) (d : Place) (f : Entry) → (w : IsUse u d f)
      → c.thread ≢ d.thread → (v.tick < cell rows w.block c.thread) ↔ Precedes h s.access d.thread w.block
  row_told v c e s u d f w apart =
      let b = block_is u d f w in
      let m = block_told setting R h now J.is_list rise J.allowed c s.access s.stands d w.block b (block_goes_on u d f w) apart in
      let row : cell rows w.block c.thread ≡ clocks (take (w.block + 1) h) (Thread d.thread) c.thread =
      J.clocks_are.known w.block c.thread b.event (block_event u d f w)
      ∙ ap (λ t. clocks (take (w.block + 1) h) (Thread t) c.thread) b.made.own in
      let same : s.access.thread ≡ c.thread = s.stands.thread in
      let m' : (tick s.access < clocks (take (w.block + 1) h) (Thread d.thread) c.thread) ↔ Precedes h s.access d.thread w.block =
      subst (λ t. (tick s.access < clocks (take (w.block + 1) h) (Thread d.thread) t) ↔ Precedes h s.access d.thread w.block) same m in
      (λ l. m'.0 (let x = s.same_tick in omega arith), λ p. let y = m'.1 p in let x = s.same_tick in omega arith)

  -- a claim knows at first what the clock of its block does
  first_row : (u : Access) (d : Place) (f : Entry) → (w : IsUse u d f) → (t : ℕ) → cell before u.claim t ≡ cell rows w.block t
  first_row u d f w t = J.first u.claim w.claimed w.at t ∙ ap (λ q. cell rows q t) w.in_block

  -- only a refused commit learns
  not_learned : (u : Access) (d : Place) (f : Entry) → IsUse u d f → (IsRefusedCommit f → ⊥) → (t n : ℕ)
      → IsLearned rows us (length us) u.claim t n → ⊥
  not_learned u d f w none t n (j, a, l, at, of, commit, refused, rest) =
      let x = use_of a (of_list j a at) in
      let same = same_claim u a d x.0 f x.1.0 w x.1.1 (sym of) in
      elim x.1.1.part.kind [
        | inl p ↦ (let z = p.1 in cc)
        | inr (inl k) ↦ (let z = k.2 in cc)
        | inr (inr k) ↦ none (subst IsRefusedCommit same.1 k.0)
      ]

  -- what an access of another thread precedes, where the later one is no refused commit
  told_unrefused :
      (v : Access) (c : Place) (e : Entry) → (s : Stood v c e) → (u : Access) (d : Place) (f : Entry) → (w : IsUse u d f)
      → (IsRefusedCommit f → ⊥) → c.thread ≢ d.thread →
      Precedes h s.access d.thread w.block ↔ HappensBefore R c d → (v.tick < cell known u.claim c.thread) ↔ HappensBefore R c d
  told_unrefused v c e s u d f w none apart order =
      let k = J.learned u.claim c.thread v.tick in
      let row = row_told v c e s u d f w apart in
      let first = first_row u d f w c.thread in (
        λ l. elim (k.0 l) [
          | inl b ↦ order.0 (row.0 (rw first at b))
          | inr x ↦ absurd (not_learned u d f w none c.thread v.tick x)
        ],
        λ b. k.1 (inl (subst (λ z. v.tick < z) (sym first) (row.1 (order.1 b)))),
      )

  -- a plain entry's claim knows the tick of an access of another thread exactly where that access happens before the entry
  told_plain : (v : Access) (c : Place) (e : Entry) → Stood v c e → (u : Access) (d : Place) (f : Entry) → IsUse u d f → IsPlain f
      → c.thread ≢ d.thread → (v.tick < cell known u.claim c.thread) ↔ HappensBefore R c d
  told_plain v c e s u d f w plain apart =
      told_unrefused v c e s u d f w (λ r. not_plain_refused f plain r) apart
      (plain_told setting R h now J.is_list rise J.allowed c s.access s.stands d f w.there plain w.block (block_is u d f w) apart)

  -- a commit's claim knows the tick of an access of another thread exactly where that access happens before the commit
  told_commit : (v : Access) (c : Place) (e : Entry) → Stood v c e → (u : Access) (d : Place) (f : Entry) → IsUse u d f → IsCommit f
      → c.thread ≢ d.thread → (v.tick < cell known u.claim c.thread) ↔ HappensBefore R c d
  told_commit v c e s u d f w is apart =
      let m = commit_event R d f w.there is in
      let same : m.0 ≡ w.block = (let x = w.block_at in let y = m.4 in cc) in
      told_unrefused v c e s u d f w (λ r. no_two f is r) apart
      (commit_told setting R h now J.is_list rise J.allowed c s.access s.stands d f w.there is w.block m.1
      (subst (λ p. IsEventAt R d p m.1) same m.2))

  -- an access that is marked as one of a commit and as performed is one of a commit
  commit_kind : (b : Access) (m : Place) (g : Entry) → IsUse b m g → b.commit ≡ true → b.performed ≡ true → IsCommit g
  commit_kind b m g u commit done = elim u.part.kind [
    | inl k ↦ absurd (let z = k.1 in cc)
    | inr (inl k) ↦ k.0
    | inr (inr k) ↦ absurd (let z = k.2 in cc)
  ]

  -- an access of a commit is marked as one of a commit and as performed
  commit_flags : (b : Access) (m : Place) (g : Entry) → IsUse b m g → IsCommit g → (b.commit ≡ true) × (b.performed ≡ true)
  commit_flags b m g u is = elim u.part.kind [
    | inl k ↦ absurd (not_plain_commit g k.0 is)
    | inr (inl k) ↦ (k.1, k.2)
    | inr (inr k) ↦ absurd (no_two g is k.0)
  ]

  -- an access of a refused commit is marked as one of a commit and as not performed
  refused_flags : (b : Access) (m : Place) (g : Entry) → IsUse b m g → IsRefusedCommit g → (b.commit ≡ true) × (b.performed ≡ false)
  refused_flags b m g u is = elim u.part.kind [
    | inl k ↦ absurd (not_plain_refused g k.0 is)
    | inr (inl k) ↦ absurd (no_two g k.0 is)
    | inr (inr k) ↦ (k.1, k.2)
  ]

  -- a commit hands on what reaches it
  handed_reaches :
      (v : Access) (c : Place) (e : Entry) → (s : Stood v c e) → IsPlain e → (b : Access) (m : Place) (g : Entry) → IsUse b m g
      → IsCommit g → (p : ℕ) (r : Stamp) → IsEventAt R m p r →
      (v.tick < handed_on rows b c.thread) ↔ Reaches h s.access p
  handed_reaches v c e s plain b m g u is p r made = by (c.thread == b.thread) refl
    where
      ev : (q : ℕ) × (t : Stamp) × IsEventAt R m q t × ((xs : List ℕ) × (t.event ≡ Commits xs)) × BlockAt (R m.thread) m.index q
      ev = commit_event R m g u.there is

      block_p : u.block ≡ p
      block_p = let x = u.block_at in let y = ev.4 in let z : u.block ≡ ev.0 = cc in z ∙ one_position ev.2 made

      tick_p : b.tick ≡ p
      tick_p = elim u.part.kind [
        | inl k ↦ absurd (not_plain_commit g k.0 is)
        | inr (inl k) ↦ k.3 ∙ block_p
        | inr (inr k) ↦ absurd (no_two g is k.0)
      ]

      there : EventAt h p r
      there = J.is_list.listed m p r made

      goes : r.event ≢ Does End
      goes end =
          let x : EventAt h p ev.1 = J.is_list.listed m p ev.1 (subst (λ q. IsEventAt R m q ev.1) (one_position ev.2 made) ev.2) in
          let y : EventAt h p r = J.is_list.listed m p r made in
          let same : ev.1 ≡ r = cc in
          let z : Does End ≡ Commits ev.3.0 = sym end ∙ ap (λ (w : Stamp). w.event) (sym same) ∙ ev.3.1 in cc

      row : cell rows b.tick c.thread ≡ clocks (take (p + 1) h) (Thread m.thread) c.thread
      row = ap (λ q. cell rows q c.thread) tick_p ∙ J.clocks_are.known p c.thread r there
          ∙ ap (λ t. clocks (take (p + 1) h) (Thread t) c.thread) made.own

      by : (o : Bool) → (c.thread == b.thread) ≡ o → (v.tick < handed_on rows b c.thread) ↔ Reaches h s.access p
      by true same =
          let own : c.thread ≡ m.thread = eqb-true c.thread b.thread same ∙ u.own in
          let near : p < length h = slice_get_within h p r there in
          let long : length (take (p + 1) h) ≡ p + 1 = length-take-le (p + 1) h (omega arith) in
          let there' : EventAt (take (p + 1) h) p r =
          event_back (take (p + 1) h) (drop (p + 1) h) p r (omega arith)
          (subst (λ l. EventAt l p r) (sym (take-append-drop (p + 1) h)) there) in
          let clock : clocks (take (p + 1) h) (Thread m.thread) m.thread
          ≡ p + 2 = own_law (take (p + 1) h) m.thread p r there' made.own (λ q t x y. let l = slice_get_within (take (p + 1) h) q t x
          in omega arith) in
          let is : handed_on rows b c.thread ≡ p + 1 =
          ap (λ o. if o then cell rows b.tick c.thread - 1 else cell rows b.tick c.thread) same
          ∙ (let z : cell rows b.tick c.thread ≡ p + 2 = row ∙ ap (λ t. clocks (take (p + 1) h) (Thread m.thread) t) own ∙ clock
          in omega arith) in
          let k = own_reaches setting R h now J.is_list rise J.allowed c s.access s.stands m p r made own (s.plain plain) in
          (λ l. k.0 (let x = s.same_tick in omega arith), λ w. let y = k.1 w in let x = s.same_tick in omega arith)
      by false other =
          let apart : c.thread ≢ m.thread = (λ x. let z : (c.thread == b.thread) ≡ true = eq-eqb c.thread b.thread (x ∙ sym u.own) in cc) in
          let is : handed_on rows b c.thread ≡ clocks (take (p + 1) h) (Thread m.thread) c.thread =
          ap (λ o. if o then cell rows b.tick c.thread - 1 else cell rows b.tick c.thread) other ∙ row in
          let k = other_reaches setting R h now J.is_list rise J.allowed c s.access s.stands m p r made goes
          (subst (IsBlockOf R m) block_p (block_is b m g u)) apart in
          let same : s.access.thread ≡ c.thread = s.stands.thread in
          let k' : (tick s.access < clocks (take (p + 1) h) (Thread m.thread) c.thread) ↔ Reaches h s.access p =
          subst (λ t. (tick s.access < clocks (take (p + 1) h) (Thread m.thread) t) ↔ Reaches h s.access p) same k in
          (λ l. k'.0 (let x = s.same_tick in omega arith), λ w. let y = k'.1 w in let x = s.same_tick in omega arith)

  -- a commit and a refused commit have no number in common
  numbers_apart : (m d : Place) (g f : Entry) → EntryAt R m g → EntryAt R d f → IsCommit g → IsRefusedCommit f → (x k : ℕ) → NumberOn g x k
      → NumberOn f x k → ⊥
  numbers_apart m d g f a b is refused x k n o =
      let same : m ≡ d = (J.numbered x).1.once m d g f k a b (inr (draws_itself g x k (inl is) n))
      (inr (draws_itself f x k (inr refused) o)) in
      let a' : EntryAt R d g = subst (λ z. EntryAt R z g) same a in
      let one : f ≡ g = cc in no_two g is (subst IsRefusedCommit one refused)

  module _ (v : Access) (c : Place) (e : Entry) (vu : IsUse v c e) (plain : IsPlain e) (u : Access) (d : Place) (f : Entry)
      (w : IsUse u d f) (refused : IsRefusedCommit f) (apart : c.thread ≢ d.thread) where
    -- the plain use stands for an access, with its tick
    its : Stood v c e
    its = stood_plain v c e vu plain

    abbrev Commits' : Type 0
    Commits' = ByCommit setting R h now J.is_list rise J.allowed c its.access its.stands d

    -- what a refused commit's claim learns of the plain access comes from an earlier commit of a variable of both that the access reaches
    learn_out : IsLearned rows us (length us) u.claim c.thread v.tick → Commits'
    learn_out (j, a, l, at, of, commit, not_done, (b, (jb, lb, eb), on, bc, bp, less)) =
        let x = use_of a (of_list j a at) in
        let same = same_claim u a d x.0 f x.1.0 w x.1.1 (sym of) in
        let here : EntryAt R d f = w.there in
        let number : NumberOn f a.var a.nth = subst (λ z. NumberOn z a.var a.nth) same.1 x.1.1.part.number in
        let y = use_of b (of_list jb b eb) in
        let g = y.1.0 in
        let is : IsCommit g = commit_kind b y.0 g y.1.1 bc bp in
        let given : NumberOn g a.var b.nth = subst (λ z. NumberOn g z b.nth) on y.1.1.part.number in
        let le = J.ordered jb j b a eb at (omega arith) in
        let lt : b.nth < a.nth = elim (eq-or-lt_of_le le) [
          | inl z ↦ absurd (numbers_apart y.0 d g f y.1.1.there here is refused a.var a.nth (subst (NumberOn g a.var) z given) number)
          | inr z ↦ z
        ] in
        let m = commit_event R y.0 g y.1.1.there is in record {
          commit = y.0;
          edge = record {
            made = g;
            refused = f;
            there = y.1.1.there;
            here = here;
            is_commit = is;
            is_refused = refused;
            var = a.var;
            before = record {
              first = g;
              second = f;
              there = y.1.1.there;
              here = here;
              number = b.nth;
              later = a.nth;
              numbered = given;
              also_numbered = number;
              order = inl lt;
            };
          };
          position = m.0;
          event = m.1;
          made = m.2;
          reached = (handed_reaches v c e its plain b y.0 g y.1.1 is m.0 m.1 m.2).0 less;
        }

    -- where the plain access reaches a commit that is before the refused one on a variable of both, the refused one's claim learns its tick
    learn_in : Commits' → IsLearned rows us (length us) u.claim c.thread v.tick
    learn_in k =
        let o = k.edge.before in
        let x = k.edge.var in
        let first : k.edge.made ≡ o.first = same_entry R k.commit k.edge.made o.first k.edge.there o.there in
        let second : f ≡ o.second = same_entry R d f o.second w.there o.here in
        let is : IsCommit o.first = subst IsCommit first k.edge.is_commit in
        let is_refused : IsRefusedCommit o.second = subst IsRefusedCommit second refused in
        let b = use_there k.commit o.first o.there x o.number o.numbered in
        let a = use_there d o.second o.here x o.later o.also_numbered in
        let lt : o.number < o.later = elim o.order [
          | inl z ↦ z
          | inr z ↦ absurd (numbers_apart k.commit d o.first o.second o.there o.here is is_refused x o.later
              (subst (NumberOn o.first x) z.0 o.numbered) o.also_numbered)
        ] in
        let jb = in_list b.0 b.1 in
        let ja = in_list a.0 a.1 in
        let near : jb.0 < ja.0 = elim (cases_lt jb.0 ja.0) [
          | inl z ↦ z
          | inr z ↦ absurd (let q = J.ordered ja.0 jb.0 a.0 b.0 ja.1 jb.1 z in let y1 = b.3 in let y2 = a.3 in omega arith)
        ] in
        let bk = commit_flags b.0 k.commit o.first b.4 is in
        let ak = refused_flags a.0 d o.second a.4 is_refused in
        let of : a.0.claim ≡ u.claim = J.one a.0.claim u.claim a.4.claimed w.claimed a.4.at w.at (a.4.place ∙ sym w.place) in
        let m = (handed_reaches v c e its plain b.0 k.commit o.first b.4 is k.position k.event k.made).1 k.reached in
        (ja.0, a.0, slice_get_within us ja.0 a.0 ja.1, ja.1, of, ak.0, ak.1, (b.0, (jb.0, near, jb.1), b.2 ∙ sym a.2, bk.0, bk.1, m))

    -- a refused commit's claim knows the tick of a plain access of another thread exactly where the access happens before it
    told_refused : (v.tick < cell known u.claim c.thread) ↔ HappensBefore R c d
    told_refused =
        let t = refused_told setting R h now J.is_list rise J.allowed c its.access its.stands d f w.there refused w.block
        (block_is u d f w) apart e vu.there plain (λ b g here is. let m = commit_event R b g here is in (m.0, m.1, m.2)) in
        let k = J.learned u.claim c.thread v.tick in
        let row = row_told v c e its u d f w apart in
        let first = first_row u d f w c.thread in (
          λ l. t.0 (elim (k.0 l) [ inl b ↦ inl (row.0 (rw first at b)) | inr x ↦ inr (learn_out x) ]),
          λ b. elim (t.1 b) [ inl p ↦ k.1 (inl (subst (λ z. v.tick < z) (sym first) (row.1 p))) | inr x ↦ k.1 (inr (learn_in x)) ],
        )

  -- what an access of another thread happens before is told by the clock of the later one's claim
  told :
      (v : Access) (c : Place) (e : Entry) → IsUse v c e → (u : Access) (d : Place) (f : Entry) → IsUse u d f → IsPlain e ⊎ IsCommit e
      → IsPlain e ⊎ IsPlain f → c.thread ≢ d.thread →
      (v.tick < cell known u.claim c.thread) ↔ HappensBefore R c d
  told v c e vu u d f w done one apart = elim w.part.kind [
    | inl k ↦ told_plain v c e (stood v c e vu done) u d f w k.0 apart
    | inr (inl k) ↦ told_commit v c e (stood v c e vu done) u d f w k.0 apart
    | inr (inr k) ↦ told_refused v c e vu (elim one [ inl p ↦ p | inr p ↦ absurd (not_plain_refused f p k.0) ]) u d f w k.0 apart
  ]

  -- an access that is not marked as one of a commit is of a plain entry
  plain_kind : (v : Access) (c : Place) (e : Entry) → IsUse v c e → v.commit ≡ false → IsPlain e
  plain_kind v c e vu other = elim vu.part.kind [
    | inl k ↦ k.0
    | inr (inl k) ↦ absurd (let z = k.1 in cc)
    | inr (inr k) ↦ absurd (let z = k.1 in cc)
  ]

  -- an access of a plain entry is not marked as one of a commit
  plain_flag : (v : Access) (c : Place) (e : Entry) → IsUse v c e → IsPlain e → v.commit ≡ false
  plain_flag v c e vu plain = elim vu.part.kind [
    | inl k ↦ k.1
    | inr (inl k) ↦ absurd (not_plain_commit e plain k.0)
    | inr (inr k) ↦ absurd (not_plain_refused e plain k.0)
  ]

  -- an access that is marked as performed is of an entry that is plain or a commit and was performed
  done_kind : (v : Access) (c : Place) (e : Entry) → IsUse v c e → v.performed ≡ true → (IsPlain e ⊎ IsCommit e) × IsPerformed e
  done_kind v c e vu done = elim vu.part.kind [
    | inl k ↦ (inl k.0, k.3.0 done)
    | inr (inl k) ↦ (inr k.0, commit_done e k.0)
    | inr (inr k) ↦ absurd (let z = k.2 in cc)
  ]

  -- an access of an entry that was performed is marked as performed, and its entry is plain or a commit
  done_flag : (v : Access) (c : Place) (e : Entry) → IsUse v c e → IsPerformed e → (IsPlain e ⊎ IsCommit e) × (v.performed ≡ true)
  done_flag v c e vu done = elim vu.part.kind [
    | inl k ↦ (inl k.0, k.3.1 done)
    | inr (inl k) ↦ (inr k.0, k.2)
    | inr (inr k) ↦ absurd (refused_not_done e k.0 done)
  ]

  module _ (k : ℕ) (l : Claim) (at : slice_get claims k ≡ Some l) (x : ℕ) where
    -- if the claim is racy on a variable, so is its entry
    racy_in : IsRacyClaim known us (length us) k x → IsRacy R (seen l.place) x
    racy_in (j, u, near, here, of, on, (v, (i, lt, there), same_var, apart, done, conflict, least)) =
        let uu = use_of u (of_list j u here) in
        let vv = use_of v (of_list i v there) in
        let d = uu.0 in
        let f = uu.1.0 in
        let w = uu.1.1 in
        let e = vv.1.0 in
        let vu = vv.1.1 in
        let one : w.claimed ≡ l = (let y : slice_get claims k ≡ Some w.claimed = subst (λ m. slice_get claims m ≡ Some w.claimed) of w.at
        in cc) in
        let place : d ≡ seen l.place = sym w.place ∙ ap (λ (m : Claim). seen m.place) one in
        let others : vv.0.thread ≢ d.thread = (λ z. apart (vu.own ∙ z ∙ sym w.own)) in
        let n : NumberOn e x v.nth = subst (λ y. NumberOn e y v.nth) (same_var ∙ on) vu.part.number in
        let m : NumberOn f x u.nth = subst (λ y. NumberOn f y u.nth) on w.part.number in
        let le = J.ordered i j v u there here (omega arith) in
        let less : v.nth < u.nth = elim (eq-or-lt_of_le le) [
          | inl z ↦ absurd (others (one_thread R J.form J.numbered vv.0 d e f vu.there w.there x u.nth (subst (NumberOn e x) z n) m))
          | inr z ↦ z
        ] in
        let is = done_kind v vv.0 e vu done in
        let one_plain : IsPlain e ⊎ IsPlain f = elim conflict.1 [
          | inl z ↦ inl (plain_kind v vv.0 e vu z)
          | inr z ↦ inr (plain_kind u d f w z)
        ] in
        let order = told v vv.0 e vu u d f w is.0 one_plain others in
        let writes : Writes e x ⊎ Writes f x = elim conflict.0 [
          | inl z ↦ inl (subst (Writes e) (same_var ∙ on) (vu.part.writes.0 z))
          | inr z ↦ inr (subst (Writes f) on (w.part.writes.0 z))
        ] in
        subst (λ z. IsRacy R z x) place (record {
          other = vv.0;
          another = others;
          before = record {
            first = e;
            second = f;
            there = vu.there;
            here = w.there;
            number = v.nth;
            later = u.nth;
            numbered = n;
            also_numbered = m;
            order = inl less;
          };
          performed = is.1;
          conflict = (writes, one_plain);
          unordered = λ b. let z = order.1 b in let y : cell known u.claim vv.0.thread ≤ v.tick =
              subst (λ t. cell known u.claim t ≤ v.tick) vu.own least in omega arith;
        })

    -- if the claim's entry is racy on a variable, so is the claim
    racy_out : IsRacy R (seen l.place) x → IsRacyClaim known us (length us) k x
    racy_out r =
        let o = r.before in
        let d = seen l.place in
        let vv = use_there r.other o.first o.there x o.number o.numbered in
        let uu = use_there d o.second o.here x o.later o.also_numbered in
        let v = vv.0 in
        let u = uu.0 in
        let of : u.claim ≡ k = J.one u.claim k uu.4.claimed l uu.4.at at uu.4.place in
        let lt : o.number < o.later = elim o.order [ inl z ↦ z | inr z ↦ absurd (r.another z.1.0) ] in
        let jv = in_list v vv.1 in
        let ju = in_list u uu.1 in
        let near : jv.0 < ju.0 = elim (cases_lt jv.0 ju.0) [
          | inl z ↦ z
          | inr z ↦ absurd (let q = J.ordered ju.0 jv.0 u v ju.1 jv.1 z in let y1 = vv.3 in let y2 = uu.3 in omega arith)
        ] in
        let is = done_flag v r.other o.first vv.4 r.performed in
        let order = told v r.other o.first vv.4 u d o.second uu.4 is.0 r.conflict.1 r.another in
        let least : cell known u.claim v.thread ≤ v.tick =
        elim (cases_lt v.tick (cell known u.claim r.other.thread)) [
          | inl z ↦ absurd (r.unordered (order.0 z))
          | inr z ↦ subst (λ t. cell known u.claim t ≤ v.tick) (sym vv.4.own) z
        ] in
        let writes : (v.write ≡ true) ⊎ (u.write ≡ true) =
        elim r.conflict.0 [
          | inl z ↦ inl (vv.4.part.writes.1 (subst (Writes o.first) (sym vv.2) z))
          | inr z ↦ inr (uu.4.part.writes.1 (subst (Writes o.second) (sym uu.2) z))
        ] in
        let plain : (v.commit ≡ false) ⊎ (u.commit ≡ false) =
        elim r.conflict.1 [ inl z ↦ inl (plain_flag v r.other o.first vv.4 z) | inr z ↦ inr (plain_flag u d o.second uu.4 z) ] in (
          ju.0,
          u,
          slice_get_within us ju.0 u ju.1,
          ju.1,
          of,
          uu.2,
          (
            v,
            (jv.0, near, jv.1),
            vv.2
                ∙ sym uu.2,
            (λ z. r.another (sym vv.4.own ∙ z ∙ uu.4.own)),
            is.1,
            (writes, plain),
            least,
          ),
        )

    -- the claims are racy just where their entries are
    pub racy_told : IsRacyClaim known us (length us) k x ↔ IsRacy R (seen l.place) x
    racy_told = (λ r. racy_in r, λ r. racy_out r)
