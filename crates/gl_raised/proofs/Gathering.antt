-- The claims and the accesses of a record, with one entry more.
use Rattle.std.proofs.Common.{◌≡◌, ℕ, zero, suc, ◌+◌, ◌<◌, ◌≤◌, List, [], ◌∷◌, ◌++◌, length, map, take, get_or, refl, ap, sym, ◌∙◌, subst, inl, inr, arith, Some, append-nil}
use Rattle.std.specs.Prelude.{◌⊎◌, Contains, Option, option_map, slice_get, unwrap_or}
use Rattle.std.proofs.lemmas.Bool.{cases_lt}
use Rattle.std.proofs.lemmas.List.{take_more}
use Rattle.std.proofs.lemmas.List.Elements.{Contains-append_left, Contains-append_right, Contains-append_cases}
use Rattle.std.proofs.lemmas.Option.{slice_get_within, slice_get-get_or, slice_get-map, get_or_from_slice_get}
use Rattle.gl_draws.specs.Ties.{or_else, last_position}
use Rattle.gl_laws.proofs.Bridge.{same_place}
use Rattle.gl_model.specs.declared.tx.Why.TheVariants.{Changed, Raised}
use Rattle.gl_model.specs.Entries.{Entry, Sync, Commit, Plain, Abort, Trim, Over, seen as seen_entry}
use Rattle.gl_model.specs.declared.record.Entry.{Entry as StoredEntry}
use Rattle.gl_model.specs.Records.{Lists, Place, EntryAt, position_of}
use Rattle.gl_places.specs.Places.{Before, seen}
use Rattle.gl_places.specs.declared.place.Place.{Place as StoredPlace}
use Rattle.gl_raised.specs.Accesses.{IsAccess, accesses_of, block_after, claims_of, raised_on}
use Rattle.gl_raised.specs.Gathers.{AreGathered, IsClaimOf, block_before}
use Rattle.gl_raised.specs.declared.access.Access.{Access}
use Rattle.gl_raised.specs.declared.access.Claim.{Claim}
use Rattle.gl_draws.proofs.Pushes.{last_push}

-- what stood at a place stands there with more put after
pub kept_at : {A : Type 0} (xs more : List A) (k : ℕ) (x : A) → slice_get xs k ≡ Some x → slice_get (xs ++ more) k ≡ Some x
kept_at [] more k x a = cc
kept_at (y ∷ xs) more zero x a = a
kept_at (y ∷ xs) more (suc k) x a = kept_at xs more k x a

-- what is put last stands at the old length
pub new_at : {A : Type 0} (xs : List A) (x : A) → slice_get (xs ++ x ∷ []) (length xs) ≡ Some x
new_at [] x = refl
new_at (y ∷ xs) x = new_at xs x

-- what stands in a list with one put last stood there before, or is that one at the old length
pub at_cases : {A : Type 0} (xs : List A) (x y : A) (k : ℕ) → slice_get (xs ++ x ∷ []) k ≡ Some y → (slice_get xs k ≡ Some y)
    ⊎ ((k ≡ length xs) × (y ≡ x))
at_cases [] x y zero a = inr (refl, let s : x ≡ y = cc in sym s)
at_cases [] x y (suc k) a = absurd (cc)
at_cases (z ∷ xs) x y zero a = inl a
at_cases (z ∷ xs) x y (suc k) a = elim (at_cases xs x y k a) [ inl s ↦ inl s | inr n ↦ inr (ap suc n.0, n.1) ]

-- the block after an entry is its position, or else the block before it
after_means : (o : Option ℕ) (e : Entry) → unwrap_or (or_else (position_of e) o) 0 ≡ block_after (unwrap_or o 0) e
after_means o (Sync at act value) = refl
after_means o (Commit at tx) = refl
after_means o (Plain var nth cached write value raised) = refl
after_means o (Abort tx why) = refl
after_means o (Trim low) = refl
after_means o (Over ending) = refl

-- the block before the next place is that after the entry there
pub block_more : (es : List Entry) (i b : ℕ) (e : Entry) → slice_get es i ≡ Some e → b ≡ block_before es i → block_after b e
    ≡ block_before es (i + 1)
block_more es i b e there is =
    let more : take (i + 1) es ≡ take i es ++ e ∷ [] = take_more es i e (slice_get_within es i e there)
    ∙ ap (λ z. take i es ++ z ∷ []) (get_or_from_slice_get es i e e there) in
    ap (λ z. block_after z e) is ∙ sym (after_means (last_position (take i es)) e)
    ∙ ap (λ o. unwrap_or o 0) (sym (last_push (take i es) e)) ∙ ap (λ l. unwrap_or (last_position l) 0) (sym more)

-- an entry is no access, or has one claim
pub data ClaimKind (e : Entry) : Type 0 where
  no_access : (IsAccess e → ⊥) → ((p : StoredPlace) (b : ℕ) → claims_of p b e ≡ []) → ((k t b : ℕ) → accesses_of k t b e ≡ []) → ClaimKind e
  one_claim : IsAccess e → ((p : StoredPlace) (b : ℕ) → claims_of p b e ≡ (record { place = p; block = b; raised = raised_on e }) ∷ [])
      → ClaimKind e

-- each entry is no access, or has one claim
kind_of : (e : Entry) → ClaimKind e
kind_of (Sync at act value) = no_access (λ a. a) (λ p b. refl) (λ k t b. refl)
kind_of (Commit at tx) = one_claim tt (λ p b. refl)
kind_of (Plain var nth cached write value raised) = one_claim tt (λ p b. refl)
kind_of (Abort tx (Raised var)) = one_claim tt (λ p b. refl)
kind_of (Abort tx (Changed var read found)) = no_access (λ a. a) (λ p b. refl) (λ k t b. refl)
kind_of (Trim low) = no_access (λ a. a) (λ p b. refl) (λ k t b. refl)
kind_of (Over ending) = no_access (λ a. a) (λ p b. refl) (λ k t b. refl)

-- what is before the next place of a list is before this one, or is it
pub next_cases : (c : Place) (t i : ℕ) → Before c (record { thread = t; index = i + 1 }) → Before c (record { thread = t; index = i })
    ⊎ (c ≡ record { thread = t; index = i })
next_cases c t i (inl lt) = inl (inl lt)
next_cases c t i (inr s) = elim (cases_lt c.index i) [
  | inl lt ↦ inl (inr (s.0, lt))
  | inr ge ↦ inr (same_place c (record { thread = t; index = i }) s.0 (let z : c.index ≡ i = (let w = s.1 in omega arith) in z))
]

-- a place before one entry of a thread is before the next
pub next_before : (c : Place) (t i : ℕ) → Before c (record { thread = t; index = i }) → Before c (record { thread = t; index = i + 1 })
next_before c t i (inl lt) = inl lt
next_before c t i (inr s) = inr (s.0, let w = s.1 in omega arith)

module _ (R : Lists) (t i b : ℕ) (p : StoredPlace) (is_place : seen p ≡ record { thread = t; index = i }) (of_thread : p.thread ≡ t)
    (of_index : p.index ≡ i) (e : Entry) (there : slice_get (R t) i ≡ Some e) (is_block : b ≡ block_before (R t) (i + 1))
    (claims : List Claim) (accesses : List Access) (so_far : AreGathered R (record { thread = t; index = i }) claims accesses) where
  -- the entry stands in the record at the stored place
  here : EntryAt R (seen p) e
  here = subst (λ c. EntryAt R c e) (sym is_place) there

  -- an entry of the record at the stored place is this entry
  same_entry : (f : Entry) → EntryAt R (seen p) f → f ≡ e
  same_entry f a = let x = here in cc

  -- if the entry is no access, what was gathered before it is all up to the next place
  without : (IsAccess e → ⊥) → AreGathered R (record { thread = t; index = i + 1 }) claims accesses
  without none = record {
    claim = λ k l a. (next_before (seen l.place) t i (so_far.claim k l a).0, (so_far.claim k l a).1);
    all = λ c f a is before. elim (next_cases c t i before) [
      | inl old ↦ so_far.all c f a is old
      | inr now ↦ absurd (none (subst IsAccess (let x : EntryAt R (record { thread = t; index = i }) f = subst (λ z. EntryAt R z f) now a
          in let y : f ≡ e = cc in y) is))
    ];
    rising = so_far.rising;
    parts = so_far.parts;
  }

  abbrev its : Claim
  its = record { place = p; block = b; raised = raised_on e }

  -- if the entry is an access, its claim is the one that names its place, its block and what it raised on
  its_claim : IsAccess e → IsClaimOf R its e
  its_claim is = record {
    there = here;
    is_access = is;
    raised = refl;
    block = is_block
        ∙ ap (λ u. block_before (R u) (i + 1)) (sym of_thread) ∙ ap (λ j. block_before (R p.thread) (j + 1)) (sym of_index);
  }

  -- the accesses of the claim that was put last are those of this entry
  last : (a : Access) (k : ℕ) (l : Claim) (f : Entry) → k ≡ length claims → l ≡ its → EntryAt R (seen l.place) f
      → Contains (accesses_of k l.place.thread l.block f) a → Contains (accesses_of (length claims) t b e) a
  last a k l f at same there' c =
      let moved : EntryAt R (seen p) f = subst (λ (m : Claim). EntryAt R (seen m.place) f) same there' in
      let c1 : Contains (accesses_of k p.thread b f) a =
      subst (λ (m : Claim). Contains (accesses_of k m.place.thread m.block f) a) same c in
      let c2 : Contains (accesses_of k p.thread b e) a = subst (λ g. Contains (accesses_of k p.thread b g) a) (same_entry f moved) c1 in
      let c3 : Contains (accesses_of k t b e) a = subst (λ u. Contains (accesses_of k u b e) a) of_thread c2 in
      subst (λ j. Contains (accesses_of j t b e) a) at c3

  -- if the entry is an access, then what was gathered, with its claim and its accesses put last, is all up to the next place
  with_one : IsAccess e → AreGathered R (record { thread = t; index = i + 1 }) (claims ++ its ∷ []) (accesses
      ++ accesses_of (length claims) t b e)
  with_one is = record {
    claim = λ k l a. elim (at_cases claims its l k a) [
      | inl old ↦ (next_before (seen l.place) t i (so_far.claim k l old).0, (so_far.claim k l old).1)
      | inr now ↦ subst (λ (m : Claim). Before (seen m.place) (record { thread = t; index = i + 1 }) × ((f : Entry) × IsClaimOf R m f))
          (sym now.1) (inr (of_thread, omega (arith, of_index)), (e, its_claim is))
    ];
    all = λ c f a ac before. elim (next_cases c t i before) [
      | inl old ↦ (let w = so_far.all c f a ac old in (w.0, (w.1.0, kept_at claims (its ∷ []) w.0 w.1.0 w.1.1, w.1.2)))
      | inr now ↦ (length claims, (its, new_at claims its, is_place ∙ sym now))
    ];
    rising = λ j k l m al am lt. elim (at_cases claims its m k am) [
      | inl old ↦ elim (at_cases claims its l j al) [
        | inl first ↦ so_far.rising j k l m first old lt
        | inr last ↦ absurd (let w = slice_get_within claims k m old in let z = last.0 in omega arith)
      ]
      | inr now ↦ elim (at_cases claims its l j al) [
        | inl first ↦ subst (λ (n : Claim). Before (seen l.place) (seen n.place)) (sym now.1)
            (subst (λ c. Before (seen l.place) c) (sym is_place) (so_far.claim j l first).0)
        | inr last ↦ absurd (let z = last.0 in let y = now.0 in omega arith)
      ]
    ];
    parts = λ a. (
      λ c. elim (Contains-append_cases accesses (accesses_of (length claims) t b e) a c) [
        | inl old ↦ (let w = (so_far.parts a).0 old
            in (w.0, (w.1.0, (w.1.1.0, kept_at claims (its ∷ []) w.0 w.1.0 w.1.1.1, w.1.1.2, w.1.1.3))))
        | inr new ↦ (
          length claims,
          (
            its,
            (
              e,
              new_at claims its,
              here,
              subst (λ u. Contains (accesses_of (length claims) u b e) a)
                  (sym of_thread) new,
            ),
          ),
        )
      ],
      λ w. elim (at_cases claims its w.1.0 w.0 w.1.1.1) [
        | inl old ↦ Contains-append_left accesses (accesses_of (length claims) t b e) a
            ((so_far.parts a).1 (w.0, (w.1.0, (w.1.1.0, old, w.1.1.2, w.1.1.3))))
        | inr now ↦ Contains-append_right accesses (accesses_of (length claims) t b e) a
            (last a w.0 w.1.0 w.1.1.0 now.0 now.1 w.1.1.2 w.1.1.3)
      ],
    );
  }

  -- with the claims and the accesses of this entry, those before the next place are gathered
  pub gathered_more : AreGathered R (record { thread = t; index = i + 1 }) (claims ++ claims_of p b e) (accesses
      ++ accesses_of (length claims) t b e)
  gathered_more = by (kind_of e)
    where
      by : ClaimKind e → AreGathered R (record { thread = t; index = i + 1 }) (claims ++ claims_of p b e) (accesses
          ++ accesses_of (length claims) t b e)
      by (no_access none no_claims no_parts) = rw (no_claims p b, no_parts (length claims) t b, append-nil claims, append-nil accesses)
          (without none)
      by (one_claim is claim) = rw (claim p b) (with_one is)

-- the whole list of a thread
pub next_thread : (R : Lists) (t n : ℕ) (claims : List Claim) (accesses : List Access) → length (R t) ≤ n
    → AreGathered R (record { thread = t; index = n }) claims accesses
    → AreGathered R (record { thread = t + 1; index = 0 }) claims accesses
next_thread R t n claims accesses long so_far = record {
  claim = λ k l a. (
    elim (so_far.claim k l a).0 [ inl lt ↦ inl (omega arith) | inr s ↦ (let z = s.0 in inl (omega arith)) ],
    (so_far.claim k l a).1,
  );
  all = λ c e a is before. so_far.all c e a is (elim before [
    | inl lt ↦ elim (cases_lt c.thread t) [
      | inl less ↦ inl less
      | inr ge ↦ inr (let same : c.thread ≡ t = omega arith
          in (
            same,
            let w : c.index < length (R t) = subst (λ u. c.index < length (R u)) same (slice_get_within (R c.thread) c.index e a)
                in omega arith,
          ))
    ]
    | inr s ↦ absurd (let z = s.1 in omega arith)
  ]);
  rising = so_far.rising;
  parts = so_far.parts;
}

-- the entry at i, where the entries are seen
pub seen_at : (es : List StoredEntry) (i : ℕ) (d : StoredEntry) → i < length es → slice_get (map seen_entry es) i
    ≡ Some (seen_entry (get_or es i d))
seen_at es i d l = slice_get-map seen_entry es i ∙ ap (option_map seen_entry) (slice_get-get_or es i d l)
