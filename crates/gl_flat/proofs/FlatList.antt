-- The flat history of a well-formed record is there.
use Rattle.std.proofs.Common.{◌≡◌, ℕ, zero, suc, ◌+◌, ◌<◌, ◌≤◌, List, [], ◌∷◌, ◌++◌, length, refl, ap, subst, sym, ◌∙◌, inl, inr, arith, Some, None, true, false, add-one}
use Rattle.std.specs.Prelude.{◌⊎◌, ◌↔◌, Contains, Option, slice_get}
use Rattle.std.proofs.lemmas.Option.{slice_get_within, slice_get-get_or}
use native.Mathlib.Decide.{ℕ_discrete}
use Rattle.gl_model.specs.declared.event.Stamp.{Stamp}
use Rattle.gl_model.specs.Entries.{Entry, Sync, Commit, Plain, Abort, Trim, Over}
use Rattle.gl_model.specs.Flat.{InFlatOrder, IsFlat, IsLaidOut}
use Rattle.gl_model.specs.Form.{Form}
use Rattle.gl_model.specs.Records.{Lists, Place, EntryAt, IsEventAt, IsEventList, PositionsRise, IsBlockOf}
use Rattle.gl_laws.proofs.Bridge.{same_entry}
use Rattle.gl_laws.proofs.FlatLaws.{block_of_event, one_block}
use Rattle.gl_laws.proofs.Trails.{event_at}
use Rattle.gl_flat.specs.Walk.{IsWalked}
use Rattle.gl_flat.proofs.Blocks.{laid_block, positions_rise}
use Rattle.gl_flat.proofs.FlatOrder.{one_thread}
use Rattle.gl_flat.proofs.Walked.{walked_before, walked_end, walked_more, walked_on, walked_other}

module _ {A : Type 0} where
  -- what stands at a place of a list stands there too when more is put behind the list
  get_kept : (xs more : List A) (i : ℕ) (x : A) → slice_get xs i ≡ Some x → slice_get (xs ++ more) i ≡ Some x
  get_kept [] more i x a = absurd (cc)
  get_kept (y ∷ ys) more zero x a = a
  get_kept (y ∷ ys) more (suc i) x a = get_kept ys more i x a

  -- an element that is put behind a list stands at the place that was the list's length
  get_new : (xs : List A) (x : A) → slice_get (xs ++ x ∷ []) (length xs) ≡ Some x
  get_new [] x = refl
  get_new (y ∷ ys) x = get_new ys x

  -- what stands in a list with one element more stood there before, or is that element, at the last place
  get_cases : (xs : List A) (x y : A) (i : ℕ) → slice_get (xs ++ x ∷ []) i ≡ Some y → (slice_get xs i ≡ Some y) ⊎
      ((i ≡ length xs) × (y ≡ x))
  get_cases [] x y zero a = inr (refl, let s : x ≡ y = cc in sym s)
  get_cases [] x y (suc i) a = absurd (cc)
  get_cases (z ∷ zs) x y zero a = inl a
  get_cases (z ∷ zs) x y (suc i) a = elim (get_cases zs x y i a) [ inl b ↦ inl b | inr b ↦ inr (ap suc b.0, b.1) ]

  -- what stands in a list at some place is in it, and the other way round
  pub contains_at : (xs : List A) (k : ℕ) (x : A) → slice_get xs k ≡ Some x → Contains xs x
  contains_at [] k x e = absurd (cc)
  contains_at (y ∷ ys) zero x e = (zero, omega arith, let z : y ≡ x = cc in z)
  contains_at (y ∷ ys) (suc k) x e = let r = contains_at ys k x e in (suc r.0, (let l = r.1 in omega arith), r.2)

  -- what is in a list stands in it at some place
  pub at_contains : (xs : List A) (x : A) → Contains xs x → (k : ℕ) × (slice_get xs k ≡ Some x)
  at_contains xs x c = (c.0, slice_get-get_or xs c.0 x c.1 ∙ ap Some c.2)

-- a laid-out entry stands there
abbrev pub IsLaidOutAt : Lists → Place → Type 0
IsLaidOutAt R c = (e : Entry) × EntryAt R c e × IsLaidOut e

-- an entry is laid out, or is not
laid_or_not : (e : Entry) → IsLaidOut e ⊎ (IsLaidOut e → ⊥)
laid_or_not (Sync a b c) = inl tt
laid_or_not (Commit a b) = inl tt
laid_or_not (Plain var nth cached write value true) = inr (λ z. let q : true ≡ false = z in cc)
laid_or_not (Plain var nth cached write value false) = inl refl
laid_or_not (Abort a b) = inr (λ z. z)
laid_or_not (Trim a) = inr (λ z. z)
laid_or_not (Over a) = inr (λ z. z)

-- the flat history as far as the walk has come
record FlatUpTo (R : Lists) (p i : ℕ) : Type 0 where
  places : List Place
  each : (c : Place) → ((k : ℕ) × (slice_get places k ≡ Some c)) ↔ (IsWalked R p i c × IsLaidOutAt R c)
  in_order : (j k : ℕ) (c d : Place) → slice_get places j ≡ Some c → slice_get places k ≡ Some d → j < k → InFlatOrder R c d

module _ (R : Lists) (h : List Stamp) (is_list : IsEventList h R) (form : Form R) where
  abbrev rise : PositionsRise R
  rise = positions_rise R form

  -- of what is laid out before block 0 there is a list: the empty one
  none_yet : FlatUpTo R 0 0
  none_yet = record {
    places = [];
    each = λ c. (λ q. absurd (let z = q.1 in cc), λ q. absurd (nothing c q.0));
    in_order = λ j k c d a b lt. absurd (cc);
  }
    where
      nothing : (c : Place) → IsWalked R 0 0 c → ⊥
      nothing c (q, e, inl lt) = omega arith
      nothing c (q, e, inr w) = let z = w.1 in omega arith

  -- where two points of the walk have the same laid-out places behind them, a list up to the one is a list up to the other
  as_far : (p i q j : ℕ) → ((c : Place) → IsLaidOutAt R c → IsWalked R p i c ↔ IsWalked R q j c) → FlatUpTo R p i → FlatUpTo R q j
  as_far p i q j same f = record {
    places = f.places;
    each = λ c. (λ at. let w = (f.each c).0 at in ((same c w.1).0 w.0, w.1), λ w. (f.each c).1 ((same c w.1).1 w.0, w.1));
    in_order = f.in_order;
  }

  -- where c is in block p and its entry is laid out, the list of what is laid out before c goes on to that up to c itself
  push : (c : Place) (p : ℕ) (e : Entry) → EntryAt R c e → IsLaidOut e → IsBlockOf R c p → FlatUpTo R p c.index → FlatUpTo R p (c.index + 1)
  push c p e there laid b f = record { places = f.places ++ c ∷ []; each = λ d. (to d, from d); in_order = in_order }
    where
      to : (d : Place) → (k : ℕ) × (slice_get (f.places ++ c ∷ []) k ≡ Some d) → IsWalked R p (c.index + 1) d × IsLaidOutAt R d
      to d at = elim (get_cases f.places c d at.0 at.1) [
        | inl old ↦ (let w = (f.each d).0 (at.0, old) in ((walked_more R h is_list rise c p b d).1 (inl w.0), w.1))
        | inr new ↦ ((walked_more R h is_list rise c p b d).1 (inr new.1), subst (IsLaidOutAt R) (sym new.1) (e, there, laid))
      ]

      from : (d : Place) → IsWalked R p (c.index + 1) d × IsLaidOutAt R d → (k : ℕ) × (slice_get (f.places ++ c ∷ []) k ≡ Some d)
      from d w = elim ((walked_more R h is_list rise c p b d).0 w.0) [
        | inl old ↦ (let at = (f.each d).1 (old, w.1) in (at.0, get_kept f.places (c ∷ []) at.0 d at.1))
        | inr same ↦ (length f.places, get_new f.places c ∙ ap Some (sym same))
      ]

      in_order : (j k : ℕ) (x y : Place) → slice_get (f.places ++ c ∷ []) j ≡ Some x → slice_get (f.places ++ c ∷ []) k ≡ Some y → j < k →
          InFlatOrder R x y
      in_order j k x y a g lt = elim (get_cases f.places c x j a) [
        | inl first ↦ elim (get_cases f.places c y k g) [
          | inl second ↦ f.in_order j k x y first second lt
          | inr new ↦ subst (λ z. InFlatOrder R x z) (sym new.1) (walked_before R h is_list rise c p b x ((f.each x).0 (j, first)).0)
        ]
        | inr first ↦ elim (get_cases f.places c y k g) [
          | inl second ↦ absurd (let n = slice_get_within f.places k y second in let z = first.0 in omega arith)
          | inr new ↦ absurd (let z = first.0 in let y' = new.0 in omega arith)
        ]
      ]

  -- the block of the event at c
  module _ (p : ℕ) (c : Place) (s : Stamp) (event : IsEventAt R c p s) where
    -- each place of block p is in the list of c's thread
    own : (d : Place) → IsBlockOf R d p → d.thread ≡ c.thread
    own d b = one_thread R h is_list rise d c p b (block_of_event R rise c p s event)

    -- where place i of c's thread has no entry of block p that is laid out, the list up to place i is one up to i + 1 too
    pass : (i : ℕ) → ((d : Place) → IsLaidOutAt R d → IsBlockOf R d p → d ≡ record { thread = c.thread; index = i } → ⊥) → FlatUpTo R p i →
        FlatUpTo R p (i + 1)
    pass i none = as_far p i p (i + 1) (λ d laid. (
      walked_on R h is_list rise p i (i + 1) (omega arith) d,
      walked_other R h is_list rise c.thread p i own d (none d laid),
    ))

    -- whatever stands at place i of c's thread, the list of what is laid out up to place i of block p goes on to i + 1
    next : (i : ℕ) (o : Option Entry) → slice_get (R c.thread) i ≡ o → FlatUpTo R p i → FlatUpTo R p (i + 1)
    next i None at f = pass i (λ d laid b same. let z : EntryAt R (record { thread = c.thread; index = i }) laid.0 =
        subst (λ x. EntryAt R x laid.0) same laid.1 in cc) f
    next i (Some e) at f = elim (laid_or_not e) [
      | inr not ↦ pass i (λ d laid b same. not (subst IsLaidOut
          (same_entry R (record { thread = c.thread; index = i }) laid.0 e (subst (λ x. EntryAt R x laid.0) same laid.1) at) laid.2)) f
      | inl laid ↦ (let q = laid_block R form (record { thread = c.thread; index = i }) e at laid in elim (ℕ_discrete q.0 p) [
        | yes same ↦ push (record { thread = c.thread; index = i }) p e at laid
            (subst (λ z. IsBlockOf R (record { thread = c.thread; index = i }) z) same q.1) f
        | no ne ↦ pass i (λ d l b same. ne (one_block R rise (record { thread = c.thread; index = i }) q.0 p q.1
            (subst (λ z. IsBlockOf R z p) same b))) f
      ])
    ]

    -- from the list of what is laid out before block p comes that up to any place of block p
    of_list : (i : ℕ) → FlatUpTo R p 0 → FlatUpTo R p i
    of_list zero f = f
    of_list (suc i) f = rw (sym (add-one i)) (next i (slice_get (R c.thread) i) refl (of_list i f))

    -- from the list of what is laid out before block p comes that of what is laid out before block p + 1
    of_block : FlatUpTo R p 0 → FlatUpTo R (p + 1) 0
    of_block f = as_far p (length (R c.thread)) (p + 1) 0
        (λ d laid. walked_end R h is_list rise p (length (R c.thread)) d
        (λ b. subst (λ t. d.index < length (R t)) (own d b) (slice_get_within (R d.thread) d.index laid.0 laid.1)))
        (of_list (length (R c.thread)) f)

  -- for each n up to the number of events there is a list of what is laid out before block n
  up_to : (n : ℕ) → n ≤ length h → FlatUpTo R n 0
  up_to zero le = none_yet
  up_to (suc n) le =
      let s = event_at h n (omega arith) in
      let c = is_list.made n s.0 s.1 in
      rw (sym (add-one n)) (of_block n c.0 s.0 c.1 (up_to n (omega arith)))

  -- the record has a flat history
  pub history : (cs : List Place) × IsFlat R cs
  history = (f.places, record { each = λ c. (to c, from c); in_order = f.in_order })
    where
      f : FlatUpTo R (length h) 0
      f = up_to (length h) (omega arith)

      to : (c : Place) → Contains f.places c → IsLaidOutAt R c
      to c m = ((f.each c).0 (at_contains f.places c m)).1

      from : (c : Place) → IsLaidOutAt R c → Contains f.places c
      from c laid =
          let q = laid_block R form c laid.0 laid.1 laid.2 in
          let n : q.0 < length h = slice_get_within h q.0 q.1.event
          (is_list.listed (record { thread = c.thread; index = q.1.index }) q.0 q.1.event q.1.made) in
          let at = (f.each c).1 ((q.0, q.1, inl n), laid) in
          contains_at f.places at.0 c at.1
