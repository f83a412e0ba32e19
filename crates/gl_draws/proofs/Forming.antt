-- The form of a list with one entry more; and how many events and entries there are.
use Rattle.std.proofs.Common.{◌≡◌, ◌≢◌, ℕ, zero, suc, ◌+◌, ◌*◌, ◌<◌, ◌≤◌, ◌==◌, List, [], ◌∷◌, ◌++◌, length, sym, refl, ap, subst, arith, ◌∙◌, inl, inr, Some, true, false, Bool, eq-eqb, ne_eqb, length-append}
use Rattle.std.specs.Prelude.{ℤ, ◌↔◌}
use Rattle.std.specs.List.{All}
use Rattle.std.proofs.lemmas.List.Elements.{All-head, All-tail}
use native.Mathlib.Decide.{ℕ_discrete}
use Rattle.gl_model.specs.declared.event.Stamp.{Stamp}
use Rattle.gl_model.specs.Entries.{Entry, Sync, Commit, Plain, Abort, Trim, Over}
use Rattle.gl_model.specs.Form.{At, EntryForm, IsTrim, IsBegin, IsEnd, IsOver, HasRight}
use Rattle.std.proofs.Common.{take}
use Rattle.std.proofs.lemmas.List.{take_all}
use Rattle.gl_model.specs.Records.{position_of}
use Rattle.gl_draws.specs.Ties.{counted, last_position}
use Rattle.gl_draws.proofs.DrawPlaces.{last_event}
use Rattle.gl_draws.proofs.Pushes.{at_kept, at_cases, at_within}
use Rattle.gl_draws.specs.Cached.{IsLastValue}
use Rattle.gl_draws.specs.Forming.{events_by, IsFormed, MayStore}

-- a right that was there is there in the list with one entry more
right_kept : (es : List Entry) (e : Entry) (i x k : ℕ) (write : Bool) → i ≤ length es → HasRight es i x k write
    → HasRight (es ++ e ∷ []) i x k write
right_kept es e i x k write le r = record {
  index = r.index;
  entry = r.entry;
  there = at_kept es (e ∷ []) r.index r.entry r.there;
  before = r.before;
  by_write = r.by_write;
  gives = r.gives;
  enough = r.enough;
  no_event = λ j f at lt up. elim (at_cases es e f j at) [
    | inl old ↦ r.no_event j f old lt up
    | inr new ↦ absurd (let n = new.0 in omega arith)
  ];
  latest = λ j m f w at lt up g. elim (at_cases es e f j at) [
    | inl old ↦ r.latest j m f w old lt up g
    | inr new ↦ absurd (let n = new.0 in omega arith)
  ];
}

-- the last value before a place is the same in the list with one entry more
value_kept : (es : List Entry) (e : Entry) (i x : ℕ) (value : ℤ) → i ≤ length es → IsLastValue es i x value
    → IsLastValue (es ++ e ∷ []) i x value
value_kept es e i x value le r = record {
  index = r.index;
  entry = r.entry;
  there = at_kept es (e ∷ []) r.index r.entry r.there;
  before = r.before;
  has = r.has;
  latest = λ j f v at lt up g. elim (at_cases es e f j at) [
    | inl old ↦ r.latest j f v old lt up g
    | inr new ↦ absurd (let n = new.0 in omega arith)
  ];
}

-- what equals an entry that is no trim is none
is_trim : (e f : Entry) → f ≡ e → (IsTrim f → ⊥) → IsTrim e → ⊥
is_trim e f same not t = not (subst IsTrim (sym same) t)

-- a list that is formed stays so with an entry that may be stored next
pub formed_push : (t : ℕ) (es : List Entry) (e : Entry) → MayStore t es e → IsFormed t es → IsFormed t (es ++ e ∷ [])
formed_push t es e may k = record {
  well_formed = λ i f at. elim (at_cases es e f i at) [
    | inl old ↦ k.well_formed i f old
    | inr new ↦ subst (EntryForm t) (sym new.1) may.well_formed
  ];
  begins = λ i f at not all. elim (at_cases es e f i at) [
    | inl old ↦ k.begins i f old not (λ j g a lt. all j g (at_kept es (e ∷ []) j g a) lt)
    | inr new ↦ subst IsBegin (sym new.1) (may.begins (is_trim e f new.1 not)
        (λ j g a. all j g (at_kept es (e ∷ []) j g a) (let n = new.0 in let w = at_within es j g a in omega arith)))
  ];
  lows_rise = λ i j low high a b lt. elim (at_cases es e (Trim high) j b) [
    | inl old ↦ elim (at_cases es e (Trim low) i a) [
      | inl old' ↦ k.lows_rise i j low high old' old lt
      | inr new ↦ absurd (let n = new.0 in let w = at_within es j (Trim high) old in omega arith)
    ]
    | inr new ↦ elim (at_cases es e (Trim low) i a) [
      | inl old' ↦ may.lows i low high old' (sym new.1)
      | inr new' ↦ absurd (let n = new.0 in let m = new'.0 in omega arith)
    ]
  ];
  over_after_end = λ i f g a b. elim (at_cases es e g (i + 1) b) [
    | inl old ↦ elim (at_cases es e f i a) [
      | inl old' ↦ k.over_after_end i f g old' old
      | inr new ↦ absurd (let n = new.0 in let w = at_within es (i + 1) g old in omega arith)
    ]
    | inr new ↦ elim (at_cases es e f i a) [
      | inl old' ↦ subst (λ z. IsEnd f ↔ IsOver z) (sym new.1) (may.after_end i f old' (sym new.0))
      | inr new' ↦ absurd (let n = new.0 in let m = new'.0 in omega arith)
    ]
  ];
  nothing_after = λ i f a over. elim (at_cases es e f i a) [
    | inl old ↦ absurd (may.open_still i f old over)
    | inr new ↦ (let n = new.0 in omega (arith, length-append es (e ∷ [])))
  ];
  repeats = λ i x n value a. elim (at_cases es e (Plain x n true false value false) i a) [
    | inl old ↦ value_kept es e i x value (let w = at_within es i (Plain x n true false value false) old in omega arith)
        (k.repeats i x n value old)
    | inr new ↦ subst (λ z. IsLastValue (es ++ e ∷ []) z x value) (sym new.0)
        (value_kept es e (length es) x value (omega arith) (may.repeats x n value (sym new.1)))
  ];
  cached = λ i x n write value a. elim (at_cases es e (Plain x n true write value false) i a) [
    | inl old ↦ right_kept es e i x n write (let w = at_within es i (Plain x n true write value false) old in omega arith)
        (k.cached i x n write value old)
    | inr new ↦ subst (λ z. HasRight (es ++ e ∷ []) z x n write) (sym new.0)
        (right_kept es e (length es) x n write (omega arith) (may.cached x n write value (sym new.1)))
  ];
}

-- an entry more that is no trim is one more that counts
pub counted_push : (es : List Entry) (e : Entry) → (IsTrim e → ⊥) → counted (es ++ e ∷ []) ≡ suc (counted es)
counted_push [] (Sync a b c) not = refl
counted_push [] (Commit a b) not = refl
counted_push [] (Plain a b c d f g) not = refl
counted_push [] (Abort a b) not = refl
counted_push [] (Trim a) not = absurd (not tt)
counted_push [] (Over a) not = refl
counted_push (Sync a b c ∷ es) e not = ap suc (counted_push es e not)
counted_push (Commit a b ∷ es) e not = ap suc (counted_push es e not)
counted_push (Plain a b c d f g ∷ es) e not = ap suc (counted_push es e not)
counted_push (Abort a b ∷ es) e not = ap suc (counted_push es e not)
counted_push (Trim a ∷ es) e not = counted_push es e not
counted_push (Over a ∷ es) e not = ap suc (counted_push es e not)

-- an event more of the thread, at the end, is one more in its count
pub by_own : (t : ℕ) (xs : List Stamp) (x : Stamp) → x.thread ≡ t → events_by t (xs ++ x ∷ []) ≡ suc (events_by t xs)
by_own t [] x e = let b : (x.thread == t) ≡ true = eq-eqb x.thread t e in rw b refl
by_own t (y ∷ xs) x e = here (ℕ_discrete y.thread t) (by_own t xs x e)
  where
    here : Dec (y.thread ≡ t) → events_by t (xs ++ x ∷ []) ≡ suc (events_by t xs) → events_by t (y ∷ xs ++ x ∷ [])
        ≡ suc (events_by t (y ∷ xs))
    here (yes s) r = let b : (y.thread == t) ≡ true = eq-eqb y.thread t s in rw b (ap suc r)
    here (no s) r = let b : (y.thread == t) ≡ false = ne_eqb y.thread t s in rw b r

-- an event more of another thread changes its count in nothing
pub by_other : (t : ℕ) (xs : List Stamp) (x : Stamp) → x.thread ≢ t → events_by t (xs ++ x ∷ []) ≡ events_by t xs
by_other t [] x e = let b : (x.thread == t) ≡ false = ne_eqb x.thread t e in rw b refl
by_other t (y ∷ xs) x e = here (ℕ_discrete y.thread t) (by_other t xs x e)
  where
    here : Dec (y.thread ≡ t) → events_by t (xs ++ x ∷ []) ≡ events_by t xs → events_by t (y ∷ xs ++ x ∷ []) ≡ events_by t (y ∷ xs)
    here (yes s) r = let b : (y.thread == t) ≡ true = eq-eqb y.thread t s in rw b (ap suc r)
    here (no s) r = let b : (y.thread == t) ≡ false = ne_eqb y.thread t s in rw b r

-- how many events the threads below n made
abbrev total : ℕ → List Stamp → ℕ
total zero ds = 0
total (suc n) ds = events_by n ds + total n ds

-- an event of the thread at the head is one more in its count
hit : (t : ℕ) (d : Stamp) (ds : List Stamp) → d.thread ≡ t → events_by t (d ∷ ds) ≡ suc (events_by t ds)
hit t d ds e = let b : (d.thread == t) ≡ true = eq-eqb d.thread t e in rw b refl

-- an event of another thread at the head changes its count in nothing
miss : (t : ℕ) (d : Stamp) (ds : List Stamp) → d.thread ≢ t → events_by t (d ∷ ds) ≡ events_by t ds
miss t d ds other = let b : (d.thread == t) ≡ false = ne_eqb d.thread t other in rw b refl

-- an event of a thread that is not below n is not in the sum
total_out : (n : ℕ) (d : Stamp) (ds : List Stamp) → n ≤ d.thread → total n (d ∷ ds) ≡ total n ds
total_out zero d ds le = refl
total_out (suc n) d ds le =
    let r = total_out n d ds (omega arith) in
    let other : d.thread ≢ n = λ e. omega arith in
    let p = miss n d ds other in omega arith

-- an event of a thread below n is one more in the sum
total_in : (n : ℕ) (d : Stamp) (ds : List Stamp) → d.thread < n → total n (d ∷ ds) ≡ suc (total n ds)
total_in zero d ds lt = absurd (omega arith)
total_in (suc n) d ds lt = here (ℕ_discrete d.thread n) (λ l. total_in n d ds l)
  where
    here : Dec (d.thread ≡ n) → (d.thread < n → total n (d ∷ ds) ≡ suc (total n ds)) → total (suc n) (d ∷ ds) ≡ suc (total (suc n) ds)
    here (yes e) rec = let p = hit n d ds e in let r = total_out n d ds (omega arith) in omega arith
    here (no other) rec = let p = miss n d ds other in let r = rec (omega arith) in omega arith

-- of no events the sum is 0
total_none : (n : ℕ) → total n [] ≡ 0
total_none zero = refl
total_none (suc n) = let r = total_none n in omega arith

-- where all threads are below n, the sum over those is the number of events
total_all : (P : Stamp → Type 0) (n : ℕ) (ds : List Stamp) → ((d : Stamp) → P d → d.thread < n) → All P ds → total n ds ≡ length ds
total_all P n [] f all = total_none n
total_all P n (d ∷ ds) f all = total_in n d ds (f d (All-head P d ds all)) ∙ ap suc (total_all P n ds f (All-tail P d ds all))

-- where each thread made at most m events, the sum over n threads is at most n * m
total_most : (n m : ℕ) (ds : List Stamp) → ((t : ℕ) → events_by t ds ≤ m) → total n ds ≤ n * m
total_most zero m ds few = omega arith
total_most (suc n) m ds few = let r = total_most n m ds few in let f = few n in let s : suc n * m
    ≡ m + n * m = grind (arith, Rattle.std.proofs.Common.suc-mul) in omega arith

-- n threads with at most m events each made at most n * m events
pub log_bound : (P : Stamp → Type 0) (n m : ℕ) (ds : List Stamp) → ((d : Stamp) → P d → d.thread < n) → All P ds
    → ((t : ℕ) → events_by t ds ≤ m) → length ds ≤ n * m
log_bound P n m ds f all few = let a = total_all P n ds f all in let b = total_most n m ds few in omega arith

-- a list without End has no Over
pub none_over : (t : ℕ) (es : List Entry) → IsFormed t es → ((i : ℕ) (e : Entry) → At es i e → IsEnd e → ⊥) → (i : ℕ) (e : Entry)
    → At es i e → IsOver e → ⊥
none_over t es k open_list zero e at over =
    begin_over e over (k.begins zero e at (λ trim. trim_over e trim over) (λ j f a lt. absurd (omega arith)))
  where
    trim_over : (e : Entry) → IsTrim e → IsOver e → ⊥
    trim_over (Sync a b c) t o = t
    trim_over (Commit a b) t o = t
    trim_over (Plain a b c d f g) t o = t
    trim_over (Abort a b) t o = t
    trim_over (Trim a) t o = o
    trim_over (Over a) t o = t

    begin_over : (e : Entry) → IsOver e → IsBegin e → ⊥
    begin_over (Sync a b c) o t = o
    begin_over (Commit a b) o t = o
    begin_over (Plain a b c d f g) o t = o
    begin_over (Abort a b) o t = o
    begin_over (Trim a) o t = o
    begin_over (Over a) o t = t
none_over t es k open_list (suc i) e at over =
    let w = at_within es (suc i) e at in
    let f = entry_there es i (omega arith) in
    let same : i + 1 ≡ suc i = omega arith in
    open_list i f.0 f.1 ((k.over_after_end i f.0 e f.1 (subst (λ z. At es z e) (sym same) at)).1 over)
  where
    entry_there : (es : List Entry) (i : ℕ) → i < length es → (f : Entry) × At es i f
    entry_there [] i near = absurd (omega arith)
    entry_there (x ∷ xs) zero near = (x, refl)
    entry_there (x ∷ xs) (suc i) near = entry_there xs i (omega arith)

-- an entry that a running thread may store next
pub store_running : (t p : ℕ) (es : List Entry) (e : Entry) → IsFormed t es → last_position es ≡ Some p
    → ((i : ℕ) (f : Entry) → At es i f → IsEnd f → ⊥) → EntryForm t e → (IsTrim e → ⊥) → (IsOver e → ⊥)
    → ((x k : ℕ) (write : Bool) (value : _) → e ≡ Plain x k true write value false → HasRight es (length es) x k write)
    → ((x k : ℕ) (value : _) → e ≡ Plain x k true false value false → IsLastValue es (length es) x value) → MayStore t es e
store_running t p es e k last open_list formed no_trim no_over cached repeats = record {
  repeats = repeats;
  well_formed = formed;
  begins = λ not all.
      let whole : take (length es) es ≡ es = take_all (length es) es (omega arith) in
      let l = last_event es (length es) p (ap last_position whole ∙ last) in
      absurd (event_trim l.entry p l.position (all l.index l.entry l.there));
  lows = λ i low high at same. absurd (no_trim (subst IsTrim (sym same) tt));
  after_end = λ i f at is. ((λ z. absurd (open_list i f at z)), λ z. absurd (no_over z));
  open_still = none_over t es k open_list;
  cached = cached;
}
  where
    event_trim : (e : Entry) (p : ℕ) → position_of e ≡ Some p → IsTrim e → ⊥
    event_trim (Sync a b c) p e t = t
    event_trim (Commit a b) p e t = t
    event_trim (Plain a b c d f g) p e t = t
    event_trim (Abort a b) p e t = t
    event_trim (Trim a) p e t = cc
    event_trim (Over a) p e t = t
