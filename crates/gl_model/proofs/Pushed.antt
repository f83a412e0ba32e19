-- One entry more in a record.
use Rattle.std.proofs.Common.{◌≡◌, ◌≢◌, ℕ, zero, suc, ◌<◌, ◌≤◌, List, [], ◌∷◌, ◌++◌, length, get_or, map, refl, ap, sym, ◌∙◌, inl, inr, arith}
use Rattle.std.specs.Prelude.{Result, Ok, Err, OnOk, IfErr}
use Rattle.std.specs.List.{AllByRecursion, insert}
use Rattle.std.proofs.Math.ListN.{set}
use Rattle.std.proofs.lemmas.List.{map-append, get_or_default}
use Rattle.std.proofs.lemmas.Bool.{cases_lt}
use Rattle.std.proofs.lemmas.Bool.Decides.{nat_tests}
use Rattle.std.proofs.Math.Nat.{eq-or-lt_of_le}
use Rattle.gl_model.specs.declared.limits.TheConstants.{THREADS}
use Rattle.gl_model.specs.declared.record.Entry.{Entry as StoredEntry}
use Rattle.gl_model.specs.declared.record.ThreadList.{ThreadList}
use Rattle.gl_model.specs.Entries.{Entry, seen, list_seen}
use Rattle.gl_model.specs.Lists.{with_last}
use Rattle.gl_model.specs.Rising.{Rises}
use Rattle.gl_model.specs.Kept.{IsEntryKept, IsListKept, IsRecord}
use Rattle.gl_model.proofs.RisingLists.{weaker}

module _ (t : ℕ) (e : Entry) where
  -- where the first list is thread t's, the entry comes behind its entries
  pub with_last-same : (l : ℕ × List Entry) (ls : List (ℕ × List Entry)) → l.0 ≡ t → with_last t e (l ∷ ls) ≡ (t, l.1 ++ e ∷ []) ∷ ls
  with_last-same l ls same = grind (arith, nat_tests)

  -- where it is a later thread's, a list of t with the entry alone comes before it
  pub with_last-above : (l : ℕ × List Entry) (ls : List (ℕ × List Entry)) → t < l.0 → with_last t e (l ∷ ls) ≡ (t, e ∷ []) ∷ (l ∷ ls)
  with_last-above l ls above = grind (arith, nat_tests)

  -- where it is an earlier thread's, it stays, and the entry goes to the lists behind it
  pub with_last-below : (l : ℕ × List Entry) (ls : List (ℕ × List Entry)) → l.0 < t → with_last t e (l ∷ ls) ≡ l ∷ with_last t e ls
  with_last-below l ls below = grind (arith, nat_tests)

  module _ {A : Type 0} (f : A → ℕ × List Entry) where
    -- behind the entries of the list at i
    pub appended : (items : List A) (i : ℕ) (new : A) → i < length items → ((k : ℕ) → k < i → (f (get_or items k new)).0 < t)
        → (f (get_or items i new)).0 ≡ t → f new ≡ (t, (f (get_or items i new)).1 ++ e ∷ []) → map f (set items i new)
        ≡ with_last t e (map f items)
    appended [] i new n below same is = absurd (omega arith)
    appended (x ∷ xs) zero new n below same is = rw (with_last-same (f x) (map f xs) same) (ap (λ l. l ∷ map f xs) is)
    appended (x ∷ xs) (suc i) new n below same is =
        rw (with_last-below (f x) (map f xs) (below zero (omega arith)))
        (ap (λ ls. f x ∷ ls) (appended xs i new (omega arith) (λ k l. below (suc k) (omega arith)) same is))

    -- as a list of its own at i
    pub started : (items : List A) (i : ℕ) (new : A) → i ≤ length items → ((k : ℕ) → k < i → (f (get_or items k new)).0 < t)
        → (i < length items → t < (f (get_or items i new)).0) → f new ≡ (t, e ∷ []) → map f (insert items i new)
        ≡ with_last t e (map f items)
    started [] i new n below above is = let none : i ≡ zero = omega arith in rw (none, is)
    started (x ∷ xs) zero new n below above is = rw (is, with_last-above (f x) (map f xs) (above (omega arith)))
    started (x ∷ xs) (suc i) new n below above is =
        rw (with_last-below (f x) (map f xs) (below zero (omega arith)))
        (ap (λ ls. f x ∷ ls) (started xs i new (omega arith) (λ k l. below (suc k) (omega arith)) (λ l. above (omega arith)) is))

-- where all entries are kept, so are they with one more that is
All-last : (xs : List Entry) (e : Entry) → AllByRecursion IsEntryKept xs → IsEntryKept e → AllByRecursion IsEntryKept (xs ++ e ∷ [])
All-last [] e all kept = (kept, tt)
All-last (x ∷ xs) e all kept = (all.0, All-last xs e all.1 kept)

-- a list with an entry more has an entry
some-last : (xs : List Entry) (e : Entry) → 0 < length (xs ++ e ∷ [])
some-last [] e = omega arith
some-last (x ∷ xs) e = omega arith

-- what holds of each thread's number holds with t among them
All-with_last : (P : ℕ → Type 0) (t : ℕ) (e : Entry) (ls : List (ℕ × List Entry)) → P t → AllByRecursion P (map (λ l. l.0) ls)
    → AllByRecursion P (map (λ l. l.0) (with_last t e ls))
All-with_last P t e [] p all = (p, tt)
All-with_last P t e (l ∷ ls) p all = elim (cases_lt t l.0) [
  | inl above ↦ rw (with_last-above t e l ls above) (p, all)
  | inr ge ↦ elim (eq-or-lt_of_le ge) [
    | inl same ↦ rw (with_last-same t e l ls same) (p, all.1)
    | inr below ↦ rw (with_last-below t e l ls below) (all.0, All-with_last P t e ls p all.1)
  ]
]

-- the threads of a record rise with one entry more
Rises-with_last : (t : ℕ) (e : Entry) (ls : List (ℕ × List Entry)) → Rises (map (λ l. l.0) ls) → Rises (map (λ l. l.0) (with_last t e ls))
Rises-with_last t e [] rises = (tt, tt)
Rises-with_last t e (l ∷ ls) rises = elim (cases_lt t l.0) [
  | inl above ↦ rw (with_last-above t e l ls above)
      ((above, weaker (λ z. l.0 < z) (λ z. t < z) (λ z m. omega arith) (map (λ m. m.0) ls) rises.0), rises)
  | inr ge ↦ elim (eq-or-lt_of_le ge) [
    | inl same ↦ rw (with_last-same t e l ls same) (rw same at rises)
    | inr below ↦ rw (with_last-below t e l ls below) (All-with_last (λ z. l.0 < z) t e ls below rises.0, Rises-with_last t e ls rises.1)
  ]
]

-- the lists of a record are kept with one entry more that is
kept-with_last : (t : ℕ) (e : Entry) (ls : List (ℕ × List Entry)) → t < THREADS → IsEntryKept e → AllByRecursion IsListKept ls
    → AllByRecursion IsListKept (with_last t e ls)
kept-with_last t e [] within kept all = ((within, omega arith, (kept, tt)), tt)
kept-with_last t e (l ∷ ls) within kept all = elim (cases_lt t l.0) [
  | inl above ↦ rw (with_last-above t e l ls above) ((within, omega arith, (kept, tt)), all)
  | inr ge ↦ elim (eq-or-lt_of_le ge) [
    | inl same ↦ rw (with_last-same t e l ls same) ((within, some-last l.1 e, All-last l.1 e all.0.2 kept), all.1)
    | inr below ↦ rw (with_last-below t e l ls below) (all.0, kept-with_last t e ls within kept all.1)
  ]
]

-- a record is one with one entry more of a thread that there is
pub IsRecord-with_last : (t : ℕ) (e : Entry) (ls : List (ℕ × List Entry)) → t < THREADS → IsEntryKept e → IsRecord ls
    → IsRecord (with_last t e ls)
IsRecord-with_last t e ls within kept is = (Rises-with_last t e ls is.0, kept-with_last t e ls within kept is.1)

-- what follows from what holds of a success holds of it
pub on_ok : {T E : Type 0} (r : Result T E) (P Q : Type 0) → (P → Q) → OnOk r P → OnOk r Q
on_ok (Ok x) P Q f p = f p
on_ok (Err x) P Q f p = tt

-- the lists of a record, as they are stored
module _ (ds items new : List ThreadList) (i t : ℕ) (entry : StoredEntry) (same : ds ≡ items) (below : (k : ℕ) (d : ThreadList) → k < i
    → (get_or ds k d).thread < t) where
  -- where the list at i is thread t's, storing the entry behind its entries gives the record with the entry
  pub append_seen : (at : ThreadList) → i < length items → at ≡ get_or items i at → at.thread ≡ t → (list : ThreadList)
      × (list.thread ≡ (get_or items i list).thread) × (list.entries.items ≡ (get_or items i list).entries.items ++ entry ∷ [])
      × (new ≡ set items i list) → map list_seen new ≡ with_last t (seen entry) (map list_seen items)
  append_seen at n is own w =
      let here : get_or items i at ≡ get_or items i w.0 = get_or_default items i at w.0 n in
      let old : (get_or items i w.0).thread ≡ t = ap (λ (l : ThreadList). l.thread) (sym (is ∙ here)) ∙ own in
      let more : map seen w.0.entries.items ≡ map seen (get_or items i w.0).entries.items ++ seen entry ∷ [] = ap (map seen) w.2
      ∙ map-append seen (get_or items i w.0).entries.items (entry ∷ []) in
      let less : (k : ℕ) → k < i → (list_seen (get_or items k w.0)).0 < t = λ k l. rw same at (below k w.0 l) in
      rw w.3 (appended t (seen entry) list_seen items i w.0 n less old (λ j. ((w.1 ∙ old) j, more j)))

  -- where the list at i, if there is one, is a later thread's, putting in a list of t with the entry alone gives the record with the entry
  pub start_seen : i ≤ length items → ((d : ThreadList) → i < length items → t < (get_or items i d).thread) → (list : ThreadList)
      × (list.thread ≡ t) × (list.entries.items ≡ entry ∷ []) × (new ≡ insert items i list) → map list_seen new
      ≡ with_last t (seen entry) (map list_seen items)
  start_seen n above w =
      let less : (k : ℕ) → k < i → (list_seen (get_or items k w.0)).0 < t = λ k l. rw same at (below k w.0 l) in
      rw w.3 (started t (seen entry) list_seen items i w.0 n less (above w.0) (λ j. (w.1 j, ap (map seen) w.2 j)))

-- a list whose thread is not below t and is not t is of a thread above it
pub above_default : (items : List ThreadList) (i t : ℕ) (at d : ThreadList) → i < length items → at ≡ get_or items i at → at.thread ≢ t
    → ((e : ThreadList) → i < length items → t ≤ (get_or items i e).thread) → t < (get_or items i d).thread
above_default items i t at d n is other here =
    let same : at.thread ≡ (get_or items i d).thread = ap (λ (l : ThreadList). l.thread) (is ∙ get_or_default items i at d n) in
    let le : t ≤ (get_or items i d).thread = here d n in
    omega arith

-- what follows from what holds of a failure holds of it
pub on_err : {T E : Type 0} (r : Result T E) (P Q : E → Type 0) → ((e : E) → P e → Q e) → IfErr r P → IfErr r Q
on_err (Ok x) P Q f p = tt
on_err (Err x) P Q f p = f x p

-- a member that is replaced by one with the same image leaves all images as they were
set_kept : {A B : Type 0} (f : A → B) (xs : List A) (i : ℕ) (new : A) → i < length xs → f new ≡ f (get_or xs i new) → map f (set xs i new)
    ≡ map f xs
set_kept f [] i new n same = absurd (omega arith)
set_kept f (x ∷ xs) zero new n same = ap (λ y. y ∷ map f xs) same
set_kept f (x ∷ xs) (suc i) new n same = ap (λ ys. f x ∷ ys) (set_kept f xs i new (omega arith) same)

module _ (items : List ThreadList) (i : ℕ) (at new : ThreadList) (n : i < length items) (is : at ≡ get_or items i at) where
  -- the list stands at i, whatever is taken where there is none
  here : at ≡ get_or items i new
  here = is ∙ get_or_default items i at new n

  -- the list has grown by the entry
  pub grown : (entry : StoredEntry) → new.thread ≡ at.thread → new.entries.items ≡ at.entries.items ++ entry ∷ [] → (list : ThreadList)
      × (list.thread ≡ (get_or items i list).thread) × (list.entries.items ≡ (get_or items i list).entries.items ++ entry ∷ [])
      × (set items i new ≡ set items i list)
  grown entry thread entries = (
    new,
    thread ∙ ap (λ (l : ThreadList). l.thread) here,
    entries
        ∙ ap (λ (l : ThreadList). l.entries.items ++ entry ∷ []) here,
    refl,
  )

  -- it was to grow, and did not
  pub put_back : new.thread ≡ at.thread → new.entries.items ≡ at.entries.items → map list_seen (set items i new) ≡ map list_seen items
  put_back thread entries = set_kept list_seen items i new n
      (λ j. ((thread ∙ ap (λ (l : ThreadList). l.thread) here) j, map seen ((entries ∙ ap (λ (l : ThreadList). l.entries.items) here) j)))

-- a record keeps to its rules whether the entry was put in or came back
pub still_record : {T E : Type 0} (r : Result T E) (P : E → Type 0) (t : ℕ) (e : Entry) (old new : List (ℕ × List Entry))
    → OnOk r (new ≡ with_last t e old) → IfErr r (λ x. P x × (new ≡ old)) → t < THREADS → IsEntryKept e → IsRecord old → IsRecord new
still_record (Ok x) P t e old new ok err within kept is = rw ok (IsRecord-with_last t e old within kept is)
still_record (Err x) P t e old new ok err within kept is = rw err.1 is
