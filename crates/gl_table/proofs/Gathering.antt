-- The passes of a table, one after another, while their lists are gathered.
use Rattle.std.proofs.Common.{◌≡◌, ℕ, zero, suc, ◌+◌, ◌<◌, List, [], ◌∷◌, ◌++◌, length, length-append, map, sym, refl, ap, subst, arith, ◌∙◌, ⊎_elim, true, false, Bool, ◌==◌}
use Rattle.std.specs.Prelude.{slice_get, Some, Contains, ◌≢◌}
use Rattle.std.specs.List.{AllByRecursion}
use Rattle.std.proofs.lemmas.List.{map-append}
use Rattle.std.proofs.lemmas.Option.{slice_get_within}
use mathlib.Core.Option.{some}
use lib.ListN.{get_elem?}
use Rattle.atomic_table.specs.Table as table
use Rattle.atomic_table.specs.Seated.{TableId}
use Rattle.atomic_table.proofs.Lists.{at_set}
use Rattle.gl_model.specs.Entries.{Entry, Sync, Commit, Plain, Abort, Trim, Over}
use Rattle.gl_model.specs.Form.{At}
use Rattle.gl_model.specs.Kept.{IsEntryKept, IsRecord, IsListKept}
use Rattle.gl_model.specs.Lists.{lists_of}
use Rattle.gl_model.specs.Rising.{Rises}
use Rattle.gl_draws.specs.Cached.{IsEntryRising}
use Rattle.gl_rule.specs.declared.slot.Slot.{Slot}
use Rattle.gl_rule.specs.Bounded.{IsBounded}
use Rattle.gl_rule.specs.Closed.{IsDone, kept_lists, lists_in, with_list}
use Rattle.gl_rule.specs.Laws.{HasAll}
use Rattle.gl_rule.specs.Objects.{Key}
use Rattle.gl_rule.specs.Rule.{Rule}
use Rattle.gl_rule.specs.View.{View, Shelf, both, blank}
use Rattle.gl_rule.proofs.Ending.{drew_all, paid_all, both_done}
use Rattle.gl_rule.proofs.Seats.{joins}
use Rattle.gl_model.specs.Lawful.{IsLawful}
use Rattle.gl_model.specs.Records.{Place, EntryAt}
use Rattle.gl_rule.proofs.KeptLists.{kept_are}
use Rattle.gl_table.specs.Ending.{IsDonePass, AreAllDone, IsRoot, IsTrimmed, ClosedTold, shelves_of, mine_at}
use Rattle.gl_table.specs.PassView.{PassView, shelf_of}

-- what is in a one-element list is its element
one_in : (s r : Shelf) → Contains (s ∷ []) r → s ≡ r
one_in s r (zero, near, is) = is
one_in s r (suc k, near, is) = absurd (omega arith)

-- each list of a view that has one
one_done : (u : View) (r : Shelf) → u.shelves ≡ r ∷ [] → IsDone r.marked u.quiet → (s : Shelf) → Contains u.shelves s
    → IsDone s.marked u.quiet
one_done u r one done s c = subst (λ (z : Shelf). IsDone z.marked u.quiet) (one_in r s (subst (λ l. Contains l s) one c)) done

-- the root takes in the list of a pass that is done
pub joins_root : (key : Key) (id other : ℕ) (me : table.Me Slot View) (u : View) (ps : List PassView) (r : Shelf) → IsRoot me ps
    → u.shelves ≡ r ∷ [] → u.held ≡ [] → IsDone r.marked u.quiet → table.Joins (Rule key) id me.0 other u (both me.0 u) (blank [])
joins_root key id other me u ps r root one free done st rule at apart there =
    let w = rule.0 in
    let H = rule.1 in
    let v = me.0 in
    let there' : get_elem? st.views other ≡ some u =
    ⊎_elim (λ (t : (other ≡ id) × (both v u ≡ u)). absurd (apart t.0)) (λ (t : (other ≢ id) × (get_elem? st.views other ≡ some u)). t.1)
    (at_set st.views id other (both v u) u there) in
    let has : Contains u.shelves r = subst (λ l. Contains l r) (sym one) (zero, omega arith, refl) in
    let all = one_done u r one done in
    joins key id other v u r root.unread has free root.held (drew_all key w st other u H there' free all r has) root.drawn root.stored
    (paid_all key w st other u H there' free all) root.owed st rule at apart there

-- the root's pass is still the root's after one more pass that is done is joined to it
pub root_more : (me : table.Me Slot View) (u : View) (ps : List PassView) (p : PassView) → IsRoot me ps → u.shelves ≡ shelf_of p ∷ []
    → IsDone p.own.mine u.quiet → IsRoot (both me.0 u, me.1) (ps ++ p ∷ [])
root_more me u ps p root one done = record {
  unread = λ e. absurd (let l = length-append me.0.shelves u.shelves in let n : length (me.0.shelves ++ u.shelves) ≡ 0 = ap length e
      in let m : length u.shelves ≡ 1 = ap length one in omega arith);
  out = root.out;
  shelves = ap (λ l. l ++ u.shelves) root.shelves ∙ ap (λ l. shelves_of ps ++ l) one ∙ sym (map-append shelf_of ps (p ∷ []));
  held = root.held;
  drawn = root.drawn;
  stored = root.stored;
  owed = root.owed;
  done = both_done me.0 u root.done (one_done u (shelf_of p) one done);
}

-- the lists of the passes but one, and then that one's
pub kept_more : (ps : List Shelf) (s : Shelf) → kept_lists (ps ++ s ∷ []) ≡ kept_lists ps ++ kept_lists (s ∷ [])
kept_more [] s = refl
kept_more (r ∷ ps) s = by r.marked (kept_more ps s)
  where
    by : (l : List Entry) → kept_lists (ps ++ s ∷ []) ≡ kept_lists ps ++ kept_lists (s ∷ [])
        → with_list r.thread l (kept_lists (ps ++ s ∷ [])) ≡ with_list r.thread l (kept_lists ps) ++ kept_lists (s ∷ [])
    by [] rest = rest
    by (e ∷ es) rest = ap (λ l. (r.thread, e ∷ es) ∷ l) rest

-- the lists of passes and one more pass are theirs and then its
pub shelves_more : (ps : List PassView) (p : PassView) → shelves_of (ps ++ p ∷ []) ≡ shelves_of ps ++ shelf_of p ∷ []
shelves_more ps p = map-append shelf_of ps (p ∷ [])

-- the lists of threads below t are behind none of t
kept_below : (t : ℕ) (ps : List PassView) → ((j : ℕ) (p : PassView) → slice_get ps j ≡ Some p → p.own.id < t)
    → AllByRecursion (λ (l : ℕ × List Entry). l.0 < t) (kept_lists (shelves_of ps))
kept_below t [] below = tt
kept_below t (p ∷ ps) below = by p.own.mine (kept_below t ps (λ j q at. below (suc j) q at))
  where
    by : (l : List Entry) → AllByRecursion (λ (l : ℕ × List Entry). l.0 < t) (kept_lists (shelves_of ps))
        → AllByRecursion (λ (l : ℕ × List Entry). l.0 < t) (with_list p.own.id l (kept_lists (shelves_of ps)))
    by [] rest = rest
    by (e ∷ es) rest = (below 0 p refl, rest)

-- what stands in the first of two lists stands there in both together
get_front : {A : Type 0} (xs ys : List A) (j : ℕ) (x : A) → slice_get xs j ≡ Some x → slice_get (xs ++ ys) j ≡ Some x
get_front [] ys j x e = absurd (cc)
get_front (a ∷ xs) ys zero x e = e
get_front (a ∷ xs) ys (suc j) x e = get_front xs ys j x e

-- an element between two lists stands at the length of the first
get_mid : {A : Type 0} (xs : List A) (x : A) (ys : List A) → slice_get (xs ++ x ∷ ys) (length xs) ≡ Some x
get_mid [] x ys = refl
get_mid (a ∷ xs) x ys = get_mid xs x ys

-- the pass behind those that were gathered
pub next_done : (z : TableId) (all xs ys : List PassView) (p : PassView) → AreAllDone z all → xs ++ p ∷ ys ≡ all
    → IsDonePass z (length xs) p
next_done z all xs ys p are is = are.each (length xs) p (subst (λ l. slice_get l (length xs) ≡ Some p) is (get_mid xs p ys))

-- the thread of the next pass is above those whose lists were kept before it
pub next_behind : (z : TableId) (all xs ys : List PassView) (p : PassView) → AreAllDone z all → xs ++ p ∷ ys ≡ all
    → AllByRecursion (λ (l : ℕ × List Entry). l.0 < p.own.id) (kept_lists (shelves_of xs))
next_behind z all xs ys p are is = kept_below p.own.id xs (λ j q at.
    let near = slice_get_within xs j q at in
    let mine = (are.each j q (subst (λ l. slice_get l j ≡ Some q) is (get_front xs (p ∷ ys) j q at))).id in
    let own = (next_done z all xs ys p are is).id in
    omega arith)

-- a list of length zero is empty
pub nothing_left : {X : Type 0} (l : List X) → length l ≡ 0 → l ≡ []
nothing_left [] h = refl
nothing_left (x ∷ xs) h = absurd (omega arith)

-- below the length of a list there is an element
get_there : {A : Type 0} (xs : List A) (j : ℕ) → j < length xs → (x : A) × (slice_get xs j ≡ Some x)
get_there [] j near = absurd (omega arith)
get_there (x ∷ xs) zero near = (x, refl)
get_there (x ∷ xs) (suc j) near = get_there xs j (omega arith)

-- the list of a pass that is among the passes is among their lists
shelf_there : (ps : List PassView) (j : ℕ) (p : PassView) → slice_get ps j ≡ Some p → Contains (shelves_of ps) (shelf_of p)
shelf_there [] j p e = absurd (cc)
shelf_there (q ∷ ps) zero p e = let same : q ≡ p = cc in (zero, omega arith, ap shelf_of same)
shelf_there (q ∷ ps) (suc j) p e = let r = shelf_there ps j p e in let near = r.1 in (suc r.0, omega arith, r.2)

-- the root has all lists
pub has_all : (z : TableId) (ps : List PassView) (me : table.Me Slot View) → AreAllDone z ps → IsRoot me ps → HasAll me.0
has_all z ps me are root = record {
  held = root.held;
  all = λ t near.
      let q = get_there ps t (let n = are.count in omega arith) in
      (shelf_of q.0, subst (λ l. Contains l (shelf_of q.0)) (sym root.shelves) (shelf_there ps t q.0 q.1), (are.each t q.0 q.1).id);
  done = root.done;
}

-- the threads of the lists rise
rises_from : (t : ℕ) (ps : List PassView) → ((j : ℕ) (p : PassView) → slice_get ps j ≡ Some p → p.own.id ≡ t + j)
    → Rises (map (λ (s : Shelf). s.thread) (shelves_of ps))
rises_from t [] ids = tt
rises_from t (p ∷ ps) ids =
    let here : p.own.id ≡ t = (let a = ids 0 p refl in omega arith) in
    let next : (j : ℕ) (q : PassView) → slice_get ps j ≡ Some q → q.own.id
    ≡ suc t + j = λ j q at. (let a = ids (suc j) q at in omega arith) in
    (above (suc t) p.own.id ps next (omega arith), rises_from (suc t) ps next)
  where
    above : (u n : ℕ) (ps : List PassView) → ((j : ℕ) (q : PassView) → slice_get ps j ≡ Some q → q.own.id ≡ u + j) → n < u
        → AllByRecursion (λ y. n < y) (map (λ (s : Shelf). s.thread) (shelves_of ps))
    above u n [] ids less = tt
    above u n (q ∷ ps) ids less = (
      (let a = ids 0 q refl in omega arith),
      above (suc u) n ps (λ j r at. let a = ids (suc j) r at
          in omega arith) (omega arith),
    )

-- the threads of done passes in order rise
pub rises : (z : TableId) (ps : List PassView) → AreAllDone z ps → Rises (map (λ (s : Shelf). s.thread) (shelves_of ps))
rises z ps are = rises_from 0 ps (λ j p at. let a = (are.each j p at).id in omega arith)

-- in a list of kept entries, each entry is kept
all_at : (es : List Entry) (i : ℕ) (e : Entry) → AllByRecursion IsEntryKept es → At es i e → IsEntryKept e
all_at [] i e all at = absurd (cc)
all_at (y ∷ es) zero e all at = let same : y ≡ e = cc in subst IsEntryKept same all.0
all_at (y ∷ es) (suc i) e all at = all_at es i e all.1 at

-- a kept entry is one whose parts rise
entry_rising : (e : Entry) → IsEntryKept e → IsEntryRising e
entry_rising (Sync a b c) kept = tt
entry_rising (Commit a tx) kept = (kept.0.1, kept.1.1, kept.2.1)
entry_rising (Plain a b c d e f) kept = tt
entry_rising (Abort tx why) kept = (kept.0.0.1, kept.0.1.1, kept.0.2.1)
entry_rising (Trim a) kept = tt
entry_rising (Over a) kept = tt

-- each entry of a thread's kept list is kept
list_kept : (ls : List (ℕ × List Entry)) (t i : ℕ) (e : Entry) → AllByRecursion IsListKept ls → At (lists_of ls t) i e → IsEntryKept e
list_kept [] t i e all at = absurd (cc)
list_kept (l ∷ ls) t i e all at = here (l.0 == t) refl (list_kept ls t i e all.1)
  where
    here : (b : Bool) → (l.0 == t) ≡ b → (At (lists_of ls t) i e → IsEntryKept e) → IsEntryKept e
    here true b rest = all_at l.1 i e all.0.2 (rw b at at)
    here false b rest = rest (rw b at at)

-- the parts of the transactions in a record rise
pub record_rising : (ls : List (ℕ × List Entry)) (t i : ℕ) (e : Entry) → IsRecord ls → At (lists_of ls t) i e → IsEntryRising e
record_rising ls t i e is at = entry_rising e (list_kept ls t i e is.1 at)

-- so the record of the lists is lawful, its Trims are those of the ring, and it is bounded
pub closed_record : (key : Key) (z : TableId) (ps : List PassView) (me w : table.Me Slot View) (ls : List (ℕ × List Entry))
    → AreAllDone z ps → IsRoot me ps → ClosedTold key me.0 w → ls ≡ kept_lists (shelves_of ps) → IsRecord ls
    → IsLawful key.setting (lists_of ls) × IsTrimmed key (lists_of ls) × ((t : ℕ) → lists_of ls t ≡ mine_at ps t)
    × (0 < key.cells → IsBounded (lists_of ls))
closed_record key z ps me w ls are root told is kept =
    let whole = has_all z ps me are root in
    let here : (t : ℕ) → lists_of ls t ≡ mine_at ps t = λ t. ap (λ l. lists_of l t) is ∙ kept_are (shelves_of ps) t (rises z ps are) in
    let each : (t : ℕ) → lists_in me.0.shelves t ≡ lists_of ls t = λ t. ap (λ s. lists_in s t) root.shelves ∙ sym (here t) in
    let same : lists_in me.0.shelves ≡ lists_of ls = λ i t. (each t) i in
    let rising : (d : Place) (e : Entry) → EntryAt (lists_in me.0.shelves) d e
    → IsEntryRising e = λ d e at. record_rising ls d.thread d.index e kept (subst (λ l. At l d.index e) (each d.thread) at) in (
      subst (IsLawful key.setting) same (told.lawful whole rising),
      subst (IsTrimmed key) same (told.trims whole),
      here,
      λ cells. subst IsBounded same (told.bounded cells whole),
    )
