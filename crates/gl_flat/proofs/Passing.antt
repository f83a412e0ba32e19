-- The walk passes a block: from its event on, over entries that agree, to the next event or the end of the list.
use Rattle.std.proofs.Common.{◌≡◌, ℕ, zero, suc, ◌+◌, ◌<◌, ◌≤◌, List, [], ◌∷◌, length, map, get_or, refl, ap, subst, sym, ◌∙◌, inl, inr, arith, Some, None, true, false}
use Rattle.std.specs.Prelude.{◌↔◌, ℤ, pos, slice_get, replicate}
use Rattle.std.proofs.lemmas.Bool.{cases_lt}
use Rattle.std.proofs.lemmas.Option.{slice_get_within}
use native.Mathlib.Decide.{ℕ_discrete}
use Rattle.gl_model.specs.declared.event.Event.TheVariants.{Act as Does, Commit as Commits}
use Rattle.gl_model.specs.declared.event.Stamp.{Stamp}
use Rattle.gl_model.specs.declared.limits.TheConstants.{VARIABLES}
use Rattle.gl_model.specs.declared.tx.Look.{Look}
use Rattle.gl_model.specs.Entries.{Entry, Sync, Commit, Plain, Abort, Trim, Over}
use Rattle.gl_model.specs.Flat.{InFlatOrder}
use Rattle.gl_model.specs.Form.{At}
use Rattle.gl_model.specs.Kept.{IsEntryKept}
use Rattle.gl_model.specs.Records.{Lists, Place, EntryAt, IsEventAt, IsEventList, PositionsRise, IsBlockOf, position_of, variables_of}
use Rattle.gl_laws.proofs.Bridge.{same_entry}
use Rattle.gl_flat.specs.Walk.{AgreesWith, ComesTo, DiffersFrom, HasWalked, IsWalkable, IsWalked, PassesBlock, is_event, word_in, words_past}
use Rattle.gl_places.specs.Places.{AreEventPlaces}
use Rattle.gl_flat.specs.Words.{FlatFailsAt, FlatHolds, IsFirstInFlatOrder, IsLastWord, IsWordAt, ReadsValue}
use Rattle.gl_flat.proofs.Blocks.{laid_block, positions_rise}
use Rattle.gl_flat.proofs.FlatList.{at_contains}
use Rattle.gl_flat.proofs.FlatWords.{reads_laid}
use Rattle.gl_flat.proofs.KeptEntries.{rising_of}
use Rattle.gl_flat.proofs.LastWords.{one_word, word_among, word_more}
use Rattle.gl_flat.proofs.Tables.{kept_part}
use Rattle.gl_flat.proofs.Walked.{before_walked, walked_before, walked_end, walked_more, walked_out, walked_start}

-- where x stands at k in a list, its image stands there in the mapped list
pub at_map : {A B : Type 0} (f : A → B) (xs : List A) (k : ℕ) (x : A) → k < length xs → x ≡ get_or xs k x →
    slice_get (map f xs) k ≡ Some (f x)
at_map f [] k x near is = absurd (omega arith)
at_map f (y ∷ ys) zero x near is = ap (λ z. Some (f z)) (sym is)
at_map f (y ∷ ys) (suc k) x near is = at_map f ys k x (omega arith) is

-- where something stands, its image stands in the mapped list
pub at_map_or : {A B : Type 0} (f : A → B) (xs : List A) (k : ℕ) (d : A) → k < length xs → slice_get (map f xs) k ≡ Some (f (get_or xs k d))
at_map_or f [] k d near = absurd (omega arith)
at_map_or f (y ∷ ys) zero d near = refl
at_map_or f (y ∷ ys) (suc k) d near = at_map_or f ys k d (omega arith)

-- an entry that is no event has no position
no_position : (e : Entry) (q : ℕ) → is_event e ≡ false → position_of e ≡ Some q → ⊥
no_position (Sync at act value) q not is = cc
no_position (Commit at tx) q not is = cc
no_position (Plain var nth cached write value raised) q not is = cc
no_position (Abort tx why) q not is = cc
no_position (Trim low) q not is = cc
no_position (Over ending) q not is = cc

-- what is an event has a position
has_position : (e : Entry) → is_event e ≡ true → (q : ℕ) × (position_of e ≡ Some q)
has_position (Sync at act value) is = (at, refl)
has_position (Commit at tx) is = (at, refl)
has_position (Plain var nth cached write value raised) is = absurd (cc)
has_position (Abort tx why) is = absurd (cc)
has_position (Trim low) is = absurd (cc)
has_position (Over ending) is = absurd (cc)

-- what is read is a variable that there is
reads_near : (e : Entry) (x : ℕ) (v : ℤ) → IsEntryKept e → ReadsValue e x v → x < VARIABLES
reads_near (Plain var nth cached write value raised) x v kept r = subst (λ y. y < VARIABLES) r.2 kept
reads_near (Commit at tx) x v kept r =
    let k = at_contains tx.looks r.0 r.1 in
    subst (λ y. y < VARIABLES) r.2 (kept_part (λ (l : Look). l.var) VARIABLES tx.looks k.0 r.0 kept.0.2 k.1)
reads_near (Sync at act value) x v kept r = absurd r
reads_near (Abort tx why) x v kept r = absurd r
reads_near (Trim low) x v kept r = absurd r
reads_near (Over ending) x v kept r = absurd r

-- an entry with a position is an event
event_stamp : (R : Lists) (u k : ℕ) (e : Entry) (q : ℕ) → At (R u) k e → position_of e ≡ Some q → (r : Stamp) ×
    IsEventAt R (record { thread = u; index = k }) q r
event_stamp R u k (Sync a act value) q there' is = (
  record { thread = u; event = Does act },
  record { entry = Sync a act value; there = there'; position = is; event = refl; own = refl },
)
event_stamp R u k (Commit a tx) q there' is = (
  record { thread = u; event = Commits (variables_of tx) },
  record { entry = Commit a tx; there = there'; position = is; event = refl; own = refl },
)
event_stamp R u k (Plain a b' c d' e' f') q there' is = absurd (cc)
event_stamp R u k (Abort a b') q there' is = absurd (cc)
event_stamp R u k (Trim a) q there' is = absurd (cc)
event_stamp R u k (Over a) q there' is = absurd (cc)

module _ (R : Lists) (walk : IsWalkable R) (t p : ℕ) (s : Stamp) (i : ℕ) (made : IsEventAt R (record { thread = t; index = i }) p s) where
  abbrev h : List Stamp
  h = walk.listed.0

  abbrev is_list : IsEventList h R
  is_list = walk.listed.1

  abbrev rise : PositionsRise R
  rise = positions_rise R walk.form

  abbrev here : ℕ → Place
  here k = record { thread = t; index = k }

  -- what is of the block stands in this list, behind its event
  own : (d : Place) (b : IsBlockOf R d p) → (d.thread ≡ t) × (b.index ≡ i)
  own d b =
      let same : record { thread = d.thread; index = b.index } ≡ here i =
      is_list.once (record { thread = d.thread; index = b.index }) (here i) p b.event s b.made made in
      (ap (λ (x : Place). x.thread) same, ap (λ (x : Place). x.index) same)

  -- a walk that has come to the start of block p has come to the place of its event: nothing of the block stands before it
  start : (words : List ℤ) → HasWalked R p 0 words → HasWalked R p i words
  start words w = record {
    words = λ x near. word_among R (IsWalked R p 0) (IsWalked R p i) x (word_in words x) (λ d m. (same d).0 m) (λ d u m wr. (same d).1 m)
        (w.words x near);
    right = λ d m. w.right d ((same d).1 m);
  }
    where
      same : (d : Place) → IsWalked R p 0 d ↔ IsWalked R p i d
      same d = walked_start R h is_list rise p i (λ c b. let o = (own c b).1 in let n = b.within in omega arith) d

  -- where no event stands behind place i up to k, place k is in the block of the event at i
  block : (k : ℕ) → i ≤ k → ((j : ℕ) (e : Entry) → i < j → j ≤ k → At (R t) j e → is_event e ≡ false) → IsBlockOf R (here k) p
  block k le none = record { index = i; event = s; made = made; within = le; last = last }
    where
      last : (j q : ℕ) (r : Stamp) → IsEventAt R (here j) q r → j ≤ k → j ≤ i
      last j q r e within = elim (cases_lt i j) [
        | inl lt ↦
            absurd (no_position e.entry q (none j e.entry lt within e.there) e.position)
        | inr ge ↦ ge
      ]

  module _ (k : ℕ) (e : Entry) (there : At (R t) k e) (b : IsBlockOf R (here k) p) (words : List ℤ) (w : HasWalked R p k words) where
    -- the table has the word where the entry is laid out
    as_word : (x : ℕ) → x < VARIABLES → IsWordAt R (here k) x (word_in words x)
    as_word x near =
        word_among R (IsWalked R p k) (λ d. InFlatOrder R d (here k)) x (word_in words x) (walked_before R h is_list rise (here k) p b)
        (λ d u before wr. before_walked R h is_list rise (here k) p b d before) (w.words x near)

    -- where each read of the entry at k has its word, and the table afterwards has the
    -- words past that entry, the walk has come to place k + 1
    agree : (after : List ℤ) → AgreesWith (word_in words) e → ((x : ℕ) → x < VARIABLES → word_in after x ≡ words_past (word_in words) e x) →
        HasWalked R p (k + 1) after
    agree after agrees past = record { words = more; right = right }
      where
        more : (x : ℕ) → x < VARIABLES → IsLastWord R (IsWalked R p (k + 1)) x (word_in after x)
        more x near =
            subst (IsLastWord R (IsWalked R p (k + 1)) x) (sym (past x near))
            (word_more R h is_list rise (IsWalked R p k) (IsWalked R p (k + 1)) (here k) e (word_in words) x there
            (walked_before R h is_list rise (here k) p b)
            (walked_more R h is_list rise (here k) p b) (w.words x near))

        at_here : (d : Place) → d ≡ here k → (f : Entry) → EntryAt R d f → (x : ℕ) (v : ℤ) → ReadsValue f x v → IsWordAt R d x v
        at_here d same f at x v reads =
            let f_there : EntryAt R (here k) f = subst (λ c. EntryAt R c f) same at in
            let r : ReadsValue e x v = subst (λ g. ReadsValue g x v) (same_entry R (here k) f e f_there there) reads in
            let near = reads_near e x v (walk.kept (here k) e there) r in
            subst (λ c. IsWordAt R c x v) (sym same) (subst (IsWordAt R (here k) x) (sym (agrees x v r)) (as_word x near))

        right : (d : Place) → IsWalked R p (k + 1) d → (f : Entry) → EntryAt R d f → (x : ℕ) (v : ℤ) → ReadsValue f x v → IsWordAt R d x v
        right d m = elim ((walked_more R h is_list rise (here k) p b d).0 m) [ inl old ↦ w.right d old | inr same ↦ at_here d same ]

    -- where a read of the entry at k differs from its word, this place is the first in flat order where a read is wrong
    differ : DiffersFrom (word_in words) e → IsFirstInFlatOrder R (here k)
    differ (x, (v, reads, ne)) = ((e, there, (x, (v, reads, wrong))), first)
      where
        wrong : IsWordAt R (here k) x v → ⊥
        wrong is =
            let near = reads_near e x v (walk.kept (here k) e there) reads in
            ne (one_word R h is_list rise (λ c g at. rising_of g (walk.kept c g at)) (λ d. InFlatOrder R d (here k))
            (λ d f. (f.first, f.of_first)) x v (word_in words x) is (as_word x near))

        first : (d : Place) → FlatFailsAt R d → InFlatOrder R d (here k) → ⊥
        first d f before = f.2.1.2 (w.right d (before_walked R h is_list rise (here k) p b d before) f.0 f.1 f.2.0 f.2.1.0 f.2.1.1)

  -- where all entries of the block stand before k, a walk that has come to k has come to the next block
  finish : (k : ℕ) (words : List ℤ) → ((d : Place) (e : Entry) → EntryAt R d e → IsBlockOf R d p → d.index < k) → HasWalked R p k words →
      HasWalked R (p + 1) 0 words
  finish k words short w = record {
    words = λ x near. word_among R (IsWalked R p k) (IsWalked R (p + 1) 0) x (word_in words x) (walked_out R h is_list rise p k)
        (λ d u m wr. (walked_end R h is_list rise p k d (short d wr.0 wr.1)).1 m) (w.words x near);
    right = λ d m e at. w.right d ((walked_end R h is_list rise p k d (short d e at)).1 m) e at;
  }

  -- the block ends before the next event of its list
  before_event : (k q : ℕ) (e : Entry) → At (R t) k e → position_of e ≡ Some q → i < k → (d : Place) (f : Entry) → EntryAt R d f →
      IsBlockOf R d p → d.index < k
  before_event k q e there at lt d f f_there b = elim (cases_lt d.index k) [ inl near ↦ near | inr far ↦ absurd (behind far) ]
    where
      behind : k ≤ d.index → ⊥
      behind far =
          let o = own d b in
          let made_there : At (R d.thread) k e = subst (λ u. At (R u) k e) (sym o.0) there in
          let ev = event_stamp R d.thread k e q made_there at in
          let z = b.last k q ev.0 ev.1 far in
          let y = o.1 in
          omega arith

-- at the event of its block the walk has changed nothing
pub comes_first : (es : List Entry) (i : ℕ) (words : List ℤ) → ComesTo es i i words words
comes_first es i words = record {
  on = omega arith;
  no_event = λ j e lo hi at. absurd (omega arith);
  walked = λ R walk t p s list made w. start R walk t p s i made words w;
}

module _ (es : List Entry) (i k : ℕ) (before words : List ℤ) (come : ComesTo es i k before words) where
  -- up to an entry that is the block's event, or no event
  clear : (e : Entry) → At es k e → (i < k → is_event e ≡ false) → (j : ℕ) (f : Entry) → i < j → j ≤ k → At es j f → is_event f ≡ false
  clear e there not j f lo hi at = elim (ℕ_discrete j k) [
    | yes same ↦
        (let z : Some f ≡ Some e = sym (subst (λ n. At es n f) same at) ∙ there in
        let f_is : f ≡ e = cc in
        subst (λ g. is_event g ≡ false) (sym f_is) (not (subst (λ n. i < n) same lo)))
    | no ne ↦ come.no_event j f lo (omega arith) at
  ]

  -- where the entry at k is no event, or k is the place i of the event at p, place k is in block p
  block_at : (R : Lists) (walk : IsWalkable R) (t p : ℕ) (s : Stamp) → R t ≡ es → IsEventAt R (record { thread = t; index = i }) p s →
      (e : Entry) → At es k e → (i < k → is_event e ≡ false) →
      IsBlockOf R (record { thread = t; index = k }) p
  block_at R walk t p s list made e there not = block R walk t p s i made k come.on
      (λ j f lo hi at. clear e there not j f lo hi (subst (λ l. At l j f) list at))

  -- where the entry at k, the block's event or no event, agrees with the words, the walk comes to place k + 1 with the words past it
  pub comes_more : (after : List ℤ) (e : Entry) → At es k e → (i < k → is_event e ≡ false) → AgreesWith (word_in words) e →
      ((x : ℕ) → x < VARIABLES → word_in after x ≡ words_past (word_in words) e x) →
      ComesTo es i (k + 1) before after
  comes_more after e there not agrees past = record {
    on = let z = come.on in omega arith;
    no_event = λ j f lo hi at. clear e there not j f lo (omega arith) at;
    walked = λ R walk t p s list made w.
        agree R walk t p s i made k e (subst (λ l. At l k e) (sym list) there) (block_at R walk t p s list made e there not) words
        (come.walked R walk t p s list made w) after agrees past;
  }

  -- where a read of the entry at k, the block's event or no event, differs from its word, the walk has come to the first wrong read
  pub differs : (after : List ℤ) (e : Entry) → At es k e → (i < k → is_event e ≡ false) → DiffersFrom (word_in words) e →
      PassesBlock es i before after (Some k)
  differs after e there not d = λ R walk t p s list made w.
      differ R walk t p s i made k e (subst (λ l. At l k e) (sym list) there) (block_at R walk t p s list made e there not) words
      (come.walked R walk t p s list made w) d

  -- where an event stands at k, behind the block's own, the walk has passed the block
  pub meets_event : (e : Entry) → At es k e → i < k → is_event e ≡ true → PassesBlock es i before words None
  meets_event e there lt is = λ R walk t p s list made w.
      let q = has_position e is in
      finish R walk t p s i made k words (before_event R walk t p s i made k q.0 e (subst (λ l. At l k e) (sym list) there) q.1 lt)
      (come.walked R walk t p s list made w)

  -- where the list has no entry at place k or behind it, the walk has passed the block
  pub comes_out : length es ≤ k → PassesBlock es i before words None
  comes_out far = λ R walk t p s list made w.
      finish R walk t p s i made k words
      (λ d e at b. let o = (own R walk t p s i made d b).0 in let n : d.index < length es =
      subst (λ l. d.index < length l) (ap R o ∙ list) (slice_get_within (R d.thread) d.index e at) in omega arith)
      (come.walked R walk t p s list made w)

-- where all blocks are passed each read had its word
pub all_passed : (R : Lists) → IsWalkable R → (cs : List Place) → AreEventPlaces R cs → (n : ℕ) (words : List ℤ) → length cs ≤ n →
    HasWalked R n 0 words → FlatHolds R
all_passed R walk cs places n words far w c e there x v reads =
    let b = laid_block R walk.form c e there (reads_laid e x v reads) in
    let at = (places b.0 (record { thread = c.thread; index = b.1.index })).1 (b.1.event, b.1.made) in
    let near : b.0 < length cs = slice_get_within cs b.0 (record { thread = c.thread; index = b.1.index }) at in
    w.right c (b.0, b.1, inl (omega arith)) e there x v reads

-- in a table of zeros each word is 0
zeros : (n x : ℕ) → word_in (replicate n (pos 0)) x ≡ pos 0
zeros zero x = refl
zeros (suc n) zero = refl
zeros (suc n) (suc x) = zeros n x

-- at the start nothing is walked
pub first_walk : (R : Lists) (n : ℕ) → HasWalked R 0 0 (replicate n (pos 0))
first_walk R n = record {
  words = λ x near. inr (zeros n x, λ g u m w. nothing g m);
  right = λ d m. absurd (nothing d m);
}
  where
    nothing : (d : Place) → IsWalked R 0 0 d → ⊥
    nothing d (q, b, inl lt) = omega arith
    nothing d (q, b, inr w) = let z = w.1 in omega arith
