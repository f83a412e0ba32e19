-- What happens before a refused entry, told by what its thread knows.
use Rattle.std.proofs.Common.{◌≡◌, ◌≢◌, ℕ, suc, ◌+◌, ◌-◌, ◌^◌, ◌<◌, ◌==◌, List, length, take, drop, Bool, true, false, refl, ap, sym, ◌∙◌, subst, inl, inr, arith, Some, None, eq-eqb, ne_eqb}
use Rattle.std.specs.Prelude.{◌↔◌, if◌then◌else◌, slice_get, unwrap_or}
use Rattle.std.proofs.lemmas.Bool.{eqb-true}
use Rattle.std.proofs.lemmas.List.{length-take-le, take-append-drop}
use Rattle.std.proofs.lemmas.Option.{slice_get_within}
use Rattle.gl_clocks.proofs.Own.{own_law}
use Rattle.gl_clocks.specs.Clocks.{clocks, tick}
use Rattle.gl_core.specs.Cells.{at, cell}
use Rattle.gl_draws.proofs.DrawPlaces.{block_of_place}
use Rattle.gl_draws.proofs.Reaching.{event_back}
use Rattle.gl_draws.specs.Ties.{last_position, BlockAt}
use Rattle.gl_draws.specs.Verdicts.{Precedes}
use Rattle.gl_laws.proofs.Bridge.{one_position, same_entry}
use Rattle.gl_laws.specs.Closure.{StandsFor}
use Rattle.gl_model.specs.declared.event.Act.TheVariants.{End}
use Rattle.gl_model.specs.declared.event.Element.TheVariants.{Thread}
use Rattle.gl_model.specs.declared.event.Event.TheVariants.{Act as Does, Commit as Commits}
use Rattle.gl_model.specs.declared.event.Stamp.{Stamp}
use Rattle.gl_model.specs.declared.limits.TheConstants.{THREADS}
use Rattle.gl_model.specs.Edges.{EventAt}
use Rattle.gl_model.specs.Entries.{Entry, Sync, Commit, Plain, Abort, Trim, Over}
use Rattle.gl_model.specs.Form.{Form, Numbered}
use Rattle.gl_model.specs.HappensBefore.{HappensBefore, IsCommit, IsRefusedCommit, RefusedCommitEdge}
use Rattle.gl_model.specs.Kept.{IsEntryKept}
use Rattle.gl_model.specs.Locksets.{Access}
use Rattle.gl_model.specs.Machine.{Setting, State, Allows}
use Rattle.gl_model.specs.Next.{Reaches}
use Rattle.gl_model.specs.Records.{Lists, Place, EntryAt, IsEventAt, IsEventList, IsBlockOf, IsPlain, NumberOn, PositionsRise}
use Rattle.gl_raised.specs.Accesses.{IsAccess}
use Rattle.gl_causes.specs.Judging.{tick_in}
use Rattle.gl_causes.specs.Learning.{IsLearned, Knows, commits_before, handed_on, refused_numbers}
use Rattle.gl_raised.specs.Rows.{AreBlockClocks}
use Rattle.gl_causes.specs.Stands.{AreStands, IsStand, Stand}
use Rattle.gl_raised.proofs.Blocks.{has_block, goes_on}
use Rattle.gl_causes.proofs.EntryTests.{IsCommitBefore, before_means, before_there, none_before}
use Rattle.gl_raised.proofs.Orders.{block_told, plain_told, refused_told, ByCommit, other_reaches, own_reaches}
use Rattle.gl_raised.proofs.Racing.{commit_event, no_two, draws_itself}

-- a plain entry is an access
pub plain_access : (e : Entry) → IsPlain e → IsAccess e
plain_access (Plain var nth cached write value raised) i = tt
plain_access (Sync at act value) i = absurd i
plain_access (Commit at tx) i = absurd i
plain_access (Abort tx why) i = absurd i
plain_access (Trim low) i = absurd i
plain_access (Over ending) i = absurd i

-- a commit is an access
pub commit_access : (e : Entry) → IsCommit e → IsAccess e
commit_access (Commit at tx) i = tt
commit_access (Plain var nth cached write value raised) i = absurd i
commit_access (Sync at act value) i = absurd i
commit_access (Abort tx why) i = absurd i
commit_access (Trim low) i = absurd i
commit_access (Over ending) i = absurd i

-- the tick of a plain entry is one above its block's
pub plain_tick : (e : Entry) (b : ℕ) → IsPlain e → b + 1 < 2 ^ 64 → tick_in b e ≡ b + 1
plain_tick (Plain var nth cached write value raised) b p l = omega arith
plain_tick (Sync at act value) b p l = absurd p
plain_tick (Commit at tx) b p l = absurd p
plain_tick (Abort tx why) b p l = absurd p
plain_tick (Trim low) b p l = absurd p
plain_tick (Over ending) b p l = absurd p

-- the tick of a commit is its block's
pub commit_tick : (e : Entry) (b : ℕ) → IsCommit e → tick_in b e ≡ b
commit_tick (Commit at tx) b p = refl
commit_tick (Plain var nth cached write value raised) b p = absurd p
commit_tick (Sync at act value) b p = absurd p
commit_tick (Abort tx why) b p = absurd p
commit_tick (Trim low) b p = absurd p
commit_tick (Over ending) b p = absurd p

-- what the code has of a record
pub record Laid (setting : Setting) (R : Lists) (h : List Stamp) (now : State) (rows : List (List ℕ)) (stands : List Stand) : Type 0 where
  pub form : Form R
  pub numbered : Numbered R
  pub is_list : IsEventList h R
  pub allowed : Allows setting h now
  pub short : length h < 2 ^ 64
  pub clocks_are : AreBlockClocks h rows
  pub stands_are : AreStands R (record { thread = THREADS; index = 0 }) stands
  pub kept : (c : Place) (e : Entry) → EntryAt R c e → (c.thread < THREADS) × IsEntryKept e

module _ (setting : Setting) (R : Lists) (h : List Stamp) (now : State) (rows : List (List ℕ)) (stands : List Stand)
    (L : Laid setting R h now rows stands) where
  -- along each list the positions of events rise
  pub rise : PositionsRise R
  rise c d p q s r a b o = (L.form.formed c.thread).positions_rise c.index d.index p q a.entry b.entry a.there
      (subst (λ t. slice_get (R t) d.index ≡ Some b.entry) (sym o.0) b.there) o.1 a.position b.position

  -- the entry stands so among them
  pub stand_of : (c : Place) (e : Entry) → EntryAt R c e → (i : ℕ) × ((s : Stand) × (slice_get stands i ≡ Some s) × (s.place ≡ c)
      × (s.entry ≡ e) × IsStand R s)
  stand_of c e here =
      let w = L.stands_are.all c e here (inl (L.kept c e here).0) in
      let s = w.1.0 in
      let is = (L.stands_are.each w.0 s w.1.1).0 in
      (w.0, (s, w.1.1, w.1.2, same_entry R c s.entry e (subst (λ z. EntryAt R z s.entry) w.1.2 is.there) here, is))

  -- the block of an access that stands so
  pub block_is : (s : Stand) → IsStand R s → IsAccess s.entry → IsBlockOf R s.place s.block
  block_is s is access =
      let b = has_block R L.form s.place s.entry is.there access in
      let same : s.block ≡ b.0 = is.block ∙ ap (λ o. unwrap_or o 0)
      (ap (λ n. last_position (take n (R s.place.thread))) (let z : s.place.index + 1 ≡ suc s.place.index = omega arith in z) ∙ b.1) in
      subst (IsBlockOf R s.place) (sym same) (block_of_place R s.place.thread s.place.index b.0 b.1)

  -- a commit that stands so is the event of its block
  pub commit_place : (s : Stand) → IsStand R s → IsCommit s.entry → (xs : List ℕ) × ((t : Stamp) × IsEventAt R s.place s.block t
      × (t.event ≡ Commits xs))
  commit_place s is commit =
      let v = commit_event R s.place s.entry is.there commit in
      let same : s.block ≡ v.0 = is.block ∙ ap (λ o. unwrap_or o 0)
      (ap (λ n. last_position (take n (R s.place.thread))) (let z : s.place.index + 1 ≡ suc s.place.index = omega arith in z) ∙ v.4) in
      (v.3.0, (v.1, subst (λ p. IsEventAt R s.place p v.1) (sym same) v.2, v.3.1))

  -- a plain access in this block
  module _ (c : Place) (e : Entry) (there : EntryAt R c e) (plain : IsPlain e) (b : ℕ) (in_block : IsBlockOf R c b) where
    abbrev pub plain_access_of : Access
    plain_access_of = record { thread = c.thread; block = b; variables = None }

    -- a plain access of its thread, made in this block, stands for the entry
    pub plain_stands : StandsFor R c (record { thread = c.thread; block = b; variables = None })
    plain_stands = record {
      thread = refl;
      block = in_block;
      goes_on = goes_on R L.form c e there (plain_access e plain) b in_block;
      kind = inl (e, there, plain, refl);
    }

  module _ (c : Place) (a : Access) (stands_for : StandsFor R c a) (d : Place) (f : Entry) (here : EntryAt R d f) (access : IsAccess f)
      (q : ℕ)
      (block : IsBlockOf R d q) (apart : c.thread ≢ d.thread) where
    -- the clock of a block tells what precedes it
    pub row_told : (tick a < cell rows q c.thread) ↔ Precedes h a d.thread q
    row_told =
        let goes = goes_on R L.form d f here access q block in
        let m = block_told setting R h now L.is_list rise L.allowed c a stands_for d q block goes apart in
        let there : EventAt h q block.event = L.is_list.listed
        (record { thread = d.thread; index = block.index }) q block.event block.made in
        let row : cell rows q c.thread ≡ clocks (take (q + 1) h) (Thread d.thread) c.thread =
        L.clocks_are.known q c.thread block.event there ∙ ap (λ t. clocks (take (q + 1) h) (Thread t) c.thread) block.made.own in
        let same : a.thread ≡ c.thread = stands_for.thread in
        let m' : (tick a < clocks (take (q + 1) h) (Thread d.thread) c.thread) ↔ Precedes h a d.thread q =
        subst (λ t. (tick a < clocks (take (q + 1) h) (Thread d.thread) t) ↔ Precedes h a d.thread q) same m in
        (λ l. m'.0 (omega arith), λ p. let y = m'.1 p in omega arith)

  -- before a plain entry
  pub told_plain :
      (c : Place) (a : Access) → StandsFor R c a → (d : Place) (f : Entry) → EntryAt R d f → IsPlain f → (q : ℕ) → IsBlockOf R d q
      → c.thread ≢ d.thread → (known : List ℕ) → Knows rows stands q f known →
      (tick a < at known c.thread) ↔ HappensBefore R c d
  told_plain c a stands_for d f here plain q block apart known knows =
      let row = row_told c a stands_for d f here (plain_access f plain) q block apart in
      let order = plain_told setting R h now L.is_list rise L.allowed c a stands_for d f here plain q block apart in
      let k = knows c.thread (tick a) in (
        λ l. elim (k.0 l) [ inl b ↦ order.0 (row.0 b) | inr w ↦ absurd (none_before w.1.0.entry f plain w.1.2) ],
        λ b. k.1 (inl (row.1 (order.1 b))),
      )

  -- a commit is no end
  module _ (s : Stand) (is : IsStand R s) (commit : IsCommit s.entry) (p : ℕ) (r : Stamp) (made : IsEventAt R s.place p r) where
    abbrev m : Place
    m = s.place

    -- the commit's event stands in the history at its position
    at_p : EventAt h p r
    at_p = L.is_list.listed m p r made

    -- the commit has an event, that of a commit, which is its own block
    ev : (q : ℕ) × (t : Stamp) × IsEventAt R m q t × ((xs : List ℕ) × (t.event ≡ Commits xs)) × BlockAt (R m.thread) m.index q
    ev = commit_event R m s.entry is.there commit

    -- the event of a commit is no End
    pub commit_goes : r.event ≢ Does End
    commit_goes end =
        let x : EventAt h p ev.1 = L.is_list.listed m p ev.1 (subst (λ q. IsEventAt R m q ev.1) (one_position ev.2 made) ev.2) in
        let same : ev.1 ≡ r = (let y = at_p in cc) in
        let z : Does End ≡ Commits ev.3.0 = sym end ∙ ap (λ (w : Stamp). w.event) (sym same) ∙ ev.3.1 in cc

    -- the block of a commit is its own position
    pub commit_at : s.block ≡ p
    commit_at =
        is.block ∙ ap (λ o. unwrap_or o 0)
        (ap (λ n. last_position (take n (R m.thread))) (let z : m.index + 1 ≡ suc m.index = omega arith in z) ∙ ev.4)
        ∙ one_position ev.2 made

    -- the clock of the commit's block is the clock of its thread behind the event at p
    row : (u : ℕ) → cell rows s.block u ≡ clocks (take (p + 1) h) (Thread m.thread) u
    row u = ap (λ q. cell rows q u) commit_at ∙ L.clocks_are.known p u r at_p
        ∙ ap (λ t. clocks (take (p + 1) h) (Thread t) u) made.own

    -- of its own thread it hands on all up to itself
    pub handed_own : (u : ℕ) → u ≡ s.place.thread → handed_on rows s u ≡ p + 1
    handed_own u own =
        let near : p < length h = slice_get_within h p r at_p in
        let long : length (take (p + 1) h) ≡ p + 1 = length-take-le (p + 1) h (omega arith) in
        let there' : EventAt (take (p + 1) h) p r =
        event_back (take (p + 1) h) (drop (p + 1) h) p r (omega arith)
        (subst (λ l. EventAt l p r) (sym (take-append-drop (p + 1) h)) at_p) in
        let clock : clocks (take (p + 1) h) (Thread m.thread) m.thread
        ≡ p + 2 = own_law (take (p + 1) h) m.thread p r there' made.own (λ q t x y. let l = slice_get_within (take (p + 1) h) q t x
        in omega arith) in
        ap (λ o. if o then cell rows s.block u - 1 else cell rows s.block u) (eq-eqb u m.thread own)
        ∙ (let z : cell rows s.block u ≡ p + 2 = row u ∙ ap (λ t. clocks (take (p + 1) h) (Thread m.thread) t) own ∙ clock
        in omega arith)

    -- of another thread what it knows
    pub handed_other : (u : ℕ) → u ≢ s.place.thread → handed_on rows s u ≡ clocks (take (p + 1) h) (Thread s.place.thread) u
    handed_other u other = ap (λ o. if o then cell rows s.block u - 1 else cell rows s.block u) (ne_eqb u m.thread other) ∙ row u

  -- a commit and a refused commit have no number in common
  numbers_apart : (m d : Place) (g f : Entry) → EntryAt R m g → EntryAt R d f → IsCommit g → IsRefusedCommit f → (x k : ℕ)
      → NumberOn g x k
      → NumberOn f x k → ⊥
  numbers_apart m d g f a b' is refused x k n o =
      let same : m ≡ d = (L.numbered x).1.once m d g f k a b' (inr (draws_itself g x k (inl is) n))
      (inr (draws_itself f x k (inr refused) o)) in
      let a' : EntryAt R d g = subst (λ z. EntryAt R z g) same a in
      let one : f ≡ g = cc in no_two g is (subst IsRefusedCommit one refused)

  -- the commits that have a lower number on some variable of a refused attempt are those that are before it there
  module _ (d : Place) (f : Entry) (here : EntryAt R d f) (refused : IsRefusedCommit f) where
    -- an entry that commits with a lower number on a variable of both is a commit that is before the attempt there
    pub edge_out : (s : Stand) → IsStand R s → commits_before (refused_numbers f) s.entry ≡ true
        → IsCommit s.entry × RefusedCommitEdge R s.place d
    edge_out s is lower =
        let w = before_means s.entry f refused lower in (
          w.commit,
          record {
            made = s.entry;
            refused = f;
            there = is.there;
            here = here;
            is_commit = w.commit;
            is_refused = refused;
            var = w.var;
            before = record {
              first = s.entry;
              second = f;
              there = is.there;
              here = here;
              number = w.number;
              later = w.above;
              numbered = w.first;
              also_numbered = w.second;
              order = inl w.less;
            };
          },
        )

    -- and a commit that is before it on a variable of both stands among the entries, with such a lower number
    pub edge_in : (m : Place) → RefusedCommitEdge R m d → (i : ℕ) × ((s : Stand) × (slice_get stands i ≡ Some s) × (s.place ≡ m)
        × IsStand R s × IsCommit s.entry × (commits_before (refused_numbers f) s.entry ≡ true))
    edge_in m k =
        let o = k.before in
        let first : k.made ≡ o.first = same_entry R m k.made o.first k.there o.there in
        let second : o.second ≡ f = same_entry R d o.second f o.here here in
        let commit : IsCommit o.first = subst IsCommit first k.is_commit in
        let numbered : NumberOn f k.var o.later = subst (λ z. NumberOn z k.var o.later) second o.also_numbered in
        let lt : o.number < o.later = elim o.order [
          | inl z ↦ z
          | inr z ↦ absurd (numbers_apart m d o.first f o.there here commit refused k.var o.later
              (subst (NumberOn o.first k.var) z.0 o.numbered) numbered)
        ] in
        let w = stand_of m o.first o.there in
        let entry : w.1.0.entry ≡ o.first = w.1.3 in
        let before : IsCommitBefore o.first f = record {
          commit = commit;
          var = k.var;
          number = o.number;
          above = o.later;
          first = o.numbered;
          second = numbered;
          less = lt;
        } in
        let lower : commits_before (refused_numbers f) w.1.0.entry ≡ true = ap (commits_before (refused_numbers f)) entry
        ∙ before_there o.first f (L.kept m o.first o.there).1 refused before in
        (w.0, (w.1.0, w.1.1, w.1.2, w.1.4, subst IsCommit (sym entry) commit, lower))

  -- a commit hands on what reaches it
  module _ (c : Place) (e : Entry) (there : EntryAt R c e) (plain : IsPlain e) (b : ℕ) (in_block : IsBlockOf R c b) where
    abbrev pub its : Access
    its = record { thread = c.thread; block = b; variables = None }

    -- the plain access of c's thread in this block stands for the entry at c
    stood : StandsFor R c its
    stood = plain_stands c e there plain b in_block

    -- what a commit hands on of c's thread has passed the plain access exactly where the access reaches the commit's event
    handed_reaches : (s : Stand) → IsStand R s → IsCommit s.entry → (p : ℕ) (r : Stamp) → IsEventAt R s.place p r →
        (b + 1 < handed_on rows s c.thread) ↔ Reaches h its p
    handed_reaches s is commit p r made = by (c.thread == s.place.thread) refl
      where
        by : (o : Bool) → (c.thread == s.place.thread) ≡ o → (b + 1 < handed_on rows s c.thread) ↔ Reaches h its p
        by true same =
            let own : c.thread ≡ s.place.thread = eqb-true c.thread s.place.thread same in
            let is' = handed_own s is commit p r made c.thread own in
            let k = own_reaches setting R h now L.is_list rise L.allowed c its stood s.place p r made own refl in
            (λ l. k.0 (omega arith), λ w. let y = k.1 w in omega arith)
        by false other =
            let apart : c.thread ≢ s.place.thread = (λ x. let z : (c.thread == s.place.thread) ≡ true = eq-eqb c.thread s.place.thread x
            in cc) in
            let is' = handed_other s is commit p r made c.thread apart in
            let k = other_reaches setting R h now L.is_list rise L.allowed c its stood s.place p r made (commit_goes s is commit p r made)
            (subst (IsBlockOf R s.place) (commit_at s is commit p r made) (block_is s is (commit_access s.entry commit))) apart in
            (λ l. k.0 (omega arith), λ w. let y = k.1 w in omega arith)

    -- before a refused attempt
    module _ (d : Place) (f : Entry) (here : EntryAt R d f) (refused : IsRefusedCommit f) (access : IsAccess f) (q : ℕ)
        (block : IsBlockOf R d q) (apart : c.thread ≢ d.thread) where
      abbrev Commits' : Type 0
      Commits' = ByCommit setting R h now L.is_list rise L.allowed c its stood d

      learn_out : IsLearned rows stands (refused_numbers f) c.thread (b + 1) → Commits'
      learn_out w =
          let s = w.1.0 in
          let is = (L.stands_are.each w.0 s w.1.1).0 in
          let o = edge_out d f here refused s is w.1.2 in
          let m = commit_event R s.place s.entry is.there o.0 in record {
            commit = s.place;
            edge = o.1;
            position = m.0;
            event = m.1;
            made = m.2;
            reached = (handed_reaches s is o.0 m.0 m.1 m.2).0 w.1.3;
          }

      learn_in : Commits' → IsLearned rows stands (refused_numbers f) c.thread (b + 1)
      learn_in k =
          let w = edge_in d f here refused k.commit k.edge in
          let made : IsEventAt R w.1.0.place k.position k.event = subst (λ z. IsEventAt R z k.position k.event) (sym w.1.2) k.made in
          (w.0, (w.1.0, w.1.1, w.1.5, (handed_reaches w.1.0 w.1.3 w.1.4 k.position k.event made).1 k.reached))

      pub told_refused : (known : List ℕ) → Knows rows stands q f known → (b + 1 < at known c.thread) ↔ HappensBefore R c d
      told_refused known knows =
          let t = refused_told setting R h now L.is_list rise L.allowed c its stood d f here refused q block apart e there plain
          (λ m g here' is. let v = commit_event R m g here' is in (v.0, v.1, v.2)) in
          let row = row_told c its stood d f here access q block apart in
          let k = knows c.thread (b + 1) in (
            λ l. t.0 (elim (k.0 l) [ inl w ↦ inl (row.0 w) | inr w ↦ inr (learn_out w) ]),
            λ w. elim (t.1 w) [ inl p ↦ k.1 (inl (row.1 p)) | inr x ↦ k.1 (inr (learn_in x)) ],
          )
