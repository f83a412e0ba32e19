-- The entries that are found to race with a refused one are those that it races with.
use Rattle.std.proofs.Common.{◌≡◌, ◌≢◌, ℕ, ◌+◌, ◌<◌, ◌≤◌, ◌==◌, List, Bool, true, false, refl, ap, sym, ◌∙◌, subst, inl, inr, arith, Some, None, eq-eqb}
use Rattle.std.specs.Prelude.{ℤ, ◌⊎◌, ◌↔◌, ◌||◌, Option, if◌then◌else◌, nat_le, nat_lt, not, slice_get}
use Rattle.std.proofs.Math.Nat.{eq-or-lt_of_le}
use Rattle.std.proofs.lemmas.Bool.{cases_lt, eqb-true, ltb-true, lt-ltb}
use Rattle.std.proofs.lemmas.Bool.Decides.{nat_tests}
use Rattle.std.proofs.lemmas.Option.{slice_get_within}
use Rattle.gl_core.proofs.Marking.{and_both, and_true, or_cases, or_left, or_right}
use Rattle.gl_core.specs.Cells.{at}
use Rattle.gl_draws.proofs.Origins.{gives_is}
use Rattle.gl_laws.proofs.Bridge.{same_entry}
use Rattle.gl_laws.specs.Closure.{StandsFor}
use Rattle.gl_model.specs.Entries.{Entry, Sync, Commit, Plain, Abort, Trim, Over}
use Rattle.gl_model.specs.Form.{HasRight, NumberDraws}
use Rattle.gl_model.specs.HappensBefore.{HappensBefore, IsCommit, IsRacy}
use Rattle.gl_model.specs.Machine.{Setting, State}
use Rattle.gl_model.specs.Records.{Lists, Place, Conflict, EntryAt, IsBlockOf, IsPerformed, IsPlain, NumberOn, Writes, position_of}
use Rattle.gl_model.specs.declared.event.Stamp.{Stamp}
use Rattle.gl_raised.specs.Accesses.{IsAccess}
use Rattle.gl_causes.specs.Causes.{RacesWith}
use Rattle.gl_causes.specs.Finding.{IsAsked}
use Rattle.gl_causes.specs.Judging.{is_plain, is_race, own_number, race_number, race_where, refusal_of, tick_in, writes_to}
use Rattle.gl_causes.specs.Stands.{IsStand, Stand}
use Rattle.gl_causes.specs.declared.races.Asked.{Asked}
use Rattle.gl_causes.specs.declared.refusals.Refusal.{Refusal}
use Rattle.gl_raised.proofs.Blocks.{goes_on}
use Rattle.gl_causes.proofs.EntryTests.{IsDone, IsRefused, one_number, own_means, own_there, plain_told', refusal_means, writes_told}
use Rattle.gl_causes.proofs.Telling.{Laid, block_is, commit_access, commit_place, commit_tick, plain_access, plain_stands, plain_tick, stand_of, told_plain, told_refused}
use Rattle.gl_raised.proofs.Racing.{not_plain_commit}

-- a test that two numbers are not the same tells that they are not
other_means : (x y : ℕ) → not (x == y) ≡ true → x ≢ y
other_means x y e same = let z : (x == y) ≡ true = eq-eqb x y same in cc

-- two numbers that are not the same pass the test
other_there : (x y : ℕ) → x ≢ y → not (x == y) ≡ true
other_there x y other = by (x == y) refl
  where
    by : (b : Bool) → (x == y) ≡ b → not b ≡ true
    by true same = absurd (other (eqb-true x y same))
    by false e = refl

-- a test that a number is no greater tells that it is not
least_means : (x y : ℕ) → nat_le x y ≡ true → x ≤ y
least_means x y e = grind (arith, nat_tests)

-- a number that is no greater passes the test
least_there : (x y : ℕ) → x ≤ y → nat_le x y ≡ true
least_there x y l = grind (arith, nat_tests)

-- what the test of a race says
pub record IsRaceBy (a : Asked) (s : Stand) (k : ℕ) : Type 0 where
  pub another : s.place.thread ≢ a.thread
  pub before : k < a.refusal.nth
  pub writes : (writes_to a.refusal.var s.entry ≡ true) ⊎ (a.refusal.write ≡ true)
  pub plain : (is_plain s.entry ≡ true) ⊎ (a.refusal.plain ≡ true)
  pub unknown : at a.known s.place.thread ≤ tick_in s.block s.entry

-- an entry that tests as a race under a number is one
test_means : (a : Asked) (s : Stand) (k : ℕ) → is_race a s k ≡ true → IsRaceBy a s k
test_means a s k e =
    let w1 = and_both (not (s.place.thread == a.thread)) _ e in
    let w2 = and_both (nat_lt k a.refusal.nth) _ w1.1 in
    let w3 = and_both (writes_to a.refusal.var s.entry || a.refusal.write) _ w2.1 in
    let w4 = and_both (is_plain s.entry || a.refusal.plain) _ w3.1 in record {
      another = other_means s.place.thread a.thread w1.0;
      before = ltb-true k a.refusal.nth w2.0;
      writes = or_cases (writes_to a.refusal.var s.entry) a.refusal.write w3.0;
      plain = or_cases (is_plain s.entry) a.refusal.plain w4.0;
      unknown = least_means (at a.known s.place.thread) (tick_in s.block s.entry) w4.1;
    }

-- a disjunction is true where one of its parts is
either_true : (a b : Bool) → (a ≡ true) ⊎ (b ≡ true) → (a || b) ≡ true
either_true a b (inl e) = or_left a b e
either_true a b (inr e) = or_right a b e

-- an entry that is a race under a number tests as one
test_there : (a : Asked) (s : Stand) (k : ℕ) → IsRaceBy a s k → is_race a s k ≡ true
test_there a s k w =
    and_true (not (s.place.thread == a.thread)) _ (other_there s.place.thread a.thread w.another)
    (and_true (nat_lt k a.refusal.nth) _ (lt-ltb k a.refusal.nth w.before)
    (and_true (writes_to a.refusal.var s.entry || a.refusal.write) _
    (either_true (writes_to a.refusal.var s.entry) a.refusal.write w.writes)
    (and_true (is_plain s.entry || a.refusal.plain) _ (either_true (is_plain s.entry) a.refusal.plain w.plain)
    (least_there (at a.known s.place.thread) (tick_in s.block s.entry) w.unknown))))

-- the number that a race has is the one that was looked up, and is one of a race
where_means : (a : Asked) (s : Stand) (o : Option ℕ) (k : ℕ) → race_where a s o ≡ Some k → (o ≡ Some k) × (is_race a s k ≡ true)
where_means a s None k e = absurd (cc)
where_means a s (Some j) k e = by (is_race a s j) refl e
  where
    by : (b : Bool) → is_race a s j ≡ b → (if b then Some j else None) ≡ Some k → (Some j ≡ Some k) × (is_race a s k ≡ true)
    by true eq e' = (e', let z : j ≡ k = cc in subst (λ n. is_race a s n ≡ true) z eq)
    by false eq e' = absurd (cc)

-- an entry that is no event is in the block of one behind it that is none, where no event stands between them
same_block : (R : Lists) (t i j b : ℕ) (e f : Entry) → EntryAt R (record { thread = t; index = i }) e → position_of e ≡ None → position_of f
    ≡ None → EntryAt R (record { thread = t; index = j }) f → i < j
    → ((l : ℕ) (g : Entry) → EntryAt R (record { thread = t; index = l }) g → i < l → l < j → position_of g ≡ None)
    → IsBlockOf R (record { thread = t; index = j }) b → IsBlockOf R (record { thread = t; index = i }) b
same_block R t i j b e f there no_event no_later here less between block = record {
  index = block.index;
  event = block.event;
  made = block.made;
  within = elim (cases_lt i block.index) [
    | inr ge ↦ ge
    | inl lt ↦ absurd (elim (eq-or-lt_of_le block.within) [
      | inl same ↦ (let g : EntryAt R (record { thread = t; index = j }) block.made.entry =
          subst (λ l. EntryAt R (record { thread = t; index = l }) block.made.entry) same block.made.there in
          let one : block.made.entry ≡ f = same_entry R (record { thread = t; index = j }) block.made.entry f g here in
          let z : position_of f ≡ Some b = subst (λ x. position_of x ≡ Some b) one block.made.position in cc)
      | inr near ↦ (let z = between block.index block.made.entry block.made.there lt near in let y = block.made.position in cc)
    ])
  ];
  last = λ l q s made le. block.last l q s made (omega arith);
}

module _ (setting : Setting) (R : Lists) (h : List Stamp) (now : State) (rows : List (List ℕ)) (stands : List Stand)
    (L : Laid setting R h now rows stands) (sd : Stand) (isd : IsStand R sd) (r : Refusal) (a : Asked)
    (refused : refusal_of sd.entry ≡ Some r) (asked : IsAsked rows stands sd r a) where
  -- the entry was refused as the refusal says
  means : IsRefused sd.entry r
  means = refusal_means sd.entry r refused

  -- the refused entry is in the block that it is laid out with
  block_d : IsBlockOf R sd.place sd.block
  block_d = block_is setting R h now rows stands L sd isd means.is_access

  -- before the refused entry: of a plain one
  told_of_plain : (c : Place) (e : Entry) → EntryAt R c e → IsPlain e → (b : ℕ) → IsBlockOf R c b → c.thread ≢ sd.place.thread
      → (b + 1 < at a.known c.thread) ↔ HappensBefore R c sd.place
  told_of_plain c e there plain b block apart = elim means.kind [
    | inl p ↦ told_plain setting R h now rows stands L c (record { thread = c.thread; block = b; variables = None })
        (plain_stands setting R h now rows stands L c e there plain b block) sd.place sd.entry isd.there p sd.block block_d apart a.known
        asked.knows
    | inr k ↦ told_refused setting R h now rows stands L c e there plain b block sd.place sd.entry isd.there k means.is_access sd.block
        block_d apart a.known asked.knows
  ]

  -- of a commit
  told_of_commit : (s : Stand) → IsStand R s → IsCommit s.entry → IsPlain sd.entry → s.place.thread ≢ sd.place.thread
      → (s.block < at a.known s.place.thread) ↔ HappensBefore R s.place sd.place
  told_of_commit s is commit plain apart =
      let v = commit_place setting R h now rows stands L s is commit in
      let block = block_is setting R h now rows stands L s is (commit_access s.entry commit) in
      let stands_for : StandsFor R s.place (record { thread = s.place.thread; block = s.block; variables = Some v.0 }) = record {
        thread = refl;
        block = block;
        goes_on = goes_on R L.form s.place s.entry is.there (commit_access s.entry commit) s.block block;
        kind = inr (v.0, refl, (v.1.0, v.1.1, v.1.2));
      } in
      told_plain setting R h now rows stands L s.place (record { thread = s.place.thread; block = s.block; variables = Some v.0 })
      stands_for sd.place sd.entry isd.there plain sd.block block_d apart a.known asked.knows

  -- where one of the two is plain, a plain entry or a commit of another thread happens before the refused entry exactly where what is known
  -- has passed its tick
  told : (s : Stand) → IsStand R s → IsPlain s.entry ⊎ IsCommit s.entry → IsPlain s.entry ⊎ IsPlain sd.entry
      → s.place.thread ≢ sd.place.thread → (tick_in s.block s.entry < at a.known s.place.thread) ↔ HappensBefore R s.place sd.place
  told s is (inl plain) one apart =
      let block = block_is setting R h now rows stands L s is (plain_access s.entry plain) in
      let near = slice_get_within h s.block block.event (L.is_list.listed (record { thread = s.place.thread; index = block.index }) s.block
      block.event block.made) in
      let t : tick_in s.block s.entry ≡ s.block + 1 = plain_tick s.entry s.block plain (let z = L.short in omega arith) in
      let w = told_of_plain s.place s.entry is.there plain s.block block apart in
      (λ l. w.0 (omega arith), λ b. let z = w.1 b in omega arith)
  told s is (inr commit) one apart =
      let t : tick_in s.block s.entry ≡ s.block = commit_tick s.entry s.block commit in
      let plain : IsPlain sd.entry = elim one [ inl p ↦ absurd (not_plain_commit s.entry p commit) | inr p ↦ p ] in
      let w = told_of_commit s is commit plain apart in
      (λ l. w.0 (omega arith), λ b. let z = w.1 b in omega arith)

  -- what is found races
  pub race_in : (s : Stand) → IsStand R s → (k : ℕ) → race_number a s ≡ Some k → RacesWith R sd.place r.var s.place k
  race_in s is k e =
      let w = where_means a s (own_number a.refusal.var s.entry) k e in
      let y = test_means a s k w.1 in
      let done : IsDone s.entry r.var k = own_means s.entry r.var k
      (subst (λ (z : Refusal). own_number z.var s.entry ≡ Some k) asked.refusal w.0) in
      let apart : s.place.thread ≢ sd.place.thread = (λ z. y.another (z ∙ sym asked.thread)) in
      let writes : Writes s.entry r.var ⊎ Writes sd.entry r.var = elim y.writes [
        | inl z ↦ inl ((writes_told s.entry r.var k done.performed done.number).0
            (subst (λ (x : Refusal). writes_to x.var s.entry ≡ true) asked.refusal z))
        | inr z ↦ inr (means.writes.0 (subst (λ (x : Refusal). x.write ≡ true) asked.refusal z))
      ] in
      let plain : IsPlain s.entry ⊎ IsPlain sd.entry = elim y.plain [
        | inl z ↦ inl ((plain_told' s.entry).0 z)
        | inr z ↦ inr (means.plain.0 (subst (λ (x : Refusal). x.plain ≡ true) asked.refusal z))
      ] in
      let order = told s is done.kind plain apart in
      record {
        earlier = s.entry;
        refused = sd.entry;
        later = r.nth;
        there = is.there;
        here = isd.there;
        drawn = done.drawn;
        numbered = means.number;
        before = subst (λ (z : Refusal). k < z.nth) asked.refusal y.before;
        another = apart;
        performed = done.performed;
        conflict = (writes, plain);
        unordered = λ b. let z = order.1 b in let u = y.unknown in omega arith;
      }

  -- and what races is found
  pub race_out : (c : Place) (k : ℕ) → RacesWith R sd.place r.var c k
      → (i : ℕ) × ((s : Stand) × (slice_get stands i ≡ Some s) × (s.place ≡ c)
      × (race_number a s ≡ Some k))
  race_out c k w =
      let v = stand_of setting R h now rows stands L c w.earlier w.there in
      let s = v.1.0 in
      let entry : s.entry ≡ w.earlier = v.1.3 in
      let is : IsStand R s = v.1.4 in
      let second : w.refused ≡ sd.entry = same_entry R sd.place w.refused sd.entry w.here isd.there in
      let kept = (L.kept c w.earlier w.there).1 in
      let own : own_number r.var s.entry ≡ Some k = ap (own_number r.var) entry ∙ own_there w.earlier r.var k kept w.drawn w.performed in
      let done : IsDone s.entry r.var k = own_means s.entry r.var k own in
      let later : w.later ≡ r.nth = one_number sd.entry r.var w.later r.nth (L.kept sd.place sd.entry isd.there).1
      (subst (λ z. NumberOn z r.var w.later) second w.numbered) means.number in
      let apart : s.place.thread ≢ sd.place.thread = subst (λ (z : Place). z.thread ≢ sd.place.thread) (sym v.1.2) w.another in
      let conflict : Conflict s.entry sd.entry r.var = subst (λ z. Conflict z sd.entry r.var) (sym entry)
      (subst (λ z. Conflict w.earlier z r.var) second w.conflict) in
      let order = told s is done.kind conflict.1 apart in
      let unknown : at a.known s.place.thread ≤ tick_in s.block s.entry = elim
      (cases_lt (tick_in s.block s.entry) (at a.known s.place.thread)) [
        | inl lt ↦ absurd (w.unordered (subst (λ z. HappensBefore R z sd.place) v.1.2 (order.0 lt)))
        | inr ge ↦ ge
      ] in
      let by : IsRaceBy a s k = record {
        another = λ z. apart (z ∙ asked.thread);
        before = subst (λ (z : Refusal). k < z.nth) (sym asked.refusal) (let z = w.before in omega arith);
        writes = elim conflict.0 [
          | inl z ↦ inl (subst (λ (x : Refusal). writes_to x.var s.entry ≡ true) (sym asked.refusal)
              ((writes_told s.entry r.var k done.performed done.number).1 z))
          | inr z ↦ inr (subst (λ (x : Refusal). x.write ≡ true) (sym asked.refusal) (means.writes.1 z))
        ];
        plain = elim conflict.1 [
          | inl z ↦ inl ((plain_told' s.entry).1 z)
          | inr z ↦ inr (subst (λ (x : Refusal). x.plain ≡ true) (sym asked.refusal) (means.plain.1 z))
        ];
        unknown = unknown;
      } in
      let own' : own_number a.refusal.var s.entry ≡ Some k = subst (λ (z : Refusal). own_number z.var s.entry ≡ Some k) (sym asked.refusal)
      own in
      let found : race_number a s ≡ Some k = ap (race_where a s) own' ∙ ap (λ b. if b then Some k else None) (test_there a s k by) in
      (v.0, (s, v.1.1, v.1.2, found))

  -- a racy entry has such an access
  pub some_race : IsRacy R sd.place r.var → (c : Place) × ((k : ℕ) × RacesWith R sd.place r.var c k)
  some_race w = by w.before.first w.before.there w.before.numbered w.performed w.conflict.0 w.conflict.1
    where
      x : ℕ
      x = r.var

      less : w.before.number < w.before.later
      less = elim w.before.order [ inl lt ↦ lt | inr o ↦ absurd (w.another o.1.0) ]

      given : (c : Place) (e : Entry) → EntryAt R c e → c.thread ≡ w.other.thread → NumberDraws e x w.before.number → IsPerformed e
          → Conflict e w.before.second x → (HappensBefore R c sd.place → ⊥) → RacesWith R sd.place x c w.before.number
      given c e there own drawn performed conflict unordered = record {
        earlier = e;
        refused = w.before.second;
        later = w.before.later;
        there = there;
        here = w.before.here;
        drawn = drawn;
        numbered = w.before.also_numbered;
        before = less;
        another = λ z. w.another (sym own ∙ z);
        performed = performed;
        conflict = conflict;
        unordered = unordered;
      }

      by : (e : Entry) → EntryAt R w.other e → NumberOn e x w.before.number → IsPerformed e → Writes e x ⊎ Writes w.before.second x
          → IsPlain e ⊎ IsPlain w.before.second → (c : Place) × ((k : ℕ) × RacesWith R sd.place x c k)
      by (Commit at tx) there n p writes plain =
          (w.other, (w.before.number, given w.other (Commit at tx) there refl n p (writes, plain) w.unordered))
      by (Plain var nth false write value raised) there n p writes plain = (
        w.other,
        (
          w.before.number,
          given w.other (Plain var nth false write value raised) there refl (refl, n.0, n.1) p (writes, plain)
              w.unordered,
        ),
      )
      by (Plain var nth true write value true) there n p writes plain = absurd (cc)
      by (Plain var nth true write value false) there n p writes plain = (
        s,
        (
          w.before.number,
          given s g at refl (refl, n.0, n.1) refl
              (elim writes [ inl z ↦ inl (n.0, hr.enough z.1) | inr z ↦ inr z ], inl tt) unordered,
        ),
      )
        where
          t : ℕ
          t = w.other.thread

          hr : HasRight (R t) w.other.index var nth write
          hr = (L.form.formed t).cached w.other.index var nth write value there

          s : Place
          s = record { thread = t; index = hr.index }

          f : (v : ℤ) × (hr.entry ≡ Plain var nth false hr.by_write v false)
          f = gives_is hr.entry var nth hr.by_write hr.gives

          g : Entry
          g = Plain var nth false hr.by_write f.0 false

          at : EntryAt R s (Plain var nth false hr.by_write f.0 false)
          at = subst (λ e. EntryAt R s e) f.1 hr.there

          v : (i : ℕ) × ((q : Stand) × (slice_get stands i ≡ Some q) × (q.place ≡ w.other)
              × (q.entry ≡ Plain var nth true write value false)
              × IsStand R q)
          v = stand_of setting R h now rows stands L w.other (Plain var nth true write value false) there

          block : IsBlockOf R w.other v.1.0.block
          block = subst (λ z. IsBlockOf R z v.1.0.block) v.1.2 (block_is setting R h now rows stands L v.1.0 v.1.4
              (subst (λ z. IsAccess z) (sym v.1.3) tt))

          first_block : IsBlockOf R s v.1.0.block
          first_block = same_block R t hr.index w.other.index v.1.0.block g (Plain var nth true write value false) at refl refl there
              hr.before (λ l e a' lo hi. hr.no_event l e a' lo hi) block

          unordered : HappensBefore R s sd.place → ⊥
          unordered b = w.unordered ((told_of_plain w.other (Plain var nth true write value false) there tt v.1.0.block block w.another).0
              ((told_of_plain s g at tt v.1.0.block first_block w.another).1 b))
      by (Sync at act value) there n p writes plain = absurd n
      by (Abort tx why) there n p writes plain = absurd p
      by (Trim low) there n p writes plain = absurd n
      by (Over ending) there n p writes plain = absurd n
