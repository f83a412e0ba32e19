-- From what is found of the refused entries to their causes.
use Rattle.std.proofs.Common.{◌≡◌, ◌≢◌, ℕ, zero, suc, ◌^◌, ◌<◌, List, [], ◌∷◌, length, map, Bool, true, false, refl, ap, sym, ◌∙◌, subst, inl, inr, arith, Some}
use Rattle.std.specs.Prelude.{Contains, if◌then◌else◌, is_some, slice_get}
use Rattle.std.proofs.lemmas.List.{length-map}
use Rattle.std.proofs.lemmas.Option.{slice_get_within, slice_get-get_or, get_or_from_slice_get}
use Rattle.gl_draws.proofs.Sets.{map_contains}
use Rattle.gl_laws.proofs.Bridge.{same_entry}
use Rattle.gl_model.specs.declared.event.Stamp.{Stamp}
use Rattle.gl_model.specs.declared.limits.TheConstants.{THREADS}
use Rattle.gl_model.specs.declared.tx.Why.TheVariants.{Changed, Raised}
use Rattle.gl_model.specs.Entries.{Entry, Sync, Commit, Plain, Abort, Trim, Over}
use Rattle.gl_model.specs.Form.{Form, Numbered}
use Rattle.gl_model.specs.HappensBefore.{IsRacy, IsRaisedRightly, Races}
use Rattle.gl_model.specs.Kept.{IsEntryKept}
use Rattle.gl_model.specs.Machine.{Setting, State}
use Rattle.gl_model.specs.Records.{Lists, Place, EntryAt, IsEventList, NumberOn}
use Rattle.gl_places.specs.Places.{Before, seen}
use Rattle.gl_raised.specs.Accesses.{raised_on}
use Rattle.gl_raised.specs.RaceFaults.{AreSteps}
use Rattle.gl_causes.specs.Causes.{AreCauses, AreRaces, IsCause, RacesWith}
use Rattle.gl_causes.specs.Finding.{AreFound, HaveRaces, IsOfRefused}
use Rattle.gl_causes.specs.Judging.{race_number, races_among, refusal_of}
use Rattle.gl_causes.specs.Leading.{IsLed}
use Rattle.gl_raised.specs.Rows.{AreBlockClocks}
use Rattle.gl_causes.specs.Stands.{AreOfThreads, AreStands, IsStand, Stand}
use Rattle.gl_causes.specs.declared.cause.Cause.{Cause}
use Rattle.gl_causes.specs.declared.races.Asked.{Asked}
use Rattle.gl_causes.specs.declared.refusals.Refusal.{Refusal}
use Rattle.gl_causes.proofs.EntryTests.{refusal_means, refusal_there}
use Rattle.gl_causes.proofs.Known.{led}
use Rattle.gl_causes.proofs.Racing.{race_in, race_out, some_race}
use Rattle.gl_causes.proofs.Telling.{Laid, block_is, stand_of}
use Rattle.gl_raised.proofs.Faulting.{allowed_of}
use Rattle.gl_causes.proofs.Passing.{some_there}

-- what was rightly raised on a variable is racy there
racy_of : (R : Lists) (c : Place) (f : Entry) (x : ℕ) → IsRaisedRightly R c f → raised_on f ≡ Some x → IsRacy R c x
racy_of R c (Plain var nth cached write value true) x right e = let same : var ≡ x = cc in subst (IsRacy R c) same (right.0 refl)
racy_of R c (Plain var nth cached write value false) x right e = absurd (cc)
racy_of R c (Abort tx (Raised var)) x right e = let same : var ≡ x = cc in subst (IsRacy R c) same right.0
racy_of R c (Abort tx (Changed var read found)) x right e = absurd (cc)
racy_of R c (Sync at act value) x right e = absurd (cc)
racy_of R c (Commit at tx) x right e = absurd (cc)
racy_of R c (Trim low) x right e = absurd (cc)
racy_of R c (Over ending) x right e = absurd (cc)

-- the entries that are laid out are of threads that there are
pub of_threads : (R : Lists) (stands : List Stand) → AreStands R (record { thread = THREADS; index = 0 }) stands → AreOfThreads stands
of_threads R stands are i s e =
    elim (are.each i s e).1 [ inl lt ↦ lt | inr w ↦ absurd (let z = w.1 in omega arith) ]

-- what is in a list stands at some place of it
pub in_list : {A : Type 0} (xs : List A) (x : A) → Contains xs x → (i : ℕ) × (slice_get xs i ≡ Some x)
in_list xs x w = (w.0, slice_get-get_or xs w.0 x w.1 ∙ ap Some w.2)

-- what stands at a place of a list is in it
pub of_list : {A : Type 0} (xs : List A) (i : ℕ) (x : A) → slice_get xs i ≡ Some x → Contains xs x
of_list xs i x e = (i, slice_get_within xs i x e, get_or_from_slice_get xs i x x e)

-- an entry among the races of a refused one stands among the entries and has a race number
filtered_means : (a : Asked) (xs : List Stand) (j : ℕ) (s : Stand) → slice_get (races_among a xs) j ≡ Some s → (i : ℕ)
    × ((slice_get xs i ≡ Some s) × ((k : ℕ) × (race_number a s ≡ Some k)))
filtered_means a [] j s e = absurd (cc)
filtered_means a (x ∷ xs) j s e = by (is_some (race_number a x)) refl j e (λ j' e'. filtered_means a xs j' s e')
  where
    by : (b : Bool) → is_some (race_number a x) ≡ b → (j : ℕ) → slice_get (if b then x ∷ races_among a xs else races_among a xs) j ≡ Some s
        → ((j' : ℕ) → slice_get (races_among a xs) j' ≡ Some s → (i : ℕ) × ((slice_get xs i ≡ Some s) × ((k : ℕ)
        × (race_number a s ≡ Some k))))
        → (i : ℕ) × ((slice_get (x ∷ xs) i ≡ Some s) × ((k : ℕ) × (race_number a s ≡ Some k)))
    by true is zero e' rec =
        let same : x ≡ s = cc in
        (zero, (ap Some same, some_there (race_number a s) (ap (λ (z : Stand). is_some (race_number a z)) (sym same) ∙ is)))
    by true is (suc j) e' rec = let w = rec j e' in (suc w.0, w.1)
    by false is j e' rec = let w = rec j e' in (suc w.0, w.1)

-- an entry that stands among the entries and has a race number is among the races of the refused one
filtered_there : (a : Asked) (xs : List Stand) (i : ℕ) (s : Stand) (k : ℕ) → slice_get xs i ≡ Some s → race_number a s ≡ Some k → (j : ℕ)
    × (slice_get (races_among a xs) j ≡ Some s)
filtered_there a [] i s k e some = absurd (cc)
filtered_there a (x ∷ xs) zero s k e some =
    let same : x ≡ s = cc in
    let is : is_some (race_number a x) ≡ true = ap (λ (z : Stand). is_some (race_number a z)) same ∙ ap is_some some in
    (zero, rw is (ap Some same))
filtered_there a (x ∷ xs) (suc i) s k e some = by (is_some (race_number a x)) (filtered_there a xs i s k e some)
  where
    by : (b : Bool) → (j : ℕ) × (slice_get (races_among a xs) j ≡ Some s)
        → (j : ℕ) × (slice_get (if b then x ∷ races_among a xs else races_among a xs) j ≡ Some s)
    by true w = (suc w.0, w.1)
    by false w = w

-- the entries rise
abbrev pub AreRising : List Stand → Type 0
AreRising xs = (i j : ℕ) (r s : Stand) → slice_get xs i ≡ Some r → slice_get xs j ≡ Some s → i < j → Before r.place s.place

-- the races of a refused one rise, if the entries do
filtered_rise : (a : Asked) (xs : List Stand) → AreRising xs → AreRising (races_among a xs)
filtered_rise a [] rise = λ i j r s e f lt. absurd (cc)
filtered_rise a (x ∷ xs) rise = by (is_some (race_number a x))
    (filtered_rise a xs (λ i j r s e f lt. rise (suc i) (suc j) r s e f (omega arith)))
  where
    after : (j : ℕ) (s : Stand) → slice_get (races_among a xs) j ≡ Some s → Before x.place s.place
    after j s e = let w = filtered_means a xs j s e in rise zero (suc w.0) x s refl w.1.0 (omega arith)

    by : (b : Bool) → AreRising (races_among a xs) → AreRising (if b then x ∷ races_among a xs else races_among a xs)
    by true rec zero zero r s e f lt = absurd (omega arith)
    by true rec zero (suc j) r s e f lt = let same : x ≡ r = cc in subst (λ (z : Stand). Before z.place s.place) same (after j s f)
    by true rec (suc i) zero r s e f lt = absurd (omega arith)
    by true rec (suc i) (suc j) r s e f lt = rec i j r s e f (omega arith)
    by false rec i j r s e f lt = rec i j r s e f lt

-- a place in a list of entries is that of one of them
at_mapped : (xs : List Stand) (j : ℕ) (c : Place) → slice_get (map (λ (s : Stand). s.place) xs) j ≡ Some c → (s : Stand)
    × ((slice_get xs j ≡ Some s) × (s.place ≡ c))
at_mapped [] j c e = absurd (cc)
at_mapped (x ∷ xs) zero c e = (x, (refl, let z : x.place ≡ c = cc in z))
at_mapped (x ∷ xs) (suc j) c e = at_mapped xs j c e

-- a record that is well-formed and numbered, with the clocks of its blocks, is laid out
pub laid_of :
    (R : Lists) (rows : List (List ℕ)) (stands : List Stand) → Form R → Numbered R → (run : AreSteps R) → length rows < 2 ^ 64
    → ((h : List Stamp) → IsEventList h R → AreBlockClocks h rows)
    → ((c : Place) (e : Entry) → EntryAt R c e → (c.thread < THREADS) × IsEntryKept e)
    → AreStands R (record { thread = THREADS; index = 0 }) stands → Laid run.0 R run.1.0 (run.1.2.at (length run.1.0)) rows stands
laid_of R rows stands form numbered run short clocks kept are =
    let k = clocks run.1.0 run.1.1 in record {
      form = form;
      numbered = numbered;
      is_list = run.1.1;
      allowed = allowed_of run.0 R run.1.0 run.1.1 run.1.2;
      short = (let z = k.long in omega arith);
      clocks_are = k;
      stands_are = are;
      kept = kept;
    }

module _ (setting : Setting) (R : Lists) (h : List Stamp) (now : State) (rows : List (List ℕ)) (stands : List Stand)
    (L : Laid setting R h now rows stands) (races : Races R) where
  -- each refused entry has an access that it races with
  pub have_races : HaveRaces rows stands
  have_races i s r a here refused asked =
      let is : IsStand R s = (L.stands_are.each i s here).0 in
      let m = refusal_means s.entry r refused in
      let racy = racy_of R s.place s.entry r.var (races s.place s.entry is.there) m.raised in
      let w = some_race setting R h now rows stands L s is r a refused asked racy in
      let o = race_out setting R h now rows stands L s is r a refused asked w.0 w.1.0 w.1.1 in
      (o.0, (o.1.0, (w.1.0, (o.1.1, o.1.3))))

  module _ (e : Cause) (w : IsOfRefused R rows stands (length stands) e) where
    -- the refused entry that the cause is of, as it is laid out
    d : Stand
    d = w.stand

    -- that entry stands so in the record
    is : IsStand R w.stand
    is = (L.stands_are.each w.index w.stand w.there).0

    -- the cause's variable is the one that the entry was refused on
    var_is : e.var ≡ w.refusal.var
    var_is = w.found.var_is ∙ ap (λ (r : Refusal). r.var) w.is_asked.refusal

    abbrev Culprit : Place → ℕ → Type 0
    Culprit c k = RacesWith R (seen e.at) e.var c k

    -- what races with the refused entry on its variable races with the entry at the cause's place on the cause's variable
    into : (c : Place) (k : ℕ) → RacesWith R w.stand.place w.refusal.var c k → RacesWith R (seen e.at) e.var c k
    into c k q = subst (λ p. RacesWith R p e.var c k) (sym w.place) (subst (λ x. RacesWith R w.stand.place x c k) (sym var_is) q)

    -- what races with the entry at the cause's place on the cause's variable races with the refused entry on its variable
    back : (c : Place) (k : ℕ) → RacesWith R (seen e.at) e.var c k → RacesWith R w.stand.place w.refusal.var c k
    back c k q = subst (λ x. RacesWith R w.stand.place x c k) var_is (subst (λ p. RacesWith R p e.var c k) w.place q)

    -- an entry that is found to race with the refused one, with some number, races with it by that number
    found_in : (i : ℕ) (s : Stand) (k : ℕ) → slice_get stands i ≡ Some s → race_number w.asked s ≡ Some k
        → RacesWith R (seen e.at) e.var s.place k
    found_in i s k e' some = into s.place k
        (race_in setting R h now rows stands L w.stand is w.refusal w.asked w.refused w.is_asked s (L.stands_are.each i s e').0 k some)

    -- each access that races with the refused entry is laid out, and is found to race with its number
    found_out : (c : Place) (k : ℕ) → RacesWith R (seen e.at) e.var c k → (i : ℕ) × ((s : Stand) × (slice_get stands i ≡ Some s)
        × (s.place ≡ c) × (race_number w.asked s ≡ Some k))
    found_out c k q = race_out setting R h now rows stands L w.stand is w.refusal w.asked w.refused w.is_asked c k (back c k q)

    abbrev places : List Place
    places = map (λ (s : Stand). s.place) (races_among w.asked stands)

    -- the places of the entries that are found to race are those of all that the refused entry races with, by thread and place
    all_races : AreRaces R (seen e.at) e.var (map (λ (s : Stand). s.place) (races_among w.asked stands))
    all_races = record {
      each = λ c. (
        λ i.
            (let j = in_list places c i in
            let s = at_mapped (races_among w.asked stands) j.0 c j.1 in
            let o = filtered_means w.asked stands j.0 s.0 s.1.0 in
            (o.1.1.0, subst (λ p. RacesWith R (seen e.at) e.var p o.1.1.0) s.1.1 (found_in o.0 s.0 o.1.1.0 o.1.0 o.1.1.1))),
        λ q.
            (let o = found_out c q.0 q.1 in
            let j = filtered_there w.asked stands o.0 o.1.0 q.0 o.1.1 o.1.3 in
            subst (Contains places) o.1.2
            (map_contains (λ (s : Stand). s.place) (races_among w.asked stands) o.1.0
            (of_list (races_among w.asked stands) j.0 o.1.0 j.1))),
      );
      rising = λ i j b c e' f lt.
          (let r = at_mapped (races_among w.asked stands) i b e' in
          let s = at_mapped (races_among w.asked stands) j c f in
          let z = filtered_rise w.asked stands L.stands_are.rising i j r.0 s.0 r.1.0 s.1.0 lt in
          subst (λ p. Before p c) r.1.1 (subst (λ p. Before r.0.place p) s.1.1 z));
    }

    -- if the other entry of the cause races with the refused one, the leading entry is the last of that thread that happens before it, if
    -- any does
    leads : {c : Place} {k : ℕ} → RacesWith R (seen e.at) e.var c k → c ≡ seen e.other → IsLed R (seen e.at) e.other.thread e.leading
    leads q same =
        let m = refusal_means w.stand.entry w.refusal w.refused in
        let block = block_is setting R h now rows stands L w.stand is m.is_access in
        let apart : e.other.thread ≢ w.stand.place.thread =
        (λ z. q.another (ap (λ (p : Place). p.thread) same ∙ z ∙ ap (λ (p : Place). p.thread) (sym w.place))) in
        subst (λ p. IsLed R p e.other.thread e.leading) (sym w.place)
        (led setting R h now rows stands L w.stand.place w.stand.entry is.there m.kind m.is_access w.stand.block block w.asked.known
        w.is_asked.knows e.other.thread apart e.leading w.found.leading)

    -- what was found of a refused entry is its cause
    pub is_cause : IsCause R e
    is_cause =
        let l = w.found.last in
        record {
          entry = w.stand.entry;
          here = subst (λ p. EntryAt R p w.stand.entry) (sym w.place) is.there;
          refused = (refusal_means w.stand.entry w.refusal w.refused).raised ∙ ap Some (sym var_is);
          number = w.found.nth;
          culprit = subst (λ p. RacesWith R (seen e.at) e.var p w.found.nth) l.0.1.2 (found_in l.0.0 l.0.1.0 w.found.nth l.0.1.1 l.0.1.3);
          latest = λ c k q. (let o = found_out c k q in l.1 o.0 o.1.0 k o.1.1 o.1.3);
          races = map (λ (s : Stand). s.place) (races_among w.asked stands);
          are_races = all_races;
          others = length-map (races_among w.asked stands) (λ (s : Stand). s.place) ∙ w.found.others;
          leading = leads (found_in l.0.0 l.0.1.0 w.found.nth l.0.1.1 l.0.1.3) l.0.1.2;
        }

  -- what was found of all refused entries are the causes of the record
  pub are_causes : (causes : List Cause) → AreFound R rows stands (length stands) causes → AreCauses R causes
  are_causes causes found = record {
    each = λ j e at. is_cause e (found.each j e at);
    all = λ c f x here raised.
        (let v = stand_of setting R h now rows stands L c f here in
        let racy = racy_of R c f x (races c f here) raised in
        let number : NumberOn f x racy.before.later = subst (λ z. NumberOn z x racy.before.later)
        (same_entry R c racy.before.second f racy.before.here here) racy.before.also_numbered in
        let r = refusal_there f x racy.before.later (L.kept c f here).1 raised number in
        let o = found.all v.0 v.1.0 r.0 (slice_get_within stands v.0 v.1.0 v.1.1) v.1.1 (ap refusal_of v.1.3 ∙ r.1) in
        (o.0, (o.1.0, o.1.1, o.1.2 ∙ v.1.2)));
    rising = found.rising L.stands_are.rising;
  }
