-- From what was found of each claim to the race law of the record.
use Rattle.std.proofs.Common.{◌≡◌, ℕ, ℤ, suc, ◌+◌, ◌^◌, ◌<◌, ◌≤◌, List, [], ◌∷◌, length, map, get_or, Bool, true, false, refl, ap, sym, ◌∙◌, subst, inl, inr, arith, Some, None}
use Rattle.std.specs.Prelude.{◌⊎◌, ◌↔◌, All, Contains, Option, MatchOption, slice_get}
use Rattle.std.proofs.lemmas.Bool.{cases_lt}
use Rattle.std.proofs.lemmas.Option.{slice_get_within, slice_get-get_or, slice_get_cases, get_or_from_slice_get}
use Rattle.std.proofs.Math.Nat.{eq-or-lt_of_le}
use Rattle.gl_core.specs.Cells.{cell}
use Rattle.gl_laws.proofs.Bridge.{same_entry}
use Rattle.gl_model.specs.declared.event.Stamp.{Stamp}
use Rattle.gl_model.specs.declared.tx.Why.TheVariants.{Changed, Raised}
use Rattle.gl_model.specs.declared.limits.TheConstants.{THREADS, VARIABLES}
use Rattle.gl_model.specs.Entries.{Entry, Sync, Commit, Plain, Abort, Trim, Over}
use Rattle.gl_model.specs.Form.{Form, Numbered, IsMachineRun, value_of}
use Rattle.gl_model.specs.HappensBefore.{IsRacy, IsRaisedRightly, Races}
use Rattle.gl_model.specs.Machine.{Setting, State, Step, Run, Allows}
use Rattle.gl_model.specs.Records.{Lists, Place, EntryAt, IsEventList, NumberOn}
use Rattle.gl_places.specs.Places.{Before, IsFirstBy, seen}
use Rattle.gl_places.specs.declared.place.Place.{Place as StoredPlace}
use Rattle.std.specs.List.{AllByRecursion}
use Rattle.std.specs.List.Sorted.{IsNonDecreasingBy, IsPermutation}
use Rattle.std.proofs.lemmas.List.Elements.{Contains-get_or}
use Rattle.std.proofs.lemmas.List.Sorted.{Contains-permutation, IsPermutation-sym}
use Rattle.gl_model.specs.Kept.{IsEntryKept}
use Rattle.gl_model.specs.declared.tx.Number.{Number}
use Rattle.gl_raised.proofs.Numbered.{all_at}
use Rattle.gl_raised.proofs.Parts.{part_means}
use Rattle.gl_raised.specs.Accesses.{IsAccess, IsWithin, raised_on}
use Rattle.gl_raised.specs.Earlier.{ClaimsKnow}
use Rattle.gl_raised.specs.Gathers.{AreGathered}
use Rattle.gl_raised.specs.Judged.{AreLeast, IsLeast, IsRacyClaim}
use Rattle.gl_raised.specs.RaceFaults.{AreSteps, RaceFailsAt}
use Rattle.gl_raised.specs.Rows.{AreBlockClocks}
use Rattle.gl_raised.specs.Sorted.{AreSorted, IsFirstOther}
use Rattle.gl_raised.specs.declared.access.Access.{Access}
use Rattle.gl_raised.specs.declared.access.Claim.{Claim}
use Rattle.gl_raised.proofs.Racing.{Judging, racy_told}

-- if each event of a list steps from one state to the next, the list is a run from the first of these states to the last
run_from :
    (setting : Setting) (f : ℕ → State) (ys : List Stamp) (n m : ℕ) → m ≡ n + length ys
    → ((p q : ℕ) (s : Stamp) → slice_get ys p ≡ Some s → q ≡ n + p → (v : ℤ) × Step setting (f q) s v (f (q + 1)))
    → Run setting (f n) ys (f m)
run_from setting f [] n m is steps = ap f (let z : m ≡ n = omega arith in z)
run_from setting f (s ∷ ys) n m is steps =
    let k = steps 0 n s refl (omega arith) in
    (k.0, f (n + 1), k.1, run_from setting f ys (n + 1) m (omega arith) (λ p q t e w. steps (suc p) q t e (omega arith)))

-- the history that a record's entries make is allowed, if the machine runs it
pub allowed_of : (setting : Setting) (R : Lists) (h : List Stamp) → IsEventList h R → (run : IsMachineRun setting R h)
    → Allows setting h (run.at (length h))
allowed_of setting R h is run = subst (λ o. Run setting o h (run.at (length h))) run.first
    (run_from setting run.at h 0 (length h) (omega arith) steps)
  where
    steps : (p q : ℕ) (s : Stamp) → slice_get h p ≡ Some s → q ≡ 0 + p → (v : ℤ) × Step setting (run.at q) s v (run.at (q + 1))
    steps p q s e same =
        let m = is.made p s e in
        let z : p ≡ q = omega arith in
        subst (λ k. (v : ℤ) × Step setting (run.at k) s v (run.at (k + 1))) z (value_of m.1.entry, run.steps m.0 p s m.1)

-- a plain entry is racy on no variable but its own
plain_var : (R : Lists) (c : Place) (var nth : ℕ) (cached write raised : Bool) (value : ℤ)
    → EntryAt R c (Plain var nth cached write value raised) → (x : ℕ) → IsRacy R c x → var ≡ x
plain_var R c var nth cached write raised value here x r =
    (subst (λ f. NumberOn f x r.before.later) (same_entry R c r.before.second (Plain var nth cached write value raised) r.before.here here)
    r.before.also_numbered).0

-- an access is raised rightly exactly where the variable it raised on is the least of those it races on
rightly : (R : Lists) (c : Place) (e : Entry) → EntryAt R c e → IsAccess e → IsRaisedRightly R c e ↔ IsLeast (IsRacy R c) (raised_on e)
rightly R c (Plain var nth cached write value true) here is = (
  λ r. (r.0 refl, λ y l p. let z = plain_var R c var nth cached write true value here y p in omega arith),
  λ l. (λ z. l.0, λ z. refl),
)
rightly R c (Plain var nth cached write value false) here is = (
  λ r x p. let z : false ≡ true = r.1 (subst (IsRacy R c) (sym (plain_var R c var nth cached write false value here x p)) p) in cc,
  λ l. (λ z. absurd (cc), λ p. absurd (l var p)),
)
rightly R c (Commit at tx) here is = (λ r. r, λ l. l)
rightly R c (Abort tx (Raised var)) here is = (λ r. r, λ l. l)
rightly R c (Abort tx (Changed var read found)) here is = absurd is
rightly R c (Sync at act value) here is = absurd is
rightly R c (Trim low) here is = absurd is
rightly R c (Over ending) here is = absurd is

-- of what is no access it says nothing
access_or_right : (R : Lists) (c : Place) (e : Entry) → IsAccess e ⊎ IsRaisedRightly R c e
access_or_right R c (Plain var nth cached write value raised) = inl tt
access_or_right R c (Commit at tx) = inl tt
access_or_right R c (Abort tx (Raised var)) = inl tt
access_or_right R c (Abort tx (Changed var read found)) = inr tt
access_or_right R c (Sync at act value) = inr tt
access_or_right R c (Trim low) = inr tt
access_or_right R c (Over ending) = inr tt

-- two least numbers of one property are the same
least_one : (P : ℕ → Type 0) (a b : Option ℕ) → IsLeast P a → IsLeast P b → a ≡ b
least_one P None None l m = refl
least_one P None (Some y) l m = absurd (l y m.0)
least_one P (Some x) None l m = absurd (m x l.0)
least_one P (Some x) (Some y) l m = ap Some
    (elim (cases_lt x y) [
      | inl lt ↦ absurd (m.1 x lt l.0)
      | inr ge ↦ elim (eq-or-lt_of_le ge) [ inl same ↦ sym same | inr lt ↦ absurd (l.1 y lt m.0) ]
    ])

-- the least number of a property is that of any property with the same numbers
least_as : (P Q : ℕ → Type 0) → ((x : ℕ) → P x ↔ Q x) → (o : Option ℕ) → IsLeast P o → IsLeast Q o
least_as P Q same None l = λ x q. l x ((same x).1 q)
least_as P Q same (Some x) l = ((same x).0 l.0, λ y lt q. l.1 y lt ((same y).1 q))

-- no two places are each before the other
pub not_before : (c d : Place) → Before c d → Before d c → ⊥
not_before c d (inl l) (inl m) = omega arith
not_before c d (inl l) (inr m) = let z = m.0 in omega arith
not_before c d (inr l) (inl m) = let z = l.0 in omega arith
not_before c d (inr l) (inr m) = let z = l.1 in let y = m.1 in omega arith

module _ (R : Lists) (claims : List Claim) (old us : List Access) (rows before known : List (List ℕ)) (least : List (Option ℕ))
    (form : Form R) (numbered : Numbered R) (run : AreSteps R)
    (gathered : AreGathered R (record { thread = THREADS; index = 0 }) claims old)
    (within : (c : Place) (e : Entry) → EntryAt R c e → c.thread < THREADS) (sorted : AreSorted old us) (short : length rows < 2 ^ 64)
    (clocks : (h : List Stamp) → IsEventList h R → AreBlockClocks h rows) (first : (k : ℕ) (l : Claim) → slice_get claims k ≡ Some l
    → (u : ℕ) → cell before k u ≡ cell rows l.block u) (learned : ClaimsKnow rows us (length us) before known) (long : length least
    ≡ length claims) (found : AreLeast known us (length us) least) where
  -- two claims of one place are the same claim
  one : (j k : ℕ) (l m : Claim) → slice_get claims j ≡ Some l → slice_get claims k ≡ Some m → seen l.place ≡ seen m.place → j ≡ k
  one j k l m a b same = elim (cases_lt j k) [
    | inl lt ↦ absurd (let w = gathered.rising j k l m a b lt
        in not_before (seen l.place) (seen m.place) w
        (subst (λ c. Before c (seen l.place)) same (subst (λ c. Before (seen l.place) c) (sym same) w)))
    | inr ge ↦ elim (eq-or-lt_of_le ge) [
      | inl z ↦ sym z
      | inr lt ↦ absurd (let w = gathered.rising k j m l b a lt
          in not_before (seen m.place) (seen l.place) w
          (subst (λ c. Before (seen l.place) c) same (subst (λ c. Before c (seen l.place)) (sym same) w)))
    ]
  ]

  -- what was gathered of the record is what the judging of its races asks for
  J : Judging run.0 R run.1.0 (run.1.2.at (length run.1.0)) claims us rows before known
  J =
      let k = clocks run.1.0 run.1.1 in record {
        form = form;
        numbered = numbered;
        is_list = run.1.1;
        allowed = allowed_of run.0 R run.1.0 run.1.1 run.1.2;
        short = (let z = k.long in omega arith);
        claim = λ k l a. (gathered.claim k l a).1;
        all = λ c e a is. gathered.all c e a is (inl (within c e a));
        one = one;
        parts = λ a. (λ c. (gathered.parts a).0 ((sorted.same a).0 c), λ w. (sorted.same a).1 ((gathered.parts a).1 w));
        ordered = sorted.ordered;
        clocks_are = k;
        first = first;
        learned = learned;
      }

  -- a claim names what was found exactly where the race law holds of its entry
  pub claim_right : (k : ℕ) (l : Claim) (o : Option ℕ) (e : Entry) → slice_get claims k ≡ Some l → slice_get least k ≡ Some o
      → EntryAt R (seen l.place) e → (l.raised ≡ o) ↔ IsRaisedRightly R (seen l.place) e
  claim_right k l o e at there here =
      let c = gathered.claim k l at in
      let same : c.1.0 ≡ e = same_entry R (seen l.place) c.1.0 e c.1.1.there here in
      let is : IsAccess e = subst IsAccess same c.1.1.is_access in
      let named : l.raised ≡ raised_on e = c.1.1.raised ∙ ap raised_on same in
      let r = rightly R (seen l.place) e here is in
      let least' : IsLeast (IsRacy R (seen l.place)) o =
      least_as (IsRacyClaim known us (length us) k) (IsRacy R (seen l.place))
      (λ x. racy_told run.0 R run.1.0 (run.1.2.at (length run.1.0)) claims us rows before known J k l at x) o (found k o there) in (
        λ e'. r.1 (subst (IsLeast (IsRacy R (seen l.place))) (sym e' ∙ named) least'),
        λ h. named ∙ least_one (IsRacy R (seen l.place)) (raised_on e) o (r.0 h) least',
      )

  -- each claim has an answer among the least variables
  least_there : (k : ℕ) (l : Claim) → slice_get claims k ≡ Some l → (o : Option ℕ) × (slice_get least k ≡ Some o)
  least_there k l at = elim (slice_get_cases least k).1 [
    | inl some ↦ (some.0, some.2)
    | inr none ↦ absurd (let z = none.0 in let y = slice_get_within claims k l at in omega arith)
  ]

  -- where a claim names another variable than was found, the first such claim's place
  -- is the first at which the law of races fails, and where none does, the law holds
  pub answer : (result : Option StoredPlace) → IsFirstOther claims least result
      → MatchOption result (Races R) (λ c. IsFirstBy Before (RaceFailsAt R) (seen c))
  answer None all = λ c e here. elim (access_or_right R c e) [
    | inr right ↦ right
    | inl is ↦
        (let k = gathered.all c e here is (inl (within c e here)) in
        let l = k.1.0 in
        let o = least_there k.0 l k.1.1 in
        let here' : EntryAt R (seen l.place) e = subst (λ z. EntryAt R z e) (sym k.1.2) here in
        subst (λ z. IsRaisedRightly R z e) k.1.2 ((claim_right k.0 l o.0 e k.1.1 o.1 here').0
        (all (k.0 + 1) k.0 l o.0 (omega arith) k.1.1 o.1)))
  ]
  answer (Some p) w =
      let k = w.0 in
      let l = w.1.0 in
      let o = w.1.1.0 in
      let at = w.1.1.1 in
      let there = w.1.1.2 in
      let c = gathered.claim k l at in
      let place : p ≡ l.place = w.1.1.3 in
      subst (λ (z : StoredPlace). IsFirstBy Before (RaceFailsAt R) (seen z)) (sym place) (
        (c.1.0, c.1.1.there, λ right. w.1.1.4 ((claim_right k l o c.1.0 at there c.1.1.there).1 right)),
        λ d fails earlier. elim (access_or_right R d fails.0) [
          | inr right ↦ fails.2 right
          | inl is ↦
              (let j = gathered.all d fails.0 fails.1 is (inl (within d fails.0 fails.1)) in
              let m = j.1.0 in
              let q = least_there j.0 m j.1.1 in
              let here' : EntryAt R (seen m.place) fails.0 = subst (λ z. EntryAt R z fails.0) (sym j.1.2) fails.1 in
              let earlier' : Before (seen m.place) (seen l.place) = subst (λ z. Before z (seen l.place)) (sym j.1.2) earlier in
              let near : j.0 < k = elim (cases_lt j.0 k) [
                | inl lt ↦ lt
                | inr ge ↦ absurd (elim (eq-or-lt_of_le ge) [
                  | inl same ↦ (let one : l ≡ m = (let x : slice_get claims j.0 ≡ Some l = subst (λ z. slice_get claims z ≡ Some l) same at
                      in let y = j.1.1 in cc) in let e2 : Before (seen m.place) (seen m.place) =
                      subst (λ (z : Claim). Before (seen m.place) (seen z.place)) one earlier'
                      in not_before (seen m.place) (seen m.place) e2 e2)
                  | inr lt ↦ not_before (seen m.place) (seen l.place) earlier' (gathered.rising k j.0 l m at j.1.1 lt)
                ])
              ] in
              fails.2 (subst (λ z. IsRaisedRightly R z fails.0) j.1.2
              ((claim_right j.0 m q.0 fails.0 j.1.1 q.1 here').0 (w.1.1.5 j.0 m q.0 near j.1.1 q.1))))
        ],
      )

-- each number of a list has a variable that there is, if all of their variables are
map_all : (ns : List Number) → AllByRecursion (λ x. x < VARIABLES) (map (λ n. n.var) ns) → (x n : ℕ)
    → Contains ns (record { var = x; nth = n }) → x < VARIABLES
map_all ns all x n (i, l, e) = all_at (λ y. y < VARIABLES) (λ (m : Number). m.var) ns all i (record { var = x; nth = n })
    (slice_get-get_or ns i (record { var = x; nth = n }) l ∙ ap Some e)

-- the numbers of an entry that is kept are on variables that there are
number_kept : (e : Entry) (x n : ℕ) → IsEntryKept e → NumberOn e x n → x < VARIABLES
number_kept (Plain var nth cached write value raised) x n kept i = subst (λ y. y < VARIABLES) i.0 kept
number_kept (Commit at tx) x n kept i = map_all tx.numbers kept.2.2 x n i
number_kept (Abort tx (Raised var)) x n kept i = map_all tx.numbers kept.0.2.2 x n i
number_kept (Abort tx (Changed var read found)) x n kept i = absurd i
number_kept (Sync at act value) x n kept i = absurd i
number_kept (Trim low) x n kept i = absurd i
number_kept (Over ending) x n kept i = absurd i

-- each access is of a variable and a thread that there are, and of a claim
pub all_within :
    (R : Lists) (d : Place) (claims : List Claim) (old us : List Access) → AreGathered R d claims old → AreSorted old us
    → ((c : Place) (e : Entry) → EntryAt R c e → (c.thread < THREADS) × IsEntryKept e) → (n : ℕ) → n ≡ length claims →
    All (λ a. IsWithin n a) us
all_within R d claims old us gathered sorted kept n same = λ k a l. one (get_or us k a) (Contains-get_or us k a l)
  where
    one : (a : Access) → Contains us a → IsWithin n a
    one a i =
        let w = (gathered.parts a).0 ((sorted.same a).0 i) in
        let m = w.1.0 in
        let e = w.1.1.0 in
        let part = part_means w.0 m.place.thread m.block e a w.1.1.3 in
        let k = kept (seen m.place) e w.1.1.2 in
        let near = slice_get_within claims w.0 m w.1.1.1 in
        (number_kept e a.var a.nth k.1 part.number, subst (λ t. t < THREADS) (sym part.thread) k.0, let z = part.claim in omega arith)

-- the accesses put in order
pub sorted_of : (old new : List Access) → IsPermutation old new → IsNonDecreasingBy (λ (a : Access). a.nth) new → AreSorted old new
sorted_of old new moved rising = record {
  same = λ a. (λ i. Contains-permutation new old a (IsPermutation-sym old new moved) i, λ i. Contains-permutation old new a moved i);
  ordered = λ i j v w a b le.
      let m = rising i j v le (slice_get_within new j w b) in
      let x = get_or_from_slice_get new i v v a in
      let y = get_or_from_slice_get new j w v b in
      subst (λ (z : Access). v.nth ≤ z.nth) y (subst (λ (z : Access). z.nth ≤ (get_or new j v).nth) x m);
}

-- what was found of a record, put together
pub finish :
    (R : Lists) (claims : List Claim) (old us : List Access) (rows before known : List (List ℕ)) (least : List (Option ℕ))
    (result : Option StoredPlace) → Form R → Numbered R → AreSteps R →
    AreGathered R (record { thread = THREADS; index = 0 }) claims old
    → ((c : Place) (e : Entry) → EntryAt R c e → (c.thread < THREADS) × IsEntryKept e) → AreSorted old us → length rows < 2 ^ 64
    → ((h : List Stamp) → IsEventList h R → AreBlockClocks h rows) →
    (r1 r3 k6 : List (List ℕ)) (c2 c7 : List Claim) (a4 a5 : List Access) (l8 : List (Option ℕ)) → r1 ≡ rows → c2 ≡ claims → r3 ≡ rows → a4
    ≡ us → a5 ≡ us → k6 ≡ known → c7 ≡ claims → l8 ≡ least →
    ((k : ℕ) (l : Claim) → slice_get c2 k ≡ Some l → (u : ℕ) → cell before k u ≡ cell r1 l.block u)
    → ClaimsKnow r3 a4 (length a4) before known → length least ≡ length claims → AreLeast k6 a5 (length a5) least →
    IsFirstOther c7 l8 result → MatchOption result (Races R) (λ c. IsFirstBy Before (RaceFailsAt R) (seen c))
finish R claims old us rows before known least result form numbered run gathered kept sorted short clocks r1 r3 k6 c2 c7 a4 a5 l8 e1 e2 e3
    e4 e5 e6 e7 e8 first learned long found other =
    answer R claims old us rows before known least form numbered run gathered (λ c e a. (kept c e a).0) sorted short clocks
    (λ k l a u. subst (λ r. cell before k u ≡ cell r l.block u) e1 (first k l (subst (λ cs. slice_get cs k ≡ Some l) (sym e2) a) u))
    (subst (λ r. ClaimsKnow r us (length us) before known) e3 (subst (λ a. ClaimsKnow r3 a (length a) before known) e4 learned)) long
    (subst (λ k. AreLeast k us (length us) least) e6 (subst (λ a. AreLeast k6 a (length a) least) e5 found)) result
    (subst (λ cs. IsFirstOther cs least result) e7 (subst (λ ls. IsFirstOther c7 ls result) e8 other))
