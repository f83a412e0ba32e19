-- The rights go on from one entry to the next.
use Rattle.std.proofs.Common.{◌≡◌, ℕ, zero, suc, ℤ, ◌+◌, ◌<◌, ◌≤◌, Bool, true, false, List, length, set, Option, Some, None, refl, sym}
use Rattle.std.proofs.Common.{◌∙◌, subst, arith, inl, inr}
use Rattle.std.specs.Prelude.{◌⊎◌, MatchBool}
use Rattle.std.proofs.lemmas.Bool.{cases_eq, cases_lt, cases_order}
use Rattle.std.proofs.lemmas.Grind.{get_or-set_at}
use Rattle.std.proofs.lemmas.List.{get_or-set_other}
use Rattle.std.proofs.lemmas.Option.{slice_get_cases, slice_get_within}
use Rattle.gl_model.specs.declared.limits.TheConstants.{VARIABLES}
use Rattle.gl_model.specs.Entries.{Entry, Sync, Commit, Plain, Abort, Trim, Over}
use Rattle.gl_model.specs.Form.{GivesRight, HasRight}
use Rattle.gl_model.specs.Records.{At, position_of}
use Rattle.gl_form.specs.declared.rights.Right.{Right}
use Rattle.gl_form.specs.Passed.{AreRights, IsAllowed, IsBlock, IsEnough, IsLatest, IsRightOf, RightsGoOn, right_on}
use Rattle.gl_form.proofs.Lasts.{before_next, same_entry}

-- an entry that gives a right is no event
pub gives_plain : (e : Entry) (x m : ℕ) (w : Bool) → GivesRight e x m w → position_of e ≡ None
gives_plain (Plain var nth cached write value raised) x m w g = refl
gives_plain (Sync at act value) x m w g = absurd g
gives_plain (Commit at tx) x m w g = absurd g
gives_plain (Abort tx why) x m w g = absurd g
gives_plain (Trim low) x m w g = absurd g
gives_plain (Over ending) x m w g = absurd g

-- what an entry gives is one right
pub gives_one : (e : Entry) (x k m : ℕ) (v w : Bool) → GivesRight e x k v → GivesRight e x m w → (k ≡ m) × (v ≡ w)
gives_one (Plain var nth cached write value raised) x k m v w g h = (sym g.3 ∙ h.3, sym g.4 ∙ h.4)
gives_one (Sync at act value) x k m v w g h = absurd g
gives_one (Commit at tx) x k m v w g h = absurd g
gives_one (Abort tx why) x k m v w g h = absurd g
gives_one (Trim low) x k m v w g h = absurd g
gives_one (Over ending) x k m v w g h = absurd g

module _ (es : List Entry) (i block : ℕ) (rights : List (Option Right)) (are : AreRights es i block rights) (here : Entry)
    (at : At es i here) where
  -- the entry before the block, if there is one, is an event
  ends_block : (j : ℕ) → block ≡ j + 1 → ((e : Entry) → At es j e → position_of e ≡ None) → ⊥
  ends_block j next none =
      let within = slice_get_within es i here at in
      let le = are.block_is.within in
      elim (slice_get_cases es j).1 [
        | inl there ↦ are.block_is.event j there.0 next there.2 (none there.0 there.2)
        | inr past ↦ (let ge = past.0 in omega arith)
      ]

  -- a right of an entry of the present block, since which no event came
  in_block : (x k : ℕ) (write : Bool) → (h : HasRight es i x k write) → block ≤ h.index
  in_block x k write h = by_block block refl where
    -- from the entry that gives the right up to place i no entry is an event
    at_end : (j : ℕ) → h.index ≤ j → j < i → (e : Entry) → At es j e → position_of e ≡ None
    at_end j le less e there = elim (cases_lt h.index j) [
      | inl lt ↦ h.no_event j e there lt less
      | inr ge ↦ (let same : e ≡ h.entry = same_entry es h.index j h.entry e h.there there (omega arith) in
          rw same (gives_plain h.entry x k h.by_write h.gives))
    ]

    -- whether the present block begins at place 0 or behind an entry: it begins at or before the entry that gives the right
    by_block : (b : ℕ) → block ≡ b → block ≤ h.index
    by_block zero is = omega arith
    by_block (suc j) is = elim (cases_lt h.index block) [
      | inl lt ↦ (let within = are.block_is.within in
          absurd (ends_block j (omega arith) (λ e there. at_end j (omega arith) (omega arith) e there)))
      | inr ge ↦ ge
    ]

  module _ (x : ℕ) (less : x < VARIABLES) (k : ℕ) (write : Bool) where
    -- the latest right on x, given in the present block and enough for the access, is the right that it has
    enough_has :
        (right : Right) → IsLatest es i x right → (block ≤ right.index) × (right.nth ≡ k) × (write ≡ true → right.write ≡ true) →
        HasRight es i x k write
    enough_has right is (within, same, enough) = record {
      index = right.index;
      entry = is.entry;
      there = is.there;
      before = is.before;
      by_write = right.write;
      gives = (let P : ℕ → Type 0 = λ n. GivesRight is.entry x n right.write in subst P same is.gives);
      enough = enough;
      no_event = λ j e there gt lt. are.block_is.no_event j e there (omega arith) lt;
      latest = λ j m e w there gt lt gives. is.latest j m e w there gt lt gives;
    }

    -- the last right is the one that is asked for, and of this block
    has_enough :
        HasRight es i x k write → (right : Right) → IsLatest es i x right →
        (block ≤ right.index) × (right.nth ≡ k) × (write ≡ true → right.write ≡ true)
    has_enough h right is = by_order (cases_order h.index right.index) where
      by_order :
          (h.index ≡ right.index) ⊎ ((h.index < right.index) ⊎ (right.index < h.index)) →
          (block ≤ right.index) × (right.nth ≡ k) × (write ≡ true → right.write ≡ true)
      by_order (inl same) =
          let one' : is.entry ≡ h.entry = same_entry es h.index right.index h.entry is.entry h.there is.there (sym same) in
          let P : Entry → Type 0 = λ e. GivesRight e x right.nth right.write in
          let mine : GivesRight h.entry x right.nth right.write = subst P one' is.gives in
          let both = gives_one h.entry x right.nth k right.write h.by_write mine h.gives in
          let within = in_block x k write h in
          ((omega arith), both.0, (λ w. both.1 ∙ h.enough w))
      by_order (inr (inl lt)) = absurd (h.latest right.index right.nth is.entry right.write is.there lt is.before is.gives)
      by_order (inr (inr gt)) = absurd (is.latest h.index k h.entry h.by_write h.there gt h.before h.gives)

    -- where the right that is kept for x is enough, a cached access at place i has the right
    allowed : IsEnough block (right_on rights x) k write → HasRight es i x k write
    allowed = by_right (right_on rights x) (are.rights_are x less) where
      by_right : (o : Option Right) → IsRightOf es i x o → IsEnough block o k write → HasRight es i x k write
      by_right None none enough = absurd enough
      by_right (Some right) is enough = enough_has right is enough

    -- where the right that is kept for x is not enough, a cached access at place i does not have the right
    refused : (IsEnough block (right_on rights x) k write → ⊥) → HasRight es i x k write → ⊥
    refused = by_right (right_on rights x) (are.rights_are x less) where
      by_right : (o : Option Right) → IsRightOf es i x o → (IsEnough block o k write → ⊥) → HasRight es i x k write → ⊥
      by_right None none wrong h = none h.index k h.entry h.by_write h.there h.before h.gives
      by_right (Some right) is wrong h = wrong (has_enough h right is)

  -- an entry that is no event goes on with the block
  block_goes_on : position_of here ≡ None → IsBlock es (i + 1) block
  block_goes_on no_event = record {
    within = (let le = are.block_is.within in omega arith);
    event = are.block_is.event;
    no_event = λ j e there le lt. elim (before_next i j lt) [
      | inl less ↦ are.block_is.no_event j e there le less
      | inr same ↦ (let one' : e ≡ here = same_entry es i j here e at there same in rw one' no_event)
    ];
  }

  -- the right on a variable on which the entry gives none
  right_goes_on :
      (x : ℕ) → ((m : ℕ) (w : Bool) → GivesRight here x m w → ⊥) → (o : Option Right) → IsRightOf es i x o → IsRightOf es (i + 1) x o
  right_goes_on x none None is = λ j m e w there lt gives. elim (before_next i j lt) [
    | inl less ↦ is j m e w there less gives
    | inr same ↦ (let one' : e ≡ here = same_entry es i j here e at there same in let P : Entry → Type 0 = λ f. GivesRight f x m w in
        none m w (subst P one' gives))
  ]
  right_goes_on x none (Some right) is = record {
    entry = is.entry;
    there = is.there;
    before = (let less = is.before in omega arith);
    gives = is.gives;
    latest = λ j m e w there gt lt gives. elim (before_next i j lt) [
      | inl less ↦ is.latest j m e w there gt less gives
      | inr same ↦ (let one' : e ≡ here = same_entry es i j here e at there same in let P : Entry → Type 0 = λ f. GivesRight f x m w in
          none m w (subst P one' gives))
    ];
  }

-- a cached entry has the right exactly where that on its variable is enough for it, and it changes no right
pub cached_goes_on :
    (e : Entry) (var nth : ℕ) (write : Bool) (value : ℤ) → e ≡ Plain var nth true write value false →
    (i block : ℕ) (rights : List (Option Right)) → var < VARIABLES →
    (answer : Bool) → MatchBool answer (IsEnough block (right_on rights var) nth write) (IsEnough block (right_on rights var) nth write →
    ⊥) → RightsGoOn e i answer block rights block rights
cached_goes_on e var nth write value is i block rights less answer said = (let P : Entry →
    Type 0 = λ f. RightsGoOn f i answer block rights block rights in
    subst P (sym is) (λ es are at. by_answer es are at answer said)) where
      gives_none : (x m : ℕ) (w : Bool) → GivesRight (Plain var nth true write value false) x m w → ⊥
      gives_none x m w gives = (let is' : true ≡ false = gives.0 in cc)

      by_entry :
          (es : List Entry) (x k : ℕ) (w : Bool) (v : ℤ) → At es i (Plain var nth true write value false) →
          At es i (Plain x k true w v false) → HasRight es i var nth write → HasRight es i x k w
      by_entry es x k w v at there has =
          let same : Plain var nth true write value false ≡ Plain x k true w v false =
          same_entry es i i (Plain x k true w v false) (Plain var nth true write value false) there at refl in
          let vars : var ≡ x = cc in
          let nths : nth ≡ k = cc in
          let writes : write ≡ w = cc in
          let P : ℕ → Type 0 = λ y. HasRight es i y nth write in
          let Q : ℕ → Type 0 = λ m. HasRight es i x m write in
          let S : Bool → Type 0 = λ b. HasRight es i x k b in
          subst S writes (subst Q nths (subst P vars has))

      by_answer :
          (es : List Entry) → AreRights es i block rights → At es i (Plain var nth true write value false) → (b : Bool) →
          MatchBool b (IsEnough block (right_on rights var) nth write) (IsEnough block (right_on rights var) nth write → ⊥) →
          MatchBool b (IsAllowed es i × AreRights es (i + 1) block rights) (IsAllowed es i → ⊥)
      by_answer es are at true enough = (
        (λ x k w v there. by_entry es x k w v at there (allowed es i block rights are (Plain var nth true write value false) at var less nth
            write enough)),
        record {
          block_is = block_goes_on es i block rights are (Plain var nth true write value false) at refl;
          rights_are = λ x lt. right_goes_on es i block rights are (Plain var nth true write value false) at x (λ m w. gives_none x m w)
              (right_on rights x) (are.rights_are x lt);
        },
      )
      by_answer es are at false wrong =
          λ all. refused es i block rights are (Plain var nth true write value false) at var less nth write wrong
          (all var nth write value at)

-- the right that an entry gives: by its place, its number and whether it writes
abbrev right_of : ℕ → ℕ → Bool → Right
right_of i nth write = record { index = i; nth = nth; write = write }

-- a numbered performed entry needs no right, and gives the one that is the latest on its variable from then on
pub numbered_goes_on :
    (e : Entry) (var nth : ℕ) (write : Bool) (value : ℤ) → e ≡ Plain var nth false write value false →
    (i block : ℕ) (rights : List (Option Right)) → var < VARIABLES →
    length rights ≡ VARIABLES → RightsGoOn e i true block rights block (set rights var (Some (right_of i nth write)))
numbered_goes_on e var nth write value is i block rights less whole = (let P : Entry →
    Type 0 = λ f. RightsGoOn f i true block rights block (set rights var (Some (right_of i nth write))) in subst P (sym is) goes_on) where
      mine :
          (es : List Entry) → At es i (Plain var nth false write value false) → (x : ℕ) → x ≡ var →
          IsRightOf es (i + 1) x (Some (right_of i nth write))
      mine es at x same = record {
        entry = Plain var nth false write value false;
        there = at;
        before = omega arith;
        gives = (refl, refl, sym same, refl, refl);
        latest = λ j m f w there gt lt gives. omega arith;
      }

      right_is :
          (es : List Entry) → AreRights es i block rights → At es i (Plain var nth false write value false) → (x : ℕ) → x < VARIABLES →
          IsRightOf es (i + 1) x (right_on (set rights var (Some (right_of i nth write))) x)
      right_is es are at x lt = elim (cases_eq x var) [
        | inl same ↦ (let set_is = get_or-set_at rights var x (Some (right_of i nth write)) None same (omega arith) in
            let P : Option Right → Type 0 = IsRightOf es (i + 1) x in subst P (sym set_is) (mine es at x same))
        | inr apart ↦ (
            let set_is = get_or-set_other rights var x (Some (right_of i nth write)) None apart in
            let old = right_goes_on es i block rights are (Plain var nth false write value false) at x (λ m w gives. apart (sym gives.2))
            (right_on rights x) (are.rights_are x lt) in
            let P : Option Right → Type 0 = IsRightOf es (i + 1) x in
            subst P (sym set_is) old)
      ]

      goes_on : RightsGoOn (Plain var nth false write value false) i true block rights block (set rights var (Some (right_of i nth write)))
      goes_on = λ es are at. (
        (λ x k w v there. (let same : Plain var nth false write value false ≡ Plain x k true w v false = same_entry es i i
            (Plain x k true w v false) (Plain var nth false write value false) there at refl in absurd cc)),
        record {
          block_is = block_goes_on es i block rights are (Plain var nth false write value false) at refl;
          rights_are = right_is es are at;
        },
      )
