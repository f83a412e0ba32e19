-- The last numbers of all variables go on from one entry to the next.
use Rattle.std.proofs.Common.{◌≡◌, ◌≢◌, ℕ, ℤ, ◌+◌, ◌<◌, ◌≤◌, Bool, true, false, List, length, set, Option, Some, None, refl, sym, ◌∙◌, ap}
use Rattle.std.proofs.Common.{subst, arith, inl, inr}
use Rattle.std.specs.Prelude.{◌⊎◌, MatchBool}
use Rattle.std.proofs.lemmas.Bool.{cases_eq}
use Rattle.std.proofs.lemmas.Grind.{get_or-set_at}
use Rattle.std.proofs.lemmas.List.{get_or-set_other}
use Rattle.gl_model.specs.declared.limits.TheConstants.{VARIABLES}
use Rattle.gl_model.specs.declared.tx.Tx.{Tx}
use Rattle.gl_model.specs.declared.event.Act.{Act}
use Rattle.gl_model.specs.declared.record.Ending.{Ending}
use Rattle.gl_model.specs.declared.tx.Why.{Why}
use Rattle.gl_model.specs.Entries.{Entry, Sync, Commit, Plain, Abort, Trim, Over}
use Rattle.gl_model.specs.Kept.{IsEntryKept}
use Rattle.gl_model.specs.Records.{At}
use Rattle.gl_form.specs.Passed.{AllGoOn, IsAbove, IsLast, IsTxLast, TxDraws, TxGoesOn, last_on}
use Rattle.gl_form.specs.Rules.{DrawsOn}
use Rattle.gl_form.proofs.Lasts.{fallen, none_more, one_more, risen, same_entry}
use Rattle.gl_form.proofs.Parts.{all_at, at_of}

-- an entry that draws no number keeps the rule that numbers rise, and leaves the last ones as they are
pub none_goes_on : (e : Entry) → ((x k : ℕ) → DrawsOn x e k → ⊥) → (old : List (Option ℕ)) → AllGoOn e true old old
none_goes_on e none old = λ es i after are at. (
  (λ x j k m f g there here before of_f of_g. absurd (none x m (let same : g ≡ e = same_entry es i i e g at here refl in
      let P : Entry → Type 0 = λ h. DrawsOn x h m in subst P same of_g))),
  (λ x less. none_more (DrawsOn x) es i e at (last_on old x) (are x less) (λ m draws. none x m draws)),
)

module _ (e : Entry) (in_range : (x k : ℕ) → DrawsOn x e k → x < VARIABLES) (old new : List (Option ℕ)) where
  -- what becomes of the last number on x
  abbrev IsNext : ℕ → Type 0
  IsNext x = ((k : ℕ) × DrawsOn x e k × ((m : ℕ) → DrawsOn x e m → m ≤ k) × (last_on new x ≡ Some k)) ⊎
      (((k : ℕ) → DrawsOn x e k → ⊥) × (last_on new x ≡ last_on old x))

  -- each number is above the last one, and the greatest is the next
  pub all_go_on : ((x : ℕ) → ((k : ℕ) → DrawsOn x e k → IsAbove (last_on old x) k) × IsNext x) → AllGoOn e true old new
  all_go_on next = λ es i after are at. (
    (λ x j k m f g there here before of_f of_g.
        let same : g ≡ e = same_entry es i i e g at here refl in
        let P : Entry → Type 0 = λ h. DrawsOn x h m in
        let mine : DrawsOn x e m = subst P same of_g in
        risen (DrawsOn x) es i e at (last_on old x) (are x (in_range x m mine)) (next x).0 j k m f g there here before of_f of_g),
    (λ x less. at_next es i at x (are x less) (next x).0 (next x).1),
  ) where
    at_next :
        (es : List Entry) (i : ℕ) → At es i e → (x : ℕ) → IsLast (DrawsOn x) es i (last_on old x) →
        ((k : ℕ) → DrawsOn x e k → IsAbove (last_on old x) k) → IsNext x → IsLast (DrawsOn x) es (i + 1) (last_on new x)
    at_next es i at x last above (inl (k, draws, most, is)) = (let P : Option ℕ → Type 0 = IsLast (DrawsOn x) es (i + 1) in
        subst P (sym is) (one_more (DrawsOn x) es i e at (last_on old x) last k draws most (above k draws)))
    at_next es i at x last above (inr (none, is)) = (let P : Option ℕ → Type 0 = IsLast (DrawsOn x) es (i + 1) in
        subst P (sym is) (none_more (DrawsOn x) es i e at (last_on old x) last none))

  -- where a number that the entry drew on x is not above the last one of x, its numbers do not rise
  pub one_falls : (x k : ℕ) → DrawsOn x e k → (IsAbove (last_on old x) k → ⊥) → AllGoOn e false old new
  one_falls x k draws wrong =
      λ es i after are at all. fallen (DrawsOn x) es i e at (last_on old x) (are x (in_range x k draws)) k draws wrong (all x)

-- the variables that an entry drew numbers on are ones that there are
drawn_in_range : (e : Entry) → IsEntryKept e → (x k : ℕ) → DrawsOn x e k → x < VARIABLES
drawn_in_range (Plain var nth cached write value raised) kept x k (inr d) = (let is : var ≡ x = d.1 in
    let less : var < VARIABLES = kept in omega arith)
drawn_in_range (Plain var nth cached write value raised) kept x k (inl d) = absurd d
drawn_in_range (Commit at tx) kept x k (inl (value, c)) = (let place = at_of tx.looks _ c in
    all_at (λ y. y < VARIABLES) (λ l. l.var) tx.looks place.0 (record { var = x; value = value; nth = k }) kept.0.2 place.1)
drawn_in_range (Commit at tx) kept x k (inr c) = (let place = at_of tx.numbers _ c in
    all_at (λ y. y < VARIABLES) (λ l. l.var) tx.numbers place.0 (record { var = x; nth = k }) kept.2.2 place.1)
drawn_in_range (Abort tx why) kept x k (inl (value, c)) = (let place = at_of tx.looks _ c in
    all_at (λ y. y < VARIABLES) (λ l. l.var) tx.looks place.0 (record { var = x; value = value; nth = k }) kept.0.0.2 place.1)
drawn_in_range (Abort tx why) kept x k (inr c) = (let place = at_of tx.numbers _ c in
    all_at (λ y. y < VARIABLES) (λ l. l.var) tx.numbers place.0 (record { var = x; nth = k }) kept.0.2.2 place.1)
drawn_in_range (Sync at act value) kept x k (inl d) = absurd d
drawn_in_range (Sync at act value) kept x k (inr d) = absurd d
drawn_in_range (Trim low) kept x k (inl d) = absurd d
drawn_in_range (Trim low) kept x k (inr d) = absurd d
drawn_in_range (Over ending) kept x k (inl d) = absurd d
drawn_in_range (Over ending) kept x k (inr d) = absurd d

-- the number of a plain entry rises exactly where it is above the last one of its variable, and is then the last one
pub plain_goes_on :
    (e : Entry) (var nth : ℕ) (write : Bool) (value : ℤ) (raised : Bool) → e ≡ Plain var nth false write value raised → var < VARIABLES →
    (old new : List (Option ℕ)) → length old ≡ VARIABLES →
    (answer : Bool) → MatchBool answer (IsAbove (last_on old var) nth × (new ≡ set old var (Some nth))) (IsAbove (last_on old var) nth →
    ⊥) → AllGoOn e answer old new
plain_goes_on e var nth write value raised is less old new whole answer said = (let P : Entry → Type 0 = λ f. AllGoOn f answer old new in
    subst P (sym is) (by_answer answer said)) where
      range : (x k : ℕ) → DrawsOn x (Plain var nth false write value raised) k → x < VARIABLES
      range x k (inl d) = absurd d
      range x k (inr d) = (let is : var ≡ x = d.1 in omega arith)

      above : IsAbove (last_on old var) nth → (x k : ℕ) → DrawsOn x (Plain var nth false write value raised) k → IsAbove (last_on old x) k
      above is x k (inl d) = absurd d
      above is x k (inr d) = (let P : ℕ → Type 0 = λ y. IsAbove (last_on old y) k in
          let Q : ℕ → Type 0 = λ m. IsAbove (last_on old var) m in
          subst P d.1 (subst Q d.2 is))

      most : (k : ℕ) → DrawsOn var (Plain var nth false write value raised) k → k ≤ nth
      most k (inl d) = absurd d
      most k (inr d) = (let is : nth ≡ k = d.2 in omega arith)

      other : (x k : ℕ) → x ≢ var → DrawsOn x (Plain var nth false write value raised) k → ⊥
      other x k apart (inl d) = d
      other x k apart (inr d) = apart (sym d.1)

      at_var :
          new ≡ set old var (Some nth) → {x : ℕ} → x ≡ var →
          (k : ℕ) × DrawsOn x (Plain var nth false write value raised) k × ((m : ℕ) → DrawsOn x (Plain var nth false write value raised) m →
          m ≤ k) × (last_on new x ≡ Some k)
      at_var set_is {x} same = (
        nth,
        inr (refl, sym same, refl),
        (λ m draws. (let P : ℕ → Type 0 = λ y. DrawsOn y (Plain var nth false write value raised) m in most m (subst P same draws))),
        ap (λ l. last_on l x) set_is ∙ get_or-set_at old var x (Some nth) None same (omega arith),
      )

      next : new ≡ set old var (Some nth) → (x : ℕ) → IsNext (Plain var nth false write value raised) range old new x
      next set_is x = elim (cases_eq x var) [
        | inl same ↦ inl (at_var set_is same)
        | inr apart ↦ inr ((λ k. other x k apart), ap (λ l. last_on l x) set_is ∙ get_or-set_other old var x (Some nth) None apart)
      ]

      by_answer :
          (b : Bool) → MatchBool b (IsAbove (last_on old var) nth × (new ≡ set old var (Some nth))) (IsAbove (last_on old var) nth → ⊥) →
          AllGoOn (Plain var nth false write value raised) b old new
      by_answer true (is_above, set_is) =
          all_go_on (Plain var nth false write value raised) range old new (λ x. (above is_above x, next set_is x))
      by_answer false wrong = one_falls (Plain var nth false write value raised) range old new var nth (inr (refl, refl, refl)) wrong

-- a cached plain entry draws no number, and leaves the last ones as they are
pub cached_draws_on :
    (e : Entry) (var nth : ℕ) (cached write : Bool) (value : ℤ) (raised : Bool) → e ≡ Plain var nth cached write value raised →
    cached ≡ true → (old : List (Option ℕ)) →
    AllGoOn e cached old old
cached_draws_on e var nth true write value raised is so old = none_goes_on e none old where
  none : (x k : ℕ) → DrawsOn x e k → ⊥
  none x k draws = by_kind (let P : Entry → Type 0 = λ f. DrawsOn x f k in subst P is draws) where
    by_kind : DrawsOn x (Plain var nth true write value raised) k → ⊥
    by_kind (inl d) = d
    by_kind (inr d) = (let wrong : true ≡ false = d.0 in cc)
cached_draws_on e var nth false write value raised is so old = absurd cc

-- a synchronization draws no number
pub sync_draws_none : (e : Entry) (at : ℕ) (act : Act) (value : ℤ) → e ≡ Sync at act value → (x k : ℕ) → DrawsOn x e k → ⊥
sync_draws_none e at act value is x k draws = by_kind (let P : Entry → Type 0 = λ f. DrawsOn x f k in subst P is draws) where
  by_kind : DrawsOn x (Sync at act value) k → ⊥
  by_kind (inl d) = d
  by_kind (inr d) = d

-- a trim draws no number
pub trim_draws_none : (e : Entry) (low : ℕ) → e ≡ Trim low → (x k : ℕ) → DrawsOn x e k → ⊥
trim_draws_none e low is x k draws = by_kind (let P : Entry → Type 0 = λ f. DrawsOn x f k in subst P is draws) where
  by_kind : DrawsOn x (Trim low) k → ⊥
  by_kind (inl d) = d
  by_kind (inr d) = d

-- an Over draws no number
pub over_draws_none : (e : Entry) (ending : Ending) → e ≡ Over ending → (x k : ℕ) → DrawsOn x e k → ⊥
over_draws_none e ending is x k draws = by_kind (let P : Entry → Type 0 = λ f. DrawsOn x f k in subst P is draws) where
  by_kind : DrawsOn x (Over ending) k → ⊥
  by_kind (inl d) = d
  by_kind (inr d) = d

-- the numbers of a commit or a dropped attempt rise, and are the last ones then, exactly where those of its transaction do
pub attempt_goes_on :
    (e : Entry) (tx : Tx) → ((at : ℕ) × (e ≡ Commit at tx)) ⊎ ((why : Why) × (e ≡ Abort tx why)) → IsEntryKept e →
    (old new : List (Option ℕ)) (answer : Bool) →
    TxGoesOn tx answer old new → AllGoOn e answer old new
attempt_goes_on e tx is kept old new answer goes = by_kind is where
  on_commit : (at : ℕ) → IsEntryKept (Commit at tx) → AllGoOn (Commit at tx) answer old new
  on_commit at kept' = λ es i after. by_answer answer (goes (λ x k m value look own. after x k m (value, look) own)) es i after where
    by_answer :
        (b : Bool) →
        MatchBool b ((x : ℕ) → ((k : ℕ) → TxDraws x tx k → IsAbove (last_on old x) k) ×
        IsTxLast x tx (last_on old x) (last_on new x)) ((x : ℕ) × ((k : ℕ) × TxDraws x tx k × (IsAbove (last_on old x) k → ⊥))) →
        AllGoOn (Commit at tx) b old new
    by_answer true drawn = all_go_on (Commit at tx) (drawn_in_range (Commit at tx) kept') old new drawn
    by_answer false (x, (k, draws, wrong)) = one_falls (Commit at tx) (drawn_in_range (Commit at tx) kept') old new x k draws wrong

  on_abort : (why : Why) → IsEntryKept (Abort tx why) → AllGoOn (Abort tx why) answer old new
  on_abort why kept' = λ es i after. by_answer answer (goes (λ x k m value look own. after x k m (value, look) own)) es i after where
    by_answer :
        (b : Bool) →
        MatchBool b ((x : ℕ) → ((k : ℕ) → TxDraws x tx k → IsAbove (last_on old x) k) ×
        IsTxLast x tx (last_on old x) (last_on new x)) ((x : ℕ) × ((k : ℕ) × TxDraws x tx k × (IsAbove (last_on old x) k → ⊥))) →
        AllGoOn (Abort tx why) b old new
    by_answer true drawn = all_go_on (Abort tx why) (drawn_in_range (Abort tx why) kept') old new drawn
    by_answer false (x, (k, draws, wrong)) = one_falls (Abort tx why) (drawn_in_range (Abort tx why) kept') old new x k draws wrong

  by_kind : ((at : ℕ) × (e ≡ Commit at tx)) ⊎ ((why : Why) × (e ≡ Abort tx why)) → AllGoOn e answer old new
  by_kind (inl (at, same)) = (let P : Entry → Type 0 = λ f. AllGoOn f answer old new in
      subst P (sym same) (on_commit at (subst IsEntryKept same kept)))
  by_kind (inr (why, same)) = (let P : Entry → Type 0 = λ f. AllGoOn f answer old new in
      subst P (sym same) (on_abort why (subst IsEntryKept same kept)))
