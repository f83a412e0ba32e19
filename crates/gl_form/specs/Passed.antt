-- What is kept of the entries before a place of a list, by which the rules of form are looked at there.
use Rattle.std.specs.Prelude.{◌≡◌, ℕ, ℤ, ◌+◌, ◌<◌, ◌≤◌, true, false, Bool, List, Option, Some, None, ◌↔◌, MatchBool, MatchOption}
use Rattle.std.specs.Prelude.{slice_get, slice_index_or, ◌⊎◌, Contains}
use Rattle.gl_model.specs.declared.limits.TheConstants.{VARIABLES}
use Rattle.gl_model.specs.declared.tx.Look.{Look}
use Rattle.gl_model.specs.declared.tx.Tx.{Tx}
use Rattle.gl_model.specs.declared.tx.Why.{Why}
use Rattle.gl_model.specs.Entries.{Abort, Entry, Plain}
use Rattle.gl_model.specs.Form.{EntryForm, GivesRight, HasRight, IsBegin, IsEnd, IsOver, IsTrim, LookDraws, NumberDraws}
use Rattle.gl_model.specs.Records.{At, position_of}
use Rattle.gl_form.specs.Rules.{DrawsOn, RisesAt}
use Rattle.gl_form.specs.declared.rights.Right.{Right}
use Rattle.gl_form.specs.declared.stage.Stage.{Stage}
use Rattle.gl_form.specs.declared.stage.Stage.TheVariants.{Fresh, Running, Ended, Over}

-- ## Numbers

-- k is the greatest of the numbers that entries before place i have
pub record IsGreatest (Has : Entry → ℕ → Type 0) (es : List Entry) (i k : ℕ) : Type 0 where
  pub index : ℕ
  pub entry : Entry
  pub there : At es index entry
  pub before : index < i
  pub has : Has entry k
  pub most : (j m : ℕ) (e : Entry) → At es j e → j < i → Has e m → m ≤ k

-- so is the last number, or no entry before place i has any
abbrev pub IsLast : (Entry → ℕ → Type 0) → List Entry → ℕ → Option ℕ → Type 0
IsLast Has es i None = (j m : ℕ) (e : Entry) → At es j e → j < i → Has e m → ⊥
IsLast Has es i (Some k) = IsGreatest Has es i k

-- the number is above the last one, if there is one
abbrev pub IsAbove : Option ℕ → ℕ → Type 0
IsAbove None k = Unit {0}
IsAbove (Some m) k = m < k

-- wherever the entry e stands next: its numbers rise there exactly where the answer is yes, and then the last number goes on with it
abbrev pub GoesOn : (Entry → ℕ → Type 0) → Entry → Bool → Option ℕ → Option ℕ → Type 0
GoesOn Has e answer old new =
    (es : List Entry) (i : ℕ) → IsLast Has es i old → At es i e →
    MatchBool answer (RisesAt Has es i × IsLast Has es (i + 1) new) (RisesAt Has es i → ⊥)

-- the last number on x
abbrev pub last_on : List (Option ℕ) → ℕ → Option ℕ
last_on lasts x = slice_index_or lasts x None

-- the last numbers, of all variables
abbrev pub AreLast : List Entry → ℕ → List (Option ℕ) → Type 0
AreLast es i lasts = (x : ℕ) → x < VARIABLES → IsLast (DrawsOn x) es i (last_on lasts x)

-- the numbers of the first n parts are above the old last numbers of their variables, and are the new ones; the others stay
pub record AreDrawn {A : Type 0} (var nth : A → ℕ) (parts : List A) (n : ℕ) (old new : List (Option ℕ)) : Type 0 where
  pub above : (m : ℕ) (a : A) → slice_get parts m ≡ Some a → m < n → IsAbove (last_on old (var a)) (nth a)
  pub drawn : (m : ℕ) (a : A) → slice_get parts m ≡ Some a → m < n → last_on new (var a) ≡ Some (nth a)
  pub others : (x : ℕ) → ((m : ℕ) (a : A) → slice_get parts m ≡ Some a → m < n → var a ≡ x → ⊥) → last_on new x ≡ last_on old x

-- the number of a part is not above the last one of its variable
abbrev pub IsNotAbove : {A : Type 0} → (A → ℕ) → (A → ℕ) → List A → List (Option ℕ) → Type 0
IsNotAbove {A} var nth parts old = (m : ℕ) × ((a : A) × (slice_get parts m ≡ Some a) × (IsAbove (last_on old (var a)) (nth a) → ⊥))

-- the numbers of the entry stand after those of its looks
abbrev pub StandAfterLooks : Entry → Type 0
StandAfterLooks e = (x k m : ℕ) → LookDraws e x k → NumberDraws e x m → k < m

-- wherever such an entry stands next, the same of all variables
abbrev pub AllGoOn : Entry → Bool → List (Option ℕ) → List (Option ℕ) → Type 0
AllGoOn e answer old new =
    (es : List Entry) (i : ℕ) → StandAfterLooks e → AreLast es i old → At es i e →
    MatchBool answer (((x : ℕ) → RisesAt (DrawsOn x) es i) × AreLast es (i + 1) new) (((x : ℕ) → RisesAt (DrawsOn x) es i) → ⊥)

-- the attempt drew this number on x, by a look or at its end
abbrev pub TxDraws : ℕ → Tx → ℕ → Type 0
TxDraws x tx k = ((value : ℤ) × Contains tx.looks (record { var = x; value = value; nth = k })) ⊎
    Contains tx.numbers (record { var = x; nth = k })

-- the greatest number that the attempt drew on x is the new last one; where it drew none, the last one stays
abbrev pub IsTxLast : ℕ → Tx → Option ℕ → Option ℕ → Type 0
IsTxLast x tx old new =
    ((k : ℕ) × TxDraws x tx k × ((m : ℕ) → TxDraws x tx m → m ≤ k) × (new ≡ Some k)) ⊎ (((k : ℕ) → TxDraws x tx k → ⊥) × (new ≡ old))

-- where the attempt's own numbers stand after those of its looks: all its numbers are above the last ones of their variables
-- exactly where the answer is yes, and then the last ones go on with them
abbrev pub TxGoesOn : Tx → Bool → List (Option ℕ) → List (Option ℕ) → Type 0
TxGoesOn tx answer old new =
    ((x k m : ℕ) (value : ℤ) → Contains tx.looks (record { var = x; value = value; nth = k }) →
    Contains tx.numbers (record { var = x; nth = m }) → k < m) →
    MatchBool answer
    ((x : ℕ) → ((k : ℕ) → TxDraws x tx k → IsAbove (last_on old x) k) × IsTxLast x tx (last_on old x) (last_on new x))
    ((x : ℕ) × ((k : ℕ) × TxDraws x tx k × (IsAbove (last_on old x) k → ⊥)))

-- ## Attempts

-- a number on x that is m stands after each look at x
abbrev pub OwnStandAfter : List Look → ℕ → ℕ → Type 0
OwnStandAfter looks x m = (k : ℕ) (value : ℤ) → Contains looks (record { var = x; value = value; nth = k }) → k < m

-- what a dropped attempt has to be by itself
abbrev pub AbortForm : Tx → Why → Type 0
AbortForm tx why = EntryForm 0 (Abort tx why)

-- ## Begin, End and Over

-- how far the list has come before place i
abbrev pub IsAtStage : List Entry → ℕ → Stage → Type 0
IsAtStage es i Fresh = (j : ℕ) (e : Entry) → At es j e → j < i → IsTrim e
IsAtStage es i Running =
    ((j : ℕ) × ((e : Entry) × At es j e × (j < i) × (IsTrim e → ⊥)))
    × ((j : ℕ) (e : Entry) → At es j e → j < i → IsOver e → ⊥)
    × ((j : ℕ) × ((e : Entry) × At es j e × (i ≡ j + 1) × (IsEnd e → ⊥)))
IsAtStage es i Ended = ((j : ℕ) × ((e : Entry) × At es j e × (i ≡ j + 1) × IsEnd e)) ×
    ((j : ℕ) (e : Entry) → At es j e → j < i → IsOver e → ⊥)
IsAtStage es i Over = (j : ℕ) × ((e : Entry) × At es j e × (j < i) × IsOver e)

-- the rules of Begin, End and Over, at place i
pub record Follows (es : List Entry) (i : ℕ) : Type 0 where
  pub begins : (e : Entry) → At es i e → (IsTrim e → ⊥) → ((j : ℕ) (f : Entry) → At es j f → j < i → IsTrim f) → IsBegin e
  pub over_after_end : (j : ℕ) (e f : Entry) → i ≡ j + 1 → At es j e → At es i f → IsEnd e ↔ IsOver f
  pub nothing_after : (j : ℕ) (e f : Entry) → At es j e → At es i f → j < i → IsOver e → ⊥

-- wherever the entry e stands next: it follows there exactly where there is a next stage, and then that is the stage
abbrev pub Turns : Entry → Stage → Option Stage → Type 0
Turns e stage next =
    (es : List Entry) (i : ℕ) → IsAtStage es i stage → At es i e → MatchOption next (Follows es i →
    ⊥) (λ s. Follows es i × IsAtStage es (i + 1) s)

-- ## Rights

-- the right is that of the last numbered performed entry on x before place i
pub record IsLatest (es : List Entry) (i x : ℕ) (right : Right) : Type 0 where
  pub entry : Entry
  pub there : At es right.index entry
  pub before : right.index < i
  pub gives : GivesRight entry x right.nth right.write
  pub latest : (j m : ℕ) (e : Entry) (w : Bool) → At es j e → right.index < j → j < i → GivesRight e x m w → ⊥

-- so it is, or there was none
abbrev pub IsRightOf : List Entry → ℕ → ℕ → Option Right → Type 0
IsRightOf es i x None = (j m : ℕ) (e : Entry) (w : Bool) → At es j e → j < i → GivesRight e x m w → ⊥
IsRightOf es i x (Some right) = IsLatest es i x right

-- the present block begins at this place: the entry before it is an event, if there is one, and since then there was none
pub record IsBlock (es : List Entry) (i block : ℕ) : Type 0 where
  pub within : block ≤ i
  pub event : (j : ℕ) (e : Entry) → block ≡ j + 1 → At es j e → position_of e ≡ None → ⊥
  pub no_event : (j : ℕ) (e : Entry) → At es j e → block ≤ j → j < i → position_of e ≡ None

-- the right on x, of the rights on all variables
abbrev pub right_on : List (Option Right) → ℕ → Option Right
right_on rights x = slice_index_or rights x None

-- the present block and the rights on all variables
pub record AreRights (es : List Entry) (i block : ℕ) (rights : List (Option Right)) : Type 0 where
  pub block_is : IsBlock es i block
  pub rights_are : (x : ℕ) → x < VARIABLES → IsRightOf es i x (right_on rights x)

-- a right that an entry of the present block has, with this number, and of a write where one is asked for
abbrev pub IsEnough : ℕ → Option Right → ℕ → Bool → Type 0
IsEnough block None k write = ⊥
IsEnough block (Some right) k write = (block ≤ right.index) × (right.nth ≡ k) × (write ≡ true → right.write ≡ true)

-- a cached entry at place i has the right to it
abbrev pub IsAllowed : List Entry → ℕ → Type 0
IsAllowed es i = (x k : ℕ) (write : Bool) (value : ℤ) → At es i (Plain x k true write value false) → HasRight es i x k write

-- wherever the entry e stands at place i: a cached one has the right exactly where the answer is yes, and then the rights go on
abbrev pub RightsGoOn : Entry → ℕ → Bool → ℕ → List (Option Right) → ℕ → List (Option Right) → Type 0
RightsGoOn e i answer block rights block' rights' =
    (es : List Entry) → AreRights es i block rights → At es i e →
    MatchBool answer (IsAllowed es i × AreRights es (i + 1) block' rights') (IsAllowed es i → ⊥)
