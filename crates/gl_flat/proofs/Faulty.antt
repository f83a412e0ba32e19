-- What the two searches for a wrong word find together, and that nothing is found exactly where the record is legal.
use Rattle.std.proofs.Common.{◌≡◌, ℕ, List, refl, inr, Some, None}
use Rattle.std.specs.Prelude.{◌↔◌, IfOk, MatchOption, Option, Result, Ok, Err}
use Rattle.gl_model.specs.declared.event.Stamp.{Stamp}
use Rattle.gl_model.specs.Entries.{Entry}
use Rattle.gl_model.specs.Flat.{Legal}
use Rattle.gl_model.specs.Form.{Form, IsMachineRun}
use Rattle.gl_model.specs.Kept.{IsRecord}
use Rattle.gl_model.specs.Lists.{lists_of}
use Rattle.gl_model.specs.Machine.{Setting}
use Rattle.gl_model.specs.Records.{IsEventList, Lists}
use Rattle.gl_places.specs.declared.place.Place.{Place as StoredPlace}
use Rattle.gl_places.specs.Places.{Before, IsFirstBy, seen}
use Rattle.gl_flat.specs.Words.{FlatHolds, LookFailsAt, LooksHold, WordFailsFirst, WordsHold}
use Rattle.gl_flat.proofs.OneHistory.{first_word_law, legal_law}

-- where the flat history holds, the first wrong look is the first wrong word, and where no look is wrong, all words hold
both_found : (R : Lists) → FlatHolds R → (found : Option StoredPlace) →
    MatchOption found (LooksHold R) (λ c. IsFirstBy Before (LookFailsAt R) (seen c)) →
    MatchOption found (WordsHold R) (λ c. WordFailsFirst R (seen c))
both_found R flat None looks = record { flat = flat; looks = looks }
both_found R flat (Some c) first = inr (λ d f. f.2.1.2 (flat d f.0 f.1 f.2.0 f.2.1.0 f.2.1.1), first)

module _ (made : List (ℕ × List Entry)) (record' : IsRecord made) (form : Form (lists_of made)) (setting : Setting) (h : List Stamp)
    (is_list : IsEventList h (lists_of made)) (machine : IsMachineRun setting (lists_of made) h) where
  -- where what is found is the first wrong word, or nothing is found and the words hold, nothing is found exactly where the record is legal
  pub decides : (found : Option StoredPlace) → MatchOption found (WordsHold (lists_of made))
      (λ c. WordFailsFirst (lists_of made) (seen c)) → (found ≡ None) ↔ Legal setting (lists_of made)
  decides None hold = (λ e. (legal_law made record' form setting h is_list machine).1 hold, λ legal. refl)
  decides (Some c) first = (
    λ e. absurd (cc),
    λ legal. absurd
        (first_word_law.none (lists_of made) (seen c) first ((legal_law made record' form setting h is_list machine).0 legal)),
  )

  -- where the flat history holds, a search that finds the first wrong look,
  -- or nothing if all looks are right, finds nothing exactly where the record is legal
  pub decides_all : {E : Type 0} → FlatHolds (lists_of made) → (r : Result (Option StoredPlace) E) →
      IfOk r (λ found. MatchOption found (LooksHold (lists_of made)) (λ c. IsFirstBy Before (LookFailsAt (lists_of made)) (seen c))) →
      IfOk r (λ found. (found ≡ None) ↔ Legal setting (lists_of made))
  decides_all flat (Ok found) looks = decides found (both_found (lists_of made) flat found looks)
  decides_all flat (Err e) looks = looks
