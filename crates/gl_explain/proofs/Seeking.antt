-- The first race of the lines so far.
use Rattle.std.proofs.Common.{◌≡◌, ◌∙◌, ℕ, zero, suc, List, [], ◌∷◌, ◌++◌, length, refl, sym, ap, subst, arith, inl, inr, Option, Some, None}
use Rattle.std.specs.Prelude.{◌⊎◌, slice_get}
use Rattle.std.proofs.lemmas.List.{take-append-le, take_all}
use Rattle.std.proofs.lemmas.Option.{slice_get_within}
use Rattle.gl_trace.specs.Reads.{IsReadTo}
use Rattle.gl_trace.specs.TraceLine.{TraceLine}
use Rattle.gl_trace.specs.Verdicts.{is_race}
use Rattle.gl_trace.specs.declared.reader.TraceReader.{TraceReader}
use Rattle.gl_explain.specs.declared.told.Told.{Told}
use Rattle.gl_explain.specs.declared.told.Explanation.{Explanation}
use Rattle.gl_explain.specs.declared.told.First.{First}
use Rattle.gl_explain.specs.declared.explainer.Explainer.{Explainer}
use Rattle.gl_explain.specs.Explained.{IsExplained, Explains}
use Rattle.gl_explain.specs.First.{IsFirstIn}
use Rattle.gl_explain.specs.Follows.{IsTold, IsToldOn, told_as}
use Rattle.gl_explain.specs.Told.{trace_of}
use Rattle.gl_explain.proofs.Reading.{AreTaken, taken_on}

pub record AreSeen (text : List ℕ) (reader : TraceReader) (x : Explainer) (first : Option First) : Type 0 where
  pub taken : AreTaken text reader x
  pub first_is : IsFirstIn taken.done first

-- what stood at a place stands there with one put last
pub at_before : {A : Type 0} (xs : List A) (y x : A) (i : ℕ) → slice_get xs i ≡ Some x → slice_get (xs ++ y ∷ []) i ≡ Some x
at_before [] y x i e = absurd (cc)
at_before (z ∷ xs) y x zero e = e
at_before (z ∷ xs) y x (suc i) e = at_before xs y x i e

-- what is put last stands at the old length
pub at_last : {A : Type 0} (xs : List A) (y : A) → slice_get (xs ++ y ∷ []) (length xs) ≡ Some y
at_last [] y = refl
at_last (z ∷ xs) y = at_last xs y

-- what stands in a list with one put last stood there before, or is that one at the old length
pub at_cases : {A : Type 0} (xs : List A) (y x : A) (i : ℕ) → slice_get (xs ++ y ∷ []) i ≡ Some x
    → (slice_get xs i ≡ Some x) ⊎ ((i ≡ length xs) × (y ≡ x))
at_cases [] y x zero e = inr (refl, let same : Some y ≡ Some x = e in cc)
at_cases [] y x (suc i) e = absurd (cc)
at_cases (z ∷ xs) y x zero e = inl e
at_cases (z ∷ xs) y x (suc i) e = elim (at_cases xs y x i e) [ inl old ↦ inl old | inr new ↦ inr (ap suc new.0, new.1) ]

module _ (done : List Told) (next : Told) where
  -- a first race is the first still
  pub first_on : (f : First) → IsFirstIn done (Some f) → IsFirstIn (done ++ next ∷ []) (Some f)
  first_on f is =
      let near = slice_get_within done f.race f.explanation.at is.there in
      record {
        there = at_before done next f.explanation.at f.race is.there;
        quiet = λ i k before at. elim (at_cases done next k i at) [
          | inl old ↦ is.quiet i k before old
          | inr new ↦ (let over = new.0 in absurd (omega arith))
        ];
        explained = subst (λ ls. IsExplained ls f.explanation) (sym (take-append-le f.race done (next ∷ []) (omega arith))) is.explained;
      }

  -- the next line is the first that is one
  pub first_new : (race : ℕ) (e : Explanation) → race ≡ length done → IsFirstIn done None → Explains done next (Some e)
      → IsFirstIn (done ++ next ∷ []) (Some (record { race = race; explanation = e }))
  first_new race e here none is = record {
    there = subst (λ n. slice_get (done ++ next ∷ []) n ≡ Some e.at) (sym here) (at_last done next ∙ ap Some (sym is.0));
    quiet = λ i k before at. elim (at_cases done next k i at) [
      | inl old ↦ none i k old
      | inr new ↦ (let over = new.0 in absurd (omega arith))
    ];
    explained = subst (λ ls. IsExplained ls e)
        (sym (take-append-le race done (next ∷ []) (omega arith) ∙ take_all race done (omega arith))) is.1;
  }

  -- there is none yet
  pub none_on : IsFirstIn done None → Explains done next None → IsFirstIn (done ++ next ∷ []) None
  none_on none is i k at = elim (at_cases done next k i at) [
    | inl old ↦ none i k old
    | inr new ↦ ap (λ (t : Told). is_race t.judged) (sym new.1) ∙ is
  ]

-- before any line is read, nothing is seen
pub seen_none : (text : List ℕ) (reader : TraceReader) (x : Explainer) → IsReadTo text [] reader → IsTold [] x → x.writer.names ≡ text
    → AreSeen text reader x None
seen_none text reader x read told named = record {
  taken = record { done = []; read = read; told = told; named = named };
  first_is = λ i k at. absurd (cc);
}

-- after a line is read and told, the first race is that of the told lines
pub seen_on : (text : List ℕ) (done : List Told) (line : TraceLine) (reader : TraceReader) (x : Explainer) (found : Option Explanation)
    (first : Option First) → IsReadTo text (trace_of done ++ line ∷ []) reader → (on : IsToldOn done line x found) → x.writer.names ≡ text
    → IsFirstIn (done ++ told_as line on.0 ∷ []) first → AreSeen text reader x first
unfolding taken_on
seen_on text done line reader x found first read on named is =
    record { taken = taken_on text done line reader x found read on named; first_is = is }
