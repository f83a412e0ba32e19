-- The text of the explanations, with one line more.
use Rattle.std.proofs.Common.{◌≡◌, ◌∙◌, ℕ, zero, suc, ◌+◌, List, [], ◌∷◌, ◌++◌, refl, sym, ap, subst, inl, inr, Some, Bool, true, false, append-nil, append_assoc}
use Rattle.std.specs.Prelude.{◌⊎◌, slice_get, Result, Ok, Err, OnOk, cond}
use Rattle.std.specs.List.{count_by, flat_map}
use Rattle.std.proofs.lemmas.Grind.{flat_map-append}
use Rattle.std.proofs.lemmas.List.{map-append}
use Rattle.std.proofs.lemmas.List.Sums.{sum_by-append}
use Rattle.std.proofs.lemmas.List.Elements.{filter-append}
use Rattle.gl_names.specs.Names.{Naming}
use Rattle.gl_trace.specs.Verdicts.{is_race}
use Rattle.gl_explain.specs.declared.told.Told.{Told}
use Rattle.gl_explain.specs.declared.told.Explanation.{Explanation}
use Rattle.gl_explain.specs.declared.told.Kept.{Kept}
use Rattle.gl_explain.specs.Answers.{races_in}
use Rattle.gl_explain.specs.Told.{told_of}
use Rattle.gl_explain.specs.Explained.{IsExplained, races_of}
use Rattle.gl_explain.specs.Written.{IsWritten}
use Rattle.gl_explain.specs.Texts.{explanation_text}

-- whether a told line was raised as a race
abbrev raised : Told → Bool
raised k = is_race k.judged

-- the races with a line more are those before and, if it is raised, that line
races_push : (done : List Told) (t : Told) (b : Bool) → raised t ≡ b → (more : List Told)
    × (races_of (done ++ t ∷ []) ≡ races_of done ++ more) × (b ≡ true → more ≡ t ∷ []) × (b ≡ false → more ≡ [])
races_push done t true is = (
  t ∷ [],
  filter-append raised done (t ∷ [])
      ∙ ap (λ ls. races_of done ++ ls) (rw is refl),
  λ e. refl,
  λ e. absurd (cc),
)
races_push done t false is = (
  [],
  filter-append raised done (t ∷ [])
      ∙ ap (λ ls. races_of done ++ ls) (rw is refl),
  λ e. absurd (cc),
  λ e. refl,
)

-- what stands in a list with one put last stood there before, or is that one
get_cases : {A : Type 0} (xs : List A) (x : A) (i : ℕ) (y : A) → slice_get (xs ++ x ∷ []) i ≡ Some y → (slice_get xs i ≡ Some y) ⊎ (x ≡ y)
get_cases [] x zero y e = inr (let same : Some x ≡ Some y = e in let is : x ≡ y = cc in is)
get_cases [] x (suc i) y e = absurd (cc)
get_cases (z ∷ xs) x zero y e = inl e
get_cases (z ∷ xs) x (suc i) y e = get_cases xs x i y e

-- each explanation is of one of the told lines, by the lines before it
abbrev Each : List Told → List Explanation → Type 0
Each told es = (i : ℕ) (e : Explanation) → slice_get es i ≡ Some e → (before : List Told) × (behind : List Told)
    × (told ≡ before ++ e.at ∷ behind) × IsExplained before e

-- explanations of the told lines are explanations of them with a line more
each_more : (done : List Told) (t : Told) (es : List Explanation) → Each done es → Each (done ++ t ∷ []) es
each_more done t es each i e there =
    let w = each i e there in
    (w.0, w.1 ++ t ∷ [], ap (λ ls. ls ++ t ∷ []) w.2 ∙ append_assoc w.0 (e.at ∷ w.1) (t ∷ []), w.3)

-- the text with one explanation more is written, if the line is raised and explained
pub written_more : (names : Naming) (done : List Told) (t : Told) (e : Explanation) (bytes : List ℕ) → is_race t.judged ≡ true → e.at ≡ t
    → IsExplained done e → IsWritten names done bytes → IsWritten names (done ++ t ∷ []) (bytes ++ explanation_text names e)
written_more names done t e bytes race here is w =
    let r = races_push done t true race in
    record {
      explained = w.explained ++ e ∷ [];
      are = record {
        all = map-append (λ (x : Explanation). x.at) w.explained (e ∷ []) ∙ ap (λ ls. ls ++ e.at ∷ []) w.are.all
            ∙ ap (λ (k : Told). races_of done ++ k ∷ []) here ∙ sym (r.1 ∙ ap (λ ls. races_of done ++ ls) (r.2 refl));
        each = λ i x there. elim (get_cases w.explained e i x there) [
          | inl old ↦ each_more done t w.explained w.are.each i x old
          | inr new ↦
              (let at : t ≡ x.at = sym here ∙ ap (λ (y : Explanation). y.at) new in
              (done, [], ap (λ (k : Told). done ++ k ∷ []) at, subst (IsExplained done) new is))
        ];
      };
      text = ap (λ bs. bs ++ explanation_text names e) w.text
          ∙ sym (flat_map-append (explanation_text names) w.explained (e ∷ [])
          ∙ ap (λ bs. flat_map (explanation_text names) w.explained ++ bs) (append-nil (explanation_text names e)));
    }

-- what follows from a fact about a right result is true of it
pub more_on_ok : {T E : Type 0} (P Q : Type 0) (r : Result T E) → (P → Q) → OnOk r P → OnOk r Q
more_on_ok P Q (Ok x) f p = f p
more_on_ok P Q (Err e) f p = tt

-- nothing is written for no lines
pub none_written : (names : Naming) → IsWritten names [] []
none_written names = record { explained = []; are = record { all = refl; each = λ i e there. absurd (cc) }; text = refl }

-- as many races were kept as there are
pub races_kept : (kept : List Kept) → count_by (λ k. is_race k.told.judged) kept ≡ races_in (told_of kept)
races_kept [] = refl
races_kept (k ∷ ks) =
    sum_by-append (λ q. cond (is_race q.told.judged) 1 0) (k ∷ []) ks
    ∙ ap (λ n. count_by (λ q. is_race q.told.judged) (k ∷ []) + n) (races_kept ks) ∙
    sym (sum_by-append (λ q. cond (is_race q.judged) 1 0) (k.told ∷ []) (told_of ks))
