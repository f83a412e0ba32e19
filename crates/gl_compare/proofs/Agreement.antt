-- Over a clean trace two judges say the same, since what is rightly said is settled.
use Rattle.std.proofs.Common.{◌≡◌, ℕ, ◌+◌, ◌<◌, ◌≤◌, List, [], ◌∷◌, ◌++◌, length, take, drop, get_or, refl, ap, subst, sym, ◌∙◌, arith, Some, None}
use Rattle.std.specs.Prelude.{All, slice_get, option_map, map, fold}
use Rattle.std.proofs.lemmas.List.{map-append}
use Rattle.std.proofs.lemmas.List.{take_more, take_all, take-append-le, take-append-drop}
use Rattle.std.proofs.lemmas.List.Elements.{All-get_or}
use Rattle.std.proofs.lemmas.Option.{slice_get-map, slice_get_within, get_or_from_slice_get}
use Rattle.gl_model.specs.declared.row.Judged.{Judged}
use Rattle.gl_model.specs.Trace.{Line, AreVerdicts}
use Rattle.gl_model.specs.TraceSteps.{Step, IsStep, AreClean, step_fault}
use Rattle.gl_lines.specs.TraceStates.{steps_of, AreSound}
use Rattle.gl_lines.proofs.TraceSound.{steps_push}
use Rattle.gl_lines.proofs.VerdictLaw.{settled_law}
use Rattle.gl_compare.specs.declared.compare.Tally.{Tally}
use Rattle.gl_compare.specs.Counted.{AreJudged, one_trace, one_line, counted}
use Rattle.gl_reference.proofs.Places.{get_kept}

-- two judges, of each of which a relation says which lines it was given, were given these steps, with right verdicts, and they were counted
pub record AreGiven {D J : Type 0} (F : List Line → D → Type 0) (G : List Line → J → Type 0) (steps : List Step) (d : D) (j : J)
    (old new : Tally) : Type 0 where
  pub lines : List Line
  pub count : new ≡ counted old (map (λ l. l.judged) lines)
  pub said : steps_of lines ≡ steps
  pub right : AreVerdicts lines
  pub first : F lines d
  pub second : G lines j

-- what is said of a next line is right, and the judge was given it, wherever it was given sound lines of which this is so
abbrev pub IsStepped : {J : Type 0} → (List Line → J → Type 0) → Step → Judged → J → J → Type 0
IsStepped G r judged old new =
    (lines : List Line) → AreSound (lines ++ record { thread = r.0; item = r.1; judged = judged } ∷ []) → AreVerdicts lines → G lines old →
    AreVerdicts (lines ++ record { thread = r.0; item = r.1; judged = judged } ∷ []) ×
    G (lines ++ record { thread = r.0; item = r.1; judged = judged } ∷ []) new

-- one line more is counted
pub count_more : (t : Tally) (xs : List Judged) (x : Judged) → fold one_line t (xs ++ x ∷ []) ≡ one_line (fold one_line t xs) x
count_more t [] x = refl
count_more t (y ∷ xs) x = count_more (one_line t y) xs x

-- lines whose steps are a front of a clean trace are sound
front_sound : (lines : List Line) (trace more : List Step) → steps_of lines ++ more ≡ trace → All IsStep trace → AreClean trace
    → AreSound lines
front_sound lines trace more whole all clean = record {
  in_range = λ k l e.
      let said : slice_get (steps_of lines) k ≡ Some (l.thread, l.item) = slice_get-map (λ (m : Line). (m.thread, m.item)) lines k
      ∙ ap (option_map (λ (m : Line). (m.thread, m.item))) e in
      in_trace k (l.thread, l.item) said;
  clean = λ k s e.
      let near = slice_get_within (steps_of lines) k s e in
      let front : take k trace ≡ take k (steps_of lines) = ap (take k) (sym whole) ∙ take-append-le k (steps_of lines) more (omega arith) in
      subst (λ ss. step_fault ss s.0 s.1 ≡ None) front (clean k s (there k s e));
}
  where
    there : (k : ℕ) (s : Step) → slice_get (steps_of lines) k ≡ Some s → slice_get trace k ≡ Some s
    there k s e = subst (λ ss. slice_get ss k ≡ Some s) whole (get_kept (steps_of lines) more k s e)

    in_trace : (k : ℕ) (s : Step) → slice_get (steps_of lines) k ≡ Some s → IsStep s
    in_trace k s e =
        let at = there k s e in
        subst IsStep (get_or_from_slice_get trace k s s at) (All-get_or IsStep trace k s (slice_get_within trace k s at) all)

module _ {D J : Type 0} (F : List Line → D → Type 0) (G : List Line → J → Type 0) (trace : List Step) (all : All IsStep trace)
    (clean : AreClean trace) (k : ℕ) (r : Step) (less : k < length trace) (is : r ≡ get_or trace k r) (d d' : D) (j j' : J)
    (t now now' : Tally) (given : AreGiven F G (take k trace) d j t now) (a b : Judged) (one : IsStepped F r a d d')
    (other : IsStepped G r b j j') where
  abbrev line : Judged → Line
  line judged = record { thread = r.0; item = r.1; judged = judged }

  -- the lines so far with the next one are the steps of the trace up to it
  said_more : (judged : Judged) → steps_of (given.lines ++ line judged ∷ []) ≡ take (k + 1) trace
  said_more judged = steps_push given.lines (line judged) ∙ ap (λ ss. ss ++ r ∷ []) given.said ∙ ap (λ s. take k trace ++ s ∷ []) is
      ∙ sym (take_more trace k r less)

  -- the lines so far with the next one are sound, whatever is said of it
  sound : (judged : Judged) → AreSound (given.lines ++ line judged ∷ [])
  sound judged = front_sound (given.lines ++ line judged ∷ []) trace (drop (k + 1) trace)
      (ap (λ ss. ss ++ drop (k + 1) trace) (said_more judged) ∙ take-append-drop (k + 1) trace) all clean

  -- the two judges say the same of the line
  pub same_said : a ≡ b
  same_said = settled_law given.lines r.0 r.1 a b (sound a) (one given.lines (sound a) given.right given.first).0
      (other given.lines (sound b) given.right given.second).0

  -- with the line counted, both judges were given the steps up to it
  pub given_more : now' ≡ one_line now a → AreGiven F G (take (k + 1) trace) d' j' t now'
  given_more more' = record {
    lines = given.lines ++ line a ∷ [];
    count = more' ∙ ap (λ z. one_line z a) given.count ∙ sym (count_more (one_trace t) (map (λ l. l.judged) given.lines) a)
        ∙ sym (ap (fold one_line (one_trace t)) (map-append (λ (l : Line). l.judged) given.lines (line a ∷ [])));
    said = said_more a;
    right = (one given.lines (sound a) given.right given.first).0;
    first = (one given.lines (sound a) given.right given.first).1;
    second = subst (λ c. G (given.lines ++ line c ∷ []) j') (sym same_said) (other given.lines (sound b) given.right given.second).1;
  }

-- all of a trace was given
pub all_given : {D J : Type 0} (F : List Line → D → Type 0) (G : List Line → J → Type 0) (trace : List Step) (k : ℕ) (d : D) (j : J)
    (t now : Tally) → length trace ≤ k → AreGiven F G (take k trace) d j t now → (judged : List Judged) × AreJudged trace judged
    × (now ≡ counted t judged)
all_given F G trace k d j t now past g = (
  map (λ l. l.judged) g.lines,
  (g.lines, g.said ∙ take_all k trace past, refl, g.right),
  g.count,
)
