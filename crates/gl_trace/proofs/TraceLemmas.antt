-- One more line of a trace.
use Rattle.std.proofs.Common.{◌≡◌, ◌+◌, ◌<◌, ◌≤◌, ℕ, List, [], ◌∷◌, ◌++◌, Bool, true, false, Option, Some, None, Result, Ok, is_some, zero, suc, if◌then◌else◌, nat_lt, length, length-append, take, drop, slice_get, get_or, ap, sym, subst, ◌∙◌, refl, arith, append_assoc, append-nil, true≢false, IfSome, All, length-drop, add-zero, inl, inr}
use Rattle.std.specs.Option.{option_map}
use Rattle.std.proofs.lemmas.Bool.{cases_lt}
use Rattle.std.proofs.lemmas.List.{get_or-drop, drop-drop, take_more, take_all, take_at, take-append-le, length-take-le, map-append}
use Rattle.std.proofs.lemmas.Option.{slice_get_within}
use Rattle.std.proofs.lemmas.List.Elements.{All-push}
use borrow.Author.Count.{below_more}
use Rattle.std.specs.Str.Lines.{lines}
use Rattle.gl_model.specs.declared.row.StepFault.{StepFault}
use Rattle.gl_model.specs.TraceSteps.{Step, IsStep, AreClean, step_fault}
use Rattle.gl_text.specs.Text.{is_bad, words}
use Rattle.gl_text.specs.declared.kinds.TheConstants.{BAD_BYTE, TOO_MANY_LINES}
use Rattle.gl_trace.specs.declared.limits.TheConstants.{TRACE_BYTES, TRACE_LINES}
use Rattle.gl_trace.specs.Kept.{IsItemKept}
use Rattle.gl_trace.specs.Phrase.{said}
use Rattle.gl_trace.specs.TraceLine.{TraceLine, step_of, steps_of}
use Rattle.gl_trace.specs.Trace.{lines_from, made, fault_at, line_fault, said_fault, kind_of, IsTrace, IsFirst, IsFirstFault, AreLines}
use Rattle.gl_trace.specs.Tracks.{Tracks, IsWithin}
use Rattle.gl_trace.specs.Reads.{Reads}
use Rattle.gl_trace.specs.declared.standing.Standing.{Standing}

-- the line at place n, where it is the first of what is left
pub record IsNext (ls : List (List ℕ)) (n : ℕ) (line : List ℕ) (rest : List (List ℕ)) : Type 0 where
  pub there : n < length ls
  pub here : get_or ls n [] ≡ line
  pub after : drop (n + 1) ls ≡ rest
  pub taken : take (n + 1) ls ≡ take n ls ++ line ∷ []

-- the first of the lines that are left from n on stands at n
pub next_of : (ls : List (List ℕ)) (n : ℕ) (line : List ℕ) (rest : List (List ℕ)) → drop n ls ≡ line ∷ rest → IsNext ls n line rest
next_of ls n line rest e =
    let there : n < length ls = omega (arith, length-drop n ls, ap length e) in
    let here : get_or ls n [] ≡ line = ap (λ k. get_or ls k []) (sym (add-zero n)) ∙ sym (get_or-drop n ls 0 [])
    ∙ ap (λ l. get_or l 0 []) e in
    record {
      there = there;
      here = here;
      after = sym (drop-drop 1 n ls) ∙ ap (drop 1) e;
      taken = take_more ls n [] there ∙ ap (λ x. take n ls ++ x ∷ []) here;
    }

-- what the lines say with one more is what they say, and then what that says
pub lines_from-push : (k : ℕ) (ls : List (List ℕ)) (line : List ℕ)
    → lines_from k (ls ++ line ∷ []) ≡ lines_from k ls ++ made (k + length ls) (said (words line))
lines_from-push k [] line = append-nil (made k (said (words line))) ∙ ap (λ n. made n (said (words line))) (sym (add-zero k))
lines_from-push k (x ∷ xs) line =
    ap (λ l. made k (said (words x)) ++ l) (lines_from-push (k + 1) xs line)
    ∙ sym (append_assoc (made k (said (words x))) (lines_from (k + 1) xs) (made (k + 1 + length xs) (said (words line))))
    ∙ ap (λ n. (made k (said (words x)) ++ lines_from (k + 1) xs) ++ made n (said (words line))) (omega arith)

-- a depth from 1 to a is so up to b, where that is more
within_some : (o : Option (ℕ × ℕ)) (a b : ℕ) → a ≤ b → IfSome o (λ h. (0 < h.1) × (h.1 ≤ a)) → IfSome o (λ h. (0 < h.1) × (h.1 ≤ b))
within_some None a b le h = tt
within_some (Some x) a b le (pos, top) = (pos, omega arith)

-- depths within n are within n + 1
within_more : (standing : Standing) (n : ℕ) → IsWithin n standing → IsWithin (n + 1) standing
within_more standing n h = λ m below. within_some _ n (n + 1) (omega arith) (h m below)

-- the lines so far, one line on
pub record IsRead (text : List ℕ) (n : ℕ) (rest : List (List ℕ)) (new : List TraceLine) : Type 0 where
  pub left : rest ≡ drop (n + 1) (lines text)
  pub said : new ≡ lines_from 1 (take (n + 1) (lines text))
  pub clean : (i : ℕ) → i < n + 1 → fault_at (lines text) i ≡ None

-- a line without a fault is read: what it says is said, and the rest is left
read_on : (text line : List ℕ) (n : ℕ) (rest : List (List ℕ)) (old new : List TraceLine) (before : Standing) (o : Option Step)
    → Reads text n (line ∷ rest) old before → said (words line) ≡ Ok o → line_fault (steps_of old) (n + 1) line ≡ None
    → new ≡ old ++ made (n + 1) (Ok o) → IsRead text n rest new
read_on text line n rest old new before o reads says clean adds =
    let next = next_of (lines text) n line rest (sym reads.left) in
    let count : length (take n (lines text)) ≡ n = length-take-le n (lines text) (omega (arith, next.there)) in
    let same : lines_from 1 (take (n + 1) (lines text)) ≡ new =
    ap (lines_from 1) next.taken
    ∙ lines_from-push 1 (take n (lines text)) line
    ∙ ap (λ k. lines_from 1 (take n (lines text)) ++ made k (said (words line))) (ap (λ k. 1 + k) count ∙ omega arith)
    ∙ ap (λ r. lines_from 1 (take n (lines text)) ++ made (n + 1) r) says
    ∙ ap (λ l. l ++ made (n + 1) (Ok o)) (sym reads.said)
    ∙ sym adds in
    let here : fault_at (lines text) n ≡ None =
    ap (λ l. line_fault (steps_of l) (n + 1) (get_or (lines text) n [])) (sym reads.said)
    ∙ ap (line_fault (steps_of old) (n + 1)) next.here ∙ clean in
    record {
      left = sym next.after;
      said = sym same;
      clean = below_more (λ i. fault_at (lines text) i ≡ None) n reads.clean here;
    }

-- a line that says nothing, and has no fault, is read and leaves what was said
pub read_silent : (text line : List ℕ) (n : ℕ) (rest : List (List ℕ)) (old : List TraceLine) (standing : Standing)
    → Reads text n (line ∷ rest) old standing → n + 1 ≤ TRACE_LINES → said (words line) ≡ Ok None → line_fault (steps_of old) (n + 1) line
    ≡ None
    → Reads text (n + 1) rest old standing
read_silent text line n rest old standing reads few says clean =
    let read = read_on text line n rest old old standing None reads says clean (sym (append-nil old)) in
    record {
      left = read.left;
      few = few;
      said = read.said;
      clean = read.clean;
      counted = omega (arith, reads.counted);
      tracks = reads.tracks;
      within = within_more standing n reads.within;
      well = reads.well;
    }

-- a step without the kind of a fault has no fault
none_back : (o : Option StepFault) → option_map kind_of o ≡ None → o ≡ None
none_back None e = refl
none_back (Some fault) e = absurd (true≢false (ap is_some e))

-- a line without a fault that says a step says one without a fault
pub chosen : (before : List Step) (b c : Bool) (j k : ℕ) (r : Result (Option Step) ℕ) (s : Step) → r ≡ Ok (Some s)
    → (if b then Some j else (if c then Some k else said_fault before r)) ≡ None → step_fault before s.0 s.1 ≡ None
chosen before true c j k r s says e = absurd (true≢false (ap is_some e))
chosen before false true j k r s says e = absurd (true≢false (ap is_some e))
chosen before false false j k r s says e = none_back (step_fault before s.0 s.1) (sym (ap (said_fault before) says) ∙ e)

-- below its length, a list has what a longer one has
get_front : (xs ys : List Step) (k : ℕ) → k < length xs → slice_get (xs ++ ys) k ≡ slice_get xs k
get_front [] ys k h = absurd (omega arith)
get_front (x ∷ xs) ys zero h = refl
get_front (x ∷ xs) ys (suc k) h = get_front xs ys k (omega arith)

-- the new step stands at the end
get_seam : (xs : List Step) (y : Step) → slice_get (xs ++ y ∷ []) (length xs) ≡ Some y
get_seam [] y = refl
get_seam (x ∷ xs) y = get_seam xs y

-- clean steps and one more that is clean are clean
pub clean_push : (steps : List Step) (s : Step) → AreClean steps → step_fault steps s.0 s.1 ≡ None → AreClean (steps ++ s ∷ [])
clean_push steps s clean none = λ k r e.
    elim (cases_lt k (length steps)) [
      | inl h ↦
          let there : slice_get steps k ≡ Some r = sym (get_front steps (s ∷ []) k h) ∙ e in
          let before : take k (steps ++ s ∷ []) ≡ take k steps = take-append-le k steps (s ∷ []) (omega arith) in
          rw before (clean k r there)
      | inr h ↦
          let within : k < length (steps ++ s ∷ []) = slice_get_within (steps ++ s ∷ []) k r e in
          let last : k ≡ length steps = omega (arith, length-append steps (s ∷ [])) in
          let before : take k (steps ++ s ∷ []) ≡ steps = ap (λ n. take n (steps ++ s ∷ [])) last
          ∙ take_at steps (s ∷ []) (length steps) refl in
          let here : Some s ≡ Some r = sym (get_seam steps s) ∙ ap (slice_get (steps ++ s ∷ [])) (sym last) ∙ e in
          let same : s ≡ r = cc in
          rw (before, ← same) none
    ]

-- lines of a trace with one more that is in range, of a kept item and without a fault are lines of a trace
well_more : (old new : List TraceLine) (m : ℕ) (s : Step) → AreLines old → length old < TRACE_LINES → IsStep s → IsItemKept s.1
    → step_fault (steps_of old) s.0 s.1 ≡ None → new ≡ old ++ (m, s.0, s.1) ∷ [] → AreLines new
well_more old new m s well few range kept none adds =
    let steps : steps_of new ≡ steps_of old ++ s ∷ [] = ap steps_of adds ∙ map-append step_of old ((m, s.0, s.1) ∷ []) in
    record {
      few = omega (arith, ap length adds, length-append old ((m, s.0, s.1) ∷ []));
      range = subst (All IsStep) (sym steps) (All-push IsStep (steps_of old) s well.range range);
      sets = subst (All (λ l. IsItemKept l.2)) (sym adds) (All-push (λ l. IsItemKept l.2) old (m, s.0, s.1) well.sets kept);
      clean = subst AreClean (sym steps) (clean_push (steps_of old) s well.clean none);
    }

-- a line that says a step, and has no fault, is read: the step is put to those that were read
pub read_step : (text line : List ℕ) (n : ℕ) (rest : List (List ℕ)) (old new : List TraceLine) (before after : Standing) (s : Step)
    → Reads text n (line ∷ rest) old before → n + 1 ≤ TRACE_LINES → said (words line) ≡ Ok (Some s)
    → line_fault (steps_of old) (n + 1) line ≡ None
    → new ≡ old ++ (n + 1, s.0, s.1) ∷ [] → Tracks (steps_of old ++ s ∷ []) after → IsWithin (n + 1) after → IsStep s → IsItemKept s.1
    → Reads text (n + 1) rest new after
read_step text line n rest old new before after s reads few says clean adds tracks within range kept =
    let read = read_on text line n rest old new before (Some s) reads says clean adds in
    let none : step_fault (steps_of old) s.0 s.1
    ≡ None = chosen (steps_of old) (is_bad line) (nat_lt TRACE_LINES (n + 1)) BAD_BYTE TOO_MANY_LINES (said (words line)) s says clean in
    let steps : steps_of new ≡ steps_of old ++ s ∷ [] = ap steps_of adds ∙ map-append step_of old ((n + 1, s.0, s.1) ∷ []) in
    record {
      left = read.left;
      few = few;
      said = read.said;
      clean = read.clean;
      counted = omega (arith, reads.counted, ap length adds, length-append old ((n + 1, s.0, s.1) ∷ []));
      tracks = subst (λ l. Tracks l after) (sym steps) tracks;
      within = within;
      well = well_more old new (n + 1) s reads.well (omega (arith, reads.counted)) range kept none adds;
    }

-- a text that is not too long and of which no line is left is a trace of the lines that were kept
pub read_all : (text : List ℕ) (n : ℕ) (kept : List TraceLine) (standing : Standing) → Reads text n [] kept standing
    → length text ≤ TRACE_BYTES → IsTrace text kept
read_all text n kept standing reads short =
    let past : length (lines text) ≤ n = omega (arith, length-drop n (lines text), ap length reads.left) in
    record {
      short = short;
      clean = λ i below. reads.clean i (omega arith);
      all = reads.said ∙ ap (lines_from 1) (take_all n (lines text) past);
    }

-- a line with a fault, where those before it were read, is the first that has one
pub read_fault : (text line : List ℕ) (n kind : ℕ) (rest : List (List ℕ)) (kept : List TraceLine) (standing : Standing)
    → Reads text n (line ∷ rest) kept standing → line_fault (steps_of kept) (n + 1) line ≡ Some kind → IsFirst (lines text) n kind
read_fault text line n kind rest kept standing reads fault =
    let next = next_of (lines text) n line rest (sym reads.left) in
    record {
      there = next.there;
      fault = ap (λ l. line_fault (steps_of l) (n + 1) (get_or (lines text) n [])) (sym reads.said)
          ∙ ap (line_fault (steps_of kept) (n + 1)) next.here ∙ fault;
      before = reads.clean;
    }

-- a line that says a step, and has no fault, is read, where it is numbered m and so many were given
pub numbered_step : (text line : List ℕ) (n m given : ℕ) (rest : List (List ℕ)) (old : List TraceLine) (before after : Standing) (s : Step)
    → m ≡ n + 1 → given ≡ m → Reads text n (line ∷ rest) old before → m ≤ TRACE_LINES → said (words line) ≡ Ok (Some s)
    → line_fault (steps_of old) m line ≡ None
    → Tracks (steps_of old ++ s ∷ []) after → IsWithin m after → IsStep s → IsItemKept s.1
    → Reads text given rest (old ++ (m, s.0, s.1) ∷ []) after
numbered_step text line n m given rest old before after s next same reads few says clean tracks within range kept =
    rw (same, next)
    (read_step text line n rest old (old ++ (n + 1, s.0, s.1) ∷ []) before after s reads (rw next at few) says (rw next at clean) refl
    tracks (rw next at within) range kept)

-- a line that says nothing is read, and leaves all as it was
pub numbered_silent : (text line : List ℕ) (n m given : ℕ) (rest : List (List ℕ)) (old : List TraceLine) (standing : Standing)
    → m ≡ n + 1 → given ≡ m → Reads text n (line ∷ rest) old standing → m ≤ TRACE_LINES → said (words line) ≡ Ok None
    → line_fault (steps_of old) m line ≡ None
    → Reads text given rest old standing
numbered_silent text line n m given rest old standing next same reads few says clean =
    rw (same, next) (read_silent text line n rest old standing reads (rw next at few) says (rw next at clean))

-- a line with a fault, after lines without one, is the first with one
pub numbered_fault : (text line : List ℕ) (n m kind : ℕ) (rest : List (List ℕ)) (old : List TraceLine) (standing : Standing)
    → m ≡ n + 1 → length text ≤ TRACE_BYTES → Reads text n (line ∷ rest) old standing → line_fault (steps_of old) m line ≡ Some kind
    → IsFirstFault text m kind
numbered_fault text line n m kind rest old standing next short reads fault =
    inr (short, (n, next, read_fault text line n kind rest old standing reads (rw next at fault)))
