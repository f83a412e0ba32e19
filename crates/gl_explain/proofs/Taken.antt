-- What is kept of the lines so far, and how it goes on at a line.
use Rattle.std.proofs.Common.{◌≡◌, ◌∙◌, ℕ, zero, suc, ◌+◌, ◌<◌, ◌≤◌, List, [], ◌∷◌, ◌++◌, length, length-append, take, refl, sym, ap, subst, arith, inl, inr, Some, None, Bool, true, false}
use Rattle.std.specs.Prelude.{pos, ◌⊎◌, Contains, slice_get}
use native.Mathlib.Decide.{ℕ_discrete}
use Rattle.std.proofs.lemmas.Bool.{cases_lt}
use Rattle.std.proofs.lemmas.List.{map-append, take_all, take-append-le, length-map}
use Rattle.std.proofs.lemmas.Option.{slice_get_within}
use Rattle.gl_model.specs.declared.event.Act.{Act}
use Rattle.gl_model.specs.declared.event.Event.TheVariants.{Commit as Commits}
use Rattle.gl_model.specs.declared.event.Element.TheVariants.{Thread}
use Rattle.gl_model.specs.declared.event.Stamp.{Stamp}
use Rattle.gl_model.specs.declared.row.Item.{Item}
use Rattle.gl_model.specs.declared.row.Item.TheVariants.{Act as Acts, Access as AccessTo, Commit as CommitsOn}
use Rattle.gl_model.specs.declared.row.Judged.{Judged}
use Rattle.gl_model.specs.declared.row.Judged.TheVariants.{NoAccess, Performed, Raised}
use Rattle.gl_model.specs.Entries.{Entry}
use Rattle.gl_model.specs.Locksets.{Access, IsAccessOf}
use Rattle.gl_model.specs.Machine.{State, Running, with_at}
use Rattle.gl_model.specs.Records.{IsPerformed, IsPlain, Writes}
use Rattle.gl_model.specs.Rising.{with_all}
use Rattle.gl_model.specs.Trace.{Line, is_in}
use Rattle.gl_clocks.specs.Clocks.{clocks}
use Rattle.gl_clocks.proofs.Own.{own_law}
use Rattle.gl_draws.specs.Draws.{Entered, Looked, Draw, draw, access_of, Among}
use Rattle.gl_draws.proofs.EntryKinds.{is_in-contains}
use Rattle.gl_lines.specs.Traced.{Traced, block_of, traced, history, draws_of, after_item, plain_entry, commit_entry, refused_entry, touches, with_look, with_own}
use Rattle.gl_lines.specs.TraceLaws.{Accesses, WritesTo, commit_of}
use Rattle.gl_lines.specs.TraceRows.{access_at}
use Rattle.gl_lines.specs.TraceStates.{steps_of, AreSound}
use Rattle.gl_lines.proofs.LineSets.{its_variables, its_writes, is_in-touches}
use Rattle.gl_lines.proofs.RowNotes.{act_more}
use Rattle.gl_lines.proofs.TraceEvents.{IsRecorded}
use Rattle.gl_lines.proofs.TraceLawProofs.{sound_front, last_runs, get_last}
use Rattle.gl_lines.proofs.TraceMachine.{runs, with_at-here, with_at-else}
use Rattle.gl_lines.proofs.TracePlain.{block_here, block_goes_on}
use Rattle.gl_lines.proofs.TraceSound.{traced_push, sound_traced}
use Rattle.gl_explain.specs.declared.told.Kept.{Kept}
use Rattle.gl_explain.specs.Marks.{plain_behind, IsMarked, IsPlacedIn, IsOfLine, AreOfLines, AreKept}
use Rattle.gl_explain.specs.Told.{line_of, lines_of, told_of}

-- what stands at a place of a list stands there with more put after
get_grown : {A : Type 0} (xs more : List A) (i : ℕ) (x : A) → slice_get xs i ≡ Some x → slice_get (xs ++ more) i ≡ Some x
get_grown [] more i x e = absurd (cc)
get_grown (y ∷ xs) more zero x e = e
get_grown (y ∷ xs) more (suc i) x e = get_grown xs more i x e

-- a place within the first of two lists has what stands there in it
get_left : {A : Type 0} (xs more : List A) (i : ℕ) → i < length xs → slice_get (xs ++ more) i ≡ slice_get xs i
get_left [] more i near = absurd (omega arith)
get_left (x ∷ xs) more zero near = refl
get_left (x ∷ xs) more (suc i) near = get_left xs more i (omega arith)

-- an access that the history has is one that a longer history has
access_grown : (h more : List Stamp) (a : Access) → IsAccessOf h a → IsAccessOf (h ++ more) a
access_grown h more a is = record {
  event = is.event;
  there = get_grown h more a.block is.event is.there;
  own = is.own;
  goes_on = is.goes_on;
  commit = is.commit;
}

-- an item puts something after the history or nothing
item_more : (t : ℕ) (item : Item) (judged : Judged) (s : Traced) → (more : List Stamp)
    × ((after_item t item judged s).history ≡ s.history ++ more)
item_more t (Acts act) judged s = let m = act_more t act s in (m.0, m.1)
item_more t (AccessTo x write) NoAccess s = ([], sym (Rattle.std.proofs.lemmas.List.append-nil s.history))
item_more t (AccessTo x write) Performed s = ([], sym (Rattle.std.proofs.lemmas.List.append-nil s.history))
item_more t (AccessTo x write) (Raised var) s = ([], sym (Rattle.std.proofs.lemmas.List.append-nil s.history))
item_more t (CommitsOn reads writes) NoAccess s = (record { thread = t; event = Commits (with_all writes reads) } ∷ [], refl)
item_more t (CommitsOn reads writes) Performed s = (record { thread = t; event = Commits (with_all writes reads) } ∷ [], refl)
item_more t (CommitsOn reads writes) (Raised var) s = ([], sym (Rattle.std.proofs.lemmas.List.append-nil s.history))

-- a line puts something after the history of the lines before it or nothing
pub history_more : (lines : List Line) (l : Line) → (more : List Stamp) × (history (lines ++ l ∷ []) ≡ history lines ++ more)
history_more lines l = let m = item_more l.thread l.item l.judged (traced lines)
    in (m.0, ap (λ (s : Traced). s.history) (traced_push lines l) ∙ m.1)

-- what is placed in the history of lines is placed in that with one more
placed_grown : (lines : List Line) (l : Line) (before : List Line) (m : Line) → IsPlacedIn (history lines) before m
    → IsPlacedIn (history (lines ++ l ∷ [])) before m
placed_grown lines l before m p =
    let more = history_more lines l in
    subst (λ h. IsPlacedIn h before m) (sym more.1)
    (record {
      plain = access_grown (history lines) more.0 (plain_behind before m.thread) p.plain;
      access = λ e. access_grown (history lines) more.0 (access_at before m) (p.access e);
    })

-- a draw that was made by one of the lines was made by one of them with one more
of_line_grown : (lines : List Line) (l : Line) (x : ℕ) (d : Draw) (e : Entry) → IsOfLine lines x d e → IsOfLine (lines ++ l ∷ []) x d e
of_line_grown lines l x d e o =
    let near = slice_get_within lines o.place o.line o.there in
    let same : take o.place (lines ++ l ∷ []) ≡ take o.place lines = take-append-le o.place lines (l ∷ []) (omega arith) in
    record {
      place = o.place;
      line = o.line;
      there = get_grown lines (l ∷ []) o.place o.line o.there;
      performed = o.performed;
      touches = o.touches;
      access = o.access ∙ ap (λ ls. access_at ls o.line) (sym same);
      writes = o.writes;
      plain = o.plain;
    }

-- something is said of each access
abbrev pub IsSaidOf : Item → Judged → Type 0
IsSaidOf (Acts act) judged = Unit {0}
IsSaidOf (AccessTo x write) NoAccess = ⊥
IsSaidOf (AccessTo x write) Performed = Unit {0}
IsSaidOf (AccessTo x write) (Raised var) = Unit {0}
IsSaidOf (CommitsOn reads writes) NoAccess = ⊥
IsSaidOf (CommitsOn reads writes) Performed = Unit {0}
IsSaidOf (CommitsOn reads writes) (Raised var) = Unit {0}

-- a draw for one entry is for no other
entry_is : (t q : ℕ) (d : Draw) (e f : Entry) → d ≡ draw t q (Entered f) → d.what ≡ Entered e → f ≡ e
entry_is t q d e f is what = let same : Entered f ≡ Entered e = sym (ap (λ (z : Draw). z.what) is) ∙ what in cc

-- a draw of a look is not of an entry
looked_not : (t q : ℕ) (d : Draw) (e : Entry) → d ≡ draw t q (Looked (pos 0)) → d.what ≡ Entered e → ⊥
looked_not t q d e is what = let same : Looked (pos 0) ≡ Entered e = sym (ap (λ (z : Draw). z.what) is) ∙ what in cc

-- a draw that is among those after one more was among them, or is that one of x
plain_news : (draws : ℕ → List Draw) (x y : ℕ) (new d : Draw) → Among (with_at draws x (new ∷ draws x) y) d → Among (draws y) d
    ⊎ ((x ≡ y) × (d ≡ new))
plain_news draws x y new d among = elim (ℕ_discrete y x) [
  | yes same ↦
      (let here : Among (new ∷ draws x) d = subst (λ ds. Among ds d) (with_at-here draws x (new ∷ draws x))
      (subst (λ z. Among (with_at draws x (new ∷ draws x) z) d) same among) in
      elim here [ inl is ↦ inr (sym same, is) | inr old ↦ inl (subst (λ z. Among (draws z) d) (sym same) old) ])
  | no other ↦ inl (subst (λ ds. Among ds d) (with_at-else draws x y (new ∷ draws x) other) among)
]

-- an attempt draws a number for each look, and one for its entry
attempt_news : (t q p : ℕ) (e : Entry) (ds : List Draw) (own look : Bool) (d : Draw) → Among (with_own own t p e (with_look look t q ds)) d
    → Among ds d ⊎ ((d ≡ draw t q (Looked (pos 0))) ⊎ ((own ≡ true) × (d ≡ draw t p (Entered e))))
attempt_news t q p e ds true true d (inl is) = inr (inr (refl, is))
attempt_news t q p e ds true true d (inr (inl is)) = inr (inl is)
attempt_news t q p e ds true true d (inr (inr old)) = inl old
attempt_news t q p e ds true false d (inl is) = inr (inr (refl, is))
attempt_news t q p e ds true false d (inr old) = inl old
attempt_news t q p e ds false true d (inl is) = inr (inl is)
attempt_news t q p e ds false true d (inr old) = inl old
attempt_news t q p e ds false false d old = inl old

-- a draw of the line that was just taken
module _ (lines : List Line) (l : Line) where
  -- of the lines with one more the first, as many as there were, are those that there were
  whole : take (length lines) (lines ++ l ∷ []) ≡ lines
  whole = take-append-le (length lines) lines (l ∷ []) (omega arith) ∙ take_all (length lines) lines (omega arith)

  -- a draw that is the access of the last line, which was performed, on one of the line's variables, was made by one of these lines
  pub of_last : (x : ℕ) (d : Draw) (e : Entry) → l.judged ≡ Performed → Accesses l.item x → access_of d ≡ access_at lines l
      → (Writes e x → WritesTo l.item x) → (IsPlain e → commit_of l.item ≡ None) → IsOfLine (lines ++ l ∷ []) x d e
  of_last x d e performed touches access writes plain = record {
    place = length lines;
    line = l;
    there = get_last lines l;
    performed = performed;
    touches = touches;
    access = access ∙ ap (λ ls. access_at ls l) (sym whole);
    writes = writes;
    plain = plain;
  }

module _ (lines : List Line) (t : ℕ) (now : _) (r : IsRecorded (traced lines) now) (old : AreOfLines lines (draws_of lines)) where
  abbrev line : Item → Judged → Line
  line item judged = record { thread = t; item = item; judged = judged }

  abbrev Goal : Item → Judged → Type 0
  Goal item judged = AreOfLines (lines ++ line item judged ∷ []) (after_item t item judged (traced lines)).draws

  -- a draw of a performed access before the line was made by one of the lines with it
  kept_old : (item : Item) (judged : Judged) (x : ℕ) (d : Draw) (e : Entry) → Among (draws_of lines x) d → d.what ≡ Entered e
      → IsPerformed e → IsOfLine (lines ++ line item judged ∷ []) x d e
  kept_old item judged x d e among what performed = of_line_grown lines (line item judged) x d e (old x d e among what performed)

  abbrev D : ℕ → Bool → Bool → Draw
  D x write raised = draw t (block_of t (traced lines)) (Entered (plain_entry x write raised (traced lines)))

  -- with a performed plain access more, each draw of a performed access was made by one of the lines
  plain_made : (x : ℕ) (write : Bool) → Goal (AccessTo x write) Performed
  plain_made x write y d e among what performed = elim (plain_news (draws_of lines) x y (D x write false) d among) [
    | inl before ↦ kept_old (AccessTo x write) Performed y d e before what performed
    | inr new ↦
        (let is = entry_is t (block_of t (traced lines)) d e (plain_entry x write false (traced lines)) new.1 what in
        of_last lines (line (AccessTo x write) Performed) y d e refl new.0 (ap access_of new.1)
        (λ w. (subst (λ f. Writes f y) (sym is) w).1) (λ p. refl))
  ]

  -- with a raised plain access more, each draw of a performed access was made by one of the lines
  plain_raised : (x : ℕ) (write : Bool) (var : ℕ) → Goal (AccessTo x write) (Raised var)
  plain_raised x write var y d e among what performed = elim (plain_news (draws_of lines) x y (D x write true) d among) [
    | inl before ↦ kept_old (AccessTo x write) (Raised var) y d e before what performed
    | inr new ↦
        (let is = entry_is t (block_of t (traced lines)) d e (plain_entry x write true (traced lines)) new.1 what in
        let raised : true ≡ false = subst IsPerformed (sym is) performed in absurd (cc))
  ]

  -- with an act more, each draw of a performed access was made by one of the lines
  act_made : (act : Act) (judged : Judged) → Goal (Acts act) judged
  act_made act judged x d e among what performed =
      kept_old (Acts act) judged x d e (subst (λ (ds : ℕ → List Draw). Among (ds x) d) (act_more t act (traced lines)).2 among) what
      performed

  module _ (reads writes : List ℕ) where
    abbrev C : Draw
    C = draw t (traced lines).tracing.next (Entered (commit_entry reads writes (traced lines)))

    -- with a performed commit more, each draw of a performed access was made by one of the lines
    commit_made : Goal (CommitsOn reads writes) Performed
    commit_made y d e among what performed =
        let s = traced lines in
        elim (attempt_news t (block_of t s) s.tracing.next (commit_entry reads writes s) (s.draws y) (touches reads writes y)
        (is_in y reads) d among) [
          | inl before ↦ kept_old (CommitsOn reads writes) Performed y d e before what performed
          | inr (inl look) ↦ absurd (looked_not t (block_of t s) d e look what)
          | inr (inr own) ↦
              (let is = entry_is t s.tracing.next d e (commit_entry reads writes s) own.1 what in
              let there : Contains (with_all writes reads) y =
              is_in-contains y (with_all writes reads) (is_in-touches reads writes y ∙ own.0) in
              let access : access_of C ≡ access_at lines (line (CommitsOn reads writes) Performed) =
              (λ i. record { thread = t; block = r.next i; variables = Some (its_variables reads writes s.tracing.numbers i) }) in
              of_last lines (line (CommitsOn reads writes) Performed) y d e refl there (ap access_of own.1 ∙ access)
              (λ w. subst (λ ws. Contains ws y) (its_writes reads writes s.tracing.numbers) (subst (λ f. Writes f y) (sym is) w))
              (λ p. absurd (subst IsPlain (sym is) p)))
        ]

    -- with a refused commit more, each draw of a performed access was made by one of the lines
    commit_refused : (var : ℕ) → Goal (CommitsOn reads writes) (Raised var)
    commit_refused var y d e among what performed =
        let s = traced lines in
        elim (attempt_news t (block_of t s) (block_of t s) (refused_entry reads writes var s) (s.draws y) (touches reads writes y)
        (is_in y reads) d among) [
          | inl before ↦ kept_old (CommitsOn reads writes) (Raised var) y d e before what performed
          | inr (inl look) ↦ absurd (looked_not t (block_of t s) d e look what)
          | inr (inr own) ↦ absurd (subst IsPerformed (sym (entry_is t (block_of t s) d e (refused_entry reads writes var s) own.1 what))
              performed)
        ]

  -- behind a line with what may be said of it each draw of a performed access was made by one of the lines, that one among them
  pub drawn_on : (item : Item) (judged : Judged) → IsSaidOf item judged → Goal item judged
  drawn_on (Acts act) judged said = act_made act judged
  drawn_on (AccessTo x write) NoAccess said = absurd said
  drawn_on (AccessTo x write) Performed said = plain_made x write
  drawn_on (AccessTo x write) (Raised var) said = plain_raised x write var
  drawn_on (CommitsOn reads writes) NoAccess said = absurd said
  drawn_on (CommitsOn reads writes) Performed said = commit_made reads writes
  drawn_on (CommitsOn reads writes) (Raised var) said = commit_refused reads writes var

-- where the line's accesses are, and what its thread knows of itself
module _ (lines : List Line) (l : Line) (sound : AreSound (lines ++ l ∷ [])) where
  -- the lines before belong together in a state of the machine in which the last line's thread runs
  pub thread_runs : (now : State) × (IsRecorded (traced lines) now × (now.threads l.thread ≡ Running))
  thread_runs = let k = sound_traced lines (sound_front lines l sound)
      in (k.0, (k.1.recorded, runs (steps_of lines) k.0 k.1.state l.thread (last_runs lines l sound)))

  -- a plain access that the line's thread makes behind the lines is an access of their history
  plain_placed : IsAccessOf (history lines) (plain_behind lines l.thread)
  plain_placed =
      let n = thread_runs in
      let b = block_here (traced lines) n.0 n.1.0 l.thread n.1.1 in
      record {
        event = b.event;
        there = b.here;
        own = b.own;
        goes_on = block_goes_on (traced lines) n.0 n.1.0 l.thread n.1.1;
        commit = λ xs e. absurd (cc);
      }

  -- a plain access that the line's thread makes behind the lines is an access of the history with the line
  plain_grown : IsAccessOf (history (lines ++ l ∷ [])) (plain_behind lines l.thread)
  plain_grown = let more = history_more lines l
      in subst (λ h. IsAccessOf h (plain_behind lines l.thread)) (sym more.1)
      (access_grown (history lines) more.0 (plain_behind lines l.thread) plain_placed)

  -- what the thread knows of itself is two more than the position of its last event
  pub own_known : clocks (history lines) (Thread l.thread) l.thread ≡ block_of l.thread (traced lines) + 2
  own_known =
      let n = thread_runs in
      let b = block_here (traced lines) n.0 n.1.0 l.thread n.1.1 in
      own_law (history lines) l.thread (block_of l.thread (traced lines)) b.event b.here b.own b.upto

-- a performed commit is the last event
module _ (lines : List Line) (t : ℕ) (reads writes : List ℕ) where
  abbrev made : Line
  made = record { thread = t; item = CommitsOn reads writes; judged = Performed }

  abbrev stamp : Stamp
  stamp = record { thread = t; event = Commits (with_all writes reads) }

  -- a performed commit puts its event behind the history
  commit_history : history (lines ++ made ∷ []) ≡ history lines ++ stamp ∷ []
  commit_history = ap (λ (s : Traced). s.history) (traced_push lines made)

  -- a performed commit is an access of the history with it
  commit_placed : IsAccessOf (history (lines ++ made ∷ [])) (access_at lines made)
  commit_placed = subst (λ h. IsAccessOf h (access_at lines made)) (sym commit_history) (record {
    event = stamp;
    there = get_last (history lines) stamp;
    own = refl;
    goes_on = λ e. cc;
    commit = λ xs e. ap Commits (let same : Some (with_all writes reads) ≡ Some xs = e in let is : with_all writes reads ≡ xs = cc in is);
  })

  -- behind the commit, what its thread knows of itself is two more than the commit's position
  pub commit_known : clocks (history (lines ++ made ∷ [])) (Thread t) t ≡ length (history lines) + 2
  commit_known = subst (λ h. clocks h (Thread t) t ≡ length (history lines) + 2) (sym commit_history)
      (own_law (history lines ++ stamp ∷ []) t (length (history lines)) stamp (get_last (history lines) stamp) refl
      (λ q r at own. let near = slice_get_within (history lines ++ stamp ∷ []) q r at
      in omega (arith, length-append (history lines) (stamp ∷ []))))

-- the line that was just taken has its accesses in the history with it
placed_last : (lines : List Line) (t : ℕ) (item : Item) (judged : Judged)
    → AreSound (lines ++ record { thread = t; item = item; judged = judged } ∷ [])
    → IsPlacedIn (history (lines ++ record { thread = t; item = item; judged = judged } ∷ [])) lines
    (record { thread = t; item = item; judged = judged })
placed_last lines t (Acts act) judged sound = let p = plain_grown lines (record { thread = t; item = Acts act; judged = judged }) sound
    in record { plain = p; access = λ e. p }
placed_last lines t (AccessTo x write) judged sound = let p =
    plain_grown lines (record { thread = t; item = AccessTo x write; judged = judged }) sound in record { plain = p; access = λ e. p }
placed_last lines t (CommitsOn reads writes) NoAccess sound =
    record {
      plain = plain_grown lines (record { thread = t; item = CommitsOn reads writes; judged = NoAccess }) sound;
      access = λ e. absurd (cc);
    }
placed_last lines t (CommitsOn reads writes) Performed sound =
    record {
      plain = plain_grown lines (record { thread = t; item = CommitsOn reads writes; judged = Performed }) sound;
      access = λ e. commit_placed lines t reads writes;
    }
placed_last lines t (CommitsOn reads writes) (Raised var) sound =
    record {
      plain = plain_grown lines (record { thread = t; item = CommitsOn reads writes; judged = Raised var }) sound;
      access = λ e. absurd (cc);
    }

-- what is kept, with one line more
module _ (lines : List Line) (kept : List Kept) (k : Kept) (sound : AreSound (lines ++ line_of k.told ∷ []))
    (said : IsSaidOf k.told.item k.told.judged) (marked : IsMarked lines k) (are : AreKept lines kept) where
  abbrev more : List Line
  more = lines ++ line_of k.told ∷ []

  -- as many lines are kept as there are
  kept_length : length kept ≡ length lines
  kept_length = sym (length-map kept (λ (q : Kept). q.told)) ∙ sym (length-map (told_of kept) line_of) ∙ ap length are.lines_are

  -- the first lines, at most all that there were, are the same with one more
  front : (i : ℕ) → i ≤ length lines → take i more ≡ take i lines
  front i le = take-append-le i lines (line_of k.told ∷ []) (omega arith)

  -- what holds of each line that was kept
  each_kept : (P : ℕ → List Line → Kept → Type 0) → ((i : ℕ) (q : Kept) → slice_get kept i ≡ Some q → P i (take i lines) q)
      → P (length lines) lines k → (i : ℕ) (q : Kept) → slice_get (kept ++ k ∷ []) i ≡ Some q → P i (take i more) q
  each_kept P old new i q at = elim (cases_lt i (length lines)) [
    | inl below ↦
        (let near : i < length kept = omega (arith, kept_length) in
        let there : slice_get kept i ≡ Some q = sym (get_left kept (k ∷ []) i near) ∙ at in
        subst (λ ls. P i ls q) (sym (front i (omega arith))) (old i q there))
    | inr over ↦
        (let near = slice_get_within (kept ++ k ∷ []) i q at in
        let here : i ≡ length lines = omega (arith, kept_length, length-append kept (k ∷ [])) in
        let last : slice_get (kept ++ k ∷ []) (length lines)
        ≡ Some k = subst (λ n. slice_get (kept ++ k ∷ []) n ≡ Some k) kept_length (get_last kept k) in
        let same : k ≡ q = (let a = subst (λ n. slice_get (kept ++ k ∷ []) n ≡ Some q) here at in cc) in
        let all : lines ≡ take i more = sym (take_all (length lines) lines (omega arith)) ∙ sym (front (length lines) (omega arith))
        ∙ ap (λ n. take n more) (sym here) in
        subst (λ n. P n (take i more) q) (sym here)
        (subst (λ ls. P (length lines) ls q) all (subst (λ z. P (length lines) lines z) same new)))
  ]

  -- with what is kept of the new line put last, all of these lines are kept
  pub kept_push : AreKept more (kept ++ k ∷ [])
  kept_push =
      let n = thread_runs lines (line_of k.told) sound in
      record {
        lines_are = ap lines_of (map-append (λ (q : Kept). q.told) kept (k ∷ [])) ∙ map-append line_of (told_of kept) (k.told ∷ [])
            ∙ ap (λ ls. ls ++ line_of k.told ∷ []) are.lines_are;
        marked = each_kept (λ i ls q. IsMarked ls q) are.marked marked;
        placed = each_kept (λ i ls q. IsPlacedIn (history more) ls (line_of q.told))
            (λ i q at. placed_grown lines (line_of k.told) (take i lines) (line_of q.told) (are.placed i q at))
            (placed_last lines k.told.thread k.told.item k.told.judged sound);
        drawn = subst (λ (s : Traced). AreOfLines more s.draws) (sym (traced_push lines (line_of k.told)))
            (drawn_on lines k.told.thread n.0 n.1.0 are.drawn k.told.item k.told.judged said);
      }
