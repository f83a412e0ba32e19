-- The three kinds of next accesses of a trace: a plain access, a performed commit, a refused one.
use Rattle.std.proofs.Common.{◌≡◌, ℕ, ◌+◌, ◌-◌, ◌<◌, List, [], ◌∷◌, ◌++◌, length, refl, ap, subst, sym, ◌∙◌, inl, inr, arith, Some, None, true, false, Bool, length-append}
use Rattle.std.specs.Prelude.{◌↔◌, pos, Contains}
use Rattle.std.proofs.lemmas.Option.{slice_get_within}
use Rattle.gl_model.specs.declared.event.Event.TheVariants.{Commit as Commits}
use Rattle.gl_model.specs.declared.event.Stamp.{Stamp}
use Rattle.gl_model.specs.declared.event.Element.TheVariants.{Thread}
use Rattle.gl_model.specs.declared.tx.Why.TheVariants.{Raised}
use Rattle.gl_model.specs.declared.tx.Number.{Number}
use Rattle.gl_model.specs.Entries.{Entry, Sync, Plain, Commit, Abort}
use Rattle.gl_model.specs.Form.{NumbersName}
use Rattle.gl_model.specs.HappensBefore.{HappensBefore, IsRacy, IsCommit}
use Rattle.gl_model.specs.Locksets.{LocksetAt, AfterAcquiring}
use Rattle.gl_model.specs.Machine.{State, Running, trace_setting, with_at}
use Rattle.gl_model.specs.Next.{HappensBeforeNext}
use Rattle.gl_model.specs.Records.{Lists, Place, EntryAt, IsEventAt, InVariableOrder, NumberOn, variables_of, event_of}
use Rattle.gl_model.specs.Rising.{with_all}
use Rattle.gl_model.specs.Trace.{with_entry, last_place, line_tx, look_count}
use Rattle.gl_laws.specs.Closure.{StandsFor, IsNextPlain, IsNextRefused}
use Rattle.gl_laws.proofs.Bridge.{same_entry}
use Rattle.gl_laws.proofs.ClosureLaws.{commit_law}
use Rattle.gl_laws.proofs.NextLaw.{plain_next, refused_next}
use Rattle.gl_laws.proofs.NextMembership.{membership}
use Rattle.gl_draws.specs.Draws.{Entered, Looked, Draw, draw, access_of, Among, DrawAt}
use Rattle.gl_draws.specs.NextRaces.{IsRacyNext}
use Rattle.gl_lines.specs.Traced.{Traced, block_of, touches, with_attempt, after_plain, after_commit, after_refused}
use Rattle.gl_draws.specs.Verdicts.{IsPlaced}
use Rattle.gl_lines.proofs.Attempts.{IsAttempt, attempt_cases, attempt_kept}
use Rattle.gl_draws.proofs.ClosedRaces.{among_number}
use Rattle.gl_draws.proofs.Closing.{is_list, positions_rise}
use Rattle.gl_draws.proofs.CommitLaw.{taken_map}
use Rattle.gl_draws.proofs.DrawEntries.{own_for}
use Rattle.gl_draws.proofs.DrawPlaces.{draw_below, draw_among}
use Rattle.gl_draws.proofs.EntryKinds.{is_in-contains, contains-is_in}
use Rattle.gl_lines.proofs.LineSets.{its_variables, number_is, number_there, is_in-touches}
use Rattle.gl_draws.proofs.Sets.{contains_map, map_contains}
use Rattle.gl_draws.proofs.Pushes.{at_new}
use Rattle.gl_draws.proofs.RowGrowth.{same_set}
use Rattle.gl_lines.proofs.TraceAttempts.{commit_attempt, refused_attempt, commit_recorded, refused_recorded}
use Rattle.gl_lines.proofs.TraceEvents.{IsRecorded, entry_own}
use Rattle.gl_lines.proofs.TraceMachine.{with_at-here}
use Rattle.gl_lines.proofs.TracePlain.{plain_recorded}
use Rattle.gl_draws.proofs.Added.{access_is}
use Rattle.gl_lines.proofs.TraceRaces.{racy_alike}

-- the last place of a list with one entry more
abbrev pub end_place : Lists → ℕ → Place
end_place R t = record { thread = t; index = length (R t) }

-- the last place of the longer list is its end
pub last_is : (R : Lists) (t : ℕ) (e : Entry) → last_place (with_entry R t e) t ≡ end_place R t
last_is R t e =
    let n : length (with_entry R t e t) ≡ length (R t) + 1 = ap length (entry_own R t e) ∙ length-append (R t) (e ∷ []) in
    let m : length (with_entry R t e t) - 1 ≡ length (R t) = omega arith in
    λ i. record { thread = t; index = m i }

-- there stands the new entry
pub there : (R : Lists) (t : ℕ) (e : Entry) → EntryAt (with_entry R t e) (end_place R t) e
there R t e = subst (λ es. Rattle.std.specs.Prelude.slice_get es (length (R t)) ≡ Some e) (sym (entry_own R t e)) (at_new (R t) e)

-- the list is one longer
ends : (R : Lists) (t : ℕ) (e : Entry) → length (with_entry R t e t) ≡ length (R t) + 1
ends R t e = ap length (entry_own R t e) ∙ length-append (R t) (e ∷ [])

-- an entry that is a commit event on these variables is a commit with a transaction on just these
commit_entry_of : (e : Entry) (ys : List ℕ) → event_of e ≡ Some (Commits ys) → (at : ℕ)
    × ((tx : _) × (e ≡ Commit at tx) × (variables_of tx ≡ ys))
commit_entry_of (Commit at tx) ys e = (
  at,
  (tx, refl, (let s : Commits (variables_of tx) ≡ Commits ys = cc in let v : variables_of tx ≡ ys = cc in v)),
)
commit_entry_of (Sync at act value) ys e = absurd (cc)
commit_entry_of _ ys e = absurd (cc)

-- each variable of a transaction has a number of its own
number_of : (tx : _) → NumbersName tx (variables_of tx) → (x : ℕ) → Contains (variables_of tx) x → (k : ℕ)
    × Contains tx.numbers (record { var = x; nth = k })
number_of tx names x c =
    let m = contains_map (λ (n : Number). n.var) tx.numbers x (subst (λ vs. Contains vs x) (sym names.variables) c) in
    let same : m.0 ≡ record { var = x; nth = m.0.nth } = (λ i. record { var = m.2 i; nth = m.0.nth }) in
    (m.0.nth, subst (Contains tx.numbers) same m.1)

-- a number of its own is on a variable of the transaction
variable_of : (tx : _) → NumbersName tx (variables_of tx) → (x k : ℕ) → Contains tx.numbers (record { var = x; nth = k })
    → Contains (variables_of tx) x
variable_of tx names x k c = subst (λ vs. Contains vs x) names.variables
    (map_contains (λ (n : Number). n.var) tx.numbers (record { var = x; nth = k }) c)

module _ (s : Traced) (now : State) (r : IsRecorded s now) (t : ℕ) (running : now.threads t ≡ Running) where
  -- a plain access
  module _ (x : ℕ) (write raised : Bool) where
    abbrev plain : Entry
    plain = Plain x (s.tracing.numbers x) false write (pos 0) raised

    abbrev P : Lists
    P = with_entry s.tracing.lists t (Plain x (s.tracing.numbers x) false write (pos 0) raised)

    -- behind the plain access the record, the list of events and the draws belong together
    p' : IsRecorded (after_plain t x write raised s) now
    p' = plain_recorded s now r t running x write raised

    -- the access's entry is plain, and the last one of its list
    next_plain : IsNextPlain P (end_place s.tracing.lists t)
    next_plain = record { entry = plain; there = there s.tracing.lists t plain; plain = tt; last = ends s.tracing.lists t plain }

    -- behind the access the draws of x are the access's own and below it those before
    new_list : (k : ℕ) (o : Draw) → DrawAt (with_at s.draws x (draw t (block_of t s) (Entered plain) ∷ s.draws x) x) k o
        → DrawAt (draw t (block_of t s) (Entered plain) ∷ s.draws x) k o
    new_list k o a = subst (λ ds. DrawAt ds k o) (with_at-here s.draws x (draw t (block_of t s) (Entered plain) ∷ s.draws x)) a

    -- behind the access a draw of x that has an entry, and a number below the access's, is one of those before
    old_plain : (k : ℕ) (o : Draw) (g : Entry) → DrawAt (with_at s.draws x (draw t (block_of t s) (Entered plain) ∷ s.draws x) x) k o
        → o.what ≡ Entered g → k < s.tracing.numbers x → Among (s.draws x) o
    old_plain k o g a is lt = elim (new_list k o a) [
      | inl new ↦ absurd (let z = new.0 in let n = r.numbers x in omega arith)
      | inr was ↦ draw_among (s.draws x) k o was
    ]

    -- each draw of x before the access has, behind it, a number below the access's
    fresh_plain : (o : Draw) → Among (s.draws x) o → (k : ℕ) × (k < s.tracing.numbers x)
        × DrawAt (with_at s.draws x (draw t (block_of t s) (Entered plain) ∷ s.draws x) x) k o
    fresh_plain o among =
        let m = among_number (s.draws x) o among in (
          m.0,
          (let l = m.1 in let n = r.numbers x in omega arith),
          subst (λ ds. DrawAt ds m.0 o)
              (sym (with_at-here s.draws x (draw t (block_of t s) (Entered plain) ∷ s.draws x))) (inr m.2),
        )

    -- a plain access is racy on x in the record with it exactly where it is so as the next access before it
    pub racy_plain : IsRacy P (end_place s.tracing.lists t) x ↔ IsRacyNext s.history x (s.draws x) t None plain
    racy_plain = racy_alike s (after_plain t x write raised s) now now r p' plain None (end_place s.tracing.lists t)
        (there s.tracing.lists t plain) x (s.tracing.numbers x) (refl, refl) (λ k n. sym n.1) old_plain fresh_plain
        (λ o c placed stands other. plain_next P s.history (is_list P s.history p'.events) (positions_rise P s.history p'.events) c
        (access_of o) stands (end_place s.tracing.lists t) next_plain other)

    -- it is racy on no other variable
    pub racy_plain_on : (y : ℕ) → IsRacy P (end_place s.tracing.lists t) y → x ≡ y
    racy_plain_on y racy = let same = same_entry P (end_place s.tracing.lists t) racy.before.second plain racy.before.here
        (there s.tracing.lists t plain) in (subst (λ f. NumberOn f y racy.before.later) same racy.before.also_numbered).0

  module _ (reads writes : List ℕ) where
    -- a variable of the commit is touched by it
    is_true : (y : ℕ) → Contains (with_all writes reads) y → touches reads writes y ≡ true
    is_true y c = sym (is_in-touches reads writes y) ∙ contains-is_in y (with_all writes reads) c

    -- what the commit touches is a variable of it
    is_there : (y : ℕ) → touches reads writes y ≡ true → Contains (with_all writes reads) y
    is_there y i = is_in-contains y (with_all writes reads) (is_in-touches reads writes y ∙ i)

    -- a draw that has an entry is no look
    not_look : (o : Draw) (g : Entry) (p : ℕ) → o.what ≡ Entered g → o ≡ draw t p (Looked (pos 0)) → ⊥
    not_look o g p is look = let w : o.what ≡ Looked (pos 0) = ap (λ (z : Draw). z.what) look in cc

    module _ (p : ℕ) (e : Entry) (attempt : IsAttempt s.draws e reads writes) (y : ℕ) where
      old : (k : ℕ) (o : Draw) (g : Entry) → DrawAt (with_attempt t (block_of t s) p e reads writes s.draws y) k o → o.what ≡ Entered g
          → k < s.tracing.numbers y + look_count reads y → Among (s.draws y) o
      old k o g a is lt = elim (attempt_cases s.draws t (block_of t s) p e reads writes attempt y k o a) [
        | inl was ↦ draw_among (s.draws y) k o was
        | inr (inl look) ↦ absurd (not_look o g (block_of t s) is look.2)
        | inr (inr own) ↦ absurd (let z = own.1 in let n = r.numbers y in omega arith)
      ]

      fresh : (o : Draw) → Among (s.draws y) o → (k : ℕ) × (k < s.tracing.numbers y + look_count reads y)
          × DrawAt (with_attempt t (block_of t s) p e reads writes s.draws y) k o
      fresh o among =
          let m = among_number (s.draws y) o among in (
            m.0,
            (let l = m.1 in let n = r.numbers y in omega arith),
            attempt_kept s.draws t (block_of t s) p e reads writes attempt y m.0 o
                m.2,
          )

    -- a performed commit
    abbrev e : Entry
    e = Commit s.tracing.next (line_tx reads writes s.tracing.numbers)

    abbrev R : Lists
    R = with_entry s.tracing.lists t (Commit s.tracing.next (line_tx reads writes s.tracing.numbers))

    abbrev x : Stamp
    x = record { thread = t; event = Commits (with_all writes reads) }

    abbrev log : List Stamp
    log = s.history ++ record { thread = t; event = Commits (with_all writes reads) } ∷ []

    -- behind the commit the record, the list of events and the draws belong together
    r' : IsRecorded (after_commit t reads writes s) now
    r' = commit_recorded s now r t running reads writes

    -- the commit's entry, at the end of its thread's list, is the event that comes next in the history
    here : IsEventAt R (end_place s.tracing.lists t) (length s.history) x
    here = record {
      entry = e;
      there = there s.tracing.lists t e;
      position = ap Some r.next;
      event = ap (λ vs. Some (Commits vs)) (its_variables reads writes s.tracing.numbers);
      own = refl;
    }

    -- an access that was placed before the commit happens before the next commit of t on these variables exactly where its entry happens
    -- before the commit in the record with it
    alike : (o : Draw) (c : Place) → IsPlaced s.history o → StandsFor R c (access_of o)
        → HappensBeforeNext s.history (access_of o) t (Some (with_all writes reads)) ↔ HappensBefore R c (end_place s.tracing.lists t)
    alike o c placed stands = (λ hb. record'.0 (grown (list.1 hb)), λ hb. list.0 (back (record'.1 hb)))
      where
        near : o.block < length s.history
        near = slice_get_within s.history o.block placed.event placed.here

        list : AfterAcquiring (LocksetAt s.history (access_of o) (length s.history)) x (Thread t) ↔ HappensBeforeNext s.history
            (access_of o) t (Some (with_all writes reads))
        list = (membership trace_setting s.history now r.allowed (access_of o) (access_is s.history o placed) t running).1
            (with_all writes reads)

        record' : AfterAcquiring (LocksetAt log (access_of o) (length s.history)) x (Thread t) ↔ HappensBefore R c
            (end_place s.tracing.lists t)
        record' = commit_law trace_setting R log now (is_list R log r'.events) (positions_rise R log r'.events) r'.allowed c (access_of o)
            stands (end_place s.tracing.lists t) (length s.history) x (with_all writes reads) here refl near

        grown : AfterAcquiring (LocksetAt s.history (access_of o) (length s.history)) x (Thread t)
            → AfterAcquiring (LocksetAt log (access_of o) (length s.history)) x (Thread t)
        grown = taken_map (LocksetAt s.history (access_of o) (length s.history)) (LocksetAt log (access_of o) (length s.history)) x
            (λ z k. subst (λ (X : Type 0). X) (sym (same_set trace_setting s.history (x ∷ []) (access_of o) (length s.history) z near
            (omega arith))) k) (Thread t)

        back : AfterAcquiring (LocksetAt log (access_of o) (length s.history)) x (Thread t)
            → AfterAcquiring (LocksetAt s.history (access_of o) (length s.history)) x (Thread t)
        back = taken_map (LocksetAt log (access_of o) (length s.history)) (LocksetAt s.history (access_of o) (length s.history)) x
            (λ z k. subst (λ (X : Type 0). X) (same_set trace_setting s.history (x ∷ []) (access_of o) (length s.history) z near
            (omega arith)) k) (Thread t)

    -- a performed commit is racy in the record with it, on each of its variables, exactly where it is so as the next access before it
    pub racy_commit : (y : ℕ) → touches reads writes y ≡ true
        → IsRacy R (end_place s.tracing.lists t) y ↔ IsRacyNext s.history y (s.draws y) t (Some (with_all writes reads)) e
    racy_commit y i = racy_alike s (after_commit t reads writes s) now now r r' e (Some (with_all writes reads))
        (end_place s.tracing.lists t) (there s.tracing.lists t e) y (s.tracing.numbers y + look_count reads y)
        (number_there reads writes s.tracing.numbers y i) (λ k n. (number_is reads writes s.tracing.numbers y k n).1)
        (old s.tracing.next e (commit_attempt s now r t running reads writes) y)
        (fresh s.tracing.next e (commit_attempt s now r t running reads writes) y) (λ o c placed stands other. alike o c placed stands)

    -- it is racy only on variables that it reads or writes
    pub racy_commit_on : (y : ℕ) → IsRacy R (end_place s.tracing.lists t) y → touches reads writes y ≡ true
    racy_commit_on y racy = let same = same_entry R (end_place s.tracing.lists t) racy.before.second e racy.before.here
        (there s.tracing.lists t e) in (number_is reads writes s.tracing.numbers y racy.before.later
        (subst (λ f. NumberOn f y racy.before.later) same racy.before.also_numbered)).0

    -- a refused commit
    module _ (var : ℕ) where
      abbrev f : Entry
      f = Abort (line_tx reads writes s.tracing.numbers) (Raised var)

      abbrev Q : Lists
      Q = with_entry s.tracing.lists t (Abort (line_tx reads writes s.tracing.numbers) (Raised var))

      q' : IsRecorded (after_refused t reads writes var s) now
      q' = refused_recorded s now r t running reads writes var

      pub racy_refused_on : (y : ℕ) → IsRacy Q (end_place s.tracing.lists t) y → touches reads writes y ≡ true
      racy_refused_on y racy = let same = same_entry Q (end_place s.tracing.lists t) racy.before.second f racy.before.here
          (there s.tracing.lists t f) in (number_is reads writes s.tracing.numbers y racy.before.later
          (subst (λ f. NumberOn f y racy.before.later) same racy.before.also_numbered)).0

      -- a commit's number on y is below the attempt's
      below : (b : Place) (at : ℕ) (tx : _) (y k : ℕ) → EntryAt Q b (Commit at tx) → Contains tx.numbers (record { var = y; nth = k })
          → k < s.tracing.numbers y + look_count reads y
      below b at tx y k there' c =
          let m = (q'.drawn b.thread).made y k b.index (Commit at tx) there' (inr c) in
          let is : m.0.what ≡ Entered (Commit at tx) = own_for m.0.what (Commit at tx) y k c m.4 in
          elim (attempt_cases s.draws t (block_of t s) (block_of t s) f reads writes (refused_attempt s now r t running reads writes var) y
          k m.0 m.1) [
            | inl was ↦ (let l = draw_below (s.draws y) k m.0 was in let n = r.numbers y in omega arith)
            | inr (inl look) ↦ absurd (not_look m.0 (Commit at tx) (block_of t s) is look.2)
            | inr (inr own) ↦ absurd (let w : m.0.what ≡ Entered f = ap (λ (z : Draw). z.what) own.2 in let v : Entered (Commit at tx)
                ≡ Entered f = sym is ∙ w in let u : Commit at tx ≡ f = cc in cc)
          ]

      next_refused : IsNextRefused Q (end_place s.tracing.lists t) (with_all writes reads)
      next_refused = record {
        entry = f;
        there = there s.tracing.lists t f;
        refused = tt;
        last = ends s.tracing.lists t f;
        after = after;
        others = others;
      }
        where
          after : (b : Place) (p y : ℕ) (s' : Stamp) (ys : List ℕ) → IsEventAt Q b p s' → s'.event ≡ Commits ys → Contains ys y
              → Contains (with_all writes reads) y → InVariableOrder Q y b (end_place s.tracing.lists t)
          after b p y s' ys ev is c d =
              let o = commit_entry_of ev.entry ys (ev.event ∙ ap Some is) in
              let at = o.0 in
              let tx = o.1.0 in
              let there' : EntryAt Q b (Commit at tx) = subst (EntryAt Q b) o.1.1 ev.there in
              let k = number_of tx (q'.formed b (Commit at tx) there') y (subst (λ vs. Contains vs y) (sym o.1.2) c) in
              record {
                first = Commit at tx;
                second = f;
                there = there';
                here = there s.tracing.lists t f;
                number = k.0;
                later = s.tracing.numbers y + look_count reads y;
                numbered = k.1;
                also_numbered = number_there reads writes s.tracing.numbers y (is_true y d);
                order = inl (below b at tx y k.0 there' k.1);
              }

          others : (b : Place) (g : Entry) (y : ℕ) → EntryAt Q b g → IsCommit g → InVariableOrder Q y b (end_place s.tracing.lists t) →
              (p : ℕ) × ((s' : Stamp) × ((ys : List ℕ) × IsEventAt Q b p s' × (s'.event ≡ Commits ys) × Contains ys y
              × Contains (with_all writes reads) y))
          others b (Commit at tx) y there' is o =
              let first : o.first ≡ Commit at tx = same_entry Q b o.first (Commit at tx) o.there there' in
              let second : o.second ≡ f = same_entry Q (end_place s.tracing.lists t) o.second f o.here (there s.tracing.lists t f) in
              let n : Contains tx.numbers (record { var = y; nth = o.number }) = subst (λ g. NumberOn g y o.number) first o.numbered in
              let m = number_is reads writes s.tracing.numbers y o.later (subst (λ g. NumberOn g y o.later) second o.also_numbered) in (
                at,
                (
                  record { thread = b.thread; event = Commits (variables_of tx) },
                  (
                    variables_of tx,
                    record { entry = Commit at tx; there = there'; position = refl; event = refl; own = refl },
                    refl,
                    variable_of tx (q'.formed b (Commit at tx) there') y o.number n,
                    is_there y m.0,
                  ),
                ),
              )
          others b _ y there' is o = absurd is

      pub racy_refused : (y : ℕ) → touches reads writes y ≡ true
          → IsRacy Q (end_place s.tracing.lists t) y ↔ IsRacyNext s.history y (s.draws y) t (Some (with_all writes reads)) f
      racy_refused y i = racy_alike s (after_refused t reads writes var s) now now r q' f (Some (with_all writes reads))
          (end_place s.tracing.lists t) (there s.tracing.lists t f) y (s.tracing.numbers y + look_count reads y)
          (number_there reads writes s.tracing.numbers y i) (λ k n. (number_is reads writes s.tracing.numbers y k n).1)
          (old (block_of t s) f (refused_attempt s now r t running reads writes var) y)
          (fresh (block_of t s) f (refused_attempt s now r t running reads writes var) y)
          (λ o c placed stands other. refused_next Q s.history (is_list Q s.history q'.events) (positions_rise Q s.history q'.events) c
          (access_of o) stands (end_place s.tracing.lists t) (with_all writes reads) next_refused other)
