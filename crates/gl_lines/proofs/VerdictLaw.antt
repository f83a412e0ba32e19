-- A line that is judged by rows that stand is judged rightly.
use Rattle.std.proofs.Common.{◌≡◌, ℕ, ◌+◌, ◌<◌, List, [], ◌∷◌, ◌++◌, length, take, refl, ap, subst, sym, ◌∙◌, inl, inr, arith, Some, None, true, false, Bool}
use Rattle.std.specs.Prelude.{◌↔◌, Option, Contains}
use Rattle.std.proofs.lemmas.Bool.{cases_lt}
use Rattle.std.proofs.lemmas.List.{take_all, length-append}
use Rattle.gl_model.specs.declared.row.Item.{Item}
use Rattle.gl_model.specs.declared.row.Item.TheVariants.{Act as Acts, Access, Commit as CommitsOn}
use Rattle.gl_model.specs.declared.row.Judged.{Judged}
use Rattle.gl_model.specs.declared.row.Judged.TheVariants.{NoAccess, Performed, Raised}
use Rattle.gl_model.specs.declared.row.Question.{Question}
use Rattle.gl_model.specs.declared.row.Row.{Row}
use Rattle.gl_model.specs.Entries.{Entry}
use Rattle.gl_model.specs.HappensBefore.{IsRacy}
use Rattle.gl_model.specs.Machine.{State, Running, trace_setting}
use Rattle.gl_model.specs.Records.{Lists, EntryAt, IsPlain, Writes}
use Rattle.gl_model.specs.Rising.{with_all}
use Rattle.gl_model.specs.Trace.{Line, with_entry, last_place, IsJudgedRightly, AreVerdicts}
use Rattle.gl_laws.proofs.Bridge.{same_entry}
use Rattle.gl_draws.specs.NextRaces.{IsRacyNext, IsNextOn}
use Rattle.gl_draws.specs.RowFacts.{RowStands, SomeFails}
use Rattle.gl_lines.specs.TraceLaws.{lists_behind, Accesses, WritesTo, commit_of, LastIsRacy, NextIsAmong, Asks, IsJudgedBy, RacesAreVerdicts, LastIsSettled, VerdictsGrow}
use Rattle.gl_lines.specs.Traced.{Traced, block_of, plain_entry, commit_entry, refused_entry, entered, touches, after_item, after_line, traced, history, draws_of}
use Rattle.gl_lines.specs.TraceStates.{steps_of}
use Rattle.gl_draws.specs.Verdicts.{DrawsHold}
use Rattle.gl_draws.proofs.EntryKinds.{is_in-contains, contains-is_in}
use Rattle.gl_lines.proofs.LineSets.{its_writes, is_in-touches}
use Rattle.gl_draws.proofs.NextTestLaw.{next_fails_racy, next_passes_not_racy}
use Rattle.gl_lines.proofs.TraceEvents.{IsRecorded}
use Rattle.gl_lines.proofs.TraceLawProofs.{lists_are, sound_front, get_last, last_runs, verdicts_push, hold_law}
use Rattle.gl_lines.proofs.TraceMachine.{runs}
use Rattle.gl_lines.proofs.TraceNext.{end_place, last_is, there, racy_plain, racy_plain_on, racy_commit, racy_commit_on, racy_refused, racy_refused_on}
use Rattle.gl_lines.proofs.TracePlain.{block_here}
use Rattle.gl_lines.proofs.TraceVerdicts.{among_next, next_among}
use Rattle.gl_lines.proofs.TraceSound.{traced_push, sound_traced}

-- each variable of a commit is touched by it
touched : (reads writes : List ℕ) (y : ℕ) → Contains (with_all writes reads) y → touches reads writes y ≡ true
touched reads writes y c = sym (is_in-touches reads writes y) ∙ contains-is_in y (with_all writes reads) c

-- what a commit touches is a variable of it
touched_back : (reads writes : List ℕ) (y : ℕ) → touches reads writes y ≡ true → Contains (with_all writes reads) y
touched_back reads writes y i = is_in-contains y (with_all writes reads) (is_in-touches reads writes y ∙ i)

-- a line is judged alike by two facts of its variables, where one follows from the other and is refuted with it
judged_alike : (P Q : ℕ → Type 0) (item : Item) (judged : Judged) → ((y : ℕ) → Accesses item y → P y → Q y)
    → ((y : ℕ) → Accesses item y → (P y → ⊥) → Q y → ⊥) → IsJudgedBy P item judged → IsJudgedBy Q item judged
judged_alike P Q (Acts act) judged holds fails j = j
judged_alike P Q (Access x write) NoAccess holds fails j = j
judged_alike P Q (Access x write) Performed holds fails j = λ y a. fails y a (j y a)
judged_alike P Q (Access x write) (Raised var) holds fails j = (j.0, holds var j.0 j.1, λ y lt a. fails y a (j.2 y lt a))
judged_alike P Q (CommitsOn reads writes) NoAccess holds fails j = j
judged_alike P Q (CommitsOn reads writes) Performed holds fails j = λ y a. fails y a (j y a)
judged_alike P Q (CommitsOn reads writes) (Raised var) holds fails j = (j.0, holds var j.0 j.1, λ y lt a. fails y a (j.2 y lt a))

-- where two facts hold of the same variables of a line, the least of which the one holds is the least of which the other does
one_access : (P Q A : ℕ → Type 0) → ((y : ℕ) → A y → P y → Q y) → ((y : ℕ) → A y → Q y → P y) → (v u : ℕ) → A v → P v
    → ((y : ℕ) → y < v → A y → P y → ⊥) → A u → Q u → ((y : ℕ) → y < u → A y → Q y → ⊥) → v ≡ u
one_access P Q A to back v u a p none b q no_other = elim (cases_lt v u) [
  | inl below ↦ absurd (no_other v below a (to v a p))
  | inr over ↦ elim (cases_lt u v) [ inl above ↦ absurd (none u above b (back u b q)) | inr same ↦ omega arith ]
]

-- where the variables that fail are the same, one thing is said of a line
one_said : (P Q : ℕ → Type 0) (item : Item) (a b : Judged) → ((y : ℕ) → Accesses item y → P y → Q y)
    → ((y : ℕ) → Accesses item y → Q y → P y) → IsJudgedBy P item a → IsJudgedBy Q item b → a ≡ b
one_said P Q (Acts act) a b to back i j = i ∙ sym j
one_said P Q (Access x write) NoAccess b to back i j = absurd i
one_said P Q (Access x write) Performed NoAccess to back i j = absurd j
one_said P Q (Access x write) Performed Performed to back i j = refl
one_said P Q (Access x write) Performed (Raised u) to back i j = absurd (i u j.0 (back u j.0 j.1))
one_said P Q (Access x write) (Raised v) NoAccess to back i j = absurd j
one_said P Q (Access x write) (Raised v) Performed to back i j = absurd (j v i.0 (to v i.0 i.1))
one_said P Q (Access x write) (Raised v) (Raised u) to back i j =
    ap Raised (one_access P Q (Accesses (Access x write)) to back v u i.0 i.1 i.2 j.0 j.1 j.2)
one_said P Q (CommitsOn reads writes) NoAccess b to back i j = absurd i
one_said P Q (CommitsOn reads writes) Performed NoAccess to back i j = absurd j
one_said P Q (CommitsOn reads writes) Performed Performed to back i j = refl
one_said P Q (CommitsOn reads writes) Performed (Raised u) to back i j = absurd (i u j.0 (back u j.0 j.1))
one_said P Q (CommitsOn reads writes) (Raised v) NoAccess to back i j = absurd j
one_said P Q (CommitsOn reads writes) (Raised v) Performed to back i j = absurd (j v i.0 (to v i.0 i.1))
one_said P Q (CommitsOn reads writes) (Raised v) (Raised u) to back i j =
    ap Raised (one_access P Q (Accesses (CommitsOn reads writes)) to back v u i.0 i.1 i.2 j.0 j.1 j.2)

module _ (s : Traced) (now : State) (r : IsRecorded s now) (t : ℕ) (running : now.threads t ≡ Running) where
  -- the lists of the record so far
  L : Lists
  L = s.tracing.lists

  -- at the last place, for whatever entry is there
  carried : (e f : Entry) (v : Option (List ℕ)) (y : ℕ)
      → EntryAt (with_entry s.tracing.lists t e) (last_place (with_entry s.tracing.lists t e) t) f →
      IsRacy (with_entry s.tracing.lists t e) (end_place s.tracing.lists t) y ↔ IsRacyNext s.history y (s.draws y) t v e →
      IsRacy (with_entry s.tracing.lists t e) (last_place (with_entry s.tracing.lists t e) t) y ↔ IsRacyNext s.history y (s.draws y) t v f
  carried e f v y at alike =
      let place = last_is s.tracing.lists t e in
      let same : e ≡ f = same_entry (with_entry s.tracing.lists t e) (end_place s.tracing.lists t) e f (there s.tracing.lists t e)
      (subst (λ c. EntryAt (with_entry s.tracing.lists t e) c f) place at) in
      subst (λ c. IsRacy (with_entry s.tracing.lists t e) c y ↔ IsRacyNext s.history y (s.draws y) t v f) (sym place)
      (subst (λ g. IsRacy (with_entry s.tracing.lists t e) (end_place s.tracing.lists t) y ↔ IsRacyNext s.history y (s.draws y) t v g)
      same alike)

  -- the entry of a plain access is racy on its variable, at its list's last place, exactly where it is so as the next access
  plain_alike : (x y : ℕ) (write raised : Bool) (f : Entry)
      → EntryAt (with_entry s.tracing.lists t (plain_entry x write raised s))
      (last_place (with_entry s.tracing.lists t (plain_entry x write raised s)) t) f → x ≡ y →
      IsRacy (with_entry s.tracing.lists t (plain_entry x write raised s))
      (last_place (with_entry s.tracing.lists t (plain_entry x write raised s)) t) y ↔ IsRacyNext s.history y (s.draws y) t None f
  plain_alike x y write raised f at same = carried (plain_entry x write raised s) f None y at
      (subst (λ z. IsRacy (with_entry s.tracing.lists t (plain_entry x write raised s)) (end_place s.tracing.lists t) z ↔ IsRacyNext
      s.history z (s.draws z) t None (plain_entry x write raised s)) same (racy_plain s now r t running x write raised))

  -- the entry that a line leaves is racy in the record behind it, on each
  -- variable that the line accesses, exactly where it is so as the next access
  pub item_alike : (item : Item) (judged : Judged) (f : Entry)
      → EntryAt (after_item t item judged s).tracing.lists (last_place (after_item t item judged s).tracing.lists t) f → (y : ℕ)
      → Accesses item y →
      IsRacy (after_item t item judged s).tracing.lists (last_place (after_item t item judged s).tracing.lists t) y ↔ IsRacyNext s.history
      y (s.draws y) t (commit_of item) f
  item_alike (Acts act) judged f at y a = absurd a
  item_alike (Access x write) (Raised var) f at y a = plain_alike x y write true f at a
  item_alike (Access x write) NoAccess f at y a = plain_alike x y write false f at a
  item_alike (Access x write) Performed f at y a = plain_alike x y write false f at a
  item_alike (CommitsOn reads writes) (Raised var) f at y a =
      carried (refused_entry reads writes var s) f (Some (with_all writes reads)) y at
      (racy_refused s now r t running reads writes var y (touched reads writes y a))
  item_alike (CommitsOn reads writes) NoAccess f at y a =
      carried (commit_entry reads writes s) f (Some (with_all writes reads)) y at
      (racy_commit s now r t running reads writes y (touched reads writes y a))
  item_alike (CommitsOn reads writes) Performed f at y a =
      carried (commit_entry reads writes s) f (Some (with_all writes reads)) y at
      (racy_commit s now r t running reads writes y (touched reads writes y a))

  -- what is racy at the last place of the list with one more entry is racy at the place where the list before ended
  moved : (e : Entry) (y : ℕ) → IsRacy (with_entry s.tracing.lists t e) (last_place (with_entry s.tracing.lists t e) t) y
      → IsRacy (with_entry s.tracing.lists t e) (end_place s.tracing.lists t) y
  moved e y racy = subst (λ c. IsRacy (with_entry s.tracing.lists t e) c y) (last_is s.tracing.lists t e) racy

  -- the entry of a line that is an access is racy on no other variables than the line's
  item_on : (item : Item) (judged : Judged) (y : ℕ) → ((act : _) → item ≡ Acts act → ⊥)
      → IsRacy (after_item t item judged s).tracing.lists (last_place (after_item t item judged s).tracing.lists t) y → Accesses item y
  item_on (Acts act) judged y access racy = absurd (access act refl)
  item_on (Access x write) (Raised var) y access racy =
      racy_plain_on s now r t running x write true y (moved (plain_entry x write true s) y racy)
  item_on (Access x write) NoAccess y access racy =
      racy_plain_on s now r t running x write false y (moved (plain_entry x write false s) y racy)
  item_on (Access x write) Performed y access racy =
      racy_plain_on s now r t running x write false y (moved (plain_entry x write false s) y racy)
  item_on (CommitsOn reads writes) (Raised var) y access racy =
      touched_back reads writes y (racy_refused_on s now r t running reads writes var y (moved (refused_entry reads writes var s) y racy))
  item_on (CommitsOn reads writes) NoAccess y access racy =
      touched_back reads writes y (racy_commit_on s now r t running reads writes y (moved (commit_entry reads writes s) y racy))
  item_on (CommitsOn reads writes) Performed y access racy =
      touched_back reads writes y (racy_commit_on s now r t running reads writes y (moved (commit_entry reads writes s) y racy))

  -- a new entry stands at the last place of its thread's list
  entry_there : (e : Entry) → EntryAt (with_entry s.tracing.lists t e) (last_place (with_entry s.tracing.lists t e) t) e
  entry_there e = subst (λ c. EntryAt (with_entry s.tracing.lists t e) c e) (sym (last_is s.tracing.lists t e)) (there s.tracing.lists t e)

  -- the entry of a line that is an access stands at the last place of its thread's list
  item_there : (item : Item) (judged : Judged) → ((act : _) → item ≡ Acts act → ⊥)
      → EntryAt (after_item t item judged s).tracing.lists (last_place (after_item t item judged s).tracing.lists t) (entered item judged s)
  item_there (Acts act) judged access = absurd (access act refl)
  item_there (Access x write) (Raised var) access = entry_there (plain_entry x write true s)
  item_there (Access x write) NoAccess access = entry_there (plain_entry x write false s)
  item_there (Access x write) Performed access = entry_there (plain_entry x write false s)
  item_there (CommitsOn reads writes) (Raised var) access = entry_there (refused_entry reads writes var s)
  item_there (CommitsOn reads writes) NoAccess access = entry_there (commit_entry reads writes s)
  item_there (CommitsOn reads writes) Performed access = entry_there (commit_entry reads writes s)

  -- on each of the line's variables its entry is a write exactly where the line is
  pub entry_writes : (item : Item) (judged : Judged) (y : ℕ) → Accesses item y → Writes (entered item judged s) y ↔ WritesTo item y
  entry_writes (Acts act) judged y a = absurd a
  entry_writes (Access x write) (Raised var) y a = (λ w. w.1, λ w. (a, w))
  entry_writes (Access x write) NoAccess y a = (λ w. w.1, λ w. (a, w))
  entry_writes (Access x write) Performed y a = (λ w. w.1, λ w. (a, w))
  entry_writes (CommitsOn reads writes) (Raised var) y a = (
    λ w. subst (λ ws. Contains ws y) (its_writes reads writes s.tracing.numbers) w,
    λ w. subst (λ ws. Contains ws y)
        (sym (its_writes reads writes s.tracing.numbers)) w,
  )
  entry_writes (CommitsOn reads writes) NoAccess y a = (
    λ w. subst (λ ws. Contains ws y) (its_writes reads writes s.tracing.numbers) w,
    λ w. subst (λ ws. Contains ws y)
        (sym (its_writes reads writes s.tracing.numbers)) w,
  )
  entry_writes (CommitsOn reads writes) Performed y a = (
    λ w. subst (λ ws. Contains ws y) (its_writes reads writes s.tracing.numbers) w,
    λ w. subst (λ ws. Contains ws y)
        (sym (its_writes reads writes s.tracing.numbers)) w,
  )

  -- the line's entry is the next access on each of its variables: a plain one, or a commit that has it
  entry_next : (item : Item) (judged : Judged) (y : ℕ) → Accesses item y → IsNextOn y (commit_of item) (entered item judged s)
  entry_next (Acts act) judged y a = absurd a
  entry_next (Access x write) (Raised var) y a = tt
  entry_next (Access x write) NoAccess y a = tt
  entry_next (Access x write) Performed y a = tt
  entry_next (CommitsOn reads writes) judged y a = a

  module _ (all : (y : ℕ) → DrawsHold s.history y (s.draws y)) (item : Item) (judged : Judged) (y : ℕ) (a : Accesses item y) (row : Row)
      (stands : RowStands trace_setting s.history y (s.draws y) row) (question : Question) (asks : Asks t item y question) where
    -- the line's entry is the next access on y that the question speaks of
    next : IsNextOn y question.commit (entered item judged s)
    next = subst (λ v. IsNextOn y v (entered item judged s)) (sym asks.commit) (entry_next item judged y a)

    -- where an Info of the row that conflicts fails its test, the line's entry is racy on y as the next access
    fails_next : SomeFails s.history row question → IsRacyNext s.history y (s.draws y) t (commit_of item) (entered item judged s)
    fails_next fails = subst (λ v. IsRacyNext s.history y (s.draws y) t v (entered item judged s)) asks.commit
        (next_fails_racy trace_setting s.history now r.allowed t running y (s.draws y) (all y) row stands question asks.thread
        (entered item judged s) next (λ w. (entry_writes item judged y a).1 (asks.write.0 w)) fails)

    -- where none fails, it is not racy on y as the next access
    passes_next : (SomeFails s.history row question → ⊥) → IsRacyNext s.history y (s.draws y) t (commit_of item) (entered item judged s) → ⊥
    passes_next none racy = next_passes_not_racy trace_setting s.history now r.allowed t running y (s.draws y) (all y) row stands question
        asks.thread (entered item judged s) next (λ w. asks.write.1 ((entry_writes item judged y a).0 w)) none
        (subst (λ v. IsRacyNext s.history y (s.draws y) t v (entered item judged s)) (sym asks.commit) racy)

  module _ (item : Item) (judged : Judged) (access : (act : _) → item ≡ Acts act → ⊥) where
    -- on each of the line's variables its entry is racy in the record with it exactly where it is so as the next access
    alike : (y : ℕ) → Accesses item y → IsRacy (after_item t item judged s).tracing.lists
        (last_place (after_item t item judged s).tracing.lists t) y ↔ IsRacyNext s.history y (s.draws y) t (commit_of item)
        (entered item judged s)
    alike y a = item_alike item judged (entered item judged s) (item_there item judged access) y a

    -- where the entry is not racy as the next access on y, or the line does not access y, it is not racy on y in the record with it
    not_racy : (y : ℕ) → (Accesses item y → IsRacyNext s.history y (s.draws y) t (commit_of item) (entered item judged s) → ⊥)
        → IsRacy (after_item t item judged s).tracing.lists (last_place (after_item t item judged s).tracing.lists t) y → ⊥
    not_racy y none is = let a = item_on item judged y access is in none a ((alike y a).0 is)

    -- the least of the line's variables on which its entry is racy as the next access is the least of all on which it is racy in the record
    -- with it
    first_racy : (var : ℕ) → Accesses item var → IsRacyNext s.history var (s.draws var) t (commit_of item) (entered item judged s)
        → ((y : ℕ) → y < var → Accesses item y → IsRacyNext s.history y (s.draws y) t (commit_of item) (entered item judged s) → ⊥) →
        IsRacy (after_item t item judged s).tracing.lists (last_place (after_item t item judged s).tracing.lists t) var
        × ((y : ℕ) → y < var → IsRacy (after_item t item judged s).tracing.lists
        (last_place (after_item t item judged s).tracing.lists t) y → ⊥)
    first_racy var a racy none = ((alike var a).1 racy, λ y lt. not_racy y (none y lt))

  -- a line that is judged by the variables on which its entry is racy as the next access is judged rightly in the record behind it
  pub races_judged : (item : Item) (judged : Judged)
      → IsJudgedBy (λ y. IsRacyNext s.history y (s.draws y) t (commit_of item) (entered item judged s)) item judged →
      IsJudgedRightly (after_item t item judged s).tracing.lists (last_place (after_item t item judged s).tracing.lists t) item judged
  races_judged (Acts act) judged j = j
  races_judged (Access x write) NoAccess j = absurd j
  races_judged (Access x write) Performed j = λ y. not_racy (Access x write) Performed (λ act e. cc) y (j y)
  races_judged (Access x write) (Raised var) j = first_racy (Access x write) (Raised var) (λ act e. cc) var j.0 j.1 j.2
  races_judged (CommitsOn reads writes) NoAccess j = absurd j
  races_judged (CommitsOn reads writes) Performed j = λ y. not_racy (CommitsOn reads writes) Performed (λ act e. cc) y (j y)
  races_judged (CommitsOn reads writes) (Raised var) j = first_racy (CommitsOn reads writes) (Raised var) (λ act e. cc) var j.0 j.1 j.2

  -- a line that is judged rightly is judged by the variables on which its entry is racy as the next access
  races_said : (item : Item) (judged : Judged)
      → IsJudgedRightly (after_item t item judged s).tracing.lists (last_place (after_item t item judged s).tracing.lists t) item judged →
      IsJudgedBy (λ y. IsRacyNext s.history y (s.draws y) t (commit_of item) (entered item judged s)) item judged
  races_said (Acts act) judged j = j
  races_said (Access x write) NoAccess j = absurd j
  races_said (Access x write) Performed j = λ y a racy. j y ((alike (Access x write) Performed (λ act e. cc) y a).1 racy)
  races_said (Access x write) (Raised var) j =
      let a = item_on (Access x write) (Raised var) var (λ act e. cc) j.0 in (
        a,
        (alike (Access x write) (Raised var) (λ act e. cc) var a).0 j.0,
        λ y lt b racy. j.1 y lt
            ((alike (Access x write) (Raised var) (λ act e. cc) y b).1 racy),
      )
  races_said (CommitsOn reads writes) NoAccess j = absurd j
  races_said (CommitsOn reads writes) Performed j = λ y a racy. j y ((alike (CommitsOn reads writes) Performed (λ act e. cc) y a).1 racy)
  races_said (CommitsOn reads writes) (Raised var) j =
      let a = item_on (CommitsOn reads writes) (Raised var) var (λ act e. cc) j.0 in (
        a,
        (alike (CommitsOn reads writes) (Raised var) (λ act e. cc) var a).0 j.0,
        λ y lt b racy. j.1 y lt
            ((alike (CommitsOn reads writes) (Raised var) (λ act e. cc) y b).1 racy),
      )

  -- whatever is said of a line, its entry is as plain
  access_plain : (x : ℕ) (write : Bool) (judged : Judged) → IsPlain (entered (Access x write) judged s)
  access_plain x write NoAccess = tt
  access_plain x write Performed = tt
  access_plain x write (Raised var) = tt

  -- whatever is said of a commit line, its entry is not plain
  commit_not_plain : (reads writes : List ℕ) (judged : Judged) → IsPlain (entered (CommitsOn reads writes) judged s) → ⊥
  commit_not_plain reads writes NoAccess w = w
  commit_not_plain reads writes Performed w = w
  commit_not_plain reads writes (Raised var) w = w

  -- where a line's entry is plain, it is so whatever else is said of the line
  as_plain : (item : Item) (a b : Judged) → IsPlain (entered item a s) → IsPlain (entered item b s)
  as_plain (Acts act) a b w = tt
  as_plain (Access x write) a b w = access_plain x write b
  as_plain (CommitsOn reads writes) a b w = absurd (commit_not_plain reads writes a w)

  -- where a line's entry is racy on one of its variables as the next access, it is so whatever else is said of the line
  next_alike : (item : Item) (a b : Judged) (y : ℕ) → Accesses item y
      → IsRacyNext s.history y (s.draws y) t (commit_of item) (entered item a s)
      → IsRacyNext s.history y (s.draws y) t (commit_of item) (entered item b s)
  next_alike item a b y on n = record {
    earlier = n.earlier;
    entry = n.entry;
    among = n.among;
    made = n.made;
    performed = n.performed;
    apart = n.apart;
    conflict = (
      elim n.conflict.0 [ inl w ↦ inl w | inr w ↦ inr ((entry_writes item b y on).1 ((entry_writes item a y on).0 w)) ],
      elim n.conflict.1 [ inl p ↦ inl p | inr p ↦ inr (as_plain item a b p) ],
    );
    unordered = n.unordered;
  }

  -- of a line one thing alone is said rightly
  item_settled : (item : Item) (a b : Judged)
      → IsJudgedRightly (after_item t item a s).tracing.lists (last_place (after_item t item a s).tracing.lists t) item a
      → IsJudgedRightly (after_item t item b s).tracing.lists (last_place (after_item t item b s).tracing.lists t) item b → a ≡ b
  item_settled item a b i j = one_said (λ y. IsRacyNext s.history y (s.draws y) t (commit_of item) (entered item a s))
      (λ y. IsRacyNext s.history y (s.draws y) t (commit_of item) (entered item b s)) item a b (next_alike item a b) (next_alike item b a)
      (races_said item a i) (races_said item b j)

  -- over rows that stand, a line that is judged by the variables on which its questions fail is judged rightly
  pub item_judged : ((y : ℕ) → DrawsHold s.history y (s.draws y))
      → (item : Item) (judged : Judged) (rows : ℕ → Row) (questions : ℕ → Question) →
      ((y : ℕ) → Accesses item y → RowStands trace_setting s.history y (s.draws y) (rows y))
      → ((y : ℕ) → Accesses item y → Asks t item y (questions y)) →
      IsJudgedBy (λ y. SomeFails s.history (rows y) (questions y)) item judged →
      IsJudgedRightly (after_item t item judged s).tracing.lists (last_place (after_item t item judged s).tracing.lists t) item judged
  item_judged all item judged rows questions stand ask j =
      races_judged item judged (judged_alike (λ y. SomeFails s.history (rows y) (questions y))
      (λ y. IsRacyNext s.history y (s.draws y) t (commit_of item) (entered item judged s)) item judged
      (λ y a. fails_next all item judged y a (rows y) (stand y a) (questions y) (ask y a))
      (λ y a. passes_next all item judged y a (rows y) (stand y a) (questions y) (ask y a)) j)

-- the lists after a line more are those that the line leaves
behind : (lines : List Line) (l : Line) → lists_behind (lines ++ l ∷ []) ≡ (after_line l (traced lines)).tracing.lists
behind lines l = sym (lists_are (lines ++ l ∷ [])) ∙ ap (λ (z : Traced). z.tracing.lists) (traced_push lines l)

-- the last line's entry is racy exactly where it is so as the next access before it
pub racy_law : LastIsRacy
racy_law lines l sound f at y a =
    let k = sound_traced lines (sound_front lines l sound) in
    let running = runs (steps_of lines) k.0 k.1.state l.thread (last_runs lines l sound) in
    let is = behind lines l in
    let at' : EntryAt (after_line l (traced lines)).tracing.lists (last_place (after_line l (traced lines)).tracing.lists l.thread) f =
    subst (λ (R : Lists). EntryAt R (last_place R l.thread) f) is at in
    subst (λ (R : Lists). IsRacy R (last_place R l.thread) y ↔ IsRacyNext (history lines) y (draws_of lines y) l.thread (commit_of l.item)
    f) (sym is) (item_alike (traced lines) k.0 k.1.recorded l.thread running l.item l.judged f at' y a)

-- a line that is judged by the variables on which it is racy is judged rightly
pub races_law : RacesAreVerdicts
races_law lines l sound right judged =
    let k = sound_traced lines (sound_front lines l sound) in
    let running = runs (steps_of lines) k.0 k.1.state l.thread (last_runs lines l sound) in
    let j = races_judged (traced lines) k.0 k.1.recorded l.thread running l.item l.judged judged in
    verdicts_push lines l right (subst (λ (R : Lists). IsJudgedRightly R (last_place R l.thread) l.item l.judged) (sym (behind lines l)) j)

-- of verdicts the last is right in its record
last_right : (lines : List Line) (l : Line) → AreVerdicts (lines ++ l ∷ [])
    → IsJudgedRightly (after_line l (traced lines)).tracing.lists (last_place (after_line l (traced lines)).tracing.lists l.thread) l.item
    l.judged
last_right lines l right =
    let whole : take (length lines + 1) (lines ++ l ∷ []) ≡ lines ++ l
    ∷ [] = take_all (length lines + 1) (lines ++ l ∷ []) (omega (arith, length-append lines (l ∷ []))) in
    subst (λ (R : Lists). IsJudgedRightly R (last_place R l.thread) l.item l.judged) (ap lists_behind whole ∙ behind lines l)
    (right (length lines) l (get_last lines l))

-- what is rightly said of a line is settled by what was before
pub settled_law : LastIsSettled
settled_law lines t item a b sound one other =
    let l : Line = record { thread = t; item = item; judged = a } in
    let m : Line = record { thread = t; item = item; judged = b } in
    let k = sound_traced lines (sound_front lines l sound) in
    let running = runs (steps_of lines) k.0 k.1.state t (last_runs lines l sound) in
    item_settled (traced lines) k.0 k.1.recorded t running item a b (last_right lines l one) (last_right lines m other)

-- a line that is judged by rows that stand is judged rightly
pub grow_law : VerdictsGrow
grow_law lines l sound right rows questions stand ask judged =
    let front = sound_front lines l sound in
    let k = sound_traced lines front in
    let running = runs (steps_of lines) k.0 k.1.state l.thread (last_runs lines l sound) in
    let j = item_judged (traced lines) k.0 k.1.recorded l.thread running (hold_law lines front right) l.item l.judged rows questions stand
    ask judged in
    verdicts_push lines l right (subst (λ (R : Lists). IsJudgedRightly R (last_place R l.thread) l.item l.judged) (sym (behind lines l)) j)

-- a next plain access is racy exactly where it is so among the draws, in its thread's block
pub among_law : NextIsAmong
among_law lines l sound f y =
    let k = sound_traced lines (sound_front lines l sound) in
    let running = runs (steps_of lines) k.0 k.1.state l.thread (last_runs lines l sound) in (
      next_among (history lines) y (draws_of lines y) l.thread (block_of l.thread (traced lines)) f,
      λ r. among_next (history lines) y
          (draws_of lines y) l.thread (block_of l.thread (traced lines)) f r
          (block_here (traced lines) k.0 k.1.recorded l.thread running).upto,
    )
