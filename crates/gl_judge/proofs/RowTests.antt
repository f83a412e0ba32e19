-- What the Infos of a row that stands say of a next access is what the law of races says of it.
use Rattle.std.proofs.Common.{◌≡◌, ℕ, List, refl, ap, ◌∙◌, sym, subst, inl, inr, Some, None, true, false, Bool}
use Rattle.std.specs.Prelude.{◌↔◌, ◌⊎◌, Option, IsSome}
use Rattle.gl_model.specs.declared.event.Stamp.{Stamp}
use Rattle.gl_model.specs.declared.row.Row.{Row}
use Rattle.gl_model.specs.declared.row.Question.{Question}
use Rattle.gl_model.specs.Entries.{Entry}
use Rattle.gl_model.specs.HappensBefore.{IsRacy}
use Rattle.gl_model.specs.Machine.{Setting}
use Rattle.gl_model.specs.Records.{Lists, Place}
use Rattle.gl_draws.specs.Added.{IsAdded, IsAddedAs}
use Rattle.gl_draws.proofs.Added.{added_law}
use Rattle.gl_draws.specs.Draws.{Draw, access_of, last_write, last_read}
use Rattle.gl_draws.specs.NextRaces.{IsRacyNext}
use Rattle.gl_draws.specs.RowFacts.{read_of, RowStands, Fails, SomeFails}
use Rattle.gl_draws.proofs.NextTestLaw.{next_fails_racy, next_passes_not_racy}
use Rattle.gl_draws.proofs.TestLaw.{of_write}
use Rattle.gl_model.specs.declared.row.Info.{Info}
use Rattle.gl_model.specs.Infos.{InfoFor}
use Rattle.gl_model.specs.Locksets.{Access}
use Rattle.gl_shortcut.specs.Ordering.{Orders, IsOfNext}
use Rattle.gl_shortcut.proofs.Order.{ordered_passes}
use Rattle.gl_judge.specs.Conflicting.{Keeps, Conflicts}
use Rattle.gl_judge.specs.Standing.{InfosStand, StandsFor, AsksFor}

module _ (setting : Setting) (h : List Stamp) (x : ℕ) (ds : List Draw) (row : Row) (question : Question)
    (s : StandsFor setting h x ds row question.thread) (f : Entry) (asks : AsksFor question f x) where
  -- if an Info of the row fails, the access is racy
  racy : SomeFails h row question → IsRacyNext h x ds question.thread question.commit f
  racy = next_fails_racy setting h s.now s.allowed question.thread s.running x ds s.holds row s.stands question refl f asks.kind
      asks.writes.0

  -- where no Info of the row fails, the access is not racy
  pub not_racy : (SomeFails h row question → ⊥) → IsRacyNext h x ds question.thread question.commit f → ⊥
  not_racy = next_passes_not_racy setting h s.now s.allowed question.thread s.running x ds s.holds row s.stands question refl f asks.kind
      asks.writes.1

  -- what tells whether some Info of the row fails tells whether the access is racy
  pub judged : (b : Bool) → (b ≡ true) ↔ SomeFails h row question → (b ≡ true) ↔ IsRacyNext h x ds question.thread question.commit f
  judged true j = (λ e. racy (j.0 e), λ r. refl)
  judged false j = (λ e. racy (j.0 e), λ r. absurd (not_racy (λ fails. let e = j.1 fails in cc) r))

-- and in any record to which the access's entry is added
pub judged_added : (setting : Setting) (h later : List Stamp) (x m : ℕ) (before after : ℕ → List Draw) (R : Lists) (d : Place) (row : Row)
    (question : Question) (f : Entry) → StandsFor setting h x (before x) row question.thread → AsksFor question f x → d.thread
    ≡ question.thread
    → IsAdded h later R before after d f x m → IsAddedAs setting h later R d question.commit → (b : Bool)
    → (b ≡ true) ↔ SomeFails h row question → (b ≡ true) ↔ IsRacy R d x
judged_added setting h later x m before after R d row question f s asks own added kind b j =
    let k = judged setting h x (before x) row question s f asks b j in
    let law = added_law setting h later s.now s.allowed R before after d (ap s.now.threads own ∙ s.running) f question.commit x m added
    kind in
    let here : IsRacy R d x ↔ IsRacyNext h x (before x) question.thread question.commit f =
    subst (λ t. IsRacy R d x ↔ IsRacyNext h x (before x) t question.commit f) own law in
    (λ e. here.1 (k.0 e), λ r. k.1 (here.0 r))

-- the Infos of a row that stands for draws stand for accesses
pub rows_stand : (setting : Setting) (h : List Stamp) (x : ℕ) (ds : List Draw) (row : Row) → RowStands setting h x ds row
    → InfosStand setting h row
rows_stand setting h x ds row s = record {
  last_write = λ i e. let d = of_write setting h true row.last_write (last_write x ds) i s.last_write e in (access_of d.0, d.2);
  reads = λ t i e. let d = of_write setting h false (read_of row.reads t) (last_read x t ds) i (s.reads t) e in (access_of d.0, d.2);
}

-- two commits pass each other's test
one_passes : (setting : Setting) (h : List Stamp) (i : Info) (a : Access) (write : Bool) → InfoFor setting h i a write → (q : Question)
    → IsOfNext setting h q → ((i.commit ≡ false) ⊎ (q.commit ≡ None) → Orders i q) → Fails h i q.thread q.commit → ⊥
one_passes setting h i a write stands q next clear fails = by_marks i.commit q.commit refl refl
  where
    order : (i.commit ≡ false) ⊎ (q.commit ≡ None) → ⊥
    order n = ordered_passes setting h i a write stands q next (clear n setting h a write stands next) fails

    by_marks : (b : Bool) (v : Option (List ℕ)) → i.commit ≡ b → q.commit ≡ v → ⊥
    by_marks false v e w = order (inl e)
    by_marks true None e w = order (inr w)
    by_marks true (Some xs) e w = ordered_passes setting h i a write stands q next ∣ inr
        (stands.commit_mark.0 e, subst IsSome (sym w) refl) ∣₁ fails

-- a row whose conflicting Infos are ordered before the question fails no test
pub clear_passes : (setting : Setting) (h : List Stamp) (row : Row) (q : Question) → IsOfNext setting h q → InfosStand setting h row
    → ((i : Info) → Keeps row i → Conflicts i q → Orders i q) → SomeFails h row q → ⊥
clear_passes setting h row q next stand clear (inl f) = let s = stand.last_write f.0 f.1
    in one_passes setting h f.0 s.0 true s.1 q next (λ n. clear f.0 (inl f.1) (inl (s.1.write_mark), n)) f.2
clear_passes setting h row q next stand clear (inr f) = let s = stand.reads f.1.0 f.1.1 f.1.2
    in one_passes setting h f.1.1 s.0 false s.1 q next (λ n. clear f.1.1 (inr (f.1.0, f.1.2)) (inr f.0, n)) f.1.3
