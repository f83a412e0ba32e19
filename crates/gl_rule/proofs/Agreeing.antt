-- What all lists that fit a pass agree on.
use Rattle.std.proofs.Common.{◌≡◌, ℕ, ◌+◌, ◌-◌, ◌<◌, ◌≤◌, List, [], ◌∷◌, length, take, drop, sym, refl, ap, subst, arith, ◌∙◌, Some, None, Bool, inl, inr}
use Rattle.std.specs.Prelude.{slice_get, Option, ◌↔◌}
use Rattle.std.proofs.lemmas.List.{drop-drop, take-append-drop}
use Rattle.std.proofs.lemmas.List.Elements.{All-contains}
use Rattle.std.proofs.lemmas.Option.{slice_get_within}
use Rattle.gl_model.specs.declared.event.Event.TheVariants.{Commit as Commits}
use Rattle.gl_model.specs.declared.event.Stamp.{Stamp}
use Rattle.gl_model.specs.declared.event.Element.{Element}
use Rattle.gl_model.specs.declared.row.Info.{Info}
use Rattle.gl_model.specs.declared.row.Question.{Question}
use Rattle.gl_model.specs.declared.row.Row.{Row}
use Rattle.gl_model.specs.declared.tx.Tx.{Tx}
use Rattle.gl_model.specs.Edges.{EventAt}
use Rattle.gl_model.specs.Infos.{InfoFor}
use Rattle.gl_model.specs.Lockset.{Has}
use Rattle.gl_model.specs.Locksets.{Access, InitialLockset, LocksetAt, AfterAll}
use Rattle.gl_model.specs.Machine.{Setting, start}
use Rattle.gl_model.specs.Records.{variables_of}
use Rattle.gl_draws.specs.RowFacts.{SomeFails, Fails, set_after}
use Rattle.gl_draws.proofs.EventTies.{last_own}
use Rattle.gl_draws.proofs.OwnInfo.{own_info}
use Rattle.gl_draws.proofs.Running.{end_entry}
use Rattle.gl_draws.proofs.Windows.{window_is}
use Rattle.gl_rule.specs.Agreeing.{IsWindow, IsOwnPlain, IsOwnCommit}
use Rattle.gl_rule.specs.Fitting.{IsFitting}
use Rattle.gl_rule.specs.Values.{InRow}
use Rattle.gl_rule.specs.View.{Shelf}
use Rattle.gl_rule.proofs.FittingLaws.{run_front}

module _ (setting : Setting) (s : Shelf) (seen : ℕ) (known : List (ℕ × Stamp)) where
  -- the known events stand in their places
  pub events_agree : (from : ℕ) (window : List Stamp) → IsWindow seen known from window → (l : List Stamp)
      → IsFitting setting s seen known l → drop from l ≡ window
  events_agree from window w l f = window_is from l window (f.long ∙ sym w.ends) (λ k x at.
      let near = slice_get_within window k x at in
      let ends : from + length window ≡ seen = w.ends in
      let long : length l ≡ seen = f.long in
      All-contains (λ (e : ℕ × Stamp). e.0 < length l → slice_get l e.0 ≡ Some e.1) known (from + k, x) f.knows (w.is_known k x at)
      (omega arith))

  -- the set of an Info from there on is that over the known events
  sets_agree : (from : ℕ) (window : List Stamp) → IsWindow seen known from window → (l : List Stamp) → IsFitting setting s seen known l
      → (i : Info) → from ≤ i.pos → set_after l i ≡ AfterAll (Has i.set) (drop (i.pos - from) window)
  sets_agree from window w l f i le =
      let sum : from + (i.pos - from) ≡ i.pos = omega arith in
      let rest : drop i.pos l ≡ drop (i.pos - from) window = ap (λ n. drop n l) (sym sum) ∙ sym (drop-drop (i.pos - from) from l)
      ∙ ap (drop (i.pos - from)) (events_agree from window w l f) in
      ap (AfterAll (Has i.set)) rest

  -- so an element is in the set of such an Info over a fitting list just where it is in that over the known events
  pub members_agree : (from : ℕ) (window : List Stamp) → IsWindow seen known from window → (l : List Stamp)
      → IsFitting setting s seen known l → (i : Info) → from ≤ i.pos → (y : Element)
      → set_after l i y ↔ AfterAll (Has i.set) (drop (i.pos - from) window) y
  members_agree from window w l f i le y = subst (λ set. set_after l i y ↔ set y) (sets_agree from window w l f i le) (λ z. z, λ z. z)

  -- an Info from there on fails over one list where it does over another
  fails_as : (from : ℕ) (window : List Stamp) → IsWindow seen known from window → (l m : List Stamp) → IsFitting setting s seen known l
      → IsFitting setting s seen known m → (i : Info) → from ≤ i.pos → (u : ℕ) (vs : Option (List ℕ)) → Fails l i u vs → Fails m i u vs
  fails_as from window w l m f g i le u vs fails =
      let same : set_after l i ≡ set_after m i = sets_agree from window w l f i le ∙ sym (sets_agree from window w m g i le) in
      subst (λ set. Rattle.gl_model.specs.Locksets.IsOrderedOrExcepted set u vs → ⊥) same fails

  -- where all Infos of a row stand there, a question that fails on the row over one fitting list fails on it over each other
  some_as : (from : ℕ) (window : List Stamp) → IsWindow seen known from window → (row : Row) → ((i : Info) → InRow row i → from ≤ i.pos)
      → (l m : List Stamp) → IsFitting setting s seen known l → IsFitting setting s seen known m → (q : Question) → SomeFails l row q
      → SomeFails m row q
  some_as from window w row behind l m f g q (inl a) =
      inl (a.0, a.1, fails_as from window w l m f g a.0 (behind a.0 (inl a.1)) q.thread q.commit a.2)
  some_as from window w row behind l m f g q (inr a) = let b = a.1
      in inr (a.0, (b.0, b.1, b.2, fails_as from window w l m f g b.1 (behind b.1 (inr (b.0, b.2))) q.thread q.commit b.3))

  -- so a question fails on a row over one list where it does over another
  pub tests_agree : (from : ℕ) (window : List Stamp) → IsWindow seen known from window → (row : Row)
      → ((i : Info) → InRow row i → from ≤ i.pos) → (l m : List Stamp) → IsFitting setting s seen known l → IsFitting setting s seen known m
      → (q : Question) → SomeFails l row q ↔ SomeFails m row q
  tests_agree from window w row behind l m f g q = (some_as from window w row behind l m f g q, some_as from window w row behind m l g f q)

  -- an Info of an own plain access stands for it
  pub plain_stands : (p : ℕ) (write : Bool) (i : Info) → IsOwnPlain setting s seen known p write i → (l : List Stamp)
      → IsFitting setting s seen known l → InfoFor setting l i (record { thread = s.thread; block = p; variables = None }) write
  plain_stands p write i o l f =
      let k = last_own l s.thread s.marked f.own p o.block in
      let long : length l ≡ seen = f.long in
      let near : i.pos ≤ length l = (let a = o.within in omega arith) in
      let r = run_front setting (start setting) f.now (take (p + 1) l) (drop (p + 1) l)
      (subst (λ z. Rattle.gl_model.specs.Machine.Allows setting z f.now) (sym (take-append-drop (p + 1) l)) f.allowed) in
      own_info setting l f.now f.allowed (record { thread = s.thread; block = p; variables = None })
      (record {
        event = k.event;
        here = k.here;
        own = k.own;
        goes_on = λ over. o.goes_on k.index k.entry k.there (end_entry k.entry (k.is ∙ ap Some over));
      })
      refl k.upto i write o.thread o.writes o.no_commit r.0 r.1 (o.held l r.0 f r.1) o.behind near o.starts

  -- an Info of an own commit stands for it
  pub commit_stands : (p : ℕ) (tx : Tx) (write : Bool) (i : Info) → IsOwnCommit setting s seen known p tx write i → (l : List Stamp)
      → IsFitting setting s seen known l → InfoFor setting l i (record { thread = s.thread; block = p; variables = Some (variables_of tx) })
      write
  commit_stands p tx write i o l f =
      let here : EventAt l p (record { thread = s.thread; event = Commits (variables_of tx) }) =
      f.own.listed o.index p (Rattle.gl_model.specs.Entries.Commit p tx) (Commits (variables_of tx)) o.there refl refl in
      let near : p < length l = slice_get_within l p (record { thread = s.thread; event = Commits (variables_of tx) }) here in
      let at : i.pos ≡ p + 1 = o.at in
      let r = run_front setting (start setting) f.now (take (p + 1) l) (drop (p + 1) l)
      (subst (λ z. Rattle.gl_model.specs.Machine.Allows setting z f.now) (sym (take-append-drop (p + 1) l)) f.allowed) in
      let none : i.pos - (p + 1) ≡ 0 = omega arith in
      let a : Access = record { thread = s.thread; block = p; variables = Some (variables_of tx) } in
      let set_is : LocksetAt l a i.pos ≡ InitialLockset s.thread (Some (variables_of tx)) =
      ap (λ n. AfterAll (InitialLockset s.thread (Some (variables_of tx))) (take n (drop (p + 1) l))) none
      ∙ ap (AfterAll (InitialLockset s.thread (Some (variables_of tx)))) (take_none (drop (p + 1) l)) in
      record {
        access = record {
          event = record { thread = s.thread; event = Commits (variables_of tx) };
          there = here;
          own = refl;
          goes_on = λ z. absurd (cc);
          commit = λ xs same. ap Commits (some_is (variables_of tx) xs same);
        };
        thread = o.thread;
        write_mark = o.writes;
        commit_mark = (λ t. refl, λ z. o.commit);
        owner = r.0;
        before = r.1;
        held = o.held l r.0 f r.1;
        behind = omega arith;
        within = omega arith;
        set = λ y. subst (λ set. Has i.set y ↔ set y) (sym set_is) (o.starts y);
      }
    where
      take_none : (xs : List Stamp) → take 0 xs ≡ []
      take_none [] = refl
      take_none (x ∷ xs) = refl

      some_is : (xs ys : List ℕ) → Some xs ≡ Some ys → xs ≡ ys
      some_is xs ys e = cc
