-- A row whose Infos were moved up to a position, over each list that a pass cannot tell from the table's.
use Rattle.std.proofs.Common.{◌≡◌, ℕ, ◌+◌, ◌-◌, ◌<◌, ◌≤◌, List, length, take, drop, refl, sym, ap, subst, ◌∙◌, inl, inr, arith, Some, None}
use Rattle.std.specs.Prelude.{◌↔◌, Option, Contains, slice_get}
use Rattle.std.proofs.lemmas.List.{drop-drop, drop-take, take-append-drop, length-take-le}
use Rattle.std.proofs.lemmas.List.Elements.{All-contains}
use Rattle.std.proofs.lemmas.Option.{slice_get_within}
use Rattle.gl_model.specs.declared.event.Stamp.{Stamp}
use Rattle.gl_model.specs.declared.row.Info.{Info}
use Rattle.gl_model.specs.declared.row.Row.{Row}
use Rattle.gl_model.specs.Lockset.{Has}
use Rattle.gl_model.specs.Locksets.{AfterAll}
use Rattle.gl_model.specs.Machine.{Setting}
use Rattle.gl_draws.specs.Moved.{IsMoved, AreMoved, IsRowMoved}
use Rattle.gl_draws.specs.RowFacts.{read_of, IsWithin}
use Rattle.gl_draws.proofs.MovedInfos.{unmoved}
use Rattle.gl_draws.proofs.Reaching.{get_front}
use Rattle.gl_draws.proofs.Windows.{window_is}
use Rattle.gl_rule.specs.Fitting.{IsFitting}
use Rattle.gl_rule.specs.Values.{InRow}
use Rattle.gl_rule.specs.View.{Shelf}
use Rattle.gl_table.specs.PassView.{PassView, shelf_of}
use Rattle.gl_rows.specs.Moving.{IsMovedTo, AreMovedTo, IsRowMovedTo}
use Rattle.gl_rows.specs.Walks.{KnowsFrom}
use Rattle.gl_rows.proofs.Windows.{known_from}

-- the events that were loaded are those of each such list, up to where they end
pub window_agrees : (setting : Setting) (s : Shelf) (seen : ℕ) (known : List (ℕ × Stamp)) (from to : ℕ) (window l : List Stamp)
    → from + length window ≡ to → to ≤ seen
    → ((k : ℕ) (x : Stamp) → slice_get window k ≡ Some x → Contains known (from + k, x)) → IsFitting setting s seen known l
    → drop from (take to l) ≡ window
window_agrees setting s seen known from to window l ends near is f =
    let long : length l ≡ seen = f.long in
    let front : length (take to l) ≡ to = length-take-le to l (omega arith) in
    window_is from (take to l) window (front ∙ sym ends) (λ k x at.
    let in_window = slice_get_within window k x at in
    let within : from + k < length (take to l) = omega arith in
    let there = All-contains (λ (e : ℕ × Stamp). e.0 < length l → slice_get l e.0 ≡ Some e.1) known (from + k, x) f.knows (is k x at)
    (omega arith) in
    sym (get_front (take to l) (drop to l) (from + k) within)
    ∙ subst (λ (z : List Stamp). slice_get z (from + k) ≡ Some x) (sym (take-append-drop to l)) there)

module _ (l : List Stamp) (from to : ℕ) (window : List Stamp) (is : drop from (take to l) ≡ window) (near : to ≤ length l) where
  -- an Info that stands from the window's start on, and was moved up by the window's events, was walked on over the list
  pub info_moved_to : (old new : Info) → from ≤ old.pos → old.pos ≤ length l → IsMovedTo from to window old new → IsMoved l old new
  info_moved_to old new behind within (inl s) = subst (IsMoved l old) (sym s.1) (unmoved l old within)
  info_moved_to old new behind within (inr (lt, w)) =
      let at = w.pos in
      let sum : old.pos + (to - old.pos) ≡ to = omega arith in
      let first : from + (old.pos - from) ≡ old.pos = omega arith in
      let same : drop (old.pos - from) window ≡ take (new.pos - old.pos) (drop old.pos l) =
      ap (drop (old.pos - from)) (sym is) ∙ drop-drop (old.pos - from) from (take to l) ∙ ap (λ n. drop n (take to l)) first
      ∙ ap (λ n. drop old.pos (take n l)) (sym sum) ∙ drop-take old.pos (to - old.pos) l
      ∙ ap (λ n. take (n - old.pos) (drop old.pos l)) (sym at) in
      record {
        thread = w.thread;
        write = w.write;
        commit = w.commit;
        held = w.held;
        forward = omega arith;
        within = omega arith;
        set = λ y. subst (λ (xs : List Stamp). Has new.set y ↔ AfterAll (Has old.set) xs y) same (w.set y);
      }

  -- an Info that may be there, moved over the window, is moved over the events of the list
  kept_moved_to : (o n : Option Info) → ((i : Info) → o ≡ Some i → (from ≤ i.pos) × (i.pos ≤ length l)) → AreMovedTo from to window o n
      → AreMoved l o n
  kept_moved_to None None at m = tt
  kept_moved_to None (Some n) at m = absurd m
  kept_moved_to (Some o) None at m = absurd m
  kept_moved_to (Some o) (Some n) at m = info_moved_to o n (at o refl).0 (at o refl).1 m

  -- a row whose Infos stand there, and were moved up so, was walked on over the list
  pub row_moved_to : (old new : Row) → ((i : Info) → InRow old i → from ≤ i.pos) → IsWithin old (length l)
      → IsRowMovedTo from to window old new → IsRowMoved l old new
  row_moved_to old new behind within m = record {
    value = m.value;
    last_write = kept_moved_to old.last_write new.last_write (λ i e. (behind i (inl e), within.last_write i e)) m.last_write;
    threads = m.threads;
    reads = λ t. kept_moved_to (read_of old.reads t) (read_of new.reads t) (λ i e. (behind i (inr (t, e)), within.reads t i e)) (m.reads t);
  }

-- none of them stands before the position then
module _ (from to : ℕ) (window : List Stamp) where
  -- an Info that was moved up to a position stands at it or behind it
  info_above : (old new : Info) → IsMovedTo from to window old new → to ≤ new.pos
  info_above old new (inl s) = let le = s.0 in let same = ap (λ (i : Info). i.pos) s.1 in omega arith
  info_above old new (inr (lt, w)) = let at = w.pos in omega arith

  -- an Info that may be there, moved up to a position, stands at it or behind it
  kept_above : (o n : Option Info) → AreMovedTo from to window o n → (i : Info) → n ≡ Some i → to ≤ i.pos
  kept_above None None m i e = absurd (cc)
  kept_above None (Some n) m i e = absurd m
  kept_above (Some o) None m i e = absurd m
  kept_above (Some o) (Some n) m i e = let same : n ≡ i = cc in subst (λ (k : Info). to ≤ k.pos) same (info_above o n m)

  -- no Info of the row as it was moved stands before the position
  pub row_above : (old new : Row) → IsRowMovedTo from to window old new → (i : Info) → InRow new i → to ≤ i.pos
  row_above old new m i (inl e) = kept_above old.last_write new.last_write m.last_write i e
  row_above old new m i (inr (t, e)) = kept_above (read_of old.reads t) (read_of new.reads t) (m.reads t) i e

-- a row whose Infos were moved up by the events that the pass loaded was walked on, over each list that fits the pass
pub row_lifted : (setting : Setting) (p q : PassView) (from to : ℕ) (window : List Stamp) (old new : Row) → KnowsFrom from window p q
    → from + length window ≡ to → to ≤ p.seen → ((i : Info) → InRow old i → from ≤ i.pos) → IsWithin old p.seen
    → IsRowMovedTo from to window old new
    → (l : List Stamp) → IsFitting setting (shelf_of q) q.seen q.known l → IsRowMoved l old new
row_lifted setting p q from to window old new knows ends near behind within m l f =
    let seen : q.seen ≡ p.seen = ap (λ (z : PassView). z.seen) knows in
    let long : length l ≡ q.seen = f.long in
    let same = window_agrees setting (shelf_of q) q.seen q.known from to window l ends (omega arith) (known_from from window p q knows) f in
    row_moved_to l from to window same (omega arith) old new behind (subst (IsWithin old) (sym (long ∙ seen)) within) m
