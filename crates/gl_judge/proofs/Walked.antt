-- The test of an access over a window of the list.
use Rattle.std.proofs.Common.{◌≡◌, ℕ, ◌+◌, ◌-◌, ◌<◌, ◌≤◌, List, length, take, drop, refl, sym, ◌∙◌, ap, subst, inl, inr, arith, Some, None, true, false, Bool, get_or}
use Rattle.std.specs.Prelude.{Option, ◌↔◌, IsTrue, not}
use Rattle.std.proofs.lemmas.Bool.{cases_lt}
use Rattle.std.proofs.lemmas.List.{take_all, length-drop, drop-drop, get_or_default, get_or_past}
use Rattle.gl_model.specs.declared.event.Stamp.{Stamp}
use Rattle.gl_model.specs.declared.event.Element.{Element}
use Rattle.gl_model.specs.declared.row.Info.{Info}
use Rattle.gl_model.specs.Lockset.{Has}
use Rattle.gl_model.specs.Locksets.{Access, Elements, AfterAll, IsOrderedOrExcepted}
use Rattle.gl_draws.specs.RowFacts.{read_of, set_after, Fails}
use Rattle.gl_model.specs.declared.row.Question.{Question}
use Rattle.gl_model.specs.Infos.{InfoFor}
use Rattle.gl_model.specs.Machine.{Setting}
use Rattle.gl_shortcut.specs.Ordering.{IsOfNext, IsOrderedBefore}
use Rattle.gl_shortcut.proofs.Order.{ordered_passes}
use Rattle.gl_draws.proofs.MovedInfos.{AfterAll-has, passes_greater}

-- the events from a position on, in a window that begins before it
pub drop_window : (h w : List Stamp) (from p : ℕ) → from ≤ p → drop from h ≡ w → drop (p - from) w ≡ drop p h
drop_window h w from p le e = let back : from + (p - from) ≡ p = omega arith in ap (drop (p - from)) (sym e) ∙ drop-drop (p - from) from h
    ∙ ap (λ k. drop k h) back

-- as many events as are left after the first a, taken from after them, are all of those
pub take_rest : (w : List Stamp) (a : ℕ) → take (length w - a) (drop a w) ≡ drop a w
take_rest w a = take_all (length w - a) (drop a w) (omega (arith, length-drop a w))

-- an Info that passes before a walk passes after it
pub passes_before : (h : List Stamp) (info : Info) (u : ℕ) (variables : Option (List ℕ)) (b : Bool)
    → IsTrue b ↔ IsOrderedOrExcepted (Has info.set) u variables → b ≡ true → IsTrue false ↔ Fails h info u variables
passes_before h info u variables b test e = (
  λ f. absurd (cc),
  λ fails. absurd (fails
      (passes_greater (Has info.set) (set_after h info) u variables (AfterAll-has (Has info.set) (drop info.pos h)) (test.0 e))),
)

-- an Info that was walked to the end of a window
pub walked : (h w : List Stamp) (info : Info) (T : Elements) (u from : ℕ) (variables : Option (List ℕ)) (b : Bool) → from ≤ info.pos
    → drop from h ≡ w
    → ((y : Element) → T y ↔ AfterAll (Has info.set) (take (length w - (info.pos - from)) (drop (info.pos - from) w)) y)
    → IsTrue b ↔ IsOrderedOrExcepted T u variables → IsTrue (not b) ↔ Fails h info u variables
walked h w info T u from variables b le e set test = by_case b test
  where
    same : (y : Element) → T y ↔ set_after h info y
    same y = subst (λ xs. T y ↔ AfterAll (Has info.set) xs y) (take_rest w (info.pos - from) ∙ drop_window h w from info.pos le e) (set y)

    by_case : (b : Bool) → IsTrue b ↔ IsOrderedOrExcepted T u variables → IsTrue (not b) ↔ Fails h info u variables
    by_case true t = (
      λ f. absurd (cc),
      λ fails. absurd
          (fails (passes_greater T (set_after h info) u variables (λ y. (same y).0) (t.0 refl))),
    )
    by_case false t = (
      λ f c. let k = t.1 (passes_greater (set_after h info) T u variables (λ y. (same y).1) c)
          in absurd (cc),
      λ fails. refl,
    )

-- what a read of the list of reads gives
pub read_item : (xs : List (Option Info)) (i : ℕ) (r : Option Info) → i < length xs → r ≡ get_or xs i r → read_of xs i ≡ r
read_item xs i r n e = get_or_default xs i None r n ∙ sym e

-- none of the first k reads fails, and there are no others
pub none_fails : (xs : List (Option Info)) (k : ℕ) (P : Info → Type 0) → length xs ≤ k
    → ((t : ℕ) (i : Info) → t < k → read_of xs t ≡ Some i → P i → ⊥) → IsTrue false ↔ ((t : ℕ) × (i : Info) × (read_of xs t ≡ Some i) × P i)
none_fails xs k P n none = (
  λ f. absurd (cc),
  λ w. absurd
      (elim (cases_lt w.0 k) [
        | inl below ↦ none w.0 w.1 below w.2 w.3
        | inr past ↦ (let gone : read_of xs w.0 ≡ None = get_or_past xs w.0 None (omega arith) in let there = w.2 in cc)
      ]),
)

-- an Info of which it is known that it is ordered does not fail
pub says_ordered : (setting : Setting) (h : List Stamp) (info : Info) (a : Access) (write : Bool) → InfoFor setting h info a write
    → (q : Question) → IsOfNext setting h q → IsOrderedBefore h a q → IsTrue false ↔ Fails h info q.thread q.commit
says_ordered setting h info a write stands q next o =
    (λ f. absurd (cc), λ fails. absurd (ordered_passes setting h info a write stands q next o fails))

-- the events from the Info's position on, as a piece of the window
pub rest_of : (h w : List Stamp) (from p : ℕ) → from ≤ p → drop from h ≡ w → drop p h ≡ take (length w - (p - from)) (drop (p - from) w)
rest_of h w from p le e = sym (take_rest w (p - from) ∙ drop_window h w from p le e)

-- the only Info that may be kept
pub kept_one : (kept : Option Info) (info : Info) (P : Info → Type 0) (b : Bool) → kept ≡ Some info → IsTrue b ↔ P info
    → IsTrue b ↔ ((i : Info) × (kept ≡ Some i) × P i)
kept_one kept info P b is k = (λ t. (info, is, k.0 t), λ w. let same : w.0 ≡ info = (let one = w.1 in cc) in k.1 (subst P same w.2))

-- one read more
pub each_more : (xs : List (Option Info)) (k : ℕ) (r : Option Info) (P : Info → Type 0) → read_of xs k ≡ r
    → ((t : ℕ) (i : Info) → t < k → read_of xs t ≡ Some i → P i) → ((i : Info) → r ≡ Some i → P i)
    → (t : ℕ) (i : Info) → t < k + 1 → read_of xs t ≡ Some i → P i
each_more xs k r P at before this t i n e =
    elim (cases_lt t k) [
      | inl below ↦ before t i below e
      | inr past ↦ (let same : t ≡ k = omega arith in this i (sym at ∙ ap (read_of xs) (sym same) ∙ e))
    ]

-- a read that is kept stands in the list
pub read_within : (xs : List (Option Info)) (t k : ℕ) (i : Info) → length xs ≤ k → read_of xs t ≡ Some i → t < k
read_within xs t k i n e = elim (cases_lt t k) [
  | inl below ↦ below
  | inr past ↦ absurd (let gone : read_of xs t ≡ None = get_or_past xs t None (omega arith) in cc)
]
