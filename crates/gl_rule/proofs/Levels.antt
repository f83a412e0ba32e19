-- How often a thread is in each monitor, by its own entries and by the machine.
use Rattle.std.proofs.Common.{◌≡◌, ◌≢◌, ℕ, zero, suc, ◌+◌, ◌-◌, ◌<◌, ◌≤◌, ◌==◌, List, [], ◌∷◌, ◌++◌, length, replicate, refl, sym, ap, subst, arith, ◌∙◌, inl, inr, true, false, Bool, Some, None, eq-eqb, ne_eqb}
use Rattle.std.specs.Prelude.{◌↔◌, ℤ, if◌then◌else◌, slice_index, slice_index_or, slice_set}
use Rattle.std.specs.List.{All}
use Rattle.std.proofs.Math.ListN.{length-set}
use Rattle.std.proofs.Math.Nat.{eq-or-lt_of_le}
use Rattle.std.proofs.lemmas.Bool.{cases_lt}
use Rattle.std.proofs.lemmas.List.{get_or-set_same, get_or-set_other, length-replicate, get_or-replicate}
use Rattle.std.proofs.lemmas.List.Elements.{All-head, All-tail}
use Rattle.std.proofs.lemmas.Option.{slice_get_within}
use native.Mathlib.Decide.{ℕ_discrete}
use Rattle.gl_model.specs.declared.event.Act.{Act}
use Rattle.gl_model.specs.declared.event.Act.TheVariants.{Begin, End, Acq, Rel, VRead, VWrite, Fork, Join, Alloc, Print, Input, Fail}
use Rattle.gl_model.specs.declared.event.Event.{Event}
use Rattle.gl_model.specs.declared.event.Event.TheVariants.{Act as Does, Commit as Commits}
use Rattle.gl_model.specs.declared.event.Stamp.{Stamp}
use Rattle.gl_model.specs.declared.limits.TheConstants.{MONITORS}
use Rattle.gl_model.specs.Entries.{Entry, Sync, Commit, Plain, Abort, Trim, Over}
use Rattle.gl_model.specs.Form.{At}
use Rattle.gl_model.specs.Infos.{AreLeastOwned}
use Rattle.gl_model.specs.Kept.{IsEntryKept}
use Rattle.gl_model.specs.Machine.{Setting, State, MonitorState, Free, Owned, Entered, Effect, Step, Run, Allows, start, with_at, left_once}
use Rattle.gl_model.specs.Records.{position_of, event_of}
use Rattle.gl_draws.specs.Events.{AreEvents}
use Rattle.gl_draws.proofs.DrawPlaces.{event_there}
use Rattle.gl_draws.proofs.DrawTies.{with_here, with_else}
use Rattle.gl_draws.proofs.EventTies.{new_event, event_cases, events_front}
use Rattle.gl_draws.proofs.Pushes.{at_kept}
use Rattle.gl_draws.proofs.Reaching.{event_kept}
use Rattle.gl_draws.proofs.Running.{running_law}
use Rattle.gl_rule.proofs.Lasting.{has_block, no_end}
use Rattle.gl_rule.specs.Levels.{levels_act, levels_entry, levels_from, levels_of, LevelsTell, MonitorsTell, QuestionsTell}

-- ---- how often a thread is in one monitor

-- after an act, where it was in o so often
abbrev level_act : ℕ → ℕ → Act → ℕ
level_act o n (Acq p) = if p == o then n + 1 else n
level_act o n (Rel p) = if p == o then n - 1 else n
level_act o n (Begin f) = n
level_act o n End = n
level_act o n (VRead v) = n
level_act o n (VWrite v) = n
level_act o n (Fork u f) = n
level_act o n (Join u) = n
level_act o n (Alloc c) = n
level_act o n Print = n
level_act o n Input = n
level_act o n (Fail k) = n

-- how often a thread is in a monitor after an event of its own, from how often it was before
abbrev level_event : ℕ → ℕ → Event → ℕ
level_event o n (Does act) = level_act o n act
level_event o n (Commits xs) = n

-- how often a thread is in a monitor after an entry, from how often it was before
abbrev level_entry : ℕ → ℕ → Entry → ℕ
level_entry o n (Sync at act value) = level_act o n act
level_entry o n (Commit at tx) = n
level_entry o n (Plain var nth cached write value raised) = n
level_entry o n (Abort tx why) = n
level_entry o n (Trim low) = n
level_entry o n (Over ending) = n

-- how often a thread is in a monitor after a list of entries, from how often it was before
abbrev level_from : ℕ → ℕ → List Entry → ℕ
level_from o n [] = n
level_from o n (e ∷ es) = level_from o (level_entry o n e) es

-- a choice by whether two monitors are the same takes the first branch where they are
at_same : (o p a b : ℕ) → p ≡ o → (if p == o then a else b) ≡ a
at_same o p a b e = ap (λ c. if c then a else b) (eq-eqb p o e)

-- a choice by whether two monitors are the same takes the second branch where they are not
at_other : (o p a b : ℕ) → p ≢ o → (if p == o then a else b) ≡ b
at_other o p a b e = ap (λ c. if c then a else b) (ne_eqb p o e)

-- the level after two lists is that after the second, from the level after the first
level_append : (o n : ℕ) (xs ys : List Entry) → level_from o n (xs ++ ys) ≡ level_from o (level_from o n xs) ys
level_append o n [] ys = refl
level_append o n (x ∷ xs) ys = level_append o (level_entry o n x) xs ys

-- an entry that is an event counts as that
entry_event : (o n : ℕ) (e : Entry) (ev : Event) → event_of e ≡ Some ev → level_entry o n e ≡ level_event o n ev
entry_event o n (Sync at act value) ev is = let same : Does act ≡ ev = cc in ap (level_event o n) same
entry_event o n (Commit at tx) ev is = let same : Commits (Rattle.gl_model.specs.Records.variables_of tx) ≡ ev = cc
    in ap (level_event o n) same
entry_event o n (Plain a b c d f g) ev is = absurd (cc)
entry_event o n (Abort a b) ev is = absurd (cc)
entry_event o n (Trim a) ev is = absurd (cc)
entry_event o n (Over a) ev is = absurd (cc)

-- an entry that is no event counts nothing
entry_none : (o n : ℕ) (e : Entry) → position_of e ≡ None → level_entry o n e ≡ n
entry_none o n (Sync at act value) is = absurd (cc)
entry_none o n (Commit at tx) is = refl
entry_none o n (Plain a b c d f g) is = refl
entry_none o n (Abort a b) is = refl
entry_none o n (Trim a) is = refl
entry_none o n (Over a) is = refl

-- entries that have no position leave the level as it is
level_none : (o n : ℕ) (es : List Entry) → ((i : ℕ) (e : Entry) → At es i e → position_of e ≡ None) → level_from o n es ≡ n
level_none o n [] all = refl
level_none o n (e ∷ es) all = ap (λ k. level_from o k es) (entry_none o n e (all 0 e refl)) ∙ level_none o n es (λ i f a. all (suc i) f a)

-- ---- one monitor of the machine

-- thread t owns it so often, and not at all at 0
abbrev IsLevel : ℕ → MonitorState → ℕ → Type 0
IsLevel t m n = (d : ℕ) → (m ≡ Owned t d) ↔ ((n ≡ d) × (0 < d))

-- a monitor that is owned in two ways is owned by one thread, to one depth
owned_parts : (t u d e : ℕ) → Owned t d ≡ Owned u e → (t ≡ u) × (d ≡ e)
owned_parts t u d e p = (cc, cc)

-- a thread's level in a monitor that it owns is the depth to which it owns it
level_owned : (t k n : ℕ) → n ≡ k → 0 < k → IsLevel t (Owned t k) n
level_owned t k n same some d = (
  λ e. let q = owned_parts t t k d e in let b = q.1
      in (same ∙ b, (omega arith)),
  λ w. ap (Owned t) (sym same ∙ w.0),
)

-- the level in a free monitor is zero
level_free : (t n : ℕ) → n ≡ 0 → IsLevel t Free n
level_free t n none d = (λ e. absurd (let k : Free ≡ Owned t d = e in cc), λ w. absurd (let a = w.0 in let b = w.1 in omega arith))

-- what is a thread's level in a monitor that it owns is the depth, and that is above zero
is_owned : (t k n : ℕ) → IsLevel t (Owned t k) n → (n ≡ k) × (0 < k)
is_owned t k n l = (l k).0 refl

-- what is a thread's level in a free monitor is zero
is_free : (t n : ℕ) → IsLevel t Free n → n ≡ 0
is_free t zero l = refl
is_free t (suc n) l = absurd (let k : Free ≡ Owned t (suc n) = (l (suc n)).1 (refl, omega arith) in cc)

-- where t owns a monitor neither before nor after, its level in it stays
level_apart : (t : ℕ) (m k : MonitorState) (n : ℕ) → ((d : ℕ) → m ≡ Owned t d → ⊥) → ((d : ℕ) → k ≡ Owned t d → ⊥) → IsLevel t m n
    → IsLevel t k n
level_apart t m k n before after l d = (λ e. absurd (after d e), λ w. absurd (before d ((l d).1 w)))

-- a thread that enters a monitor is in it once more
entered_level : (t n : ℕ) (m k : MonitorState) → Entered t m k → IsLevel t m n → IsLevel t k (n + 1)
entered_level t n Free k e l = let z = is_free t n l
    in subst (λ x. IsLevel t x (n + 1)) (sym e) (level_owned t 1 (n + 1) (omega arith) (omega arith))
entered_level t n (Owned u j) k e l =
    let w = is_owned t j n (subst (λ x. IsLevel t (Owned x j) n) e.0 l) in
    let a = w.0 in subst (λ x. IsLevel t x (n + 1)) (sym e.1) (level_owned t (j + 1) (n + 1) (omega arith) (omega arith))

-- a thread that leaves a monitor is in it once less
left_level : (t n j : ℕ) → n ≡ j + 1 → IsLevel t (left_once t j) (n - 1)
left_level t n zero is = level_free t (n - 1) (omega arith)
left_level t n (suc j) is =
    let z : left_once t (suc j) ≡ Owned t (suc j) =
    ap (λ b. if b then Free else Owned t (suc j)) (ne_eqb (suc j) 0 (λ e. absurd (omega arith))) in
    subst (λ x. IsLevel t x (n - 1)) (sym z) (level_owned t (suc j) (n - 1) (omega arith) (omega arith))

-- when another thread enters a monitor, this one owns it neither before nor after
entered_apart : (t u : ℕ) → u ≢ t → (m k : MonitorState) → Entered u m k → ((d : ℕ) → m ≡ Owned t d → ⊥) × ((d : ℕ) → k ≡ Owned t d → ⊥)
entered_apart t u other Free k e = (λ d z. absurd (let w : Free ≡ Owned t d = z in cc), λ d z. other (owned_parts u t 1 d (sym e ∙ z)).0)
entered_apart t u other (Owned v j) k e =
    (λ d z. other (sym e.0 ∙ (owned_parts v t j d z).0), λ d z. other (owned_parts u t (j + 1) d (sym e.1 ∙ z)).0)

-- a monitor that another thread left is not owned by this one
left_apart : (t u : ℕ) → u ≢ t → (j d : ℕ) → left_once u j ≡ Owned t d → ⊥
left_apart t u other j d z = by (j == 0) z
  where
    by : (b : Bool) → (if b then Free else Owned u j) ≡ Owned t d → ⊥
    by true z = absurd (let w : Free ≡ Owned t d = z in cc)
    by false z = other (owned_parts u t j d z).0

-- ---- one step of the machine

-- what an event of thread u does to the monitors
data MonitorStep (u : ℕ) (e : Event) (f g : ℕ → MonitorState) : Type 0 where
  enters : (p : ℕ) (m : MonitorState) → e ≡ Does (Acq p) → Entered u (f p) m → g ≡ with_at f p m → MonitorStep u e f g
  leaves : (p j : ℕ) → e ≡ Does (Rel p) → f p ≡ Owned u (j + 1) → g ≡ with_at f p (left_once u j) → MonitorStep u e f g
  keeps : ((o n : ℕ) → level_event o n e ≡ n) → g ≡ f → MonitorStep u e f g

-- the effect of an event on the monitors is what the event's step says
monitor_step : (setting : Setting) (old new : State) (u : ℕ) (e : Event) (value : ℤ) → Effect setting old u e value new
    → MonitorStep u e old.monitors new.monitors
monitor_step setting old new u (Does (Begin f)) value k = keeps (λ o n. refl) (ap (λ (s : State). s.monitors) k)
monitor_step setting old new u (Does End) value k = keeps (λ o n. refl) (ap (λ (s : State). s.monitors) k)
monitor_step setting old new u (Does (Acq p)) value k = enters p k.0 refl k.1 (ap (λ (s : State). s.monitors) k.2)
monitor_step setting old new u (Does (Rel p)) value k = leaves p k.0 refl k.1 (ap (λ (s : State). s.monitors) k.2)
monitor_step setting old new u (Does (VRead v)) value k = keeps (λ o n. refl) (ap (λ (s : State). s.monitors) k.1)
monitor_step setting old new u (Does (VWrite v)) value k = keeps (λ o n. refl) (ap (λ (s : State). s.monitors) k)
monitor_step setting old new u (Does (Fork w f)) value k = keeps (λ o n. refl) (ap (λ (s : State). s.monitors) k.1)
monitor_step setting old new u (Does (Join w)) value k = keeps (λ o n. refl) (ap (λ (s : State). s.monitors) k.1)
monitor_step setting old new u (Does (Alloc c)) value k = keeps (λ o n. refl) (ap (λ (s : State). s.monitors) k.4)
monitor_step setting old new u (Does Print) value k = keeps (λ o n. refl) (ap (λ (s : State). s.monitors) k)
monitor_step setting old new u (Does Input) value k = keeps (λ o n. refl) (ap (λ (s : State). s.monitors) k.1)
monitor_step setting old new u (Does (Fail c)) value k = keeps (λ o n. refl) (ap (λ (s : State). s.monitors) k.1)
monitor_step setting old new u (Commits xs) value k = keeps (λ o n. refl) (ap (λ (s : State). s.monitors) k)

-- where one monitor changes, the level in it is the new one, and in any other it stays
one_changed : (t o n k : ℕ) (f g : ℕ → MonitorState) (p : ℕ) (m : MonitorState) → g ≡ with_at f p m → (o ≡ p → IsLevel t m k)
    → (o ≢ p → n ≡ k) → IsLevel t (f o) n → IsLevel t (g o) k
one_changed t o n k f g p m is here others l = elim (ℕ_discrete o p) [
  | yes e ↦ subst (λ x. IsLevel t x k) (sym (ap (λ (h : ℕ → MonitorState). h o) is ∙ ap (with_at f p m) e ∙ with_here f p m)) (here e)
  | no ne ↦ subst (λ x. IsLevel t x k) (sym (ap (λ (h : ℕ → MonitorState). h o) is ∙ with_else f p o m ne))
      (subst (IsLevel t (f o)) (others ne) l)
]

-- an event of the thread changes its levels as the event says
own_step : (t o n : ℕ) (e : Event) (f g : ℕ → MonitorState) → MonitorStep t e f g → IsLevel t (f o) n → IsLevel t (g o) (level_event o n e)
own_step t o n e f g (enters p m is entered new) l =
    subst (λ x. IsLevel t (g o) (level_event o n x)) (sym is)
    (one_changed t o n (if p == o then n + 1 else n) f g p m new
    (λ same. subst (IsLevel t m) (sym (at_same o p (n + 1) n (sym same)))
    (entered_level t n (f p) m entered (subst (λ x. IsLevel t (f x) n) same l)))
    (λ other. sym (at_other o p (n + 1) n (λ z. other (sym z)))) l)
own_step t o n e f g (leaves p j is owned new) l =
    subst (λ x. IsLevel t (g o) (level_event o n x)) (sym is)
    (one_changed t o n (if p == o then n - 1 else n) f g p (left_once t j) new
    (λ same. subst (IsLevel t (left_once t j)) (sym (at_same o p (n - 1) n (sym same)))
    (left_level t n j (is_owned t (j + 1) n (subst (λ x. IsLevel t x n) (ap f same ∙ owned) l)).0))
    (λ other. sym (at_other o p (n - 1) n (λ z. other (sym z)))) l)
own_step t o n e f g (keeps none same) l =
    subst (IsLevel t (g o)) (sym (none o n)) (subst (λ (h : ℕ → MonitorState). IsLevel t (h o) n) (sym same) l)

-- an event of another thread leaves the thread's levels
other_step : (t u o n : ℕ) → u ≢ t → (e : Event) (f g : ℕ → MonitorState) → MonitorStep u e f g → IsLevel t (f o) n → IsLevel t (g o) n
other_step t u o n other e f g (enters p m is entered new) l =
    let w = entered_apart t u other (f p) m entered in
    one_changed t o n n f g p m new (λ same. level_apart t (f p) m n w.0 w.1 (subst (λ x. IsLevel t (f x) n) same l)) (λ _. refl) l
other_step t u o n other e f g (leaves p j is owned new) l =
    one_changed t o n n f g p (left_once u j) new
    (λ same. level_apart t (f p) (left_once u j) n (λ d z. other (owned_parts u t (j + 1) d (sym owned ∙ z)).0) (left_apart t u other j)
    (subst (λ x. IsLevel t (f x) n) same l)) (λ _. refl) l
other_step t u o n other e f g (keeps none same) l = subst (λ (h : ℕ → MonitorState). IsLevel t (h o) n) (sym same) l

-- ---- the whole list of events, from its end

-- a list that is not empty has a last element
record Split (h : List Stamp) (n : ℕ) : Type 0 where
  front : List Stamp
  last : Stamp
  is : h ≡ front ++ last ∷ []
  long : length front ≡ n

-- a log that is not empty is one event put after the others
split_last : (h : List Stamp) (n : ℕ) → length h ≡ suc n → Split h n
split_last [] n long = absurd (omega arith)
split_last (x ∷ []) n long = record { front = []; last = x; is = refl; long = (omega arith) }
split_last (x ∷ (y ∷ h)) zero long = absurd (omega arith)
split_last (x ∷ (y ∷ h)) (suc n) long = let s = split_last (y ∷ h) n (omega arith)
    in record { front = x ∷ s.front; last = s.last; is = ap (λ l. x ∷ l) s.is; long = ap suc s.long }

record RunSplit (setting : Setting) (old now : State) (l : List Stamp) (x : Stamp) : Type 0 where
  mid : State
  run : Run setting old l mid
  value : ℤ
  step : Step setting mid x value now

-- a run of a log with one event more is a run of the log and then the step of that event
run_split : (setting : Setting) (old now : State) (l : List Stamp) (x : Stamp) → Run setting old (l ++ x ∷ []) now
    → RunSplit setting old now l x
run_split setting old now [] x r = record { mid = old; run = refl; value = r.0; step = subst (Step setting old x r.0) (sym r.3) r.2 }
run_split setting old now (y ∷ l) x r = let s = run_split setting r.1 now l x r.3
    in record { mid = s.mid; run = (r.0, r.1, r.2, s.run); value = s.value; step = s.step }

-- an entry with what stands before it and behind it
record Around (es : List Entry) (i : ℕ) (e : Entry) : Type 0 where
  before : List Entry
  behind : List Entry
  is : es ≡ before ++ e ∷ behind
  long : length before ≡ i

-- an entry of a list stands between a list before it and a list after it
around : (es : List Entry) (i : ℕ) (e : Entry) → At es i e → Around es i e
around [] i e a = absurd (cc)
around (x ∷ es) zero e a = let same : x ≡ e = cc in record { before = []; behind = es; is = ap (λ y. y ∷ es) same; long = refl }
around (x ∷ es) (suc i) e a = let r = around es i e a
    in record { before = x ∷ r.before; behind = r.behind; is = ap (λ l. x ∷ l) r.is; long = ap suc r.long }

-- an entry stands at the length of the list before it
at_here : (a : List Entry) (e : Entry) (b : List Entry) → At (a ++ e ∷ b) (length a) e
at_here [] e b = refl
at_here (x ∷ a) e b = at_here a e b

-- an entry of a list after stands as much further on as the part before is long
at_behind : (a : List Entry) (e : Entry) (b : List Entry) (j : ℕ) (f : Entry) → At b j f → At (a ++ e ∷ b) (length a + suc j) f
at_behind [] e b j f at = let n : 0 + suc j ≡ suc j = omega arith in subst (λ k. At (e ∷ b) k f) (sym n) at
at_behind (x ∷ a) e b j f at = let n : suc (length a) + suc j ≡ suc (length a + suc j) = omega arith
    in subst (λ k. At (x ∷ a ++ e ∷ b) k f) (sym n) (at_behind a e b j f at)

-- an entry that stands within the first of two lists stands in that list
at_front : (a b : List Entry) (j : ℕ) (f : Entry) → j < length a → At (a ++ b) j f → At a j f
at_front [] b j f near at = absurd (omega arith)
at_front (x ∷ a) b zero f near at = at
at_front (x ∷ a) b (suc j) f near at = at_front a b j f (omega arith) at

-- at one place of a list stands one entry
same_entry : (es : List Entry) (i : ℕ) (e f : Entry) → At es i e → At es i f → e ≡ f
same_entry es i e f a b = cc

-- an entry has one position
same_place : (e : Entry) (p q : ℕ) → position_of e ≡ Some p → position_of e ≡ Some q → p ≡ q
same_place e p q a b = cc

-- the last event is the entry e of thread t: what stands before it are its events before, and behind it stands none
module _ (l : List Stamp) (x : Stamp) (t : ℕ) (a : List Entry) (e : Entry) (b : List Entry) (k : AreEvents (l ++ x ∷ []) t (a ++ e ∷ b))
    (place : position_of e ≡ Some (length l)) where
  -- no entry of the thread's list has a position behind that last event
  within : (i p : ℕ) (f : Entry) → At (a ++ e ∷ b) i f → position_of f ≡ Some p → p ≤ length l
  within i p f at pos =
      let v = event_there f p pos in
      elim (event_cases l x (record { thread = t; event = v.0 }) p (k.listed i p f v.0 at pos v.1)) [
        | inl was ↦ (let n = slice_get_within l p (record { thread = t; event = v.0 }) was in omega arith)
        | inr new ↦ (let n = new.0 in omega arith)
      ]

  -- the entries before e are the thread's events in the list without that last event
  events_before : AreEvents l t a
  events_before = record {
    listed = λ i p f ev at pos is.
        let at' = at_kept a (e ∷ b) i f at in
        let near = slice_get_within a i f at in
        elim (event_cases l x (record { thread = t; event = ev }) p (k.listed i p f ev at' pos is)) [
          | inl was ↦ was
          | inr new ↦ absurd (let lt = k.rise i (length a) p (length l) f e at' (at_here a e b) near pos place in let n = new.0
              in omega arith)
        ];
    made = λ p s at own.
        let near = slice_get_within l p s at in
        let m = k.made p s (event_kept l (x ∷ []) p s at) own in
        elim (cases_lt m.0 (length a)) [
          | inl lt ↦ (m.0, m.1, at_front a (e ∷ b) m.0 m.1 lt m.2, m.3, m.4)
          | inr ge ↦ elim (eq-or-lt_of_le ge) [
            | inl same ↦ absurd (let f = same_entry (a ++ e ∷ b) m.0 m.1 e m.2 (subst (λ i. At (a ++ e ∷ b) i e) same (at_here a e b))
                in let n = same_place e p (length l) (subst (λ z. position_of z ≡ Some p) f m.3) place in omega arith)
            | inr gt ↦ absurd (let lt = k.rise (length a) m.0 (length l) p e m.1 (at_here a e b) m.2 gt place m.3 in omega arith)
          ]
        ];
    rise = λ i j p q f g at bt lt pos qos. k.rise i j p q f g (at_kept a (e ∷ b) i f at) (at_kept a (e ∷ b) j g bt) lt pos qos;
  }

  -- no entry behind e has a position
  none_behind : (j : ℕ) (f : Entry) → At b j f → position_of f ≡ None
  none_behind j f at = by (position_of f) refl
    where
      by : (o : _) → position_of f ≡ o → position_of f ≡ None
      by None is = is
      by (Some p) is =
          let at' = at_behind a e b j f at in
          absurd (let lt = k.rise (length a) (length a + suc j) (length l) p e f (at_here a e b) at' (omega arith) place is
          in let n = within (length a + suc j) p f at' is in omega arith)

-- by the machine a thread is in each monitor as often as its entries say
level_law : (setting : Setting) (t o n : ℕ) (h : List Stamp) → length h ≡ n → (now : State) → Allows setting h now → (es : List Entry)
    → AreEvents h t es → IsLevel t (now.monitors o) (level_from o 0 es)
level_law setting t o zero [] long now r es k =
    let none : level_from o 0 es ≡ 0 = level_none o 0 es (λ i e at. nothing i e at (position_of e) refl) in
    subst (λ (s : State). IsLevel t (s.monitors o) (level_from o 0 es)) (sym r) (level_free t (level_from o 0 es) none)
  where
    nothing : (i : ℕ) (e : Entry) → At es i e → (w : _) → position_of e ≡ w → position_of e ≡ None
    nothing i e at None is = is
    nothing i e at (Some p) is = let v = event_there e p is in let z = k.listed i p e v.0 at is v.1 in absurd (cc)
level_law setting t o zero (x ∷ h) long now r es k = absurd (omega arith)
level_law setting t o (suc n) h long now r es k =
    let s = split_last h n long in
    let r' : Allows setting (s.front ++ s.last ∷ []) now = subst (λ l. Allows setting l now) s.is r in
    let k' : AreEvents (s.front ++ s.last ∷ []) t es = subst (λ l. AreEvents l t es) s.is k in
    let m = run_split setting (start setting) now s.front s.last r' in
    elim (ℕ_discrete s.last.thread t) [
      | yes own ↦ is_own (λ l long mid run fs k. level_law setting t o n l long mid run fs k) s.front s.last s.long own m k'
      | no other ↦
          other_step t s.last.thread o (level_from o 0 es) other s.last.event m.mid.monitors now.monitors
          (monitor_step setting m.mid now s.last.thread s.last.event m.value m.step.effect)
          (level_law setting t o n s.front s.long m.mid m.run es
          (events_front (s.front ++ s.last ∷ []) t es k' s.front (s.last ∷ []) refl
          (λ i p e at pos. is_before s.front s.last other k' i p e at pos)))
    ]
  where
    is_before : (l : List Stamp) (x : Stamp) → x.thread ≢ t → AreEvents (l ++ x ∷ []) t es → (i p : ℕ) (e : Entry) → At es i e
        → position_of e ≡ Some p → p < length l
    is_before l x other k i p e at pos =
        let v = event_there e p pos in
        elim (event_cases l x (record { thread = t; event = v.0 }) p (k.listed i p e v.0 at pos v.1)) [
          | inl was ↦ slice_get_within l p (record { thread = t; event = v.0 }) was
          | inr new ↦ absurd (other (sym (ap (λ (z : Stamp). z.thread) new.1)))
        ]

    is_own : ((l : List Stamp) → length l ≡ n → (mid : State) → Allows setting l mid → (fs : List Entry) → AreEvents l t fs
        → IsLevel t (mid.monitors o) (level_from o 0 fs))
        → (l : List Stamp) (x : Stamp) → length l ≡ n → x.thread ≡ t → RunSplit setting (start setting) now l x
        → AreEvents (l ++ x ∷ []) t es → IsLevel t (now.monitors o) (level_from o 0 es)
    is_own so_far l x long own m k =
        let f = k.made (length l) x (new_event l x) own in
        let c = around es f.0 f.1 f.2 in
        let k' : AreEvents (l ++ x ∷ []) t (c.before ++ f.1 ∷ c.behind) = subst (λ z. AreEvents (l ++ x ∷ []) t z) c.is k in
        let before = so_far l long m.mid m.run c.before (events_before l x t c.before f.1 c.behind k' f.3) in
        let step = subst (λ u. MonitorStep u x.event m.mid.monitors now.monitors) own
        (monitor_step setting m.mid now x.thread x.event m.value m.step.effect) in
        let was = level_from o 0 c.before in
        let here = own_step t o was x.event m.mid.monitors now.monitors step before in
        let is : level_from o 0 es ≡ level_event o was x.event =
        ap (level_from o 0) c.is ∙ level_append o 0 c.before (f.1 ∷ c.behind)
        ∙ level_none o (level_entry o was f.1) c.behind (none_behind l x t c.before f.1 c.behind k' f.3)
        ∙ entry_event o was f.1 x.event f.4 in
        subst (IsLevel t (now.monitors o)) (sym is) here

-- ---- the list of levels

-- an act leaves the number of levels
length_act : (levels : List ℕ) (act : Act) → length (levels_act levels act) ≡ length levels
length_act levels (Acq p) = length-set levels p (slice_index levels p + 1)
length_act levels (Rel p) = length-set levels p (slice_index levels p - 1)
length_act levels (Begin f) = refl
length_act levels End = refl
length_act levels (VRead v) = refl
length_act levels (VWrite v) = refl
length_act levels (Fork u f) = refl
length_act levels (Join u) = refl
length_act levels (Alloc c) = refl
length_act levels Print = refl
length_act levels Input = refl
length_act levels (Fail k) = refl

-- an entry leaves the number of levels
length_entry : (levels : List ℕ) (e : Entry) → length (levels_entry levels e) ≡ length levels
length_entry levels (Sync at act value) = length_act levels act
length_entry levels (Commit a b) = refl
length_entry levels (Plain a b c d f g) = refl
length_entry levels (Abort a b) = refl
length_entry levels (Trim a) = refl
length_entry levels (Over a) = refl

-- a list of entries leaves the number of levels
length_from : (levels : List ℕ) (es : List Entry) → length (levels_from levels es) ≡ length levels
length_from levels [] = refl
length_from levels (e ∷ es) = length_from (levels_entry levels e) es ∙ length_entry levels e

-- there is a level for each monitor
pub length_levels : (es : List Entry) → length (levels_of es) ≡ MONITORS
unfolding levels_of
length_levels es = length_from (replicate MONITORS 0) es ∙ length-replicate {A = ℕ} MONITORS 0

-- the level of o after p's is set is the new one if o is p, and the old one otherwise
set_level : (levels : List ℕ) (p o v : ℕ) → o < length levels → slice_index_or (slice_set levels p v) o 0
    ≡ (if p == o then v else slice_index_or levels o 0)
set_level levels p o v near = elim (ℕ_discrete o p) [
  | yes e ↦ ap (λ q. slice_index_or (slice_set levels q v) o 0) (sym e) ∙ get_or-set_same levels o v 0 near
      ∙ sym (at_same o p v (slice_index_or levels o 0) (sym e))
  | no ne ↦ get_or-set_other levels p o v 0 ne ∙ sym (at_other o p v (slice_index_or levels o 0) (λ z. ne (sym z)))
]

-- where a monitor is entered or left, its level goes by it
by_place : (p o : ℕ) (levels : List ℕ) (f : ℕ → ℕ) → (if p == o then f (slice_index_or levels p 0) else slice_index_or levels o 0)
    ≡ (if p == o then f (slice_index_or levels o 0) else slice_index_or levels o 0)
by_place p o levels f = elim (ℕ_discrete p o) [
  | yes e ↦ ap (λ q. if p == o then f (slice_index_or levels q 0) else slice_index_or levels o 0) e
  | no ne ↦ at_other o p (f (slice_index_or levels p 0)) (slice_index_or levels o 0) ne
      ∙ sym (at_other o p (f (slice_index_or levels o 0)) (slice_index_or levels o 0) ne)
]

-- the level of o among all levels after an act is the level of o alone after the act
act_level : (levels : List ℕ) (o : ℕ) (act : Act) → o < length levels → slice_index_or (levels_act levels act) o 0
    ≡ level_act o (slice_index_or levels o 0) act
act_level levels o (Acq p) near = set_level levels p o (slice_index levels p + 1) near ∙ by_place p o levels (λ n. n + 1)
act_level levels o (Rel p) near = set_level levels p o (slice_index levels p - 1) near ∙ by_place p o levels (λ n. n - 1)
act_level levels o (Begin f) near = refl
act_level levels o End near = refl
act_level levels o (VRead v) near = refl
act_level levels o (VWrite v) near = refl
act_level levels o (Fork u f) near = refl
act_level levels o (Join u) near = refl
act_level levels o (Alloc c) near = refl
act_level levels o Print near = refl
act_level levels o Input near = refl
act_level levels o (Fail k) near = refl

-- the level of o among all levels after an entry is the level of o alone after the entry
entry_level : (levels : List ℕ) (o : ℕ) (e : Entry) → o < length levels → slice_index_or (levels_entry levels e) o 0
    ≡ level_entry o (slice_index_or levels o 0) e
entry_level levels o (Sync at act value) near = act_level levels o act near
entry_level levels o (Commit a b) near = refl
entry_level levels o (Plain a b c d f g) near = refl
entry_level levels o (Abort a b) near = refl
entry_level levels o (Trim a) near = refl
entry_level levels o (Over a) near = refl

-- the level of o among all levels after a list of entries is the level of o alone after the list
from_level : (levels : List ℕ) (o : ℕ) (es : List Entry) → o < length levels → slice_index_or (levels_from levels es) o 0
    ≡ level_from o (slice_index_or levels o 0) es
from_level levels o [] near = refl
from_level levels o (e ∷ es) near =
    let n = length_entry levels e in
    from_level (levels_entry levels e) o es (omega arith) ∙ ap (λ k. level_from o k es) (entry_level levels o e near)

-- the level of a monitor among the levels of a list is its level alone, from zero
of_level : (o : ℕ) (es : List Entry) → o < MONITORS → slice_index_or (levels_of es) o 0 ≡ level_from o 0 es
unfolding levels_of
of_level o es near =
    let n = length-replicate {A = ℕ} MONITORS 0 in
    from_level (replicate MONITORS 0) o es (omega arith) ∙ ap (λ k. level_from o k es) (get_or-replicate {A = ℕ} MONITORS o 0 0 near)

-- ---- what the levels of a list tell of the machine

-- the levels of a thread's list are how often the machine has it in each monitor
pub levels_tell : LevelsTell
levels_tell setting h now t es allowed k o d near =
    subst (λ n. (now.monitors o ≡ Owned t d) ↔ ((n ≡ d) × (0 < d))) (sym (of_level o es near))
    (level_law setting t o (length h) h refl now allowed es k d)

-- of a monitor that there is not, entries whose ids are ones that there are say nothing
act_far : (o n : ℕ) (act : Act) → MONITORS ≤ o → (at : ℕ) (value : ℤ) → IsEntryKept (Sync at act value) → level_act o n act ≡ n
act_far o n (Acq p) far at value kept = at_other o p (n + 1) n (λ e. absurd (omega arith))
act_far o n (Rel p) far at value kept = at_other o p (n - 1) n (λ e. absurd (omega arith))
act_far o n (Begin f) far at value kept = refl
act_far o n End far at value kept = refl
act_far o n (VRead v) far at value kept = refl
act_far o n (VWrite v) far at value kept = refl
act_far o n (Fork u f) far at value kept = refl
act_far o n (Join u) far at value kept = refl
act_far o n (Alloc c) far at value kept = refl
act_far o n Print far at value kept = refl
act_far o n Input far at value kept = refl
act_far o n (Fail k) far at value kept = refl

-- a kept entry leaves the level of a monitor that there is not
entry_far : (o n : ℕ) (e : Entry) → MONITORS ≤ o → IsEntryKept e → level_entry o n e ≡ n
entry_far o n (Sync at act value) far kept = act_far o n act far at value kept
entry_far o n (Commit a b) far kept = refl
entry_far o n (Plain a b c d f g) far kept = refl
entry_far o n (Abort a b) far kept = refl
entry_far o n (Trim a) far kept = refl
entry_far o n (Over a) far kept = refl

-- kept entries leave the level of a monitor that there is not
level_far : (o n : ℕ) (es : List Entry) → MONITORS ≤ o → All IsEntryKept es → level_from o n es ≡ n
level_far o n [] far kept = refl
level_far o n (e ∷ es) far kept = ap (λ k. level_from o k es) (entry_far o n e far (All-head IsEntryKept e es kept))
    ∙ level_far o n es far (All-tail IsEntryKept e es kept)

-- a monitor that the thread owns is one that there is, and its level says how often
owned_level : (setting : Setting) (h : List Stamp) (now : State) (t : ℕ) (es : List Entry) → Allows setting h now → AreEvents h t es
    → All IsEntryKept es → (o d : ℕ) → now.monitors o ≡ Owned t d → (o < MONITORS) × (0 < slice_index (levels_of es) o)
owned_level setting h now t es allowed k kept o d owned =
    let l = (level_law setting t o (length h) h refl now allowed es k d).0 owned in
    let a = l.0 in
    let b = l.1 in
    elim (cases_lt o MONITORS) [
      | inl near ↦ (near, (let e = of_level o es near in omega arith))
      | inr far ↦ absurd (let z = level_far o 0 es far kept in omega arith)
    ]

-- a level above 0 is that of a monitor that there is
level_near : (es : List Entry) (o : ℕ) → 0 < slice_index (levels_of es) o → o < MONITORS
level_near es o some = elim (cases_lt o MONITORS) [
  | inl near ↦ near
  | inr far ↦ absurd (let n = length_levels es in let z = Rattle.std.proofs.lemmas.List.get_or_past (levels_of es) o 0 (omega arith)
      in omega arith)
]

-- the least monitors that a thread entered by its entries are the least that the machine has it own
pub monitors_tell : MonitorsTell
monitors_tell setting h now t es allowed k kept held l = record {
  rising = l.rising;
  owned = λ o c. let some = l.entered o c in (
    slice_index (levels_of es) o,
    (levels_tell setting h now t es allowed k o (slice_index (levels_of es) o) (level_near es o some)).1 (refl, some),
  );
  at_most_four = l.at_most_four;
  least = λ o own. l.least o (owned_level setting h now t es allowed k kept o own.0 own.1).1;
}

-- a question of a thread that runs, with the least monitors that it owns, is of a next access
pub questions_tell : QuestionsTell
questions_tell setting h now t es allowed k life q by held =
    let b = has_block es life in
    record {
      thread = refl;
      write_mark = refl;
      commit = refl;
      now = now;
      allowed = allowed;
      runs = subst (λ u. now.threads u ≡ Rattle.gl_model.specs.Machine.Running) (sym by)
          (running_law setting h now t b.0 es allowed k b.1 (no_end es life));
      held = subst (λ u. AreLeastOwned now u q.held) (sym by) held;
    }

-- the levels after two lists are those after the second, from the levels after the first
levels_append : (levels : List ℕ) (xs ys : List Entry) → levels_from levels (xs ++ ys) ≡ levels_from (levels_from levels xs) ys
levels_append levels [] ys = refl
levels_append levels (x ∷ xs) ys = levels_append (levels_entry levels x) xs ys

-- the levels of a list with one entry more are those of the list, after that entry
pub levels_push : (es : List Entry) (e : Entry) → levels_of (es ++ e ∷ []) ≡ levels_entry (levels_of es) e
unfolding levels_of
levels_push es e = levels_append (replicate MONITORS 0) es (e ∷ [])

-- the levels of no entries are all zero
pub levels_none : levels_of [] ≡ replicate MONITORS 0
unfolding levels_of
levels_none = refl

-- an act raises a level by at most one
act_few : (levels : List ℕ) (o n : ℕ) (act : Act) → slice_index levels o ≤ n → slice_index (levels_act levels act) o ≤ suc n
act_few levels o n act few = elim (cases_lt o (length levels)) [
  | inl near ↦ (let e = act_level levels o act near in let u = up o (slice_index levels o) act in omega arith)
  | inr far ↦ (let l = length_act levels act in let z = Rattle.std.proofs.lemmas.List.get_or_past (levels_act levels act) o 0 (omega arith)
      in omega arith)
]
  where
    if_up : (b : Bool) (n m : ℕ) → m ≤ suc n → (if b then m else n) ≤ suc n
    if_up true n m le = le
    if_up false n m le = omega arith

    up : (o n : ℕ) (act : Act) → level_act o n act ≤ suc n
    up o n (Acq p) = if_up (p == o) n (n + 1) (omega arith)
    up o n (Rel p) = if_up (p == o) n (n - 1) (omega arith)
    up o n (Begin f) = omega arith
    up o n End = omega arith
    up o n (VRead v) = omega arith
    up o n (VWrite v) = omega arith
    up o n (Fork u f) = omega arith
    up o n (Join u) = omega arith
    up o n (Alloc c) = omega arith
    up o n Print = omega arith
    up o n Input = omega arith
    up o n (Fail k) = omega arith

-- an entry raises a level by at most one
entry_few : (levels : List ℕ) (o n : ℕ) (e : Entry) → slice_index levels o ≤ n → slice_index (levels_entry levels e) o ≤ suc n
entry_few levels o n (Sync at act value) few = act_few levels o n act few
entry_few levels o n (Commit a b) few = omega arith
entry_few levels o n (Plain a b c d f g) few = omega arith
entry_few levels o n (Abort a b) few = omega arith
entry_few levels o n (Trim a) few = omega arith
entry_few levels o n (Over a) few = omega arith

-- a list raises a level by at most its length
from_few : (levels : List ℕ) (o n : ℕ) (es : List Entry) → slice_index levels o ≤ n → slice_index (levels_from levels es) o ≤ n + length es
from_few levels o n [] few = omega arith
from_few levels o n (e ∷ es) few = let r = from_few (levels_entry levels e) o (suc n) es (entry_few levels o n e few) in omega arith

-- where all levels are zero, so is each
none_at : (o : ℕ) → slice_index (replicate MONITORS 0) o ≤ 0
none_at o = elim (cases_lt o MONITORS) [
  | inl near ↦ (let e : slice_index (replicate MONITORS 0) o ≡ 0 = get_or-replicate {A = ℕ} MONITORS o 0 0 near in omega arith)
  | inr far ↦ (let n : length {A = ℕ} (replicate MONITORS 0) ≡ MONITORS = length-replicate {A = ℕ} MONITORS 0
      in let z : slice_index (replicate MONITORS 0) o
      ≡ 0 = Rattle.std.proofs.lemmas.List.get_or_past {X = ℕ} (replicate MONITORS 0) o 0 (omega arith) in omega arith)
]

-- no level of a list is above the number of its entries
pub levels_few : (es : List Entry) (o : ℕ) → slice_index (levels_of es) o ≤ length es
unfolding levels_of
levels_few es o =
    let zeros : List ℕ = replicate MONITORS 0 in
    let few = from_few zeros o 0 es (none_at o) in omega arith
