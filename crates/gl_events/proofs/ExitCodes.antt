-- The code of an exit, by the thread's own list.
use Rattle.std.proofs.Common.{◌≡◌, ℕ, zero, suc, ◌+◌, ◌<◌, ◌==◌, [], ◌∷◌, refl, sym, ap, subst, arith, ◌∙◌, inl, inr, Bool, Some, None, eq-eqb, ne_eqb, Ok, Err, Result}
use Rattle.std.specs.Prelude.{◌↔◌, pos, Option, IfOk, if◌then◌else◌, slice_index_or}
use Rattle.gl_model.specs.declared.event.Act.TheVariants.{Rel, Fail}
use Rattle.gl_model.specs.declared.limits.TheConstants.{MONITORS}
use Rattle.gl_model.specs.Machine.{Setting, Free, Owned}
use Rattle.gl_draws.specs.Events.{AreEvents}
use Rattle.gl_rule.specs.Levels.{levels_of}
use Rattle.gl_rule.specs.Taken.{StateTold}
use Rattle.gl_rule.specs.View.{Shelf}
use Rattle.gl_rule.proofs.Levels.{levels_tell}
use Rattle.gl_state.specs.Entering.{monitor_of}
use Rattle.gl_state.specs.ListView.{ListView}
use Rattle.gl_state.specs.States.{monitor_state}
use Rattle.gl_table.specs.PassView.{PassView, view_of, shelf_of}
use Rattle.gl_table.specs.TableView.{TableView}
use Rattle.gl_events.specs.Acting.{MayAct, MayFail, IsOutside}
use Rattle.gl_events.specs.Answers.{IsDone}
use Rattle.gl_events.specs.Calls.{HasCode, act_of, value_of, not_owner}
use Rattle.gl_events.specs.declared.call.Call.TheVariants as call
use Rattle.gl_events.specs.declared.done.Done.{Done}

-- one-element lists that are equal have equal elements
first_shelf : (s t : Shelf) → s ∷ [] ≡ t ∷ [] → s ≡ t
first_shelf s t e = cc

-- by the state that was taken a monitor is owned by the thread exactly as often as its own list says
told_level : (setting : Setting) (p : PassView) (l : ListView) → StateTold setting (view_of p) l → (o d : ℕ) → o < MONITORS →
    (monitor_state (monitor_of l o) ≡ Owned p.own.id d) ↔ ((slice_index_or (levels_of p.own.mine) o 0 ≡ d) × (0 < d))
told_level setting p l told o d near =
    let same : shelf_of p ≡ told.shelf = first_shelf (shelf_of p) told.shelf told.one in
    let k : AreEvents told.log p.own.id p.own.mine = subst (λ (s : Shelf). AreEvents told.log s.thread s.marked) (sym same) told.own in
    subst (λ m. (m ≡ Owned p.own.id d) ↔ ((slice_index_or (levels_of p.own.mine) o 0 ≡ d) × (0 < d))) (told.is.monitors o)
    (levels_tell setting told.log told.now p.own.id p.own.mine told.allowed k o d near)

-- a monitor whose state is owned by a thread to a depth is told as that thread and depth
owned_as : (m : Option (ℕ × ℕ)) (t d : ℕ) → monitor_state m ≡ Owned t d → m ≡ Some (t, d)
owned_as None t d e = absurd (let w : Free ≡ Owned t d = e in cc)
owned_as (Some o) t d e = let a : o.0 ≡ t = cc in let b : o.1 ≡ d = cc in (λ i. Some (a i, b i))

-- it leaves the monitor, which it is in
left_code : (setting : Setting) (p : PassView) (l : ListView) (o : ℕ) → StateTold setting (view_of p) l
    → MayAct setting p.own.id l (Rel o) (pos 0) → (if slice_index_or (levels_of p.own.mine) o 0 == 0 then not_owner else 0) ≡ 0
left_code setting p l o told may =
    let d = may.2.0 in
    let level = (told_level setting p l told o (d + 1) may.0).0 (ap monitor_state may.2.1) in
    let is = level.0 in
    ap (λ (b : Bool). if b then not_owner else 0) (ne_eqb (slice_index_or (levels_of p.own.mine) o 0) 0 (λ e. absurd (omega arith)))

-- a thread to whom leaving a monitor may fail is outside it
outside : (setting : Setting) (t o : ℕ) (l : ListView) → MayFail setting t l not_owner (pos o) → IsOutside l t o
outside setting t o l (inl w) = let same : o ≡ w.1.0 = (let e = w.1.1 in cc) in subst (IsOutside l t) (sym same) w.1.3
outside setting t o l (inr (inl w)) = absurd (let e = w.0 in omega arith)
outside setting t o l (inr (inr (inl w))) = absurd (let e = w.0 in omega arith)
outside setting t o l (inr (inr (inr (inl w)))) = absurd (let e = w.0 in omega arith)
outside setting t o l (inr (inr (inr (inr w)))) = absurd (let e = w.0 in omega arith)

-- it fails, since it is not in the monitor
failed_code : (setting : Setting) (p : PassView) (l : ListView) (o : ℕ) → o < MONITORS → StateTold setting (view_of p) l
    → MayAct setting p.own.id l (Fail not_owner) (pos o) → (if slice_index_or (levels_of p.own.mine) o 0 == 0 then not_owner else 0)
    ≡ not_owner
failed_code setting p l o near told may = by (slice_index_or (levels_of p.own.mine) o 0) refl
  where
    by : (n : ℕ) → slice_index_or (levels_of p.own.mine) o 0 ≡ n
        → (if slice_index_or (levels_of p.own.mine) o 0 == 0 then not_owner else 0) ≡ not_owner
    by zero is = ap (λ (b : Bool). if b then not_owner else 0) (eq-eqb (slice_index_or (levels_of p.own.mine) o 0) 0 is)
    by (suc n) is =
        let owned = (told_level setting p l told o (suc n) near).1 (is, omega arith) in
        absurd (outside setting p.own.id o l may (suc n) (owned_as (monitor_of l o) p.own.id (suc n) owned))

-- an exit with code zero did a release with no value
code_left : (o : ℕ) (d : Done) → d.code ≡ 0 → (act_of (call.Exit o) d ≡ Rel o) × (value_of (call.Exit o) d ≡ pos 0)
code_left o d e = let b = eq-eqb d.code 0 e
    in (ap (λ (c : Bool). if c then Rel o else Fail not_owner) b, ap (λ (c : Bool). if c then pos 0 else pos o) b)

-- an exit with the code of no owner did a failure with the monitor as its value
code_failed : (o : ℕ) (d : Done) → d.code ≡ not_owner → (act_of (call.Exit o) d ≡ Fail not_owner) × (value_of (call.Exit o) d ≡ pos o)
code_failed o d e = let b = ne_eqb d.code 0 (λ z. absurd (omega arith))
    in (ap (λ (c : Bool). if c then Rel o else Fail not_owner) b, ap (λ (c : Bool). if c then pos 0 else pos o) b)

-- the code of what was done
pub exit_code : (z : TableView) (p q : PassView) (o : ℕ) (d : Done) → o < MONITORS → HasCode (call.Exit o) d
    → IsDone z p q (act_of (call.Exit o) d) (value_of (call.Exit o) d) d → d.code
    ≡ (if slice_index_or (levels_of p.own.mine) o 0 == 0 then not_owner else 0)
exit_code z p q o d near (inl e) is =
    let a = code_left o d e in
    let may : MayAct z.key.setting p.own.id is.state (Rel o) (pos 0) =
    subst (λ v. MayAct z.key.setting p.own.id is.state (Rel o) v) a.1
    (subst (λ x. MayAct z.key.setting p.own.id is.state x (value_of (call.Exit o) d)) a.0 is.may) in
    e ∙ sym (left_code z.key.setting p is.state o is.looked.told may)
exit_code z p q o d near (inr e) is =
    let a = code_failed o d e in
    let may : MayAct z.key.setting p.own.id is.state (Fail not_owner) (pos o) =
    subst (λ v. MayAct z.key.setting p.own.id is.state (Fail not_owner) v) a.1
    (subst (λ x. MayAct z.key.setting p.own.id is.state x (value_of (call.Exit o) d)) a.0 is.may) in
    e ∙ sym (failed_code z.key.setting p is.state o near is.looked.told may)

module _ {A E : Type 0} where
  -- what follows from two things that hold of a good result holds of it
  pub ok_both : (P Q R : A → Type 0) → ((x : A) → P x → Q x → R x) → (r : Result A E) → IfOk r P → IfOk r Q → IfOk r R
  ok_both P Q R f (Ok x) h k = f x h k
  ok_both P Q R f (Err e) h k = h
