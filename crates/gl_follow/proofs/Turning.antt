-- A machine that is driven along a list, by the number of entries that are passed.
use Rattle.std.proofs.Common.{◌≡◌, ℕ, zero, suc, ◌+◌, ◌-◌, ◌*◌, ◌<◌, ◌≤◌, List, [], ◌∷◌, ◌++◌, length, map, take, drop, Some, None, refl, sym, ◌∙◌, ap, subst, inl, inr, arith}
use Rattle.std.specs.Prelude.{◌⊎◌, slice_get}
use Rattle.gl_model.specs.Entries.{Entry, Sync, Commit as Committed, Plain, Abort, Trim, Over as Ended}
use Rattle.gl_model.specs.declared.limits.TheConstants.{TX_VARIABLES}
use Rattle.gl_model.specs.declared.record.Ending.{Ending}
use Rattle.gl_model.specs.Form.{IsTrim}
use Rattle.gl_bytecode.specs.declared.ask.Ask.TheVariants.{Over as AskOver}
use Rattle.gl_bytecode.specs.declared.ask.Stage.{Stage}
use Rattle.gl_bytecode.specs.declared.ask.Stage.TheVariants.{New, Begins, Runs as StageRuns, Waits, Drops, Leaves, Ends, Over as IsOver}
use Rattle.gl_bytecode.specs.Fits.{Fits}
use Rattle.gl_bytecode.specs.Machine.{Config, ask_of, fresh}
use Rattle.gl_bytecode.specs.Programs.{Bytecode}
use Rattle.gl_bytecode.specs.Runs.{Exchange, Made, Quiet, Progress, Runs, outset, told_one, touched}
use Rattle.gl_bytecode.proofs.Exchanges.{told_of}
use Rattle.gl_vm.specs.Asking.{due}
use Rattle.gl_vm.specs.Orderly.{IsAskedBy, IsOrderly, StageIsOrderly}
use Rattle.gl_vm.proofs.Work.{orderly_fresh, step_falls}
use Rattle.gl_follow.specs.Beginnings.{ProgramFails}
use Rattle.gl_follow.specs.Following.{EachBeginsRight, Follows, quiet_for}
use Rattle.gl_follow.specs.Steps.{CanGo, EndsAt, EndsWithOver, IsAt, IsWhole, Turns}
use Rattle.gl_follow.proofs.Moving.{begin_follow, move_entry, move_quiet, move_trim}
use Rattle.gl_follow.proofs.Stopping.{fails, holds, take_back}

-- ## Lists

-- what is left of a mapped list is what is left of the list, mapped
pub drop_map : {A : Type 0} {B : Type 0} (f : A → B) (n : ℕ) (xs : List A) → map f (drop n xs) ≡ drop n (map f xs)
drop_map f zero xs = refl
drop_map f (suc n) [] = refl
drop_map f (suc n) (x ∷ xs) = drop_map f n xs

-- a beginning with one entry more is the beginning and the entry that is next
take_next : (es : List Entry) (n : ℕ) (e : Entry) (fs : List Entry) → drop n es ≡ e ∷ fs → take (suc n) es ≡ take n es ++ e ∷ []
take_next [] zero e fs is = cc
take_next [] (suc n) e fs is = cc
take_next (a ∷ es) zero e fs is = (let same : a ≡ e = cc in ap (λ h. h ∷ []) same)
take_next (a ∷ es) (suc n) e fs is = ap (λ l. a ∷ l) (take_next es n e fs is)

-- what is left after the next entry is left when one more is passed
drop_next : (es : List Entry) (n : ℕ) (e : Entry) (fs : List Entry) → drop n es ≡ e ∷ fs → drop (suc n) es ≡ fs
drop_next [] zero e fs is = cc
drop_next [] (suc n) e fs is = cc
drop_next (a ∷ es) zero e fs is = cc
drop_next (a ∷ es) (suc n) e fs is = drop_next es n e fs is

-- where an entry is left, fewer are passed than there are
pub less_by : (es : List Entry) (n : ℕ) (e : Entry) (fs : List Entry) → drop n es ≡ e ∷ fs → n < length es
less_by [] zero e fs is = absurd (cc)
less_by [] (suc n) e fs is = absurd (cc)
less_by (a ∷ es) zero e fs is = omega arith
less_by (a ∷ es) (suc n) e fs is = (let more = less_by es n e fs is in omega arith)

-- the first entry that is left is the one at the number of those passed
pub at_by : (es : List Entry) (n : ℕ) (e : Entry) (fs : List Entry) → drop n es ≡ e ∷ fs → slice_get es n ≡ Some e
at_by [] zero e fs is = absurd (cc)
at_by [] (suc n) e fs is = absurd (cc)
at_by (a ∷ es) zero e fs is = (let same : a ≡ e = cc in ap Some same)
at_by (a ∷ es) (suc n) e fs is = at_by es n e fs is

-- where as many entries are passed as there are, none is left
none_left : (es : List Entry) (n : ℕ) → length es ≤ n → drop n es ≡ []
none_left [] zero le = refl
none_left [] (suc n) le = refl
none_left (a ∷ es) zero le = absurd (omega arith)
none_left (a ∷ es) (suc n) le = none_left es n (omega arith)

-- a beginning of so many entries has that length, where there are so many
take_length : (es : List Entry) (n : ℕ) → n ≤ length es → length (take n es) ≡ n
take_length es zero le = refl
take_length [] (suc n) le = absurd (omega arith)
take_length (a ∷ es) (suc n) le = ap suc (take_length es n (omega arith))

-- ## What is left to do

-- how many more answers the machine takes at most
abbrev pub answers_left : Config → ℕ
answers_left c = 4 * (c.limit - c.counted) + due c

-- each exchange of an orderly machine leaves it fewer answers to come
one_falls : (P : Bytecode) (x : Exchange) (p q : Progress) → IsOrderly P p.config → told_one P x p ≡ Some q
    → answers_left q.config < answers_left p.config
one_falls P x p q orderly is =
    let t = told_of P x p q is in
    let f = step_falls P p.config t.reply orderly t.fits in
    let less = f.less in
    let limit = f.limit in
    let within = f.orderly.within in
    let before = orderly.within in
    subst (λ (c : Config). answers_left c < answers_left p.config) (sym t.config) (omega arith)

module _ (P : Bytecode) (steps t : ℕ) (es : List Entry) where
  -- a new machine that fits is at the start of a list whose beginnings are right
  pub begins : Fits P (fresh P t steps) → EachBeginsRight P es → IsAt P steps t es (outset P t steps) 0
  begins fits right = record {
    within = omega arith;
    follows = begin_follow P steps t es fits right;
    can = record { fits = fits; orderly = orderly_fresh P t steps; in_range = tt };
  }

  -- a machine that can go on and follows the list past the next entry is at the place after it
  one_on : (p q : Progress) (n : ℕ) (e : Entry) (later : List Entry) → drop n es ≡ e ∷ later → CanGo P q
      → Follows P steps t (take n es ++ e ∷ []) later q → IsAt P steps t es q (n + 1)
  one_on p q n e later same can f =
      let next : suc n ≡ n + 1 = omega arith in
      let less = less_by es n e later same in
      subst (λ m. IsAt P steps t es q m) next (record {
        within = less;
        follows =
            subst (λ l. Follows P steps t (take (suc n) es) l q) (sym (drop_next es n e later same))
            (subst (λ l. Follows P steps t l later q) (sym (take_next es n e later same)) f);
        can = can;
      })

  -- a machine that is at a trim, and stays as it is, follows the list past it
  passed : (p q : Progress) (n : ℕ) (e : Entry) (later : List Entry) → IsAt P steps t es p n → drop n es ≡ e ∷ later → IsTrim e → q ≡ p
      → CanGo P q → Follows P steps t (take n es ++ e ∷ []) later q
  passed p q n (Trim low) later a same trim still can =
      subst (λ (r : Progress). Follows P steps t (take n es ++ Trim low ∷ []) later r) (sym still)
      (move_trim P steps t (take n es) later low p (subst (λ l. Follows P steps t (take n es) l p) same a.follows))
  passed p q n (Sync at act value) later a same trim still can = absurd trim
  passed p q n (Committed at tx) later a same trim still can = absurd trim
  passed p q n (Plain x nth cached write value raised) later a same trim still can = absurd trim
  passed p q n (Abort tx why) later a same trim still can = absurd trim
  passed p q n (Ended ending) later a same trim still can = absurd trim

  -- a turn that passes k entries leads a machine that has passed n to one that has passed n + k
  pub turned : (p q : Progress) (n k : ℕ) → IsAt P steps t es p n → touched p ≤ TX_VARIABLES → Turns P p (drop n es) q k → CanGo P q
      → IsAt P steps t es q (n + k)
  turned p q n k a few (inl (none, g)) can =
      let same : n ≡ n + k = omega (arith, none) in
      subst (λ m. IsAt P steps t es q m) same (record {
        within = a.within;
        follows = move_quiet P steps t (take n es) (drop n es) p a.follows few g.reply q g.chosen g.first can.orderly;
        can = can;
      })
  turned p q n k a few (inr (one, g)) can =
      subst (λ m. IsAt P steps t es q (n + m)) (sym one) (one_on p q n g.entry g.later g.same can (by_way g.passes)) where
        here : Follows P steps t (take n es) (g.entry ∷ g.later) p
        here = subst (λ l. Follows P steps t (take n es) l p) g.same a.follows

        by_way : (IsTrim g.entry × (q ≡ p)) ⊎ ((IsTrim g.entry → ⊥) × (told_one P (Made g.entry) p ≡ Some q))
            → Follows P steps t (take n es ++ g.entry ∷ []) g.later q
        by_way (inl (trim, still)) = passed p q n g.entry g.later a g.same trim still can
        by_way (inr (not, first)) =
            let none = subst (λ l. quiet_for p l (ask_of p.config.stage) ≡ None) g.same g.none in
            move_entry P steps t (take n es) g.later g.entry p q here few not none first can.orderly

  -- a turn leaves less to do: fewer entries and answers together
  pub turn_falls : (p q : Progress) (n k : ℕ) → IsAt P steps t es p n → Turns P p (drop n es) q k
      → (length es - (n + k)) + answers_left q.config < (length es - n) + answers_left p.config
  turn_falls p q n k a (inl (none, g)) = (let less = one_falls P (Quiet g.reply) p q a.can.orderly g.first in omega (arith, none))
  turn_falls p q n k a (inr (one, g)) = by_way g.passes where
    -- the list has an entry at n
    less : n < length es
    less = less_by es n g.entry g.later g.same

    by_way :
        (IsTrim g.entry × (q ≡ p)) ⊎ ((IsTrim g.entry → ⊥) × (told_one P (Made g.entry) p ≡ Some q)) →
        (length es - (n + k)) + answers_left q.config < (length es - n) + answers_left p.config
    by_way (inl (trim, still)) = (let same : answers_left q.config
        ≡ answers_left p.config = ap (λ (r : Progress). answers_left r.config) still in omega (arith, one, less))
    by_way (inr (not, first)) = (let falls = one_falls P (Made g.entry) p q a.can.orderly first in omega (arith, one, less))

  -- ## The end

  -- an orderly stage that asks to be over is over
  over_stage : (s : Stage) (c : Config) (ending : Ending) → StageIsOrderly P c s → ask_of s ≡ AskOver ending → s ≡ IsOver ending
  over_stage New c ending orderly is = cc
  over_stage Begins c ending orderly is = cc
  over_stage StageRuns c ending orderly is = cc
  over_stage (Waits ask) c ending orderly is = absurd (subst (IsAskedBy orderly.instr) is orderly.asks)
  over_stage (Drops failure) c ending orderly is = cc
  over_stage (Leaves e o) c ending orderly is = cc
  over_stage (Ends e) c ending orderly is = cc
  over_stage (IsOver e) c ending orderly is = (let same : e ≡ ending = cc in ap IsOver same)

  -- a list that a machine has followed to its end whole is run by it
  pub whole_runs : (p : Progress) (n : ℕ) → EndsAt P steps t es p n → EndsWithOver es → IsWhole p (drop n es) → Runs P steps t es
  whole_runs p n e over w =
      let long : length es ≡ n + 1 = over.alone n (Ended w.ending) (at_by es n (Ended w.ending) w.later w.same) tt in
      let none : w.later ≡ [] = sym (drop_next es n (Ended w.ending) w.later w.same) ∙ none_left es (suc n) (omega arith) in
      let last : drop n es ≡ Ended w.ending ∷ [] = w.same ∙ ap (λ l. Ended w.ending ∷ l) none in
      let stage = over_stage p.config.stage p.config w.ending e.at.can.orderly.stage w.over in
      subst (Runs P steps t) (sym (take_back n es)) (holds P steps t (take n es) (drop n es) p w.ending e.at.follows last stage)

  -- a list that a machine has followed as far as it can, and not whole, fails its program there
  pub unwhole_fails : (p : Progress) (n : ℕ) → EndsAt P steps t es p n → EndsWithOver es → (IsWhole p (drop n es) → ⊥)
      → ProgramFails P steps t es n
  unwhole_fails p n e over not =
      subst (λ m. ProgramFails P steps t es m) (take_length es n e.at.within)
      (subst (λ l. ProgramFails P steps t l (length (take n es))) (sym (take_back n es))
      (fails P steps t (take n es) (drop n es) p e.at.follows e.few e.stops over.base over.ending (sym (take_back n es) ∙ over.whole)
      (λ same stage. not (record { ending = over.ending; later = []; same = same; over = ap ask_of stage }))))
