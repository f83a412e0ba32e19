-- A record is of the form exactly where each rule is kept at each place; and it fails it first at one place at most.
use Rattle.std.proofs.Common.{◌≡◌, ℕ, ◌+◌, ◌<◌, ◌≤◌, [], length, refl, sym, ◌∙◌, ap, subst, arith, inl, inr}
use Rattle.std.specs.Prelude.{◌⊎◌, ◌↔◌}
use Rattle.std.proofs.lemmas.Bool.{cases_lt, cases_order}
use Rattle.std.proofs.lemmas.Option.{slice_get_within, slice_get_cases}
use Rattle.gl_model.specs.Entries.{Entry, Trim}
use Rattle.gl_model.specs.Form.{Form, IsOver, ListForm}
use Rattle.gl_model.specs.Records.{At, Lists, Place}
use Rattle.gl_places.specs.Places.{Before, IsFirstBy}
use Rattle.gl_form.specs.Rules.{FormFails, FormFailsAt, KeepsForm}
use Rattle.gl_form.proofs.Stable.{either_over, stable_begin, stable_end, stable_form, stable_over}
use Rattle.gl_form.proofs.StableRight.{stable_right}

-- of two numbers, what is not at most the other is above it
less_or : (m n : ℕ) → (n ≤ m → ⊥) → m < n
less_or m n refuted = elim (cases_lt m n) [ inl lt ↦ lt | inr ge ↦ absurd (refuted ge) ]

-- a record of the form keeps the rules at each place
keeps_all : (R : Lists) → Form R → (t i : ℕ) → KeepsForm t (R t) i
keeps_all R form t i = record {
  main = λ first zero none. form.main (subst (λ u. R u ≡ []) first none);
  well_formed = λ e at. list.well_formed i e at;
  begins = λ e at no_trim all. list.begins i e at no_trim all;
  positions_rise = λ j p q e f at here before of_e of_f. list.positions_rise j i p q e f at here before of_e of_f;
  numbers_rise = λ x j k m e f at here before of_e of_f. list.numbers_rise j i x k m e f at here before of_e of_f;
  lows_rise = λ j low high e f at here before of_e of_f. list.lows_rise j i low high (subst (λ g. At (R t) j g) of_e at)
      (subst (λ g. At (R t) i g) of_f here) before;
  over_after_end = λ j e f next at here. list.over_after_end j e f at (subst (λ n. At (R t) n f) next here);
  nothing_after = λ j e f at here before over. (let last = list.nothing_after j e at over in
      let within = slice_get_within (R t) i f here in omega arith);
  ends = λ some last. form.ends t some;
  cached = λ x k write value at. list.cached i x k write value at;
} where
  list : ListForm t (R t)
  list = form.formed t

module _ (R : Lists) (nowhere : (c : Place) → FormFailsAt R c → ⊥) where
  -- no place of any thread's list fails a rule of form
  never : (t i : ℕ) → FormFails t (R t) i → ⊥
  never t i fault = nowhere (record { thread = t; index = i }) fault

  -- the list of each thread is of the form
  list_form : (t : ℕ) → ListForm t (R t)
  list_form t = record {
    well_formed = λ i e at. stable_form t e (λ wrong. never t i (λ keeps. wrong (keeps.well_formed e at)));
    begins = λ i e at no_trim first. stable_begin e (λ wrong. never t i (λ keeps. wrong (keeps.begins e at no_trim first)));
    positions_rise =
        λ i j p q e f at also before of_e of_f. less_or p q (λ falls. never t j
        (λ keeps. let less = keeps.positions_rise i p q e f at also before of_e of_f in omega arith));
    numbers_rise =
        λ i j x k m e f at also before of_e of_f. less_or k m (λ falls. never t j
        (λ keeps. let less = keeps.numbers_rise x i k m e f at also before of_e of_f in omega arith));
    lows_rise = λ i j low high at also before. less_or low high (λ falls. never t j
        (λ keeps. let less = keeps.lows_rise i low high (Trim low) (Trim high) at also before refl refl in omega arith));
    over_after_end = λ i e f at also. (
      λ ends. stable_over f (λ wrong. never t (i + 1) (λ keeps. wrong ((keeps.over_after_end i e f refl at also).0 ends))),
      λ over. stable_end e (λ wrong. never t (i + 1) (λ keeps. wrong ((keeps.over_after_end i e f refl at also).1 over))),
    );
    nothing_after = λ i e at over. last i e at over;
    cached = λ i x k write value at. stable_right (R t) i x k write (λ wrong. never t i (λ keeps. wrong (keeps.cached x k write value at)));
  } where
    -- an Over is the last entry of its list
    last : (i : ℕ) (e : Entry) → At (R t) i e → IsOver e → length (R t) ≡ i + 1
    last i e at over = elim (slice_get_cases (R t) (i + 1)).1 [
      | inl there ↦ absurd (never t (i + 1) (λ keeps. keeps.nothing_after i e there.0 at there.2 (omega arith) over))
      | inr past ↦ (let ge = past.0 in let within = slice_get_within (R t) i e at in omega arith)
    ]

  -- the record is of the form
  form : Form R
  form = record {
    main = λ none. never 0 0 (λ keeps. keeps.main refl refl none);
    formed = list_form;
    ends = λ t some. elim (either_over (R t)) [
      | inl found ↦ found
      | inr none ↦ absurd (never t (length (R t)) (λ keeps. let over = keeps.ends some refl in none over.0 over.1.0 over.1.1 over.1.2))
    ];
  }

-- a record is of the form exactly where no place fails it
pub formed_exactly : (R : Lists) → Form R ↔ ((c : Place) → FormFailsAt R c → ⊥)
formed_exactly R = ((λ is c fails. fails (keeps_all R is c.thread c.index)), form R)

-- the place of a thread with an index
abbrev at_place : ℕ → ℕ → Place
at_place t i = record { thread = t; index = i }

-- places with one thread and one index are one place
same_place : (c d : Place) → c.thread ≡ d.thread → c.index ≡ d.index → c ≡ d
same_place c d threads indices = ap (λ (n : ℕ). at_place n c.index) threads ∙ ap (λ (n : ℕ). at_place d.thread n) indices

-- the form fails first at one place at most
pub one_first : (R : Lists) (c d : Place) → IsFirstBy Before (FormFailsAt R) c → IsFirstBy Before (FormFailsAt R) d → c ≡ d
one_first R c d first also = by_thread (cases_order c.thread d.thread) where
  by_index : c.thread ≡ d.thread → (c.index ≡ d.index) ⊎ ((c.index < d.index) ⊎ (d.index < c.index)) → c ≡ d
  by_index threads (inl same) = same_place c d threads same
  by_index threads (inr (inl lt)) = absurd (also.1 c first.0 (inr (threads, lt)))
  by_index threads (inr (inr gt)) = absurd (first.1 d also.0 (inr (sym threads, gt)))

  by_thread : (c.thread ≡ d.thread) ⊎ ((c.thread < d.thread) ⊎ (d.thread < c.thread)) → c ≡ d
  by_thread (inl same) = by_index same (cases_order c.index d.index)
  by_thread (inr (inl lt)) = absurd (also.1 c first.0 (inl lt))
  by_thread (inr (inr gt)) = absurd (first.1 d also.0 (inl gt))
