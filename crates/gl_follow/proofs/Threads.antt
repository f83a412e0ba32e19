-- The lists of a record, thread by thread.
use Rattle.std.proofs.Common.{◌≡◌, ◌≢◌, ℕ, ℤ, zero, suc, ◌+◌, ◌<◌, ◌≤◌, ◌==◌, Bool, true, false, List, [], ◌∷◌, ◌++◌, length, Option, Some, None, refl, ◌∙◌, ap, subst, inl, inr, arith, unwrap_or}
use Rattle.std.specs.Prelude.{slice_get, if◌then◌else◌}
use Rattle.std.specs.List.{AllByRecursion}
use Rattle.std.proofs.lemmas.Bool.{eqb-true}
use Rattle.gl_model.specs.Entries.{Entry, Sync, Commit as Committed, Plain, Abort, Trim, Over as Ended}
use Rattle.gl_model.specs.declared.event.Act.TheVariants.{Begin}
use Rattle.gl_model.specs.declared.limits.TheConstants.{THREADS}
use Rattle.gl_model.specs.declared.record.Ending.{Ending}
use Rattle.gl_model.specs.Form.{Form, IsOver}
use Rattle.gl_model.specs.Kept.{IsListKept}
use Rattle.gl_model.specs.Lists.{list_of, lists_of}
use Rattle.gl_model.specs.Records.{At, Lists, Place}
use Rattle.gl_bytecode.specs.declared.ask.Reply.TheVariants.{Start}
use Rattle.gl_bytecode.specs.Fits.{StartsRight}
use Rattle.gl_bytecode.specs.Programs.{Bytecode}
use Rattle.gl_bytecode.specs.Runs.{Runs}
use Rattle.gl_places.specs.Places.{Before, IsFirstBy}
use Rattle.gl_follow.specs.Beginnings.{BeginsAreRight, ProgramFails, ProgramFailsAt}
use Rattle.gl_follow.specs.Following.{EachBeginsRight}
use Rattle.gl_follow.specs.Steps.{EndsWithOver}
use Rattle.gl_follow.proofs.Beginnings.{one_length}

-- ## What the lists are

-- each entry of a list that begins a thread is right, where the one at each place is
each_right : (P : Bytecode) (es : List Entry)
    → ((i at f : ℕ) (value : ℤ) → At es i (Sync at (Begin f) value) → StartsRight P (Start f value)) → EachBeginsRight P es
each_right P [] right = tt
each_right P (e ∷ es) right = (
  λ at f value same. right 0 at f value (ap Some same),
  each_right P es
      (λ i at f value there. right (suc i) at f value there),
)

-- in a record whose beginnings are right, they are right in the list of each thread
pub begins_right : (P : Bytecode) (R : Lists) (t : ℕ) → BeginsAreRight P R → EachBeginsRight P (R t)
begins_right P R t right = each_right P (R t) (λ i at f value there. right t i at f value there)

-- an entry in the last place
record Last (es : List Entry) (e : Entry) : Type 0 where
  base : List Entry
  whole : es ≡ base ++ e ∷ []

-- the entry at the place before a list's length is its last one
last_of : (es : List Entry) (i : ℕ) (e : Entry) → slice_get es i ≡ Some e → length es ≡ i + 1 → Last es e
last_of [] i e there long = cc
last_of (a ∷ []) zero e there long = (let same : a ≡ e = cc in record { base = []; whole = ap (λ h. h ∷ []) same })
last_of (a ∷ (b ∷ es)) zero e there long = absurd (omega arith)
last_of (a ∷ es) (suc i) e there long = (let more = last_of es i e there (omega arith)
    in record { base = a ∷ more.base; whole = ap (λ l. a ∷ l) more.whole })

-- an entry that says that a thread is over says how it ended
over_of : (e : Entry) → IsOver e → (ending : Ending) × (e ≡ Ended ending)
over_of (Ended ending) over = (ending, refl)
over_of (Sync at act value) over = absurd over
over_of (Committed at tx) over = absurd over
over_of (Plain x nth cached write value raised) over = absurd over
over_of (Abort tx why) over = absurd over
over_of (Trim low) over = absurd over

-- a list that is not empty, in a record of the right form, ends with how its thread ended
pub ends_with_over : (R : Lists) (t : ℕ) → Form R → R t ≢ [] → EndsWithOver (R t)
ends_with_over R t form some =
    let e = form.ends t some in
    let alone : (i : ℕ) (f : Entry) → At (R t) i f → IsOver f → length (R t)
    ≡ i + 1 = λ i f there over. (form.formed t).nothing_after i f there over in
    let last = last_of (R t) e.0 e.1.0 e.1.1 (alone e.0 e.1.0 e.1.1 e.1.2) in
    let entry = over_of e.1.0 e.1.2 in
    record {
      base = last.base;
      ending = entry.0;
      whole = last.whole ∙ ap (λ f. last.base ++ f ∷ []) entry.1;
      alone = alone;
    }

-- ## The lists of a record

-- a list that was made for a thread is its list
pub list_is : (made : List (ℕ × List Entry)) (t : ℕ) (es : List Entry) → list_of made t ≡ Some es → lists_of made t ≡ es
list_is made t es is = ap (λ o. unwrap_or o []) is

-- a thread for which no list was made has an empty one
pub list_none : (made : List (ℕ × List Entry)) (t : ℕ) → list_of made t ≡ None → lists_of made t ≡ []
list_none made t is = ap (λ o. unwrap_or o []) is

-- a list that is kept is that of one of the threads, and has an entry
pub list_kept : (made : List (ℕ × List Entry)) (t : ℕ) (es : List Entry) → AllByRecursion IsListKept made → list_of made t ≡ Some es
    → (t < THREADS) × (0 < length es)
list_kept [] t es kept is = absurd (cc)
list_kept (l ∷ made) t es kept is = by_test (l.0 == t) refl is (λ found. list_kept made t es kept.1 found) where
  by_test :
      (b : Bool) → (l.0 == t) ≡ b → (if b then Some l.1 else list_of made t) ≡ Some es
      → (list_of made t ≡ Some es → (t < THREADS) × (0 < length es)) →
      (t < THREADS) × (0 < length es)
  by_test true here found more =
      let same : l.0 ≡ t = eqb-true l.0 t here in
      let list : l.1 ≡ es = cc in
      (subst (λ n. n < THREADS) same kept.0.0, subst (λ (k : List Entry). 0 < length k) list kept.0.1)
  by_test false here found more = more found

-- a list of some length is not empty
pub some_list : (es : List Entry) → 0 < length es → es ≢ []
some_list [] less same = absurd (omega arith)
some_list (e ∷ es) less same = absurd (cc)

-- no thread past the last one has an entry
pub none_past : (made : List (ℕ × List Entry)) (t : ℕ) → AllByRecursion IsListKept made → THREADS ≤ t → lists_of made t ≡ []
none_past made t kept past = by_list (list_of made t) refl where
  by_list : (o : Option (List Entry)) → list_of made t ≡ o → lists_of made t ≡ []
  by_list None none = list_none made t none
  by_list (Some es) is = absurd (let k = list_kept made t es kept is in let less = k.0 in omega arith)

-- ## The first place

-- a place where a thread's program fails is the first one, where all lists of threads before it are run by their machines
pub first_of :
    (P : Bytecode) (steps : ℕ) (R : Lists) (c : Place) → R c.thread ≢ [] → ProgramFails P steps c.thread (R c.thread) c.index →
    ((u : ℕ) → u < c.thread → R u ≢ [] → Runs P steps u (R u)) → IsFirstBy Before (ProgramFailsAt P steps R) c
first_of P steps R c some fails lower = ((some, fails), λ d fails' before. none d fails' before) where
  none : (d : Place) → ProgramFailsAt P steps R d → Before d c → ⊥
  none d fails' (inl less) = fails'.1.not_whole (lower d.thread less fails'.0)
  none d fails' (inr (same, less)) =
      let here : ProgramFails P steps c.thread (R c.thread) d.index = subst (λ t. ProgramFails P steps t (R t) d.index) same fails'.1 in
      let one = one_length P steps c.thread (R c.thread) d.index c.index here fails in
      absurd (omega (arith, less, one))
