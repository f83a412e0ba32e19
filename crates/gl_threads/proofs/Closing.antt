-- All threads are done, and the record of their lists is lawful.
use Rattle.std.proofs.Common.{◌≡◌, ◌≢◌, ℕ, ℤ, zero, suc, ◌<◌, ◌==◌, ◌||◌, Bool, true, false, List, [], ◌∷◌, length, refl, sym, ◌∙◌, ap, subst, arith, Some}
use Rattle.std.specs.Prelude.{slice_get, slice_index_or, if◌then◌else◌}
use Rattle.atomic_table.specs.Seated.{TableId}
use Rattle.std.specs.List.{All, list_any}
use Rattle.std.proofs.lemmas.List.Elements.{All-head, All-tail}
use Rattle.std.proofs.lemmas.Bool.Decides.{nat_tests}
use Rattle.gl_model.specs.Entries.{Entry}
use Rattle.gl_model.specs.Form.{Sparing}
use Rattle.gl_riders.specs.Sparing.{IsSpared}
use Rattle.gl_riders.proofs.Sparings.{spares_new}
use Rattle.gl_model.specs.Lawful.{IsLawful}
use Rattle.gl_model.specs.Machine.{Setting}
use Rattle.gl_model.specs.Records.{Lists}
use Rattle.gl_bytecode.specs.Lawful.{Lawful, setting_of}
use Rattle.gl_bytecode.specs.Programs.{Bytecode}
use Rattle.gl_bytecode.specs.Runs.{Runs}
use Rattle.gl_table.specs.Ending.{AreAllDone, mine_at}
use Rattle.gl_table.specs.PassView.{PassView}
use Rattle.gl_threads.specs.Aboard.{IsFinished}
use Rattle.gl_threads.specs.Crews.{CrewIsDone}
use Rattle.gl_threads.specs.Dealing.{AreBack, AreDealt, AreDone}
use Rattle.gl_threads.specs.declared.crew.Crew.{Crew}

-- a test that no crew passes is false of each
none_any : (p : Crew → Bool) (xs : List Crew) → list_any p xs ≡ false → (c : ℕ) (d : Crew) → c < length xs → p (slice_index_or xs c d)
    ≡ false
none_any p [] none c d less = absurd (omega arith)
none_any p (x ∷ xs) none zero d less = first (p x) (list_any p xs) none where
  first : (a b : Bool) → (a || b) ≡ false → a ≡ false
  first true b is = cc
  first false b is = refl
none_any p (x ∷ xs) none (suc c) d less = none_any p xs (rest (p x) (list_any p xs) none) c d (omega arith) where
  rest : (a b : Bool) → (a || b) ≡ false → b ≡ false
  rest true b is = cc
  rest false b is = is

-- the workers' threads, all done
pub record AreThrough (P : Bytecode) (steps : ℕ) (z : TableId) (W : ℕ) (crews : List Crew) : Type 0 where
  pub dealt : AreDealt W 0 16 crews
  pub done : AreDone P steps z crews

-- crews that each are done and of which none was stopped are all through
pub crews_through :
    (P : Bytecode) (steps : ℕ) (z : TableId) (W : ℕ) (old new : List Crew) → AreDealt W 0 16 old → length new ≡ length old →
    ((c : ℕ) (d : Crew) → c < length old → CrewIsDone P steps z (slice_index_or old c d) (slice_index_or new c d)) →
    list_any (λ q. q.stopped) new ≡ false → AreThrough P steps z W new
crews_through P steps z W old new dealt' long done none = record {
  dealt = record {
    long = long ∙ dealt'.long;
    ids = λ c d less. (done c d (let l = dealt'.long in omega arith)).ids ∙ dealt'.ids c d less;
  };
  done = λ c d less. (done c d (omega (arith, long))).finished (none_any (λ q. q.stopped) new none c d less);
}

-- ## The passes are back

-- what stands at a place of the passes is below their number, and is what indexing gives
index_got : (ps : List PassView) (j : ℕ) (p : PassView) → slice_get ps j ≡ Some p → (j < length ps) × (slice_index_or ps j p ≡ p)
index_got [] j p is = absurd (cc)
index_got (x ∷ ps) zero p is = (omega arith, (cc))
index_got (x ∷ ps) (suc j) p is = (let g = index_got ps j p is in ((let less = g.0 in omega arith), g.1))

-- below the number of passes indexing gives what stands there
got_index : (ps : List PassView) (j : ℕ) (d : PassView) → j < length ps → slice_get ps j ≡ Some (slice_index_or ps j d)
got_index [] j d less = absurd (omega arith)
got_index (x ∷ ps) zero d less = refl
got_index (x ∷ ps) (suc j) d less = got_index ps j d (omega arith)

-- what is true of the pass at a place
back_at : (P : Bytecode) (steps : ℕ) (z : TableId) (ps : List PassView) (j : ℕ) (p : PassView) → AreBack P steps z ps → slice_get ps j
    ≡ Some p → (p.own.id ≡ j) × IsFinished P steps z p
back_at P steps z ps j p back is =
    let g = index_got ps j p is in
    let F : PassView → Type 0 = λ v. IsFinished P steps z v in
    (ap (λ (v : PassView). v.own.id) (sym g.1) ∙ back.ids j p g.0, subst F g.1 (back.finished j p g.0))

-- sixteen passes that are back are all done
pub back_done : (P : Bytecode) (steps : ℕ) (z : TableId) (ps : List PassView) → length ps ≡ 16 → AreBack P steps z ps → AreAllDone z ps
back_done P steps z ps long back = record {
  count = long;
  each = λ j p is. (let b = back_at P steps z ps j p back is in record { table = b.1.table; id = b.0; held = b.1.held; done = b.1.done });
}

-- each pass that is back and has a list that is not empty runs by it
pub back_runs : (P : Bytecode) (steps : ℕ) (z : TableId) (ps : List PassView) → AreBack P steps z ps → (j : ℕ) (p : PassView)
    → slice_get ps j ≡ Some p → p.own.mine ≢ [] → Runs P steps j p.own.mine
back_runs P steps z ps back j p is some =
    let b = back_at P steps z ps j p back is in
    let at : ℕ → Type 0 = λ n. Runs P steps n p.own.mine in
    subst at b.0 (b.1.runs some)

-- the lists of passes that are back are sparing
pub back_spared : (P : Bytecode) (steps : ℕ) (z : TableId) (ps : List PassView) → AreBack P steps z ps → All (λ v. IsSpared v.own.mine) ps
back_spared P steps z ps back = λ j d less. (back.finished j d less).spared

-- ## Their record

-- the list of a pass is one of its thread
abbrev IsRun : Bytecode → ℕ → PassView → Type 0
IsRun P steps v = v.own.mine ≢ [] → Runs P steps v.own.id v.own.mine

-- a thread whose list among the passes is not empty runs by it, if all do
mine_runs : (P : Bytecode) (steps t : ℕ) (ps : List PassView) → All (IsRun P steps) ps → mine_at ps t ≢ [] → Runs P steps t (mine_at ps t)
mine_runs P steps t [] runs some = absurd (some refl)
mine_runs P steps t (p ∷ ps) runs some = by_test (p.own.id == t) refl some
    (λ more. mine_runs P steps t ps (All-tail (IsRun P steps) p ps runs) more) where
      by_test :
          (b : Bool) → (p.own.id == t) ≡ b → (if b then p.own.mine else mine_at ps t) ≢ []
          → (mine_at ps t ≢ [] → Runs P steps t (mine_at ps t)) →
          Runs P steps t (if b then p.own.mine else mine_at ps t)
      by_test true is some' more =
          let same : p.own.id ≡ t = grind (arith, nat_tests) in
          let at : ℕ → Type 0 = λ n. Runs P steps n p.own.mine in
          let here : IsRun P steps p = All-head (IsRun P steps) p ps runs in
          subst at same (here some')
      by_test false is some' more = more some'

-- all passes run, if each that stands among them with a list that is not empty does
all_run :
    (P : Bytecode) (steps : ℕ) (z : TableId) (ps : List PassView) → AreAllDone z ps →
    ((j : ℕ) (p : PassView) → slice_get ps j ≡ Some p → p.own.mine ≢ [] → Runs P steps j p.own.mine) → All (IsRun P steps) ps
all_run P steps z ps done runs = λ j d less some.
    (let there = got_index ps j d less in
    let p : PassView = slice_index_or ps j d in
    let at : ℕ → Type 0 = λ n. Runs P steps n p.own.mine in
    subst at (sym (done.each j p there).id) (runs j p there some))

-- the record of a table whose passes are done
pub closed_lawful :
    (P : Bytecode) (inputs : List ℤ) (steps : ℕ) (z : TableId) (setting : Setting) (ps : List PassView) (R : Lists) → setting
    ≡ setting_of P inputs → AreAllDone z ps →
    ((j : ℕ) (p : PassView) → slice_get ps j ≡ Some p → p.own.mine ≢ [] → Runs P steps j p.own.mine) → ((t : ℕ) → R t ≡ mine_at ps t)
    → IsLawful setting R → Lawful P inputs steps R
closed_lawful P inputs steps z setting ps R set done runs lists allowed = record {
  allowed = (let at : Setting → Type 0 = λ s. IsLawful s R in subst at set allowed);
  runs =
      λ t some.
      (let at : List Entry → Type 0 = λ es. Runs P steps t es in
      subst at (sym (lists t)) (mine_runs P steps t ps (all_run P steps z ps done runs) (λ none. some (lists t ∙ none))));
}

-- a thread's list among the passes is sparing, if all are
mine_spared : (t : ℕ) (ps : List PassView) → All (λ v. IsSpared v.own.mine) ps → IsSpared (mine_at ps t)
mine_spared t [] spared = spares_new.spared
mine_spared t (p ∷ ps) spared = by_test (p.own.id == t) (mine_spared t ps (All-tail (λ v. IsSpared v.own.mine) p ps spared)) where
  by_test : (b : Bool) → IsSpared (mine_at ps t) → IsSpared (if b then p.own.mine else mine_at ps t)
  by_test true more = All-head (λ v. IsSpared v.own.mine) p ps spared
  by_test false more = more

-- and it is sparing
pub closed_sparing : (ps : List PassView) (R : Lists) → All (λ v. IsSpared v.own.mine) ps → ((t : ℕ) → R t ≡ mine_at ps t) → Sparing R
closed_sparing ps R spared lists = λ t. (let at : List Entry → Type 0 = λ es. IsSpared es
    in subst at (sym (lists t)) (mine_spared t ps spared))
