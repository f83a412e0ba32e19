-- Where nothing leads on, the list is whole or fails its program there.
use Rattle.std.proofs.Common.{◌≡◌, ℕ, zero, suc, ◌<◌, ◌≤◌, List, [], ◌∷◌, ◌++◌, length, take, drop, Some, refl, sym, ◌∙◌, ap, subst, inl, inr, arith}
use Rattle.std.specs.Prelude.{◌⊎◌}
use Rattle.gl_model.specs.Entries.{Entry, Over as Ended}
use Rattle.gl_model.specs.declared.limits.TheConstants.{TX_VARIABLES}
use Rattle.gl_model.specs.declared.record.Ending.{Ending}
use Rattle.gl_bytecode.specs.declared.ask.Stage.TheVariants.{Over as IsOver}
use Rattle.gl_bytecode.specs.Programs.{Bytecode}
use Rattle.gl_bytecode.specs.Runs.{Along, Exchange, Made, Quiet, Progress, Runs, entries_of, outset, told, told_one, touched, without_trims}
use Rattle.gl_bytecode.proofs.Exchanges.{told_of, told_cons}
use Rattle.gl_bytecode.proofs.Growth.{along_over, without_trims-append}
use Rattle.gl_follow.specs.Beginnings.{IsMadeUpTo, ProgramFails}
use Rattle.gl_follow.specs.Following.{Follows, Reaches, Stops}
use Rattle.gl_follow.proofs.Moving.{Begun, begun, begun_over, no_trim}
use Rattle.gl_follow.proofs.Peeling.{ByEntry, Quietly}

-- ## Lists

-- entries and none after them are those entries
append_none : (es : List Entry) → es ++ [] ≡ es
append_none [] = refl
append_none (e ∷ es) = ap (λ l. e ∷ l) (append_none es)

-- as many entries as a beginning has are that beginning
take_front : (front rest : List Entry) → take (length front) (front ++ rest) ≡ front
take_front [] rest = refl
take_front (e ∷ front) rest = ap (λ l. e ∷ l) (take_front front rest)

-- a beginning is no longer than the whole
front_within : (front rest : List Entry) → length front ≤ length (front ++ rest)
front_within [] rest = omega arith
front_within (e ∷ front) rest = (let more = front_within front rest in omega arith)

-- a beginning that is longer than the front is the front and then some of the rest
take_longer : (front rest : List Entry) (m : ℕ) → length front < m → (k : ℕ) × (take m (front ++ rest) ≡ front ++ take (suc k) rest)
take_longer [] rest zero less = absurd (omega arith)
take_longer [] rest (suc m) less = (m, refl)
take_longer (e ∷ front) rest zero less = absurd (omega arith)
take_longer (e ∷ front) rest (suc m) less = (let more = take_longer front rest m (omega arith) in (more.0, ap (λ l. e ∷ l) more.1))

-- entries are their beginning up to a place and what is left from there
pub take_back : (k : ℕ) (es : List Entry) → es ≡ take k es ++ drop k es
take_back zero es = refl
take_back (suc k) [] = refl
take_back (suc k) (e ∷ es) = ap (λ l. e ∷ l) (take_back k es)

-- two lists that are the same with one put last are the same, and so are the two that were put last
last_same : (xs ys : List Entry) (e f : Entry) → xs ++ e ∷ [] ≡ ys ++ f ∷ [] → (xs ≡ ys) × (e ≡ f)
last_same [] [] e f is = (refl, cc)
last_same [] (y ∷ []) e f is = cc
last_same [] (y ∷ (z ∷ ys)) e f is = cc
last_same (x ∷ []) [] e f is = cc
last_same (x ∷ (z ∷ xs)) [] e f is = cc
last_same (x ∷ xs) (y ∷ ys) e f is =
    let heads : x ≡ y = cc in
    let tails : xs ++ e ∷ [] ≡ ys ++ f ∷ [] = cc in
    let more = last_same xs ys e f tails in
    (ap (λ h. h ∷ xs) heads ∙ ap (λ l. y ∷ l) more.0, more.1)

-- where a front, an entry and a rest are a list with one put last, that is the entry, or it is the last of the rest
behind_front : (front rest base : List Entry) (e f : Entry) → front ++ (e ∷ rest) ≡ base ++ f ∷ []
    → ((rest ≡ []) × (base ≡ front) × (e ≡ f)) ⊎ ((more : List Entry) × (rest ≡ more ++ f ∷ []) × (base ≡ front ++ (e ∷ more)))
behind_front [] [] [] e f is = inl (refl, refl, cc)
behind_front [] (g ∷ rest) [] e f is = cc
behind_front [] rest (b ∷ base) e f is =
    let heads : b ≡ e = cc in
    let tails : rest ≡ base ++ f ∷ [] = cc in
    inr (base, tails, ap (λ h. h ∷ base) heads)
behind_front (x ∷ []) rest [] e f is = cc
behind_front (x ∷ (y ∷ front)) rest [] e f is = cc
behind_front (x ∷ front) rest (b ∷ base) e f is = by_rest (behind_front front rest base e f tails) where
  heads : b ≡ x
  heads = cc

  tails : front ++ (e ∷ rest) ≡ base ++ f ∷ []
  tails = cc

  by_rest :
      ((rest ≡ []) × (base ≡ front) × (e ≡ f)) ⊎ ((more : List Entry) × (rest ≡ more ++ f ∷ []) × (base ≡ front ++ (e ∷ more))) →
      ((rest ≡ []) × (b ∷ base ≡ x ∷ front) × (e ≡ f))
      ⊎ ((more : List Entry) × (rest ≡ more ++ f ∷ []) × (b ∷ base ≡ x ∷ (front ++ (e ∷ more))))
  by_rest (inl (none, same, entry)) = inl (none, ap (λ h. h ∷ base) heads ∙ ap (λ l. x ∷ l) same, entry)
  by_rest (inr (more, back, same)) = inr (more, back, ap (λ h. h ∷ base) heads ∙ ap (λ l. x ∷ l) same)

-- ## No machine makes an Over

-- no exchanges make an entry that says how a thread ended
no_over : (P : Bytecode) (xs : List Exchange) (p q : Progress) (ys zs : List Entry) (ending : Ending) → told P p xs ≡ Some q
    → entries_of xs ≡ ys ++ Ended ending ∷ zs → ⊥
no_over P [] p q [] zs ending is es = cc
no_over P [] p q (y ∷ ys) zs ending is es = cc
no_over P (Quiet r ∷ xs) p q ys zs ending is es =
    (let parts = told_cons P (Quiet r) xs p q is in no_over P xs parts.mid q ys zs ending parts.rest es)
no_over P (Made e ∷ xs) p q (y ∷ ys) zs ending is es =
    let parts = told_cons P (Made e) xs p q is in
    let tails : entries_of xs ≡ ys ++ Ended ending ∷ zs = cc in
    no_over P xs parts.mid q ys zs ending parts.rest tails
no_over P (Made e ∷ xs) p q [] zs ending is es =
    let parts = told_cons P (Made e) xs p q is in
    let entry : e ≡ Ended ending = cc in
    let first : told_one P (Made (Ended ending)) p
    ≡ Some parts.mid = subst (λ s. told_one P (Made s) p ≡ Some parts.mid) entry parts.first in
    let t = told_of P (Made (Ended ending)) p parts.mid first in
    let gives = t.gives in
    cc

-- ## The list

module _ (P : Bytecode) (steps t : ℕ) where
  -- where a machine that is over has followed a list up to the entry that says so, its machine runs the list
  pub holds : (front rest : List Entry) (p : Progress) (ending : Ending) → Follows P steps t front rest p → rest ≡ Ended ending ∷ []
      → p.config.stage ≡ IsOver ending → Runs P steps t (front ++ rest)
  holds front rest p ending f last over =
      subst (λ l. Runs P steps t (front ++ l)) (sym last) (along_over P steps t front p ending f.along over)

  module _ (front rest : List Entry) (p : Progress) (f : Follows P steps t front rest p) (few : touched p ≤ TX_VARIABLES)
      (stops : Stops P p rest) where
    -- no way by such entries begins here: with the next entry that is left, or none where none is left
    none_begins : (es : List Entry) (q : Progress) → ((e : Entry) (fs : List Entry) → rest ≡ e ∷ fs → (gs : List Entry) × (es ≡ e ∷ gs))
        → (rest ≡ [] → es ≡ []) → Begun P p rest es q → ⊥
    none_begins es q head none b = by_first rest refl b.first where
      by_first : (l : List Entry) → rest ≡ l → Quietly P p rest es q ⊎ ByEntry P p rest es q → ⊥
      by_first l is (inl w) = (let chosen = w.chosen in let quiet = stops.quiet in cc)
      by_first [] is (inr w) = (let same = w.same in let empty = none is in cc)
      by_first (e ∷ fs) is (inr w) =
          let h = head e fs is in
          let same : e ∷ h.0 ≡ w.entry ∷ w.later = sym h.1 ∙ w.same in
          let entry : w.entry ≡ e = cc in
          let first : told_one P (Made e) p ≡ Some w.mid = subst (λ s. told_one P (Made s) p ≡ Some w.mid) entry w.first in
          let refused = (stops.entry e fs is).1 in
          cc

    -- where an entry is left, the machine makes no beginning of the list that is longer than the front
    blocked : (e : Entry) (fs more back : List Entry) (r : Progress) → rest ≡ e ∷ fs → rest ≡ (e ∷ more) ++ back
        → Along P steps t (front ++ (e ∷ more)) r → ⊥
    blocked e fs more back r is same along = by_begun (begun P steps t front rest p f few (e ∷ more) back w.0 same w.1) where
      w : (q : Progress) × Reaches P p (without_trims (e ∷ more)) q
      w = f.onward (e ∷ more) back r same along

      entry : without_trims (e ∷ more) ≡ e ∷ without_trims more
      entry = no_trim e more (stops.entry e fs is).0

      head : (g : Entry) (gs : List Entry) → rest ≡ g ∷ gs → (hs : List Entry) × (without_trims (e ∷ more) ≡ g ∷ hs)
      head g gs is' = (let same' : e ≡ g = cc in (without_trims more, entry ∙ ap (λ h. h ∷ without_trims more) same'))

      by_begun : (without_trims (e ∷ more) ≡ []) ⊎ ((q : Progress) × Begun P p rest (without_trims (e ∷ more)) q) → ⊥
      by_begun (inl none) = (let some = entry in cc)
      by_begun (inr (q, b)) = none_begins (without_trims (e ∷ more)) q head (λ none. absurd (cc)) b

    -- no longer beginning of the list than the front is made
    longest : (m : ℕ) → length front < m → m ≤ length (front ++ rest) → IsMadeUpTo P steps t (front ++ rest) m → ⊥
    longest m less within (r, along) = by_rest rest refl where
      parts : (k : ℕ) × (take m (front ++ rest) ≡ front ++ take (suc k) rest)
      parts = take_longer front rest m less

      by_rest : (l : List Entry) → rest ≡ l → ⊥
      by_rest [] is = (let short : length (front ++ rest) ≡ length front = ap length (ap (λ l. front ++ l) is ∙ append_none front)
          in absurd (omega arith))
      by_rest (e ∷ fs) is =
          let first : take (suc parts.0) rest ≡ e ∷ take parts.0 fs = ap (take (suc parts.0)) is in
          let along' : Along P steps t (front ++ (e ∷ take parts.0 fs)) r =
          subst (λ l. Along P steps t l r) (parts.1 ∙ ap (λ l. front ++ l) first) along in
          blocked e fs (take parts.0 fs) (drop parts.0 fs) r is (is ∙ ap (λ l. e ∷ l) (take_back parts.0 fs)) along'

    -- nor is it the whole list, but where the machine is over and just that is left
    pub fails :
        (base : List Entry) (last : Ending) → front ++ rest ≡ base ++ Ended last ∷ []
        → (rest ≡ Ended last ∷ [] → p.config.stage ≡ IsOver last → ⊥) →
        ProgramFails P steps t (front ++ rest) (length front)
    fails base last whole not = record {
      within = front_within front rest;
      made = (p, subst (λ l. Along P steps t l p) (sym (take_front front rest)) f.along);
      longest = longest;
      not_whole = not_whole;
    } where
      not_whole : Runs P steps t (front ++ rest) → ⊥
      not_whole runs = by_rest rest refl where
        ends : without_trims base ++ Ended last ∷ [] ≡ without_trims runs.before ++ Ended runs.ending ∷ []
        ends = sym (without_trims-append base (Ended last ∷ [])) ∙ ap without_trims (sym whole) ∙ runs.whole

        same : (without_trims base ≡ without_trims runs.before) × (Ended last ≡ Ended runs.ending)
        same = last_same (without_trims base) (without_trims runs.before) (Ended last) (Ended runs.ending) ends

        endings : runs.ending ≡ last
        endings = (let e = same.1 in cc)

        along : Along P steps t base runs.last
        along = record { exchanges = runs.along.exchanges; made = runs.along.made ∙ sym same.0; reached = runs.along.reached }

        over : runs.last.config.stage ≡ IsOver last
        over = runs.over ∙ ap IsOver endings

        -- the next entry is not the last one, which says how the thread ended
        here : (e : Entry) (fs : List Entry) → rest ≡ e ∷ fs → fs ≡ [] → base ≡ front → e ≡ Ended last → ⊥
        here e fs is none bases entry = by_way (begun_over P steps t front rest p f few [] rest runs.last last refl way over) where
          along' : Along P steps t (front ++ []) runs.last
          along' = subst (λ l. Along P steps t l runs.last) (bases ∙ sym (append_none front)) along

          way : Reaches P p [] runs.last
          way = f.over [] rest runs.last last refl along' over

          by_way : ((p ≡ runs.last) × (without_trims [] ≡ [])) ⊎ Begun P p rest [] runs.last → ⊥
          by_way (inl (ps, empty)) =
              not (is ∙ ap (λ l. e ∷ l) none ∙ ap (λ h. h ∷ []) entry) (ap (λ (q : Progress). q.config.stage) ps ∙ over)
          by_way (inr b) = by_first b.first where
            by_first : Quietly P p rest [] runs.last ⊎ ByEntry P p rest [] runs.last → ⊥
            by_first (inl w) = (let chosen = w.chosen in let quiet = stops.quiet in cc)
            by_first (inr w) = (let same' = w.same in cc)

        by_rest : (l : List Entry) → rest ≡ l → ⊥
        by_rest [] is =
            let fronts : front ≡ base ++ Ended last ∷ [] = sym (append_none front) ∙ ap (λ l. front ++ l) (sym is) ∙ whole in
            no_over P f.along.exchanges (outset P t steps) p (without_trims base) [] last f.along.reached
            (f.along.made ∙ ap without_trims fronts ∙ without_trims-append base (Ended last ∷ []))
        by_rest (e ∷ fs) is = by_place (behind_front front fs base e (Ended last) (ap (λ l. front ++ l) (sym is) ∙ whole)) where
          by_place : ((fs ≡ []) × (base ≡ front) × (e ≡ Ended last))
              ⊎ ((more : List Entry) × (fs ≡ more ++ Ended last ∷ []) × (base ≡ front ++ (e ∷ more))) → ⊥
          by_place (inl (none, bases, entry)) = here e fs is none bases entry
          by_place (inr (more, back, bases)) =
              blocked e fs more (Ended last ∷ []) runs.last is (is ∙ ap (λ l. e ∷ l) back)
              (subst (λ l. Along P steps t l runs.last) bases along)
