-- A machine that is driven along a list makes its entries, each by the instruction that it stands at.
use Rattle.std.proofs.Common.{◌≡◌, ℕ, zero, suc, ◌+◌, ◌≤◌, List, [], ◌∷◌, ◌++◌, Option, Some, None, length, map, drop, refl, sym, ◌∙◌, ap, subst, inl, inr, arith, length-append}
use Rattle.std.specs.Prelude.{◌⊎◌, slice_get}
use Rattle.gl_model.specs.Entries.{Entry, Sync, Commit, Plain, Abort, Trim, Over, seen}
use Rattle.gl_model.specs.declared.record.Entry.{Entry as StoredEntry}
use Rattle.gl_model.specs.Form.{IsTrim}
use Rattle.gl_model.specs.declared.limits.TheConstants.{TX_VARIABLES}
use Rattle.gl_bytecode.specs.declared.ask.Stage.{Stage}
use Rattle.gl_bytecode.specs.declared.ask.Stage.TheVariants as stages
use Rattle.gl_bytecode.specs.Fits.{Fits}
use Rattle.gl_bytecode.specs.Machine.{Frame, fresh}
use Rattle.gl_bytecode.specs.Programs.{Bytecode}
use Rattle.gl_bytecode.specs.Runs.{Made, Progress, Runs, outset, told_one, touched}
use Rattle.gl_vm.specs.declared.standing.Site.{Site}
use Rattle.gl_vm.specs.Standing.{site_at, site_of}
use Rattle.gl_follow.specs.Following.{EachBeginsRight, Stops}
use Rattle.gl_follow.specs.Steps.{CanGo, EndsAt, EndsWithOver, GoesQuietly, IsAt, Passes, StaysSilent}
use Rattle.gl_follow.proofs.Turning.{at_by, begins, drop_map, turned, unwhole_fails}
use Rattle.gl_sites.specs.declared.making.Maker.{Maker}
use Rattle.gl_sites.specs.declared.making.Maker.TheVariants.{Note}
use Rattle.gl_sites.specs.Makers.{AreFirstMakers, AreMakers, IsMaker, PassesBy, maker_by, maker_of}
use Rattle.gl_sites.specs.Sites.{IsAnswered, IsNote, IsOfInstruction}

-- the machine has come to p by the entries whose makers these are
pub record AreMadeTo (P : Bytecode) (steps t : ℕ) (es : List Entry) (p : Progress) (makers : List Maker) : Type 0 where
  pub at : IsAt P steps t es p (length makers)
  pub made : AreFirstMakers P steps t es makers

-- ## Lists

-- what a list has with one more at its end
more_at : {A : Type 0} (xs : List A) (x y : A) (n : ℕ) → slice_get (xs ++ x ∷ []) n ≡ Some y
    → (slice_get xs n ≡ Some y) ⊎ ((n ≡ length xs) × (x ≡ y))
more_at [] x y zero there = inr (refl, cc)
more_at [] x y (suc n) there = absurd (cc)
more_at (a ∷ xs) x y zero there = inl there
more_at (a ∷ xs) x y (suc n) there = elim (more_at xs x y n there) [
  | inl before ↦ inl before
  | inr last ↦ inr (ap suc last.0, last.1)
]

-- ## The maker of one entry

-- at each stage an instruction is at work, and its place is the frame's, or none is
by_stage : (s : Stage) (f : Frame) → ((site : Site) × (site_at s f ≡ Some site) × IsOfInstruction s × (f.function ≡ site.function)
    × (f.place ≡ site.place))
    ⊎ ((site_at s f ≡ None) × (IsOfInstruction s → ⊥))
by_stage stages.New f = inr (refl, λ never. never)
by_stage stages.Begins f = inr (refl, λ never. never)
by_stage stages.Runs f = inr (refl, λ never. never)
by_stage (stages.Waits ask) f = inl (record { function = f.function; place = f.place }, refl, tt, refl, refl)
by_stage (stages.Drops failure) f = inl (record { function = f.function; place = f.place }, refl, tt, refl, refl)
by_stage (stages.Leaves ending o) f = inr (refl, λ never. never)
by_stage (stages.Ends ending) f = inr (refl, λ never. never)
by_stage (stages.Over ending) f = inr (refl, λ never. never)

-- what is left of a list of the program
pub rest_is : (list rest : List StoredEntry) (k n : ℕ) → rest ≡ drop k list → k ≡ n → map seen rest ≡ drop n (map seen list)
rest_is list rest k n is same = ap (map seen) is ∙ drop_map seen k list ∙ ap (λ i. drop i (map seen list)) same

-- the first entry of a list of the program, as definitions see it
first_is : (rest : List StoredEntry) (e : StoredEntry) → slice_get rest 0 ≡ Some e → (later : List Entry) × (map seen rest ≡ seen e ∷ later)
first_is [] e there = absurd (cc)
first_is (a ∷ rest) e there = (let same : a ≡ e = cc in (map seen rest, ap (λ b. seen b ∷ map seen rest) same))

-- a machine that no silent reply moves passes the next entry, and what its stage and the entry say made it
pub passes_by : (P : Bytecode) (p r q : Progress) (rest : List StoredEntry) (e : StoredEntry) (site : Option Site) (m : Maker)
    → slice_get rest 0 ≡ Some e → StaysSilent p (map seen rest) r → site ≡ site_of r.config → Passes P r (seen e) q
    → m ≡ maker_of site (seen e) → PassesBy P p (map seen rest) q m
passes_by P p r q rest e site m there silent stands passes by =
    let first = first_is rest e there in
    record {
      first = record {
        entry = seen e;
        later = first.0;
        same = first.1;
        none = silent.0;
        passes = subst (λ s. Passes P s (seen e) q) silent.1 passes;
      };
      by = by ∙ ap (λ o. maker_of o (seen e)) (stands ∙ ap (λ (s : Progress). site_of s.config) silent.1);
    }

module _ (P : Bytecode) (steps t : ℕ) (es : List Entry) where
  -- an entry that answers a machine is made by what the machine's stage says
  answered_by : (p : Progress) (n : ℕ) → IsAnswered P steps t es n p → IsMaker P steps t es n (maker_by (site_of p.config))
  answered_by p n is = elim (by_stage p.config.stage p.config.frame) [
    | inl (site, standing, by, function, place) ↦
        subst (λ o. IsMaker P steps t es n (maker_by o)) (sym standing)
        (record { asking = p; is = is; by = by; function = function; place = place })
    | inr (none, never) ↦ subst (λ o. IsMaker P steps t es n (maker_by o)) (sym none) (record { asking = p; is = is; by_none = never })
  ]

  -- the entry is a note, or answers the machine
  of_entry : (p q : Progress) (n : ℕ) (e : Entry) → slice_get es n ≡ Some e → IsAt P steps t es p n
      → (IsTrim e × (q ≡ p)) ⊎ ((IsTrim e → ⊥) × (told_one P (Made e) p ≡ Some q)) → IsMaker P steps t es n (maker_of (site_of p.config) e)
  of_entry p q n (Trim low) there a way = record { entry = Trim low; there = there; note = inl tt }
  of_entry p q n (Over ending) there a way = record { entry = Over ending; there = there; note = inr tt }
  of_entry p q n (Sync at act value) there a (inl trim) = absurd (trim.0)
  of_entry p q n (Sync at act value) there a (inr answer) = answered_by p n (record {
    entry = Sync at act value;
    next = q;
    there = there;
    along = a.follows.along;
    answered = answer.1;
  })
  of_entry p q n (Commit at tx) there a (inl trim) = absurd (trim.0)
  of_entry p q n (Commit at tx) there a (inr answer) = answered_by p n (record {
    entry = Commit at tx;
    next = q;
    there = there;
    along = a.follows.along;
    answered = answer.1;
  })
  of_entry p q n (Plain x nth cached write value raised) there a (inl trim) = absurd (trim.0)
  of_entry p q n (Plain x nth cached write value raised) there a (inr answer) = answered_by p n (record {
    entry = Plain x nth cached write value raised;
    next = q;
    there = there;
    along = a.follows.along;
    answered = answer.1;
  })
  of_entry p q n (Abort tx why) there a (inl trim) = absurd (trim.0)
  of_entry p q n (Abort tx why) there a (inr answer) = answered_by p n (record {
    entry = Abort tx why;
    next = q;
    there = there;
    along = a.follows.along;
    answered = answer.1;
  })

  -- the first makers of a list and that of the next entry are its first makers, one more
  one_more : (makers : List Maker) (m : Maker) → AreFirstMakers P steps t es makers → IsMaker P steps t es (length makers) m
      → AreFirstMakers P steps t es (makers ++ m ∷ [])
  one_more makers m before here n k there = elim (more_at makers m k n there) [
    | inl earlier ↦ before n k earlier
    | inr (place, same) ↦ subst (λ i. IsMaker P steps t es i k) (sym place) (subst (IsMaker P steps t es (length makers)) same here)
  ]

  -- ## Along the list

  -- before the first entry no maker is told
  pub none_made : Fits P (fresh P t steps) → EachBeginsRight P es → AreMadeTo P steps t es (outset P t steps) []
  none_made fits right = record { at = begins P steps t es fits right; made = λ n m there. absurd (cc) }

  -- a reply that leaves no entry keeps the makers that are told
  pub goes_quietly : (p q : Progress) (makers : List Maker) → AreMadeTo P steps t es p makers → touched p ≤ TX_VARIABLES
      → GoesQuietly P p (drop (length makers) es) q → CanGo P q → AreMadeTo P steps t es q makers
  goes_quietly p q makers so_far few goes can = record {
    at = subst (IsAt P steps t es q) (omega arith) (turned P steps t es p q (length makers) 0 so_far.at few (inl (refl, goes)) can);
    made = so_far.made;
  }

  -- an entry that is passed adds its maker to those that are told
  pub goes_by : (p q : Progress) (makers : List Maker) (m : Maker) → AreMadeTo P steps t es p makers → touched p ≤ TX_VARIABLES
      → PassesBy P p (drop (length makers) es) q m → CanGo P q → AreMadeTo P steps t es q (makers ++ m ∷ [])
  goes_by p q makers m so_far few passes can =
      let first = passes.first in
      let here : IsMaker P steps t es (length makers) (maker_of (site_of p.config) first.entry) =
      of_entry p q (length makers) first.entry (at_by es (length makers) first.entry first.later first.same) so_far.at first.passes in
      record {
        at =
            subst (IsAt P steps t es q) (sym (length-append makers (m ∷ [])))
            (turned P steps t es p q (length makers) 1 so_far.at few (inr (refl, first)) can);
        made = one_more makers m so_far.made (subst (IsMaker P steps t es (length makers)) (sym passes.by) here);
      }

  -- where it goes no further, the entry that says how the thread ended is left
  left_over : (p : Progress) (n : ℕ) → EndsAt P steps t es p n → EndsWithOver es → Runs P steps t es → (l : List Entry) → drop n es ≡ l
      → IsNote es n × (length es ≡ n + 1)
  left_over p n ends over runs [] is =
      absurd ((unwhole_fails P steps t es p n ends over (λ w. (let same = w.same in cc))).not_whole runs)
  left_over p n ends over runs (Over ending ∷ l) is =
      let there = at_by es n (Over ending) l is in
      (record { entry = Over ending; there = there; note = inr tt }, over.alone n (Over ending) there tt)
  left_over p n ends over runs (Trim low ∷ l) is =
      absurd ((unwhole_fails P steps t es p n ends over (λ w. (let same = w.same in cc))).not_whole runs)
  left_over p n ends over runs (Sync at act value ∷ l) is =
      absurd ((unwhole_fails P steps t es p n ends over (λ w. (let same = w.same in cc))).not_whole runs)
  left_over p n ends over runs (Commit at tx ∷ l) is =
      absurd ((unwhole_fails P steps t es p n ends over (λ w. (let same = w.same in cc))).not_whole runs)
  left_over p n ends over runs (Plain x nth cached write value raised ∷ l) is =
      absurd ((unwhole_fails P steps t es p n ends over (λ w. (let same = w.same in cc))).not_whole runs)
  left_over p n ends over runs (Abort tx why ∷ l) is =
      absurd ((unwhole_fails P steps t es p n ends over (λ w. (let same = w.same in cc))).not_whole runs)

  -- where a machine stops at the end of a list that it runs, the makers told and a note for the last entry are the makers of the
  -- list
  pub all_made : (p : Progress) (makers : List Maker) → AreMadeTo P steps t es p makers → touched p ≤ TX_VARIABLES
      → Stops P p (drop (length makers) es) → EndsWithOver es → Runs P steps t es → AreMakers P steps t es (makers ++ Note ∷ [])
  all_made p makers so_far few stops over runs =
      let last = left_over p (length makers) (record { at = so_far.at; few = few; stops = stops }) over runs
      (drop (length makers) es) refl in
      record { all = length-append makers (Note ∷ []) ∙ sym last.1; each = one_more makers Note so_far.made last.0 }
