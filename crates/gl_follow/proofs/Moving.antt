-- A machine that is driven along a list by the exchanges that are forced.
use Rattle.std.proofs.Common.{◌≡◌, ℕ, ◌≤◌, List, [], ◌∷◌, ◌++◌, Option, Some, None, refl, sym, ◌∙◌, ap, subst, inl, inr}
use Rattle.std.specs.Prelude.{◌⊎◌}
use Rattle.gl_model.specs.Entries.{Entry, Sync, Commit as Committed, Plain, Abort, Trim, Over as Ended}
use Rattle.gl_model.specs.declared.limits.TheConstants.{TX_VARIABLES}
use Rattle.gl_model.specs.declared.record.Ending.{Ending}
use Rattle.gl_model.specs.Form.{IsTrim}
use Rattle.gl_bytecode.specs.declared.ask.Ask.TheVariants.{Over as AskOver}
use Rattle.gl_bytecode.specs.declared.ask.Reply.{Reply}
use Rattle.gl_bytecode.specs.declared.ask.Stage.TheVariants.{Over as IsOver}
use Rattle.gl_bytecode.specs.Attending.{Attends}
use Rattle.gl_bytecode.specs.Fits.{Fits}
use Rattle.gl_bytecode.specs.Machine.{Attempt, ask_of, fresh}
use Rattle.gl_bytecode.specs.Programs.{Bytecode}
use Rattle.gl_bytecode.specs.Runs.{Along, Exchange, Made, Quiet, Progress, entries_of, outset, told, told_one, touched, without_trims}
use Rattle.gl_bytecode.proofs.Exchanges.{told_none}
use Rattle.gl_bytecode.proofs.Growth.{along_new, along_quiet, along_made, along_trim, without_trims-append}
use Rattle.gl_vm.specs.Orderly.{IsOrderly}
use Rattle.gl_vm.proofs.Work.{orderly_fresh}
use Rattle.gl_follow.specs.Following.{EachBeginsRight, Follows, Reaches, quiet_at, quiet_for}
use Rattle.gl_follow.proofs.Peeling.{ByEntry, Cut, Leads, Quietly, all_fit, cut, peel, told_fits}

-- ## Lists

-- an entry that is no trim stays where the trims are left out
pub no_trim : (e : Entry) (es : List Entry) → (IsTrim e → ⊥) → without_trims (e ∷ es) ≡ e ∷ without_trims es
no_trim (Trim low) es not = absurd (not tt)
no_trim (Sync at act value) es not = refl
no_trim (Committed at tx) es not = refl
no_trim (Plain x nth cached write value raised) es not = refl
no_trim (Abort tx why) es not = refl
no_trim (Ended ending) es not = refl

-- entries, one more and others are the same however they are put together
pub behind_one : (front : List Entry) (e : Entry) (more : List Entry) → (front ++ e ∷ []) ++ more ≡ front ++ (e ∷ more)
behind_one [] e more = refl
behind_one (f ∷ front) e more = ap (λ l. f ∷ l) (behind_one front e more)

-- where each entry of a list that begins a thread is right, each in the front of the list is
right_front : (P : Bytecode) (es back : List Entry) → EachBeginsRight P (es ++ back) → EachBeginsRight P es
right_front P [] back right = tt
right_front P (e ∷ es) back right = (right.0, right_front P es back right.1)

-- where each entry of a list that begins a thread is right, each is in the list without its trims
right_trims : (P : Bytecode) (es : List Entry) → EachBeginsRight P es → EachBeginsRight P (without_trims es)
right_trims P [] right = tt
right_trims P (Trim low ∷ es) right = right_trims P es right.1
right_trims P (Sync at act value ∷ es) right = (right.0, right_trims P es right.1)
right_trims P (Committed at tx ∷ es) right = (right.0, right_trims P es right.1)
right_trims P (Plain x nth cached write value raised ∷ es) right = (right.0, right_trims P es right.1)
right_trims P (Abort tx why ∷ es) right = (right.0, right_trims P es right.1)
right_trims P (Ended ending ∷ es) right = (right.0, right_trims P es right.1)

-- an option that is there is one thing
same_some : {A : Type 0} (o : Option A) (m n : A) → o ≡ Some m → o ≡ Some n → m ≡ n
same_some o m n first second = cc

-- ## Ways from here

-- a machine that is over takes no reply
quiet_over : (p : Progress) (list : List Entry) (ending : Ending) → p.config.stage ≡ IsOver ending
    → quiet_for p list (ask_of p.config.stage) ≡ None
quiet_over p list ending over = ap (λ s. quiet_for p list (ask_of s)) over ∙ at p.config.attempt where
  at : (o : Option Attempt) → quiet_at o p list (AskOver ending) ≡ None
  at None = refl
  at (Some a) = refl

-- a machine that is over runs no attempt
over_outside : (P : Bytecode) (q : Progress) (ending : Ending) → Fits P q.config → q.config.stage ≡ IsOver ending → q.config.attempt ≡ None
over_outside P q ending fits over = at q.config.attempt refl where
  at : (o : Option Attempt) → q.config.attempt ≡ o → q.config.attempt ≡ None
  at None is = is
  at (Some a) is =
      let inside : Attends (Some a) (AskOver ending) =
      subst (λ s. Attends (Some a) (ask_of s)) over (subst (λ o. Attends o (ask_of q.config.stage)) is fits.attends) in
      absurd inside

-- how a way that ends outside attempts begins
pub record Begun (P : Bytecode) (p : Progress) (list es : List Entry) (q : Progress) : Type 0 where
  pub first : Quietly P p list es q ⊎ ByEntry P p list es q

module _ (P : Bytecode) (steps t : ℕ) where
  -- a new machine that fits follows a list whose beginnings are right, with nothing of it passed yet
  pub begin_follow : (es : List Entry) → Fits P (fresh P t steps) → EachBeginsRight P es → Follows P steps t [] es (outset P t steps)
  begin_follow es fits right = record {
    along = along_new P steps t;
    fits = fits;
    orderly = orderly_fresh P t steps;
    right = right;
    onward = λ more back r same along. (r, record { exchanges = along.exchanges; entries = along.made; reached = along.reached });
    over = λ more back r ending same along over. record { exchanges = along.exchanges; entries = along.made; reached = along.reached };
  }

  -- what is left of a list is led by the entries at its front without their trims
  leads : (more back rest : List Entry) → rest ≡ more ++ back → Leads rest (without_trims more)
  leads more back rest same = record { back = without_trims back; same = ap without_trims same ∙ without_trims-append more back }

  module _ (front rest : List Entry) (p : Progress) (f : Follows P steps t front rest p) (few : touched p ≤ TX_VARIABLES) where
    -- the entries of a way past the front of what is left have right beginnings
    way_right : (more back : List Entry) (q : Progress) → rest ≡ more ++ back → (way : Reaches P p (without_trims more) q)
        → EachBeginsRight P (entries_of way.exchanges)
    way_right more back q same way =
        subst (EachBeginsRight P) (sym way.entries) (right_trims P more (right_front P more back (subst (EachBeginsRight P) same f.right)))

    -- a way by some entry begins with what is forced
    pub begun :
        (more back : List Entry) (q : Progress) → rest ≡ more ++ back → Reaches P p (without_trims more) q →
        (without_trims more ≡ []) ⊎ ((r : Progress) × Begun P p rest (without_trims more) r)
    begun more back q same way = by_cut (cut P way.exchanges p q f.fits (way_right more back q same way) way.reached) where
      by_way :
          (xs : List Exchange) (r : Progress) → entries_of xs ≡ entries_of way.exchanges → told P p xs ≡ Some r → r.config.attempt ≡ None →
          (without_trims more ≡ []) ⊎ ((q' : Progress) × Begun P p rest (without_trims more) q')
      by_way [] r entries reached outside = inl (sym (entries ∙ way.entries))
      by_way (x ∷ xs) r entries reached outside =
          inr (
            r,
            record {
              first = peel P p r x xs rest (without_trims more) few (leads more back rest same) (entries ∙ way.entries)
                  reached outside;
            },
          )

      by_cut : (entries_of way.exchanges ≡ []) ⊎ Cut P p (entries_of way.exchanges) → (without_trims more ≡ [])
          ⊎ ((r : Progress) × Begun P p rest (without_trims more) r)
      by_cut (inl none) = inl (sym way.entries ∙ none)
      by_cut (inr c) = by_way c.way.exchanges c.last c.way.entries c.way.reached c.outside

    -- a way that leads to a machine that is over leads nowhere else, by no entries, or begins with what is forced
    pub begun_over :
        (more back : List Entry) (q : Progress) (ending : Ending) → rest ≡ more ++ back → Reaches P p (without_trims more) q →
        q.config.stage ≡ IsOver ending → ((p ≡ q) × (without_trims more ≡ [])) ⊎ Begun P p rest (without_trims more) q
    begun_over more back q ending same way over = by_way way.exchanges way.entries way.reached where
      outside : q.config.attempt ≡ None
      outside = over_outside P q ending (all_fit P way.exchanges p q f.fits (way_right more back q same way) way.reached) over

      by_way :
          (xs : List Exchange) → entries_of xs ≡ without_trims more → told P p xs ≡ Some q →
          ((p ≡ q) × (without_trims more ≡ [])) ⊎ Begun P p rest (without_trims more) q
      by_way [] entries reached = inl (told_none P p q reached, sym entries)
      by_way (x ∷ xs) entries reached =
          inr (record { first = peel P p q x xs rest (without_trims more) few (leads more back rest same) entries reached outside })

    -- the rest of a way that begins by the reply that was chosen
    rest_quiet :
        (reply : Reply) (q r : Progress) (es : List Entry) → quiet_for p rest (ask_of p.config.stage) ≡ Some reply
        → told_one P (Quiet reply) p ≡ Some q →
        Begun P p rest es r → Reaches P q es r
    rest_quiet reply q r es chosen first b = by_first b.first where
      by_first : Quietly P p rest es r ⊎ ByEntry P p rest es r → Reaches P q es r
      by_first (inl w) =
          let replies : w.reply ≡ reply = same_some (quiet_for p rest (ask_of p.config.stage)) w.reply reply w.chosen chosen in
          let first' : told_one P (Quiet reply) p ≡ Some w.mid = subst (λ s. told_one P (Quiet s) p ≡ Some w.mid) replies w.first in
          let mids : w.mid ≡ q = same_some (told_one P (Quiet reply) p) w.mid q first' first in
          subst (λ m. Reaches P m es r) mids w.rest
      by_first (inr w) = (let none = w.none in cc)

    -- a way by no entries leads from a machine to where it is
    no_way : (q : Progress) (es : List Entry) → es ≡ [] → Reaches P q es q
    unfolding told
    no_way q es none = record { exchanges = []; entries = sym none; reached = refl }

    -- a machine that follows a list still follows it after the reply that leaves no entry, where it is orderly then
    pub move_quiet :
        (reply : Reply) (q : Progress) → quiet_for p rest (ask_of p.config.stage) ≡ Some reply → told_one P (Quiet reply) p ≡ Some q →
        IsOrderly P q.config → Follows P steps t front rest q
    move_quiet reply q chosen first orderly = record {
      along = along_quiet P steps t front p q reply f.along first;
      fits = told_fits P (Quiet reply) p q f.fits tt first;
      orderly = orderly;
      right = f.right;
      onward = λ more back r same along. onward more (f.onward more back r same along) (λ w. begun more back w.0 same w.1);
      over = λ more back r ending same along over. to_end more r ending over
          (begun_over more back r ending same (f.over more back r ending same along over) over);
    } where
      onward :
          (more : List Entry) → (r : Progress) × Reaches P p (without_trims more) r →
          ((r : Progress) × Reaches P p (without_trims more) r → (without_trims more ≡ [])
          ⊎ ((r : Progress) × Begun P p rest (without_trims more) r)) →
          (r : Progress) × Reaches P q (without_trims more) r
      onward more w begins = by_begun (begins w) where
        by_begun : (without_trims more ≡ []) ⊎ ((r : Progress) × Begun P p rest (without_trims more) r) → (r : Progress)
            × Reaches P q (without_trims more) r
        by_begun (inl none) = (q, no_way q (without_trims more) none)
        by_begun (inr (r, b)) = (r, rest_quiet reply q r (without_trims more) chosen first b)

      to_end :
          (more : List Entry) (r : Progress) (ending : Ending) → r.config.stage ≡ IsOver ending →
          ((p ≡ r) × (without_trims more ≡ [])) ⊎ Begun P p rest (without_trims more) r → Reaches P q (without_trims more) r
      to_end more r ending over (inl (same, none)) =
          let now : p.config.stage ≡ IsOver ending = ap (λ (m : Progress). m.config.stage) same ∙ over in
          let silent = quiet_over p rest ending now in
          absurd (cc)
      to_end more r ending over (inr b) = rest_quiet reply q r (without_trims more) chosen first b

  -- where no reply is forced and a way begins by the entry e, its rest is a way by the entries behind e
  rest_entry :
      (e : Entry) (rest more : List Entry) (p q r : Progress) → (IsTrim e → ⊥) → quiet_for p (e ∷ rest) (ask_of p.config.stage) ≡ None →
      told_one P (Made e) p ≡ Some q → Begun P p (e ∷ rest) (without_trims (e ∷ more)) r → Reaches P q (without_trims more) r
  rest_entry e rest more p q r not none first b = by_first b.first where
    -- the way begins by no silent reply, so its rest leads on from q
    by_first : Quietly P p (e ∷ rest) (without_trims (e ∷ more)) r ⊎ ByEntry P p (e ∷ rest) (without_trims (e ∷ more)) r
        → Reaches P q (without_trims more) r
    by_first (inl w) = (let chosen = w.chosen in cc)
    by_first (inr w) =
        let same : e ∷ without_trims more ≡ w.entry ∷ w.later = sym (no_trim e more not) ∙ w.same in
        let entry : w.entry ≡ e = cc in
        let later : w.later ≡ without_trims more = cc in
        let first' : told_one P (Made e) p ≡ Some w.mid = subst (λ s. told_one P (Made s) p ≡ Some w.mid) entry w.first in
        let mids : w.mid ≡ q = same_some (told_one P (Made e) p) w.mid q first' first in
        subst (λ l. Reaches P q l r) later (subst (λ m. Reaches P m w.later r) mids w.rest)

  -- a list that starts with no trim is not empty without its trims
  has_entry : (e : Entry) (more : List Entry) → (IsTrim e → ⊥) → without_trims (e ∷ more) ≡ [] → ⊥
  has_entry e more not none = (let some = no_trim e more not in cc)

  -- a machine that is moved by the next entry, and by no silent reply before, follows the list past this entry
  pub move_entry :
      (front rest : List Entry) (e : Entry) (p q : Progress) → Follows P steps t front (e ∷ rest) p → touched p ≤ TX_VARIABLES
      → (IsTrim e → ⊥) →
      quiet_for p (e ∷ rest) (ask_of p.config.stage) ≡ None → told_one P (Made e) p ≡ Some q → IsOrderly P q.config →
      Follows P steps t (front ++ e ∷ []) rest q
  move_entry front rest e p q f few not none first orderly = record {
    along = along_made P steps t front p q e f.along first (no_trim e [] not);
    fits = told_fits P (Made e) p q f.fits f.right.0 first;
    orderly = orderly;
    right = f.right.1;
    onward = λ more back r same along.
        (let w = f.onward (e ∷ more) back r (ap (λ l. e ∷ l) same) (along_of more r along) in
        onward more (begun front (e ∷ rest) p f few (e ∷ more) back w.0 (ap (λ l. e ∷ l) same) w.1));
    over = λ more back r ending same along over.
        (let w = f.over (e ∷ more) back r ending (ap (λ l. e ∷ l) same) (along_of more r along) over in
        to_end more r (begun_over front (e ∷ rest) p f few (e ∷ more) back r ending (ap (λ l. e ∷ l) same) w over));
  } where
    -- a way along the front with e behind it, and more, is one along the front, with e and more behind it
    along_of : (more : List Entry) (r : Progress) → Along P steps t ((front ++ e ∷ []) ++ more) r → Along P steps t (front ++ (e ∷ more)) r
    along_of more r along = subst (λ l. Along P steps t l r) (behind_one front e more) along

    onward :
        (more : List Entry) → (without_trims (e ∷ more) ≡ []) ⊎ ((r : Progress) × Begun P p (e ∷ rest) (without_trims (e ∷ more)) r) →
        (r : Progress) × Reaches P q (without_trims more) r
    onward more (inl empty) = absurd (has_entry e more not empty)
    onward more (inr (r, b)) = (r, rest_entry e rest more p q r not none first b)

    to_end :
        (more : List Entry) (r : Progress) → ((p ≡ r) × (without_trims (e ∷ more) ≡ []))
        ⊎ Begun P p (e ∷ rest) (without_trims (e ∷ more)) r →
        Reaches P q (without_trims more) r
    to_end more r (inl (same, empty)) = absurd (has_entry e more not empty)
    to_end more r (inr b) = rest_entry e rest more p q r not none first b

  -- a machine follows the list past a trim as it is
  pub move_trim :
      (front rest : List Entry) (low : ℕ) (p : Progress) → Follows P steps t front (Trim low ∷ rest) p
      → Follows P steps t (front ++ Trim low ∷ []) rest p
  move_trim front rest low p f = record {
    along = along_trim P steps t front p low f.along;
    fits = f.fits;
    orderly = f.orderly;
    right = f.right.1;
    onward = λ more back r same along. f.onward (Trim low ∷ more) back r (ap (λ l. Trim low ∷ l) same) (along_of more r along);
    over = λ more back r ending same along over.
        f.over (Trim low ∷ more) back r ending (ap (λ l. Trim low ∷ l) same) (along_of more r along) over;
  } where
    -- a way along the front with the trim behind it, and more, is one along the front, with the trim and more behind it
    along_of : (more : List Entry) (r : Progress) → Along P steps t ((front ++ Trim low ∷ []) ++ more) r
        → Along P steps t (front ++ (Trim low ∷ more)) r
    along_of more r along = subst (λ l. Along P steps t l r) (behind_one front (Trim low) more) along
