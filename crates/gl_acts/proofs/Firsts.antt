-- The first place where a record is no run of the machine is one, and a run of the machine has none.
use Rattle.std.proofs.Common.{◌≡◌, ℕ, ◌+◌, ◌<◌, List, length, refl, sym, ap, subst, arith, ◌∙◌, Some, inl, inr}
use Rattle.std.specs.Prelude.{ℤ, ◌⊎◌, slice_get}
use Rattle.std.proofs.lemmas.Bool.{cases_order}
use Rattle.std.proofs.lemmas.Option.{slice_get_cases}
use Rattle.gl_model.specs.declared.event.Act.TheVariants.{Fork}
use Rattle.gl_model.specs.declared.event.Event.TheVariants.{Act as Does}
use Rattle.gl_model.specs.declared.event.Stamp.{Stamp}
use Rattle.gl_model.specs.Entries.{Sync}
use Rattle.gl_model.specs.Form.{Form, IsMachineRun, Listed}
use Rattle.gl_model.specs.Machine.{Setting, State, NeverForked, Ended}
use Rattle.gl_model.specs.Records.{EntryAt, IsEventAt, IsEventList, Lists, Place}
use Rattle.gl_places.specs.Places.{AreEventPlaces}
use Rattle.gl_acts.specs.Acting.{ActFailsAt, ActFailsFirst, IsLive, LivesAt, RunsMachine, StepsUpTo}
use Rattle.gl_acts.proofs.Runs.{HasEvents, settled, shorter}
use Rattle.gl_acts.proofs.Ending.{all_ended, AreAllBelow, none_live}

-- what stands in a list stands below its length
pub at_below : {A : Type 0} (xs : List A) (p : ℕ) (x : A) → slice_get xs p ≡ Some x → p < length xs
at_below xs p x there = elim ((slice_get_cases xs p).1) [ inl in' ↦ in'.1 | inr out ↦ absurd (let none = out.1 in cc) ]

-- below the length of a list there is an element
pub some_below : {A : Type 0} (xs : List A) (p : ℕ) → p < length xs → (x : A) × (slice_get xs p ≡ Some x)
some_below xs p less = elim ((slice_get_cases xs p).1) [ inl in' ↦ (in'.0, in'.2) | inr out ↦ absurd (let le = out.0 in omega arith) ]

module _ (R : Lists) (h : List Stamp) (list : IsEventList h R) where
  -- each position below the length of the list has an event
  pub list_events : HasEvents R (length h)
  list_events p less = let s = some_below h p less in let e = list.made p s.0 s.1 in (e.0, (s.0, e.1))

  -- each event's position is below it
  pub list_below : AreAllBelow R (length h)
  list_below c p s e = at_below h p s (list.listed c p s e)

-- two numbers that have the same numbers below them are one
pub same_length : (m n : ℕ) → ((p : ℕ) → p < m → p < n) → ((p : ℕ) → p < n → p < m) → m ≡ n
same_length m n up down = elim (cases_order m n) [
  | inl same ↦ same
  | inr (inl less) ↦ absurd (let x = down m less in omega arith)
  | inr (inr more) ↦ absurd (let x = up n more in omega arith)
]

-- the events of a record are as many as the list of them is long, whichever list
lists_agree : (R : Lists) (h k : List Stamp) → IsEventList h R → IsEventList k R → length h ≡ length k
lists_agree R h k a b = same_length (length h) (length k) (up h k a b) (up k h b a)
  where
    up : (x y : List Stamp) → IsEventList x R → IsEventList y R → (p : ℕ) → p < length x → p < length y
    up x y a b p less = let e = list_events R x a p less in list_below R y b e.0 p e.1.0 e.1.1

-- places of the same thread and the same index are the same
place_same : (c d : Place) → c.thread ≡ d.thread → c.index ≡ d.index → c ≡ d
place_same c d thread index = λ i. record { thread = thread i; index = index i }

module _ (setting : Setting) (R : Lists) where
  -- two events that are each the first to fail stand at one place
  act_act : (h : List Stamp) → IsEventList h R → (p q : ℕ) (c d : Place) → ActFailsAt setting R p c → ActFailsAt setting R q d → c ≡ d
  act_act h list p q c d x y = elim (cases_order p q) [
    | inl same ↦ list.once c d p x.event y.event x.there (subst (λ z. IsEventAt R d z y.event) (sym same) y.there)
    | inr (inl less) ↦ absurd (x.wrong (shorter setting R (p + 1) q (omega arith) y.before))
    | inr (inr more) ↦ absurd (y.wrong (shorter setting R (q + 1) p (omega arith) x.before))
  ]

  -- if an event fails, not all events are steps, so no place is that of a thread that lives on after them
  act_lives : (h : List Stamp) → IsEventList h R → (p : ℕ) (c d : Place) → ActFailsAt setting R p c → LivesAt setting R (length h) d → ⊥
  act_lives h list p c d x y =
      let less : p < length h = list_below R h list c p x.event x.there in
      x.wrong (shorter setting R (p + 1) (length h) (omega arith) y.all)

  -- two places of the least thread that lives on after all events are one
  lives_lives : (h : List Stamp) → IsEventList h R → (c d : Place) → LivesAt setting R (length h) c → LivesAt setting R (length h) d → c ≡ d
  lives_lives h list c d x y =
      let same : x.all.at (length h) ≡ y.all.at (length h) = settled setting R (length h) (list_events R h list) x.all y.all (length h)
      (omega arith) in
      elim (cases_order c.thread d.thread) [
        | inl thread ↦ place_same c d thread (x.last ∙ ap (λ t. length (R t)) thread ∙ sym y.last)
        | inr (inl less) ↦ absurd (y.least c.thread less (subst (λ (z : State). IsLive z c.thread) same x.live))
        | inr (inr more) ↦ absurd (x.least d.thread more (subst (λ (z : State). IsLive z d.thread) (sym same) y.live))
      ]

  -- there is one first place at most
  pub one_first : Listed R → (c d : Place) → ActFailsFirst setting R c → ActFailsFirst setting R d → c ≡ d
  one_first listed c d (inl x) (inl y) = act_act listed.0 listed.1 x.0 y.0 c d x.1 y.1
  one_first listed c d (inl x) (inr y) = absurd (act_lives y.0 y.1 x.0 c d x.1 y.2)
  one_first listed c d (inr x) (inl y) = absurd (act_lives x.0 x.1 y.0 d c y.1 x.2)
  one_first listed c d (inr x) (inr y) = lives_lives x.0 x.1 c d x.2
      (subst (λ n. LivesAt setting R n d) (lists_agree R y.0 x.0 y.1 x.1) y.2)

  -- a run of the machine is one up to each position
  abbrev part_of : (h : List Stamp) → IsMachineRun setting R h → (n : ℕ) → StepsUpTo setting R n
  part_of h run n = record {
    at = run.at;
    first = run.first;
    steps = λ c p s less e. run.steps c p s e;
    lists = λ c p u f value less there.
        run.lists c p u f value there;
  }

  -- a run of the machine has no such place
  pub runs_do_not_fail : (c : Place) → RunsMachine setting R → ActFailsFirst setting R c → ⊥
  runs_do_not_fail c runs (inl x) = x.1.wrong (part_of runs.0 runs.2 (x.0 + 1))
  runs_do_not_fail c runs (inr x) =
      let long : length runs.0 ≡ length x.0 = lists_agree R runs.0 x.0 runs.1 x.1 in
      let same : x.2.all.at (length x.0) ≡ runs.2.at (length x.0) = settled setting R (length x.0) (list_events R x.0 x.1) x.2.all
      (part_of runs.0 runs.2 (length x.0)) (length x.0) (omega arith) in
      let live : IsLive (runs.2.at (length x.0)) c.thread = subst (λ (z : State). IsLive z c.thread) same x.2.live in
      over (runs.2.at (length x.0)) (subst (λ n. ((runs.2.at n).threads c.thread ≡ NeverForked) ⊎ ((runs.2.at n).threads c.thread ≡ Ended))
      long (runs.2.ended c.thread)) live
    where
      over : (s : State) → (s.threads c.thread ≡ NeverForked) ⊎ (s.threads c.thread ≡ Ended) → IsLive s c.thread → ⊥
      over s (inl new) live = live.0 new
      over s (inr ended) live = live.1 ended

  -- in a well-formed record no thread lives on
  pub none_lives_on : (h : List Stamp) (c : Place) → Form R → IsEventList h R → LivesAt setting R (length h) c → ⊥
  none_lives_on h c form list x = none_live setting R (length h) (list_events R h list) (list_below R h list) form x.all c.thread x.live

  -- where all events are steps, a well-formed and listed record is a run of the machine
  pub whole : (cs : List Place) → Form R → Listed R → AreEventPlaces R cs → StepsUpTo setting R (length cs) → RunsMachine setting R
  whole cs form listed places run = (
    listed.0,
    listed.1,
    record {
      at = all.at;
      first = all.first;
      steps = λ c p s e. all.steps c p s (list_below R listed.0 listed.1 c p s e) e;
      lists = λ c p u f value there. all.lists c p u f value (list_below R listed.0 listed.1 c p
          (record { thread = c.thread; event = Does (Fork u f) }) (is_fork c p u f value there)) there;
      ended = all_ended setting R (length listed.0) (list_events R listed.0 listed.1) (list_below R listed.0 listed.1) form all;
    },
  )
    where
      up : (p : ℕ) → p < length cs → p < length listed.0
      up p less = let c = some_below cs p less in let e = (places p c.0).0 c.1 in list_below R listed.0 listed.1 c.0 p e.0 e.1

      down : (p : ℕ) → p < length listed.0 → p < length cs
      down p less = let e = list_events R listed.0 listed.1 p less in at_below cs p e.0 ((places p e.0).1 e.1)

      all : StepsUpTo setting R (length listed.0)
      all = subst (λ n. StepsUpTo setting R n) (same_length (length cs) (length listed.0) up down) run

      is_fork : (c : Place) (p u f : ℕ) (value : ℤ) → EntryAt R c (Sync p (Fork u f) value)
          → IsEventAt R c p (record { thread = c.thread; event = Does (Fork u f) })
      is_fork c p u f value there = record { entry = Sync p (Fork u f) value; there = there; position = refl; event = refl; own = refl }
