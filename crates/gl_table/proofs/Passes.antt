-- A pass's fields after each step.
use Rattle.std.proofs.Common.{◌≡◌, ◌≢◌, ℕ, suc, ◌+◌, ◌-◌, ◌<◌, ◌≤◌, List, [], ◌∷◌, ◌++◌, take, length, drop, sym, refl, ap, subst, arith, ◌∙◌, ⊎_elim, append-nil, length-append, IsPermutation, Bool, true, false, ◌==◌, ◌||◌, inl, inr}
use Rattle.std.specs.Prelude.{Contains, Some, None, ℤ, if◌then◌else◌, Option, nat_lt}
use Rattle.gl_model.specs.declared.event.Act.{Act}
use Rattle.gl_model.specs.declared.event.Event.TheVariants.{Act as Does}
use Rattle.gl_model.specs.declared.event.Stamp.{Stamp}
use Rattle.gl_model.specs.Kept.{IsEntryKept}
use Rattle.gl_model.specs.Records.{position_of}
use Rattle.gl_draws.specs.Draws.{Draw, draw, Entered}
use Rattle.gl_draws.proofs.Pushes.{at_cases}
use Rattle.std.specs.List.{All}
use Rattle.std.proofs.lemmas.List.Elements.{All-push}
use Rattle.std.proofs.lemmas.Bool.{ltb-true}
use Rattle.atomic_table.specs.Table as table
use Rattle.gl_model.specs.declared.limits.TheConstants.{THREADS}
use Rattle.gl_model.specs.Entries.{Entry, Sync, Plain, Trim}
use Rattle.gl_model.specs.Machine.{Setting}
use Rattle.gl_rule.specs.declared.slot.Slot.{Slot}
use Rattle.gl_rule.specs.declared.slot.Slot.TheVariants as slot
use Rattle.gl_table.specs.CaughtUp.{caught_up, adds_all, adds_one, first_marked}
use Rattle.gl_rule.specs.Knowledge.{AreBelow}
use Rattle.gl_rule.specs.Objects.{objects}
use Rattle.gl_table.specs.PassInside.{IsReady, IsPass, AreOut, empties}
use Rattle.gl_rule.specs.View.{View, Held, HasObject, shelf, took, refused, left, saw_tail, with_tail, saw, Read, without, put_word, filled, published, after_publish, marked, lowered}
use Rattle.gl_rule.specs.Taken.{TakenTold}
use Rattle.gl_rule.specs.Told.{Took, SawTail, Saw, PutWord, PublishedAct, Marked, Opened, Lowered, what_of}
use Rattle.gl_rule.specs.Adding.{MayAdd}
use Rattle.gl_rule.specs.Commits.{paid}
use Rattle.gl_table.proofs.Adding.{ready_push}
use Rattle.gl_table.proofs.Out as out

-- nothing is left of a list without as many as it is long
drop_all : {A : Type 0} → (l : List A) → drop (length l) l ≡ []
drop_all [] = refl
drop_all (x ∷ l) = drop_all l

-- all that was stored is recorded
pub settled : (v : View) (t : ℕ) (mine : List Entry) → v.shelves ≡ shelf t mine ∷ [] → caught_up v t mine ≡ v
settled v t mine e =
    let a : drop (length (first_marked v.shelves)) mine ≡ [] = ap (λ l. drop (length (first_marked l)) mine) e ∙ drop_all mine in
    ap (λ k. record (adds_all v k) { shelves = shelf t mine ∷ [] }) a ∙ ap (λ l. record v { shelves = l }) (sym e)

-- a pass of one thread's list is ready
pub is_ready : (v : View) (t : ℕ) (mine : List Entry) → v.shelves ≡ shelf t mine ∷ [] → t < THREADS → IsReady v t mine
is_ready v t mine e near = record {
  more = [];
  one = e ∙ ap (λ l. shelf t (first_marked l) ∷ []) (sym e);
  is = ap first_marked (sym e)
      ∙ sym (append-nil (first_marked v.shelves));
  adds = settled v t mine e;
  named = near;
}

-- a view that records all that was stored is a pass, where its fields, what is out and the entries are right for one
pub is_pass : (v : View) (c : List (ℕ × Slot)) (t : ℕ) (mine : List Entry) (seen : ℕ) (order : List ℕ) (quiet : Bool) → v.shelves
    ≡ shelf t mine ∷ [] → t < THREADS → seen ≡ v.seen → quiet ≡ v.quiet → v.stored ≡ [] → AreOut c order v.held
    → AreBelow seen (shelf t mine) → All IsEntryKept mine
    → IsPass (v, c) t mine seen order quiet
is_pass v c t mine seen order quiet e near sees quiets unstored gone below kept =
    let s = sym (settled v t mine e) in
    record {
      ready = is_ready v t mine e near;
      sees = sees ∙ ap (λ u. u.seen) s;
      quiets = quiets ∙ ap (λ u. u.quiet) s;
      unstored = ap (λ u. u.stored) (sym s) ∙ unstored;
      out = subst (λ u. AreOut c order u.held) s gone;
      below = below;
      kept = kept;
    }

-- publishing leaves which object a slot is of
pub published_object : (n : ℕ) (y : Slot) (drew : Held → Option Draw) (h : Held) → (after_publish n y drew h).object ≡ h.object
published_object n y drew h = by_bool (h.object == 0)
  where
    by_bool : (b : Bool) → (if b then record h { taken = y; tails = suc n ∷ [] }
        else record h { tails = suc n ∷ h.tails; drew = drew h }).object ≡ h.object
    by_bool true = refl
    by_bool false = refl

-- entries below n are below a greater m
pub below_later : (n m t : ℕ) (es : List Entry) → n ≤ m → AreBelow n (shelf t es) → AreBelow m (shelf t es)
below_later n m t es le below i p e at is = let a = below i p e at is in omega arith

-- where n is not below the other number, the test of that says no
pub not_less : (n to : ℕ) → (n < to → ⊥) → nat_lt n to ≡ false
not_less n to none = by (nat_lt n to) refl
  where
    by : (b : Bool) → nat_lt n to ≡ b → nat_lt n to ≡ false
    by true e = absurd (none (ltb-true n to e))
    by false e = e

-- entries below n with one that is below too are below n
pub below_push : (n t : ℕ) (es : List Entry) (e : Entry) → AreBelow n (shelf t es) → ((p : ℕ) → position_of e ≡ Some p → p < n)
    → AreBelow n (shelf t (es ++ e ∷ []))
below_push n t es e below new i p f at is =
    elim (at_cases es e f i at) [ inl old ↦ below i p f old is | inr last ↦ new p (subst (λ z. position_of z ≡ Some p) last.1 is) ]

-- the words that are left of none are none
words_left : (b : Bool) (l : List ℕ) → l ≡ [] → (if b then [] else l) ≡ []
words_left true l e = refl
words_left false l e = e

-- something or false is that something
or_false : (b : Bool) → (b || false) ≡ b
or_false true = refl
or_false false = refl

-- two flags, of which the first is the same, give the same with an or
quiet_or : (a b c : Bool) → a ≡ b → (a || c) ≡ (b || c)
quiet_or a b c e = ap (λ x. x || c) e

module _ (me : table.Me Slot View) (t : ℕ) (mine : List Entry) (seen : ℕ) (order : List ℕ) (quiet : Bool)
    (p : IsPass me t mine seen order quiet) where
  abbrev now : View
  now = caught_up me.0 t mine

  -- a step that leaves the entries, the tail that was seen and the cells as they are leaves a pass, quiet as its view then says
  pub pass_steps : (u : View) (c : List (ℕ × Slot)) (order' : List ℕ) (quiet' : Bool) (w : table.Me Slot View) → u.shelves ≡ shelf t mine
      ∷ [] → u.seen ≡ now.seen → quiet' ≡ u.quiet → u.stored ≡ [] → AreOut c order' u.held → w ≡ (u, c) → IsPass w t mine seen order' quiet'
  pass_steps u c order' quiet' w one sees quiets unstored gone is =
      subst (λ x. IsPass x t mine seen order' quiet') (sym is)
      (is_pass u c t mine seen order' quiet' one p.ready.named (p.sees ∙ sym sees) quiets unstored gone p.below p.kept)

  -- where the object that was to be taken is another thread's, the pass notes who has it, and has and holds what it had and held
  pub pass_refuses : (setting : Setting) (k n : ℕ) (w : table.Me Slot View) → Took setting k now me.1 n w → n ≢ 0
      → IsPass w t mine seen order quiet × (w.0 ≡ refused now k (n - 1)) × (n ≤ THREADS) × (n - 1 ≢ t)
  pass_refuses setting k n w told busy =
      ⊎_elim
      (λ a. absurd (busy a.0))
      (λ b. (
        pass_steps (refused now k (n - 1)) me.1 order quiet w refl refl p.quiets p.unstored p.out b.2,
        ap (λ x. x.0) b.2,
        b.1,
        b.3
            (shelf t mine) refl,
      ))
      told

  -- what was taken lies in front
  pub took_slot : (setting : Setting) (k n : ℕ) (w : table.Me Slot View) → Took setting k now me.1 n w → n ≡ 0 → (y : Slot)
      × (w ≡ (took now k y, (k, y) ∷ me.1)) × TakenTold setting now k y
  took_slot setting k n w told hit = ⊎_elim (λ a. a.1) (λ b. absurd (b.0 hit)) told

  -- there is room for what was taken
  pub took_room : (k : ℕ) → (HasObject now k → ⊥) → k < objects → length order < objects
  took_room k free near = out.out_room me.1 order now.held p.out k free near

  -- where it was free, the pass holds it besides, as the object that it took last
  pub pass_takes : (k : ℕ) (y : Slot) (z : table.Me Slot View) → (HasObject now k → ⊥) → k < objects → z
      ≡ (took now k y, (k, slot.Empty) ∷ me.1) → IsPass z t mine seen (k ∷ order) quiet
  pass_takes k y z free near is = pass_steps (took now k y) ((k, slot.Empty) ∷ me.1) (k ∷ order) quiet z refl refl p.quiets p.unstored
      (out.out_takes me.1 order now.held p.out k y free near) is

  -- once it loaded the tail, the pass has seen that tail
  pub pass_sees : (n : ℕ) (w : table.Me Slot View) → SawTail now me.1 n w → IsPass w t mine n order quiet
  pass_sees n w told =
      let le = told.1 in
      let s = p.sees in
      subst (λ x. IsPass x t mine n order quiet) (sym told.0)
      (is_pass (saw_tail now n) me.1 t mine n order quiet refl p.ready.named refl p.quiets p.unstored
      (out.out_mapped me.1 order now.held p.out (with_tail n) (λ h. refl)) (below_later seen n t mine (omega arith) p.below) p.kept)

  -- an event is published, whose words are in the cell: its entry is e and its stamp x
  pub pass_tells : (ws : List ℕ) (e : Entry) (x : Stamp) (drew : Held → Option Draw) (y : Slot) (v : View) (c : List (ℕ × Slot)) (n : ℕ)
      (w : table.Me Slot View) (mine' : List Entry) → v ≡ filled now ws → c ≡ me.1 → mine' ≡ mine ++ e ∷ [] → v.seen ≤ n → w
      ≡ (published v t mine e n x y drew, c)
      → position_of e ≡ Some n → IsEntryKept e → IsPass w t mine' (n + 1) order quiet
      × (caught_up w.0 t mine' ≡ published (filled now ws) t mine e n x y drew) × (now.seen ≤ n)
  pass_tells ws e x drew y v c n w mine' is gone more seen_at told place range =
      let u = published (filled now ws) t mine e n x y drew in
      let a : w ≡ (u, me.1) = told ∙ ap (λ (z : View). let r : table.Me Slot View = (published z t mine e n x y drew, c) in r) is
      ∙ ap (λ z. let r : table.Me Slot View = (u, z) in r) gone in
      let next : n + 1 ≡ suc n = omega arith in
      let later : now.seen ≤ n = subst (λ (z : View). z.seen ≤ n) is seen_at in
      let s = p.sees in
      let below : AreBelow (n + 1) (shelf t (mine ++ e ∷ [])) =
      below_push (n + 1) t mine e (below_later seen (n + 1) t mine (omega arith) p.below) (λ q z. let same : n
      ≡ q = some_n n q (sym place ∙ z) in omega arith) in
      let b : IsPass (u, me.1) t (mine ++ e ∷ []) (n + 1) order quiet =
      is_pass u me.1 t (mine ++ e ∷ []) (n + 1) order quiet refl p.ready.named next p.quiets refl
      (out.out_mapped me.1 order now.held p.out (after_publish n y drew) (published_object n y drew)) below
      (All-push IsEntryKept mine e p.kept range) in (
        subst (λ l. IsPass w t l (n + 1) order quiet) (sym more) (subst (λ z. IsPass z t (mine ++ e ∷ []) (n + 1) order quiet) (sym a) b),
        ap (λ l. caught_up w.0 t l) more ∙ ap (λ (z : table.Me Slot View). caught_up z.0 t (mine ++ e ∷ [])) a
            ∙ settled u t (mine ++ e ∷ []) refl,
        later,
      )
    where
      some_n : (a b : ℕ) → Some a ≡ Some b → a ≡ b
      some_n a b z = cc

  -- an act is published, whose words are in the cell: the pass has its entry and has seen the tail behind it
  pub pass_publishes : (ws : List ℕ) (act : Act) (value : ℤ) (y : Slot) (v : View) (c : List (ℕ × Slot)) (n : ℕ) (w : table.Me Slot View)
      (mine' : List Entry) → v ≡ filled now ws → c ≡ me.1 → mine' ≡ mine ++ Sync n act value ∷ []
      → PublishedAct (shelf t mine) act value y v c n w
      → IsEntryKept (Sync n act value) → IsPass w t mine' (n + 1) order quiet
      × (caught_up w.0 t mine' ≡ published (filled now ws) t mine (Sync n act value) n (record { thread = t; event = Does act }) y
      (λ g. g.drew))
      × (now.seen ≤ n)
  pass_publishes ws act value y v c n w mine' is gone more told range =
      pass_tells ws (Sync n act value) (record { thread = t; event = Does act }) (λ g. g.drew) y v c n w mine' is gone more told.1 told.2
      refl range

  -- a plain access is marked on the held object h
  pub pass_marks : (h : Held) (x b : ℕ) (write : Bool) (value : ℤ) (raised : Bool) (n : ℕ) (w : table.Me Slot View) (mine' : List Entry)
      → Contains now.held h → mine' ≡ mine ++ Plain x n false write value raised ∷ []
      → Marked (shelf t mine) h x b write value raised now me.1 n w
      → IsEntryKept (Plain x n false write value raised) → IsPass w t mine' seen order quiet
  pass_marks h x b write value raised n w mine' has more told range =
      let e : Entry = Plain x n false write value raised in
      let u = marked now (shelf t (mine ++ e ∷ [])) now.drawn h (draw t b (Entered e)) in
      let gone : AreOut me.1 order u.held = out.out_changes me.1 order now.held p.out h (record h { drew = Some (draw t b (Entered e)) })
      has refl in
      let below : AreBelow seen (shelf t (mine ++ e ∷ [])) = below_push seen t mine e p.below (λ q z. absurd (none_some q z)) in
      subst (λ l. IsPass w t l seen order quiet) (sym more)
      (subst (λ z. IsPass z t (mine ++ e ∷ []) seen order quiet) (sym told.1)
      (is_pass u me.1 t (mine ++ e ∷ []) seen order quiet refl p.ready.named p.sees p.quiets p.unstored gone below
      (All-push IsEntryKept mine e p.kept range)))
    where
      none_some : (q : ℕ) → None ≡ Some q → ⊥
      none_some q z = cc

  -- an entry that has no position is added without a step
  pub pass_adds : (e : Entry) (mine' : List Entry) → ((u : View) → u ≡ adds_one now t mine e → MayAdd now e u)
      → (adds_one now t mine e).seen ≡ now.seen → (adds_one now t mine e).quiet ≡ now.quiet → (adds_one now t mine e).stored ≡ now.stored
      → AreOut me.1 order (adds_one now t mine e).held
      → position_of e ≡ None → IsEntryKept e → mine' ≡ mine ++ e ∷ [] → IsPass me t mine' seen order quiet
      × (caught_up me.0 t mine' ≡ adds_one now t mine e)
  pass_adds e mine' may sees quiets stored gone none range more =
      let r = ready_push me.0 t mine e p.ready may in
      let b : IsPass me t (mine ++ e ∷ []) seen order quiet = record {
        ready = r.0;
        sees = p.sees ∙ sym sees ∙ ap (λ (u : View). u.seen) (sym r.1);
        quiets = p.quiets ∙ sym quiets ∙ ap (λ (u : View). u.quiet) (sym r.1);
        unstored = ap (λ (u : View). u.stored) r.1 ∙ stored ∙ p.unstored;
        out = subst (λ (u : View). AreOut me.1 order u.held) (sym r.1) gone;
        below = below_push seen t mine e p.below (λ q z. absurd (let y : None ≡ Some q = sym none ∙ z in cc));
        kept = All-push IsEntryKept mine e p.kept range;
      } in
      (subst (λ l. IsPass me t l seen order quiet) (sym more) b, ap (λ l. caught_up me.0 t l) more ∙ r.1)

  -- where a held object changes, and nothing else but what was read, the pass has and holds what it had and held
  pub pass_changes : (u : View) (h g : Held) (w : table.Me Slot View) → u.shelves ≡ shelf t mine ∷ [] → u.seen ≡ now.seen → u.quiet
      ≡ now.quiet → u.stored ≡ now.stored → u.held ≡ g ∷ without h.object now.held → g.object ≡ h.object → Contains now.held h → w
      ≡ (u, me.1) → IsPass w t mine seen order quiet
  pass_changes u h g w one sees quiets stored held same has is =
      pass_steps u me.1 order quiet w one sees (p.quiets ∙ sym quiets) (stored ∙ p.unstored)
      (subst (AreOut me.1 order) (sym held) (out.out_changes me.1 order now.held p.out h g has same)) is

  -- with one thing more among what it read, the pass has and holds what it had and held
  pub pass_saw : (r : Read) (w : table.Me Slot View) → Saw r now me.1 w → IsPass w t mine seen order quiet
  pass_saw r w told = pass_steps (saw now r) me.1 order quiet w refl refl p.quiets p.unstored p.out told

  -- where the first segment is raised, the pass has a Trim of it more, and where it is not, just the entries that it had
  pub pass_lowers : (n to : ℕ) (w : table.Me Slot View) (mine' : List Entry) (b : Bool) → nat_lt n to ≡ b
      → Lowered (shelf t mine) to now me.1 n w → mine' ≡ (if b then mine ++ Trim to ∷ [] else mine) → IsPass w t mine' seen order quiet
  pass_lowers n to w mine' b is told more =
      subst (λ x. IsPass x t mine' seen order quiet) (sym told)
      (is_pass (lowered now t mine n to) me.1 t mine' seen order quiet (by b is more) p.ready.named p.sees p.quiets p.unstored p.out
      (below b more) (kept b more))
    where
      by : (b : Bool) → nat_lt n to ≡ b → mine' ≡ (if b then mine ++ Trim to ∷ [] else mine) → (lowered now t mine n to).shelves
          ≡ shelf t mine' ∷ []
      by true is more = ap (λ b. (if b then shelf t (mine ++ Trim to ∷ []) else shelf t mine) ∷ []) is ∙ ap (λ l. shelf t l ∷ []) (sym more)
      by false is more = ap (λ b. (if b then shelf t (mine ++ Trim to ∷ []) else shelf t mine) ∷ []) is
          ∙ ap (λ l. shelf t l ∷ []) (sym more)

      below : (b : Bool) → mine' ≡ (if b then mine ++ Trim to ∷ [] else mine) → AreBelow seen (shelf t mine')
      below true more = subst (λ l. AreBelow seen (shelf t l)) (sym more)
          (below_push seen t mine (Trim to) p.below (λ q z. absurd (let y : None ≡ Some q = z in cc)))
      below false more = subst (λ l. AreBelow seen (shelf t l)) (sym more) p.below

      kept : (b : Bool) → mine' ≡ (if b then mine ++ Trim to ∷ [] else mine) → All IsEntryKept mine'
      kept true more = subst (All IsEntryKept) (sym more) (All-push IsEntryKept mine (Trim to) p.kept tt)
      kept false more = subst (All IsEntryKept) (sym more) p.kept

  -- a number is drawn on the held object h, which waits for its entry
  pub pass_opens : (h : Held) (x b n : ℕ) (look : Option ℤ) (w : table.Me Slot View) → Contains now.held h
      → Opened (shelf t mine) h x b look now me.1 n w → IsPass w t mine seen order quiet
  pass_opens h x b n look w has told =
      let d = draw t b (what_of look) in
      let u = marked now (shelf t mine) (now.drawn ++ record { var = x; nth = n; look = look } ∷ []) h d in
      pass_steps u me.1 order quiet w refl refl p.quiets p.unstored
      (out.out_changes me.1 order now.held p.out h (record h { drew = Some d }) has refl) told.1

  -- the held object h, the row of x, goes back with a value that was owed
  pub pass_pays : (h : Held) (x : ℕ) (y : Slot) (order' : List ℕ) (c : List (ℕ × Slot)) (z : table.Me Slot View) → Contains now.held h
      → IsPermutation order order' → order' ≡ (x + 1) ∷ drop 1 order' → c ≡ empties (drop 1 order') → z
      ≡ (left (paid now h x y) (suc x) false, c) → IsPass z t mine seen (drop 1 order') quiet
  pass_pays h x y order' c z has perm front gone is =
      let u = paid now h x y in
      let next : x + 1 ≡ suc x = omega arith in
      let mid : AreOut me.1 order u.held = out.out_changes me.1 order now.held p.out h (record h { taken = y }) has refl in
      let same : quiet ≡ (now.quiet || false) = p.quiets ∙ sym (or_false now.quiet) in
      pass_steps (left u (suc x) false) c (drop 1 order') quiet z refl refl same (words_left (suc x == 0) now.stored p.unstored)
      (out.out_leaves me.1 order u.held mid (suc x) order' c perm (subst (λ k. order' ≡ k ∷ drop 1 order') next front) gone) is

  -- an object that is held is out with the seat
  pub is_out : (h : Held) → Contains now.held h → Contains order h.object
  is_out h has = out.is_out me.1 order now.held p.out h has

  -- once the object was put back, the pass holds the others, and is quiet if it was or if it put that back quietly
  pub pass_puts : (k : ℕ) (q : Bool) (order' : List ℕ) (c : List (ℕ × Slot)) (z : table.Me Slot View) → IsPermutation order order' → order'
      ≡ k ∷ drop 1 order' → c ≡ empties (drop 1 order') → z ≡ (left now k q, c) → IsPass z t mine seen (drop 1 order') (quiet || q)
  pass_puts k q order' c z perm front gone is =
      pass_steps (left now k q) c (drop 1 order') (quiet || q) z refl refl (quiet_or quiet now.quiet q p.quiets)
      (words_left (k == 0) now.stored p.unstored) (out.out_leaves me.1 order now.held p.out k order' c perm front gone) is

-- one word more stands in the cell
pub words_next : (v u : View) (c : List (ℕ × Slot)) (t : ℕ) (mine : List Entry) (i word : ℕ) (words : List ℕ) (w : table.Me Slot View)
    → t < THREADS → u.shelves ≡ shelf t mine ∷ [] → caught_up v t mine ≡ filled u (take i words)
    → PutWord word (caught_up v t mine) c w → take i words ++ word ∷ [] ≡ take (i + 1) words
    → (w.1 ≡ c) × IsReady w.0 t mine × (caught_up w.0 t mine ≡ filled u (take (i + 1) words))
words_next v u c t mine i word words w near one is told more =
    let ws = take i words in
    let count : (u.moves.stores + length ws) + 1 ≡ u.moves.stores + length (ws ++ word ∷ []) =
    let l = length-append ws (word ∷ []) in omega arith in
    let a : w.0 ≡ filled u (take (i + 1) words) = ap (λ (m : table.Me Slot View). m.0) told
    ∙ ap (λ (x : View). put_word x word) is
    ∙ ap (λ n. record u { stored = ws ++ word ∷ []; moves = record u.moves { stores = n } }) count
    ∙ ap (filled u) more in
    let s : w.0.shelves ≡ shelf t mine ∷ [] = ap (λ (x : View). x.shelves) a ∙ one in
    (ap (λ (m : table.Me Slot View). m.1) told, is_ready w.0 t mine s near, settled w.0 t mine s ∙ a)

-- the slots after `bring`, with the value put in
pub brought : (k : ℕ) (c : List (ℕ × Slot)) (order : List ℕ) → c ≡ empties order → order ≡ k ∷ drop 1 order
    → (c ≡ (k, slot.Empty) ∷ table.rest c) × (table.rest c ≡ empties (drop 1 order))
brought k c order is front =
    let e : c ≡ (k, slot.Empty) ∷ empties (drop 1 order) = is ∙ ap empties front in
    let r : table.rest c ≡ empties (drop 1 order) = ap table.rest e in
    (e ∙ ap (λ l. (k, slot.Empty) ∷ l) (sym r), r)
