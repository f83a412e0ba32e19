-- The ring, quiet views, and the others that are held, where an object is taken or left.
use Rattle.std.proofs.Common.{◌≡◌, ◌≢◌, ℕ, zero, suc, ◌*◌, ◌≤◌, ◌==◌, List, [], length, sym, refl, subst, arith, ◌∙◌, inl, inr, true, false, Bool, eq-eqb}
use Rattle.std.specs.Prelude.{◌||◌, if◌then◌else◌, Option}
use Rattle.std.specs.List.{All}
use Rattle.gl_model.specs.declared.event.Stamp.{Stamp}
use Rattle.gl_model.specs.Machine.{Setting}
use Rattle.gl_draws.specs.Draws.{Draw}
use Rattle.gl_rule.specs.declared.slot.Slot.{Slot}
use Rattle.gl_rule.specs.declared.slot.Slot.TheVariants as slot
use Rattle.gl_rule.specs.Objects.{Key, Board, capacity}
use Rattle.gl_state.specs.States.{IsQuiet}
use Rattle.gl_rule.specs.View.{View, Held, without, left}
use Rattle.gl_rule.specs.World.{World}
use Rattle.gl_rule.specs.Turns.{HeldOne}
use Rattle.gl_rule.specs.Values.{StandsHeld, HeldStands}
use Rattle.gl_rule.specs.Knowledge.{TailsFit, ReadFits}
use Rattle.gl_rule.specs.Ring.{RingHolds, RingFits, FloorFits}
use Rattle.gl_rule.specs.Quiet.{QuietFits}
use Rattle.gl_rule.specs.Fitting.{SaysQuiet}
use Rattle.gl_rule.specs.Rule.{Fits}
use Rattle.gl_rule.proofs.Words.{SameHolds, SameCells}
use Rattle.gl_rule.proofs.HeldLists.{all_map, all_without, in_without}
use Rattle.gl_rule.proofs.Frames.{held_at, tail_at, read_at, floor_moves}

-- the ring stays where the holds and the cells do
pub ring_same : (key : Key) (b b' : Board) (log : List Stamp) → b'.hold 0 ≡ b.hold 0 → SameHolds b b' → SameCells b b'
    → RingHolds (capacity key) (b.hold 0 * key.cells) b log → RingHolds (capacity key) (b'.hold 0 * key.cells) b' log
ring_same key b b' log low holds cells r = subst (λ n. RingHolds (capacity key) (n * key.cells) b' log) (sym low) (record {
  cells = λ p i x from at few. cells p i ∙ r.cells p i x from at few;
  room = r.room;
  holds = λ x near. let e = holds (suc x) (omega arith) in let h = r.holds x near
      in (subst (λ n. b.hold 0 * key.cells ≤ n) (sym e) h.0, subst (λ n. n ≤ length log) (sym e) h.1);
})

-- a view without the held object k fits still, where holds, cells and the turns of the others that are held stay
pub fits_without : (key : Key) (b b' : Board) (w : World) (j k : ℕ) (v : View) → SameHolds b b' → SameCells b b'
    → ((g : Held) → g.object ≢ k → HeldOne b.turn w.holder j v.shelves g → HeldOne b'.turn w.holder j v.shelves g)
    → Fits key b w j v → Fits key b' w j (record v { held = without k v.held; stored = if k == 0 then [] else v.stored })
fits_without key b b' w j k v holds cells moves f =
    let O = HeldOne b.turn w.holder j v.shelves in
    let both : (P Q : Held → Type 0) → ((g : Held) → g.object ≢ k → O g → P g → Q g) → All P v.held
    → All Q (without k v.held) = λ P Q step all.
    all_without (λ g. O g × P g) Q k v.held (λ g ne p. step g ne p.0 p.1)
    (Rattle.gl_rule.proofs.HeldLists.both_map O P (λ g. O g × P g) v.held (λ g a c. (a, c)) f.turns.held all) in
    record {
      tries = f.tries;
      turns = record { held = all_without O (HeldOne b'.turn w.holder j v.shelves) k v.held moves f.turns.held };
      positions = record { shelves = f.positions.shelves };
      values = record {
        held = both (HeldStands key.setting w b.hold) (HeldStands key.setting w b'.hold)
            (λ g ne a p. held_at key.setting w b.hold b'.hold g.drew g.object g.taken (holds g.object a.named) p) f.values.held;
      };
      numbers = record { shelves = f.numbers.shelves };
      knowledge = record {
        seen = f.knowledge.seen;
        own = f.knowledge.own;
        known = f.knowledge.known;
        tails = both (TailsFit (length w.log) b.hold v.seen) (TailsFit (length w.log) b'.hold v.seen)
            (λ g ne a t n c. tail_at (length w.log) v.seen b.hold b'.hold g.object n g.taken (holds g.object a.named) (t n c))
            f.knowledge.tails;
        reads = all_map (ReadFits b.hold) (ReadFits b'.hold) v.reads
            (read_at b.hold b'.hold (λ g near. let e = holds g near in omega arith)) f.knowledge.reads;
        loaded = f.knowledge.loaded;
      };
      ring = stored_at (k == 0) refl;
      quiet = record { none_live = f.quiet.none_live };
      carries = record { shelves = f.carries.shelves };
      owed = f.owed;
      refusals = record {
        held = all_without (Rattle.gl_rule.specs.Refusals.DrawsBelow w.draws)
            (Rattle.gl_rule.specs.Refusals.DrawsBelow w.draws) k v.held (λ g ne q. q) f.refusals.held;
        shelves = f.refusals.shelves;
      };
    }
  where
    floors : All (FloorFits b'.hold) (without k v.held)
    floors = all_without (λ g. HeldOne b.turn w.holder j v.shelves g × FloorFits b.hold g) (FloorFits b'.hold) k v.held
        (λ g ne p. floor_moves b.hold b'.hold g (λ nz. holds g.object p.0.named) p.1)
        (Rattle.gl_rule.proofs.HeldLists.both_map (HeldOne b.turn w.holder j v.shelves) (FloorFits b.hold)
        (λ g. HeldOne b.turn w.holder j v.shelves g × FloorFits b.hold g) v.held (λ g a c. (a, c)) f.turns.held f.ring.floors)

    not_zero : (k == 0) ≡ false → k ≢ 0
    not_zero e z = let t : (k == 0) ≡ true = eq-eqb k 0 z in let c : true ≡ false = sym t ∙ e in absurd (cc)

    stored_at : (q : Bool) → (k == 0) ≡ q → RingFits b' w.log w.trims
        (record v { held = without k v.held; stored = if k == 0 then [] else v.stored })
    stored_at true e = rw e (record {
      floors = floors;
      stored = λ i near. absurd (omega arith);
      few = omega arith;
      by_holder = inl refl;
      lows = f.ring.lows;
    })
    stored_at false e = rw e (record {
      floors = floors;
      stored = λ i near. cells (length w.log) i
          ∙ f.ring.stored i near;
      few = f.ring.few;
      by_holder =
          elim f.ring.by_holder [ inl z ↦ inl z | inr o ↦ inr (o.0, in_without k v.held o.0 (λ z. not_zero e (sym z ∙ o.2)) o.1, o.2) ];
      lows = f.ring.lows;
    })

-- what a view says of the ring after an object was put back
pub ring_left : (b : Board) (log : List Stamp) (trims : List (ℕ × ℕ)) (v : View) (k : ℕ) (q : Bool)
    → RingFits b log trims (record v { held = without k v.held; stored = if k == 0 then [] else v.stored })
    → RingFits b log trims (left v k q)
ring_left b log trims v k q r = record { floors = r.floors; stored = r.stored; few = r.few; by_holder = r.by_holder; lows = r.lows }

-- a list's state without a live thread means that none is live
pub says_quiet : (setting : Setting) (w : World) (hold : ℕ → ℕ) (drew : Option Draw) (k : ℕ) (y : Slot) → SaysQuiet k y
    → StandsHeld setting w hold drew k y → IsQuiet w.now
says_quiet setting w hold drew zero (slot.List l) says st = says w.now st
says_quiet setting w hold drew zero slot.Empty says st = absurd st
says_quiet setting w hold drew zero (slot.Row r) says st = absurd st
says_quiet setting w hold drew (suc x) y says st = absurd says

-- so a view that put it back is right to be quiet
pub quiet_left : (setting : Setting) (w : World) (hold : ℕ → ℕ) (h : Held) (v : View) (q : Bool) → (q ≡ true → IsQuiet w.now)
    → QuietFits w.now v → QuietFits w.now (left v h.object q)
quiet_left setting w hold h v q says f = record { none_live = λ e. by v.quiet q refl refl e }
  where
    by : (a c : Bool) → v.quiet ≡ a → q ≡ c → (v.quiet || q) ≡ true → IsQuiet w.now
    by true c e d o = f.none_live e
    by false true e d o = says d
    by false false e d o = absurd (let z : (v.quiet || q) ≡ false = rw (e, d) refl in let y : true ≡ false = sym o ∙ z in cc)
