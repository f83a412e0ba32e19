-- What walks cost, one after another.
use Rattle.std.proofs.Common.{◌≡◌, ℕ, suc, ◌+◌, ◌*◌, ◌≤◌, List, [], ◌∷◌, ◌++◌, length, length-append, refl, ap, arith, ◌∙◌, inl, inr}
use Rattle.std.specs.Prelude.{◌⊎◌}
use Rattle.gl_model.specs.declared.event.Stamp.{Stamp}
use Rattle.gl_model.specs.declared.row.Info.{Info}
use Rattle.gl_model.specs.declared.row.Row.{Row}
use Rattle.gl_rule.specs.Values.{InRow}
use Rattle.gl_rule.specs.View.{Moves, moved, with_loads}
use Rattle.gl_rule.proofs.Moves.{moved_none}
use Rattle.gl_table.specs.PassView.{PassView}
use Rattle.gl_rows.specs.Costs.{WalkCosts, CostsAtMost}
use Rattle.gl_rows.specs.Walks.{placed_from, HasWalked}

-- events from an Info of the row on are no more than those from a position before which none stands
few_events : (row : Row) (from tail n : ℕ) (events : List Stamp) → from + length events ≡ tail
    → (events ≡ []) ⊎ ((i : Info) × InRow row i × (i.pos ≡ from)) → n ≤ tail → ((i : Info) → InRow row i → n ≤ i.pos)
    → n + length events ≤ tail
few_events row from tail n events ends (inl none) near below = let l : length events ≡ 0 = ap length none in omega arith
few_events row from tail n events ends (inr (i, has, at)) near below = let b = below i has in omega arith

-- a walk over the events from a row's place to the tail costs what it loads and steps
pub walk_costs : (row : Row) (from tail steps : ℕ) (events : List Stamp) (p q : PassView) → from + length events ≡ tail
    → (events ≡ []) ⊎ ((i : Info) × InRow row i × (i.pos ≡ from)) → q.moves ≡ with_loads (5 * length events) (moved steps p.moves)
    → WalkCosts row tail steps p q
walk_costs row from tail steps events p q ends named is = record {
  loads = λ n near below.
      let few = few_events row from tail n events ends named near below in
      let l = ap (λ (m : Moves). m.loads) is in
      omega arith;
  stores = ap (λ (m : Moves). m.stores) is;
  others = ap (λ (m : Moves). m.others) is;
}

-- a check that walked over its row loaded at most five words for each event up to the tail, from any position on before which no Info of
-- the row stands, and did nothing else
pub check_costs : (row : Row) (p q : PassView) → HasWalked row p q → WalkCosts row p.seen 0 p q
check_costs row p q w = walk_costs row w.from p.seen 0 w.events p q w.ends w.named
    (ap (λ (z : PassView). z.moves) w.is ∙ ap (with_loads (5 * length w.events)) (moved_none p.moves))

-- a log with its places has as many events as the log
placed_long : (n : ℕ) (xs : List Stamp) → length (placed_from n xs) ≡ length xs
placed_long n [] = refl
placed_long n (x ∷ xs) = ap suc (placed_long (suc n) xs)

-- a pass that loaded these events, five words of each, came to know them and made so many other steps costs no more than these steps
pub costs_walked : (from steps most : ℕ) (events : List Stamp) (p q : PassView) → q.known ≡ p.known ++ placed_from from events
    → q.moves ≡ with_loads (5 * length events) (moved steps p.moves) → steps ≤ most → CostsAtMost most p q
costs_walked from steps most events p q known is few =
    let k = ap length known ∙ length-append p.known (placed_from from events) in
    let e = placed_long from events in
    let l = ap (λ (m : Moves). m.loads) is in
    let o = ap (λ (m : Moves). m.others) is in
    record { loads = omega arith; stores = ap (λ (m : Moves). m.stores) is; others = omega arith }

-- a pass that does nothing costs no step
pub costs_same : (p : PassView) → CostsAtMost 0 p p
costs_same p = record { loads = refl; stores = refl; others = omega arith }

-- a pass that makes so many steps, and comes to know nothing, costs no more than these steps
pub costs_steps : (steps : ℕ) (p q : PassView) → q.known ≡ p.known → q.moves ≡ moved steps p.moves → CostsAtMost steps p q
costs_steps steps p q known is =
    let k = ap length known in
    let l = ap (λ (m : Moves). m.loads) is in
    let o = ap (λ (m : Moves). m.others) is in
    record { loads = omega arith; stores = ap (λ (m : Moves). m.stores) is; others = omega arith }

-- what two parts cost, one after the other, is at most the sum
pub costs_both : (a b c : ℕ) (p q r : PassView) → CostsAtMost a p q → CostsAtMost b q r → a + b ≤ c → CostsAtMost c p r
costs_both a b c p q r s t le =
    let l = s.loads in
    let m = t.loads in
    let o = s.others in
    let n = t.others in
    record { loads = omega arith; stores = t.stores ∙ s.stores; others = omega arith }
