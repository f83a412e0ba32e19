-- Steps that are counted, one after another.
use Rattle.std.proofs.Common.{◌≡◌, ℕ, ◌+◌, ap, arith}
use Rattle.gl_rule.specs.View.{Moves, moved, with_loads}

-- moving a steps and then b is moving their sum
pub moved_both : (a b c : ℕ) (m : Moves) → a + b ≡ c → moved b (moved a m) ≡ moved c m
moved_both a b c m e = let n : m.others + a + b ≡ m.others + c = omega arith in ap (λ n. record m { others = n }) n

-- to move no step changes nothing
pub moved_none : (m : Moves) → m ≡ moved 0 m
moved_none m = let n : m.others ≡ m.others + 0 = omega arith in ap (λ n. record m { others = n }) n

-- counting a loads and then b is counting their sum
pub loads_both : (a b c : ℕ) (m : Moves) → a + b ≡ c → with_loads b (with_loads a m) ≡ with_loads c m
loads_both a b c m e = let n : m.loads + a + b ≡ m.loads + c = omega arith in ap (λ n. record m { loads = n }) n

-- to count no load changes nothing
pub loads_none : (m : Moves) → m ≡ with_loads 0 m
loads_none m = let n : m.loads ≡ m.loads + 0 = omega arith in ap (λ n. record m { loads = n }) n

-- two, one, one and two steps
pub six_steps : (m : Moves) → moved 2 (moved 1 (moved 1 (moved 2 m))) ≡ moved 6 m
six_steps m = let n : m.others + 2 + 1 + 1 + 2 ≡ m.others + 6 = omega arith in ap (λ n. record m { others = n }) n

-- two steps, one and two are five
pub five_steps : (m : Moves) → moved 2 (moved 1 (moved 2 m)) ≡ moved 5 m
five_steps m = let n : m.others + 2 + 1 + 2 ≡ m.others + 5 = omega arith in ap (λ n. record m { others = n }) n

-- two steps, four single ones and two are eight
pub eight_steps : (m : Moves) → moved 2 (moved 1 (moved 1 (moved 1 (moved 1 (moved 2 m))))) ≡ moved 8 m
eight_steps m = let n : m.others + 2 + 1 + 1 + 1 + 1 + 2 ≡ m.others + 8 = omega arith in ap (λ n. record m { others = n }) n
