use Rattle.std.proofs.Common.{ℕ, ◌≡◌, ◌≢◌, ◌∙◌, ◌+◌, ◌-◌, ◌<◌, ◌≤◌, List, length, take, get_or, ap, sym, arith}
use Rattle.std.proofs.lemmas.List.{length-take-le, take_all}
use Rattle.gl_model.specs.declared.limits.TheConstants.{HELD, MONITORS}
use Rattle.gl_model.specs.Rising.{with_one}
use Rattle.gl_model.proofs.RisingLists.{found_there, put_there, put_full, zeros_fewer, All-with_one, Rises-with_one, All-take, Rises-take}
use Rattle.gl_model.proofs.held.Held.add.Goals as goal
use Rattle.gl_model.proofs.held.Held.add.Goals.{else-i-len-via-then-i-len+else-self-i, else-i-len-via-else-i-len}

pub returns-then-self-i : goal.returns-then-self-i
returns-then-self-i c =
    let f = c.self.inside in
    let p = c.place_among-i in
    let long : f.len ≤ length f.monitors = (let l = c.self.invariant in omega arith) in
    let few : length (take f.len f.monitors) ≤ HELD = rw (length-take-le f.len f.monitors long) c.self.invariant.1 in
    rw (← c.self.view_is) (rw (← found_there f.monitors f.len p.result c.args.monitor long p.ensures.within p.ensures.below p.ensures.here
    c.if-i-len.true c.if-self-i.true) (sym (take_all HELD (take f.len f.monitors) few)))

-- there is room
put : (c : goal.After-self-1) → take (c.self.inside.len + 1) c.put_among.new.parts
    ≡ with_one c.args.monitor (take c.self.inside.len c.self.inside.monitors)
put c =
    let f = c.self.inside in
    let p = c.place_among-i in
    let long : f.len ≤ length f.monitors = (let l = c.self.invariant in omega arith) in
    let other : p.result < f.len → get_or f.monitors p.result 0 ≢ c.args.monitor =
    λ l. elim c.else-i-len.branch [
      | else-i-len-via-then-i-len+else-self-i w ↦ w.if-self-i.false
      | else-i-len-via-else-i-len w ↦ absurd (let n = w.if-i-len.false in omega arith)
    ] in
    c.put_among.ensures.parts ∙ put_there f.monitors f.len p.result c.args.monitor long p.ensures.within p.ensures.below p.ensures.here
    other

pub invariant_of-self : goal.invariant_of-self
invariant_of-self c =
    let f = c.self.inside in
    let i = c.self.invariant in (
      c.put_among.auto.parts ∙ i.0,
      (let l = i.1 in let n = c.if-self-lt-HELD.true in omega arith),
      zeros_fewer HELD f.monitors c.put_among.new.parts f.len i.2 c.put_among.ensures.rest,
      rw (put c) (All-with_one (λ x. x < MONITORS) c.args.monitor (take f.len f.monitors) c.requires i.3),
      rw (put c) (Rises-with_one c.args.monitor (take f.len f.monitors) i.4),
    )

pub returns-then-self-lt-HELD : goal.returns-then-self-lt-HELD
returns-then-self-lt-HELD c =
    let f = c.self.inside in
    let same = c.put_among.auto.parts in
    let n : f.len + 1 ≤ length c.put_among.new.parts = (let l = c.self.invariant.0 in let m = c.if-self-lt-HELD.true in omega arith) in
    let few : length (take (f.len + 1) c.put_among.new.parts) ≤ HELD =
    rw (length-take-le (f.len + 1) c.put_among.new.parts n) (let m = c.if-self-lt-HELD.true in omega arith) in
    rw (← c.self.view_is) (rw (← put c) (sym (take_all HELD (take (f.len + 1) c.put_among.new.parts) few)))

-- there is none, and the last falls out
put_less : (c : goal.After-put_among-then-i-len-2) → take c.self.inside.len c.put_among-then-i-len-2.new.parts
    ≡ take c.self.inside.len (with_one c.args.monitor (take c.self.inside.len c.self.inside.monitors))
put_less c =
    let f = c.self.inside in
    let p = c.place_among-i in
    let long : f.len ≤ length f.monitors = (let l = c.self.invariant in omega arith) in
    let l = c.if-i-len-2.true in
    let other : p.result < f.len → get_or f.monitors p.result 0 ≢ c.args.monitor =
    λ l. elim c.else-i-len.branch [
      | else-i-len-via-then-i-len+else-self-i w ↦ w.if-self-i.false
      | else-i-len-via-else-i-len w ↦ absurd (let n = w.if-i-len.false in omega arith)
    ] in
    let one_more : f.len - 1 + 1 ≡ f.len = omega arith in
    let moved = rw one_more at c.put_among-then-i-len-2.ensures.parts in
    moved ∙ put_full f.monitors f.len p.result c.args.monitor l long
    ∙ ap (λ (xs : List ℕ). take f.len xs) (put_there f.monitors f.len p.result c.args.monitor long p.ensures.within p.ensures.below
    p.ensures.here other)

pub invariant_of-self-then-i-len-2 : goal.invariant_of-self-then-i-len-2
invariant_of-self-then-i-len-2 c =
    let f = c.self.inside in
    let i = c.self.invariant in
    let l = c.if-i-len-2.true in
    let one_more : f.len - 1 + 1 ≡ f.len = omega arith in
    let rest = rw one_more at c.put_among-then-i-len-2.ensures.rest in (
      c.put_among-then-i-len-2.auto.parts ∙ i.0,
      i.1,
      rest ∙ i.2,
      rw (put_less c) (All-take (λ x. x < MONITORS) f.len (with_one c.args.monitor (take f.len f.monitors))
          (All-with_one (λ x. x < MONITORS) c.args.monitor (take f.len f.monitors) c.requires i.3)),
      rw (put_less c) (Rises-take f.len (with_one c.args.monitor (take f.len f.monitors))
          (Rises-with_one c.args.monitor (take f.len f.monitors) i.4)),
    )

pub returns-then-i-len-2 : goal.returns-then-i-len-2
returns-then-i-len-2 c =
    let f = c.self.inside in
    let full : f.len ≡ HELD = (let l = c.self.invariant.1 in let m = c.if-self-lt-HELD.false in omega arith) in
    rw (← c.self.view_is) (put_less c ∙ ap (λ n. take n (with_one c.args.monitor (take f.len f.monitors))) full)
