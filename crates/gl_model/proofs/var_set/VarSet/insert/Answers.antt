use Rattle.std.proofs.Common.{◌≡◌, ◌≢◌, ◌+◌, ◌<◌, ◌≤◌, length, take, get_or, refl, ◌∙◌, arith}
use Rattle.std.proofs.lemmas.List.{length-take-le}
use Rattle.gl_model.specs.declared.limits.TheConstants.{VARIABLES, TX_VARIABLES}
use Rattle.gl_model.specs.Rising.{with_one}
use Rattle.gl_model.proofs.RisingLists.{found_there, put_there, not_among, zeros_fewer, All-with_one, Rises-with_one}
use Rattle.gl_model.proofs.var_set.VarSet.insert.Goals as goal
use Rattle.gl_model.proofs.var_set.VarSet.insert.Goals.{else-i-len-via-then-i-len+else-self-i, else-i-len-via-else-i-len}

pub returns-then-self-i-clause-ok : goal.returns-then-self-i-clause-ok
returns-then-self-i-clause-ok c =
    let f = c.self.inside in
    let p = c.place_in-i in
    rw (← c.self.view_is) (found_there f.ids f.len p.result c.args.var (let l = c.self.invariant.1 in omega arith) p.ensures.within
    p.ensures.below p.ensures.here c.if-i-len.true c.if-self-i.true)

-- the variable is not at its place
not_at : (c : goal.Then-self-eq-TX_VARIABLES) → c.place_in-i.result < c.self.inside.len
    → get_or c.self.inside.ids c.place_in-i.result 0 ≢ c.args.var
not_at c l = elim c.else-i-len.branch [
  | else-i-len-via-then-i-len+else-self-i w ↦ w.if-self-i.false
  | else-i-len-via-else-i-len w ↦ absurd (let n = w.if-i-len.false in omega arith)
]

pub returns-then-self-eq-TX_VARIABLES-clause-full : goal.returns-then-self-eq-TX_VARIABLES-clause-full
returns-then-self-eq-TX_VARIABLES-clause-full c =
    let f = c.self.inside in
    let p = c.place_in-i in
    let le : f.len ≤ length f.ids = (let l = c.self.invariant.1 in omega arith) in
    rw (← c.self.view_is) (
      λ _. (
        length-take-le f.len f.ids le
            ∙ c.if-self-eq-TX_VARIABLES.true,
        not_among f.ids f.len p.result c.args.var le p.ensures.within p.ensures.below p.ensures.here
            c.self.invariant.4 (not_at c),
      ),
      λ _. refl,
    )

-- the variable is not at its place, past the test for room
not_at_after : (c : goal.After-self-1) → c.place_in-i.result < c.self.inside.len
    → get_or c.self.inside.ids c.place_in-i.result 0 ≢ c.args.var
not_at_after c l = elim c.else-i-len.branch [
  | else-i-len-via-then-i-len+else-self-i w ↦ w.if-self-i.false
  | else-i-len-via-else-i-len w ↦ absurd (let n = w.if-i-len.false in omega arith)
]

put : (c : goal.After-self-1) → take (c.self.inside.len + 1) c.put_among.new.parts
    ≡ with_one c.args.var (take c.self.inside.len c.self.inside.ids)
put c =
    let f = c.self.inside in
    let p = c.place_in-i in
    c.put_among.ensures.parts ∙ put_there f.ids f.len p.result c.args.var (let l = c.self.invariant.1 in omega arith) p.ensures.within
    p.ensures.below p.ensures.here (not_at_after c)

pub invariant_of-self : goal.invariant_of-self
invariant_of-self c =
    let f = c.self.inside in
    let i = c.self.invariant in (
      c.put_among.auto.parts ∙ i.0,
      (let l = i.1 in let n = c.if-self-eq-TX_VARIABLES.false in omega arith),
      zeros_fewer TX_VARIABLES f.ids c.put_among.new.parts f.len i.2 c.put_among.ensures.rest,
      rw (put c) (All-with_one (λ x. x < VARIABLES) c.args.var (take f.len f.ids) c.requires i.3),
      rw (put c) (Rises-with_one c.args.var (take f.len f.ids) i.4),
    )

pub returns-clause-ok : goal.returns-clause-ok
returns-clause-ok c = rw (← c.self.view_is) (put c)
