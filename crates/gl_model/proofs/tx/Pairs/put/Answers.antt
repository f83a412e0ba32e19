use Rattle.std.proofs.Common.{◌≡◌, ◌≢◌, ◌∙◌, ◌+◌, ◌<◌, ◌≤◌, length, take, get_or, slice_set, refl, pos, arith}
use Rattle.std.proofs.lemmas.List.{length-take-le, length-set}
use Rattle.gl_model.specs.declared.limits.TheConstants.{TX_VARIABLES}
use Rattle.gl_model.specs.declared.tx.Pair.{Pair}
use Rattle.gl_model.specs.Rising.{with_part}
use Rattle.gl_model.proofs.Parts.{Placed, set_there, put_there, not_among, otherwise, still_variables}
use Rattle.gl_model.proofs.tx.Pairs.put.Goals as goal
use Rattle.gl_model.proofs.tx.Pairs.put.Goals.{else-i-len-via-then-i-len+else-self-i, else-i-len-via-else-i-len}

-- there is one of the variable, and it is replaced
set : (c : goal.Then-self-i) → take c.self.inside.len (slice_set c.self.inside.parts c.place_of-i.result c.args.part)
    ≡ with_part (λ p. p.var) c.args.part (take c.self.inside.len c.self.inside.parts)
set c =
    let f = c.self.inside in
    let p = c.place_of-i in
    let long : f.len ≤ length f.parts = (let l = c.self.invariant in omega arith) in
    let placed : Placed (λ q. q.var) c.args.part.var c.args.self.now p.result =
    record { within = p.ensures.within; below = p.ensures.below; here = p.ensures.here } in
    set_there (λ q. q.var) c.args.part f.parts f.len p.result long (rw (← c.self.view_is) at placed) (record { var = 0; value = pos 0 })
    c.if-i-len.true c.if-self-i.true

pub returns-then-self-i-clause-ok : goal.returns-then-self-i-clause-ok
returns-then-self-i-clause-ok c = rw (← c.self.view_is) (set c)

pub invariant_of-self : goal.invariant_of-self
invariant_of-self c =
    let f = c.self.inside in
    let long : length (slice_set f.parts c.place_of-i.result c.args.part)
    ≡ length f.parts = length-set f.parts c.place_of-i.result c.args.part in
    let n : f.len ≤ length (slice_set f.parts c.place_of-i.result c.args.part) = (let l = c.self.invariant in omega arith) in
    let few : length (take f.len (slice_set f.parts c.place_of-i.result c.args.part)) ≤ TX_VARIABLES =
    (let l = c.self.invariant in rw (length-take-le f.len (slice_set f.parts c.place_of-i.result c.args.part) n) l.1) in (
      long ∙ c.self.invariant.0,
      c.self.invariant.1,
      still_variables (λ q. q.var) c.args.part (take f.len f.parts)
          (take f.len (slice_set f.parts c.place_of-i.result c.args.part)) (set c) few c.requires c.self.invariant.2,
    )

pub returns-then-self-eq-TX_VARIABLES-clause-full : goal.returns-then-self-eq-TX_VARIABLES-clause-full
returns-then-self-eq-TX_VARIABLES-clause-full c =
    let f = c.self.inside in
    let p = c.place_of-i in
    let long : f.len ≤ length f.parts = (let l = c.self.invariant in omega arith) in
    let placed : Placed (λ q. q.var) c.args.part.var c.args.self.now p.result =
    record { within = p.ensures.within; below = p.ensures.below; here = p.ensures.here } in
    let placed_here = rw (← c.self.view_is) at placed in
    let other : (d : Pair) → p.result < f.len
    → (get_or f.parts p.result d).var ≢ c.args.part.var =
    λ d l. elim c.else-i-len.branch [
      | else-i-len-via-then-i-len+else-self-i w ↦
          otherwise (λ q. q.var) c.args.part f.parts f.len p.result long placed_here (record { var = 0; value = pos 0 }) d l
          w.if-self-i.false
      | else-i-len-via-else-i-len w ↦ absurd (let n = w.if-i-len.false in omega arith)
    ] in
    rw (← c.self.view_is) (
      λ _. (
        length-take-le f.len f.parts long
            ∙ c.if-self-eq-TX_VARIABLES.true,
        not_among (λ q. q.var) c.args.part f.parts f.len p.result long placed_here c.self.invariant.2.1
            other,
      ),
      λ _. refl,
    )

-- there is none, and it is put in
put : (c : goal.After-self-1) → take (c.self.inside.len + 1) c.put_among.new.parts
    ≡ with_part (λ p. p.var) c.args.part (take c.self.inside.len c.self.inside.parts)
put c =
    let f = c.self.inside in
    let p = c.place_of-i in
    let long : f.len ≤ length f.parts = (let l = c.self.invariant in omega arith) in
    let placed : Placed (λ q. q.var) c.args.part.var c.args.self.now p.result =
    record { within = p.ensures.within; below = p.ensures.below; here = p.ensures.here } in
    let placed_here = rw (← c.self.view_is) at placed in
    let other : (d : Pair) → p.result < f.len
    → (get_or f.parts p.result d).var ≢ c.args.part.var =
    λ d l. elim c.else-i-len.branch [
      | else-i-len-via-then-i-len+else-self-i w ↦
          otherwise (λ q. q.var) c.args.part f.parts f.len p.result long placed_here (record { var = 0; value = pos 0 }) d l
          w.if-self-i.false
      | else-i-len-via-else-i-len w ↦ absurd (let n = w.if-i-len.false in omega arith)
    ] in
    c.put_among.ensures.parts ∙ put_there (λ q. q.var) c.args.part f.parts f.len p.result long placed_here other

pub invariant_of-self-2 : goal.invariant_of-self-2
invariant_of-self-2 c =
    let f = c.self.inside in
    let same = c.put_among.auto.parts in
    let less : f.len + 1 ≤ TX_VARIABLES = (let l = c.self.invariant.1 in let n = c.if-self-eq-TX_VARIABLES.false in omega arith) in
    let n : f.len + 1 ≤ length c.put_among.new.parts = (let l = c.self.invariant.0 in omega arith) in
    let few : length (take (f.len + 1) c.put_among.new.parts) ≤ TX_VARIABLES =
    rw (length-take-le (f.len + 1) c.put_among.new.parts n) less in (
      same ∙ c.self.invariant.0,
      less,
      still_variables (λ q. q.var) c.args.part (take f.len f.parts)
          (take (f.len + 1) c.put_among.new.parts) (put c) few c.requires c.self.invariant.2,
    )

pub returns-clause-ok : goal.returns-clause-ok
returns-clause-ok c = rw (← c.self.view_is) (put c)
