use Rattle.std.proofs.Common.{◌≡◌, ◌∙◌, ◌+◌, ◌++◌, [], ap, arith, map}
use Rattle.std.specs.Prelude.{unwrap_or}
use Rattle.std.proofs.lemmas.List.{append-nil}
use Rattle.gl_model.specs.Entries.{seen}
use Rattle.gl_places.specs.Uses.{positions_on, uses_from, uses_of}
use Rattle.gl_model.proofs.ThreadLists.{all_below, below, below_none}
use Rattle.gl_places.proofs.Gathered.{gathers_next}
use Rattle.gl_places.proofs.uses.positions.Goals as goal
use Rattle.gl_places.proofs.uses.positions.Goals.{in-Some+in_ok-add_positions, in_default}

pub loop-thread-init : goal.loop-thread-init
loop-thread-init c = rw (c.new-uses.ensures.items, below_none c.args.made.now)

pub loop-thread-preserved : goal.loop-thread-preserved
loop-thread-preserved c =
    let made = c.args.made.now in
    let t = c.loop-thread.thread in
    let gathered = uses_of positions_on (below t made) in
    let next = gathers_next positions_on t made c.keeps.ensures.0 in
    elim c.match-thread.branch [
      | in-Some+in_ok-add_positions w ↦
          (let more : uses_of positions_on (below (t + 1) made) ≡ gathered ++ uses_from positions_on t 0 (map seen w.in-Some.list.now) =
          next ∙ ap (λ o. gathered ++ uses_from positions_on t 0 (unwrap_or o [])) w.in-Some.ensures in
          cc (c.loop-thread.invariant, w.in_ok-add_positions.ensures))
      | in_default w ↦
          (let more : uses_of positions_on (below (t + 1) made) ≡ gathered =
          next ∙ ap (λ o. gathered ++ uses_from positions_on t 0 (unwrap_or o [])) w.in_default.ensures ∙ append-nil gathered in
          cc (c.loop-thread.invariant))
    ]

pub returns : goal.returns
returns c =
    let made = c.args.made.now in
    c.loop-thread.invariant ∙ ap (λ n. uses_of positions_on (below n made)) (omega arith)
    ∙ ap (uses_of positions_on) (all_below made c.keeps.ensures.1)
