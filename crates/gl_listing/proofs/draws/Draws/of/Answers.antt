use Rattle.std.proofs.Common.{◌≡◌, ◌∙◌, ◌+◌, ◌++◌, [], get_or, ap, arith, map, sym}
use Rattle.std.specs.Prelude.{unwrap_or}
use Rattle.std.proofs.lemmas.List.{append-nil}
use Rattle.gl_model.specs.Entries.{seen}
use Rattle.gl_places.specs.Uses.{uses_from, uses_of}
use Rattle.gl_model.proofs.ThreadLists.{all_below, below, below_none}
use Rattle.gl_places.proofs.Gathered.{gathers_next}
use Rattle.gl_listing.specs.Numbering.{draws_on}
use Rattle.gl_listing.proofs.Adding.{list_kept}
use Rattle.gl_listing.proofs.draws.Draws.of.Goals as goal
use Rattle.gl_listing.proofs.draws.Draws.of.Goals.{in-Some+in_ok-add_list, in_default}

pub loop-thread-init : goal.loop-thread-init
loop-thread-init c = λ x. c.in_ok-draws.ensures x ∙ ap (uses_of (draws_on x)) (sym (below_none c.args.made.now))

pub add_list-requires : goal.add_list-requires
add_list-requires c = list_kept c.args.made.now c.keeps.ensures.1 c.loop-thread.thread _ c.in-Some.ensures

pub loop-thread-preserved : goal.loop-thread-preserved
loop-thread-preserved c =
    let made = c.args.made.now in
    let t = c.loop-thread.thread in
    elim c.match-thread.branch [
      | in-Some+in_ok-add_list w ↦
          λ x. (let gathered = uses_of (draws_on x) (below t made) in
          let more : uses_of (draws_on x) (below (t + 1) made) ≡ gathered ++ uses_from (draws_on x) t 0 (map seen w.in-Some.list.now) =
          gathers_next (draws_on x) t made c.keeps.ensures.0
          ∙ ap (λ o. gathered ++ uses_from (draws_on x) t 0 (unwrap_or o [])) w.in-Some.ensures in
          let now = ap (λ d. get_or d x []) w.draws-is in
          now ∙ w.in_ok-add_list.ensures x ∙ ap (λ us. us ++ uses_from (draws_on x) t 0 (map seen w.in-Some.list.now))
          (c.loop-thread.invariant x) ∙ sym more)
      | in_default w ↦
          λ x. (let gathered = uses_of (draws_on x) (below t made) in
          let more : uses_of (draws_on x) (below (t + 1) made) ≡ gathered =
          gathers_next (draws_on x) t made c.keeps.ensures.0
          ∙ ap (λ o. gathered ++ uses_from (draws_on x) t 0 (unwrap_or o [])) w.in_default.ensures
          ∙ append-nil gathered in
          ap (λ d. get_or d x []) w.draws-is ∙ c.loop-thread.invariant x ∙ sym more)
    ]

pub returns : goal.returns
returns c =
    let made = c.args.made.now in
    λ x. c.loop-thread.invariant x ∙ ap (λ n. uses_of (draws_on x) (below n made)) (omega arith)
    ∙ ap (uses_of (draws_on x)) (all_below made c.keeps.ensures.1)
