use Rattle.std.proofs.Common.{◌≡◌, ◌<◌, ◌∷◌, [], ◌++◌, List, length, sym, ap, subst, ◌∙◌, append_assoc, append-nil, arith}
use Rattle.std.specs.List.{AllByRecursion}
use Rattle.std.specs.Vec.Iter.{into_iter_items}
use Rattle.gl_rule.specs.Closed.{kept_lists}
use Rattle.gl_table.specs.Ending.{IsRoot, shelves_of}
use Rattle.gl_table.specs.PassView.{shelf_of}
use Rattle.gl_table.proofs.Gathering.{kept_more, shelves_more, next_done, next_behind, nothing_left}
use Rattle.gl_table.proofs.close.gather.Goals as goal

pub gather_one-requires-clause-pass : goal.gather_one-requires-clause-pass
gather_one-requires-clause-pass c =
    let at = c.loop-pass in
    let i = at.invariant in
    let steps = c.in-Some.ensures.steps.0 in
    let all = ap (λ l. at.yielded ++ l) (sym steps) ∙ i.0 ∙ c.into_iter-pass-iterator.ensures.into_iter_gives.0 in
    (length at.yielded, next_done _ c.args.passes.items at.yielded _ c.in-Some.pass c.requires.all all)

pub gather_one-requires-clause-behind : goal.gather_one-requires-clause-behind
gather_one-requires-clause-behind c =
    let at = c.loop-pass in
    let i = at.invariant in
    let steps = c.in-Some.ensures.steps.0 in
    let all = ap (λ l. at.yielded ++ l) (sym steps) ∙ i.0 ∙ c.into_iter-pass-iterator.ensures.into_iter_gives.0 in
    subst (λ l. AllByRecursion (λ x. x.0 < c.in-Some.pass.own.id) l) (sym i.5)
    (next_behind _ c.args.passes.items at.yielded _ c.in-Some.pass c.requires.all all)

pub loop-pass-preserved : goal.loop-pass-preserved
loop-pass-preserved c =
    let at = c.loop-pass in
    let i = at.invariant in
    let x = c.in-Some.pass in
    let steps : into_iter_items at.pass-iterator ≡ x ∷ into_iter_items c.next.new.self = c.in-Some.ensures.steps.0 in
    let gone = c.in-Some.ensures.steps.1 in
    let short = ap length steps in
    let g = c.gather_one.ensures in
    let room = g.room in
    let len = i.1 in
    let left = i.2 in (
      append_assoc at.yielded (x ∷ []) _ ∙ ap (λ l. at.yielded ++ l) (sym steps) ∙ i.0,
      (let a = i.1 in omega arith),
      (let a = i.1 in omega arith),
      g.table ∙ i.3,
      g.root at.yielded i.4,
      g.lists ∙ ap (λ l. l ++ kept_lists (shelf_of x ∷ [])) i.5
          ∙ sym (ap kept_lists (shelves_more at.yielded x) ∙ kept_more (shelves_of at.yielded) (shelf_of x)),
    )

all_yielded : {X : Type 0} (xs ys zs : List X) → ys ≡ [] → xs ++ ys ≡ zs → xs ≡ zs
all_yielded xs ys zs none is = sym (append-nil xs) ∙ ap (λ l. xs ++ l) (sym none) ∙ is

pub returns-clause-root : goal.returns-clause-root
returns-clause-root c =
    let at = c.loop-pass in
    let i = at.invariant in
    let empty : into_iter_items at.pass-iterator ≡ [] = nothing_left _ (i.1 ∙ c.in-None.ensures.steps.0) in
    let all : at.yielded ≡ c.args.passes.items = all_yielded at.yielded _ _ empty i.0
    ∙ c.into_iter-pass-iterator.ensures.into_iter_gives.0 in
    subst (λ l. IsRoot at.root.me l) all i.4

pub returns-clause-lists : goal.returns-clause-lists
returns-clause-lists c =
    let at = c.loop-pass in
    let i = at.invariant in
    let empty : into_iter_items at.pass-iterator ≡ [] = nothing_left _ (i.1 ∙ c.in-None.ensures.steps.0) in
    let all : at.yielded ≡ c.args.passes.items = all_yielded at.yielded _ _ empty i.0
    ∙ c.into_iter-pass-iterator.ensures.into_iter_gives.0 in
    i.5 ∙ ap (λ l. kept_lists (shelves_of l)) all
