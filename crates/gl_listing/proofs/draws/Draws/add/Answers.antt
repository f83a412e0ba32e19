use Rattle.std.proofs.Common.{◌∙◌, ◌++◌, ◌∷◌, [], ◌<◌, ◌==◌, if◌then◌else◌, List, get_or, ap, arith, length, map}
use Rattle.std.proofs.lemmas.List.{map-append}
use Rattle.gl_places.specs.declared.uses.Use.{Use as StoredUse}
use Rattle.gl_places.specs.Places.{seen}
use Rattle.gl_places.specs.Uses.{use_seen}
use Rattle.gl_listing.proofs.Adding.{set_one, use_of}
use Rattle.gl_listing.proofs.draws.Draws.add.Goals as goal

pub returns : goal.returns
returns c =
    let lists = c.self.inside.lists.items in
    let less : c.args.var < length lists = (let long = c.self.invariant in let within = c.requires in omega arith) in
    let pushed = ap (λ (us : List StoredUse). map use_seen us) c.in_ok-push.ensures.items
    ∙ map-append use_seen c.index_mut.result.now.items (record { place = c.args.place; number = c.args.number } ∷ []) in
    let is = pushed ∙ ap (λ l. map use_seen l.items ++ (seen c.args.place, c.args.number) ∷ []) c.index_mut.ensures.value in
    let added = set_one (λ l. map use_seen l.items) lists (seen c.args.place) c.args.var c.args.number _ c.push.new.self less is in
    λ x. added x ∙ ap (λ us. get_or us x [] ++ map (λ k. use_of (seen c.args.place) k) (if c.args.var == x then c.args.number ∷ []
    else [])) c.self.view_is
