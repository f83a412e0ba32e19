use Rattle.std.proofs.Common.{◌≡◌, ◌≤◌, ◌+◌, ◌++◌, ◌∙◌, Some, ap, sym, refl, map, arith, length}
use Rattle.std.specs.Prelude.{slice_get}
use Rattle.gl_places.specs.declared.place.Place.{Place as StoredPlace}
use Rattle.gl_raised.specs.Accesses.{accesses_of, claims_of}
use Rattle.gl_raised.specs.Gathers.{block_before}
use Rattle.std.proofs.lemmas.List.{length-map}
use Rattle.gl_model.specs.Entries.{seen}
use Rattle.gl_raised.proofs.Gathering.{block_more, gathered_more, next_thread, seen_at}
use Rattle.gl_raised.proofs.gather.add_list.Goals as goal

pub loop-index-preserved : goal.loop-index-preserved
loop-index-preserved c =
    let list = c.args.list.now in
    let i = c.loop-index.index in
    let t = c.args.thread in
    let e = seen c.index-list-index.result in
    let at = c.block_after-block.result in
    let place : StoredPlace = record { thread = t; index = i } in
    let there : slice_get (map seen list) i ≡ Some e = seen_at list i c.index-list-index.result c.loop-index-test.true
    ∙ ap (λ x. Some (seen x)) (sym c.index-list-index.is) in
    let block = c.block_after-block.ensures ∙ block_more (map seen list) i c.loop-index.block e there c.loop-index.invariant.block in
    let claims : c.add_claim.new.self.claims.items ≡ c.loop-index.all.claims.items
    ++ claims_of place at e = c.in_ok-add_claim.ensures.claims
    ∙ ap (λ l. l ++ claims_of place at e) c.in_ok-add_accesses.ensures.claims in
    let accesses : c.add_claim.new.self.accesses.items ≡ c.loop-index.all.accesses.items
    ++ accesses_of (length c.loop-index.all.claims.items) t at e = c.in_ok-add_claim.ensures.accesses
    ∙ c.in_ok-add_accesses.ensures.accesses in record {
      block = block;
      gathered = λ R same start. rw (claims, accesses) (
          gathered_more R t i at place refl refl refl e (ap (λ l. slice_get l i) same ∙ there) (block
          ∙ ap (λ l. block_before l (i + 1)) (sym same)) c.loop-index.all.claims.items
          c.loop-index.all.accesses.items (c.loop-index.invariant.gathered R same start)
          );
    }

pub returns : goal.returns
returns c R same start =
    let n = length-map c.args.list.now seen in
    let whole : length (R c.args.thread) ≤ c.loop-index.index =
    (let a = c.loop-index-test.false in let l = ap length same in omega arith) in
    next_thread R c.args.thread c.loop-index.index c.loop-index.all.claims.items c.loop-index.all.accesses.items whole
    (c.loop-index.invariant.gathered R same start)
