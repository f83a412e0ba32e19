use Rattle.std.proofs.Common.{◌≡◌, sym, ap, ◌∙◌, subst, refl, rules}
use Rattle.std.specs.Prelude.{IsErr, ◌⊎◌, true, false, ◌<◌, ◌≤◌, length, map, Contains}
use Rattle.std.proofs.lemmas.List.{length-map}
use Rattle.gl_model.specs.declared.limits.TheConstants.{TX_VARIABLES}
use Rattle.gl_model.specs.declared.tx.Tx.{Tx}
use Rattle.gl_model.specs.Kept.{AreVariables}
use Rattle.gl_model.specs.Rising.{with_one}
use Rattle.gl_txn.specs.Attempts.{Attempting, IsTooLarge, is_in, size, variables_in}
use Rattle.gl_txn.specs.TxnInside.{txn_view}
use Rattle.gl_txn.proofs.Sizes.{too_large, has_room, written_all, of_write, of_look}
use Rattle.gl_model.proofs.PutParts.{one_fits}
use Rattle.gl_txn.proofs.attempt.Txn.write.Goals as goal

pub returns-then-is_err-clause-large : goal.returns-then-is_err-clause-large
returns-then-is_err-clause-large c =
    let err : IsErr c.insert.result = search rules in (
      refl,
      subst (λ (a : Attempting). IsTooLarge a c.args.var) c.self.view_is
          (too_large (txn_view c.self.inside) c.args.var c.self.inside.all c.self.invariant.all (c.insert.ensures.full.0 err)),
    )

pub unreachable-requires : goal.unreachable-requires
unreachable-requires c =
    let added : c.insert.new.self ≡ with_one c.args.var c.self.inside.all = search rules in
    let t = c.self.inside.tx.value in
    let full = subst (λ (t : Tx). (length t.writes ≡ TX_VARIABLES) × (Contains (map of_write t.writes) c.args.var → ⊥))
    c.deref_mut.ensures.value (c.in_default.ensures.full.0 refl) in
    let few = subst (λ l. length l ≤ TX_VARIABLES) (added ∙ ap (with_one c.args.var) c.self.invariant.all) c.keeps-4.ensures.0 in
    let writes = subst (λ (t : Tx). AreVariables (map of_write t.writes)) c.deref.ensures c.keeps.ensures in
    let looks = subst (λ (t : Tx). AreVariables (map of_look t.looks)) c.deref-2.ensures c.keeps-2.ensures in
    one_fits c.args.var TX_VARIABLES (map of_write t.writes) (map of_look t.looks) writes.1 looks.1 few (length-map t.writes of_write
    ∙ full.0) full.1

pub invariant_of-self-2 : goal.invariant_of-self-2
invariant_of-self-2 c =
    let added : c.insert.new.self ≡ with_one c.args.var c.self.inside.all = search rules in
    let e = c.deref_mut.ensures.value in
    record {
      looked = c.self.invariant.looked ∙ ap (λ (t : Tx). map of_look t.looks) (sym e);
      all = added ∙ ap (with_one c.args.var) c.self.invariant.all
          ∙ ap (λ (t : Tx). with_one c.args.var (variables_in t.looks t.writes)) (sym e)
          ∙ written_all c.deref_mut.result.now.looks c.deref_mut.result.now.writes c.put.new.self _ c.in-Ok.ensures.ok;
      unnumbered = ap (λ (t : Tx). t.numbers) e ∙ c.self.invariant.unnumbered;
      empty = c.self.invariant.empty;
      room = c.self.invariant.room;
    }

pub returns-clause-room : goal.returns-clause-room
returns-clause-room c =
    subst (λ (a : Attempting). (is_in a c.args.var ≡ true) ⊎ (size a < TX_VARIABLES)) c.self.view_is
    (has_room (txn_view c.self.inside) c.args.var c.self.inside.all c.self.invariant.all c.keeps-3.ensures.0
    (λ f. (let z : true ≡ false = sym (c.insert.ensures.full.1 f) ∙ sym c.is_err.ensures.value ∙ c.if-is_err.false in cc)))
