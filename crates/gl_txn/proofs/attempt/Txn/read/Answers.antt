use Rattle.std.proofs.Common.{◌≡◌, sym, ap, ◌∙◌, subst, refl, rules, arith, FitsSigned, w64, None}
use Rattle.std.specs.Prelude.{IsErr, true, false, ◌<◌, map, ◌==◌}
use Rattle.std.specs.List.{find}
use Rattle.std.proofs.lemmas.Int.{to_z-of_z}
use Rattle.gl_model.specs.declared.limits.TheConstants.{TX_VARIABLES}
use Rattle.gl_model.specs.declared.tx.Tx.{Tx}
use Rattle.gl_model.specs.Rising.{with_one, with_part}
use Rattle.gl_txn.specs.Attempts.{Attempting, IsTooLarge, is_in, size, variables_in, written, looked, with_look}
use Rattle.gl_txn.specs.Reading.{IsRead, HasLooked}
use Rattle.gl_txn.specs.Trying.{Draws}
use Rattle.gl_txn.specs.TxnInside.{txn_view}
use Rattle.gl_txn.proofs.Sizes.{too_large, neither, look_fits, looked_all, looked_keys, of_look}
use Rattle.gl_txn.proofs.NewLooks.{is_read, has_looked, none_waits}
use Rattle.gl_txn.proofs.attempt.Txn.read.Goals as goal

pub returns-then-is_err-clause-large : goal.returns-then-is_err-clause-large
returns-then-is_err-clause-large c =
    let err : IsErr c.insert.result = search rules in
    subst (λ (a : Attempting). IsTooLarge a c.args.var) c.self.view_is
    (too_large (txn_view c.self.inside) c.args.var c.self.inside.all c.self.invariant.all (c.insert.ensures.full.0 err))

pub returns-then-is_err-clause-cause : goal.returns-then-is_err-clause-cause
returns-then-is_err-clause-cause c =
    let err : IsErr c.insert.result = search rules in (
      subst (λ (a : Attempting). IsTooLarge a c.args.var) c.self.view_is
          (too_large (txn_view c.self.inside) c.args.var c.self.inside.all c.self.invariant.all (c.insert.ensures.full.0 err)),
      refl,
    )

pub unreachable-requires : goal.unreachable-requires
unreachable-requires c =
    let a = txn_view c.self.inside in
    let w : written a c.args.var ≡ None = ap (λ (t : Tx). find (λ p. p.var == c.args.var) t.writes) (sym c.deref.ensures)
    ∙ sym c.of.ensures ∙ c.in_default.is in
    let l : looked a c.args.var ≡ None = ap (λ (t : Tx). find (λ p. p.var == c.args.var) t.looks) (sym c.deref-2.ensures)
    ∙ sym c.of-2.ensures ∙ c.in_default-of.is in
    let fits = look_fits a c.args.var (neither a c.args.var w l) c.self.inside.all c.self.inside.looked c.self.invariant.all
    c.self.invariant.looked c.keeps.ensures.0
    (λ f. (let z : true ≡ false = sym (c.insert.ensures.full.1 f) ∙ sym c.is_err.ensures.value ∙ c.if-is_err.false in cc)) in
    let full = c.in_default-insert.ensures.full.0 refl in
    let near = fits.0 in
    let at = full.0 in
    omega arith

pub returns-in-Err-clause-cause : goal.returns-in-Err-clause-cause
returns-in-Err-clause-cause c =
    let a = txn_view c.self.inside in
    let w : written a c.args.var ≡ None = ap (λ (t : Tx). find (λ p. p.var == c.args.var) t.writes) (sym c.deref.ensures)
    ∙ sym c.of.ensures ∙ c.in_default.is in
    let l : looked a c.args.var ≡ None = ap (λ (t : Tx). find (λ p. p.var == c.args.var) t.looks) (sym c.deref-2.ensures)
    ∙ sym c.of-2.ensures ∙ c.in_default-of.is in
    let fits = look_fits a c.args.var (neither a c.args.var w l) c.self.inside.all c.self.inside.looked c.self.invariant.all
    c.self.invariant.looked c.keeps.ensures.0
    (λ f. (let z : true ≡ false = sym (c.insert.ensures.full.1 f) ∙ sym c.is_err.ensures.value ∙ c.if-is_err.false in cc)) in
    let busy = c.in-Err.ensures.busy in (
      ap (λ (a : Attempting). is_in a c.args.var) (sym c.self.view_is)
          ∙ neither a c.args.var w l,
      subst (λ (a : Attempting). size a < TX_VARIABLES) c.self.view_is fits.1,
      busy.0,
      c.in-Err.ensures.other,
      busy.1,
    )

pub invariant_of-self : goal.invariant_of-self
invariant_of-self c =
    let e = c.deref_mut.ensures.value in
    let added : c.insert.new.self ≡ with_one c.args.var c.self.inside.all = search rules in
    let at = c.in-Ok-look_at.ensures.look.1 in
    record {
      looked = c.in-Ok.ensures.ok ∙ ap (with_one c.args.var) c.self.invariant.looked
          ∙ ap (λ (t : Tx). with_one c.args.var (map of_look t.looks)) (sym e)
          ∙ looked_keys c.args.var c.deref_mut.result.now.looks c.put.new.self _ c.in-Ok-put.ensures.ok at;
      all = added ∙ ap (with_one c.args.var) c.self.invariant.all
          ∙ ap (λ (t : Tx). with_one c.args.var (variables_in t.looks t.writes)) (sym e)
          ∙ looked_all c.args.var c.deref_mut.result.now.looks c.put.new.self c.deref_mut.result.now.writes _ c.in-Ok-put.ensures.ok at;
      unnumbered = ap (λ (t : Tx). t.numbers) e ∙ c.self.invariant.unnumbered;
      empty = c.self.invariant.empty;
      room = c.self.invariant.room;
    }

pub returns-clause-done : goal.returns-clause-done
returns-clause-done c =
    let fits : FitsSigned w64 c.in-Ok-look_at.look.value = search rules in
    let a = txn_view c.self.inside in
    let e = c.deref_mut.ensures.value in
    let look = c.in-Ok-look_at.look in
    let w : written a c.args.var ≡ None = ap (λ (t : Tx). find (λ p. p.var == c.args.var) t.writes) (sym c.deref.ensures)
    ∙ sym c.of.ensures ∙ c.in_default.is in
    let l : looked a c.args.var ≡ None = ap (λ (t : Tx). find (λ p. p.var == c.args.var) t.looks) (sym c.deref-2.ensures)
    ∙ sym c.of-2.ensures ∙ c.in_default-of.is in
    let room = look_fits a c.args.var (neither a c.args.var w l) c.self.inside.all c.self.inside.looked c.self.invariant.all
    c.self.invariant.looked c.keeps.ensures.0
    (λ f. (let z : true ≡ false = sym (c.insert.ensures.full.1 f) ∙ sym c.is_err.ensures.value ∙ c.if-is_err.false in cc)) in
    let put : c.put.new.self ≡ with_part of_look look c.deref_mut.result.now.looks = c.in-Ok-put.ensures.ok in
    let b : Attempting = record { looks = c.put.new.self; writes = c.deref_mut.result.now.writes } in
    let more : b ≡ with_look look.var look.value look.nth a = ap (λ ls. record b { looks = ls }) put
    ∙ ap (λ (t : Tx). with_look look.var look.value look.nth (record { looks = t.looks; writes = t.writes })) e in
    simp to_z-of_z (subst (λ (a : Attempting). IsRead c.args.var look.value a c.args.pass.now.own b c.look_at.new.pass.own) c.self.view_is
    (is_read c.args.var look a b c.args.pass.now c.look_at.new.pass w l c.in-Ok-look_at.ensures.look more
    (subst (λ (a : Attempting). Draws a c.args.pass.now.own) (sym c.self.view_is) c.requires.may.draws) room.1))

pub returns-clause-looked : goal.returns-clause-looked
returns-clause-looked c =
    let fits : FitsSigned w64 c.in-Ok-look_at.look.value = search rules in
    let a = txn_view c.self.inside in
    let w : written a c.args.var ≡ None = ap (λ (t : Tx). find (λ p. p.var == c.args.var) t.writes) (sym c.deref.ensures)
    ∙ sym c.of.ensures ∙ c.in_default.is in
    let l : looked a c.args.var ≡ None = ap (λ (t : Tx). find (λ p. p.var == c.args.var) t.looks) (sym c.deref-2.ensures)
    ∙ sym c.of-2.ensures ∙ c.in_default-of.is in
    simp to_z-of_z (subst (λ (a : Attempting). HasLooked a c.args.var c.in-Ok-look_at.look.value c.args.pass.now c.look_at.new.pass)
    c.self.view_is (has_looked c.args.var c.in-Ok-look_at.look a c.args.pass.now c.look_at.new.pass w l c.in-Ok-look_at.ensures.look))

pub look_at-requires-clause-room : goal.look_at-requires-clause-room
look_at-requires-clause-room c =
    let a = txn_view c.self.inside in
    let l : looked a c.args.var ≡ None = ap (λ (t : Tx). find (λ p. p.var == c.args.var) t.looks) (sym c.deref-2.ensures)
    ∙ sym c.of-2.ensures ∙ c.in_default-of.is in
    none_waits a c.args.pass.now.own (subst (λ (a : Attempting). Draws a c.args.pass.now.own) (sym c.self.view_is) c.requires.may.draws)
    c.args.var l
