use Rattle.std.proofs.Common.{◌<◌, ◌^◌, ◌∙◌, All, ap, length, subst, sym, arith}
use Rattle.gl_model.specs.Lists.{lists_of}
use Rattle.gl_raised.specs.Accesses.{IsWithin}
use Rattle.gl_raised.proofs.Faulting.{all_within, finish}
use Rattle.gl_raised.proofs.Kept.{entry_kept}
use Rattle.gl_raised.proofs.fault.fault_by_places.Goals as goal

pub learn-requires : goal.learn-requires
learn-requires c = record {
  within = subst (λ us. All (λ a. IsWithin (length c.in_ok-known.known.items) a) us) (sym c.deref-4.ensures.value) (
      all_within (lists_of c.args.made.now) _ c.in_ok-all.all.claims.items c.in_ok-all.all.accesses.items _ c.in_ok-all.ensures
      c.in_ok-put_in_order.ensures
      (λ d e a. entry_kept c.args.made.now c.keeps.ensures d.thread d.index e a) (length c.in_ok-known.known.items)
      (c.in_ok-known.ensures.long ∙ ap length c.deref-2.ensures.value)
      );
}

pub least_races-requires : goal.least_races-requires
least_races-requires c = record {
  within = subst (λ us. All (λ a. IsWithin (length c.deref-6.result.now) a) us) (sym c.deref-5.ensures.value) (
      all_within (lists_of c.args.made.now) _ c.in_ok-all.all.claims.items c.in_ok-all.all.accesses.items _ c.in_ok-all.ensures
      c.in_ok-put_in_order.ensures
      (λ d e a. entry_kept c.args.made.now c.keeps.ensures d.thread d.index e a) (length c.deref-6.result.now)
      (ap length c.deref-6.ensures.value ∙ c.in_ok-learn.ensures.long ∙ c.in_ok-known.ensures.long ∙ ap length c.deref-2.ensures.value)
      );
}

pub returns : goal.returns
returns c =
    let s = c.in_ok-rows.rows.ok in
    let t = c.in_ok-rows.rows.small in
    let short : length c.in_ok-rows.rows.items < 2 ^ 64 = (let a = s.0 in let b = s.1 in omega arith) in
    finish (lists_of c.args.made.now) c.in_ok-all.all.claims.items c.in_ok-all.all.accesses.items _ c.in_ok-rows.rows.items
    c.in_ok-known.known.items _ c.in_ok-least.least.items c.first_other.result c.requires.form
    c.requires.numbered c.requires.steps c.in_ok-all.ensures (λ d e a. entry_kept c.args.made.now c.keeps.ensures d.thread d.index e a)
    c.in_ok-put_in_order.ensures short c.in_ok-rows.ensures _ _ _ _ _ _ _ _
    c.deref.ensures.value c.deref-2.ensures.value c.deref-3.ensures.value c.deref-4.ensures.value c.deref-5.ensures.value
    c.deref-6.ensures.value c.deref-7.ensures.value c.deref-8.ensures.value c.in_ok-known.ensures.clocks
    c.in_ok-learn.ensures.known (c.in_ok-least.ensures.long ∙ ap length c.deref-6.ensures.value ∙ c.in_ok-learn.ensures.long
    ∙ c.in_ok-known.ensures.long ∙ ap length c.deref-2.ensures.value) c.in_ok-least.ensures.least
    c.first_other.ensures
