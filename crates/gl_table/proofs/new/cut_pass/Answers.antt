use Rattle.std.proofs.Common.{◌≡◌, ℕ, List, [], ◌∷◌, refl, sym, ap, ◌∙◌, arith, subst, false}
use Rattle.std.proofs.lemmas.List.Elements.{All-nil}
use Rattle.atomic_table.specs.Table as table
use Rattle.gl_model.specs.Entries.{Entry}
use Rattle.gl_rule.specs.Knowledge.{AreBelow}
use Rattle.gl_model.specs.Kept.{IsEntryKept}
use Rattle.gl_rule.specs.declared.slot.Slot.{Slot}
use Rattle.gl_rule.specs.View.{View, shelf, blank}
use Rattle.gl_table.specs.PassInside.{IsPass}
use Rattle.gl_table.specs.Stored.{Stored}
use Rattle.gl_table.proofs.Closings.{cuts, cut_views}
use Rattle.gl_table.proofs.Passes.{is_pass}
use Rattle.gl_table.proofs.Out.{none_out}
use Rattle.gl_table.proofs.new.cut_pass.Goals as goal

pub split_seat-requires : goal.split_seat-requires
split_seat-requires c = let t = c.requires.table in let long = t.1.words
    in (t.0, omega arith, cuts _ _ c.args.id _ c.requires.named (ap (λ m. m.0) c.requires.view))

pub returns-clause-seat : goal.returns-clause-seat
returns-clause-seat c =
    let e = c.split_seat.ensures in
    let v = (cut_views c.args.id _ c.requires.named (ap (λ m. m.0) c.requires.view)).0 in
    (e.0, e.2 ∙ (λ i. (v i, (ap (λ m. m.1) c.requires.view) i)))

none_below : (id : ℕ) → AreBelow 0 (shelf id [])
none_below id i p e at is = absurd (cc)

pub invariant_of-result : goal.invariant_of-result
invariant_of-result c =
    let e = c.split_seat.ensures in
    let v = (cut_views c.args.id _ c.requires.named (ap (λ m. m.0) c.requires.view)).1 in
    let is : c.split_seat.result.me ≡ (blank (shelf c.args.id [] ∷ []), []) = e.4
    ∙ ap (λ (z : View). let r : table.Me Slot View = (z, []) in r) v in
    let fresh : IsPass (blank (shelf c.args.id [] ∷ []), []) c.args.id [] 0 [] false =
    is_pass (blank (shelf c.args.id [] ∷ [])) [] c.args.id [] 0 [] false refl c.requires.named refl refl refl none_out
    (none_below c.args.id) (All-nil IsEntryKept) in
    record {
      pass = subst (λ (o : List ℕ). IsPass c.split_seat.result.me c.args.id c.in_ok-mine.mine.entries 0 o false)
          (sym c.in_ok-order.ensures.items)
          (subst (λ (l : List Entry). IsPass c.split_seat.result.me c.args.id l 0 [] false)
          (sym (ap (λ (s : Stored). s.entries) c.in_ok-mine.ensures))
          (subst (λ (m : table.Me Slot View). IsPass m c.args.id [] 0 [] false) (sym is) fresh));
      room = c.in_ok-order.ensures.capacity;
    }
