use Rattle.std.proofs.Common.{◌<◌, arith, length, sym}
use Rattle.gl_model.specs.declared.tx.Number.{Number}
use Rattle.gl_form.proofs.Parts.{part_drawn, part_in_range, part_not_above, past_parts}
use Rattle.gl_form.proofs.drawn.Drawn.numbers_rise.Goals as goal
use Rattle.gl_form.proofs.drawn.Drawn.numbers_rise.Goals.{in-Some+else-not-draw, in_default}

pub draw-requires : goal.draw-requires
draw-requires c =
    part_in_range (λ (a : Number). a.var) c.args.numbers.now c.loop-i.i c.in-Some.number c.keeps.ensures (sym c.in-Some.ensures)

pub returns-then-not-draw : goal.returns-then-not-draw
returns-then-not-draw c =
    part_not_above (λ (a : Number). a.var) (λ (a : Number). a.nth) c.args.numbers.now c.args.self.now.last.items c.loop-i.i
    c.loop-i.self.last.items c.loop-i.invariant c.keeps.ensures.1
    c.in-Some.number (sym c.in-Some.ensures) c.if-not-draw.ensures

pub loop-i-preserved : goal.loop-i-preserved
loop-i-preserved c =
    elim c.match-at.branch [
      | in-Some+else-not-draw w ↦
          (let at = sym w.in-Some.ensures in
          let within = part_in_range (λ (a : Number). a.var) c.args.numbers.now c.loop-i.i w.in-Some.number c.keeps.ensures at in
          let room : w.in-Some.number.var < length c.loop-i.self.last.items = omega (arith, c.loop-i.self.whole) in
          let drawn = part_drawn (λ (a : Number). a.var) (λ (a : Number). a.nth) c.args.numbers.now c.args.self.now.last.items c.loop-i.i
          c.loop-i.self.last.items c.loop-i.invariant c.keeps.ensures.1
          w.in-Some.number at w.draw.new.self.last.items room w.if-not-draw.ensures.0 w.if-not-draw.ensures.1 in
          rw w.self-is drawn)
      | in_default w ↦
          (let past = past_parts (λ (a : Number). a.var) (λ (a : Number). a.nth) c.args.numbers.now c.args.self.now.last.items c.loop-i.i
          c.loop-i.self.last.items c.loop-i.invariant (sym w.in_default.ensures) in rw w.self-is past)
    ]
