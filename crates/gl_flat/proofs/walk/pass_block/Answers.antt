use Rattle.std.proofs.Common.{◌≡◌, ◌<◌, ◌≤◌, false, length, map, sym, arith}
use Rattle.gl_model.specs.Entries.{seen}
use Rattle.gl_model.specs.Form.{At}
use Rattle.gl_model.specs.Kept.{IsEntryKept}
use Rattle.gl_flat.specs.Walk.{is_event}
use Rattle.gl_flat.proofs.KeptEntries.{all_at}
use Rattle.gl_flat.proofs.Passing.{at_map, comes_first, comes_more, comes_out, differs, meets_event}
use Rattle.gl_flat.proofs.Tables.{map_length}
use Rattle.gl_flat.proofs.walk.pass_block.Goals as goal
use Rattle.gl_flat.proofs.walk.pass_block.Goals.{else-i-start-via-then-i-start+else-is_event, else-i-start-via-else-i-start}

pub loop-i-init : goal.loop-i-init
loop-i-init c = comes_first (map seen c.args.entries.now) c.args.start c.args.words.now

pub returns-then-is_event : goal.returns-then-is_event
returns-then-is_event c =
    let es = map seen c.args.entries.now in
    let e = seen c.index-entries-i.result in
    let there : At es c.loop-i.i e = at_map seen c.args.entries.now c.loop-i.i c.index-entries-i.result
    (omega arith) c.index-entries-i.is in
    meets_event es c.args.start c.loop-i.i c.args.words.now c.loop-i.words c.loop-i.invariant e there c.if-i-start.true
    (sym c.if-is_event.ensures)

pub agrees-requires-clause-kept : goal.agrees-requires-clause-kept
agrees-requires-clause-kept c =
    let es = map seen c.args.entries.now in
    let e = seen c.index-entries-i.result in
    let there : At es c.loop-i.i e = at_map seen c.args.entries.now c.loop-i.i c.index-entries-i.result
    (omega arith) c.index-entries-i.is in
    all_at IsEntryKept es c.requires.kept c.loop-i.i e there

pub returns-then-not-agrees : goal.returns-then-not-agrees
returns-then-not-agrees c =
    let es = map seen c.args.entries.now in
    let e = seen c.index-entries-i.result in
    let there : At es c.loop-i.i e = at_map seen c.args.entries.now c.loop-i.i c.index-entries-i.result
    (omega arith) c.index-entries-i.is in
    let clear : c.args.start < c.loop-i.i → is_event e ≡ false =
    elim c.else-i-start.branch [
      | else-i-start-via-then-i-start+else-is_event w ↦
          λ lt. sym w.if-is_event.ensures
      | else-i-start-via-else-i-start w ↦ λ lt. absurd (let z = w.if-i-start.false in omega arith)
    ] in
    differs es c.args.start c.loop-i.i c.args.words.now c.loop-i.words c.loop-i.invariant c.loop-i.words e there clear
    c.if-not-agrees.ensures

pub write_into-requires-clause-kept : goal.write_into-requires-clause-kept
write_into-requires-clause-kept c =
    let es = map seen c.args.entries.now in
    let e = seen c.index-entries-i.result in
    let there : At es c.loop-i.i e = at_map seen c.args.entries.now c.loop-i.i c.index-entries-i.result
    (omega arith) c.index-entries-i.is in
    all_at IsEntryKept es c.requires.kept c.loop-i.i e there

pub loop-i-preserved : goal.loop-i-preserved
loop-i-preserved c =
    let es = map seen c.args.entries.now in
    let e = seen c.index-entries-i.result in
    let there : At es c.loop-i.i e = at_map seen c.args.entries.now c.loop-i.i c.index-entries-i.result
    (omega arith) c.index-entries-i.is in
    let clear : c.args.start < c.loop-i.i → is_event e ≡ false =
    elim c.else-i-start.branch [
      | else-i-start-via-then-i-start+else-is_event w ↦
          λ lt. sym w.if-is_event.ensures
      | else-i-start-via-else-i-start w ↦ λ lt. absurd (let z = w.if-i-start.false in omega arith)
    ] in
    comes_more es c.args.start c.loop-i.i c.args.words.now c.loop-i.words c.loop-i.invariant c.write_into.new.words e there clear
    c.if-not-agrees.ensures c.write_into.ensures

pub returns : goal.returns
returns c =
    let es = map seen c.args.entries.now in
    let far : length es ≤ c.loop-i.i = omega (arith, map_length seen c.args.entries.now, c.loop-i-test.false) in
    comes_out es c.args.start c.loop-i.i c.args.words.now c.loop-i.words c.loop-i.invariant far
