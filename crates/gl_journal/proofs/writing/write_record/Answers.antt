use Rattle.std.proofs.Common.{◌≡◌, ◌++◌, codes, string_bytes, ap, sym, subst, ◌∙◌, refl, rules, arith, append-nil}
use Rattle.gl_model.specs.declared.limits.TheConstants.{THREADS}
use Rattle.gl_journal.specs.Meaning.{IsRecordText}
use Rattle.gl_journal.specs.Rows.{header_row, row_text}
use Rattle.gl_journal.specs.Written.{AllEntries, IsEntryTyped}
use Rattle.gl_journal.proofs.BackRecord.{text_means}
use Rattle.gl_model.proofs.ThreadLists.{all_below, below, below_none}
use Rattle.gl_journal.proofs.WrittenLists.{lists_text, text_is, thread_with, thread_without, typed_with, typed_without}
use Rattle.gl_journal.proofs.writing.write_record.Goals.{in-Some+in_ok-push_list, in_default}
use Rattle.gl_journal.proofs.writing.write_record.Goals as goal

pub loop-thread-init : goal.loop-thread-init
loop-thread-init c =
    let R = c.args.record_of.now in
    let head = row_text (header_row c.args.steps) in
    let first : string_bytes c.writeln.new.self ≡ head = search rules in (
      first ∙ sym (append-nil head) ∙ ap (λ ls. head ++ lists_text ls) (sym (below_none R)),
      subst (AllEntries IsEntryTyped) (sym (below_none R)) tt,
    )

pub loop-thread-preserved : goal.loop-thread-preserved
loop-thread-preserved c =
    let R = c.args.record_of.now in
    let t = c.loop-thread.thread in
    let head = row_text (header_row c.args.steps) in
    let old = string_bytes c.loop-thread.out in
    let rises = c.keeps.ensures.0 in
    elim c.match-thread.branch [
      | in-Some+in_ok-push_list w ↦
          let es = w.in-Some.entries.now in (
            ap string_bytes w.out-is
                ∙ thread_with t R es head old (string_bytes w.push_list.new.out) rises w.in-Some.ensures c.loop-thread.invariant.0
                w.in_ok-push_list.ensures.text,
            typed_with t R es rises w.in-Some.ensures c.loop-thread.invariant.1 w.in_ok-push_list.ensures.typed,
          )
      | in_default w ↦ (
        ap string_bytes w.out-is ∙ thread_without t R head old rises w.in_default.ensures c.loop-thread.invariant.0,
        typed_without t R rises w.in_default.ensures c.loop-thread.invariant.1,
      )
    ]

pub returns-clause-text : goal.returns-clause-text
returns-clause-text c =
    let R = c.args.record_of.now in
    let head = row_text (header_row c.args.steps) in
    let old = string_bytes c.loop-thread.out in
    let new = string_bytes c.writeln-2.new.self in
    let last : c.loop-thread.thread ≡ THREADS = omega arith in
    let done : new ≡ old ++ codes "done\n" = search rules in
    let items : c.into_bytes.result.items ≡ new = search rules in
    let whole : old ≡ head ++ lists_text R =
    c.loop-thread.invariant.0 ∙ ap (λ ls. head ++ lists_text ls) (ap (λ t. below t R) last ∙ all_below R c.keeps.ensures.1) in
    items ∙ text_is c.args.steps R head old new refl whole done

pub returns-clause-read : goal.returns-clause-read
returns-clause-read c =
    let R = c.args.record_of.now in
    let last : c.loop-thread.thread ≡ THREADS = omega arith in
    let typed : AllEntries IsEntryTyped R = subst (AllEntries IsEntryTyped) (ap (λ t. below t R) last ∙ all_below R c.keeps.ensures.1)
    c.loop-thread.invariant.1 in
    λ stamped named. subst (λ text. IsRecordText text c.args.steps R) (sym (returns-clause-text c))
    (text_means c.args.steps R (record { within = stamped; named = named; kept = c.keeps.ensures; typed = typed }))
