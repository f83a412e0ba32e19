use Rattle.std.proofs.Common.{◌≡◌, ◌∙◌, ◌++◌, ◌∷◌, [], ◌+◌, ℕ, List, Bor, ap, map, subst, sym, take}
use Rattle.std.proofs.lemmas.List.{map_more}
use Rattle.gl_model.specs.Entries.{Entry, seen}
use Rattle.gl_model.specs.declared.record.Entry.{Entry as StoredEntry}
use Rattle.gl_report.specs.Firsts.{AreFirsts}
use Rattle.gl_report.proofs.prints.firsts.Goals as goal

pub loop-entry-preserved : goal.loop-entry-preserved
loop-entry-preserved c =
    let entry : ℕ × Bor StoredEntry → Entry = λ p. seen p.1.now in
    let before = map entry (take c.loop-entry.entry-index c.args.entries.now) in
    let grown : map entry (take (c.loop-entry.entry-index + 1) c.args.entries.now) ≡ before ++ entry c.loop-entry-item.result ∷ [] =
    map_more entry c.args.entries.now c.loop-entry.entry-index c.loop-entry-item.result c.loop-entry-test.true
    ∙ ap (λ x. before ++ entry x ∷ []) (sym c.loop-entry-item.is) in
    let P : List Entry → Type 0 = λ es. AreFirsts {A = Bor StoredEntry} (λ e. seen e.now) es c.note_first.new.firsts.items in
    record {
      length = c.note_first.ensures.length ∙ c.loop-entry.invariant.length;
      firsts = subst P (sym grown) (c.note_first.ensures.firsts before c.loop-entry.invariant.firsts);
    }
