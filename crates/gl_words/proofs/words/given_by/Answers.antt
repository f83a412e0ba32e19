use Rattle.std.proofs.Common.{◌≡◌, ◌∙◌, ap, false, inl, inr, map, refl, string_bytes, sym, true}
use Rattle.clap.proofs.WalkLemmas.{list_any-map, one_text-rows}
use Rattle.clap.specs.Matches.{found_of}
use Rattle.clap.specs.Simple.{matches_of}
use Rattle.clap.specs.Walk.{one_of, rows_of}
use Rattle.clap.specs.Words.{is_simple}
use Rattle.clap.proofs.OnLiterals.{clap_on_literals}
use Rattle.gl_words.specs.App.{has_dashes, is_dashes, options_app}
use Rattle.gl_words.specs.Options.{nothing_given}
use Rattle.gl_words.proofs.Parses.{found_texts, kept, refused}
use Rattle.gl_words.proofs.Said.{dashes_say_nothing}
use Rattle.gl_words.proofs.words.given_by.Goals as goal

simple : is_simple options_app ≡ true
unfolding clap_on_literals
simple = refl

pub returns-then-has_dashes-clause-value : goal.returns-then-has_dashes-clause-value
returns-then-has_dashes-clause-value c =
    let words = map string_bytes c.args.words.now in
    sym (dashes_say_nothing words nothing_given
    (sym (list_any-map is_dashes string_bytes c.args.words.now) ∙ sym c.has_dashes.ensures ∙ c.if-has_dashes.true))

pub returns-in-Ok-clause-value : goal.returns-in-Ok-clause-value
returns-in-Ok-clause-value c =
    let words = map string_bytes c.args.words.now in
    let none : has_dashes words ≡ false = sym (list_any-map is_dashes string_bytes c.args.words.now) ∙ sym c.has_dashes.ensures
    ∙ c.if-has_dashes.false in
    let keeps = kept words none c.in-Ok.ensures.exact in
    let rows : rows_of (found_of c.in-Ok.matches) ≡ matches_of options_app words = (c.in-Ok.ensures.matches simple).0 in
    c.given.ensures.value keeps.0 (one_text-rows (found_of c.in-Ok.matches) _ ∙ ap (one_of _) rows ∙ keeps.1.journal)
    ∙ found_texts (found_of c.in-Ok.matches) (matches_of options_app words) keeps.0 rows ∙ keeps.1.numbers

pub returns : goal.returns
returns c =
    let words = map string_bytes c.args.words.now in
    let none : has_dashes words ≡ false = sym (list_any-map is_dashes string_bytes c.args.words.now) ∙ sym c.has_dashes.ensures
    ∙ c.if-has_dashes.false in
    record {
      value = elim c.in-Err.ensures.exact [
        | inl memory ↦ absurd (c.in_default.not-OutOfMemory (c.kind.ensures ∙ memory))
        | inr among ↦ sym (refused words _ none among)
      ];
      within = tt;
    }
