use Rattle.std.proofs.Common.{ap, string_bytes}
use Rattle.gl_run.specs.Words.{text_part}
use Rattle.gl_run.proofs.FewWords.{few_words}
use Rattle.gl_run.proofs.words.text_command_of.Goals as goal

pub returns-in-empty-clause-value : goal.returns-in-empty-clause-value
returns-in-empty-clause-value c = ap text_part (few_words string_bytes c.args.words.now c.in-empty.len_below)
