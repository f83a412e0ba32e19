use Rattle.std.proofs.Common.{string_bytes}
use Rattle.gl_run.proofs.FewWords.{few_words}
use Rattle.gl_run.proofs.words.command_of.Goals as goal

pub returns-in-empty : goal.returns-in-empty
returns-in-empty c = record { value = few_words string_bytes c.args.words.now c.in-empty.len_below; limits = tt }
