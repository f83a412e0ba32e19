use Rattle.gl_asm.proofs.ListedProgram.{listing_is_of_one, listing_is_text}
use Rattle.gl_asm.proofs.laws.listing_is_text.Goals as goal

pub returns-clause-text : goal.returns-clause-text
returns-clause-text c = listing_is_text

pub returns-clause-only : goal.returns-clause-only
returns-clause-only c = listing_is_of_one
