use Rattle.gl_txn.proofs.Apart.{racy_is_not_done, clear_is_not_raised, unlooked_is_not_changed}
use Rattle.gl_txn.proofs.laws.causes_tell_the_ends_apart.Goals as goal

pub returns-clause-done : goal.returns-clause-done
returns-clause-done c = racy_is_not_done

pub returns-clause-raised : goal.returns-clause-raised
returns-clause-raised c = clear_is_not_raised

pub returns-clause-changed : goal.returns-clause-changed
returns-clause-changed c = unlooked_is_not_changed
