-- `transaction::last_of` meets its contract.
use borrow.Author.Rules.{rules}
use Rattle.transaction.proofs.Laws.{lookup_is}
use Rattle.transaction.proofs.last_of.Goals as goal

pub returns : goal.returns
returns c = lookup_is _ _ _ _ (search rules)
