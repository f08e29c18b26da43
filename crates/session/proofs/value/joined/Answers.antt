-- `session::value::joined` meets its contract: the first bytes laid from the start, the others behind them.
use Rattle.std.proofs.Common.{rules, take}
use Rattle.session.proofs.Feeds.{laid_behind}
use Rattle.session.proofs.value.joined.Goals as goal

pub returns-clause-result_value : goal.returns-clause-result_value
returns-clause-result_value c =
    laid_behind (take c.args.held c.args.bytes) c.args.more.now _ _ _ c.args.held _ c.copy_from_slice.ensures.after c.copy_from_slice-2.ensures.after (search rules)
