-- `session::pieces::did_next` meets its contract.
use Rattle.std.proofs.Common.{sym, ◌∙◌}
use borrow.Author.Tests.{eqb-true, eqb-false}
use Rattle.session_rules.specs.Feeding.{did}
use Rattle.session_rules.proofs.Feeding.{ran}
use Rattle.session.proofs.Feeds.{no_place, next_place}
use Rattle.session.proofs.pieces.did_next.Goals as goal

pub returns-then-is_empty : goal.returns-then-is_empty
returns-then-is_empty c =
    no_place (did c.args.count c.args.bytes.now (ran c.args.bytes.now c.args.m c.args.mem.now)) c.args.answers.now _ c.did.ensures
    (eqb-true _ 0 (sym c.is_empty.ensures ∙ c.if-is_empty.true))

pub returns-else-is_empty : goal.returns-else-is_empty
returns-else-is_empty c =
    next_place (did c.args.count c.args.bytes.now (ran c.args.bytes.now c.args.m c.args.mem.now)) c.args.answers.now _ _ _ c.did-else-is_empty.ensures
    (eqb-false _ 0 (sym c.is_empty.ensures ∙ c.if-is_empty.false))
