-- `session::feed` meets its contract.
use Rattle.session.proofs.Feeds.{none_held, all_fed}
use Rattle.session.proofs.feed.Goals as goal

pub returns-then-s-eq0 : goal.returns-then-s-eq0
returns-then-s-eq0 c =
    let is = none_held c.args.s c.args.mem.now c.args.piece.now c.args.answers.now _ c.if-s-eq0.true c.did.ensures in
    let e = all_fed c.args.s c.args.mem.now c.args.piece.now c.args.answers.now _ c.stopped-answer.ensures c.if-answer-ne-DONE.false _ _ _ is in
    record { value = e.0; mem_after = e.1; answers_after = e.2 }

pub returns : goal.returns
returns c =
    let e = all_fed c.args.s c.args.mem.now c.args.piece.now c.args.answers.now _ c.stopped-answer.ensures c.if-answer-ne-DONE.false _ _ _ c.feed_held.ensures in
    record { value = e.0; mem_after = e.1; answers_after = e.2 }
