-- `session::pieces::did` meets its contract.
use Rattle.session.proofs.Feeds.{did_leaves}
use Rattle.session.proofs.pieces.did.Goals as goal

pub returns : goal.returns
returns c =
    did_leaves c.args.bytes.now c.args.m c.args.mem.now c.args.answers.now c.args.count _ _ _ _ _ c.play-e.ensures.value c.play-e.ensures.mem_after c.play-e.ensures.answers_after c.answered.ensures c.behind.ensures
