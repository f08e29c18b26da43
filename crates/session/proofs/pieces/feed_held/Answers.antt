-- `session::pieces::feed_held` meets its contract: the piece is its first part and what stands behind it.
use Rattle.std.proofs.Common.{rules, refl}
use Rattle.session.proofs.Feeds.{front_stops, front_valid, count_fits, back_fed}
use Rattle.session.proofs.pieces.feed_held.Goals as goal

pub returns-then-first-ne-DONE : goal.returns-then-first-ne-DONE
returns-then-first-ne-DONE c =
    front_stops c.args.s.now c.args.mem.now c.args.piece.now c.args.answers.now _ _ _ _ c.fill-first.ensures.value c.if-first-ne-DONE.true

pub did_next-then-requires : goal.did_next-then-requires
did_next-then-requires c =
    front_valid c.args.s.now c.args.mem.now c.args.piece.now c.args.answers.now _ _ _ _ c.fill-first.ensures.value c.requires.mem_value

pub overflow_add-result : goal.overflow_add-result
overflow_add-result c =
    count_fits c.args.s.now c.args.mem.now c.args.piece.now c.args.answers.now _ _ _ _ c.fill-first.ensures.value _ _ _ _ c.did_next-then.ensures (search rules)

pub returns : goal.returns
returns c =
    back_fed c.args.s.now c.args.mem.now c.args.piece.now c.args.answers.now _ _ _ _ c.fill-first.ensures.value _ _ _ c.did_next-then.ensures c.fill-first.ensures.s_len c.requires.held_bounds.1 refl c.if-piece-need.false c.if-first-ne-DONE.false
