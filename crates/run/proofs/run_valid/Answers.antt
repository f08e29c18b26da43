-- `run::run_valid` meets its contract.
use Rattle.std.proofs.Common.{sym, arith, ◌<◌, ◌/◌, length}
use Rattle.run.proofs.Turns.{still_valid, stops_here, goes_on_here}
use Rattle.run.proofs.run_valid.Goals as goal

pub returns-in-Err : goal.returns-in-Err
returns-in-Err c =
    let here : c.loop-k.k < length c.args.tape.now / 16 = omega (arith, c.loop-k-test.true, c.as_chunks.ensures.front_len) in
    stops_here _ _ c.as_chunks.ensures.front _ here _ _ _ _ _ _ _ (sym c.in-Record.ensures) _ _ _ _ _ c.in-Err.ensures c.loop-k.invariant.rest
    c.number-in-Err-2.ensures c.number-in-Err.ensures c.put-in-Err.ensures

pub loop-k-preserved : goal.loop-k-preserved
loop-k-preserved c =
    let here : c.loop-k.k < length c.args.tape.now / 16 = omega (arith, c.loop-k-test.true, c.as_chunks.ensures.front_len) in
    let taken = sym c.in-Record.ensures in
    record {
      sound = still_valid _ _ c.as_chunks.ensures.front _ here _ _ _ _ c.loop-k.answers _ _ taken _ c.in-Ok.ensures c.loop-k.invariant.sound;
      rest =
          goes_on_here _ _ c.as_chunks.ensures.front _ here _ _ _ _ _ _ _ taken _ _ _ _ c.in-Ok.ensures c.loop-k.invariant.rest
          c.number-in-Ok.ensures c.put.ensures;
    }
