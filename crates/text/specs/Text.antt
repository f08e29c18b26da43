-- What the program writes for the bytes of standard input (rules P1 to P6).
use Rattle.std.specs.Prelude.{ℕ, cond, not, Option, Some, None, List, ◌++◌, length, nat_lt, ◌==◌}
use Rattle.machine.specs.Machine.{fresh, fresh_memory}
use Rattle.tape.specs.FirstBad.{bad_record}
use Rattle.run_rules.specs.Run.{run}
use Rattle.run_rules.specs.declared.Ended.{Ended}
use Rattle.text_lines.specs.Lines.{longest, long, bad_line, end_line, lines}

-- input that is too long is not run, and neither is a tape with a bad record, whatever stands before it (rules P2 and P3); else each record
-- done or refused has its line, and the end line says how many were done (rules P4 and P5)
unfoldable pub text : List ℕ → List ℕ
text input =
    let r = run fresh fresh_memory input in
    cond (nat_lt longest (length input)) long
    (cond (not ((bad_record input).answer == 0)) (bad_line (bad_record input).index (bad_record input).answer)
    (lines 0 r.answers ++ end_line r.ended.count))

-- what the run of an input ended with, which is not run where it is too long (rule P2)
unfoldable pub ended : List ℕ → Option Ended
ended input = cond (nat_lt longest (length input)) None (Some (run fresh fresh_memory input).ended)
