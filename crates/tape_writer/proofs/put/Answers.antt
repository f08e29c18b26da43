-- `tape_writer::put` meets its contract.
use Rattle.std.proofs.Common.{◌≡◌, refl, sym, ap, ◌∙◌, List, ◌++◌, ℕ, ◌+◌, ◌-◌, length, take, drop, arith}
use Rattle.std.proofs.lemmas.Slice.{put_mid-paste}
use Rattle.std.proofs.lemmas.List.Edits.{sets-eq}
use lib.Seq.{take-length}
use Rattle.tape_writer.proofs.put.Goals as goal

pub returns : goal.returns
returns c =
    let d = c.args.buf.now in
    let s = c.args.src.now in
    let at = c.args.at in
    let e : length s ≡ at + length s - at = omega arith in
    put_mid-paste at _ d _ s (length s) c.copy_from_slice.ensures.after e refl
    ∙ ap (λ (x : List ℕ). take at d ++ x ++ drop (at + length s) d) (take-length s) ∙ sym (sets-eq s d at c.requires)
