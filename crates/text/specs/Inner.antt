-- What the code's own contracts cite beside the rules.
use Rattle.std.specs.Prelude.{ℕ, Bool, ◌&&◌, nat_le}
use Rattle.base.specs.Answers as answer

-- the numbers of a bad record: 6 to 9
abbrev pub is_bad : ℕ → Bool
is_bad n = nat_le answer.tape_length n && nat_le n answer.field
