-- Some bytes of a doubleword read after some were written, and ld and std as the eight-byte case. Bytes are counted from the lowest, as in
-- `doubleword/specs/Doubleword`. Proved in proofs/Bytes.antt.
use Rattle.std.specs.Prelude.{◌≡◌, Bool, cond, ◌&&◌, List, ℕ, ◌+◌, ◌-◌, ◌*◌, ◌^◌, ◌≤◌, ◌<◌, nat_le, nat_lt}
use Rattle.doubleword.specs.Doubleword.{bytes, all_marks, byte, merged, doubleword_of, lowest, part, marks_of, placed}
use Rattle.thread.specs.declared.State.{State}
use Rattle.thread.specs.declared.Thread.{Thread}
use Rattle.power_rules.specs.Access.{ld, narrow_load, std, narrow_store}

-- n is one of the u numbers from k on
abbrev pub among : ℕ → ℕ → ℕ → Bool
among k u n = nat_le k n && nat_lt n (k + u)

-- w bytes from j on, read after the u bytes from k on were written with the low bytes of x: the written bytes where the two meet, the former
-- ones elsewhere, and zeros above the w. One law over both widths
abbrev pub ReadAfterWrite : Type 0
ReadAfterWrite =
    (j w k u old x i : ℕ) → j + w ≤ bytes → k + u ≤ bytes
    → byte (part j w (merged (marks_of k u) old (placed k u x))) i
    ≡ cond (nat_lt i w) (cond (among k u (j + i)) (byte x (j + i - k)) (byte old (j + i))) 0

-- the access of eight bytes at byte address 8 x i: it is in doubleword i from its lowest byte on, has all marks, takes the whole and stores
-- the whole. So ld and std are the loads and stores of w bytes at w = 8
pub record Wholes : Type 0 where
  pub in_its_doubleword : (i : ℕ) → doubleword_of (bytes * i) ≡ i
  pub from_the_lowest : (i : ℕ) → lowest bytes (bytes * i) ≡ 0
  pub all_marked : marks_of 0 bytes ≡ all_marks
  pub whole_taken : (v : ℕ) → v < 2 ^ 64 → part 0 bytes v ≡ v
  pub whole_stored : (x : ℕ) → x < 2 ^ 64 → placed 0 bytes x ≡ x
  pub ld_narrow : (s : State) (t : Thread) (rt i : ℕ) (mem : List ℕ) → ld s t rt i mem ≡ narrow_load bytes s t rt (bytes * i) mem
  pub std_narrow : (s : State) (t : Thread) (x i : ℕ) → x < 2 ^ 64 → std s t x i ≡ narrow_store bytes s t x (bytes * i)
