-- Laws of the lines: bytes written behind bytes, and how long a line is.
use mathlib.Core.Path.{◌≡◌, sym, ap, ◌∙◌}
use mathlib.Core.List.{List, [], ◌∷◌, ◌++◌}
use Prim.Native.Nat.{ℕ, suc, ◌+◌, ◌*◌, ◌≤◌, ◌<◌}
use native.Mathlib.Nat.{add-zero}
use native.Mathlib.Omega.{arith}
use lib.Dec.{ltb}
use Rattle.std.proofs.lemmas.List.{drop_all}
use lib.ListN.{length, get_or, take, drop, length-append}
use lib.Seq.{drop-cons, take-append_seam, sets, sets-eq}
use Rattle.base.proofs.Below.{fork}
use Rattle.text_lines.specs.Inner.{written}
use Rattle.text_lines.specs.Lines.{decimal, space, newline, line, bad_line, end, end_line, lines}
use Rattle.text_lines.specs.declared.Page.{Page}

-- ---- bytes on a page

sets_append : (old : List ℕ) (at : ℕ) (x y : List ℕ) → sets (sets old at x) (at + length x) y ≡ sets old at (x ++ y)
sets_append old at [] y = ap (λ (n : ℕ). sets old n y) (add-zero at)
sets_append old at (b ∷ x) y =
    let e : at + suc (length x) ≡ suc at + length x = omega arith in
    ap (λ (n : ℕ). sets (sets old at (b ∷ x)) n y) e ∙ sets_append _ (suc at) x y

-- bytes written behind bytes
pub written_on : (p : Page) (x y : List ℕ) → written (written p x) y ≡ written p (x ++ y)
written_on p x y =
    let e : p.at + length x + length y ≡ p.at + length (x ++ y) = omega (arith, length-append x y) in
    (λ j. record { out = record p.out { now = sets_append p.out.now p.at x y j }; at = e j })

-- what was put at the start of a buffer is read back
pub read_back : (old given : List ℕ) (n : ℕ) → n ≡ length given → length given ≤ length old → take n (sets old 0 given) ≡ given
read_back old given n e h =
    (λ j. take (e j) (sets-eq given old 0 (omega arith) j)) ∙ take-append_seam given _

-- ---- how long the text is

pub decimal_fits : (n : ℕ) → length (decimal n) ≤ 4
unfolding decimal
decimal_fits n =
    let small : List ℕ → Type 0 = λ x. length x ≤ 4 in
    fork small (ltb n 10) (λ e. omega arith) (λ e. fork small (ltb n 100) (λ e. omega arith) (λ e. fork small (ltb n 1000) (λ e. omega arith) (λ e. omega arith)))

pub line_fits : (k answer : ℕ) → length (line k answer) ≤ 10
unfolding line
line_fits k answer = simp length-append (omega (arith, decimal_fits k, decimal_fits answer))

pub bad_line_fits : (k n : ℕ) → length (bad_line k n) ≤ 14
unfolding bad_line
bad_line_fits k n = simp length-append (omega (arith, line_fits k n))

pub end_line_fits : (n : ℕ) → length (end_line n) ≤ 9
unfolding end_line
end_line_fits n = simp length-append (omega (arith, decimal_fits n))

pub lines_fit : (k : ℕ) (given : List ℕ) → length (lines k given) ≤ 10 * length given
unfolding lines
lines_fit k [] = omega arith
lines_fit k (a ∷ given) = simp length-append (omega (arith, line_fits k a, lines_fit (k + 1) given))

-- ---- the lines, part by part

pub written_line : (p : Page) (k answer : ℕ) → written (written (written (written p (decimal k)) space) (decimal answer)) newline ≡ written p (line k answer)
unfolding line
written_line p k answer =
    let x = decimal k in
    let y = decimal answer in
    ap (λ (q : Page). written (written q y) newline) (written_on p x space) ∙ ap (λ (q : Page). written q newline) (written_on p (x ++ space) y)
    ∙ written_on p (x ++ space ++ y) newline

pub written_end : (p : Page) (n : ℕ) → written (written (written p end) (decimal n)) newline ≡ written p (end_line n)
unfolding end_line
written_end p n =
    ap (λ (q : Page). written q newline) (written_on p end (decimal n)) ∙ written_on p (end ++ decimal n) newline

-- the line of answer k, and those behind it
pub written_lines : (p : Page) (given : List ℕ) (k : ℕ) → k < length given
    → written p (lines k (drop k given)) ≡ written (written p (line k (get_or given k 0))) (lines (k + 1) (drop (k + 1) given))
unfolding lines
written_lines p given k h =
    let e : suc k ≡ k + 1 = omega arith in
    ap (λ (x : List ℕ). written p (lines k x)) (drop-cons given k 0 h) ∙ sym (written_on p (line k (get_or given k 0)) (lines (k + 1) (drop (suc k) given)))
    ∙ (λ j. written (written p (line k (get_or given k 0))) (lines (k + 1) (drop (e j) given)))

pub written_none : (p : Page) (given : List ℕ) (k : ℕ) → length given ≤ k → written p (lines k (drop k given)) ≡ p
unfolding lines
written_none p given k h = rw (drop_all k given h) (let z : p.at + 0 ≡ p.at = omega arith in λ j. record { out = p.out; at = z j })
