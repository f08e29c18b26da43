-- What right operands tell of registers and indices.
use mathlib.Core.Path.{◌≡◌}
use mathlib.Core.Bool.{true, ◌&&◌}
use Prim.Native.Nat.{ℕ, ◌*◌, ◌/◌, ◌%◌, ◌<◌}
use native.Mathlib.Omega.{arith}
use lib.Dec.{eqb}
use borrow.Author.Tests.{eqb-true, ltb-true, leb-true}
use Rattle.base.specs.Limits.{doubleword_bytes, page_size}
use Rattle.base.proofs.Below.{and_left, and_right}
use Rattle.kinds.specs.Rows.{row, in_range, addressed, in_memory}
use Rattle.event.specs.Event.{fields_of, kind, fields_right, operands_right}
use Rattle.event.specs.declared.Event.{Event}
use Rattle.event.specs.declared.Event.TheVariants.{Tabort, Tabortwc, Tabortdc, Tcheck, Treclaim, Mtspr, Mfspr, Ld, Std, Addi, Lbz, Lhz, Lwz, Stb, Sth, Stw, Tlbie}
use Rattle.event.specs.declared.Fields.{Fields}
use Rattle.kinds.specs.declared.Use.TheVariants.{Gpr}
use Rattle.kinds.specs.declared.Row.{Row}

-- the row's four tests
record Right (r : Row) (f : Fields) (len : ℕ) : Type 0 where
  x : in_range r.x f.x ≡ true
  ra : in_range r.ra f.ra ≡ true
  rb : in_range r.rb f.rb ≡ true
  index : in_memory r.index f.index len ≡ true

right : (r : Row) (f : Fields) (len : ℕ) → fields_right r f len ≡ true → Right r f len
right r f len p =
    let x = in_range r.x f.x in
    let ra = in_range r.ra f.ra in
    let rb = in_range r.rb f.rb in
    let q = and_left (x && ra && rb) _ p in
    let s = and_left (x && ra) rb q in
    record { x = and_left x ra s; ra = and_right x ra s; rb = and_right (x && ra) rb q; index = and_right (x && ra && rb) _ p }

tests : (e : Event) (len : ℕ) → operands_right e len ≡ true → Right (row (kind e)) (fields_of 0 e) len
unfolding operands_right
tests e len p = right (row (kind e)) (fields_of 0 e) len p

pub tabort_register : (ra len : ℕ) → operands_right (Tabort ra) len ≡ true → ra < 32
unfolding row kind
tabort_register ra len p = ltb-true ra 32 (tests _ len p).ra

pub tabortwc_registers : (to ra rb len : ℕ) → operands_right (Tabortwc to ra rb) len ≡ true → (ra < 32) × (rb < 32)
unfolding row kind
tabortwc_registers to ra rb len p = let t = tests _ len p in (ltb-true ra 32 t.ra, ltb-true rb 32 t.rb)

pub tabortdc_registers : (to ra rb len : ℕ) → operands_right (Tabortdc to ra rb) len ≡ true → (ra < 32) × (rb < 32)
unfolding row kind
tabortdc_registers to ra rb len p = let t = tests _ len p in (ltb-true ra 32 t.ra, ltb-true rb 32 t.rb)

pub tcheck_field : (bf len : ℕ) → operands_right (Tcheck bf) len ≡ true → bf < 8
unfolding row kind
tcheck_field bf len p = omega (arith, leb-true bf 7 (tests _ len p).x)

pub treclaim_register : (ra len : ℕ) → operands_right (Treclaim ra) len ≡ true → ra < 32
unfolding row kind
treclaim_register ra len p = ltb-true ra 32 (tests _ len p).ra

pub mtspr_register : (spr ra len : ℕ) → operands_right (Mtspr spr ra) len ≡ true → ra < 32
unfolding row kind
mtspr_register spr ra len p = ltb-true ra 32 (tests _ len p).ra

pub mfspr_register : (rt spr len : ℕ) → operands_right (Mfspr rt spr) len ≡ true → rt < 32
unfolding row kind
mfspr_register rt spr len p = ltb-true rt 32 (tests _ len p).ra

pub ld_in : (rt i len : ℕ) → operands_right (Ld rt i) len ≡ true → (rt < 32) × (i < len)
unfolding row kind
ld_in rt i len p = let t = tests _ len p in (ltb-true rt 32 t.x, ltb-true i len t.index)

pub std_in : (ra i len : ℕ) → operands_right (Std ra i) len ≡ true → (ra < 32) × (i < len)
unfolding row kind
std_in ra i len p = let t = tests _ len p in (ltb-true ra 32 t.ra, ltb-true i len t.index)

pub addi_registers : (rt ra si len : ℕ) → operands_right (Addi rt ra si) len ≡ true → (rt < 32) × (ra < 32)
unfolding row kind
addi_registers rt ra si len p = let t = tests _ len p in (ltb-true rt 32 t.x, ltb-true ra 32 t.ra)

-- an access of fewer than eight bytes: its register, its doubleword, and its address by its width
narrow : (r width a len : ℕ) → in_range Gpr r ≡ true → addressed width a len ≡ true → (r < 32) × (a / doubleword_bytes < len) × (a % width ≡ 0)
narrow r width a len p q =
    let l = ltb-true a (doubleword_bytes * len) (and_right (eqb (a % width) 0) _ q) in
    (ltb-true r 32 p, omega arith, eqb-true (a % width) 0 (and_left (eqb (a % width) 0) _ q))

pub lbz_in : (rt a len : ℕ) → operands_right (Lbz rt a) len ≡ true → (rt < 32) × (a / doubleword_bytes < len) × (a % 1 ≡ 0)
unfolding row kind
lbz_in rt a len p = let t = tests _ len p in narrow rt 1 a len t.x t.index

pub lhz_in : (rt a len : ℕ) → operands_right (Lhz rt a) len ≡ true → (rt < 32) × (a / doubleword_bytes < len) × (a % 2 ≡ 0)
unfolding row kind
lhz_in rt a len p = let t = tests _ len p in narrow rt 2 a len t.x t.index

pub lwz_in : (rt a len : ℕ) → operands_right (Lwz rt a) len ≡ true → (rt < 32) × (a / doubleword_bytes < len) × (a % 4 ≡ 0)
unfolding row kind
lwz_in rt a len p = let t = tests _ len p in narrow rt 4 a len t.x t.index

pub stb_in : (ra a len : ℕ) → operands_right (Stb ra a) len ≡ true → (ra < 32) × (a / doubleword_bytes < len) × (a % 1 ≡ 0)
unfolding row kind
stb_in ra a len p = let t = tests _ len p in narrow ra 1 a len t.ra t.index

pub sth_in : (ra a len : ℕ) → operands_right (Sth ra a) len ≡ true → (ra < 32) × (a / doubleword_bytes < len) × (a % 2 ≡ 0)
unfolding row kind
sth_in ra a len p = let t = tests _ len p in narrow ra 2 a len t.ra t.index

pub stw_in : (ra a len : ℕ) → operands_right (Stw ra a) len ≡ true → (ra < 32) × (a / doubleword_bytes < len) × (a % 4 ≡ 0)
unfolding row kind
stw_in ra a len p = let t = tests _ len p in narrow ra 4 a len t.ra t.index

pub tlbie_in : (p len : ℕ) → operands_right (Tlbie p) len ≡ true → page_size * p < len
unfolding row kind
tlbie_in p len h = ltb-true (page_size * p) len (tests _ len h).index
