-- The twenty-six kinds of event (rules E1 to E26), the fields of each, and what its row tells.
use Rattle.std.specs.Prelude.{ℕ, ◌+◌, ◌*◌, ◌/◌, ◌%◌, Bool, ◌&&◌, cond, ◌==◌}
use Rattle.base.specs.Below.{bit}
use Rattle.kinds.specs.Rows.{row, in_range, in_memory, holds}
use Rattle.kinds.specs.declared.Row.{Row}
use Rattle.event.specs.declared.Event.{Event}
use Rattle.event.specs.declared.Event.TheVariants.{Tbegin, Tend, Tabort, Tabortwc, Tabortdc, Tsr, Tcheck, Treclaim, Trechkpt, Mtspr, Mfspr, Ld, Std, Addi, Disallowed, Interrupt, Host, Rfid, Mtmsrd, Lbz, Lhz, Lwz, Stb, Sth, Stw, Tlbie}
use Rattle.event.specs.declared.Fields.{Fields}

-- kinds that a refusal names; src/lib.rt has the same numbers for the code
abbrev pub tend_kind : ℕ
tend_kind = 2

abbrev pub treclaim_kind : ℕ
treclaim_kind = 8

abbrev pub trechkpt_kind : ℕ
trechkpt_kind = 9

abbrev pub mtspr_kind : ℕ
mtspr_kind = 10

abbrev pub host_kind : ℕ
host_kind = 17

abbrev pub rfid_kind : ℕ
rfid_kind = 18

abbrev pub mtmsrd_kind : ℕ
mtmsrd_kind = 19

abbrev pub tlbie_kind : ℕ
tlbie_kind = 26

abbrev pub fields : (kind thread x ra rb flags index si : ℕ) → Fields
fields k w x ra rb flags i si = record { kind = k; thread = w; x = x; ra = ra; rb = rb; flags = flags; index = i; si = si }

-- the fields of an event. X is SPR, BF or TO, else RT; RA is RT for mfspr
unfoldable pub fields_of : ℕ → Event → Fields
fields_of w (Tbegin r) = fields 1 w 0 0 0 (bit r) 0 0
fields_of w (Tend a) = fields tend_kind w 0 0 0 (bit a) 0 0
fields_of w (Tabort ra) = fields 3 w 0 ra 0 0 0 0
fields_of w (Tabortwc to ra rb) = fields 4 w to ra rb 0 0 0
fields_of w (Tabortdc to ra rb) = fields 5 w to ra rb 0 0 0
fields_of w (Tsr l) = fields 6 w 0 0 0 (bit l) 0 0
fields_of w (Tcheck bf) = fields 7 w bf 0 0 0 0 0
fields_of w (Treclaim ra) = fields treclaim_kind w 0 ra 0 0 0 0
fields_of w Trechkpt = fields trechkpt_kind w 0 0 0 0 0 0
fields_of w (Mtspr spr ra) = fields mtspr_kind w spr ra 0 0 0 0
fields_of w (Mfspr rt spr) = fields 11 w spr rt 0 0 0 0
fields_of w (Ld rt i) = fields 12 w rt 0 0 0 i 0
fields_of w (Std ra i) = fields 13 w 0 ra 0 0 i 0
fields_of w (Addi rt ra si) = fields 14 w rt ra 0 0 0 si
fields_of w Disallowed = fields 15 w 0 0 0 0 0 0
fields_of w Interrupt = fields 16 w 0 0 0 0 0 0
fields_of w (Host pr tm) = fields host_kind w 0 0 0 (bit pr + 2 * bit tm) 0 0
fields_of w Rfid = fields rfid_kind w 0 0 0 0 0 0
fields_of w (Mtmsrd t s tm pr) = fields mtmsrd_kind w 0 0 0 (bit s + 2 * bit t + 4 * bit tm + 8 * bit pr) 0 0
fields_of w (Lbz rt a) = fields 20 w rt 0 0 0 a 0
fields_of w (Lhz rt a) = fields 21 w rt 0 0 0 a 0
fields_of w (Lwz rt a) = fields 22 w rt 0 0 0 a 0
fields_of w (Stb ra a) = fields 23 w 0 ra 0 0 a 0
fields_of w (Sth ra a) = fields 24 w 0 ra 0 0 a 0
fields_of w (Stw ra a) = fields 25 w 0 ra 0 0 a 0
fields_of w (Tlbie page) = fields tlbie_kind w 0 0 0 0 page 0

-- the event of fields of a right kind
unfoldable pub event_of : Fields → Event
event_of f =
    cond (f.kind == 1) (Tbegin (f.flags == 1))
    (cond (f.kind == tend_kind) (Tend (f.flags == 1))
    (cond (f.kind == 3) (Tabort f.ra)
    (cond (f.kind == 4) (Tabortwc f.x f.ra f.rb)
    (cond (f.kind == 5) (Tabortdc f.x f.ra f.rb)
    (cond (f.kind == 6) (Tsr (f.flags == 1))
    (cond (f.kind == 7) (Tcheck f.x)
    (cond (f.kind == treclaim_kind) (Treclaim f.ra)
    (cond (f.kind == trechkpt_kind) Trechkpt
    (cond (f.kind == mtspr_kind) (Mtspr f.x f.ra)
    (cond (f.kind == 11) (Mfspr f.ra f.x)
    (cond (f.kind == 12) (Ld f.x f.index)
    (cond (f.kind == 13) (Std f.ra f.index)
    (cond (f.kind == 14) (Addi f.x f.ra f.si)
    (cond (f.kind == 15) Disallowed
    (cond (f.kind == 16) Interrupt
    (cond (f.kind == host_kind) (Host ((f.flags % 2) == 1) ((f.flags / 2 % 2) == 1))
    (cond (f.kind == rfid_kind) Rfid
    (cond (f.kind == mtmsrd_kind) (Mtmsrd ((f.flags / 2 % 2) == 1) ((f.flags % 2) == 1) ((f.flags / 4 % 2) == 1) ((f.flags / 8 % 2) == 1))
    (cond (f.kind == 20) (Lbz f.x f.index)
    (cond (f.kind == 21) (Lhz f.x f.index)
    (cond (f.kind == 22) (Lwz f.x f.index)
    (cond (f.kind == 23) (Stb f.ra f.index)
    (cond (f.kind == 24) (Sth f.ra f.index)
    (cond (f.kind == 25) (Stw f.ra f.index)
    (Tlbie f.index)))))))))))))))))))))))))

-- the number of an event's kind
unfoldable pub kind : Event → ℕ
unfolding fields_of
kind e = (fields_of 0 e).kind

-- number 4: each used field is in range, and what a used index names in a memory of len doublewords
abbrev pub fields_right : Row → Fields → ℕ → Bool
fields_right r f len =
    in_range r.x f.x && in_range r.ra f.ra && in_range r.rb f.rb && in_memory r.index f.index len

-- number 4: the operands are right over a memory of len doublewords
unfoldable pub operands_right : Event → ℕ → Bool
unfolding row kind
operands_right e len = fields_right (row (kind e)) (fields_of 0 e) len

-- numbers 11 and 12
unfoldable pub tm_instruction : Event → Bool
unfolding row kind
tm_instruction e = holds (row (kind e)).tm (fields_of 0 e).x

unfoldable pub privileged : Event → Bool
unfolding row kind
privileged e = holds (row (kind e)).privileged (fields_of 0 e).x
