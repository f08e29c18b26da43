-- mtspr and mfspr (rules E10 and E11).
use Rattle.std.specs.Prelude.{ℕ, ◌+◌, ◌-◌, ◌*◌, ◌%◌, ◌^◌, cond, ◌&&◌, ◌==◌}
use Rattle.thread.specs.Texasr.{upper, lower}
use Rattle.thread.specs.Thread.{with_control, with_failure, with_saved}
use Rattle.thread.specs.declared.Failure.{Failure}
use Rattle.thread.specs.declared.Control.{Control}
use Rattle.thread.specs.declared.Thread.{Thread}
use Rattle.power_rules.specs.Common.{passes, gpr, put_gpr}
use Rattle.power_rules.specs.declared.Did.{Did}

-- 10. mtspr (SPR, RA): which register each SPR number names; TFHAR stays a multiple of 4, TEXASRU is half a register
unfoldable pub put_failure : Failure → ℕ → ℕ → Failure
put_failure f spr v =
    cond (spr == 128) (record { tfhar = v - v % 4; tfiar = f.tfiar; texasr = f.texasr })
    (cond (spr == 129) (record { tfhar = f.tfhar; tfiar = v; texasr = f.texasr })
    (cond (spr == 130) (record { tfhar = f.tfhar; tfiar = f.tfiar; texasr = v })
    (record { tfhar = f.tfhar; tfiar = f.tfiar; texasr = lower v * 2 ^ 32 + lower f.texasr })))

-- SRR0 and SRR1 are stored whole
unfoldable pub put_spr : Control → ℕ → ℕ → Control
put_spr k spr v =
    cond (spr == 26) (with_saved k (record { srr0 = v; srr1 = k.saved.srr1 }))
    (cond (spr == 27) (with_saved k (record { srr0 = k.saved.srr0; srr1 = v }))
    (with_failure k (put_failure k.failure spr v)))

unfoldable pub mtspr : Thread → ℕ → ℕ → Did
mtspr t spr ra = passes (with_control t (put_spr t.control spr (gpr t ra)))

-- 11. mfspr (RT, SPR): problem state does not see the address of a failure that was privileged
abbrev pub get_tfiar : Control → ℕ
get_tfiar k = cond (k.msr.pr && ((k.failure.tfiar % 2) == 0)) 0 k.failure.tfiar

unfoldable pub get_spr : Control → ℕ → ℕ
get_spr k spr =
    cond (spr == 26) k.saved.srr0
    (cond (spr == 27) k.saved.srr1
    (cond (spr == 128) k.failure.tfhar
    (cond (spr == 129) (get_tfiar k)
    (cond (spr == 130) k.failure.texasr
    (upper k.failure.texasr)))))

unfoldable pub mfspr : Thread → ℕ → ℕ → Did
mfspr t rt spr = passes (put_gpr t rt (get_spr t.control spr))
