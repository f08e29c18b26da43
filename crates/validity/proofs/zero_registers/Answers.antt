-- `validity::zero_registers` meets its contract: lists of known lengths are held against zeros.
use borrow.Author.Tests.{eqb-true}
use mathlib.Core.Path.{sym, ◌∙◌}
use mathlib.Core.Bool.{◌&&◌}
use Rattle.base.specs.Limits.{gprs, cr_fields}
use Rattle.base.proofs.Below.{and_left, and_right}
use Rattle.base.proofs.Lists.{all_zero}
use Rattle.machine.specs.Valid.{zero_gpr, zero_cr}
use Rattle.validity.proofs.zero_registers.Goals as goal

pub returns : goal.returns
unfolding zero_gpr zero_cr
returns c =
    let r = c.args.r.now in
    c.eq.ensures
    ∙ (λ i. sym (all_zero r.gpr gprs (eqb-true _ _ (and_left _ _ c.requires))) i && sym (all_zero r.cr cr_fields (eqb-true _ _ (and_right _ _ c.requires))) i)
