-- What the code's own contracts ask, beside the model.
use Rattle.std.specs.Prelude.{◌<◌}
use Rattle.base.specs.Limits.{lines, pages}
use Rattle.transaction.specs.declared.Touch.{Touch}
use Rattle.transaction.specs.declared.Touch.TheVariants.{Untouched, Load, Store, Page}

-- a line that is touched is one of the 256, a page one of the 8
abbrev pub Lined : Touch → Type 0
Lined Untouched = Unit {0}
Lined (Load l) = l < lines
Lined (Store l) = l < lines
Lined (Page p) = p < pages
