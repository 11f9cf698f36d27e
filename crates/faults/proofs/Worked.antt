-- A fault in words, by computation. Assumes nothing.
use mathlib.Core.Path.{◌≡◌, refl}
use Rattle.pen.specs.Letters.{letters}
use Rattle.pen.specs.Text.{decimal_in, decimal}
use Rattle.entry.specs.declared.Notation.TheVariants.{Desk, Programmes}
use Rattle.entry.specs.declared.Wrong.TheVariants.{NotNumber, NoPlan}
use Rattle.faults.specs.Faults.{fault_text}

in_words : (fault_text Desk (record { line = 3; wrong = NotNumber }) ≡ letters "line 3: a number has decimal digits only\n")
    × (fault_text Programmes (record { line = 1; wrong = NoPlan }) ≡ letters "line 1: N has to come first\n")
unfolding decimal decimal_in
in_words = (refl, refl)
