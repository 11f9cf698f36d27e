-- What the lines so far say to the strata, and what one line more adds. Definitions: nothing is assumed.
use Rattle.std.specs.Prelude.{ℕ, ◌+◌, ◌-◌, true, false, List, eqb, set}
use Rattle.terms.specs.Numbers.{pick}
use Rattle.divided.specs.Divided.{no_counts}
use Rattle.divided.specs.declared.{Part.Part, Dividing.Dividing}

abbrev pub no_strata : Dividing
no_strata = record { strata = 0; late = false; lines = 0; counts = no_counts }

-- the counts with the stratum that ends here
unfoldable pub counts_with : Dividing → List ℕ
counts_with s = pick (eqb s.strata 0) s.counts (set s.counts (s.strata - 1) s.lines)

unfoldable pub part_taken : Dividing → Part → Dividing
part_taken s Part.Stratum = record { strata = s.strata + 1; late = s.late; lines = 0; counts = counts_with s }
part_taken s Part.Line = record { strata = s.strata; late = s.late; lines = s.lines + 1; counts = s.counts }
part_taken s Part.Error = record { strata = s.strata; late = true; lines = s.lines; counts = s.counts }
part_taken s Part.Word = s
part_taken s Part.Other = s
