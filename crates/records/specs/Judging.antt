-- A record judged from the counts of those before it. Definitions: nothing is assumed.
use Rattle.std.specs.Prelude.{◌+◌}
use Rattle.terms.specs.Numbers.{pick}
use Rattle.workfile.specs.Decode.{size, is_end, fits}
use Rattle.workfile.specs.Rules.{Rule}
use Rattle.workfile.specs.declared.{Tally.Tally, FileRecord.FileRecord}
use Rattle.records.specs.declared.Judged.{Judged}

-- the counts with one record more; Z gives the lines that are left their error
abbrev pub tallied : Tally → FileRecord → Tally
tallied t (FileRecord.Word w) = record { words = t.words + 1; lines = t.lines; sum = t.sum; next_line = t.next_line }
tallied t (FileRecord.Value v) = record { words = t.words; lines = t.lines + 1; sum = t.sum + v; next_line = t.next_line }
tallied t (FileRecord.ErrorOf u l n) = record { words = t.words; lines = t.lines; sum = t.sum; next_line = l + 1 }
tallied t (FileRecord.End n s) = record { words = t.words; lines = t.lines; sum = t.sum; next_line = n }
tallied t FileRecord.Nothing = t

-- a record that the rules allow after those counted
pub record Allowed (t : Tally) (r : FileRecord) : Type 0 where
  pub rule : Rule t r

unfoldable pub judged : Tally → FileRecord → Judged
judged t r = pick (fits t r) (pick (is_end r) Judged.Last (Judged.Next (tallied t r) (size r))) Judged.Bad
