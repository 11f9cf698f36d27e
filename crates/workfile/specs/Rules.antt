-- The rules that `fits` tests, as facts. Definitions: nothing is assumed.
use Rattle.std.specs.Prelude.{◌+◌, ◌<◌, ◌≤◌, ◌≡◌}
use Rattle.signed.specs.Errors.{most_size}
use Rattle.workfile.specs.Content.{most_words, most_file_lines, sum_bound}
use Rattle.workfile.specs.declared.{Tally.Tally, FileRecord.FileRecord}

abbrev pub Rule : Tally → FileRecord → Type 0
Rule t (FileRecord.Word w) = (t.lines ≡ 0) × (t.words < most_words)
Rule t (FileRecord.Value v) = (t.next_line ≡ 0) × ((t.lines < most_file_lines) × (t.sum + v < sum_bound))
Rule t (FileRecord.ErrorOf u l n) = (t.next_line ≤ l) × ((l < t.lines) × ((0 < n) × (n ≤ most_size u)))
Rule t (FileRecord.End n s) = (n ≡ t.lines) × (s ≡ t.sum)
Rule t FileRecord.Nothing = ⊥
