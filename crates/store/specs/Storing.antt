-- One record stored: what it asks of the buffers, and what it leaves in them. Definitions: nothing is assumed.
use Rattle.std.specs.Prelude.{ℕ, ◌≤◌, ◌≡◌, List, ◌++◌, drop, take, set, ℤ}
use Rattle.signed.specs.Errors.{signed_of}
use Rattle.workfile.specs.Content.{most_file_lines}
use Rattle.workfile.specs.Decode.{pad_to}
use Rattle.workfile.specs.Rules.{Rule}
use Rattle.workfile.specs.Promises.{Rooms}
use Rattle.workfile.specs.declared.{Tally.Tally, FileRecord.FileRecord}

-- zeros from a up to b
unfoldable pub zeroed : List ℤ → ℕ → ℕ → List ℤ
zeroed l a b = pad_to b (take a l) ++ drop b l

-- the buffers with one record more
abbrev pub put_words : Tally → FileRecord → List ℕ → List ℕ
put_words t (FileRecord.Word w) l = set l t.words w
put_words t (FileRecord.Value v) l = l
put_words t (FileRecord.ErrorOf u i n) l = l
put_words t (FileRecord.End n s) l = l
put_words t FileRecord.Nothing l = l

abbrev pub put_values : Tally → FileRecord → List ℕ → List ℕ
put_values t (FileRecord.Word w) l = l
put_values t (FileRecord.Value v) l = set l t.lines v
put_values t (FileRecord.ErrorOf u i n) l = l
put_values t (FileRecord.End n s) l = l
put_values t FileRecord.Nothing l = l

abbrev pub put_errors : Tally → FileRecord → List ℤ → List ℤ
put_errors t (FileRecord.Word w) l = l
put_errors t (FileRecord.Value v) l = l
put_errors t (FileRecord.ErrorOf u i n) l = set (zeroed l t.next_line i) i (signed_of n u)
put_errors t (FileRecord.End n s) l = zeroed l t.next_line n
put_errors t FileRecord.Nothing l = l

pub record Put (t : Tally) (r : FileRecord) (w v : List ℕ) (e : List ℤ) (w' v' : List ℕ) (e' : List ℤ) : Type 0 where
  pub words : w' ≡ put_words t r w
  pub values : v' ≡ put_values t r v
  pub errors : e' ≡ put_errors t r e

-- a record that the rules allow has its place
pub record HasPlace (t : Tally) (r : FileRecord) (w v : List ℕ) (e : List ℤ) : Type 0 where
  pub rooms : Rooms w v e
  pub rule : Rule t r
  pub sound : t.next_line ≤ t.lines
  pub few_lines : t.lines ≤ most_file_lines
