-- What a working file holds, and the file of a content. Definitions: nothing is assumed.
use Rattle.std.specs.Prelude.{ℕ, zero, suc, ◌^◌, ◌<◌, ◌≤◌, ◌≡◌, Bool, true, false, List, [], ◌∷◌, ◌++◌, map, ℤ, length}
use Rattle.terms.specs.Numbers.{sum}
use Rattle.signed.specs.Errors.{size_of, is_under}
use Rattle.workfile.specs.Numbers.{bytes}
use Rattle.workfile.specs.declared.{Plan.Plan, FileRecord.FileRecord}

-- The limits of a file: counts of W and of L, what the sum of L stays below, and the length of the longest.
abbrev pub most_words : ℕ
most_words = 64

abbrev pub most_file_lines : ℕ
most_file_lines = 2048

abbrev pub sum_bound : ℕ
sum_bound = 2 ^ 64

abbrev pub longest_file : ℕ
longest_file = 45663

-- errors has one entry for each line, 0 where there is no E and no U
pub record Content : Type 0 where
  pub plan : Plan
  pub words : List ℕ
  pub values : List ℕ
  pub errors : List ℤ

-- P, and each record after it: one byte of kind, then its numbers
abbrev pub plan_bytes : Plan → List ℕ
plan_bytes p = 0x50 ∷ p.level ∷ bytes 8 p.te ++ bytes 8 p.ae

-- the kind of an error's record: E where it is overstated, U where it is understated
abbrev pub error_kind : Bool → ℕ
error_kind false = 0x45
error_kind true = 0x55

abbrev pub bytes_of : FileRecord → List ℕ
bytes_of (FileRecord.Word w) = 0x57 ∷ bytes 8 w
bytes_of (FileRecord.Value v) = 0x4C ∷ bytes 8 v
bytes_of (FileRecord.ErrorOf u l n) = error_kind u ∷ (bytes 4 l ++ bytes 8 n)
bytes_of (FileRecord.End n s) = 0x5A ∷ (bytes 4 n ++ bytes 8 s)
bytes_of FileRecord.Nothing = []

abbrev pub bytes_of_all : List FileRecord → List ℕ
bytes_of_all [] = []
bytes_of_all (r ∷ rs) = bytes_of r ++ bytes_of_all rs

-- the record of a line's error, by its kind and size: none where the size is 0
abbrev pub error_record : ℕ → Bool → ℕ → List FileRecord
error_record i u zero = []
error_record i u (suc n) = FileRecord.ErrorOf u i (suc n) ∷ []

-- one E or U for each error other than 0, from line i on
abbrev pub error_records : ℕ → List ℤ → List FileRecord
error_records i [] = []
error_records i (e ∷ es) = error_record i (is_under e) (size_of e) ++ error_records (suc i) es

-- the records between P and Z, and Z
abbrev pub between : Content → List FileRecord
between c = map FileRecord.Word c.words ++ map FileRecord.Value c.values ++ error_records 0 c.errors

abbrev pub closing : Content → FileRecord
closing c = FileRecord.End (length c.values) (sum c.values)

-- the file of a content
unfoldable pub encode : Content → List ℕ
encode c = plan_bytes c.plan ++ bytes_of_all (between c) ++ bytes_of (closing c)

-- the counts and the sum of a content that has a legal file
pub record Counts (c : Content) : Type 0 where
  pub few_words : length c.words ≤ most_words
  pub few_lines : length c.values ≤ most_file_lines
  pub total : sum c.values < sum_bound
  pub same : length c.errors ≡ length c.values
