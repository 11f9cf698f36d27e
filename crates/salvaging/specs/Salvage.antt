-- The salvage of a working file: the longest run of whole records from the start that the file rules allow, a right Z after it, and what is said of
-- it. The rules, and where they stop a pass, are those of the working file. Definitions: nothing is assumed.
use Rattle.std.specs.Prelude.{ℕ, ◌+◌, ◌-◌, ◌≡◌, true, List, ◌++◌, ltb, length, take, Result, Option, Some, None}
use Rattle.terms.specs.declared.Refusal.{Refusal}
use Rattle.terms.specs.Outcome.{Outcome, accepted, refused, left, says}
use Rattle.terms.specs.Numbers.{pick, sum}
use Rattle.workfile.specs.Content.{Content, bytes_of, between, closing}
use Rattle.workfile.specs.Decode.{size, record_at, tally_of, grow, has_plan, plan_of, start, Stop, reads_on, stop_in}
use Rattle.workfile.specs.Promises.{over}
use Rattle.workfile.specs.declared.FileRecord.{FileRecord}
use Rattle.salvaging.specs.declared.{OldEnd.OldEnd, Salvaged.Salvaged}

-- A run from the start of f: so many whole records, P among them and Z not, each allowed by the rules after those before it; what they hold, and
-- where they end.
pub data Run (f : List ℕ) : ℕ → Content → ℕ → Type 0 where
  plan_first : has_plan f ≡ true → Run f 1 (start (plan_of f)) 18
  and_then : {n : ℕ} {c : Content} {at : ℕ} → Run f n c at → reads_on (tally_of c) (record_at f at) ≡ true
      → Run f (n + 1) (grow c (record_at f at)) (at + size (record_at f at))

-- how many records a run has that holds c: P, and those between it and Z
abbrev pub records_of : Content → ℕ
records_of c = 1 + length (between c)

-- the old Z, where the record is one, whether its figures are right or wrong; and its length
unfoldable pub old_end : FileRecord → Option OldEnd
old_end (FileRecord.Word w) = None
old_end (FileRecord.Value v) = None
old_end (FileRecord.ErrorOf u l n) = None
old_end (FileRecord.End n s) = Some (record { count = n; sum = s })
old_end FileRecord.Nothing = None

unfoldable pub old_size : Option OldEnd → ℕ
old_size (Some z) = 13
old_size None = 0

-- the first bytes of a file, and a Z
unfoldable pub with_end : List ℕ → ℕ → FileRecord → List ℕ
with_end f at z = take at f ++ bytes_of z

-- the result: the bytes of the run, and the Z of what it holds
unfoldable pub result_at : List ℕ → Stop → List ℕ
result_at f s = with_end f s.at (closing s.read)

unfoldable pub result_of : List ℕ → List ℕ
result_of f = result_at f (stop_in f)

-- what is said of it: the records kept, the bytes after the run apart from an old Z directly after it, the new count and sum, and that Z
unfoldable pub salvaged_at : List ℕ → Stop → Salvaged
salvaged_at f s =
    record {
      length = length (result_at f s);
      kept = records_of s.read;
      dropped = length f - s.at - old_size (old_end (record_at f s.at));
      lines = length s.read.values;
      sum = sum s.read.values;
      old = old_end (record_at f s.at);
    }

unfoldable pub salvaged_of : List ℕ → Salvaged
salvaged_of f = salvaged_at f (stop_in f)

-- 18 with the bytes needed, where the second buffer has fewer
abbrev pub with_room : List ℕ → ℕ → Outcome Salvaged
with_room f room = pick (ltb room (length (result_of f))) (refused 18 (length (result_of f))) (accepted (salvaged_of f))

-- 29 when no whole P stands first, then 18
unfoldable pub salvage_of : List ℕ → ℕ → Outcome Salvaged
salvage_of f room = pick (has_plan f) (with_room f room) (refused 29 0)

-- the promise: out is the second buffer before, out' after
pub record SalvagePromise (file out : List ℕ) (r : Result Salvaged Refusal) (out' : List ℕ) : Type 0 where
  pub answer : says r ≡ salvage_of file (length out)
  pub out_left : out' ≡ left (λ _. over (result_of file) out) out (salvage_of file (length out))
