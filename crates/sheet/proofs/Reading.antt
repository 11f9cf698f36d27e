-- From what the reader promises to the text of the file. Assumes nothing.
use Prim.Native.Nat.{ℕ, ◌+◌, ◌*◌, ◌≤◌}
use Rattle.std.specs.Prelude.{Result, Ok, Err}
use native.Mathlib.Omega.{arith}
use mathlib.Core.Path.{◌≡◌, ap}
use mathlib.Core.List.{List}
use lib.IntN.{ℤ}
use lib.ListN.{length, take}
use Rattle.terms.specs.declared.Refusal.{Refusal}
use Rattle.terms.specs.Refusals.{number, place}
use Rattle.workfile.specs.declared.Contents.{Contents}
use Rattle.workfile.specs.Promises.{plan_with, Rooms, ReadPromise}
use Rattle.workfile.proofs.OneFile.{read_counts}
use Rattle.workfile.proofs.Promises.{held_by}
use Rattle.workfile.proofs.Held.{read_refused, AtRead, decodes}
use Rattle.sheet.specs.Lines.{refused_line}
use Rattle.sheet.specs.Sheet.{text_by, steps_text, content_text, sheet_text, longest_text}

pub file_refused : {file w v w' v' : List ℕ} {e e' : List ℤ} {r : Result Contents Refusal} → Rooms w v e → ReadPromise file w v e r w' v' e' → (why : Refusal) → r ≡ Err why →
    sheet_text file ≡ refused_line (number why) (place why)
unfolding sheet_text
file_refused rooms p why is = ap (text_by content_text) (read_refused rooms p why is)

-- what a match has found is what was read
pub at_read : {file w₀ v₀ w v : List ℕ} {e₀ e : List ℤ} {r : Result Contents Refusal} {k : Contents} → Rooms w₀ v₀ e₀ → ReadPromise file w₀ v₀ e₀ r w v e → r ≡ Ok k → AtRead file k w v e
at_read rooms p is = record { words = _; values = _; errors = _; answer = _; rooms = rooms; promise = p; told = is }

module _ {file : List ℕ} {k : Contents} {w v : List ℕ} {e : List ℤ} (at : AtRead file k w v e) where
  pub file_read : sheet_text file ≡ steps_text (plan_with k.level k.te k.ae) (take k.words w) (take k.lines v) (take k.lines e)
  unfolding sheet_text
  file_read = ap (text_by content_text) (decodes at)

  -- the text has room
  pub text_room : 464 + 90 * length (take k.lines v) ≤ longest_text
  text_room = omega (arith, (read_counts file (held_by k w v e) (decodes at)).few_lines)
