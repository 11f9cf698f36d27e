-- A record at a place of a file and its bytes: the one stands where the other do. Assumes nothing.
use Prim.Native.Nat.{ℕ, ◌+◌, ◌-◌, ◌≤◌}
use mathlib.Core.Path.{◌≡◌, ap, sym, ◌∙◌}
use mathlib.Core.List.{List, [], ◌++◌, append-nil, append_assoc}
use native.Mathlib.Omega.{arith}
use lib.ListN.{length, take, drop, take-append-drop, length-drop}
use lib.Seq.{get_or-drop, take-add, take_all, drop_at, length-take-le}
use Rattle.workfile.specs.Numbers.{Bytes}
use Rattle.workfile.specs.Content.{bytes_of}
use Rattle.workfile.specs.Decode.{size, record_of, record_at}
use Rattle.workfile.specs.Rules.{Rule}
use Rattle.workfile.specs.declared.Tally.{Tally}
use Rattle.workfile.specs.declared.FileRecord.{FileRecord}
use Rattle.workfile.proofs.Records.{Good, good_record, record_again, its_bytes}

-- its bytes after the first of a file
pub record_there : (f : List ℕ) (at : ℕ) (r : FileRecord) (rest : List ℕ) → at ≤ length f → Good r → record_at (take at f ++ (bytes_of r ++ rest)) at ≡ r
unfolding record_at
record_there f at r rest w g = ap record_of (drop_at (take at f) (bytes_of r ++ rest) at (length-take-le at f w)) ∙ record_again r rest g

pub last_there : (f : List ℕ) (at : ℕ) (r : FileRecord) → at ≤ length f → Good r → record_at (take at f ++ bytes_of r) at ≡ r
last_there f at r w g = ap (λ (l : List ℕ). record_at (take at f ++ l) at) (sym (append-nil (bytes_of r))) ∙ record_there f at r [] w g

module _ (f : List ℕ) (b : Bytes f) (at : ℕ) where
  pub good_at : (t : Tally) → Rule t (record_at f at) → Good (record_at f at)
  unfolding record_at
  good_at t h = good_record t (drop at f) (λ i. rw get_or-drop (b (at + i))) h

  -- the first bytes of a file with the next record
  pub take_record : (rest : List ℕ) → take at f ++ (bytes_of (record_at f at) ++ rest) ≡ take (at + size (record_at f at)) f ++ rest
  unfolding record_at
  take_record rest =
      let r = record_of (drop at f) in
      ap (λ (l : List ℕ). take at f ++ (l ++ rest)) (its_bytes (drop at f) (λ i. rw get_or-drop (b (at + i))))
      ∙ sym (append_assoc (take at f) (take (size r) (drop at f)) rest) ∙ ap (λ (l : List ℕ). l ++ rest) (sym (take-add at (size r) f))

  -- and with the last
  pub take_last : (z : FileRecord) → record_at f at ≡ z → length f - at ≡ size z → take at f ++ bytes_of z ≡ f
  unfolding record_at
  take_last z e l =
      let n : length (drop at f) ≤ size z = omega (arith, length-drop at f) in
      let its : bytes_of z ≡ take (size z) (drop at f) = rw e at (its_bytes (drop at f) (λ i. rw get_or-drop (b (at + i)))) in
      ap (λ (x : List ℕ). take at f ++ x) (its ∙ take_all (size z) (drop at f) n) ∙ take-append-drop at f
