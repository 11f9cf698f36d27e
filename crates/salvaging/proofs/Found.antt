-- The old Z: what it is of the record at hand, and its length. Assumes nothing.
use Prim.Native.Nat.{ℕ, ◌-◌, ◌≤◌}
use Rattle.std.specs.Prelude.{Option, Some, None}
use mathlib.Core.Path.{◌≡◌, refl, ap, sym}
use mathlib.Core.Logic.{◌⊎◌, inl, inr, ⊎_elim}
use mathlib.Core.List.{List}
use native.Mathlib.Omega.{arith}
use lib.ListN.{length}
use Rattle.workfile.specs.Decode.{size, record_at}
use Rattle.workfile.specs.declared.FileRecord.{FileRecord}
use Rattle.workfile.specs.declared.FileRecord.TheVariants.{Word, Value, ErrorOf, End, Nothing}
use Rattle.workfile.proofs.Stopping.{size_at}
use Rattle.salvaging.specs.Salvage.{old_end, old_size}
use Rattle.salvaging.specs.declared.OldEnd.{OldEnd}

-- the old Z, by the record at hand
end_or_not : (r : FileRecord) → ((n : ℕ) × (s : ℕ) × (r ≡ End n s)) ⊎ (old_end r ≡ None)
unfolding old_end
end_or_not (Word w) = inr refl
end_or_not (Value v) = inr refl
end_or_not (ErrorOf u l n) = inr refl
end_or_not (End n s) = inl (n, s, refl)
end_or_not Nothing = inr refl

-- its length
pub size_there : {o : Option OldEnd} {z : OldEnd} → o ≡ Some z → 13 ≡ old_size o
unfolding old_size
size_there e = sym (ap old_size e)

pub size_none : {o : Option OldEnd} → o ≡ None → 0 ≡ old_size o
unfolding old_size
size_none e = sym (ap old_size e)

pub old_within : (f : List ℕ) (at : ℕ) → old_size (old_end (record_at f at)) ≤ length f - at
unfolding old_end old_size
old_within f at =
    ⊎_elim (λ z. omega (arith, ap (λ (x : FileRecord). old_size (old_end x)) z.2, ap size z.2, size_at f at))
    (λ e. omega (arith, ap old_size e)) (end_or_not (record_at f at))
