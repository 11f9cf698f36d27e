-- The counts of a content with one record more are those of the content, with the record counted. Assumes nothing.
use Prim.Native.Nat.{ℕ, ◌+◌}
use mathlib.Core.Path.{◌≡◌, ap, ◌∙◌}
use mathlib.Core.List.{[], ◌∷◌, ◌++◌}
use native.Mathlib.Omega.{arith}
use lib.ListN.{length, length-append}
use Rattle.terms.specs.Numbers.{sum}
use Rattle.terms.proofs.Sums.{sum_append}
use Rattle.signed.specs.Errors.{signed_of}
use Rattle.workfile.specs.Content.{Content}
use Rattle.workfile.specs.Decode.{tally_of, grow, pad_to}
use Rattle.workfile.specs.Rules.{Rule}
use Rattle.workfile.specs.declared.FileRecord.{FileRecord}
use Rattle.workfile.specs.declared.FileRecord.TheVariants.{Word, Value, ErrorOf, End, Nothing}
use Rattle.workfile.proofs.Lists.{length_pad}
use Rattle.workfile.proofs.Growing.{SoFar}
use Rattle.records.specs.Judging.{tallied}

pub tally_grow : (c : Content) (r : FileRecord) → SoFar c → Rule (tally_of c) r → tally_of (grow c r) ≡ tallied (tally_of c) r
unfolding grow
tally_grow c (Word w) s h =
    let e : length (c.words ++ (w ∷ [])) ≡ length c.words + 1 = length-append c.words (w ∷ []) in
    λ j. record { words = e j; lines = length c.values; sum = sum c.values; next_line = length c.errors }
tally_grow c (Value v) s h =
    let e : length (c.values ++ (v ∷ [])) ≡ length c.values + 1 = length-append c.values (v ∷ []) in
    let t : sum (c.values ++ (v ∷ [])) ≡ sum c.values + v = sum_append c.values (v ∷ []) ∙ omega arith in
    λ j. record { words = length c.words; lines = e j; sum = t j; next_line = length c.errors }
tally_grow c (ErrorOf u l n) s h =
    let e : length (pad_to l c.errors ++ (signed_of n u ∷ [])) ≡ l + 1 =
    length-append (pad_to l c.errors) (signed_of n u ∷ []) ∙ ap (λ (n : ℕ). n + 1) (length_pad l c.errors h.0) in
    λ j. record { words = length c.words; lines = length c.values; sum = sum c.values; next_line = e j }
tally_grow c (End n t) s h =
    let e : length (pad_to n c.errors) ≡ n = length_pad n c.errors (omega (arith, h.0, s.sound)) in
    λ j. record { words = length c.words; lines = length c.values; sum = sum c.values; next_line = e j }
tally_grow c Nothing s h = absurd h
