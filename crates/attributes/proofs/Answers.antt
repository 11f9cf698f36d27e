-- A promise of the job aid is met by one answer. Assumes nothing.
use mathlib.Core.Path.{◌≡◌}
use Prim.Native.Nat.{ℕ}
use Rattle.std.specs.Prelude.{Result}
use Rattle.terms.specs.declared.Refusal.{Refusal}
use Rattle.terms.proofs.Answers.{says_once}
use Rattle.attributes.specs.Attributes.{ItemsPromise, BoundPromise}

pub items_once : {level tolerance : ℕ} {r s : Result ℕ Refusal} → ItemsPromise level tolerance r → ItemsPromise level tolerance s → r ≡ s
items_once {r = r} {s = s} p q = says_once r s p.answer q.answer

pub bound_once : {level tolerance exceptions : ℕ} {r s : Result ℕ Refusal} → BoundPromise level tolerance exceptions r → BoundPromise level tolerance exceptions s → r ≡ s
bound_once {r = r} {s = s} p q = says_once r s p.answer q.answer
