-- What a caller in C sees of an outcome: a refusal's number and place, and the figures, each 0 where there is none. Definitions: nothing is assumed.
use Rattle.std.specs.Prelude.{◌≡◌, ℕ, ℤ, pos, Result}
use Rattle.terms.specs.declared.Refusal.{Refusal}
use Rattle.terms.specs.Outcome.{Outcome, accepted, refused, says}

abbrev pub number_seen : {A : Type 0} → Outcome A → ℕ
number_seen (accepted a) = 0
number_seen (refused number place) = number

abbrev pub place_seen : {A : Type 0} → Outcome A → ℕ
place_seen (accepted a) = 0
place_seen (refused number place) = place

-- what an accepted call shows; and what stands for it at a refusal
abbrev pub seen_or : {A B : Type 0} → B → (A → B) → Outcome A → B
seen_or none figure (accepted a) = figure a
seen_or none figure (refused number place) = none

-- a figure, and one with a sign
abbrev pub seen : {A : Type 0} → (A → ℕ) → Outcome A → ℕ
seen figure o = seen_or 0 figure o

abbrev pub signed_seen : {A : Type 0} → (A → ℤ) → Outcome A → ℤ
signed_seen figure o = seen_or (pos 0) figure o

-- An exported function's promise, by the operation's own: the result r shows an answer that meets it.
pub record Shows {A R : Type 0} (shows : A → R) (Promise : A → Type 0) (r : R) : Type 0 where
  pub answer : A
  pub promised : Promise answer
  pub shown : r ≡ shows answer

-- of an operation that answers a Result: what is seen is what the answer says
abbrev pub Sees : {A R : Type 0} → (Outcome A → R) → (Result A Refusal → Type 0) → R → Type 0
Sees sees Promise = Shows (λ answer. sees (says answer)) Promise
