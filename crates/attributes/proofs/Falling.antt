-- So few exceptions are no likelier where more of all items are exceptions, nor where more items are looked at. Assumes nothing.
use mathlib.Core.Path.{◌≡◌, sym, ◌∙◌, subst, subst₂}
use Prim.Native.Nat.{ℕ, zero, suc, ◌+◌, ◌-◌, ◌*◌, ◌^◌, ◌≤◌}
use native.Mathlib.Nat.{add-zero, add-suc, mul-add, mul_assoc, mul_right_comm, add-sub_of_le, pow-suc, le_trans, le_of_eq, le-add_right, mul-le-mul, mul-le-mul_right}
use native.Mathlib.Omega.{arith}
use Rattle.attributes.specs.Rule.{so_few, Unlikely}
use Rattle.attributes.proofs.Chance.{few_none, few_some, few_of_none, few_allowed}

-- `more` parts that were good are bad
module _ (bad good more : ℕ) where
  turned : (f f' a a' : ℕ) → f ≤ f' → a ≤ a' → f' ≤ a' → f * (bad + more) + a * good ≤ f' * bad + a' * (good + more)
  turned f f' a a' few allowed order =
      omega (arith, mul-add f' bad more, mul-add a' good more, mul-le-mul_right (bad + more) few, mul-le-mul_right good allowed, mul-le-mul_right more order)

  few_falls : (n x : ℕ) → so_few (bad + more) good n x ≤ so_few bad (good + more) n x
  few_falls zero x = le_of_eq (few_of_none (bad + more) good x ∙ sym (few_of_none bad (good + more) x))
  few_falls (suc n) zero =
      subst₂ (λ (a b : ℕ). a ≤ b) (sym (few_none (bad + more) good n)) (sym (few_none bad (good + more) n)) (mul-le-mul (few_falls n 0) (le-add_right good more))
  few_falls (suc n) (suc x) =
      subst₂ (λ (a b : ℕ). a ≤ b) (sym (few_some (bad + more) good n x)) (sym (few_some bad (good + more) n x))
      (turned _ _ _ _ (few_falls n x) (few_falls n (suc x)) (few_allowed bad (good + more) n x))

module _ (whole level n x : ℕ) where
  share_falls : {share larger : ℕ} → share ≤ larger → larger ≤ whole → so_few larger (whole - larger) n x ≤ so_few share (whole - share) n x
  share_falls {share} {larger} up within =
      let others : whole - larger + (larger - share) ≡ whole - share = omega arith in
      subst₂ (λ (bad good : ℕ). so_few bad (whole - larger) n x ≤ so_few share good n x) (add-sub_of_le up) others
      (few_falls share (whole - larger) (larger - share) n x)

  -- what is unlikely at a share is so at every larger one
  pub share_raised : (share larger : ℕ) → share ≤ larger → larger ≤ whole → Unlikely whole level n x share → Unlikely whole level n x larger
  unfolding Unlikely
  share_raised share larger up within few = le_trans (mul-le-mul_right 100 (share_falls up within)) few

-- one item more
module _ (bad good : ℕ) where
  few_thins : (n x : ℕ) → so_few bad good (suc n) x ≤ so_few bad good n x * (bad + good)
  few_thins n zero = omega (arith, mul-add (so_few bad good n 0) bad good, few_none bad good n)
  few_thins n (suc x) =
      omega (arith, mul-add (so_few bad good n (suc x)) bad good, mul-le-mul_right bad (few_allowed bad good n x), few_some bad good n x)

module _ (whole level x share : ℕ) (within : share ≤ whole) where
  thinner : (few few' most power : ℕ) → few' ≤ few * whole → few * 100 ≤ most * power → few' * 100 ≤ most * (power * whole)
  thinner few few' most power thins unlikely =
      omega (arith, mul_assoc most power whole, mul_right_comm few whole 100, mul-le-mul_right whole unlikely, mul-le-mul_right 100 thins)

  item_more : (n : ℕ) → Unlikely whole level n x share → Unlikely whole level (suc n) x share
  unfolding Unlikely
  item_more n unlikely =
      let parts : share + (whole - share) ≡ whole = add-sub_of_le within in
      let thins : so_few share (whole - share) (suc n) x ≤ so_few share (whole - share) n x * whole =
      subst (λ (w : ℕ). so_few share (whole - share) (suc n) x ≤ so_few share (whole - share) n x * w) parts (few_thins share (whole - share) n x) in
      rw (pow-suc whole n) (thinner _ _ (100 - level) (whole ^ n) thins unlikely)

  items_more : (n more : ℕ) → Unlikely whole level n x share → Unlikely whole level (n + more) x share
  items_more n zero unlikely = rw add-zero unlikely
  items_more n (suc more) unlikely = rw add-suc (item_more (n + more) (items_more n more unlikely))

  -- and what is unlikely in a sample is so in every larger one
  pub sample_raised : (n m : ℕ) → n ≤ m → Unlikely whole level n x share → Unlikely whole level m x share
  sample_raised n m up unlikely = subst (λ (k : ℕ). Unlikely whole level k x share) (add-sub_of_le up) (items_more n (m - n) unlikely)
