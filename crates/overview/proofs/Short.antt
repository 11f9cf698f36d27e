-- The lines of the season's sheet as the code writes them, and how long they are at most, where every number fits 64 bits. Assumes nothing.
use Prim.Native.Nat.{ℕ, ◌+◌, ◌≤◌}
use mathlib.Core.Path.{◌≡◌, sym, ap}
use mathlib.Core.List.{List, [], ◌∷◌, ◌++◌, map}
use native.Mathlib.Omega.{arith}
use lib.ListN.{length, length-append, get_or}
use Rattle.std.specs.Prelude.{Result, Ok, Err}
use Rattle.terms.specs.declared.Refusal.{Refusal}
use Rattle.terms.specs.Outcome.{accepted, after, says}
use Rattle.terms.specs.Refusals.{number, place}
use Rattle.factors.specs.declared.Level.{Level}
use Rattle.factors.specs.declared.Level.TheVariants.{P99, P95, P90, P85, P80, P75, P70, P60, P50}
use Rattle.factors.specs.Levels.{percent_of}
use Rattle.judge.specs.declared.Verdict.TheVariants.{Below, Inconclusive, Above}
use Rattle.pen.specs.Letters.{letters}
use Rattle.pen.specs.Text.{decimal, line}
use Rattle.pen.specs.Page.{Wrote, Printed}
use Rattle.pen.proofs.Lengths.{Small, line_short}
use Rattle.pen.proofs.Writing.{◌⨾◌, as_text, printed}
use Rattle.sheet.specs.Lines.{refused_line}
use Rattle.season.specs.declared.{Tally.Tally, HandedBack.HandedBack}
use Rattle.season.specs.Tally.{cell_of, no_tally}
use Rattle.season.specs.Add.{add_says, AddPromise}
use Rattle.filing.specs.Filing.{files_of}
use Rattle.overview.specs.Overview.{Bounded, level_line, three_lines, levels_text, sums_line, worst_line, tally_text, season_text, overview_text, longest_overview}

-- a text that was written is the one that is asked for, and no longer than that may be
bounded_as : {o o' x y : List ℕ} {a a' most more : ℕ} → y ≡ x → most ≤ more → Wrote o a x o' a' → length x ≤ most → Bounded o a y o' a' more
bounded_as e h w s = record { wrote = as_text e w; short = omega (arith, ap length e) }

-- a line of numbers
abbrev numbers_line : List ℕ → List ℕ → List ℕ
numbers_line word ns = line (word ∷ map decimal ns)

level_is : (counts : List ℕ) (level : Level) {percent x y z : ℕ} → percent ≡ percent_of level → x ≡ get_or counts (cell_of level Below) 0 →
    y ≡ get_or counts (cell_of level Inconclusive) 0 → z ≡ get_or counts (cell_of level Above) 0 → level_line counts level ≡ numbers_line (letters "level") (percent ∷ x ∷ y ∷ z ∷ [])
unfolding level_line
level_is counts level p x y z = λ i. numbers_line (letters "level") (sym p i ∷ sym x i ∷ sym y i ∷ sym z i ∷ [])

pub level_written : (counts : List ℕ) (level : Level) {percent x y z at next : ℕ} {old new : List ℕ} → percent ≡ percent_of level → x ≡ get_or counts (cell_of level Below) 0 →
    y ≡ get_or counts (cell_of level Inconclusive) 0 → z ≡ get_or counts (cell_of level Above) 0 → Small percent → Small x → Small y → Small z →
    Wrote old at (numbers_line (letters "level") (percent ∷ x ∷ y ∷ z ∷ [])) new next → Bounded old at (level_line counts level) new next 90
level_written counts level {percent} {x} {y} {z} p ex ey ez hp hx hy hz w =
    bounded_as {most = 90} (level_is counts level p ex ey ez) (omega arith) w (omega (arith, line_short (letters "level") (percent ∷ x ∷ y ∷ z ∷ []) (hp, (hx, (hy, (hz, tt))))))

-- one after the other
joined : {x y : List ℕ} {o p₁ p₂ : List ℕ} {a a₁ a₂ m n : ℕ} → Bounded o a x p₁ a₁ m → Bounded p₁ a₁ y p₂ a₂ n → Bounded o a (x ++ y) p₂ a₂ (m + n)
joined {x} {y} b c = record { wrote = b.wrote ⨾ c.wrote; short = omega (arith, length-append x y, b.short, c.short) }

pub three_written : (counts : List ℕ) (one two three : Level) {o p₁ p₂ p₃ : List ℕ} {a a₁ a₂ a₃ : ℕ} → Bounded o a (level_line counts one) p₁ a₁ 90 → Bounded p₁ a₁ (level_line counts two) p₂ a₂ 90 →
    Bounded p₂ a₂ (level_line counts three) p₃ a₃ 90 → Bounded o a (three_lines counts one two three) p₃ a₃ 270
three_written counts one two three b c d = joined b (joined c d)

pub levels_written : (counts : List ℕ) {o p₁ p₂ p₃ : List ℕ} {a a₁ a₂ a₃ : ℕ} → Bounded o a (three_lines counts P99 P95 P90) p₁ a₁ 270 → Bounded p₁ a₁ (three_lines counts P85 P80 P75) p₂ a₂ 270 →
    Bounded p₂ a₂ (three_lines counts P70 P60 P50) p₃ a₃ 270 → Bounded o a (levels_text counts) p₃ a₃ 810
levels_written counts b c d = joined b (joined c d)

pub tally_written : (t : Tally) {o p₁ p₂ p₃ : List ℕ} {a a₁ a₂ a₃ : ℕ} → Bounded o a (levels_text t.counts) p₁ a₁ 810 → Bounded p₁ a₁ (sums_line t) p₂ a₂ 89 → Bounded p₂ a₂ (worst_line t) p₃ a₃ 69 →
    Bounded o a (tally_text t) p₃ a₃ 968
unfolding tally_text
tally_written t b c d = joined b (joined c d)

-- the sums and the worst
pub record SmallTally (t : Tally) : Type 0 where
  pub books : Small t.books
  pub limits : Small t.limits
  pub refused : Small t.refused
  pub added : Small t.added
  pub worst : Small t.worst
  pub worst_limit : Small t.worst_limit
  pub worst_book : Small t.worst_book

module _ (t : Tally) (s : SmallTally t) where
  pub sums_written : {o o' : List ℕ} {a a' : ℕ} → Wrote o a (sums_line t) o' a' → Bounded o a (sums_line t) o' a' 89
  sums_written w =
      record { wrote = w; short = omega (arith, line_short (letters "sums") (t.books ∷ t.limits ∷ t.refused ∷ t.added ∷ []) (s.books, (s.limits, (s.refused, (s.added, tt))))) }

  pub worst_written : {o o' : List ℕ} {a a' : ℕ} → Wrote o a (worst_line t) o' a' → Bounded o a (worst_line t) o' a' 69
  worst_written w =
      record { wrote = w; short = omega (arith, line_short (letters "worst") (t.worst ∷ t.worst_limit ∷ t.worst_book ∷ []) (s.worst, (s.worst_limit, (s.worst_book, tt)))) }

-- of what was handed back: the line of a refusal, or the sheet
module _ (handed : HandedBack) where
  text_is : {a : Result Unit Refusal} → handed.answer ≡ a → season_text (add_says handed) ≡ season_text (after (λ done. accepted handed.tally) (says a))
  text_is is = ap (λ (a : Result Unit Refusal). season_text (after (λ done. accepted handed.tally) (says a))) is

  pub season_refused : {why : Refusal} {o o' : List ℕ} {a a' : ℕ} → handed.answer ≡ Err why → Wrote o a (refused_line (number why) (place why)) o' a' × (length (refused_line (number why) (place why)) ≤ 50) →
      Bounded o a (season_text (add_says handed)) o' a' longest_overview
  unfolding season_text
  season_refused is w = bounded_as (text_is is) (omega arith) w.0 w.1

  pub season_added : {done : Unit} {o o' : List ℕ} {a a' : ℕ} → handed.answer ≡ Ok done → Bounded o a (tally_text handed.tally) o' a' 968 → Bounded o a (season_text (add_says handed)) o' a' longest_overview
  unfolding season_text
  season_added is w = bounded_as (text_is is) (omega arith) w.wrote w.short

-- of the files
pub files_printed : (files : List ℕ) (handed : HandedBack) {page page' : List ℕ} {r : ℕ} → AddPromise no_tally (files_of files) handed → longest_overview ≤ length page →
    Bounded page 0 (season_text (add_says handed)) page' r longest_overview → Printed (overview_text files) page r page'
unfolding overview_text
files_printed files handed e room w =
    let text : overview_text files ≡ season_text (add_says handed) = ap season_text (sym e.answer) in
    printed _ _ _ _ (omega (arith, ap length text, w.short)) (as_text text w.wrote)
