-- Two teams on the practice ledger, by computation: A draws from start 25, B from start 0, and bits 4 to 7 are set beforehand. Assumes nothing.
use Prim.Native.Nat.{ℕ}
use mathlib.Core.Path.{◌≡◌, refl}
use mathlib.Core.List.{List, [], ◌∷◌}
use lib.IntN.{ℤ, pos}
use lib.ListN.{length}
use Rattle.terms.specs.Numbers.{div_up}
use Rattle.terms.specs.Outcome.{accepted, refused, left}
use Rattle.signed.specs.Errors.{size_of}
use Rattle.bits.specs.declared.Bits.{Bits}
use Rattle.bits.specs.declared.Bits.TheVariants.{Low, High}
use Rattle.bits.specs.Own.{bits_of, with_bits}
use Rattle.ledger.specs.Ledger.{ledger_of, running_total, running_from}
use Rattle.split.specs.Rounds.{rounds}
use Rattle.split.specs.Split.{split_of, figures_from, full_marks, marks_of}
use Rattle.split.specs.Start.{figures_for}
use Rattle.draw.specs.Points.{points, covers}
use Rattle.draw.specs.Row.{marks_from, draw_marks}
use Rattle.draw.specs.Draw.{marks_at}
use Rattle.findings.specs.Findings.{line_of, post_of}
use Rattle.teams.specs.Teams.{team_a, team_b, team_of}

abbrev claims : List ℕ
claims = 30 ∷ 30 ∷ 40 ∷ 20 ∷ []

-- 0xF0, 0x10, 0x20 and 0x80
abbrev table : List ℕ
table = 240 ∷ 16 ∷ 32 ∷ 128 ∷ []

-- the marks after the draw and after the split of the team with these bits, as the promises have them
abbrev drawn_by : Bits → ℕ → List ℕ → List ℕ
drawn_by bits start marks = with_bits bits marks (left (marks_at claims start) (bits_of bits marks) (figures_for claims 3 start (length (bits_of bits marks))))

abbrev split_by : Bits → List ℕ → ℕ → List ℕ → List ℕ
split_by bits ledger n marks = with_bits bits marks (left (marks_of ledger) (bits_of bits marks) (split_of ledger n (length (bits_of bits marks))))

pub teams : (team_of team_a ≡ accepted Low) × (team_of team_b ≡ accepted High) × (team_of 67 ≡ refused 24 0) × (team_of 97 ≡ refused 24 0) × (team_of 0 ≡ refused 24 0)
unfolding team_of
teams = (refl, refl, refl, refl, refl)

-- A draws lines 0, 2 and 3, then B lines 0, 1 and 2; or B first
pub a_then_b : (drawn_by Low 25 table ≡ 241 ∷ 16 ∷ 33 ∷ 129 ∷ []) × (drawn_by High 0 (drawn_by Low 25 table) ≡ 245 ∷ 20 ∷ 37 ∷ 129 ∷ [])
unfolding bits_of with_bits figures_for split_of figures_from ledger_of running_total running_from rounds draw_marks marks_from covers points div_up
a_then_b = (refl, refl)

pub b_then_a : (drawn_by High 0 table ≡ 244 ∷ 20 ∷ 36 ∷ 128 ∷ []) × (drawn_by Low 25 (drawn_by High 0 table) ≡ 245 ∷ 20 ∷ 37 ∷ 129 ∷ [])
unfolding bits_of with_bits figures_for split_of figures_from ledger_of running_total running_from rounds draw_marks marks_from covers points div_up
b_then_a = (refl, refl)

-- each reads its own draw
pub own_draws : (bits_of Low (245 ∷ 20 ∷ 37 ∷ 129 ∷ []) ≡ 1 ∷ 0 ∷ 1 ∷ 1 ∷ []) × (bits_of High (245 ∷ 20 ∷ 37 ∷ 129 ∷ []) ≡ 1 ∷ 1 ∷ 1 ∷ 0 ∷ [])
unfolding bits_of
own_draws = (refl, refl)

-- B's start 40 is refused, and the marks are as they were; a split of A's clears A's draw alone
pub late : drawn_by High 40 (241 ∷ 16 ∷ 33 ∷ 129 ∷ []) ≡ 241 ∷ 16 ∷ 33 ∷ 129 ∷ []
unfolding bits_of with_bits figures_for split_of figures_from ledger_of running_total running_from rounds
late = refl

pub split_again : split_by Low claims 3 (245 ∷ 20 ∷ 37 ∷ 129 ∷ []) ≡ 244 ∷ 20 ∷ 36 ∷ 128 ∷ []
unfolding bits_of with_bits split_of figures_from ledger_of running_total running_from rounds full_marks
split_again = refl

-- full lines are 2 in B's bits
pub full_lines : split_by High (500 ∷ 120 ∷ 0 ∷ 80 ∷ 300 ∷ []) 4 (1 ∷ 1 ∷ 255 ∷ 1 ∷ 1 ∷ []) ≡ 9 ∷ 9 ∷ 243 ∷ 1 ∷ 9 ∷ []
unfolding bits_of with_bits split_of figures_from ledger_of running_total running_from rounds full_marks
full_lines = refl

abbrev none : List ℤ
none = pos 0 ∷ pos 0 ∷ pos 0 ∷ pos 0 ∷ []

-- line 1 is in B's sample and not in A's, line 3 in A's and not in B's
pub own_findings : (post_of claims (bits_of Low (245 ∷ 20 ∷ 37 ∷ 129 ∷ [])) none 1 (pos 7) ≡ refused 15 0)
    × (post_of claims (bits_of High (245 ∷ 20 ∷ 37 ∷ 129 ∷ [])) none 1 (pos 7) ≡ accepted (pos 0 ∷ pos 7 ∷ pos 0 ∷ pos 0 ∷ []))
    × (post_of claims (bits_of Low (245 ∷ 20 ∷ 37 ∷ 129 ∷ [])) none 3 (pos 7) ≡ accepted (pos 0 ∷ pos 0 ∷ pos 0 ∷ pos 7 ∷ []))
    × (post_of claims (bits_of High (245 ∷ 20 ∷ 37 ∷ 129 ∷ [])) none 3 (pos 7) ≡ refused 15 0)
unfolding bits_of post_of line_of size_of
own_findings = (refl, refl, refl, refl)

-- a 3 in a team's bits counts as not drawn: 3 for A, 12 for B
pub threes : (post_of claims (bits_of Low (3 ∷ 12 ∷ 14 ∷ 11 ∷ [])) none 0 (pos 7) ≡ refused 15 0)
    × (post_of claims (bits_of High (3 ∷ 12 ∷ 14 ∷ 11 ∷ [])) none 1 (pos 7) ≡ refused 15 0)
    × (post_of claims (bits_of Low (3 ∷ 12 ∷ 14 ∷ 11 ∷ [])) none 2 (pos 7) ≡ accepted (pos 0 ∷ pos 0 ∷ pos 7 ∷ pos 0 ∷ []))
    × (post_of claims (bits_of High (3 ∷ 12 ∷ 14 ∷ 11 ∷ [])) none 3 (pos 7) ≡ accepted (pos 0 ∷ pos 0 ∷ pos 0 ∷ pos 7 ∷ []))
unfolding bits_of post_of line_of size_of
threes = (refl, refl, refl, refl)
