-- What a caller in C sees of the practice sheet's size, split and start, of document 000's case, of a batch that stops, and of a refusal. Assumes nothing.
use mathlib.Core.Path.{◌≡◌, ap}
use mathlib.Core.List.{[], ◌∷◌}
use lib.IntN.{pos}
use Rattle.size.specs.Size.{size_of}
use Rattle.size.proofs.Worked.{sheet}
use Rattle.split.specs.Split.{split_of}
use Rattle.split.proofs.Worked.{grants_split}
use Rattle.start.specs.Start.{start_of}
use Rattle.start.proofs.Worked.{worked}
use Rattle.attributes.specs.Attributes.{bound_of}
use Rattle.attributes.proofs.Cases.{two_in_forty_five, two_of_them}
use Rattle.findings.specs.Batch.{Batch, post_all_of}
use Rattle.findings.proofs.Worked.{claims, drawn, none, practice, stopped}
use Rattle.results.specs.Control.{bound_seen}
use Rattle.results.specs.Findings.{post_seen}
use Rattle.results.specs.Results.{size_seen, split_seen, start_seen}

pub size_seen_lem : size_seen (size_of 95 1000000 20000 0) ≡ record { refusal = 0; place = 0; draws = 150 }
size_seen_lem = ap size_seen sheet.at_95

pub split_seen_lem : split_seen (split_of (500 ∷ 120 ∷ 0 ∷ 80 ∷ 300 ∷ []) 4 5)
    ≡ record { refusal = 0; place = 0; interval = 80; draws_left = 1; sampled_total = 80; full_lines = 3; full_total = 920 }
split_seen_lem = ap split_seen grants_split

pub start_seen_lem : start_seen (start_of 40 (63 ∷ 25 ∷ [])) ≡ record { refusal = 0; place = 0; start = 25; words = 2 }
start_seen_lem = ap start_seen worked.0

pub start_refused : start_seen (start_of 40 (63 ∷ 40 ∷ [])) ≡ record { refusal = 12; place = 2; start = 0; words = 0 }
start_refused = ap start_seen worked.3

pub bound_seen_lem : bound_seen (bound_of 90 5 2) ≡ record { refusal = 0; place = 0; hundredths = 1140 }
bound_seen_lem = ap bound_seen two_in_forty_five

pub bound_refused : bound_seen (bound_of 90 2 11) ≡ record { refusal = 25; place = 0; hundredths = 0 }
bound_refused = ap bound_seen two_of_them

pub post_seen_lem : post_seen (post_all_of claims drawn none (0 ∷ 2 ∷ 3 ∷ []) (pos 7 ∷ pos 10 ∷ pos 5 ∷ [])).says ≡ record { refusal = 0; place = 0; posted = 3 }
post_seen_lem = ap (λ (b : Batch). post_seen b.says) practice.0

pub post_refused : post_seen (post_all_of claims drawn none (0 ∷ 1 ∷ 3 ∷ []) (pos 7 ∷ pos 1 ∷ pos 5 ∷ [])).says ≡ record { refusal = 15; place = 1; posted = 0 }
post_refused = ap (λ (b : Batch). post_seen b.says) stopped.0
