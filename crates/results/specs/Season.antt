-- What C hands to the tally of a season, and what it sees of it. Definitions: nothing is assumed.
use Rattle.std.specs.Prelude.{ℕ, eqb, Some, None}
use Rattle.terms.specs.Numbers.{pick}
use Rattle.judge.specs.declared.Verdict.{Verdict}
use Rattle.judge.specs.declared.Verdict.TheVariants.{Below, Inconclusive, Above}
use Rattle.season.specs.declared.HandedBack.{HandedBack}
use Rattle.season.specs.Tally.{Entry}
use Rattle.season.specs.Add.{add_says}
use Rattle.results.specs.declared.TallyResult.{TallyResult}
use Rattle.results.specs.Seen.{number_seen, place_seen}

abbrev pub judged_by : ℕ → ℕ → ℕ → Verdict → Entry
judged_by level book limit verdict = Some (record { level = level; book = book; limit = limit; verdict = verdict })

-- a judgement by its verdict's number: any but 1, 2 and 3 stands for one that was refused
unfoldable pub entry_from : ℕ → ℕ → ℕ → ℕ → Entry
entry_from level book limit verdict =
    (pick (eqb verdict 1) (judged_by level book limit Below)
    (pick (eqb verdict 2) (judged_by level book limit Inconclusive)
    (pick (eqb verdict 3) (judged_by level book limit Above) None)))

-- the refusal, and the tally that is handed back: at a refusal the one that was handed in
abbrev pub tally_seen : HandedBack → TallyResult
tally_seen handed = record { refusal = number_seen (add_says handed); place = place_seen (add_says handed); tally = handed.tally }
