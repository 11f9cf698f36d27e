-- `entry::fields::number_of` meets its contract: digit by digit, each test is one of `number_from`. Assumes nothing.
use borrow.Author.Rules.{rules}
use Rattle.entry.proofs.Digits.{none_counted, too_low, too_high, too_large, one_digit, all_counted}
use Rattle.entry.proofs.fields.number_of.Goals as goal
use Rattle.entry.proofs.fields.number_of.Goals.{then-byte-lt48-via-then-byte-lt48, then-byte-lt48-via-else-byte-lt48+then-byte-gt57}

pub loop-byte-init : goal.loop-byte-init
loop-byte-init c = none_counted _

pub loop-byte-preserved : goal.loop-byte-preserved
loop-byte-preserved c = search (rules, one_digit)

pub returns : goal.returns
returns c = search (rules, all_counted)

pub returns-then-byte-lt48 : goal.returns-then-byte-lt48
returns-then-byte-lt48 c =
    elim c.then-byte-lt48.branch [
      | then-byte-lt48-via-then-byte-lt48 w ↦ search (rules, too_low)
      | then-byte-lt48-via-else-byte-lt48+then-byte-gt57 w ↦ search (rules, too_high)
    ]

pub returns-then-value-digit : goal.returns-then-value-digit
returns-then-value-digit c = search (rules, too_large)
