-- Document 000's case as text, a bound with no tenths, refusals, and lines that are typed. Computed; assumes nothing.
use mathlib.Core.Path.{◌≡◌, refl}
use Rattle.pen.specs.Letters.{letters}
use Rattle.pen.specs.Text.{decimal, decimal_in}
use Rattle.attributes.specs.Table.{levels, tolerances, sizes, bounds}
use Rattle.attributes.specs.Attributes.{place_from, level_place, tolerance_place, entry_place, items_of, bound_at, bound_of}
use Rattle.std.specs.Prelude.{Ok, Err}
use Rattle.entry.specs.declared.Wrong.{Wrong}
use Rattle.entry.specs.Text.{blank, opens, fields_of, goes_on}
use Rattle.entry.specs.Records.{number_from, number_of, numbers_from}
use Rattle.entry.specs.Steps.{run_of, fields_at}
use Rattle.confidence.specs.Confidence.{percent_text, statement_line, statement_text}
use Rattle.confidence.specs.Line.{asked_of}

pub forty_five : statement_text 90 5 2 ≡ letters "statement 45 2 11.40\n"
unfolding statement_text statement_line percent_text decimal decimal_in items_of bound_of bound_at entry_place tolerance_place level_place place_from levels tolerances sizes bounds
forty_five = refl

pub two_decimals : statement_line 76 1 503 ≡ letters "statement 76 1 5.03\n"
unfolding statement_line percent_text decimal decimal_in
two_decimals = refl

pub told : statement_text 90 2 11 ≡ letters "refused 25 0\n"
unfolding statement_text decimal decimal_in items_of bound_of bound_at entry_place tolerance_place level_place place_from levels tolerances sizes bounds
told = refl

-- 346 is 90 and 256, and no level
pub no_byte : statement_text 346 5 2 ≡ letters "refused 1 0\n"
unfolding statement_text decimal decimal_in items_of bound_of bound_at entry_place tolerance_place level_place place_from levels tolerances sizes bounds
no_byte = refl

-- blanks are passed over, and only the first line is read
pub line_asked : asked_of (letters " 90  5 2 \n95") ≡ Ok (record { first = 90; second = 5; third = 2 })
unfolding asked_of run_of goes_on fields_at fields_of opens blank numbers_from number_of number_from
line_asked = refl

pub number_lacking : asked_of (letters "90 5\n") ≡ Err Wrong.NumberMissing
unfolding asked_of run_of goes_on fields_at fields_of opens blank numbers_from number_of number_from
number_lacking = refl
