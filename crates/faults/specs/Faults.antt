-- A fault in words: the number of the line and what is wrong there. Definitions: nothing is assumed.
use Rattle.std.specs.Prelude.{ℕ, List, [], ◌∷◌, ◌++◌}
use Rattle.pen.specs.Letters.{letters}
use Rattle.pen.specs.Text.{decimal}
use Rattle.notation.specs.declared.Fault.{Fault}
use Rattle.entry.specs.declared.{Notation.Notation, Wrong.Wrong}

-- the words of most faults are the same in both notations
abbrev pub wrong_words : Notation → Wrong → List ℕ
wrong_words Notation.Desk Wrong.UnknownKind = letters "the line begins with none of P, W, L, E, U and #"
wrong_words Notation.Programmes Wrong.UnknownKind = letters "the line begins with none of N, S, W, L, E, U and #"
wrong_words by Wrong.NumberMissing = letters "a number is missing"
wrong_words by Wrong.NotNumber = letters "a number has decimal digits only"
wrong_words by Wrong.NumberTooLarge = letters "a number passes 64 bits"
wrong_words by Wrong.FieldTooMany = letters "a field too many"
wrong_words Notation.Desk Wrong.NoPlan = letters "P has to come first"
wrong_words Notation.Programmes Wrong.NoPlan = letters "N has to come first"
wrong_words Notation.Desk Wrong.SecondPlan = letters "a second P"
wrong_words Notation.Programmes Wrong.SecondPlan = letters "a second N"
wrong_words by Wrong.LevelTooLarge = letters "the level is above 255"
wrong_words Notation.Desk Wrong.OutOfOrder = letters "records come in the order P, W, L, then E and U"
wrong_words Notation.Programmes Wrong.OutOfOrder = letters "records come in order N, W, S and L, then E and U"
wrong_words by Wrong.NoStratum = letters "S has to come before L"
wrong_words by Wrong.TooManyWords = letters "more than 64 words"
wrong_words by Wrong.TooManyLines = letters "more than 2048 lines"
wrong_words by Wrong.TotalTooLarge = letters "the sum of L passes 64 bits"
wrong_words by Wrong.UnknownLine = letters "E or U names a line no L has"
wrong_words by Wrong.LineNotRising = letters "lines of E and U have to rise"
wrong_words by Wrong.ErrorZero = letters "an error has to be above 0 in size"
wrong_words by Wrong.ErrorTooLarge = letters "E passes 2^63 - 1, or U 2^63"
wrong_words by Wrong.NoRoom = letters "the buffers are too short"

-- line 3: a number is missing
abbrev pub place_text : ℕ → List ℕ
place_text line = letters "line " ++ (decimal line ++ letters ": ")

abbrev pub fault_text : Notation → Fault → List ℕ
fault_text by fault = place_text fault.line ++ (wrong_words by fault.wrong ++ (10 ∷ []))
