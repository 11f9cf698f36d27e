-- How long a text that was read may be. Definitions: nothing is assumed.
use Rattle.std.specs.Prelude.{ℕ, ◌≤◌, List, length, Option, None, Some}

-- it is a part of the room that it was read into
abbrev pub Within : List ℕ → Option ℕ → Type 0
Within room (Some bytes) = bytes ≤ length room
Within room None = Unit
