-- `notation::keep` meets its contract: a record has a place where its line has. Assumes nothing.
use borrow.Author.Rules.{rules}
use Rattle.notation.proofs.Filling.{in_place}
use Rattle.notation.proofs.keep.Goals as goal

pub put_record-requires : goal.put_record-requires
put_record-requires c = search (rules, in_place)
