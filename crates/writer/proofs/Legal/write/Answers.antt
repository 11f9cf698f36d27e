-- `writer::Legal::write` meets its promise: the room decides. Assumes nothing.
use borrow.Author.Rules.{rules}
use native.Mathlib.Omega.{arith}
use Rattle.writer.proofs.Answers.{has_room, no_room, written}
use Rattle.writer.proofs.Legal.write.Goals as goal

pub returns-then-file-needed : goal.returns-then-file-needed
returns-then-file-needed c = no_room _ _ _ _ _ (search rules) _ (omega arith) (omega arith)

pub put_file-requires : goal.put_file-requires
put_file-requires c = has_room _ _ _ _ _ (omega arith)

pub returns : goal.returns
returns c = written _ _ _ _ _ (search rules) (omega arith) (search rules)
