-- `sheet::lines::refused_line` meets its contract. Assumes nothing.
use borrow.Author.Rules.{rules}
use Rattle.sheet.proofs.Room.{refused_written}
use Rattle.sheet.proofs.lines.refused_line.Goals as goal

pub returns : goal.returns
returns c =
    let told = refused_written c.args.why c.tell-told.ensures (search rules) (search rules) c.line.ensures in
    record { wrote = told.0; why_len_bound = told.1 }
