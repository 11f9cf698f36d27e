-- `filing::first_file` meets its contract: where the first pass stopped decides. Assumes nothing.
use native.Mathlib.Omega.{arith}
use lib.Seq.{length-take-le}
use mathlib.Core.Path.{sym}
use Rattle.reader.proofs.Passing.{z_whole}
use Rattle.filing.proofs.Rows.{ends_with_z, breaks_off}
use Rattle.filing.proofs.first_file.Goals as goal

pub overflow_add-next : goal.overflow_add-next
overflow_add-next c = omega (arith, z_whole _ _ c.pass-stopped.ensures c.if-stopped.true)

pub slice_bounds-file_entry-end : goal.slice_bounds-file_entry-end
slice_bounds-file_entry-end c = sym (length-take-le _ _ (omega (arith, z_whole _ _ c.pass-stopped.ensures c.if-stopped.true)))

pub returns-then-stopped : goal.returns-then-stopped
returns-then-stopped c = search ends_with_z

pub returns : goal.returns
returns c = search breaks_off
