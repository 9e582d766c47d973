use Rattle.std.proofs.Common.{◌++◌}
use Rattle.wm_module_bytes.proofs.Steps.{next_front, next_parts, next_past, reads_both}
use Rattle.wm_module_bytes.proofs.instruction.skip_access.Goals as goal

pub returns : goal.returns
returns c text next has =
    let start = c.args.reader.now in
    let both = next_parts start text (has.alignment ++ has.rest) has.parts next in
    let first = c.skip_alignment.ensures has.alignment (next_front start has.alignment has.rest both) has.is_alignment in
    let second = c.skip_fixed.ensures has.rest (next_past start c.skip_alignment.new.reader has.alignment has.rest both first.moves) has.offset in
    reads_both start c.skip_alignment.new.reader c.skip_fixed.new.reader text has.alignment has.rest c.skip_alignment.result c.skip_fixed.result tt tt has.parts first second
