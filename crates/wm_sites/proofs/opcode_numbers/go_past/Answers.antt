use Rattle.std.proofs.Common.{◌≡◌, ◌≤◌, List, length, refl, subst}
use Rattle.std.specs.Prelude.{Some, slice_get}
use Rattle.wm_ast.specs.declared.instr.Instr.{Instr}
use Rattle.std.proofs.lemmas.Option.{slice_get_read}
use Rattle.wm_sites.proofs.Unnumbered.{passed, ended}
use Rattle.wm_sites.proofs.opcode_numbers.go_past.Goals as goal

pub returns-in_ok-open : goal.returns-in_ok-open
returns-in_ok-open c =
    let body = c.args.block.now in
    let instrs = c.as_slice-instrs.result.now in
    let i = c.index-instrs-here.result in
    let at : slice_get body c.args.here.at ≡ Some i =
    subst (λ (xs : List Instr). slice_get xs c.args.here.at ≡ Some i) c.as_slice-instrs.ensures (slice_get_read instrs (length instrs) c.args.here.at i refl c.if-here-instrs.true c.index-instrs-here.is) in
    passed body c.args.here i c.args.open_blocks.now.items c.push.new.self.items c.open.new.blocks.items at c.in_ok-push.ensures.items c.in_ok-open.ensures

pub returns-else-here-instrs : goal.returns-else-here-instrs
returns-else-here-instrs c =
    ended c.args.block.now c.args.here c.args.open_blocks.now.items (subst (λ (xs : List Instr). length xs ≤ c.args.here.at) c.as_slice-instrs.ensures c.if-here-instrs.false)
