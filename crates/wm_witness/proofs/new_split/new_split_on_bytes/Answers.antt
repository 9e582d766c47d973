use Rattle.std.proofs.Common.{sym}
use Rattle.wm_witness.specs.declared.assumption.Assumption.TheVariants.{Byte}
use Rattle.wm_witness.specs.Steps.{IsSpent}
use Rattle.wm_witness.proofs.NewSplitLaw.{none-holds, one-byte-more}
use Rattle.wm_witness.proofs.new_split.new_split_on_bytes.Goals as goal

pub loop-byte-preserved : goal.loop-byte-preserved
loop-byte-preserved c =
    let log = c.args.start.now.log in
    let assumed = c.args.assumed.now in
    let n = c.loop-byte.byte in
    one-byte-more log assumed c.args.reader c.args.writer n c.loop-byte.invariant
    (none-holds c.new_split-found.result (IsSpent log assumed (Byte c.args.reader n c.args.writer)) (sym c.if-is_some.ensures) c.new_split-found.ensures.none)
