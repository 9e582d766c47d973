use Rattle.wm_logfile.proofs.Taking.{natural}
use Rattle.wm_logfile.proofs.quick.scanned_natural.Goals as goal

pub returns : goal.returns
returns c = natural c.args.bytes.now c.scan.result c.to_u64.result c.scan.ensures.parts c.if-bytes-eq45.false c.to_u64.ensures
