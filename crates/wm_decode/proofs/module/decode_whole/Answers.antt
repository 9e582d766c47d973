use Rattle.std.proofs.Common.{length, ◌-◌, arith}
use Rattle.wm_decode.proofs.Decoded.{too_long}
use Rattle.wm_decode.proofs.LeftOfModule.{is_fault}
use Rattle.wm_decode.proofs.module.decode_whole.Goals as goal

pub returns-then-bytes-gt-MAX_MODULE_BYTES-clause-read : goal.returns-then-bytes-gt-MAX_MODULE_BYTES-clause-read
returns-then-bytes-gt-MAX_MODULE_BYTES-clause-read c = (length c.args.bytes.now - 1048576, too_long c.args.bytes.now (omega arith))

pub returns-then-bytes-gt-MAX_MODULE_BYTES-clause-fault : goal.returns-then-bytes-gt-MAX_MODULE_BYTES-clause-fault
returns-then-bytes-gt-MAX_MODULE_BYTES-clause-fault c = (length c.args.bytes.now - 1048576, too_long c.args.bytes.now (omega arith), omega arith, omega arith)

pub returns-in-Err-clause-fault : goal.returns-in-Err-clause-fault
returns-in-Err-clause-fault c = is_fault c.args.bytes.now c.in-Err.fault c.in_module.result (omega arith) c.in-Err.ensures c.in_module.ensures.same
