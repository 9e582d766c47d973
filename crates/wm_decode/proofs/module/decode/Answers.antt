use Rattle.std.proofs.Common.{arith}
use Rattle.wm_decode.proofs.Fuel.{are_bytes}
use Rattle.wm_decode.proofs.Decoded.{is_found, is_only}
use Rattle.wm_decode.proofs.Past.{is_past}
use Rattle.wm_decode.proofs.Refuted.{err_refuted}
use Rattle.wm_decode.proofs.module.decode.Goals as goal

pub returns-clause-found : goal.returns-clause-found
returns-clause-found c = is_found c.args.bytes.now c.decode_whole.result (are_bytes c.args.bytes.now (λ i. omega (arith, c.type_inv.bytes i))) c.decode_whole.ensures.read

pub returns-clause-only : goal.returns-clause-only
returns-clause-only c = λ m s. is_only c.args.bytes.now c.decode_whole.result c.decode_whole.ensures.read m s

pub returns-clause-past : goal.returns-clause-past
returns-clause-past c = λ m limit s r. is_past c.args.bytes.now c.decode_whole.result c.decode_whole.ensures.read m limit s r

pub returns-clause-refuted : goal.returns-clause-refuted
returns-clause-refuted c = err_refuted c.args.bytes.now c.decode_whole.result (are_bytes c.args.bytes.now (λ i. omega (arith, c.type_inv.bytes i))) c.decode_whole.ensures.fault
