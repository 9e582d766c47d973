use Rattle.std.proofs.Common.{ℕ}
use Rattle.std.specs.Prelude.{All}
use Rattle.wm_witness.specs.Tearing.{IsTearFreeByte}
use Rattle.wm_witness.proofs.NodeLaw.{all-pushed}
use Rattle.wm_witness.proofs.tearing.tear_free_bytes.Goals.{then-branch+in_ok-push, else-branch}
use Rattle.wm_witness.proofs.tearing.tear_free_bytes.Goals as goal

pub loop-byte-preserved : goal.loop-byte-preserved
loop-byte-preserved c =
    let P : ℕ → Type 0 = IsTearFreeByte c.args.start.now c.args.assumed.now c.args.event.now in
    let next : All P c.if-branch.bytes.items = elim c.if-branch.branch [
      | then-branch+in_ok-push w ↦ rw w.bytes-is (all-pushed P c.loop-byte.bytes.items w.push.new.self.items c.loop-byte.byte w.in_ok-push.ensures.items c.loop-byte.invariant
          (c.in_ok-is_tear_free_byte.ensures w.if-branch.true))
      | else-branch w ↦ rw w.bytes-is c.loop-byte.invariant
    ] in
    next
