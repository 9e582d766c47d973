use Rattle.std.proofs.Common.{refl}
use Rattle.wm_witness.proofs.TearingLaw.{other-byte}
use Rattle.wm_witness.proofs.tearing.would_tear.Goals as goal

pub returns-then-isnt_from : goal.returns-then-isnt_from
returns-then-isnt_from c = λ t.
    other-byte c.args.start.now c.args.assumed.now c.args.event.now c.requires.event (c.if-not-is_tear_free.ensures refl) c.args.writer (c.if-not-is_like.ensures refl)
    _ (c.requires.bytes c.loop-byte.byte-index 0 c.loop-byte-test.true) (c.if-isnt_from.ensures t)
