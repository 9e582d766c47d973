use Rattle.std.proofs.Common.{◌≡◌, ◌+◌, ◌∙◌, List, IsTrue, map, refl, ap, subst, arith, ℕ}
use Rattle.std.specs.Prelude.{All}
use Rattle.std.specs.List.{filter}
use Rattle.wm_event.specs.declared.event.EventKey.{EventKey}
use Rattle.wm_event.specs.declared.event.EventId.{EventId}
use Rattle.wm_event.specs.declared.event.EventId.TheVariants.{At}
use Rattle.wm_event.specs.LoggedRun.{execution}
use Rattle.wm_event.specs.Rules.{IsTearFreeLike}
use Rattle.wm_event.specs.Writes.{writes_byte}
use Rattle.wm_witness.proofs.OffersLaw.{like-listed, one-more-byte}
use Rattle.wm_witness.proofs.offers.is_written_whole.Goals as goal

pub loop-byte-preserved : goal.loop-byte-preserved
loop-byte-preserved c =
    let run = c.args.start.now in
    let e = c.args.event.now in
    let address : c.from.result + c.from-in-loop-byte.result ≡ e.address + c.loop-byte.byte = omega (arith, c.from.ensures, c.from-in-loop-byte.ensures) in
    let listed : c.writes_to.result.now ≡ map At (filter (writes_byte run.log (e.address + c.loop-byte.byte)) run.witness.order) =
    c.writes_to.ensures ∙ ap (λ a. map At (filter (writes_byte run.log a) run.witness.order)) address in
    let all : All (IsTearFreeLike (execution run) e) (map At (filter (writes_byte run.log (e.address + c.loop-byte.byte)) run.witness.order)) =
    subst (λ (ids : List EventId). All (IsTearFreeLike (execution run) e) ids) listed (c.if-not-are_like.ensures refl) in
    one-more-byte (λ (k : ℕ). (w : EventKey) → IsTrue (writes_byte run.log (e.address + k) w) → IsTearFreeLike (execution run) e (At w)) c.loop-byte.byte c.loop-byte.invariant
    (like-listed run run.witness.order e (e.address + c.loop-byte.byte) c.log-log.ensures.shape.order all)
