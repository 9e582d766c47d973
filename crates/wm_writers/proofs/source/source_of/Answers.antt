use Rattle.std.proofs.Common.{◌≡◌, ◌+◌, ◌<◌, ◌≤◌, List, Some, length, get_or, slice_get, refl, subst, sym, ap, ◌∙◌, true, false, arith, rules}
use Rattle.std.proofs.lemmas.Option.{same_Some, slice_get-get_or}
use Rattle.wm_event.specs.declared.event.EventId.{EventId}
use Rattle.wm_event.specs.declared.event.EventId.TheVariants.{Init}
use Rattle.wm_event.specs.Log.{event_in}
use Rattle.wm_event.specs.LoggedRun.{execution}
use Rattle.wm_event.specs.Witness.{writers_in}
use Rattle.wm_writers.specs.Answer.{IsByteOf}
use Rattle.wm_writers.specs.Forced.{Meets}
use Rattle.wm_writers.specs.declared.source.ByteFit.{ByteFit}
use Rattle.wm_writers.proofs.SourceLemmas.{AreBelow, below-all, below-more, below-same}
use Rattle.wm_writers.proofs.source.source_of.Goals as goal
use Rattle.wm_writers.proofs.source.source_of.Goals.{then-meets+in_ok-byte_fit+in_ok-push, else-meets}

pub loop-byte-preserved : goal.loop-byte-preserved
loop-byte-preserved c =
    let run = c.args.candidate.now in
    let need = c.args.need in
    let e = c.in-Some.event.now in
    let i = c.loop-byte.byte in
    let items : List EventId = c.writers-writer-items.result.now in
    let w : EventId = get_or items i Init in
    let inside : i < length items = omega arith in
    let at : slice_get (writers_in run.witness need.reader) i ≡ Some w = subst (λ (ws : List EventId). slice_get ws i ≡ Some w) c.writers-writer-items.ensures.value (slice_get-get_or items i Init inside) in
    let there : event_in run.log need.reader ≡ Some e = search rules in
    elim c.if-meets.branch [
      | then-meets+in_ok-byte_fit+in_ok-push v ↦
          let b : ByteFit = v.in_ok-byte_fit.field-0 in
          let here : b.byte ≡ i = v.in_ok-byte_fit.ensures.byte in
          let m = v.if-meets.ensures.0 refl in
          let meets : Meets (execution run) need i = (at ∙ ap Some m.0, m.1) in
          let is : IsByteOf run need b = (subst (Meets (execution run) need) (sym here) meets, (e, there, v.in_ok-byte_fit.ensures.fit)) in
          subst (AreBelow run need (i + 1)) (sym (v.bytes-is ∙ v.in_ok-push.ensures.ok)) (below-more run need i c.loop-byte.bytes b c.loop-byte.invariant is here)
      | else-meets v ↦
          let not = λ (meets : Meets (execution run) need i). let clash : false ≡ true = v.if-meets.ensures.1 (same_Some w need.writer (sym at ∙ meets.0), meets.1) in let no : ⊥ = cc in no in
          subst (AreBelow run need (i + 1)) (sym v.bytes-is) (below-same run need i c.loop-byte.bytes c.loop-byte.invariant not)
    ]

pub returns-clause-source : goal.returns-clause-source
returns-clause-source c =
    let run = c.args.candidate.now in
    let need = c.args.need in
    let size = ap length c.writers-writer-items.ensures.value in
    let long : length (writers_in run.witness need.reader) ≤ c.loop-byte.byte = omega (arith, size) in
    below-all run need c.loop-byte.byte c.loop-byte.bytes long c.loop-byte.invariant
