use Rattle.std.proofs.Common.{◌≡◌, ◌<◌, length, refl, subst, sym, arith, false, true}
use Rattle.std.specs.Prelude.{All}
use Rattle.std.proofs.lemmas.List.{take_all}
use Rattle.wm_writers.specs.Found.{HasForcedByte}
use Rattle.wm_writers.proofs.ListLemmas.{all-taken}
use Rattle.wm_writers.proofs.source.are_forced.Goals as goal

pub returns-then-not-has_forced_byte : goal.returns-then-not-has_forced_byte
returns-then-not-has_forced_byte c =
    let i = c.loop-source.source-index in
    let inside : i < length c.args.sources.now = omega arith in (
      λ t. absurd (let e : false ≡ true = t in cc),
      λ all. c.if-not-has_forced_byte.ensures.1 (subst HasForcedByte (sym c.source-item.is) (all i c.source-item.result inside)),
    )

pub loop-source-preserved : goal.loop-source-preserved
loop-source-preserved c =
    let i = c.loop-source.source-index in
    let here : HasForcedByte c.source-item.result = c.if-not-has_forced_byte.ensures.0 refl in
    all-taken HasForcedByte c.args.sources.now i c.source-item.result (omega arith) c.loop-source.invariant (subst HasForcedByte c.source-item.is here)

pub returns : goal.returns
returns c = (λ t. subst (All HasForcedByte) (take_all c.loop-source.source-index c.args.sources.now (omega arith)) c.loop-source.invariant, λ all. refl)
