use Rattle.std.proofs.Common.{◌≡◌, refl, sym, subst, ◌∙◌}
use Rattle.wm_event.specs.declared.witness.Witness.{Witness}
use Rattle.wm_event.specs.Faults.{Judges}
use Rattle.wm_event.specs.LoggedRun.{LoggedRun, execution}
use Rattle.wm_event.specs.Rules.{IsValid}
use Rattle.wm_event.specs.Shape.{IsWellShaped}
use Rattle.wm_writers.specs.Forced.{with_witness}
use Rattle.wm_witness.specs.Assumptions.{Keeps}
use Rattle.wm_witness.specs.Steps.{IsSameLog}
use Rattle.wm_witness.proofs.step.judged.Goals as goal

-- a leaf is the log with its witness
same-run : (run leaf : LoggedRun) (w : Witness) → IsSameLog run leaf → w ≡ leaf.witness → leaf ≡ with_witness run w
same-run run leaf w same is = λ i. record { log = same.0 i; witness = (sym is) i; initial = same.1 i }

pub returns-in_ok-copy_witness-in-Valid : goal.returns-in_ok-copy_witness-in-Valid
returns-in_ok-copy_witness-in-Valid c =
    let run : LoggedRun = c.args.start.now in
    let leaf : LoggedRun = c.args.leaf.now in
    let w : Witness = c.in_ok-copy_witness-in-Valid.field-0 in
    let copied : w ≡ c.witness.result.now = c.in_ok-copy_witness-in-Valid.ensures in
    let same : leaf ≡ with_witness run w = same-run run leaf w c.requires.log (copied ∙ c.witness.ensures.value) in
    let valid : IsValid (execution leaf) = subst (Judges (execution leaf)) c.in-Valid.is c.in_ok-judge_sequentially.ensures.judged in (
      subst (λ (x : LoggedRun). IsWellShaped x × IsValid (execution x)) same (c.log-log.ensures.shape, valid),
      subst (λ (x : LoggedRun). Keeps x c.args.wanted.now) same (c.if-not-keeps.ensures refl),
    )

pub returns-then-not-keeps : goal.returns-then-not-keeps
returns-then-not-keeps c = c.some_split.ensures c.args.wanted.now

pub returns-in_ok-grounds-in-Broken : goal.returns-in_ok-grounds-in-Broken
returns-in_ok-grounds-in-Broken c = c.some_split-in-Broken.ensures c.args.wanted.now
