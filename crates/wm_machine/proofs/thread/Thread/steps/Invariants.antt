use Rattle.std.proofs.Common.{◌≡◌, None}
use Rattle.wm_machine.specs.declared.call_frame.StepOutcome.TheVariants.{Made}
use Rattle.wm_machine.specs.Paths.{LocalPath}
use Rattle.wm_machine.specs.Stepping.{IsRunningCode, IsStepWith, RunsLocally}
use Rattle.wm_machine.proofs.thread.Thread.steps.Given as goal

abbrev pub invariant-loop-made : goal.invariant-loop-made
invariant-loop-made l = record {
  «module» : l.self.module ≡ l.initial.self.module;
  runs : l.self.ended ≡ None;
  here : IsRunningCode l.code l.self;
  begins : l.made ≡ 0 → l.self ≡ l.initial.self;
  one : l.made ≡ 1 → IsStepWith l.given l.initial.self l.self Made;
  locally : l.given ≡ None → RunsLocally l.made l.initial.self l.self;
  path : l.given ≡ None → LocalPath l.initial.self l.made l.self;
}
