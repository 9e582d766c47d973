use Rattle.std.proofs.Common.{◌∙◌, refl, sym, subst}
use Rattle.wm_recorder.specs.Recorder.{initial_of}
use Rattle.wm_valid.specs.Valid.{IsInit}
use Rattle.wm_valid.proofs.Initial.{one_init}
use Rattle.wm_run.proofs.Together.{gathered_logs}
use Rattle.wm_run.proofs.rounds.gathering.gathered_logs.Goals as goal

pub returns-then-not-is_same-clause-refused : goal.returns-then-not-is_same-clause-refused
returns-then-not-is_same-clause-refused c =
    λ is. absurd (cc (c.if-not-is_same.ensures.1 (c.initial.ensures ∙ one_init c.args.module.now (initial_of c.args.recorder.now) c.initial-2.result.now is c.initial-2.ensures)))

pub returns-clause-gathered : goal.returns-clause-gathered
returns-clause-gathered c =
    let same = sym c.initial.ensures ∙ c.if-not-is_same.ensures.0 refl in
    gathered_logs c.args.module.now c.args.recorder.now c.args.ends.now c.in_ok-logs_by.field-0 c.threads-threads.result (subst (IsInit c.args.module.now) (sym same) c.initial-2.ensures) c.threads-threads.ensures
    c.recorded_log_is_valid.ensures.recording c.in_default.ensures.none c.in_default-first_split.ensures.none c.in_ok-logs_by.ensures
