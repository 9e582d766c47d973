-- What a check of a log over a module finds, and its verdict.
use Rattle.std.specs.Prelude.{◌≡◌, ℕ, List, length}
use Rattle.wm_ast.specs.declared.module.Module.{Module}
use Rattle.wm_event.specs.declared.log.ThreadLog.{ThreadLog}
use Rattle.wm_event.specs.declared.rule.Judgement.{Judgement}
use Rattle.wm_event.specs.declared.rule.Judgement.TheVariants as judgement
use Rattle.wm_event.specs.declared.witness.Witness.{Witness}
use Rattle.wm_event.specs.Faults.{Judges}
use Rattle.wm_event.specs.LoggedRun.{LoggedRun, execution}
use Rattle.wm_event.specs.Shape.{event_count}
use Rattle.wm_logfile.specs.DocumentBytes.{IsDocumentOf}
use Rattle.wm_machine.specs.declared.thread.CodePosition.{CodePosition}
use Rattle.wm_replay.specs.Positions.{AreLogPositions}
use Rattle.wm_rules.specs.declared.scan.Finding.{Finding}
use Rattle.wm_rules.specs.Finding.{HasClosure, judgement_of}
use Rattle.wm_check.specs.declared.checker.CheckedLog.{CheckedLog}
use Rattle.wm_check.specs.declared.checker.CheckedLog.TheVariants as checked
use Rattle.wm_check.specs.declared.verdict.Breach.TheVariants.{Replay, Rule}
use Rattle.wm_check.specs.declared.verdict.Refusal.TheVariants.{Shape}
use Rattle.wm_check.specs.declared.verdict.Verdict.{Verdict}
use Rattle.wm_check.specs.declared.verdict.Verdict.TheVariants.{Allowed, Refused, Broken}
use Rattle.wm_check.specs.Reading.{IsCandidateOver, IsDocumentRefusal, IsRecordedOver}

-- the verdict on a log whose threads are runs, by the judgement of its events
abbrev pub verdict_by : List ThreadLog → Judgement → Verdict
verdict_by log judgement.Valid = Allowed (record { threads = length log; events = event_count log })
verdict_by log (judgement.Broken fault) = Broken (Rule fault)

abbrev pub verdict_of : CheckedLog → Verdict
verdict_of (checked.Refused refusal) = Refused refusal
verdict_of (checked.Misshapen misshapen) = Refused (Shape misshapen.fault)
verdict_of (checked.Differs run answer) = Broken (Replay answer)
verdict_of (checked.Judged run positions finding) = verdict_by run.log (judgement_of finding)

-- what is kept of a candidate whose threads are runs: where they make their events, its judgement, and its closure
pub record IsJudgedRun («module» : Module) (run : LoggedRun) (positions : List (List CodePosition)) (finding : Finding) : Type 0 where
  pub made_at : AreLogPositions «module» run.log positions
  pub judged : Judges (execution run) (judgement_of finding)
  pub closed : HasClosure run finding

-- what a check of a candidate keeps: the candidate
abbrev pub IsCheckOfRun : Module → LoggedRun → CheckedLog → Type 0
IsCheckOfRun «module» run (checked.Refused refusal) = ⊥
IsCheckOfRun «module» run (checked.Misshapen misshapen) = ⊥
IsCheckOfRun «module» run (checked.Differs own answer) = own ≡ run
IsCheckOfRun «module» run (checked.Judged own positions finding) = (own ≡ run) × IsJudgedRun «module» own positions.items finding

-- what a check of a log with a witness keeps: these, or the candidate that they are
abbrev pub IsCheckOfLog : Module → List ThreadLog → Witness → CheckedLog → Type 0
IsCheckOfLog «module» log witness (checked.Refused refusal) = ⊥
IsCheckOfLog «module» log witness (checked.Misshapen misshapen) = (misshapen.log ≡ log) × (misshapen.witness ≡ witness)
IsCheckOfLog «module» log witness (checked.Differs run answer) = IsCandidateOver «module» log witness run
IsCheckOfLog «module» log witness (checked.Judged run positions finding) = IsCandidateOver «module» log witness run × IsJudgedRun «module» run positions.items finding

-- what a check of the bytes of a document keeps: why they are refused, or what they spell
abbrev pub IsCheckOf : Module → List ℕ → CheckedLog → Type 0
IsCheckOf «module» bytes (checked.Refused refusal) = IsDocumentRefusal bytes refusal
IsCheckOf «module» bytes (checked.Misshapen misshapen) = IsDocumentOf bytes misshapen.log misshapen.witness
IsCheckOf «module» bytes (checked.Differs run answer) = IsRecordedOver «module» bytes run
IsCheckOf «module» bytes (checked.Judged run positions finding) = IsRecordedOver «module» bytes run × IsJudgedRun «module» run positions.items finding
