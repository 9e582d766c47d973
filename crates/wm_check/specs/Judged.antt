-- What a judgement of a log without a module finds.
use Rattle.std.specs.Prelude.{◌≡◌, ◌≢◌, ℕ, List}
use Rattle.wm_event.specs.declared.log.ThreadLog.{ThreadLog}
use Rattle.wm_event.specs.declared.misshapen.Misshapen.{Misshapen}
use Rattle.wm_event.specs.declared.shape_fault.ShapeFault.TheVariants.{OutOfMemory}
use Rattle.wm_event.specs.declared.witness.Witness.{Witness}
use Rattle.wm_event.specs.Faults.{Judges}
use Rattle.wm_event.specs.First.{IsFirst}
use Rattle.wm_event.specs.LoggedRun.{LoggedRun, execution}
use Rattle.wm_event.specs.Shape.{IsWellShaped, Misshapes, shape_rank}
use Rattle.wm_logfile.specs.DocumentBytes.{IsDocumentOf, IsNoDocument}
use Rattle.wm_rules.specs.declared.scan.Finding.{Finding}
use Rattle.wm_rules.specs.Finding.{HasClosure, judgement_of}
use Rattle.wm_check.specs.declared.judged.JudgedDocument.{JudgedDocument}
use Rattle.wm_check.specs.declared.judged.JudgedDocument.TheVariants.{Refused, Misshapen as NotShaped, Judged}

abbrev pub run_with : List ThreadLog → Witness → List ℕ → LoggedRun
run_with log witness initial = record { log = log; witness = witness; initial = initial }

-- the log and the witness are not a candidate, and this is the first fault of their shape
pub record IsMisshapenLog (log : List ThreadLog) (witness : Witness) (initial : List ℕ) (misshapen : Misshapen) : Type 0 where
  pub log_is : misshapen.log ≡ log
  pub witness_is : misshapen.witness ≡ witness
  pub first : IsFirst shape_rank (Misshapes (run_with log witness initial)) misshapen.fault
  pub no_want : misshapen.fault ≢ OutOfMemory

-- a candidate, its judgement, and its closure
pub record IsJudgedCandidate (log : List ThreadLog) (witness : Witness) (initial : List ℕ) (run : LoggedRun) (finding : Finding) : Type 0 where
  pub run_is : run ≡ run_with log witness initial
  pub shape : IsWellShaped run
  pub judged : Judges (execution run) (judgement_of finding)
  pub closed : HasClosure run finding

abbrev pub IsJudgedLog : List ThreadLog → Witness → List ℕ → JudgedDocument → Type 0
IsJudgedLog log witness initial (Refused fault) = ⊥
IsJudgedLog log witness initial (NotShaped misshapen) = IsMisshapenLog log witness initial misshapen
IsJudgedLog log witness initial (Judged run finding) = IsJudgedCandidate log witness initial run finding

-- the bytes are refused, or spell what is judged
abbrev pub IsJudgedDocument : List ℕ → List ℕ → JudgedDocument → Type 0
IsJudgedDocument bytes initial (Refused fault) = IsNoDocument bytes fault
IsJudgedDocument bytes initial (NotShaped misshapen) =
    IsDocumentOf bytes misshapen.log misshapen.witness × IsMisshapenLog misshapen.log misshapen.witness initial misshapen
IsJudgedDocument bytes initial (Judged run finding) =
    IsDocumentOf bytes run.log run.witness × IsJudgedCandidate run.log run.witness initial run finding
