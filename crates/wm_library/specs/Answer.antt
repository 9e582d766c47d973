-- The answer to a call from C.
use Rattle.std.specs.Prelude.{◌≡◌, ℕ, List, ◌++◌, drop, length, string_bytes, take}
use Rattle.wm_check.specs.declared.verdict.Verdict.{Verdict}
use Rattle.wm_check.specs.Verified.{Verifies}
use Rattle.wm_check.specs.Texts.{verdict_status, verdict_text}
use Rattle.wm_library.specs.declared.answer.Answer.{Answer}

-- the line and the status are given by the verdict on the completed log
pub record IsAnswerOf (module_bytes document_bytes : List ℕ) (answer : Answer) : Type 0 where
  pub verdict : Verdict
  pub verifies : Verifies module_bytes document_bytes verdict
  pub status_is : answer.status ≡ verdict_status verdict
  pub line_is : string_bytes answer.line ≡ verdict_text verdict

-- the line of the verdict is written over the room, as far as it fits, with its length and its status
pub record WritesAnswer (module_bytes document_bytes old new : List ℕ) (size status : ℕ) : Type 0 where
  pub verdict : Verdict
  pub verifies : Verifies module_bytes document_bytes verdict
  pub status_is : status ≡ verdict_status verdict
  pub size_is : size ≡ length (verdict_text verdict)
  pub text_is : new ≡ take (length old) (verdict_text verdict) ++ drop size old
