-- How refusals and verdicts print, and the status that tells of which kind a verdict is.
use Rattle.std.specs.Prelude.{ℕ, List, ◌++◌, codes}
use Rattle.std.specs.Fmt.{decimal}
use Rattle.wm_decode.specs.Texts as decode
use Rattle.wm_event.specs.Texts.{rule_fault_text, shape_fault_text}
use Rattle.wm_logfile.specs.Texts.{doc_fault_text}
use Rattle.wm_replay.specs.Texts.{replay_answer_text}
use Rattle.wm_valid.specs.Texts as valid
use Rattle.wm_check.specs.declared.verdict.Refusal.{Refusal}
use Rattle.wm_check.specs.declared.verdict.Refusal.TheVariants as refusal
use Rattle.wm_check.specs.declared.verdict.Breach.{Breach}
use Rattle.wm_check.specs.declared.verdict.Breach.TheVariants.{Replay, Rule}
use Rattle.wm_check.specs.declared.verdict.Verdict.{Verdict}
use Rattle.wm_check.specs.declared.verdict.Verdict.TheVariants.{Allowed, Refused, Broken}

abbrev pub refusal_text : Refusal → List ℕ
refusal_text (refusal.Decode fault) = codes "decode " ++ decode.fault_text fault
refusal_text (refusal.Valid fault) = codes "valid " ++ valid.fault_text fault
refusal_text (refusal.Document fault) = codes "document " ++ doc_fault_text fault
refusal_text (refusal.Shape fault) = codes "shape " ++ shape_fault_text fault

abbrev pub breach_text : Breach → List ℕ
breach_text (Replay answer) = codes "replay " ++ replay_answer_text answer
breach_text (Rule fault) = rule_fault_text fault

abbrev pub verdict_text : Verdict → List ℕ
verdict_text (Allowed certificate) = codes "allowed threads=" ++ decimal certificate.threads ++ codes " events=" ++ decimal certificate.events
verdict_text (Refused refusal) = codes "refused " ++ refusal_text refusal
verdict_text (Broken breach) = codes "broken " ++ breach_text breach

abbrev pub verdict_status : Verdict → ℕ
verdict_status (Allowed certificate) = 0
verdict_status (Broken breach) = 1
verdict_status (Refused refusal) = 2
