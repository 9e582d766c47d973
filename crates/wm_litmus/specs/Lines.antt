-- The lines of the answers that are not verdicts, and the status of a judgement.
use Rattle.std.specs.Prelude.{ℕ, List, [], ◌++◌, codes}
use Rattle.wm_event.specs.Texts.{shape_fault_text}
use Rattle.wm_event.specs.declared.rule.Judgement.{Judgement}
use Rattle.wm_event.specs.declared.rule.Judgement.TheVariants.{Valid, Broken}
use Rattle.wm_event.specs.declared.shape_fault.ShapeFault.{ShapeFault}
use Rattle.wm_run.specs.declared.fault.RunFault.{RunFault}
use Rattle.wm_run.specs.Texts.{run_fault_text}
use Rattle.wm_command.specs.declared.fault.WordFault.{WordFault}
use Rattle.wm_command.specs.declared.fault.WordFault.TheVariants.{Turns, Rounds, Nodes, Events, Start, OutOfMemory}
use Rattle.wm_logfile.specs.Texts.{doc_fault_text}
use Rattle.wm_logfile.specs.declared.fault.DocFault.{DocFault}

abbrev pub judgement_status : Judgement → ℕ
judgement_status Valid = 0
judgement_status (Broken fault) = 1

abbrev pub document_line_text : DocFault → List ℕ
document_line_text fault = codes "refused document " ++ doc_fault_text fault

abbrev pub shape_line_text : ShapeFault → List ℕ
shape_line_text fault = codes "refused shape " ++ shape_fault_text fault

abbrev pub run_fault_line_text : RunFault → List ℕ
run_fault_line_text fault = codes "refused " ++ run_fault_text fault

-- a word that spells nothing; an allocation failure has no line here
abbrev pub word_text : WordFault → List ℕ
word_text Turns = codes "turns"
word_text Rounds = codes "rounds"
word_text Start = codes "start"
word_text Nodes = codes "nodes"
word_text Events = codes "events"
word_text OutOfMemory = []

abbrev pub word_line_text : WordFault → List ℕ
word_line_text fault = codes "refused command " ++ word_text fault

abbrev pub words_line_text : List ℕ
words_line_text = codes "refused command words"
