-- The status of each answer is below 3.
use Rattle.std.proofs.Common.{ℕ, ◌<◌, List, [], ◌∷◌, Option, None, Some, arith}
use Rattle.wm_ast.specs.declared.module.Module.{Module}
use Rattle.wm_check.specs.declared.verdict.Verdict.{Verdict}
use Rattle.wm_check.specs.declared.verdict.Verdict.TheVariants as verdict
use Rattle.wm_check.specs.Texts.{verdict_status}
use Rattle.wm_command.specs.declared.command.DocumentTask.{DocumentTask}
use Rattle.wm_command.specs.declared.command.DocumentTask.TheVariants as document
use Rattle.wm_command.specs.declared.command.RunTask.{RunTask}
use Rattle.wm_command.specs.declared.command.RunTask.TheVariants as run
use Rattle.wm_command.specs.declared.command.WitnessWords.{WitnessWords}
use Rattle.wm_command.specs.declared.words.Exploration.{Exploration}
use Rattle.wm_explore.specs.declared.bound.Bound.{Bound}
use Rattle.wm_event.specs.declared.rule.Judgement.{Judgement}
use Rattle.wm_event.specs.declared.rule.Judgement.TheVariants as judgement
use Rattle.wm_event.specs.LoggedRun.{LoggedRun}
use Rattle.wm_run.specs.declared.plan.Plan.{Plan}
use Rattle.wm_run.specs.declared.turn.Turn.{Turn}
use Rattle.wm_stream.specs.declared.answer.LineStatus.{LineStatus}
use Rattle.wm_stream.specs.declared.answer.LineStatus.TheVariants as line
use Rattle.wm_stream.specs.Answers.{overall, status_code, worse}
use Rattle.wm_litmus.specs.Drive.{AnswersDrive, IsScriptAnswer}
use Rattle.wm_litmus.specs.Drive.AnswersDrive.{no_module as drive_no_module, refused as drive_refused, driven as drive_driven}
use Rattle.wm_litmus.specs.Drive.IsScriptAnswer.{played as script_played, no_script as script_no_script}
use Rattle.wm_litmus.specs.Explore.{AnswersExplore, IsExplorationAnswer, status_by}
use Rattle.wm_litmus.specs.Explore.AnswersExplore.{no_module as explore_no_module, refused as explore_refused, explored as explore_explored}
use Rattle.wm_litmus.specs.Explore.IsExplorationAnswer.{made as explore_words_made, no_exploration as explore_words_none}
use Rattle.wm_litmus.specs.declared.explore.Listing.{Listing}
use Rattle.wm_litmus.specs.EventExplanation.{AnswersEventGraph}
use Rattle.wm_litmus.specs.EventExplanation.AnswersEventGraph.{pictured as event_graph_pictured, told as event_graph_told}
use Rattle.wm_litmus.specs.Explanation.{AnswersGraph}
use Rattle.wm_litmus.specs.Explanation.AnswersGraph.{pictured as graph_pictured, told as graph_told}
use Rattle.wm_litmus.specs.Lines.{judgement_status}
use Rattle.wm_litmus.specs.Races.{AnswersEventRaces, AnswersRaces, races_status}
use Rattle.wm_litmus.specs.Races.AnswersEventRaces.{listed as event_races_listed, told as event_races_told}
use Rattle.wm_litmus.specs.Races.AnswersRaces.{listed as races_listed, told as races_told}
use Rattle.wm_litmus.specs.Replies.{Given, IsAnswer, IsWitnessAnswer}
use Rattle.wm_litmus.specs.LineWitness.{AnswersLineWitness}
use Rattle.wm_litmus.specs.LineWitness.AnswersLineWitness.{searched as line_searched, without_run as line_without_run, misshapen as line_misshapen, no_document as line_no_document}
use Rattle.wm_litmus.specs.Replies.IsAnswer.{document_task_of, drive_of, explore_of, help_of, no_command, run_of, run_task_of, stream_of, trace_of, version_of, witness_of, witnesses_of}
use Rattle.wm_litmus.specs.Replies.IsWitnessAnswer.{of_run as witness_of_run, of_document as witness_of_document, no_nodes}
use Rattle.wm_litmus.specs.Rounds.{AnswersRounds, IsRoundsAnswer}
use Rattle.wm_litmus.specs.Rounds.AnswersRounds.{no_module as rounds_no_module, refused as rounds_refused, too_large as rounds_too_large, made as rounds_made}
use Rattle.wm_litmus.specs.Rounds.IsRoundsAnswer.{ran as rounds_words_ran, no_rounds as rounds_words_no_rounds}
use Rattle.wm_litmus.specs.Rules.{AnswersRules, AnswersRun}
use Rattle.wm_litmus.specs.Rules.AnswersRules.{read as rules_read, refused as rules_refused}
use Rattle.wm_litmus.specs.Rules.AnswersRun.{judged as run_judged, misshapen as run_misshapen}
use Rattle.wm_litmus.specs.Tasks.{AnswersCheck, AnswersComplete, AnswersDocumentTask, AnswersMigrate, AnswersRunTask}
use Rattle.wm_litmus.specs.Tasks.AnswersCheck.{allowed as check_allowed, refused_for as check_refused_for, broken_by as check_broken_by}
use Rattle.wm_litmus.specs.Tasks.AnswersComplete.{completed as complete_completed, refused_for as complete_refused_for, without_run as complete_without_run}
use Rattle.wm_litmus.specs.Tasks.AnswersMigrate.{migrated as migrate_migrated, misplaced as migrate_misplaced, refused as migrate_refused}
use Rattle.wm_litmus.specs.Trace.{AnswersTrace}
use Rattle.wm_litmus.specs.Witness.{AnswersCompared, AnswersEventWitness, AnswersSearch, AnswersWitness}
use Rattle.wm_litmus.specs.Witness.AnswersCompared.{searched as compared_searched, broken as compared_broken}
use Rattle.wm_litmus.specs.Witness.AnswersEventWitness.{searched as event_searched, misshapen as event_misshapen, no_document as event_no_document}
use Rattle.wm_litmus.specs.Witness.AnswersSearch.{found as search_found, none as search_none, gave_up as search_gave_up}
use Rattle.wm_litmus.specs.Witness.AnswersWitness.{compared as module_compared, misshapen as module_misshapen, no_module as module_none, no_document as module_no_document}
use Rattle.wm_litmus.specs.Trace.AnswersTrace.{no_module as trace_no_module, refused as trace_refused, traced as trace_traced}

-- ---- the statuses of what is answered

of_verdict : (v : Verdict) → verdict_status v < 3
of_verdict (verdict.Allowed certificate) = omega arith
of_verdict (verdict.Refused refusal) = omega arith
of_verdict (verdict.Broken breach) = omega arith

of_judgement : (j : Judgement) → judgement_status j < 3
of_judgement judgement.Valid = omega arith
of_judgement (judgement.Broken fault) = omega arith

of_line : (s : LineStatus) → status_code s < 3
of_line line.Allowed = omega arith
of_line line.Broken = omega arith
of_line line.Refused = omega arith

of_races : {X : Type 0} (races : List X) → races_status races < 3
of_races [] = omega arith
of_races (race ∷ races) = omega arith

-- ---- the statuses of the tasks

of_run : (status : ℕ) (text : List ℕ) (r : LoggedRun) → AnswersRun r status text → status < 3
of_run status text r (run_judged j shaped judges is line) = omega (arith, is, of_judgement j)
of_run status text r (run_misshapen fault first is line) = omega (arith, is)

of_rules : (status : ℕ) (text bytes : List ℕ) → AnswersRules bytes status text → status < 3
of_rules status text bytes (rules_read log witness document answers) = of_run status text _ answers
of_rules status text bytes (rules_refused fault document is line) = omega (arith, is)

of_check : (status : ℕ) (text m d : List ℕ) → AnswersCheck m d status text → status < 3
of_check status text m d (check_allowed certificate allowed is line) = omega (arith, is)
of_check status text m d (check_refused_for refusal refused is line) = omega (arith, is)
of_check status text m d (check_broken_by breach broken is line) = omega (arith, is)

of_complete : (status : ℕ) (text m d : List ℕ) → AnswersComplete m d status text → status < 3
of_complete status text m d (complete_completed line completed is text_is) = omega (arith, is)
of_complete status text m d (complete_refused_for refusal refused is text_is) = omega (arith, is)
of_complete status text m d (complete_without_run answer without is text_is) = omega (arith, is)

of_module_races : (status : ℕ) (text m d : List ℕ) → AnswersRaces m d status text → status < 3
of_module_races status text m d (races_listed code r candidate says valid report) = omega (arith, report.lists.status_is, of_races report.races)
of_module_races status text m d (races_told v says other is text_is) = omega (arith, is, of_verdict v)

of_graph : (status : ℕ) (text m d : List ℕ) → AnswersGraph m d status text → status < 3
of_graph status text m d (graph_pictured v says judged is) = omega (arith, is, of_verdict v)
of_graph status text m d (graph_told refusal refused is text_is) = omega (arith, is)

of_run_task : (status : ℕ) (text : List ℕ) (task : RunTask) (m d : List ℕ) → AnswersRunTask task m d status text → status < 3
of_run_task status text run.Check m d answers = of_check status text m d answers
of_run_task status text run.Complete m d answers = of_complete status text m d answers
of_run_task status text run.Verify m d answers = omega (arith, answers.status_is, of_verdict answers.verdict)
of_run_task status text run.Races m d answers = of_module_races status text m d answers
of_run_task status text run.Explain m d answers = omega (arith, answers.status_is, of_verdict answers.verdict)
of_run_task status text run.Graph m d answers = of_graph status text m d answers

of_migrate : (status : ℕ) (text bytes : List ℕ) → AnswersMigrate bytes status text → status < 3
of_migrate status text bytes (migrate_migrated line migrated is text_is) = omega (arith, is)
of_migrate status text bytes (migrate_misplaced misplaced is text_is) = omega (arith, is)
of_migrate status text bytes (migrate_refused fault refused is text_is) = omega (arith, is)

of_event_races : (status : ℕ) (text bytes : List ℕ) → AnswersEventRaces bytes status text → status < 3
of_event_races status text bytes (event_races_listed log witness document shape valid report) = omega (arith, report.lists.status_is, of_races report.races)
of_event_races status text bytes (event_races_told other answers) = of_rules status text bytes answers

of_event_graph : (status : ℕ) (text bytes : List ℕ) → AnswersEventGraph bytes status text → status < 3
of_event_graph status text bytes (event_graph_pictured log witness j document shape judges is) = omega (arith, is, of_judgement j)
of_event_graph status text bytes (event_graph_told is answers) = omega (arith, is)

of_document_task : (status : ℕ) (text : List ℕ) (task : DocumentTask) (bytes : List ℕ) → AnswersDocumentTask task bytes status text → status < 3
of_document_task status text document.Rules bytes answers = of_rules status text bytes answers
of_document_task status text document.Migrate bytes answers = of_migrate status text bytes answers
of_document_task status text document.Races bytes answers = of_event_races status text bytes answers
of_document_task status text document.Explain bytes answers = of_rules status answers.line bytes answers.rules
of_document_task status text document.Graph bytes answers = of_event_graph status text bytes answers

-- ---- the statuses of searches

of_search : (status : ℕ) (text : List ℕ) (r : LoggedRun) (nodes : ℕ) → AnswersSearch r nodes status text → status < 3
of_search status text r nodes (search_found witness shape valid is line) = omega (arith, is)
of_search status text r nodes (search_none never is line) = omega (arith, is)
of_search status text r nodes (search_gave_up left is line) = omega (arith, is)

of_compared : (status : ℕ) (text : List ℕ) (m : Module) (r : LoggedRun) (nodes : ℕ) → AnswersCompared m r nodes status text → status < 3
of_compared status text m r nodes (compared_searched runs answers) = of_search status text r nodes answers
of_compared status text m r nodes (compared_broken answer other replays is line) = omega (arith, is)

of_witness : (status : ℕ) (text : List ℕ) (nodes : ℕ) (m d : List ℕ) → AnswersWitness nodes m d status text → status < 3
of_witness status text nodes m d (module_compared code log own r modules document initial start answers) = of_compared status text code r nodes answers
of_witness status text nodes m d (module_misshapen code log own r fault modules document initial start first is line) = omega (arith, is)
of_witness status text nodes m d (module_none refusal refused is line) = omega (arith, is)
of_witness status text nodes m d (module_no_document code fault modules none is line) = omega (arith, is)

of_event_witness : (status : ℕ) (text : List ℕ) (nodes : ℕ) (bytes : List ℕ) → AnswersEventWitness nodes bytes status text → status < 3
of_event_witness status text nodes bytes (event_searched log own r document start answers) = of_search status text r nodes answers
of_event_witness status text nodes bytes (event_misshapen log own r fault document start first is line) = omega (arith, is)
of_event_witness status text nodes bytes (event_no_document fault none is line) = omega (arith, is)

of_witness_words : (words : WitnessWords) (files : List ℕ → Option (List ℕ)) (input : Option (List ℕ)) (status : ℕ) (text : List ℕ) → IsWitnessAnswer words files input status text → status < 3
of_witness_words words files input status text (witness_of_run file document nodes m d spelled read read_too answers) = of_witness status text nodes m d answers
of_witness_words words files input status text (witness_of_document document nodes bytes spelled read answers) = of_event_witness status text nodes bytes answers
of_witness_words words files input status text (no_nodes none is line) = omega (arith, is)

pub of_line_witness : (status : ℕ) (text : List ℕ) (m : Module) (line : List ℕ) → AnswersLineWitness m line status text → status < 3
of_line_witness status text m line (line_searched log completed own r document completion initial start answers) = of_search status text r _ answers
of_line_witness status text m line (line_without_run log own answer document none is text_is) = omega (arith, is)
of_line_witness status text m line (line_misshapen log completed own r fault document completion initial start first is text_is) = omega (arith, is)
of_line_witness status text m line (line_no_document fault none is text_is) = omega (arith, is)

-- ---- the statuses of scripts and rounds

of_drive : (status : ℕ) (text bytes : List ℕ) (plan : Plan) (turns : List Turn) → AnswersDrive bytes plan turns status text → status < 3
of_drive status text bytes plan turns (drive_no_module refusal refused is line) = omega (arith, is)
of_drive status text bytes plan turns (drive_refused code fault of other at is line) = omega (arith, is)
of_drive status text bytes plan turns (drive_driven code r v of scripted says own is line) = omega (arith, is, of_verdict v)

of_trace : (status : ℕ) (text bytes : List ℕ) (plan : Plan) (turns : List Turn) → AnswersTrace bytes plan turns status text → status < 3
of_trace status text bytes plan turns (trace_no_module refusal refused is line) = omega (arith, is)
of_trace status text bytes plan turns (trace_refused code fault of other at is line) = omega (arith, is)
of_trace status text bytes plan turns (trace_traced code r entries of scripted traced shows) = omega (arith, shows.status_is)

of_script : (Answers : List ℕ → Plan → List Turn → ℕ → List ℕ → Type 0) (known : Option (List ℕ)) (turns : List ℕ) (starts : List (List ℕ)) (status : ℕ) (text : List ℕ)
    → ((bytes : List ℕ) (plan : Plan) (turns : List Turn) → Answers bytes plan turns status text → status < 3)
    → IsScriptAnswer Answers known turns starts status text → status < 3
of_script Answers known turns starts status text below (script_played words bytes spelled read answers) = below bytes words.plan words.turns answers
of_script Answers known turns starts status text below (script_no_script fault other none is line) = omega (arith, is)

of_rounds : (status : ℕ) (text bytes : List ℕ) (plan : Plan) (count : ℕ) → AnswersRounds bytes plan count status text → status < 3
of_rounds status text bytes plan count (rounds_no_module refusal refused is line) = omega (arith, is)
of_rounds status text bytes plan count (rounds_refused code fault of other at is line) = omega (arith, is)
of_rounds status text bytes plan count (rounds_too_large code rs r of few all over is line) = omega (arith, is)
of_rounds status text bytes plan count (rounds_made code runs table of long all sorted is line) = omega (arith, is)

of_rounds_words : (known : Option (List ℕ)) (count : List ℕ) (starts : List (List ℕ)) (status : ℕ) (text : List ℕ) → IsRoundsAnswer known count starts status text → status < 3
of_rounds_words known count starts status text (rounds_words_ran made bytes spelled read answers) = of_rounds status text bytes made.plan made.count answers
of_rounds_words known count starts status text (rounds_words_no_rounds fault other none is line) = omega (arith, is)

of_explore : (status : ℕ) (text bytes : List ℕ) (listing : Listing) (words : Exploration) → AnswersExplore listing bytes words status text → status < 3
of_explore status text bytes listing words (explore_no_module refusal refused is line) = omega (arith, is)
of_explore status text bytes listing words (explore_refused code fault of other at is line) = omega (arith, is)
of_explore status text bytes listing words (explore_explored code e coverage rows of explores covers finds are is line) = omega (arith, is, of_met e.met)
  where
    of_met : (met : Option Bound) → status_by met < 2
    of_met None = omega arith
    of_met (Some bound) = omega arith

of_explore_words : (listing : Listing) (known : Option (List ℕ)) (events : List ℕ) (starts : List (List ℕ)) (status : ℕ) (text : List ℕ) → IsExplorationAnswer listing known events starts status text → status < 3
of_explore_words listing known events starts status text (explore_words_made words bytes spelled read answers) = of_explore status text bytes listing words answers
of_explore_words listing known events starts status text (explore_words_none fault other none is line) = omega (arith, is)

-- ---- the statuses of the program

pub below_three : (given : Given) (status : ℕ) (text : List ℕ) → IsAnswer given status text → status < 3
below_three given status text (no_command none is line) = omega (arith, is)
below_three given status text (run_task_of task file document command answer) = of_run_task status text task answer.module_bytes answer.document_bytes answer.answers
below_three given status text (document_task_of task document command answer) = of_document_task status text task answer.bytes answer.answers
below_three given status text (witness_of words command answers) = of_witness_words words _ _ status text answers
below_three given status text (stream_of asked file bytes command read answers) = omega (arith, answers.status_is, of_line (worse answers.own (overall answers.answers)))
below_three given status text (drive_of file turns command answers) = of_script AnswersDrive _ _ _ status text (λ bytes plan turns. of_drive status text bytes plan turns) answers
below_three given status text (trace_of file turns command answers) = of_script AnswersTrace _ _ _ status text (λ bytes plan turns. of_trace status text bytes plan turns) answers
below_three given status text (run_of file rounds command answers) = of_rounds_words _ _ _ status text answers
below_three given status text (explore_of file events command answers) = of_explore_words _ _ _ _ status text answers
below_three given status text (witnesses_of file events command answers) = of_explore_words _ _ _ _ status text answers
below_three given status text (help_of command is line) = omega (arith, is)
below_three given status text (version_of command is line) = omega (arith, is)
