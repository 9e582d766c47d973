-- The answers to the lines of a stream, over the module that was read.
use Rattle.std.proofs.Common.{◌≡◌, ℕ, ◌+◌, List, [], ◌∷◌, Option, ap, refl, string_bytes, subst, sym, ◌∙◌}
use Rattle.std.specs.Borrow.{Bor}
use Rattle.wm_decode.specs.Bounds.{max_module_bytes}
use Rattle.wm_logfile.specs.Limits.{max_document_bytes}
use Rattle.wm_stream.specs.declared.answer.LineStatus.{LineStatus}
use Rattle.wm_stream.specs.Answers.{Answered, AreAnswers, status_code, text_of, worse}
use Rattle.wm_stream.specs.Stream.{AnswersAll, AnswersFirst}
use Rattle.clap.specs.Words.{Text}
use Rattle.wm_command.specs.declared.command.Command.TheVariants.{Stream}
use Rattle.wm_command.specs.declared.command.LineTask.{LineTask}
use Rattle.wm_litmus.specs.declared.stream.Judge.{Judge}
use Rattle.wm_command.specs.Commands.{IsCommand}
use Rattle.wm_litmus.specs.Input.{IsReadOf}
use Rattle.wm_litmus.specs.Replies.{Given, WritesAnswer, WritesFront}
use Rattle.wm_litmus.specs.Replies.IsAnswer.{stream_of}
use Rattle.wm_litmus.specs.Replies.WritesFront.{nothing as written_nothing, first_lines}
use Rattle.wm_litmus.specs.Serving.{StreamsAll, StreamsFront}
use Rattle.wm_litmus.specs.Serving.StreamsFront.{nothing as streamed_nothing, front as streamed_front}
use Rattle.wm_litmus.specs.declared.stream.Judge.TheVariants.{Module, Search, Refused}
use Rattle.wm_check.specs.declared.verdict.Refusal.{Refusal}
use Rattle.wm_check.specs.declared.verdict.Refusal.TheVariants as refusal
use Rattle.wm_check.specs.declared.verdict.Verdict.{Verdict}
use Rattle.wm_check.specs.Reading.{IsModuleRefusal}
use Rattle.wm_check.specs.Texts.{verdict_status, verdict_text}
use Rattle.wm_check.specs.Verdicts.{IsRefusedFor}
use Rattle.wm_check.specs.Verified.{Verifies}
use Rattle.wm_command.specs.declared.command.LineTask.TheVariants as task
use Rattle.wm_stream.specs.declared.answer.LineAnswer.{LineAnswer}
use Rattle.wm_litmus.specs.Prints.{ended}
use Rattle.wm_litmus.specs.Stream.{AnswersLine, HasStatus, IsJudgeOf, IsLineOf, JudgesLine, status_of}
use Rattle.wm_litmus.specs.Stream.AnswersWitnessLine.{no_module}
use Rattle.wm_litmus.specs.Stream.HasStatus.{read as status_read, refused as status_refused}

-- what a judge of the module answers to lines are their answers
pub answers_lines : (asked : LineTask) (module_bytes : List ℕ) (judge : Judge) → IsJudgeOf asked module_bytes judge → (lines : List (List ℕ)) (answers : List Answered)
    → AreAnswers (JudgesLine judge) lines answers → AreAnswers (AnswersLine asked module_bytes) lines answers
answers_lines asked module_bytes judge is [] [] h = tt
answers_lines asked module_bytes judge is [] (answer ∷ answers) h = absurd h
answers_lines asked module_bytes judge is (line ∷ lines) [] h = absurd h
answers_lines asked module_bytes judge is (line ∷ lines) (answer ∷ answers) h = (h.0 asked module_bytes is, answers_lines asked module_bytes judge is lines answers h.1)

-- the refusal of a module answers each line
refused_for : (module_bytes line : List ℕ) (refusal : Refusal) → IsModuleRefusal module_bytes refusal → IsRefusedFor module_bytes line refusal
refused_for module_bytes line (refusal.Decode fault) is = is
refused_for module_bytes line (refusal.Valid fault) is = is
refused_for module_bytes line (refusal.Document fault) is = absurd is
refused_for module_bytes line (refusal.Shape fault) is = absurd is

pub refused_line : (asked : LineTask) (module_bytes line : List ℕ) (verdict : Verdict) (answer : LineAnswer) → IsJudgeOf asked module_bytes (Refused verdict) → IsLineOf verdict answer
    → AnswersLine asked module_bytes line answer.status (string_bytes answer.text)
refused_line task.Verify module_bytes line verdict answer is said = record {
  verdict = verdict;
  verifies = subst (Verifies module_bytes line) (sym is.1) (refused_for module_bytes line is.0 is.2);
  status_is = said.status_is;
  text_is = said.text_is;
}
refused_line task.Witness module_bytes line verdict answer is said =
    no_module is.0 is.2 (said.status_is ∙ ap verdict_status is.1) (said.text_is ∙ ap (λ v. ended (verdict_text v)) is.1)

-- the status of a judge's module is that of the bytes
pub has_status : (asked : LineTask) (module_bytes : List ℕ) (judge : Judge) → IsJudgeOf asked module_bytes judge → HasStatus module_bytes (status_of judge)
has_status asked module_bytes (Module «module») is = status_read «module» is.1
has_status asked module_bytes (Search «module») is = status_read «module» is.1
has_status asked module_bytes (Refused verdict) is = status_refused is.0 is.2

module _ (asked : LineTask) (file input old new : Option (List ℕ)) (module_bytes : List ℕ) (judge : Judge) where
  pub streams_all : (status : LineStatus) (code : ℕ) → IsReadOf file max_module_bytes module_bytes → IsJudgeOf asked module_bytes judge
      → AnswersAll (JudgesLine judge) (max_document_bytes + 1) input old new status → code ≡ status_code (worse (status_of judge) status) → StreamsAll asked file input old new code
  streams_all status code read is all code_is = record {
    module_bytes = module_bytes;
    read = read;
    text = text_of all.prints.answers;
    answers = record {
      lines = all.lines;
      are_lines = all.are_lines;
      answers = all.prints.answers;
      are_answers = answers_lines asked module_bytes judge is all.lines all.prints.answers all.prints.are_answers;
      own = status_of judge;
      is_own = has_status asked module_bytes judge is;
      status_is = code_is ∙ ap (λ (s : LineStatus). status_code (worse (status_of judge) s)) all.prints.status_is;
      text_is = refl;
    };
    gains = all.prints.gains;
  }

  pub streams_front : IsReadOf file max_module_bytes module_bytes → IsJudgeOf asked module_bytes judge
      → AnswersFirst (JudgesLine judge) (max_document_bytes + 1) input old new → StreamsFront asked file input old new
  streams_front read is first = streamed_front module_bytes (text_of first.prints.answers) read (record {
    lines = first.lines;
    are_lines = first.are_lines;
    count = first.prints.count;
    answers = first.prints.answers;
    are_answers = answers_lines asked module_bytes judge is _ first.prints.answers first.prints.are_answers;
    text_is = refl;
  }) first.prints.gains

-- ---- what the program writes of a stream

module _ (given : Given) (asked : LineTask) (name : Bor Text) (old new : Option (List ℕ)) (command : IsCommand given.words (Stream asked name)) where
  pub writes_all : (status : ℕ) → StreamsAll asked (given.files name.now) given.input old new status → WritesAnswer given old new status
  writes_all status all = record {
    text = all.text;
    answers = stream_of asked name all.module_bytes command all.read all.answers;
    gains = all.gains;
  }

  pub writes_front : StreamsFront asked (given.files name.now) given.input old new → WritesFront given old new
  writes_front (streamed_nothing same) = written_nothing same
  writes_front (streamed_front module_bytes text read answers gains) = first_lines asked name module_bytes text command read answers gains
