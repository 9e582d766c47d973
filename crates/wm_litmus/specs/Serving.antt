-- The answers of the program's parts.
use Rattle.std.specs.Prelude.{◌≡◌, ℕ, List, Option, string_bytes, ⊤}
use Rattle.wm_decode.specs.Bounds.{max_module_bytes}
use Rattle.wm_command.specs.declared.command.Command.TheVariants.{Stream}
use Rattle.wm_command.specs.declared.command.LineTask.{LineTask}
use Rattle.wm_litmus.specs.declared.program.Reply.{Reply}
use Rattle.wm_litmus.specs.declared.program.Reply.TheVariants as reply
use Rattle.wm_command.specs.Commands.{IsCommand}
use Rattle.wm_litmus.specs.Input.{IsReadOf}
use Rattle.wm_litmus.specs.Replies.{Given, IsAnswer}
use Rattle.wm_litmus.specs.Stream.{AnswersFirstLines, AnswersStream}
use Rattle.std.specs.Io.KnownBytes.{Appends}
use Rattle.wm_stream.specs.Output.{AppendsFront}

-- an answer of the program, or what is asked of lines and the name of their module
abbrev pub IsReply : Given → Reply → Type 0
IsReply given (reply.Answer answer) = IsAnswer given answer.status (string_bytes answer.text)
IsReply given (reply.Lines task name) = IsCommand given.words (Stream task name)

abbrev pub IsOfLines : Reply → Type 0
IsOfLines (reply.Answer answer) = ⊥
IsOfLines (reply.Lines task name) = ⊤

-- the writer gains the answers to all lines of the input, over what was read of the module's file
pub record StreamsAll (task : LineTask) (file input old new : Option (List ℕ)) (status : ℕ) : Type 0 where
  pub module_bytes : List ℕ
  pub read : IsReadOf file max_module_bytes module_bytes
  pub text : List ℕ
  pub answers : AnswersStream task module_bytes input status text
  pub gains : Appends old new text

-- the writer gains nothing, or a prefix of the answers to the first lines of the input
pub data StreamsFront (task : LineTask) (file input old new : Option (List ℕ)) : Type 0 where
  nothing : new ≡ old → StreamsFront task file input old new
  front : (module_bytes text : List ℕ) → IsReadOf file max_module_bytes module_bytes → AnswersFirstLines task module_bytes input text
      → AppendsFront old new text → StreamsFront task file input old new
