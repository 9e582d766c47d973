-- Answers to lines, and what a writer gains of them.
use Rattle.std.specs.Prelude.{◌≡◌, ℕ, List, [], ◌∷◌, ◌++◌, Option, flat_map, map, string_bytes, take}
use Rattle.std.specs.Borrow.{Bor}
use Rattle.std.specs.Io.KnownBytes.{Appends}
use Rattle.std.specs.List.{AllZip}
use Rattle.wm_stream.specs.declared.answer.LineAnswer.{LineAnswer}
use Rattle.wm_stream.specs.declared.answer.LineStatus.{LineStatus}
use Rattle.wm_stream.specs.declared.answer.LineStatus.TheVariants.{Allowed, Broken, Refused}
use Rattle.wm_stream.specs.Output.{AppendsFront}

abbrev pub status_code : LineStatus → ℕ
status_code Allowed = 0
status_code Broken = 1
status_code Refused = 2

-- the bytes of each line
abbrev pub texts_of : List (Bor (List ℕ)) → List (List ℕ)
texts_of lines = map (λ line. line.now) lines

-- broken if one of them is, else refused if one of them is
abbrev pub worse : LineStatus → LineStatus → LineStatus
worse Broken other = Broken
worse Allowed other = other
worse Refused Allowed = Refused
worse Refused Refused = Refused
worse Refused Broken = Broken

-- the status and the text of an answer
pub record Answered : Type 0 where
  pub status : LineStatus
  pub text : List ℕ

abbrev pub answered : LineAnswer → Answered
answered answer = record { status = answer.status; text = string_bytes answer.text }

abbrev pub overall : List Answered → LineStatus
overall [] = Allowed
overall (answer ∷ answers) = worse answer.status (overall answers)

abbrev pub text_of : List Answered → List ℕ
text_of [] = []
text_of (answer ∷ answers) = answer.text ++ text_of answers

-- an answer has the texts of all of these, in their order, and their combined status
pub record Joins (answers : List Answered) (all : LineAnswer) : Type 0 where
  pub text_is : string_bytes all.text ≡ text_of answers
  pub status_is : all.status ≡ overall answers

-- each line has the answer at its place
abbrev pub AreAnswers : (List ℕ → LineStatus → List ℕ → Type 0) → List (List ℕ) → List Answered → Type 0
AreAnswers says lines answers = AllZip (λ line answer. says line answer.status answer.text) lines answers

-- the answers to these lines, in their order, combined
pub record AnswersTogether (says : List ℕ → LineStatus → List ℕ → Type 0) (lines : List (List ℕ)) (all : LineAnswer) : Type 0 where
  pub answers : List Answered
  pub are_answers : AreAnswers says lines answers
  pub joins : Joins answers all

-- the lines are divided into chunks, and each answer is the answer to the chunk at its place
pub record AnswersByChunks (says : List ℕ → LineStatus → List ℕ → Type 0) (lines : List (List ℕ)) (answers : List LineAnswer) : Type 0 where
  pub chunks : List (List (List ℕ))
  pub are_all : flat_map (λ chunk. chunk) chunks ≡ lines
  pub are_answers : AllZip (AnswersTogether says) chunks answers

-- the writer gains the answers to these lines, in their order, and nothing else
pub record Prints (says : List ℕ → LineStatus → List ℕ → Type 0) (lines : List (List ℕ)) (status : LineStatus) (old new : Option (List ℕ)) : Type 0 where
  pub answers : List Answered
  pub are_answers : AreAnswers says lines answers
  pub status_is : status ≡ overall answers
  pub gains : Appends old new (text_of answers)

-- the writer gains a prefix of the answers to the first of these lines
pub record PrintsFront (says : List ℕ → LineStatus → List ℕ → Type 0) (lines : List (List ℕ)) (old new : Option (List ℕ)) : Type 0 where
  pub count : ℕ
  pub answers : List Answered
  pub are_answers : AreAnswers says (take count lines) answers
  pub gains : AppendsFront old new (text_of answers)
