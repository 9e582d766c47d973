-- The output of an answer.
use Rattle.std.specs.Prelude.{◌≡◌, ℕ, List, [], ◌∷◌, ◌++◌, string_bytes}
use Rattle.wm_check.specs.declared.checker.Unread.{Unread}
use Rattle.wm_check.specs.declared.checker.Unread.TheVariants as unread
use Rattle.wm_check.specs.declared.verdict.Refusal.{Refusal}
use Rattle.wm_check.specs.declared.verdict.Verdict.TheVariants as verdict
use Rattle.wm_check.specs.Texts.{verdict_text}
use Rattle.wm_litmus.specs.declared.answer.Answer.{Answer}

-- a line ends in one newline
abbrev pub ended : List ℕ → List ℕ
ended line = line ++ 10 ∷ []

pub record Prints (status : ℕ) (line : List ℕ) (answer : Answer) : Type 0 where
  pub status_is : answer.status ≡ status
  pub text_is : string_bytes answer.text ≡ ended line

-- an answer has this status and text
abbrev pub Gives : (ℕ → List ℕ → Type 0) → Answer → Type 0
Gives Answers answer = Answers answer.status (string_bytes answer.text)

-- an answer is the line of the refusal of a module that was not read; an allocation failure has no answer
pub record PrintsUnread (of : Unread) (answer : Answer) : Type 0 where
  pub refusal : Refusal
  pub is_refused : of ≡ unread.Refused refusal
  pub prints : Prints 2 (verdict_text (verdict.Refused refusal)) answer
