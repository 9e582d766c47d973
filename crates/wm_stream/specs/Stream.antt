-- The answers to the lines of a reader.
use Rattle.std.specs.Prelude.{◌≡◌, ◌≤◌, ℕ, List, ◌++◌, Option, IfSome, length, take}
use Rattle.std.specs.Io.KnownBytes.{Consumes, IsAtEnd}
use Rattle.wm_stream.specs.declared.answer.LineStatus.{LineStatus}
use Rattle.wm_stream.specs.Answers.{Prints, PrintsFront}
use Rattle.wm_stream.specs.Lines.{SplitsOn, cut_lines}

-- the first `count` bytes of the buffer are the next bytes of the reader, which has none left if this is 0
pub record Reads (old new : Option (List ℕ)) (buffer : List ℕ) (count : ℕ) : Type 0 where
  pub within : count ≤ length buffer
  pub consumes : Consumes old new (take count buffer)
  pub at_end : count ≡ 0 → IsAtEnd new

-- the writer gains the answers to the lines that a part ends, if it follows `begun`; after them, `next` begins a line
pub record AnswersPart (says : List ℕ → LineStatus → List ℕ → Type 0) (limit : ℕ) (begun part next : List ℕ) (old new : Option (List ℕ)) (status : LineStatus) : Type 0 where
  pub lines : List (List ℕ)
  pub are_lines : SplitsOn limit begun part lines next
  pub prints : Prints says lines status old new

-- the writer gains a prefix of the answers to the lines that a part ends, if it follows `begun`
pub record AnswersPartFirst (says : List ℕ → LineStatus → List ℕ → Type 0) (limit : ℕ) (begun part : List ℕ) (old new : Option (List ℕ)) : Type 0 where
  pub lines : List (List ℕ)
  pub next : List ℕ
  pub are_lines : SplitsOn limit begun part lines next
  pub prints : PrintsFront says lines old new

-- the writer gains the answers to all lines that the reader had, each cut to the limit
pub record AnswersAll (says : List ℕ → LineStatus → List ℕ → Type 0) (limit : ℕ) (known old new : Option (List ℕ)) (status : LineStatus) : Type 0 where
  pub lines : List (List ℕ)
  pub are_lines : IfSome known (λ all. lines ≡ cut_lines limit all)
  pub prints : Prints says lines status old new

-- the writer gains a prefix of the answers to the first lines that the reader had
pub record AnswersFirst (says : List ℕ → LineStatus → List ℕ → Type 0) (limit : ℕ) (known : Option (List ℕ)) (old new : Option (List ℕ)) : Type 0 where
  pub lines : List (List ℕ)
  pub are_lines : IfSome known (λ all. (others : List (List ℕ)) × (cut_lines limit all ≡ lines ++ others))
  pub prints : PrintsFront says lines old new
