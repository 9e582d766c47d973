-- The bytes read from the input and from files.
use Rattle.std.specs.Prelude.{◌≡◌, ℕ, ◌+◌, ◌≤◌, List, Option, IfSome, codes, length, take}
use Rattle.wm_logfile.specs.Limits.{max_document_bytes}

-- at most the limit and one more byte; if the bytes are known, their first ones
abbrev pub IsReadOf : Option (List ℕ) → ℕ → List ℕ → Type 0
IsReadOf known limit bytes = (length bytes ≤ limit + 1) × IfSome known (λ all. bytes ≡ take (limit + 1) all)

-- the bytes are from the input for `-`, otherwise from the file of that name
pub record IsDocumentRead (files : List ℕ → Option (List ℕ)) (input : Option (List ℕ)) (name bytes : List ℕ) : Type 0 where
  pub of_input : name ≡ codes "-" → IsReadOf input max_document_bytes bytes
  pub of_file : (name ≡ codes "-" → ⊥) → IsReadOf (files name) max_document_bytes bytes
