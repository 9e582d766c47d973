-- The limits of a document.
use Rattle.std.specs.Prelude.{ℕ}

-- the most bytes of a document
abbrev pub max_document_bytes : ℕ
max_document_bytes = 8388608
