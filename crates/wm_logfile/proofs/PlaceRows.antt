-- Places of a few documents.
use Rattle.std.proofs.Common.{◌≡◌, [], ◌∷◌, Some, None, refl}
use Rattle.std.specs.Prelude.{codes}
use Rattle.serde_json.specs.Data.{Data, string}
use Rattle.wm_logfile.specs.declared.document.Version.TheVariants.{First, Second}
use Rattle.wm_logfile.specs.declared.fault.ReadFault.TheVariants.{Range}
use Rattle.wm_logfile.specs.Document.{count, document_cells, list}
use Rattle.wm_logfile.specs.Forms.{first_fault, word_of}
use Rattle.wm_logfile.specs.Grammar.{event, event_by, thread, thread_by, writers, writer, small, ending}
use Rattle.wm_logfile.specs.Places.{document_form, form_at, named_version, value_at}

-- a read, whose writer is of thread 2^32
far_read : Data
far_read = list (string (codes "r") ∷ string (codes "un") ∷ count 0 ∷ count 1 ∷ count 1 ∷ list (list (count 4294967296 ∷ count 0 ∷ []) ∷ []) ∷ [])

-- a document with a thread that has this read
far_document : Data
far_document = list (document_cells 2 (list (string (codes "a") ∷ list [] ∷ list (string (codes "cut") ∷ []) ∷ count 1 ∷ list (far_read ∷ []) ∷ []) ∷ []) (list []))

-- a document that names no version
no_version : Data
no_version = list (string (codes "wasm-litmus-log") ∷ list [] ∷ [])

-- ---- versions

second : named_version far_document ≡ Second
unfolding far_document far_read
second = refl

first : named_version (list (document_cells 1 [] (list []))) ≡ First
first = refl

none_named : named_version no_version ≡ Second
unfolding no_version
none_named = refl

-- ---- values and their forms

far_thread : value_at (2 ∷ 0 ∷ 4 ∷ 0 ∷ 5 ∷ 0 ∷ 0 ∷ []) far_document ≡ Some (count 4294967296)
unfolding far_document far_read
far_thread = refl

far_thread_form : form_at (2 ∷ 0 ∷ 4 ∷ 0 ∷ 5 ∷ 0 ∷ 0 ∷ []) (document_form Second) far_document ≡ Some small
unfolding far_document far_read thread_by event_by writers writer
far_thread_form = refl

far_thread_fault : first_fault small [] (count 4294967296) ≡ Some (Range [])
far_thread_fault = refl

event_word : form_at (2 ∷ 0 ∷ 4 ∷ 0 ∷ 0 ∷ []) (document_form Second) far_document ≡ Some (word_of (codes "r" ∷ codes "w" ∷ codes "x" ∷ []))
unfolding far_document far_read thread_by event_by
event_word = refl

-- an item that the list doesn't have
no_item : value_at (2 ∷ 1 ∷ []) far_document ≡ None
unfolding far_document far_read
no_item = refl

-- the end of a thread is a word alone
no_result : form_at (2 ∷ 0 ∷ 2 ∷ 1 ∷ []) (document_form Second) far_document ≡ None
unfolding far_document far_read thread_by ending
no_result = refl

-- version 1 has no writers in an event
no_writers : form_at (2 ∷ 0 ∷ 4 ∷ 0 ∷ 5 ∷ []) (document_form First) far_document ≡ None
unfolding far_document far_read thread event
no_writers = refl
