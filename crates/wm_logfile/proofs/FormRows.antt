-- First faults of a few values.
use Rattle.std.proofs.Common.{◌≡◌, List, [], ◌∷◌, Some, None, refl}
use Rattle.std.specs.Prelude.{codes}
use Rattle.serde_json.specs.Data.{Data, string}
use Rattle.wm_logfile.specs.declared.fault.DocFault.TheVariants.{BadShape, BadVersion, NumberRange}
use Rattle.wm_logfile.specs.declared.fault.ReadFault.TheVariants.{Shape, Range}
use Rattle.wm_logfile.specs.Document.{count, document_cells, list}
use Rattle.wm_logfile.specs.FirstFault.{document_fault}
use Rattle.wm_logfile.specs.Forms.{first_fault}
use Rattle.wm_logfile.specs.Grammar.{event, event_by, width, order, update_order, writers, writer, ending, result, trap, thread, thread_by, witness, keys, key}
use Rattle.wm_logfile.specs.Paths.{child}

-- ---- events

bad_width : first_fault event [] (list (string (codes "r") ∷ string (codes "un") ∷ count 0 ∷ count 3 ∷ count 1 ∷ [])) ≡ Some (Range (3 ∷ []))
unfolding child event width order update_order
bad_width = refl

unordered_update : first_fault event [] (list (string (codes "x") ∷ string (codes "un") ∷ count 0 ∷ count 3 ∷ count 1 ∷ count 1 ∷ [])) ≡ Some (Shape (1 ∷ []))
unfolding child event width order update_order
unordered_update = refl

short_update : first_fault event [] (list (string (codes "x") ∷ string (codes "un") ∷ count 0 ∷ count 3 ∷ count 1 ∷ [])) ≡ Some (Shape [])
unfolding child event width order update_order
short_update = refl

lone_word : first_fault event [] (list (string (codes "y") ∷ [])) ≡ Some (Shape [])
unfolding child event width order update_order
lone_word = refl

no_kind : first_fault event [] (list (string (codes "y") ∷ string (codes "un") ∷ count 0 ∷ count 3 ∷ count 1 ∷ [])) ≡ Some (Shape (0 ∷ []))
unfolding child event width order update_order
no_kind = refl

half_a_writer : first_fault event_by [] (list (string (codes "r") ∷ string (codes "un") ∷ count 0 ∷ count 1 ∷ count 1 ∷ list (list [] ∷ list (count 0 ∷ []) ∷ []) ∷ [])) ≡ Some (Shape (5 ∷ 1 ∷ []))
unfolding child event_by width order update_order writers writer
half_a_writer = refl

-- ---- ends

lone_done : first_fault ending (2 ∷ []) (list (string (codes "done") ∷ [])) ≡ Some (Shape (2 ∷ []))
unfolding child ending result trap
lone_done = refl

long_result : first_fault ending (2 ∷ []) (list (string (codes "done") ∷ list (count 1 ∷ count 2 ∷ []) ∷ [])) ≡ Some (Shape (2 ∷ 1 ∷ []))
unfolding child ending result trap
long_result = refl

-- ---- documents

three_items : document_fault (list (string (codes "wasm-litmus-log") ∷ count 2 ∷ list [] ∷ [])) ≡ Some (BadShape [])
unfolding document_fault child
three_items = refl

other_version : document_fault (list (string (codes "wasm-litmus-log") ∷ count 3 ∷ count 0 ∷ list [] ∷ [])) ≡ Some BadVersion
unfolding document_fault child
other_version = refl

-- a thread with one read, whose writer is of thread 2^32
far_writer : List Data
far_writer = list (string (codes "a") ∷ list [] ∷ list (string (codes "cut") ∷ []) ∷ count 1 ∷ list (list (string (codes "r") ∷ string (codes "un") ∷ count 0 ∷ count 1 ∷ count 1 ∷ list (list (count 4294967296 ∷ count 0 ∷ []) ∷ []) ∷ []) ∷ []) ∷ []) ∷ []

-- the threads before the order
deepest : document_fault (list (document_cells 2 far_writer (list (list (count 0 ∷ []) ∷ [])))) ≡ Some (NumberRange (2 ∷ 0 ∷ 4 ∷ 0 ∷ 5 ∷ 0 ∷ 0 ∷ []))
unfolding document_fault child far_writer thread_by event_by ending result trap width order update_order writers writer keys key
deepest = refl

half_a_key : document_fault (list (document_cells 2 [] (list (list (count 0 ∷ []) ∷ [])))) ≡ Some (BadShape (3 ∷ 0 ∷ []))
unfolding document_fault child thread_by keys key
half_a_key = refl

no_fault : document_fault (list (document_cells 1 [] (list (list [] ∷ list (list (count 0 ∷ count 0 ∷ []) ∷ []) ∷ [])))) ≡ None
unfolding document_fault child thread witness keys key
no_fault = refl
