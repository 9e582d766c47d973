-- The meaning of some words in clap's model.
use Rattle.std.proofs.Common.{◌≡◌, List, [], ◌∷◌, Option, None, Some, option_map, codes, refl}
use Rattle.clap.specs.Words.{Row, Text, fault_of, first_of, subcommand_of}
use Rattle.clap.proofs.OnLiterals.{clap_on_literals}
use Rattle.wm_command.specs.Commands.{IsNoCommand, wmlab_app}

-- the name of the command, and the values of its words
read : List Text → Option (Text × Option Text × Option Text)
read words = option_map (λ (p : Text × List Row). (p.0, first_of (codes "file") p.1, first_of (codes "document") p.1)) (subcommand_of wmlab_app words)

check : List Text
check = codes "check" ∷ codes "a.wasm" ∷ codes "-" ∷ []

check_is_taken : fault_of wmlab_app check ≡ []
unfolding clap_on_literals check
check_is_taken = refl

check_is_read : read check ≡ Some (codes "check", Some (codes "a.wasm"), Some (codes "-"))
unfolding clap_on_literals read check
check_is_read = refl

rules_is_taken : fault_of wmlab_app (codes "rules" ∷ codes "-" ∷ []) ≡ []
unfolding clap_on_literals
rules_is_taken = refl

migrate_is_taken : fault_of wmlab_app (codes "migrate" ∷ codes "-" ∷ []) ≡ []
unfolding clap_on_literals
migrate_is_taken = refl

migrate_is_read : read (codes "migrate" ∷ codes "-" ∷ []) ≡ Some (codes "migrate", Some (codes "-"), None)
unfolding clap_on_literals read
migrate_is_read = refl

complete : List Text
complete = codes "complete" ∷ codes "a.wasm" ∷ codes "-" ∷ []

complete_is_taken : fault_of wmlab_app complete ≡ []
unfolding clap_on_literals complete
complete_is_taken = refl

complete_is_read : read complete ≡ Some (codes "complete", Some (codes "a.wasm"), Some (codes "-"))
unfolding clap_on_literals read complete
complete_is_read = refl

verify_is_taken : fault_of wmlab_app (codes "verify" ∷ codes "a.wasm" ∷ codes "-" ∷ []) ≡ []
unfolding clap_on_literals
verify_is_taken = refl

stream_is_taken : fault_of wmlab_app (codes "stream" ∷ codes "a.wasm" ∷ []) ≡ []
unfolding clap_on_literals
stream_is_taken = refl

stream_is_read : read (codes "stream" ∷ codes "a.wasm" ∷ []) ≡ Some (codes "stream", Some (codes "a.wasm"), None)
unfolding clap_on_literals read
stream_is_read = refl

stream_takes_no_document : IsNoCommand (codes "stream" ∷ codes "a.wasm" ∷ codes "-" ∷ [])
unfolding clap_on_literals
stream_takes_no_document command is = let none = is.taken in cc

decide_is_read : read (codes "decide" ∷ codes "a.wasm" ∷ []) ≡ Some (codes "decide", Some (codes "a.wasm"), None)
unfolding clap_on_literals read
decide_is_read = refl

races_of_a_module_is_taken : fault_of wmlab_app (codes "races" ∷ codes "a.wasm" ∷ codes "-" ∷ []) ≡ []
unfolding clap_on_literals
races_of_a_module_is_taken = refl

races_of_a_module_is_read : read (codes "races" ∷ codes "a.wasm" ∷ codes "-" ∷ []) ≡ Some (codes "races", Some (codes "a.wasm"), Some (codes "-"))
unfolding clap_on_literals read
races_of_a_module_is_read = refl

races_of_a_document_is_taken : fault_of wmlab_app (codes "races" ∷ codes "-" ∷ []) ≡ []
unfolding clap_on_literals
races_of_a_document_is_taken = refl

races_of_a_document_is_read : read (codes "races" ∷ codes "-" ∷ []) ≡ Some (codes "races", Some (codes "-"), None)
unfolding clap_on_literals read
races_of_a_document_is_read = refl

races_takes_no_third_word : IsNoCommand (codes "races" ∷ codes "a.wasm" ∷ codes "-" ∷ codes "-" ∷ [])
unfolding clap_on_literals
races_takes_no_third_word command is = let none = is.taken in cc

drive_is_taken : fault_of wmlab_app (codes "drive" ∷ codes "a.wasm" ∷ codes "0" ∷ codes "f" ∷ codes "g" ∷ []) ≡ []
unfolding clap_on_literals
drive_is_taken = refl

trace_is_taken : fault_of wmlab_app (codes "trace" ∷ codes "a.wasm" ∷ codes "0" ∷ codes "f" ∷ codes "g" ∷ []) ≡ []
unfolding clap_on_literals
trace_is_taken = refl

run_is_taken : fault_of wmlab_app (codes "run" ∷ codes "a.wasm" ∷ codes "1" ∷ codes "f" ∷ codes "g" ∷ []) ≡ []
unfolding clap_on_literals
run_is_taken = refl

explain : List Text
explain = codes "explain" ∷ codes "a.wasm" ∷ codes "-" ∷ []

explain_is_taken : fault_of wmlab_app explain ≡ []
unfolding clap_on_literals explain
explain_is_taken = refl

explain_is_read : read explain ≡ Some (codes "explain", Some (codes "a.wasm"), Some (codes "-"))
unfolding clap_on_literals read explain
explain_is_read = refl

explain_of_a_document_is_taken : fault_of wmlab_app (codes "explain" ∷ codes "-" ∷ []) ≡ []
unfolding clap_on_literals
explain_of_a_document_is_taken = refl

graph_of_a_document_is_taken : fault_of wmlab_app (codes "graph" ∷ codes "-" ∷ []) ≡ []
unfolding clap_on_literals
graph_of_a_document_is_taken = refl

graph_is_taken : fault_of wmlab_app (codes "graph" ∷ codes "a.wasm" ∷ codes "-" ∷ []) ≡ []
unfolding clap_on_literals
graph_is_taken = refl

witness_of_a_document_is_taken : fault_of wmlab_app (codes "witness" ∷ codes "-" ∷ []) ≡ []
unfolding clap_on_literals
witness_of_a_document_is_taken = refl

witness_of_a_module_is_taken : fault_of wmlab_app (codes "witness" ∷ codes "a.wasm" ∷ codes "-" ∷ codes "9" ∷ []) ≡ []
unfolding clap_on_literals
witness_of_a_module_is_taken = refl

witness_of_a_module_is_read : read (codes "witness" ∷ codes "a.wasm" ∷ codes "-" ∷ codes "9" ∷ []) ≡ Some (codes "witness", Some (codes "a.wasm"), Some (codes "-"))
unfolding clap_on_literals read
witness_of_a_module_is_read = refl

witness_takes_no_fourth_word : IsNoCommand (codes "witness" ∷ codes "a.wasm" ∷ codes "-" ∷ codes "9" ∷ codes "9" ∷ [])
unfolding clap_on_literals
witness_takes_no_fourth_word command is = let none = is.taken in cc

no_word_at_all : IsNoCommand []
unfolding clap_on_literals
no_word_at_all command is = let none = is.taken in cc

a_word_is_missing : IsNoCommand (codes "check" ∷ codes "a.wasm" ∷ [])
unfolding clap_on_literals
a_word_is_missing command is = let none = is.taken in cc

a_word_is_too_many : IsNoCommand (codes "rules" ∷ codes "-" ∷ codes "-" ∷ [])
unfolding clap_on_literals
a_word_is_too_many command is = let none = is.taken in cc

one_document_is_migrated : IsNoCommand (codes "migrate" ∷ codes "-" ∷ codes "-" ∷ [])
unfolding clap_on_literals
one_document_is_migrated command is = let none = is.taken in cc

an_option_is_no_name : IsNoCommand (codes "rules" ∷ codes "-x" ∷ [])
unfolding clap_on_literals
an_option_is_no_name command is = let none = is.taken in cc

a_module_is_no_option : IsNoCommand (codes "check" ∷ codes "-m" ∷ codes "-" ∷ [])
unfolding clap_on_literals
a_module_is_no_option command is = let none = is.taken in cc

a_document_is_no_option : IsNoCommand (codes "check" ∷ codes "a.wasm" ∷ codes "--x" ∷ [])
unfolding clap_on_literals
a_document_is_no_option command is = let none = is.taken in cc

turns_are_no_option : IsNoCommand (codes "drive" ∷ codes "a.wasm" ∷ codes "-1" ∷ codes "f" ∷ [])
unfolding clap_on_literals
turns_are_no_option command is = let none = is.taken in cc

a_start_is_no_option : IsNoCommand (codes "trace" ∷ codes "a.wasm" ∷ codes "0" ∷ codes "f" ∷ codes "-g" ∷ [])
unfolding clap_on_literals
a_start_is_no_option command is = let none = is.taken in cc

rounds_are_no_option : IsNoCommand (codes "run" ∷ codes "a.wasm" ∷ codes "-1" ∷ codes "f" ∷ [])
unfolding clap_on_literals
rounds_are_no_option command is = let none = is.taken in cc

there_is_no_help_of_a_command : IsNoCommand (codes "rules" ∷ codes "--help" ∷ [])
unfolding clap_on_literals
there_is_no_help_of_a_command command is = let none = is.taken in cc

there_is_no_other_command : IsNoCommand (codes "judge" ∷ codes "-" ∷ [])
unfolding clap_on_literals
there_is_no_other_command command is = let none = is.taken in cc

help_is_taken : fault_of wmlab_app (codes "help" ∷ []) ≡ []
unfolding clap_on_literals
help_is_taken = refl

help_is_read : read (codes "help" ∷ []) ≡ Some (codes "help", None, None)
unfolding clap_on_literals read
help_is_read = refl

version_is_taken : fault_of wmlab_app (codes "version" ∷ []) ≡ []
unfolding clap_on_literals
version_is_taken = refl

version_is_read : read (codes "version" ∷ []) ≡ Some (codes "version", None, None)
unfolding clap_on_literals read
version_is_read = refl

help_takes_no_word : IsNoCommand (codes "help" ∷ codes "rules" ∷ [])
unfolding clap_on_literals
help_takes_no_word command is = let none = is.taken in cc

version_takes_no_word : IsNoCommand (codes "version" ∷ codes "-" ∷ [])
unfolding clap_on_literals
version_takes_no_word command is = let none = is.taken in cc

there_is_no_help_flag : IsNoCommand (codes "--help" ∷ [])
unfolding clap_on_literals
there_is_no_help_flag command is = let none = is.taken in cc
