-- The fixed texts of the commands `help` and `version`.
use Rattle.std.specs.Prelude.{◌≡◌, ℕ, List, [], ◌∷◌, ◌++◌, codes, flat_map, string_bytes}
use Rattle.wm_litmus.specs.declared.answer.Answer.{Answer}
use Rattle.wm_litmus.specs.Prints.{ended}

abbrev pub help_lines : List (List ℕ)
help_lines =
    codes "wmlab decides whether a WebAssembly module and its memory model allow a recorded execution."
    ∷ []
    ∷ codes "USAGE"
    ∷ codes "    wmlab COMMAND ARGUMENT.."
    ∷ []
    ∷ codes "COMMANDS"
    ∷ codes "    check MODULE DOC                 check a log against its module and the memory rules"
    ∷ codes "    explain [MODULE] DOC             check a log, and explain the answer in sentences"
    ∷ codes "    graph [MODULE] DOC               draw a log for Graphviz, with the first violation in red"
    ∷ codes "    races [MODULE] DOC               list the data races of an allowed log"
    ∷ codes "    witness [MODULE] DOC [NODES]     find writers and an order that make a log allowed, or show that none do"
    ∷ codes "    rules DOC                        judge a log by the memory rules alone, over 16 pages of zeros"
    ∷ codes "    complete MODULE DOC              print a log with the steps and ends that its module gives it"
    ∷ codes "    verify MODULE DOC                complete a log, and check it"
    ∷ codes "    stream MODULE                    verify each line of standard input as a log; answer each by a line"
    ∷ codes "    decide MODULE                    complete each line so, and find a witness or show that there is none"
    ∷ codes "    migrate DOC                      print a log in version 2 of its format"
    ∷ codes "    drive MODULE TURNS START..       run threads by a script; print the outcome and the log"
    ∷ codes "    trace MODULE TURNS START..       show what each turn of a script did, and the outcome"
    ∷ codes "    run MODULE ROUNDS START..        run threads in parallel; check each log and count the outcomes"
    ∷ codes "    explore MODULE EVENTS START..    list the outcomes that the rules permit of a module's causal executions"
    ∷ codes "    witnesses MODULE EVENTS START..  print a log for each of these outcomes"
    ∷ codes "    help                             print this text"
    ∷ codes "    version                          print the versions of the program, the log format and the logic"
    ∷ []
    ∷ codes "ARGUMENTS"
    ∷ codes "    MODULE    a file with a WebAssembly module in the binary format"
    ∷ codes "    DOC       a file with a log in JSON, or - for standard input"
    ∷ codes "    START     an exported function and its arguments, such as f:0:7, one for each thread"
    ∷ codes "    TURNS     items joined by commas: N is a step of thread N, dN publishes its oldest pending"
    ∷ codes "              store, dN/I the store with I older ones, and *K after an item repeats it K times"
    ∷ codes "    ROUNDS    how many rounds to run, from 1 to 10,000"
    ∷ codes "    NODES     how many nodes a search may take, from 1 to 4,294,967,295; without it 100,000"
    ∷ codes "    EVENTS    how many events a thread may have, from 1 to 1,024"
    ∷ []
    ∷ codes "EXAMPLES"
    ∷ codes "    wmlab check store-buffering.wasm store-buffering.json"
    ∷ codes "    wmlab explain store-buffering.wasm store-buffering.json"
    ∷ codes "    wmlab graph store-buffering.wasm store-buffering.json | dot -Tsvg > store-buffering.svg"
    ∷ codes "    wmlab races store-buffering.wasm store-buffering.json"
    ∷ codes "    wmlab witness store-buffering.wasm store-buffering.json"
    ∷ codes "    wmlab rules - < store-buffering.json"
    ∷ codes "    wmlab complete store-buffering.wasm recorded.json > completed.json"
    ∷ codes "    wmlab verify store-buffering.wasm recorded.json"
    ∷ codes "    wmlab stream store-buffering.wasm < recorded.jsonl > answers.txt"
    ∷ codes "    wmlab decide store-buffering.wasm < recorded.jsonl > witnesses.jsonl"
    ∷ codes "    wmlab migrate version-1.json > version-2.json"
    ∷ codes "    wmlab drive store-buffering.wasm 0*3,d0,0*3,1*6 a b"
    ∷ codes "    wmlab trace store-buffering.wasm 0*3,d0,0*3,1*6 a b"
    ∷ codes "    wmlab run store-buffering.wasm 100 a b"
    ∷ codes "    wmlab explore store-buffering.wasm 16 a b"
    ∷ codes "    wmlab witnesses store-buffering.wasm 16 a b > permitted.jsonl"
    ∷ codes "    wmlab help"
    ∷ codes "    wmlab version"
    ∷ []
    ∷ codes "EXIT STATUS"
    ∷ codes "    0    the execution is allowed, or the requested text was printed"
    ∷ codes "    1    the execution is broken: the module does not perform it, or a memory rule forbids it;"
    ∷ codes "         of races: it is allowed, and has a data race"
    ∷ codes "         of witness: no writers and no order make it allowed"
    ∷ codes "         of explore and witnesses: a bound was met, so outcomes may be missing"
    ∷ codes "    2    the command line, the module or the log is refused"
    ∷ codes "         of witness: the search took its number of nodes"
    ∷ codes "    3    out of memory, or a file could not be read or the answer not written (see stderr)"
    ∷ []
    ∷ codes "DOCUMENTATION"
    ∷ codes "    README.md and docs/ in the repository of wmlab"
    ∷ []

abbrev pub help_text : List ℕ
help_text = flat_map ended help_lines

-- the version of the program
abbrev pub program_version : List ℕ
program_version = codes "0.2.0"

-- the version of the program, the versions of the log format that are read and written, and the logic in which the
-- proofs are checked
abbrev pub version_lines : List (List ℕ)
version_lines =
    (codes "wmlab " ++ program_version)
    ∷ codes "reads log versions 1 and 2"
    ∷ codes "writes log version 2"
    ∷ codes "logic dac8208d650f15bf"
    ∷ []

abbrev pub version_text : List ℕ
version_text = flat_map ended version_lines

-- an answer prints this text, with status 0
pub record PrintsText (text : List ℕ) (answer : Answer) : Type 0 where
  pub status_is : answer.status ≡ 0
  pub text_is : string_bytes answer.text ≡ text
