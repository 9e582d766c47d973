-- Which words are a command, by clap's own model of the parse.
use Rattle.std.specs.Prelude.{◌≡◌, ◌⊎◌, true, List, [], ◌∷◌, ◌++◌, Option, None, Some, Contains, codes, fold, if◌then◌else◌, map}
use Rattle.std.specs.Borrow.{Bor}
use Rattle.std.specs.List.{AllByRecursion}
use Rattle.std.specs.Str.{bytes_eq}
use Rattle.clap.specs.Lexer.{usize_max}
use Rattle.clap.specs.Words.{AddsSubcommand, App, Row, Rule, Text, app_of, fault_of, first_of, found_of, new_app, new_rule, rows_of, subcommand_of, with_rule, with_subcommand}
use Rattle.clap.specs.declared.builder.command.Command.{Command as Parser}
use Rattle.clap.specs.declared.parser.matches.ArgMatches.{ArgMatches}
use Rattle.clap.specs.declared.builder.action.ArgAction.TheVariants.{Append, Set}
use Rattle.clap.specs.declared.error.kind.ErrorKind.{ErrorKind}
use Rattle.clap.specs.declared.error.kind.ErrorKind.TheVariants as kind
use Rattle.wm_command.specs.declared.command.Command.{Command}
use Rattle.wm_command.specs.declared.command.Command.TheVariants.{OfRun, OfDocument, Witness, Stream, Drive, Trace, Run, Explore, Witnesses, Help, Version}
use Rattle.wm_command.specs.declared.command.DocumentTask.{DocumentTask}
use Rattle.wm_command.specs.declared.command.DocumentTask.TheVariants as document
use Rattle.wm_command.specs.declared.command.LineTask.{LineTask}
use Rattle.wm_command.specs.declared.command.LineTask.TheVariants as line
use Rattle.wm_command.specs.declared.command.RunTask.{RunTask}
use Rattle.wm_command.specs.declared.command.RunTask.TheVariants as run
use Rattle.wm_command.specs.declared.command.WitnessWords.{WitnessWords}
use Rattle.wm_command.specs.declared.command.WitnessWords.TheVariants.{One, Two, Three}
use Rattle.wm_command.specs.declared.command.Shape.{Shape}
use Rattle.wm_command.specs.declared.command.Shape.TheVariants as shape
use Rattle.wm_command.specs.declared.command.CommandFault.{CommandFault}
use Rattle.wm_command.specs.declared.command.CommandFault.TheVariants.{Words, OutOfMemory}

abbrev pub fault_of_kind : ErrorKind → CommandFault
fault_of_kind kind.OutOfMemory = OutOfMemory
fault_of_kind _ = Words

-- ---- the table of the commands

-- a command's name, its required words in order, the optional words after these, and the word that may be repeated
pub record Form : Type 0 where
  pub name : Text
  pub required : List Text
  pub optional : List Text
  pub repeated : List Text

abbrev pub plain_form : Text → Form
plain_form name = record { name = name; required = []; optional = []; repeated = [] }

abbrev pub file_form : Text → Form
file_form name = record { name = name; required = codes "file" ∷ []; optional = []; repeated = [] }

-- a module and a document
abbrev pub checked_form : Text → Form
checked_form name = record { name = name; required = codes "file" ∷ codes "document" ∷ []; optional = []; repeated = [] }

-- a document, or a module and a document
abbrev pub log_form : Text → Form
log_form name = record { name = name; required = codes "file" ∷ []; optional = codes "document" ∷ []; repeated = [] }

-- a document, or a module and a document, and a number of nodes
abbrev pub search_form : Text → Form
search_form name = record { name = name; required = codes "file" ∷ []; optional = codes "document" ∷ codes "nodes" ∷ []; repeated = [] }

-- a module, how its threads run, and their starts
abbrev pub started_form : Text → Text → Form
started_form name how = record { name = name; required = codes "file" ∷ how ∷ []; optional = []; repeated = codes "start" ∷ [] }

-- the form of the command of this name whose words have this shape
abbrev pub form_of : Text → Shape → Form
form_of name shape.Plain = plain_form name
form_of name shape.File = file_form name
form_of name shape.Checked = checked_form name
form_of name shape.Log = log_form name
form_of name shape.Search = search_form name
form_of name shape.Turns = started_form name (codes "turns")
form_of name shape.Rounds = started_form name (codes "rounds")
form_of name shape.Events = started_form name (codes "events")

-- the form of a row of a table
abbrev pub form_in : Bor Text × Shape → Form
form_in row = form_of row.0.now row.1

abbrev pub forms : List Form
forms =
    file_form (codes "rules")
    ∷ checked_form (codes "check")
    ∷ file_form (codes "migrate")
    ∷ checked_form (codes "complete")
    ∷ checked_form (codes "verify")
    ∷ file_form (codes "stream")
    ∷ file_form (codes "decide")
    ∷ started_form (codes "drive") (codes "turns")
    ∷ started_form (codes "trace") (codes "turns")
    ∷ started_form (codes "run") (codes "rounds")
    ∷ log_form (codes "races")
    ∷ log_form (codes "explain")
    ∷ log_form (codes "graph")
    ∷ search_form (codes "witness")
    ∷ started_form (codes "explore") (codes "events")
    ∷ started_form (codes "witnesses") (codes "events")
    ∷ plain_form (codes "help")
    ∷ plain_form (codes "version")
    ∷ []

-- the words that the form of this name requires; none where no form has it
abbrev pub required_in : List Form → Text → List Text
required_in [] name = []
required_in (form ∷ forms) name = if bytes_eq form.name name then form.required else required_in forms name

abbrev pub required_of : Text → List Text
required_of = required_in forms

-- ---- the parser of the table

-- a required word
abbrev pub word_rule : Text → Rule
word_rule id = record (new_rule id) { required = true; action = Some Set }

-- an optional word
abbrev pub optional_rule : Text → Rule
optional_rule id = record (new_rule id) { action = Some Set }

-- any number of words
abbrev pub any_words_rule : Text → Rule
any_words_rule id = record (new_rule id) { range = Some record { start_inclusive = 0; end_inclusive = usize_max }; action = Some Append }

abbrev pub form_app : Form → App
form_app form = fold with_rule (new_app form.name) (map word_rule form.required ++ (map optional_rule form.optional ++ map any_words_rule form.repeated))

abbrev pub with_form : App → Form → App
with_form app form = with_subcommand app (form_app form).top

-- a parser which, added to another, adds this command
abbrev pub AddsAs : App → Parser → Type 0
AddsAs added parser = (old more : Parser) → AddsSubcommand old parser more → app_of more ≡ with_subcommand (app_of old) added.top

-- the program without commands: a command is required, no program name comes before it, and there is neither a help
-- flag nor a version flag
abbrev pub empty_app : App
empty_app = let a = new_app (codes "wmlab") in
    record a { top = record a.top { disable_help_flag = true; disable_version_flag = true; no_binary_name = true; disable_help_subcommand = true; subcommand_required = true } }

abbrev pub wmlab_app : App
wmlab_app = fold with_form empty_app forms

-- ---- the words of a command

abbrev pub run_task_name : RunTask → Text
run_task_name run.Check = codes "check"
run_task_name run.Complete = codes "complete"
run_task_name run.Verify = codes "verify"
run_task_name run.Races = codes "races"
run_task_name run.Explain = codes "explain"
run_task_name run.Graph = codes "graph"

abbrev pub document_task_name : DocumentTask → Text
document_task_name document.Rules = codes "rules"
document_task_name document.Migrate = codes "migrate"
document_task_name document.Races = codes "races"
document_task_name document.Explain = codes "explain"
document_task_name document.Graph = codes "graph"

abbrev pub line_task_name : LineTask → Text
line_task_name line.Verify = codes "stream"
line_task_name line.Witness = codes "decide"

abbrev pub name_of : Command → Text
name_of (OfRun task file document) = run_task_name task
name_of (OfDocument task document) = document_task_name task
name_of (Witness words) = codes "witness"
name_of (Stream task file) = line_task_name task
name_of (Drive file turns) = codes "drive"
name_of (Trace file turns) = codes "trace"
name_of (Run file rounds) = codes "run"
name_of (Explore file events) = codes "explore"
name_of (Witnesses file events) = codes "witnesses"
name_of Help = codes "help"
name_of Version = codes "version"

-- the name and the value of each word of `witness`
abbrev pub witness_fields : WitnessWords → List (Text × Text)
witness_fields (One first) = (codes "file", first.now) ∷ []
witness_fields (Two first second) = (codes "file", first.now) ∷ (codes "document", second.now) ∷ []
witness_fields (Three first second third) = (codes "file", first.now) ∷ (codes "document", second.now) ∷ (codes "nodes", third.now) ∷ []

-- the name and the value of each word, except for those that may be repeated
abbrev pub fields_of : Command → List (Text × Text)
fields_of (OfRun task file document) = (codes "file", file.now) ∷ (codes "document", document.now) ∷ []
fields_of (OfDocument task document) = (codes "file", document.now) ∷ []
fields_of (Witness words) = witness_fields words
fields_of (Stream task file) = (codes "file", file.now) ∷ []
fields_of (Drive file turns) = (codes "file", file.now) ∷ (codes "turns", turns.now) ∷ []
fields_of (Trace file turns) = (codes "file", file.now) ∷ (codes "turns", turns.now) ∷ []
fields_of (Run file rounds) = (codes "file", file.now) ∷ (codes "rounds", rounds.now) ∷ []
fields_of (Explore file events) = (codes "file", file.now) ∷ (codes "events", events.now) ∷ []
fields_of (Witnesses file events) = (codes "file", file.now) ∷ (codes "events", events.now) ∷ []
fields_of Help = []
fields_of Version = []

-- the words that a command with this task over a document may have, and this one doesn't have
abbrev pub absent_of_task : DocumentTask → List Text
absent_of_task document.Rules = []
absent_of_task document.Migrate = []
absent_of_task task = codes "document" ∷ []

-- the same of `witness`; no word comes after one that isn't there
abbrev pub absent_of_witness : WitnessWords → List Text
absent_of_witness (One first) = codes "document" ∷ []
absent_of_witness (Two first second) = codes "nodes" ∷ []
absent_of_witness (Three first second third) = []

-- the words that a command of this name may have, and this one doesn't have
abbrev pub absent_of : Command → List Text
absent_of (OfDocument task document) = absent_of_task task
absent_of (Witness words) = absent_of_witness words
absent_of command = []

-- the values of a subcommand's words
abbrev pub rows_in : ArgMatches → List Row
rows_in words = rows_of (found_of words)

-- the rows of a subcommand have these values
abbrev pub HasFields : List Row → List (Text × Text) → Type 0
HasFields rows fields = AllByRecursion (λ (field : Text × Text). first_of field.0 rows ≡ Some field.1) fields

-- none of these words has a value among the rows
abbrev pub LacksFields : List Row → List Text → Type 0
LacksFields rows ids = AllByRecursion (λ id. first_of id rows ≡ None) ids

-- one of these words has no value among the rows
abbrev pub LacksField : List Row → List Text → Type 0
LacksField rows [] = ⊥
LacksField rows (id ∷ ids) = (first_of id rows ≡ None) ⊎ LacksField rows ids

-- a subcommand of this name with these rows is this command
abbrev pub IsNamed : Text → List Row → Command → Type 0
IsNamed name rows command = (name ≡ name_of command) × HasFields rows (fields_of command) × LacksFields rows (absent_of command)

abbrev pub NamesNoCommand : Text → List Row → Type 0
NamesNoCommand name rows = (command : Command) → IsNamed name rows command → ⊥

-- the subcommand that was found, with the values of its words, is this command
abbrev pub Means : Option (Text × List Row) → Command → Type 0
Means found command =
    (rows : List Row) × (found ≡ Some (name_of command, rows)) × HasFields rows (fields_of command) × LacksFields rows (absent_of command)

-- the words are this command: the parse doesn't fail; `--`, which clap would take as the end of the options, is in no
-- command
pub record IsCommand (words : List Text) (command : Command) : Type 0 where
  pub plain : Contains words (codes "--") → ⊥
  pub taken : fault_of wmlab_app words ≡ []
  pub means : Means (subcommand_of wmlab_app words) command

abbrev pub IsNoCommand : List Text → Type 0
IsNoCommand words = (command : Command) → IsCommand words command → ⊥
