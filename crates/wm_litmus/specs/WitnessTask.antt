-- What the words of the command `witness` ask.
use Rattle.std.specs.Prelude.{ℕ, Option, Some, if◌then◌else◌}
use Rattle.std.specs.Char.{is_ascii_digit}
use Rattle.std.specs.List.{list_all}
use Rattle.std.specs.Option.{option_map}
use Rattle.wm_command.specs.declared.command.WitnessWords.{WitnessWords}
use Rattle.wm_command.specs.declared.command.WitnessWords.TheVariants.{One, Two, Three}
use Rattle.wm_command.specs.Nodes.{nodes_of}
use Rattle.wm_litmus.specs.declared.witness_task.WitnessTask.{WitnessTask}
use Rattle.wm_litmus.specs.declared.witness_task.WitnessTask.TheVariants.{OfRun, OfDocument}

-- how many nodes a search takes at the most, if no number is given
abbrev pub default_nodes : ℕ
default_nodes = 100000

-- of two words the second is a number of nodes if it has digits alone, and else a document
abbrev pub spelled : WitnessWords → Option WitnessTask
spelled (One document) = Some (OfDocument document default_nodes)
spelled (Two first second) =
    if list_all is_ascii_digit second.now then option_map (OfDocument first) (nodes_of second.now) else Some (OfRun first second default_nodes)
spelled (Three file document count) = option_map (OfRun file document) (nodes_of count.now)
