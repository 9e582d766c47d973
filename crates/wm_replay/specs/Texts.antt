-- How the answer of a replay prints.
use Rattle.std.specs.Prelude.{ℕ, List, ◌++◌, codes}
use Rattle.std.specs.Fmt.{decimal}
use Rattle.wm_machine.specs.Texts.{start_fault_text}
use Rattle.wm_replay.specs.declared.answer.Place.{Place}
use Rattle.wm_replay.specs.declared.answer.Place.TheVariants.{Event, End}
use Rattle.wm_replay.specs.declared.answer.ReplayAnswer.{ReplayAnswer}
use Rattle.wm_replay.specs.declared.answer.ReplayAnswer.TheVariants.{Same, StartRefused, Differs}

abbrev pub place_text : Place → List ℕ
place_text (Event event) = codes "event " ++ decimal event
place_text End = codes "end"

abbrev pub replay_answer_text : ReplayAnswer → List ℕ
replay_answer_text Same = codes "same"
replay_answer_text (StartRefused thread fault) = codes "thread " ++ decimal thread ++ codes " start " ++ start_fault_text fault
replay_answer_text (Differs thread place) = codes "thread " ++ decimal thread ++ codes " " ++ place_text place
