-- What it means for a witness to fit a log.
use Rattle.std.specs.Prelude.{◌≡◌, List, [], All}
use Rattle.wm_event.specs.declared.event.Event.{Event}
use Rattle.wm_event.specs.declared.event.EventKind.TheVariants.{Write}
use Rattle.wm_event.specs.declared.log.ThreadLog.{ThreadLog}
use Rattle.wm_event.specs.declared.witness.Witness.{Witness}
use Rattle.wm_event.specs.Event.{key_of}
use Rattle.wm_event.specs.Shape.{event_counts, writer_counts}
use Rattle.wm_event.specs.Witness.{writers_in}

-- a write has no writers
abbrev pub FitsEvent : Witness → Event → Type 0
FitsEvent witness e = e.kind ≡ Write → writers_in witness (key_of e) ≡ []

-- the witness has a list for each event of each thread, an empty one for each write
pub record FitsLog (log : List ThreadLog) (witness : Witness) : Type 0 where
  pub counts : writer_counts witness ≡ event_counts log
  pub writes : All (λ thread. All (FitsEvent witness) thread.events) log
