-- The reply of memory to an access.
use Rattle.std.specs.Prelude.{ℕ, ◌-◌, List, ◌++◌, length, replicate, None, Some, if◌then◌else◌}
use Rattle.wm_event.specs.declared.event.Event.{Event}
use Rattle.wm_event.specs.declared.event.EventId.{EventId}
use Rattle.wm_event.specs.declared.event.EventId.TheVariants.{Init}
use Rattle.wm_event.specs.declared.op.OpFields.{OpFields as Op}
use Rattle.wm_event.specs.declared.op.Reply.{Reply}
use Rattle.wm_event.specs.Event.{reads, writes}
use Rattle.wm_memory.specs.Visibility.{Step, made_after, writers_after}

-- the writers of the bytes read, from the lowest address, followed by Init up to eight entries
abbrev pub padded : List EventId → List EventId
padded writers = writers ++ replicate (8 - length writers) Init

-- the reply to the access whose event is e: the value that it read, and whether it wrote
abbrev pub reply_of : Event → List EventId → Reply
reply_of e places = record { read = if reads e then Some e.read else None; stored = writes e; writers = places }

-- the reply to an access after these steps
abbrev pub reply_after : List ℕ → List Step → ℕ → Op → Reply
reply_after initial s t op = let e = made_after initial s t op in reply_of e (padded (writers_after initial s e))
