-- The answers of the command `trace`.
use Rattle.std.specs.Prelude.{◌≡◌, ◌≢◌, ℕ, Bool, true, false, List, [], ◌∷◌, ◌++◌, Option, None, Some, codes, length, map}
use Rattle.std.specs.Fmt.{decimal}
use Rattle.std.specs.List.{flat_map}
use Rattle.wm_access.specs.AccessWidth.{bytes_of}
use Rattle.wm_ast.specs.declared.module.Module.{Module}
use Rattle.wm_check.specs.declared.verdict.Refusal.{Refusal}
use Rattle.wm_check.specs.declared.verdict.Verdict.TheVariants.{Refused}
use Rattle.wm_check.specs.Reading.{IsModuleRefusal}
use Rattle.wm_check.specs.Run.{IsModuleOf}
use Rattle.wm_check.specs.Texts.{verdict_text}
use Rattle.wm_event.specs.declared.event.Event.{Event}
use Rattle.wm_event.specs.declared.event.EventId.{EventId}
use Rattle.wm_event.specs.declared.event.EventKey.{EventKey}
use Rattle.wm_event.specs.declared.event.EventKind.{EventKind}
use Rattle.wm_event.specs.declared.event.EventKind.TheVariants.{Read, Write, Update}
use Rattle.wm_event.specs.Event.{is_atomic, key_of}
use Rattle.wm_event.specs.Log.{event_in}
use Rattle.wm_event.specs.Texts.{id_text, key_text}
use Rattle.wm_event.specs.Witness.{writers_in}
use Rattle.wm_sites.specs.Sites.{AreSitesOf, Code}
use Rattle.wm_races.specs.declared.site.Site.{Site}
use Rattle.wm_run.specs.declared.fault.RunFault.{RunFault}
use Rattle.wm_run.specs.declared.fault.RunFault.TheVariants.{OutOfMemory}
use Rattle.wm_run.specs.declared.plan.Plan.{Plan}
use Rattle.wm_run.specs.declared.scripts.traced.Rest.{Rest}
use Rattle.wm_run.specs.declared.scripts.traced.Rest.TheVariants.{Ended, Spent, Full}
use Rattle.wm_run.specs.declared.scripts.traced.TracedTurn.{TracedTurn}
use Rattle.wm_run.specs.declared.scripts.traced.TurnDone.{TurnDone}
use Rattle.wm_run.specs.declared.scripts.traced.TurnDone.TheVariants.{Stepped, Accessed, Rested, Drained, Absent, Held}
use Rattle.wm_run.specs.declared.turn.Turn.{Turn}
use Rattle.wm_run.specs.declared.turn.Turn.TheVariants.{Step, Drain, DrainAt}
use Rattle.wm_run.specs.Refusal.{IsScriptFault}
use Rattle.wm_run.specs.Run.{Record}
use Rattle.wm_run.specs.Scripted.{IsScripted}
use Rattle.wm_run.specs.Traced.{IsTraced}
use Rattle.wm_command.specs.declared.words.Script.{Script}
use Rattle.wm_litmus.specs.declared.answer.Answer.{Answer}
use Rattle.wm_litmus.specs.Lines.{run_fault_line_text}
use Rattle.wm_litmus.specs.Outcomes.{outcome_text}
use Rattle.wm_litmus.specs.Prints.{Gives, ended}
use Rattle.wm_litmus.specs.Races.{site_text}

-- ---- lines

-- a turn as TURNS spells it
abbrev pub turn_text : Turn → List ℕ
turn_text (Step t) = decimal t
turn_text (Drain t) = codes "d" ++ decimal t
turn_text (DrainAt t k) = codes "d" ++ decimal t ++ codes "/" ++ decimal k

abbrev pub order_text : Bool → List ℕ
order_text true = codes "atomic"
order_text false = codes "plain"

-- the name of an event, its order and its range
abbrev pub range_text : Event → List ℕ
range_text e =
    key_text (key_of e) ++ codes " " ++ order_text (is_atomic e) ++ codes " address=" ++ decimal e.address
    ++ codes " width=" ++ decimal (bytes_of e.width)

abbrev pub kind_event_text : EventKind → Event → List ℕ
kind_event_text Read e = codes "read " ++ range_text e ++ codes " read=" ++ decimal e.read
kind_event_text Write e = codes "write " ++ range_text e ++ codes " written=" ++ decimal e.written
kind_event_text Update e = codes "update " ++ range_text e ++ codes " read=" ++ decimal e.read ++ codes " written=" ++ decimal e.written

-- an event of a run by its name
abbrev pub event_text : Option Event → EventKey → List ℕ
event_text (Some e) key = kind_event_text e.kind e
event_text None key = codes "access " ++ key_text key

-- names, each after a space
abbrev pub keys_text : List EventKey → List ℕ
keys_text keys = flat_map (λ key. codes " " ++ key_text key) keys

abbrev pub ids_text : List EventId → List ℕ
ids_text ids = flat_map (λ id. codes " " ++ id_text id) ids

-- the writer of each byte read, the lowest address first
abbrev pub from_text : List EventId → List ℕ
from_text [] = []
from_text (id ∷ ids) = codes " from" ++ ids_text (id ∷ ids)

-- the store that left the full buffer before the access
abbrev pub before_text : Option EventKey → List ℕ
before_text None = []
before_text (Some store) = codes " after drained " ++ key_text store

abbrev pub rest_text : Rest → List ℕ
rest_text Ended = codes "the thread has ended"
rest_text Spent = codes "the thread has made all its steps"
rest_text Full = codes "the log is full"

-- the effect of a turn of this run
abbrev pub done_text : Record → TurnDone → List ℕ
done_text run Stepped = codes "step"
done_text run (Accessed key store) = event_text (event_in run.log key) key ++ from_text (writers_in run.witness key) ++ before_text store
done_text run (Rested rest) = codes "no step: " ++ rest_text rest
done_text run (Drained key) = codes "drained " ++ key_text key
done_text run Absent = codes "no drain: no such store"
done_text run Held = codes "no drain: an older store overlaps"

-- the contents of the thread's buffer after the turn
abbrev pub pending_text : List EventKey → List ℕ
pending_text [] = []
pending_text (key ∷ keys) = codes " pending" ++ keys_text (key ∷ keys)

-- the line of a turn of this run: the turn, the thread's next instruction before it, what the turn did, and what is
-- pending then
abbrev pub line_text : Record → TracedTurn → Site → List ℕ
line_text run entry site =
    turn_text entry.turn ++ site_text site ++ codes " " ++ done_text run entry.done ++ pending_text entry.pending

-- a line for each turn, in their order
abbrev pub lines_text : Record → List TracedTurn → List Site → List ℕ
lines_text run (entry ∷ entries) (site ∷ sites) = ended (line_text run entry site) ++ lines_text run entries sites
lines_text run entries sites = []

-- everything that is printed for a traced run; the last line is its outcome
abbrev pub trace_text : Record → List TracedTurn → List Site → List ℕ
trace_text run entries sites = lines_text run entries sites ++ ended (codes "outcome " ++ outcome_text run.log)

-- ---- answers

-- the status and the text that show the turns of a run, each with its thread's next instruction before it
pub record ShowsTrace (code : Code) (run : Record) (entries : List TracedTurn) (status : ℕ) (text : List ℕ) : Type 0 where
  pub sites : List Site
  pub count : length sites ≡ length entries
  pub of_turns : AreSitesOf code (map (λ entry. entry.position) entries) sites
  pub status_is : status ≡ 0
  pub text_is : text ≡ trace_text run entries sites

-- the status and the text that answer a module and a script: the scripted run turn by turn; otherwise the answer of
-- `drive`
pub data AnswersTrace (module_bytes : List ℕ) (plan : Plan) (turns : List Turn) (status : ℕ) (text : List ℕ) : Type 0 where
  no_module : (refusal : Refusal) → IsModuleRefusal module_bytes refusal
      → status ≡ 2 → text ≡ ended (verdict_text (Refused refusal)) → AnswersTrace module_bytes plan turns status text
  refused : («module» : Module) (fault : RunFault) → IsModuleOf module_bytes «module» → fault ≢ OutOfMemory → IsScriptFault «module» plan turns fault
      → status ≡ 2 → text ≡ ended (run_fault_line_text fault) → AnswersTrace module_bytes plan turns status text
  traced : («module» : Module) (run : Record) (entries : List TracedTurn) → IsModuleOf module_bytes «module» → IsScripted «module» plan turns run
      → IsTraced «module» plan turns run entries → ShowsTrace (record { «module» = «module»; bytes = module_bytes }) run entries status text
      → AnswersTrace module_bytes plan turns status text

-- an answer to a script and to the bytes of a module, if these spell the module
abbrev pub TracesOver : Code → Script → Answer → Type 0
TracesOver code script answer = IsModuleOf code.bytes code.module → Gives (AnswersTrace code.bytes script.plan script.turns) answer
