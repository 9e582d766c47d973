-- What words spell as a script, as rounds or as an exploration, and which of them spells nothing.
use Rattle.std.specs.Prelude.{◌≡◌, ℕ, suc, ◌+◌, List, Option, Some, None, IsSome, ⊤}
use Rattle.std.specs.Option.{option_map}
use Rattle.wm_event.specs.Limits.{max_steps}
use Rattle.wm_run.specs.declared.plan.Plan.{Plan}
use Rattle.wm_command.specs.declared.fault.WordFault.{WordFault}
use Rattle.wm_command.specs.declared.fault.WordFault.TheVariants as fault
use Rattle.wm_command.specs.declared.words.Exploration.{Exploration}
use Rattle.wm_command.specs.declared.words.Rounds.{Rounds}
use Rattle.wm_command.specs.declared.words.Script.{Script}
use Rattle.wm_command.specs.Limits.{drainer_turns, max_rounds, max_thread_events}
use Rattle.wm_command.specs.Numbers.{number_below}
use Rattle.wm_command.specs.Starts.{starts_of}
use Rattle.wm_command.specs.Turns.{kept, turns_of}

abbrev pub not_zero : Option ℕ → Option ℕ
not_zero (Some (suc number)) = Some (suc number)
not_zero _ = None

-- how many rounds a word spells: 1 to 10,000
abbrev pub rounds_of : List ℕ → Option ℕ
rounds_of word = not_zero (number_below (max_rounds + 1) word)

-- how many events a word allows a thread: 1 to 1,024
abbrev pub events_of : List ℕ → Option ℕ
events_of word = not_zero (number_below (max_thread_events + 1) word)

-- a plan for the threads that these words start, of 1,000,000 steps each, with this number of drains
pub record IsPlanOf (starts : List (List ℕ)) (drains : ℕ) (plan : Plan) : Type 0 where
  pub starts_are : starts_of starts ≡ Some plan.starts
  pub steps_are : plan.steps ≡ max_steps
  pub drains_are : plan.drains ≡ drains

-- the script that a word of turns and the words of the starts spell
pub record IsScriptOf (turns : List ℕ) (starts : List (List ℕ)) (script : Script) : Type 0 where
  pub turns_are : option_map kept (turns_of turns) ≡ Some script.turns
  pub plan_is : IsPlanOf starts 0 script.plan

-- the rounds that a word of their number and the words of the starts spell
pub record IsRoundsOf (count : List ℕ) (starts : List (List ℕ)) (rounds : Rounds) : Type 0 where
  pub count_is : rounds_of count ≡ Some rounds.count
  pub plan_is : IsPlanOf starts drainer_turns rounds.plan

-- the exploration that a word of a thread's events and the words of the starts spell
pub record IsExplorationOf (events : List ℕ) (starts : List (List ℕ)) (exploration : Exploration) : Type 0 where
  pub events_are : events_of events ≡ Some exploration.events
  pub plan_is : IsPlanOf starts 0 exploration.plan

-- the words spell no script, because the first of them or then one of the starts spells nothing. An allocation failure
-- states nothing about them
abbrev pub SpellNoScript : List ℕ → List (List ℕ) → WordFault → Type 0
SpellNoScript turns starts fault.Turns = turns_of turns ≡ None
SpellNoScript turns starts fault.Rounds = ⊥
SpellNoScript turns starts fault.Nodes = ⊥
SpellNoScript turns starts fault.Events = ⊥
SpellNoScript turns starts fault.Start = IsSome (turns_of turns) × (starts_of starts ≡ None)
SpellNoScript turns starts fault.OutOfMemory = ⊤

-- the same for rounds
abbrev pub SpellNoRounds : List ℕ → List (List ℕ) → WordFault → Type 0
SpellNoRounds count starts fault.Turns = ⊥
SpellNoRounds count starts fault.Nodes = ⊥
SpellNoRounds count starts fault.Events = ⊥
SpellNoRounds count starts fault.Rounds = rounds_of count ≡ None
SpellNoRounds count starts fault.Start = IsSome (rounds_of count) × (starts_of starts ≡ None)
SpellNoRounds count starts fault.OutOfMemory = ⊤

-- the same for an exploration
abbrev pub SpellNoExploration : List ℕ → List (List ℕ) → WordFault → Type 0
SpellNoExploration events starts fault.Turns = ⊥
SpellNoExploration events starts fault.Rounds = ⊥
SpellNoExploration events starts fault.Nodes = ⊥
SpellNoExploration events starts fault.Events = events_of events ≡ None
SpellNoExploration events starts fault.Start = IsSome (events_of events) × (starts_of starts ≡ None)
SpellNoExploration events starts fault.OutOfMemory = ⊤
