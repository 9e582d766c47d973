-- The view of a thread.
use Rattle.std.specs.Prelude.{ℕ, List, Option, Some, None, ⊤}
use Rattle.wm_ast.specs.declared.module.Module.{Module}
use Rattle.wm_event.specs.declared.log.End.{End}
use Rattle.wm_event.specs.declared.op.OpFields.{OpFields}
use Rattle.wm_event.specs.declared.op.Reply.{Reply}
use Rattle.wm_event.specs.Op.{kind_finds}
use Rattle.wm_event.specs.Reply.{ReadAnswers}
use Rattle.wm_machine.specs.declared.value.TypedValue.{TypedValue}
use Rattle.wm_machine.specs.declared.call_frame.CallFrame.{CallFrame}
use Rattle.wm_machine.specs.declared.thread.Need.{Need}
use Rattle.wm_machine.specs.declared.thread.Need.TheVariants as need
use Rattle.wm_machine.specs.declared.place.Place.{Place}
use Rattle.wm_machine.specs.declared.thread.CodePosition.{CodePosition}
use Rattle.wm_machine.specs.Term.{Config, Over}
use Rattle.wm_machine.specs.Step.{step, access_of}
use Rattle.wm_machine.specs.Configuration.{left_of, under}
use Rattle.wm_machine.specs.Inside.{vars_of}
use Rattle.wm_machine.specs.Places.{place_of}
use Rattle.wm_machine.specs.Fits.{FitsConfig}
use Rattle.wm_valid.specs.Valid.{Valid}

-- the calls of a thread: the innermost by itself, then the call stack
pub record State : Type 0 where
  pub «module» : Module
  pub ended : Option End
  pub running : CallFrame
  pub call_stack : List CallFrame
  pub globals : List TypedValue

-- a thread of these parts
abbrev pub state_of : Module → Option End → CallFrame → List CallFrame → List TypedValue → State
state_of m ended running call_stack globals =
    record { «module» = m; ended = ended; running = running; call_stack = call_stack; globals = globals }

abbrev pub config_from : Option End → State → Config
config_from (Some end) s = Over end
config_from None s =
    under s.module s.call_stack s.running.func (vars_of s.running s.globals) (left_of s.module s.running.func s.running.control_stack)

-- the configuration of a thread
abbrev pub config_of : State → Config
config_of s = config_from s.ended s

-- the module is valid, and the remaining term of the thread fits it
pub record Sound (s : State) : Type 0 where
  pub valid : Valid s.module
  pub fits : FitsConfig s.module (config_of s)

-- the position of a place in a function
abbrev pub position_in : ℕ → Place → CodePosition
position_in func place = record { func = func; block = place.block; at = place.at }

-- the position of the innermost call
abbrev pub position_of : State → CodePosition
position_of s = position_in s.running.func (place_of s.module s.running.func s.running.control_stack)

-- what a thread needs for its next step
abbrev pub as_need : Option OpFields → Need
as_need None = need.Local
as_need (Some op) = need.Access op

abbrev pub need_in : Option End → ℕ → State → Need
need_in (Some end) read s = need.Ended end
need_in None read s = as_need (access_of (step s.module read (config_of s)))

abbrev pub need_of : ℕ → State → Need
need_of read s = need_in s.ended read s

-- the value of a reply, or 0
abbrev pub value_or_zero : Option ℕ → ℕ
value_or_zero None = 0
value_or_zero (Some value) = value

abbrev pub read_in : Option Reply → ℕ
read_in None = 0
read_in (Some reply) = value_or_zero reply.read

-- the value that a reply gives to its access; 0 if the access reads nothing
abbrev pub given_by : Option Reply → Option ℕ
given_by None = None
given_by (Some reply) = Some (value_or_zero reply.read)

-- a reply exactly if the next step is an access, with a value read exactly if that access reads
abbrev pub RepliesTo : Need → Option Reply → Type 0
RepliesTo need.Local None = ⊤
RepliesTo need.Local (Some reply) = ⊥
RepliesTo (need.Access op) None = ⊥
RepliesTo (need.Access op) (Some reply) = ReadAnswers (kind_finds op.kind) op.width reply.read
RepliesTo (need.Ended end) reply = ⊥
