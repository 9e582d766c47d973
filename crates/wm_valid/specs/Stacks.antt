-- Operand stacks with unknowns, read from the top.
use Rattle.std.specs.Prelude.{◌≡◌, List, [], ◌∷◌, Bool, true, false, Option, Some, None}
use Rattle.wm_ast.specs.declared.types.ValType.{ValType}
use Rattle.wm_ast.specs.declared.types.ValType.TheVariants.{I32, I64}
use Rattle.wm_ast.specs.declared.instr.Instr.{Instr}
use Rattle.wm_valid.specs.InstrTypes.{◌>>=◌, Context, Labels, InstrType, maps, drops, selects, stack_polymorphic, listed, instr_type}

-- operands, of which None has any type, over any others if the stack is open
pub record Stack : Type 0 where
  pub known : List (Option ValType)
  pub open_below : Bool

abbrev pub IsOf : Option ValType → ValType → Type 0
IsOf None t = Unit {0}
IsOf (Some u) t = u ≡ t

abbrev pub MatchesAll : List (Option ValType) → Bool → List ValType → Type 0
MatchesAll [] true ts = Unit {0}
MatchesAll [] false [] = Unit {0}
MatchesAll [] false (t ∷ ts) = ⊥
MatchesAll (o ∷ os) below [] = ⊥
MatchesAll (o ∷ os) below (t ∷ ts) = IsOf o t × MatchesAll os below ts

-- the list is one of those that the stack represents
abbrev pub Matches : Stack → List ValType → Type 0
Matches s ts = MatchesAll s.known s.open_below ts

pub record Popped : Type 0 where
  pub operand : Option ValType
  pub under : Stack

abbrev pub empty : Stack
empty = record { known = []; open_below = false }

abbrev pub opened : Stack
opened = record { known = []; open_below = true }

abbrev pub push : Option ValType → Stack → Stack
push o s = record { known = o ∷ s.known; open_below = s.open_below }

abbrev pub pop_from : List (Option ValType) → Bool → Option Popped
pop_from [] true = Some (record { operand = None; under = opened })
pop_from [] false = None
pop_from (o ∷ os) below = Some (record { operand = o; under = record { known = os; open_below = below } })

abbrev pub pop : Stack → Option Popped
pop s = pop_from s.known s.open_below

-- the operand that both describe, if they agree
abbrev pub joined : Option ValType → Option ValType → Option (Option ValType)
joined None o = Some o
joined (Some t) None = Some (Some t)
joined (Some I32) (Some I32) = Some (Some I32)
joined (Some I32) (Some I64) = None
joined (Some I64) (Some I32) = None
joined (Some I64) (Some I64) = Some (Some I64)

abbrev pub take_one : ValType → Stack → Option Stack
take_one t s = pop s >>= λ p. joined (Some t) p.operand >>= λ o. Some p.under

abbrev pub take_all : List ValType → Stack → Option Stack
take_all [] s = Some s
take_all (t ∷ ts) s = take_one t s >>= take_all ts

abbrev pub give_all : List ValType → Stack → Stack
give_all [] s = s
give_all (t ∷ ts) s = push (Some t) (give_all ts s)

abbrev pub select_on : Stack → Option Stack
select_on s = take_one I32 s >>= λ s1. pop s1 >>= λ a. pop a.under >>= λ b. joined a.operand b.operand >>= λ o. Some (push o b.under)

-- the effect of an instruction of this type on the stack
abbrev pub made_by : InstrType → Stack → Option Stack
made_by (maps takes gives) s = take_all takes s >>= λ s1. Some (give_all gives s1)
made_by drops s = pop s >>= λ p. Some p.under
made_by selects s = select_on s
made_by (stack_polymorphic takes) s = take_all takes s >>= λ s1. Some opened

abbrev pub plain_on : Context → Labels → Instr → Stack → Option Stack
plain_on C labels i s = instr_type C labels i >>= λ ty. made_by ty s

abbrev pub bare : List (Option ValType) → Option Stack
bare [] = Some empty
bare (o ∷ os) = None

-- the end of a block: exactly its result
abbrev pub ended : Option ValType → Stack → Option Stack
ended result s = take_all (listed result) s >>= λ s1. bare s1.known
