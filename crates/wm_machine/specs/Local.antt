-- Steps that make no access.
use Rattle.std.specs.Prelude.{ℕ, zero, suc, Option, Some, None, option_and_then}
use Rattle.wm_ast.specs.declared.module.Module.{Module}
use Rattle.wm_machine.specs.Step.{step}
use Rattle.wm_machine.specs.Term.{Config, Step, ReducesTo, NoStep}

-- the configuration after a step that makes no access
abbrev pub after_local : Step → Option Config
after_local (ReducesTo None c) = Some c
after_local (ReducesTo (Some op) c) = None
after_local NoStep = None

-- the configuration after n steps, none of which makes an access
abbrev pub local_steps : Module → Config → ℕ → Option Config
local_steps m c zero = Some c
local_steps m c (suc n) = option_and_then (λ (b : Config). after_local (step m 0 b)) (local_steps m c n)
