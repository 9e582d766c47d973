-- Steps that make no access.
use Rattle.std.proofs.Common.{inl, inr, ◌≡◌, ◌+◌, ℕ, suc, Option, Some, None, refl, ap, sym, ◌∙◌, subst, arith}
use Rattle.std.specs.Prelude.{◌⊎◌, true, false, is_some, option_and_then}
use Rattle.wm_ast.specs.declared.module.Module.{Module}
use Rattle.wm_event.specs.declared.log.End.{End}
use Rattle.wm_event.specs.declared.op.OpFields.{OpFields}
use Rattle.wm_machine.specs.declared.thread.Need.{Need}
use Rattle.wm_machine.specs.declared.thread.Need.TheVariants as need
use Rattle.wm_machine.specs.Local.{after_local, local_steps}
use Rattle.wm_machine.specs.Paths.{LocalPath, Moves, on}
use Rattle.wm_machine.specs.Stepping.{HasNoLocalStep}
use Rattle.wm_machine.specs.State.{State, as_need, config_of, need_in, need_of}
use Rattle.wm_machine.specs.Step.{access_of, next_config, step}
use Rattle.wm_machine.specs.Term.{Config, Step, ReducesTo, NoStep}

-- a step that doesn't wait for a value makes no access
pub makes_none_unasked : (op : Option OpFields) → false ≡ is_some op → op ≡ None
makes_none_unasked None h = refl
makes_none_unasked (Some op) h = absurd (cc h)

accesses : (op : Option OpFields) → true ≡ is_some op → (n : Need) → n ≡ as_need op → (n ≡ need.Local) ⊎ ((end : End) × (n ≡ need.Ended end)) → ⊥
accesses None h n e other = absurd (cc h)
accesses (Some op) h n e (inl local) = let k = sym e ∙ local in cc
accesses (Some op) h n e (inr ended) = let k = sym e ∙ ended.1 in cc

-- a thread whose step waits for a value needs an access
pub waits_for_access : (s : State) → s.ended ≡ None → true ≡ is_some (access_of (step s.module 0 (config_of s))) → (n : Need) → n ≡ need_of 0 s
    → (n ≡ need.Local) ⊎ ((end : End) × (n ≡ need.Ended end)) → ⊥
waits_for_access s runs h n e other =
    accesses (access_of (step s.module 0 (config_of s))) h n (e ∙ ap (λ (end : Option End). need_in end 0 s) runs) other

-- a thread that has ended has no local step
pub no_local_after_end : (s : State) (read : ℕ) (end : End) → s.ended ≡ Some end → HasNoLocalStep (need_of read s)
no_local_after_end s read end h = subst (λ (e : Option End). HasNoLocalStep (need_in e read s)) (sym h) tt

after_is : (s : Step) (c : Config) → access_of s ≡ None → next_config s ≡ Some c → after_local s ≡ Some c
after_is (ReducesTo None b) c made next = next
after_is (ReducesTo (Some op) b) c made next = absurd (cc made)
after_is NoStep c made next = absurd (cc next)

-- one more step that makes no access, in the same module
pub one_more : (m k : Module) (start old new : Config) (n : ℕ) → k ≡ m → local_steps m start n ≡ Some old → access_of (step k 0 old) ≡ None → next_config (step k 0 old) ≡ Some new
    → local_steps m start (n + 1) ≡ Some new
one_more m k start old new n same so made next =
    let last = subst (λ (j : Module). after_local (step j 0 old) ≡ Some new) same (after_is (step k 0 old) new made next) in
    let e : suc n ≡ n + 1 = omega arith in
    subst (λ (j : ℕ). local_steps m start j ≡ Some new) e (ap (option_and_then (λ (b : Config). after_local (step m 0 b))) so ∙ last)

-- and a step further on its path
pub path_more : (start s t : State) (n : ℕ) → s.module ≡ start.module → LocalPath start n s → access_of (step s.module 0 (config_of s)) ≡ None → next_config (step s.module 0 (config_of s)) ≡ Some (config_of t)
    → Moves s.module s t → LocalPath start (n + 1) t
path_more start s t n same path made next moves =
    on path (subst (λ (m : Module). after_local (step m 0 (config_of s)) ≡ Some (config_of t)) same (after_is (step s.module 0 (config_of s)) (config_of t) made next)) (subst (λ (m : Module). Moves m s t) same moves)
