-- What an exploration without a bound finds of the executions that it covers.
use Rattle.std.proofs.Common.{ℕ, List, refl}
use Rattle.wm_ast.specs.declared.module.Module.{Module}
use Rattle.wm_event.specs.declared.log.Start.{Start}
use Rattle.wm_explore.specs.declared.exploration.Exploration.{Exploration}
use Rattle.wm_explore.specs.Executions.{ends_of}
use Rattle.wm_explore.specs.Search.{Explores}
use Rattle.wm_litmus.specs.declared.explore.Coverage.{Coverage}
use Rattle.wm_litmus.specs.declared.explore.Coverage.TheVariants.{Causal, Every}
use Rattle.wm_litmus.specs.Explore.{Covers, FindsCovered}

pub finds_covered : (m : Module) (starts : List Start) (events : ℕ) (e : Exploration) (coverage : Coverage) → Explores m starts events e → Covers m coverage → FindsCovered m starts e coverage
finds_covered m starts events e Every explores covers =
    λ met x is. explores.all met (ends_of x.log) (record { x = x; is_execution = is; causal = covers.1 starts x is; has = refl })
finds_covered m starts events e Causal explores covers =
    λ met x is causal. explores.all met (ends_of x.log) (record { x = x; is_execution = is; causal = causal; has = refl })
