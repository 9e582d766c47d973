use Rattle.std.proofs.Common.{◌≡◌, map, take}
use Rattle.wm_event.specs.Event.{key_of}
use Rattle.wm_run.proofs.scripts.tracing.keys_of.Given as goal

-- the events of the first stores
abbrev pub invariant-loop-store : goal.invariant-loop-store
invariant-loop-store l = l.keys.items ≡ map key_of (take l.store-index l.stores)
