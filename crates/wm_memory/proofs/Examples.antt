-- Small histories, computed.
use Rattle.std.proofs.Common.{◌≡◌, ℕ, List, [], ◌∷◌, refl, map, reverse}
use Rattle.wm_event.specs.declared.event.Event.{Event}
use Rattle.wm_access.specs.declared.MemoryOrder.TheVariants.{Unordered, SeqCst}
use Rattle.wm_access.specs.declared.AccessWidth.TheVariants.{Four}
use Rattle.wm_event.specs.declared.op.OpFields.{OpFields as Op}
use Rattle.wm_event.specs.declared.op.OpKind.TheVariants.{Read, Write, CmpXchg}
use Rattle.wm_memory.specs.declared.history_step.HistoryStep.{HistoryStep}
use Rattle.wm_memory.specs.declared.history_step.HistoryStep.TheVariants.{Access, Drain, DrainAt}
use Rattle.wm_memory.specs.Visibility.{events, steps}

load : ℕ → Op
load a = record { kind = Read; order = Unordered; address = a; width = Four }

store : ℕ → ℕ → Op
store a v = record { kind = Write v; order = Unordered; address = a; width = Four }

cas : ℕ → ℕ → ℕ → Op
cas a x y = record { kind = CmpXchg x y; order = SeqCst; address = a; width = Four }

zeros : List ℕ
zeros = 0 ∷ 0 ∷ 0 ∷ 0 ∷ 0 ∷ 0 ∷ 0 ∷ 0 ∷ []

reads_of : List HistoryStep → List ℕ
reads_of h = map (λ (e : Event). e.read) (reverse (events (steps zeros (reverse h))))

-- store buffering: both threads read 0; then the store is drained; a thread sees its own store
sb : reads_of (Access 0 (store 0 1) ∷ Access 1 (store 4 1) ∷ Access 0 (load 4) ∷ Access 1 (load 0) ∷ Access 0 (load 0) ∷ Drain 0 ∷ Access 1 (load 0) ∷ []) ≡ 0 ∷ 0 ∷ 0 ∷ 0 ∷ 1 ∷ 1 ∷ []
unfolding reads_of zeros load store
sb = refl

-- the second store leaves before the first
passed : reads_of (Access 0 (store 0 1) ∷ Access 0 (store 4 2) ∷ DrainAt 0 1 ∷ Access 1 (load 4) ∷ Access 1 (load 0) ∷ []) ≡ 0 ∷ 0 ∷ 2 ∷ 0 ∷ []
unfolding reads_of zeros load store
passed = refl

-- an atomic access publishes; a compare-exchange that fails is a read
atomic : reads_of (Access 0 (store 0 7) ∷ Access 0 (cas 4 0 9) ∷ Access 1 (cas 4 0 3) ∷ Access 1 (load 0) ∷ Access 1 (load 4) ∷ []) ≡ 0 ∷ 0 ∷ 9 ∷ 7 ∷ 9 ∷ []
unfolding reads_of zeros load store cas
atomic = refl
