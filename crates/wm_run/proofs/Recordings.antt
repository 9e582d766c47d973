-- What a recorder keeps, as the turns of a script need it.
use Rattle.std.proofs.Common.{◌≡◌, ℕ, ◌<◌, ◌≤◌, [], ◌∷◌, Bool, true, false, sym, ap, subst, ◌∙◌, arith, length, reverse, slice_get, Some, get_or}
use Rattle.std.specs.Prelude.{MatchBool}
use Rattle.std.proofs.lemmas.List.{length-reverse, reverse-append}
use Rattle.std.proofs.lemmas.Option.{slice_get-get_or}
use Rattle.wm_memory.specs.declared.history_step.HistoryStep.{HistoryStep}
use Rattle.wm_memory.specs.declared.history_step.HistoryStep.TheVariants.{Drain, DrainAt}
use Rattle.wm_memory.specs.Legal.{IsLegal}
use Rattle.wm_memory.specs.Memory.{Buffered, CannotLeave}
use Rattle.wm_memory.specs.Visibility.{Passes, events, waiting}
use Rattle.wm_memory.proofs.Listed.{length-order_of}
use Rattle.wm_memory.proofs.Lists.{passes_first}
use Rattle.wm_recorder.specs.Recorder.{Adds, IsFull, IsRecording, Recording, initial_of, steps_of, threads_of}
use Rattle.wm_run.specs.Runner.{DrainsBy, MayDrainFrom}
use Rattle.wm_run.specs.Runner as runner

-- as many events are held as the order lists
held : (r : Recording) → IsRecording r → length r.order ≡ length (events (steps_of r))
held r k = ap length k.order ∙ length-order_of (steps_of r)

pub not_full : (r : Recording) → IsRecording r → (IsFull r → ⊥) → length (events (steps_of r)) < 16384
not_full r k few =
    let below : length r.order < 16384 = omega (arith, few) in
    omega (arith, held r k, below)

pub is_full : (r : Recording) → IsRecording r → IsFull r → 16384 ≤ length (events (steps_of r))
is_full r k full = omega (arith, held r k, full)

-- the last item of what a recorder holds follows the others
pub last_follows : (old new : Recording) (drain : HistoryStep) → Adds (drain ∷ []) old new → IsRecording new → MayDrainFrom old drain
last_follows old new drain adds k =
    let items : reverse new.history ≡ drain ∷ reverse old.history = ap reverse adds.history ∙ reverse-append old.history (drain ∷ []) in
    let legal : IsLegal (threads_of new) (initial_of new) (drain ∷ reverse old.history) = subst (IsLegal (threads_of new) (initial_of new)) items k.legal in
    let same : IsLegal (threads_of new) (initial_of old) (drain ∷ reverse old.history) = subst (λ init. IsLegal (threads_of new) init (drain ∷ reverse old.history)) adds.initial legal in
    let there : IsLegal (threads_of old) (initial_of old) (drain ∷ reverse old.history) = subst (λ n. IsLegal n (initial_of old) (drain ∷ reverse old.history)) adds.threads same in
    there.1

-- what waits in the buffer of a thread
pub buffered : (r : Recording) (t : ℕ) → IsRecording r → t < threads_of r → (b : Buffered) × (slice_get r.memory.buffers t ≡ Some b) × (reverse b.stores ≡ waiting (steps_of r) t)
buffered r t k there =
    let some : Buffered = record { stores = []; accesses = 0 } in
    let b = get_or r.memory.buffers t some in
    let is : slice_get r.memory.buffers t ≡ Some b = slice_get-get_or r.memory.buffers t some there in
    (b, is, (k.fits.buffers t b is).stores)

-- a store that cannot leave may not be drained
pub may_not : (r : Recording) (t k : ℕ) → IsRecording r → CannotLeave t k r.memory → t < threads_of r → k < length (waiting (steps_of r) t) → Passes k (waiting (steps_of r) t) → ⊥
may_not r t k keeps cannot there waits passes =
    let b = buffered r t keeps there in
    let count : length b.0.stores ≡ length (waiting (steps_of r) t) = sym (length-reverse b.0.stores) ∙ ap length b.2 in
    let within : k < length b.0.stores = omega (arith, count, waits) in
    cannot b.0 b.1 within (subst (Passes k) (sym b.2) passes)

no_drain : (r : Recording) (t : ℕ) → IsRecording r → CannotLeave t 0 r.memory → MayDrainFrom r (Drain t) → ⊥
no_drain r t keeps cannot may = may_not r t 0 keeps cannot may.0 may.1 (passes_first (waiting (steps_of r) t))

no_drain_at : (r : Recording) (t k : ℕ) → IsRecording r → CannotLeave t k r.memory → MayDrainFrom r (DrainAt t k) → ⊥
no_drain_at r t k keeps cannot may = may_not r t k keeps cannot may.0 may.1 may.2

pub drains : (t : ℕ) (b : Bool) (old new : Recording) → IsRecording old → IsRecording new → MatchBool b (Adds (Drain t ∷ []) old new) ((new ≡ old) × CannotLeave t 0 old.memory)
    → DrainsBy (Drain t) old new
drains t true old new k k' h = runner.drains (last_follows old new (Drain t) h k') h
drains t false old new k k' h = runner.keeps (no_drain old t k h.1) h.0

pub drains_at : (t k : ℕ) (b : Bool) (old new : Recording) → IsRecording old → IsRecording new → MatchBool b (Adds (DrainAt t k ∷ []) old new) ((new ≡ old) × CannotLeave t k old.memory)
    → DrainsBy (DrainAt t k) old new
drains_at t k true old new r r' h = runner.drains (last_follows old new (DrainAt t k) h r') h
drains_at t k false old new r r' h = runner.keeps (no_drain_at old t k r h.1) h.0
