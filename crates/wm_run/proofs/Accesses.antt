-- What an access reads, and what it adds to a history.
use Rattle.std.proofs.Common.{◌≡◌, ℕ, ◌<◌, List, [], ◌∷◌, ◌++◌, Bool, true, false, Some, None, refl, sym, ap, ◌∙◌, arith, reverse, All}
use Rattle.std.specs.Prelude.{if◌then◌else◌}
use Rattle.std.proofs.lemmas.List.{reverse-append}
use Rattle.wm_access.specs.declared.AccessWidth.{AccessWidth}
use Rattle.wm_access.specs.declared.AccessWidth.TheVariants.{One, Two, Four, Eight}
use Rattle.wm_access.specs.AccessWidth.{Fits, bytes_of}
use Rattle.wm_event.specs.declared.event.EventKey.{EventKey}
use Rattle.wm_event.specs.declared.op.OpFields.{OpFields}
use Rattle.wm_event.specs.declared.op.OpKind.{OpKind}
use Rattle.wm_event.specs.declared.op.OpKind.TheVariants.{Read, Write, Rmw, CmpXchg}
use Rattle.wm_event.specs.Event.{kind_reads}
use Rattle.wm_event.specs.Op.{event_made, kind_finds, made_kind, made_read}
use Rattle.wm_machine.specs.State.{value_or_zero}
use Rattle.wm_memory.specs.declared.history_step.HistoryStep.{HistoryStep}
use Rattle.wm_memory.specs.declared.history_step.HistoryStep.TheVariants.{Access, Drain}
use Rattle.wm_memory.specs.Memory.{drains_first, ready}
use Rattle.wm_memory.specs.Recorded.{events_of}
use Rattle.wm_memory.specs.Reply.{reply_after}
use Rattle.wm_memory.specs.Visibility.{Drained, Step, made_after, seen, step_of, steps, value_at, visible}
use Rattle.wm_memory.proofs.Digits.{value_below}
use Rattle.wm_memory.proofs.Values.{seen_below}
use Rattle.wm_recorder.specs.Transcript.{access_items}
use Rattle.wm_recorder.proofs.Recording.{reads_made}
use Rattle.wm_replay.proofs.Following.{no_read as no_value}

fits_zero : (w : AccessWidth) → Fits w 0
fits_zero One = omega arith
fits_zero Two = omega arith
fits_zero Four = omega arith
fits_zero Eight = omega arith

read_fits : (kind : OpKind) (w : AccessWidth) (r : ℕ) → Fits w r → Fits w (made_read kind r)
read_fits Read w r h = h
read_fits (Write v) w r h = fits_zero w
read_fits (Rmw op v) w r h = h
read_fits (CmpXchg expected new) w r h = h

-- what an access reads fits its width
pub fits_after : (initial : List ℕ) (s : List Step) (t : ℕ) (op : OpFields) → All (λ b. b < 256) initial → Fits op.width (made_after initial s t op).read
fits_after initial s t op bytes =
    read_fits op.kind op.width _
    (value_below (seen initial (visible s t)) (λ a. seen_below initial (visible s t) a bytes) op.address (bytes_of op.width))

again : (key : EventKey) (op : OpFields) (kind : OpKind) (r : ℕ) → event_made key (record op { kind = kind }) (made_read kind r) ≡ event_made key (record op { kind = kind }) r
again key op Read r = refl
again key op (Write v) r = refl
again key op (Rmw operator v) r = refl
again key op (CmpXchg expected new) r = refl

-- the value that the event reads makes it again
pub made_again : (key : EventKey) (op : OpFields) (r : ℕ) → event_made key op (event_made key op r).read ≡ event_made key op r
made_again key op r = again key op op.kind r

value_as : (b : Bool) (v : ℕ) → (b ≡ false → v ≡ 0) → value_or_zero (if b then Some v else None) ≡ v
value_as true v h = refl
value_as false v h = sym (h refl)

-- what the reply brings is what the event reads
pub reply_value : (initial : List ℕ) (s : List Step) (t : ℕ) (op : OpFields) → value_or_zero (reply_after initial s t op).read ≡ (made_after initial s t op).read
reply_value initial s t op =
    let r = value_at (seen initial (visible s t)) op.address (bytes_of op.width) in
    value_as (kind_reads (made_kind op.kind r)) (made_after initial s t op).read (λ e. no_value op.kind r (sym (reads_made op.kind r) ∙ e))

-- an access that doesn't read brings 0
pub no_read : (initial : List ℕ) (s : List Step) (t : ℕ) (op : OpFields) → kind_finds op.kind ≡ false → (made_after initial s t op).read ≡ 0
no_read initial s t op e = no_value op.kind _ e

added_by : (initial : List ℕ) (h : List HistoryStep) (t : ℕ) (op : OpFields) (b : Bool)
    → let s = if b then Drained t 0 ∷ steps initial (reverse h) else steps initial (reverse h) in
    steps initial (reverse (h ++ access_items b t op)) ≡ step_of initial s (Access t op) ∷ s
added_by initial h t op true = ap (steps initial) (reverse-append h (Drain t ∷ Access t op ∷ []))
added_by initial h t op false = ap (steps initial) (reverse-append h (Access t op ∷ []))

-- what an access adds to the steps, after the drain that a full buffer forces
pub added : (initial : List ℕ) (h : List HistoryStep) (t : ℕ) (op : OpFields)
    → let s = steps initial (reverse h) in
    steps initial (reverse (h ++ access_items (drains_first s t op) t op)) ≡ step_of initial (ready s t op) (Access t op) ∷ ready s t op
added initial h t op = added_by initial h t op (drains_first (steps initial (reverse h)) t op)

pub one_added : (initial : List ℕ) (h : List HistoryStep) (item : HistoryStep) → steps initial (reverse (h ++ item ∷ [])) ≡ step_of initial (steps initial (reverse h)) item ∷ steps initial (reverse h)
one_added initial h item = ap (steps initial) (reverse-append h (item ∷ []))

ready_by : (s : List Step) (t u : ℕ) (b : Bool) → events_of (if b then Drained t 0 ∷ s else s) u ≡ events_of s u
ready_by s t u true = refl
ready_by s t u false = refl

-- a drain makes no event
pub ready_events : (s : List Step) (t u : ℕ) (op : OpFields) → events_of (ready s t op) u ≡ events_of s u
ready_events s t u op = ready_by s t u (drains_first s t op)
