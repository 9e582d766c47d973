-- A reply reads exactly where its access does, and what it reads fits.
use Rattle.std.proofs.Common.{ℕ, Bool, true, false, cond, Some, None, subst, sym}
use Rattle.std.specs.Prelude.{◌==◌}
use Rattle.wm_access.specs.declared.AccessWidth.{AccessWidth}
use Rattle.wm_access.specs.AccessWidth.{bytes_of, Fits}
use Rattle.wm_event.specs.declared.event.EventKind.TheVariants as event
use Rattle.wm_event.specs.declared.op.OpFields.{OpFields as Op}
use Rattle.wm_event.specs.declared.op.OpKind.{OpKind}
use Rattle.wm_event.specs.declared.op.OpKind.TheVariants.{Read, Write, Rmw, CmpXchg}
use Rattle.wm_event.specs.declared.op.Reply.{Reply}
use Rattle.wm_event.specs.Event.{kind_reads}
use Rattle.wm_event.specs.Op.{kind_finds, made_kind, made_read}
use Rattle.wm_event.specs.Reply.{ReadAnswers}
use Rattle.wm_memory.specs.Memory.{ready}
use Rattle.wm_memory.specs.Visibility.{seen, visible, value_at}
use Rattle.wm_memory.proofs.Digits.{value_below}
use Rattle.wm_memory.proofs.Values.{seen_below}
use Rattle.wm_recorder.specs.Recorder.{Recording, IsRecording, StepsAccess, initial_of, steps_of}

read_answers : (kind : OpKind) (width : AccessWidth) (v : ℕ) → Fits width v → ReadAnswers (kind_finds kind) width (cond (kind_reads (made_kind kind v)) (Some (made_read kind v)) None)
read_answers Read width v fits = fits
read_answers (Write x) width v fits = tt
read_answers (Rmw operator x) width v fits = fits
read_answers (CmpXchg expected new) width v fits = either (v == expected)
  where
    either : (b : Bool) → ReadAnswers true width (cond (kind_reads (cond b event.Update event.Read)) (Some v) None)
    either true = fits
    either false = fits

pub reply_answers : (t : ℕ) (op : Op) (old new : Recording) (given : Reply) → IsRecording old → StepsAccess t op old given new → ReadAnswers (kind_finds op.kind) op.width given.read
reply_answers t op old new given is step =
    let initial = initial_of old in
    let s = ready (steps_of old) t op in
    subst (λ (r : Reply). ReadAnswers (kind_finds op.kind) op.width r.read) (sym step.reply)
    (read_answers op.kind op.width (value_at (seen initial (visible s t)) op.address (bytes_of op.width))
    (value_below (seen initial (visible s t)) (λ a. seen_below initial (visible s t) a is.bytes) op.address (bytes_of op.width)))
