-- What was written is read again.
use Rattle.std.proofs.Common.{◌≡◌, ◌≤◌, ◌<◌, ℕ, List, length, Result, Ok, Err, sym}
use Rattle.std.proofs.Math.Nat.{lt_of_not-le}
use Rattle.std.specs.Prelude.{IfOk, IfErr}
use Rattle.wm_event.specs.declared.log.ThreadLog.{ThreadLog}
use Rattle.wm_event.specs.declared.witness.Witness.{Witness}
use Rattle.wm_event.specs.Log.{IsLog}
use Rattle.wm_logfile.specs.declared.fault.DocFault.{DocFault}
use Rattle.wm_logfile.specs.declared.fault.DocFault.TheVariants.{OutOfMemory}
use Rattle.wm_logfile.specs.Document.{IsWithinLimits, Spells}
use Rattle.wm_logfile.specs.DocumentBytes.{IsDocumentOf, IsNoDocument}

abbrev Read : Type 0
Read = Result (List ThreadLog × Witness) DocFault

pub same_again : (bytes : List ℕ) (r : Read) (log : List ThreadLog) (w : Witness) → (length bytes ≤ 8388608 → IsDocumentOf bytes log w)
    → IfOk r (λ p. (length bytes ≤ 8388608) × IsLog p.0 × IsWithinLimits p.0 p.1)
    → IfOk r (λ p. (l : List ThreadLog) → (v : Witness) → IsLog l → IsWithinLimits l v → Spells bytes l v → (l ≡ p.0) × (v ≡ p.1))
    → IfOk r (λ p. (p.0 ≡ log) × (p.1 ≡ w))
same_again bytes (Ok p) log w written within only =
    let document = written within.0 in
    let one = only log w document.is_log document.limits document.spelled in
    (sym one.0, sym one.1)
same_again bytes (Err e) log w written within only = tt

pub too_long : (bytes : List ℕ) (r : Read) (log : List ThreadLog) (w : Witness) → (length bytes ≤ 8388608 → IsDocumentOf bytes log w)
    → IfErr r (λ e. (e ≡ OutOfMemory → ⊥) → IsNoDocument bytes e)
    → IfErr r (λ e. (e ≡ OutOfMemory → ⊥) → 8388608 < length bytes)
too_long bytes (Ok p) log w written refused = tt
too_long bytes (Err e) log w written refused = λ memory.
    lt_of_not-le (λ small. (refused memory).no_document log w (written small))
