-- The bytes of a read, one after the other.
use Rattle.std.proofs.Common.{◌≡◌, ℕ, [], ◌∷◌, List, ◌<◌, Some, subst, get_or, slice_get, rules, arith}
use Rattle.std.proofs.lemmas.Option.{slice_get-get_or}
use Rattle.wm_event.specs.declared.event.EventId.{EventId}
use Rattle.wm_event.specs.declared.event.EventId.TheVariants.{Init}
use Rattle.wm_event.specs.Event.{key_of}
use Rattle.wm_event.specs.Execution.{ReadsFrom}
use Rattle.wm_event.specs.Faults.{Breaks, rank}
use Rattle.wm_event.specs.LoggedRun.{LoggedRun, execution}
use Rattle.wm_event.specs.Witness.{writers_in}
use Rattle.wm_event.proofs.Scan.{scan-more}
use Rattle.wm_hb.proofs.Parts.{byte_found, bytes_none}
use Rattle.wm_rules.proofs.SequentialConsistencyLemmas.{consistency_byte, repeated_none}
use Rattle.wm_rules.proofs.sequential_consistency.consistency_fault.Goals as goal
use Rattle.wm_rules.proofs.sequential_consistency.consistency_fault.Goals.{then-not-has_earlier+else-is_some, else-not-has_earlier}

pub returns-then-is_some : goal.returns-then-is_some
returns-then-is_some c =
    byte_found (execution c.args.relation.now) 5 c.args.event.now.thread c.args.event.now.number c.loop-byte.byte c.consistency_fault_at-fault.result (search rules) (search rules) c.loop-byte.invariant

pub loop-byte-preserved : goal.loop-byte-preserved
loop-byte-preserved c =
    let x = execution c.args.relation.now in
    let e = c.args.event.now in
    let k = c.loop-byte.byte in
    let w = get_or c.writers-writers.result.now k Init in
    let items : c.writers-writers.result.now ≡ writers_in c.args.relation.now.witness (key_of e) = search rules in
    let reads : ReadsFrom x (key_of e) k w = subst (λ (ws : List EventId). slice_get ws k ≡ Some w) items (slice_get-get_or c.writers-writers.result.now k Init (omega arith)) in
    elim c.if-not-has_earlier.branch [
      | then-not-has_earlier+else-is_some b ↦
          scan-more (rank x) (Breaks x) (5 ∷ e.thread ∷ e.number ∷ []) k b.consistency_fault_at-fault.result (search rules) b.consistency_fault_at-fault.ensures c.loop-byte.invariant
      | else-not-has_earlier b ↦
          let first : (j : ℕ) × (j < k) × ReadsFrom x (key_of e) j w = subst (λ (run : LoggedRun). (j : ℕ) × (j < k) × ReadsFrom (execution run) (key_of e) j w) c.candidate-in-loop-byte.ensures.value (c.has_earlier.ensures.0 (search rules)) in
          repeated_none x e first.0 k w c.requires first.2 reads first.1 c.loop-byte.invariant
    ]

pub returns : goal.returns
returns c =
    bytes_none (execution c.args.relation.now) 5 c.args.event.now.thread c.args.event.now.number c.loop-byte.byte
    (λ f u. let l = consistency_byte (execution c.args.relation.now) c.args.event.now.thread c.args.event.now.number c.writers-writers.result.now (search rules) f u in omega arith)
    c.loop-byte.invariant
