-- By a reading of "overlapping" that relates fewer ranges, more executions are valid.
use Rattle.wm_standard.specs.SharedEvents.{HaveCommonBytes, HaveOverlappingRanges, Reading, SharedEvent}
use Rattle.wm_standard.specs.CandidateExecution.{CandidateExecution}
use Rattle.wm_standard.specs.Relations.{HappensBefore}
use Rattle.wm_standard.specs.Relations.HappensBefore.{in_agent, initial, synchronized as synchronizes, through}
use Rattle.wm_standard.specs.ValidExecution.{IsValidExecution, Overtakes}
use Rattle.wm_standard.specs.ValidExecution.Overtakes.{read_past, synchronized, written_over}
use Rattle.wm_standard.specs.InitialBytes.{IsAllowedByBytes, byte_candidate_of, byte_order_of}
use Rattle.wm_standard.proofs.ByteAgreement.{to-bytes-standard}

module _ {E : Type 0} (wide narrow : Reading) (fewer : (f g : SharedEvent) → narrow f g → wide f g) (x : CandidateExecution E) where
  pub before-wide : {e d : E} → HappensBefore narrow x e d → HappensBefore wide x e d
  before-wide {e} {d} (in_agent o) = in_agent o
  before-wide {e} {d} (synchronizes s) = synchronizes s
  before-wide {e} {d} (initial f g is_e is_d is apart overlap) = initial f g is_e is_d is apart (fewer f g overlap)
  before-wide {e} {d} (through h k) = through (before-wide h) (before-wide k)

  overtakes-wide : (r w v : E) (f g h : SharedEvent) → Overtakes narrow x r w v f g h → Overtakes wide x r w v f g h
  overtakes-wide r w v f g h (synchronized s equal) = synchronized s equal
  overtakes-wide r w v f g h (written_over first second atomic equal) = written_over (before-wide first) (before-wide second) atomic equal
  overtakes-wide r w v f g h (read_past first second atomic equal) = read_past (before-wide first) (before-wide second) atomic equal

  pub valid-narrow : (before : E → E → Type 0) → IsValidExecution wide x before → IsValidExecution narrow x before
  valid-narrow before valid = record {
    reads_bytes_from = valid.reads_bytes_from;
    host = valid.host;
    strict = λ e h. valid.strict e (before-wide h);
    chosen = valid.chosen;
    coherent = λ r f is does i w at.
        let p = valid.coherent r f is does i w at in
        (λ h. p.0 (before-wide h), λ v g is_v writes_v within h j. p.1 v g is_v writes_v within (before-wide h) (before-wide j));
    tear_free = valid.tear_free;
    memory_order = record {
      irreflexive = valid.memory_order.irreflexive;
      transitive = valid.memory_order.transitive;
      total = valid.memory_order.total;
      keeps_happens_before = λ e d h. valid.memory_order.keeps_happens_before e d (before-wide h);
      keeps_atomics = λ r w v f g h from is_w is_v does atomic first second o. valid.memory_order.keeps_atomics r w v f g h from is_w is_v does atomic first second (overtakes-wide r w v f g h o);
      finite = valid.memory_order.finite;
    };
  }

pub is-allowed-by-bytes : IsAllowedByBytes
is-allowed-by-bytes run ops shape fitting large valid values =
    valid-narrow HaveCommonBytes HaveOverlappingRanges (λ f g h. h.0) (byte_candidate_of run ops) (byte_order_of run) (to-bytes-standard run ops shape fitting large valid values)
