-- The faults of V3 at a byte.
use Rattle.std.proofs.Common.{◌≡◌, ℕ, ◌≤◌, List, [], ◌∷◌, Option, None, Some, IsSome, arith, refl, slice_get, ◌+◌, sym, subst}
use Rattle.std.specs.Option.{option_map}
use Rattle.wm_event.specs.declared.event.Event.{Event}
use Rattle.wm_event.specs.declared.event.EventKey.{EventKey}
use Rattle.wm_event.specs.declared.event.EventId.{EventId}
use Rattle.wm_event.specs.declared.event.EventId.TheVariants.{Init, At}
use Rattle.wm_event.specs.declared.rule.Rule.TheVariants.{Coherence}
use Rattle.wm_event.specs.declared.rule.RuleFault.{RuleFault}
use Rattle.wm_event.specs.Event.{key_of}
use Rattle.wm_event.specs.Execution.{Execution, ReadsFrom}
use Rattle.wm_event.specs.Faults.{AtRead, Breaks, BreaksRule, BreaksCoherence, reads_future, written_between, rank}
use Rattle.wm_event.specs.First.{Under}
use Rattle.wm_event.specs.HappensBefore.{Chain, HappensBefore}
use Rattle.wm_event.specs.LoggedRun.{LoggedRun, execution}
use Rattle.wm_event.specs.Shape.{ListsEachOnce}
use Rattle.std.specs.List.{filter}
use Rattle.std.specs.Prelude.{unwrap_or}
use Rattle.wm_event.specs.declared.writes.ByteWrite.{ByteWrite}
use Rattle.wm_event.specs.Rules.{KeepsOrder}
use Rattle.wm_event.specs.Writes.{writes_byte, writes_from}
use Rattle.wm_hb.specs.Between.{stands_between}
use Rattle.wm_rules.specs.Between.{IsPlaceOf}
use Rattle.wm_rules.proofs.BetweenLemmas.{Covers, covers_between}
use Rattle.wm_rules.specs.Others.{FindsListed, IsWrittenBetween}
use Rattle.wm_hb.specs.Scan.{Finds, IsEventOf}
use Rattle.wm_rules.proofs.Before.{before_from}
use Rattle.wm_rules.proofs.CaseLemmas.{finds_other, other_no_later}
use Rattle.wm_hb.proofs.FaultLemmas.{read_moves, rule_three, same_key_parts}

-- nothing happens before Init
pub nothing_before_init : (x : Execution) (a : EventId) → HappensBefore x a Init → ⊥
nothing_before_init x a h = none a h.0 h.1
  where
    none : (a : EventId) (between : List EventId) → Chain x a between Init → ⊥
    none Init [] c = c
    none (At a) [] c = c
    none a (m ∷ ms) c = none m ms c.1

-- the meaning of a fault of V3 at a byte
pub coherence_says : (x : Execution) (e : Event) (k : ℕ) (w : EventId) → IsEventOf x e → ReadsFrom x (key_of e) k w
    → (f : RuleFault) → Under (rank x) (Breaks x) (3 ∷ e.thread ∷ e.number ∷ k ∷ []) f → BreaksCoherence x (key_of e) e k w f.case f.other
coherence_says x e k w there reads f u =
    let says : AtRead x f (λ e. BreaksCoherence x f.event e f.byte f.writer f.case f.other) = subst (BreaksRule x f) (rule_three f.rule u.1.0) u.0 in
    read_moves x (λ r e k w. BreaksCoherence x r e k w f.case f.other) (key_of e) f.event e says.0 k f.byte w f.writer
    (same_key_parts f.event (key_of e) u.1.1.0 u.1.1.1.0) u.1.1.1.1.0 there says.1 reads says.2 says.3

coherence_cases : (x : Execution) (r : EventKey) (e : Event) (k : ℕ) (w : EventId) (c : ℕ) (other : Option EventId) → BreaksCoherence x r e k w c other → (1 ≤ c) × (c ≤ 2)
coherence_cases x r e k w c other (reads_future is none before) = (omega arith, omega arith)
coherence_cases x r e k w c other (written_between is v o writes after before) = (omega arith, omega arith)

pub coherence_case : (x : Execution) (e : Event) (k : ℕ) (w : EventId) → IsEventOf x e → ReadsFrom x (key_of e) k w
    → (f : RuleFault) → Under (rank x) (Breaks x) (3 ∷ e.thread ∷ e.number ∷ k ∷ []) f → (1 ≤ f.case) × (f.case ≤ 2)
coherence_case x e k w there reads f u = coherence_cases x (key_of e) e k w f.case f.other (coherence_says x e k w there reads f u)

under_case : (x : Execution) (t i k c : ℕ) (f : RuleFault) → Under (rank x) (Breaks x) (3 ∷ t ∷ i ∷ k ∷ c ∷ []) f → Under (rank x) (Breaks x) (3 ∷ t ∷ i ∷ k ∷ []) f
under_case x t i k c f u = (u.0, (u.1.0, (u.1.1.0, (u.1.1.1.0, (u.1.1.1.1.0, tt)))))

-- the first case: the read happens before the writer
future_says : (x : Execution) (r : EventKey) (e : Event) (k : ℕ) (w : EventId) (c : ℕ) (other : Option EventId) → BreaksCoherence x r e k w c other → c ≡ 1 → HappensBefore x (At r) w
future_says x r e k w c other (reads_future is none before) one = before
future_says x r e k w c other (written_between is v o writes after before) one = absurd (omega arith)

pub future_none : (x : Execution) (e : Event) (k : ℕ) (w : EventId) → IsEventOf x e → ReadsFrom x (key_of e) k w → (HappensBefore x (At (key_of e)) w → ⊥) → Finds x (3 ∷ e.thread ∷ e.number ∷ k ∷ 1 ∷ []) None
future_none x e k w there reads not f u =
    not (future_says x (key_of e) e k w f.case f.other (coherence_says x e k w there reads f (under_case x e.thread e.number k 1 f u)) u.1.1.1.1.1.0)

pub future_some : (x : Execution) (e : Event) (k : ℕ) (w : EventId) → IsEventOf x e → ReadsFrom x (key_of e) k w → HappensBefore x (At (key_of e)) w
    → Finds x (3 ∷ e.thread ∷ e.number ∷ k ∷ 1 ∷ []) (Some (record { rule = Coherence; case = 1; event = key_of e; byte = k; writer = w; other = None }))
future_some x e k w there reads before =
    let f : RuleFault = record { rule = Coherence; case = 1; event = key_of e; byte = k; writer = w; other = None } in
    let u : Under (rank x) (Breaks x) (3 ∷ e.thread ∷ e.number ∷ k ∷ 1 ∷ []) f = ((e, there, reads, reads_future refl refl before), (refl, (refl, (refl, (refl, (refl, tt)))))) in
    record { holds = u; first = λ g v. other_no_later x 3 e.thread e.number k 1 f g u.1 v.1 (omega arith) }

-- the second: a write of the byte happens between
between_says : (run : LoggedRun) (r : EventKey) (e : Event) (k : ℕ) (w : EventId) (c : ℕ) (other : Option EventId) → BreaksCoherence (execution run) r e k w c other → c ≡ 2
    → (v : EventKey) × (other ≡ Some (At v)) × IsSome ((execution run).event_of v) × IsWrittenBetween (execution run) r e k w (At v)
between_says run r e k w c other (reads_future is none before) two = absurd (omega arith)
between_says run r e k w c other (written_between is Init o writes after before) two = absurd (nothing_before_init (execution run) w after)
between_says run r e k w c other (written_between is (At v) o writes after before) two = (v, o, before_from run (At v) (At r) before, record { writes = writes; after = after; before = before })

pub between_finds : (run : LoggedRun) (e : Event) (k : ℕ) (w : EventId) → ListsEachOnce run.log run.witness.order → IsEventOf (execution run) e → ReadsFrom (execution run) (key_of e) k w
    → (r : Option EventKey) → FindsListed run.witness.order (λ v. IsWrittenBetween (execution run) (key_of e) e k w (At v)) r
    → Finds (execution run) (3 ∷ e.thread ∷ e.number ∷ k ∷ 2 ∷ []) (option_map (λ v. record { rule = Coherence; case = 2; event = key_of e; byte = k; writer = w; other = Some (At v) }) r)
between_finds run e k w once there reads =
    finds_other run once 3 e.thread e.number k 2 (λ v. IsWrittenBetween (execution run) (key_of e) e k w (At v))
    (λ v. record { rule = Coherence; case = 2; event = key_of e; byte = k; writer = w; other = Some (At v) })
    (λ f u. between_says run (key_of e) e k w f.case f.other (coherence_says (execution run) e k w there reads f (under_case (execution run) e.thread e.number k 2 f u)) u.1.1.1.1.1.0)
    (λ v h. ((e, there, reads, written_between refl (At v) refl h.writes h.after h.before), (refl, (refl, (refl, (refl, (refl, tt)))))))
    (λ v. refl)

-- the writes of a byte between its writer and the read have each that happens between the two
pub covers_written : (run : LoggedRun) → ListsEachOnce run.log run.witness.order → KeepsOrder (execution run) → (e : Event) (k : ℕ) (w : EventId) (start : Option ℕ) (end : ℕ) (part : List ByteWrite)
    → IsPlaceOf run.witness.order start w → slice_get run.witness.order end ≡ Some (key_of e)
    → part ≡ filter (stands_between (unwrap_or start 0) end) (writes_from run.log (e.address + k) 0 run.witness.order)
    → Covers run.witness.order part (λ key. IsWrittenBetween (execution run) (key_of e) e k w (At key))
covers_written run once agrees e k w start end part is at same =
    subst (λ (xs : List ByteWrite). Covers run.witness.order xs (λ key. IsWrittenBetween (execution run) (key_of e) e k w (At key))) (sym same)
    (covers_between run once w start (unwrap_or start 0) end (key_of e) is refl at (writes_byte run.log (e.address + k)) (e.address + k) (λ key. IsWrittenBetween (execution run) (key_of e) e k w (At key))
    (λ v p. (p.writes, agrees w (At v) p.after, agrees (At v) (At (key_of e)) p.before)))
