-- What is between a read and its one writer, and what it means for coherence and sequential consistency.
use Rattle.std.proofs.Common.{◌≡◌, ◌==◌, ℕ, ◌+◌, ◌<◌, ◌≤◌, List, [], ◌∷◌, Bool, IsTrue, not, true, false, Option, None, Some, IsSome, IfSome, arith, refl, length, slice_get, subst, ap, ◌∙◌, if◌then◌else◌}
use Rattle.std.specs.List.{filter}
use Rattle.std.proofs.lemmas.Bool.Decides.{nat_tests}
use Rattle.std.specs.Option.{option_map_or}
use Rattle.std.proofs.lemmas.Option.{slice_get_within}
use Rattle.wm_access.specs.AccessWidth.{bytes_of}
use Rattle.wm_event.specs.declared.event.Event.{Event}
use Rattle.wm_event.specs.declared.event.EventKey.{EventKey}
use Rattle.wm_event.specs.declared.event.EventId.{EventId}
use Rattle.wm_event.specs.declared.event.EventId.TheVariants.{Init, At}
use Rattle.wm_event.specs.declared.writes.ByteWrite.{ByteWrite}
use Rattle.wm_event.specs.AtomicWrites.{begins_atomic}
use Rattle.wm_event.specs.Writes.{listed_from}
use Rattle.wm_event.proofs.WritesLemmas.{in_filter, write_listed}
use Rattle.wm_event.specs.Event.{key_of, range_of, reads}
use Rattle.wm_event.specs.Execution.{ReadsFrom, event_at, place}
use Rattle.wm_event.specs.Faults.{AtRead, BreaksRule, BreaksCoherence, BreaksSequentialConsistency, reads_future, written_between}
use Rattle.wm_event.specs.HappensBefore.{HappensBefore}
use Rattle.wm_event.specs.LoggedRun.{LoggedRun, execution}
use Rattle.wm_event.specs.Rules.{KeepsOrder}
use Rattle.wm_event.specs.Shape.{IsWellShaped, ListsEachOnce}
use Rattle.wm_event.specs.Witness.{writers_in}
use Rattle.wm_hb.specs.Between.{stands_between}
use Rattle.wm_hb.proofs.BetweenLemmas.{between}
use Rattle.wm_rules.specs.Between.{IsPlaceOf}
use Rattle.wm_rules.specs.Near.{IsTrueIfIncoherent, IsTrueIfInconsistent}
use Rattle.wm_rules.specs.Others.{IsOnlyWriter, IsWrittenBetween}
use Rattle.wm_hb.specs.Scan.{Finds, IsEventOf}
use Rattle.wm_hb.proofs.FaultLemmas.{rule_five, rule_three, same_key_parts, some_of}
use Rattle.wm_rules.proofs.Before.{before_from}
use Rattle.wm_rules.proofs.BetweenLemmas.{stands_at}
use Rattle.wm_rules.proofs.CoherenceLemmas.{coherence_says, nothing_before_init}
use Rattle.wm_rules.proofs.SequentialConsistencyLemmas.{consistency_says, overtaken_listed}

-- a byte with a writer is one of the event's
pub byte_inside : (run : LoggedRun) → IsWellShaped run → (e : Event) (k : ℕ) (w : EventId) → IsEventOf (execution run) e → ReadsFrom (execution run) (key_of e) k w → k < bytes_of e.width
byte_inside run shape e k w there from =
    let count = (shape.good (key_of e) e there).count in
    let inside = slice_get_within (writers_in run.witness (key_of e)) k w from in
    below (reads e) (bytes_of e.width) k (omega (arith, inside, count))
  where
    below : (b : Bool) (n k : ℕ) → k < (if b then n else 0) → k < n
    below true n k less = less
    below false n k less = absurd (omega arith)

module _ (run : LoggedRun) (once : ListsEachOnce run.log run.witness.order) where
  -- a read doesn't happen before a writer that comes before it
  pub no_future : KeepsOrder (execution run) → (r : EventKey) (w : EventId) (start : Option ℕ) (end : ℕ) → IsPlaceOf run.witness.order start w → slice_get run.witness.order end ≡ Some r → IfSome start (λ n. n < end)
      → HappensBefore (execution run) (At r) w → ⊥
  no_future agrees r Init start end is at less before = nothing_before_init (execution run) (At r) before
  no_future agrees r (At w) None end is at less before = absurd (cc)
  no_future agrees r (At w) (Some n) end is at less before =
      let o = agrees (At r) (At w) before in
      let p = stands_at run once n w is in
      let q = stands_at run once end r at in
      absurd (omega (arith, o, p, q, less))

  -- what comes after a writer is listed from the place after the writer's on
  pub stands_after : (w : EventId) (start : Option ℕ) (n : ℕ) (v : EventKey) → IsPlaceOf run.witness.order start w → slice_get run.witness.order n ≡ Some v → place (execution run) w < place (execution run) (At v)
      → option_map_or (λ m. m + 1) start 0 ≤ n
  stands_after w None n v is at after = omega arith
  stands_after Init (Some m) n v is at after = absurd is
  stands_after (At w) (Some m) n v is at after =
      let p = stands_at run once n v at in
      let q = stands_at run once m w is in
      omega (arith, after, p, q)

  -- what comes before a read is listed before it
  pub stands_earlier : (r v : EventKey) (end n : ℕ) → slice_get run.witness.order end ≡ Some r → slice_get run.witness.order n ≡ Some v → place (execution run) (At v) < place (execution run) (At r) → n < end
  stands_earlier r v end n at_r at_v before =
      let p = stands_at run once n v at_v in
      let q = stands_at run once end r at_r in
      omega (arith, before, p, q)

-- where a read doesn't happen before its writer, an event breaks coherence that writes between the two
pub incoherent_says : (run : LoggedRun) (r : EventKey) (e : Event) (k : ℕ) (w : EventId) (c : ℕ) (other : Option EventId) → BreaksCoherence (execution run) r e k w c other → (HappensBefore (execution run) (At r) w → ⊥)
    → (v : EventKey) × IsSome ((execution run).event_of v) × IsWrittenBetween (execution run) r e k w (At v)
incoherent_says run r e k w c other (reads_future is none before) never = absurd (never before)
incoherent_says run r e k w c other (written_between is Init o writes after before) never = absurd (nothing_before_init (execution run) w after)
incoherent_says run r e k w c other (written_between is (At v) o writes after before) never = (v, before_from run (At v) (At r) before, record { writes = writes; after = after; before = before })

never_both : (b : Bool) → IsTrue b → IsTrue (not b) → ⊥
never_both true holds fails = absurd (cc)
never_both false holds fails = absurd (cc)

-- a read with one writer that doesn't break coherence has no fault of V3
pub coherent_none : (run : LoggedRun) (e : Event) (w : EventId) (b : Bool) → IsEventOf (execution run) e → IsOnlyWriter (execution run) (key_of e) w → IsTrueIfIncoherent run e w b → IsTrue (not b)
    → Finds (execution run) (3 ∷ e.thread ∷ e.number ∷ []) None
coherent_none run e w b there only if_incoherent is_not f u =
    let says : AtRead (execution run) f (λ e. BreaksCoherence (execution run) f.event e f.byte f.writer f.case f.other) = subst (BreaksRule (execution run) f) (rule_three f.rule u.1.0) u.0 in
    let key : f.event ≡ key_of e = same_key_parts f.event (key_of e) u.1.1.0 u.1.1.1.0 in
    let from : ReadsFrom (execution run) (key_of e) f.byte f.writer = subst (λ (r : EventKey). ReadsFrom (execution run) r f.byte f.writer) key says.2 in
    let same : f.writer ≡ w = only f.byte f.writer from in
    let breaks = coherence_says (execution run) e f.byte f.writer there from f (u.0, (u.1.0, (u.1.1.0, (u.1.1.1.0, (refl, tt))))) in
    never_both b
    (if_incoherent f.byte f.case f.other (subst (λ (v : EventId). ReadsFrom (execution run) (key_of e) f.byte v) same from)
    (subst (λ (v : EventId). BreaksCoherence (execution run) (key_of e) e f.byte v f.case f.other) same breaks))
    is_not

-- a write of a fault of V5 is one of the atomic writes of the read's range between the two
pub atomic_write_between : (run : LoggedRun) → ListsEachOnce run.log run.witness.order → (e : Event) (w v : EventId) (c : ℕ) (start : Option ℕ) (end first : ℕ) → IsPlaceOf run.witness.order start w
    → slice_get run.witness.order end ≡ Some (key_of e) → first ≡ option_map_or (λ m. m + 1) start 0 → ((f : Event) → event_at (execution run) w ≡ Some f → range_of e ≡ range_of f)
    → BreaksSequentialConsistency (execution run) (key_of e) e w v c → (part : List ByteWrite)
    → part ≡ filter (stands_between first end) (listed_from (begins_atomic run.log (range_of e).width (range_of e).address) (range_of e).address 0 run.witness.order)
    → 0 < length part
atomic_write_between run once e w Init c start end first is at next range breaks part same = absurd (let none : None ≡ Some breaks.write.0 = breaks.write.1 in cc)
atomic_write_between run once e w (At v) c start end first is at next range breaks part same =
    let listed = once.listed v (some_of ((execution run).event_of v) breaks.write.0 breaks.write.1) in
    let passes = overtaken_listed run w v (key_of e) e c (range_of e) (λ two f there. range f there) (λ other. refl) breaks.write breaks.overtakes in
    let a = (range_of e).address in
    let p = begins_atomic run.log (range_of e).width a in
    let after = stands_after run once w start listed.0 v is listed.1 breaks.between.0 in
    let before = stands_earlier run once (key_of e) v end listed.0 at listed.1 breaks.between.1 in
    let write = write_listed p a 0 run.witness.order listed.0 v listed.1 passes in
    let kept = in_filter (stands_between first end) (listed_from p a 0 run.witness.order) write.0 (record { address = a; place = 0 + listed.0 }) write.1 (between first end (0 + listed.0) a (omega (arith, after, next)) (omega (arith, before))) in
    let inside = slice_get_within part kept.0 (record { address = a; place = 0 + listed.0 }) (ap (λ (ws : List ByteWrite). slice_get ws kept.0) same ∙ kept.1) in
    omega (arith, inside)

-- a list with a length isn't empty
pub not_empty : (n : ℕ) → 0 < n → IsTrue (not (n == 0))
not_empty n some = grind (arith, nat_tests)

-- a read with one writer that no write overtakes has no fault of V5
pub consistent_none : (run : LoggedRun) (e : Event) (w : EventId) (b : Bool) → IsEventOf (execution run) e → IsOnlyWriter (execution run) (key_of e) w → IsTrueIfInconsistent run e w b → IsTrue (not b)
    → Finds (execution run) (5 ∷ e.thread ∷ e.number ∷ []) None
consistent_none run e w b there only if_inconsistent is_not f u =
    let says : (v : EventId) × (f.other ≡ Some v) × AtRead (execution run) f (λ e. BreaksSequentialConsistency (execution run) f.event e f.writer v f.case) = subst (BreaksRule (execution run) f) (rule_five f.rule u.1.0) u.0 in
    let key : f.event ≡ key_of e = same_key_parts f.event (key_of e) u.1.1.0 u.1.1.1.0 in
    let from : ReadsFrom (execution run) (key_of e) f.byte f.writer = subst (λ (r : EventKey). ReadsFrom (execution run) r f.byte f.writer) key says.2.2 in
    let same : f.writer ≡ w = only f.byte f.writer from in
    let breaks = consistency_says (execution run) e f.byte f.writer there from f (u.0, (u.1.0, (u.1.1.0, (u.1.1.1.0, (refl, tt))))) in
    never_both b
    (if_inconsistent breaks.0 f.case (subst (λ (v : EventId). BreaksSequentialConsistency (execution run) (key_of e) e v breaks.0 f.case) same breaks.2))
    is_not
