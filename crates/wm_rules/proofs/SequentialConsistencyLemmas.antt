-- The cases of V5, and its faults at a byte.
use Rattle.std.proofs.Common.{◌≡◌, ◌==◌, ℕ, ◌<◌, ◌≤◌, [], ◌∷◌, Bool, IsTrue, ◌↔◌, Option, None, Some, IsSome, true, false, ◌≢◌, ◌+◌, ◌&&◌, List, length, slice_get, arith, refl, sym, ap, ◌∙◌, subst}
use Rattle.std.proofs.lemmas.Option.{same_Some, slice_get_within}
use Rattle.std.proofs.lemmas.Bool.Decides.{nat_tests}
use Rattle.wm_access.specs.AccessWidth.{bytes_of}
use Rattle.wm_access.specs.declared.AccessWidth.{AccessWidth}
use Rattle.wm_access.specs.declared.AccessWidth.TheVariants.{One, Two, Four, Eight}
use Rattle.wm_event.specs.declared.event.Range.{Range}
use Rattle.wm_event.specs.AtomicWrites.{begins_atomic}
use Rattle.wm_event.proofs.Scan.{NoneBelow, none_below-more}
use Rattle.std.specs.Option.{option_map, option_map_or}
use Rattle.wm_event.specs.declared.event.Event.{Event}
use Rattle.wm_event.specs.declared.event.EventKey.{EventKey}
use Rattle.wm_event.specs.declared.event.EventId.{EventId}
use Rattle.wm_event.specs.declared.event.EventId.TheVariants.{Init, At}
use Rattle.wm_event.specs.declared.rule.Rule.TheVariants.{SequentialConsistency}
use Rattle.wm_event.specs.declared.rule.RuleFault.{RuleFault}
use Rattle.wm_event.specs.Event.{is_atomic, key_of, range_of, writes}
use Rattle.wm_event.specs.Execution.{Execution, ReadsFrom, event_at, place}
use Rattle.wm_event.specs.Faults.{AtRead, Breaks, BreaksRule, BreaksSequentialConsistency, rank}
use Rattle.wm_event.specs.First.{Under}
use Rattle.wm_event.specs.HappensBefore.{HappensBefore, SynchronizesWith}
use Rattle.wm_event.specs.LoggedRun.{LoggedRun, execution}
use Rattle.wm_event.specs.Log.{event_in}
use Rattle.wm_event.specs.Rules.{HasRange, IsAtomicWrite, KeepsOrder, Overtakes, synchronized, written_over, read_past}
use Rattle.wm_event.specs.Shape.{ListsEachOnce}
use Rattle.wm_rules.specs.declared.cases.OvertakingCase.{OvertakingCase}
use Rattle.wm_rules.specs.declared.cases.OvertakingCase.TheVariants.{Synchronized, WrittenOver, ReadPast}
use Rattle.wm_rules.specs.Cases.{overtaking_number}
use Rattle.wm_rules.specs.Others.{FindsListed, IsOutOfOrder}
use Rattle.wm_rules.specs.Overtaking.{IsPast, IsRangeBy}
use Rattle.wm_hb.proofs.SequenceLemmas.{before_join}
use Rattle.wm_rules.proofs.ThreadLemmas.{HoldsSooner}
use Rattle.wm_hb.specs.Scan.{Finds, IsEventOf}
use Rattle.wm_rules.proofs.CaseLemmas.{finds_other}
use Rattle.wm_hb.proofs.FaultLemmas.{read_moves, rule_five, same_key_parts, some_of}

-- of a writer that synchronizes with the read
pub synchronized_if : (x : Execution) (w v : EventId) (u r : EventKey) (e : Event) (b : Bool) → w ≡ At u → SynchronizesWith x u r → IsTrue b ↔ HasRange x v e → IsTrue b ↔ Overtakes x w v r e 1
synchronized_if x w v u r e b is sw range = (λ h. synchronized refl u is sw (range.0 h), λ o. back o)
  where
    back : Overtakes x w v r e 1 → IsTrue b
    back (synchronized one t at s h) = range.1 h
    back (written_over two f at atomic wr vr h) = absurd (omega arith)
    back (read_past three atomic wr wv h) = absurd (omega arith)

-- of an atomic writer that happens before the read, and whose range the other write has
pub written_over_if : (x : Execution) (w v : EventId) (r : EventKey) (e f : Event) (b : Bool) → event_at x w ≡ Some f → IsTrue (is_atomic f) → HasRange x v f → HappensBefore x w (At r)
    → IsTrue b ↔ HappensBefore x v (At r) → IsTrue b ↔ Overtakes x w v r e 2
written_over_if x w v r e f b at atomic range wr vr = (λ h. written_over refl f at atomic wr (vr.0 h) range, λ o. back o)
  where
    back : Overtakes x w v r e 2 → IsTrue b
    back (synchronized one t is s h) = absurd (omega arith)
    back (written_over two g is a wr2 vr2 h) = vr.1 vr2
    back (read_past three a wr2 wv h) = absurd (omega arith)

-- of a write that is between the writer and the read
pub out_of_order_if : (x : Execution) (w v : EventId) (r : EventKey) (e : Event) (c : ℕ) (b : Bool) → IsAtomicWrite x v → place x w < place x v → place x v < place x (At r)
    → IsTrue b ↔ Overtakes x w v r e c → IsTrue b ↔ BreaksSequentialConsistency x r e w v c
out_of_order_if x w v r e c b write after before over =
    (λ h. record { write = write; between = (after, before); overtakes = over.0 h }, λ (h : BreaksSequentialConsistency x r e w v c). over.1 h.overtakes)

overtakes_case : (x : Execution) (w v : EventId) (r : EventKey) (e : Event) (c : ℕ) → Overtakes x w v r e c → (1 ≤ c) × (c ≤ 3)
overtakes_case x w v r e c (synchronized is t at s h) = (omega arith, omega arith)
overtakes_case x w v r e c (written_over is f at a wr vr h) = (omega arith, omega arith)
overtakes_case x w v r e c (read_past is a wr wv h) = (omega arith, omega arith)

-- the meaning of a fault of V5 at a byte
pub consistency_says : (x : Execution) (e : Event) (k : ℕ) (w : EventId) → IsEventOf x e → ReadsFrom x (key_of e) k w
    → (f : RuleFault) → Under (rank x) (Breaks x) (5 ∷ e.thread ∷ e.number ∷ k ∷ []) f → (v : EventId) × (f.other ≡ Some v) × BreaksSequentialConsistency x (key_of e) e w v f.case
consistency_says x e k w there reads f u =
    let says : (v : EventId) × (f.other ≡ Some v) × AtRead x f (λ e. BreaksSequentialConsistency x f.event e f.writer v f.case) = subst (BreaksRule x f) (rule_five f.rule u.1.0) u.0 in (
      says.0,
      says.1,
      read_moves x (λ r e k w. BreaksSequentialConsistency x r e w says.0 f.case) (key_of e) f.event e says.2.0 k f.byte w f.writer
          (same_key_parts f.event (key_of e) u.1.1.0 u.1.1.1.0) u.1.1.1.1.0 there says.2.1 reads says.2.2 says.2.3,
    )

pub consistency_case : (x : Execution) (e : Event) (k : ℕ) (w : EventId) → IsEventOf x e → ReadsFrom x (key_of e) k w
    → (f : RuleFault) → Under (rank x) (Breaks x) (5 ∷ e.thread ∷ e.number ∷ k ∷ []) f → (1 ≤ f.case) × (f.case ≤ 3)
consistency_case x e k w there reads f u =
    let s = consistency_says x e k w there reads f u in overtakes_case x w s.0 (key_of e) e f.case s.2.overtakes

under_case : (x : Execution) (t i k c : ℕ) (f : RuleFault) → Under (rank x) (Breaks x) (5 ∷ t ∷ i ∷ k ∷ c ∷ []) f → Under (rank x) (Breaks x) (5 ∷ t ∷ i ∷ k ∷ []) f
under_case x t i k c f u = (u.0, (u.1.0, (u.1.1.0, (u.1.1.1.0, (u.1.1.1.1.0, tt)))))

-- an atomic write is an event
event_of_write : (x : Execution) (r : EventKey) (e : Event) (w v : EventId) (o : Option EventId) (c : ℕ) → o ≡ Some v → BreaksSequentialConsistency x r e w v c
    → (u : EventKey) × (o ≡ Some (At u)) × IsSome (x.event_of u) × BreaksSequentialConsistency x r e w (At u) c
event_of_write x r e w Init o c is b = absurd (let none : None ≡ Some b.write.0 = b.write.1 in cc)
event_of_write x r e w (At u) o c is b = (u, is, some_of (x.event_of u) b.write.0 b.write.1, b)

pub out_of_order_finds : (run : LoggedRun) (e : Event) (k : ℕ) (w : EventId) (c : ℕ) → ListsEachOnce run.log run.witness.order → IsEventOf (execution run) e → ReadsFrom (execution run) (key_of e) k w
    → (r : Option EventKey) → FindsListed run.witness.order (λ v. BreaksSequentialConsistency (execution run) (key_of e) e w (At v) c) r
    → Finds (execution run) (5 ∷ e.thread ∷ e.number ∷ k ∷ c ∷ []) (option_map (λ v. record { rule = SequentialConsistency; case = c; event = key_of e; byte = k; writer = w; other = Some (At v) }) r)
out_of_order_finds run e k w c once there reads =
    finds_other run once 5 e.thread e.number k c (λ v. BreaksSequentialConsistency (execution run) (key_of e) e w (At v) c)
    (λ v. record { rule = SequentialConsistency; case = c; event = key_of e; byte = k; writer = w; other = Some (At v) })
    (λ f u.
    let s = consistency_says (execution run) e k w there reads f (under_case (execution run) e.thread e.number k c f u) in
    event_of_write (execution run) (key_of e) e w s.0 f.other c s.1 (subst (λ (d : ℕ). BreaksSequentialConsistency (execution run) (key_of e) e w s.0 d) u.1.1.1.1.1.0 s.2))
    (λ v h. ((At v, refl, (e, there, reads, h)), (refl, (refl, (refl, (refl, (refl, tt)))))))
    (λ v. refl)

-- an atomic write is one of its range
range_listed : (run : LoggedRun) (v : EventKey) (e : Event) → IsAtomicWrite (execution run) (At v) → HasRange (execution run) (At v) e → begins_atomic run.log e.width e.address v ≡ true
range_listed run v e write range =
    let same : write.0 ≡ range.0 = same_Some write.0 range.0 (sym write.1 ∙ range.1) in
    let ranges : range_of write.0 ≡ range_of e = ap range_of same ∙ range.2 in
    ap (λ (o : Option Event). option_map_or (λ (f : Event). (is_atomic f && (writes f && (bytes_of f.width == bytes_of e.width))) && (f.address == e.address)) o false) write.1
    ∙ all (is_atomic write.0) (writes write.0) (bytes_of write.0.width) (bytes_of e.width) write.0.address e.address write.2 write.3
    (ap (λ (r : Range). bytes_of r.width) ranges) (ap (λ (r : Range). r.address) ranges)
  where
    all : (a b : Bool) (m n k l : ℕ) → IsTrue a → IsTrue b → m ≡ n → k ≡ l → ((a && (b && (m == n))) && (k == l)) ≡ true
    all true true m n k l ta tb e f = grind (arith, nat_tests)
    all true false m n k l ta tb e f = absurd (cc)
    all false b m n k l ta tb e f = absurd (cc)

-- the write of a fault of V5 is an atomic write of the range of its case
pub overtaken_listed : (run : LoggedRun) (w : EventId) (v r : EventKey) (e : Event) (c : ℕ) (range : Range) → (c ≡ 2 → (f : Event) → event_at (execution run) w ≡ Some f → range ≡ range_of f) → (c ≢ 2 → range ≡ range_of e)
    → IsAtomicWrite (execution run) (At v) → Overtakes (execution run) w (At v) r e c → begins_atomic run.log range.width range.address v ≡ true
overtaken_listed run w v r e c range second others write (synchronized one t at s has) =
    ap (λ (q : Range). begins_atomic run.log q.width q.address v) (others (λ t. absurd (omega arith))) ∙ range_listed run v e write has
overtaken_listed run w v r e c range second others write (written_over two f at atomic wr vr has) =
    ap (λ (q : Range). begins_atomic run.log q.width q.address v) (second two f at) ∙ range_listed run v f write has
overtaken_listed run w v r e c range second others write (read_past three atomic wr wv has) =
    ap (λ (q : Range). begins_atomic run.log q.width q.address v) (others (λ t. absurd (omega arith))) ∙ range_listed run v e write has

-- and an event that is
pub breaking_there : (run : LoggedRun) (r : EventKey) (e : Event) (w : EventId) (v : EventKey) (c : ℕ) → BreaksSequentialConsistency (execution run) r e w (At v) c → IsSome (event_in run.log v)
breaking_there run r e w v c h = some_of (event_in run.log v) h.write.0 h.write.1

same_width : (v w : AccessWidth) → bytes_of v ≡ bytes_of w → v ≡ w
same_width One One e = refl
same_width One Two e = absurd (omega (arith, e))
same_width One Four e = absurd (omega (arith, e))
same_width One Eight e = absurd (omega (arith, e))
same_width Two One e = absurd (omega (arith, e))
same_width Two Two e = refl
same_width Two Four e = absurd (omega (arith, e))
same_width Two Eight e = absurd (omega (arith, e))
same_width Four One e = absurd (omega (arith, e))
same_width Four Two e = absurd (omega (arith, e))
same_width Four Four e = refl
same_width Four Eight e = absurd (omega (arith, e))
same_width Eight One e = absurd (omega (arith, e))
same_width Eight Two e = absurd (omega (arith, e))
same_width Eight Four e = absurd (omega (arith, e))
same_width Eight Eight e = refl

-- what passes the test of the range is an atomic write of the range
write_of_range : (run : LoggedRun) (range : Range) (v : EventKey) → begins_atomic run.log range.width range.address v ≡ true
    → (f : Event) × (event_in run.log v ≡ Some f) × IsTrue (is_atomic f) × IsTrue (writes f) × (range_of f ≡ range)
write_of_range run range v = of (event_in run.log v)
  where
    parts : (f : Event) (a b : Bool) (m n k l : ℕ) → ((a && (b && (m == n))) && (k == l)) ≡ true → IsTrue a × IsTrue b × (m ≡ n) × (k ≡ l)
    parts f true true m n k l h = (refl, refl, grind (arith, nat_tests), grind (arith, nat_tests))
    parts f true false m n k l h = absurd (cc)
    parts f false b m n k l h = absurd (cc)

    of : (o : Option Event) → option_map_or (λ (f : Event). (is_atomic f && (writes f && (bytes_of f.width == bytes_of range.width))) && (f.address == range.address)) o false ≡ true
        → (f : Event) × (o ≡ Some f) × IsTrue (is_atomic f) × IsTrue (writes f) × (range_of f ≡ range)
    of None h = absurd (cc)
    of (Some f) h =
        let p = parts f (is_atomic f) (writes f) (bytes_of f.width) (bytes_of range.width) f.address range.address h in
        let width : f.width ≡ range.width = same_width f.width range.width p.2 in
        let address : f.address ≡ range.address = p.3 in
        (f, refl, p.0, p.1, rw (width, address) refl)

-- the meaning of the third case
third_after : (x : Execution) (w v : EventId) (r : EventKey) (e : Event) (c : ℕ) → c ≡ 3 → Overtakes x w v r e c → HappensBefore x w v
third_after x w v r e c three (synchronized one t at s range) = absurd (omega arith)
third_after x w v r e c three (written_over two f at atomic wr vr range) = absurd (omega arith)
third_after x w v r e c three (read_past is atomic wr wv range) = wv

written_over_is : (case : OvertakingCase) → overtaking_number case ≡ 2 → case ≡ WrittenOver
written_over_is Synchronized is = absurd (omega (arith, is))
written_over_is WrittenOver is = refl
written_over_is ReadPast is = absurd (omega (arith, is))

read_past_is : (case : OvertakingCase) → overtaking_number case ≡ 3 → case ≡ ReadPast
read_past_is Synchronized is = absurd (omega (arith, is))
read_past_is WrittenOver is = absurd (omega (arith, is))
read_past_is ReadPast is = refl

-- an atomic write of the range of the case that is past the writer breaks V5 as soon as a write does that it happens before
breaks_sooner : (run : LoggedRun) → KeepsOrder (execution run) → (e : Event) (w : EventId) (case : OvertakingCase) (c : ℕ) → c ≡ overtaking_number case → (range : Range) → (c ≡ 2 → (f : Event) → event_at (execution run) w ≡ Some f → range ≡ range_of f) → (c ≢ 2 → range ≡ range_of e)
    → (u v : EventKey) → begins_atomic run.log range.width range.address u ≡ true → IsPast (execution run) w case (At u) → HappensBefore (execution run) (At u) (At v) → IsOutOfOrder run e w c v → IsOutOfOrder run e w c u
breaks_sooner run agrees e w case c same range second others u v is past b h =
    let x = execution run in
    let write = write_of_range run range u is in
    let o = agrees (At u) (At v) b in
    let before = h.between.1 in
    record {
      write = (write.0, write.1, write.2, write.3);
      between = (past.0, omega (arith, o, before));
      overtakes = over h.overtakes;
    }
  where
    over : Overtakes (execution run) w (At v) (key_of e) e c → Overtakes (execution run) w (At u) (key_of e) e c
    over (synchronized one t at s has) = let write = write_of_range run range u is in synchronized one t at s (write.0, write.1, write.4 ∙ others (λ t. absurd (omega arith)))
    over (written_over two f at atomic wr vr has) = let write = write_of_range run range u is in
        written_over two f at atomic wr (before_join (execution run) (At u) (At v) (At (key_of e)) b vr) (write.0, write.1, write.4 ∙ second two f at)
    over (read_past three atomic wr wv has) = let write = write_of_range run range u is in read_past three atomic wr (past.1 (read_past_is case (sym same ∙ three))) (write.0, write.1, write.4 ∙ others (λ t. absurd (omega arith)))

pub overtaking_sooner : (run : LoggedRun) → KeepsOrder (execution run) → (e : Event) (w : EventId) (case : OvertakingCase) (range : Range) → IsRangeBy (execution run) e w case range
    → HoldsSooner run (begins_atomic run.log range.width range.address) (λ v. IsPast (execution run) w case v) (IsOutOfOrder run e w (overtaking_number case))
overtaking_sooner run agrees e w case range by =
    let c = overtaking_number case in
    let second : c ≡ 2 → (f : Event) → event_at (execution run) w ≡ Some f → range ≡ range_of f = λ two. by.second (written_over_is case two) in
    let others : c ≢ 2 → range ≡ range_of e = λ other. by.others (λ over. other (ap overtaking_number over)) in
    record {
      there = λ v h. breaking_there run (key_of e) e w v c h;
      passes = λ v h. overtaken_listed run w v (key_of e) e c range second others h.write h.overtakes;
      holds = λ v h. (h.between.0, λ past. third_after (execution run) w (At v) (key_of e) e c (ap overtaking_number past) h.overtakes);
      sooner = λ u v is past b h. breaks_sooner run agrees e w case c refl range second others u v is past b h;
    }

-- what is past a writer is so of all that it happens before
pub past_onward : (run : LoggedRun) → KeepsOrder (execution run) → (w : EventId) (case : OvertakingCase) (u v : EventId) → HappensBefore (execution run) u v
    → IsPast (execution run) w case u → IsPast (execution run) w case v
past_onward run agrees w case u v b past =
    let o = agrees u v b in
    let after = past.0 in
    (omega (arith, o, after), λ third. before_join (execution run) w u v (past.1 third) b)

-- a fault of V5 is at one of the bytes that have a writer
pub consistency_byte : (x : Execution) (t i : ℕ) (writers : List EventId) → writers ≡ x.writers_of (record { thread = t; number = i }) → (f : RuleFault)
    → Under (rank x) (Breaks x) (5 ∷ t ∷ i ∷ []) f → f.byte < length writers
consistency_byte x t i writers same f u =
    let says : (v : EventId) × (f.other ≡ Some v) × AtRead x f (λ e. BreaksSequentialConsistency x f.event e f.writer v f.case) = subst (BreaksRule x f) (rule_five f.rule u.1.0) u.0 in
    let key : f.event ≡ record { thread = t; number = i } = same_key_parts f.event (record { thread = t; number = i }) u.1.1.0 u.1.1.1.0 in
    slice_get_within writers f.byte f.writer (ap (λ (ws : List EventId). slice_get ws f.byte) (same ∙ ap x.writers_of (sym key)) ∙ says.2.2)

-- a read that has a writer again has no fault there that it hadn't at the earlier byte
pub repeated_none : (x : Execution) (e : Event) (j k : ℕ) (w : EventId) → IsEventOf x e → ReadsFrom x (key_of e) j w → ReadsFrom x (key_of e) k w → j < k
    → NoneBelow (rank x) (Breaks x) (5 ∷ e.thread ∷ e.number ∷ []) k → NoneBelow (rank x) (Breaks x) (5 ∷ e.thread ∷ e.number ∷ []) (k + 1)
repeated_none x e j k w there first reads less none =
    none_below-more (rank x) (Breaks x) (5 ∷ e.thread ∷ e.number ∷ []) k none
    (λ f u.
    let s = consistency_says x e k w there reads f u in
    none j less (record { rule = SequentialConsistency; case = f.case; event = key_of e; byte = j; writer = w; other = f.other }) (s.0, s.1, (e, there, first, s.2)) (refl, (refl, (refl, (refl, tt)))))
