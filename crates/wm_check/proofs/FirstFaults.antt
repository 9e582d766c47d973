-- There is one first fault.
use Rattle.std.proofs.Common.{◌≡◌, ℕ, ◌+◌, eqb, cond, List, [], ◌∷◌, get_or, Option, None, Some, refl, sym, ap, subst, ◌∙◌, arith}
use Rattle.std.specs.Prelude.{IsSome, option_and_then, slice_get}
use Rattle.std.specs.Option.{option_map_or}
use Rattle.std.proofs.lemmas.Option.{same_Some}
use Rattle.wm_event.specs.declared.event.Event.{Event}
use Rattle.wm_event.specs.declared.event.EventId.{EventId}
use Rattle.wm_event.specs.declared.event.EventId.TheVariants.{Init, At}
use Rattle.wm_event.specs.declared.event.EventKey.{EventKey}
use Rattle.wm_event.specs.declared.rule.Rule.{Rule}
use Rattle.wm_event.specs.declared.rule.Rule.TheVariants.{WrittenValues, Order, Coherence, NoTearing, SequentialConsistency}
use Rattle.wm_event.specs.declared.rule.RuleFault.{RuleFault}
use Rattle.wm_event.specs.declared.shape_fault.ShapeFault.{ShapeFault}
use Rattle.wm_event.specs.declared.shape_fault.ShapeFault.TheVariants.{WriterCount, WriterMissing, OrderNotPermutation, RangeOutOfMemory, ValueTooWide, TooManyEvents, OutOfMemory}
use Rattle.wm_event.specs.Event.{byte_written}
use Rattle.wm_event.specs.Execution.{ReadsFrom, byte_by, event_at, place}
use Rattle.wm_event.specs.Faults.{Breaks, BreaksCoherence, BreaksOrder, BreaksRule, in_thread, rank, reads_future, rule_number, synchronized, written_between}
use Rattle.wm_event.specs.First.{IsFirst, NoLater}
use Rattle.wm_event.specs.Log.{event_in}
use Rattle.wm_event.specs.LoggedRun.{LoggedRun, execution}
use Rattle.wm_event.specs.Shape.{IsThere, IsWellShaped, ListsEachOnce, Misshapes, shape_rank}
use Rattle.wm_event.proofs.PlaceLemmas.{position_listed}

-- ---- ranks

no_later_both : (ms ns : List ℕ) → NoLater ms ns → NoLater ns ms → ms ≡ ns
no_later_both [] [] first second = refl
no_later_both [] (n ∷ ns) first second = absurd second
no_later_both (m ∷ ms) [] first second = absurd first
no_later_both (m ∷ ms) (n ∷ ns) first second =
    let same : m ≡ n = omega (arith, first.0, second.0) in
    ap (λ k. k ∷ ms) same ∙ ap (λ (ks : List ℕ). n ∷ ks) (no_later_both ms ns (first.1 same) (second.1 (sym same)))

one_rank : {X : Type 0} (rank : X → List ℕ) (P : X → Type 0) (x y : X) → IsFirst rank P x → IsFirst rank P y → rank x ≡ rank y
one_rank rank P x y first second = no_later_both (rank x) (rank y) (first.first y second.holds) (second.first x first.holds)

-- ---- the first fault of the shape

event_fault : ℕ → EventKey → ShapeFault
event_fault n key = cond (eqb n 0) (RangeOutOfMemory key) (cond (eqb n 1) (ValueTooWide key) (cond (eqb n 2) (WriterCount (Some key)) (WriterMissing key)))

-- the fault of that rank
abbrev fault_of : List ℕ → ShapeFault
fault_of ns =
    cond (eqb (get_or ns 0 0) 2) (event_fault (get_or ns 3 0) (record { thread = get_or ns 1 0; number = get_or ns 2 0 }))
    (cond (eqb (get_or ns 0 0) 0) TooManyEvents (cond (eqb (get_or ns 0 0) 1) (WriterCount None) (cond (eqb (get_or ns 0 0) 3) OrderNotPermutation OutOfMemory)))

fault_again : (f : ShapeFault) → fault_of (shape_rank f) ≡ f
unfolding event_fault
fault_again TooManyEvents = refl
fault_again (WriterCount None) = refl
fault_again (RangeOutOfMemory key) = refl
fault_again (ValueTooWide key) = refl
fault_again (WriterCount (Some key)) = refl
fault_again (WriterMissing key) = refl
fault_again OrderNotPermutation = refl
fault_again OutOfMemory = refl

pub one_shape_fault : (run : LoggedRun) (f g : ShapeFault) → IsFirst shape_rank (Misshapes run) f → IsFirst shape_rank (Misshapes run) g → f ≡ g
one_shape_fault run f g first second = sym (fault_again f) ∙ ap fault_of (one_rank shape_rank (Misshapes run) f g first second) ∙ fault_again g

-- ---- the place of an event is its own

same_place : (run : LoggedRun) → ListsEachOnce run.log run.witness.order → (v w : EventId) → IsThere run.log v → IsThere run.log w
    → place (execution run) v ≡ place (execution run) w → v ≡ w
same_place run once Init Init first second same = refl
same_place run once Init (At b) first second same = absurd (omega (arith, same))
same_place run once (At a) Init first second same = absurd (omega (arith, same))
same_place run once (At a) (At b) first second same =
    let here = once.listed a first in
    let there = once.listed b second in
    let stands = position_listed run.log run.witness.order once here.0 a here.1 in
    let stands_too = position_listed run.log run.witness.order once there.0 b there.1 in
    let at : here.0 ≡ there.0 = omega (arith, stands, stands_too, same) in
    ap (λ (key : EventKey). At key) (same_Some a b (sym here.1 ∙ ap (slice_get run.witness.order) at ∙ there.1))

-- ---- the first fault of a memory rule

rule_of : ℕ → Rule
rule_of n = cond (eqb n 1) WrittenValues (cond (eqb n 2) Order (cond (eqb n 3) Coherence (cond (eqb n 4) NoTearing SequentialConsistency)))

rule_again : (r : Rule) → rule_of (rule_number r) ≡ r
unfolding rule_of
rule_again WrittenValues = refl
rule_again Order = refl
rule_again Coherence = refl
rule_again NoTearing = refl
rule_again SequentialConsistency = refl

-- two faults of one rule, read, byte and case, whose other writes are at one place
record AreAlike (run : LoggedRun) (f g : RuleFault) : Type 0 where
  rule : f.rule ≡ g.rule
  event : f.event ≡ g.event
  byte : f.byte ≡ g.byte
  case : f.case ≡ g.case
  other : option_map_or (place (execution run)) f.other 0 ≡ option_map_or (place (execution run)) g.other 0

alike : (run : LoggedRun) (f g : RuleFault) → rank (execution run) f ≡ rank (execution run) g → AreAlike run f g
alike run f g same =
    let number : rule_number f.rule ≡ rule_number g.rule = ap (λ (ns : List ℕ). get_or ns 0 0) same in
    let thread : f.event.thread ≡ g.event.thread = ap (λ (ns : List ℕ). get_or ns 1 0) same in
    let key : f.event.number ≡ g.event.number = ap (λ (ns : List ℕ). get_or ns 2 0) same in record {
      rule = sym (rule_again f.rule) ∙ ap rule_of number ∙ rule_again g.rule;
      event = ap (λ t. record { thread = t; number = f.event.number }) thread ∙ ap (λ n. record { thread = g.event.thread; number = n }) key;
      byte = ap (λ (ns : List ℕ). get_or ns 3 0) same;
      case = ap (λ (ns : List ℕ). get_or ns 4 0) same;
      other = ap (λ (ns : List ℕ). get_or ns 5 0) same;
    }

-- one writer of a byte
one_writer : (run : LoggedRun) (f g : RuleFault) → AreAlike run f g → ReadsFrom (execution run) f.event f.byte f.writer → ReadsFrom (execution run) g.event g.byte g.writer → f.writer ≡ g.writer
one_writer run f g are first second =
    same_Some f.writer g.writer
    (sym first ∙ ap (λ (key : EventKey). slice_get ((execution run).writers_of key) f.byte) are.event ∙ ap (slice_get ((execution run).writers_of g.event)) are.byte ∙ second)

-- ids of which an event is known are there
there_by : (run : LoggedRun) (v : EventId) (e : Event) → event_at (execution run) v ≡ Some e → IsThere run.log v
there_by run Init e is = tt
there_by run (At key) e is = subst IsSome (sym is) refl

some_inside : {A B : Type 0} (f : A → Option B) (o : Option A) → IsSome (option_and_then f o) → IsSome o
some_inside f None some = some
some_inside f (Some a) some = refl

there_written : (run : LoggedRun) (v : EventId) (a : ℕ) → IsSome (byte_by (execution run) v a) → IsThere run.log v
there_written run Init a some = tt
there_written run (At key) a some = some_inside (λ (e : Event). byte_written e a) (event_in run.log key) some

-- two other writes that are there, at one place
some_other : (run : LoggedRun) → ListsEachOnce run.log run.witness.order → (o p : Option EventId) (v w : EventId) → o ≡ Some v → p ≡ Some w → IsThere run.log v → IsThere run.log w
    → option_map_or (place (execution run)) o 0 ≡ option_map_or (place (execution run)) p 0 → o ≡ p
some_other run once o p v w is also first second same =
    let places : place (execution run) v ≡ place (execution run) w =
    sym (ap (λ (q : Option EventId). option_map_or (place (execution run)) q 0) is) ∙ same ∙ ap (λ (q : Option EventId). option_map_or (place (execution run)) q 0) also in
    is ∙ ap (λ (id : EventId). Some id) (same_place run once v w first second places) ∙ sym also

key_or : EventKey → EventId → EventKey
key_or key Init = key
key_or key (At other) = other

key_same : (p q : EventKey) → At p ≡ At q → p ≡ q
unfolding key_or
key_same p q same = ap (key_or p) same

-- the event directly before an event of a thread, or the writer that is read at a byte
order_writer : (run : LoggedRun) (f g : RuleFault) (p q : EventKey) → AreAlike run f g → BreaksOrder (execution run) f.event p f.byte f.case → BreaksOrder (execution run) g.event q g.byte g.case → p ≡ q
order_writer run f g p q are (in_thread c k before next) (in_thread d l earlier other) =
    let number : p.number ≡ q.number = omega (arith, next, other, ap (λ (key : EventKey). key.number) are.event) in
    let thread : p.thread ≡ q.thread = before.same_thread ∙ ap (λ (key : EventKey). key.thread) are.event ∙ sym earlier.same_thread in
    ap (λ t. record { thread = t; number = p.number }) thread ∙ ap (λ n. record { thread = q.thread; number = n }) number
order_writer run f g p q are (in_thread c k before next) (synchronized d reads with) = let same = are.case in absurd (omega (arith, c, d, same))
order_writer run f g p q are (synchronized c reads with) (in_thread d l earlier other) = let same = are.case in absurd (omega (arith, c, d, same))
order_writer run f g p q are (synchronized c reads with) (synchronized d also too) =
    let same : At p ≡ At q = same_Some (At p) (At q)
    (sym reads ∙ ap (λ (key : EventKey). slice_get ((execution run).writers_of key) f.byte) are.event ∙ ap (slice_get ((execution run).writers_of g.event)) are.byte ∙ also) in
    key_same p q same

coherence_other : (run : LoggedRun) → ListsEachOnce run.log run.witness.order → (f g : RuleFault) (d e : Event) → AreAlike run f g
    → BreaksCoherence (execution run) f.event d f.byte f.writer f.case f.other → BreaksCoherence (execution run) g.event e g.byte g.writer g.case g.other → f.other ≡ g.other
coherence_other run once f g d e are (reads_future b none before) (reads_future c also after) = none ∙ sym also
coherence_other run once f g d e are (reads_future b none before) (written_between c w is some first second) = let same = are.case in absurd (omega (arith, b, c, same))
coherence_other run once f g d e are (written_between b v is some first second) (reads_future c none after) = let same = are.case in absurd (omega (arith, b, c, same))
coherence_other run once f g d e are (written_between b v is some first second) (written_between c w also wrote before after) =
    some_other run once f.other g.other v w is also (there_written run v (d.address + f.byte) some) (there_written run w (e.address + g.byte) wrote) are.other

record AreOne (f g : RuleFault) : Type 0 where
  writer : f.writer ≡ g.writer
  other : f.other ≡ g.other

by_rule : (run : LoggedRun) → ListsEachOnce run.log run.witness.order → (f g : RuleFault) (rule : Rule) → AreAlike run f g → BreaksRule (execution run) f rule → BreaksRule (execution run) g rule → AreOne f g
by_rule run once f g WrittenValues are (none, (d, _, reads, _)) (also, (e, _, too, _)) = record { writer = one_writer run f g are reads too; other = none ∙ sym also }
by_rule run once f g Order are (none, (p, is, _, breaks)) (also, (q, at, _, too)) = record {
  writer = is ∙ ap (λ (key : EventKey). At key) (order_writer run f g p q are breaks too) ∙ sym at;
  other = none ∙ sym also;
}
by_rule run once f g Coherence are (d, _, reads, breaks) (e, _, also, too) = record {
  writer = one_writer run f g are reads also;
  other = coherence_other run once f g d e are breaks too;
}
by_rule run once f g NoTearing are (_, (v, is, (d, _, reads, breaks))) (_, (w, at, (e, _, also, too))) = record {
  writer = one_writer run f g are reads also;
  other = some_other run once f.other g.other v w is at (there_by run v breaks.first.0 breaks.first.1) (there_by run w too.first.0 too.first.1) are.other;
}
by_rule run once f g SequentialConsistency are (v, is, (d, _, reads, breaks)) (w, at, (e, _, also, too)) = record {
  writer = one_writer run f g are reads also;
  other = some_other run once f.other g.other v w is at (there_by run v breaks.write.0 breaks.write.1) (there_by run w too.write.0 too.write.1) are.other;
}

pub one_rule_fault : (run : LoggedRun) → IsWellShaped run → (f g : RuleFault) → IsFirst (rank (execution run)) (Breaks (execution run)) f → IsFirst (rank (execution run)) (Breaks (execution run)) g → f ≡ g
one_rule_fault run shape f g first second =
    let are = alike run f g (one_rank (rank (execution run)) (Breaks (execution run)) f g first second) in
    let one = by_rule run shape.order f g f.rule are first.holds (subst (λ (r : Rule). BreaksRule (execution run) g r) (sym are.rule) second.holds) in
    λ i. record { rule = are.rule i; case = are.case i; event = are.event i; byte = are.byte i; writer = one.writer i; other = one.other i }
