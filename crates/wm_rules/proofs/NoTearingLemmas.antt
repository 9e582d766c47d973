-- The faults of V4 at a byte.
use Rattle.std.proofs.Common.{◌≡◌, ℕ, ◌<◌, List, [], ◌∷◌, Option, None, Some, IsSome, IfSome, is_some, true, arith, refl, sym, ap, subst, ◌∙◌, length, slice_get}
use Rattle.std.proofs.lemmas.Option.{slice_get_within}
use Rattle.std.specs.Option.{option_map}
use Rattle.wm_event.specs.declared.event.Event.{Event}
use Rattle.wm_event.specs.declared.event.EventKey.{EventKey}
use Rattle.wm_event.specs.declared.event.EventId.{EventId}
use Rattle.wm_event.specs.declared.event.EventId.TheVariants.{Init, At}
use Rattle.wm_event.specs.declared.rule.Rule.TheVariants.{NoTearing}
use Rattle.wm_event.specs.declared.rule.RuleFault.{RuleFault}
use Rattle.wm_event.specs.Event.{key_of}
use Rattle.wm_event.specs.Execution.{Execution, ReadsFrom}
use Rattle.wm_event.specs.Faults.{AtRead, Breaks, BreaksRule, BreaksNoTearing, rank}
use Rattle.wm_event.specs.First.{Under}
use Rattle.wm_event.specs.LoggedRun.{LoggedRun, execution}
use Rattle.wm_event.specs.Shape.{ListsEachOnce}
use Rattle.wm_rules.specs.Others.{FindsListed, IsOnlyWriter}
use Rattle.wm_hb.specs.Scan.{Finds, IsEventOf}
use Rattle.wm_rules.proofs.CaseLemmas.{finds_other, first_case, last_case}
use Rattle.wm_hb.proofs.FaultLemmas.{read_moves, rule_four, same_key_parts, some_of}

-- the meaning of a fault of V4 at a byte
tearing_says : (x : Execution) (e : Event) (k : ℕ) (w : EventId) → IsEventOf x e → ReadsFrom x (key_of e) k w
    → (f : RuleFault) → Under (rank x) (Breaks x) (4 ∷ e.thread ∷ e.number ∷ k ∷ []) f → (f.case ≡ 1) × ((v : EventId) × (f.other ≡ Some v) × BreaksNoTearing x (key_of e) e k w v)
tearing_says x e k w there reads f u =
    let says : (f.case ≡ 1) × ((v : EventId) × (f.other ≡ Some v) × AtRead x f (λ e. BreaksNoTearing x f.event e f.byte f.writer v)) = subst (BreaksRule x f) (rule_four f.rule u.1.0) u.0 in (
      says.0,
      (
        says.1.0,
        says.1.1,
        read_moves x (λ r e k w. BreaksNoTearing x r e k w says.1.0) (key_of e) f.event e says.1.2.0 k f.byte w f.writer
            (same_key_parts f.event (key_of e) u.1.1.0 u.1.1.1.0) u.1.1.1.1.0 there says.1.2.1 reads says.1.2.2 says.1.2.3,
      ),
    )

-- a tear-free writer is an event
event_of_writer : (x : Execution) (r : EventKey) (e : Event) (k : ℕ) (w v : EventId) (o : Option EventId) → o ≡ Some v → BreaksNoTearing x r e k w v
    → (u : EventKey) × (o ≡ Some (At u)) × IsSome (x.event_of u) × BreaksNoTearing x r e k w (At u)
event_of_writer x r e k w Init o is b = absurd (let none : None ≡ Some b.first.0 = b.first.1 in cc)
event_of_writer x r e k w (At u) o is b = (u, is, some_of (x.event_of u) b.first.0 b.first.1, b)

pub tearing_finds : (run : LoggedRun) (e : Event) (k : ℕ) (w : EventId) → ListsEachOnce run.log run.witness.order → IsEventOf (execution run) e → ReadsFrom (execution run) (key_of e) k w
    → (r : Option EventKey) → FindsListed run.witness.order (λ v. BreaksNoTearing (execution run) (key_of e) e k w (At v)) r
    → Finds (execution run) (4 ∷ e.thread ∷ e.number ∷ k ∷ []) (option_map (λ v. record { rule = NoTearing; case = 1; event = key_of e; byte = k; writer = w; other = Some (At v) }) r)
tearing_finds run e k w once there reads r found =
    last_case (execution run) 4 e.thread e.number k 1 (option_map (λ v. record { rule = NoTearing; case = 1; event = key_of e; byte = k; writer = w; other = Some (At v) }) r)
    (first_case (execution run) 4 e.thread e.number k (λ f u. let s = tearing_says (execution run) e k w there reads f u in omega (arith, s.0)))
    (finds_other run once 4 e.thread e.number k 1 (λ v. BreaksNoTearing (execution run) (key_of e) e k w (At v))
    (λ v. record { rule = NoTearing; case = 1; event = key_of e; byte = k; writer = w; other = Some (At v) })
    (λ f u.
    let s = tearing_says (execution run) e k w there reads f (u.0, (u.1.0, (u.1.1.0, (u.1.1.1.0, (u.1.1.1.1.0, tt))))) in
    event_of_writer (execution run) (key_of e) e k w s.1.0 f.other s.1.1 s.1.2)
    (λ v h. ((refl, (At v, refl, (e, there, reads, h))), (refl, (refl, (refl, (refl, (refl, tt)))))))
    (λ v. refl)
    r found)
    (λ f u. let s = tearing_says (execution run) e k w there reads f u in omega (arith, s.0))

-- a fault of V4 at an event is at one of the bytes that it reads
pub tearing_byte : (x : Execution) (t i : ℕ) (writers : List EventId) → writers ≡ x.writers_of (record { thread = t; number = i })
    → (f : RuleFault) → Under (rank x) (Breaks x) (4 ∷ t ∷ i ∷ []) f → f.byte < length writers
tearing_byte x t i writers are f u =
    let says : (f.case ≡ 1) × ((v : EventId) × (f.other ≡ Some v) × AtRead x f (λ e. BreaksNoTearing x f.event e f.byte f.writer v)) = subst (BreaksRule x f) (rule_four f.rule u.1.0) u.0 in
    let key : f.event ≡ record { thread = t; number = i } = same_key_parts f.event (record { thread = t; number = i }) u.1.1.0 u.1.1.1.0 in
    let reads : slice_get writers f.byte ≡ Some f.writer = ap (λ (ws : List EventId). slice_get ws f.byte) (are ∙ ap x.writers_of (sym key)) ∙ says.1.2.2 in
    slice_get_within writers f.byte f.writer reads

-- a read with one writer has no fault of V4
pub tearing_none : (x : Execution) (e : Event) (writer : Option EventId) → is_some writer ≡ true → IfSome writer (IsOnlyWriter x (key_of e)) → Finds x (4 ∷ e.thread ∷ e.number ∷ []) None
tearing_none x e None some only = absurd (cc)
tearing_none x e (Some w) some only = λ f u.
    let says : (f.case ≡ 1) × ((v : EventId) × (f.other ≡ Some v) × AtRead x f (λ e. BreaksNoTearing x f.event e f.byte f.writer v)) = subst (BreaksRule x f) (rule_four f.rule u.1.0) u.0 in
    let key : f.event ≡ key_of e = same_key_parts f.event (key_of e) u.1.1.0 u.1.1.1.0 in
    let breaks = says.1.2.3 in
    let here = only f.byte f.writer (subst (λ (r : EventKey). ReadsFrom x r f.byte f.writer) key says.1.2.2) in
    let before = only breaks.earlier.0 says.1.0 (subst (λ (r : EventKey). ReadsFrom x r breaks.earlier.0 says.1.0) key breaks.earlier.2) in
    breaks.two (before ∙ sym here)
