-- Modules whose accesses are all atomic and of one width.
use Rattle.std.proofs.Common.{◌≡◌, ℕ, ◌+◌, ◌%◌, ◌<◌, ◌≤◌, Bool, true, false, inl, inr, List, Some, IsTrue, refl, sym, ap, subst, ◌∙◌, arith, ◌&&◌, not}
use Rattle.std.specs.Prelude.{◌≢◌, All, Any, ◌==◌}
use Rattle.std.proofs.lemmas.Bool.{eqb-true}
use Rattle.wm_access.specs.declared.AccessWidth.{AccessWidth}
use Rattle.wm_access.specs.declared.AccessWidth.TheVariants.{One, Two, Four, Eight}
use Rattle.wm_access.specs.declared.MemoryOrder.{MemoryOrder}
use Rattle.wm_access.specs.declared.MemoryOrder.TheVariants.{Unordered, SeqCst}
use Rattle.wm_access.specs.AccessWidth.{bytes_of}
use Rattle.wm_access.specs.MemoryOrder.{is_sequential}
use Rattle.wm_ast.specs.Access.{access_order, access_width}
use Rattle.wm_ast.specs.declared.access.AccessKind.{AccessKind}
use Rattle.wm_ast.specs.declared.module.Func.{Func}
use Rattle.wm_ast.specs.declared.module.Module.{Module}
use Rattle.wm_event.specs.declared.event.Event.{Event}
use Rattle.wm_event.specs.declared.event.EventKey.{EventKey}
use Rattle.wm_event.specs.Event.{range_of}
use Rattle.wm_event.specs.LoggedRun.{execution}
use Rattle.wm_explore.specs.Uniform.{BreaksWidth, EachInstr, HasAccess, HasByte, HasUniformRuns, IsAccess, IsAtomicAccess, IsMixedModule, IsOtherAccess, IsUniformModule, KeepsWidth, LeavesOutNone, SomeInstr, UniformIsNotMixed}
use Rattle.wm_explore.specs.Uniform.IsMixedModule.{plain, widths}
use Rattle.wm_explore.proofs.Stemming.{IsMadeBy, each_block, events_stem}
use Rattle.wm_explore.proofs.UniformLaw.{uniform-is-causal}

-- ---- an event of such a module

-- atomic, of this width, and at a multiple of it
record IsUniformEvent (width : AccessWidth) (e : Event) : Type 0 where
  order : e.order ≡ SeqCst
  has_width : e.width ≡ width
  aligned : e.address % bytes_of width ≡ 0

aligned_at : (order : MemoryOrder) (a w : ℕ) → order ≡ SeqCst → (is_sequential order && not (a % w == 0)) ≡ false → a % w ≡ 0
aligned_at Unordered a w s e = absurd (cc s)
aligned_at SeqCst a w s e = eqb-true (a % w) 0 (by (a % w == 0) e)
  where
    by : (b : Bool) → not b ≡ false → b ≡ true
    by true e = refl
    by false e = absurd (cc e)

uniform_event : (width : AccessWidth) (e : Event) → IsMadeBy (KeepsWidth width) e → IsUniformEvent width e
uniform_event width e made =
    let its : IsAtomicAccess width made.kind = made.holds made.kind (made.immediates, refl) in
    record {
      order = made.has_order ∙ its.0;
      has_width = made.has_width ∙ its.1;
      aligned = subst (λ w. e.address % bytes_of w ≡ 0) its.1 (aligned_at (access_order made.kind) e.address (bytes_of (access_width made.kind)) its.0 made.aligned);
    }

-- two aligned ranges of one width with a byte in common have one address
one_address : (width : AccessWidth) (a b byte : ℕ) → a % bytes_of width ≡ 0 → b % bytes_of width ≡ 0 → a ≤ byte → byte < a + bytes_of width → b ≤ byte → byte < b + bytes_of width → a ≡ b
one_address One a b byte p q la ha lb hb = omega arith
one_address Two a b byte p q la ha lb hb = omega arith
one_address Four a b byte p q la ha lb hb = omega arith
one_address Eight a b byte p q la ha lb hb = omega arith

one_range : (width : AccessWidth) (e f : Event) (byte : ℕ) → IsUniformEvent width e → IsUniformEvent width f → HasByte e byte → HasByte f byte → range_of e ≡ range_of f
one_range width e f byte its other here there =
    let here_end : byte < e.address + bytes_of width = subst (λ w. byte < e.address + bytes_of w) its.has_width here.1 in
    let there_end : byte < f.address + bytes_of width = subst (λ w. byte < f.address + bytes_of w) other.has_width there.1 in
    let addresses : e.address ≡ f.address = one_address width e.address f.address byte its.aligned other.aligned here.0 here_end there.0 there_end in
    let same : e.width ≡ f.width = its.has_width ∙ sym other.has_width in
    ap (λ a. record { address = a; width = e.width }) addresses ∙ ap (λ w. record { address = f.address; width = w }) same

atomic_event : (order : MemoryOrder) → order ≡ SeqCst → IsTrue (is_sequential order)
atomic_event Unordered e = absurd (cc e)
atomic_event SeqCst e = refl

pub uniform_runs : (m : Module) → IsUniformModule m → HasUniformRuns m
uniform_runs m uniform x runs =
    let its : (key : EventKey) (e : Event) → (execution x).event_of key ≡ Some e → IsUniformEvent uniform.0 e =
    λ key e at. uniform_event uniform.0 e (events_stem m (KeepsWidth uniform.0) (each_block m (KeepsWidth uniform.0) uniform.1) x.log runs key e at) in
    record {
      atomic = λ key e at. atomic_event e.order (its key e at).order;
      ranges = λ a b e f byte at other here there. one_range uniform.0 e f byte (its a e at) (its b f other) here there;
    }

pub leaves_out_none : (m : Module) → IsUniformModule m → LeavesOutNone m
leaves_out_none m uniform starts x is = uniform-is-causal x is.shaped (uniform_runs m uniform x is.runs) is.valid

-- ---- other modules

-- an access of the module that is plain or has another width
record HasOther (m : Module) (width : AccessWidth) : Type 0 where
  kind : AccessKind
  there : HasAccess m kind
  other : IsOtherAccess width kind

other_of : (m : Module) (width : AccessWidth) → SomeInstr (BreaksWidth width) m.funcs → HasOther m width
other_of m width (f, func, f-lt, f-is, (n, block, n-lt, n-is, (k, i, k-lt, k-is, (kind, is, other)))) =
    record { kind = kind; there = (f, func, f-lt, f-is, (n, block, n-lt, n-is, (k, i, k-lt, k-is, is))); other = other }

-- it is plain, or has another width
plain_or : (m : Module) (width : AccessWidth) (o : HasOther m width) → (access_width o.kind ≢ width → IsMixedModule m) → IsMixedModule m
plain_or m width o next = by o.other
  where
    by : IsOtherAccess width o.kind → IsMixedModule m
    by (inl unordered) = plain o.kind o.there unordered
    by (inr not) = next not

-- an access of this width and one that has another
apart : (m : Module) (kind : AccessKind) (width : AccessWidth) (o : HasOther m width) → HasAccess m kind → access_width kind ≡ width → access_width o.kind ≢ width → IsMixedModule m
apart m kind width o there is not = widths kind o.kind there o.there (λ same. not (sym same ∙ is))

mixed : (m : Module) → SomeInstr (BreaksWidth One) m.funcs → SomeInstr (BreaksWidth Two) m.funcs → SomeInstr (BreaksWidth Four) m.funcs → SomeInstr (BreaksWidth Eight) m.funcs → IsMixedModule m
mixed m one two four eight =
    plain_or m One (other_of m One one) (λ not1. plain_or m Two (other_of m Two two) (λ not2. plain_or m Four (other_of m Four four) (λ not4. plain_or m Eight (other_of m Eight eight) (λ not8.
    by not1 not2 not4 not8 (access_width (other_of m One one).kind) refl))))
  where
    by : access_width (other_of m One one).kind ≢ One → access_width (other_of m Two two).kind ≢ Two → access_width (other_of m Four four).kind ≢ Four → access_width (other_of m Eight eight).kind ≢ Eight
        → (w : AccessWidth) → access_width (other_of m One one).kind ≡ w → IsMixedModule m
    by not1 not2 not4 not8 One is = absurd (not1 is)
    by not1 not2 not4 not8 Two is = apart m (other_of m One one).kind Two (other_of m Two two) (other_of m One one).there is not2
    by not1 not2 not4 not8 Four is = apart m (other_of m One one).kind Four (other_of m Four four) (other_of m One one).there is not4
    by not1 not2 not4 not8 Eight is = apart m (other_of m One one).kind Eight (other_of m Eight eight) (other_of m One one).there is not8

-- the same of functions that are those of the module
pub uniform_of : (m : Module) (width : AccessWidth) (funcs : List Func) → funcs ≡ m.funcs → EachInstr (KeepsWidth width) funcs → IsUniformModule m
uniform_of m width funcs same kept = (width, subst (EachInstr (KeepsWidth width)) same kept)

pub mixed_of : (m : Module) (funcs : List Func) → funcs ≡ m.funcs → SomeInstr (BreaksWidth One) funcs → SomeInstr (BreaksWidth Two) funcs → SomeInstr (BreaksWidth Four) funcs → SomeInstr (BreaksWidth Eight) funcs
    → IsMixedModule m
mixed_of m funcs same one two four eight = mixed m (to One one) (to Two two) (to Four four) (to Eight eight)
  where
    to : (width : AccessWidth) → SomeInstr (BreaksWidth width) funcs → SomeInstr (BreaksWidth width) m.funcs
    to width some = subst (SomeInstr (BreaksWidth width)) same some

-- ---- no module is both

meet : {X : Type 0} (P R : X → Type 0) (xs : List X) → All P xs → Any R xs → (x : X) × P x × R x
meet P R xs all any = (any.1, subst P any.3 (all any.0 any.1 any.2), any.4)

access_kept : (m : Module) (width : AccessWidth) → EachInstr (KeepsWidth width) m.funcs → (kind : AccessKind) → HasAccess m kind → IsAtomicAccess width kind
access_kept m width kept kind has =
    let func = meet (λ (g : Func). All (All (KeepsWidth width)) g.blocks) (λ (g : Func). Any (Any (IsAccess kind)) g.blocks) m.funcs kept has in
    let block = meet (All (KeepsWidth width)) (Any (IsAccess kind)) func.0.blocks func.1 func.2 in
    let i = meet (KeepsWidth width) (IsAccess kind) block.0 block.1 block.2 in
    i.1 kind i.2

pub uniform-is-not-mixed : UniformIsNotMixed
uniform-is-not-mixed m uniform (plain kind has unordered) =
    let its = access_kept m uniform.0 uniform.1 kind has in
    absurd (cc (unordered, its.0))
uniform-is-not-mixed m uniform (widths kind other has also not) =
    not ((access_kept m uniform.0 uniform.1 kind has).1 ∙ sym (access_kept m uniform.0 uniform.1 other also).1)
