-- The numbers of an own run are in the ranges of a document.
use Rattle.std.proofs.Common.{◌≡◌, ℕ, zero, suc, ◌^◌, ◌<◌, ◌≤◌, List, [], ◌∷◌, Bool, true, false, Option, Some, None, Ok, Err, Result, refl, ap, subst, ◌∙◌, arith, length, slice_get, get_or, All, nat_le}
use Rattle.std.specs.Prelude.{◌||◌, ◌==◌, IsSome, if◌then◌else◌, option_and_then, unwrap_or}
use Rattle.std.proofs.lemmas.Bool.{eqb-true, leb-false}
use Rattle.std.proofs.lemmas.List.Sums.{get_or-le-sum_by}
use Rattle.std.proofs.lemmas.Option.{get_or_from_slice_get, option_and_then_some, slice_get-get_or, slice_get_within}
use Rattle.wm_access.specs.declared.AccessWidth.{AccessWidth}
use Rattle.wm_access.specs.declared.AccessWidth.TheVariants.{One, Two, Four, Eight}
use Rattle.wm_access.specs.AccessWidth.{Fits, bytes_of}
use Rattle.wm_ast.specs.declared.exports.Export.{Export}
use Rattle.wm_ast.specs.declared.module.Memory.{Memory}
use Rattle.wm_ast.specs.declared.module.Module.{Module}
use Rattle.wm_ast.specs.declared.types.ValType.{ValType}
use Rattle.wm_ast.specs.declared.types.ValType.TheVariants as value
use Rattle.wm_ast.specs.Exports.{export_at}
use Rattle.wm_ast.specs.Module.{memory_size, pages_of}
use Rattle.wm_event.specs.declared.event.Event.{Event}
use Rattle.wm_event.specs.declared.event.EventId.{EventId}
use Rattle.wm_event.specs.declared.event.EventId.TheVariants.{At, Init}
use Rattle.wm_event.specs.declared.event.EventKey.{EventKey}
use Rattle.wm_event.specs.declared.log.ThreadLog.{ThreadLog}
use Rattle.wm_event.specs.Log.{event_in}
use Rattle.wm_event.specs.LoggedRun.{LoggedRun}
use Rattle.wm_event.specs.Witness.{writers_in}
use Rattle.wm_event.specs.Shape.{IsThere, IsWellShaped, event_count}
use Rattle.wm_event.proofs.ShapeLemmas.{writers_there}
use Rattle.wm_logfile.specs.Document.{EventFits, IsWithinLimits, KeyFits, ThreadFits, WriterFits}
use Rattle.wm_machine.specs.declared.fault.StartFault.{StartFault}
use Rattle.wm_machine.specs.declared.fault.StartFault.TheVariants.{ArgCount, ArgRange}
use Rattle.wm_machine.specs.Functions.{Callable, callable}
use Rattle.wm_machine.specs.Run.{run_from}
use Rattle.wm_machine.specs.Start.{any_past, func_of, started, started_at, started_by, started_in, started_with}
use Rattle.wm_machine.specs.Term.{Config}
use Rattle.wm_num.specs.Number.{bits_of}
use Rattle.wm_ast.specs.Types.{width_of}
use Rattle.wm_replay.specs.Replay.{AreRuns, reads_of}
use Rattle.wm_valid.specs.Valid.{GoodLimits, IsInit, Valid}
use Rattle.wm_run.specs.Own.{IsWithinPlan}
use Rattle.wm_run.specs.Run.{Record, over}

-- ---- arguments

-- a type has at most 64 bits
small : (t : ValType) (a : ℕ) → nat_le (2 ^ bits_of (width_of t)) a ≡ false → a < 2 ^ 64
small value.I32 a past = let below = leb-false (2 ^ 32) a past in omega (arith, below)
small value.I64 a past = leb-false (2 ^ 64) a past

neither : (a b : Bool) → a || b ≡ false → (a ≡ false) × (b ≡ false)
neither true b is = absurd cc
neither false b is = (refl, is)

-- arguments of which none is past its parameter
none_past : (params : List ValType) (args : List ℕ) → length args ≡ length params → any_past params args ≡ false → (k d : ℕ) → k < length args → get_or args k d < 2 ^ 64
none_past [] [] count past k d lt = absurd (omega (arith, lt))
none_past [] (a ∷ args) count past k d lt = absurd (omega (arith, count))
none_past (t ∷ params) [] count past k d lt = absurd (omega (arith, lt))
none_past (t ∷ params) (a ∷ args) count past zero d lt = small t a (neither (nat_le (2 ^ bits_of (width_of t)) a) (any_past params args) past).0
none_past (t ∷ params) (a ∷ args) count past (suc k) d lt =
    none_past params args (omega (arith, count)) (neither (nat_le (2 ^ bits_of (width_of t)) a) (any_past params args) past).1 k d (omega (arith, lt))

-- what a good start was tested for
tested : (count past : Bool) (c0 c : Config) → (if count then (if past then Err ArgRange else Ok c0) else Err ArgCount) ≡ Ok c → (count ≡ true) × (past ≡ false)
tested true true c0 c is = absurd cc
tested true false c0 c is = (refl, refl)
tested false past c0 c is = absurd cc

args_in : (m : Module) (func : ℕ) (f : Option Callable) (args : List ℕ) (c : Config) → started_in m func f args ≡ Ok c → All (λ a. a < 2 ^ 64) args
args_in m func None args c is = absurd cc
args_in m func (Some f) args c is =
    let good = tested (length args == length f.params) (any_past f.params args) (started_with m func f args) c is in
    λ k d lt. none_past f.params args (eqb-true (length args) (length f.params) good.0) good.1 k d lt

args_by : (m : Module) (func : Option ℕ) (args : List ℕ) (c : Config) → started_by m func args ≡ Ok c → All (λ a. a < 2 ^ 64) args
args_by m None args c is = absurd cc
args_by m (Some func) args c is = args_in m func (callable m func) args c is

args_at : (m : Module) (e : Option Export) (args : List ℕ) (c : Config) → started_at m e args ≡ Ok c → All (λ a. a < 2 ^ 64) args
args_at m None args c is = absurd cc
args_at m (Some e) args c is = args_by m (func_of e) args c is

args_of_run : (m : Module) (k : ℕ) (t : ThreadLog) (r : Result Config StartFault) → started m t.start.name t.start.args ≡ r → run_from m k r (reads_of t.events) t.steps ≡ Some record { events = t.events; end = t.end }
    → All (λ a. a < 2 ^ 64) t.start.args
args_of_run m k t (Err fault) is run = absurd cc
args_of_run m k t (Ok c) is run = args_at m (export_at t.start.name m.exports) t.start.args c is

-- ---- events

width_small : (w : AccessWidth) (v : ℕ) → Fits w v → v < 2 ^ 64
width_small One v fits = omega (arith, fits)
width_small Two v fits = omega (arith, fits)
width_small Four v fits = omega (arith, fits)
width_small Eight v fits = omega (arith, fits)

some_bytes : (w : AccessWidth) → 0 < bytes_of w
some_bytes One = omega arith
some_bytes Two = omega arith
some_bytes Four = omega arith
some_bytes Eight = omega arith

pages_small : (memory : Option Memory) → GoodLimits memory → pages_of memory ≤ 65536
pages_small None good = omega arith
pages_small (Some memory) good = let low = good.0 in let high = good.1 in omega (arith, low, high)

-- a memory has at most 2^32 bytes
memory_small : (m : Module) → Valid m → memory_size m ≤ 2 ^ 32
memory_small m valid = let few = pages_small m.memory valid.limits in omega (arith, few)

-- an event that exists is below the numbers of threads and of events
pub record IsBelow (log : List ThreadLog) (key : EventKey) : Type 0 where
  pub thread : key.thread < length log
  pub number : key.number < event_count log

below : (log : List ThreadLog) (key : EventKey) (e : Event) → event_in log key ≡ Some e → IsBelow log key
below log key e is = option_and_then_some (λ thread. slice_get thread.events key.number) (slice_get log key.thread) e is
    (λ (thread : ThreadLog) at there.
    let within : key.thread < length log = slice_get_within log key.thread thread at in
    let own : key.number < length thread.events = slice_get_within thread.events key.number e there in
    let counted : length (get_or log key.thread thread).events ≤ event_count log = get_or-le-sum_by (λ (t : ThreadLog). length t.events) log key.thread thread within in
    let same : get_or log key.thread thread ≡ thread = get_or_from_slice_get log key.thread thread thread at in
    let less : length thread.events ≤ event_count log = subst (λ (t : ThreadLog). length t.events ≤ event_count log) same counted in
    record { thread = within; number = omega (arith, own, less) })

is_some : {A P : Type 0} (o : Option A) → IsSome o → ((x : A) → o ≡ Some x → P) → P
is_some None none k = absurd cc
is_some (Some x) there k = k x refl

key_fits : (run : LoggedRun) (key : EventKey) (e : Event) → IsWellShaped run → length run.log ≤ 16 → event_in run.log key ≡ Some e → KeyFits key
key_fits run key e shape few is =
    let b = below run.log key e is in
    let thread = b.thread in
    let number = b.number in
    let most = shape.few in
    record { thread = omega (arith, thread, few); number = omega (arith, number, most) }

event_fits : (m : Module) (run : LoggedRun) (key : EventKey) (e : Event) → Valid m → IsInit m run.initial → IsWellShaped run → event_in run.log key ≡ Some e → EventFits e
event_fits m run key e valid init shape is =
    let good = shape.good key e is in
    let b = below run.log key e is in
    let number = b.number in
    let most = shape.few in
    let named = (shape.keys key e is).1 in
    let inside = good.in_memory in
    let some = some_bytes e.width in
    let size = init.size in
    let least = memory_small m valid in
    record {
      number = omega (arith, number, most, named);
      address = omega (arith, inside, some, size, least);
      read = width_small e.width e.read good.fits.0;
      written = width_small e.width e.written good.fits.1;
    }

-- ---- the whole

thread_fits : (m : Module) (initial : List ℕ) (run : Record) (k : ℕ) (t : ThreadLog) → Valid m → IsInit m initial → IsWellShaped (over initial run) → AreRuns m run.log → IsWithinPlan run → slice_get run.log k ≡ Some t → ThreadFits t
thread_fits m initial run k t valid init shape runs within at = record {
  args = args_of_run m k t (started m t.start.name t.start.args) refl (runs k t at);
  end = within.ends k t at;
  steps = within.steps k t at;
  events = λ i d lt.
      let e = get_or t.events i d in
      let there : slice_get t.events i ≡ Some e = slice_get-get_or t.events i d lt in
      let is : event_in run.log (record { thread = k; number = i }) ≡ Some e = ap (option_and_then (λ (thread : ThreadLog). slice_get thread.events i)) at ∙ there in
      event_fits m (over initial run) (record { thread = k; number = i }) e valid init shape is;
}

writer_fits : (run : LoggedRun) (w : EventId) → IsWellShaped run → length run.log ≤ 16 → IsThere run.log w → WriterFits w
writer_fits run Init shape few there = tt
writer_fits run (At key) shape few there = is_some (event_in run.log key) there (λ e is. key_fits run key e shape few is)

writers_fit : (run : LoggedRun) → IsWellShaped run → length run.log ≤ 16 → All (All (All WriterFits)) run.witness.writers
writers_fit run shape few t d lt i d' lt' b d'' lt'' =
    let threads = run.witness.writers in
    let events = get_or threads t d in
    let writers = get_or events i d' in
    let here : slice_get threads t ≡ Some events = slice_get-get_or threads t d lt in
    let there : slice_get events i ≡ Some writers = slice_get-get_or events i d' lt' in
    let is : writers_in run.witness (record { thread = t; number = i }) ≡ writers =
    ap (λ o. unwrap_or (option_and_then (λ (thread : List (List EventId)). slice_get thread i) o) []) here ∙ ap (λ o. unwrap_or o []) there in
    let all : All (IsThere run.log) writers = subst (All (IsThere run.log)) is (writers_there run (record { thread = t; number = i }) shape) in
    writer_fits run (get_or writers b d'') shape few (all b d'' lt'')

order_fits : (run : LoggedRun) → IsWellShaped run → length run.log ≤ 16 → All KeyFits run.witness.order
order_fits run shape few n d lt =
    let key = get_or run.witness.order n d in
    is_some (event_in run.log key) (shape.order.events n key (slice_get-get_or run.witness.order n d lt)) (λ e is. key_fits run key e shape few is)

pub within_limits : (m : Module) (initial : List ℕ) (run : Record) → Valid m → IsInit m initial → IsWellShaped (over initial run) → AreRuns m run.log → IsWithinPlan run → IsWithinLimits run.log run.witness
within_limits m initial run valid init shape runs within = record {
  threads = within.threads;
  each = λ k d lt. thread_fits m initial run k (get_or run.log k d) valid init shape runs within (slice_get-get_or run.log k d lt);
  writers = writers_fit (over initial run) shape within.threads;
  order = order_fits (over initial run) shape within.threads;
}
