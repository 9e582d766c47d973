-- What the workers promised and what was gathered make a round.
use Rattle.std.proofs.Common.{◌≡◌, ℕ, ◌<◌, ◌≤◌, ◌⊎◌, inl, inr, Bool, true, false, ◌||◌, List, [], length, get_or, map, Some, Ok, slice_get, slice_index_or, All, refl, sym, ap, subst, ◌∙◌, arith}
use Rattle.std.specs.Prelude.{Result, option_map}
use Rattle.std.proofs.lemmas.List.{get_or-map, length-map, same_lists}
use Rattle.std.proofs.lemmas.Option.{get_or_from_slice_get, same_Some, slice_get-get_or, slice_get-map, slice_get_within}
use Rattle.std.proofs.lemmas.Bool.{cases_lt}
use Rattle.wm_ast.specs.declared.module.Module.{Module}
use Rattle.wm_event.specs.declared.log.End.TheVariants.{Cut}
use Rattle.wm_event.specs.declared.log.Start.{Start}
use Rattle.wm_event.specs.declared.log.ThreadLog.{ThreadLog}
use Rattle.wm_logfile.specs.Document.{EndFits}
use Rattle.wm_recorder.specs.Recorder.{Recording, threads_of}
use Rattle.wm_replay.proofs.Comparisons.{item_there}
use Rattle.wm_run.specs.declared.rounds.ended.Stop.{Stop}
use Rattle.wm_run.specs.declared.rounds.ended.Stop.TheVariants.{Own, Gate, Memory}
use Rattle.wm_run.specs.declared.rounds.ended.ThreadEnd.{ThreadEnd}
use Rattle.wm_run.specs.declared.fault.RunFault.{RunFault}
use Rattle.wm_run.specs.declared.plan.Plan.{Plan}
use Rattle.wm_run.specs.Ends.{IsEndIn}
use Rattle.wm_run.specs.Gathered.{IsGathered, log_by}
use Rattle.wm_run.specs.Own.{IsWithinPlan, OwnRunsAreAllowed}
use Rattle.wm_run.specs.Reached.{stands_before_access}
use Rattle.wm_run.specs.RoundPlans.{AreEndsOf, AreWorkOf, IsHeld, IsRound, IsRoundPlan}
use Rattle.wm_run.specs.Run.{Record}
use Rattle.wm_run.specs.Stops.{is_own}
use Rattle.wm_run.specs.Worker.{IsEndOf, IsWorkOf}
use Rattle.wm_run.proofs.OneEach.{some_end}
use Rattle.wm_run.proofs.Together.{gathered_own}

-- ---- from the workers

pub ends_from : (is_open : Bool) (m : Module) (starts : List Start) (limit : ℕ) (ends : List ThreadEnd) → AreWorkOf is_open m starts limit (map Ok ends) → AreEndsOf is_open m starts limit ends
ends_from is_open m starts limit ends works = (
  sym (length-map ends Ok) ∙ works.0,
  λ i d e below.
      let P : Result ThreadEnd RunFault → Type 0 = λ r. IsWorkOf is_open m i (slice_index_or starts i d) limit r in
      let results : List (Result ThreadEnd RunFault) = map Ok ends in
      let count : length results ≡ length ends = length-map ends Ok in
      let within : i < length ends = omega (arith, below, works.0, count) in
      let same : slice_index_or results i (Ok e) ≡ Ok (slice_index_or ends i e) = get_or-map Ok ends i e (Ok e) within in
      subst P same (works.1 i d (Ok e) below),
)

no_start : Start
no_start = record { name = []; args = [] }

-- the module of each end
pub programs_from : (is_open : Bool) (m : Module) (starts : List Start) (limit : ℕ) (ends : List ThreadEnd) → AreEndsOf is_open m starts limit ends → All (λ (e : ThreadEnd). e.program.value ≡ m) ends
programs_from is_open m starts limit ends are = λ k d below. (let lt : k < length starts = omega (arith, are.0) in (are.1 k no_start d lt).of_module)

-- ---- the end of a thread is at its number

record IsEndAt (is_open : Bool) (m : Module) (starts : List Start) (limit : ℕ) (ends : List ThreadEnd) (t : ℕ) : Type 0 where
  pub end : ThreadEnd
  pub in_ends : IsEndIn ends t end
  pub start : Start
  pub is_start : slice_get starts t ≡ Some start
  pub is_end : IsEndOf is_open m t start limit end

end_at : (is_open : Bool) (m : Module) (starts : List Start) (limit : ℕ) (ends : List ThreadEnd) (t : ℕ) → AreEndsOf is_open m starts limit ends → t < length starts → IsEndAt is_open m starts limit ends t
end_at is_open m starts limit ends t are lt =
    let within : t < length ends = omega (arith, lt, are.0) in
    let x : ThreadEnd = (item_there ends t within).0 in
    let is = are.1 t no_start x lt in
    record {
      end = slice_index_or ends t x;
      in_ends = ((t, slice_get-get_or ends t x within), is.of_thread);
      start = slice_index_or starts t no_start;
      is_start = slice_get-get_or starts t no_start lt;
      is_end = is;
    }

-- an end is at its thread's number
pub own_place : (is_open : Bool) (m : Module) (starts : List Start) (limit : ℕ) (ends : List ThreadEnd) (k : ℕ) (e : ThreadEnd) → AreEndsOf is_open m starts limit ends → slice_get ends k ≡ Some e → e.thread ≡ k
own_place is_open m starts limit ends k e are is =
    let within : k < length ends = slice_get_within ends k e is in
    let lt : k < length starts = omega (arith, within, are.0) in
    let at : slice_index_or ends k e ≡ e = get_or_from_slice_get ends k e e is in
    sym (ap (λ (x : ThreadEnd). x.thread) at) ∙ (are.1 k no_start e lt).of_thread

-- the recorder has as many threads as were started
as_many : (is_open : Bool) (m : Module) (starts : List Start) (limit : ℕ) (ends : List ThreadEnd) (r : Recording) (run : Record) → AreEndsOf is_open m starts limit ends → IsGathered m r ends run → threads_of r ≡ length starts
as_many is_open m starts limit ends r run are g = elim (cases_lt (threads_of r) (length starts)) [
  | inl fewer ↦
      let e = end_at is_open m starts limit ends (threads_of r) are fewer in
      let below : e.end.thread < threads_of r = g.one_each.others e.in_ends.0.0 e.end e.in_ends.0.1 in
      absurd (omega (arith, below, e.in_ends.1))
  | inr enough ↦ elim (cases_lt (length starts) (threads_of r)) [
    | inl more ↦
        let e = some_end ends (length starts) (g.one_each.each (length starts) more) in
        let place : e.0.thread ≡ e.1.0.0 = own_place is_open m starts limit ends e.1.0.0 e.0 are e.1.0.1 in
        let within : e.1.0.0 < length ends = slice_get_within ends e.1.0.0 e.0 e.1.0.1 in
        absurd (omega (arith, place, within, e.1.1, are.0))
    | inr few ↦ omega (arith, enough, few)
  ]
]

-- ---- each thread

-- what the log of a thread states about it
record IsThread (is_open : Bool) (m : Module) (starts : List Start) (limit : ℕ) (run : Record) (t : ℕ) (log : ThreadLog) : Type 0 where
  pub is_start : slice_get starts t ≡ Some log.start
  pub within : log.steps ≤ limit
  pub early : log.end ≡ Cut → log.steps < limit → IsHeld is_open m run t log
  pub fits : EndFits log.end

held : (is_open : Bool) (stop : Stop) (stands : Bool) (full : Type 0) → (is_own stop || stands) ≡ true → (stop ≡ Own → ⊥) → (stop ≡ Gate → is_open ≡ false) → (stop ≡ Memory → full) → (stands ≡ true) × ((is_open ≡ false) ⊎ full)
held is_open Own stands full before own gate memory = absurd (own refl)
held is_open Gate stands full before own gate memory = (before, inl (gate refl))
held is_open Memory stands full before own gate memory = (before, inr (memory refl))

thread_at : (is_open : Bool) (m : Module) (starts : List Start) (limit : ℕ) (ends : List ThreadEnd) (r : Recording) (run : Record) (t : ℕ) (log : ThreadLog) → AreEndsOf is_open m starts limit ends → IsGathered m r ends run → threads_of r ≡ length starts
    → IsEndAt is_open m starts limit ends t → t < threads_of r → slice_get run.log t ≡ Some log → IsThread is_open m starts limit run t log
thread_at is_open m starts limit ends r run t log are g many e lt at =
    let is : log_by e.end ≡ log = same_Some (log_by e.end) log (sym (g.logs.each t e.end lt e.in_ends) ∙ at) in
    let program : e.end.program.value ≡ m = e.is_end.of_module in
    let stands : (is_own e.end.stop || stands_before_access m t (log_by e.end)) ≡ true =
    subst (λ x. (is_own e.end.stop || stands_before_access x t (log_by e.end)) ≡ true) program
    (subst (λ k. (is_own e.end.stop || stands_before_access e.end.program.value k (log_by e.end)) ≡ true) e.is_end.of_thread e.end.stopped) in
    let full : e.end.stop ≡ Memory → 16384 ≤ length run.witness.order = λ memory. subst (λ keys. 16384 ≤ length keys) (sym g.order) ((g.agrees t e.end lt e.in_ends).full memory) in
    subst (IsThread is_open m starts limit run t) is (record {
      is_start = e.is_start ∙ ap Some (sym e.is_end.of_start);
      within = e.is_end.within;
      early = λ cut less. held is_open e.end.stop (stands_before_access m t (log_by e.end)) (16384 ≤ length run.witness.order) stands
          (λ own. let all = e.is_end.whole own cut in absurd (omega (arith, all, less))) e.is_end.held full;
      fits = e.is_end.fits;
    })

-- ---- the round

-- what is gathered, seen from the threads of the plan
record AreThreads (is_open : Bool) (m : Module) (starts : List Start) (limit : ℕ) (run : Record) : Type 0 where
  pub count : length run.log ≡ length starts
  pub each : (t : ℕ) (log : ThreadLog) → slice_get run.log t ≡ Some log → IsThread is_open m starts limit run t log

threads_from : (is_open : Bool) (m : Module) (starts : List Start) (limit : ℕ) (ends : List ThreadEnd) (r : Recording) (run : Record) → AreEndsOf is_open m starts limit ends → IsGathered m r ends run → AreThreads is_open m starts limit run
threads_from is_open m starts limit ends r run are g =
    let many = as_many is_open m starts limit ends r run are g in
    record {
      count = g.logs.count ∙ many;
      each = λ t log at.
          let within : t < length run.log = slice_get_within run.log t log at in
          let lt : t < threads_of r = omega (arith, within, g.logs.count) in
          let below : t < length starts = omega (arith, lt, many) in
          thread_at is_open m starts limit ends r run t log are g many (end_at is_open m starts limit ends t are below) lt at;
    }

starts_from : (is_open : Bool) (m : Module) (starts : List Start) (limit : ℕ) (run : Record) → AreThreads is_open m starts limit run → map (λ (log : ThreadLog). log.start) run.log ≡ starts
starts_from is_open m starts limit run are = same_lists (map (λ (log : ThreadLog). log.start) run.log) starts lengths items
  where
    lengths : length (map (λ (log : ThreadLog). log.start) run.log) ≡ length starts
    lengths = length-map run.log (λ (log : ThreadLog). log.start) ∙ are.count

    no_log : ThreadLog
    no_log = record { start = no_start; end = Cut; steps = 0; events = [] }

    items : (t : ℕ) (d : Start) → t < length (map (λ (log : ThreadLog). log.start) run.log) → get_or (map (λ (log : ThreadLog). log.start) run.log) t d ≡ get_or starts t d
    items t d lt =
        let within : t < length run.log = omega (arith, lt, length-map run.log (λ (log : ThreadLog). log.start)) in
        let log = get_or run.log t no_log in
        let at : slice_get run.log t ≡ Some log = slice_get-get_or run.log t no_log within in
        let here : slice_get (map (λ (x : ThreadLog). x.start) run.log) t ≡ Some log.start = slice_get-map (λ (x : ThreadLog). x.start) run.log t ∙ ap (option_map (λ (x : ThreadLog). x.start)) at in
        get_or_from_slice_get (map (λ (x : ThreadLog). x.start) run.log) t log.start d here ∙ sym (get_or_from_slice_get starts t log.start d (are.each t log at).is_start)

-- at most the number of threads and steps of the plan
pub within_from : (is_open : Bool) (m : Module) (plan : Plan) (ends : List ThreadEnd) (r : Recording) (run : Record) → IsRoundPlan plan → AreEndsOf is_open m plan.starts plan.steps ends → IsGathered m r ends run → IsWithinPlan run
within_from is_open m plan ends r run is are g =
    let threads = threads_from is_open m plan.starts plan.steps ends r run are g in
    let count = threads.count in
    let few = is.threads.few in
    record {
      threads = omega (arith, count, few);
      steps = λ t log at. (let made = (threads.each t log at).within in let most = is.steps in omega (arith, made, most));
      ends = λ t log at. (threads.each t log at).fits;
    }

pub round_from : (is_open : Bool) (m : Module) (plan : Plan) (ends : List ThreadEnd) (r : Recording) (run : Record) → OwnRunsAreAllowed → AreEndsOf is_open m plan.starts plan.steps ends → IsGathered m r ends run → IsRound is_open m plan run
round_from is_open m plan ends r run law are g =
    let threads = threads_from is_open m plan.starts plan.steps ends r run are g in
    let own = gathered_own m ends r run (programs_from is_open m plan.starts plan.steps ends are) g in
    record {
      starts = starts_from is_open m plan.starts plan.steps run threads;
      within = λ t log at. (threads.each t log at).within;
      own = own;
      allowed = λ initial is. law m run initial own is;
      early = λ t log at. (threads.each t log at).early;
    }
