-- The logs of the threads by their ends, beside the recorder.
use Rattle.std.proofs.Common.{◌≡◌, ℕ, ◌+◌, ◌<◌, List, [], ◌∷◌, ◌++◌, All, length, get_or, map, reverse, Some, slice_get, refl, sym, ap, subst, ◌∙◌, arith}
use Rattle.std.specs.Prelude.{option_map, unwrap_or}
use Rattle.std.proofs.lemmas.List.{length-map, same_lists}
use Rattle.std.proofs.lemmas.List.Elements.{All-get_or}
use Rattle.std.proofs.lemmas.Option.{get_or_from_slice_get, same_Some, slice_get-get_or, slice_get-map, slice_get_within}
use Rattle.wm_ast.specs.declared.module.Module.{Module}
use Rattle.wm_event.specs.declared.event.Event.{Event}
use Rattle.wm_event.specs.declared.log.ThreadLog.{ThreadLog}
use Rattle.wm_memory.proofs.Listed.{get-end, get-front, length-by_thread}
use Rattle.wm_memory.specs.Legal.{IsLegal}
use Rattle.wm_memory.specs.Recorded.{by_thread, events_of, writers_of}
use Rattle.wm_recorder.specs.Recorder.{Recording, IsRecording, RecordsValid, initial_of, steps_of, threads_of}
use Rattle.wm_replay.specs.Replay.{IsRun}
use Rattle.wm_valid.specs.Valid.{IsInit}
use Rattle.wm_run.specs.declared.rounds.ended.ThreadEnd.{ThreadEnd}
use Rattle.wm_run.specs.Ends.{HasOneEach, IsEndIn, ends_of}
use Rattle.wm_run.specs.Gathered.{AllAgree, AreGathered, AreLogsBy, IsGathered, log_by}
use Rattle.wm_run.specs.Own.{IsOwnRun}
use Rattle.wm_run.specs.Run.{IsRunOver, Record}
use Rattle.wm_run.proofs.OneEach.{one_more_end, some_end}

pub logs_more : (ends : List ThreadEnd) (logs : List ThreadLog) (n : ℕ) (e : ThreadEnd) (new : ThreadLog) → length logs ≡ n → ends_of ends n ≡ 1 → IsEndIn ends n e → new ≡ log_by e
    → ((t : ℕ) (x : ThreadEnd) → t < n → IsEndIn ends t x → slice_get logs t ≡ Some (log_by x))
    → (t : ℕ) (x : ThreadEnd) → t < n + 1 → IsEndIn ends t x → slice_get (logs ++ new ∷ []) t ≡ Some (log_by x)
logs_more ends logs n e new count one in_ends is below =
    one_more_end (λ t x. slice_get (logs ++ new ∷ []) t ≡ Some (log_by x)) ends n e one in_ends
    (ap (slice_get (logs ++ new ∷ [])) (sym count) ∙ (get-end logs new ∙ ap Some is))
    (λ t x less in_ends'. get-front logs new t (λ at. omega (arith, at, count, less)) ∙ below t x less in_ends')

-- the events of the logs are those of the recorder
pub logged_events : (r : Recording) (ends : List ThreadEnd) (logs : List ThreadLog) → IsRecording r → HasOneEach (threads_of r) ends → AllAgree r ends → AreLogsBy (threads_of r) ends logs
    → map (λ (log : ThreadLog). log.events) logs ≡ r.events
logged_events r ends logs k one_each agrees are = same_lists (map (λ (log : ThreadLog). log.events) logs) r.events lengths items
  where
    by_events : length r.events ≡ threads_of r
    by_events = ap length k.events ∙ length-by_thread (events_of (steps_of r)) (threads_of r)

    lengths : length (map (λ (log : ThreadLog). log.events) logs) ≡ length r.events
    lengths = length-map logs (λ (log : ThreadLog). log.events) ∙ (are.count ∙ sym by_events)

    item : (t : ℕ) (d : List Event) (e : ThreadEnd) → t < length r.events → t < threads_of r → IsEndIn ends t e → get_or (map (λ (log : ThreadLog). log.events) logs) t d ≡ get_or r.events t d
    item t d e lt there in_ends =
        let here : slice_get (map (λ (log : ThreadLog). log.events) logs) t ≡ Some e.calls.events =
        slice_get-map (λ (log : ThreadLog). log.events) logs t ∙ ap (option_map (λ (log : ThreadLog). log.events)) (are.each t e there in_ends) in
        let same : unwrap_or (slice_get r.events t) [] ≡ e.calls.events = ap (λ n. unwrap_or (slice_get r.events n) []) (sym in_ends.1) ∙ (agrees t e there in_ends).events in
        let held : slice_get r.events t ≡ Some (get_or r.events t d) = slice_get-get_or r.events t d lt in
        get_or_from_slice_get (map (λ (log : ThreadLog). log.events) logs) t e.calls.events d here ∙ (sym same ∙ ap (λ o. unwrap_or o []) held)

    items : (t : ℕ) (d : List Event) → t < length (map (λ (log : ThreadLog). log.events) logs) → get_or (map (λ (log : ThreadLog). log.events) logs) t d ≡ get_or r.events t d
    items t d lt =
        let in_events : t < length r.events = omega (arith, lt, lengths) in
        let there : t < threads_of r = omega (arith, in_events, by_events) in
        let has = some_end ends t (one_each.each t there) in
        item t d has.0 in_events there has.1

-- ---- what the parts of a gathering state

pub gathered_logs : (m : Module) (r : Recording) (ends : List ThreadEnd) (logs : List ThreadLog) (n : ℕ) → IsInit m (initial_of r) → n ≡ threads_of r → IsRecording r → HasOneEach n ends → AllAgree r ends
    → AreLogsBy n ends logs → AreGathered m r ends logs
gathered_logs m r ends logs n is_init count k one_each agrees logs_by =
    let one : HasOneEach (threads_of r) ends = subst (λ i. HasOneEach i ends) count one_each in
    let are : AreLogsBy (threads_of r) ends logs = subst (λ i. AreLogsBy i ends logs) count logs_by in
    record { is_init = is_init; one_each = one; agrees = agrees; by_ends = are; events = logged_events r ends logs k one agrees are }

-- the run speaks of the ends and of the logs by other names
pub gathered_run : (m : Module) (r : Recording) (ends ends' : List ThreadEnd) (logs : List ThreadLog) (run : Record) → ends' ≡ ends → AreGathered m r ends' logs → IsRunOver r logs run → IsRecording r → RecordsValid r
    → IsGathered m r ends run
gathered_run m r ends ends' logs run same gathered over recording valid =
    let g : AreGathered m r ends run.log = subst (AreGathered m r ends) (sym over.log) (subst (λ es. AreGathered m r es logs) same gathered) in
    record {
      is_init = g.is_init;
      one_each = g.one_each;
      agrees = g.agrees;
      logs = g.by_ends;
      events = g.events;
      writers = over.writers;
      order = over.order;
      recording = recording;
      valid = valid;
    }

-- ---- what is gathered is an own run

is_run_of : (m : Module) (ends : List ThreadEnd) (t : ℕ) (e : ThreadEnd) (log : ThreadLog) → All (λ (x : ThreadEnd). x.program.value ≡ m) ends → IsEndIn ends t e → log_by e ≡ log → IsRun m t log
is_run_of m ends t e log programs in_ends is =
    let within : in_ends.0.0 < length ends = slice_get_within ends in_ends.0.0 e in_ends.0.1 in
    let program : e.program.value ≡ m =
    subst (λ (x : ThreadEnd). x.program.value ≡ m) (get_or_from_slice_get ends in_ends.0.0 e e in_ends.0.1) (All-get_or (λ (x : ThreadEnd). x.program.value ≡ m) ends in_ends.0.0 e within programs) in
    subst (IsRun m t) is (subst (λ x. IsRun x t (log_by e)) program (subst (λ k. IsRun e.program.value k (log_by e)) in_ends.1 e.is_run))

pub gathered_own : (m : Module) (ends : List ThreadEnd) (r : Recording) (run : Record) → All (λ (x : ThreadEnd). x.program.value ≡ m) ends → IsGathered m r ends run → IsOwnRun m run
gathered_own m ends r run programs g =
    let k : IsRecording r = g.recording in
    let recorded : threads_of r ≡ length run.log = sym g.logs.count in
    record {
      initial = initial_of r;
      is_init = g.is_init;
      bytes = k.bytes;
      history = reverse r.history;
      legal = subst (λ n. IsLegal n (initial_of r) (reverse r.history)) recorded k.legal;
      records = record {
        events = g.events ∙ (k.events ∙ ap (by_thread (events_of (steps_of r))) recorded);
        writers = g.writers ∙ (k.writers ∙ ap (by_thread (writers_of (steps_of r))) recorded);
        order = g.order ∙ k.order;
        memory = refl;
      };
      runs = λ t log at.
          let within : t < length run.log = slice_get_within run.log t log at in
          let there : t < threads_of r = omega (arith, within, g.logs.count) in
          let has = some_end ends t (g.one_each.each t there) in
          is_run_of m ends t has.0 log programs has.1 (same_Some (log_by has.0) log (sym (g.logs.each t has.0 there has.1) ∙ at));
    }
