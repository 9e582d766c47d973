-- What the turns of a script leave is the scripted run, and an own run of the module.
use Rattle.std.proofs.Common.{◌≡◌, ℕ, ◌<◌, List, [], Some, refl, sym, ap, subst, ◌∙◌, arith, length, reverse, slice_get, map, All, get_or}
use Rattle.std.specs.Prelude.{unwrap_or}
use Rattle.std.proofs.lemmas.List.{length-map}
use Rattle.std.proofs.lemmas.Option.{same_Some, slice_get-get_or, slice_get_within}
use Rattle.wm_ast.specs.declared.module.Module.{Module}
use Rattle.wm_event.specs.declared.event.Event.{Event}
use Rattle.wm_event.specs.declared.log.Start.{Start}
use Rattle.wm_event.specs.declared.log.ThreadLog.{ThreadLog}
use Rattle.wm_logfile.specs.Document.{EndFits}
use Rattle.wm_machine.specs.Run.{end_of}
use Rattle.wm_machine.specs.State.{config_of}
use Rattle.wm_memory.specs.Legal.{IsLegal}
use Rattle.wm_memory.specs.Recorded.{by_thread, events_of, writers_of}
use Rattle.wm_memory.specs.Visibility.{steps}
use Rattle.wm_memory.proofs.Listed.{get-by_thread, length-by_thread}
use Rattle.wm_recorder.specs.Recorder.{IsNew, IsRecording, Recording, initial_of, steps_of, threads_of}
use Rattle.wm_replay.specs.Replay.{AreRuns, IsRun}
use Rattle.wm_replay.proofs.Comparisons.{item_there}
use Rattle.wm_valid.specs.Valid.{IsInit}
use Rattle.wm_run.specs.declared.plan.Plan.{Plan}
use Rattle.wm_run.specs.declared.runner.Runner.{Runner}
use Rattle.wm_run.specs.declared.turn.Turn.{Turn}
use Rattle.wm_run.specs.Finish.{AreLogs, IsFinished, log_of}
use Rattle.wm_run.specs.Launch.{AreLaunched}
use Rattle.wm_run.specs.Own.{IsOwnRun, IsWithinPlan}
use Rattle.wm_run.specs.Plan.{IsPlan}
use Rattle.wm_run.specs.Run.{Record}
use Rattle.wm_run.specs.Runner.{IsSet, PlaysTurns, script_state, setting_of, runner_state}
use Rattle.wm_run.specs.Script.{ScriptState, Setting, ThreadState, done}
use Rattle.wm_run.specs.Scripted.{Begins, IsFirstState, IsLogOf, IsScripted, thread_log}
use Rattle.wm_run.proofs.Limits.{AllWithin, first_within, turns_within}
use Rattle.wm_run.proofs.Logging.{logged_events}
use Rattle.wm_run.proofs.Runs.{AllRun, first_run, is_run, turns_run}
use Rattle.wm_run.proofs.Turns.{IsOf, standing_at}

-- threads that were started, with a recorder of no step
pub launched_set : (m : Module) (starts : List Start) (xs : List Runner) (init : List ℕ) (r : Recording) → AreLaunched m starts xs → IsNew (length xs) init r → IsInit m init → IsSet m xs r
launched_set m starts xs init r are new is_init = record { programs = programs; count = new.threads; initial = subst (IsInit m) (sym new.initial) is_init }
  where
    program : (k : ℕ) (x : Runner) → slice_get xs k ≡ Some x → (start : Start) × (slice_get starts k ≡ Some start) → IsOf m x
    program k x at start = (are.each k start.0 x start.1 at).program

    programs : All (IsOf m) xs
    programs k d lt =
        let there : k < length starts = omega (arith, lt, are.count) in
        program k (get_or xs k d) (slice_get-get_or xs k d lt) (item_there starts k there)

-- a thread of the list as it is seen
seen_as : (xs : List Runner) (t : ℕ) (z : ThreadState) → slice_get (map runner_state xs) t ≡ Some z → (x : Runner) × (slice_get xs t ≡ Some x) × (runner_state x ≡ z)
seen_as xs t z at =
    let within : t < length xs = omega (arith, slice_get_within (map runner_state xs) t z at, length-map xs runner_state) in
    let x = item_there xs t within in
    (x.0, x.1, same_Some (runner_state x.0) z (sym (standing_at xs t x.0 x.1) ∙ at))

pub first_scene : (m : Module) (starts : List Start) (xs : List Runner) (init : List ℕ) (r : Recording) → AreLaunched m starts xs → IsNew (length xs) init r → IsFirstState m starts (script_state xs r)
first_scene m starts xs init r are new = record {
  count = length-map xs runner_state ∙ are.count;
  each = λ t start z of_start of_z. let x = seen_as xs t z of_z in subst (Begins m start) x.2 ((are.each t start x.0 of_start x.1).begins);
  history = new.history;
}

-- the events of a thread, as the recorder has them
own_events : (r : Recording) (t : ℕ) → IsRecording r → t < threads_of r → unwrap_or (slice_get r.events t) [] ≡ events_of (steps_of r) t
own_events r t k there =
    ap (λ (es : List (List Event)). unwrap_or (slice_get es t) []) k.events ∙ ap (λ o. unwrap_or o []) (get-by_thread (events_of (steps_of r)) (threads_of r) t there)

-- what was finished is the log of the last state
pub finished_log : (starts : List Start) (xs : List Runner) (r : Recording) (run : Record) → length xs ≡ length starts → threads_of r ≡ length starts → IsFinished starts xs r run → IsLogOf starts (map runner_state xs) (steps_of r) run
finished_log starts xs r run same count f = record {
  count = f.logs.count;
  each = λ t start z of_start of_z.
      let x = seen_as xs t z of_z in
      let there : t < threads_of r = omega (arith, slice_get_within starts t start of_start, count) in
      f.logs.each t start x.0 of_start x.1
      ∙ ap (λ es. Some (record { start = start; end = end_of (config_of x.0.thread); steps = x.0.made; events = es })) (own_events r t f.recording there)
      ∙ ap (λ y. Some (thread_log (steps_of r) t start y)) x.2;
  writers = f.writers ∙ f.recording.writers ∙ ap (by_thread (writers_of (steps_of r))) count;
  order = f.order ∙ f.recording.order;
}

-- the threads of a log of the last state are their runs
pub logged_runs : (g : Setting) (starts : List Start) (last : ScriptState) (run : Record) → length last.threads ≡ length starts → AllRun g starts last → IsLogOf starts last.threads (done g last.history) run → AreRuns g.program run.log
logged_runs g starts last run count runs logged k log at = named (item_there starts k in_starts) (item_there last.threads k in_threads)
  where
    in_starts : k < length starts
    in_starts = omega (arith, slice_get_within run.log k log at, logged.count)

    in_threads : k < length last.threads
    in_threads = omega (arith, in_starts, count)

    named : (start : Start) × (slice_get starts k ≡ Some start) → (z : ThreadState) × (slice_get last.threads k ≡ Some z) → IsRun g.program k log
    named start z =
        let is : thread_log (done g last.history) k start.0 z.0 ≡ log = same_Some _ log (sym (logged.each k start.0 z.0 start.1 z.1) ∙ at) in
        subst (IsRun g.program k) is (is_run g.program k start.0 z.0 (done g last.history) (runs k start.0 z.0 start.1 z.1))

-- the whole: from the threads that were started to what was finished
pub record Drives (m : Module) (plan : Plan) (turns : List Turn) (xs : List Runner) (r : Recording) (ys : List Runner) (r' : Recording) (run : Record) : Type 0 where
  pub initial : List ℕ
  pub is_init : IsInit m initial
  pub launched : AreLaunched m plan.starts xs
  pub new : IsNew (length xs) initial r
  pub plays : PlaysTurns m plan.steps turns xs r ys r'
  pub finished : IsFinished plan.starts ys r' run

as_many : (m : Module) (plan : Plan) (turns : List Turn) (xs : List Runner) (r : Recording) (ys : List Runner) (r' : Recording) (run : Record) → Drives m plan turns xs r ys r' run → length ys ≡ length plan.starts
as_many m plan turns xs r ys r' run d = d.plays.count ∙ d.launched.count

pub logged : (m : Module) (plan : Plan) (turns : List Turn) (xs : List Runner) (r : Recording) (ys : List Runner) (r' : Recording) (run : Record) → Drives m plan turns xs r ys r' run
    → IsLogOf plan.starts (map runner_state ys) (done (setting_of m r plan.steps) r'.history) run
logged m plan turns xs r ys r' run d =
    let count = as_many m plan turns xs r ys r' run d in
    subst (λ init. IsLogOf plan.starts (map runner_state ys) (steps init (reverse r'.history)) run) d.plays.initial (finished_log plan.starts ys r' run count (d.plays.set.count ∙ count) d.finished)

pub is_scripted : (m : Module) (plan : Plan) (turns : List Turn) (xs : List Runner) (r : Recording) (ys : List Runner) (r' : Recording) (run : Record) → Drives m plan turns xs r ys r' run → IsScripted m plan turns run
is_scripted m plan turns xs r ys r' run d = record {
  setting = setting_of m r plan.steps;
  program = refl;
  initial = subst (IsInit m) (sym d.new.initial) d.is_init;
  limit = refl;
  first = script_state xs r;
  last = script_state ys r';
  begins = first_scene m plan.starts xs d.initial r d.launched d.new;
  plays = d.plays.plays;
  logged = logged m plan turns xs r ys r' run d;
}

-- the thread and the start that a log is of
record IsLogged (ys : List Runner) (r : Recording) (t : ℕ) (log : ThreadLog) : Type 0 where
  pub start : Start
  pub runner : Runner
  pub at : slice_get ys t ≡ Some runner
  pub is : log_of r t start runner ≡ log

logged_at : (starts : List Start) (ys : List Runner) (r : Recording) (logs : List ThreadLog) (t : ℕ) (log : ThreadLog) → length ys ≡ length starts → AreLogs starts ys r logs → slice_get logs t ≡ Some log → IsLogged ys r t log
logged_at starts ys r logs t log same are at =
    let in_starts : t < length starts = omega (arith, slice_get_within logs t log at, are.count) in
    let in_ys : t < length ys = omega (arith, in_starts, same) in
    let start = item_there starts t in_starts in
    let runner = item_there ys t in_ys in
    record { start = start.0; runner = runner.0; at = runner.1; is = same_Some (log_of r t start.0 runner.0) log (sym (are.each t start.0 runner.0 start.1 runner.1) ∙ at) }

-- at most the number of threads and steps of the plan
pub is_within : (m : Module) (plan : Plan) (turns : List Turn) (xs : List Runner) (r : Recording) (ys : List Runner) (r' : Recording) (run : Record) → IsPlan plan turns → Drives m plan turns xs r ys r' run → IsWithinPlan run
is_within m plan turns xs r ys r' run is d =
    let g : Setting = setting_of m r plan.steps in
    let count = as_many m plan turns xs r ys r' run d in
    let few = is.threads.few in
    let logs = d.finished.logs.count in
    let first : AllWithin g (script_state xs r) = first_within g plan.starts (script_state xs r) (first_scene m plan.starts xs d.initial r d.launched d.new) in
    let last : AllWithin g (script_state ys r') = turns_within g (script_state xs r) (script_state ys r') turns d.plays.plays first in
    record {
      threads = omega (arith, few, logs);
      steps = λ t log at.
          let l = logged_at plan.starts ys r' run.log t log count d.finished.logs at in
          let made = last t (runner_state l.runner) (standing_at ys t l.runner l.at) in
          let same = ap (λ (x : ThreadLog). x.steps) l.is in
          let most = is.steps in
          omega (arith, made, most, same);
      ends = λ t log at.
          let l = logged_at plan.starts ys r' run.log t log count d.finished.logs at in
          subst (λ (x : ThreadLog). EndFits x.end) l.is (d.finished.logs.ends t l.runner l.at);
    }

pub is_own : (m : Module) (plan : Plan) (turns : List Turn) (xs : List Runner) (r : Recording) (ys : List Runner) (r' : Recording) (run : Record) → Drives m plan turns xs r ys r' run → IsOwnRun m run
is_own m plan turns xs r ys r' run d =
    let g : Setting = setting_of m r plan.steps in
    let k : IsRecording r' = d.finished.recording in
    let count = as_many m plan turns xs r ys r' run d in
    let recorded : threads_of r' ≡ length run.log = d.plays.set.count ∙ count ∙ sym d.finished.logs.count in
    let by_events : length r'.events ≡ length plan.starts = ap length k.events ∙ length-by_thread (events_of (steps_of r')) (threads_of r') ∙ d.plays.set.count ∙ count in
    let bytes : All (λ b. b < 256) (initial_of r) = subst (All (λ b. b < 256)) d.plays.initial k.bytes in
    let first : AllRun g plan.starts (script_state xs r) = first_run g plan.starts (script_state xs r) (first_scene m plan.starts xs d.initial r d.launched d.new) in
    let last : AllRun g plan.starts (script_state ys r') = turns_run g plan.starts (script_state xs r) (script_state ys r') turns bytes d.plays.plays first in
    record {
      initial = initial_of r';
      is_init = d.plays.set.initial;
      bytes = k.bytes;
      history = reverse r'.history;
      legal = subst (λ n. IsLegal n (initial_of r') (reverse r'.history)) recorded k.legal;
      records = record {
        events = logged_events plan.starts ys r' run.log count by_events d.finished.logs ∙ k.events ∙ ap (by_thread (events_of (steps_of r'))) recorded;
        writers = d.finished.writers ∙ k.writers ∙ ap (by_thread (writers_of (steps_of r'))) recorded;
        order = d.finished.order ∙ k.order;
        memory = refl;
      };
      runs = logged_runs g plan.starts (script_state ys r') run (length-map ys runner_state ∙ count) last (logged m plan turns xs r ys r' run d);
    }
