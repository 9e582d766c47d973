-- A thread that is run as long as it makes its log's events.
use Rattle.std.proofs.Common.{◌≡◌, ℕ, ◌+◌, ◌-◌, ◌<◌, ◌≤◌, Bool, true, false, nat_lt, ◌++◌, length, Some, refl, sym, ap, ◌∙◌, length-take-le, arith}
use Rattle.std.proofs.lemmas.Bool.{ltb-false, ltb-true}
use Rattle.std.proofs.lemmas.List.{length-append}
use Rattle.wm_ast.specs.declared.module.Module.{Module}
use Rattle.wm_event.specs.declared.log.ThreadLog.{ThreadLog}
use Rattle.wm_machine.specs.Run.{end_of, steps}
use Rattle.wm_machine.specs.Term.{Config}
use Rattle.wm_replay.specs.declared.answer.Place.TheVariants as place
use Rattle.wm_replay.specs.Comparison.{end_place}
use Rattle.wm_replay.specs.Complete.{IsLongestRun, MakesEvents, ending}
use Rattle.wm_replay.specs.Following.{HasPlaces, RunsByLog, Stops}
use Rattle.wm_replay.specs.Following.Stops.{at_limit, at_other, at_end}
use Rattle.wm_replay.specs.Replay.{DiffersAt, reads_of}
use Rattle.wm_replay.proofs.Comparing.{Follows, is_run, other_differs, rests_differs}
use Rattle.wm_replay.proofs.Differing.{no_run, whole_of}
use Rattle.wm_replay.proofs.Following.{so_far}
use Rattle.wm_replay.proofs.Stopping.{follows, stop_differs, stops_within}
use Rattle.wm_replay.proofs.Runs.{more, more_grows, steps_more}
use Rattle.wm_event.specs.declared.log.End.{End}

-- the stated steps and end play no part in how a thread follows its log
with_ending : (m : Module) (k : ℕ) (t : ThreadLog) (start c : Config) (j n i : ℕ) (end : End) → Follows m k t start c j n → Follows m k (ending t i end) start c j n
with_ending m k t start c j n i end f = record { is_start = f.is_start; places = f.places; listed = f.listed; ran_so = f.ran_so }

-- ---- more steps

-- if it stops, no further steps make exactly the log's events
no_more : (m : Module) (k : ℕ) (t : ThreadLog) (start c : Config) (j n : ℕ) → Follows m k t start c j n → Stops m c t.events 1000000 j n
    → (i : ℕ) → j < i → i ≤ 1000000 → ¬ MakesEvents m k t i
no_more m k t start c j n f (at_limit e) i lt le makes = omega (arith, e, lt, le)
no_more m k t start c j n f (at_other before other) i lt le makes =
    no_run m k (ending t i makes.0) (place.Event n)
    (other_differs m k (ending t i makes.0) start c j n (with_ending m k t start c j n i makes.0 f) lt other) makes.1
no_more m k t start c j n f (at_end before stops) i lt le makes =
    no_run m k (ending t i makes.0) (end_place n (length t.events))
    (rests_differs m k (ending t i makes.0) start c j n (with_ending m k t start c j n i makes.0 f) lt stops) makes.1

-- the longest run of a thread that has made all events
pub is_longest : (m : Module) (k : ℕ) (t : ThreadLog) (c : Config) (j n : ℕ) → HasPlaces k t.events → RunsByLog m k t 1000000 c j n → length t.events ≤ n
    → IsLongestRun m k t (ending t j (end_of c))
is_longest m k t c j n places g all =
    let f = follows m k t 1000000 c j n places g in record {
      start = refl;
      events = refl;
      is_run = is_run m k (ending t j (end_of c)) g.start c j n (with_ending m k t g.start c j n j (end_of c) f) refl all refl;
      within = stops_within m c t 1000000 j n g.stops;
      longest = no_more m k t g.start c j n f g.stops;
    }

-- ---- fewer steps

-- before a thread has made all events, no fewer steps have
no_fewer : (m : Module) (k : ℕ) (t : ThreadLog) (start c : Config) (j n : ℕ) → Follows m k t start c j n → n < length t.events → (i : ℕ) → i ≤ j → ¬ MakesEvents m k t i
no_fewer m k t start c j n f left i le makes =
    let w = whole_of m k (ending t i makes.0) start f.is_start makes.1 in
    let split : steps m k start (reads_of t.events) j ≡ more m k (j - i) (steps m k start (reads_of t.events) i) =
    steps_more m k start (reads_of t.events) (j - i) i j (omega (arith, le)) in
    let from : more m k (j - i) (Some w.ran) ≡ Some (so_far c t.events n) = ap (more m k (j - i)) (sym w.ran_so) ∙ sym split ∙ f.ran_so in
    let grown = more_grows m k (j - i) w.ran (so_far c t.events n) from in
    let count : n ≡ length t.events + length grown.0 =
    sym (length-take-le n t.events f.listed) ∙ ap length (grown.1 ∙ ap (λ es. es ++ grown.0) w.made) ∙ length-append t.events grown.0 in
    omega (arith, left, count)

-- where it stops before it has made all events, no number of steps makes them
pub no_steps : (m : Module) (k : ℕ) (t : ThreadLog) (c : Config) (j n : ℕ) → HasPlaces k t.events → RunsByLog m k t 1000000 c j n → n < length t.events
    → (i : ℕ) → i ≤ 1000000 → ¬ MakesEvents m k t i
no_steps m k t c j n places g left i le = either (nat_lt j i) refl
  where
    either : (b : Bool) → nat_lt j i ≡ b → ¬ MakesEvents m k t i
    either true is = no_more m k t g.start c j n (follows m k t 1000000 c j n places g) g.stops i (ltb-true j i is) le
    either false is = no_fewer m k t g.start c j n (follows m k t 1000000 c j n places g) left i (ltb-false j i is)

-- this is the answer of a replay of 1,000,000 steps
pub stop_at_differs : (m : Module) (k : ℕ) (t : ThreadLog) (c : Config) (j n : ℕ) → HasPlaces k t.events → RunsByLog m k t 1000000 c j n → n < length t.events
    → DiffersAt m k (ending t 1000000 t.end) (place.Event n)
stop_at_differs m k t c j n places g left =
    stop_differs m k (ending t 1000000 t.end) g.start c j n (with_ending m k t g.start c j n 1000000 t.end (follows m k t 1000000 c j n places g)) g.stops left
