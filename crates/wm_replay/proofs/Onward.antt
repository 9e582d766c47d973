-- A thread that was run by the first events of a log has come so far by the log.
use Rattle.std.proofs.Common.{◌≡◌, ℕ, suc, zero, ◌+◌, ◌≤◌, ◌<◌, List, [], ◌∷◌, ◌++◌, length, length-append, take, drop, Some, refl, sym, ap, ◌∙◌, arith}
use Rattle.std.specs.Prelude.{Ok, Result, slice_get}
use Rattle.std.proofs.lemmas.List.{take-append-drop}
use Rattle.std.proofs.lemmas.Option.{none-some, slice_get_within}
use Rattle.wm_ast.specs.declared.module.Module.{Module}
use Rattle.wm_event.specs.declared.event.Event.{Event}
use Rattle.wm_event.specs.declared.log.Start.{Start}
use Rattle.wm_event.specs.declared.log.ThreadLog.{ThreadLog}
use Rattle.wm_machine.specs.declared.fault.StartFault.{StartFault}
use Rattle.wm_machine.specs.declared.thread.CodePosition.{CodePosition}
use Rattle.wm_machine.specs.Run.{Ran, steps}
use Rattle.wm_machine.specs.Start.{started}
use Rattle.wm_machine.specs.State.{State, config_of}
use Rattle.wm_machine.specs.Term.{Config}
use Rattle.wm_replay.specs.declared.by_log.Followed.{Followed}
use Rattle.wm_replay.specs.Following.{Accesses, HasPlaces}
use Rattle.wm_replay.specs.Positions.{ArePositions, HasCome, HasFollowed, IsAfter, IsMadeAt, IsReached, begins, goes_on}
use Rattle.wm_replay.specs.Replay.{reads_of, start_of}
use Rattle.wm_replay.proofs.Comparing.{Follows}
use Rattle.wm_replay.proofs.Continuations.{reads_of_both, steps_on_more, with_more}
use Rattle.wm_replay.proofs.Following.{so_far}
use Rattle.wm_replay.proofs.Stopping.{stops_within}

-- how a thread that has come so far follows its log
pub follows_so : (m : Module) (k : ℕ) (t : ThreadLog) (s : State) (j n : ℕ) (positions : List CodePosition) → HasPlaces k t.events → (come : HasCome m k t s j n positions)
    → Follows m k t come.start (config_of s) j n
follows_so m k t s j n positions places come = record { is_start = come.is_start; places = places; listed = come.listed; ran_so = come.ran_so }

-- ---- the front of a list

take_front : (es fs : List Event) (n : ℕ) → n ≤ length es → take n (es ++ fs) ≡ take n es
take_front es fs zero le = refl
take_front [] fs (suc n) le = absurd (omega (arith, le))
take_front (e ∷ es) fs (suc n) le = ap (λ xs. e ∷ xs) (take_front es fs n (omega (arith, le)))

drop_front : (es fs : List Event) (n : ℕ) → n ≤ length es → drop n (es ++ fs) ≡ drop n es ++ fs
drop_front es fs zero le = refl
drop_front [] fs (suc n) le = absurd (omega (arith, le))
drop_front (e ∷ es) fs (suc n) le = drop_front es fs n (omega (arith, le))

get_front : (es fs : List Event) (i : ℕ) (e : Event) → slice_get es i ≡ Some e → slice_get (es ++ fs) i ≡ Some e
get_front [] fs i e is = absurd (none-some e is)
get_front (x ∷ es) fs zero e is = is
get_front (x ∷ es) fs (suc i) e is = get_front es fs i e is

-- ---- a log that begins with the events of another

module _ (m : Module) (k : ℕ) (t u : ThreadLog) (start : t.start ≡ u.start) (events : t.events ≡ take (length t.events) u.events) where
  abbrev rest : List Event
  rest = drop (length t.events) u.events

  all_events : u.events ≡ t.events ++ rest
  all_events = sym (take-append-drop (length t.events) u.events) ∙ ap (λ es. es ++ rest) (sym events)

  starts_too : (r : Result Config StartFault) → start_of m t ≡ r → start_of m u ≡ r
  starts_too r is = ap (λ (s : Start). started m s.name s.args) (sym start) ∙ is

  steps_too : (c : Config) (j : ℕ) (ran : Ran) → steps m k c (reads_of t.events) j ≡ Some ran → steps m k c (reads_of u.events) j ≡ Some (with_more (reads_of rest) ran)
  steps_too c j ran so =
      ap (λ es. steps m k c (reads_of es) j) all_events ∙ ap (λ rs. steps m k c rs j) (reads_of_both t.events rest)
      ∙ steps_on_more m k c (reads_of t.events) (reads_of rest) j ran so

  same_so_far : (c : Config) (n : ℕ) → n ≤ length t.events → with_more (reads_of rest) (so_far c t.events n) ≡ so_far c u.events n
  same_so_far c n le =
      let made : take n u.events ≡ take n t.events = ap (take n) all_events ∙ take_front t.events rest n le in
      let left : reads_of (drop n u.events) ≡ reads_of (drop n t.events) ++ reads_of rest =
      ap (λ es. reads_of (drop n es)) all_events ∙ ap reads_of (drop_front t.events rest n le) ∙ reads_of_both (drop n t.events) rest in
      ap (λ es. record { events = es; config = c; reads = reads_of (drop n t.events) ++ reads_of rest }) (sym made)
      ∙ ap (λ rs. record { events = take n u.events; config = c; reads = rs }) (sym left)

  ran_too : (c : Config) (j n : ℕ) (d : Config) → n ≤ length t.events → steps m k c (reads_of t.events) j ≡ Some (so_far d t.events n)
      → steps m k c (reads_of u.events) j ≡ Some (so_far d u.events n)
  ran_too c j n d le so = steps_too c j (so_far d t.events n) so ∙ ap Some (same_so_far d n le)

  after_too : (count : ℕ) (config : Config) → IsAfter m k t count config → IsAfter m k u count config
  after_too count config a = record {
    start = a.start;
    is_start = starts_too (Ok a.start) a.is_start;
    ran = with_more (reads_of rest) a.ran;
    ran_so = steps_too a.start count a.ran a.ran_so;
    is_config = a.is_config;
  }

  reached_too : (count : ℕ) (s : State) → IsReached m k t count s → IsReached m k u count s
  reached_too _ s (begins is at) = begins (starts_too (Ok (config_of s)) is) at
  reached_too _ u' (goes_on {count = count} {s = s} before after moves) =
      goes_on (reached_too count s before) (after_too (count + 1) (config_of u') after) moves

  accesses_too : (old new : Config) (n : ℕ) → Accesses m old new t.events n → Accesses m old new u.events n
  accesses_too old new n a = record {
    op = a.op;
    event = a.event;
    listed = ap (λ es. slice_get es n) all_events ∙ get_front t.events rest n a.event a.listed;
    makes = a.makes;
    asks = a.asks;
    steps_to = a.steps_to;
  }

  made_too : (n : ℕ) (p : CodePosition) → IsMadeAt m k t n p → IsMadeAt m k u n p
  made_too n p at =
      let within : n < length t.events = slice_get_within t.events n at.makes.event at.makes.listed in
      let le : n ≤ length t.events = omega (arith, within) in record {
        start = at.start;
        is_start = starts_too (Ok at.start) at.is_start;
        state = at.state;
        runs_module = at.runs_module;
        count = at.count;
        reached = reached_too at.count at.state at.reached;
        ran_so = ran_too at.start at.count n (config_of at.state) le at.ran_so;
        next = at.next;
        makes = accesses_too (config_of at.state) at.next n at.makes;
        is_position = at.is_position;
      }

  positions_too : (n : ℕ) (positions : List CodePosition) → ArePositions m k t n positions → ArePositions m k u n positions
  positions_too n positions are = record { count = are.count; each = λ i p is. made_too i p (are.each i p is) }

  few_events : length t.events ≤ length u.events
  few_events =
      let sum : length u.events ≡ length t.events + length rest = ap length all_events ∙ length-append t.events rest in
      omega (arith, sum)

-- the thread has come so far by the log
pub has_come : (k : ℕ) (t : ThreadLog) (limit : ℕ) (f : Followed) → HasFollowed f.thread.module k t limit f → HasCome f.thread.module k t f.thread f.steps f.events f.positions
has_come k t limit f is =
    let m = f.thread.module in
    let runs = is.followed.runs.0 in
    let listed = runs.listed in
    let few = few_events m k is.first t is.start is.events in record {
      start = runs.start;
      is_start = starts_too m k is.first t is.start is.events (Ok runs.start) runs.is_start;
      listed = omega (arith, listed, few);
      ran_so = ran_too m k is.first t is.start is.events runs.start f.steps f.events (config_of f.thread) listed runs.ran_so;
      reached = reached_too m k is.first t is.start is.events f.steps f.thread is.followed.reached;
      made_at = positions_too m k is.first t is.start is.events f.events f.positions is.followed.positions;
    }

-- within its limit
pub has_come_within : (k : ℕ) (t : ThreadLog) (limit : ℕ) (f : Followed) → HasFollowed f.thread.module k t limit f → f.steps ≤ limit
has_come_within k t limit f is = stops_within f.thread.module (config_of f.thread) is.first limit f.steps f.events is.followed.runs.0.stops
