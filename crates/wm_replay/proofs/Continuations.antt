-- How an ended run goes on that begins with the events of a log.
use Rattle.std.proofs.Common.{◌≡◌, ℕ, suc, zero, ◌-◌, ◌*◌, ◌^◌, ◌<◌, ◌≤◌, Bool, true, false, nat_lt, inl, inr, List, [], ◌∷◌, ◌++◌, length, take, drop, Option, Some, None, refl, sym, ap, subst, ◌∙◌, length-take-le, take_all, arith}
use Rattle.std.specs.Prelude.{◌≢◌, ◌⊎◌, Err, Ok, Result, slice_get, if◌then◌else◌}
use Rattle.std.proofs.lemmas.Bool.{cases_order}
use Rattle.std.proofs.lemmas.List.{take-append-drop}
use Rattle.std.proofs.lemmas.Option.{none-some, same_Some}
use Rattle.wm_ast.specs.declared.module.Module.{Module}
use Rattle.wm_access.specs.AccessWidth.{bytes_of, Fits}
use Rattle.wm_event.specs.declared.event.Event.{Event}
use Rattle.wm_event.specs.declared.log.End.{End}
use Rattle.wm_event.specs.declared.log.End.TheVariants.{Cut}
use Rattle.wm_event.specs.declared.log.Start.{Start}
use Rattle.wm_event.specs.declared.log.ThreadLog.{ThreadLog}
use Rattle.wm_event.specs.declared.op.OpFields.{OpFields}
use Rattle.wm_event.specs.Event.{reads}
use Rattle.wm_event.specs.Op.{event_made, kind_finds}
use Rattle.wm_machine.specs.declared.fault.StartFault.{StartFault}
use Rattle.wm_machine.specs.Start.{started}
use Rattle.wm_machine.specs.Term.{Config, Over, Running, Step, NoStep, ReducesTo}
use Rattle.wm_machine.specs.Step.{access_of, step}
use Rattle.wm_machine.specs.Run.{Ran, Taken, and_run_on, end_of, ran_on, ran_with, run_from, run_on, steps, take_fitting, take_read, take_where}
use Rattle.wm_replay.specs.Continuing.{HasNextBy, IsEndedRun}
use Rattle.wm_replay.specs.Following.{AccessesOther, RunsByLog, Stops}
use Rattle.wm_replay.specs.Following.Stops.{at_limit, at_other, at_end}
use Rattle.wm_replay.specs.Replay.{IsRun, reads_of, start_of}
use Rattle.wm_replay.proofs.Differing.{Whole, get_behind, no_step, one_step_more, whole_of}
use Rattle.wm_replay.proofs.Stopping.{stops_within}
use Rattle.wm_replay.proofs.Runs.{more, more_none, next_event, steps_more}

-- ---- more values to read

abbrev pub with_more : List ℕ → Ran → Ran
with_more further ran = record { events = ran.events; config = ran.config; reads = ran.reads ++ further }

abbrev taken_more : List ℕ → Taken → Taken
taken_more further taken = record { read = taken.read; others = taken.others ++ further }

fitting_more : (op : OpFields) (further reads : List ℕ) (taken : Taken) → take_fitting op reads ≡ Some taken → take_fitting op (reads ++ further) ≡ Some (taken_more further taken)
fitting_more op further [] taken e = absurd (none-some taken e)
fitting_more op further (r ∷ reads) taken e = by (nat_lt r (2 ^ (8 * bytes_of op.width))) e
  where
    by : (b : Bool) → (if b then Some record { read = r; others = reads } else None) ≡ Some taken
        → (if b then Some record { read = r; others = reads ++ further } else None) ≡ Some (taken_more further taken)
    by false h = absurd (none-some taken h)
    by true h = ap (λ (x : Taken). Some (taken_more further x)) (same_Some _ taken h)

taken_so : (o : Option OpFields) (further reads : List ℕ) (taken : Taken) → take_read o reads ≡ Some taken → take_read o (reads ++ further) ≡ Some (taken_more further taken)
taken_so None further reads taken e = ap (λ (x : Taken). Some (taken_more further x)) (same_Some _ taken e)
taken_so (Some op) further reads taken e = by (kind_finds op.kind) e
  where
    by : (b : Bool) → take_where b op reads ≡ Some taken → take_where b op (reads ++ further) ≡ Some (taken_more further taken)
    by true h = fitting_more op further reads taken h
    by false h = ap (λ (x : Taken). Some (taken_more further x)) (same_Some _ taken h)

ran_more : (k : ℕ) (further : List ℕ) (ran : Ran) (taken : Taken) (s : Step) (next : Ran) → ran_on k ran taken s ≡ Some next
    → ran_on k (with_more further ran) (taken_more further taken) s ≡ Some (with_more further next)
ran_more k further ran taken NoStep next e = absurd (none-some next e)
ran_more k further ran taken (ReducesTo made c) next e = ap (λ (x : Ran). Some (with_more further x)) (same_Some _ next e)

with_taken_more : (m : Module) (k : ℕ) (further : List ℕ) (ran : Ran) (o : Option Taken) (next : Ran) → take_read (access_of (step m 0 ran.config)) ran.reads ≡ o → ran_with m k ran o ≡ Some next
    → run_on m k (with_more further ran) ≡ Some (with_more further next)
with_taken_more m k further ran None next is e = absurd (none-some next e)
with_taken_more m k further ran (Some taken) next is e =
    ap (ran_with m k (with_more further ran)) (taken_so (access_of (step m 0 ran.config)) further ran.reads taken is)
    ∙ ran_more k further ran taken (step m taken.read ran.config) next e

on_more : (m : Module) (k : ℕ) (further : List ℕ) (o : Option Ran) (p : Option Ran) (next : Ran) → ((ran : Ran) → o ≡ Some ran → p ≡ Some (with_more further ran)) → and_run_on m k o ≡ Some next
    → and_run_on m k p ≡ Some (with_more further next)
on_more m k further None p next before e = absurd (none-some next e)
on_more m k further (Some ran) p next before e =
    ap (and_run_on m k) (before ran refl) ∙ with_taken_more m k further ran (take_read (access_of (step m 0 ran.config)) ran.reads) next refl e

-- steps that are made on some values are made in the same way if more values come after them
pub steps_on_more : (m : Module) (k : ℕ) (c : Config) (reads further : List ℕ) (j : ℕ) (ran : Ran) → steps m k c reads j ≡ Some ran
    → steps m k c (reads ++ further) j ≡ Some (with_more further ran)
steps_on_more m k c reads further zero ran e = ap (λ (x : Ran). Some (with_more further x)) (same_Some _ ran e)
steps_on_more m k c reads further (suc j) ran e =
    on_more m k further (steps m k c reads j) (steps m k c (reads ++ further) j) ran (steps_on_more m k c reads further j) e

pub reads_of_both : (es fs : List Event) → reads_of (es ++ fs) ≡ reads_of es ++ reads_of fs
reads_of_both [] fs = refl
reads_of_both (e ∷ es) fs = by (reads e) (reads_of_both es fs)
  where
    by : (b : Bool) → reads_of (es ++ fs) ≡ reads_of es ++ reads_of fs
        → (if b then e.read ∷ reads_of (es ++ fs) else reads_of (es ++ fs)) ≡ (if b then e.read ∷ reads_of es else reads_of es) ++ reads_of fs
    by true rest = ap (λ rs. e.read ∷ rs) rest
    by false rest = rest

-- an event before the cut
before_cut : (es : List Event) (n i : ℕ) → i < n → slice_get (take n es) i ≡ slice_get es i
before_cut es zero i l = absurd (omega (arith, l))
before_cut [] (suc n) i l = refl
before_cut (e ∷ es) (suc n) zero l = refl
before_cut (e ∷ es) (suc n) (suc i) l = before_cut es n i (omega (arith, l))

-- ---- two runs

over_of : (c : Config) → end_of c ≢ Cut → (end : End) × (c ≡ Over end)
over_of (Over end) not = (end, refl)
over_of (Running func vars body) not = absurd (not refl)

-- a thread that has ended makes no step
pub ended_stops : (m : Module) (c : Config) → end_of c ≢ Cut → step m 0 c ≡ NoStep
ended_stops m c not = let over = over_of c not in ap (step m 0) over.1

module _ (m : Module) (k : ℕ) (t u : ThreadLog) (is : IsEndedRun m k t u) (c : Config) (j n : ℕ) (f : RunsByLog m k t 1000000 c j n) where
  abbrev rest : List Event
  rest = drop (length t.events) u.events

  abbrev here : Ran
  here = record { events = take n t.events; config = c; reads = reads_of (drop n t.events) ++ reads_of rest }

  same_start : start_of m u ≡ Ok f.start
  same_start = ap (λ (s : _). start_of m record { start = s; end = u.end; steps = u.steps; events = u.events }) is.start ∙ f.is_start

  whole : Whole m k u f.start
  whole = whole_of m k u f.start same_start is.is_run

  all_events : u.events ≡ t.events ++ rest
  all_events = sym (take-append-drop (length t.events) u.events) ∙ ap (λ es. es ++ rest) (sym is.events)

  here_so : steps m k f.start (reads_of u.events) j ≡ Some here
  here_so = ap (λ es. steps m k f.start (reads_of es) j) all_events ∙ ap (λ rs. steps m k f.start rs j) (reads_of_both t.events rest)
      ∙ steps_on_more m k f.start (reads_of t.events) (reads_of rest) j _ f.ran_so

  count : length (take n t.events) ≡ n
  count = length-take-le n t.events f.listed

  -- it is not beyond the run's end
  not_beyond : u.steps < j → ⊥
  not_beyond lt =
      let i = j - suc u.steps in
      let split : steps m k f.start (reads_of u.events) j ≡ more m k i (steps m k f.start (reads_of u.events) (suc u.steps)) =
      steps_more m k f.start (reads_of u.events) i (suc u.steps) j (omega (arith, lt)) in
      let over = ended_stops m whole.ran.config (λ e. is.ended (sym whole.ended ∙ e)) in
      let none : steps m k f.start (reads_of u.events) (suc u.steps) ≡ None = ap (and_run_on m k) whole.ran_so ∙ no_step m k whole.ran over in
      none-some here (sym (more_none m k i) ∙ sym (split ∙ ap (more m k i) none) ∙ here_so)

  -- at the run's end
  at_end_of_run : j ≡ u.steps → (u.end ≡ end_of c) × (u.events ≡ take n t.events)
  at_end_of_run e =
      let same : whole.ran ≡ here = same_Some _ _ (sym whole.ran_so ∙ ap (steps m k f.start (reads_of u.events)) (sym e) ∙ here_so) in
      (sym whole.ended ∙ ap (λ (x : Ran). end_of x.config) same, sym whole.made ∙ ap (λ (x : Ran). x.events) same)

  -- before the run's end
  before_end : j < u.steps → (next : Ran) × (run_on m k here ≡ Some next) × ((es : List Event) × (u.events ≡ next.events ++ es))
  before_end lt = one_step_more m k u f.start whole j here here_so lt

  -- all events of the log are the run's
  no_other : u.events ≡ take n t.events → u.events ≡ t.events
  no_other same =
      let listed = f.listed in
      let few : length u.events ≤ length t.events = let l : length u.events ≡ n = ap length same ∙ count in omega (arith, l, listed) in
      sym (take_all (length t.events) u.events few) ∙ sym is.events

  -- ---- where the thread has ended

  pub ends_too : end_of c ≢ Cut → (u.events ≡ t.events) × (u.steps ≤ 1000000) × (u.end ≡ end_of c)
  ends_too over = by (cases_order j u.steps)
    where
      within : j ≤ 1000000
      within = stops_within m c t 1000000 j n f.stops

      by : (j ≡ u.steps) ⊎ ((j < u.steps) ⊎ (u.steps < j)) → (u.events ≡ t.events) × (u.steps ≤ 1000000) × (u.end ≡ end_of c)
      by (inr (inl lt)) = let next = before_end lt in absurd (none-some next.0 (sym (no_step m k here (ended_stops m c over)) ∙ next.1))
      by (inl e) = (no_other (at_end_of_run e).1, omega (arith, within, e), (at_end_of_run e).0)
      by (inr (inr gt)) = absurd (not_beyond gt)

  -- ---- where it hasn't

  goes_further : end_of c ≡ Cut → j < u.steps
  goes_further cut = by (cases_order j u.steps)
    where
      by : (j ≡ u.steps) ⊎ ((j < u.steps) ⊎ (u.steps < j)) → j < u.steps
      by (inr (inl lt)) = lt
      by (inl e) = absurd (is.ended ((at_end_of_run e).0 ∙ cut))
      by (inr (inr gt)) = absurd (not_beyond gt)

  -- the next event of the run is made by the access that the thread asks for
  next_made : (op : OpFields) → ((r : ℕ) → access_of (step m r c) ≡ Some op) → j < u.steps
      → (r : ℕ) × Fits op.width r × (slice_get u.events n ≡ Some (event_made record { thread = k; number = n } op r))
  next_made op asks lt =
      let next = before_end lt in
      let made = next_event m k here op next.0 asks next.1 in
      let all : u.events ≡ (take n t.events ++ event_made record { thread = k; number = length (take n t.events) } op made.0 ∷ []) ++ next.2.0 =
      next.2.1 ∙ ap (λ es. es ++ next.2.0) made.2 in
      let there : slice_get u.events (length (take n t.events)) ≡ Some (event_made record { thread = k; number = length (take n t.events) } op made.0) =
      ap (λ es. slice_get es (length (take n t.events))) all ∙ get_behind (take n t.events) _ next.2.0 in
      (made.0, made.1, subst (λ (i : ℕ). slice_get u.events i ≡ Some (event_made record { thread = k; number = i } op made.0)) count there)

  pub asks_next : (op : OpFields) → end_of c ≡ Cut → length t.events ≤ n → ((r : ℕ) → access_of (step m r c) ≡ Some op) → HasNextBy k t u op
  asks_next op cut all asks =
      let listed = f.listed in
      let at : n ≡ length t.events = omega (arith, all, listed) in
      let made = next_made op asks (goes_further cut) in
      (made.0, made.1, subst (λ (i : ℕ). slice_get u.events i ≡ Some (event_made record { thread = k; number = i } op made.0)) at made.2)

  -- an event of the log is the run's
  event_too : n < length t.events → slice_get t.events n ≡ slice_get u.events n
  event_too lt = ap (λ es. slice_get es n) is.events ∙ before_cut u.events (length t.events) n lt

  -- the log's next event isn't another than the run's
  not_other : AccessesOther m c t.events n → end_of c ≡ Cut → n < length t.events → ⊥
  not_other other cut left =
      let made = next_made other.op other.asks (goes_further cut) in
      other.makes_not _ (event_too left ∙ made.2) made.0 made.1 refl

  pub unknown_left : end_of c ≡ Cut → n < length t.events → 1000000 < u.steps
  unknown_left cut left = by f.stops
    where
      further : j < u.steps
      further = goes_further cut

      by : Stops m c t.events 1000000 j n → 1000000 < u.steps
      by (at_limit e) = omega (arith, e, further)
      by (at_other before other) = absurd (not_other other cut left)
      by (at_end before stops) = let next = before_end further in absurd (none-some next.0 (sym (no_step m k here stops) ∙ next.1))

  pub unknown_local : end_of c ≡ Cut → access_of (step m 0 c) ≡ None → 1000000 < u.steps
  unknown_local cut none = by f.stops
    where
      further : j < u.steps
      further = goes_further cut

      by : Stops m c t.events 1000000 j n → 1000000 < u.steps
      by (at_limit e) = omega (arith, e, further)
      by (at_other before other) = absurd (none-some other.op (sym none ∙ other.asks 0))
      by (at_end before stops) = let next = before_end further in absurd (none-some next.0 (sym (no_step m k here stops) ∙ next.1))

-- no run of the same start and events is longer than one that has ended
pub no_longer : (m : Module) (k : ℕ) (u c : ThreadLog) → c.start ≡ u.start → c.events ≡ u.events → IsRun m k u → IsRun m k c → u.end ≢ Cut → u.steps < c.steps → ⊥
no_longer m k u c starts events run_u run_c ended lt = by (start_of m u) refl
  where
    same_start : start_of m c ≡ start_of m u
    same_start = ap (λ (s : Start). started m s.name s.args) starts

    by : (r : Result Config StartFault) → start_of m u ≡ r → ⊥
    by (Err fault) is = none-some _ (subst (λ (r : Result Config StartFault). run_from m k r (reads_of u.events) u.steps ≡ Some record { events = u.events; end = u.end }) is run_u)
    by (Ok start) is =
        let a = whole_of m k u start is run_u in
        let b = whole_of m k c start (same_start ∙ is) run_c in
        let i = c.steps - suc u.steps in
        let over = ended_stops m a.ran.config (λ cut. ended (sym a.ended ∙ cut)) in
        let none : steps m k start (reads_of u.events) (suc u.steps) ≡ None = ap (and_run_on m k) a.ran_so ∙ no_step m k a.ran over in
        let split : steps m k start (reads_of u.events) c.steps ≡ more m k i (steps m k start (reads_of u.events) (suc u.steps)) =
        steps_more m k start (reads_of u.events) i (suc u.steps) c.steps (omega (arith, lt)) in
        none-some b.ran (sym (more_none m k i) ∙ ap (more m k i) (sym none) ∙ sym split ∙ ap (λ es. steps m k start (reads_of es) c.steps) (sym events) ∙ b.ran_so)
