-- A run without one of its idle turns is a run.
use Rattle.std.proofs.Common.{◌≡◌, ℕ, zero, suc, ◌+◌, ◌-◌, ◌<◌, ◌≤◌, Bool, true, false, inl, inr, List, [], ◌∷◌, ◌++◌, length, drop, Option, None, Some, Ok, refl, sym, ap, subst, ◌∙◌, length-append, append_assoc, arith, if◌then◌else◌}
use Rattle.std.specs.Prelude.{◌⊎◌, Result}
use Rattle.std.proofs.lemmas.Bool.{cases_order}
use Rattle.std.proofs.lemmas.List.{append-nil, take-append-drop}
use Rattle.std.proofs.lemmas.Option.{none-some, same_Some}
use Rattle.wm_ast.specs.declared.module.Module.{Module}
use Rattle.wm_event.specs.declared.event.Event.{Event}
use Rattle.wm_event.specs.declared.log.End.{End}
use Rattle.wm_event.specs.declared.log.Start.{Start}
use Rattle.wm_event.specs.declared.log.ThreadLog.{ThreadLog}
use Rattle.wm_event.specs.declared.op.OpFields.{OpFields}
use Rattle.wm_event.specs.Event.{reads}
use Rattle.wm_machine.specs.Term.{Config, NoStep, ReducesTo, Step}
use Rattle.wm_machine.specs.Step.{access_of, step}
use Rattle.wm_machine.specs.Run.{Outcome, Ran, Taken, and_run_on, end_of, noted, outcome_of, outcome_with, ran_on, ran_with, run_from, run_on, steps, take_read}
use Rattle.wm_part.specs.Pick.{numbered}
use Rattle.wm_replay.specs.Continuing.{IsEndedRun}
use Rattle.wm_replay.specs.Replay.{IsRun, reads_of, start_of}
use Rattle.wm_replay.proofs.Continuations.{ended_stops, reads_of_both, steps_on_more}
use Rattle.wm_replay.proofs.Differing.{no_step}
use Rattle.wm_replay.proofs.Runs.{and_some, more, more_none, outcome_some, steps_more}
use Rattle.wm_explore.specs.Idle.{IsAfter, IsIdle, leaving_out, shortened}
use Rattle.wm_explore.proofs.LeavingOut.{left_both, length_numbered, numbered_both}

-- ---- events that are renumbered

-- they read what they read before
reads_numbered : (n : ℕ) (es : List Event) → reads_of (numbered n es) ≡ reads_of es
reads_numbered n [] = refl
reads_numbered n (e ∷ es) = by (reads e) (reads_numbered (suc n) es)
  where
    by : (b : Bool) → reads_of (numbered (suc n) es) ≡ reads_of es → (if b then e.read ∷ reads_of (numbered (suc n) es) else reads_of (numbered (suc n) es)) ≡ (if b then e.read ∷ reads_of es else reads_of es)
    by true rest = ap (λ rs. e.read ∷ rs) rest
    by false rest = rest

noted_so : (k n p r : ℕ) (made : Option OpFields) → numbered n (noted k p made r) ≡ noted k n made r
noted_so k n p r None = refl
noted_so k n p r (Some op) = refl

-- ---- steps from the same configuration, after other events

abbrev after : List Event → Ran → Ran
after gs ran = record { events = gs; config = ran.config; reads = ran.reads }

-- what is added to the events, whatever they are
record Adds (m : Module) (k d : ℕ) (ran next : Ran) : Type 0 where
  added : List Event
  events : next.events ≡ ran.events ++ added
  again : (gs : List Event) → more m k d (Some (after gs ran)) ≡ Some (after (gs ++ numbered (length gs) added) next)

record AddsOne (m : Module) (k : ℕ) (ran next : Ran) : Type 0 where
  added : List Event
  events : next.events ≡ ran.events ++ added
  again : (gs : List Event) → run_on m k (after gs ran) ≡ Some (after (gs ++ numbered (length gs) added) next)

adds_one : (m : Module) (k : ℕ) (ran next : Ran) → run_on m k ran ≡ Some next → AddsOne m k ran next
adds_one m k ran next h = taken (take_read (access_of (step m 0 ran.config)) ran.reads) refl h
  where
    made : (t : Taken) → take_read (access_of (step m 0 ran.config)) ran.reads ≡ Some t → (s : Step) → step m t.read ran.config ≡ s → ran_on k ran t s ≡ Some next → AddsOne m k ran next
    made t is NoStep to e = absurd (none-some next e)
    made t is (ReducesTo op c) to e =
        let one = noted k (length ran.events) op t.read in
        let same : record { events = ran.events ++ one; config = c; reads = t.others } ≡ next = same_Some _ next e in
        record {
          added = one;
          events = ap (λ (r : Ran). r.events) (sym same);
          again = λ gs.
              ap (ran_with m k (after gs ran)) is ∙ ap (ran_on k (after gs ran) t) to
              ∙ ap (λ es. Some (record { events = gs ++ es; config = c; reads = t.others })) (sym (noted_so k (length gs) (length ran.events) t.read op))
              ∙ ap (λ (r : Ran). Some (after (gs ++ numbered (length gs) one) r)) same;
        }

    taken : (o : Option Taken) → take_read (access_of (step m 0 ran.config)) ran.reads ≡ o → ran_with m k ran o ≡ Some next → AddsOne m k ran next
    taken None is e = absurd (none-some next e)
    taken (Some t) is e = made t is (step m t.read ran.config) refl e

adds : (m : Module) (k d : ℕ) (ran next : Ran) → more m k d (Some ran) ≡ Some next → Adds m k d ran next
adds m k zero ran next h =
    let same : ran ≡ next = same_Some ran next h in record {
      added = [];
      events = ap (λ (r : Ran). r.events) (sym same) ∙ sym (append-nil ran.events);
      again = λ gs. ap (λ (r : Ran). Some (after gs r)) same ∙ ap (λ es. Some (after es next)) (sym (append-nil gs));
    }
adds m k (suc d) ran next h =
    let last = and_some m k (more m k d (Some ran)) next h in
    let before = adds m k d ran last.0 last.1 in
    let one = adds_one m k last.0 next last.2 in
    record {
      added = before.added ++ one.added;
      events = one.events ∙ ap (λ es. es ++ one.added) before.events ∙ append_assoc ran.events before.added one.added;
      again = λ gs.
          let now = gs ++ numbered (length gs) before.added in
          let count : length now ≡ length gs + length before.added = length-append gs (numbered (length gs) before.added) ∙ ap (λ n. length gs + n) (length_numbered (length gs) before.added) in
          ap (and_run_on m k) (before.again gs) ∙ one.again now
          ∙ ap (λ n. Some (after (now ++ numbered n one.added) next)) count
          ∙ ap (λ es. Some (after es next)) (append_assoc gs (numbered (length gs) before.added) (numbered (length gs + length before.added) one.added)
          ∙ ap (λ es. gs ++ es) (sym (numbered_both (length gs) before.added one.added)));
    }

-- ---- lists

same_rest : {X : Type 0} (xs ys zs : List X) → xs ++ ys ≡ xs ++ zs → ys ≡ zs
same_rest [] ys zs h = h
same_rest (x ∷ xs) ys zs h = same_rest xs ys zs (ap (drop 1) h)

no_more : (reads : List ℕ) (ran : Ran) (out : Outcome) → outcome_with reads ran ≡ Some out → reads ≡ []
no_more [] ran out h = refl
no_more (r ∷ reads) ran out h = absurd (none-some out h)

same_ok : {A E : Type 0} (d a b : A) → ◌≡◌ {A = Result A E} (Ok a) (Ok b) → a ≡ b
same_ok {A} {E} d a b h = ap (λ (r : Result A E). of r) h
  where
    of : Result A E → A
    of (Ok x) = x
    of _ = d

-- ---- an ended run

-- u's run, which reads all that u's events read
record WholeRun (m : Module) (k : ℕ) (u : ThreadLog) (start : Config) : Type 0 where
  ran : Ran
  ran_so : steps m k start (reads_of u.events) u.steps ≡ Some ran
  made : ran.events ≡ u.events
  ended : end_of ran.config ≡ u.end
  all : ran.reads ≡ []

whole_run : (m : Module) (k : ℕ) (u : ThreadLog) (start : Config) → start_of m u ≡ Ok start → IsRun m k u → WholeRun m k u start
whole_run m k u start is run =
    let out : Outcome = record { events = u.events; end = u.end } in
    let from : run_from m k (Ok start) (reads_of u.events) u.steps ≡ Some out = subst (λ r. run_from m k r (reads_of u.events) u.steps ≡ Some out) is run in
    let parts = outcome_some (steps m k start (reads_of u.events) u.steps) out from in
    record {
      ran = parts.0;
      ran_so = parts.1;
      made = parts.2;
      ended = parts.3;
      all = no_more parts.0.reads parts.0 out (sym (ap outcome_of parts.1) ∙ from);
    }

module _ (m : Module) (k : ℕ) (t u : ThreadLog) (is : IsEndedRun m k t u) where
  same_start : start_of m u ≡ start_of m t
  same_start = ap (λ (s : Start). start_of m record { start = s; end = u.end; steps = u.steps; events = u.events }) is.start

  -- the events after those of t
  abbrev later : List Event
  later = drop (length t.events) u.events

  all_events : u.events ≡ t.events ++ later
  all_events = sym (take-append-drop (length t.events) u.events) ∙ ap (λ es. es ++ later) (sym is.events)

  -- where the thread is after the events of t, its ended run comes by
  module _ (config : Config) (count : ℕ) (at : IsAfter m k t config count) where
    comes_by : steps m k at.start (reads_of u.events) count ≡ Some (record { events = t.events; config = config; reads = reads_of later })
    comes_by = ap (λ es. steps m k at.start (reads_of es) count) all_events ∙ ap (λ rs. steps m k at.start rs count) (reads_of_both t.events later)
        ∙ steps_on_more m k at.start (reads_of t.events) (reads_of later) count _ at.ran

    -- and it doesn't end before that
    comes_within : count ≤ u.steps
    comes_within = by (cases_order count u.steps)
      where
        whole : WholeRun m k u at.start
        whole = whole_run m k u at.start (same_start ∙ at.is_start) is.is_run

        beyond : u.steps < count → ⊥
        beyond lt =
            let i = count - suc u.steps in
            let split : steps m k at.start (reads_of u.events) count ≡ more m k i (steps m k at.start (reads_of u.events) (suc u.steps)) =
            steps_more m k at.start (reads_of u.events) i (suc u.steps) count (omega (arith, lt)) in
            let over = ended_stops m whole.ran.config (λ e. is.ended (sym whole.ended ∙ e)) in
            let none : steps m k at.start (reads_of u.events) (suc u.steps) ≡ None = ap (and_run_on m k) whole.ran_so ∙ no_step m k whole.ran over in
            none-some _ (sym (more_none m k i) ∙ sym (split ∙ ap (more m k i) none) ∙ comes_by)

        by : (count ≡ u.steps) ⊎ ((count < u.steps) ⊎ (u.steps < count)) → count ≤ u.steps
        by (inl e) = omega (arith, e)
        by (inr (inl lt)) = omega (arith, lt)
        by (inr (inr gt)) = absurd (beyond gt)

  -- ---- without the turn

  module _ (i n : ℕ) (idle : IsIdle m k t i n) where
    abbrev a : IsAfter m k t idle.config idle.count
    a = idle.after

    abbrev b : IsAfter m k (shortened i n idle.fewer t) idle.config idle.fewer
    b = idle.without

    -- the events of t that are left
    abbrev left : List Event
    left = leaving_out i n t.events

    one_start : a.start ≡ b.start
    one_start = same_ok a.start a.start b.start (sym a.is_start ∙ b.is_start)

    abbrev d : ℕ
    d = u.steps - idle.count

    whole : WholeRun m k u a.start
    whole = whole_run m k u a.start (same_start ∙ a.is_start) is.is_run

    abbrev from : Ran
    from = record { events = t.events; config = idle.config; reads = reads_of later }

    goes_on : more m k d (Some from) ≡ Some whole.ran
    goes_on =
        let lt = comes_within idle.config idle.count a in
        let split = steps_more m k a.start (reads_of u.events) d idle.count u.steps (omega (arith, lt)) in
        sym (split ∙ ap (more m k d) (comes_by idle.config idle.count a)) ∙ whole.ran_so

    added : Adds m k d from whole.ran
    added = adds m k d from whole.ran goes_on

    is_rest : added.added ≡ later
    is_rest = same_rest t.events added.added later (sym added.events ∙ whole.made ∙ all_events)

    abbrev events : List Event
    events = leaving_out i n u.events

    abbrev count : ℕ
    count = d + idle.fewer

    -- those that are left, and those after them
    parts : events ≡ left ++ numbered (length left) later
    parts = let lt = idle.some in ap (leaving_out i n) all_events ∙ left_both i n t.events later (omega (arith, lt)) idle.listed

    starts_so : steps m k b.start (reads_of events) idle.fewer ≡ Some (after left from)
    starts_so =
        ap (λ es. steps m k b.start (reads_of es) idle.fewer) parts
        ∙ ap (λ rs. steps m k b.start rs idle.fewer) (reads_of_both left (numbered (length left) later) ∙ ap (λ rs. reads_of left ++ rs) (reads_numbered (length left) later))
        ∙ steps_on_more m k b.start (reads_of left) (reads_of later) idle.fewer _ b.ran

    ran_so : steps m k b.start (reads_of events) count ≡ Some (after events whole.ran)
    ran_so = steps_more m k b.start (reads_of events) d idle.fewer count refl ∙ ap (more m k d) starts_so ∙ added.again left
        ∙ ap (λ es. Some (after (left ++ numbered (length left) es) whole.ran)) is_rest
        ∙ ap (λ es. Some (after es whole.ran)) (sym parts)

    ends_so : outcome_of (Some (after events whole.ran)) ≡ Some (record { events = events; end = u.end })
    ends_so = ap (λ rs. outcome_with rs (after events whole.ran)) whole.all ∙ ap (λ (e : End). Some (record { events = events; end = e })) whole.ended

    -- it is a run, of no more steps
    pub shorter_run : (s : ℕ) × (s ≤ u.steps) × IsRun m k (shortened i n s u)
    shorter_run =
        let lt = comes_within idle.config idle.count a in
        let sooner = idle.sooner in (
          count,
          omega (arith, lt, sooner),
          ap (λ r. run_from m k r (reads_of events) count) (same_start ∙ b.is_start) ∙ ap outcome_of ran_so ∙ ends_so,
        )
