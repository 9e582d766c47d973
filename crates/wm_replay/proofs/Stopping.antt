-- How a thread that was run by its log, and stopped, compares with it.
use Rattle.std.proofs.Common.{◌≡◌, ℕ, ◌<◌, ◌≤◌, inl, inr, length, None, sym, ap, subst, ◌∙◌, arith}
use Rattle.std.specs.Prelude.{◌⊎◌}
use Rattle.std.proofs.lemmas.Option.{none-some}
use Rattle.wm_ast.specs.declared.module.Module.{Module}
use Rattle.wm_event.specs.declared.log.End.{End}
use Rattle.wm_event.specs.declared.log.ThreadLog.{ThreadLog}
use Rattle.wm_event.specs.declared.op.OpFields.{OpFields}
use Rattle.wm_machine.specs.declared.thread.Need.{Need}
use Rattle.wm_machine.specs.declared.thread.Need.TheVariants as need
use Rattle.wm_machine.specs.State.{State, config_of, need_of}
use Rattle.wm_machine.specs.Step.{access_of, step}
use Rattle.wm_machine.specs.Term.{Config}
use Rattle.wm_replay.specs.Following.{HasPlaces, RunsByLog, Stops}
use Rattle.wm_replay.specs.Following.Stops.{at_limit, at_other, at_end}
use Rattle.wm_replay.specs.Replay.{DiffersAt}
use Rattle.wm_replay.specs.Replay.DiffersAt.{left_over, end}
use Rattle.wm_replay.specs.declared.answer.Place.TheVariants as place
use Rattle.wm_replay.proofs.Comparing.{Follows, left_differs, other_differs, reaches}
use Rattle.wm_replay.proofs.Needs.{access_of_need, local_of_need, no_step_of_need}

pub follows : (m : Module) (k : ℕ) (t : ThreadLog) (limit : ℕ) (c : Config) (j n : ℕ) → HasPlaces k t.events → (r : RunsByLog m k t limit c j n)
    → Follows m k t r.start c j n
follows m k t limit c j n places r = record { is_start = r.is_start; places = places; listed = r.listed; ran_so = r.ran_so }

-- ---- an event is left

-- where it stops before it has made all events
pub stop_differs : (m : Module) (k : ℕ) (t : ThreadLog) (start c : Config) (j n : ℕ) → Follows m k t start c j n → Stops m c t.events t.steps j n → n < length t.events
    → DiffersAt m k t (place.Event n)
stop_differs m k t start c j n f (at_limit e) left = left_differs m k t start c j n f e left
stop_differs m k t start c j n f (at_other before other) left = other_differs m k t start c j n f before other
stop_differs m k t start c j n f (at_end before stops) left =
    left_over (reaches m k t start c j n f (let le : j ≤ t.steps = omega (arith, before) in le)) left (inr stops)

-- ---- all events are made

module _ (s : State) (k : ℕ) (t : ThreadLog) (start : Config) (j n : ℕ) (f : Follows s.module k t start (config_of s) j n) (stops : Stops s.module (config_of s) t.events t.steps j n) (before : j < t.steps) where
  -- it stops before its last stated step, at an access
  pub access_differs : (op : OpFields) → need_of 0 s ≡ need.Access op → DiffersAt s.module k t (place.Event n)
  access_differs op asks = by stops
    where
      by : Stops s.module (config_of s) t.events t.steps j n → DiffersAt s.module k t (place.Event n)
      by (at_limit e) = absurd (omega (arith, e, before))
      by (at_other lt other) = other_differs s.module k t start (config_of s) j n f lt other
      by (at_end lt none) = absurd (none-some op (sym (ap access_of none) ∙ access_of_need s 0 op asks))

  -- or at its end
  pub stopped_differs : length t.events ≤ n → access_of (step s.module 0 (config_of s)) ≡ None → DiffersAt s.module k t place.End
  stopped_differs all no_access = by stops
    where
      by : Stops s.module (config_of s) t.events t.steps j n → DiffersAt s.module k t place.End
      by (at_limit e) = absurd (omega (arith, e, before))
      by (at_other lt other) = absurd (none-some other.op (sym no_access ∙ other.asks 0))
      by (at_end lt none) =
          let listed = f.listed in
          let at : n ≡ length t.events = omega (arith, all, listed) in
          let within : j ≤ t.steps = omega (arith, lt) in
          end (reaches s.module k t start (config_of s) j (length t.events) (subst (Follows s.module k t start (config_of s) j) at f) within) (inr (lt, none))

-- a thread that needs no access makes none
pub no_access : (s : State) (n : Need) → (n ≡ need.Local) ⊎ ((e : End) × (n ≡ need.Ended e)) → need_of 0 s ≡ n → access_of (step s.module 0 (config_of s)) ≡ None
no_access s n (inl e) is = local_of_need s 0 (is ∙ e)
no_access s n (inr e) is = ap access_of (no_step_of_need s 0 e.0 (is ∙ e.1))

-- it stops no later than at the limit
pub stops_within : (m : Module) (c : Config) (t : ThreadLog) (limit j n : ℕ) → Stops m c t.events limit j n → j ≤ limit
stops_within m c t limit j n (at_limit e) = omega (arith, e)
stops_within m c t limit j n (at_other before other) = omega (arith, before)
stops_within m c t limit j n (at_end before stops) = omega (arith, before)
