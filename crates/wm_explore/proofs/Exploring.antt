-- The first state, the state that is taken, and what is found in the end.
use Rattle.std.proofs.Common.{◌≡◌, ℕ, zero, suc, ◌<◌, List, [], ◌∷◌, ◌++◌, length, map, take, inl, inr, Option, Some, None, IsSome, IsTrue, refl, sym, ap, subst, ◌∙◌, arith}
use Rattle.std.specs.Prelude.{◌⊎◌, All, slice_get}
use Rattle.std.proofs.lemmas.Option.{none-some, same_Some}
use Rattle.wm_ast.specs.declared.module.Module.{Module}
use Rattle.wm_event.specs.LoggedRun.{LoggedRun, execution}
use Rattle.wm_event.specs.Shape.{event_count}
use Rattle.wm_event.specs.Log.{event_in}
use Rattle.wm_event.specs.declared.event.EventKey.{EventKey}
use Rattle.wm_event.specs.declared.log.End.{End}
use Rattle.wm_event.specs.declared.log.Start.{Start}
use Rattle.wm_event.specs.declared.log.ThreadLog.{ThreadLog}
use Rattle.wm_part.specs.Cut.{is_kept}
use Rattle.wm_explore.specs.Bounds.{IsExcused}
use Rattle.wm_explore.specs.Executions.{IsCausal, IsExecutionOf, IsOutcome, IsOutcomeWithin, ends_of, starts_of}
use Rattle.wm_explore.specs.Search.{AreApart, Covers, CoversFor, Explores, Extends, IsFirstState, IsFound, IsProgress, Lists}
use Rattle.wm_explore.specs.Idle.{HasIdleTurn, StandsFor}
use Rattle.wm_explore.specs.Search.Covers.{left, listed, excused}
use Rattle.wm_explore.specs.Known.{IsNoted}
use Rattle.wm_explore.specs.States.{GoesOn, IsState, count_in}
use Rattle.wm_explore.specs.declared.bound.Bound.TheVariants.{Graphs, Nodes, Steps, Events}
use Rattle.wm_explore.specs.declared.bound.Bound.{Bound}
use Rattle.wm_explore.specs.declared.exploration.Exploration.{Exploration}
use Rattle.wm_explore.specs.declared.search.Progress.{Progress}
use Rattle.wm_explore.specs.declared.state.State.{State}
use Rattle.wm_explore.proofs.Beginnings.{ended_run, event_at, kept_thread, some_of, thread_of_event, whole_thread}
use Rattle.wm_explore.proofs.Lists.{at_pushed, kept_pushed, last_pushed}
use Rattle.wm_explore.proofs.Progressing.{all_at, all_pushed, at_all}
use Rattle.wm_explore.proofs.Shortening.{fewer, stands_for, without_turn}
use Rattle.wm_explore.proofs.Starts.{fresh}

-- ---- the first state

fresh_at : (starts : List Start) (k : ℕ) (t : ThreadLog) → slice_get (map fresh starts) k ≡ Some t → (start : Start) × (slice_get starts k ≡ Some start) × (t ≡ fresh start)
fresh_at [] k t is = absurd (none-some t is)
fresh_at (s ∷ starts) zero t is = (s, refl, sym (same_Some (fresh s) t is))
fresh_at (s ∷ starts) (suc k) t is = fresh_at starts k t is

fresh_starts : (starts : List Start) → starts_of (map fresh starts) ≡ starts
fresh_starts [] = refl
fresh_starts (s ∷ starts) = ap (λ ss. s ∷ ss) (fresh_starts starts)

start_at : (log : List ThreadLog) (k : ℕ) (u : ThreadLog) → slice_get log k ≡ Some u → slice_get (starts_of log) k ≡ Some u.start
start_at [] k u is = absurd (none-some u is)
start_at (v ∷ log) zero u is = ap (λ (w : ThreadLog). Some w.start) (same_Some v u is)
start_at (v ∷ log) (suc k) u is = start_at log k u is

pub starts_length : (log : List ThreadLog) → length (starts_of log) ≡ length log
starts_length [] = refl
starts_length (v ∷ log) = ap suc (starts_length log)

fresh_length : (starts : List Start) → length (map fresh starts) ≡ length starts
fresh_length [] = refl
fresh_length (s ∷ starts) = ap suc (fresh_length starts)

module _ (starts : List Start) (s : State) (first : IsFirstState starts s) where
  no_event : (key : EventKey) → IsSome (event_in s.log key) → ⊥
  no_event key there =
      let e = some_of (event_in s.log key) there in
      let t = thread_of_event s.log key e.0 e.1 in
      let f = fresh_at starts key.thread t.0 (ap (λ ts. slice_get ts key.thread) (sym first.log) ∙ t.1) in
      none-some e.0 (ap (λ (v : ThreadLog). slice_get v.events key.number) (sym f.2) ∙ sym (event_at s.log key t.0 t.1) ∙ e.1)

  pub first_is_state : IsState starts s
  first_is_state = record {
    started = ap starts_of first.log ∙ fresh_starts starts;
    listed = λ key there. absurd (no_event key there);
    events = λ i key at. absurd (none-some key (ap (λ ks. slice_get ks i) (sym first.arrived) ∙ at));
    in_order = λ i j a b at_a at_b same le. absurd (none-some a (ap (λ ks. slice_get ks i) (sym first.arrived) ∙ at_a));
    marked = λ k n at. absurd (none-some n (sym (first.marks k (Some n) at)));
  }

  -- each execution goes on from it
  pub first_goes_on : (m : Module) (x : LoggedRun) → IsExecutionOf m starts x → GoesOn x s
  first_goes_on m x is = record {
    beginning = record {
      count = ap length first.log ∙ fresh_length starts ∙ ap length (sym is.started) ∙ starts_length x.log;
      starts = λ k t u at_t at_u.
          let f = fresh_at starts k t (ap (λ ts. slice_get ts k) (sym first.log) ∙ at_t) in
          same_Some u.start t.start (sym (start_at x.log k u at_u) ∙ ap (λ ss. slice_get ss k) is.started ∙ f.1 ∙ ap (λ (v : ThreadLog). Some v.start) (sym f.2));
      events = λ k t u at_t at_u.
          let f = fresh_at starts k t (ap (λ ts. slice_get ts k) (sym first.log) ∙ at_t) in
          ap (λ (v : ThreadLog). v.events) f.2 ∙ ap (λ (v : ThreadLog). take (length v.events) u.events) (sym f.2);
    };
    writers = λ r byte w there kept from. absurd (nothing r kept);
    back = λ r w byte i j there from at_r at_w. absurd (none-some r (ap (λ ks. slice_get ks i) (sym first.arrived) ∙ at_r));
    marks = λ k n at. absurd (none-some n (sym (first.marks k (Some n) at)));
  }
    where
      nothing : (r : EventKey) → IsTrue (is_kept (count_in s.log) r) → ⊥
      nothing r kept =
          let t = kept_thread s.log r kept in
          let f = fresh_at starts r.thread t.0 (ap (λ ts. slice_get ts r.thread) (sym first.log) ∙ t.1) in
          let none : length t.0.events ≡ 0 = ap (λ (v : ThreadLog). length v.events) f.2 in
          let lt = t.2 in
          omega (arith, lt, none)

  -- what there is at the beginning
  module _ (m : Module) (events : ℕ) (p : Progress) (work : p.work.items ≡ s ∷ []) (nothing : p.finished.items ≡ []) where
    noted_nothing : IsNoted m s
    noted_nothing = record {
      nexts = λ k t next at_t at_next. absurd (none-some (Some next) (ap (λ ns. slice_get ns k) (sym first.known) ∙ at_next));
      past = λ initial is. record {
        count = ap length first.pasts ∙ ap length (sym first.arrived);
        past = λ x has i b c at at_past. absurd (none-some b (ap (λ ks. slice_get ks i) (sym first.arrived) ∙ at));
      };
    }

    pub begins : IsProgress m starts p
    begins = record {
      states = subst (All (IsState starts)) (sym work) (all_pushed (IsState starts) [] s (all_at (IsState starts) [] (λ i v at. absurd (none-some v at))) first_is_state);
      noted = subst (All (IsNoted m)) (sym work) (all_pushed (IsNoted m) [] s (all_at (IsNoted m) [] (λ i v at. absurd (none-some v at))) noted_nothing);
      found = subst (All (IsFound m starts)) (sym nothing) (all_at (IsFound m starts) [] (λ i f at. absurd (none-some f at)));
      apart = subst AreApart (sym nothing) (λ i j f g lt at. absurd (none-some f at));
    }

    pub begins_covering : (x : LoggedRun) → IsExecutionOf m starts x → Covers events p x
    begins_covering x is = left 0 s (ap (λ ss. slice_get ss 0) work) (first_goes_on m x is)

-- ---- executions that stand for others

pub stands_itself : (m : Module) (starts : List Start) (x : LoggedRun) → IsExecutionOf m starts x → IsCausal (execution x) → StandsFor m starts x x
stands_itself m starts x is causal = record { is_execution = is; causal = causal; ends = refl; no_more = omega arith; within = λ n h. h }

pub stands_through : (m : Module) (starts : List Start) (z y x : LoggedRun) → StandsFor m starts z y → StandsFor m starts y x → StandsFor m starts z x
stands_through m starts z y x a b = record {
  is_execution = a.is_execution;
  causal = a.causal;
  ends = a.ends ∙ b.ends;
  no_more = let c = a.no_more in let d = b.no_more in omega (arith, c, d);
  within = λ n h. a.within n (b.within n h);
}

-- what excuses it excuses the other
excuses_too : (m : Module) (starts : List Start) (events : ℕ) (met : Option Bound) (y x : LoggedRun) → StandsFor m starts y x → IsExcused events met y.log → IsExcused events met x.log
excuses_too m starts events None y x stands why = why
excuses_too m starts events (Some Graphs) y x stands why = why
excuses_too m starts events (Some Nodes) y x stands why = why
excuses_too m starts events (Some (Steps k)) y x stands why = λ within. why (stands.within events within)
excuses_too m starts events (Some (Events k)) y x stands why = λ within. why (stands.within events within)

-- ---- the state that is taken

module _ (m : Module) (starts : List Start) (events : ℕ) (p : Progress) (progress : IsProgress m starts p) (s : State) (q : Progress) (popped : p.work.items ≡ q.work.items ++ s ∷ []) (same_finished : q.finished ≡ p.finished) (same_met : q.met ≡ p.met) where
  pub taken_is_state : IsState starts s
  taken_is_state = at_all (IsState starts) p.work.items progress.states (length q.work.items) s (ap (λ ss. slice_get ss (length q.work.items)) popped ∙ last_pushed q.work.items s)

  pub taken_noted : IsNoted m s
  taken_noted = at_all (IsNoted m) p.work.items progress.noted (length q.work.items) s (ap (λ ss. slice_get ss (length q.work.items)) popped ∙ last_pushed q.work.items s)

  pub rest_progress : IsProgress m starts q
  rest_progress = record {
    states = all_at (IsState starts) q.work.items (λ i v at. at_all (IsState starts) p.work.items progress.states i v (ap (λ ss. slice_get ss i) popped ∙ kept_pushed q.work.items s i v at));
    noted = all_at (IsNoted m) q.work.items (λ i v at. at_all (IsNoted m) p.work.items progress.noted i v (ap (λ ss. slice_get ss i) popped ∙ kept_pushed q.work.items s i v at));
    found = subst (λ fs. All (IsFound m starts) fs.items) (sym same_finished) progress.found;
    apart = subst (λ fs. AreApart fs.items) (sym same_finished) progress.apart;
  }

  -- what was covered is covered by the rest, or goes on from the state
  pub rest_covers : (x : LoggedRun) → Covers events p x → Covers events q x ⊎ GoesOn x s
  rest_covers x (listed (i, f, at, ends)) = inl (listed (i, f, ap (λ fs. slice_get fs.items i) same_finished ∙ at, ends))
  rest_covers x (excused why) = inl (excused (subst (λ b. IsExcused events b x.log) (sym same_met) why))
  rest_covers x (left i v at on) = by (at_pushed q.work.items s i v (ap (λ ss. slice_get ss i) (sym popped) ∙ at))
    where
      by : ((i ≡ length q.work.items) × (v ≡ s)) ⊎ (slice_get q.work.items i ≡ Some v) → Covers events q x ⊎ GoesOn x s
      by (inl last) = inr (subst (GoesOn x) last.1 on)
      by (inr old) = inl (left i v old on)

  pub still_covers : (r : Progress) → Extends m starts events s q r → (x : LoggedRun) → IsExecutionOf m starts x → IsCausal (execution x) → Covers events p x → Covers events r x
  still_covers r step x is causal covers = by (rest_covers x covers)
    where
      by : Covers events q x ⊎ GoesOn x s → Covers events r x
      by (inl c) = step.keeps x is causal c
      by (inr on) = step.takes x is causal on

  -- after the state is dropped, since some events of a thread in it are an idle turn
  module _ (turn : HasIdleTurn m s.log) where
    -- an execution that goes on from the state has a shorter one that stands for it
    pub shorter : (x : LoggedRun) → IsExecutionOf m starts x → IsCausal (execution x) → GoesOn x s → (y : LoggedRun) × StandsFor m starts y x × (event_count y.log < event_count x.log)
    shorter x is causal on =
        let u = whole_thread s.log x.log on.beginning turn.number turn.thread turn.is_thread in
        let run = ended_run m starts x s.log is on.beginning turn.number turn.thread u.0 turn.is_thread u.1 in (
          without_turn m starts x is causal turn.number turn.thread u.0 u.1 run turn.turn.0 turn.turn.1 turn.turn.2,
          stands_for m starts x is causal turn.number turn.thread u.0 u.1 run turn.turn.0 turn.turn.1 turn.turn.2,
          fewer m starts x is causal turn.number turn.thread u.0 u.1 run turn.turn.0 turn.turn.1 turn.turn.2,
        )

-- ---- in the end

module _ (m : Module) (starts : List Start) (events : ℕ) (p : Progress) (progress : IsProgress m starts p) (e : Exploration) (finished : e.finished ≡ p.finished.items) where
  -- each execution is found or excused
  module _ (each : (x : LoggedRun) → IsExecutionOf m starts x → IsCausal (execution x) → Lists p.finished.items (ends_of x.log) ⊎ IsExcused events e.met x.log) where
    lists_too : (ends : List End) → Lists p.finished.items ends → Lists e.finished ends
    lists_too ends lists = subst (λ fs. Lists fs ends) (sym finished) lists

    all : e.met ≡ None → (ends : List End) → IsOutcome m starts ends → Lists e.finished ends
    all none ends o = by (each o.x o.is_execution o.causal)
      where
        by : Lists p.finished.items (ends_of o.x.log) ⊎ IsExcused events e.met o.x.log → Lists e.finished ends
        by (inl lists) = lists_too ends (subst (Lists p.finished.items) o.has lists)
        by (inr why) = absurd (subst (λ b. IsExcused events b o.x.log) none why)

    within : (k : ℕ) → (e.met ≡ Some (Steps k)) ⊎ (e.met ≡ Some (Events k)) → (ends : List End) → IsOutcomeWithin events m starts ends → Lists e.finished ends
    within k met ends o = by met (each o.x o.is_execution o.causal)
      where
        by : (e.met ≡ Some (Steps k)) ⊎ (e.met ≡ Some (Events k)) → Lists p.finished.items (ends_of o.x.log) ⊎ IsExcused events e.met o.x.log → Lists e.finished ends
        by met (inl lists) = lists_too ends (subst (Lists p.finished.items) o.has lists)
        by (inl met) (inr why) = absurd (subst (λ b. IsExcused events b o.x.log) met why o.within)
        by (inr met) (inr why) = absurd (subst (λ b. IsExcused events b o.x.log) met why o.within)

    pub explores : Explores m starts events e
    explores = record {
      found = subst (All (IsFound m starts)) (sym finished) progress.found;
      apart = subst AreApart (sym finished) progress.apart;
      all = all;
      within = within;
    }

-- where nothing is left, what is covered is found or excused
none_left : (events : ℕ) (p : Progress) → p.work.items ≡ [] → (x : LoggedRun) → Covers events p x → Lists p.finished.items (ends_of x.log) ⊎ IsExcused events p.met x.log
none_left events p none x (left i s at on) = absurd (none-some s (ap (λ ss. slice_get ss i) (sym none) ∙ at))
none_left events p none x (listed lists) = inl lists
none_left events p none x (excused why) = inr why

pub none_left_for : (m : Module) (starts : List Start) (events : ℕ) (p : Progress) → p.work.items ≡ [] → (x : LoggedRun) → CoversFor m starts events p x → Lists p.finished.items (ends_of x.log) ⊎ IsExcused events p.met x.log
none_left_for m starts events p none x (y, stands, covers) = by (none_left events p none y covers)
  where
    by : Lists p.finished.items (ends_of y.log) ⊎ IsExcused events p.met y.log → Lists p.finished.items (ends_of x.log) ⊎ IsExcused events p.met x.log
    by (inl lists) = inl (subst (Lists p.finished.items) stands.ends lists)
    by (inr why) = inr (excuses_too m starts events p.met y x stands why)

-- a list of which nothing could be taken is empty
pub empty_if : {X : Type 0} (xs : List X) → (0 < length xs → ⊥) → xs ≡ []
empty_if [] none = refl
empty_if (x ∷ xs) none = absurd (none (omega arith))
