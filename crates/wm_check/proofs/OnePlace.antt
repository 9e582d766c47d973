-- A thread differs from its log at one place.
use Rattle.std.proofs.Common.{◌≡◌, ℕ, zero, suc, ◌-◌, ◌<◌, ◌≤◌, ◌⊎◌, inl, inr, List, [], ◌∷◌, ◌++◌, length, take, Result, Ok, Option, Some, None, refl, sym, ap, subst, ◌∙◌, length-take-le, arith}
use Rattle.std.specs.Prelude.{slice_get}
use Rattle.std.proofs.lemmas.Bool.{cases_lt}
use Rattle.std.proofs.lemmas.Option.{none-some, same_Some}
use Rattle.wm_ast.specs.declared.module.Module.{Module}
use Rattle.wm_event.specs.declared.event.Event.{Event}
use Rattle.wm_event.specs.declared.log.ThreadLog.{ThreadLog}
use Rattle.wm_event.specs.declared.op.OpFields.{OpFields}
use Rattle.wm_event.specs.Op.{event_made}
use Rattle.wm_machine.specs.declared.fault.StartFault.{StartFault}
use Rattle.wm_machine.specs.Run.{Ran, and_run_on, run_on, steps}
use Rattle.wm_machine.specs.Step.{access_of, step}
use Rattle.wm_machine.specs.Term.{Config, NoStep}
use Rattle.wm_replay.specs.declared.answer.Place.{Place}
use Rattle.wm_replay.specs.declared.answer.Place.TheVariants as place
use Rattle.wm_replay.specs.Replay.{DiffersAt, EndsOtherwise, MakesNo, Reaches, Rests, reads_of}
use Rattle.wm_replay.specs.Replay.DiffersAt.{access, left_over, end}
use Rattle.wm_replay.proofs.Runs.{more, more_grows, more_none, next_event, steps_more}

-- ---- one run

-- a run that goes on makes one more step, whose events begin the later ones
goes_on : (m : Module) (k : ℕ) (start : Config) (reads : List ℕ) (j i : ℕ) (ran far : Ran) → steps m k start reads j ≡ Some ran → steps m k start reads i ≡ Some far → j < i
    → (next : Ran) × (run_on m k ran ≡ Some next) × ((es : List Event) × (far.events ≡ next.events ++ es))
goes_on m k start reads j i ran far so later lt =
    let split : steps m k start reads i ≡ more m k (i - suc j) (steps m k start reads (suc j)) = steps_more m k start reads (i - suc j) (suc j) i (omega (arith, lt)) in
    let from : Some far ≡ more m k (i - suc j) (run_on m k ran) = sym later ∙ split ∙ ap (λ o. more m k (i - suc j) (and_run_on m k o)) so in
    on (run_on m k ran) refl from
  where
    on : (o : Option Ran) → run_on m k ran ≡ o → Some far ≡ more m k (i - suc j) o → (next : Ran) × (run_on m k ran ≡ Some next) × ((es : List Event) × (far.events ≡ next.events ++ es))
    on None is e = absurd (none-some far (sym (more_none m k (i - suc j)) ∙ sym e))
    on (Some next) is e = (let grown = more_grows m k (i - suc j) next far (sym e) in (next, is, grown))

no_step : (m : Module) (k : ℕ) (ran : Ran) → step m 0 ran.config ≡ NoStep → run_on m k ran ≡ None
no_step m k ran e = rw (e) (rw (e) refl)

-- the event after a list
get_behind : (xs : List Event) (e : Event) (es : List Event) → slice_get ((xs ++ e ∷ []) ++ es) (length xs) ≡ Some e
get_behind [] e es = refl
get_behind (x ∷ xs) e es = get_behind xs e es

-- what the front of a list has there, the list has
get_front : (n : ℕ) (xs : List Event) (i : ℕ) (e : Event) → slice_get (take n xs) i ≡ Some e → slice_get xs i ≡ Some e
get_front zero xs i e is = absurd (cc is)
get_front (suc n) [] i e is = absurd (cc is)
get_front (suc n) (x ∷ xs) zero e is = is
get_front (suc n) (x ∷ xs) (suc i) e is = get_front n xs i e is

same_config : (a b : Config) → ◌≡◌ {A = Result Config StartFault} (Ok a) (Ok b) → a ≡ b
same_config a b same = cc

module _ (m : Module) (k : ℕ) (t : ThreadLog) where
  starts_alike : {j n i o : ℕ} {ran far : Ran} (r : Reaches m k t j n ran) (s : Reaches m k t i o far) → steps m k r.start (reads_of t.events) i ≡ Some far
  starts_alike {i = i} {far = far} r s = subst (λ c. steps m k c (reads_of t.events) i ≡ Some far) (same_config s.start r.start (sym s.is_start ∙ r.is_start)) s.ran_so

  -- as many events are made as are in the front of the log
  counts : {j n : ℕ} {ran : Ran} (r : Reaches m k t j n ran) → length ran.events ≡ n
  counts {n = n} r = ap length r.made ∙ length-take-le n t.events r.listed

  -- ---- it goes no further

  not_by_access : {j n i o : ℕ} {ran far : Ran} {a : OpFields} (r : Reaches m k t j n ran) (s : Reaches m k t i o far) → ((v : ℕ) → access_of (step m v ran.config) ≡ Some a)
      → MakesNo record { thread = k; number = n } a (slice_get t.events n) → j < i → ⊥
  not_by_access {j} {n} {i} {o} {ran} {far} {a} r s is none lt =
      let next = goes_on m k r.start (reads_of t.events) j i ran far r.ran_so (starts_alike r s) lt in
      let made = next_event m k ran a next.0 is next.1 in
      let number = length ran.events in
      let e = event_made record { thread = k; number = number } a made.0 in
      let all : take o t.events ≡ (ran.events ++ e ∷ []) ++ next.2.0 = sym s.made ∙ next.2.1 ∙ ap (λ es. es ++ next.2.0) made.2 in
      let there : slice_get t.events number ≡ Some e = get_front o t.events number e (ap (λ es. slice_get es number) all ∙ get_behind ran.events e next.2.0) in
      none made.0 made.1 (subst (λ x. slice_get t.events x ≡ Some (event_made record { thread = k; number = x } a made.0)) (counts r) there)

  not_without_step : {j n i o : ℕ} {ran far : Ran} (r : Reaches m k t j n ran) (s : Reaches m k t i o far) → step m 0 ran.config ≡ NoStep → j < i → ⊥
  not_without_step {j} {n} {i} {o} {ran} {far} r s none lt =
      let next = goes_on m k r.start (reads_of t.events) j i ran far r.ran_so (starts_alike r s) lt in
      none-some next.0 (sym (no_step m k ran none) ∙ next.1)

  not_past_all : {j n i o : ℕ} {ran far : Ran} (r : Reaches m k t j n ran) (s : Reaches m k t i o far) → j ≡ t.steps → j < i → ⊥
  not_past_all r s all lt = (let within = s.within in omega (arith, all, lt, within))

  not_at_rest : {j n i o : ℕ} {ran far : Ran} (r : Reaches m k t j n ran) (s : Reaches m k t i o far) → Rests m t j ran.config → j < i → ⊥
  not_at_rest r s (inl all) = not_past_all r s all
  not_at_rest r s (inr none) = not_without_step r s none

  not_at_end : {j n i o : ℕ} {ran far : Ran} (r : Reaches m k t j n ran) (s : Reaches m k t i o far) → EndsOtherwise m t j ran.config → j < i → ⊥
  not_at_end r s (inl all) = not_past_all r s all.0
  not_at_end r s (inr none) = not_without_step r s none.1

  -- how far it came where it differs
  record Stop : Type 0 where
    made : ℕ
    number : ℕ
    ran : Ran
    reaches : Reaches m k t made number ran
    no_further : {i o : ℕ} {far : Ran} → Reaches m k t i o far → made < i → ⊥

  stop_of : (p : Place) → DiffersAt m k t p → Stop
  stop_of p (access {j} {n} {ran} {a} r lt is none) = record { made = j; number = n; ran = ran; reaches = r; no_further = λ s. not_by_access r s is none }
  stop_of p (left_over {j} {n} {ran} r lt rests) = record { made = j; number = n; ran = ran; reaches = r; no_further = λ s. not_at_rest r s rests }
  stop_of p (end {j} {ran} r ends) = record { made = j; number = length t.events; ran = ran; reaches = r; no_further = λ s. not_at_end r s ends }

  same_steps : (a b : Stop) → a.made ≡ b.made
  same_steps a b = by (cases_lt a.made b.made) (cases_lt b.made a.made)
    where
      by : (a.made < b.made) ⊎ (b.made ≤ a.made) → (b.made < a.made) ⊎ (a.made ≤ b.made) → a.made ≡ b.made
      by (inl earlier) other = absurd (a.no_further b.reaches earlier)
      by (inr late) (inl later) = absurd (b.no_further a.reaches later)
      by (inr late) (inr early) = omega (arith, late, early)

  -- ---- one place

  same_ran : {j n i o : ℕ} {ran far : Ran} (r : Reaches m k t j n ran) (s : Reaches m k t i o far) → j ≡ i → ran ≡ far
  same_ran {ran = ran} {far = far} r s e = same_Some ran far (sym r.ran_so ∙ ap (steps m k r.start (reads_of t.events)) e ∙ starts_alike r s)

  same_number : {j n i o : ℕ} {ran far : Ran} (r : Reaches m k t j n ran) (s : Reaches m k t i o far) → j ≡ i → n ≡ o
  same_number r s e = sym (counts r) ∙ ap (λ (x : Ran). length x.events) (same_ran r s e) ∙ counts s

  access_or_end : {j n i : ℕ} {ran far : Ran} {a : OpFields} (r : Reaches m k t j n ran) (s : Reaches m k t i (length t.events) far) → j < t.steps
      → ((v : ℕ) → access_of (step m v ran.config) ≡ Some a) → EndsOtherwise m t i far.config → j ≡ i → ⊥
  access_or_end r s lt is (inl all) e = (let at = all.0 in omega (arith, lt, e, at))
  access_or_end {ran = ran} {a = a} r s lt is (inr none) e =
      none-some a (sym (ap access_of none.1) ∙ sym (ap (λ (x : Ran). access_of (step m 0 x.config)) (same_ran r s e)) ∙ is 0)

  left_or_end : {j n i : ℕ} {ran far : Ran} (r : Reaches m k t j n ran) (s : Reaches m k t i (length t.events) far) → n < length t.events → j ≡ i → ⊥
  left_or_end r s lt e = (let all = same_number r s e in omega (arith, lt, all))

  places : (p q : Place) (d : DiffersAt m k t p) (f : DiffersAt m k t q) → (stop_of p d).made ≡ (stop_of q f).made → p ≡ q
  unfolding stop_of
  places p q (access r lt is none) (access s before also missing) e = ap (λ n. place.Event n) (same_number r s e)
  places p q (access r lt is none) (left_over s left rests) e = ap (λ n. place.Event n) (same_number r s e)
  places p q (access r lt is none) (end s ends) e = absurd (access_or_end r s lt is ends e)
  places p q (left_over r left rests) (access s lt is none) e = ap (λ n. place.Event n) (same_number r s e)
  places p q (left_over r left rests) (left_over s also rest) e = ap (λ n. place.Event n) (same_number r s e)
  places p q (left_over r left rests) (end s ends) e = absurd (left_or_end r s left e)
  places p q (end r ends) (access s lt is none) e = absurd (access_or_end s r lt is ends (sym e))
  places p q (end r ends) (left_over s left rests) e = absurd (left_or_end s r left (sym e))
  places p q (end r ends) (end s also) e = refl

  pub one_place : (p q : Place) → DiffersAt m k t p → DiffersAt m k t q → p ≡ q
  one_place p q d f = places p q d f (same_steps (stop_of p d) (stop_of q f))
