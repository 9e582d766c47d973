-- How a thread that has followed its log so far compares with it.
use Rattle.std.proofs.Common.{◌≡◌, ℕ, ◌+◌, ◌<◌, ◌≤◌, inl, inr, Bool, true, false, cond, nat_lt, List, [], length, drop, Some, refl, sym, ap, subst, ◌∙◌, add-one, arith}
use Rattle.std.specs.Prelude.{Ok, ◌≢◌, ◌⊎◌}
use Rattle.std.proofs.lemmas.Bool.{ltb-false, ltb-true}
use Rattle.std.proofs.lemmas.List.{drop_all, take_all}
use Rattle.std.proofs.lemmas.Option.{slice_get_within}
use Rattle.wm_ast.specs.declared.module.Module.{Module}
use Rattle.wm_event.specs.declared.event.Event.{Event}
use Rattle.wm_event.specs.declared.log.ThreadLog.{ThreadLog}
use Rattle.wm_machine.specs.Local.{local_steps}
use Rattle.wm_machine.specs.Term.{Config, NoStep}
use Rattle.wm_machine.specs.Step.{step}
use Rattle.wm_machine.specs.Run.{end_of, outcome_of, outcome_with, run_from, steps}
use Rattle.wm_replay.specs.Comparison.{end_place}
use Rattle.wm_replay.specs.Following.{Accesses, AccessesOther, HasPlaces, MakesNext, RunsByLog, Stops}
use Rattle.wm_replay.specs.Following.Stops.{at_other, at_end}
use Rattle.wm_replay.specs.Replay.{DiffersAt, IsRun, Reaches, reads_of, start_of}
use Rattle.wm_replay.specs.Replay.DiffersAt.{access, left_over, end}
use Rattle.wm_replay.specs.declared.answer.Place.TheVariants as place
use Rattle.wm_replay.proofs.Following.{access_on, local_steps_on, so_far}

-- thread k has followed its log for j steps, up to the events below n
pub record Follows (m : Module) (k : ℕ) (t : ThreadLog) (start c : Config) (j n : ℕ) : Type 0 where
  pub is_start : start_of m t ≡ Ok start
  pub places : HasPlaces k t.events
  pub listed : n ≤ length t.events
  pub ran_so : steps m k start (reads_of t.events) j ≡ Some (so_far c t.events n)

pub reaches : (m : Module) (k : ℕ) (t : ThreadLog) (start c : Config) (j n : ℕ) → Follows m k t start c j n → j ≤ t.steps → Reaches m k t j n (so_far c t.events n)
reaches m k t start c j n f within =
    record { start = start; is_start = f.is_start; within = within; ran_so = f.ran_so; made = refl; listed = f.listed }

-- i steps more, none of which makes an access
pub follows_locally : (m : Module) (k : ℕ) (t : ThreadLog) (start old new : Config) (j n i : ℕ) → Follows m k t start old j n → local_steps m old i ≡ Some new
    → Follows m k t start new (j + i) n
follows_locally m k t start old new j n i f ran = record {
  is_start = f.is_start;
  places = f.places;
  listed = f.listed;
  ran_so = local_steps_on m k start new (reads_of t.events) (so_far old t.events n) j i f.ran_so ran;
}

-- a step more, which makes the log's next event
pub follows_event : (m : Module) (k : ℕ) (t : ThreadLog) (start old new : Config) (j n : ℕ) → Follows m k t start old j n → Accesses m old new t.events n
    → Follows m k t start new (j + 1) (n + 1)
follows_event m k t start old new j n f a =
    let at = f.places n a.event a.listed in
    let lt = slice_get_within t.events n a.event a.listed in record {
      is_start = f.is_start;
      places = f.places;
      listed = omega (arith, lt);
      ran_so = ap (steps m k start (reads_of t.events)) (add-one j)
          ∙ access_on m k start old new t.events j n a.op a.event f.ran_so a.listed a.makes.0 a.makes.1 (a.asks 0) a.steps_to at.0 at.1;
    }

-- the same of the next event, where the module, the list of events and the answer are named otherwise
pub makes_next_in : (m m' : Module) (old new : Config) (es es' : List Event) (n : ℕ) (b b' : Bool) → m' ≡ m → es' ≡ es → b' ≡ b → MakesNext m' old new es' n b' → MakesNext m old new es n b
makes_next_in m m' old new es es' n b b' same list is next =
    subst (MakesNext m old new es n) is (subst (λ x. MakesNext m old new x n b') list (subst (λ x. MakesNext x old new es' n b') same next))

-- where it stops
pub runs_by_log : (m : Module) (k : ℕ) (t : ThreadLog) (limit : ℕ) (start c : Config) (j n : ℕ) → Follows m k t start c j n → Stops m c t.events limit j n
    → RunsByLog m k t limit c j n
runs_by_log m k t limit start c j n f stops =
    record { start = start; is_start = f.is_start; listed = f.listed; ran_so = f.ran_so; stops = stops }

-- where it doesn't make the log's next event
pub runs_no_further : (m : Module) (k : ℕ) (t : ThreadLog) (limit : ℕ) (start old new : Config) (j n : ℕ) → Follows m k t start old j n → j < limit
    → MakesNext m old new t.events n false → RunsByLog m k t limit new j n
runs_no_further m k t limit start old new j n f lt (same, inl other) =
    subst (λ c. RunsByLog m k t limit c j n) (sym same) (runs_by_log m k t limit start old j n f (at_other lt other))
runs_no_further m k t limit start old new j n f lt (same, inr none) =
    subst (λ c. RunsByLog m k t limit c j n) (sym same) (runs_by_log m k t limit start old j n f (at_end lt none))

-- ---- a difference

pub other_differs : (m : Module) (k : ℕ) (t : ThreadLog) (start c : Config) (j n : ℕ) → Follows m k t start c j n → j < t.steps
    → AccessesOther m c t.events n → DiffersAt m k t (place.Event n)
other_differs m k t start c j n f lt other =
    access (reaches m k t start c j n f (let w : j ≤ t.steps = omega (arith, lt) in w)) lt other.asks
    (λ r fits is. other.makes_not _ is r fits refl)

-- no step is made, or none is stated
at_place : (m : Module) (k : ℕ) (t : ThreadLog) (start c : Config) (j n : ℕ) → Follows m k t start c j n → j ≤ t.steps
    → (j ≡ t.steps) ⊎ (step m 0 c ≡ NoStep) → (n ≡ length t.events → DiffersAt m k t place.End)
    → (b : Bool) → nat_lt n (length t.events) ≡ b → DiffersAt m k t (cond b (place.Event n) place.End)
at_place m k t start c j n f within rests ends true b = left_over (reaches m k t start c j n f within) (ltb-true n (length t.events) b) rests
at_place m k t start c j n f within rests ends false b = ends (let behind = ltb-false n (length t.events) b in let at : n ≡ length t.events = omega (arith, behind, f.listed) in at)

-- no step is made before the last stated one
pub rests_differs : (m : Module) (k : ℕ) (t : ThreadLog) (start c : Config) (j n : ℕ) → Follows m k t start c j n → j < t.steps → step m 0 c ≡ NoStep
    → DiffersAt m k t (end_place n (length t.events))
rests_differs m k t start c j n f lt stops =
    let within : j ≤ t.steps = omega (arith, lt) in
    at_place m k t start c j n f within (inr stops)
    (λ all. end (reaches m k t start c j (length t.events) (subst (Follows m k t start c j) all f) within) (inr (lt, stops)))
    (nat_lt n (length t.events)) refl

-- the stated steps are made, and an event is left over
pub left_differs : (m : Module) (k : ℕ) (t : ThreadLog) (start c : Config) (j n : ℕ) → Follows m k t start c j n → j ≡ t.steps → n < length t.events
    → DiffersAt m k t (place.Event n)
left_differs m k t start c j n f all lt = left_over (reaches m k t start c j n f (let within : j ≤ t.steps = omega (arith, all) in within)) lt (inl all)

-- the stated steps and events are made, and the end is another
pub end_differs : (m : Module) (k : ℕ) (t : ThreadLog) (start c : Config) (j n : ℕ) → Follows m k t start c j n → j ≡ t.steps → length t.events ≤ n
    → end_of c ≢ t.end → DiffersAt m k t place.End
end_differs m k t start c j n f all made other =
    let within : j ≤ t.steps = omega (arith, all) in
    let at : n ≡ length t.events = omega (arith, made, f.listed) in
    end (reaches m k t start c j (length t.events) (subst (Follows m k t start c j) at f) within) (inl (all, other))

-- ---- no difference

pub is_run : (m : Module) (k : ℕ) (t : ThreadLog) (start c : Config) (j n : ℕ) → Follows m k t start c j n → j ≡ t.steps → length t.events ≤ n → end_of c ≡ t.end → IsRun m k t
is_run m k t start c j n f all made ended =
    let no_reads : reads_of (drop n t.events) ≡ [] = ap reads_of (drop_all n t.events made) in
    let whole : steps m k start (reads_of t.events) t.steps ≡ Some (so_far c t.events n) = subst (λ i. steps m k start (reads_of t.events) i ≡ Some (so_far c t.events n)) all f.ran_so in
    ap (λ r. run_from m k r (reads_of t.events) t.steps) f.is_start ∙ ap outcome_of whole
    ∙ ap (λ reads. outcome_with reads (so_far c t.events n)) no_reads
    ∙ ap (λ es. Some (record { events = es; end = end_of c })) (take_all n t.events made)
    ∙ ap (λ x. Some (record { events = t.events; end = x })) ended
