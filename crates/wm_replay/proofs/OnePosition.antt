-- The states that a thread reaches by its log after a number of steps are at the same places.
use Rattle.std.proofs.Common.{◌≡◌, ℕ, suc, ◌+◌, ◌-◌, ◌<◌, ◌≤◌, List, [], ◌∷◌, length, map, take, Option, Some, None, refl, sym, ap, subst, ◌∙◌, ⊎_elim, length-append, length-take-le, arith}
use Rattle.std.specs.Prelude.{Ok}
use Rattle.std.proofs.lemmas.Bool.{cases_lt}
use Rattle.std.proofs.lemmas.Option.{none-some, same_Some, slice_get_within}
use Rattle.wm_ast.specs.declared.instr.Instr.{Instr}
use Rattle.wm_ast.specs.declared.module.Module.{Module}
use Rattle.wm_event.specs.declared.event.Event.{Event}
use Rattle.wm_event.specs.declared.log.End.{End}
use Rattle.wm_event.specs.declared.log.ThreadLog.{ThreadLog}
use Rattle.wm_event.specs.declared.op.OpFields.{OpFields}
use Rattle.wm_machine.specs.declared.call_frame.CallFrame.{CallFrame}
use Rattle.wm_machine.specs.declared.place.Place.{Place}
use Rattle.wm_machine.specs.declared.thread.CodePosition.{CodePosition}
use Rattle.wm_machine.specs.declared.value.TypedValue.{TypedValue}
use Rattle.wm_machine.specs.Functions.{continuation}
use Rattle.wm_machine.specs.Nest.{Nest, Position}
use Rattle.wm_machine.specs.Paths.{CallPlaces, Moves, call_places, within, calls, returns, ends}
use Rattle.wm_machine.specs.Places.{moved, moved_in, next_or_end, end_in, end_within, outer_places, past_block, place_of, places_of}
use Rattle.wm_machine.specs.Run.{Ran, and_run_on, run_on, steps}
use Rattle.wm_machine.specs.State.{State, config_from, config_of, position_in, position_of}
use Rattle.wm_machine.specs.Step.{access_of, step}
use Rattle.wm_machine.specs.Term.{Config, Over}
use Rattle.wm_replay.specs.Positions.{IsAfter, IsMadeAt, IsReached, begins, goes_on}
use Rattle.wm_replay.specs.Replay.{reads_of, start_of}
use Rattle.wm_replay.proofs.Following.{so_far}
use Rattle.wm_replay.proofs.Runs.{more, more_grows, more_none, next_event, steps_more}
use Rattle.wm_replay.proofs.Configurations.{depth_is, depth_of, func_is, func_of, operands_are, operands_of}

-- ---- states at the same places

-- the calls of two threads are at the same places
record SamePlaces (s u : State) : Type 0 where
  pub running : call_places s.running ≡ call_places u.running
  pub waiting : map call_places s.call_stack ≡ map call_places u.call_stack

same_call : (a b : CallFrame) → a.func ≡ b.func → places_of a.control_stack ≡ places_of b.control_stack → call_places a ≡ call_places b
same_call a b func places =
    ap (λ (f : ℕ). let x : CallPlaces = record { func = f; places = places_of a.control_stack } in x) func ∙ ap (λ (ps : List Place). let x : CallPlaces = record { func = b.func; places = ps } in x) places

func_same : (s u : State) → SamePlaces s u → s.running.func ≡ u.running.func
func_same s u same = ap (λ (x : CallPlaces). x.func) same.running

places_same : (s u : State) → SamePlaces s u → places_of s.running.control_stack ≡ places_of u.running.control_stack
places_same s u same = ap (λ (x : CallPlaces). x.places) same.running

-- where a call is after a step, by the places of its blocks
abbrev moved_by : Module → ℕ → List TypedValue → List Place → List Place
moved_by m func operands [] = []
moved_by m func operands (p ∷ outer) = moved m func operands (continuation m func p.block p.at) p outer

moved_same : (m : Module) (s u : State) → SamePlaces s u → s.running.control_stack.operands ≡ u.running.control_stack.operands
    → moved_in m s.running.func s.running.control_stack ≡ moved_in m u.running.func u.running.control_stack
moved_same m s u same operands =
    ap (λ (f : ℕ). moved_by m f s.running.control_stack.operands (places_of s.running.control_stack)) (func_same s u same)
    ∙ ap (λ (ops : List TypedValue). moved_by m u.running.func ops (places_of s.running.control_stack)) operands
    ∙ ap (λ (ps : List Place). moved_by m u.running.func u.running.control_stack.operands ps) (places_same s u same)

abbrev past : CallPlaces → CallPlaces
past x = record { func = x.func; places = past_block x.places }

count_map : {A B : Type 0} (f : A → B) (xs : List A) → length (map f xs) ≡ length xs
count_map f [] = refl
count_map f (x ∷ xs) = ap suc (count_map f xs)

depth_same : (s u : State) → SamePlaces s u → length s.call_stack ≡ length u.call_stack
depth_same s u same = sym (count_map call_places s.call_stack) ∙ ap (λ (xs : List CallPlaces). length xs) same.waiting ∙ count_map call_places u.call_stack

no_end : (end : End) (o : Option End) → o ≡ None → o ≡ Some end → ⊥
no_end end o none some = none-some end (sym none ∙ some)

-- the step from the same places in the same configuration leads to the same places, if it leads to the same configuration
module _ (m : Module) (old new old' new' : State) (same : SamePlaces old old') (operands : old.running.control_stack.operands ≡ old'.running.control_stack.operands)
    (func : new.running.func ≡ new'.running.func) (depth : length new.call_stack ≡ length new'.call_stack) (runs : new.ended ≡ None) (runs' : new'.ended ≡ None) where
  moved_to_same : Moves m old new → Moves m old' new' → SamePlaces new new'
  moved_to_same (within places stack) (within places' stack') = record {
    running = same_call new.running new'.running func (places ∙ moved_same m old old' same operands ∙ sym places');
    waiting = ap (map call_places) stack ∙ same.waiting ∙ sym (ap (map call_places) stack');
  }
  moved_to_same (within places stack) (calls places' stack') =
      let a = ap (λ (xs : List CallFrame). length xs) stack in
      let b = ap (λ (xs : List CallPlaces). length xs) stack' in
      absurd (omega (arith, a, b, depth, depth_same old old' same, count_map call_places new'.call_stack, count_map call_places old'.call_stack))
  moved_to_same (within places stack) (returns caller stack' back') =
      let a = ap (λ (xs : List CallFrame). length xs) stack in
      let b = ap (λ (xs : List CallFrame). length xs) stack' in
      absurd (omega (arith, a, b, depth, depth_same old old' same))
  moved_to_same (calls places stack) (within places' stack') =
      let a = ap (λ (xs : List CallPlaces). length xs) stack in
      let b = ap (λ (xs : List CallFrame). length xs) stack' in
      absurd (omega (arith, a, b, depth, depth_same old old' same, count_map call_places new.call_stack, count_map call_places old.call_stack))
  moved_to_same (calls places stack) (calls places' stack') = record {
    running = same_call new.running new'.running func (places ∙ sym places');
    waiting =
        stack ∙ ap (λ (x : CallPlaces). past x ∷ map call_places old.call_stack) same.running
        ∙ ap (λ (xs : List CallPlaces). past (call_places old'.running) ∷ xs) same.waiting ∙ sym stack';
  }
  moved_to_same (calls places stack) (returns caller stack' back') =
      let a = ap (λ (xs : List CallPlaces). length xs) stack in
      let b = ap (λ (xs : List CallFrame). length xs) stack' in
      absurd (omega (arith, a, b, depth, depth_same old old' same, count_map call_places new.call_stack, count_map call_places old.call_stack))
  moved_to_same (returns caller stack back) (within places' stack') =
      let a = ap (λ (xs : List CallFrame). length xs) stack in
      let b = ap (λ (xs : List CallFrame). length xs) stack' in
      absurd (omega (arith, a, b, depth, depth_same old old' same))
  moved_to_same (returns caller stack back) (calls places' stack') =
      let a = ap (λ (xs : List CallFrame). length xs) stack in
      let b = ap (λ (xs : List CallPlaces). length xs) stack' in
      absurd (omega (arith, a, b, depth, depth_same old old' same, count_map call_places new'.call_stack, count_map call_places old'.call_stack))
  moved_to_same (returns caller stack back) (returns caller' stack' back') =
      let both : call_places caller ∷ map call_places new.call_stack ≡ call_places caller' ∷ map call_places new'.call_stack =
      sym (ap (map call_places) stack) ∙ same.waiting ∙ ap (map call_places) stack' in
      record { running = back ∙ head_same both ∙ sym back'; waiting = tail_same both }
    where
      first : List CallPlaces → CallPlaces → CallPlaces
      first [] other = other
      first (x ∷ xs) other = x

      rest : List CallPlaces → List CallPlaces
      rest [] = []
      rest (x ∷ xs) = xs

      head_same : {x y : CallPlaces} {xs ys : List CallPlaces} → x ∷ xs ≡ y ∷ ys → x ≡ y
      head_same {x} e = ap (λ (zs : List CallPlaces). first zs x) e

      tail_same : {x y : CallPlaces} {xs ys : List CallPlaces} → x ∷ xs ≡ y ∷ ys → xs ≡ ys
      tail_same e = ap rest e
  moved_to_same (ends end is) moves' = absurd (no_end end new.ended runs is)
  moved_to_same (within places stack) (ends end is) = absurd (no_end end new'.ended runs' is)
  moved_to_same (calls places stack) (ends end is) = absurd (no_end end new'.ended runs' is)
  moved_to_same (returns caller stack back) (ends end is) = absurd (no_end end new'.ended runs' is)

-- ---- the states of a run

over_stops : (m : Module) (k : ℕ) (events : List Event) (reads : List ℕ) (end : End) (config : Config) → config ≡ Over end → run_on m k record { events = events; config = config; reads = reads } ≡ None
over_stops m k events reads end config is = subst (λ (c : Config). run_on m k record { events = events; config = c; reads = reads } ≡ None) (sym is) refl

module _ (m : Module) (k : ℕ) (t : ThreadLog) where
  after_of : {count : ℕ} {s : State} → IsReached m k t count s → IsAfter m k t count (config_of s)
  after_of (begins {s = s} start at) = record {
    start = config_of s;
    is_start = start;
    ran = record { events = []; config = config_of s; reads = reads_of t.events };
    ran_so = refl;
    is_config = refl;
  }
  after_of (goes_on before after moves) = after

  start_same : (c d : Config) → start_of m t ≡ Ok c → start_of m t ≡ Ok d → c ≡ d
  start_same c d a b = let e = sym a ∙ b in cc

  after_same : (count : ℕ) (c d : Config) → IsAfter m k t count c → IsAfter m k t count d → c ≡ d
  after_same count c d a b =
      let one = start_same a.start b.start a.is_start b.is_start in
      let ran = same_Some a.ran b.ran (sym a.ran_so ∙ ap (λ (x : Config). steps m k x (reads_of t.events) count) one ∙ b.ran_so) in
      sym a.is_config ∙ ap (λ (r : Ran). r.config) ran ∙ b.is_config

  -- a thread that makes a further step had not ended
  went_on : (count : ℕ) (c d : Config) → IsAfter m k t count c → IsAfter m k t (count + 1) d → (end : End) → c ≡ Over end → ⊥
  went_on count c d a b end over =
      let one = start_same b.start a.start b.is_start a.is_start in
      let next : count + 1 ≡ suc count = omega arith in
      let stops = over_stops m k a.ran.events a.ran.reads end a.ran.config (a.is_config ∙ over) in
      none-some b.ran (sym (ap (and_run_on m k) a.ran_so ∙ stops) ∙ sym (ap (λ (x : Config). steps m k x (reads_of t.events) (suc count)) one) ∙ ap (steps m k b.start (reads_of t.events)) (sym next) ∙ b.ran_so)

  runs_before : (count : ℕ) (s : State) (d : Config) → IsAfter m k t count (config_of s) → IsAfter m k t (count + 1) d → s.ended ≡ None
  runs_before count s d a b = by s.ended refl
    where
      by : (o : Option End) → s.ended ≡ o → s.ended ≡ None
      by None is = is
      by (Some end) is = absurd (went_on count (config_of s) d a b end (ap (λ (o : Option End). config_from o s) is))

  -- the states after the same number of steps are at the same places
  same_places : {count other : ℕ} {s u : State} → count ≡ other → IsReached m k t count s → IsReached m k t other u → s.ended ≡ None → u.ended ≡ None → SamePlaces s u
  same_places {s = s} {u = u} same (begins start at) (begins start' at') runs runs' =
      let func = sym (func_is s runs) ∙ ap func_of (start_same (config_of s) (config_of u) start start') ∙ func_is u runs' in
      record { running = same_call s.running u.running func (at.places ∙ sym at'.places); waiting = ap (map call_places) (at.alone ∙ sym at'.alone) }
  same_places same (begins start at) (goes_on before after moves) runs runs' = absurd (omega (arith, same))
  same_places same (goes_on before after moves) (begins start at) runs runs' = absurd (omega (arith, same))
  same_places {s = new} {u = new'} same (goes_on {count = count} {s = old} before after moves) (goes_on {count = other} {s = old'} before' after' moves') runs runs' =
      let one : count ≡ other = omega (arith, same) in
      let ran = runs_before count old (config_of new) (after_of before) after in
      let ran' = runs_before other old' (config_of new') (after_of before') after' in
      let at = same_places one before before' ran ran' in
      let config = after_same other (config_of old) (config_of old') (subst (λ (i : ℕ). IsAfter m k t i (config_of old)) one (after_of before)) (after_of before') in
      let config' = after_same (other + 1) (config_of new) (config_of new') (subst (λ (i : ℕ). IsAfter m k t i (config_of new)) same after) after' in
      let operands = sym (operands_are old ran) ∙ ap operands_of config ∙ operands_are old' ran' in
      let func = sym (func_is new runs) ∙ ap func_of config' ∙ func_is new' runs' in
      let depth = sym (depth_is new runs) ∙ ap depth_of config' ∙ depth_is new' runs' in
      moved_to_same m old new old' new' at operands func depth runs runs' moves moves'

-- ---- the position of an event

-- where a call is, by the places of its blocks
abbrev end_by : Module → ℕ → List Place → Place → Place
end_by m func [] place = place
end_by m func (p ∷ outer) place = end_within m func (continuation m func p.block p.at) place

abbrev next_or_end_by : Module → ℕ → List Instr → List Place → Place → Place
next_or_end_by m func [] outer place = end_by m func outer place
next_or_end_by m func (i ∷ rest) outer place = place

abbrev place_by : Module → ℕ → List Place → Place
place_by m func [] = record { block = 0; at = 0 }
place_by m func (p ∷ outer) = next_or_end_by m func (continuation m func p.block p.at) outer p

end_is : (m : Module) (func : ℕ) (outer : List Position) (place : Place) → end_in m func outer place ≡ end_by m func (outer_places outer) place
end_is m func [] place = refl
end_is m func (p ∷ outer) place = refl

next_or_end_is : (m : Module) (func : ℕ) (instrs : List Instr) (outer : List Position) (place : Place) → next_or_end m func instrs outer place ≡ next_or_end_by m func instrs (outer_places outer) place
next_or_end_is m func [] outer place = end_is m func outer place
next_or_end_is m func (i ∷ rest) outer place = refl

place_is : (m : Module) (func : ℕ) (n : Nest) → place_of m func n ≡ place_by m func (places_of n)
place_is m func n = next_or_end_is m func (continuation m func n.block n.at) n.outer record { block = n.block; at = n.at }

position_same : (m : Module) (s u : State) → s.module ≡ m → u.module ≡ m → SamePlaces s u → position_of s ≡ position_of u
position_same m s u of_s of_u same =
    ap (λ (x : Module). position_in s.running.func (place_of x s.running.func s.running.control_stack)) of_s
    ∙ ap (position_in s.running.func) (place_is m s.running.func s.running.control_stack)
    ∙ ap (λ (x : CallPlaces). position_in x.func (place_by m x.func x.places)) same.running
    ∙ sym (ap (position_in u.running.func) (place_is m u.running.func u.running.control_stack))
    ∙ sym (ap (λ (x : Module). position_in u.running.func (place_of x u.running.func u.running.control_stack)) of_u)

-- ---- the step that makes an event

module _ (m : Module) (k : ℕ) (t : ThreadLog) (start : Config) where
  -- a run that has made the events below n makes event n by one step, after which it has made more
  never_later : (j other i n : ℕ) (c d : Config) (op : OpFields) → steps m k start (reads_of t.events) j ≡ Some (so_far c t.events n) → ((r : ℕ) → access_of (step m r c) ≡ Some op)
      → steps m k start (reads_of t.events) other ≡ Some (so_far d t.events n) → n < length t.events → other ≡ i + suc j → ⊥
  never_later j other i n c d op so asks so' lt later = by (steps m k start (reads_of t.events) (suc j)) refl
    where
      whole : length (take n t.events) ≡ n
      whole = length-take-le n t.events (omega (arith, lt))

      by : (o : Option Ran) → steps m k start (reads_of t.events) (suc j) ≡ o → ⊥
      by None is = none-some (so_far d t.events n) (sym (more_none m k i) ∙ sym (ap (more m k i) is) ∙ sym (steps_more m k start (reads_of t.events) i (suc j) other later) ∙ so')
      by (Some ran) is =
          let one = next_event m k (so_far c t.events n) op ran asks (sym (ap (and_run_on m k) so) ∙ is) in
          let more_is = more_grows m k i ran (so_far d t.events n) (sym (ap (more m k i) is) ∙ sym (steps_more m k start (reads_of t.events) i (suc j) other later) ∙ so') in
          let first = ap (λ (es : List Event). length es) one.2 ∙ length-append (take n t.events) _ in
          let all = ap (λ (es : List Event). length es) more_is.1 ∙ length-append ran.events more_is.0 in
          omega (arith, whole, first, all)

  one_count : (j other n : ℕ) (c d : Config) (op op' : OpFields) → steps m k start (reads_of t.events) j ≡ Some (so_far c t.events n) → ((r : ℕ) → access_of (step m r c) ≡ Some op)
      → steps m k start (reads_of t.events) other ≡ Some (so_far d t.events n) → ((r : ℕ) → access_of (step m r d) ≡ Some op') → n < length t.events → j ≡ other
  one_count j other n c d op op' so asks so' asks' lt = ⊎_elim
      (λ (below : j < other).
      let later : other ≡ other - suc j + suc j = omega (arith, below) in absurd (never_later j other (other - suc j) n c d op so asks so' lt later))
      (λ (not_below : other ≤ j). ⊎_elim
      (λ (above : other < j).
      let later : j ≡ j - suc other + suc other = omega (arith, above) in absurd (never_later other j (j - suc other) n d c op' so' asks' so lt later))
      (λ (not_above : j ≤ other). omega (arith, not_below, not_above))
      (cases_lt other j))
      (cases_lt j other)

runs_there : (s : State) (r : ℕ) (op : OpFields) (m : Module) → access_of (step m r (config_of s)) ≡ Some op → s.ended ≡ None
runs_there s r op m makes = by s.ended refl
  where
    by : (o : Option End) → s.ended ≡ o → s.ended ≡ None
    by None is = is
    by (Some end) is = absurd (none-some op (sym (ap (λ (o : Option End). access_of (step m r (config_from o s))) is) ∙ makes))

pub one_position : (m : Module) (k : ℕ) (t : ThreadLog) (n : ℕ) (p q : CodePosition) → IsMadeAt m k t n p → IsMadeAt m k t n q → p ≡ q
one_position m k t n p q a b =
    let one = start_same m k t b.start a.start b.is_start a.is_start in
    let so = subst (λ (c : Config). steps m k c (reads_of t.events) b.count ≡ Some (so_far (config_of b.state) t.events n)) one b.ran_so in
    let lt = slice_get_within t.events n a.makes.event a.makes.listed in
    let count = one_count m k t a.start a.count b.count n (config_of a.state) (config_of b.state) a.makes.op b.makes.op a.ran_so a.makes.asks so b.makes.asks lt in
    let runs = runs_there a.state 0 a.makes.op m (a.makes.asks 0) in
    let runs' = runs_there b.state 0 b.makes.op m (b.makes.asks 0) in
    let same = same_places m k t count a.reached b.reached runs runs' in
    sym a.is_position ∙ position_same m a.state b.state a.runs_module b.runs_module same ∙ b.is_position
