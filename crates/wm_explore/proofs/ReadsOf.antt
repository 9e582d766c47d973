-- The states that a read adds, one after the other.
use Rattle.std.proofs.Common.{◌≡◌, ℕ, ◌+◌, ◌<◌, ◌≤◌, true, List, [], ◌∷◌, ◌++◌, length, inl, inr, Option, None, Some, refl, sym, ap, subst, ◌∙◌, arith}
use Rattle.std.specs.Prelude.{◌⊎◌, All, slice_get}
use Rattle.std.proofs.lemmas.Option.{none-some, same_Some, slice_get_within}
use Rattle.wm_ast.specs.declared.module.Module.{Module}
use Rattle.wm_event.specs.LoggedRun.{LoggedRun, execution}
use Rattle.wm_event.specs.Op.{event_made, kind_finds}
use Rattle.wm_event.specs.declared.event.Event.{Event}
use Rattle.wm_event.specs.declared.log.Start.{Start}
use Rattle.wm_event.specs.declared.log.ThreadLog.{ThreadLog}
use Rattle.wm_event.specs.declared.op.OpFields.{OpFields}
use Rattle.wm_event.specs.declared.witness.Witness.{Witness}
use Rattle.wm_replay.specs.Continuing.{HasNextBy}
use Rattle.wm_explore.specs.Executions.{IsCausal, IsExecutionOf}
use Rattle.wm_explore.specs.Bounds.{IsExcused}
use Rattle.wm_explore.specs.Judging.{IsAllowedWith, LooksBack, run_with}
use Rattle.wm_explore.specs.Past.{KnowsPast}
use Rattle.wm_explore.proofs.Pasts.{forbidden, knows_child, knows_too}
use Rattle.wm_replay.specs.declared.continuing.Next.{Next}
use Rattle.wm_event.specs.Event.{key_of}
use Rattle.wm_explore.specs.Search.{AddsPermitted, AddsRead, AreApart, Covers, Extends, IsFound, IsProgress, Keeps}
use Rattle.wm_explore.specs.Search.Covers.{left}
use Rattle.wm_explore.specs.Known.{IsMade, IsNoted, KnowsNexts}
use Rattle.wm_explore.specs.States.{GoesOn, IsAlike, IsChild, IsMarked, IsState, extended}
use Rattle.wm_explore.specs.Turns.{AreNexts, MakesNext}
use Rattle.wm_explore.specs.Values.{ReadsAll}
use Rattle.wm_explore.specs.declared.search.Progress.{Progress}
use Rattle.wm_explore.specs.declared.state.State.{State}
use Rattle.wm_explore.proofs.Beginnings.{ended_run, whole_thread}
use Rattle.wm_explore.proofs.Children.{HasWriters, LacksWriter, goes_on, goes_on_marked, has_or_lacks, is_state, next_key}
use Rattle.wm_explore.proofs.Items.{one_more_any}
use Rattle.wm_explore.proofs.Lists.{kept_pushed, last_pushed}
use Rattle.wm_explore.proofs.Permitted.{permitted}
use Rattle.wm_explore.proofs.Progressing.{IsMore, all_pushed, covers_more}
use Rattle.wm_explore.proofs.Reading.{has_value}
use Rattle.wm_valid.proofs.Initial.{one_init}
use Rattle.wm_valid.specs.Valid.{IsInit}

-- q has a state more at its end than p
module _ (m : Module) (starts : List Start) (events : ℕ) (p q : Progress) (same_finished : q.finished ≡ p.finished) (same_met : q.met ≡ p.met) (added : State) (pushed : q.work.items ≡ p.work.items ++ added ∷ []) where
  pub pushed_more : IsMore events p q
  pushed_more = record {
    work = λ i s at. (i, ap (λ ss. slice_get ss i) pushed ∙ kept_pushed p.work.items added i s at);
    finished = λ i f at. (i, ap (λ fs. slice_get fs.items i) same_finished ∙ at);
    met = λ log why. subst (λ b. IsExcused events b log) (sym same_met) why;
  }

  pub pushed_progress : IsProgress m starts p → IsState starts added → IsNoted m added → IsProgress m starts q
  pushed_progress progress fine knows = record {
    states = subst (All (IsState starts)) (sym pushed) (all_pushed (IsState starts) p.work.items added progress.states fine);
    noted = subst (All (IsNoted m)) (sym pushed) (all_pushed (IsNoted m) p.work.items added progress.noted knows);
    found = subst (λ fs. All (IsFound m starts) fs.items) (sym same_finished) progress.found;
    apart = subst (λ fs. AreApart fs.items) (sym same_finished) progress.apart;
  }

  pub pushed_left : (x : LoggedRun) → GoesOn x added → Covers events q x
  pushed_left x on = left (length p.work.items) added (ap (λ ss. slice_get ss (length p.work.items)) pushed ∙ last_pushed p.work.items added) on

-- a state that is like a child is one
alike_child : (k : ℕ) (e : Event) (s child added : State) → IsChild k e s child → IsAlike child added → IsChild k e s added
alike_child k e s child added is alike = record {
  log = alike.log ∙ is.log;
  arrived = alike.arrived ∙ is.arrived;
  marks = λ i n at. is.marks i n (ap (λ ms. slice_get ms i) (sym alike.marks) ∙ at);
}

alike_noted : (m : Module) (child added : State) → IsNoted m child → IsAlike child added → IsNoted m added
alike_noted m child added noted alike = record {
  nexts = λ k t next at_t at_next. noted.nexts k t next (ap (λ ts. slice_get ts k) (sym alike.log) ∙ at_t) (ap (λ ns. slice_get ns k) (sym alike.known) ∙ at_next);
  past = λ initial is. knows_too initial child added alike.log alike.arrived alike.pasts (noted.past initial is);
}

-- what is noted of a child
pub made_noted : (m : Module) (starts : List Start) (initial : List ℕ) (nexts : List Next) (k : ℕ) (e : Event) (s child : State) (t : ThreadLog) (at_t : slice_get s.log k ≡ Some t) → key_of e ≡ next_key k t
    → IsState starts s → IsMade initial nexts k e s child → IsNoted m s → AreNexts m s.log nexts → IsInit m initial → IsNoted m child
made_noted m starts initial nexts k e s child t at_t named fine made noted are is_init = record {
  nexts = made.known m are;
  past = λ other is_other.
      let same : initial ≡ other = one_init m initial other is_init is_other in
      subst (λ i. KnowsPast i child) same (knows_child s k t at_t e named starts fine child made.is_child initial (made.finds (noted.past initial is_init)));
}

-- what is noted of the state that waits
pub marked_noted : (m : Module) (s marked : State) → IsNoted m s → marked.log ≡ s.log → marked.arrived ≡ s.arrived → marked.pasts ≡ s.pasts → KnowsNexts m marked → IsNoted m marked
marked_noted m s marked noted same_log same_arrived same_pasts knows = record {
  nexts = knows;
  past = λ initial is. knows_too initial s marked same_log same_arrived same_pasts (noted.past initial is);
}

-- x reads r next in thread k, and the state has the events that wrote its bytes
pub record ReadsNext (x : LoggedRun) (s : State) (on : GoesOn x s) (k : ℕ) (t : ThreadLog) (at : slice_get s.log k ≡ Some t) (op : OpFields) (r : ℕ) : Type 0 where
  pub whole : ThreadLog
  pub is_whole : slice_get x.log k ≡ Some whole
  pub made : slice_get whole.events (length t.events) ≡ Some (event_made (record { thread = k; number = length t.events }) op r)
  pub has : HasWriters x s on k t at

-- what is kept from p to q, where the first n values were read
pub record ReadSoFar (m : Module) (starts : List Start) (events : ℕ) (s : State) (k : ℕ) (op : OpFields) (p q : Progress) (values : List ℕ) (n : ℕ) : Type 0 where
  pub progress : IsProgress m starts q
  pub keeps : Keeps m starts events p q
  pub reads : (i r : ℕ) → i < n → slice_get values i ≡ Some r → (x : LoggedRun) → IsExecutionOf m starts x → IsCausal (execution x) → (on : GoesOn x s) (t : ThreadLog) (at : slice_get s.log k ≡ Some t)
      → ReadsNext x s on k t at op r → Covers events q x

module _ (m : Module) (starts : List Start) (events : ℕ) (s : State) (fine : IsState starts s) (k : ℕ) (op : OpFields) (p : Progress) (values : List ℕ) where
  pub read_none : IsProgress m starts p → ReadSoFar m starts events s k op p p values 0
  read_none progress = record {
    progress = progress;
    keeps = λ x is causal covers. covers;
    reads = λ i r lt. absurd (omega (arith, lt));
  }

  -- an execution that reads this value goes on from the child
  goes_on_child : (r : ℕ) (t : ThreadLog) → slice_get s.log k ≡ Some t → (child : State) → IsChild k (event_made (record { thread = k; number = length t.events }) op r) s child
      → (x : LoggedRun) (on : GoesOn x s) (u : ThreadLog) (at : slice_get s.log k ≡ Some u) → ReadsNext x s on k u at op r → GoesOn x child
  goes_on_child r t at_t child is_child x on u at reads =
      let same : t ≡ u = same_Some t u (sym at_t ∙ at) in
      goes_on x s on k u at reads.whole reads.is_whole (event_made (record { thread = k; number = length u.events }) op r) reads.made refl starts fine child
      (subst (λ (v : ThreadLog). IsChild k (event_made (record { thread = k; number = length v.events }) op r) s child) same is_child) reads.has

  -- after the next value
  module _ (q next : Progress) (n r : ℕ) (at_r : slice_get values n ≡ Some r) (so : ReadSoFar m starts events s k op p q values n) (same_finished : next.finished ≡ q.finished) (same_met : next.met ≡ q.met)
      (t : ThreadLog) (at_t : slice_get s.log k ≡ Some t) (child : State) (is_child : IsChild k (event_made (record { thread = k; number = length t.events }) op r) s child) where
    -- an execution that reads one of the values
    module _ (more : IsMore events q next) (here : (x : LoggedRun) → IsExecutionOf m starts x → GoesOn x s → GoesOn x child → Covers events next x) where
      reads_one_more : (i v : ℕ) → i < n + 1 → slice_get values i ≡ Some v → (x : LoggedRun) → IsExecutionOf m starts x → IsCausal (execution x) → (on : GoesOn x s) (u : ThreadLog) (at : slice_get s.log k ≡ Some u)
          → ReadsNext x s on k u at op v → Covers events next x
      reads_one_more i v lt at_v x is causal on u at =
          one_more_any (λ j w. ReadsNext x s on k u at op w → Covers events next x) values n
          (λ w at_w reads. here x is on (goes_on_child r t at_t child is_child x on u at (subst (ReadsNext x s on k u at op) (same_Some w r (sym at_w ∙ at_r)) reads)))
          (λ j w below at_w reads. covers_more events q next more x (so.reads j w below at_w x is causal on u at reads)) i v lt at_v

    read_pushed : IsNoted m child → next.work.items ≡ q.work.items ++ child ∷ [] → ReadSoFar m starts events s k op p next values (n + 1)
    read_pushed knows pushed = record {
      progress = pushed_progress m starts events q next same_finished same_met child pushed so.progress
          (is_state s k t at_t (event_made (record { thread = k; number = length t.events }) op r) refl starts fine child is_child) knows;
      keeps = λ x is causal covers. covers_more events q next (pushed_more m starts events q next same_finished same_met child pushed) x (so.keeps x is causal covers);
      reads = reads_one_more (pushed_more m starts events q next same_finished same_met child pushed) (λ x is _ on. pushed_left m starts events q next same_finished same_met child pushed x on);
    }

    same_more : next.work.items ≡ q.work.items → IsMore events q next
    same_more same_work = record {
      work = λ i v at. (i, ap (λ ss. slice_get ss i) same_work ∙ at);
      finished = λ i f at. (i, ap (λ fs. slice_get fs.items i) same_finished ∙ at);
      met = λ log why. subst (λ b. IsExcused events b log) (sym same_met) why;
    }

    -- no execution goes on from the state and from the child
    read_dropped : next.work.items ≡ q.work.items → ((x : LoggedRun) → IsExecutionOf m starts x → GoesOn x s → GoesOn x child → ⊥) → ReadSoFar m starts events s k op p next values (n + 1)
    read_dropped same_work none = record {
      progress = record {
        states = subst (All (IsState starts)) (sym same_work) so.progress.states;
        noted = subst (All (IsNoted m)) (sym same_work) so.progress.noted;
        found = subst (λ fs. All (IsFound m starts) fs.items) (sym same_finished) so.progress.found;
        apart = subst (λ fs. AreApart fs.items) (sym same_finished) so.progress.apart;
      };
      keeps = λ x is causal covers. covers_more events q next (same_more same_work) x (so.keeps x is causal covers);
      reads = reads_one_more (same_more same_work) (λ x is on on_child. absurd (none x is on on_child));
    }

    read_pruned : next.work.items ≡ q.work.items → (initial : List ℕ) → IsInit m initial → ((w : Witness) → IsAllowedWith child.log initial w → LooksBack (execution (run_with child.log initial w)) child.arrived → ⊥) → ReadSoFar m starts events s k op p next values (n + 1)
    read_pruned same_work initial is_init none = read_dropped same_work (λ x is _ on.
        let w = permitted m starts x child is (is_state s k t at_t (event_made (record { thread = k; number = length t.events }) op r) refl starts fine child is_child) on in
        let same : x.initial ≡ initial = one_init m x.initial initial is.initial is_init in
        none w.0 (subst (λ i. IsAllowedWith child.log i w.0) same w.1) (subst (λ i. LooksBack (execution (run_with child.log i w.0)) child.arrived) same w.2))

  -- whatever the hint of the state that is added
  read_more : (q next : Progress) (n r : ℕ) (at_r : slice_get values n ≡ Some r) → ReadSoFar m starts events s k op p q values n → next.finished ≡ q.finished → next.met ≡ q.met
      → (t : ThreadLog) (at_t : slice_get s.log k ≡ Some t) (child : State) → IsChild k (event_made (record { thread = k; number = length t.events }) op r) s child
      → IsNoted m child → (initial : List ℕ) → IsInit m initial → AddsPermitted initial child q.work.items next.work.items → ReadSoFar m starts events s k op p next values (n + 1)
  read_more q next n r at_r so same_finished same_met t at_t child is_child noted initial is_init (inl (added, alike, pushed)) =
      read_pushed q next n r at_r so same_finished same_met t at_t added (alike_child k (event_made (record { thread = k; number = length t.events }) op r) s child added is_child alike) (alike_noted m child added noted alike) pushed
  read_more q next n r at_r so same_finished same_met t at_t child is_child noted initial is_init (inr none) =
      read_pruned q next n r at_r so same_finished same_met t at_t child is_child none.0 initial is_init none.1

  -- whether it is added or not
  pub read_any : (q next : Progress) (n r : ℕ) (at_r : slice_get values n ≡ Some r) → ReadSoFar m starts events s k op p q values n → next.finished ≡ q.finished → next.met ≡ q.met
      → (t : ThreadLog) (at_t : slice_get s.log k ≡ Some t) → IsNoted m s → (nexts : List Next) → AreNexts m s.log nexts → (initial : List ℕ) → IsInit m initial
      → AddsRead initial nexts k (event_made (record { thread = k; number = length t.events }) op r) s q.work.items next.work.items → ReadSoFar m starts events s k op p next values (n + 1)
  read_any q next n r at_r so same_finished same_met t at_t noted nexts are initial is_init (inl (child, made, added)) =
      read_more q next n r at_r so same_finished same_met t at_t child made.is_child (made_noted m starts initial nexts k (event_made (record { thread = k; number = length t.events }) op r) s child t at_t refl fine made noted are is_init) initial is_init added
  read_any q next n r at_r so same_finished same_met t at_t noted nexts are initial is_init (inr (same_work, none)) =
      read_dropped q next n r at_r so same_finished same_met t at_t child is_child same_work (λ x is on on_child.
      forbidden s k t at_t e refl starts fine child is_child initial (none (noted.past initial is_init)) m x (is_state s k t at_t e refl starts fine child is_child) is (one_init m x.initial initial is.initial is_init) on on_child)
    where
      e : Event
      e = event_made (record { thread = k; number = length t.events }) op r

      child : State
      child = record { log = extended k e s.log; arrived = s.arrived ++ key_of e ∷ []; marks = []; pasts = []; known = []; hint = None }

      is_child : IsChild k e s child
      is_child = record { log = refl; arrived = refl; marks = λ i mark at. absurd (none-some mark at) }

  -- after the last value, where what goes on from the state in which the thread is marked is covered
  pub reads_all : (q : Progress) (n : ℕ) → length values ≤ n → ReadSoFar m starts events s k op p q values n → kind_finds op.kind ≡ true → MakesNext m events s.log k op
      → (initial : List ℕ) → IsInit m initial → (mark : Option ℕ) → ((c : ℕ) → mark ≡ Some c → slice_get s.marks k ≡ Some (Some c)) → ReadsAll s initial op mark values
      → (waiting : State) → waiting.log ≡ s.log → waiting.arrived ≡ s.arrived → IsMarked k (Some (length s.arrived)) s.marks waiting.marks
      → (next : Progress) → IsMore events q next → IsProgress m starts next → ((x : LoggedRun) → IsExecutionOf m starts x → IsCausal (execution x) → GoesOn x waiting → Covers events next x) → Extends m starts events s p next
  reads_all q n all so finds makes initial is_init mark marked each waiting same_log same_arrived marks next more progress waits = record {
    progress = progress;
    keeps = λ x is causal covers. covers_more events q next more x (so.keeps x is causal covers);
    takes = λ x is causal on. takes x is causal on (has_or_lacks x s on k makes.thread makes.is_thread);
  }
    where
      takes : (x : LoggedRun) → IsExecutionOf m starts x → IsCausal (execution x) → (on : GoesOn x s) → HasWriters x s on k makes.thread makes.is_thread ⊎ LacksWriter x s on k makes.thread makes.is_thread → Covers events next x
      takes x is causal on (inr lacks) = waits x is causal (goes_on_marked x s on k makes.thread makes.is_thread starts fine waiting same_log same_arrived marks lacks)
      takes x is causal on (inl has) =
          let u = whole_thread s.log x.log on.beginning k makes.thread makes.is_thread in
          let made : HasNextBy k makes.thread u.0 op = makes.next u.0 (ended_run m starts x s.log is on.beginning k makes.thread u.0 makes.is_thread u.1) in
          let same : initial ≡ x.initial = one_init m initial x.initial is_init is.initial in
          let read = has_value m starts x s is fine on k makes.thread u.0 op makes.is_thread u.1 finds made mark (λ c counts. on.marks k c (marked c counts)) has values (subst (λ i. ReadsAll s i op mark values) same each) in
          let within = slice_get_within values read.0 made.0 read.1 in
          covers_more events q next more x
          (so.reads read.0 made.0 (omega (arith, all, within)) read.1 x is causal on makes.thread makes.is_thread (record { whole = u.0; is_whole = u.1; made = made.2; has = has }))
