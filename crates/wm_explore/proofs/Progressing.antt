-- What a step of an exploration keeps, and what it takes.
use Rattle.std.proofs.Common.{◌≡◌, ℕ, suc, List, [], ◌∷◌, ◌++◌, length, get_or, inl, inr, Some, refl, sym, ap, subst, ◌∙◌, arith}
use Rattle.std.specs.Prelude.{◌≢◌, ◌⊎◌, All, slice_get}
use Rattle.std.proofs.lemmas.Option.{get_or_from_slice_get, slice_get-get_or, slice_get_within}
use Rattle.wm_ast.specs.declared.module.Module.{Module}
use Rattle.wm_event.specs.LoggedRun.{LoggedRun, execution}
use Rattle.wm_event.specs.declared.log.Start.{Start}
use Rattle.wm_event.specs.declared.log.ThreadLog.{ThreadLog}
use Rattle.wm_event.specs.declared.witness.Witness.{Witness}
use Rattle.wm_event.specs.Rules.{IsValid}
use Rattle.wm_event.specs.Shape.{IsWellShaped}
use Rattle.wm_replay.specs.Complete.{IsCompletion, IsWithoutRun}
use Rattle.wm_replay.specs.declared.answer.ReplayAnswer.{ReplayAnswer}
use Rattle.wm_replay.specs.declared.continuing.Next.{Next}
use Rattle.wm_explore.specs.Bounds.{IsExcused}
use Rattle.wm_explore.specs.Executions.{IsCausal, IsExecutionOf, IsFinished, ends_of, starts_of}
use Rattle.wm_explore.specs.Judging.{IsAllowedWith, LooksBack, run_with}
use Rattle.wm_explore.specs.Search.{AreApart, Covers, EndsFound, Extends, IsFound, IsProgress, Lists, Takes}
use Rattle.wm_explore.specs.Search.Covers.{left, listed, excused}
use Rattle.wm_explore.specs.Known.{IsNoted}
use Rattle.wm_explore.specs.States.{GoesOn, IsState}
use Rattle.wm_explore.specs.Turns.{AreNexts, EachEndsIn}
use Rattle.wm_explore.specs.declared.exploration.Finished.{Finished}
use Rattle.wm_explore.specs.declared.search.Progress.{Progress}
use Rattle.wm_explore.specs.declared.state.State.{State}
use Rattle.wm_explore.proofs.Alike.{allowed_too, each_alike, events_of, holds_too, same_events}
use Rattle.wm_explore.proofs.Finishing.{completed_finished, ends_so, has_run, same_ends_too, same_events_too}
use Rattle.wm_explore.proofs.Lists.{at_pushed, kept_pushed, last_pushed}
use Rattle.wm_explore.proofs.Timing.{is_causal}
use Rattle.wm_valid.proofs.Initial.{one_init}
use Rattle.wm_valid.specs.Valid.{IsInit}

-- ---- lists

-- what holds of each item by place holds of each item
pub all_at : {X : Type 0} (P : X → Type 0) (xs : List X) → ((i : ℕ) (x : X) → slice_get xs i ≡ Some x → P x) → All P xs
all_at P xs each i d lt = each i (get_or xs i d) (slice_get-get_or xs i d lt)

pub at_all : {X : Type 0} (P : X → Type 0) (xs : List X) → All P xs → (i : ℕ) (x : X) → slice_get xs i ≡ Some x → P x
at_all P xs all i x is = subst P (get_or_from_slice_get xs i x x is) (all i x (slice_get_within xs i x is))

pub all_pushed : {X : Type 0} (P : X → Type 0) (xs : List X) (x : X) → All P xs → P x → All P (xs ++ x ∷ [])
all_pushed {X} P xs x all holds = all_at P (xs ++ x ∷ []) (λ i y is. by i y (at_pushed xs x i y is))
  where
    by : (i : ℕ) (y : X) → ((i ≡ length xs) × (y ≡ x)) ⊎ (slice_get xs i ≡ Some y) → P y
    by i y (inl last) = subst P (sym last.1) holds
    by i y (inr old) = at_all P xs all i y old

-- ---- more that is left, found or excused

pub record IsMore (events : ℕ) (p q : Progress) : Type 0 where
  pub work : (i : ℕ) (s : State) → slice_get p.work.items i ≡ Some s → (j : ℕ) × (slice_get q.work.items j ≡ Some s)
  pub finished : (i : ℕ) (f : Finished) → slice_get p.finished.items i ≡ Some f → (j : ℕ) × (slice_get q.finished.items j ≡ Some f)
  pub met : (log : List ThreadLog) → IsExcused events p.met log → IsExcused events q.met log

pub covers_more : (events : ℕ) (p q : Progress) → IsMore events p q → (x : LoggedRun) → Covers events p x → Covers events q x
covers_more events p q more x (left i s at on) = let j = more.work i s at in left j.0 s j.1 on
covers_more events p q more x (listed (i, f, at, ends)) = let j = more.finished i f at in listed (j.0, f, j.1, ends)
covers_more events p q more x (excused why) = excused (more.met x.log why)

pub same_more : (events : ℕ) (p : Progress) → IsMore events p p
same_more events p = record { work = λ i s at. (i, at); finished = λ i f at. (i, at); met = λ log why. why }

module _ (m : Module) (starts : List Start) (events : ℕ) (s : State) where
  -- a step that leaves what is left, and takes the state
  pub extends : (p q : Progress) → IsProgress m starts q → IsMore events p q → Takes m starts events s q → Extends m starts events s p q
  extends p q progress more takes = record { progress = progress; keeps = λ x is causal covers. covers_more events p q more x covers; takes = takes }

  module _ (fine : IsState starts s) (p : Progress) (progress : IsProgress m starts p) (ends : EachEndsIn m s.log) where
    pub without_run : (answer : ReplayAnswer) → IsWithoutRun m s.log answer → Extends m starts events s p p
    without_run answer none = extends p p progress (same_more events p) (λ x is causal on. absurd (has_run m starts x s is on ends answer none))

    -- an execution with the ends of these threads was found
    pub found_so : (nexts : List Next) → AreNexts m s.log nexts → EndsFound p.finished.items nexts → Extends m starts events s p p
    found_so nexts are (i, f, at, so) = extends p p progress (same_more events p) (λ x is causal on. listed (i, f, at, ends_so m starts x s is on ends nexts are f.log so))

    module _ (completed : List ThreadLog) (completion : IsCompletion m s.log completed) where
      pub unfinished : (IsFinished completed → ⊥) → Extends m starts events s p p
      unfinished not = extends p p progress (same_more events p) (λ x is causal on. absurd (not (completed_finished m starts x s is on ends completed completion)))

      pub found_before : Lists p.finished.items (ends_of completed) → Extends m starts events s p p
      found_before lists = extends p p progress (same_more events p) (λ x is causal on.
          listed (lists.0, lists.1, lists.2, lists.3 ∙ same_ends_too m starts x s is on ends completed completion))

      -- what completes the log has its events
      alike_here : events_of completed ≡ events_of s.log
      alike_here = each_alike completed s.log completion.count (λ k c t at_c at_t. (completion.threads k t c at_t at_c).events)

      started_too : starts_of completed ≡ starts
      started_too = same_starts completed s.log completion.count (λ k c t at_c at_t. (completion.threads k t c at_t at_c).start) ∙ fine.started
        where
          same_starts : (cs ts : List ThreadLog) → length cs ≡ length ts → ((k : ℕ) (c t : ThreadLog) → slice_get cs k ≡ Some c → slice_get ts k ≡ Some t → c.start ≡ t.start) → starts_of cs ≡ starts_of ts
          same_starts [] [] count each = refl
          same_starts [] (t ∷ ts) count each = absurd (omega (arith, count))
          same_starts (c ∷ cs) [] count each = absurd (omega (arith, count))
          same_starts (c ∷ cs) (t ∷ ts) count each =
              ap (λ (b : Start). b ∷ starts_of cs) (each 0 c t refl refl) ∙ ap (λ (bs : List Start). t.start ∷ bs) (same_starts cs ts (omega (arith, count)) (λ k. each (suc k)))

      module _ (initial : List ℕ) (is_init : IsInit m initial) where
        -- no witness makes it valid
        pub never : ((w : Witness) → IsAllowedWith completed initial w → LooksBack (execution (run_with completed initial w)) s.arrived → ⊥) → Extends m starts events s p p
        never none = extends p p progress (same_more events p) (λ x is causal on.
            let same : x.initial ≡ initial = one_init m x.initial initial is.initial is_init in
            let alike = same_events_too m starts x s is on ends completed completion in
            absurd (none x.witness
            (subst (λ i. IsAllowedWith completed i x.witness) same (allowed_too x.log completed alike x.initial x.witness (is.shaped, is.valid)))
            (subst (λ i. LooksBack (execution (run_with completed i x.witness)) s.arrived) same (holds_too x.log completed alike (λ y. LooksBack y s.arrived) x.initial x.witness on.back))))

        -- with this witness it is
        module _ (w : Witness) (allowed : IsAllowedWith completed initial w) (back : LooksBack (execution (run_with completed initial w)) s.arrived) (finished : IsFinished completed) (new : Lists p.finished.items (ends_of completed) → ⊥) (q : Progress) (same_work : q.work.items ≡ p.work.items)
            (pushed : q.finished.items ≡ p.finished.items ++ record { log = completed; witness = w } ∷ []) (same_met : q.met ≡ p.met) where
          abbrev one : Finished
          one = record { log = completed; witness = w }

          is_found : IsFound m starts one
          is_found other is_other =
              let same : initial ≡ other = one_init m initial other is_init is_other in (
                record {
                  initial = is_other;
                  started = started_too;
                  runs = completion.are_runs;
                  finished = finished;
                  shaped = subst (λ i. IsWellShaped (run_with completed i w)) same allowed.0;
                  valid = subst (λ i. IsValid (execution (run_with completed i w))) same allowed.1;
                },
                subst (λ i. IsCausal (execution (run_with completed i w))) same
                    (is_causal starts s fine (run_with completed initial w) (same_events completed s.log alike_here) allowed.0 back),
              )

          apart : AreApart (p.finished.items ++ one ∷ [])
          apart i j f g lt at_f at_g = by (at_pushed p.finished.items one i f at_f) (at_pushed p.finished.items one j g at_g)
            where
              by : ((i ≡ length p.finished.items) × (f ≡ one)) ⊎ (slice_get p.finished.items i ≡ Some f) → ((j ≡ length p.finished.items) × (g ≡ one)) ⊎ (slice_get p.finished.items j ≡ Some g) → ends_of f.log ≢ ends_of g.log
              by (inr old_f) (inr old_g) = progress.apart i j f g lt old_f old_g
              by (inr old_f) (inl last_g) = λ same. new (i, f, old_f, same ∙ ap (λ (h : Finished). ends_of h.log) last_g.1)
              by (inl last_f) (inl last_g) = absurd (let a = last_f.0 in let b = last_g.0 in omega (arith, lt, a, b))
              by (inl last_f) (inr old_g) = absurd (let a = last_f.0 in let b = slice_get_within p.finished.items j g old_g in omega (arith, lt, a, b))

          pub found : Extends m starts events s p q
          found =
              extends p q
              (record {
                states = subst (All (IsState starts)) (sym same_work) progress.states;
                noted = subst (All (IsNoted m)) (sym same_work) progress.noted;
                found = subst (All (IsFound m starts)) (sym pushed) (all_pushed (IsFound m starts) p.finished.items one progress.found is_found);
                apart = subst AreApart (sym pushed) apart;
              })
              (record {
                work = λ i t at. (i, ap (λ vs. slice_get vs i) same_work ∙ at);
                finished = λ i f at. (i, ap (λ fs. slice_get fs i) pushed ∙ kept_pushed p.finished.items one i f at);
                met = λ log why. subst (λ b. IsExcused events b log) (sym same_met) why;
              })
              (λ x is causal on. listed (length p.finished.items, one, ap (λ fs. slice_get fs (length p.finished.items)) pushed ∙ last_pushed p.finished.items one, same_ends_too m starts x s is on ends completed completion))

  -- a bound that excuses each execution that goes on from the state
  pub bounded : (p q : Progress) → IsProgress m starts p → q.work.items ≡ p.work.items → q.finished.items ≡ p.finished.items → ((log : List ThreadLog) → IsExcused events p.met log → IsExcused events q.met log)
      → ((x : LoggedRun) → IsExecutionOf m starts x → GoesOn x s → IsExcused events q.met x.log) → Extends m starts events s p q
  bounded p q progress same_work same_finished kept met =
      extends p q
      (record {
        states = subst (All (IsState starts)) (sym same_work) progress.states;
        noted = subst (All (IsNoted m)) (sym same_work) progress.noted;
        found = subst (All (IsFound m starts)) (sym same_finished) progress.found;
        apart = subst AreApart (sym same_finished) progress.apart;
      })
      (record {
        work = λ i t at. (i, ap (λ vs. slice_get vs i) same_work ∙ at);
        finished = λ i f at. (i, ap (λ vs. slice_get vs i) same_finished ∙ at);
        met = kept;
      })
      (λ x is causal on. excused (met x is on))
