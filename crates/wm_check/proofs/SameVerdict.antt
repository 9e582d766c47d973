-- What two verdicts on the same bytes have in common.
use Rattle.std.proofs.Common.{◌≡◌, ℕ, ◌<◌, ◌≤◌, ◌⊎◌, inl, inr, List, Result, Ok, Err, refl, sym, ap, subst, ◌∙◌, arith}
use Rattle.std.specs.Prelude.{◌≢◌, slice_get}
use Rattle.std.proofs.lemmas.Bool.{cases_lt}
use Rattle.std.proofs.lemmas.Option.{same_Some}
use Rattle.wm_ast.specs.declared.module.Module.{Module}
use Rattle.wm_decode.specs.declared.fault.DecodeFault.{DecodeFault}
use Rattle.wm_event.specs.declared.log.ThreadLog.{ThreadLog}
use Rattle.wm_event.specs.declared.rule.RuleFault.{RuleFault}
use Rattle.wm_event.specs.declared.shape_fault.ShapeFault.{ShapeFault}
use Rattle.wm_event.specs.Faults.{Breaks, rank}
use Rattle.wm_event.specs.First.{IsFirst}
use Rattle.wm_event.specs.LoggedRun.{LoggedRun, execution}
use Rattle.wm_event.specs.Shape.{Misshapes, shape_rank}
use Rattle.wm_logfile.specs.declared.fault.DocFault.{DocFault}
use Rattle.wm_machine.specs.declared.fault.StartFault.{StartFault}
use Rattle.wm_machine.specs.Term.{Config}
use Rattle.wm_replay.specs.declared.answer.Place.{Place}
use Rattle.wm_replay.specs.declared.answer.ReplayAnswer.{ReplayAnswer}
use Rattle.wm_replay.specs.declared.answer.ReplayAnswer.TheVariants as replay
use Rattle.wm_replay.specs.Comparison.{IsFirstOther, Replays}
use Rattle.wm_replay.specs.Replay.{DiffersAt, access, end, left_over, start_of}
use Rattle.wm_valid.specs.Valid.{Valid}
use Rattle.wm_check.specs.declared.verdict.Breach.{Breach}
use Rattle.wm_check.specs.declared.verdict.Breach.TheVariants as breach
use Rattle.wm_check.specs.declared.verdict.Certificate.{Certificate}
use Rattle.wm_check.specs.declared.verdict.Refusal.{Refusal}
use Rattle.wm_check.specs.declared.verdict.Refusal.TheVariants as refusal
use Rattle.wm_check.specs.declared.verdict.Verdict.{Verdict}
use Rattle.wm_check.specs.declared.verdict.Verdict.TheVariants.{Allowed, Refused, Broken}
use Rattle.wm_check.specs.Alone.{IsPermitted}
use Rattle.wm_check.specs.Run.{IsCandidateOf, IsModuleOf}
use Rattle.wm_check.specs.SameVerdict.{IsExact, part_of, status_of}
use Rattle.wm_check.specs.Verdicts.{IsAllowed, IsBrokenBy, IsForbidden, IsInvalid, IsMisshapen, IsNoModule, IsNoRun, IsRefusedFor, Says}
use Rattle.wm_check.proofs.Alone.{AreSpelledOnce, counted, no_replay_fault, none_broken, none_refused, one_module, one_run}
use Rattle.wm_check.proofs.FirstFaults.{one_rule_fault, one_shape_fault}
use Rattle.wm_check.proofs.OnePlace.{one_place}
use Rattle.wm_check.proofs.SameRefusal.{same_decode, same_document}

-- ---- what a verdict rests on

permitted : (mb db : List ℕ) (certificate : Certificate) → (says : IsAllowed mb db certificate) → IsPermitted mb db says.«module» says.run
permitted mb db certificate says = record { candidate = says.candidate; threads_are_runs = says.threads_are_runs; execution_is_valid = says.execution_is_valid }

record IsOfCandidate (mb db : List ℕ) : Type 0 where
  «module» : Module
  run : LoggedRun
  candidate : IsCandidateOf mb db «module» run

of_breach : (mb db : List ℕ) (reason : Breach) → IsBrokenBy mb db reason → IsOfCandidate mb db
of_breach mb db (breach.Replay answer) says = record { «module» = says.«module»; run = says.run; candidate = says.candidate }
of_breach mb db (breach.Rule fault) says = record { «module» = says.«module»; run = says.run; candidate = says.candidate }

module _ (once : AreSpelledOnce) (mb db : List ℕ) where
  not_allowed_and_refused : (certificate : Certificate) (reason : Refusal) → IsAllowed mb db certificate → IsRefusedFor mb db reason → ⊥
  not_allowed_and_refused certificate reason allowed refused = none_refused once mb db allowed.«module» allowed.run reason allowed.candidate refused

  not_allowed_and_broken : (certificate : Certificate) (reason : Breach) → IsAllowed mb db certificate → IsBrokenBy mb db reason → ⊥
  not_allowed_and_broken certificate reason allowed broken = none_broken once mb db allowed.«module» allowed.run reason (permitted mb db certificate allowed) broken

  not_broken_and_refused : (reason : Breach) (refusal : Refusal) → IsBrokenBy mb db reason → IsRefusedFor mb db refusal → ⊥
  not_broken_and_refused reason refusal broken refused =
      let is = of_breach mb db reason broken in
      none_refused once mb db is.«module» is.run refusal is.candidate refused

  -- ---- one status

  pub one_status : (verdict other : Verdict) → Says mb db verdict → Says mb db other → status_of verdict ≡ status_of other
  one_status (Allowed a) (Allowed b) first second = refl
  one_status (Allowed a) (Refused r) first second = absurd (not_allowed_and_refused a r first second)
  one_status (Allowed a) (Broken r) first second = absurd (not_allowed_and_broken a r first second)
  one_status (Refused r) (Allowed a) first second = absurd (not_allowed_and_refused a r second first)
  one_status (Refused r) (Refused s) first second = refl
  one_status (Refused r) (Broken s) first second = absurd (not_broken_and_refused s r second first)
  one_status (Broken r) (Allowed a) first second = absurd (not_allowed_and_broken a r second first)
  one_status (Broken r) (Refused s) first second = absurd (not_broken_and_refused r s first second)
  one_status (Broken r) (Broken s) first second = refl

  -- ---- one part

  not_decode : (fault : _) (m : Module) → IsRefusedFor mb db (refusal.Decode fault) → IsModuleOf mb m → ⊥
  not_decode fault m refused is = refused.no_module m is.spelled

  not_valid : (fault : _) (m : Module) → IsInvalid mb fault → IsModuleOf mb m → ⊥
  not_valid fault m refused is = refused.invalid (subst Valid (one_module once mb m refused.«module» is.spelled refused.spelled) is.valid)

  pub one_part : (reason other : Refusal) → IsRefusedFor mb db reason → IsRefusedFor mb db other → part_of reason ≡ part_of other
  one_part (refusal.Decode f) (refusal.Decode g) first second = refl
  one_part (refusal.Decode f) (refusal.Valid g) first second = absurd (first.no_module second.«module» second.spelled)
  one_part (refusal.Decode f) (refusal.Document g) first second = absurd (not_decode f second.0.0 first second.0.1)
  one_part (refusal.Decode f) (refusal.Shape g) first second = absurd (not_decode f second.«module» first second.is_run.modules)
  one_part (refusal.Valid f) (refusal.Decode g) first second = absurd (second.no_module first.«module» first.spelled)
  one_part (refusal.Valid f) (refusal.Valid g) first second = refl
  one_part (refusal.Valid f) (refusal.Document g) first second = absurd (not_valid f second.0.0 first second.0.1)
  one_part (refusal.Valid f) (refusal.Shape g) first second = absurd (not_valid f second.«module» first second.is_run.modules)
  one_part (refusal.Document f) (refusal.Decode g) first second = absurd (not_decode g first.0.0 second first.0.1)
  one_part (refusal.Document f) (refusal.Valid g) first second = absurd (not_valid g first.0.0 second first.0.1)
  one_part (refusal.Document f) (refusal.Document g) first second = refl
  one_part (refusal.Document f) (refusal.Shape g) first second = absurd (first.1.no_document second.run.log second.run.witness second.is_run.document)
  one_part (refusal.Shape f) (refusal.Decode g) first second = absurd (not_decode g first.«module» second first.is_run.modules)
  one_part (refusal.Shape f) (refusal.Valid g) first second = absurd (not_valid g first.«module» second first.is_run.modules)
  one_part (refusal.Shape f) (refusal.Document g) first second = absurd (second.1.no_document first.run.log first.run.witness first.is_run.document)
  one_part (refusal.Shape f) (refusal.Shape g) first second = refl

  -- ---- a replay or a rule

  not_replay_and_rule : (answer : ReplayAnswer) (fault : RuleFault) → IsNoRun mb db answer → IsForbidden mb db fault → ⊥
  not_replay_and_rule answer fault first second =
      let same = one_run once mb db first.«module» second.«module» first.run second.run first.candidate.is_run second.candidate.is_run in
      let replays : Replays second.«module» second.run.log answer = subst (λ m. Replays m second.run.log answer) same.0 (subst (λ (r : LoggedRun). Replays first.«module» r.log answer) same.1 first.first) in
      no_replay_fault second.«module» second.run.log answer first.differs second.threads_are_runs replays

first_is : (m : Module) (log : List ThreadLog) (k l : ℕ) (a b : ReplayAnswer) → IsFirstOther m log k a → IsFirstOther m log l b → k < l → ⊥
first_is m log k l a b first second earlier = first.no_run (second.others k first.thread earlier first.is_thread)

same_first : (m : Module) (log : List ThreadLog) (k l : ℕ) (a b : ReplayAnswer) → IsFirstOther m log k a → IsFirstOther m log l b → (k < l) ⊎ (l ≤ k) → (l < k) ⊎ (k ≤ l) → k ≡ l
same_first m log k l a b first second (inl earlier) other = absurd (first_is m log k l a b first second earlier)
same_first m log k l a b first second (inr late) (inl later) = absurd (first_is m log l k b a second first later)
same_first m log k l a b first second (inr late) (inr early) = omega (arith, late, early)

one_first : (m : Module) (log : List ThreadLog) (k l : ℕ) (a b : ReplayAnswer) → IsFirstOther m log k a → IsFirstOther m log l b → k ≡ l
one_first m log k l a b first second = same_first m log k l a b first second (cases_lt k l) (cases_lt l k)

-- a thread that differs somewhere has started
pub started_so : (m : Module) (k : ℕ) (t : ThreadLog) (p : Place) → DiffersAt m k t p → (c : Config) × (start_of m t ≡ Ok c)
started_so m k t p (access reaches before makes missing) = (reaches.start, reaches.is_start)
started_so m k t p (left_over reaches below rests) = (reaches.start, reaches.is_start)
started_so m k t p (end reaches ends) = (reaches.start, reaches.is_start)

pub same_fault : (f g : StartFault) → ◌≡◌ {A = Result Config StartFault} (Err f) (Err g) → f ≡ g
same_fault f g same = cc

pub no_start : (f : StartFault) (c : Config) → ◌≡◌ {A = Result Config StartFault} (Err f) (Ok c) → ⊥
no_start f c same = cc

-- a thread's start is refused for one reason
same_start : (m : Module) (log : List ThreadLog) (k : ℕ) (f : StartFault) (b : ReplayAnswer) → b ≢ replay.Same → Replays m log (replay.StartRefused k f) → Replays m log b → replay.StartRefused k f ≡ b
same_start m log k f replay.Same also first second = absurd (also refl)
same_start m log k f (replay.StartRefused l g) also first second =
    let same = one_first m log k l _ _ first second in
    let thread = same_Some first.thread second.thread (sym first.is_thread ∙ ap (slice_get log) same ∙ second.is_thread) in
    let fault = same_fault f g (sym first.other.1 ∙ ap (start_of m) thread ∙ second.other.1) in
    ap (λ n. replay.StartRefused n f) same ∙ ap (λ h. replay.StartRefused l h) fault
same_start m log k f (replay.Differs l q) also first second =
    let same = one_first m log k l _ _ first second in
    let thread = same_Some first.thread second.thread (sym first.is_thread ∙ ap (slice_get log) same ∙ second.is_thread) in
    let start = started_so m l second.thread q second.other.1 in
    absurd (no_start f start.0 (sym first.other.1 ∙ ap (start_of m) thread ∙ start.1))

-- and a thread differs at one place
same_place : (m : Module) (log : List ThreadLog) (k : ℕ) (p : Place) (b : ReplayAnswer) → b ≢ replay.Same → Replays m log (replay.Differs k p) → Replays m log b → replay.Differs k p ≡ b
same_place m log k p replay.Same also first second = absurd (also refl)
same_place m log k p (replay.StartRefused l g) also first second = sym (same_start m log l g (replay.Differs k p) not_same second first)
  where
    not_same : replay.Differs k p ≢ replay.Same
    not_same is = cc
same_place m log k p (replay.Differs l q) also first second =
    let same = one_first m log k l _ _ first second in
    let thread = same_Some first.thread second.thread (sym first.is_thread ∙ ap (slice_get log) same ∙ second.is_thread) in
    let differs : DiffersAt m l second.thread p = subst (λ t. DiffersAt m l t p) thread (subst (λ n. DiffersAt m n first.thread p) same first.other.1) in
    ap (λ n. replay.Differs n p) same ∙ ap (λ x. replay.Differs l x) (one_place m l second.thread p q differs second.other.1)

module _ (once : AreSpelledOnce) (mb db : List ℕ) where
  -- both answers are about one log
  replays_both : (a b : ReplayAnswer) → (first : IsNoRun mb db a) → (second : IsNoRun mb db b) → Replays second.«module» second.run.log a
  replays_both a b first second =
      let same = one_run once mb db first.«module» second.«module» first.run second.run first.candidate.is_run second.candidate.is_run in
      subst (λ m. Replays m second.run.log a) same.0 (subst (λ (r : LoggedRun). Replays first.«module» r.log a) same.1 first.first)

  -- ---- one exact verdict

  same_certificate : (a b : Certificate) → IsAllowed mb db a → IsAllowed mb db b → a ≡ b
  same_certificate a b first second =
      let one = counted once mb db first.«module» first.run b (permitted mb db a first) second in
      ap (λ n. record { threads = n; events = a.events }) (first.threads ∙ sym one.0) ∙ ap (λ n. record { threads = b.threads; events = n }) (first.events ∙ sym one.1)

  same_shape : (f g : ShapeFault) → IsMisshapen mb db f → IsMisshapen mb db g → f ≡ g
  same_shape f g first second =
      let same = one_run once mb db first.«module» second.«module» first.run second.run first.is_run second.is_run in
      one_shape_fault second.run f g (subst (λ (r : LoggedRun). IsFirst shape_rank (Misshapes r) f) same.1 first.first) second.first

  same_rule : (f g : RuleFault) → IsForbidden mb db f → IsForbidden mb db g → f ≡ g
  same_rule f g first second =
      let same = one_run once mb db first.«module» second.«module» first.run second.run first.candidate.is_run second.candidate.is_run in
      one_rule_fault second.run second.candidate.shape f g (subst (λ (r : LoggedRun). IsFirst (rank (execution r)) (Breaks (execution r)) f) same.1 first.first) second.first

  exact_decode : (f : DecodeFault) (other : Refusal) → IsNoModule mb f → IsRefusedFor mb db other → refusal.Decode f ≡ other
  exact_decode f (refusal.Decode g) first second = ap (λ h. refusal.Decode h) (same_decode mb f g first second)
  exact_decode f (refusal.Valid g) first second = absurd (first.no_module second.«module» second.spelled)
  exact_decode f (refusal.Document g) first second = absurd (not_decode once mb db f second.0.0 first second.0.1)
  exact_decode f (refusal.Shape g) first second = absurd (not_decode once mb db f second.«module» first second.is_run.modules)

  exact_document : (f : DocFault) (other : Refusal) → IsRefusedFor mb db (refusal.Document f) → IsRefusedFor mb db other → refusal.Document f ≡ other
  exact_document f (refusal.Decode g) first second = absurd (not_decode once mb db g first.0.0 second first.0.1)
  exact_document f (refusal.Valid g) first second = absurd (not_valid once mb db g first.0.0 second first.0.1)
  exact_document f (refusal.Document g) first second = ap (λ h. refusal.Document h) (same_document db f g first.1 second.1)
  exact_document f (refusal.Shape g) first second = absurd (first.1.no_document second.run.log second.run.witness second.is_run.document)

  exact_shape : (f : ShapeFault) (other : Refusal) → IsMisshapen mb db f → IsRefusedFor mb db other → refusal.Shape f ≡ other
  exact_shape f (refusal.Decode g) first second = absurd (not_decode once mb db g first.«module» second first.is_run.modules)
  exact_shape f (refusal.Valid g) first second = absurd (not_valid once mb db g first.«module» second first.is_run.modules)
  exact_shape f (refusal.Document g) first second = absurd (second.1.no_document first.run.log first.run.witness first.is_run.document)
  exact_shape f (refusal.Shape g) first second = ap (λ h. refusal.Shape h) (same_shape f g first second)

  same_breach : (reason other : Breach) → IsBrokenBy mb db reason → IsBrokenBy mb db other → reason ≡ other
  same_breach (breach.Replay replay.Same) other first second = absurd (first.differs refl)
  same_breach (breach.Replay (replay.StartRefused k f)) (breach.Replay b) first second =
      ap (λ a. breach.Replay a) (same_start second.«module» second.run.log k f b second.differs (replays_both (replay.StartRefused k f) b first second) second.first)
  same_breach (breach.Replay (replay.StartRefused k f)) (breach.Rule g) first second = absurd (not_replay_and_rule once mb db (replay.StartRefused k f) g first second)
  same_breach (breach.Replay (replay.Differs k p)) (breach.Replay b) first second =
      ap (λ a. breach.Replay a) (same_place second.«module» second.run.log k p b second.differs (replays_both (replay.Differs k p) b first second) second.first)
  same_breach (breach.Replay (replay.Differs k p)) (breach.Rule g) first second = absurd (not_replay_and_rule once mb db (replay.Differs k p) g first second)
  same_breach (breach.Rule f) (breach.Replay b) first second = absurd (not_replay_and_rule once mb db b f second first)
  same_breach (breach.Rule f) (breach.Rule g) first second = ap (λ h. breach.Rule h) (same_rule f g first second)

  pub one_exact : (verdict other : Verdict) → IsExact verdict → Says mb db verdict → Says mb db other → verdict ≡ other
  one_exact (Allowed a) (Allowed b) exact first second = ap (λ c. Allowed c) (same_certificate a b first second)
  one_exact (Allowed a) (Refused r) exact first second = absurd (not_allowed_and_refused once mb db a r first second)
  one_exact (Allowed a) (Broken r) exact first second = absurd (not_allowed_and_broken once mb db a r first second)
  one_exact (Refused (refusal.Decode f)) (Allowed a) exact first second = absurd (not_allowed_and_refused once mb db a (refusal.Decode f) second first)
  one_exact (Refused (refusal.Decode f)) (Refused s) exact first second = ap (λ r. Refused r) (exact_decode f s first second)
  one_exact (Refused (refusal.Decode f)) (Broken s) exact first second = absurd (not_broken_and_refused once mb db s (refusal.Decode f) second first)
  one_exact (Refused (refusal.Valid f)) other exact first second = absurd exact
  one_exact (Refused (refusal.Document f)) (Allowed a) exact first second = absurd (not_allowed_and_refused once mb db a (refusal.Document f) second first)
  one_exact (Refused (refusal.Document f)) (Refused s) exact first second = ap (λ r. Refused r) (exact_document f s first second)
  one_exact (Refused (refusal.Document f)) (Broken s) exact first second = absurd (not_broken_and_refused once mb db s (refusal.Document f) second first)
  one_exact (Refused (refusal.Shape f)) (Allowed a) exact first second = absurd (not_allowed_and_refused once mb db a (refusal.Shape f) second first)
  one_exact (Refused (refusal.Shape f)) (Refused s) exact first second = ap (λ r. Refused r) (exact_shape f s first second)
  one_exact (Refused (refusal.Shape f)) (Broken s) exact first second = absurd (not_broken_and_refused once mb db s (refusal.Shape f) second first)
  one_exact (Broken r) (Allowed a) exact first second = absurd (not_allowed_and_broken once mb db a r second first)
  one_exact (Broken r) (Refused s) exact first second = absurd (not_broken_and_refused once mb db r s first second)
  one_exact (Broken r) (Broken s) exact first second = ap (λ b. Broken b) (same_breach r s first second)
