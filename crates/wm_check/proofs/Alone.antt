-- Bytes whose run is allowed have no other verdict.
use Rattle.std.proofs.Common.{◌≡◌, ℕ, ◌+◌, ◌<◌, ◌≤◌, length, inl, inr, List, [], Option, None, Some, refl, sym, ap, subst, ◌∙◌, arith}
use Rattle.std.specs.Prelude.{◌≢◌}
use Rattle.std.proofs.lemmas.Option.{none-some, same_Some}
use Rattle.serde_json.specs.Data.{Data}
use Rattle.wm_ast.specs.declared.module.Module.{Module}
use Rattle.wm_decode.specs.Bounds.{profile}
use Rattle.wm_decode.specs.Module.{SpellsWithin, spells}
use Rattle.wm_event.specs.declared.event.Event.{Event}
use Rattle.wm_event.specs.declared.event.EventId.{EventId}
use Rattle.wm_event.specs.declared.event.EventId.TheVariants.{At}
use Rattle.wm_event.specs.declared.event.EventKey.{EventKey}
use Rattle.wm_event.specs.declared.log.ThreadLog.{ThreadLog}
use Rattle.wm_event.specs.declared.rule.Rule.{Rule}
use Rattle.wm_event.specs.declared.rule.Rule.TheVariants.{WrittenValues, Order, Coherence, NoTearing, SequentialConsistency}
use Rattle.wm_event.specs.declared.rule.RuleFault.{RuleFault}
use Rattle.wm_event.specs.declared.shape_fault.ShapeFault.{ShapeFault}
use Rattle.wm_event.specs.declared.shape_fault.ShapeFault.TheVariants.{WriterCount, WriterMissing, OrderNotPermutation, RangeOutOfMemory, ValueTooWide, TooManyEvents, OutOfMemory}
use Rattle.wm_event.specs.declared.witness.Witness.{Witness}
use Rattle.wm_event.specs.Byte.{byte_of}
use Rattle.wm_event.specs.Execution.{Execution, byte_by, place}
use Rattle.wm_event.specs.Faults.{BreaksCoherence, BreaksOrder, BreaksRule, BreaksWrittenValues, in_thread, not_written, other_value, reads_future, reads_itself, synchronized, written_between}
use Rattle.wm_event.specs.Log.{IsLog}
use Rattle.wm_event.specs.LoggedRun.{LoggedRun, execution}
use Rattle.wm_event.specs.HappensBefore.{HappensBefore}
use Rattle.wm_event.specs.Rules.{IsValid, KeepsOrder, Writes}
use Rattle.wm_event.specs.Shape.{IsWellShaped, Misshapes, event_count}
use Rattle.wm_logfile.specs.declared.fault.DocFault.TheVariants.{TooLarge}
use Rattle.wm_logfile.specs.Document.{IsDocument}
use Rattle.wm_logfile.specs.DocumentBytes.{IsDocumentOf}
use Rattle.wm_replay.specs.declared.answer.ReplayAnswer.{ReplayAnswer}
use Rattle.wm_replay.specs.declared.answer.ReplayAnswer.TheVariants as replay
use Rattle.wm_replay.specs.Comparison.{Replays}
use Rattle.wm_replay.specs.Replay.{AreRuns}
use Rattle.wm_valid.specs.Valid.{IsInit, Valid}
use Rattle.wm_valid.proofs.Initial.{one_init}
use Rattle.wm_check.specs.declared.verdict.Breach.{Breach}
use Rattle.wm_check.specs.declared.verdict.Breach.TheVariants as breach
use Rattle.wm_check.specs.declared.verdict.Certificate.{Certificate}
use Rattle.wm_check.specs.declared.verdict.Refusal.{Refusal}
use Rattle.wm_check.specs.declared.verdict.Refusal.TheVariants as refusal
use Rattle.wm_check.specs.declared.verdict.Verdict.{Verdict}
use Rattle.wm_check.specs.declared.verdict.Verdict.TheVariants.{Allowed, Refused, Broken}
use Rattle.wm_check.specs.Alone.{Allows, Counts, IsPermitted}
use Rattle.wm_check.specs.Run.{IsCandidateOf, IsModuleOf, IsRunOf}
use Rattle.wm_check.specs.Verdicts.{IsAllowed, IsBrokenBy, IsRefusedFor, Says}

-- ---- what is allowed has no fault

no_shape_fault : (run : LoggedRun) (fault : ShapeFault) → IsWellShaped run → Misshapes run fault → ⊥
no_shape_fault run TooManyEvents good bad = omega (arith, good.few, bad)
no_shape_fault run (WriterCount None) good bad = bad good.counts
no_shape_fault run (RangeOutOfMemory key) good bad = bad.2 (good.good key bad.0 bad.1).in_memory
no_shape_fault run (ValueTooWide key) good bad = bad.2 (good.good key bad.0 bad.1).fits
no_shape_fault run (WriterCount (Some key)) good bad = bad.2 (good.good key bad.0 bad.1).count
no_shape_fault run (WriterMissing key) good bad = bad.2 (good.good key bad.0 bad.1).there
no_shape_fault run OrderNotPermutation good bad = bad good.order
no_shape_fault run OutOfMemory good bad = bad

pub no_replay_fault : (m : Module) (log : List ThreadLog) (answer : ReplayAnswer) → answer ≢ replay.Same → AreRuns m log → Replays m log answer → ⊥
no_replay_fault m log replay.Same differs runs first = differs refl
no_replay_fault m log (replay.StartRefused k fault) differs runs first = first.no_run (runs k first.thread first.is_thread)
no_replay_fault m log (replay.Differs k at) differs runs first = first.no_run (runs k first.thread first.is_thread)

written : (x : Execution) (r : EventKey) (e : Event) (k : ℕ) (w : EventId) (c : ℕ) → w ≢ At r → byte_by x w (e.address + k) ≡ Some (byte_of e.read k) → BreaksWrittenValues x r e k w c → ⊥
written x r e k w c other wrote (reads_itself case is) = other is
written x r e k w c other wrote (not_written case none) = none-some (byte_of e.read k) (sym none ∙ wrote)
written x r e k w c other wrote (other_value case b is not) = not (same_Some b (byte_of e.read k) (sym is ∙ wrote))

ordered : (x : Execution) (r p : EventKey) (k c : ℕ) → KeepsOrder x → place x (At r) ≤ place x (At p) → BreaksOrder x r p k c → ⊥
ordered x r p k c keeps late (in_thread case byte before next) = let earlier = keeps (At p) (At r) ([], inl before) in omega (arith, late, earlier)
ordered x r p k c keeps late (synchronized case reads with) = let earlier = keeps (At p) (At r) ([], inr with) in omega (arith, late, earlier)

coherent : (x : Execution) (r : EventKey) (e : Event) (k : ℕ) (w : EventId) (c : ℕ) (other : Option EventId) → (HappensBefore x (At r) w → ⊥)
    → ((v : EventId) → Writes x v (e.address + k) → HappensBefore x w v → HappensBefore x v (At r) → ⊥) → BreaksCoherence x r e k w c other → ⊥
coherent x r e k w c other past between (reads_future case none before) = past before
coherent x r e k w c other past between (written_between case v is writes first second) = between v writes first second

pub no_rule_fault : (x : Execution) (f : RuleFault) (rule : Rule) → IsValid x → BreaksRule x f rule → ⊥
no_rule_fault x f WrittenValues valid (_, (e, is, reads, breaks)) =
    let keeps = valid.keeps_written_values f.event e f.byte f.writer is reads in
    written x f.event e f.byte f.writer f.case keeps.0 keeps.1 breaks
no_rule_fault x f Order valid (_, (p, _, late, breaks)) = ordered x f.event p f.byte f.case valid.keeps_order late breaks
no_rule_fault x f Coherence valid (e, is, reads, breaks) =
    let keeps = valid.keeps_coherence f.event e f.byte f.writer is reads in
    coherent x f.event e f.byte f.writer f.case f.other keeps.0 keeps.1 breaks
no_rule_fault x f NoTearing valid (_, (v, _, (e, is, reads, breaks))) =
    breaks.two (valid.keeps_no_tearing f.event e is breaks.reader v f.writer ((breaks.earlier.0, breaks.earlier.2), breaks.first) ((f.byte, reads), breaks.second))
no_rule_fault x f SequentialConsistency valid (v, _, (e, is, reads, breaks)) =
    valid.keeps_sequential_consistency f.event e f.byte f.writer is reads v f.case breaks.write breaks.between.0 breaks.between.1 breaks.overtakes

-- ---- bytes spell one run

-- the laws of two crates, for all bytes and all values
pub record AreSpelledOnce : Type 0 where
  pub modules : (bytes : List ℕ) (m n : Module) → spells bytes m → spells bytes n → m ≡ n
  pub pairs : (d : Data) → (log : List ThreadLog) → (other : List ThreadLog) → (v : Witness) → (w : Witness) → IsLog log → IsLog other → IsDocument d log v → IsDocument d other w → (log ≡ other) × (v ≡ w)

pub one_module : AreSpelledOnce → (bytes : List ℕ) (m n : Module) → SpellsWithin bytes m → SpellsWithin bytes n → m ≡ n
one_module once bytes m n first second = once.modules bytes m n (profile.nesting, first.spelled) (profile.nesting, second.spelled)

one_document : AreSpelledOnce → (bytes : List ℕ) (log other : List ThreadLog) (v w : Witness) → IsDocumentOf bytes log v → IsDocumentOf bytes other w → (log ≡ other) × (v ≡ w)
one_document once bytes log other v w first second =
    let value = same_Some first.spelled.value second.spelled.value (sym first.spelled.text ∙ second.spelled.text) in
    once.pairs second.spelled.value log other v w first.is_log second.is_log (subst (λ d. IsDocument d log v) value first.spelled.spelled) second.spelled.spelled

same_run : (run other : LoggedRun) → run.log ≡ other.log → run.witness ≡ other.witness → run.initial ≡ other.initial → run ≡ other
same_run run other logs witnesses initials =
    ap (λ log. record { log = log; witness = run.witness; initial = run.initial }) logs
    ∙ ap (λ witness. record { log = other.log; witness = witness; initial = run.initial }) witnesses
    ∙ ap (λ initial. record { log = other.log; witness = other.witness; initial = initial }) initials

pub one_run : AreSpelledOnce → (mb db : List ℕ) (m n : Module) (run other : LoggedRun) → IsRunOf mb db m run → IsRunOf mb db n other → (m ≡ n) × (run ≡ other)
one_run once mb db m n run other first second =
    let modules = one_module once mb m n first.modules.spelled second.modules.spelled in
    let documents = one_document once db run.log other.log run.witness other.witness first.document second.document in
    (modules, same_run run other documents.0 documents.1 (one_init n run.initial other.initial (subst (λ k. IsInit k run.initial) modules first.initial) second.initial))

-- ---- the law

-- the bytes of a candidate are not refused
pub none_refused : AreSpelledOnce → (mb db : List ℕ) (m : Module) (run : LoggedRun) (reason : Refusal) → IsCandidateOf mb db m run → IsRefusedFor mb db reason → ⊥
none_refused once mb db m run (refusal.Decode fault) is says = says.no_module m is.is_run.modules.spelled
none_refused once mb db m run (refusal.Valid fault) is says =
    says.invalid (subst Valid (one_module once mb m says.«module» is.is_run.modules.spelled says.spelled) is.is_run.modules.valid)
none_refused once mb db m run (refusal.Document fault) is says = says.1.no_document run.log run.witness is.is_run.document
none_refused once mb db m run (refusal.Shape fault) is says =
    let same = one_run once mb db m says.«module» run says.run is.is_run says.is_run in
    no_shape_fault says.run fault (subst IsWellShaped same.1 is.shape) says.first.holds

pub none_broken : AreSpelledOnce → (mb db : List ℕ) (m : Module) (run : LoggedRun) (reason : Breach) → IsPermitted mb db m run → IsBrokenBy mb db reason → ⊥
none_broken once mb db m run (breach.Replay answer) permitted says =
    let same = one_run once mb db m says.«module» run says.run permitted.candidate.is_run says.candidate.is_run in
    let runs = subst (λ n. AreRuns n says.run.log) same.0 (subst (λ r. AreRuns m r.log) same.1 permitted.threads_are_runs) in
    no_replay_fault says.«module» says.run.log answer says.differs runs says.first
none_broken once mb db m run (breach.Rule fault) permitted says =
    let same = one_run once mb db m says.«module» run says.run permitted.candidate.is_run says.candidate.is_run in
    no_rule_fault (execution says.run) fault fault.rule (subst (λ r. IsValid (execution r)) same.1 permitted.execution_is_valid) says.first.holds

pub counted : AreSpelledOnce → (mb db : List ℕ) (m : Module) (run : LoggedRun) (certificate : Certificate) → IsPermitted mb db m run → IsAllowed mb db certificate → Counts run certificate
counted once mb db m run certificate permitted says =
    let same = one_run once mb db m says.«module» run says.run permitted.candidate.is_run says.candidate.is_run in
    (says.threads ∙ ap (λ (r : LoggedRun). length r.log) (sym same.1), says.events ∙ ap (λ (r : LoggedRun). event_count r.log) (sym same.1))

pub alone : AreSpelledOnce → (mb db : List ℕ) (m : Module) (run : LoggedRun) (verdict : Verdict) → IsPermitted mb db m run → Says mb db verdict → Allows run verdict
alone once mb db m run (Allowed certificate) permitted says = counted once mb db m run certificate permitted says
alone once mb db m run (Refused reason) permitted says = none_refused once mb db m run reason permitted.candidate says
alone once mb db m run (Broken reason) permitted says = none_broken once mb db m run reason permitted says

-- ---- a document past the limit of bytes

pub too_large : AreSpelledOnce → (mb db : List ℕ) (m : Module) (verdict : Verdict) → IsModuleOf mb m → 8388608 < length db → Says mb db verdict → verdict ≡ Refused (refusal.Document TooLarge)
too_large once mb db m (Allowed certificate) modules large says = let small = says.candidate.is_run.document.small in absurd (omega (arith, large, small))
too_large once mb db m (Refused (refusal.Decode fault)) modules large says = absurd (says.no_module m modules.spelled)
too_large once mb db m (Refused (refusal.Valid fault)) modules large says = absurd (says.invalid (subst Valid (one_module once mb m says.«module» modules.spelled says.spelled) modules.valid))
too_large once mb db m (Refused (refusal.Document fault)) modules large says = ap (λ f. Refused (refusal.Document f)) (says.1.too_large (inl large))
too_large once mb db m (Refused (refusal.Shape fault)) modules large says = let small = says.is_run.document.small in absurd (omega (arith, large, small))
too_large once mb db m (Broken (breach.Replay answer)) modules large says = let small = says.candidate.is_run.document.small in absurd (omega (arith, large, small))
too_large once mb db m (Broken (breach.Rule fault)) modules large says = let small = says.candidate.is_run.document.small in absurd (omega (arith, large, small))
