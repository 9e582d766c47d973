-- The first event that tears a read.
use Rattle.std.proofs.Common.{rules}
use Rattle.wm_event.specs.declared.event.EventKey.{EventKey}
use Rattle.wm_event.specs.declared.event.EventId.TheVariants.{At}
use Rattle.wm_event.specs.Event.{key_of}
use Rattle.wm_event.specs.Faults.{BreaksNoTearing}
use Rattle.wm_event.specs.LoggedRun.{execution}
use Rattle.std.proofs.lemmas.Bool.{both_ways}
use Rattle.wm_rules.proofs.ListedLemmas.{listed-found, listed-none, none_listed-more}
use Rattle.wm_rules.proofs.no_tearing.first_tearing.Goals as goal

pub returns-then-is_torn-clause-first : goal.returns-then-is_torn-clause-first
returns-then-is_torn-clause-first c =
    listed-found c.as_slice-key-items.result.now (λ (key : EventKey). BreaksNoTearing (execution c.args.candidate.now) (key_of c.args.event.now) c.args.event.now c.args.byte c.args.writer (At key)) c.loop-key.key-index c.loop-key.invariant c.args.candidate.now.witness.order
    (search rules) (search rules) (c.is_torn.ensures.0 c.if-is_torn.true)

pub loop-key-preserved : goal.loop-key-preserved
loop-key-preserved c =
    none_listed-more c.as_slice-key-items.result.now (λ (key : EventKey). BreaksNoTearing (execution c.args.candidate.now) (key_of c.args.event.now) c.args.event.now c.args.byte c.args.writer (At key)) c.loop-key.key-index c.loop-key.invariant
    (search rules) (λ h. both_ways c.is_torn.result c.if-is_torn.false (c.is_torn.ensures.1 h))

pub returns-clause-first : goal.returns-clause-first
returns-clause-first c =
    listed-none c.as_slice-key-items.result.now (λ (key : EventKey). BreaksNoTearing (execution c.args.candidate.now) (key_of c.args.event.now) c.args.event.now c.args.byte c.args.writer (At key)) c.loop-key.key-index c.loop-key.invariant c.args.candidate.now.witness.order
    (search rules) (search rules)

pub returns-then-not-is_torn_by_any-clause-first : goal.returns-then-not-is_torn_by_any-clause-first
returns-then-not-is_torn_by_any-clause-first c = λ n key at p. both_ways c.is_torn_by_any.result (search rules) (c.is_torn_by_any.ensures (At key) p)
