use Rattle.std.proofs.Common.{IsSome, refl, sym, subst}
use Rattle.wm_event.specs.Log.{event_in}
use Rattle.wm_witness.specs.declared.assumption.Assumption.{Assumption}
use Rattle.wm_witness.specs.declared.assumption.Assumption.TheVariants.{Before, NotByte, TakesNone}
use Rattle.wm_witness.specs.Search.{AreOpposite}
use Rattle.wm_witness.specs.Search.AreOpposite.{byte_or_not, one_is_first, takes_or_not}
use Rattle.wm_witness.proofs.Steps.{apart}
use Rattle.wm_witness.proofs.new_split.opposite_of.Goals as goal

pub returns-in-Takes-clause-some : goal.returns-in-Takes-clause-some
returns-in-Takes-clause-some c = subst (λ (a : Assumption). AreOpposite c.args.start.now.log a (TakesNone c.in-Takes.reader c.in-Takes.writer)) (sym c.in-Takes.is) takes_or_not

pub returns-in-Byte-clause-some : goal.returns-in-Byte-clause-some
returns-in-Byte-clause-some c = subst (λ (a : Assumption). AreOpposite c.args.start.now.log a (NotByte c.in-Byte.reader c.in-Byte.byte c.in-Byte.writer)) (sym c.in-Byte.is) byte_or_not

pub returns-else-not-is_event-2-clause-some : goal.returns-else-not-is_event-2-clause-some
returns-else-not-is_event-2-clause-some c =
    let log = c.args.start.now.log in
    let a = c.in-Before.first in
    let b = c.in-Before.second in
    let is_a : IsSome (event_in log a) = c.if-not-is_event.ensures.0 refl in
    let is_b : IsSome (event_in log b) = c.if-not-is_event-2.ensures.0 refl in
    subst (λ (s : Assumption). AreOpposite log s (Before b a)) (sym c.in-Before.is) (one_is_first is_a is_b (apart a b c.if-eq.ensures))
