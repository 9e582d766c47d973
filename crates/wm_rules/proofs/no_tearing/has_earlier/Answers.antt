-- The bytes of a read before a byte, one after the other.
use Rattle.std.proofs.Common.{◌≡◌, ◌<◌, List, Some, ap, arith, below_more, get_or, length, slice_get, subst, sym, ◌∙◌, rules, refl}
use Rattle.std.proofs.lemmas.Option.{slice_get-get_or, slice_get_within, same_Some}
use Rattle.wm_event.specs.declared.event.EventId.{EventId}
use Rattle.wm_event.specs.declared.event.EventId.TheVariants.{Init}
use Rattle.wm_event.specs.Event.{key_of}
use Rattle.wm_event.specs.Witness.{writers_in}
use Rattle.wm_rules.proofs.no_tearing.has_earlier.Goals as goal
use Rattle.wm_rules.proofs.no_tearing.has_earlier.Goals.{else-earlier-from-via-then-earlier-from+else-eq, else-earlier-from-via-else-earlier-from}

pub returns-then-eq : goal.returns-then-eq
returns-then-eq c =
    let ws = c.writers-writer-items.result.now in
    let k = c.loop-earlier.earlier in
    let listed : ws ≡ writers_in c.args.candidate.now.witness (key_of c.args.event.now) = c.writers-writer-items.ensures.value ∙ ap (writers_in c.args.candidate.now.witness) c.key.ensures in
    let same : get_or ws k Init ≡ c.args.id = search rules in
    (λ _. (k, omega arith, subst (λ (ids : List EventId). slice_get ids k ≡ Some c.args.id) listed (slice_get-get_or ws k Init (omega arith) ∙ ap Some same)), λ _. refl)

pub loop-earlier-preserved : goal.loop-earlier-preserved
loop-earlier-preserved c =
    below_more _ _ c.loop-earlier.invariant
    (elim c.else-earlier-from.branch [
      | else-earlier-from-via-then-earlier-from+else-eq w ↦ λ less at.
          let ws = c.writers-writer-items.result.now in
          let differs : get_or ws c.loop-earlier.earlier Init ≡ c.args.id → ⊥ = search rules in
          differs (same_Some (get_or ws c.loop-earlier.earlier Init) c.args.id (sym (slice_get-get_or ws c.loop-earlier.earlier Init (omega arith)) ∙ at))
      | else-earlier-from-via-else-earlier-from w ↦ λ less at. absurd (omega arith)
    ])

pub returns : goal.returns
returns c =
    let ws = c.writers-writer-items.result.now in
    let listed : ws ≡ writers_in c.args.candidate.now.witness (key_of c.args.event.now) = c.writers-writer-items.ensures.value ∙ ap (writers_in c.args.candidate.now.witness) c.key.ensures in (
      λ none. absurd (cc),
      λ found.
          let at : slice_get ws found.0 ≡ Some c.args.id = ap (λ (ids : List EventId). slice_get ids found.0) listed ∙ found.2 in
          let inside : found.0 < length ws = slice_get_within ws found.0 c.args.id at in
          absurd (c.loop-earlier.invariant found.0 (omega arith) found.1 at),
    )
