use Rattle.std.proofs.Common.{◌≡◌, Bool, true, false, inr, refl, subst}
use Rattle.std.specs.Prelude.{not}
use Rattle.std.proofs.lemmas.Bool.{false≢true}
use Rattle.wm_explore.specs.Turns.{WaitsFor}
use Rattle.wm_explore.proofs.turn.rests.Goals as goal

is_false : (b : Bool) → not b ≡ true → b ≡ false
is_false false h = refl
is_false true h = absurd (false≢true h)

pub returns-in-Access : goal.returns-in-Access
returns-in-Access c waits =
    inr (c.in-Access.op, c.in-Access.is, subst (λ op. WaitsFor c.args.state.now c.args.number op) c.fields.ensures.value (c.can_read.ensures (is_false c.can_read.result waits)))
