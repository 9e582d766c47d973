use Rattle.std.proofs.Common.{length, sym, ap, ◌∙◌}
use Rattle.wm_event.proofs.ZeroLemmas.{length_with_zeros}
use Rattle.wm_event.proofs.initial.Initial.is_same.Goals as goal

pub returns-then-self-other : goal.returns-then-self-other
returns-then-self-other c =
    let own = length_with_zeros c.self.inside.bytes.items c.self.inside.len c.self.invariant in
    let others = length_with_zeros c.other.inside.bytes.items c.other.inside.len c.other.invariant in
    let own-long = sym own ∙ ap length c.self.view_is in
    let others-long = sym others ∙ ap length c.other.view_is in
    (λ h. search, λ e. absurd (c.if-self-other.true (own-long ∙ ap length e ∙ sym others-long)))
