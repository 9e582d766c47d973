use Rattle.std.proofs.Common.{reverse, ◌≡◌, length, take, rules, sym, ap, ◌∙◌}
use Rattle.std.proofs.lemmas.List.{length-reverse}
use Rattle.wm_machine.specs.Nest.{Nest}
use Rattle.wm_machine.proofs.Moves.{places_length}
use Rattle.wm_machine.proofs.control_stack.ControlStack.depth.Goals as goal

pub returns : goal.returns
returns c =
    let s = c.self.inside in
    let e : c.len.result ≡ length s.outer.items = search rules in
    e ∙ sym (length-reverse s.outer.items) ∙ sym (places_length (reverse s.outer.items) (take s.inner.base s.values.items)) ∙ ap (λ (n : Nest). length n.outer) c.self.view_is
