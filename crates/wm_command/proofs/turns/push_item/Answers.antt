use Rattle.std.proofs.Common.{◌≡◌, ◌≤◌, ◌+◌, ◌-◌, ◌++◌, ℕ, length, take, ap, ◌∙◌, arith, rules, sym}
use Rattle.std.specs.Prelude.{min, replicate, vec_len}
use Rattle.wm_command.proofs.Keeping.{pushed}
use Rattle.wm_command.proofs.Missing.{where_ok}
use Rattle.wm_command.proofs.turns.push_item.Goals as goal

pub returns : goal.returns
returns c =
    let old = c.args.turns.now.items in
    let long : length old ≡ vec_len c.args.turns.now = search rules in
    let within : length old ≤ 1000001 = omega arith in
    let length_is : c.min-length.result ≡ min (length old + c.args.item.times) 1000001 =
    c.min-length.ensures ∙ ap (λ (n : ℕ). min (n + c.args.item.times) 1000001) (c.len.ensures ∙ sym long) in
    where_ok c.resize.result c.resize.new.self.items _ _ _ c.resize.ensures.items
    (ap (λ (n : ℕ). take c.min-length.result old ++ replicate (c.min-length.result - n) c.args.item.turn) (sym long)
    ∙ pushed 1000001 old c.args.item.turn c.args.item.times c.min-length.result within length_is)
