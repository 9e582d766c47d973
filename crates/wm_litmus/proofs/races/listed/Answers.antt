use Rattle.std.proofs.Common.{◌≡◌, ℕ, ◌-◌, ◌++◌, codes, length, string_bytes, sym, ap, ap₂, ◌∙◌}
use Rattle.std.specs.Fmt.{decimal}
use Rattle.wm_litmus.specs.Races.{more_text, sequential_text, shown_text}
use Rattle.wm_litmus.proofs.RaceTexts.{ended_none, left_out, lists_none, lists_some}
use Rattle.wm_litmus.proofs.races.listed.Goals as goal

pub returns-then-total-eq0 : goal.returns-then-total-eq0
returns-then-total-eq0 g c races first total =
    let none : length races ≡ 0 = sym total ∙ c.if-total-eq0.true in
    lists_none g.L.RaceLine.text c.args.threads c.args.events races (string_bytes c.in_ok-text.text) none
    (c.in_ok-text.ensures.ok ∙ sym (ended_none (codes "no races threads=") (decimal c.args.threads) (codes " events=") (decimal c.args.events) sequential_text))

pub returns : goal.returns
returns g c races first total =
    let line = g.L.RaceLine.text in
    let more : c.saturating_sub.result ≡ length races - 1000 =
    c.saturating_sub.ensures ∙ ap (λ (n : ℕ). n - length c.args.shown.now) total ∙ left_out c.args.shown.now races first in
    lists_some line c.args.threads c.args.events races (string_bytes c.push_str.new.self) (λ none. c.if-total-eq0.false (total ∙ none))
    (c.in_ok-push_str.ensures.bytes
    ∙ ap₂ (λ a b. a ++ b) (c.in_ok-text-2.ensures ∙ ap (shown_text line) first) (c.as_str.ensures.value ∙ c.in_ok-more.ensures ∙ ap more_text more))
