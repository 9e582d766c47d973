use Rattle.std.proofs.Common.{◌≡◌, ◌+◌, List, [], ◌∷◌, ◌++◌, suc, take, string_bytes, sym, ap, ◌∙◌, subst, arith}
use Rattle.std.proofs.Math.Seq.{take-suc}
use Rattle.std.proofs.lemmas.List.{take_all}
use Rattle.wm_litmus.specs.Races.{shown_text}
use Rattle.wm_litmus.proofs.RaceTexts.{line_added}
use Rattle.wm_litmus.proofs.races.shown_lines.Goals as goal

pub loop-race-preserved : goal.loop-race-preserved
loop-race-preserved g c =
    let i = c.loop-race.race-index in
    let races = c.args.races.now in
    let race = c.race-item.result in
    let line = g.L.RaceLine.text in
    let one : i + 1 ≡ suc i = omega arith in
    let next : take (i + 1) races ≡ take i races ++ (race ∷ []) =
    ap (λ n. take n races) one ∙ take-suc races i race c.loop-race-test.true ∙ ap (λ r. take i races ++ (r ∷ [])) (sym c.race-item.is) in
    subst (λ (xs : List _). string_bytes c.push_str.new.self ≡ shown_text line xs) (sym next)
    (line_added line (take i races) race (string_bytes c.loop-race.text) c.as_str.result.now (string_bytes c.push_str.new.self) c.loop-race.invariant
    (c.as_str.ensures.value ∙ c.in_ok-row.ensures) c.in_ok-push_str.ensures.bytes)

pub returns : goal.returns
returns g c =
    let past = c.loop-race-test.false in
    subst (λ (xs : List _). string_bytes c.loop-race.text ≡ shown_text g.L.RaceLine.text xs)
    (take_all c.loop-race.race-index c.args.races.now past) c.loop-race.invariant
