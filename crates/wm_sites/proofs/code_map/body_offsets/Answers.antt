use Rattle.std.proofs.Common.{ℕ, ◌∙◌, List, ap, length, refl, subst, sym, arith}
use Rattle.std.specs.Prelude.{unwrap_or}
use Rattle.std.proofs.lemmas.Option.{none-some}
use Rattle.wm_sites.specs.Bodies.{code_start}
use Rattle.wm_sites.proofs.BodySteps.{BodyAhead, body_more, body_none, body_noted, functions_read, items_next, items_place, size_there, start_is}
use Rattle.wm_replay.proofs.LogPositions.{one_more}
use Rattle.wm_sites.proofs.code_map.body_offsets.Goals as goal
use Rattle.wm_sites.proofs.code_map.body_offsets.Goals.{else-loop-body-test, then-loop-body-test+in_default-number}

pub returns-in_default : goal.returns-in_default
returns-in_default c f offset b = absurd (none-some (code_start b.section) (sym c.in_default.is ∙ c.code_section.ensures b.front b.items b.section))

pub loop-body-init : goal.loop-body-init
loop-body-init c =
    let none = c.new-bodies.ensures.items in
    record {
      count = ap (λ (xs : List ℕ). length xs) none;
      functions = λ before items code.
          let at = start_is code c.code_section.result c.in-Some.start (c.code_section.ensures before items code) c.in-Some.is in
          let read = functions_read code (record { bytes = c.args.bytes; at = c.in-Some.start }) refl at c.number.new.self c.number.result c.number.ensures in
          sym (c.unwrap_or-count.ensures ∙ ap (λ o. unwrap_or o 0) read);
      each = λ f offset b.
          let at = start_is b.section c.code_section.result c.in-Some.start (c.code_section.ensures b.front b.items b.section) c.in-Some.is in
          let next = items_next b.section (record { bytes = c.args.bytes; at = c.in-Some.start }) refl at c.number.new.self c.number.result c.number.ensures in
          let place = items_place b.section (record { bytes = c.args.bytes; at = c.in-Some.start }) refl at c.number.new.self c.number.result c.number.ensures in
          subst (BodyAhead b c.number.new.self 0) (sym none) (body_none b c.number.new.self next place);
    }

pub loop-body-preserved : goal.loop-body-preserved
loop-body-preserved c =
    let l = c.loop-body in
    record {
      count = one_more l._body l.bodies.items c.push.new.self.items c.number-in-loop-body.new.self.at l.invariant.count c.in_ok-push.ensures.items;
      functions = l.invariant.functions;
      each = λ f offset b.
          body_more b l.reader c.number-in-loop-body.new.self l._body l.bodies.items (l.invariant.each f offset b) c.number-in-loop-body.result c.number-in-loop-body.ensures c.skip.new.self c.in-Some-number.size
          c.push.new.self.items c.in-Some-number.is c.skip.ensures.moves l.invariant.count c.in_ok-push.ensures.items;
    }

pub returns : goal.returns
returns c f offset b =
    let l = c.loop-body in
    let functions = l.invariant.functions b.front b.items b.section in
    let ahead = l.invariant.each f offset b in
    elim c.loop-body-test.branch [
      | else-loop-body-test w ↦ body_noted b l.reader l._body c.unwrap_or-count.result l.bodies.items ahead functions
          λ below past. let end = w.loop-body-test.false in omega (arith, end, below, past)
      | then-loop-body-test+in_default-number w ↦ body_noted b l.reader l._body c.unwrap_or-count.result l.bodies.items ahead functions
          λ below past. size_there b l.reader w.number-in-loop-body.new.self l._body l.bodies.items ahead w.number-in-loop-body.result w.number-in-loop-body.ensures past w.in_default-number.is
    ]
