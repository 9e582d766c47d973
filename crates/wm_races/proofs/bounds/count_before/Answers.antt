use Rattle.std.proofs.Common.{get_or, arith}
use Rattle.std.proofs.lemmas.Option.{slice_get-get_or}
use Rattle.wm_event.specs.declared.event.EventId.TheVariants.{Init}
use Rattle.wm_event.specs.LoggedRun.{execution}
use Rattle.wm_hb.proofs.SequenceLemmas.{before_join}
use Rattle.wm_races.proofs.bounds.count_before.Goals as goal

pub turn_of-requires-clause-turns : goal.turn_of-requires-clause-turns
turn_of-requires-clause-turns c =
    let x = execution c.args.before.now in
    let xs = c.args.writes.now in
    let w = c.args.event in
    record {
      falls = λ i j l within early v at.
          let u = get_or xs j Init in
          let at_u = slice_get-get_or xs j Init within in
          before_join x v u w (c.requires i j v u l at at_u) (early u at_u);
      rises = λ i j l within late v at here.
          let u = get_or xs i Init in
          let at_u = slice_get-get_or xs i Init (omega (arith, l, within)) in
          late u at_u (before_join x u v w (c.requires i j u v l at_u at) here);
    }

pub returns-clause-before : goal.returns-clause-before
returns-clause-before c = λ i v l at. c.turn_of.ensures.first i l v at
