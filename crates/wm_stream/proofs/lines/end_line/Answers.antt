use Rattle.std.proofs.Common.{◌≡◌, [], ◌∷◌, ◌++◌, get_or, take, sym, subst, arith}
use Rattle.std.proofs.lemmas.Bool.{eqb-true}
use Rattle.wm_stream.specs.Lines.{SplitsOn}
use Rattle.wm_stream.proofs.Splitting.{at_newline, continues, newline_ends, no_newline, none_before}
use Rattle.wm_stream.proofs.lines.end_line.Goals as goal

pub returns-in_ok-extend_cut-in-Some : goal.returns-in_ok-extend_cut-in-Some
returns-in_ok-extend_cut-in-Some c =
    let part = c.args.part.now in
    let e = c.in-Some.end in
    let found = c.in-Some.ensures in
    let is : get_or part e 0 ≡ 10 = eqb-true (get_or part e 0) 10 found.1 in
    let more = take e part in (
      more ++ 10 ∷ [],
      sym (at_newline part e found.0.high is),
      subst (λ line. SplitsOn c.args.limit c.args.begun.now.items (more ++ 10 ∷ []) (line ∷ []) []) (sym c.in_ok-extend_cut-in-Some.ensures)
          (newline_ends c.args.limit c.args.begun.now.items more (none_before part e (let l = found.0.high in omega (arith, l)) found.0.before)),
    )

pub returns-in_ok-extend_cut-in-None : goal.returns-in_ok-extend_cut-in-None
returns-in_ok-extend_cut-in-None c =
    let part = c.args.part.now in
    subst (λ line. SplitsOn c.args.limit c.args.begun.now.items part [] line) (sym c.in_ok-extend_cut-in-None.ensures)
    (continues c.args.limit c.args.begun.now.items part (no_newline part (λ k l is. c.in-None.ensures k (omega arith) l is)))
