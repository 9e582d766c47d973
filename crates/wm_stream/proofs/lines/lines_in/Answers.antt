use Rattle.std.proofs.Common.{◌≡◌, ℕ, ◌+◌, ◌-◌, Bor, List, [], ◌∷◌, ◌++◌, append-nil, append_assoc, length, get_or, take, refl, sym, ap, ◌∙◌, subst, arith}
use Rattle.std.specs.Prelude.{drop}
use Rattle.std.proofs.lemmas.Bool.{eqb-true}
use Rattle.std.proofs.lemmas.List.{map-append}
use Rattle.wm_stream.specs.Lines.{SplitsOn, extended}
use Rattle.wm_stream.proofs.Printing.{texts}
use Rattle.wm_stream.proofs.Splitting.{at_newline, continues, cut_within, extended_none, newline_ends, no_newline, none_before, splits_none, splits_then}
use Rattle.wm_stream.proofs.lines.lines_in.Goals as goal

-- one line more
one_more : (lines : List (Bor (List ℕ))) (line : Bor (List ℕ)) (first text : List ℕ) (more : List (List ℕ)) → texts lines ≡ first ∷ more → line.now ≡ text
    → texts (lines ++ line ∷ []) ≡ first ∷ (more ++ text ∷ [])
one_more lines line first text more is text_is =
    map-append (λ (l : Bor (List ℕ)). l.now) lines (line ∷ []) ∙ ap (λ all. all ++ line.now ∷ []) is ∙ ap (λ t. first ∷ (more ++ t ∷ [])) text_is

pub loop-end-init : goal.loop-end-init
loop-end-init c = record {
  done = [];
  is_part = refl;
  more = [];
  are_lines = ap texts c.in_ok-push.ensures.items ∙ ap (λ lines. texts (lines ++ c.args.first ∷ [])) c.new-ended.ensures.items;
  splits = splits_none c.args.limit [];
}

pub loop-end-preserved : goal.loop-end-preserved
loop-end-preserved c =
    let limit = c.args.limit in
    let left = c.loop-end.left.now in
    let e = c.in-Some.end in
    let so_far = c.loop-end.invariant in
    let found = c.in-Some.ensures in
    let is : get_or left e 0 ≡ 10 = eqb-true (get_or left e 0) 10 found.1 in
    let bytes = take e left in
    let rest = take (length left - (e + 1)) (drop (e + 1) left) in
    let line = extended limit [] bytes in
    record {
      done = so_far.done ++ (bytes ++ 10 ∷ []);
      is_part = so_far.is_part ∙ ap (λ all. so_far.done ++ all) (sym (at_newline left e found.0.high is)) ∙ sym (append_assoc so_far.done (bytes ++ 10 ∷ []) rest);
      more = so_far.more ++ line ∷ [];
      are_lines = rw c.in_ok-push-2.ensures.items
          (one_more c.loop-end.ended.items _ c.args.first.now line so_far.more so_far.are_lines (ap (λ n. take n left) c.min.ensures ∙ cut_within limit e left));
      splits = splits_then limit [] [] [] so_far.done (bytes ++ 10 ∷ []) so_far.more (line ∷ []) so_far.splits
          (newline_ends limit [] bytes (none_before left e (let l = found.0.high in omega (arith, l)) found.0.before));
    }

pub returns : goal.returns
returns c =
    let limit = c.args.limit in
    let left = c.loop-end.left.now in
    let so_far = c.loop-end.invariant in
    let rest = continues limit [] left (no_newline left (λ k l is. c.in_default.ensures k (omega arith) l is)) in
    let both = splits_then limit [] [] (extended limit [] left) so_far.done left so_far.more [] so_far.splits rest in (
      so_far.more,
      so_far.are_lines,
      subst (λ next. SplitsOn limit [] c.args.part.now so_far.more next) (extended_none limit left)
          (subst (λ bytes. SplitsOn limit [] bytes so_far.more (extended limit [] left)) (sym so_far.is_part)
          (subst (λ lines. SplitsOn limit [] (so_far.done ++ left) lines (extended limit [] left)) (append-nil so_far.more) both)),
    )
