use Rattle.std.proofs.Common.{◌≡◌, ◌++◌, ◌∷◌, [], List, ap, append_assoc, append-nil, arith, length, map, sym, ◌∙◌}
use Rattle.std.proofs.lemmas.List.{map-append}
use Rattle.wm_logfile.proofs.items.unzipped.Goals as goal

-- one item more
one_more : {X Y : Type 0} (f : X → Y) (old new : List Y) (xs : List X) (x : X) → old ≡ map f xs → new ≡ old ++ f x ∷ [] → new ≡ map f (xs ++ x ∷ [])
one_more f old new xs x was is = is ∙ ap (λ ys. ys ++ f x ∷ []) was ∙ sym (map-append f xs (x ∷ []))

pub loop-first-init : goal.loop-first-init
loop-first-init g c = (
  c.in_ok-firsts.ensures.items,
  c.in_ok-seconds.ensures.items,
  c.into_iter-first-iterator.ensures.into_iter_gives.0 ∙ c.into_vec-first-items.ensures,
)

pub loop-first-preserved : goal.loop-first-preserved
loop-first-preserved g c =
    let before = c.loop-first.yielded in
    let pair : g.row.A.Denot × g.row.B.Denot = (c.in-Some.first, c.in-Some.second) in
    let here = c.loop-first.invariant in (
      one_more (λ (p : g.row.A.Denot × g.row.B.Denot). p.0) _ _ before pair here.0 c.in_ok-push.ensures.items,
      one_more (λ (p : g.row.A.Denot × g.row.B.Denot). p.1) _ _ before pair here.1 c.in_ok-push-2.ensures.items,
      append_assoc before (pair ∷ []) _ ∙ ap (λ left. before ++ left) (sym c.in-Some.ensures.steps.0) ∙ here.2,
    )

-- none is left
all_yielded : {X : Type 0} (yielded left all : List X) → length left ≡ 0 → yielded ++ left ≡ all → yielded ≡ all
all_yielded yielded [] all none is = sym (append-nil yielded) ∙ is
all_yielded yielded (x ∷ xs) all none is = absurd (omega (arith, none))

pub returns-clause-first : goal.returns-clause-first
returns-clause-first g c =
    let left = c.loop-first.first-iterator.rest in
    let here = c.loop-first.invariant in
    c.from_vec.ensures ∙ here.0 ∙ ap (map (λ (p : g.row.A.Denot × g.row.B.Denot). p.0)) (all_yielded c.loop-first.yielded left.items c.args.pairs (grind (arith, left.ok, c.in-None.ensures.steps.0)) here.2)

pub returns-clause-second : goal.returns-clause-second
returns-clause-second g c =
    let left = c.loop-first.first-iterator.rest in
    let here = c.loop-first.invariant in
    c.from_vec-2.ensures ∙ here.1 ∙ ap (map (λ (p : g.row.A.Denot × g.row.B.Denot). p.1)) (all_yielded c.loop-first.yielded left.items c.args.pairs (grind (arith, left.ok, c.in-None.ensures.steps.0)) here.2)
