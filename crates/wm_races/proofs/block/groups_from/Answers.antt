use Rattle.std.proofs.Common.{◌≡◌, ◌<◌, ◌+◌, ◌-◌, ◌^◌, ℕ, List, length, Result, arith, ◌∙◌, ap, subst, sym}
use Rattle.std.specs.List.{AllZip, range_with_len}
use Rattle.std.specs.Prelude.{IfOk}
use Rattle.std.specs.declared.alloc.AllocError.{AllocError}
use Rattle.std.proofs.lemmas.List.FromFn.{length-range_with_len}
use Rattle.std.proofs.lemmas.Result.{MatchResult-weaker}
use Rattle.rayon.specs.Numbers.{nat_range}
use Rattle.rayon.proofs.ToStd.{nat_range-All}
use Rattle.wm_event.specs.LoggedRun.{LoggedRun}
use Rattle.wm_races.specs.Groups.{AreGroupsFrom, IsGroupedAt}
use Rattle.wm_races.specs.declared.classes.ClassTable.{ClassTable}
use Rattle.wm_races.specs.declared.group.Group.{Group}
use Rattle.wm_races.proofs.ListLemmas.{AllZip-get, AllZip-length, AllZip-oks, range-get}
use Rattle.wm_races.proofs.block.groups_from.Goals as goal

pub collect-requires-clause-ready : goal.collect-requires-clause-ready
collect-requires-clause-ready g c κs within =
    let ends = c.into_par_iter.ensures in
    let inside = nat_range-All (λ i. (c.args.start + i < length c.args.before.now.witness.order) × (c.args.start + i < 2 ^ 64)) 0 c.args.count (λ i low high. (omega arith, omega arith)) in
    rw (c.map.ensures.base, c.map.ensures.f, c.with_min_len.ensures.base, ends.0, ends.1) (λ k d lt. let w = inside k d lt in ((w.0, (w.1, (c.requires.begins, c.requires.classes))), λ y p. tt))

pub returns-clause-count : goal.returns-clause-count
returns-clause-count g c =
    let h = c.in_ok-collect.ensures in
    let ends = c.into_par_iter.ensures in
    let n = c.args.count in
    let whole : n - 0 ≡ n = omega arith in
    let base : c.map.result.base.base ≡ c.into_par_iter.result = (λ i. (c.map.ensures.base i).base) ∙ c.with_min_len.ensures.base in
    let places : h.1.0 ≡ range_with_len 0 n = h.1.1 ∙ (λ i. nat_range (base i).start (base i).end) ∙ (λ i. nat_range (ends.0 i) (ends.1 i)) ∙ ap (range_with_len 0) whole in
    let run : c.map.result.f.1.now ≡ c.args.before.now = λ i. (c.map.ensures.f i).1.now in
    let table : c.map.result.f.3.now ≡ c.args.table.now = λ i. (c.map.ensures.f i).3.now in
    let start : c.map.result.f.4.now ≡ c.args.start = λ i. (c.map.ensures.f i).4.now in
    let zipped : AllZip (λ i r. IfOk r (IsGroupedAt c.map.result.f.1.now c.map.result.f.3.now (c.map.result.f.4.now + i))) h.1.0 h.0 = h.1.2 in
    let moved : AllZip (λ i r. IfOk r (IsGroupedAt c.args.before.now c.args.table.now (c.args.start + i))) h.1.0 h.0 =
    subst (λ (s : ℕ). AllZip (λ i r. IfOk r (IsGroupedAt c.args.before.now c.args.table.now (s + i))) h.1.0 h.0) start
    (subst (λ (t : ClassTable). AllZip (λ i r. IfOk r (IsGroupedAt c.args.before.now t (c.map.result.f.4.now + i))) h.1.0 h.0) table
    (subst (λ (x : LoggedRun). AllZip (λ i r. IfOk r (IsGroupedAt x c.map.result.f.3.now (c.map.result.f.4.now + i))) h.1.0 h.0) run zipped)) in
    let R = λ (i : ℕ) (list : List Group). IsGroupedAt c.args.before.now c.args.table.now (c.args.start + i) list in
    MatchResult-weaker c.in_ok-collect.field-0 h.2
    (λ v p.
    let zip = let P = λ (rs : List (Result (List Group) AllocError)). AllZip (λ i r. IfOk r (R i)) h.1.0 rs in subst P p.1 moved in
    let long = AllZip-length R h.1.0 p.0 (AllZip-oks AllocError R h.1.0 p.0 zip) in
    ap length p.2 ∙ sym long ∙ ap length places ∙ length-range_with_len 0 n)
    (λ e q. tt)

pub returns-clause-lists : goal.returns-clause-lists
returns-clause-lists g c =
    let h = c.in_ok-collect.ensures in
    let ends = c.into_par_iter.ensures in
    let n = c.args.count in
    let whole : n - 0 ≡ n = omega arith in
    let base : c.map.result.base.base ≡ c.into_par_iter.result = (λ i. (c.map.ensures.base i).base) ∙ c.with_min_len.ensures.base in
    let places : h.1.0 ≡ range_with_len 0 n = h.1.1 ∙ (λ i. nat_range (base i).start (base i).end) ∙ (λ i. nat_range (ends.0 i) (ends.1 i)) ∙ ap (range_with_len 0) whole in
    let run : c.map.result.f.1.now ≡ c.args.before.now = λ i. (c.map.ensures.f i).1.now in
    let table : c.map.result.f.3.now ≡ c.args.table.now = λ i. (c.map.ensures.f i).3.now in
    let start : c.map.result.f.4.now ≡ c.args.start = λ i. (c.map.ensures.f i).4.now in
    let zipped : AllZip (λ i r. IfOk r (IsGroupedAt c.map.result.f.1.now c.map.result.f.3.now (c.map.result.f.4.now + i))) h.1.0 h.0 = h.1.2 in
    let moved : AllZip (λ i r. IfOk r (IsGroupedAt c.args.before.now c.args.table.now (c.args.start + i))) h.1.0 h.0 =
    subst (λ (s : ℕ). AllZip (λ i r. IfOk r (IsGroupedAt c.args.before.now c.args.table.now (s + i))) h.1.0 h.0) start
    (subst (λ (t : ClassTable). AllZip (λ i r. IfOk r (IsGroupedAt c.args.before.now t (c.map.result.f.4.now + i))) h.1.0 h.0) table
    (subst (λ (x : LoggedRun). AllZip (λ i r. IfOk r (IsGroupedAt x c.map.result.f.3.now (c.map.result.f.4.now + i))) h.1.0 h.0) run zipped)) in
    let R = λ (i : ℕ) (list : List Group). IsGroupedAt c.args.before.now c.args.table.now (c.args.start + i) list in
    MatchResult-weaker c.in_ok-collect.field-0 h.2
    (λ v p.
    let zip = let P = λ (rs : List (Result (List Group) AllocError)). AllZip (λ i r. IfOk r (R i)) h.1.0 rs in subst P p.1 moved in
    let all : AllZip R (range_with_len 0 n) p.0 = subst (λ xs. AllZip R xs p.0) places (AllZip-oks AllocError R h.1.0 p.0 zip) in
    subst (AreGroupsFrom c.args.before.now c.args.table.now c.args.start) (sym p.2) (λ k groups at.
    let found = AllZip-get R (range_with_len 0 n) p.0 k groups all at in
    subst (λ i. IsGroupedAt c.args.before.now c.args.table.now (c.args.start + i) groups) (range-get n k found.0 found.1) found.2))
    (λ e q. tt)
