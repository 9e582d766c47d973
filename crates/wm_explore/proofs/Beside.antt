-- What is covered where states are explored side by side.
use Rattle.std.proofs.Common.{◌≡◌, ℕ, zero, suc, ◌<◌, List, [], ◌∷◌, ◌++◌, length, inl, inr, Option, Some, None, Result, Ok, IfOk, map, refl, sym, ap, subst, ◌∙◌, arith}
use Rattle.std.specs.Prelude.{◌≢◌, ◌⊎◌, All, slice_get}
use Rattle.std.specs.List.{AllZip}
use Rattle.std.proofs.lemmas.Option.{none-some, same_Some}
use Rattle.wm_ast.specs.declared.module.Module.{Module}
use Rattle.wm_event.specs.LoggedRun.{LoggedRun, execution}
use Rattle.wm_event.specs.Shape.{event_count}
use Rattle.wm_event.specs.declared.log.End.{End}
use Rattle.wm_event.specs.declared.log.Start.{Start}
use Rattle.wm_event.specs.declared.log.ThreadLog.{ThreadLog}
use Rattle.wm_explore.specs.Bounds.{IsExcused}
use Rattle.wm_explore.specs.Executions.{IsCausal, IsExecutionOf, ends_of}
use Rattle.wm_explore.specs.Idle.{HasIdleTurn, StandsFor}
use Rattle.wm_explore.specs.Known.{IsNoted}
use Rattle.wm_explore.specs.Search.{AreApart, Covers, CoversFor, Extends, IsFound, IsProgress, Lists}
use Rattle.wm_explore.specs.Search.Covers.{left, listed, excused}
use Rattle.wm_explore.specs.States.{GoesOn, IsState}
use Rattle.wm_explore.specs.Subtrees.{Advances, AreSubtrees, ComesOf, CoversOrShortens, Joins, JoinsAll, MayBeLeft, TakesIn}
use Rattle.wm_explore.specs.declared.bound.Bound.{Bound}
use Rattle.wm_explore.specs.declared.exploration.Finished.{Finished}
use Rattle.wm_explore.specs.declared.search.Progress.{Progress}
use Rattle.wm_explore.specs.declared.state.State.{State}
use Rattle.wm_explore.specs.declared.subtrees.Subtree.{Subtree}
use Rattle.wm_explore.proofs.Exploring.{rest_covers, rest_progress, shorter, stands_itself, stands_through, still_covers}
use Rattle.wm_explore.proofs.Lists.{at_pushed, kept_pushed, last_pushed}
use Rattle.wm_explore.proofs.Progressing.{all_at, all_pushed, at_all}

-- ---- lists

at_joined : {X : Type 0} (xs ys : List X) (i : ℕ) (x : X) → slice_get (xs ++ ys) i ≡ Some x → (slice_get xs i ≡ Some x) ⊎ ((j : ℕ) × (slice_get ys j ≡ Some x))
at_joined [] ys i x is = inr (i, is)
at_joined (z ∷ xs) ys zero x is = inl is
at_joined (z ∷ xs) ys (suc i) x is = at_joined xs ys i x is

kept_joined : {X : Type 0} (xs ys : List X) (i : ℕ) (x : X) → slice_get xs i ≡ Some x → slice_get (xs ++ ys) i ≡ Some x
kept_joined [] ys i x is = absurd (none-some x is)
kept_joined (z ∷ xs) ys zero x is = is
kept_joined (z ∷ xs) ys (suc i) x is = kept_joined xs ys i x is

added_joined : {X : Type 0} (xs ys : List X) (j : ℕ) (x : X) → slice_get ys j ≡ Some x → (k : ℕ) × (slice_get (xs ++ ys) k ≡ Some x)
added_joined [] ys j x is = (j, is)
added_joined (z ∷ xs) ys j x is = let later = added_joined xs ys j x is in (suc later.0, later.1)

all_joined : {X : Type 0} (P : X → Type 0) (xs ys : List X) → All P xs → All P ys → All P (xs ++ ys)
all_joined {X} P xs ys first second = all_at P (xs ++ ys) (λ i x is. by i x (at_joined xs ys i x is))
  where
    by : (i : ℕ) (x : X) → (slice_get xs i ≡ Some x) ⊎ ((j : ℕ) × (slice_get ys j ≡ Some x)) → P x
    by i x (inl at) = at_all P xs first i x at
    by i x (inr (j, at)) = at_all P ys second j x at

-- of two lists whose items belong together
zip_left : {X Y : Type 0} (R : X → Y → Type 0) (xs : List X) (ys : List Y) (i : ℕ) (x : X) → AllZip R xs ys → slice_get xs i ≡ Some x → (y : Y) × (slice_get ys i ≡ Some y) × R x y
zip_left R [] ys i x h is = absurd (none-some x is)
zip_left R (z ∷ xs) [] i x h is = absurd h
zip_left {X} {Y} R (z ∷ xs) (y ∷ ys) zero x h is = (y, refl, subst (λ (w : X). R w y) (same_Some z x is) h.0)
zip_left R (z ∷ xs) (y ∷ ys) (suc i) x h is = zip_left R xs ys i x h.1 is

zip_right : {X Y : Type 0} (R : X → Y → Type 0) (xs : List X) (ys : List Y) (i : ℕ) (y : Y) → AllZip R xs ys → slice_get ys i ≡ Some y → (x : X) × R x y
zip_right R xs [] i y h is = absurd (none-some y is)
zip_right R [] (z ∷ ys) i y h is = absurd h
zip_right {X} {Y} R (x ∷ xs) (z ∷ ys) zero y h is = (x, subst (R x) (same_Some z y is) h.0)
zip_right R (x ∷ xs) (z ∷ ys) (suc i) y h is = zip_right R xs ys i y h.1 is

-- answers without an error
pub all_oks : {X Y : Type 0} (E : Type 0) (R : X → Y → Type 0) (xs : List X) (ys : List Y) → AllZip (λ x (r : Result Y E). IfOk r (R x)) xs (map Ok ys) → AllZip R xs ys
all_oks E R [] [] h = tt
all_oks E R [] (y ∷ ys) h = absurd h
all_oks E R (x ∷ xs) [] h = absurd h
all_oks E R (x ∷ xs) (y ∷ ys) h = (h.0, all_oks E R xs ys h.1)

-- ---- steps

module _ (m : Module) (starts : List Start) (events : ℕ) where
  covered : (p : Progress) (x : LoggedRun) → IsExecutionOf m starts x → IsCausal (execution x) → Covers events p x → CoversOrShortens m starts events p x
  covered p x is causal covers = (x, stands_itself m starts x is causal, inl covers)

  pub advances_none : (p : Progress) → IsProgress m starts p → Advances m starts events p p
  advances_none p progress = record { progress = progress; keeps = covered p }

  -- the same with another vector
  pub advances_same : (p r : Progress) → Advances m starts events p r → (q : Progress) → q.work.items ≡ r.work.items → q.finished ≡ r.finished → q.met ≡ r.met → Advances m starts events p q
  advances_same p r steps q same_work same_finished same_met = record {
    progress = record {
      states = subst (All (IsState starts)) (sym same_work) steps.progress.states;
      noted = subst (All (IsNoted m)) (sym same_work) steps.progress.noted;
      found = subst (λ fs. All (IsFound m starts) fs.items) (sym same_finished) steps.progress.found;
      apart = subst (λ fs. AreApart fs.items) (sym same_finished) steps.progress.apart;
    };
    keeps = λ x is causal covers. by x (steps.keeps x is causal covers);
  }
    where
      same : (x : LoggedRun) → Covers events r x → Covers events q x
      same x (left i s at on) = left i s (ap (λ ss. slice_get ss i) same_work ∙ at) on
      same x (listed (i, f, at, ends)) = listed (i, f, ap (λ fs. slice_get fs.items i) same_finished ∙ at, ends)
      same x (excused why) = excused (subst (λ b. IsExcused events b x.log) (sym same_met) why)

      by : (x : LoggedRun) → CoversOrShortens m starts events r x → CoversOrShortens m starts events q x
      by x (y, stands, inl covers) = (y, stands, inl (same y covers))
      by x (y, stands, inr less) = (y, stands, inr less)

  -- what the one that stands for x has, or a shorter one
  through : (p q : Progress) (x y : LoggedRun) → StandsFor m starts y x → ((z : LoggedRun) → IsExecutionOf m starts z → IsCausal (execution z) → Covers events p z → CoversOrShortens m starts events q z)
      → Covers events p y ⊎ (event_count y.log < event_count x.log) → CoversOrShortens m starts events q x
  through p q x y stands keeps (inr less) = (y, stands, inr less)
  through p q x y stands keeps (inl covers) = next (keeps y stands.is_execution stands.causal covers)
    where
      next : CoversOrShortens m starts events q y → CoversOrShortens m starts events q x
      next (z, other, inl c) = (z, stands_through m starts z y x other stands, inl c)
      next (z, other, inr less) = (z, stands_through m starts z y x other stands, inr (let small = stands.no_more in omega (arith, less, small)))

  module _ (p r : Progress) (so_far : Advances m starts events p r) (s : State) (q : Progress) (popped : r.work.items ≡ q.work.items ++ s ∷ []) (same_finished : q.finished ≡ r.finished) (same_met : q.met ≡ r.met) where
    pub advances_extended : (t : Progress) → Extends m starts events s q t → Advances m starts events p t
    advances_extended t step = record {
      progress = step.progress;
      keeps = λ x is causal covers.
          let before = so_far.keeps x is causal covers in
          through r t x before.0 before.1 (λ z is_z causal_z covers_z. covered t z is_z causal_z (still_covers m starts events r so_far.progress s q popped same_finished same_met t step z is_z causal_z covers_z)) before.2;
    }

    pub advances_dropped : HasIdleTurn m s.log → Advances m starts events p q
    advances_dropped turn = record {
      progress = rest_progress m starts events r so_far.progress s q popped same_finished same_met;
      keeps = λ x is causal covers.
          let before = so_far.keeps x is causal covers in
          through r q x before.0 before.1 (λ z is_z causal_z covers_z. by z is_z causal_z (rest_covers m starts events r so_far.progress s q popped same_finished same_met z covers_z)) before.2;
    }
      where
        by : (z : LoggedRun) → IsExecutionOf m starts z → IsCausal (execution z) → Covers events q z ⊎ GoesOn z s → CoversOrShortens m starts events q z
        by z is causal (inl covers) = covered q z is causal covers
        by z is causal (inr on) =
            let y = shorter m starts events r so_far.progress s q popped same_finished same_met turn z is causal on in
            (y.0, y.1, inr y.2)

  -- ---- a state alone

  module _ (s : State) (fine : MayBeLeft m starts s) (p : Progress) (work : p.work.items ≡ s ∷ []) (nothing : p.finished.items ≡ []) where
    pub alone : IsProgress m starts p
    alone = record {
      states = subst (All (IsState starts)) (sym work) (all_pushed (IsState starts) [] s (all_at (IsState starts) [] (λ i v at. absurd (none-some v at))) fine.is_state);
      noted = subst (All (IsNoted m)) (sym work) (all_pushed (IsNoted m) [] s (all_at (IsNoted m) [] (λ i v at. absurd (none-some v at))) fine.noted);
      found = subst (All (IsFound m starts)) (sym nothing) (all_at (IsFound m starts) [] (λ i f at. absurd (none-some f at)));
      apart = subst AreApart (sym nothing) (λ i j f g lt at. absurd (none-some f at));
    }

    pub comes_of : (q : Progress) → Advances m starts events p q → ComesOf m starts events s q
    comes_of q steps = record {
      progress = steps.progress;
      takes = λ x is causal on. steps.keeps x is causal (left 0 s (ap (λ ss. slice_get ss 0) work) on);
    }

  -- ---- states side by side

  module _ (p : Progress) (progress : IsProgress m starts p) (w states : List State) (split : p.work.items ≡ w ++ states) where
    pub may_be_left : All (MayBeLeft m starts) states
    may_be_left = all_at (MayBeLeft m starts) states (λ i s at.
        let there = added_joined w states i s at in
        let here = ap (λ ss. slice_get ss there.0) split ∙ there.1 in
        record { is_state = at_all (IsState starts) p.work.items progress.states there.0 s here; noted = at_all (IsNoted m) p.work.items progress.noted there.0 s here })

    module _ (rest : Progress) (same_work : rest.work.items ≡ w) (same_finished : rest.finished ≡ p.finished) (same_met : rest.met ≡ p.met) (trees : List Subtree) (are : AreSubtrees m starts events states trees) (q : Progress) (joins : JoinsAll rest trees q) where
      here : (i : ℕ) (s : State) → slice_get rest.work.items i ≡ Some s → slice_get p.work.items i ≡ Some s
      here i s at = ap (λ ss. slice_get ss i) split ∙ kept_joined w states i s (ap (λ ss. slice_get ss i) (sym same_work) ∙ at)

      kept : IsProgress m starts rest
      kept = record {
        states = all_at (IsState starts) rest.work.items (λ i s at. at_all (IsState starts) p.work.items progress.states i s (here i s at));
        noted = all_at (IsNoted m) rest.work.items (λ i s at. at_all (IsNoted m) p.work.items progress.noted i s (here i s at));
        found = subst (λ fs. All (IsFound m starts) fs.items) (sym same_finished) progress.found;
        apart = subst (λ fs. AreApart fs.items) (sym same_finished) progress.apart;
      }

      abbrev belongs : State → Subtree → Type 0
      belongs s t = ComesOf m starts events s t.progress

      tree_progress : All (λ (t : Subtree). IsProgress m starts t.progress) trees
      tree_progress = all_at (λ (t : Subtree). IsProgress m starts t.progress) trees (λ i t at. (zip_right belongs states trees i t are at).1.progress)

      covers : (x : LoggedRun) → IsExecutionOf m starts x → IsCausal (execution x) → Covers events p x → CoversOrShortens m starts events q x
      covers x is causal (listed (i, f, at, ends)) = covered q x is causal (joins.first events x (listed (i, f, ap (λ fs. slice_get fs.items i) same_finished ∙ at, ends)))
      covers x is causal (excused why) = covered q x is causal (joins.first events x (excused (subst (λ b. IsExcused events b x.log) (sym same_met) why)))
      covers x is causal (left i s at on) = by (at_joined w states i s (ap (λ ss. slice_get ss i) (sym split) ∙ at))
        where
          by : (slice_get w i ≡ Some s) ⊎ ((j : ℕ) × (slice_get states j ≡ Some s)) → CoversOrShortens m starts events q x
          by (inl old) = covered q x is causal (joins.first events x (left i s (ap (λ ss. slice_get ss i) same_work ∙ old) on))
          by (inr (j, taken)) =
              let t = zip_left belongs states trees j s are taken in
              next (t.2.takes x is causal on)
            where
              next : CoversOrShortens m starts events (zip_left belongs states trees j s are taken).0.progress x → CoversOrShortens m starts events q x
              next (y, stands, inl c) = (y, stands, inl (joins.each j (zip_left belongs states trees j s are taken).0 (zip_left belongs states trees j s are taken).1 events y c))
              next (y, stands, inr less) = (y, stands, inr less)

      pub advances_beside : Advances m starts events p q
      advances_beside = record { progress = joins.progress m starts kept tree_progress; keeps = covers }

  -- ---- all executions

  module _ (p q : Progress) (steps : Advances m starts events p q) (each : (x : LoggedRun) → IsExecutionOf m starts x → IsCausal (execution x) → CoversFor m starts events p x) where
    -- of those with fewer events first
    covers_below : (n : ℕ) (x : LoggedRun) → event_count x.log < n → IsExecutionOf m starts x → IsCausal (execution x) → CoversFor m starts events q x
    covers_below zero x few is causal = absurd (omega (arith, few))
    covers_below (suc n) x few is causal = by (covers_below n) (each x is causal)
      where
        goes : ((z : LoggedRun) → event_count z.log < n → IsExecutionOf m starts z → IsCausal (execution z) → CoversFor m starts events q z) → (y : LoggedRun) → StandsFor m starts y x
            → CoversOrShortens m starts events q y → CoversFor m starts events q x
        goes below y stands (z, other, inl covers) = (z, stands_through m starts z y x other stands, covers)
        goes below y stands (z, other, inr less) =
            let small = stands.no_more in
            let rest = below z (omega (arith, few, less, small)) other.is_execution other.causal in
            (rest.0, stands_through m starts rest.0 y x (stands_through m starts rest.0 z y rest.1 other) stands, rest.2)

        by : ((z : LoggedRun) → event_count z.log < n → IsExecutionOf m starts z → IsCausal (execution z) → CoversFor m starts events q z) → CoversFor m starts events p x → CoversFor m starts events q x
        by below (y, stands, covers) = goes below y stands (steps.keeps y stands.is_execution stands.causal covers)

    pub covers_each : (x : LoggedRun) → IsExecutionOf m starts x → IsCausal (execution x) → CoversFor m starts events q x
    covers_each x is causal = covers_below (suc (event_count x.log)) x (omega arith) is causal

-- ---- what is joined

pub takes_none : (old : List Finished) → TakesIn old [] old
takes_none old = record {
  first = λ ends lists. lists;
  second = λ ends lists. absurd (none-some lists.1 lists.2);
  only = λ i f at. inl (i, at);
  apart = λ apart. apart;
}

module _ (old before now : List Finished) (so_far : TakesIn old before now) (f : Finished) where
  among : (new : List Finished) → ((j : ℕ) (g : Finished) → slice_get now j ≡ Some g → (k : ℕ) × (slice_get new k ≡ Some g)) → Lists new (ends_of f.log) → (ends : List End) → Lists (before ++ f ∷ []) ends → Lists new ends
  among new kept has ends (j, g, at, same) = by (at_pushed before f j g at)
    where
      by : ((j ≡ length before) × (g ≡ f)) ⊎ (slice_get before j ≡ Some g) → Lists new ends
      by (inl last) = subst (Lists new) (ap (λ (h : Finished). ends_of h.log) (sym last.1) ∙ same) has
      by (inr earlier) = let l = so_far.second ends (j, g, earlier, same) in let k = kept l.0 l.1 l.2 in (k.0, l.1, k.1, l.3)

  -- of old or of what was there before
  still : (i : ℕ) (g : Finished) → slice_get now i ≡ Some g → ((j : ℕ) × (slice_get old j ≡ Some g)) ⊎ ((j : ℕ) × (slice_get (before ++ f ∷ []) j ≡ Some g))
  still i g at = by (so_far.only i g at)
    where
      by : ((j : ℕ) × (slice_get old j ≡ Some g)) ⊎ ((j : ℕ) × (slice_get before j ≡ Some g)) → ((j : ℕ) × (slice_get old j ≡ Some g)) ⊎ ((j : ℕ) × (slice_get (before ++ f ∷ []) j ≡ Some g))
      by (inl first) = inl first
      by (inr (j, earlier)) = inr (j, kept_pushed before f j g earlier)

  pub takes_listed : Lists now (ends_of f.log) → TakesIn old (before ++ f ∷ []) now
  takes_listed has = record {
    first = so_far.first;
    second = among now (λ j g at. (j, at)) has;
    only = still;
    apart = so_far.apart;
  }

  module _ (new : List Finished) (pushed : new ≡ now ++ f ∷ []) (not : Lists now (ends_of f.log) → ⊥) where
    keeps_at : (j : ℕ) (g : Finished) → slice_get now j ≡ Some g → (k : ℕ) × (slice_get new k ≡ Some g)
    keeps_at j g at = (j, ap (λ fs. slice_get fs j) pushed ∙ kept_pushed now f j g at)

    has : Lists new (ends_of f.log)
    has = (length now, f, ap (λ fs. slice_get fs (length now)) pushed ∙ last_pushed now f, refl)

    apart_too : AreApart now → AreApart new
    apart_too apart i j g h lt at_g at_h = by (at_pushed now f i g (ap (λ fs. slice_get fs i) (sym pushed) ∙ at_g)) (at_pushed now f j h (ap (λ fs. slice_get fs j) (sym pushed) ∙ at_h))
      where
        by : ((i ≡ length now) × (g ≡ f)) ⊎ (slice_get now i ≡ Some g) → ((j ≡ length now) × (h ≡ f)) ⊎ (slice_get now j ≡ Some h) → ends_of g.log ≢ ends_of h.log
        by (inr one) (inr other) = apart i j g h lt one other
        by (inr one) (inl last) = λ same. not (i, g, one, same ∙ ap (λ (k : Finished). ends_of k.log) last.1)
        by (inl last) (inl end) = absurd (let a = last.0 in let b = end.0 in omega (arith, lt, a, b))
        by (inl last) (inr other) = absurd (let a = last.0 in let b = within now j h other in omega (arith, lt, a, b))
          where
            within : (xs : List Finished) (k : ℕ) (x : Finished) → slice_get xs k ≡ Some x → k < length xs
            within [] k x is = absurd (none-some x is)
            within (y ∷ xs) zero x is = omega arith
            within (y ∷ xs) (suc k) x is = let less = within xs k x is in omega (arith, less)

    pub takes_new : TakesIn old (before ++ f ∷ []) new
    takes_new = record {
      first = λ ends lists. let l = so_far.first ends lists in let k = keeps_at l.0 l.1 l.2 in (k.0, l.1, k.1, l.3);
      second = among new keeps_at has;
      only = λ i g at. by i g (at_pushed now f i g (ap (λ fs. slice_get fs i) (sym pushed) ∙ at));
      apart = λ apart. apart_too (so_far.apart apart);
    }
      where
        by : (i : ℕ) (g : Finished) → ((i ≡ length now) × (g ≡ f)) ⊎ (slice_get now i ≡ Some g) → ((j : ℕ) × (slice_get old j ≡ Some g)) ⊎ ((j : ℕ) × (slice_get (before ++ f ∷ []) j ≡ Some g))
        by i g (inl last) = inr (length before, last_pushed before f ∙ ap Some (sym last.1))
        by i g (inr at) = still i g at

module _ (p other q : Progress) (work : q.work.items ≡ p.work.items ++ other.work.items) (takes : TakesIn p.finished.items other.finished.items q.finished.items)
    (kept : (events : ℕ) (log : List ThreadLog) → IsExcused events p.met log → IsExcused events q.met log) (met : (events : ℕ) (log : List ThreadLog) → IsExcused events other.met log → IsExcused events q.met log) where
  first : (events : ℕ) (x : LoggedRun) → Covers events p x → Covers events q x
  first events x (left i s at on) = left i s (ap (λ ss. slice_get ss i) work ∙ kept_joined p.work.items other.work.items i s at) on
  first events x (listed lists) = listed (takes.first (ends_of x.log) lists)
  first events x (excused why) = excused (kept events x.log why)

  second : (events : ℕ) (x : LoggedRun) → Covers events other x → Covers events q x
  second events x (left i s at on) = let there = added_joined p.work.items other.work.items i s at in left there.0 s (ap (λ ss. slice_get ss there.0) work ∙ there.1) on
  second events x (listed lists) = listed (takes.second (ends_of x.log) lists)
  second events x (excused why) = excused (met events x.log why)

  progress_too : (m : Module) (starts : List Start) → IsProgress m starts p → IsProgress m starts other → IsProgress m starts q
  progress_too m starts one two = record {
    states = subst (All (IsState starts)) (sym work) (all_joined (IsState starts) p.work.items other.work.items one.states two.states);
    noted = subst (All (IsNoted m)) (sym work) (all_joined (IsNoted m) p.work.items other.work.items one.noted two.noted);
    found = all_at (IsFound m starts) q.finished.items (λ i f at. by f (takes.only i f at));
    apart = takes.apart one.apart;
  }
    where
      by : (f : Finished) → ((j : ℕ) × (slice_get p.finished.items j ≡ Some f)) ⊎ ((j : ℕ) × (slice_get other.finished.items j ≡ Some f)) → IsFound m starts f
      by f (inl (j, at)) = at_all (IsFound m starts) p.finished.items one.found j f at
      by f (inr (j, at)) = at_all (IsFound m starts) other.finished.items two.found j f at

  pub joins : Joins p other q
  joins = record { progress = progress_too; first = first; second = second }

-- nothing more is excused
pub excused_too : (events : ℕ) (log : List ThreadLog) (old met : Option Bound) → old ≡ None → IsExcused events old log → IsExcused events met log
excused_too events log old met is why = absurd (subst (λ b. IsExcused events b log) is why)

pub joins_none : (p : Progress) → JoinsAll p [] p
joins_none p = record {
  progress = λ m starts progress all. progress;
  first = λ events x covers. covers;
  each = λ i t at. absurd (none-some t at);
}

pub joins_more : (p : Progress) (before : List Subtree) (now : Progress) (t : Subtree) (new : Progress) → JoinsAll p before now → Joins now t.progress new → JoinsAll p (before ++ t ∷ []) new
joins_more p before now t new so_far joined = record {
  progress = λ m starts progress all. joined.progress m starts
      (so_far.progress m starts progress (all_at (λ (u : Subtree). IsProgress m starts u.progress) before (λ i u at. at_all (λ (v : Subtree). IsProgress m starts v.progress) (before ++ t ∷ []) all i u (kept_pushed before t i u at))))
      (at_all (λ (v : Subtree). IsProgress m starts v.progress) (before ++ t ∷ []) all (length before) t (last_pushed before t));
  first = λ events x covers. joined.first events x (so_far.first events x covers);
  each = λ i u at events x covers. by i u events x covers (at_pushed before t i u at);
}
  where
    by : (i : ℕ) (u : Subtree) (events : ℕ) (x : LoggedRun) → Covers events u.progress x → ((i ≡ length before) × (u ≡ t)) ⊎ (slice_get before i ≡ Some u) → Covers events new x
    by i u events x covers (inl last) = joined.second events x (subst (λ (v : Subtree). Covers events v.progress x) last.1 covers)
    by i u events x covers (inr at) = joined.first events x (so_far.each i u at events x covers)
