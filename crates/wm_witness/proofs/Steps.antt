-- Lemmas that the laws share.
use Rattle.std.proofs.Common.{◌≡◌, ◌≢◌, ◌⊎◌, Bor, ◌<◌, List, [], ◌∷◌, ◌++◌, slice_get, Option, None, Some, IsSome, refl, sym, ap, ◌∙◌, subst, arith, inl, inr, ⊎_elim}
use Rattle.std.specs.Prelude.{◌==◌, ◌&&◌, not, Bool, true, false, is_some, option_copied}
use Rattle.std.proofs.lemmas.Bool.{and_from, and_parts, cases_eq, cases_lt, false≢true}
use Rattle.std.proofs.lemmas.Bool.Decides.{nat_tests}
use Rattle.std.proofs.lemmas.Option.{same_Some}
use Rattle.wm_event.specs.declared.event.EventKey.{EventKey}
use Rattle.wm_event.specs.declared.event.EventId.{EventId}
use Rattle.wm_event.specs.declared.event.EventId.TheVariants.{Init, At}
use Rattle.wm_event.specs.Execution.{Execution, place}
use Rattle.wm_event.specs.HappensBefore.{Chain, HappensBefore}
use Rattle.wm_event.specs.Log.{event_in}
use Rattle.wm_event.specs.LoggedRun.{LoggedRun, execution}
use Rattle.wm_event.specs.Shape.{ListsEachOnce}
use Rattle.wm_event.proofs.PlaceLemmas.{position_listed}

pub some-of : {X : Type 0} (o : Option X) (y : X) → o ≡ Some y → IsSome o
some-of o y h = subst (λ o. IsSome o) (sym h) refl

pub some-is : {A : Type 0} (o : Option A) → IsSome o → (a : A) × (o ≡ Some a)
some-is None h = absurd (false≢true h)
some-is (Some a) h = (a, refl)

-- happens-before is transitive
pub before-join : (x : Execution) (a b c : EventId) → HappensBefore x a b → HappensBefore x b c → HappensBefore x a c
before-join x a b c h k = (h.0 ++ b ∷ k.0, join h.0 a h.1)
  where
    join : (ms : List EventId) (a : EventId) → Chain x a ms b → Chain x a (ms ++ b ∷ k.0) c
    join [] a e = (e, k.1)
    join (m ∷ ms) a e = (e.0, join ms m e.1)

pub same-keys : (a b : EventKey) → (a ≡ b) ⊎ (a ≢ b)
same-keys a b = ⊎_elim
    (λ (t : a.thread ≡ b.thread). ⊎_elim
    (λ (n : a.number ≡ b.number). inl (λ i. record { thread = t i; number = n i }))
    (λ (n : a.number ≢ b.number). inr (λ h. n (ap (λ (k : EventKey). k.number) h)))
    (cases_eq a.number b.number))
    (λ (t : a.thread ≢ b.thread). inr (λ h. t (ap (λ (k : EventKey). k.thread) h)))
    (cases_eq a.thread b.thread)

pub same-ids : (a b : EventId) → (a ≡ b) ⊎ (a ≢ b)
same-ids Init Init = inl refl
same-ids Init (At b) = inr (λ h. cc)
same-ids (At a) Init = inr (λ h. cc)
same-ids (At a) (At b) = ⊎_elim (λ (e : a ≡ b). inl (ap At e)) (λ (n : a ≢ b). inr (λ h. n (cc))) (same-keys a b)

-- an order that lists each event once gives two of them different places
pub places-differ : (run : LoggedRun) → ListsEachOnce run.log run.witness.order → (a b : EventKey) → IsSome (event_in run.log a) → IsSome (event_in run.log b) → a ≢ b
    → (place (execution run) (At a) < place (execution run) (At b)) ⊎ (place (execution run) (At b) < place (execution run) (At a))
places-differ run once a b is_a is_b apart =
    let m = once.listed a is_a in
    let n = once.listed b is_b in
    let p : (execution run).place_of a ≡ m.0 = position_listed run.log run.witness.order once m.0 a m.1 in
    let q : (execution run).place_of b ≡ n.0 = position_listed run.log run.witness.order once n.0 b n.1 in
    ⊎_elim
    (λ (l : m.0 < n.0). inl (omega (arith, p, q, l)))
    (λ l. ⊎_elim
    (λ (g : n.0 < m.0). inr (omega (arith, p, q, g)))
    (λ g. let e : m.0 ≡ n.0 = omega (arith, l, g) in absurd (apart (same_Some a b (sym m.1 ∙ ap (λ i. slice_get run.witness.order i) e ∙ n.1))))
    (cases_lt n.0 m.0))
    (cases_lt m.0 n.0)

-- two names that a test tells apart
pub apart : (a b : EventKey) → false ≡ (a.thread == b.thread && a.number == b.number) → a ≢ b
apart a b t h =
    let same : (b.thread == b.thread && b.number == b.number) ≡ true = and_from (b.thread == b.thread) (b.number == b.number) (grind (arith, nat_tests)) (grind (arith, nat_tests)) in
    let here : false ≡ (b.thread == b.thread && b.number == b.number) = subst (λ (k : EventKey). false ≡ (k.thread == b.thread && k.number == b.number)) h t in
    false≢true (here ∙ same)

-- what a reference is to is there
pub copied-there : {X : Type 0} (o : Option (Bor X)) (p : Option X) → option_copied o ≡ p → is_some o ≡ true → IsSome p
copied-there None p is some = absurd (false≢true some)
copied-there (Some b) p is some = subst (λ q. IsSome q) is refl

pub keys-equal : (a b : EventKey) → (a.thread == b.thread && a.number == b.number) ≡ true → a ≡ b
keys-equal a b t =
    let p = and_parts (a.thread == b.thread) (a.number == b.number) t in
    let m : a.thread ≡ b.thread = grind (arith, nat_tests) in
    let n : a.number ≡ b.number = grind (arith, nat_tests) in
    λ i. record { thread = m i; number = n i }

pub not-not : (b : Bool) → false ≡ not b → b ≡ true
not-not true h = refl
not-not false h = absurd (false≢true h)
