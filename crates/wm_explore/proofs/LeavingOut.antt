-- Events of which some are left out, and the others are renumbered.
use Rattle.std.proofs.Common.{◌≡◌, ℕ, zero, suc, ◌+◌, ◌-◌, ◌<◌, ◌≤◌, inl, inr, List, [], ◌∷◌, ◌++◌, length, get_or, take, drop, Some, refl, sym, ap, ◌∙◌, length-append, length-take-le, append_assoc, arith}
use Rattle.std.specs.Prelude.{◌⊎◌, slice_get}
use Rattle.std.proofs.lemmas.Option.{none-some, same_Some, slice_get-get_or}
use Rattle.wm_event.specs.declared.event.Event.{Event}
use Rattle.wm_part.specs.Pick.{numbered, with_number}
use Rattle.wm_replay.specs.Following.{HasPlaces}
use Rattle.wm_explore.specs.Idle.{leaving_out}
use Rattle.wm_explore.proofs.Lists.{take_next}

-- ---- lists

take_of_both : {X : Type 0} (n : ℕ) (xs ys : List X) → n ≤ length xs → take n (xs ++ ys) ≡ take n xs
take_of_both zero xs ys few = refl
take_of_both (suc n) [] ys few = absurd (omega (arith, few))
take_of_both (suc n) (x ∷ xs) ys few = ap (λ zs. x ∷ zs) (take_of_both n xs ys (omega (arith, few)))

drop_of_both : {X : Type 0} (n : ℕ) (xs ys : List X) → n ≤ length xs → drop n (xs ++ ys) ≡ drop n xs ++ ys
drop_of_both zero xs ys few = refl
drop_of_both (suc n) [] ys few = absurd (omega (arith, few))
drop_of_both (suc n) (x ∷ xs) ys few = drop_of_both n xs ys (omega (arith, few))

pub at_dropped : {X : Type 0} (n : ℕ) (xs : List X) (j : ℕ) → slice_get (drop n xs) j ≡ slice_get xs (n + j)
at_dropped zero xs j = let same : j ≡ 0 + j = omega arith in ap (slice_get xs) same
at_dropped (suc n) [] j = refl
at_dropped (suc n) (x ∷ xs) j = at_dropped n xs j ∙ (let same : suc (n + j) ≡ suc n + j = omega arith in ap (slice_get (x ∷ xs)) same)

pub at_taken : {X : Type 0} (n : ℕ) (xs : List X) (j : ℕ) (x : X) → slice_get (take n xs) j ≡ Some x → slice_get xs j ≡ Some x
at_taken zero xs j x at = absurd (none-some x at)
at_taken (suc n) [] j x at = absurd (none-some x at)
at_taken (suc n) (y ∷ xs) zero x at = at
at_taken (suc n) (y ∷ xs) (suc j) x at = at_taken n xs j x at

-- an item of two lists
at_either : {X : Type 0} (xs ys : List X) (j : ℕ) (x : X) → slice_get (xs ++ ys) j ≡ Some x → (slice_get xs j ≡ Some x) ⊎ ((i : ℕ) × (j ≡ length xs + i) × (slice_get ys i ≡ Some x))
at_either [] ys j x at = inr (j, (let same : j ≡ 0 + j = omega arith in same), at)
at_either (y ∷ xs) ys zero x at = inl at
at_either (y ∷ xs) ys (suc j) x at = further (at_either xs ys j x at)
  where
    further : (slice_get xs j ≡ Some x) ⊎ ((i : ℕ) × (j ≡ length xs + i) × (slice_get ys i ≡ Some x)) → (slice_get xs j ≡ Some x) ⊎ ((i : ℕ) × (suc j ≡ suc (length xs) + i) × (slice_get ys i ≡ Some x))
    further (inl h) = inl h
    further (inr h) = inr (h.0, (let e = h.1 in omega (arith, e)), h.2)

-- ---- events that are renumbered

pub numbered_both : (n : ℕ) (es fs : List Event) → numbered n (es ++ fs) ≡ numbered n es ++ numbered (n + length es) fs
numbered_both n [] fs = let e : n ≡ n + 0 = omega arith in ap (λ m. numbered m fs) e
numbered_both n (e ∷ es) fs =
    let m : suc n + length es ≡ n + suc (length es) = omega arith in
    ap (λ (gs : List Event). with_number n e ∷ gs) (numbered_both (suc n) es fs ∙ ap (λ i. numbered (suc n) es ++ numbered i fs) m)

pub length_numbered : (n : ℕ) (es : List Event) → length (numbered n es) ≡ length es
length_numbered n [] = refl
length_numbered n (e ∷ es) = ap suc (length_numbered (suc n) es)

-- one that is renumbered
at_numbered : (n : ℕ) (es : List Event) (j : ℕ) (f : Event) → slice_get (numbered n es) j ≡ Some f → (e : Event) × (slice_get es j ≡ Some e) × (with_number (n + j) e ≡ f)
at_numbered n [] j f at = absurd (none-some f at)
at_numbered n (e ∷ es) zero f at = (e, refl, (let m : n + 0 ≡ n = omega arith in ap (λ k. with_number k e) m) ∙ same_Some (with_number n e) f at)
at_numbered n (e ∷ es) (suc j) f at =
    let rest = at_numbered (suc n) es j f at in
    (rest.0, rest.1, (let m : n + suc j ≡ suc n + j = omega arith in ap (λ k. with_number k rest.0) m) ∙ rest.2)

-- ---- events without some

-- each event left has its place
pub places_left : (k i n : ℕ) (events : List Event) → i ≤ n → n ≤ length events → HasPlaces k events → HasPlaces k (leaving_out i n events)
places_left k i n events le few places j f at = by (at_either (take i events) (numbered i (drop n events)) j f at)
  where
    by : (slice_get (take i events) j ≡ Some f) ⊎ ((d : ℕ) × (j ≡ length (take i events) + d) × (slice_get (numbered i (drop n events)) d ≡ Some f)) → (f.thread ≡ k) × (f.number ≡ j)
    by (inl h) = places j f (at_taken i events j f h)
    by (inr h) =
        let old = at_numbered i (drop n events) h.0 f h.2 in
        let place = places (n + h.0) old.0 (sym (at_dropped n events h.0) ∙ old.1) in
        let count : length (take i events) ≡ i = length-take-le i events (omega (arith, le, few)) in (
          sym (ap (λ (e : Event). e.thread) old.2) ∙ place.0,
          sym (ap (λ (e : Event). e.number) old.2) ∙ (let at_j = h.1 in let same : i + h.0 ≡ j = omega (arith, at_j, count) in same),
        )

-- the events of which some are left out, before others
pub left_both : (i n : ℕ) (es fs : List Event) → i ≤ n → n ≤ length es → leaving_out i n (es ++ fs) ≡ leaving_out i n es ++ numbered (length (leaving_out i n es)) fs
left_both i n es fs le few =
    let count : length (take i es) ≡ i = length-take-le i es (omega (arith, le, few)) in
    let both = length-append (take i es) (numbered i (drop n es)) in
    let rest = length_numbered i (drop n es) in
    let next : i + length (drop n es) ≡ length (leaving_out i n es) = omega (arith, count, both, rest) in
    ap (λ xs. xs ++ numbered i (drop n (es ++ fs))) (take_of_both i es fs (omega (arith, le, few)))
    ∙ ap (λ xs. take i es ++ numbered i xs) (drop_of_both n es fs few)
    ∙ ap (λ xs. take i es ++ xs) (numbered_both i (drop n es) fs ∙ ap (λ m. numbered i (drop n es) ++ numbered m fs) next)
    ∙ sym (append_assoc (take i es) (numbered i (drop n es)) (numbered (length (leaving_out i n es)) fs))

-- one more is renumbered
pub renumbered_next : (n later : ℕ) (es : List Event) (e : Event) → slice_get es later ≡ Some e → numbered n (take (later + 1) es) ≡ numbered n (take later es) ++ with_number (n + later) e ∷ []
renumbered_next n later es e at =
    let count : length (take later es) ≡ later = length-take-le later es (within es later e at) in
    ap (numbered n) (take_next es later e at) ∙ numbered_both n (take later es) (e ∷ [])
    ∙ ap (λ m. numbered n (take later es) ++ with_number (n + m) e ∷ []) count
  where
    within : (xs : List Event) (j : ℕ) (x : Event) → slice_get xs j ≡ Some x → j ≤ length xs
    within [] j x is = absurd (none-some x is)
    within (y ∷ xs) zero x is = omega arith
    within (y ∷ xs) (suc j) x is = let le = within xs j x is in omega (arith, le)

-- with the event at a place, which takes the number of the one whose place it takes
pub one_more_left : (k i n place : ℕ) (events given kept pushed : List Event) (added d : Event) → HasPlaces k events → given ≡ events → i < n → n ≤ place → place < length given
    → added ≡ with_number (get_or given (place - (n - i)) d).number (get_or given place d)
    → kept ≡ take i events ++ numbered i (take (place - n) (drop n events)) → pushed ≡ kept ++ added ∷ []
    → pushed ≡ take i events ++ numbered i (take (place + 1 - n) (drop n events))
one_more_left k i n place events given kept pushed added d places same lt from within is so push =
    let later = place - n in
    let e = get_or given place d in
    let old = get_or given (place - (n - i)) d in
    let at : slice_get (drop n events) later ≡ Some e =
    at_dropped n events later ∙ (let here : n + later ≡ place = omega (arith, from) in ap (slice_get events) here)
    ∙ ap (λ es. slice_get es place) (sym same) ∙ slice_get-get_or given place d within in
    let old_at : slice_get events (place - (n - i)) ≡ Some old = ap (λ es. slice_get es (place - (n - i))) (sym same) ∙ slice_get-get_or given (place - (n - i)) d (omega (arith, within)) in
    let number : old.number ≡ i + later = (places (place - (n - i)) old old_at).1 ∙ (let there : place - (n - i) ≡ i + later = omega (arith, lt, from) in there) in
    push ∙ ap (λ f. kept ++ f ∷ []) (is ∙ ap (λ m. with_number m e) number)
    ∙ ap (λ es. es ++ with_number (i + later) e ∷ []) so
    ∙ append_assoc (take i events) (numbered i (take later (drop n events))) (with_number (i + later) e ∷ [])
    ∙ ap (λ es. take i events ++ es) (sym (renumbered_next i later (drop n events) e at))
    ∙ (let next : later + 1 ≡ place + 1 - n = omega (arith, from) in ap (λ m. take i events ++ numbered i (take m (drop n events))) next)
