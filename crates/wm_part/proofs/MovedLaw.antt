-- A valid run whose events are in one part of the memory is valid once the part is moved to 0.
use Rattle.std.proofs.Common.{◌≡◌, ℕ, zero, suc, ◌+◌, ◌-◌, ◌%◌, ◌<◌, ◌≤◌, List, [], ◌∷◌, drop, length, slice_get, take, Option, None, Some, IsSome, refl, sym, ap, ◌∙◌, subst, arith}
use Rattle.std.specs.Prelude.{map, option_and_then, option_map}
use Rattle.std.proofs.lemmas.List.{length-drop, length-take}
use Rattle.std.proofs.lemmas.List.Sums.{sum_by-cons}
use Rattle.std.proofs.lemmas.Option.{none-some, same_Some, slice_get-map}
use Rattle.wm_access.specs.AccessWidth.{bytes_of}
use Rattle.wm_event.specs.declared.event.Event.{Event}
use Rattle.wm_event.specs.declared.event.EventKey.{EventKey}
use Rattle.wm_event.specs.declared.event.EventId.{EventId}
use Rattle.wm_event.specs.declared.event.EventId.TheVariants.{Init, At}
use Rattle.wm_event.specs.declared.log.ThreadLog.{ThreadLog}
use Rattle.wm_event.specs.Log.{event_in}
use Rattle.wm_event.specs.LoggedRun.{LoggedRun}
use Rattle.wm_event.specs.Shape.{IsGoodEvent, IsThere, IsWellShaped, event_count, event_counts}
use Rattle.wm_event.specs.Witness.{writers_in}
use Rattle.wm_event.proofs.PlaceLemmas.{position_listed}
use Rattle.wm_part.specs.Moved.{IsInside, MovedIsValid, moved, moved_event, moved_thread}
use Rattle.wm_part.specs.Part.{IsPiece, renamed}
use Rattle.wm_part.proofs.PieceLaw.{piece-is-valid}
use Rattle.wm_part.proofs.WithinLaw.{some-is, some_of}

-- ---- lists

length-mapped : {X Y : Type 0} (f : X → Y) (xs : List X) → length (map f xs) ≡ length xs
length-mapped f [] = refl
length-mapped f (x ∷ xs) = ap suc (length-mapped f xs)

dropped-at : (base : ℕ) (xs : List ℕ) (a : ℕ) → slice_get (drop base xs) a ≡ slice_get xs (base + a)
dropped-at zero xs a = let e : a ≡ 0 + a = omega arith in ap (slice_get xs) e
dropped-at (suc base) [] a = refl
dropped-at (suc base) (x ∷ xs) a = let e : suc (base + a) ≡ suc base + a = omega arith in dropped-at base xs a ∙ ap (slice_get (x ∷ xs)) e

taken-at : (count : ℕ) (xs : List ℕ) (a : ℕ) → a < length (take count xs) → slice_get (take count xs) a ≡ slice_get xs a
taken-at zero xs a l = absurd (omega (arith, l))
taken-at (suc count) [] a l = absurd (omega (arith, l))
taken-at (suc count) (x ∷ xs) zero l = refl
taken-at (suc count) (x ∷ xs) (suc a) l = taken-at count xs a (omega (arith, l))

same-ids : (ws : List EventId) → ws ≡ map (renamed (λ key. key)) ws
same-ids [] = refl
same-ids (Init ∷ ws) = ap (λ ws. Init ∷ ws) (same-ids ws)
same-ids (At key ∷ ws) = ap (λ ws. At key ∷ ws) (same-ids ws)

-- ---- shapes

counts-same : (base : ℕ) (threads : List ThreadLog) → event_counts (map (moved_thread base) threads) ≡ event_counts threads
counts-same base [] = refl
counts-same base (thread ∷ threads) =
    let a = length-mapped (moved_event base) thread.events in
    let b = counts-same base threads in
    λ i. a i ∷ b i

count-same : (base : ℕ) (threads : List ThreadLog) → event_count (map (moved_thread base) threads) ≡ event_count threads
count-same base [] = refl
count-same base (thread ∷ threads) =
    let a = length-mapped (moved_event base) thread.events in
    let b = count-same base threads in
    let p = sum_by-cons (λ (thread : ThreadLog). length thread.events) (moved_thread base thread) (map (moved_thread base) threads) in
    let q = sum_by-cons (λ (thread : ThreadLog). length thread.events) thread threads in
    omega (arith, a, b, p, q)

module _ (run : LoggedRun) (base count : ℕ) (shape : IsWellShaped run) (inside : IsInside run base count) (aligned : base % 4 ≡ 0) (room : base + count ≤ length run.initial) where
  abbrev one : LoggedRun
  one = moved run base count

  event-is : (key : EventKey) → event_in one.log key ≡ option_map (moved_event base) (event_in run.log key)
  event-is key = ap (option_and_then (λ (thread : ThreadLog). slice_get thread.events key.number)) (slice_get-map (moved_thread base) run.log key.thread) ∙ by (slice_get run.log key.thread)
    where
      by : (o : Option ThreadLog) → option_and_then (λ (thread : ThreadLog). slice_get thread.events key.number) (option_map (moved_thread base) o)
          ≡ option_map (moved_event base) (option_and_then (λ (thread : ThreadLog). slice_get thread.events key.number) o)
      by None = refl
      by (Some thread) = slice_get-map (moved_event base) thread.events key.number

  -- an event of the moved run was an event of the run
  record Was (key : EventKey) (e : Event) : Type 0 where
    event : Event
    there : event_in run.log key ≡ Some event
    same : moved_event base event ≡ e

  was : (key : EventKey) (e : Event) → event_in one.log key ≡ Some e → Was key e
  was key e h = by (event_in run.log key) refl (sym (event-is key) ∙ h)
    where
      by : (o : Option Event) → event_in run.log key ≡ o → option_map (moved_event base) o ≡ Some e → Was key e
      by None at h = absurd (none-some e h)
      by (Some f) at h = record { event = f; there = at; same = same_Some (moved_event base f) e h }

  some-moved : (key : EventKey) → IsSome (event_in run.log key) → IsSome (event_in one.log key)
  some-moved key h = let f = some-is (event_in run.log key) h in some_of (event_in one.log key) (moved_event base f.0) (event-is key ∙ ap (option_map (moved_event base)) f.1)

  some-was : (key : EventKey) → IsSome (event_in one.log key) → IsSome (event_in run.log key)
  some-was key h = let e = some-is (event_in one.log key) h in let w = was key e.0 e.1 in some_of (event_in run.log key) w.event w.there

  there-moved : (w : EventId) → IsThere run.log w → IsThere one.log w
  there-moved Init h = h
  there-moved (At key) h = some-moved key h

  good : (key : EventKey) (e : Event) → event_in one.log key ≡ Some e → IsGoodEvent one.log one.initial e (writers_in one.witness key)
  good key e h =
      let w = was key e h in
      let g = shape.good key w.event w.there in
      let within = inside key w.event w.there in
      let low = within.0 in
      let high = within.1 in
      let a = length-drop base run.initial in
      let b = length-take count (drop base run.initial) in
      let in_memory : w.event.address - base + bytes_of w.event.width ≤ length one.initial = omega (arith, low, high, a, b, room) in
      let made : IsGoodEvent one.log one.initial (moved_event base w.event) (writers_in one.witness key) = record {
        in_memory = in_memory;
        fits = g.fits;
        count = g.count;
        there = λ k d l. there-moved _ (g.there k d l);
      } in
      subst (λ e. IsGoodEvent one.log one.initial e (writers_in one.witness key)) w.same made

  shaped : IsWellShaped one
  shaped = record {
    keys = λ key e h.
        let w = was key e h in
        let k = shape.keys key w.event w.there in
        (sym (ap (λ (e : Event). e.thread) w.same) ∙ k.0, sym (ap (λ (e : Event). e.number) w.same) ∙ k.1);
    few = let c = count-same base run.log in let f = shape.few in omega (arith, c, f);
    counts = shape.counts ∙ sym (counts-same base run.log);
    good = good;
    order = record {
      listed = λ key h. shape.order.listed key (some-was key h);
      events = λ n key h. some-moved key (shape.order.events n key h);
      once = shape.order.once;
    };
  }

  piece : IsPiece one run base (λ key. key)
  piece = record {
    aligned = aligned;
    events = λ key e h.
        let w = was key e h in
        let low = (inside key w.event w.there).0 in
        let back : w.event.address ≡ base + (w.event.address - base) = omega (arith, low) in
        let s = w.same in (
          w.event,
          w.there,
          record {
            kind = ap (λ (e : Event). e.kind) s;
            order = ap (λ (e : Event). e.order) s;
            address = back ∙ ap (λ (e : Event). base + e.address) s;
            width = ap (λ (e : Event). e.width) s;
            read = ap (λ (e : Event). e.read) s;
            written = ap (λ (e : Event). e.written) s;
          },
        );
    threads = λ a b h j same l. (same, l);
    order = λ m n a b h k l.
        let p = position_listed run.log run.witness.order shape.order m a h in
        let q = position_listed run.log run.witness.order shape.order n b k in
        omega (arith, p, q, l);
    writers = λ key h. same-ids (writers_in run.witness key);
    initial = λ a l. taken-at count (drop base run.initial) a l ∙ dropped-at base run.initial a;
  }

pub moved-is-valid : MovedIsValid
moved-is-valid run base count shape inside aligned room valid =
    let well = shaped run base count shape inside aligned room in
    (well, piece-is-valid (moved run base count) run base (λ key. key) well (piece run base count shape inside aligned room) valid)
