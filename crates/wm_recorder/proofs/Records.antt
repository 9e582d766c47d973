-- A thread's record among those of the others.
use Rattle.std.proofs.Common.{◌≡◌, ℕ, ◌<◌, ◌≤◌, List, [], length, map, get_or, slice_get, set, Option, None, Some, option_map, unwrap_or, refl, ap, sym, ◌∙◌, subst}
use Rattle.std.proofs.lemmas.List.{map-set}
use Rattle.std.proofs.Math.Seq.{map-set_same}
use Rattle.std.proofs.lemmas.Option.{slice_get_read, slice_get_past, slice_get-map}
use Rattle.wm_event.specs.declared.event.Event.{Event}
use Rattle.wm_event.specs.declared.event.EventId.{EventId}
use Rattle.wm_memory.proofs.Chunks.{slice_get-set_same}
use Rattle.wm_recorder.specs.declared.transcript.ThreadRecord.{ThreadRecord}
use Rattle.wm_recorder.specs.Transcript.{thread_events, thread_writers, SameThread, HasThreadRoom}

pub read_at : (xs : List ThreadRecord) (t : ℕ) (r : ThreadRecord) → t < length xs → r ≡ get_or xs t r → slice_get xs t ≡ Some r
read_at xs t r lt h = slice_get_read xs (length xs) t r refl lt h

pub same_events : (xs : List ThreadRecord) (t : ℕ) (r new : ThreadRecord) → r ≡ get_or xs t r → SameThread r new → thread_events (set xs t new) ≡ thread_events xs
same_events xs t r new h s = map-set_same (λ (x : ThreadRecord). x.events.items) xs t new r (s.events ∙ ap (λ (x : ThreadRecord). x.events.items) h)

pub same_writers : (xs : List ThreadRecord) (t : ℕ) (r new : ThreadRecord) → r ≡ get_or xs t r → SameThread r new → thread_writers (set xs t new) ≡ thread_writers xs
same_writers xs t r new h s = map-set_same (λ (x : ThreadRecord). x.writers.items) xs t new r (s.writers ∙ ap (λ (x : ThreadRecord). x.writers.items) h)

pub set_events : (xs : List ThreadRecord) (t : ℕ) (new : ThreadRecord) (es : List Event) → new.events.items ≡ es → thread_events (set xs t new) ≡ set (thread_events xs) t es
set_events xs t new es h = map-set (λ (x : ThreadRecord). x.events.items) xs t new ∙ ap (λ (l : List Event). set (thread_events xs) t l) h

pub set_writers : (xs : List ThreadRecord) (t : ℕ) (new : ThreadRecord) (ws : List (List EventId)) → new.writers.items ≡ ws → thread_writers (set xs t new) ≡ set (thread_writers xs) t ws
set_writers xs t new ws h = map-set (λ (x : ThreadRecord). x.writers.items) xs t new ∙ ap (λ (l : List (List EventId)). set (thread_writers xs) t l) h

pub room_there : (xs : List ThreadRecord) (t : ℕ) (new : ThreadRecord) → t < length xs → HasThreadRoom new → (r : ThreadRecord) → slice_get (set xs t new) t ≡ Some r → HasThreadRoom r
room_there xs t new lt room r h = subst HasThreadRoom (let q : Some new ≡ Some r = sym (slice_get-set_same xs t new lt) ∙ h in cc) room

pub get_mapped : {X : Type 0} (f : ThreadRecord → X) (xs : List ThreadRecord) (t : ℕ) (r : ThreadRecord) → slice_get xs t ≡ Some r → slice_get (map f xs) t ≡ Some (f r)
get_mapped f xs t r h = slice_get-map f xs t ∙ ap (λ (o : Option ThreadRecord). option_map f o) h

pub past_mapped : {X : Type 0} (f : ThreadRecord → List X) (xs ys : List ThreadRecord) (t : ℕ) → ys ≡ xs → length ys ≤ t → [] ≡ unwrap_or (slice_get (map f xs) t) []
past_mapped {X = X} f xs ys t same past =
    let none : slice_get xs t ≡ None = slice_get_past xs t (subst (λ (l : List ThreadRecord). length l ≤ t) same past) in
    sym (ap (λ (o : Option (List X)). unwrap_or o []) (slice_get-map f xs t ∙ ap (λ (o : Option ThreadRecord). option_map f o) none))
