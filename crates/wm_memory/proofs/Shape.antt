-- What a legal history records is a well-shaped candidate.
use Rattle.std.proofs.Common.{◌≡◌, ◌≢◌, ℕ, zero, suc, Bool, true, false, List, [], ◌∷◌, ◌++◌, ◌+◌, ◌*◌, ◌<◌, ◌≤◌, inl, inr, length, map, refl, ap, sym, ◌∙◌, subst, arith, Option, Some, IsSome, All, slice_get, get_or}
use Rattle.std.specs.List.{sum_by}
use Rattle.std.proofs.lemmas.Bool.{eq-eqb, ne_eqb, cases_eq}
use Rattle.std.proofs.lemmas.List.{map-append}
use Rattle.std.proofs.lemmas.List.Sums.{sum_by-cons, sum_by_push}
use Rattle.std.proofs.lemmas.List.Elements.{All-from_get_or}
use Rattle.std.proofs.lemmas.Option.{slice_get-get_or}
use Rattle.std.proofs.lemmas.Nat.{pow_pos}
use Rattle.wm_access.specs.AccessWidth.{bytes_of, Fits}
use Rattle.wm_event.specs.declared.event.Event.{Event}
use Rattle.wm_event.specs.declared.event.EventKey.{EventKey}
use Rattle.wm_event.specs.declared.event.EventId.{EventId}
use Rattle.wm_event.specs.declared.event.EventId.TheVariants.{Init, At}
use Rattle.wm_event.specs.declared.log.ThreadLog.{ThreadLog}
use Rattle.wm_event.specs.Event.{reads}
use Rattle.wm_event.specs.LoggedRun.{LoggedRun}
use Rattle.wm_event.specs.Shape.{IsWellShaped, IsGoodEvent, IsThere, read_width, event_count, event_counts}
use Rattle.wm_event.specs.Witness.{writers_in as witness_writers}
use Rattle.wm_memory.specs.declared.history_step.HistoryStep.{HistoryStep}
use Rattle.wm_memory.specs.Visibility.{Step, Made, Drained, accesses, events, steps, seen, visible, writers_after}
use Rattle.wm_memory.specs.Legal.{IsLegal}
use Rattle.wm_memory.specs.Recorded.{events_of, writers_of, by_thread, Records}
use Rattle.wm_memory.proofs.ByKey.{event_in, writers_in, before}
use Rattle.wm_memory.proofs.Sound.{Sound, Good, sound_steps}
use Rattle.wm_memory.proofs.Members.{is_made}
use Rattle.wm_memory.proofs.Known.{length-writers_at, writer_is}
use Rattle.wm_memory.proofs.Digits.{value_below}
use Rattle.wm_memory.proofs.Values.{seen_below}
use Rattle.wm_memory.proofs.Listed.{InThreads, in_threads, event_is, writers_are, length-events_of, length-writers_of, order_at, ordered_at, place_in, event_there}

-- the sum of f over the threads
abbrev total : (ℕ → ℕ) → ℕ → ℕ
total f zero = 0
total f (suc n) = total f n + f n

accesses_own : (e : Event) (ws : List EventId) (s : List Step) (t : ℕ) → e.thread ≡ t → accesses (Made e ws ∷ s) t ≡ accesses s t + 1
accesses_own e ws s t h = rw (eq-eqb e.thread t h) refl

accesses_other : (e : Event) (ws : List EventId) (s : List Step) (t : ℕ) → e.thread ≢ t → accesses (Made e ws ∷ s) t ≡ accesses s t
accesses_other e ws s t h = rw (ne_eqb e.thread t h) refl

total_before : (e : Event) (ws : List EventId) (s : List Step) (n : ℕ) → n ≤ e.thread → total (accesses (Made e ws ∷ s)) n ≡ total (accesses s) n
total_before e ws s zero h = refl
total_before e ws s (suc n) h = omega (arith, total_before e ws s n (omega arith), accesses_other e ws s n (λ q. omega (arith, q)))

total_made : (e : Event) (ws : List EventId) (s : List Step) (n : ℕ) → total (accesses (Made e ws ∷ s)) n ≤ total (accesses s) n + 1
total_made e ws s zero = omega arith
total_made e ws s (suc n) = elim (cases_eq e.thread n) [
  | inl h ↦ omega (arith, total_before e ws s n (omega arith), accesses_own e ws s n h)
  | inr h ↦ omega (arith, total_made e ws s n, accesses_other e ws s n h)
]

total_zero : (n : ℕ) → total (accesses []) n ≡ 0
total_zero zero = refl
total_zero (suc n) = omega (arith, total_zero n)

total_events : (s : List Step) (n : ℕ) → total (accesses s) n ≤ length (events s)
total_events [] n = omega (arith, total_zero n)
total_events (Drained t k ∷ s) n = total_events s n
total_events (Made e ws ∷ s) n = omega (arith, total_made e ws s n, total_events s n)

sum_total : (s : List Step) (n : ℕ) → sum_by (λ (es : List Event). length es) (by_thread (events_of s) n) ≡ total (accesses s) n
sum_total s zero = refl
sum_total s (suc n) = sum_by_push (λ (es : List Event). length es) (by_thread (events_of s) n) (events_of s n) ∙ omega (arith, sum_total s n, length-events_of s n)

count_sum : (log : List ThreadLog) → event_count log ≡ sum_by (λ (es : List Event). length es) (map (λ (thread : ThreadLog). thread.events) log)
count_sum [] = refl
count_sum (x ∷ xs) = sum_by-cons (λ (thread : ThreadLog). length thread.events) x xs
    ∙ (ap (λ (n : ℕ). length x.events + n) (count_sum xs) ∙ sym (sum_by-cons (λ (es : List Event). length es) x.events (map (λ (thread : ThreadLog). thread.events) xs)))

counts_events : (log : List ThreadLog) → event_counts log ≡ map (λ (es : List Event). length es) (map (λ (thread : ThreadLog). thread.events) log)
counts_events [] = refl
counts_events (x ∷ xs) = ap (λ (l : List ℕ). length x.events ∷ l) (counts_events xs)

counts_same : (s : List Step) (n : ℕ) → map (λ (ws : List (List EventId)). length ws) (by_thread (writers_of s) n) ≡ map (λ (es : List Event). length es) (by_thread (events_of s) n)
counts_same s zero = refl
counts_same s (suc n) =
    let same : length (writers_of s n) ≡ length (events_of s n) = length-writers_of s n ∙ sym (length-events_of s n) in
    map-append (λ (ws : List (List EventId)). length ws) (by_thread (writers_of s) n) (writers_of s n ∷ [])
    ∙ (ap (λ (l : List ℕ). l ++ length (writers_of s n) ∷ []) (counts_same s n)
    ∙ (ap (λ (m : ℕ). map (λ (es : List Event). length es) (by_thread (events_of s) n) ++ m ∷ []) same
    ∙ sym (map-append (λ (es : List Event). length es) (by_thread (events_of s) n) (events_of s n ∷ []))))

within : (threads : ℕ) (initial : List ℕ) (history : List HistoryStep) → IsLegal threads initial history → length (events (steps initial history)) ≤ 16384
within threads initial [] h = omega arith
within threads initial (item ∷ rest) h = h.2.few

read_fits : (initial : List ℕ) (s : List Step) (e : Event) (ws : List EventId) (b : Bool) → reads e ≡ b → All (λ b. b < 256) initial → Good initial s e ws → Fits e.width e.read
read_fits initial s e ws true eq bytes g = rw (g.value eq) (value_below (seen initial (visible s e.thread)) (λ a. seen_below initial (visible s e.thread) a bytes) e.address (bytes_of e.width))
read_fits initial s e ws false eq bytes g = rw (g.unread eq) (pow_pos (8 * bytes_of e.width))

pub length_writers : (initial : List ℕ) (s : List Step) (e : Event) (b : Bool) → reads e ≡ b → length (writers_after initial s e) ≡ read_width e
length_writers initial s e true eq = rw eq (length-writers_at (seen initial (visible s e.thread)) e.address (bytes_of e.width))
length_writers initial s e false eq = rw eq refl

there_of : (threads : ℕ) (initial : List ℕ) (s : List Step) (run : LoggedRun) → Sound initial s → InThreads threads s → Records threads initial s run
    → (key : EventKey) (e : Event) (k : ℕ) (w : EventId) → event_in s key ≡ Some e → slice_get (writers_in s key) k ≡ Some w → IsThere run.log w
there_of threads initial s run g i r key e k Init h j = tt
there_of threads initial s run g i r key e k (At u) h j =
    let x = writer_is initial s key e k u g h j in
    subst (λ (o : Option Event). IsSome o) (sym (event_is threads initial s run g i r u ∙ x.1.event)) refl

pub good_event : (threads : ℕ) (initial : List ℕ) (s : List Step) (run : LoggedRun) → All (λ b. b < 256) initial → Sound initial s → InThreads threads s → Records threads initial s run
    → (key : EventKey) (e : Event) → event_in s key ≡ Some e → IsGoodEvent run.log run.initial e (witness_writers run.witness key)
good_event threads initial s run bytes g i r key e h =
    let m = is_made initial s key e g h in
    let ws = writers_are threads initial s run g i r key in
    record {
      in_memory = rw r.memory m.good.range;
      fits = (read_fits initial (before s key) e (writers_in s key) (reads e) refl bytes m.good, m.good.written);
      count = ap (λ (l : List EventId). length l) (ws ∙ m.good.writers) ∙ length_writers initial (before s key) e (reads e) refl;
      there = rw ws (All-from_get_or (λ (w : EventId). IsThere run.log w) (writers_in s key) Init (λ k lt.
          there_of threads initial s run g i r key e k (get_or (writers_in s key) k Init) h (slice_get-get_or (writers_in s key) k Init lt)));
    }

pub shape_steps : (threads : ℕ) (initial : List ℕ) (s : List Step) (run : LoggedRun) → All (λ b. b < 256) initial → length (events s) ≤ 16384 → Sound initial s → InThreads threads s → Records threads initial s run → IsWellShaped run
shape_steps threads initial s run bytes few g i r =
    let same = event_is threads initial s run g i r in
    let theirs = writers_are threads initial s run g i r in
    record {
      keys = λ key e h. (let m = is_made initial s key e g (sym (same key) ∙ h) in (ap (λ (k : EventKey). k.thread) m.key, ap (λ (k : EventKey). k.number) m.key));
      few = (let c : event_count run.log ≡ total (accesses s) threads = count_sum run.log ∙ (ap (λ (l : List (List Event)). sum_by (λ (es : List Event). length es) l) r.events ∙ sum_total s threads) in
          omega (arith, c, total_events s threads));
      counts = ap (λ (l : List (List (List EventId))). map (λ (ws : List (List EventId)). length ws) l) r.writers
          ∙ (counts_same s threads ∙ (ap (λ (l : List (List Event)). map (λ (es : List Event). length es) l) (sym r.events) ∙ sym (counts_events run.log)));
      good = λ key e h. good_event threads initial s run bytes g i r key e (sym (same key) ∙ h);
      order = record {
        listed = λ key h. (let e = event_there (event_in s key) (subst (λ (o : Option Event). IsSome o) (same key) h) in
            (place_in s key, ap (λ (l : List EventKey). slice_get l (place_in s key)) r.order ∙ order_at initial s key e.0 g e.1));
        events = λ n key h. (let o = ordered_at initial s n key g (ap (λ (l : List EventKey). slice_get l n) (sym r.order) ∙ h) in
            subst (λ (o : Option Event). IsSome o) (sym (same key ∙ o.made)) refl);
        once = λ m n key h j. (
            let o = ordered_at initial s m key g (ap (λ (l : List EventKey). slice_get l m) (sym r.order) ∙ h) in
            let p = ordered_at initial s n key g (ap (λ (l : List EventKey). slice_get l n) (sym r.order) ∙ j) in
            o.place ∙ sym p.place);
      };
    }

pub well_shaped : (threads : ℕ) (initial : List ℕ) (history : List HistoryStep) (run : LoggedRun) → All (λ b. b < 256) initial → IsLegal threads initial history → Records threads initial (steps initial history) run → IsWellShaped run
well_shaped threads initial history run bytes legal r =
    shape_steps threads initial (steps initial history) run bytes (within threads initial history legal) (sound_steps threads initial history legal) (in_threads threads initial history legal) r
