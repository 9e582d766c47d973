-- The law of a thread's log with the writers of its events.
use Rattle.std.proofs.Common.{◌≡◌, ℕ, suc, List, [], ◌∷◌, length, map, Some, refl, sym, ap, subst, ◌∙◌, arith}
use Rattle.std.specs.Prelude.{zip}
use Rattle.std.specs.List.{All}
use Rattle.std.proofs.lemmas.List.Elements.{All-nil, All-cons, All-head, All-tail}
use Rattle.serde_json.specs.Data.{Data}
use Rattle.wm_event.specs.declared.event.Event.{Event}
use Rattle.wm_event.specs.declared.event.EventId.{EventId}
use Rattle.wm_event.specs.declared.log.ThreadLog.{ThreadLog}
use Rattle.wm_event.specs.Log.{AreEvents}
use Rattle.wm_logfile.specs.declared.thread.ThreadHead.{ThreadHead}
use Rattle.wm_logfile.specs.Document.{list, thread_cells, EventFits, WriterFits}
use Rattle.wm_logfile.specs.Reading.{items_at, number_event_by_at, firsts, seconds, with_events, thread_by_at, limited_thread_by_at}
use Rattle.wm_logfile.proofs.Format.{IsFormat, IsFormatAt, AllFrom, items}
use Rattle.wm_logfile.proofs.EventsBy.{ReadsBy, EventByFits, spell, events_by}
use Rattle.wm_logfile.proofs.Threads.{ThreadIsFit, IsLimited, limited, head_cells, head_of, head_fits, thread_fits, made_takes, made_again}

-- ---- pairs

pub zip_unzip : {A B : Type 0} (zs : List (A × B)) → zip (firsts zs) (seconds zs) ≡ zs
zip_unzip [] = refl
zip_unzip (z ∷ zs) = ap (λ rest. z ∷ rest) (zip_unzip zs)

pub firsts_zip : {A B : Type 0} (xs : List A) (ys : List B) → length ys ≡ length xs → firsts (zip xs ys) ≡ xs
firsts_zip [] ys e = refl
firsts_zip (x ∷ xs) [] e = absurd (omega arith)
firsts_zip (x ∷ xs) (y ∷ ys) e = ap (λ rest. x ∷ rest) (firsts_zip xs ys (omega arith))

pub seconds_zip : {A B : Type 0} (xs : List A) (ys : List B) → length ys ≡ length xs → seconds (zip xs ys) ≡ ys
seconds_zip [] [] e = refl
seconds_zip [] (y ∷ ys) e = absurd (omega arith)
seconds_zip (x ∷ xs) [] e = absurd (omega arith)
seconds_zip (x ∷ xs) (y ∷ ys) e = ap (λ rest. y ∷ rest) (seconds_zip xs ys (omega arith))

pub long_unzip : {A B : Type 0} (zs : List (A × B)) → length (seconds zs) ≡ length (firsts zs)
long_unzip [] = refl
long_unzip (z ∷ zs) = ap suc (long_unzip zs)

-- ---- the thread

abbrev pub With : Type 0
With = Event × List EventId

abbrev pub ThreadWith : Type 0
ThreadWith = ThreadLog × List (List EventId)

abbrev pub zipped : ThreadWith → List With
zipped p = zip p.0.events p.1

abbrev pub Reads : With → Type 0
Reads z = ReadsBy z.0.kind z.1

abbrev pub IsLong : ThreadWith → Type 0
IsLong p = length p.1 ≡ length p.0.events

abbrev pub spell_thread : ThreadWith → Data
spell_thread p = list (thread_cells p.0 (map spell (zipped p)))

pub record ThreadByFits (t : ℕ) (p : ThreadWith) : Type 0 where
  pub fits : ThreadIsFit t p.0
  pub long : IsLong p
  pub writers : All (All WriterFits) p.1
  pub none : All Reads (zipped p)

pub record Apart (t n : ℕ) (zs : List With) : Type 0 where
  pub placed : AreEvents t n (firsts zs)
  pub fit : All EventFits (firsts zs)
  pub writers : All (All WriterFits) (seconds zs)
  pub none : All Reads zs

apart : (t n : ℕ) (zs : List With) → AllFrom (EventByFits t) n zs → Apart t n zs
apart t n [] h = record { placed = tt; fit = All-nil EventFits; writers = All-nil (All WriterFits); none = All-nil Reads }
apart t n (z ∷ zs) h =
    let rest = apart t (suc n) zs h.1 in
    record {
      placed = (h.0.event.0, rest.placed);
      fit = All-cons EventFits z.0 (firsts zs) h.0.event.1 rest.fit;
      writers = All-cons (All WriterFits) z.1 (seconds zs) h.0.writers rest.writers;
      none = All-cons Reads z zs h.0.none rest.none;
    }

together : (t n : ℕ) (es : List Event) (wss : List (List EventId)) → length wss ≡ length es → AreEvents t n es → All EventFits es → All (All WriterFits) wss → All Reads (zip es wss) → AllFrom (EventByFits t) n (zip es wss)
together t n [] wss long placed fit writers none = tt
together t n (e ∷ es) [] long placed fit writers none = absurd (omega arith)
together t n (e ∷ es) (ws ∷ wss) long placed fit writers none = (
  record { event = (placed.0, All-head EventFits e es fit); writers = All-head (All WriterFits) ws wss writers; none = All-head Reads (e, ws) (zip es wss) none },
  together t (suc n) es wss (omega arith) placed.1 (All-tail EventFits e es fit) (All-tail (All WriterFits) ws wss writers) (All-tail Reads (e, ws) (zip es wss) none),
)

abbrev make : ThreadHead → List With → ThreadWith
make h zs = (with_events h (firsts zs), seconds zs)

thread_events : (t : ℕ) → IsFormat (items_at (number_event_by_at t)) (λ zs. list (map spell zs)) (AllFrom (EventByFits t) 0)
thread_events t = items (number_event_by_at t) spell (EventByFits t) (events_by t)

thread_takes : (t : ℕ) (d : Data) (p : ThreadWith) → thread_by_at t d ≡ Some p → (d ≡ spell_thread p) × ThreadByFits t p
thread_takes t d p e =
    let m = made_takes (items_at (number_event_by_at t)) (λ zs. list (map spell zs)) (AllFrom (EventByFits t) 0) make (thread_events t) d p e in
    let parts = apart t 0 m.events m.each in
    let again = zip_unzip m.events in
    let P : ThreadWith → Type 0 = λ x. (d ≡ spell_thread x) × ThreadByFits t x in
    subst P m.made (
      m.spelled ∙ ap (λ (zs : List With). list (head_cells m.head (list (map spell zs)))) (sym again),
      record {
        fits = (parts.placed, thread_fits m.head (firsts m.events) m.fits parts.fit);
        long = long_unzip m.events;
        writers = parts.writers;
        none = subst (All Reads) (sym again) parts.none;
      },
    )

thread_again : (t : ℕ) (p : ThreadWith) → ThreadByFits t p → thread_by_at t (spell_thread p) ≡ Some p
thread_again t p fits =
    made_again (items_at (number_event_by_at t)) (λ zs. list (map spell zs)) (AllFrom (EventByFits t) 0) make (thread_events t) (head_of p.0) (zipped p) (head_fits p.0 fits.fits.1)
    (together t 0 p.0.events p.1 fits.long fits.fits.0 fits.fits.1.events fits.writers fits.none)
    ∙ ap (λ (es : List Event). Some (with_events (head_of p.0) es, seconds (zipped p))) (firsts_zip p.0.events p.1 fits.long)
    ∙ ap (λ (wss : List (List EventId)). Some (p.0, wss)) (seconds_zip p.0.events p.1 fits.long)

pub threads_by : IsFormatAt limited_thread_by_at spell_thread (IsLimited ThreadByFits)
threads_by = limited thread_by_at spell_thread ThreadByFits (record { takes = λ t d p e. thread_takes t d p e; again = λ t p fits. thread_again t p fits })
