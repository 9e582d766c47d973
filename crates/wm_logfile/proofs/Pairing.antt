-- The threads of a log beside the lists of a witness that fits it.
use Rattle.std.proofs.Common.{◌≡◌, ℕ, zero, suc, List, [], ◌∷◌, length, map, drop, slice_get, Option, Some, unwrap_or, refl, sym, ap, subst, ◌∙◌}
use Rattle.std.specs.Prelude.{zip, option_and_then}
use Rattle.std.specs.List.{All}
use Rattle.std.proofs.lemmas.List.{length-map}
use Rattle.std.proofs.lemmas.List.Elements.{All-nil, All-cons, All-head, All-tail}
use Rattle.serde_json.specs.Data.{Data}
use Rattle.wm_event.specs.declared.event.Event.{Event}
use Rattle.wm_event.specs.declared.event.EventId.{EventId}
use Rattle.wm_event.specs.declared.event.EventKey.{EventKey}
use Rattle.wm_event.specs.declared.log.ThreadLog.{ThreadLog}
use Rattle.wm_event.specs.declared.witness.Witness.{Witness}
use Rattle.wm_event.specs.Event.{key_of}
use Rattle.wm_event.specs.Fitting.{FitsEvent, FitsLog}
use Rattle.wm_event.specs.Log.{AreEvents, AreThreads, IsLog}
use Rattle.wm_event.specs.Witness.{writers_in}
use Rattle.wm_logfile.specs.Document.{list, thread_cells, event_by, thread_by}
use Rattle.wm_logfile.specs.Reading.{firsts, seconds}
use Rattle.wm_logfile.proofs.EventsBy.{spell}
use Rattle.wm_logfile.proofs.ThreadsBy.{With, ThreadWith, zipped, Reads, IsLong, spell_thread, firsts_zip, seconds_zip}

next : {A : Type 0} (n : ℕ) (xs : List A) (y : A) (ys : List A) → drop n xs ≡ y ∷ ys → (slice_get xs n ≡ Some y) × (drop (suc n) xs ≡ ys)
next zero [] y ys e = absurd cc
next zero (x ∷ xs) y ys e = (cc, cc)
next (suc n) [] y ys e = absurd cc
next (suc n) (x ∷ xs) y ys e = next n xs y ys e

-- ---- the events of a thread

-- the witness has these writers of the event
abbrev pub Finds : Witness → With → Type 0
Finds w z = writers_in w (key_of z.0) ≡ z.1

abbrev named : ℕ → ℕ → EventKey
named t i = record { thread = t; number = i }

finds_events : (w : Witness) (t n : ℕ) (wss : List (List EventId)) (zs : List With) → AreEvents t n (firsts zs) → slice_get w.writers t ≡ Some wss → drop n wss ≡ seconds zs → All (Finds w) zs
finds_events w t n wss [] placed found e = All-nil (Finds w)
finds_events w t n wss (z ∷ zs) placed found e =
    let here = next n wss z.1 (seconds zs) e in
    let at : writers_in w (named t n) ≡ z.1 =
    ap (λ (o : Option (List (List EventId))). unwrap_or (option_and_then (λ thread. slice_get thread n) o) []) found ∙ ap (λ (o : Option (List EventId)). unwrap_or o []) here.0 in
    let finds : Finds w z = rw (placed.0.0, placed.0.1) at in
    All-cons (Finds w) z zs finds (finds_events w t (suc n) wss zs placed.1 found here.1)

same_events : (w : Witness) (zs : List With) → All (Finds w) zs → map (λ e. event_by e (writers_in w (key_of e))) (firsts zs) ≡ map spell zs
same_events w [] h = refl
same_events w (z ∷ zs) h =
    ap (λ (ws : List EventId). event_by z.0 ws ∷ map (λ e. event_by e (writers_in w (key_of e))) (firsts zs)) (All-head (Finds w) z zs h)
    ∙ ap (λ (rest : List Data). spell z ∷ rest) (same_events w zs (All-tail (Finds w) z zs h))

fits_events : (w : Witness) (zs : List With) → All (Finds w) zs → All Reads zs → All (FitsEvent w) (firsts zs)
fits_events w [] h i = All-nil (FitsEvent w)
fits_events w (z ∷ zs) h i =
    let one : FitsEvent w z.0 = λ is. All-head (Finds w) z zs h ∙ All-head Reads z zs i is in
    All-cons (FitsEvent w) z.0 (firsts zs) one (fits_events w zs (All-tail (Finds w) z zs h) (All-tail Reads z zs i))

reads_events : (w : Witness) (zs : List With) → All (Finds w) zs → All (FitsEvent w) (firsts zs) → All Reads zs
reads_events w [] h i = All-nil Reads
reads_events w (z ∷ zs) h i =
    let one : Reads z = λ is. sym (All-head (Finds w) z zs h) ∙ All-head (FitsEvent w) z.0 (firsts zs) i is in
    All-cons Reads z zs one (reads_events w zs (All-tail (Finds w) z zs h) (All-tail (FitsEvent w) z.0 (firsts zs) i))

-- ---- the threads

abbrev FindsAll : Witness → ThreadWith → Type 0
FindsAll w p = All (Finds w) (zipped p)

abbrev ReadsAll : ThreadWith → Type 0
ReadsAll p = All Reads (zipped p)

abbrev FitsAll : Witness → ThreadLog → Type 0
FitsAll w l = All (FitsEvent w) l.events

finds_threads : (w : Witness) (t : ℕ) (ps : List ThreadWith) → AreThreads t (firsts ps) → All IsLong ps → drop t w.writers ≡ seconds ps → All (FindsAll w) ps
finds_threads w t [] placed long e = All-nil (FindsAll w)
finds_threads w t (p ∷ ps) placed long e =
    let here = next t w.writers p.1 (seconds ps) e in
    let first = All-head IsLong p ps long in
    let finds : FindsAll w p = finds_events w t 0 p.1 (zipped p) (subst (AreEvents t 0) (sym (firsts_zip p.0.events p.1 first)) placed.0) here.0 (sym (seconds_zip p.0.events p.1 first)) in
    All-cons (FindsAll w) p ps finds (finds_threads w (suc t) ps placed.1 (All-tail IsLong p ps long) here.1)

same_threads : (w : Witness) (ps : List ThreadWith) → All (FindsAll w) ps → All IsLong ps → map (thread_by w) (firsts ps) ≡ map spell_thread ps
same_threads w [] h long = refl
same_threads w (p ∷ ps) h long =
    let f : Event → Data = λ e. event_by e (writers_in w (key_of e)) in
    let events : map f p.0.events ≡ map spell (zipped p) =
    ap (map f) (sym (firsts_zip p.0.events p.1 (All-head IsLong p ps long))) ∙ same_events w (zipped p) (All-head (FindsAll w) p ps h) in
    ap (λ (cells : List Data). list (thread_cells p.0 cells) ∷ map (thread_by w) (firsts ps)) events
    ∙ ap (λ (rest : List Data). spell_thread p ∷ rest) (same_threads w ps (All-tail (FindsAll w) p ps h) (All-tail IsLong p ps long))

fits_threads : (w : Witness) (ps : List ThreadWith) → All (FindsAll w) ps → All IsLong ps → All ReadsAll ps → All (FitsAll w) (firsts ps)
fits_threads w [] h long none = All-nil (FitsAll w)
fits_threads w (p ∷ ps) h long none =
    let one : FitsAll w p.0 =
    subst (All (FitsEvent w)) (firsts_zip p.0.events p.1 (All-head IsLong p ps long)) (fits_events w (zipped p) (All-head (FindsAll w) p ps h) (All-head ReadsAll p ps none)) in
    All-cons (FitsAll w) p.0 (firsts ps) one (fits_threads w ps (All-tail (FindsAll w) p ps h) (All-tail IsLong p ps long) (All-tail ReadsAll p ps none))

reads_threads : (w : Witness) (ps : List ThreadWith) → All (FindsAll w) ps → All IsLong ps → All (FitsAll w) (firsts ps) → All ReadsAll ps
reads_threads w [] h long fits = All-nil ReadsAll
reads_threads w (p ∷ ps) h long fits =
    let one : ReadsAll p =
    reads_events w (zipped p) (All-head (FindsAll w) p ps h) (subst (All (FitsEvent w)) (sym (firsts_zip p.0.events p.1 (All-head IsLong p ps long))) (All-head (FitsAll w) p.0 (firsts ps) fits)) in
    All-cons ReadsAll p ps one (reads_threads w ps (All-tail (FindsAll w) p ps h) (All-tail IsLong p ps long) (All-tail (FitsAll w) p.0 (firsts ps) fits))

counts_threads : (ps : List ThreadWith) → All IsLong ps → map (λ wss. length wss) (seconds ps) ≡ map (λ l. length l.events) (firsts ps)
counts_threads [] long = refl
counts_threads (p ∷ ps) long =
    let first : length p.1 ≡ length p.0.events = All-head IsLong p ps long in
    let rest = counts_threads ps (All-tail IsLong p ps long) in
    rw (first, rest) refl

long_threads : (log : List ThreadLog) (all : List (List (List EventId))) → map (λ wss. length wss) all ≡ map (λ l. length l.events) log → All IsLong (zip log all)
long_threads [] all e = All-nil IsLong
long_threads (l ∷ log) [] e = All-nil IsLong
long_threads (l ∷ log) (wss ∷ all) e =
    let first : length wss ≡ length l.events = cc in
    let rest : map (λ wss. length wss) all ≡ map (λ l. length l.events) log = cc in
    All-cons IsLong (l, wss) (zip log all) first (long_threads log all rest)

-- ---- both ways

-- the pairs are the threads with their writers
pub record ArePairs (log : List ThreadLog) (w : Witness) (ps : List ThreadWith) : Type 0 where
  pub threads : firsts ps ≡ log
  pub writers : seconds ps ≡ w.writers
  pub long : All IsLong ps
  pub none : All (λ p. All Reads (zipped p)) ps
  pub spelled : map (thread_by w) log ≡ map spell_thread ps

pub paired : (log : List ThreadLog) (w : Witness) → IsLog log → FitsLog log w → ArePairs log w (zip log w.writers)
paired log w is fits =
    let ps = zip log w.writers in
    let lengths : length w.writers ≡ length log = sym (length-map w.writers (λ wss. length wss)) ∙ ap length fits.counts ∙ length-map log (λ l. length l.events) in
    let threads = firsts_zip log w.writers lengths in
    let lists = seconds_zip log w.writers lengths in
    let long = long_threads log w.writers fits.counts in
    let finds = finds_threads w 0 ps (subst (AreThreads 0) (sym threads) is) long (sym lists) in
    record {
      threads = threads;
      writers = lists;
      long = long;
      none = reads_threads w ps finds long (subst (All (FitsAll w)) (sym threads) fits.writes);
      spelled = ap (map (thread_by w)) (sym threads) ∙ same_threads w ps finds long;
    }

pub record Fit (w : Witness) (ps : List ThreadWith) : Type 0 where
  pub fits : FitsLog (firsts ps) w
  pub spelled : map (thread_by w) (firsts ps) ≡ map spell_thread ps

pub unpaired : (w : Witness) (ps : List ThreadWith) → w.writers ≡ seconds ps → AreThreads 0 (firsts ps) → All IsLong ps → All (λ p. All Reads (zipped p)) ps → Fit w ps
unpaired w ps lists placed long none =
    let finds = finds_threads w 0 ps placed long lists in
    record {
      fits = record { counts = ap (map (λ wss. length wss)) lists ∙ counts_threads ps long; writes = fits_threads w ps finds long none };
      spelled = same_threads w ps finds long;
    }
