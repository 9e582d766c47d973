-- The laws of a witness and of the whole document.
use Rattle.std.proofs.Common.{◌≡◌, ℕ, suc, ◌+◌, ◌≤◌, Bool, cond, eqb, leb, inl, inr, List, [], ◌∷◌, length, map, Option, Some, None, refl, sym, ap, subst, ◌∙◌, arith}
use Rattle.std.specs.Prelude.{codes, zip}
use Rattle.std.specs.Str.{bytes_eq}
use Rattle.std.specs.List.{All}
use Rattle.std.proofs.lemmas.List.{length-map}
use Rattle.std.proofs.lemmas.List.Elements.{All-nil, All-cons, All-head, All-tail}
use Rattle.std.proofs.lemmas.Bool.{leb-true, le-leb, eqb-true}
use Rattle.std.proofs.lemmas.Option.{same_Some, none-some, some_pair_parts}
use Rattle.std.proofs.lemmas.Slice.Eq.{bytes_eq-Decides}
use Rattle.serde_json.specs.Data.{Data, string}
use Rattle.serde_json.specs.Find.{as_str, as_number, as_u64}
use Rattle.serde_json.specs.Read.{read}
use Rattle.wm_event.specs.declared.event.EventId.{EventId}
use Rattle.wm_event.specs.declared.event.EventKey.{EventKey}
use Rattle.wm_event.specs.declared.log.ThreadLog.{ThreadLog}
use Rattle.wm_event.specs.declared.witness.Witness.{Witness}
use Rattle.wm_event.specs.Fitting.{FitsLog}
use Rattle.wm_event.specs.Log.{AreThreads, IsLog}
use Rattle.wm_logfile.specs.declared.document.Version.{Version}
use Rattle.wm_logfile.specs.declared.document.Version.TheVariants.{First, Second}
use Rattle.wm_logfile.specs.declared.fault.DocFault.{DocFault}
use Rattle.wm_logfile.specs.declared.fault.DocFault.TheVariants.{NotJson, BadShape, BadVersion, NumberRange, TooLarge, OutOfMemory, Misplaced}
use Rattle.wm_logfile.specs.Document.{count, list, thread, thread_by, writers, keys, witness_cells, witness, IsDocument, ThreadFits, WriterFits, KeyFits, IsWithinLimits, Spells}
use Rattle.wm_logfile.specs.Document.IsDocument.{first, second}
use Rattle.wm_logfile.specs.Faults.{DocRefuses}
use Rattle.wm_logfile.specs.Reading.{◌>>=◌, traverse, writers_at, keys_at, witness_from, witness_at, firsts, seconds, limited_thread_at, limited_thread_by_at, few_from, few_at, name_at, version_from, version_at, parts_from, parts_at, pair_1_at, pair_2_at, pair_at, document_at}
use Rattle.wm_logfile.proofs.Format.{bind_some, when_some, IsFormat, IsFormatAt, AllFrom, listed, traverse_takes, traverse_again}
use Rattle.wm_logfile.proofs.Keys.{all_keys, all_writers}
use Rattle.wm_logfile.proofs.Leaves.{chosen, texts, u64_takes}
use Rattle.wm_logfile.proofs.Pairing.{paired, unpaired}
use Rattle.wm_logfile.proofs.Threads.{ThreadIsFit, IsLimited, threads}
use Rattle.wm_logfile.proofs.ThreadsBy.{ThreadWith, ThreadByFits, zipped, Reads, IsLong, spell_thread, threads_by}

record WitnessFits (w : Witness) : Type 0 where
  writers : All (All (All WriterFits)) w.writers
  order : All KeyFits w.order

abbrev pub witness_of : List (List (List EventId)) → List EventKey → Witness
witness_of ws o = record { writers = ws; order = o }

witness_takes : (ds : List Data) (w : Witness) → witness_from ds ≡ Some w → (ds ≡ witness_cells w) × WitnessFits w
unfolding witness_from
witness_takes [] w h = absurd cc
witness_takes (a ∷ []) w h = absurd cc
witness_takes (a ∷ b ∷ []) w h =
    let ws = bind_some (writers_at a) (λ ws. keys_at b >>= λ o. Some (witness_of ws o)) w h in
    let o = bind_some (keys_at b) (λ o. Some (witness_of ws.0 o)) w ws.2 in
    let ws-are = all_writers.takes a ws.0 ws.1 in
    let o-is = all_keys.takes b o.0 o.1 in
    let P : Witness → Type 0 = λ x. (a ∷ b ∷ [] ≡ witness_cells x) × WitnessFits x in
    let same : witness_of ws.0 o.0 ≡ w = cc in
    subst P same (ap (λ (x : Data). x ∷ b ∷ []) ws-are.0 ∙ ap (λ (x : Data). writers ws.0 ∷ x ∷ []) o-is.0, record { writers = ws-are.1; order = o-is.1 })
witness_takes (a ∷ b ∷ c ∷ ds) w h = absurd cc

witness_again : (w : Witness) → WitnessFits w → witness_from (witness_cells w) ≡ Some w
unfolding witness_from
witness_again w h = rw (all_writers.again w.writers h.writers, all_keys.again w.order h.order) refl

witnesses : IsFormat witness_at witness WitnessFits
witnesses = listed witness_from witness_cells WitnessFits (record { takes = λ ds w h. witness_takes ds w h; again = λ w h. witness_again w h })

-- ---- at most sixteen threads

module _ {A : Type 0} (f : ℕ → Data → Option A) (spell : A → Data) (Fits : ℕ → A → Type 0) (format : IsFormatAt f spell Fits) where
  few_take : (ds : List Data) (xs : List A) → few_from f ds ≡ Some xs → (ds ≡ map spell xs) × (AllFrom Fits 0 xs × (length xs ≤ 16))
  few_take ds xs h =
      let g = when_some (leb (length ds) 16) (traverse f 0 ds) xs h in
      let one = traverse_takes f spell Fits format 0 ds xs g.1 in
      let few : length ds ≤ 16 = leb-true (length ds) 16 g.0 in
      let len : length ds ≡ length xs = ap length one.0 ∙ length-map xs spell in
      (one.0, (one.1, omega arith))

  few_again : (xs : List A) → AllFrom Fits 0 xs × (length xs ≤ 16) → few_from f (map spell xs) ≡ Some xs
  few_again xs h =
      let few : length (map spell xs) ≤ 16 = omega (arith, length-map xs spell, h.1) in
      ap (λ (b : Bool). cond b (traverse f 0 (map spell xs)) None) (le-leb (length (map spell xs)) 16 few) ∙ traverse_again f spell Fits format 0 xs h.0

  pub few : IsFormat (few_at f) (λ xs. list (map spell xs)) (λ xs. AllFrom Fits 0 xs × (length xs ≤ 16))
  few = listed (few_from f) (map spell) (λ xs. AllFrom Fits 0 xs × (length xs ≤ 16)) (record { takes = λ ds xs h. few_take ds xs h; again = λ xs h. few_again xs h })

abbrev pub Pair : Type 0
Pair = List ThreadLog × Witness

pub record WholeFits (x : Pair) : Type 0 where
  pub placed : AreThreads 0 x.0
  pub few : length x.0 ≤ 16
  pub each : All ThreadFits x.0
  pub writers : All (All (All WriterFits)) x.1.writers
  pub order : All KeyFits x.1.order

-- ---- version 1

threads_apart : (t : ℕ) (ls : List ThreadLog) → AllFrom (IsLimited ThreadIsFit) t ls → AreThreads t ls × All ThreadFits ls
threads_apart t [] h = (tt, All-nil ThreadFits)
threads_apart t (l ∷ ls) h = (let rest = threads_apart (suc t) ls h.1 in ((h.0.0.0, rest.0), All-cons ThreadFits l ls h.0.0.1 rest.1))

threads_together : (t : ℕ) (ls : List ThreadLog) → t + length ls ≤ 16 → AreThreads t ls → All ThreadFits ls → AllFrom (IsLimited ThreadIsFit) t ls
threads_together t [] few h i = tt
threads_together t (l ∷ ls) few h i = (((h.0, All-head ThreadFits l ls i), omega arith), threads_together (suc t) ls (omega arith) h.1 (All-tail ThreadFits l ls i))

abbrev all_threads : IsFormat (few_at limited_thread_at) (λ ls. list (map thread ls)) (λ ls. AllFrom (IsLimited ThreadIsFit) 0 ls × (length ls ≤ 16))
all_threads = few limited_thread_at thread (IsLimited ThreadIsFit) threads

record IsPair1 (ts last : Data) (x : Pair) : Type 0 where
  threads : ts ≡ list (map thread x.0)
  behind : last ≡ witness x.1
  fits : WholeFits x

pair_1_takes : (ts last : Data) (x : Pair) → pair_1_at ts last ≡ Some x → IsPair1 ts last x
pair_1_takes ts last x h =
    let ls = bind_some (few_at limited_thread_at ts) (λ ls. witness_at last >>= λ w. Some (ls, w)) x h in
    let w = bind_some (witness_at last) (λ w. Some (ls.0, w)) x ls.2 in
    let threads-are = all_threads.takes ts ls.0 ls.1 in
    let apart = threads_apart 0 ls.0 threads-are.1.0 in
    let witness-is = witnesses.takes last w.0 w.1 in
    let made : Pair = (ls.0, w.0) in
    let same : made ≡ x = cc in
    subst (IsPair1 ts last) same (record {
      threads = threads-are.0;
      behind = witness-is.0;
      fits = record { placed = apart.0; few = threads-are.1.1; each = apart.1; writers = witness-is.1.writers; order = witness-is.1.order };
    })

pair_1_again : (x : Pair) → WholeFits x → pair_1_at (list (map thread x.0)) (witness x.1) ≡ Some x
pair_1_again x fits =
    ap (λ (o : Option (List ThreadLog)). o >>= λ ls. witness_at (witness x.1) >>= λ w. Some (ls, w))
    (all_threads.again x.0 (threads_together 0 x.0 (omega (arith, fits.few)) fits.placed fits.each, fits.few))
    ∙ ap (λ (o : Option Witness). o >>= λ w. Some (x.0, w)) (witnesses.again x.1 (record { writers = fits.writers; order = fits.order }))

-- ---- version 2

record AreApart (t : ℕ) (ps : List ThreadWith) : Type 0 where
  placed : AreThreads t (firsts ps)
  each : All ThreadFits (firsts ps)
  long : All IsLong ps
  writers : All (All (All WriterFits)) (seconds ps)
  none : All (λ p. All Reads (zipped p)) ps

withs_apart : (t : ℕ) (ps : List ThreadWith) → AllFrom (IsLimited ThreadByFits) t ps → AreApart t ps
withs_apart t [] h = record { placed = tt; each = All-nil ThreadFits; long = All-nil IsLong; writers = All-nil (All (All WriterFits)); none = All-nil (λ p. All Reads (zipped p)) }
withs_apart t (p ∷ ps) h =
    let rest = withs_apart (suc t) ps h.1 in
    let one = h.0.0 in
    record {
      placed = (one.fits.0, rest.placed);
      each = All-cons ThreadFits p.0 (firsts ps) one.fits.1 rest.each;
      long = All-cons IsLong p ps one.long rest.long;
      writers = All-cons (All (All WriterFits)) p.1 (seconds ps) one.writers rest.writers;
      none = All-cons (λ q. All Reads (zipped q)) p ps one.none rest.none;
    }

withs_together : (t : ℕ) (ps : List ThreadWith) → t + length ps ≤ 16 → AreApart t ps → AllFrom (IsLimited ThreadByFits) t ps
withs_together t [] few h = tt
withs_together t (p ∷ ps) few h =
    let one : ThreadByFits t p = record {
      fits = (h.placed.0, All-head ThreadFits p.0 (firsts ps) h.each);
      long = All-head IsLong p ps h.long;
      writers = All-head (All (All WriterFits)) p.1 (seconds ps) h.writers;
      none = All-head (λ q. All Reads (zipped q)) p ps h.none;
    } in
    let rest : AreApart (suc t) ps = record {
      placed = h.placed.1;
      each = All-tail ThreadFits p.0 (firsts ps) h.each;
      long = All-tail IsLong p ps h.long;
      writers = All-tail (All (All WriterFits)) p.1 (seconds ps) h.writers;
      none = All-tail (λ q. All Reads (zipped q)) p ps h.none;
    } in
    ((one, omega arith), withs_together (suc t) ps (omega arith) rest)

abbrev all_withs : IsFormat (few_at limited_thread_by_at) (λ ps. list (map spell_thread ps)) (λ ps. AllFrom (IsLimited ThreadByFits) 0 ps × (length ps ≤ 16))
all_withs = few limited_thread_by_at spell_thread (IsLimited ThreadByFits) threads_by

abbrev of_pairs : List ThreadWith → List EventKey → Pair
of_pairs ps o = (firsts ps, witness_of (seconds ps) o)

record IsPair2 (ts last : Data) (x : Pair) : Type 0 where
  threads : ts ≡ list (map (thread_by x.1) x.0)
  behind : last ≡ keys x.1.order
  fits_log : FitsLog x.0 x.1
  fits : WholeFits x

pair_2_takes : (ts last : Data) (x : Pair) → pair_2_at ts last ≡ Some x → IsPair2 ts last x
pair_2_takes ts last x h =
    let ps = bind_some (few_at limited_thread_by_at ts) (λ ps. keys_at last >>= λ o. Some (of_pairs ps o)) x h in
    let o = bind_some (keys_at last) (λ o. Some (of_pairs ps.0 o)) x ps.2 in
    let threads-are = all_withs.takes ts ps.0 ps.1 in
    let apart = withs_apart 0 ps.0 threads-are.1.0 in
    let order-is = all_keys.takes last o.0 o.1 in
    let fit = unpaired (witness_of (seconds ps.0) o.0) ps.0 refl apart.placed apart.long apart.none in
    let same : of_pairs ps.0 o.0 ≡ x = cc in
    subst (IsPair2 ts last) same (record {
      threads = threads-are.0 ∙ ap list (sym fit.spelled);
      behind = order-is.0;
      fits_log = fit.fits;
      fits = record { placed = apart.placed; few = omega (arith, threads-are.1.1, length-map ps.0 (λ p. p.0)); each = apart.each; writers = apart.writers; order = order-is.1 };
    })

pair_2_again : (x : Pair) → FitsLog x.0 x.1 → WholeFits x → pair_2_at (list (map (thread_by x.1) x.0)) (keys x.1.order) ≡ Some x
pair_2_again x fits_log fits =
    let ps = zip x.0 x.1.writers in
    let p = paired x.0 x.1 fits.placed fits_log in
    let apart : AreApart 0 ps = record {
      placed = subst (AreThreads 0) (sym p.threads) fits.placed;
      each = subst (All ThreadFits) (sym p.threads) fits.each;
      long = p.long;
      writers = subst (All (All (All WriterFits))) (sym p.writers) fits.writers;
      none = p.none;
    } in
    let len : length ps ≤ 16 = omega (arith, length-map ps (λ q. q.0), ap length p.threads, fits.few) in
    ap (λ (ds : List Data). pair_2_at (list ds) (keys x.1.order)) p.spelled
    ∙ ap (λ (o : Option (List ThreadWith)). o >>= λ ps. keys_at (keys x.1.order) >>= λ o. Some (of_pairs ps o)) (all_withs.again ps (withs_together 0 ps (omega (arith, len)) apart, len))
    ∙ ap (λ (o : Option (List EventKey)). o >>= λ o. Some (of_pairs ps o)) (all_keys.again x.1.order fits.order)
    ∙ ap (λ (ls : List ThreadLog). Some (ls, witness_of (seconds ps) x.1.order)) p.threads
    ∙ ap (λ (wss : List (List (List EventId))). Some (x.0, witness_of wss x.1.order)) p.writers

-- ---- the whole

abbrev pub version_number : Version → ℕ
version_number First = 1
version_number Second = 2

abbrev pub Parts : Type 0
Parts = Version × Data × Data

abbrev pub parts_cells : Parts → List Data
parts_cells p = string (codes "wasm-litmus-log") ∷ count (version_number p.0) ∷ p.1 ∷ p.2 ∷ []

version_from_takes : (n : ℕ) (v : Version) → version_from n ≡ Some v → n ≡ version_number v
version_from_takes n v h =
    elim (chosen (eqb n 1) (Some First) (cond (eqb n 2) (Some Second) None) (Some v) h) [
      | inl c ↦ (let same : First ≡ v = cc in eqb-true n 1 c.0 ∙ ap version_number same)
      | inr c ↦ (let g = when_some (eqb n 2) (Some Second) v c.1 in let same : Second ≡ v = cc in eqb-true n 2 g.0 ∙ ap version_number same)
    ]

pub version_takes : (d : Data) (v : Version) → version_at d ≡ Some v → d ≡ count (version_number v)
version_takes d v h =
    let one = bind_some (as_number d >>= as_u64) version_from v h in
    u64_takes d one.0 one.1 ∙ ap count (version_from_takes one.0 v one.2)

version_again : (v : Version) → version_at (count (version_number v)) ≡ Some v
version_again First = refl
version_again Second = refl

pub parts_take : (ds : List Data) (p : Parts) → parts_from ds ≡ Some p → (ds ≡ parts_cells p) × Unit {0}
unfolding parts_from
parts_take [] p h = absurd cc
parts_take (a ∷ []) p h = absurd cc
parts_take (a ∷ b ∷ []) p h = absurd cc
parts_take (a ∷ b ∷ c ∷ []) p h = absurd cc
parts_take (a ∷ b ∷ c ∷ d ∷ []) p h =
    let one = bind_some (name_at a) (λ _. version_at b >>= λ v. Some (v, c, d)) p h in
    let s = bind_some (as_str a) (λ s. cond (bytes_eq s (codes "wasm-litmus-log")) (Some tt) None) tt one.1 in
    let g = when_some (bytes_eq s.0 (codes "wasm-litmus-log")) (Some tt) tt s.2 in
    let v = bind_some (version_at b) (λ v. Some (v, c, d)) p one.2 in
    let P : Parts → Type 0 = λ x. (a ∷ b ∷ c ∷ d ∷ [] ≡ parts_cells x) × Unit {0} in
    let made : Parts = (v.0, c, d) in
    let same : made ≡ p = cc in
    subst P same (
      ap (λ (x : Data). x ∷ b ∷ c ∷ d ∷ []) ((texts.takes a s.0 s.1).0 ∙ ap string ((bytes_eq-Decides s.0 (codes "wasm-litmus-log")).0 g.0))
          ∙ ap (λ (x : Data). string (codes "wasm-litmus-log") ∷ x ∷ c ∷ d ∷ []) (version_takes b v.0 v.1),
      tt,
    )
parts_take (a ∷ b ∷ c ∷ d ∷ e ∷ ds) p h = absurd cc

pub parts_again : (p : Parts) → parts_from (parts_cells p) ≡ Some p
unfolding parts_from
parts_again p = ap (λ (o : Option Version). o >>= λ v. Some (v, p.1, p.2)) (version_again p.0)

parts : IsFormat parts_at (λ p. list (parts_cells p)) (λ _. Unit {0})
parts = listed parts_from parts_cells (λ _. Unit {0}) (record { takes = λ ds p h. parts_take ds p h; again = λ p h. parts_again p })

pair_takes : (d : Data) (v : Version) (ts last : Data) (x : Pair) → d ≡ list (parts_cells (v, ts, last)) → pair_at v ts last ≡ Some x → IsDocument d x.0 x.1 × WholeFits x
pair_takes d First ts last x is h =
    let p = pair_1_takes ts last x h in
    (first (is ∙ ap (λ (y : Data). list (parts_cells (First, y, last))) p.threads ∙ ap (λ (y : Data). list (parts_cells (First, list (map thread x.0), y))) p.behind), p.fits)
pair_takes d Second ts last x is h =
    let p = pair_2_takes ts last x h in
    (second p.fits_log (is ∙ ap (λ (y : Data). list (parts_cells (Second, y, last))) p.threads ∙ ap (λ (y : Data). list (parts_cells (Second, list (map (thread_by x.1) x.0), y))) p.behind), p.fits)

whole_takes : (d : Data) (x : Pair) → document_at d ≡ Some x → IsDocument d x.0 x.1 × WholeFits x
whole_takes d x h =
    let p = bind_some (parts_at d) (λ p. pair_at p.0 p.1 p.2) x h in
    pair_takes d p.0.0 p.0.1 p.0.2 x (parts.takes d p.0 p.1).0 p.2

parts_lead : (p : Parts) (x : Pair) → pair_at p.0 p.1 p.2 ≡ Some x → document_at (list (parts_cells p)) ≡ Some x
parts_lead p x h = ap (λ (o : Option Parts). o >>= λ q. pair_at q.0 q.1 q.2) (parts.again p tt) ∙ h

whole_again : (d : Data) (x : Pair) → IsDocument d x.0 x.1 → WholeFits x → document_at d ≡ Some x
whole_again d x (first is) fits = ap document_at is ∙ parts_lead (First, list (map thread x.0), witness x.1) x (pair_1_again x fits)
whole_again d x (second fits_log is) fits = ap document_at is ∙ parts_lead (Second, list (map (thread_by x.1) x.0), keys x.1.order) x (pair_2_again x fits_log fits)

-- ---- for the readers

pub is_log : (d : Data) (ls : List ThreadLog) → few_at limited_thread_at d ≡ Some ls → IsLog ls
is_log d ls h = (threads_apart 0 ls (all_threads.takes d ls h).1.0).0

pub is_log_by : (d : Data) (ps : List ThreadWith) → few_at limited_thread_by_at d ≡ Some ps → IsLog (firsts ps)
is_log_by d ps h = (withs_apart 0 ps (all_withs.takes d ps h).1.0).placed

-- what was read is spelled so, within the limits
pub is_document : (d : Data) (l : List ThreadLog) (w : Witness) → document_at d ≡ Some (l, w) → IsDocument d l w × IsLog l × IsWithinLimits l w
is_document d l w h =
    let one = whole_takes d (l, w) h in
    (one.0, one.1.placed, record { threads = one.1.few; each = one.1.each; writers = one.1.writers; order = one.1.order })

pub document_again : (d : Data) (l : List ThreadLog) (w : Witness) → IsDocument d l w → IsLog l → IsWithinLimits l w → document_at d ≡ Some (l, w)
document_again d l w spelled is h = whole_again d (l, w) spelled (record { placed = is; few = h.threads; each = h.each; writers = h.writers; order = h.order })

same_pair : (a b : List ThreadLog) (v w : Witness) → ◌≡◌ {A = Option Pair} (Some (a, v)) (Some (b, w)) → (a ≡ b) × (v ≡ w)
same_pair a b v w e = some_pair_parts a b v w e

pub only_one : (bytes : List ℕ) (d : Data) (l : List ThreadLog) (w : Witness) (m : List ThreadLog) (v : Witness) → read bytes ≡ Some d → document_at d ≡ Some (l, w) → IsLog m → IsWithinLimits m v → Spells bytes m v → (m ≡ l) × (v ≡ w)
only_one bytes d l w m v text h is fits spells =
    let same : d ≡ spells.value = same_Some d spells.value (sym text ∙ spells.text) in
    same_pair m l v w (sym (document_again spells.value m v spells.spelled is fits) ∙ ap document_at (sym same) ∙ h)

pub none_spelled : (bytes : List ℕ) (d : Data) → read bytes ≡ Some d → document_at d ≡ None → (m : List ThreadLog) (v : Witness) → IsLog m → IsWithinLimits m v → Spells bytes m v → ⊥
none_spelled bytes d text h m v is fits spells =
    let same : d ≡ spells.value = same_Some d spells.value (sym text ∙ spells.text) in
    none-some (m, v) (sym h ∙ ap document_at same ∙ document_again spells.value m v spells.spelled is fits)

pub refusal : (e : DocFault) (d : Data) → (e ≡ OutOfMemory → ⊥) → DocRefuses e (document_at d) → document_at d ≡ None
refusal NotJson d ne h = h
refusal (BadShape p) d ne h = h
refusal BadVersion d ne h = h
refusal (NumberRange p) d ne h = h
refusal TooLarge d ne h = h
refusal OutOfMemory d ne h = absurd (ne refl)
refusal Misplaced d ne h = absurd h
