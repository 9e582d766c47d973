-- A value spells at most one pair, with no thought of limits.
use Rattle.std.proofs.Common.{◌≡◌, ℕ, suc, List, [], ◌∷◌, ◌++◌, map, Option, Some, None, refl, sym, ap, subst, ◌∙◌, append-nil, arith}
use Rattle.std.specs.Prelude.{codes, zip}
use Rattle.std.specs.List.{All}
use Rattle.std.proofs.lemmas.List.Elements.{All-head, All-tail}
use Rattle.std.proofs.lemmas.Option.{same_Some}
use Rattle.serde_json.specs.Data.{Data, string}
use Rattle.wm_access.specs.declared.AccessWidth.{AccessWidth}
use Rattle.wm_access.specs.AccessWidth.{bytes_of}
use Rattle.wm_event.specs.declared.event.EventKind.{EventKind}
use Rattle.wm_event.specs.declared.event.EventKind.TheVariants.{Read, Write, Update}
use Rattle.wm_access.specs.declared.MemoryOrder.{MemoryOrder}
use Rattle.wm_event.specs.declared.log.TrapKind.{TrapKind}
use Rattle.wm_event.specs.declared.log.End.{End}
use Rattle.wm_event.specs.declared.log.End.TheVariants.{Done, Trap, Cut}
use Rattle.wm_event.specs.declared.event.Event.{Event}
use Rattle.wm_event.specs.declared.event.EventId.{EventId}
use Rattle.wm_event.specs.declared.event.EventId.TheVariants.{Init, At}
use Rattle.wm_event.specs.declared.event.EventKey.{EventKey}
use Rattle.wm_event.specs.declared.log.ThreadLog.{ThreadLog}
use Rattle.wm_event.specs.declared.witness.Witness.{Witness}
use Rattle.wm_event.specs.Fitting.{FitsLog}
use Rattle.wm_event.specs.Log.{UsesFields, IsEvent, AreEvents, AreThreads, IsLog}
use Rattle.wm_event.specs.TrapText.{trap_text}
use Rattle.wm_logfile.specs.Words.{kind_word, order_word}
use Rattle.wm_logfile.specs.Document.{list, count, values, event_cells, event, result_cells, end_cells, end, thread_cells, thread, thread_by, writer_cells, writer, event_writers, thread_writers, writers, by_cells, key_cells, event_key, keys, witness, document_cells, document_1, document_2, IsDocument}
use Rattle.wm_logfile.specs.Document.IsDocument.{first, second}
use Rattle.wm_logfile.specs.Reading.{list_at, width_at, kind_from, order_from, trap_from, firsts, seconds}
use Rattle.wm_logfile.proofs.Events.{made}
use Rattle.wm_logfile.proofs.EventsBy.{ReadsBy, spell}
use Rattle.wm_logfile.proofs.ThreadsBy.{With, ThreadWith, Reads, IsLong, zipped, spell_thread, firsts_zip, seconds_zip}
use Rattle.wm_logfile.proofs.Pairing.{paired}
use Rattle.wm_logfile.proofs.Lists.{list_again}
use Rattle.wm_logfile.proofs.Format.{AllFrom}
use Rattle.wm_logfile.proofs.Leaves.{widths, kind_again, order_again, trap_again}
use Rattle.wm_logfile.proofs.Whole.{witness_of}

list_once : (xs ys : List Data) → list xs ≡ list ys → xs ≡ ys
list_once xs ys e = same_Some xs ys (sym (list_again xs) ∙ ap list_at e ∙ list_again ys)

string_once : (s t : List ℕ) → string s ≡ string t → s ≡ t
string_once s t e = cc

count_once : (m n : ℕ) → count m ≡ count n → m ≡ n
count_once m n e = cc

-- the heads and the rests of two lists that are equal
cells_once : {A : Type 0} (x y : A) (xs ys : List A) → x ∷ xs ≡ y ∷ ys → (x ≡ y) × (xs ≡ ys)
cells_once x y xs ys e = (cc, cc)

map_once : {A : Type 0} (f : A → Data) (P : ℕ → A → Type 0) → ((n : ℕ) (a b : A) → P n a → P n b → f a ≡ f b → a ≡ b) → (n : ℕ) (xs ys : List A) → AllFrom P n xs → AllFrom P n ys → map f xs ≡ map f ys → xs ≡ ys
map_once f P h n [] [] p q e = refl
map_once f P h n [] (y ∷ ys) p q e = absurd cc
map_once f P h n (x ∷ xs) [] p q e = absurd cc
map_once f P h n (x ∷ xs) (y ∷ ys) p q e =
    let c = cells_once (f x) (f y) (map f xs) (map f ys) e in
    let first : x ≡ y = h n x y p.0 q.0 c.0 in
    let others : xs ≡ ys = map_once f P h (suc n) xs ys p.1 q.1 c.1 in
    cc

-- with nothing asked of the items
plain_once : {A : Type 0} (f : A → Data) → ((a b : A) → f a ≡ f b → a ≡ b) → (xs ys : List A) → map f xs ≡ map f ys → xs ≡ ys
plain_once f h [] [] e = refl
plain_once f h [] (y ∷ ys) e = absurd cc
plain_once f h (x ∷ xs) [] e = absurd cc
plain_once f h (x ∷ xs) (y ∷ ys) e =
    let c = cells_once (f x) (f y) (map f xs) (map f ys) e in
    let first : x ≡ y = h x y c.0 in
    let others : xs ≡ ys = plain_once f h xs ys c.1 in
    cc

items_once : {A : Type 0} (f : A → Data) → ((a b : A) → f a ≡ f b → a ≡ b) → (xs ys : List A) → list (map f xs) ≡ list (map f ys) → xs ≡ ys
items_once f h xs ys e = plain_once f h xs ys (list_once (map f xs) (map f ys) e)

kind_once : (j k : EventKind) → string (kind_word j) ≡ string (kind_word k) → j ≡ k
kind_once j k e = same_Some j k (sym (kind_again j) ∙ ap kind_from (string_once (kind_word j) (kind_word k) e) ∙ kind_again k)

order_once : (j k : MemoryOrder) → string (order_word j) ≡ string (order_word k) → j ≡ k
order_once j k e = same_Some j k (sym (order_again j) ∙ ap order_from (string_once (order_word j) (order_word k) e) ∙ order_again k)

trap_once : (j k : TrapKind) → string (trap_text j) ≡ string (trap_text k) → j ≡ k
trap_once j k e = same_Some j k (sym (trap_again j) ∙ ap trap_from (string_once (trap_text j) (trap_text k) e) ∙ trap_again k)

values_once : (k : EventKind) (o p : MemoryOrder) (r w s x : ℕ) → UsesFields k o r w → UsesFields k p s x → values k r w ≡ values k s x → (r ≡ s) × (w ≡ x)
values_once Read o p r w s x h i e = (cc, cc)
values_once Write o p r w s x h i e = (cc, cc)
values_once Update o p r w s x h i e = (cc, cc)

width_once : (v w : AccessWidth) → count (bytes_of v) ≡ count (bytes_of w) → v ≡ w
width_once v w e = same_Some v w (sym (widths.again v tt) ∙ ap width_at e ∙ widths.again w tt)

made_once : (t n : ℕ) (k : EventKind) (o : MemoryOrder) (a : ℕ) (w : AccessWidth) (r v t' n' : ℕ) (k' : EventKind) (o' : MemoryOrder) (a' : ℕ) (w' : AccessWidth) (r' v' : ℕ) → t ≡ t' → n ≡ n' → k ≡ k' → o ≡ o' → a ≡ a' → w ≡ w' → r ≡ r' → v ≡ v' → made t n k o a w r v ≡ made t' n' k' o' a' w' r' v'
made_once t n k o a w r v t' n' k' o' a' w' r' v' e1 e2 e3 e4 e5 e6 e7 e8 = cc

-- the same with more after the values
fields_once : (t n : ℕ) (e f : Event) (ds es : List Data) → IsEvent t n e → IsEvent t n f
    → ((k : EventKind) → values k e.read e.written ++ ds ≡ values k f.read f.written ++ es → e.kind ≡ k → f.kind ≡ k → values k e.read e.written ≡ values k f.read f.written)
    → event_cells e ++ ds ≡ event_cells f ++ es → e ≡ f
fields_once t n e f ds es p q apart c0 =
    let c1 = cells_once (string (kind_word e.kind)) (string (kind_word f.kind)) _ _ c0 in
    let c2 = cells_once (string (order_word e.order)) (string (order_word f.order)) _ _ c1.1 in
    let c3 = cells_once (count e.address) (count f.address) _ _ c2.1 in
    let c4 = cells_once (count (bytes_of e.width)) (count (bytes_of f.width)) _ _ c3.1 in
    let kinds : e.kind ≡ f.kind = kind_once e.kind f.kind c1.0 in
    let rest : values f.kind e.read e.written ++ ds ≡ values f.kind f.read f.written ++ es = ap (λ (k : EventKind). values k e.read e.written ++ ds) (sym kinds) ∙ c4.1 in
    let same_values : values f.kind e.read e.written ≡ values f.kind f.read f.written = apart f.kind rest kinds refl in
    let P : EventKind → Type 0 = λ k. UsesFields k e.order e.read e.written in
    let uses : UsesFields f.kind e.order e.read e.written = subst P kinds p.2 in
    let both = values_once f.kind e.order f.order e.read e.written f.read f.written uses q.2 same_values in
    made_once e.thread e.number e.kind e.order e.address e.width e.read e.written f.thread f.number f.kind f.order f.address f.width f.read f.written
    (p.0 ∙ sym q.0) (p.1 ∙ sym q.1) kinds (order_once e.order f.order c2.0) (count_once e.address f.address c3.0) (width_once e.width f.width c4.0) both.0 both.1

event_once : (t n : ℕ) (e f : Event) → IsEvent t n e → IsEvent t n f → event e ≡ event f → e ≡ f
event_once t n e f p q h =
    fields_once t n e f [] [] p q (λ k same _ _. sym (append-nil (values k e.read e.written)) ∙ same ∙ append-nil (values k f.read f.written))
    (append-nil (event_cells e) ∙ list_once (event_cells e) (event_cells f) h ∙ sym (append-nil (event_cells f)))

events_from : (t n : ℕ) (es : List Event) → AreEvents t n es → AllFrom (IsEvent t) n es
events_from t n [] h = tt
events_from t n (e ∷ es) h = (h.0, events_from t (suc n) es h.1)

result_once : (o p : Option ℕ) → result_cells o ≡ result_cells p → o ≡ p
result_once None None e = refl
result_once None (Some v) e = absurd cc
result_once (Some v) None e = absurd cc
result_once (Some v) (Some w) e = cc

word_apart : (s t : List ℕ) (xs ys : List Data) → string s ∷ xs ≡ string t ∷ ys → s ≡ t
word_apart s t xs ys e = cc

end_cells_once : (e f : End) → end_cells e ≡ end_cells f → e ≡ f
end_cells_once (Done o) (Done p) h =
    let c = cells_once (string (codes "done")) (string (codes "done")) _ _ h in
    let d = cells_once (list (result_cells o)) (list (result_cells p)) _ _ c.1 in
    ap (λ (x : Option ℕ). Done x) (result_once o p (list_once (result_cells o) (result_cells p) d.0))
end_cells_once (Done o) (Trap k) h = (let w = word_apart (codes "done") (codes "trap") _ _ h in absurd cc)
end_cells_once (Done o) Cut h = (let w = word_apart (codes "done") (codes "cut") _ _ h in absurd cc)
end_cells_once (Trap j) (Done p) h = (let w = word_apart (codes "trap") (codes "done") _ _ h in absurd cc)
end_cells_once (Trap j) (Trap k) h =
    let c = cells_once (string (codes "trap")) (string (codes "trap")) _ _ h in
    let d = cells_once (string (trap_text j)) (string (trap_text k)) _ _ c.1 in
    ap (λ (x : TrapKind). Trap x) (trap_once j k d.0)
end_cells_once (Trap j) Cut h = (let w = word_apart (codes "trap") (codes "cut") _ _ h in absurd cc)
end_cells_once Cut (Done p) h = (let w = word_apart (codes "cut") (codes "done") _ _ h in absurd cc)
end_cells_once Cut (Trap k) h = (let w = word_apart (codes "cut") (codes "trap") _ _ h in absurd cc)
end_cells_once Cut Cut h = refl

log_of : List ℕ → List ℕ → End → ℕ → List Event → ThreadLog
log_of s xs e n es = record { start = record { name = s; args = xs }; end = e; steps = n; events = es }

log_of_once : (s t xs ys : List ℕ) (e f : End) (m n : ℕ) (es fs : List Event) → s ≡ t → xs ≡ ys → e ≡ f → m ≡ n → es ≡ fs → log_of s xs e m es ≡ log_of t ys f n fs
log_of_once s t xs ys e f m n es fs e1 e2 e3 e4 e5 = cc

-- a thread's log is determined by its cells, if these determine its events
thread_cells_once : (l m : ThreadLog) (ds es : List Data) → (list ds ≡ list es → l.events ≡ m.events) → thread_cells l ds ≡ thread_cells m es → l ≡ m
unfolding log_of
thread_cells_once l m ds es events h =
    let c1 = cells_once (string l.start.name) (string m.start.name) _ _ h in
    let c2 = cells_once (list (map count l.start.args)) (list (map count m.start.args)) _ _ c1.1 in
    let c3 = cells_once (end l.end) (end m.end) _ _ c2.1 in
    let c4 = cells_once (count l.steps) (count m.steps) _ _ c3.1 in
    let c5 = cells_once (list ds) (list es) _ _ c4.1 in
    log_of_once l.start.name m.start.name l.start.args m.start.args l.end m.end l.steps m.steps l.events m.events
    (string_once l.start.name m.start.name c1.0)
    (items_once count count_once l.start.args m.start.args c2.0)
    (end_cells_once l.end m.end (list_once (end_cells l.end) (end_cells m.end) c3.0))
    (count_once l.steps m.steps c4.0)
    (events c5.0)

-- and these are known too
thread_events_once : (l m : ThreadLog) (ds es : List Data) → thread_cells l ds ≡ thread_cells m es → list ds ≡ list es
thread_events_once l m ds es h =
    let c1 = cells_once (string l.start.name) (string m.start.name) _ _ h in
    let c2 = cells_once (list (map count l.start.args)) (list (map count m.start.args)) _ _ c1.1 in
    let c3 = cells_once (end l.end) (end m.end) _ _ c2.1 in
    let c4 = cells_once (count l.steps) (count m.steps) _ _ c3.1 in
    (cells_once (list ds) (list es) _ _ c4.1).0

thread_once : (t : ℕ) (l m : ThreadLog) → AreEvents t 0 l.events → AreEvents t 0 m.events → thread l ≡ thread m → l ≡ m
thread_once t l m p q h =
    thread_cells_once l m (map event l.events) (map event m.events)
    (λ same. map_once event (IsEvent t) (event_once t) 0 l.events m.events (events_from t 0 l.events p) (events_from t 0 m.events q) (list_once (map event l.events) (map event m.events) same))
    (list_once (thread_cells l (map event l.events)) (thread_cells m (map event m.events)) h)

threads_from : (t : ℕ) (ls : List ThreadLog) → AreThreads t ls → AllFrom (λ n l. AreEvents n 0 l.events) t ls
threads_from t [] h = tt
threads_from t (l ∷ ls) h = (h.0, threads_from (suc t) ls h.1)

key_of : ℕ → ℕ → EventKey
key_of t i = record { thread = t; number = i }

key_of_once : (t u i j : ℕ) → t ≡ u → i ≡ j → key_of t i ≡ key_of u j
key_of_once t u i j e1 e2 = cc

key_cells_once : (p q : EventKey) → key_cells p ≡ key_cells q → p ≡ q
unfolding key_of
key_cells_once p q h =
    let c1 = cells_once (count p.thread) (count q.thread) _ _ h in
    let c2 = cells_once (count p.number) (count q.number) _ _ c1.1 in
    key_of_once p.thread q.thread p.number q.number (count_once p.thread q.thread c1.0) (count_once p.number q.number c2.0)

key_once : (p q : EventKey) → event_key p ≡ event_key q → p ≡ q
key_once p q h = key_cells_once p q (list_once (key_cells p) (key_cells q) h)

writer_cells_once : (v w : EventId) → writer_cells v ≡ writer_cells w → v ≡ w
writer_cells_once Init Init h = refl
writer_cells_once Init (At k) h = absurd cc
writer_cells_once (At j) Init h = absurd cc
writer_cells_once (At j) (At k) h = ap (λ (x : EventKey). At x) (key_cells_once j k h)

writer_once : (v w : EventId) → writer v ≡ writer w → v ≡ w
writer_once v w h = writer_cells_once v w (list_once (writer_cells v) (writer_cells w) h)

witness_of_once : (ws vs : List (List (List EventId))) (o p : List EventKey) → ws ≡ vs → o ≡ p → witness_of ws o ≡ witness_of vs p
witness_of_once ws vs o p e1 e2 = cc

witness_once : (v w : Witness) → witness v ≡ witness w → v ≡ w
witness_once v w h =
    let c0 = list_once (writers v.writers ∷ list (map event_key v.order) ∷ []) (writers w.writers ∷ list (map event_key w.order) ∷ []) h in
    let c1 = cells_once (writers v.writers) (writers w.writers) _ _ c0 in
    let c2 = cells_once (list (map event_key v.order)) (list (map event_key w.order)) _ _ c1.1 in
    witness_of_once v.writers w.writers v.order w.order
    (items_once thread_writers (λ a b. items_once event_writers (λ c d. items_once writer writer_once c d) a b) v.writers w.writers c1.0)
    (items_once event_key key_once v.order w.order c2.0)

-- ---- version 2

pair_once : {A B : Type 0} (p q : A × B) → p.0 ≡ q.0 → p.1 ≡ q.1 → p ≡ q
pair_once {A} {B} p q e f =
    let left : A → A × B = λ x. (x, p.1) in
    let right : B → A × B = λ y. (q.0, y) in
    ap left e ∙ ap right f

values_apart : (k : EventKind) (r w r' w' : ℕ) (ds es : List Data) → values k r w ++ ds ≡ values k r' w' ++ es → (values k r w ≡ values k r' w') × (ds ≡ es)
values_apart Read r w r' w' ds es h = (let c = cells_once (count r) (count r') ds es h in (ap (λ (d : Data). d ∷ []) c.0, c.1))
values_apart Write r w r' w' ds es h = (let c = cells_once (count w) (count w') ds es h in (ap (λ (d : Data). d ∷ []) c.0, c.1))
values_apart Update r w r' w' ds es h =
    let c = cells_once (count r) (count r') (count w ∷ ds) (count w' ∷ es) h in
    let d = cells_once (count w) (count w') ds es c.1 in
    (ap (λ (x : Data). x ∷ count w ∷ []) c.0 ∙ ap (λ (x : Data). count r' ∷ x ∷ []) d.0, d.1)

by_once : (k : EventKind) (ws vs : List EventId) → ReadsBy k ws → ReadsBy k vs → by_cells k ws ≡ by_cells k vs → ws ≡ vs
by_once Read ws vs p q h = items_once writer writer_once ws vs (cells_once (event_writers ws) (event_writers vs) [] [] h).0
by_once Write ws vs p q h = p refl ∙ sym (q refl)
by_once Update ws vs p q h = items_once writer writer_once ws vs (cells_once (event_writers ws) (event_writers vs) [] [] h).0

-- what comes after the cells of an event
cells_after : (e : Event) (ds es : List Data) → event_cells e ++ ds ≡ event_cells e ++ es → ds ≡ es
cells_after e ds es h =
    let c1 = cells_once (string (kind_word e.kind)) (string (kind_word e.kind)) _ _ h in
    let c2 = cells_once (string (order_word e.order)) (string (order_word e.order)) _ _ c1.1 in
    let c3 = cells_once (count e.address) (count e.address) _ _ c2.1 in
    let c4 = cells_once (count (bytes_of e.width)) (count (bytes_of e.width)) _ _ c3.1 in
    (values_apart e.kind e.read e.written e.read e.written ds es c4.1).1

-- an event at its place, with writers where it reads
abbrev PlacedBy : ℕ → ℕ → With → Type 0
PlacedBy t n z = IsEvent t n z.0 × Reads z

with_once : (t n : ℕ) (y z : With) → PlacedBy t n y → PlacedBy t n z → spell y ≡ spell z → y ≡ z
with_once t n y z p q h =
    let cells = list_once (event_cells y.0 ++ by_cells y.0.kind y.1) (event_cells z.0 ++ by_cells z.0.kind z.1) h in
    let events : y.0 ≡ z.0 = fields_once t n y.0 z.0 (by_cells y.0.kind y.1) (by_cells z.0.kind z.1) p.0 q.0 (λ k same _ _. (values_apart k y.0.read y.0.written z.0.read z.0.written _ _ same).0) cells in
    let kinds : y.0.kind ≡ z.0.kind = ap (λ (e : Event). e.kind) events in
    let same : event_cells z.0 ++ by_cells z.0.kind y.1 ≡ event_cells z.0 ++ by_cells z.0.kind z.1 =
    ap (λ (e : Event). event_cells e ++ by_cells e.kind y.1) (sym events) ∙ cells in
    let by = (cells_after z.0 (by_cells z.0.kind y.1) (by_cells z.0.kind z.1) same) in
    pair_once y z events (by_once z.0.kind y.1 z.1 (subst (λ (k : EventKind). ReadsBy k y.1) kinds p.1) q.1 by)

placed_by : (t n : ℕ) (zs : List With) → AreEvents t n (firsts zs) → All Reads zs → AllFrom (PlacedBy t) n zs
placed_by t n [] h i = tt
placed_by t n (z ∷ zs) h i = ((h.0, All-head Reads z zs i), placed_by t (suc n) zs h.1 (All-tail Reads z zs i))

record Placed (t : ℕ) (p : ThreadWith) : Type 0 where
  events : AreEvents t 0 p.0.events
  long : IsLong p
  none : All Reads (zipped p)

thread_with_once : (t : ℕ) (p q : ThreadWith) → Placed t p → Placed t q → spell_thread p ≡ spell_thread q → p ≡ q
thread_with_once t p q h i same =
    let events_of : (p : ThreadWith) → Placed t p → firsts (zipped p) ≡ p.0.events = λ p h. firsts_zip p.0.events p.1 h.long in
    let placed : (p : ThreadWith) → Placed t p → AllFrom (PlacedBy t) 0 (zipped p) = λ p h. placed_by t 0 (zipped p) (subst (AreEvents t 0) (sym (events_of p h)) h.events) h.none in
    let zips : list (map spell (zipped p)) ≡ list (map spell (zipped q)) → zipped p ≡ zipped q = λ e.
    map_once spell (PlacedBy t) (with_once t) 0 (zipped p) (zipped q) (placed p h) (placed q i) (list_once (map spell (zipped p)) (map spell (zipped q)) e) in
    let cells = list_once (thread_cells p.0 (map spell (zipped p))) (thread_cells q.0 (map spell (zipped q))) same in
    let logs : p.0 ≡ q.0 = thread_cells_once p.0 q.0 (map spell (zipped p)) (map spell (zipped q)) (λ e. sym (events_of p h) ∙ ap firsts (zips e) ∙ events_of q i) cells in
    let zip_same : zipped p ≡ zipped q = zips (thread_events_once p.0 q.0 _ _ cells) in
    let writers : p.1 ≡ q.1 = sym (seconds_zip p.0.events p.1 h.long) ∙ ap seconds zip_same ∙ seconds_zip q.0.events q.1 i.long in
    pair_once p q logs writers

threads_placed : (t : ℕ) (ps : List ThreadWith) → AreThreads t (firsts ps) → All IsLong ps → All (λ p. All Reads (zipped p)) ps → AllFrom Placed t ps
threads_placed t [] h long none = tt
threads_placed t (p ∷ ps) h long none = (
  record { events = h.0; long = All-head IsLong p ps long; none = All-head (λ p. All Reads (zipped p)) p ps none },
  threads_placed (suc t) ps h.1 (All-tail IsLong p ps long) (All-tail (λ p. All Reads (zipped p)) p ps none),
)

keys_once : (o p : List EventKey) → keys o ≡ keys p → o ≡ p
keys_once o p h = items_once event_key key_once o p h

-- ---- the whole

cells_apart : (m n : ℕ) (ts us : List Data) (d e : Data) → list (document_cells m ts d) ≡ list (document_cells n us e) → (m ≡ n) × (ts ≡ us) × (d ≡ e)
cells_apart m n ts us d e h =
    let c0 = list_once (document_cells m ts d) (document_cells n us e) h in
    let c1 = cells_once (string (codes "wasm-litmus-log")) (string (codes "wasm-litmus-log")) (count m ∷ list ts ∷ d ∷ []) (count n ∷ list us ∷ e ∷ []) c0 in
    let c2 = cells_once (count m) (count n) _ _ c1.1 in
    let c3 = cells_once (list ts) (list us) _ _ c2.1 in
    let c4 = cells_once d e _ _ c3.1 in
    (count_once m n c2.0, list_once ts us c3.0, c4.0)

first_once : (l m : List ThreadLog) (v w : Witness) → IsLog l → IsLog m → document_1 l v ≡ document_1 m w → (l ≡ m) × (v ≡ w)
first_once l m v w p q h =
    let c = cells_apart 1 1 (map thread l) (map thread m) (witness v) (witness w) h in
    (map_once thread (λ n x. AreEvents n 0 x.events) thread_once 0 l m (threads_from 0 l p) (threads_from 0 m q) c.1, witness_once v w c.2)

second_once : (l m : List ThreadLog) (v w : Witness) → IsLog l → IsLog m → FitsLog l v → FitsLog m w → document_2 l v ≡ document_2 m w → (l ≡ m) × (v ≡ w)
second_once l m v w p q f g h =
    let c = cells_apart 2 2 (map (thread_by v) l) (map (thread_by w) m) (keys v.order) (keys w.order) h in
    let a = paired l v p f in
    let b = paired m w q g in
    let ps = zip l v.writers in
    let qs = zip m w.writers in
    let same : ps ≡ qs = map_once spell_thread Placed thread_with_once 0 ps qs
    (threads_placed 0 ps (subst (AreThreads 0) (sym a.threads) p) a.long a.none) (threads_placed 0 qs (subst (AreThreads 0) (sym b.threads) q) b.long b.none)
    (sym a.spelled ∙ c.1 ∙ b.spelled) in
    let lists : v.writers ≡ w.writers = sym a.writers ∙ ap seconds same ∙ b.writers in
    (sym a.threads ∙ ap firsts same ∙ b.threads, witness_of_once v.writers w.writers v.order w.order lists (keys_once v.order w.order c.2))

-- a value spells at most one pair
pub document_once : (d : Data) (l m : List ThreadLog) (v w : Witness) → IsLog l → IsLog m → IsDocument d l v → IsDocument d m w → (l ≡ m) × (v ≡ w)
document_once d l m v w p q (first h) (first i) = first_once l m v w p q (sym h ∙ i)
document_once d l m v w p q (first h) (second g i) =
    let n : 1 ≡ 2 = (cells_apart 1 2 (map thread l) (map (thread_by w) m) (witness v) (keys w.order) (sym h ∙ i)).0 in
    absurd (omega (arith, n))
document_once d l m v w p q (second f h) (first i) =
    let n : 2 ≡ 1 = (cells_apart 2 1 (map (thread_by v) l) (map thread m) (keys v.order) (witness w) (sym h ∙ i)).0 in
    absurd (omega (arith, n))
document_once d l m v w p q (second f h) (second g i) = second_once l m v w p q f g (sym h ∙ i)
