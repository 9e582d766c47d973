-- A document within the limits is read back from its compact text.
use Rattle.std.proofs.Common.{◌≡◌, ℕ, zero, suc, max, ◌<◌, ◌≤◌, ◌^◌, List, [], ◌∷◌, ◌++◌, map, slice_get, Option, Some, None, unwrap_or, decimal, refl, sym, ap, ◌∙◌, append-nil, arith}
use Rattle.std.specs.Prelude.{option_and_then, IfSome}
use Rattle.std.specs.Option.{option_map}
use Rattle.std.specs.List.{All}
use Rattle.std.proofs.lemmas.List.Elements.{All-nil, All-head, All-tail}
use Rattle.json.specs.Token.{Token}
use Rattle.json.specs.Lex.{tokens}
use Rattle.json.specs.Json as json
use Rattle.json.specs.Tree as tree
use Rattle.json.proofs.Printed.Trees.{value-json_tokens}
use Rattle.serde_json.specs.Data.{Num, Data, null, boolean, number, string, array, object, unsigned, Items, no_items, item, Members, no_members, member, depth, items_depth, members_depth}
use Rattle.serde_json.specs.Read.{read, max_depth, number_of, of_json, of_items}
use Rattle.serde_json.specs.View.{items_of}
use Rattle.serde_json.specs.Written.{outline, items_outline, members_outline, blank, blank_items}
use Rattle.serde_json.proofs.Numbers.{number_of-decimal}
use Rattle.serde_json.proofs.Texts.{unless_float-number_of}
use Rattle.wm_access.specs.declared.AccessWidth.{AccessWidth}
use Rattle.wm_access.specs.declared.AccessWidth.TheVariants.{One, Two, Four, Eight}
use Rattle.wm_access.specs.AccessWidth.{bytes_of}
use Rattle.wm_event.specs.declared.event.Event.{Event}
use Rattle.wm_event.specs.declared.event.EventId.{EventId}
use Rattle.wm_event.specs.declared.event.EventId.TheVariants.{Init, At}
use Rattle.wm_event.specs.declared.event.EventKey.{EventKey}
use Rattle.wm_event.specs.declared.event.EventKind.{EventKind}
use Rattle.wm_event.specs.declared.event.EventKind.TheVariants.{Read, Write, Update}
use Rattle.wm_event.specs.declared.log.End.{End}
use Rattle.wm_event.specs.declared.log.End.TheVariants.{Done, Trap, Cut}
use Rattle.wm_event.specs.declared.log.ThreadLog.{ThreadLog}
use Rattle.wm_event.specs.declared.witness.Witness.{Witness}
use Rattle.wm_event.specs.Event.{key_of}
use Rattle.wm_event.specs.Witness.{writers_in}
use Rattle.wm_logfile.specs.Document.{count, values, by_cells, event_by, event_writers, result_cells, end, thread_by, event_key, writer, document_2, EventFits, EndFits, ThreadFits, WriterFits, KeyFits, IsWithinLimits}
use Rattle.wm_logfile.specs.Tokens.{tokens_of}

-- ---- the outline nests as deep

abbrev mutual
  depth-outline : (d : Data) → tree.depth (outline d) ≡ depth d
  depth-outline null = refl
  depth-outline (boolean b) = refl
  depth-outline (number n) = refl
  depth-outline (string s) = refl
  depth-outline (array ds) = ap suc (items_depth-outline ds)
  depth-outline (object ms) = ap suc (members_depth-outline ms)

  items_depth-outline : (ds : Items) → tree.items_depth (items_outline ds) ≡ items_depth ds
  items_depth-outline no_items = refl
  items_depth-outline (item d ds) = ap (λ n. max n (tree.items_depth (items_outline ds))) (depth-outline d) ∙ ap (max (depth d)) (items_depth-outline ds)

  members_depth-outline : (ms : Members) → tree.members_depth (members_outline ms) ≡ members_depth ms
  members_depth-outline no_members = refl
  members_depth-outline (member k d ms) = ap (λ n. max n (tree.members_depth (members_outline ms))) (depth-outline d) ∙ ap (max (depth d)) (members_depth-outline ms)

-- ---- values whose outline is read as they are, and that nest at most n levels deep

record IsPlain (n : ℕ) (d : Data) : Type 0 where
  reads : of_json (outline d) ≡ Some d
  kept : blank (outline d) ≡ outline d
  shallow : depth d ≤ n

record ArePlain (n : ℕ) (ds : Items) : Type 0 where
  reads : of_items (items_outline ds) ≡ Some ds
  kept : blank_items (items_outline ds) ≡ items_outline ds
  shallow : items_depth ds ≤ n

plain_nil : (n : ℕ) → ArePlain n no_items
plain_nil n = record { reads = refl; kept = refl; shallow = omega arith }

plain_cons : (n : ℕ) (d : Data) (ds : Items) → IsPlain n d → ArePlain n ds → ArePlain n (item d ds)
plain_cons n d ds h i = record {
  reads = rw (h.reads, i.reads) refl;
  kept = rw (h.kept, i.kept) refl;
  shallow = omega (arith, h.shallow, i.shallow);
}

plain_map : {A : Type 0} (f : A → Data) (P : A → Type 0) (n : ℕ) → ((a : A) → P a → IsPlain n (f a)) → (xs : List A) → All P xs → ArePlain n (items_of (map f xs))
plain_map f P n h [] fits = plain_nil n
plain_map f P n h (x ∷ xs) fits = plain_cons n (f x) (items_of (map f xs)) (h x (All-head P x xs fits)) (plain_map f P n h xs (All-tail P x xs fits))

plain_list : (n : ℕ) (ds : Items) → ArePlain n ds → IsPlain (suc n) (array ds)
plain_list n ds h = record {
  reads = ap (λ (r : Option Items). option_map array r) h.reads;
  kept = ap json.array h.kept;
  shallow = omega (arith, h.shallow);
}

plain_word : (n : ℕ) (s : List ℕ) → IsPlain n (string s)
plain_word n s = record { reads = refl; kept = refl; shallow = omega arith }

plain_count : (n k : ℕ) → k < 2 ^ 64 → IsPlain n (count k)
plain_count n k lt =
    let read : number_of (decimal k) ≡ Some (unsigned k) = number_of-decimal k lt in
    record {
      reads = ap (λ (r : Option Num). option_map number r) read;
      kept = ap json.number (unless_float-number_of (decimal k) (unsigned k) read);
      shallow = omega arith;
    }

deeper : (m n : ℕ) (d : Data) → m ≤ n → IsPlain m d → IsPlain n d
deeper m n d le h = record { reads = h.reads; kept = h.kept; shallow = omega (arith, h.shallow) }

-- ---- the parts of a document

plain_key : (key : EventKey) → KeyFits key → IsPlain 1 (event_key key)
plain_key key fits = plain_list 0 _ (plain_cons 0 _ _ (plain_count 0 key.thread (omega (arith, fits.thread))) (plain_cons 0 _ _ (plain_count 0 key.number (omega (arith, fits.number))) (plain_nil 0)))

plain_writer : (w : EventId) → WriterFits w → IsPlain 1 (writer w)
plain_writer Init fits = plain_list 0 _ (plain_nil 0)
plain_writer (At key) fits = plain_key key fits

plain_writers : (ws : List EventId) → All WriterFits ws → IsPlain 2 (event_writers ws)
plain_writers ws fits = plain_list 1 _ (plain_map writer WriterFits 1 plain_writer ws fits)

plain_by : (k : EventKind) (ws : List EventId) → All WriterFits ws → ArePlain 2 (items_of (by_cells k ws))
plain_by Read ws fits = plain_cons 2 _ _ (plain_writers ws fits) (plain_nil 2)
plain_by Write ws fits = plain_nil 2
plain_by Update ws fits = plain_cons 2 _ _ (plain_writers ws fits) (plain_nil 2)

plain_values : (k : EventKind) (r w : ℕ) (ds : List Data) → r < 2 ^ 64 → w < 2 ^ 64 → ArePlain 2 (items_of ds) → ArePlain 2 (items_of (values k r w ++ ds))
plain_values Read r w ds hr hw rest = plain_cons 2 _ _ (plain_count 2 r hr) rest
plain_values Write r w ds hr hw rest = plain_cons 2 _ _ (plain_count 2 w hw) rest
plain_values Update r w ds hr hw rest = plain_cons 2 _ _ (plain_count 2 r hr) (plain_cons 2 _ _ (plain_count 2 w hw) rest)

width_small : (w : AccessWidth) → bytes_of w < 2 ^ 64
width_small One = omega arith
width_small Two = omega arith
width_small Four = omega arith
width_small Eight = omega arith

plain_event : (e : Event) (ws : List EventId) → EventFits e → All WriterFits ws → IsPlain 3 (event_by e ws)
plain_event e ws fits all =
    let behind = plain_values e.kind e.read e.written (by_cells e.kind ws) fits.read fits.written (plain_by e.kind ws all) in
    let width = plain_count 2 (bytes_of e.width) (width_small e.width) in
    plain_list 2 _ (plain_cons 2 _ _ (plain_word 2 _) (plain_cons 2 _ _ (plain_word 2 _) (plain_cons 2 _ _ (plain_count 2 e.address (omega (arith, fits.address))) (plain_cons 2 _ _ width behind))))

plain_result : (o : Option ℕ) → IfSome o (λ v. v < 2 ^ 64) → ArePlain 0 (items_of (result_cells o))
plain_result None fits = plain_nil 0
plain_result (Some v) fits = plain_cons 0 _ _ (plain_count 0 v fits) (plain_nil 0)

plain_end : (e : End) → EndFits e → IsPlain 2 (end e)
plain_end (Done o) fits = plain_list 1 _ (plain_cons 1 _ _ (plain_word 1 _) (plain_cons 1 _ _ (plain_list 0 _ (plain_result o fits)) (plain_nil 1)))
plain_end (Trap k) fits = plain_list 1 _ (plain_cons 1 _ _ (plain_word 1 _) (plain_cons 1 _ _ (plain_word 1 _) (plain_nil 1)))
plain_end Cut fits = plain_list 1 _ (plain_cons 1 _ _ (plain_word 1 _) (plain_nil 1))

-- the writers that a witness within the limits has for an event are within them
found_event : (wss : List (List EventId)) (n : ℕ) → All (All WriterFits) wss → All WriterFits (unwrap_or (slice_get wss n) [])
found_event [] n h = All-nil WriterFits
found_event (ws ∷ wss) zero h = All-head (All WriterFits) ws wss h
found_event (ws ∷ wss) (suc n) h = found_event wss n (All-tail (All WriterFits) ws wss h)

found : (all : List (List (List EventId))) (t n : ℕ) → All (All (All WriterFits)) all → All WriterFits (unwrap_or (option_and_then (λ thread. slice_get thread n) (slice_get all t)) [])
found [] t n h = All-nil WriterFits
found (wss ∷ all) zero n h = found_event wss n (All-head (All (All WriterFits)) wss all h)
found (wss ∷ all) (suc t) n h = found all t n (All-tail (All (All WriterFits)) wss all h)

plain_thread : (w : Witness) → All (All (All WriterFits)) w.writers → (l : ThreadLog) → ThreadFits l → IsPlain 5 (thread_by w l)
plain_thread w all l fits =
    let args = plain_list 0 _ (plain_map count (λ a. a < 2 ^ 64) 0 (plain_count 0) l.start.args fits.args) in
    let events = plain_list 3 _ (plain_map (λ e. event_by e (writers_in w (key_of e))) EventFits 3 (λ e h. plain_event e (writers_in w (key_of e)) h (found w.writers e.thread e.number all)) l.events fits.events) in
    plain_list 4 _ (plain_cons 4 _ _ (plain_word 4 _) (plain_cons 4 _ _ (deeper 1 4 _ (omega arith) args) (plain_cons 4 _ _ (deeper 2 4 _ (omega arith) (plain_end l.end fits.end)) (plain_cons 4 _ _ (plain_count 4 l.steps (omega (arith, fits.steps))) (plain_cons 4 _ _ events (plain_nil 4))))))

plain_document : (log : List ThreadLog) (w : Witness) → IsWithinLimits log w → IsPlain 7 (document_2 log w)
plain_document log w h =
    let threads = plain_list 5 _ (plain_map (thread_by w) ThreadFits 5 (plain_thread w h.writers) log h.each) in
    let order = plain_list 1 _ (plain_map event_key KeyFits 1 plain_key w.order h.order) in
    plain_list 6 _ (plain_cons 6 _ _ (plain_word 6 _) (plain_cons 6 _ _ (plain_count 6 2 (omega arith)) (plain_cons 6 _ _ threads (plain_cons 6 _ _ (deeper 2 6 _ (omega arith) order) (plain_nil 6)))))

abbrev whole : Option (json.Json × List Token) → Option Data
whole o = option_and_then of_json (option_and_then (λ p. json.if_last p.0 p.1) o)

-- text with the tokens of a document is read as that document
pub reads_back : (log : List ThreadLog) (w : Witness) (text : List ℕ) → IsWithinLimits log w → tokens text ≡ tokens_of (document_2 log w) → read text ≡ Some (document_2 log w)
reads_back log w text h same =
    let d = document_2 log w in
    let plain = plain_document log w h in
    let shallow : tree.depth (outline d) ≤ max_depth = omega (arith, depth-outline d, plain.shallow) in
    ap whole (ap (json.value max_depth) (same ∙ sym (append-nil _)) ∙ value-json_tokens (outline d) max_depth [] shallow) ∙ plain.reads
