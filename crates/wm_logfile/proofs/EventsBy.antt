-- The law of an event with the writers of the bytes that it read.
use Rattle.std.proofs.Common.{◌≡◌, ℕ, ◌≤◌, Bool, true, cond, eqb, leb, List, [], ◌∷◌, ◌++◌, length, take, drop, Option, Some, None, refl, sym, ap, subst, ◌∙◌, arith}
use Rattle.std.specs.List.{All}
use Rattle.std.proofs.lemmas.Bool.{leb-true, le-leb}
use Rattle.std.proofs.lemmas.List.{take-append-drop}
use Rattle.std.proofs.lemmas.List.Elements.{All-nil}
use Rattle.serde_json.specs.Data.{Data, string}
use Rattle.wm_access.specs.declared.AccessWidth.{AccessWidth}
use Rattle.wm_access.specs.AccessWidth.{bytes_of}
use Rattle.wm_access.specs.declared.MemoryOrder.{MemoryOrder}
use Rattle.wm_event.specs.declared.event.Event.{Event}
use Rattle.wm_event.specs.declared.event.EventId.{EventId}
use Rattle.wm_event.specs.declared.event.EventKind.{EventKind}
use Rattle.wm_event.specs.declared.event.EventKind.TheVariants.{Read, Write, Update}
use Rattle.wm_event.specs.Log.{UsesFields}
use Rattle.wm_logfile.specs.Words.{kind_word, order_word}
use Rattle.wm_logfile.specs.Document.{count, values, event_cells, by_cells, event_by, WriterFits}
use Rattle.wm_logfile.specs.Reading.{◌>>=◌, kind_at, u32_max, u64_max, values_len, values_by_len, is_count_by, event_from, by_from, fields_by_at, event_by_at, number_event_by_at}
use Rattle.wm_logfile.proofs.Format.{bind_some, when_some, IsFormat, IsFormatAt, listed}
use Rattle.wm_logfile.proofs.Leaves.{kinds}
use Rattle.wm_logfile.proofs.Events.{FieldsFit, EventIsFit, made, event_from_takes, event_from_again, to_fit, from_fit}
use Rattle.wm_logfile.proofs.Keys.{by_lists}

-- a write has no writers
abbrev pub ReadsBy : EventKind → List EventId → Type 0
ReadsBy k ws = k ≡ Write → ws ≡ []

-- ---- the list of writers

by_takes : (k : EventKind) (ds : List Data) (ws : List EventId) → by_from k ds ≡ Some ws → (ds ≡ by_cells k ws) × All WriterFits ws × ReadsBy k ws
by_takes Read [] ws e = absurd cc
by_takes Read (d ∷ []) ws e =
    let one = by_lists.takes d ws e in
    (ap (λ (x : Data). x ∷ []) one.0, one.1, λ is. absurd cc)
by_takes Read (d ∷ x ∷ ds) ws e = absurd cc
by_takes Write [] ws e =
    let P : List EventId → Type 0 = λ vs. ([] ≡ by_cells Write vs) × All WriterFits vs × ReadsBy Write vs in
    let same : [] ≡ ws = cc in
    subst P same (refl, All-nil WriterFits, λ is. refl)
by_takes Write (d ∷ ds) ws e = absurd cc
by_takes Update [] ws e = absurd cc
by_takes Update (d ∷ []) ws e =
    let one = by_lists.takes d ws e in
    (ap (λ (x : Data). x ∷ []) one.0, one.1, λ is. absurd cc)
by_takes Update (d ∷ x ∷ ds) ws e = absurd cc

by_again : (k : EventKind) (ws : List EventId) → All WriterFits ws → ReadsBy k ws → by_from k (by_cells k ws) ≡ Some ws
by_again Read ws fits none = by_lists.again ws fits
by_again Write ws fits none = ap (λ (vs : List EventId). Some vs) (sym (none refl))
by_again Update ws fits none = by_lists.again ws fits

-- ---- the items after the width

length-rest : (k : EventKind) (r w : ℕ) (ws : List EventId) → eqb (length (values k r w ++ by_cells k ws)) (values_by_len k) ≡ true
length-rest Read r w ws = refl
length-rest Write r w ws = refl
length-rest Update r w ws = refl

is_count-rest : (k : EventKind) (r w : ℕ) (ws : List EventId) → is_count_by (length (values k r w ++ by_cells k ws)) ≡ true
is_count-rest Read r w ws = refl
is_count-rest Write r w ws = refl
is_count-rest Update r w ws = refl

take-rest : (k : EventKind) (r w : ℕ) (ws : List EventId) → take (values_len k) (values k r w ++ by_cells k ws) ≡ values k r w
take-rest Read r w ws = refl
take-rest Write r w ws = refl
take-rest Update r w ws = refl

drop-rest : (k : EventKind) (r w : ℕ) (ws : List EventId) → drop (values_len k) (values k r w ++ by_cells k ws) ≡ by_cells k ws
drop-rest Read r w ws = refl
drop-rest Write r w ws = refl
drop-rest Update r w ws = refl

-- ---- the event

abbrev With : Type 0
With = Event × List EventId

abbrev cells : With → List Data
cells p = event_cells p.0 ++ by_cells p.0.kind p.1

record FieldsByFit (t n : ℕ) (p : With) : Type 0 where
  fields : FieldsFit t n p.0
  writers : All WriterFits p.1
  none : ReadsBy p.0.kind p.1

-- what follows the word of the kind
abbrev after_kind : ℕ → ℕ → EventKind → Data → Data → Data → List Data → Option With
after_kind t n k order address width rest =
    event_from t n k order address width (take (values_len k) rest) >>= λ e. by_from k (drop (values_len k) rest) >>= λ ws. Some (e, ws)

abbrev if_count : ℕ → ℕ → Data → Data → Data → List Data → EventKind → Option With
if_count t n order address width rest k = cond (eqb (length rest) (values_by_len k)) (after_kind t n k order address width rest) None

after_kind_takes : (t n : ℕ) (k : EventKind) (order address width : Data) (rest : List Data) (p : With) → after_kind t n k order address width rest ≡ Some p
    → (string (kind_word k) ∷ order ∷ address ∷ width ∷ rest ≡ cells p) × FieldsByFit t n p
after_kind_takes t n k order address width rest p h =
    let front = take (values_len k) rest in
    let back = drop (values_len k) rest in
    let e = bind_some (event_from t n k order address width front) (λ e. by_from k back >>= λ ws. Some (e, ws)) p h in
    let ws = bind_some (by_from k back) (λ ws. Some (e.0, ws)) p e.2 in
    let event-is = event_from_takes t n k order address width front e.0 e.1 in
    let by-is = by_takes k back ws.0 ws.1 in
    let all : string (kind_word k) ∷ order ∷ address ∷ width ∷ rest ≡ event_cells e.0 ++ by_cells k ws.0 =
    ap (λ (xs : List Data). string (kind_word k) ∷ order ∷ address ∷ width ∷ xs) (sym (take-append-drop (values_len k) rest))
    ∙ ap (λ (xs : List Data). xs ++ back) event-is.0 ∙ ap (λ (xs : List Data). event_cells e.0 ++ xs) by-is.0 in
    let kind : k ≡ e.0.kind = sym event-is.2 in
    let P : With → Type 0 = λ q. (string (kind_word k) ∷ order ∷ address ∷ width ∷ rest ≡ cells q) × FieldsByFit t n q in
    let pair : With = (e.0, ws.0) in
    let same : pair ≡ p = cc in
    subst P same (
      all ∙ ap (λ (j : EventKind). event_cells e.0 ++ by_cells j ws.0) kind,
      record { fields = event-is.1; writers = by-is.1; none = subst (λ (j : EventKind). ReadsBy j ws.0) kind by-is.2 },
    )

fields_take : (t n : ℕ) (ds : List Data) (p : With) → fields_by_at t n ds ≡ Some p → (ds ≡ cells p) × FieldsByFit t n p
unfolding fields_by_at
fields_take t n [] p h = absurd cc
fields_take t n (a ∷ []) p h = absurd cc
fields_take t n (a ∷ b ∷ []) p h = absurd cc
fields_take t n (a ∷ b ∷ c ∷ []) p h = absurd cc
fields_take t n (tag ∷ order ∷ address ∷ width ∷ rest) p h =
    let some_kind = when_some (is_count_by (length rest)) (kind_at tag >>= if_count t n order address width rest) p h in
    let k = bind_some (kind_at tag) (if_count t n order address width rest) p some_kind.1 in
    let g = when_some (eqb (length rest) (values_by_len k.0)) (after_kind t n k.0 order address width rest) p k.2 in
    let one = after_kind_takes t n k.0 order address width rest p g.1 in
    (ap (λ (x : Data). x ∷ order ∷ address ∷ width ∷ rest) (kinds.takes tag k.0 k.1).0 ∙ one.0, one.1)

after_kind_again : (t n : ℕ) (k : EventKind) (o : MemoryOrder) (a : ℕ) (w : AccessWidth) (r v : ℕ) (ws : List EventId) → UsesFields k o r v → a ≤ u32_max → r ≤ u64_max → v ≤ u64_max → All WriterFits ws → ReadsBy k ws
    → after_kind t n k (string (order_word o)) (count a) (count (bytes_of w)) (values k r v ++ by_cells k ws) ≡ Some (made t n k o a w r v, ws)
after_kind_again t n k o a w r v ws uses ha hr hv fits none =
    ap (λ (xs : List Data). event_from t n k (string (order_word o)) (count a) (count (bytes_of w)) xs >>= λ e. by_from k (drop (values_len k) (values k r v ++ by_cells k ws)) >>= λ vs. Some (e, vs)) (take-rest k r v ws)
    ∙ ap (λ (x : Option Event). x >>= λ e. by_from k (drop (values_len k) (values k r v ++ by_cells k ws)) >>= λ vs. Some (e, vs)) (event_from_again t n k o a w r v uses ha hr hv)
    ∙ ap (λ (xs : List Data). by_from k xs >>= λ vs. Some (made t n k o a w r v, vs)) (drop-rest k r v ws)
    ∙ ap (λ (x : Option (List EventId)). x >>= λ vs. Some (made t n k o a w r v, vs)) (by_again k ws fits none)

made_again : (t n : ℕ) (k : EventKind) (o : MemoryOrder) (a : ℕ) (w : AccessWidth) (r v : ℕ) (ws : List EventId) → UsesFields k o r v → a ≤ u32_max → r ≤ u64_max → v ≤ u64_max → All WriterFits ws → ReadsBy k ws
    → fields_by_at t n (string (kind_word k) ∷ string (order_word o) ∷ count a ∷ count (bytes_of w) ∷ (values k r v ++ by_cells k ws)) ≡ Some (made t n k o a w r v, ws)
unfolding fields_by_at
made_again t n k o a w r v ws uses ha hr hv fits none =
    let rest : List Data = values k r v ++ by_cells k ws in
    ap (λ (b : Bool). cond b (kind_at (string (kind_word k)) >>= if_count t n (string (order_word o)) (count a) (count (bytes_of w)) rest) None) (is_count-rest k r v ws)
    ∙ ap (λ (x : Option EventKind). x >>= if_count t n (string (order_word o)) (count a) (count (bytes_of w)) rest) (kinds.again k tt)
    ∙ ap (λ (b : Bool). cond b (after_kind t n k (string (order_word o)) (count a) (count (bytes_of w)) rest) None) (length-rest k r v ws)
    ∙ after_kind_again t n k o a w r v ws uses ha hr hv fits none

fields_again : (t n : ℕ) (p : With) → FieldsByFit t n p → fields_by_at t n (cells p) ≡ Some p
fields_again t n p fits =
    let e = p.0 in
    let f = fits.fields in
    rw (← f.place.0, ← f.place.1) (made_again e.thread e.number e.kind e.order e.address e.width e.read e.written p.1 f.place.2 f.address f.read f.written fits.writers fits.none)

-- an event at its place with its writers, within the limits
pub record EventByFits (t n : ℕ) (p : With) : Type 0 where
  pub event : EventIsFit t n p.0
  pub writers : All WriterFits p.1
  pub none : ReadsBy p.0.kind p.1

abbrev pub spell : With → Data
spell p = event_by p.0 p.1

event_format : (t n : ℕ) → IsFormat (event_by_at t n) spell (FieldsByFit t n)
event_format t n = listed (fields_by_at t n) cells (FieldsByFit t n) (record { takes = λ ds x i. fields_take t n ds x i; again = λ x fits. fields_again t n x fits })

at_takes : (t n : ℕ) (d : Data) (p : With) → number_event_by_at t n d ≡ Some p → (d ≡ spell p) × EventByFits t n p
at_takes t n d p h =
    let g = when_some (leb n u32_max) (event_by_at t n d) p h in
    let one = (event_format t n).takes d p g.1 in
    (one.0, record { event = to_fit t n p.0 (leb-true n u32_max g.0) one.1.fields; writers = one.1.writers; none = one.1.none })

at_again : (t n : ℕ) (p : With) → EventByFits t n p → number_event_by_at t n (spell p) ≡ Some p
at_again t n p fits =
    let le : n ≤ u32_max = omega (arith, fits.event.0.1, fits.event.1.number) in
    ap (λ (b : Bool). cond b (event_by_at t n (spell p)) None) (le-leb n u32_max le)
    ∙ (event_format t n).again p (record { fields = from_fit t n p.0 fits.event; writers = fits.writers; none = fits.none })

pub events_by : (t : ℕ) → IsFormatAt (number_event_by_at t) spell (EventByFits t)
events_by t = record { takes = λ n d p h. at_takes t n d p h; again = λ n p fits. at_again t n p fits }
