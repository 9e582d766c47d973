-- The law of an event.
use Rattle.std.proofs.Common.{◌≡◌, ℕ, ◌≤◌, Bool, true, cond, eqb, leb, List, [], ◌∷◌, length, Option, Some, None, refl, sym, ap, subst, ◌∙◌, arith}
use Rattle.std.proofs.lemmas.Bool.{leb-true, le-leb}
use Rattle.serde_json.specs.Data.{Data, string}
use Rattle.wm_access.specs.declared.AccessWidth.{AccessWidth}
use Rattle.wm_access.specs.AccessWidth.{bytes_of}
use Rattle.wm_access.specs.MemoryOrder.{is_sequential}
use Rattle.wm_event.specs.declared.event.EventKind.{EventKind}
use Rattle.wm_event.specs.declared.event.EventKind.TheVariants.{Read, Write, Update}
use Rattle.wm_access.specs.declared.MemoryOrder.{MemoryOrder}
use Rattle.wm_access.specs.declared.MemoryOrder.TheVariants.{Unordered, SeqCst}
use Rattle.wm_event.specs.declared.event.Event.{Event}
use Rattle.wm_event.specs.Log.{UsesFields, IsEvent}
use Rattle.wm_logfile.specs.Words.{kind_word, order_word}
use Rattle.wm_logfile.specs.Document.{count, values, event_cells, event, EventFits}
use Rattle.wm_logfile.specs.Reading.{◌>>=◌, number_at, width_at, kind_at, order_at, order_for, u32_max, u64_max, values_len, values_at, is_count, event_from, fields_at, event_at, number_event_at}
use Rattle.wm_logfile.proofs.Format.{bind_some, when_some, IsFormatAt, listed}
use Rattle.wm_logfile.proofs.Leaves.{numbers, kinds, orders, widths}

-- what the order of an event of the kind may be
abbrev OrderFits : EventKind → MemoryOrder → Type 0
OrderFits Read o = Unit {0}
OrderFits Write o = Unit {0}
OrderFits Update o = o ≡ SeqCst

seq_cst_is : (o p : MemoryOrder) → cond (is_sequential o) (Some o) None ≡ Some p → (o ≡ p) × (p ≡ SeqCst)
seq_cst_is Unordered p e = absurd cc
seq_cst_is SeqCst p e = let same : SeqCst ≡ p = cc in (same, sym same)

order_takes : (k : EventKind) (d : Data) (o : MemoryOrder) → order_for k d ≡ Some o → (d ≡ string (order_word o)) × OrderFits k o
order_takes Read d o e = orders.takes d o e
order_takes Write d o e = orders.takes d o e
order_takes Update d o e =
    let one = bind_some (order_at d) (λ p. cond (is_sequential p) (Some p) None) o e in
    let same = seq_cst_is one.0 o one.2 in
    ((orders.takes d one.0 one.1).0 ∙ ap (λ (p : MemoryOrder). string (order_word p)) same.0, same.1)

order_again : (k : EventKind) (o : MemoryOrder) → OrderFits k o → order_for k (string (order_word o)) ≡ Some o
order_again Read o h = orders.again o tt
order_again Write o h = orders.again o tt
order_again Update o h = rw h refl

-- the value that the kind doesn't use is 0
abbrev ValuesFit : EventKind → ℕ → ℕ → Type 0
ValuesFit Read r w = w ≡ 0
ValuesFit Write r w = r ≡ 0
ValuesFit Update r w = Unit {0}

record IsValues (k : EventKind) (ds : List Data) (r w : ℕ) : Type 0 where
  cells : ds ≡ values k r w
  read : r ≤ u64_max
  written : w ≤ u64_max
  fit : ValuesFit k r w

values_take : (k : EventKind) (ds : List Data) (p : ℕ × ℕ) → values_at k ds ≡ Some p → IsValues k ds p.0 p.1
values_take Read [] p e = absurd cc
values_take Read (v ∷ []) p e =
    let one = bind_some (number_at u64_max v) (λ n. Some (n, 0)) p e in
    let h = (numbers u64_max).takes v one.0 one.1 in
    let made : ℕ × ℕ = (one.0, 0) in
    let same : made ≡ p = cc in
    let P : ℕ × ℕ → Type 0 = λ q. IsValues Read (v ∷ []) q.0 q.1 in
    subst P same (record { cells = ap (λ (x : Data). x ∷ []) h.0; read = h.1; written = omega arith; fit = refl })
values_take Read (v ∷ x ∷ rest) p e = absurd cc
values_take Write [] p e = absurd cc
values_take Write (v ∷ []) p e =
    let one = bind_some (number_at u64_max v) (λ n. Some (0, n)) p e in
    let h = (numbers u64_max).takes v one.0 one.1 in
    let made : ℕ × ℕ = (0, one.0) in
    let same : made ≡ p = cc in
    let P : ℕ × ℕ → Type 0 = λ q. IsValues Write (v ∷ []) q.0 q.1 in
    subst P same (record { cells = ap (λ (x : Data). x ∷ []) h.0; read = omega arith; written = h.1; fit = refl })
values_take Write (v ∷ x ∷ rest) p e = absurd cc
values_take Update [] p e = absurd cc
values_take Update (r ∷ []) p e = absurd cc
values_take Update (r ∷ v ∷ []) p e =
    let one = bind_some (number_at u64_max r) (λ m. number_at u64_max v >>= λ n. Some (m, n)) p e in
    let two = bind_some (number_at u64_max v) (λ n. Some (one.0, n)) p one.2 in
    let h = (numbers u64_max).takes r one.0 one.1 in
    let i = (numbers u64_max).takes v two.0 two.1 in
    let made : ℕ × ℕ = (one.0, two.0) in
    let same : made ≡ p = cc in
    let P : ℕ × ℕ → Type 0 = λ q. IsValues Update (r ∷ v ∷ []) q.0 q.1 in
    subst P same (record { cells = ap (λ (x : Data). x ∷ v ∷ []) h.0 ∙ ap (λ (x : Data). count one.0 ∷ x ∷ []) i.0; read = h.1; written = i.1; fit = tt })
values_take Update (r ∷ v ∷ x ∷ rest) p e = absurd cc

values_again : (k : EventKind) (r w : ℕ) → r ≤ u64_max → w ≤ u64_max → ValuesFit k r w → values_at k (values k r w) ≡ Some (r, w)
values_again Read r w hr hw fit = rw ((numbers u64_max).again r hr, fit) refl
values_again Write r w hr hw fit = rw ((numbers u64_max).again w hw, fit) refl
values_again Update r w hr hw fit = rw ((numbers u64_max).again r hr, (numbers u64_max).again w hw) refl

length-values : (k : EventKind) (r w : ℕ) → eqb (length (values k r w)) (values_len k) ≡ true
length-values Read r w = refl
length-values Write r w = refl
length-values Update r w = refl

is_count-values : (k : EventKind) (r w : ℕ) → is_count (length (values k r w)) ≡ true
is_count-values Read r w = refl
is_count-values Write r w = refl
is_count-values Update r w = refl

uses_fields : (k : EventKind) (o : MemoryOrder) (r w : ℕ) → OrderFits k o → ValuesFit k r w → UsesFields k o r w
uses_fields Read o r w ho hv = hv
uses_fields Write o r w ho hv = hv
uses_fields Update o r w ho hv = ho

order_fits : (k : EventKind) (o : MemoryOrder) (r w : ℕ) → UsesFields k o r w → OrderFits k o
order_fits Read o r w h = tt
order_fits Write o r w h = tt
order_fits Update o r w h = h

values_fit : (k : EventKind) (o : MemoryOrder) (r w : ℕ) → UsesFields k o r w → ValuesFit k r w
values_fit Read o r w h = h
values_fit Write o r w h = h
values_fit Update o r w h = tt

-- ---- the event

pub record FieldsFit (t n : ℕ) (e : Event) : Type 0 where
  pub place : IsEvent t n e
  pub address : e.address ≤ u32_max
  pub read : e.read ≤ u64_max
  pub written : e.written ≤ u64_max

abbrev pub made : ℕ → ℕ → EventKind → MemoryOrder → ℕ → AccessWidth → ℕ → ℕ → Event
made t n k o a w r v = record { thread = t; number = n; kind = k; order = o; address = a; width = w; read = r; written = v }

-- after the word of the kind
pub event_from_takes : (t n : ℕ) (k : EventKind) (order address width : Data) (vs : List Data) (e : Event) → event_from t n k order address width vs ≡ Some e
    → (string (kind_word k) ∷ order ∷ address ∷ width ∷ vs ≡ event_cells e) × FieldsFit t n e × (e.kind ≡ k)
event_from_takes t n k order address width vs e h =
    let o = bind_some (order_for k order) (λ o. number_at u32_max address >>= λ a. width_at width >>= λ w. values_at k vs >>= λ v. Some (made t n k o a w v.0 v.1)) e h in
    let a = bind_some (number_at u32_max address) (λ a. width_at width >>= λ w. values_at k vs >>= λ v. Some (made t n k o.0 a w v.0 v.1)) e o.2 in
    let w = bind_some (width_at width) (λ w. values_at k vs >>= λ v. Some (made t n k o.0 a.0 w v.0 v.1)) e a.2 in
    let v = bind_some (values_at k vs) (λ v. Some (made t n k o.0 a.0 w.0 v.0 v.1)) e w.2 in
    let order-is = order_takes k order o.0 o.1 in
    let address-is = (numbers u32_max).takes address a.0 a.1 in
    let width-is = widths.takes width w.0 w.1 in
    let values-are = values_take k vs v.0 v.1 in
    let same : made t n k o.0 a.0 w.0 v.0.0 v.0.1 ≡ e = cc in
    let P : Event → Type 0 = λ x. (string (kind_word k) ∷ order ∷ address ∷ width ∷ vs ≡ event_cells x) × FieldsFit t n x × (x.kind ≡ k) in
    subst P same (
      ap (λ (x : Data). string (kind_word k) ∷ x ∷ address ∷ width ∷ vs) order-is.0
          ∙ ap (λ (x : Data). string (kind_word k) ∷ string (order_word o.0) ∷ x ∷ width ∷ vs) address-is.0
          ∙ ap (λ (x : Data). string (kind_word k) ∷ string (order_word o.0) ∷ count a.0 ∷ x ∷ vs) width-is.0
          ∙ ap (λ (x : List Data). string (kind_word k) ∷ string (order_word o.0) ∷ count a.0 ∷ count (bytes_of w.0) ∷ x) values-are.cells,
      record { place = (refl, refl, uses_fields k o.0 v.0.0 v.0.1 order-is.1 values-are.fit); address = address-is.1; read = values-are.read; written = values-are.written },
      refl,
    )

fields_take : (t n : ℕ) (ds : List Data) (e : Event) → fields_at t n ds ≡ Some e → (ds ≡ event_cells e) × FieldsFit t n e
unfolding fields_at
fields_take t n [] e h = absurd cc
fields_take t n (a ∷ []) e h = absurd cc
fields_take t n (a ∷ b ∷ []) e h = absurd cc
fields_take t n (a ∷ b ∷ c ∷ []) e h = absurd cc
fields_take t n (tag ∷ order ∷ address ∷ width ∷ vs) e h =
    let some_kind = when_some (is_count (length vs)) (kind_at tag >>= λ k. cond (eqb (length vs) (values_len k)) (event_from t n k order address width vs) None) e h in
    let k = bind_some (kind_at tag) (λ k. cond (eqb (length vs) (values_len k)) (event_from t n k order address width vs) None) e some_kind.1 in
    let g = when_some (eqb (length vs) (values_len k.0)) (event_from t n k.0 order address width vs) e k.2 in
    let rest = event_from_takes t n k.0 order address width vs e g.1 in
    (ap (λ (x : Data). x ∷ order ∷ address ∷ width ∷ vs) (kinds.takes tag k.0 k.1).0 ∙ rest.0, rest.1)

pub event_from_again : (t n : ℕ) (k : EventKind) (o : MemoryOrder) (a : ℕ) (w : AccessWidth) (r v : ℕ) → UsesFields k o r v → a ≤ u32_max → r ≤ u64_max → v ≤ u64_max
    → event_from t n k (string (order_word o)) (count a) (count (bytes_of w)) (values k r v) ≡ Some (made t n k o a w r v)
event_from_again t n k o a w r v uses ha hr hv =
    let e3 = order_again k o (order_fits k o r v uses) in
    let e4 = (numbers u32_max).again a ha in
    let e5 = widths.again w tt in
    let e6 = values_again k r v hr hv (values_fit k o r v uses) in
    rw (e3, e4, e5, e6) refl

made_again : (t n : ℕ) (k : EventKind) (o : MemoryOrder) (a : ℕ) (w : AccessWidth) (r v : ℕ) → UsesFields k o r v → a ≤ u32_max → r ≤ u64_max → v ≤ u64_max
    → fields_at t n (string (kind_word k) ∷ string (order_word o) ∷ count a ∷ count (bytes_of w) ∷ values k r v) ≡ Some (made t n k o a w r v)
unfolding fields_at
made_again t n k o a w r v uses ha hr hv =
    let vs : List Data = values k r v in
    ap (λ (b : Bool). cond b (kind_at (string (kind_word k)) >>= λ j. cond (eqb (length vs) (values_len j)) (event_from t n j (string (order_word o)) (count a) (count (bytes_of w)) vs) None) None) (is_count-values k r v)
    ∙ ap (λ (x : Option EventKind). x >>= λ j. cond (eqb (length vs) (values_len j)) (event_from t n j (string (order_word o)) (count a) (count (bytes_of w)) vs) None) (kinds.again k tt)
    ∙ ap (λ (b : Bool). cond b (event_from t n k (string (order_word o)) (count a) (count (bytes_of w)) vs) None) (length-values k r v)
    ∙ event_from_again t n k o a w r v uses ha hr hv

fields_again : (t n : ℕ) (e : Event) → FieldsFit t n e → fields_at t n (event_cells e) ≡ Some e
fields_again t n e fits =
    rw (← fits.place.0, ← fits.place.1) (made_again e.thread e.number e.kind e.order e.address e.width e.read e.written fits.place.2 fits.address fits.read fits.written)

-- an event at its place, within the limits
abbrev pub EventIsFit : ℕ → ℕ → Event → Type 0
EventIsFit t n e = IsEvent t n e × EventFits e

pub to_fit : (t n : ℕ) (e : Event) → n ≤ u32_max → FieldsFit t n e → EventIsFit t n e
to_fit t n e le h = (h.place, record { number = omega (arith, h.place.1); address = omega (arith, h.address); read = omega (arith, h.read); written = omega (arith, h.written) })

pub from_fit : (t n : ℕ) (e : Event) → EventIsFit t n e → FieldsFit t n e
from_fit t n e h = record { place = h.0; address = omega (arith, h.1.address); read = omega (arith, h.1.read); written = omega (arith, h.1.written) }

at_takes : (t n : ℕ) (d : Data) (e : Event) → number_event_at t n d ≡ Some e → (d ≡ event e) × EventIsFit t n e
at_takes t n d e h =
    let g = when_some (leb n u32_max) (event_at t n d) e h in
    let one = (listed (fields_at t n) event_cells (FieldsFit t n) (record { takes = λ ds x i. fields_take t n ds x i; again = λ x fits. fields_again t n x fits })).takes d e g.1 in
    (one.0, to_fit t n e (leb-true n u32_max g.0) one.1)

at_again : (t n : ℕ) (e : Event) → EventIsFit t n e → number_event_at t n (event e) ≡ Some e
at_again t n e fits =
    let le : n ≤ u32_max = omega (arith, fits.0.1, fits.1.number) in
    ap (λ (b : Bool). cond b (event_at t n (event e)) None) (le-leb n u32_max le)
    ∙ (listed (fields_at t n) event_cells (FieldsFit t n) (record { takes = λ ds x i. fields_take t n ds x i; again = λ x f. fields_again t n x f })).again e (from_fit t n e fits)

pub events : (t : ℕ) → IsFormatAt (number_event_at t) event (EventIsFit t)
events t = record { takes = λ n d e h. at_takes t n d e h; again = λ n e fits. at_again t n e fits }
