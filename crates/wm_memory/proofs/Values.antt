-- The first rule: the values read are those that the writers left.
use Rattle.std.proofs.Common.{◌≡◌, ◌≢◌, ℕ, zero, suc, List, [], ◌∷◌, ◌+◌, ◌<◌, inl, inr, length, ap, sym, ◌∙◌, arith, Some, slice_get, slice_index, All}
use Rattle.std.proofs.lemmas.Option.{slice_get-get_or}
use Rattle.std.proofs.Math.Nat.{mod-lt}
use Rattle.wm_event.specs.declared.event.Event.{Event}
use Rattle.wm_event.specs.declared.event.EventKey.{EventKey}
use Rattle.wm_event.specs.declared.event.EventId.{EventId}
use Rattle.wm_event.specs.declared.event.EventId.TheVariants.{Init, At}
use Rattle.wm_memory.specs.declared.cells.Cell.{Cell}
use Rattle.wm_event.specs.Event.{key_of}
use Rattle.wm_memory.specs.Cells.{initial_cell}
use Rattle.wm_access.specs.AccessWidth.{bytes_of}
use Rattle.wm_event.specs.Byte.{byte_of}
use Rattle.wm_memory.specs.Visibility.{Step, visible, seen}
use Rattle.wm_memory.proofs.ByKey.{event_in, writers_in, before, recorded}
use Rattle.wm_event.specs.Execution.{byte_by}
use Rattle.wm_event.specs.Rules.{KeepsWrittenValues}
use Rattle.wm_memory.proofs.Sound.{Sound}
use Rattle.wm_memory.proofs.Members.{is_made, fresh}
use Rattle.wm_memory.proofs.Sights.{seen_by}
use Rattle.wm_memory.proofs.Known.{read_at, writer_is}
use Rattle.wm_memory.proofs.Digits.{byte_of_value}

pub byte_below : (xs : List ℕ) (a : ℕ) → All (λ b. b < 256) xs → slice_index xs a < 256
byte_below [] a h = omega arith
byte_below (x ∷ xs) zero h = h 0 0 (omega arith)
byte_below (x ∷ xs) (suc a) h = byte_below xs a (λ k d lt. h (suc k) d (omega arith))

pub seen_below : (initial : List ℕ) (es : List Event) (a : ℕ) → All (λ b. b < 256) initial → (seen initial es a).byte < 256
seen_below initial es a h = elim (seen_by (initial_cell initial a) es a) [
  | inl e ↦ rw e (byte_below initial a h)
  | inr y ↦ rw y.1.cell (mod-lt _ (omega arith))
]

pub read_byte : (initial : List ℕ) (s : List Step) (r : EventKey) (e : Event) (k : ℕ) (w : EventId) → All (λ b. b < 256) initial → Sound initial s → event_in s r ≡ Some e → slice_get (writers_in s r) k ≡ Some w
    → byte_of e.read k ≡ (seen initial (visible (before s r) e.thread) (e.address + k)).byte
read_byte initial s r e k w bytes g h i =
    let m = is_made initial s r e g h in
    let p = read_at initial s r e k w g h i in
    ap (λ (v : ℕ). byte_of v k) (m.good.value p.reads) ∙ byte_of_value (seen initial (visible (before s r) e.thread)) (λ a. seen_below initial (visible (before s r) e.thread) a bytes) e.address (bytes_of e.width) k p.within

pub value_read : (initial : List ℕ) (s : List Step) (r : EventKey) (e : Event) (k : ℕ) (w : EventId) → All (λ b. b < 256) initial → Sound initial s → event_in s r ≡ Some e → slice_get (writers_in s r) k ≡ Some w
    → (w ≢ At r) × (byte_by (recorded initial s) w (e.address + k) ≡ Some (byte_of e.read k))
value_read initial s r e k Init bytes g h i =
    let m = is_made initial s r e g h in
    let p = read_at initial s r e k Init g h i in
    let v = read_byte initial s r e k Init bytes g h i in
    elim (seen_by (initial_cell initial (e.address + k)) (visible (before s r) e.thread) (e.address + k)) [
      | inl b ↦ (
        λ q. (cc),
        (let range : e.address + k < length initial = omega (arith, m.good.range, p.within) in
            slice_get-get_or initial (e.address + k) 0 range ∙ ap (λ (x : ℕ). Some x) (sym (v ∙ ap (λ (c : Cell). c.byte) b))),
      )
      | inr y ↦ absurd (let n : Init ≡ At (key_of y.0) = p.writer ∙ ap (λ (c : Cell). c.writer) y.1.cell in cc)
    ]
value_read initial s r e k (At w) bytes g h i =
    let m = is_made initial s r e g h in
    let x = writer_is initial s r e k w g h i in
    let v = read_byte initial s r e k (At w) bytes g h i in (
      λ q. (let wr : w ≡ r = cc in fresh initial (before s r) e x.0 m.sound m.good.number x.1.made (x.1.key ∙ (wr ∙ sym m.key))),
      rw (x.1.event, x.1.covers) (ap (λ (b : ℕ). Some b) (sym (v ∙ ap (λ (c : Cell). c.byte) x.1.cell))),
    )

pub keeps_written_values : (initial : List ℕ) (s : List Step) → All (λ b. b < 256) initial → Sound initial s → KeepsWrittenValues (recorded initial s)
keeps_written_values initial s bytes g = λ r e k w h i. value_read initial s r e k w bytes g h i
