-- An access keeps the fit.
use Rattle.std.proofs.Common.{◌≡◌, ◌≢◌, ℕ, Bool, true, false, List, [], ◌∷◌, ◌+◌, ◌<◌, inl, inr, ◌==◌, ◌&&◌, length, reverse, slice_get, Some, refl, ap, sym, ◌∙◌, subst, arith, if◌then◌else◌}
use Rattle.std.proofs.lemmas.Bool.{eq-eqb, ne_eqb, false≢true}
use Rattle.std.proofs.lemmas.List.{length-reverse}
use Rattle.wm_access.specs.declared.AccessWidth.{AccessWidth}
use Rattle.wm_access.specs.AccessWidth.{bytes_of}
use Rattle.wm_access.specs.MemoryOrder.{is_sequential}
use Rattle.wm_access.specs.declared.MemoryOrder.{MemoryOrder}
use Rattle.wm_access.specs.declared.MemoryOrder.TheVariants.{Unordered, SeqCst}
use Rattle.wm_event.specs.declared.event.Event.{Event}
use Rattle.wm_event.specs.declared.event.EventId.{EventId}
use Rattle.wm_event.specs.declared.event.EventKey.{EventKey}
use Rattle.wm_event.specs.declared.event.EventKind.{EventKind}
use Rattle.wm_event.specs.declared.op.OpFields.{OpFields as Op}
use Rattle.wm_event.specs.declared.op.OpKind.{OpKind}
use Rattle.wm_event.specs.declared.op.OpKind.TheVariants.{Read, Write, Rmw, CmpXchg}
use Rattle.wm_event.specs.Event.{reads, writes, is_atomic, kind_reads, kind_writes}
use Rattle.wm_event.specs.Op.{event_made, made_kind, made_read, made_written}
use Rattle.wm_memory.specs.Reply.{padded, reply_of}
use Rattle.wm_event.specs.declared.op.Reply.{Reply}
use Rattle.std.proofs.lemmas.Option.{slice_get_cases}
use Rattle.wm_memory.specs.Table.{CellTable, HasRoom, MakesRoom, shown}
use Rattle.wm_memory.specs.Visibility.{Step, Made, Drained, waiting, visible, accesses, seen, value_at, writers_at, writers_after}
use Rattle.wm_memory.specs.Memory.{State, Buffered, Fits, PublishesAt, IsPending, DoesAtomic, DoesLoad, DoesStore, plain_store, ready, AccessFits, Fitting, Answered, Answers, DrainsFirst}
use Rattle.wm_memory.proofs.Valid.{covers_within, covers_writes}
use Rattle.wm_memory.proofs.Tables.{put_keeps}
use Rattle.wm_memory.proofs.Fitting.{HasRoomFor, fits_drained, fits_atomic, fits_loaded, fits_stored, fits_roomy, atomic_event, load_event, shown_seen, mid_seen, writers_at_same}

-- the writers that an access gave are those of the bytes that it read
writers_given : (initial : List ℕ) (s : List Step) (t : ℕ) (op : Op) (e : Event) (ws : List EventId) (b : Bool) → reads e ≡ b → e.thread ≡ t → e.address ≡ op.address → e.width ≡ op.width
    → ws ≡ (if reads e then padded (writers_at (seen initial (visible s t)) op.address (bytes_of op.width)) else padded []) → ws ≡ padded (writers_after initial s e)
writers_given initial s t op e ws true eq et ea ew h =
    let f : List EventId = writers_at (seen initial (visible s e.thread)) e.address (bytes_of e.width) in
    let g : writers_at (seen initial (visible s t)) op.address (bytes_of op.width) ≡ f =
    (ap (λ (u : ℕ). writers_at (seen initial (visible s u)) op.address (bytes_of op.width)) (sym et)
    ∙ (ap (λ (a : ℕ). writers_at (seen initial (visible s e.thread)) a (bytes_of op.width)) (sym ea)
    ∙ ap (λ (w : AccessWidth). writers_at (seen initial (visible s e.thread)) e.address (bytes_of w)) (sym ew))) in
    let here : ws ≡ padded (writers_at (seen initial (visible s t)) op.address (bytes_of op.width)) = rw eq at h in
    rw eq (here ∙ ap padded g)
writers_given initial s t op e ws false eq et ea ew h = let here : ws ≡ padded [] = rw eq at h in rw eq here

-- no drain comes before an access that isn't a plain store
ready_same : (s : List Step) (t : ℕ) (op : Op) → plain_store op.order op.kind ≡ false → ready s t op ≡ s
ready_same s t op h = rw h refl

order_atomic : (order : MemoryOrder) (kind : OpKind) → order ≡ SeqCst → plain_store order kind ≡ false
order_atomic order kind h = rw h refl

kind_read : (order : MemoryOrder) (kind : OpKind) → kind ≡ Read → plain_store order kind ≡ false
kind_read SeqCst kind h = refl
kind_read Unordered kind h = rw h refl

pub access_atomic : (m n : State) (t : ℕ) (op : Op) (e : Event) (ws : List EventId) → op.order ≡ SeqCst → HasRoomFor e m.cells → DoesAtomic t op m e ws n → Fitting t op m e ws n
access_atomic m n t op e ws o room p threads initial s f =
    let q = p.1.1 in
    let at : is_atomic e ≡ true = ap is_sequential (ap (λ (x : Event). x.order) q.event ∙ o) in
    subst (λ (l : List Step). AccessFits threads initial l t op e ws n) (sym (ready_same s t op (order_atomic op.order op.kind o))) (record {
      event = atomic_event threads initial s t op p.0 p.1.0 m n e ws f q;
      writers = writers_given initial s t op e ws (reads e) refl (ap (λ (x : Event). x.thread) q.event) (ap (λ (x : Event). x.address) q.event) (ap (λ (x : Event). x.width) q.event)
          (q.writers ∙ ap (λ (l : List EventId). if reads e then padded l else padded []) (writers_at_same (shown p.1.0 []) (seen initial (visible s t)) op.address (bytes_of op.width) (λ k. mid_seen threads initial s t p.0 p.1.0 m f q.was q.flushed (op.address + k))));
      fits = fits_atomic threads initial s t op p.0 p.1.0 m n e ws (writers_after initial s e) f at room q;
    })

pub access_load : (m n : State) (t : ℕ) (op : Op) (e : Event) (ws : List EventId) → op.order ≡ Unordered → op.kind ≡ Read → DoesLoad t op m e ws n → Fitting t op m e ws n
access_load m n t op e ws o k p threads initial s f =
    let q = p.1 in
    let at : is_atomic e ≡ false = ap is_sequential (ap (λ (x : Event). x.order) q.event ∙ o) in
    let w : writes e ≡ false = ap kind_writes (ap (λ (x : Event). x.kind) q.event ∙ ap (λ (y : OpKind). made_kind y (value_at (shown m.cells (reverse p.0.stores)) op.address (bytes_of op.width))) k) in
    subst (λ (l : List Step). AccessFits threads initial l t op e ws n) (sym (ready_same s t op (kind_read op.order op.kind k))) (record {
      event = load_event threads initial s t op p.0 m n e ws f q;
      writers = writers_given initial s t op e ws (reads e) refl (ap (λ (x : Event). x.thread) q.event) (ap (λ (x : Event). x.address) q.event) (ap (λ (x : Event). x.width) q.event)
          (q.writers ∙ ap (λ (l : List EventId). if reads e then padded l else padded []) (writers_at_same (shown m.cells (reverse p.0.stores)) (seen initial (visible s t)) op.address (bytes_of op.width) (λ i. shown_seen threads initial s t p.0 m f q.was (op.address + i))));
      fits = fits_loaded threads initial s t op p.0 m n e ws (writers_after initial s e) f at w q;
    })

store_parts : (order : MemoryOrder) (kind : OpKind) → plain_store order kind ≡ true → (order ≡ Unordered) × ((v : ℕ) × (kind ≡ Write v))
store_parts SeqCst kind h = absurd (false≢true h)
store_parts Unordered Read h = absurd (false≢true h)
store_parts Unordered (Write v) h = (refl, (v, refl))
store_parts Unordered (Rmw operator v) h = absurd (false≢true h)
store_parts Unordered (CmpXchg expected new) h = absurd (false≢true h)

-- the event of a store doesn't depend on what memory holds
store_event : (key : EventKey) (op : Op) (v r x : ℕ) → op.kind ≡ Write v → event_made key op r ≡ event_made key op x
store_event key op v r x h =
    let kinds : made_kind op.kind r ≡ made_kind op.kind x = rw h refl in
    let got : made_read op.kind r ≡ made_read op.kind x = rw h refl in
    let left : made_written op.width op.kind r ≡ made_written op.width op.kind x = rw h refl in
    let f : EventKind → ℕ → ℕ → Event = λ k a b. record { thread = key.thread; number = key.number; kind = k; order = op.order; address = op.address; width = op.width; read = a; written = b } in
    ap (λ (k : EventKind). f k (made_read op.kind r) (made_written op.width op.kind r)) kinds
    ∙ (ap (λ (a : ℕ). f (made_kind op.kind x) a (made_written op.width op.kind r)) got ∙ ap (λ (b : ℕ). f (made_kind op.kind x) (made_read op.kind x) b) left)

stored_fits : (threads : ℕ) (initial : List ℕ) (s : List Step) (m n : State) (t : ℕ) (op : Op) (e : Event) (ws : List EventId) → plain_store op.order op.kind ≡ true → HasRoomFor e m.cells → DoesStore t op m e ws n → Fits threads initial s m → AccessFits threads initial s t op e ws n
stored_fits threads initial s m n t op e ws h room p f =
    let q = p.1 in
    let is = store_parts op.order op.kind h in
    let at : is_atomic e ≡ false = ap is_sequential (ap (λ (x : Event). x.order) q.event ∙ is.0) in
    let kind = ap (λ (x : Event). x.kind) q.event ∙ ap (λ (y : OpKind). made_kind y 0) is.1.1 in
    let w : writes e ≡ true = ap kind_writes kind in
    let r : reads e ≡ false = ap kind_reads kind in
    let number = ap (λ (k : ℕ). event_made (record { thread = t; number = k }) op 0) (f.buffers t p.0 q.was).accesses in
    record {
      event = q.event ∙ (number ∙ store_event (record { thread = t; number = accesses s t }) op is.1.0 0 (value_at (seen initial (visible s t)) op.address (bytes_of op.width)) is.1.1);
      writers = rw r q.writers;
      fits = fits_stored threads initial s t op p.0 m n e ws (writers_after initial s e) f at w room q;
    }

room_for : (t : ℕ) (op : Op) (number v : ℕ) (e : Event) (cells : CellTable) → e ≡ event_made (record { thread = t; number = number }) op v → HasRoom op.address (bytes_of op.width) cells → HasRoomFor e cells
room_for t op number v e cells h room a c =
    let p = covers_within e a c in
    let ea : e.address ≡ op.address = ap (λ (x : Event). x.address) h in
    let ew : bytes_of e.width ≡ bytes_of op.width = ap (λ (x : Event). bytes_of x.width) h in
    room a (omega (arith, p.0)) (omega (arith, p.1))

-- an atomic access after cells were made for it
pub atomic_after_room : (m x n : State) (t : ℕ) (op : Op) (e : Event) (ws : List EventId) → op.order ≡ SeqCst → MakesRoom op.address (bytes_of op.width) m.cells x.cells → x.buffers ≡ m.buffers → DoesAtomic t op x e ws n → Fitting t op m e ws n
atomic_after_room m x n t op e ws o r bs p threads initial s f =
    access_atomic x n t op e ws o
    (λ a c. (let q = p.1.1 in room_for t op p.0.accesses _ e x.cells q.event r.room a c))
    p threads initial s (fits_roomy threads initial s op.address (bytes_of op.width) m x f r bs)

-- an atomic read needs none
pub atomic_read : (m n : State) (t : ℕ) (op : Op) (e : Event) (ws : List EventId) → op.order ≡ SeqCst → op.kind ≡ Read → DoesAtomic t op m e ws n → Fitting t op m e ws n
atomic_read m n t op e ws o k p =
    let q = p.1.1 in
    let w : writes e ≡ false = ap kind_writes (ap (λ (x : Event). x.kind) q.event ∙ ap (λ (y : OpKind). made_kind y (value_at (shown p.1.0 []) op.address (bytes_of op.width))) k) in
    access_atomic m n t op e ws o (λ a c. absurd (false≢true (sym w ∙ covers_writes e a c))) p

elim_and : (a b : Bool) (s : List Step) (t : ℕ) → b ≡ false → (if a && b then Drained t 0 ∷ s else s) ≡ s
elim_and true b s t h = rw h refl
elim_and false b s t h = refl

ready_room : (s : List Step) (t : ℕ) (op : Op) → length (waiting s t) ≢ 64 → ready s t op ≡ s
ready_room s t op h = elim_and (plain_store op.order op.kind) (length (waiting s t) == 64) s t (ne_eqb (length (waiting s t)) 64 h)

ready_full : (s : List Step) (t : ℕ) (op : Op) → plain_store op.order op.kind ≡ true → length (waiting s t) ≡ 64 → ready s t op ≡ Drained t 0 ∷ s
ready_full s t op h k = rw (h, eq-eqb (length (waiting s t)) 64 k) refl

waiting_count : (threads : ℕ) (initial : List ℕ) (s : List Step) (m : State) (t : ℕ) (b : Buffered) → Fits threads initial s m → slice_get m.buffers t ≡ Some b → length (waiting s t) ≡ length b.stores
waiting_count threads initial s m t b f was = ap (λ (l : List Event). length l) (sym (f.buffers t b was).stores) ∙ length-reverse b.stores

-- a plain store into a buffer with room
pub store_with_room : (m x n : State) (t count : ℕ) (op : Op) (e : Event) (ws : List EventId) → plain_store op.order op.kind ≡ true → MakesRoom op.address (bytes_of op.width) m.cells x.cells → x.buffers ≡ m.buffers
    → IsPending t x count → count < 64 → DoesStore t op x e ws n → Fitting t op m e ws n
store_with_room m x n t count op e ws h r bs pending few p threads initial s f =
    let fx = fits_roomy threads initial s op.address (bytes_of op.width) m x f r bs in
    let q = p.1 in
    let waits : length (waiting s t) ≢ 64 = λ k. omega (arith, k, waiting_count threads initial s x t p.0 fx q.was, pending.0 p.0 q.was, few) in
    subst (λ (l : List Step). AccessFits threads initial l t op e ws n) (sym (ready_room s t op waits))
    (stored_fits threads initial s x n t op e ws h (room_for t op p.0.accesses 0 e x.cells q.event r.room) p fx)

-- a plain store into a full buffer, after a drain
pub store_when_full : (m x y n : State) (t count : ℕ) (op : Op) (e : Event) (ws : List EventId) → plain_store op.order op.kind ≡ true → MakesRoom op.address (bytes_of op.width) m.cells x.cells → x.buffers ≡ m.buffers
    → IsPending t x count → count ≡ 64 → PublishesAt t 0 x y → DoesStore t op y e ws n → Fitting t op m e ws n
store_when_full m x y n t count op e ws h r bs pending full d p threads initial s f =
    let fx = fits_roomy threads initial s op.address (bytes_of op.width) m x f r bs in
    let q = d.1.1 in
    let fy = fits_drained threads initial s t 0 d.0 d.1.0 x y fx q in
    let waits : length (waiting s t) ≡ 64 = omega (arith, waiting_count threads initial s x t d.0 fx q.was, pending.0 d.0 q.was, full) in
    let room : HasRoom op.address (bytes_of op.width) y.cells = λ a lo hi. put_keeps d.1.0 x.cells y.cells a q.cells (r.room a lo hi) in
    subst (λ (l : List Step). AccessFits threads initial l t op e ws n) (sym (ready_full s t op h waits))
    (stored_fits threads initial (Drained t 0 ∷ s) y n t op e ws h (room_for t op p.0.accesses 0 e y.cells p.1.event room) p fy)

-- what an access did is what it is answered
pub answered : (threads : ℕ) (initial : List ℕ) (s : List Step) (t : ℕ) (op : Op) (e : Event) (ws : List EventId) (n : State) → AccessFits threads initial s t op e ws n → Answered threads initial s t op (reply_of e ws) n
answered threads initial s t op e ws n a = record {
  reply = ap (reply_of e) a.writers ∙ ap (λ (x : Event). reply_of x (padded (writers_after initial s x))) a.event;
  fits = subst (λ (x : Event). Fits threads initial (Made x (writers_after initial s x) ∷ s) n) a.event a.fits;
}

pub answers : (t : ℕ) (op : Op) (m : State) (e : Event) (ws : List EventId) (reply : Reply) (n : State) → reply ≡ reply_of e ws → Fitting t op m e ws n → Answers t op m reply n
answers t op m e ws reply n r f threads initial s fits =
    subst (λ (x : Reply). Answered threads initial (ready s t op) t op x n) (sym r) (answered threads initial (ready s t op) t op e ws n (f threads initial s fits))

-- where fewer stores wait than may, none leaves first; where as many do, one leaves exactly where the access is a plain store
pending_waits : (threads : ℕ) (initial : List ℕ) (s : List Step) (t count : ℕ) (m : State) → t < length m.buffers → IsPending t m count → Fits threads initial s m → length (waiting s t) ≡ count
pending_waits threads initial s t count m there p f = elim (slice_get_cases m.buffers t).1 [
  | inl y ↦ waiting_count threads initial s m t y.0 f y.2 ∙ sym (p.0 y.0 y.2)
  | inr y ↦ absurd (omega (arith, y.0, there))
]

pub room_first : (t count : ℕ) (op : Op) (m : State) → t < length m.buffers → IsPending t m count → count ≢ 64 → DrainsFirst t op m false
room_first t count op m there p few threads initial s f = sym (and_right_false (plain_store op.order op.kind) (length (waiting s t) == 64) (ne_eqb (length (waiting s t)) 64 (λ k. few (sym (pending_waits threads initial s t count m there p f) ∙ k))))
  where
    and_right_false : (a b : Bool) → b ≡ false → (a && b) ≡ false
    and_right_false true b h = h
    and_right_false false b h = refl

pub full_first : (t count : ℕ) (op : Op) (m : State) → t < length m.buffers → IsPending t m count → count ≡ 64 → DrainsFirst t op m (plain_store op.order op.kind)
full_first t count op m there p full threads initial s f = sym (and_right_true (plain_store op.order op.kind) (length (waiting s t) == 64) (eq-eqb (length (waiting s t)) 64 (pending_waits threads initial s t count m there p f ∙ full)))
  where
    and_right_true : (a b : Bool) → b ≡ true → (a && b) ≡ a
    and_right_true true b h = h
    and_right_true false b h = refl
