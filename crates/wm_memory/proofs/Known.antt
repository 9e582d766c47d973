-- What happens before an event has been published or is of its thread.
use Rattle.std.proofs.Common.{◌≡◌, ℕ, zero, suc, Bool, true, false, List, [], ◌∷◌, ◌++◌, ◌+◌, ◌<◌, ◌⊎◌, inl, inr, length, refl, ap, sym, ◌∙◌, subst, arith, Option, Some, None, slice_get, IsSome}
use Rattle.std.proofs.lemmas.Bool.{false≢true}
use Rattle.std.proofs.lemmas.List.{length-append}
use Rattle.wm_event.specs.declared.event.Event.{Event}
use Rattle.wm_event.specs.declared.event.EventKey.{EventKey}
use Rattle.wm_event.specs.declared.event.EventId.{EventId}
use Rattle.wm_event.specs.declared.event.EventId.TheVariants.{Init, At}
use Rattle.wm_memory.specs.declared.cells.Cell.{Cell}
use Rattle.wm_event.specs.Event.{key_of, reads, writes}
use Rattle.wm_memory.specs.Cells.{covers, cell_written, initial_cell}
use Rattle.wm_access.specs.AccessWidth.{bytes_of}
use Rattle.wm_memory.specs.Visibility.{Step, Made, visible, events, seen, writers_at, writers_after, In}
use Rattle.wm_memory.proofs.ByKey.{event_in, writers_in, before, recorded}
use Rattle.wm_event.specs.Execution.{place}
use Rattle.wm_event.specs.HappensBefore.{Edge, Chain, SequencedBefore, SynchronizesWith}
use Rattle.wm_event.specs.Rules.{KeepsOrder}
use Rattle.wm_memory.proofs.Sound.{Sound}
use Rattle.wm_memory.proofs.Members.{is_made, found, visible_is}
use Rattle.wm_memory.proofs.Sights.{seen_by, at_same}
use Rattle.wm_memory.proofs.Later.{After, thread_order, made_order, before_in, places_after}

pub some_of : {X : Type 0} (o : Option X) → IsSome o → (x : X) × (o ≡ Some x)
some_of None h = absurd (false≢true h)
some_of (Some x) h = (x, refl)

pub get-last : {X : Type 0} (xs : List X) (y : X) (k : ℕ) (w : X) → slice_get (xs ++ y ∷ []) k ≡ Some w → (slice_get xs k ≡ Some w) ⊎ ((k ≡ length xs) × (y ≡ w))
get-last [] y zero w h = inr (refl, cc)
get-last [] y (suc k) w h = absurd (cc)
get-last (x ∷ xs) y zero w h = inl h
get-last (x ∷ xs) y (suc k) w h = elim (get-last xs y k w h) [ inl i ↦ inl i | inr p ↦ inr (omega (arith, p.0), p.1) ]

pub length-writers_at : (at : ℕ → Cell) (a n : ℕ) → length (writers_at at a n) ≡ n
length-writers_at at a zero = refl
length-writers_at at a (suc n) = simp (length-append, length-writers_at at a n) (omega arith)

pub get-writers_at : (at : ℕ → Cell) (a n k : ℕ) (w : EventId) → slice_get (writers_at at a n) k ≡ Some w → (k < n) × (w ≡ (at (a + k)).writer)
get-writers_at at a zero k w h = absurd (cc)
get-writers_at at a (suc n) k w h =
    elim (get-last (writers_at at a n) ((at (a + n)).writer) k w h) [
      | inl i ↦ (let p = get-writers_at at a n k w i in (omega (arith, p.0), p.1))
      | inr p ↦ (let kn : k ≡ n = p.0 ∙ length-writers_at at a n in (omega arith, rw kn (sym p.1)))
    ]

-- byte k of the read e, made after the steps o, has writer w
pub record IsReadAt (initial : List ℕ) (o : List Step) (e : Event) (k : ℕ) (w : EventId) : Type 0 where
  pub reads : reads e ≡ true
  pub within : k < bytes_of e.width
  pub writer : w ≡ (seen initial (visible o e.thread) (e.address + k)).writer

pub read_at_after : (initial : List ℕ) (o : List Step) (e : Event) (k : ℕ) (w : EventId) (b : Bool) → reads e ≡ b → slice_get (writers_after initial o e) k ≡ Some w → IsReadAt initial o e k w
read_at_after initial o e k w true eq h =
    let i : slice_get (writers_at (seen initial (visible o e.thread)) e.address (bytes_of e.width)) k ≡ Some w = rw eq at h in
    let p = get-writers_at (seen initial (visible o e.thread)) e.address (bytes_of e.width) k w i in
    record { reads = eq; within = p.0; writer = p.1 }
read_at_after initial o e k w false eq h = let i : None ≡ Some w = rw eq at h in absurd (cc)

pub read_at : (initial : List ℕ) (s : List Step) (r : EventKey) (e : Event) (k : ℕ) (w : EventId) → Sound initial s → event_in s r ≡ Some e → slice_get (writers_in s r) k ≡ Some w → IsReadAt initial (before s r) e k w
read_at initial s r e k w g h i =
    let m = is_made initial s r e g h in
    read_at_after initial (before s r) e k w (reads e) refl (rw (← m.good.writers) i)

-- a writer that isn't Init is a write that was visible
pub record WriterIs (initial : List ℕ) (s : List Step) (o : List Step) (e : Event) (k : ℕ) (w : EventKey) (x : Event) : Type 0 where
  pub member : In x (visible o e.thread)
  pub covers : covers x (e.address + k) ≡ true
  pub cell : seen initial (visible o e.thread) (e.address + k) ≡ cell_written x (e.address + k)
  pub key : key_of x ≡ w
  pub event : event_in s w ≡ Some x
  pub made : In x (events o)
  pub writes : writes x ≡ true

pub writer_is : (initial : List ℕ) (s : List Step) (r : EventKey) (e : Event) (k : ℕ) (w : EventKey) → Sound initial s → event_in s r ≡ Some e → slice_get (writers_in s r) k ≡ Some (At w) → (x : Event) × WriterIs initial s (before s r) e k w x
writer_is initial s r e k w g h i =
    let p = read_at initial s r e k (At w) g h i in
    elim (seen_by (initial_cell initial (e.address + k)) (visible (before s r) e.thread) (e.address + k)) [
      | inl b ↦ absurd (let n : At w ≡ Init = p.writer ∙ ap (λ (c : Cell). c.writer) b in cc)
      | inr y ↦ (let x = y.0 in
          let kx : key_of x ≡ w = at_same (key_of x) w (sym (ap (λ (c : Cell). c.writer) y.1.cell) ∙ sym p.writer) in
          let m = visible_is (before s r) e.thread x y.1.member in (
            x,
            record {
              member = y.1.member;
              covers = y.1.covers;
              cell = y.1.cell;
              key = kx;
              event = subst (λ (q : EventKey). event_in s q ≡ Some x) kx (found initial s x g (before_in initial s r e x g h m.made));
              made = m.made;
              writes = m.writes;
            },
          ))
    ]

-- the two ends of an edge
pub record Ends (s : List Step) (a b : EventKey) (e f : Event) : Type 0 where
  pub first : event_in s a ≡ Some e
  pub second : event_in s b ≡ Some f
  pub after : After (before s b) (Made e (writers_in s a) ∷ before s a)

pub sequenced_ends : (initial : List ℕ) (s : List Step) (a b : EventKey) → Sound initial s → SequencedBefore (recorded initial s) a b → (e : Event) × ((f : Event) × Ends s a b e f)
sequenced_ends initial s a b g p =
    let e = some_of (event_in s a) p.first in
    let f = some_of (event_in s b) p.second in
    (e.0, (f.0, record { first = e.1; second = f.1; after = thread_order initial s a b e.0 f.0 g e.1 f.1 p.same_thread p.earlier }))

pub synchronized_ends : (initial : List ℕ) (s : List Step) (a b : EventKey) → Sound initial s → (p : SynchronizesWith (recorded initial s) a b) → Ends s a b p.writer p.reader
synchronized_ends initial s a b g p =
    let x = writer_is initial s b p.reader p.reads.0 a g p.is_reader p.reads.1 in
    let same : x.0 ≡ p.writer = (let q : Some x.0 ≡ Some p.writer = sym x.1.event ∙ p.is_writer in cc) in
    let i : In p.writer (events (before s b)) = subst (λ (y : Event). In y (events (before s b))) same x.1.made in
    record { first = p.is_writer; second = p.is_reader; after = made_order initial s a b p.writer p.reader g p.is_writer p.is_reader i }

pub edge_ends : (initial : List ℕ) (s : List Step) (a b : EventKey) → Sound initial s → Edge (recorded initial s) (At a) (At b) → (e : Event) × ((f : Event) × Ends s a b e f)
edge_ends initial s a b g (inl p) = sequenced_ends initial s a b g p
edge_ends initial s a b g (inr p) = (p.writer, (p.reader, synchronized_ends initial s a b g p))

pub edge_places : (initial : List ℕ) (s : List Step) (a b : EventId) → Sound initial s → Edge (recorded initial s) a b → place (recorded initial s) a < place (recorded initial s) b
edge_places initial s Init Init g h = absurd h
edge_places initial s Init (At b) g h = omega arith
edge_places initial s (At a) Init g h = absurd h
edge_places initial s (At a) (At b) g h =
    let p = edge_ends initial s a b g h in
    let q = places_after (before s b) (before s a) p.0 (writers_in s a) p.1.1.after in
    omega arith

pub chain_places : (initial : List ℕ) (s : List Step) (a : EventId) (ms : List EventId) (b : EventId) → Sound initial s → Chain (recorded initial s) a ms b → place (recorded initial s) a < place (recorded initial s) b
chain_places initial s a [] b g h = edge_places initial s a b g h
chain_places initial s a (m ∷ ms) b g h = omega (arith, edge_places initial s a m g h.0, chain_places initial s m ms b g h.1)

-- the order agrees with what happens before what
pub keeps_order : (initial : List ℕ) (s : List Step) → Sound initial s → KeepsOrder (recorded initial s)
keeps_order initial s g = λ a b h. chain_places initial s a h.0 b g h.1
