-- An execution that agrees with a valid one is valid.
use Rattle.std.proofs.Common.{◌≡◌, ℕ, ◌+◌, List, [], ◌∷◌, inl, inr, Option, Some, IsSome, slice_get, option_and_then, refl, ap, sym, ◌∙◌, subst, arith}
use Rattle.wm_event.specs.declared.event.Event.{Event}
use Rattle.wm_event.specs.declared.event.EventKey.{EventKey}
use Rattle.wm_event.specs.declared.event.EventId.{EventId}
use Rattle.wm_event.specs.declared.event.EventId.TheVariants.{Init, At}
use Rattle.wm_event.specs.Event.{byte_written}
use Rattle.wm_event.specs.Execution.{Execution, ReadsFrom, byte_by, event_at, place}
use Rattle.wm_event.specs.HappensBefore.{Edge, Chain, HappensBefore, SequencedBefore, SynchronizesWith}
use Rattle.wm_event.specs.Rules.{IsValid, IsTearFreeWriter, IsAtomicWrite, HasRange, Overtakes, synchronized, written_over, read_past}

-- Init, or an event of the execution
abbrev pub Exists : Execution → EventId → Type 0
Exists x Init = Unit {0}
Exists x (At k) = IsSome (x.event_of k)

-- y agrees with x on each event of x, and has no other event
pub record Agrees (x y : Execution) : Type 0 where
  pub events : (k : EventKey) → y.event_of k ≡ x.event_of k
  pub writers : (k : EventKey) → y.writers_of k ≡ x.writers_of k
  pub places : (k : EventKey) → IsSome (x.event_of k) → y.place_of k ≡ x.place_of k
  pub initial : y.initial ≡ x.initial
  pub there : (r : EventKey) (e : Event) (k : ℕ) (w : EventId) → x.event_of r ≡ Some e → ReadsFrom x r k w → Exists x w

some_is : (o : Option Event) (e : Event) → o ≡ Some e → IsSome o
some_is o e h = subst (λ (p : Option Event). IsSome p) (sym h) refl

bytes : {x y : Execution} → Agrees x y → (w : EventId) (a : ℕ) → byte_by y w a ≡ byte_by x w a
bytes c Init a = ap (λ (l : List ℕ). slice_get l a) c.initial
bytes c (At k) a = ap (λ (o : Option Event). option_and_then (λ e. byte_written e a) o) (c.events k)

at : {x y : Execution} → Agrees x y → (w : EventId) → event_at y w ≡ event_at x w
at c Init = refl
at c (At k) = c.events k

reading : {x y : Execution} → Agrees x y → (r : EventKey) (k : ℕ) (w : EventId) → ReadsFrom y r k w → ReadsFrom x r k w
reading c r k w h = subst (λ (l : List EventId). slice_get l k ≡ Some w) (c.writers r) h

placed : {x y : Execution} → Agrees x y → (w : EventId) → Exists x w → place y w ≡ place x w
placed c Init h = refl
placed c (At k) h = ap (λ (n : ℕ). 1 + n) (c.places k h)

sequenced : {x y : Execution} → Agrees x y → (a b : EventKey) → SequencedBefore y a b → SequencedBefore x a b
sequenced c a b p = record {
  first = subst (λ (o : Option Event). IsSome o) (c.events a) p.first;
  second = subst (λ (o : Option Event). IsSome o) (c.events b) p.second;
  same_thread = p.same_thread;
  earlier = p.earlier;
}

synchronizes : {x y : Execution} → Agrees x y → (w r : EventKey) → SynchronizesWith y w r → SynchronizesWith x w r
synchronizes c w r p = record {
  writer = p.writer;
  reader = p.reader;
  is_writer = sym (c.events w) ∙ p.is_writer;
  is_reader = sym (c.events r) ∙ p.is_reader;
  writer_atomic = p.writer_atomic;
  reader_atomic = p.reader_atomic;
  ranges = p.ranges;
  reads = (p.reads.0, reading c r p.reads.0 (At w) p.reads.1);
}

edge : {x y : Execution} → Agrees x y → (a b : EventId) → Edge y a b → Edge x a b
edge c Init Init h = absurd h
edge c (At a) Init h = absurd h
edge c Init (At b) h = subst (λ (o : Option Event). IsSome o) (c.events b) h
edge c (At a) (At b) (inl p) = inl (sequenced c a b p)
edge c (At a) (At b) (inr p) = inr (synchronizes c a b p)

chain : {x y : Execution} → Agrees x y → (a : EventId) (ms : List EventId) (b : EventId) → Chain y a ms b → Chain x a ms b
chain c a [] b h = edge c a b h
chain c a (m ∷ ms) b h = (edge c a m h.0, chain c m ms b h.1)

happens : {x y : Execution} → Agrees x y → (a b : EventId) → HappensBefore y a b → HappensBefore x a b
happens c a b h = (h.0, chain c a h.0 b h.1)

first_exists : (x : Execution) (a b : EventId) → Edge x a b → Exists x a
first_exists x Init b h = tt
first_exists x (At a) Init h = absurd h
first_exists x (At a) (At b) (inl p) = p.first
first_exists x (At a) (At b) (inr p) = some_is (x.event_of a) p.writer p.is_writer

second_exists : (x : Execution) (a b : EventId) → Edge x a b → Exists x b
second_exists x a Init h = tt
second_exists x Init (At b) h = h
second_exists x (At a) (At b) (inl p) = p.second
second_exists x (At a) (At b) (inr p) = some_is (x.event_of b) p.reader p.is_reader

chain_first : (x : Execution) (a : EventId) (ms : List EventId) (b : EventId) → Chain x a ms b → Exists x a
chain_first x a [] b h = first_exists x a b h
chain_first x a (m ∷ ms) b h = first_exists x a m h.0

chain_last : (x : Execution) (a : EventId) (ms : List EventId) (b : EventId) → Chain x a ms b → Exists x b
chain_last x a [] b h = second_exists x a b h
chain_last x a (m ∷ ms) b h = chain_last x m ms b h.1

ranged : {x y : Execution} → Agrees x y → (v : EventId) (e : Event) → HasRange y v e → HasRange x v e
ranged c v e p = (p.0, sym (at c v) ∙ p.1, p.2)

tear_free : {x y : Execution} → Agrees x y → (r : EventKey) (e : Event) (w : EventId) → IsTearFreeWriter y r e w → IsTearFreeWriter x r e w
tear_free c r e w p = ((p.0.0, reading c r p.0.0 w p.0.1), (p.1.0, sym (at c w) ∙ p.1.1, p.1.2, p.1.3))

atomic : {x y : Execution} → Agrees x y → (v : EventId) → IsAtomicWrite y v → IsAtomicWrite x v
atomic c v p = (p.0, sym (at c v) ∙ p.1, p.2, p.3)

atomic_exists : (x : Execution) (v : EventId) → IsAtomicWrite x v → Exists x v
atomic_exists x Init p = tt
atomic_exists x (At v) p = some_is (x.event_of v) p.0 p.1

overtakes : {x y : Execution} → Agrees x y → (w v : EventId) (r : EventKey) (e : Event) (n : ℕ) → Overtakes y w v r e n → Overtakes x w v r e n
overtakes c w v r e n (synchronized i u q p has) = synchronized i u q (synchronizes c u r p) (ranged c v e has)
overtakes c w v r e n (written_over i f q a hb1 hb2 has) = written_over i f (sym (at c w) ∙ q) a (happens c w (At r) hb1) (happens c v (At r) hb2) (ranged c v f has)
overtakes c w v r e n (read_past i a hb1 hb2 has) = read_past i a (happens c w (At r) hb1) (happens c w v hb2) (ranged c v e has)

pub carried : {x y : Execution} → Agrees x y → IsValid x → IsValid y
carried {x} {y} c v = record {
  keeps_written_values = λ r e k w h i. (let p = v.keeps_written_values r e k w (sym (c.events r) ∙ h) (reading c r k w i) in (p.0, bytes c w (e.address + k) ∙ p.1));
  keeps_order = λ a b h. (let p = happens c a b h in omega (arith, v.keeps_order a b p, placed c a (chain_first x a p.0 b p.1), placed c b (chain_last x a p.0 b p.1)));
  keeps_coherence = λ r e k w h i. (let p = v.keeps_coherence r e k w (sym (c.events r) ∙ h) (reading c r k w i) in (
    λ q. p.0 (happens c (At r) w q),
    λ u z q1 q2. p.1 u (subst (λ (o : Option ℕ). IsSome o) (bytes c u (e.address + k)) z) (happens c w u q1) (happens c u (At r) q2),
  ));
  keeps_no_tearing = λ r e h t u w p q. v.keeps_no_tearing r e (sym (c.events r) ∙ h) t u w (tear_free c r e u p) (tear_free c r e w q);
  keeps_sequential_consistency = λ r e k w h i u n a lo hi o. (
      let h' = sym (c.events r) ∙ h in
      let i' = reading c r k w i in
      let a' = atomic c u a in
      let pw = placed c w (c.there r e k w h' i') in
      let pu = placed c u (atomic_exists x u a') in
      let pr = placed c (At r) (some_is (x.event_of r) e h') in
      v.keeps_sequential_consistency r e k w h' i' u n a' (omega arith) (omega arith) (overtakes c w u r e n o));
}
