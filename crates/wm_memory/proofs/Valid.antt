-- The rules on what is read.
use Rattle.std.proofs.Common.{◌≡◌, ℕ, Bool, true, false, List, [], ◌∷◌, ◌+◌, ◌&&◌, ◌<◌, ◌≤◌, inl, inr, refl, ap, sym, ◌∙◌, subst, arith, Option, Some, None, slice_get, IsSome, nat_le, nat_lt}
use Rattle.std.proofs.lemmas.Bool.{and_parts, and_from, false≢true, cases_Bool, leb-true, ltb-true, le-leb, lt-ltb, both_ways}
use Rattle.wm_event.specs.declared.event.Event.{Event}
use Rattle.wm_event.specs.declared.event.EventKey.{EventKey}
use Rattle.wm_event.specs.declared.event.EventId.{EventId}
use Rattle.wm_event.specs.declared.event.EventId.TheVariants.{Init, At}
use Rattle.wm_memory.specs.declared.cells.Cell.{Cell}
use Rattle.wm_event.specs.declared.event.Range.{Range}
use Rattle.wm_event.specs.Event.{key_of, is_atomic, writes, range_of}
use Rattle.wm_memory.specs.Cells.{covers, cell_over, initial_cell}
use Rattle.wm_access.specs.AccessWidth.{bytes_of}
use Rattle.wm_memory.specs.Visibility.{Step, Made, waiting, published, visible, own_write, seen, In}
use Rattle.wm_memory.proofs.ByKey.{event_in, writers_in, before, recorded}
use Rattle.wm_event.specs.Execution.{place, byte_by}
use Rattle.wm_event.specs.HappensBefore.{HappensBefore}
use Rattle.wm_event.specs.Rules.{KeepsCoherence, KeepsSequentialConsistency, KeepsNoTearing, IsTearFreeWriter, IsAtomicWrite, HasRange, Overtakes, synchronized, written_over, read_past}
use Rattle.wm_memory.proofs.Lists.{in-left, in-right, Newer, newer-right}
use Rattle.wm_memory.proofs.Sound.{Sound}
use Rattle.wm_memory.proofs.Distinct.{distinct_visible}
use Rattle.wm_memory.proofs.Members.{is_made, found, visible_is}
use Rattle.wm_memory.proofs.Sights.{hidden, not_initial, at_same}
use Rattle.wm_memory.proofs.Later.{After, grows_published, made_order, place_order, before_in, places_after}
use Rattle.wm_memory.proofs.Known.{read_at, writer_is, chain_places}
use Rattle.wm_memory.proofs.Overwritten.{known, known_visible, overwritten, own_in, published_atomic, newer_atomic}

pub covers_writes : (e : Event) (a : ℕ) → covers e a ≡ true → writes e ≡ true
covers_writes e a h = (and_parts (writes e) (nat_le e.address a && nat_lt a (e.address + bytes_of e.width)) h).0

-- a write that a read's thread sees hides those that are older there, and Init
pub not_overwritten : (initial : List ℕ) (s : List Step) (r : EventKey) (e : Event) (k : ℕ) (w v : Event) → Sound initial s → event_in s r ≡ Some e → slice_get (writers_in s r) k ≡ Some (At (key_of w)) → Newer v w (visible (before s r) e.thread) → covers v (e.address + k) ≡ true → ⊥
not_overwritten initial s r e k w v g h i n c =
    let p = read_at initial s r e k (At (key_of w)) g h i in
    hidden (initial_cell initial (e.address + k)) (visible (before s r) e.thread) (e.address + k) v w (distinct_visible initial (before s r) e.thread (is_made initial s r e g h).sound) n c (sym p.writer)

pub not_from_initial : (initial : List ℕ) (s : List Step) (r : EventKey) (e : Event) (k : ℕ) (v : Event) → Sound initial s → event_in s r ≡ Some e → slice_get (writers_in s r) k ≡ Some Init → In v (visible (before s r) e.thread) → covers v (e.address + k) ≡ true → ⊥
not_from_initial initial s r e k v g h i n c =
    let p = read_at initial s r e k Init g h i in
    not_initial (initial_cell initial (e.address + k)) (visible (before s r) e.thread) (e.address + k) v n c (sym p.writer)

pub data Covering (s : List Step) (v : EventKey) (a : ℕ) : Type 0 where
  covering : (g : Event) → event_in s v ≡ Some g → covers g a ≡ true → Covering s v a

pub covering_of : (initial : List ℕ) (s : List Step) (v : EventKey) (a : ℕ) (o : Option Event) → event_in s v ≡ o → IsSome (byte_by (recorded initial s) (At v) a) → Covering s v a
covering_of initial s v a None eq h = let i : false ≡ true = rw eq at h in absurd (false≢true i)
covering_of initial s v a (Some g) eq h = elim (cases_Bool (covers g a)) [
  | inl c ↦ covering g eq c
  | inr c ↦ absurd (let i : false ≡ true = rw (eq, c) at h in false≢true i)
]

pub read_before : (initial : List ℕ) (s : List Step) (r : EventKey) (e : Event) (k : ℕ) (w : EventId) → Sound initial s → event_in s r ≡ Some e → slice_get (writers_in s r) k ≡ Some w → place (recorded initial s) w < place (recorded initial s) (At r)
read_before initial s r e k Init g h i = omega arith
read_before initial s r e k (At w) g h i =
    let x = writer_is initial s r e k w g h i in
    let a = made_order initial s w r x.0 e g x.1.event h x.1.made in
    let q = places_after (before s r) (before s w) x.0 (writers_in s w) a in
    omega arith

pub no_newer : (initial : List ℕ) (s : List Step) (r : EventKey) (e : Event) (k : ℕ) (w : EventId) (v : EventKey) (g : Event) → Sound initial s → event_in s r ≡ Some e → slice_get (writers_in s r) k ≡ Some w → event_in s v ≡ Some g → covers g (e.address + k) ≡ true
    → HappensBefore (recorded initial s) w (At v) → HappensBefore (recorded initial s) (At v) (At r) → ⊥
no_newer initial s r e k Init v g d h i j c p q =
    let kv = known initial s v g q.0 r d j (covers_writes g (e.address + k) c) q.1 in
    not_from_initial initial s r e k g d h i (known_visible initial s v r g e d j h (covers_writes g (e.address + k) c) kv) c
no_newer initial s r e k (At w) v g d h i j c p q =
    let x = writer_is initial s r e k w d h i in
    let kv = known initial s v g q.0 r d j (covers_writes g (e.address + k) c) q.1 in
    let kw = known initial s w x.0 p.0 v d x.1.event x.1.writes p.1 in
    let n = overwritten (e.address + k) initial s w v r x.0 g e x.1.covers c d x.1.event j h x.1.writes (covers_writes g (e.address + k) c) kw kv in
    let i' : slice_get (writers_in s r) k ≡ Some (At (key_of x.0)) = rw x.1.key i in
    not_overwritten initial s r e k x.0 g d h i' n c

pub recent_one : (initial : List ℕ) (s : List Step) (r : EventKey) (e : Event) (k : ℕ) (w v : EventId) → Sound initial s → event_in s r ≡ Some e → slice_get (writers_in s r) k ≡ Some w → IsSome (byte_by (recorded initial s) v (e.address + k))
    → HappensBefore (recorded initial s) w v → HappensBefore (recorded initial s) v (At r) → ⊥
recent_one initial s r e k w Init d h i c p q = let n = chain_places initial s w p.0 Init d p.1 in absurd (omega arith)
recent_one initial s r e k w (At v) d h i c p q =
    elim (covering_of initial s v (e.address + k) (event_in s v) refl c) [ covering g j cov ↦ no_newer initial s r e k w v g d h i j cov p q ]

pub keeps_coherence : (initial : List ℕ) (s : List Step) → Sound initial s → KeepsCoherence (recorded initial s)
keeps_coherence initial s d = λ r e k w h i. (
  λ p. (let n = chain_places initial s (At r) p.0 w d p.1 in let m = read_before initial s r e k w d h i in absurd (omega arith)),
  λ v c p q. recent_one initial s r e k w v d h i c p q,
)

-- V5
pub covers_range : (g f : Event) (a : ℕ) → range_of g ≡ range_of f → writes g ≡ true → f.address ≤ a → a < f.address + bytes_of f.width → covers g a ≡ true
covers_range g f a p w lo hi =
    let b : bytes_of g.width ≡ bytes_of f.width = ap (λ (x : Range). bytes_of x.width) p in
    let pa : g.address ≡ f.address = ap (λ (x : Range). x.address) p in
    and_from (writes g) (nat_le g.address a && nat_lt a (g.address + bytes_of g.width)) w
    (and_from (nat_le g.address a) (nat_lt a (g.address + bytes_of g.width)) (le-leb g.address a (omega arith)) (lt-ltb a (g.address + bytes_of g.width) (omega arith)))

pub covers_within : (f : Event) (a : ℕ) → covers f a ≡ true → (f.address ≤ a) × (a < f.address + bytes_of f.width)
covers_within f a h =
    let p = (and_parts (writes f) (nat_le f.address a && nat_lt a (f.address + bytes_of f.width)) h).1 in
    let q = and_parts (nat_le f.address a) (nat_lt a (f.address + bytes_of f.width)) p in
    (leb-true f.address a q.0, ltb-true a (f.address + bytes_of f.width) q.1)

-- an atomic write that saw w hides it from what is made later
pub atomic_hides : (initial : List ℕ) (s : List Step) (r v : EventKey) (e g x : Event) (k : ℕ) → Sound initial s → event_in s r ≡ Some e → event_in s v ≡ Some g → is_atomic g ≡ true → writes g ≡ true
    → After (before s r) (Made g (writers_in s v) ∷ before s v) → In x (visible (before s v) g.thread) → slice_get (writers_in s r) k ≡ Some (At (key_of x)) → covers g (e.address + k) ≡ true → covers x (e.address + k) ≡ true → ⊥
atomic_hides initial s r v e g x k d h j at w a i rf c cx =
    let n = (grows_published (e.address + k) (before s r) (Made g (writers_in s v) ∷ before s v) a).order g x c cx (newer_atomic g (writers_in s v) (before s v) x at w i) in
    not_overwritten initial s r e k x g d h rf (newer-right g x (waiting (before s r) e.thread) (published (before s r)) n) c

pub atomic_seen : (initial : List ℕ) (s : List Step) (r v : EventKey) (e g : Event) → Sound initial s → event_in s r ≡ Some e → is_atomic g ≡ true → writes g ≡ true → After (before s r) (Made g (writers_in s v) ∷ before s v) → In g (published (before s r))
atomic_seen initial s r v e g d h at w a =
    let i : In g (published (Made g (writers_in s v) ∷ before s v)) = rw (published_atomic g (writers_in s v) (before s v) at) (in-left g (own_write g) (visible (before s v) g.thread) (own_in g w)) in
    (grows_published 0 (before s r) (Made g (writers_in s v) ∷ before s v) a).member g i

-- the writer is atomic and made before v
pub atomic_between : (initial : List ℕ) (s : List Step) (r v u : EventKey) (e g : Event) (k : ℕ) → Sound initial s → event_in s r ≡ Some e → event_in s v ≡ Some g → is_atomic g ≡ true → writes g ≡ true
    → place (recorded initial s) (At u) < place (recorded initial s) (At v) → place (recorded initial s) (At v) < place (recorded initial s) (At r)
    → slice_get (writers_in s r) k ≡ Some (At u) → (f : Event) → event_in s u ≡ Some f → is_atomic f ≡ true → covers g (e.address + k) ≡ true → ⊥
atomic_between initial s r v u e g k d h j at w lo hi rf f fu fat c =
    let x = writer_is initial s r e k u d h rf in
    let same : f ≡ x.0 = (let q : Some f ≡ Some x.0 = sym fu ∙ x.1.event in cc) in
    let xat : is_atomic x.0 ≡ true = rw (← same) fat in
    let av = place_order initial s v r g e d j h (omega arith) in
    let au = place_order initial s u v x.0 g d x.1.event j (omega arith) in
    let i = atomic_seen initial s v u g x.0 d j xat x.1.writes au in
    let rf' : slice_get (writers_in s r) k ≡ Some (At (key_of x.0)) = rw x.1.key rf in
    atomic_hides initial s r v e g x.0 k d h j at w av (in-right x.0 (waiting (before s v) g.thread) (published (before s v)) i) rf' c x.1.covers

-- a write with the range of e
pub range_is : (initial : List ℕ) (s : List Step) (v : EventKey) (g e : Event) → event_in s v ≡ Some g → HasRange (recorded initial s) (At v) e → range_of g ≡ range_of e
range_is initial s v g e j p =
    let same : p.0 ≡ g = (let q : Some p.0 ≡ Some g = sym p.1 ∙ j in cc) in
    subst (λ (x : Event). range_of x ≡ range_of e) same p.2

pub in_order : (initial : List ℕ) (s : List Step) (r : EventKey) (e : Event) (k : ℕ) (w : EventId) (v : EventKey) (g : Event) (n : ℕ) → Sound initial s → event_in s r ≡ Some e → slice_get (writers_in s r) k ≡ Some w → event_in s v ≡ Some g → is_atomic g ≡ true → writes g ≡ true
    → place (recorded initial s) w < place (recorded initial s) (At v) → place (recorded initial s) (At v) < place (recorded initial s) (At r) → Overtakes (recorded initial s) w (At v) r e n → ⊥
in_order initial s r e k w v g n d h i j at wr lo hi (synchronized cn u wu sw has) =
    let p = read_at initial s r e k w d h i in
    let c = covers_range g e (e.address + k) (range_is initial s v g e j has) wr (omega arith) (omega (arith, p.within)) in
    atomic_between initial s r v u e g k d h j at wr (subst (λ (q : EventId). place (recorded initial s) q < place (recorded initial s) (At v)) wu lo) hi (rw (← wu) i) sw.writer sw.is_writer sw.writer_atomic c
in_order initial s r e k Init v g n d h i j at wr lo hi (written_over cn f fu fat hb1 hb2 has) = absurd (let q : None ≡ Some f = fu in cc)
in_order initial s r e k (At u) v g n d h i j at wr lo hi (written_over cn f fu fat hb1 hb2 has) =
    let x = writer_is initial s r e k u d h i in
    let same : x.0 ≡ f = (let q : Some x.0 ≡ Some f = sym x.1.event ∙ fu in cc) in
    let cf : covers f (e.address + k) ≡ true = rw (← same) x.1.covers in
    let b = covers_within f (e.address + k) cf in
    let c = covers_range g f (e.address + k) (range_is initial s v g f j has) wr b.0 b.1 in
    atomic_between initial s r v u e g k d h j at wr lo hi i f fu fat c
in_order initial s r e k Init v g n d h i j at wr lo hi (read_past cn eat hb1 hb2 has) =
    let p = read_at initial s r e k Init d h i in
    let c = covers_range g e (e.address + k) (range_is initial s v g e j has) wr (omega arith) (omega (arith, p.within)) in
    let av = place_order initial s v r g e d j h (omega arith) in
    not_from_initial initial s r e k g d h i (in-right g (waiting (before s r) e.thread) (published (before s r)) (atomic_seen initial s r v e g d h at wr av)) c
in_order initial s r e k (At u) v g n d h i j at wr lo hi (read_past cn eat hb1 hb2 has) =
    let p = read_at initial s r e k (At u) d h i in
    let x = writer_is initial s r e k u d h i in
    let c = covers_range g e (e.address + k) (range_is initial s v g e j has) wr (omega arith) (omega (arith, p.within)) in
    let av = place_order initial s v r g e d j h (omega arith) in
    let ku = known initial s u x.0 hb2.0 v d x.1.event x.1.writes hb2.1 in
    let seen = known_visible initial s u v x.0 g d x.1.event j x.1.writes ku in
    let rf' : slice_get (writers_in s r) k ≡ Some (At (key_of x.0)) = rw x.1.key i in
    atomic_hides initial s r v e g x.0 k d h j at wr av seen rf' c x.1.covers

pub in_order_of : (initial : List ℕ) (s : List Step) (r : EventKey) (e : Event) (k : ℕ) (w v : EventId) (n : ℕ) → Sound initial s → event_in s r ≡ Some e → slice_get (writers_in s r) k ≡ Some w → IsAtomicWrite (recorded initial s) v
    → place (recorded initial s) w < place (recorded initial s) v → place (recorded initial s) v < place (recorded initial s) (At r) → Overtakes (recorded initial s) w v r e n → ⊥
in_order_of initial s r e k w Init n d h i a lo hi o = absurd (let q : None ≡ Some a.0 = a.1 in cc)
in_order_of initial s r e k w (At v) n d h i a lo hi o = in_order initial s r e k w v a.0 n d h i a.1 a.2 a.3 lo hi o

pub keeps_sequential_consistency : (initial : List ℕ) (s : List Step) → Sound initial s → KeepsSequentialConsistency (recorded initial s)
keeps_sequential_consistency initial s d = λ r e k w h i v n a lo hi o. in_order_of initial s r e k w v n d h i a lo hi o

-- V4
pub record Reads (xs : List Event) (k : EventKey) (a : ℕ) : Type 0 where
  pub all : (z : Event) → In z xs → key_of z ≡ k → covers z a ≡ true

pub same_here : (base base' : Cell) (z : Event) (zs : List Event) (a b : ℕ) (k l : EventKey) (p q : Bool) → covers z a ≡ p → covers z b ≡ q → Reads (z ∷ zs) k b → Reads (z ∷ zs) l a
    → (cell_over base (z ∷ zs) a).writer ≡ At k → (cell_over base' (z ∷ zs) b).writer ≡ At l
    → ((cell_over base zs a).writer ≡ At k → (cell_over base' zs b).writer ≡ At l → k ≡ l) → k ≡ l
same_here base base' z zs a b k l true true ca cb rk rl h i rest =
    let hk : At (key_of z) ≡ At k = rw ca at h in
    let hl : At (key_of z) ≡ At l = rw cb at i in
    sym (at_same (key_of z) k hk) ∙ at_same (key_of z) l hl
same_here base base' z zs a b k l true false ca cb rk rl h i rest =
    let hk : At (key_of z) ≡ At k = rw ca at h in
    absurd (both_ways (covers z b) cb (rk.all z (inl refl) (at_same (key_of z) k hk)))
same_here base base' z zs a b k l false true ca cb rk rl h i rest =
    let hl : At (key_of z) ≡ At l = rw cb at i in
    absurd (both_ways (covers z a) ca (rl.all z (inl refl) (at_same (key_of z) l hl)))
same_here base base' z zs a b k l false false ca cb rk rl h i rest =
    rest (rw ca at h) (rw cb at i)

pub same_writer : (initial : List ℕ) (zs : List Event) (a b : ℕ) (k l : EventKey) → Reads zs k b → Reads zs l a → (seen initial zs a).writer ≡ At k → (seen initial zs b).writer ≡ At l → k ≡ l
same_writer initial [] a b k l rk rl h i = absurd (let n : Init ≡ At k = h in cc)
same_writer initial (z ∷ zs) a b k l rk rl h i =
    same_here (initial_cell initial a) (initial_cell initial b) z zs a b k l (covers z a) (covers z b) refl refl rk rl h i
    (same_writer initial zs a b k l (record { all = λ y m e. rk.all y (inr m) e }) (record { all = λ y m e. rl.all y (inr m) e }))

-- the writer of a byte, with the range of the read, covers the others
pub reads_all : (initial : List ℕ) (s : List Step) (r : EventKey) (e : Event) (w : EventKey) (f : Event) (k m : ℕ) → Sound initial s → event_in s r ≡ Some e → event_in s w ≡ Some f → range_of f ≡ range_of e
    → slice_get (writers_in s r) k ≡ Some (At w) → m < bytes_of e.width → Reads (visible (before s r) e.thread) w (e.address + m)
reads_all initial s r e w f k m d h j range i lt =
    let x = writer_is initial s r e k w d h i in
    let same : x.0 ≡ f = (let q : Some x.0 ≡ Some f = sym x.1.event ∙ j in cc) in
    let wr : writes f ≡ true = rw (← same) x.1.writes in
    let c = covers_range f e (e.address + m) range wr (omega arith) (omega arith) in
    record {
      all = λ z i kz.
          (let made = visible_is (before s r) e.thread z i in
          let fz = found initial s z d (before_in initial s r e z d h made.made) in
          let eq : Some z ≡ Some f = sym fz ∙ (ap (event_in s) kz ∙ j) in
          let zf : z ≡ f = cc in
          subst (λ (y : Event). covers y (e.address + m) ≡ true) (sym zf) c);
    }

pub whole_one : (initial : List ℕ) (s : List Step) (r : EventKey) (e : Event) (v w : EventId) → Sound initial s → event_in s r ≡ Some e → IsTearFreeWriter (recorded initial s) r e v → IsTearFreeWriter (recorded initial s) r e w → v ≡ w
whole_one initial s r e Init w d h p q = absurd (let n : None ≡ Some p.1.0 = p.1.1 in cc)
whole_one initial s r e (At v) Init d h p q = absurd (let n : None ≡ Some q.1.0 = q.1.1 in cc)
whole_one initial s r e (At v) (At w) d h p q =
    let k = p.0.0 in
    let l = q.0.0 in
    let rk = read_at initial s r e k (At v) d h p.0.1 in
    let rl = read_at initial s r e l (At w) d h q.0.1 in
    let all_v = reads_all initial s r e v p.1.0 k l d h p.1.1 p.1.3 p.0.1 rl.within in
    let all_w = reads_all initial s r e w q.1.0 l k d h q.1.1 q.1.3 q.0.1 rk.within in
    ap (λ (y : EventKey). At y) (same_writer initial (visible (before s r) e.thread) (e.address + k) (e.address + l) v w all_v all_w (sym rk.writer) (sym rl.writer))

pub keeps_no_tearing : (initial : List ℕ) (s : List Step) → Sound initial s → KeepsNoTearing (recorded initial s)
keeps_no_tearing initial s d = λ r e h tear v w p q. whole_one initial s r e v w d h p q
