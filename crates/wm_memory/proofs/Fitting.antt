-- A memory goes on fitting the steps.
use Rattle.std.proofs.Common.{◌≡◌, ◌≢◌, ℕ, zero, suc, Bool, true, false, List, [], ◌∷◌, ◌++◌, ◌+◌, ◌==◌, ◌<◌, ◌⊎◌, inl, inr, length, reverse, take, drop, slice_get, Some, slice_set, refl, ap, sym, ◌∙◌, subst, arith, if◌then◌else◌, append_assoc, length-set}
use Rattle.std.proofs.lemmas.List.{reverse-append, length-append, length-reverse, length-take}
use Rattle.std.proofs.lemmas.Option.{slice_get_within}
use Rattle.std.proofs.lemmas.Bool.{eqb-true, eqb-false, eq-eqb, ne_eqb, and_left}
use Rattle.wm_access.specs.AccessWidth.{bytes_of}
use Rattle.wm_event.specs.declared.event.Event.{Event}
use Rattle.wm_event.specs.declared.event.EventId.{EventId}
use Rattle.wm_event.specs.declared.op.OpFields.{OpFields as Op}
use Rattle.wm_event.specs.Event.{writes, is_atomic}
use Rattle.wm_event.specs.Op.{event_made}
use Rattle.wm_memory.specs.declared.cells.Cell.{Cell}
use Rattle.wm_memory.specs.Cells.{covers, cell_written, cell_over, initial_cell}
use Rattle.wm_memory.specs.Table.{CellTable, cell_at, HasCell, MakesRoom, PutsAll, shown}
use Rattle.wm_memory.specs.Visibility.{Step, Made, Drained, In, pick, rest, behind, waiting, published, visible, own_write, accesses, seen, value_at, writers_at, made_after}
use Rattle.wm_memory.specs.Memory.{State, Buffered, Fits, FitsThread, PublishesAt, PublishesStore, DoesAtomicBy, DoesLoadBy, DoesStoreBy}
use Rattle.wm_memory.proofs.Lists.{in-append, rest_in, pick_in}
use Rattle.wm_memory.proofs.Members.{own_is}
use Rattle.wm_memory.proofs.Overwritten.{published_atomic}
use Rattle.wm_memory.proofs.Tables.{put_shows, put_keeps, all_shows, all_keeps}
use Rattle.wm_memory.proofs.Chunks.{slice_get-set_same, slice_get-set_other}

-- a list, the newest first, with k items after x
pick_here : (k : ℕ) (f : List Event) (x : Event) (b : List Event) → length b ≡ k → pick k (f ++ x ∷ b) ≡ x ∷ []
pick_here k [] x b h = rw (eq-eqb (length b) k h) refl
pick_here k (y ∷ f) x b h =
    let ne : length (f ++ x ∷ b) ≢ k = λ e. omega (arith, e, h, length-append f (x ∷ b)) in
    rw (ne_eqb (length (f ++ x ∷ b)) k ne) (pick_here k f x b h)

rest_here : (k : ℕ) (f : List Event) (x : Event) (b : List Event) → length b ≡ k → rest k (f ++ x ∷ b) ≡ f ++ b
rest_here k [] x b h = rw (eq-eqb (length b) k h) refl
rest_here k (y ∷ f) x b h =
    let ne : length (f ++ x ∷ b) ≢ k = λ e. omega (arith, e, h, length-append f (x ∷ b)) in
    rw (ne_eqb (length (f ++ x ∷ b)) k ne) (ap (λ (l : List Event). y ∷ l) (rest_here k f x b h))

pub behind_here : (k : ℕ) (f : List Event) (x : Event) (b : List Event) → length b ≡ k → behind k (f ++ x ∷ b) ≡ b
behind_here k [] x b h = rw (eq-eqb (length b) k h) refl
behind_here k (y ∷ f) x b h =
    let ne : length (f ++ x ∷ b) ≢ k = λ e. omega (arith, e, h, length-append f (x ∷ b)) in
    rw (ne_eqb (length (f ++ x ∷ b)) k ne) (behind_here k f x b h)

-- the same of a list that has the oldest first
reverse_split : (xs f b : List Event) (x : Event) → xs ≡ f ++ x ∷ b → reverse xs ≡ reverse b ++ x ∷ reverse f
reverse_split xs f b x h = ap reverse h ∙ (reverse-append f (x ∷ b) ∙ (ap (λ (l : List Event). l ++ reverse f) (reverse-append (x ∷ []) b) ∙ append_assoc (reverse b) (x ∷ []) (reverse f)))

behind_count : (xs : List Event) (k : ℕ) → k < length xs → length (reverse (take k xs)) ≡ k
behind_count xs k h = length-reverse (take k xs) ∙ omega (arith, length-take k xs)

pub picked_of : (xs : List Event) (k : ℕ) (x : Event) → k < length xs → xs ≡ take k xs ++ x ∷ drop (k + 1) xs → pick k (reverse xs) ≡ x ∷ []
picked_of xs k x h s = ap (pick k) (reverse_split xs (take k xs) (drop (k + 1) xs) x s) ∙ pick_here k (reverse (drop (k + 1) xs)) x (reverse (take k xs)) (behind_count xs k h)

pub behind_of : (xs : List Event) (k : ℕ) (x : Event) → k < length xs → xs ≡ take k xs ++ x ∷ drop (k + 1) xs → behind k (reverse xs) ≡ reverse (take k xs)
behind_of xs k x h s = ap (behind k) (reverse_split xs (take k xs) (drop (k + 1) xs) x s) ∙ behind_here k (reverse (drop (k + 1) xs)) x (reverse (take k xs)) (behind_count xs k h)

pub rest_of : (xs : List Event) (k : ℕ) (x : Event) → k < length xs → xs ≡ take k xs ++ x ∷ drop (k + 1) xs → rest k (reverse xs) ≡ reverse (take k xs ++ drop (k + 1) xs)
rest_of xs k x h s = ap (rest k) (reverse_split xs (take k xs) (drop (k + 1) xs) x s)
    ∙ (rest_here k (reverse (drop (k + 1) xs)) x (reverse (take k xs)) (behind_count xs k h) ∙ sym (reverse-append (take k xs) (drop (k + 1) xs)))

-- the buffers after a step of t
pub threads_after : (threads : ℕ) (initial : List ℕ) (s : List Step) (x : Step) (t : ℕ) (b new : Buffered) (m n : State) → Fits threads initial s m → slice_get m.buffers t ≡ Some b → n.buffers ≡ slice_set m.buffers t new
    → FitsThread (x ∷ s) t new → ((u : ℕ) → u ≢ t → (waiting (x ∷ s) u ≡ waiting s u) × (accesses (x ∷ s) u ≡ accesses s u))
    → (u : ℕ) (c : Buffered) → slice_get n.buffers u ≡ Some c → (same : Bool) → (t == u) ≡ same → FitsThread (x ∷ s) u c
threads_after threads initial s x t b new m n f was bs here others u c is true eq =
    let tu : t ≡ u = eqb-true t u eq in
    let within : t < length m.buffers = slice_get_within m.buffers t b was in
    let at : slice_get n.buffers t ≡ Some new = rw bs (slice_get-set_same m.buffers t new within) in
    let ce : new ≡ c = (let q : Some new ≡ Some c = sym at ∙ (ap (λ (v : ℕ). slice_get n.buffers v) tu ∙ is) in cc) in
    subst (λ (v : ℕ). FitsThread (x ∷ s) v c) tu (subst (λ (w : Buffered). FitsThread (x ∷ s) t w) ce here)
threads_after threads initial s x t b new m n f was bs here others u c is false eq =
    let ne : u ≢ t = λ h. eqb-false t u eq (sym h) in
    let at : slice_get m.buffers u ≡ Some c = sym (slice_get-set_other m.buffers t u new ne) ∙ (ap (λ w. slice_get w u) (sym bs) ∙ is) in
    let old = f.buffers u c at in
    record { stores = old.stores ∙ sym (others u ne).0; accesses = old.accesses ∙ sym (others u ne).1 }

drained_other : (s : List Step) (t k u : ℕ) → u ≢ t → waiting (Drained t k ∷ s) u ≡ waiting s u
drained_other s t k u ne = rw (ne_eqb t u (λ e. ne (sym e))) refl

drained_own : (s : List Step) (t k : ℕ) → waiting (Drained t k ∷ s) t ≡ rest k (waiting s t)
drained_own s t k = rw (eq-eqb t t refl) refl

drained_in : (s : List Step) (t k u : ℕ) (e : Event) (b : Bool) → (t == u) ≡ b → In e (waiting (Drained t k ∷ s) u) → In e (waiting s u)
drained_in s t k u e true eq h = let i : In e (rest k (waiting s u)) = rw eq at h in rest_in e k (waiting s u) i
drained_in s t k u e false eq h = rw eq at h

-- a store that left its buffer
pub fits_drained : (threads : ℕ) (initial : List ℕ) (s : List Step) (t k : ℕ) (b : Buffered) (e : Event) (m n : State) → Fits threads initial s m → PublishesStore t k b e m n → Fits threads initial (Drained t k ∷ s) n
fits_drained threads initial s t k b e m n f p =
    let was : reverse b.stores ≡ waiting s t = (f.buffers t b p.was).stores in
    let out : pick k (waiting s t) ≡ e ∷ [] = ap (pick k) (sym was) ∙ picked_of b.stores k e p.there p.store in
    let left : rest k (waiting s t) ≡ reverse (take k b.stores ++ drop (k + 1) b.stores) = ap (rest k) (sym was) ∙ rest_of b.stores k e p.there p.store in
    let mine : In e (waiting s t) = pick_in e k (waiting s t) (subst (λ (l : List Event). In e l) (sym out) (inl refl)) in
    let new : Buffered = record { stores = take k b.stores ++ drop (k + 1) b.stores; accesses = b.accesses } in
    record {
      initial = p.cells.initial ∙ f.initial;
      size = ap length p.buffers ∙ (length-set m.buffers t new ∙ f.size);
      cells = λ a. put_shows e m.cells n.cells a p.cells (λ c. f.room t e a mine c)
          ∙ (ap (λ (w : Cell). if covers e a then cell_written e a else w) (f.cells a) ∙ ap (λ (l : List Event). cell_over (initial_cell initial a) (l ++ published s) a) (sym out));
      buffers = λ u c is. threads_after threads initial s (Drained t k) t b new m n f p.was p.buffers
          (record { stores = sym (drained_own s t k ∙ left); accesses = (f.buffers t b p.was).accesses })
          (λ v ne. (drained_other s t k v ne, refl)) u c is (t == u) refl;
      room = λ u x a i c. put_keeps e m.cells n.cells a p.cells (f.room u x a (drained_in s t k u x (t == u) refl i) c);
    }

-- whatever steps a memory fitted, it fits them with the drain of what it published
pub publishing_fits : (t k : ℕ) (m n : State) → PublishesAt t k m n → (threads : ℕ) (initial : List ℕ) (s : List Step) → Fits threads initial s m → Fits threads initial (Drained t k ∷ s) n
publishing_fits t k m n p threads initial s f = fits_drained threads initial s t k p.0 p.1.0 m n f p.1.1

pub value_at_same : (f g : ℕ → Cell) (a n : ℕ) → ((k : ℕ) → f (a + k) ≡ g (a + k)) → value_at f a n ≡ value_at g a n
value_at_same f g a zero h = refl
value_at_same f g a (suc n) h =
    let rest = value_at_same f g a n h in
    let here = ap (λ (c : Cell). c.byte) (h n) in cc

pub writers_at_same : (f g : ℕ → Cell) (a n : ℕ) → ((k : ℕ) → f (a + k) ≡ g (a + k)) → writers_at f a n ≡ writers_at g a n
writers_at_same f g a zero h = refl
writers_at_same f g a (suc n) h =
    let rest = writers_at_same f g a n h in
    let here = ap (λ (c : Cell). c.writer) (h n) in cc

over_append_here : (base : Cell) (x : Event) (xs ys : List Event) (a : ℕ) (b : Bool) → covers x a ≡ b → cell_over base (xs ++ ys) a ≡ cell_over (cell_over base ys a) xs a → cell_over base ((x ∷ xs) ++ ys) a ≡ cell_over (cell_over base ys a) (x ∷ xs) a
over_append_here base x xs ys a true eq h = rw eq refl
over_append_here base x xs ys a false eq h = rw eq h

pub over_append : (base : Cell) (xs ys : List Event) (a : ℕ) → cell_over base (xs ++ ys) a ≡ cell_over (cell_over base ys a) xs a
over_append base [] ys a = refl
over_append base (x ∷ xs) ys a = over_append_here base x xs ys a (covers x a) refl (over_append base xs ys a)

own_seen : (base : Cell) (e : Event) (xs : List Event) (a : ℕ) (b : Bool) → writes e ≡ b → cell_over base (own_write e ++ xs) a ≡ (if covers e a then cell_written e a else cell_over base xs a)
own_seen base e xs a true eq =
    let l : own_write e ≡ e ∷ [] = rw eq refl in ap (λ (w : List Event). cell_over base (w ++ xs) a) l
own_seen base e xs a false eq =
    let l : own_write e ≡ [] = rw eq refl in
    let c : covers e a ≡ false = and_left (writes e) _ eq in
    ap (λ (w : List Event). cell_over base (w ++ xs) a) l ∙ sym (rw c refl)

-- what the cells show under the stores of t is what t sees
pub shown_seen : (threads : ℕ) (initial : List ℕ) (s : List Step) (t : ℕ) (b : Buffered) (m : State) → Fits threads initial s m → slice_get m.buffers t ≡ Some b → (a : ℕ) → shown m.cells (reverse b.stores) a ≡ seen initial (visible s t) a
shown_seen threads initial s t b m f was a =
    ap (λ (c : Cell). cell_over c (reverse b.stores) a) (f.cells a)
    ∙ (ap (λ (l : List Event). cell_over (seen initial (published s) a) l a) (f.buffers t b was).stores ∙ sym (over_append (initial_cell initial a) (waiting s t) (published s) a))

-- so do the cells once the stores went to them
pub mid_seen : (threads : ℕ) (initial : List ℕ) (s : List Step) (t : ℕ) (b : Buffered) (mid : CellTable) (m : State) → Fits threads initial s m → slice_get m.buffers t ≡ Some b → PutsAll (reverse b.stores) m.cells mid → (a : ℕ) → cell_at mid a ≡ seen initial (visible s t) a
mid_seen threads initial s t b mid m f was p a =
    let w : reverse b.stores ≡ waiting s t = (f.buffers t b was).stores in
    all_shows (reverse b.stores) m.cells mid a p (λ e i c. f.room t e a (subst (λ (l : List Event). In e l) w i) c) ∙ shown_seen threads initial s t b m f was a

made_other : (s : List Step) (e : Event) (ws : List EventId) (t u : ℕ) → e.thread ≡ t → u ≢ t → (waiting (Made e ws ∷ s) u ≡ waiting s u) × (accesses (Made e ws ∷ s) u ≡ accesses s u)
made_other s e ws t u et ne =
    let test : (e.thread == u) ≡ false = ne_eqb e.thread u (λ h. ne (sym h ∙ et)) in
    (rw test refl, rw test refl)

made_count : (s : List Step) (e : Event) (ws : List EventId) (t : ℕ) → e.thread ≡ t → accesses (Made e ws ∷ s) t ≡ accesses s t + 1
made_count s e ws t et = rw (eq-eqb e.thread t et) refl

atomic_waiting : (s : List Step) (e : Event) (ws : List EventId) (t : ℕ) → e.thread ≡ t → is_atomic e ≡ true → waiting (Made e ws ∷ s) t ≡ []
atomic_waiting s e ws t et at = rw (eq-eqb e.thread t et, at) refl

plain_waiting : (s : List Step) (e : Event) (ws : List EventId) (t : ℕ) → e.thread ≡ t → is_atomic e ≡ false → waiting (Made e ws ∷ s) t ≡ own_write e ++ waiting s t
plain_waiting s e ws t et at = rw (eq-eqb e.thread t et, at) refl

plain_published : (s : List Step) (e : Event) (ws : List EventId) → is_atomic e ≡ false → published (Made e ws ∷ s) ≡ published s
plain_published s e ws at = rw at refl

-- what waits after an access waited before it, or is its own plain write
made_in : (s : List Step) (e : Event) (ws : List EventId) (u : ℕ) (x : Event) (b c : Bool) → (e.thread == u) ≡ b → is_atomic e ≡ c → In x (waiting (Made e ws ∷ s) u) → ((c ≡ false) × In x (own_write e)) ⊎ In x (waiting s u)
made_in s e ws u x true true eq at h = let i : In x [] = rw (eq, at) at h in absurd i
made_in s e ws u x true false eq at h =
    let i : In x (own_write e ++ waiting s u) = rw (eq, at) at h in
    elim (in-append x (own_write e) (waiting s u) i) [ inl j ↦ inl (refl, j) | inr j ↦ inr j ]
made_in s e ws u x false c eq at h = let i : In x (waiting s u) = rw eq at h in inr i

event_at : (t : ℕ) (op : Op) (number v w : ℕ) (s : List Step) → number ≡ accesses s t → v ≡ w → event_made (record { thread = t; number = number }) op v ≡ event_made (record { thread = t; number = accesses s t }) op w
event_at t op number v w s h k = ap (λ (i : ℕ). event_made (record { thread = t; number = i }) op v) h ∙ ap (λ (x : ℕ). event_made (record { thread = t; number = accesses s t }) op x) k

pub atomic_event : (threads : ℕ) (initial : List ℕ) (s : List Step) (t : ℕ) (op : Op) (b : Buffered) (mid : CellTable) (m n : State) (e : Event) (ws : List EventId) → Fits threads initial s m → DoesAtomicBy t op b mid m e ws n → e ≡ made_after initial s t op
atomic_event threads initial s t op b mid m n e ws f p =
    p.event ∙ event_at t op b.accesses _ _ s (f.buffers t b p.was).accesses
    (value_at_same (shown mid []) (seen initial (visible s t)) op.address (bytes_of op.width) (λ k. mid_seen threads initial s t b mid m f p.was p.flushed (op.address + k)))

-- an access that may write has room for it
abbrev pub HasRoomFor : Event → CellTable → Type 0
HasRoomFor e t = (a : ℕ) → covers e a ≡ true → HasCell t a

pub fits_atomic : (threads : ℕ) (initial : List ℕ) (s : List Step) (t : ℕ) (op : Op) (b : Buffered) (mid : CellTable) (m n : State) (e : Event) (vs ws : List EventId) → Fits threads initial s m → is_atomic e ≡ true → HasRoomFor e m.cells → DoesAtomicBy t op b mid m e vs n → Fits threads initial (Made e ws ∷ s) n
fits_atomic threads initial s t op b mid m n e vs ws f at room p =
    let et : e.thread ≡ t = ap (λ (x : Event). x.thread) p.event in
    let new : Buffered = record { stores = []; accesses = b.accesses + 1 } in
    let keeps : (a : ℕ) → HasCell m.cells a → HasCell mid a = λ a h. all_keeps (reverse b.stores) m.cells mid a p.flushed h in
    record {
      initial = p.cells.initial ∙ (p.flushed.initial ∙ f.initial);
      size = ap length p.buffers ∙ (length-set m.buffers t new ∙ f.size);
      cells = λ a.
          (let q = put_shows e mid n.cells a p.cells (λ c. keeps a (room a c)) in
          let l : published (Made e ws ∷ s) ≡ own_write e ++ visible s t = published_atomic e ws s at ∙ ap (λ (k : ℕ). own_write e ++ visible s k) et in
          q ∙ (ap (λ (w : Cell). if covers e a then cell_written e a else w) (mid_seen threads initial s t b mid m f p.was p.flushed a)
          ∙ (sym (own_seen (initial_cell initial a) e (visible s t) a (writes e) refl) ∙ ap (λ (w : List Event). seen initial w a) (sym l))));
      buffers = λ u c is. threads_after threads initial s (Made e ws) t b new m n f p.was p.buffers
          (record { stores = sym (atomic_waiting s e ws t et at); accesses = ap (λ (k : ℕ). k + 1) (f.buffers t b p.was).accesses ∙ sym (made_count s e ws t et) })
          (λ v ne. made_other s e ws t v et ne) u c is (t == u) refl;
      room = λ u x a i c. elim (made_in s e ws u x (e.thread == u) true refl at i) [
        | inl q ↦ absurd (let z : true ≡ false = q.0 in cc)
        | inr j ↦ put_keeps e mid n.cells a p.cells (keeps a (f.room u x a j c))
      ];
    }

pub load_event : (threads : ℕ) (initial : List ℕ) (s : List Step) (t : ℕ) (op : Op) (b : Buffered) (m n : State) (e : Event) (ws : List EventId) → Fits threads initial s m → DoesLoadBy t op b m e ws n → e ≡ made_after initial s t op
load_event threads initial s t op b m n e ws f p =
    p.event ∙ event_at t op b.accesses _ _ s (f.buffers t b p.was).accesses
    (value_at_same (shown m.cells (reverse b.stores)) (seen initial (visible s t)) op.address (bytes_of op.width) (λ k. shown_seen threads initial s t b m f p.was (op.address + k)))

own_read : (e : Event) → writes e ≡ false → own_write e ≡ []
own_read e w = rw w refl

own_store : (e : Event) → writes e ≡ true → own_write e ≡ e ∷ []
own_store e w = rw w refl

pub fits_loaded : (threads : ℕ) (initial : List ℕ) (s : List Step) (t : ℕ) (op : Op) (b : Buffered) (m n : State) (e : Event) (vs ws : List EventId) → Fits threads initial s m → is_atomic e ≡ false → writes e ≡ false → DoesLoadBy t op b m e vs n → Fits threads initial (Made e ws ∷ s) n
fits_loaded threads initial s t op b m n e vs ws f at w p =
    let et : e.thread ≡ t = ap (λ (x : Event). x.thread) p.event in
    let new : Buffered = record { stores = b.stores; accesses = b.accesses + 1 } in
    record {
      initial = ap (λ (c : CellTable). c.initial) p.cells ∙ f.initial;
      size = ap length p.buffers ∙ (length-set m.buffers t new ∙ f.size);
      cells = λ a. ap (λ (c : CellTable). cell_at c a) p.cells ∙ (f.cells a ∙ ap (λ (l : List Event). seen initial l a) (sym (plain_published s e ws at)));
      buffers = λ u c is. threads_after threads initial s (Made e ws) t b new m n f p.was p.buffers
          (record {
            stores = (f.buffers t b p.was).stores ∙ (ap (λ (l : List Event). l ++ waiting s t) (sym (own_read e w)) ∙ sym (plain_waiting s e ws t et at));
            accesses = ap (λ (k : ℕ). k + 1) (f.buffers t b p.was).accesses ∙ sym (made_count s e ws t et);
          })
          (λ v ne. made_other s e ws t v et ne) u c is (t == u) refl;
      room = λ u x a i c. subst (λ (y : CellTable). HasCell y a) (sym p.cells) (elim (made_in s e ws u x (e.thread == u) false refl at i) [
        | inl q ↦ absurd (let n : In x [] = subst (λ (l : List Event). In x l) (own_read e w) q.1 in n)
        | inr j ↦ f.room u x a j c
      ]);
    }

pub fits_stored : (threads : ℕ) (initial : List ℕ) (s : List Step) (t : ℕ) (op : Op) (b : Buffered) (m n : State) (e : Event) (vs ws : List EventId) → Fits threads initial s m → is_atomic e ≡ false → writes e ≡ true → HasRoomFor e m.cells → DoesStoreBy t op b m e vs n → Fits threads initial (Made e ws ∷ s) n
fits_stored threads initial s t op b m n e vs ws f at w room p =
    let et : e.thread ≡ t = ap (λ (x : Event). x.thread) p.event in
    let new : Buffered = record { stores = b.stores ++ e ∷ []; accesses = b.accesses + 1 } in
    record {
      initial = ap (λ (c : CellTable). c.initial) p.cells ∙ f.initial;
      size = ap length p.buffers ∙ (length-set m.buffers t new ∙ f.size);
      cells = λ a. ap (λ (c : CellTable). cell_at c a) p.cells ∙ (f.cells a ∙ ap (λ (l : List Event). seen initial l a) (sym (plain_published s e ws at)));
      buffers = λ u c is. threads_after threads initial s (Made e ws) t b new m n f p.was p.buffers
          (record {
            stores = reverse-append b.stores (e ∷ []) ∙ (ap (λ (l : List Event). e ∷ l) (f.buffers t b p.was).stores ∙ (ap (λ (l : List Event). l ++ waiting s t) (sym (own_store e w)) ∙ sym (plain_waiting s e ws t et at)));
            accesses = ap (λ (k : ℕ). k + 1) (f.buffers t b p.was).accesses ∙ sym (made_count s e ws t et);
          })
          (λ v ne. made_other s e ws t v et ne) u c is (t == u) refl;
      room = λ u x a i c. subst (λ (y : CellTable). HasCell y a) (sym p.cells) (elim (made_in s e ws u x (e.thread == u) false refl at i) [
        | inl q ↦ (let o : (e ≡ x) × (writes x ≡ true) = own_is e x (writes e) refl q.1 in room a (subst (λ (y : Event). covers y a ≡ true) (sym o.0) c))
        | inr j ↦ f.room u x a j c
      ]);
    }

-- new cells change nothing
pub fits_roomy : (threads : ℕ) (initial : List ℕ) (s : List Step) (address count : ℕ) (m n : State) → Fits threads initial s m → MakesRoom address count m.cells n.cells → n.buffers ≡ m.buffers → Fits threads initial s n
fits_roomy threads initial s address count m n f r bs = record {
  initial = r.initial ∙ f.initial;
  size = ap length bs ∙ f.size;
  cells = λ a. r.same a ∙ f.cells a;
  buffers = λ t b h. f.buffers t b (ap (λ (l : List Buffered). slice_get l t) (sym bs) ∙ h);
  room = λ t e a i c. r.kept a (f.room t e a i c);
}
