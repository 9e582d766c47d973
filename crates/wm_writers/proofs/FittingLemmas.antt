-- The ids that fit a byte, thread by thread, and that they are all of them.
use Rattle.std.proofs.Common.{◌≡◌, ℕ, ◌+◌, ◌<◌, ◌==◌, not, zero, suc, List, [], ◌∷◌, ◌++◌, Bool, true, false, Option, Some, None, IsSome, is_some, length, get_or, slice_get, take, map, refl, sym, ap, ◌∙◌, subst, arith, if◌then◌else◌}
use Rattle.std.specs.List.{filter}
use Rattle.std.specs.Prelude.{flat_map, option_and_then}
use Rattle.std.specs.Option.{option_map, option_map_or}
use Rattle.std.proofs.lemmas.Bool.{and_parts}
use Rattle.std.proofs.lemmas.Grind.{common_steps}
use Rattle.std.proofs.lemmas.List.Elements.{filter-append}
use Rattle.std.proofs.lemmas.Option.{same_Some, slice_get-get_or, slice_get-map, slice_get_within, gets}
use Rattle.wm_event.specs.declared.event.Event.{Event}
use Rattle.wm_event.specs.declared.event.EventKey.{EventKey}
use Rattle.wm_event.specs.declared.event.EventId.{EventId}
use Rattle.wm_event.specs.declared.event.EventId.TheVariants.{Init, At}
use Rattle.wm_event.specs.declared.log.ThreadLog.{ThreadLog}
use Rattle.wm_event.specs.Byte.{byte_of}
use Rattle.wm_event.specs.Event.{byte_written, key_of}
use Rattle.wm_event.specs.Log.{HasKeys, event_in}
use Rattle.wm_event.specs.Writes.{thread_keys, writes_byte}
use Rattle.wm_event.proofs.WritesLemmas.{in_filter}
use Rattle.wm_hb.proofs.ThreadLemmas.{named_so}
use Rattle.wm_writers.specs.Fits.{fits, fitting, ids, is_from, leaves}
use Rattle.wm_writers.proofs.ListLemmas.{flat_map-more}

-- the ids of a thread's events
abbrev pub thread_ids : ThreadLog → List EventId
thread_ids thread = map At (map key_of thread.events)

left_there : (o : Option Event) (a byte : ℕ) → option_map_or (λ b. b == byte) (option_and_then (λ e. byte_written e a) o) false ≡ true
    → (IsSome o) × (is_some (option_and_then (λ e. byte_written e a) o) ≡ true)
left_there None a byte h = absurd (cc)
left_there (Some e) a byte h = (refl, some (byte_written e a) h)
  where
    some : (o : Option ℕ) → option_map_or (λ b. b == byte) o false ≡ true → is_some o ≡ true
    some None h = absurd (cc)
    some (Some b) h = refl

-- an event that fits a byte is there and writes it
fit_writes : (log : List ThreadLog) (initial : List ℕ) (e : Event) (k : ℕ) (key : EventKey) → fits log initial e k (At key) ≡ true
    → (IsSome (event_in log key)) × (writes_byte log (e.address + k) key ≡ true)
fit_writes log initial e k key h =
    let l = (and_parts (leaves log initial (At key) (e.address + k) (byte_of e.read k)) (not (is_from (key_of e) (At key))) h).0 in
    left_there (event_in log key) (e.address + k) (byte_of e.read k) l

-- of some keys only those that write the byte fit it
only_writes : (p : EventId → Bool) (q : EventKey → Bool) → ((key : EventKey) → p (At key) ≡ true → q key ≡ true) → (keys : List EventKey)
    → filter p (map At (filter q keys)) ≡ filter p (map At keys)
only_writes p q all [] = refl
only_writes p q all (key ∷ keys) = one (q key) refl (p (At key)) refl (only_writes p q all keys)
  where
    one : (b : Bool) → q key ≡ b → (t : Bool) → p (At key) ≡ t → filter p (map At (filter q keys)) ≡ filter p (map At keys)
        → filter p (map At (if b then key ∷ filter q keys else filter q keys)) ≡ filter p (At key ∷ map At keys)
    one true is t fit rest = ap (λ (vs : List EventId). if p (At key) then At key ∷ vs else vs) rest
    one false is true fit rest = absurd (let w = all key fit in cc)
    one false is false fit rest = rest ∙ sym (ap (λ (s : Bool). if s then At key ∷ filter p (map At keys) else filter p (map At keys)) fit)

-- with the writes of one thread more
module _ (log : List ThreadLog) (initial : List ℕ) (e : Event) (k : ℕ) where
  more_of : (t : ℕ) (thread : ThreadLog) → slice_get log t ≡ Some thread
      → filter (fits log initial e k) (ids (take t log)) ++ filter (fits log initial e k) (map At (filter (writes_byte log (e.address + k)) (thread_keys log t)))
      ≡ filter (fits log initial e k) (ids (take (t + 1) log))
  more_of t thread at =
      let p = fits log initial e k in
      let inside = slice_get_within log t thread at in
      let item : get_or log t thread ≡ thread = same_Some (get_or log t thread) thread (sym (slice_get-get_or log t thread inside) ∙ at) in
      let keys : thread_keys log t ≡ map key_of thread.events = ap (λ (o : Option ThreadLog). option_map_or (λ (th : ThreadLog). map key_of th.events) o []) at in
      let writes : filter p (map At (filter (writes_byte log (e.address + k)) (thread_keys log t))) ≡ filter p (thread_ids thread) =
      only_writes p (writes_byte log (e.address + k)) (λ key h. (fit_writes log initial e k key h).1) (thread_keys log t) ∙ ap (λ (ks : List EventKey). filter p (map At ks)) keys in
      let all : ids (take (t + 1) log) ≡ ids (take t log) ++ thread_ids thread =
      ap (λ (vs : List EventId). Init ∷ vs) (flat_map-more thread_ids log t thread inside ∙ ap (λ (th : ThreadLog). flat_map thread_ids (take t log) ++ thread_ids th) item) in
      ap (λ (vs : List EventId). filter p (ids (take t log)) ++ vs) writes ∙ sym (filter-append p (ids (take t log)) (thread_ids thread)) ∙ ap (filter p) (sym all)

  pub fitting-more : (t : ℕ) → t < length log
      → filter (fits log initial e k) (ids (take t log)) ++ filter (fits log initial e k) (map At (filter (writes_byte log (e.address + k)) (thread_keys log t)))
      ≡ filter (fits log initial e k) (ids (take (t + 1) log))
  fitting-more t inside = by (slice_get log t) refl
    where
      by : (o : Option ThreadLog) → slice_get log t ≡ o
          → filter (fits log initial e k) (ids (take t log)) ++ filter (fits log initial e k) (map At (filter (writes_byte log (e.address + k)) (thread_keys log t)))
          ≡ filter (fits log initial e k) (ids (take (t + 1) log))
      by None none = absurd (grind (arith, common_steps, gets))
      by (Some thread) at = more_of t thread at

-- what is in a list is in it with others before or after
in_first : {X : Type 0} (xs ys : List X) (n : ℕ) (y : X) → slice_get xs n ≡ Some y → (m : ℕ) × (slice_get (xs ++ ys) m ≡ Some y)
in_first [] ys n y at = absurd (cc)
in_first (x ∷ xs) ys zero y at = (0, at)
in_first (x ∷ xs) ys (suc n) y at = let r = in_first xs ys n y at in (suc r.0, r.1)

in_second : {X : Type 0} (xs ys : List X) (n : ℕ) (y : X) → slice_get ys n ≡ Some y → (m : ℕ) × (slice_get (xs ++ ys) m ≡ Some y)
in_second [] ys n y at = (n, at)
in_second (x ∷ xs) ys n y at = let r = in_second xs ys n y at in (suc r.0, r.1)

in_flat : {X A : Type 0} (f : X → List A) (xs : List X) (i j : ℕ) (x : X) (y : A) → slice_get xs i ≡ Some x → slice_get (f x) j ≡ Some y
    → (m : ℕ) × (slice_get (flat_map f xs) m ≡ Some y)
in_flat f [] i j x y at_x at_y = absurd (cc)
in_flat f (z ∷ zs) zero j x y at_x at_y =
    let same : x ≡ z = sym (same_Some z x at_x) in
    in_first (f z) (flat_map f zs) j y (subst (λ w. slice_get (f w) j ≡ Some y) same at_y)
in_flat f (z ∷ zs) (suc i) j x y at_x at_y = let r = in_flat f zs i j x y at_x at_y in in_second (f z) (flat_map f zs) r.0 y r.1

module _ (log : List ThreadLog) (keys : HasKeys log) where
  event_listed : (key : EventKey) (o : Option ThreadLog) → slice_get log key.thread ≡ o → (q : Option Event) → option_and_then (λ (th : ThreadLog). slice_get th.events key.number) o ≡ q → IsSome q
      → (m : ℕ) × (slice_get (flat_map thread_ids log) m ≡ Some (At key))
  event_listed key None none q at some = absurd (let e : None ≡ q = at in cc)
  event_listed key (Some thread) is None at some = absurd (cc)
  event_listed key (Some thread) is (Some e) at some =
      let there : event_in log key ≡ Some e = ap (option_and_then (λ (th : ThreadLog). slice_get th.events key.number)) is ∙ at in
      let same : key_of e ≡ key = named_so log keys key e there in
      let stands : slice_get (thread_ids thread) key.number ≡ Some (At key) =
      slice_get-map At (map key_of thread.events) key.number ∙ ap (option_map At) (slice_get-map key_of thread.events key.number ∙ ap (option_map key_of) at ∙ ap Some same) in
      in_flat thread_ids log key.thread key.number thread (At key) is stands

  id_listed : (v : EventId) (initial : List ℕ) (e : Event) (k : ℕ) → fits log initial e k v ≡ true → (m : ℕ) × (slice_get (ids log) m ≡ Some v)
  id_listed Init initial e k h = (0, refl)
  id_listed (At key) initial e k h =
      let r = event_listed key (slice_get log key.thread) refl (event_in log key) refl (fit_writes log initial e k key h).0 in
      (suc r.0, r.1)

  -- each id that fits is among them
  pub fit-listed : (initial : List ℕ) (e : Event) (k : ℕ) (v : EventId) → fits log initial e k v ≡ true → (m : ℕ) × (slice_get (fitting log initial e k) m ≡ Some v)
  fit-listed initial e k v h = let r = id_listed v initial e k h in in_filter (fits log initial e k) (ids log) r.0 v r.1 h
