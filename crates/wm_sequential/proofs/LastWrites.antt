-- The last writes among those that lead to a read and a write that race.
use Rattle.std.proofs.Common.{◌≡◌, ℕ, zero, suc, ◌+◌, ◌-◌, ◌<◌, ◌≤◌, ◌&&◌, Bool, true, false, List, [], ◌∷◌, length, slice_get, Option, None, Some, IsSome, is_some, refl, sym, ap, ◌∙◌, subst, arith, ⊎_elim, if◌then◌else◌}
use Rattle.std.specs.Prelude.{nat_le, nat_lt, option_and_then, ⊤}
use Rattle.std.proofs.lemmas.Bool.{cases_Bool, cases_lt, false≢true}
use Rattle.std.proofs.lemmas.Option.{none-some, same_Some, slice_get_within}
use Rattle.wm_access.specs.AccessWidth.{bytes_of}
use Rattle.wm_event.specs.declared.event.Event.{Event}
use Rattle.wm_event.specs.declared.event.EventKey.{EventKey}
use Rattle.wm_event.specs.declared.event.EventId.{EventId}
use Rattle.wm_event.specs.declared.event.EventId.TheVariants.{Init, At}
use Rattle.wm_event.specs.declared.log.ThreadLog.{ThreadLog}
use Rattle.wm_event.specs.Byte.{byte_of}
use Rattle.wm_event.specs.Event.{byte_written, writes}
use Rattle.wm_event.specs.Execution.{Execution, ReadsFrom, byte_by, place}
use Rattle.wm_event.specs.Log.{event_in}
use Rattle.wm_event.specs.Rules.{IsValid, Writes}
use Rattle.wm_sequential.specs.Programs.{HasNoStandardRace, LeadsTo}
use Rattle.wm_sequential.specs.Programs.LeadsTo.{before_read}
use Rattle.wm_sequential.proofs.Leading.{source-before}

-- ---- the places of a log's events have a bound

events-bound : (f : ℕ → ℕ) (n : ℕ) → (bound : ℕ) × ((i : ℕ) → i < n → f i < bound)
events-bound f zero = (0, λ i l. absurd (omega (arith, l)))
events-bound f (suc n) =
    let b = events-bound f n in (
      b.0 + suc (f n),
      λ i l. ⊎_elim
          (λ (less : i < n). let m = b.1 i less in omega (arith, m))
          (λ (more : n ≤ i). let same : f i ≡ f n = ap f (let s : i ≡ n = omega (arith, l, more) in s) in omega (arith, same))
          (cases_lt i n),
    )

threads-bound : (f : ℕ → ℕ → ℕ) (log : List ThreadLog) → (bound : ℕ) × ((t i : ℕ) (thread : ThreadLog) → slice_get log t ≡ Some thread → i < length thread.events → f t i < bound)
threads-bound f [] = (0, λ t i thread h l. absurd (none-some thread h))
threads-bound f (first ∷ log) =
    let b = events-bound (f 0) (length first.events) in
    let c = threads-bound (λ t. f (suc t)) log in
    (b.0 + c.0, by b c)
  where
    by : (b : (bound : ℕ) × ((i : ℕ) → i < length first.events → f 0 i < bound))
        (c : (bound : ℕ) × ((t i : ℕ) (thread : ThreadLog) → slice_get log t ≡ Some thread → i < length thread.events → f (suc t) i < bound))
        (t i : ℕ) (thread : ThreadLog) → slice_get (first ∷ log) t ≡ Some thread → i < length thread.events → f t i < b.0 + c.0
    by b c zero i thread h l = let m = b.1 i (let same = ap (λ (t : ThreadLog). length t.events) (same_Some first thread h) in omega (arith, same, l)) in omega (arith, m)
    by b c (suc t) i thread h l = let m = c.1 t i thread h l in omega (arith, m)

pub places-bound : (f : EventKey → ℕ) (log : List ThreadLog) → (bound : ℕ) × ((key : EventKey) → IsSome (event_in log key) → f key < bound)
places-bound f log = let b = threads-bound (λ t i. f (record { thread = t; number = i })) log in (b.0, λ key there. by b key (slice_get log key.thread) refl there)
  where
    by : (b : (bound : ℕ) × ((t i : ℕ) (thread : ThreadLog) → slice_get log t ≡ Some thread → i < length thread.events → f (record { thread = t; number = i }) < bound))
        (key : EventKey) (o : Option ThreadLog) → slice_get log key.thread ≡ o → IsSome (event_in log key) → f key < b.0
    by b key None at there = absurd (false≢true (sym (ap (λ o. is_some (option_and_then (λ (thread : ThreadLog). slice_get thread.events key.number) o)) at) ∙ there))
    by b key (Some thread) at there = inside (slice_get thread.events key.number) refl (sym (ap (λ o. is_some (option_and_then (λ (thread : ThreadLog). slice_get thread.events key.number) o)) at) ∙ there)
      where
        inside : (o : Option Event) → slice_get thread.events key.number ≡ o → is_some o ≡ true → f key < b.0
        inside None is h = absurd (false≢true h)
        inside (Some e) is h = b.1 key.thread key.number thread at (slice_get_within thread.events key.number e is)

-- ---- a list of which each element is chosen

pub choose : (P : ℕ → EventId → Type 0) (n : ℕ) → ((k : ℕ) → k < n → ((w : EventId) × P k w → ⊥) → ⊥)
    → ((ws : List EventId) × (length ws ≡ n) × ((k : ℕ) (w : EventId) → slice_get ws k ≡ Some w → P k w) → ⊥) → ⊥
choose P zero each not = not ([], refl, λ k w h. absurd (none-some w h))
choose P (suc n) each not = each 0 (omega arith) (λ first. choose (λ k. P (suc k)) n (λ k l. each (suc k) (omega (arith, l))) (λ rest. not (first.0 ∷ rest.0, ap suc rest.1, by first rest)))
  where
    by : (first : (w : EventId) × P 0 w) (rest : (ws : List EventId) × (length ws ≡ n) × ((k : ℕ) (w : EventId) → slice_get ws k ≡ Some w → P (suc k) w)) (k : ℕ) (w : EventId)
        → slice_get (first.0 ∷ rest.0) k ≡ Some w → P k w
    by first rest zero w h = subst (P 0) (same_Some first.0 w h) first.1
    by first rest (suc k) w h = rest.2 k w h

some-at : (ws : List EventId) (k : ℕ) → k < length ws → (w : EventId) × (slice_get ws k ≡ Some w)
some-at [] k l = absurd (omega (arith, l))
some-at (w ∷ ws) zero l = (w, refl)
some-at (w ∷ ws) (suc k) l = some-at ws k (omega (arith, l))

-- ---- the last writes

byte-small : (n k : ℕ) → byte_of n k < 256
byte-small n k = omega arith

-- a byte that is written
pub record Written (x : Execution) (w : EventId) (a : ℕ) : Type 0 where
  pub byte : ℕ
  pub small : byte < 256
  pub is : byte_by x w a ≡ Some byte

pub record WrittenBy (x : Execution) (u : EventKey) (a : ℕ) : Type 0 where
  pub event : Event
  pub there : x.event_of u ≡ Some event
  pub byte : Written x (At u) a

pub written-by : (x : Execution) (u : EventKey) (a : ℕ) → Writes x (At u) a → WrittenBy x u a
written-by x u a h = by (x.event_of u) refl
  where
    by : (o : Option Event) → x.event_of u ≡ o → WrittenBy x u a
    by None at = absurd (false≢true (sym (ap (λ o. is_some (option_and_then (λ (f : Event). byte_written f a) o)) at) ∙ h))
    by (Some f) at = record { event = f; there = at; byte = in-event (writes f && (nat_le f.address a && nat_lt a (f.address + bytes_of f.width))) refl (sym (ap (λ o. is_some (option_and_then (λ (f : Event). byte_written f a) o)) at) ∙ h) }
      where
        in-event : (b : Bool) → (writes f && (nat_le f.address a && nat_lt a (f.address + bytes_of f.width))) ≡ b → is_some (byte_written f a) ≡ true → Written x (At u) a
        in-event false test h = absurd (false≢true (sym (ap (λ b. is_some (if b then Some (byte_of f.written (a - f.address)) else None)) test) ∙ h))
        in-event true test h = record {
          byte = byte_of f.written (a - f.address);
          small = byte-small f.written (a - f.address);
          is = ap (option_and_then (λ (f : Event). byte_written f a)) at ∙ ap (λ b. if b then Some (byte_of f.written (a - f.address)) else None) test;
        }

-- Init, or a write that leads to r or v
abbrev pub IsLeading : Execution → EventKey → EventKey → EventId → Type 0
IsLeading x r v Init = ⊤
IsLeading x r v (At u) = LeadsTo x r v u

-- of those that write the byte it is the last
pub record LastLeading (x : Execution) (r v : EventKey) (a : ℕ) (w : EventId) : Type 0 where
  pub written : Written x w a
  pub leading : IsLeading x r v w
  pub last : (u : EventKey) → Writes x (At u) a → LeadsTo x r v u → place x (At u) ≤ place x w

-- what byte k of r comes from when it takes the bytes of v
pub data NewSource (x : Execution) (r v : EventKey) (e : Event) (k : ℕ) (w : EventId) : Type 0 where
  of_v : Writes x (At v) (e.address + k) → w ≡ At v → NewSource x r v e k w
  of_leading : (Writes x (At v) (e.address + k) → ⊥) → LastLeading x r v (e.address + k) w → NewSource x r v e k w

pub new-byte : (x : Execution) (r v : EventKey) (e : Event) (k : ℕ) (w : EventId) → NewSource x r v e k w → Written x w (e.address + k)
new-byte x r v e k w (of_v written is) = subst (λ w. Written x w (e.address + k)) (sym is) (written-by x v (e.address + k) written).byte
new-byte x r v e k w (of_leading not l) = l.written

module _ (x : Execution) (r v : EventKey) (bound : ℕ) (bounded : (key : EventKey) → IsSome (x.event_of key) → x.place_of key < bound) where
  -- there is a last write if there is any
  find-last : (fuel a : ℕ) (w : EventId) → bound ≤ fuel + place x w → Written x w a → IsLeading x r v w → ((w : EventId) × LastLeading x r v a w → ⊥) → ⊥
  find-last zero a w enough written leading not = not (
    w,
    record {
      written = written;
      leading = leading;
      last = λ u writes_u leading_u. let l = bounded u (there u a writes_u) in omega (arith, l, enough);
    },
  )
    where
      there : (u : EventKey) (a : ℕ) → Writes x (At u) a → IsSome (x.event_of u)
      there u a h = let w = written-by x u a h in subst (λ o. IsSome o) (sym w.there) refl
  find-last (suc fuel) a w enough written leading not = not (
    w,
    record {
      written = written;
      leading = leading;
      last = λ u writes_u leading_u. ⊎_elim
          (λ (later : place x w < place x (At u)). absurd (find-last fuel a (At u) (omega (arith, enough, later)) (written-by x u a writes_u).byte leading_u not))
          (λ (l : place x (At u) ≤ place x w). l)
          (cases_lt (place x w) (place x (At u)));
    },
  )

  module _ (valid : IsValid x) (none : HasNoStandardRace x) (e : Event) (is_r : x.event_of r ≡ Some e) (count : length (x.writers_of r) ≡ bytes_of e.width) where
    pub new-source : (k : ℕ) → k < bytes_of e.width → ((w : EventId) × NewSource x r v e k w → ⊥) → ⊥
    new-source k l not = ⊎_elim
        (λ (h : is_some (byte_by x (At v) (e.address + k)) ≡ true). not (At v, of_v h refl))
        (λ (h : is_some (byte_by x (At v) (e.address + k)) ≡ false).
        let old = some-at (x.writers_of r) k (omega (arith, l, count)) in
        from-old old.0 old.1 (λ h'. false≢true (sym h ∙ h')))
        (cases_Bool (is_some (byte_by x (At v) (e.address + k))))
      where
        from-old : (w : EventId) → ReadsFrom x r k w → (Writes x (At v) (e.address + k) → ⊥) → ⊥
        from-old w from not_v = by w from
          where
            found : (w : EventId) → ReadsFrom x r k w → IsLeading x r v w → ⊥
            found w from leading =
                let p = valid.keeps_written_values r e k w is_r from in
                find-last bound (e.address + k) w (omega arith) record { byte = byte_of e.read k; small = byte-small e.read k; is = p.1 } leading
                (λ last. not (last.0, of_leading not_v last.1))

            by : (w : EventId) → ReadsFrom x r k w → ⊥
            by Init from = found Init from tt
            by (At u) from = source-before x valid none r e k u is_r from (λ before. found (At u) from (before_read before))
