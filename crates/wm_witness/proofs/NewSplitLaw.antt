-- Splits that are new, and alternatives of which none is.
use Rattle.std.proofs.Common.{◌≡◌, ◌≢◌, ℕ, ◌+◌, ◌<◌, ◌≤◌, List, IsSome, Option, None, Some, get_or, length, take, refl, sym, ◌∙◌, subst, arith, ⊎_elim}
use Rattle.std.specs.Prelude.{All, Bool, IfNone, true, false, cond, is_some}
use Rattle.std.proofs.lemmas.Bool.{cases_lt, false≢true}
use Rattle.std.specs.List.{Contains}
use Rattle.std.proofs.lemmas.Grind.{common_steps}
use Rattle.std.proofs.lemmas.Option.{same_Some, slice_get-get_or, slice_get_within}
use Rattle.wm_event.specs.declared.event.EventKey.{EventKey}
use Rattle.wm_event.specs.declared.event.EventId.{EventId}
use Rattle.wm_event.specs.declared.event.EventId.TheVariants.{Init, At}
use Rattle.wm_event.specs.declared.log.ThreadLog.{ThreadLog}
use Rattle.wm_event.specs.Event.{reads}
use Rattle.wm_event.specs.Log.{event_in}
use Rattle.wm_event.specs.Shape.{IsThere, ListsEachOnce, read_width}
use Rattle.wm_event.proofs.ShapeLemmas.{bytes_small}
use Rattle.wm_witness.specs.declared.assumption.Assumption.{Assumption}
use Rattle.wm_witness.specs.declared.assumption.Assumption.TheVariants.{Takes, TakesNone, Byte, NotByte, Before}
use Rattle.wm_witness.specs.Search.{AreOpposite, IsAbout, IsNewSplit, NothingIsNew}
use Rattle.wm_witness.specs.Search.AreOpposite.{byte_or_not, one_is_first, takes_or_not}
use Rattle.wm_witness.specs.Steps.{AreBytesSpent, HasNoOpposite, IsEventSpent, IsPairSpent, IsSpent}

-- what is against an assumption, if something is
abbrev against : Assumption → Assumption
against (Takes r u) = TakesNone r u
against (TakesNone r u) = TakesNone r u
against (Byte r k w) = NotByte r k w
against (NotByte r k w) = NotByte r k w
against (Before a b) = Before b a

is-against : (log : List ThreadLog) (a b : Assumption) → AreOpposite log a b → b ≡ against a
is-against log a b (takes_or_not {r = r} {u = u}) = refl
is-against log a b (byte_or_not {r = r} {k = k} {w = w}) = refl
is-against log a b (one_is_first {a = p} {b = q} is_p is_q apart) = refl

pub one-opposite : (log : List ThreadLog) (a b c : Assumption) → AreOpposite log a b → AreOpposite log a c → b ≡ c
one-opposite log a b c h k = is-against log a b h ∙ sym (is-against log a c k)

-- what an assumption is that has an opposite
abbrev Opposed : List ThreadLog → Assumption → Type 0
Opposed log (Takes r u) = Unit {0}
Opposed log (TakesNone r u) = ⊥
Opposed log (Byte r k w) = Unit {0}
Opposed log (NotByte r k w) = ⊥
Opposed log (Before a b) = IsSome (event_in log a) × IsSome (event_in log b) × (a ≢ b)

opposed : (log : List ThreadLog) (a b : Assumption) → AreOpposite log a b → Opposed log a
opposed log a b (takes_or_not {r = r} {u = u}) = tt
opposed log a b (byte_or_not {r = r} {k = k} {w = w}) = tt
opposed log a b (one_is_first {a = p} {b = q} is_p is_q apart) = (is_p, is_q, apart)

pub takes-none-unopposed : (log : List ThreadLog) (r u : EventKey) → HasNoOpposite log (TakesNone r u)
takes-none-unopposed log r u b h = opposed log (TakesNone r u) b h

pub not-byte-unopposed : (log : List ThreadLog) (r : EventKey) (k : ℕ) (w : EventId) → HasNoOpposite log (NotByte r k w)
not-byte-unopposed log r k w b h = opposed log (NotByte r k w) b h

pub same-unopposed : (log : List ThreadLog) (p q : EventKey) → p ≡ q → HasNoOpposite log (Before p q)
same-unopposed log p q same b h = (opposed log (Before p q) b h).2 same

pub first-unopposed : (log : List ThreadLog) (p q : EventKey) → (IsSome (event_in log p) → ⊥) → HasNoOpposite log (Before p q)
first-unopposed log p q none b h = none (opposed log (Before p q) b h).0

pub second-unopposed : (log : List ThreadLog) (p q : EventKey) → (IsSome (event_in log q) → ⊥) → HasNoOpposite log (Before p q)
second-unopposed log p q none b h = none (opposed log (Before p q) b h).1

-- a split on an assumption that is told or denied is not new
pub unopposed-spent : (log : List ThreadLog) (assumed : List Assumption) (a : Assumption) → HasNoOpposite log a → IsSpent log assumed a
unopposed-spent log assumed a none = λ b s. none b s.opposite

pub not-about-spent : (log : List ThreadLog) (assumed : List Assumption) (a : Assumption) → (IsAbout log a → ⊥) → IsSpent log assumed a
not-about-spent log assumed a none = λ b s. none s.about

pub told-spent : (log : List ThreadLog) (assumed : List Assumption) (a : Assumption) → Contains assumed a → IsSpent log assumed a
told-spent log assumed a told = λ b s. s.not_told told

pub denied-spent : (log : List ThreadLog) (assumed : List Assumption) (a c : Assumption) → AreOpposite log a c → Contains assumed c → IsSpent log assumed a
denied-spent log assumed a c opposite denied = λ b s. s.not_denied (subst (Contains assumed) (one-opposite log a c b opposite s.opposite) denied)

-- an event reads at most eight bytes
small : (b : Bool) (n : ℕ) → n ≤ 8 → cond b n 0 ≤ 8
small true n h = h
small false n h = omega arith

pub all-bytes : (log : List ThreadLog) (assumed : List Assumption) (r : EventKey) (w : EventId) → ((k : ℕ) → k < 8 → IsSpent log assumed (Byte r k w)) → AreBytesSpent log assumed r w
all-bytes log assumed r w each = λ k b s.
    let here = s.about.0 in
    let below = here.inside in
    let most : read_width here.event ≤ 8 = small (reads here.event) _ (bytes_small here.event.width) in
    each k (omega (arith, below, most)) b s

-- if no split on an event and another is new, none is
module _ (log : List ThreadLog) (assumed : List Assumption) (events : List EventKey) (once : ListsEachOnce log events) (all : All (IsEventSpent log assumed events) events) where
  at-listed : (P : EventKey → Type 0) → All P events → (key : EventKey) → IsSome (event_in log key) → P key
  at-listed P every key is =
      let n = once.listed key is in
      let inside : n.0 < length events = slice_get_within events n.0 key n.1 in
      let here : get_or events n.0 key ≡ key = same_Some (get_or events n.0 key) key (sym (slice_get-get_or events n.0 key inside) ∙ n.1) in
      subst P here (every n.0 key inside)

  pair : (a b : EventKey) → IsSome (event_in log a) → IsSome (event_in log b) → IsPairSpent log assumed a b
  pair a b is_a is_b = at-listed (IsPairSpent log assumed a) (at-listed (IsEventSpent log assumed events) all a is_a).pairs b is_b

  from-id : (r : EventKey) (k : ℕ) (w : EventId) → IsSome (event_in log r) → IsThere log w → IsSpent log assumed (Byte r k w)
  from-id r k Init is_r there = (at-listed (IsEventSpent log assumed events) all r is_r).from_init k
  from-id r k (At u) is_r there = (pair r u is_r there).bytes k

  no-split : (a b : Assumption) → AreOpposite log a b → IsAbout log a → IsNewSplit log assumed a b → ⊥
  no-split a b (takes_or_not {r = r} {u = u}) about s = (pair r u about.0 about.1).takes b s
  no-split a b (byte_or_not {r = r} {k = k} {w = w}) about s = from-id r k w (subst (λ o. IsSome o) (sym about.0.is_event) refl) about.1 b s
  no-split a b (one_is_first {a = p} {b = q} is_p is_q apart) about s = (pair p q is_p is_q).order b s

  pub nothing-new : NothingIsNew log assumed
  nothing-new = λ a b s. no-split a b s.opposite s.about s

-- what holds if nothing is found
pub none-holds : {X : Type 0} (o : Option X) (P : Type 0) → is_some o ≡ false → IfNone o P → P
none-holds None P none h = h
none-holds (Some x) P none h = absurd (false≢true (sym none))

-- those so far, and one byte more
pub one-byte-more : (log : List ThreadLog) (assumed : List Assumption) (r : EventKey) (w : EventId) (n : ℕ) → ((k : ℕ) → k < n → IsSpent log assumed (Byte r k w)) → IsSpent log assumed (Byte r n w)
    → (k : ℕ) → k < n + 1 → IsSpent log assumed (Byte r k w)
one-byte-more log assumed r w n so-far here = λ k l. ⊎_elim
    (λ (less : k < n). so-far k less)
    (λ (more : n ≤ k). let same : n ≡ k = omega (arith, l, more) in subst (λ m. IsSpent log assumed (Byte r m w)) same here)
    (cases_lt k n)

pub take-whole : {X : Type 0} (xs : List X) (n : ℕ) → length xs ≤ n → take n xs ≡ xs
take-whole xs n over = grind (arith, common_steps)
