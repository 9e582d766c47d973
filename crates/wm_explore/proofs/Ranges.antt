-- The bytes that an event reads and writes.
use Rattle.std.proofs.Common.{◌≡◌, ℕ, ◌+◌, ◌-◌, ◌<◌, ◌≤◌, Bool, true, false, inl, inr, None, Some, IsSome, refl, sym, ap, ◌∙◌, arith, nat_le, nat_lt, ◌&&◌, if◌then◌else◌}
use Rattle.std.specs.Prelude.{◌⊎◌}
use borrow.Author.Tests.{tests}
use Rattle.std.proofs.lemmas.Bool.{and_from, and_left, and_parts, and_right, true≢false}
use Rattle.wm_access.specs.AccessWidth.{bytes_of}
use Rattle.wm_access.specs.declared.AccessWidth.{AccessWidth}
use Rattle.wm_access.specs.declared.AccessWidth.TheVariants.{One, Two, Four, Eight}
use Rattle.wm_event.specs.Byte.{byte_of}
use Rattle.wm_event.specs.Event.{byte_written, range_of, writes}
use Rattle.wm_event.specs.declared.event.Event.{Event}
use Rattle.wm_event.proofs.WritesLemmas.{is_some_if}

-- a byte of as many as a read has
pub read_byte : (b : Bool) (width count k : ℕ) → count ≡ (if b then width else 0) → k < count → k < width
read_byte true width count k same lt = omega (arith, same, lt)
read_byte false width count k same lt = absurd (omega (arith, same, lt))

test_from : (low a high : ℕ) → low ≤ a → a < high → (nat_le low a && nat_lt a high) ≡ true
test_from low a high h l = grind (arith, tests)

-- an event that writes a byte of its range writes each
pub written_bytes : (f e : Event) (i k : ℕ) → range_of f ≡ range_of e → IsSome (byte_written f (e.address + i)) → k < bytes_of e.width → IsSome (byte_written f (e.address + k))
written_bytes f e i k same some lt =
    is_some_if (writes f && inside k) (byte_of f.written (e.address + k - f.address)) ∙ and_from (writes f) (inside k) writing (test_from f.address (e.address + k) (f.address + bytes_of f.width) low high)
  where
    inside : ℕ → Bool
    inside n = nat_le f.address (e.address + n) && nat_lt (e.address + n) (f.address + bytes_of f.width)

    writing : writes f ≡ true
    writing = (and_parts (writes f) (inside i) (sym (is_some_if (writes f && inside i) (byte_of f.written (e.address + i - f.address))) ∙ some)).0

    address : f.address ≡ e.address
    address = ap (λ r. r.address) same

    width : bytes_of f.width ≡ bytes_of e.width
    width = ap (λ r. bytes_of r.width) same

    low : f.address ≤ e.address + k
    low = omega (arith, address)

    high : e.address + k < f.address + bytes_of f.width
    high = omega (arith, address, width, lt)

none_if : {X : Type 0} (b : Bool) (x : X) → b ≡ false → (if b then Some x else None) ≡ None
none_if true x is = absurd (true≢false is)
none_if false x is = refl

test_above : (low a high : ℕ) → a < low → (nat_le low a && nat_lt a high) ≡ false
test_above low a high l = grind (arith, tests)

test_below : (low a high : ℕ) → high ≤ a → (nat_le low a && nat_lt a high) ≡ false
test_below low a high h = grind (arith, tests)

-- an event that doesn't write leaves no byte
pub unwritten : (f : Event) (a : ℕ) → writes f ≡ false → byte_written f a ≡ None
unwritten f a not = none_if (writes f && (nat_le f.address a && nat_lt a (f.address + bytes_of f.width))) (byte_of f.written (a - f.address)) (and_left (writes f) (nat_le f.address a && nat_lt a (f.address + bytes_of f.width)) not)

-- nor does an event of another range
pub unwritten_outside : (f : Event) (a : ℕ) → (a < f.address) ⊎ (f.address + bytes_of f.width ≤ a) → byte_written f a ≡ None
unwritten_outside f a out = none_if (writes f && (nat_le f.address a && nat_lt a (f.address + bytes_of f.width))) (byte_of f.written (a - f.address)) (and_right (writes f) (nat_le f.address a && nat_lt a (f.address + bytes_of f.width)) (by out))
  where
    by : (a < f.address) ⊎ (f.address + bytes_of f.width ≤ a) → (nat_le f.address a && nat_lt a (f.address + bytes_of f.width)) ≡ false
    by (inl l) = test_above f.address a (f.address + bytes_of f.width) l
    by (inr h) = test_below f.address a (f.address + bytes_of f.width) h

-- an access has a byte
pub some_bytes : (w : AccessWidth) → 0 < bytes_of w
some_bytes One = omega arith
some_bytes Two = omega arith
some_bytes Four = omega arith
some_bytes Eight = omega arith
