-- Reading from left to right: a value and the bytes after it, or a stop.
use Rattle.std.specs.Prelude.{◌≡◌, ℕ, ◌+◌, ◌-◌, ◌*◌, ◌/◌, List, [], ◌∷◌, length, Result, Ok, Err, nat_lt, if◌then◌else◌}
use Rattle.wm_decode.specs.declared.fault.FaultKind.{FaultKind}
use Rattle.wm_decode.specs.declared.fault.FaultKind.TheVariants.{BadNumber}
use Rattle.wm_decode.specs.Stop.{Stop, stop, ended, map_stop, moved}

infixl 10 ◌>>=◌
abbrev pub ◌>>=◌ : {A B : Type 0} → Result A Stop → (A → Result B Stop) → Result B Stop
Ok x >>= f = f x
Err e >>= f = Err e

-- the result of reading an item whose fault is at its first byte, with these bytes left from there on
abbrev pub faulted_at : {A : Type 0} → List ℕ → Result A Stop → Result A Stop
faulted_at bytes read = map_stop (moved (length bytes)) read

-- a number from 0 to most; a fault is at its first byte
unfoldable pub unsigned_at : ℕ → List ℕ → Result (ℕ × List ℕ) Stop
unsigned_at most [] = Err ended
unsigned_at most (b ∷ bytes) =
    let bad : Stop = stop BadNumber (length (b ∷ bytes)) in
    if nat_lt b 128 then (if nat_lt most b then Err bad else Ok (b, bytes))
    else (if nat_lt most 128 then Err bad else (faulted_at (b ∷ bytes) (unsigned_at (most / 128) bytes) >>= λ x. Ok ((b - 128) + 128 * x.0, x.1)))

-- a signed number, as its two's complement
unfoldable pub signed_at : ℕ → List ℕ → Result (ℕ × List ℕ) Stop
signed_at most [] = Err ended
signed_at most (b ∷ bytes) =
    let bad : Stop = stop BadNumber (length (b ∷ bytes)) in
    if nat_lt b 64 then (if nat_lt (most / 2) b then Err bad else Ok (b, bytes))
    else (if nat_lt b 128 then (if nat_lt (most / 2) (127 - b) then Err bad else Ok (most - (127 - b), bytes))
    else (if nat_lt most 128 then Err bad else (faulted_at (b ∷ bytes) (signed_at (most / 128) bytes) >>= λ x. Ok ((b - 128) + 128 * x.0, x.1))))

-- What a function returned, under view, is what reading gives; a stop has this number of bytes left.
abbrev pub Gives : {X Y : Type 0} → (X → Y) → ℕ → Result X FaultKind → Result Y Stop → Type 0
Gives view left (Ok x) read = read ≡ Ok (view x)
Gives view left (Err kind) read = read ≡ Err (stop kind left)
