-- What a function returned, under view, is what reading gives, unless an allocation fails.
use Rattle.std.specs.Prelude.{◌≡◌, ◌≤◌, ◌<◌, ◌+◌, ◌^◌, ℕ, Result, Ok, Err}
use Rattle.wm_decode.specs.declared.fault.Limit.{Limit}
use Rattle.wm_decode.specs.declared.fault.FaultKind.TheVariants as kind
use Rattle.wm_decode.specs.declared.fault.ItemFault.{ItemFault}
use Rattle.wm_decode.specs.declared.fault.ItemFault.TheVariants.{OutOfMemory, WithLeft}
use Rattle.wm_decode.specs.declared.fault.DecodeFault.{DecodeFault}
use Rattle.wm_decode.specs.declared.fault.DecodeFault.TheVariants as decode
use Rattle.wm_decode.specs.Stop.{Stop, stop, offset_in}

abbrev pub Fails : {Y : Type 0} → ItemFault → Result Y Stop → Type 0
Fails OutOfMemory read = Unit {0}
Fails (WithLeft kind left) read = read ≡ Err (stop kind left)

abbrev pub Implements : {X Y : Type 0} → (X → Y) → Result X ItemFault → Result Y Stop → Type 0
Implements view (Ok x) read = read ≡ Ok (view x)
Implements view (Err e) read = Fails e read

-- the fault of a stop
abbrev pub fault_of : Stop → ItemFault
fault_of s = WithLeft s.kind s.left

-- the same fault with its stop changed, unless an allocation fails
abbrev pub map_fault : (Stop → Stop) → ItemFault → ItemFault
map_fault f OutOfMemory = OutOfMemory
map_fault f (WithLeft kind left) = fault_of (f (stop kind left))

-- the result of decoding is what reading gives, unless an allocation fails
abbrev pub Decodes : {X : Type 0} → Result X DecodeFault → Result X Stop → Type 0
Decodes (Ok x) read = read ≡ Ok x
Decodes (Err decode.OutOfMemory) read = Unit {0}
Decodes (Err (decode.At kind offset)) read = (left : ℕ) × (read ≡ Err (stop kind left))

-- the fault of decoding is the one at which reading stops, in this number of bytes, and at its offset
abbrev pub IsFaultOf : {X : Type 0} → ℕ → Result X Stop → DecodeFault → Type 0
IsFaultOf bytes read decode.OutOfMemory = Unit {0}
IsFaultOf bytes read (decode.At kind offset) = (left : ℕ) × (read ≡ Err (stop kind left)) × (left ≤ bytes) × (offset ≡ offset_in bytes kind left)

-- the number of bytes left from the faulty item on is at most this number
abbrev pub LeftWithin : ℕ → ItemFault → Type 0
LeftWithin bytes OutOfMemory = Unit {0}
LeftWithin bytes (WithLeft kind left) = left ≤ bytes

-- this number of bytes can be added to those left
abbrev pub HasRoom : ℕ → ItemFault → Type 0
HasRoom after OutOfMemory = Unit {0}
HasRoom after (WithLeft kind left) = left + after < 2 ^ 64

-- the same fault for the caller, in this number of bytes
abbrev pub in_module : ℕ → ItemFault → DecodeFault
in_module bytes OutOfMemory = decode.OutOfMemory
in_module bytes (WithLeft kind left) = decode.At kind (offset_in bytes kind left)

-- the fault's offset is at most the number of bytes
abbrev pub IsWithin : ℕ → DecodeFault → Type 0
IsWithin bytes (decode.At kind offset) = offset ≤ bytes
IsWithin bytes decode.OutOfMemory = Unit {0}

-- this value is the result, unless an allocation fails
abbrev pub IsUnlessMemory : {X : Type 0} → Result X DecodeFault → X → Type 0
IsUnlessMemory (Ok x) m = x ≡ m
IsUnlessMemory (Err decode.OutOfMemory) m = Unit {0}
IsUnlessMemory (Err (decode.At kind offset)) m = ⊥

-- decoding is refused, with this limit named
abbrev pub RefusedBy : {X : Type 0} → Limit → Result X DecodeFault → Type 0
RefusedBy limit result = (offset : ℕ) × (result ≡ Err (decode.At (kind.Limit limit) offset))
