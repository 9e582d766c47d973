-- Why reading stops without a value.
use Rattle.std.specs.Prelude.{ℕ, ◌+◌, ◌-◌, Result, Ok, Err}
use Rattle.wm_decode.specs.declared.fault.Limit.{Limit}
use Rattle.wm_decode.specs.declared.fault.FaultKind.{FaultKind}
use Rattle.wm_decode.specs.declared.fault.FaultKind.TheVariants as kind

-- what is wrong, and how many bytes are left, counted from the faulty item's first byte
pub record Stop : Type 0 where
  pub kind : FaultKind
  pub left : ℕ

abbrev pub stop : FaultKind → ℕ → Stop
stop kind left = record { kind = kind; left = left }

-- the bytes end too early
abbrev pub ended : Stop
ended = stop kind.Truncated 0

-- the module is over this limit
abbrev pub past : Limit → ℕ → Stop
past limit left = stop (kind.Limit limit) left

-- what runs past the end of a section or body has the wrong size
abbrev pub inner_kind : FaultKind → FaultKind
inner_kind kind.Truncated = kind.SectionSize
inner_kind k = k

-- a stop in a section or body that has this number of bytes after it
abbrev pub before : ℕ → Stop → Stop
before after s = stop (inner_kind s.kind) (s.left + after)

-- a stop in an item with the fault at its first byte, with this number of bytes left from there on
abbrev pub moved : ℕ → Stop → Stop
moved left s = stop s.kind left

-- with the stop changed, if reading stops
abbrev pub map_stop : {A : Type 0} → (Stop → Stop) → Result A Stop → Result A Stop
map_stop f (Ok x) = Ok x
map_stop f (Err s) = Err (f s)

-- the offset of the faulty item in this number of bytes; if bytes end too early, the fault is at their end
abbrev pub offset_in : ℕ → FaultKind → ℕ → ℕ
offset_in bytes kind.Truncated left = bytes
offset_in bytes k left = bytes - left
