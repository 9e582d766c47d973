-- The widths, operands and orders of accesses.
use Rattle.wm_access.specs.declared.AccessWidth.{AccessWidth}
use Rattle.wm_access.specs.declared.AccessWidth.TheVariants.{One, Two, Four, Eight}
use Rattle.wm_access.specs.declared.MemoryOrder.{MemoryOrder}
use Rattle.wm_access.specs.declared.MemoryOrder.TheVariants.{Unordered, SeqCst}
use Rattle.wm_ast.specs.declared.types.ValType.{ValType}
use Rattle.wm_ast.specs.declared.types.ValType.TheVariants as value
use Rattle.wm_ast.specs.declared.access.Storage.{Storage}
use Rattle.wm_ast.specs.declared.access.Storage.TheVariants as storage
use Rattle.wm_ast.specs.declared.access.Narrow.{Narrow}
use Rattle.wm_ast.specs.declared.access.Narrow.TheVariants as narrow
use Rattle.wm_ast.specs.declared.access.AccessKind.{AccessKind}
use Rattle.wm_ast.specs.declared.access.AccessKind.TheVariants.{Read, ReadSigned, Write, AtomicRead, AtomicWrite, Rmw, CmpXchg}

-- how many bytes are in memory
abbrev pub storage_width : Storage → AccessWidth
storage_width storage.I32 = Four
storage_width storage.I64 = Eight
storage_width storage.I32As8 = One
storage_width storage.I32As16 = Two
storage_width storage.I64As8 = One
storage_width storage.I64As16 = Two
storage_width storage.I64As32 = Four

-- the type of the operand
abbrev pub storage_operand : Storage → ValType
storage_operand storage.I32 = value.I32
storage_operand storage.I64 = value.I64
storage_operand storage.I32As8 = value.I32
storage_operand storage.I32As16 = value.I32
storage_operand storage.I64As8 = value.I64
storage_operand storage.I64As16 = value.I64
storage_operand storage.I64As32 = value.I64

-- the same operand and bytes
abbrev pub narrow_storage : Narrow → Storage
narrow_storage narrow.I32As8 = storage.I32As8
narrow_storage narrow.I32As16 = storage.I32As16
narrow_storage narrow.I64As8 = storage.I64As8
narrow_storage narrow.I64As16 = storage.I64As16
narrow_storage narrow.I64As32 = storage.I64As32

-- all bytes of a value
abbrev pub whole : ValType → Storage
whole value.I32 = storage.I32
whole value.I64 = storage.I64

abbrev pub access_storage : AccessKind → Storage
access_storage (Read s) = s
access_storage (ReadSigned n) = narrow_storage n
access_storage (Write s) = s
access_storage (AtomicRead s) = s
access_storage (AtomicWrite s) = s
access_storage (Rmw op s) = s
access_storage (CmpXchg ty) = whole ty

-- how many bytes are accessed
abbrev pub access_width : AccessKind → AccessWidth
access_width kind = storage_width (access_storage kind)

-- the type of the value that is loaded or stored
abbrev pub access_operand : AccessKind → ValType
access_operand kind = storage_operand (access_storage kind)

-- plain accesses are unordered, atomic ones sequentially consistent
abbrev pub access_order : AccessKind → MemoryOrder
access_order (Read s) = Unordered
access_order (ReadSigned n) = Unordered
access_order (Write s) = Unordered
access_order (AtomicRead s) = SeqCst
access_order (AtomicWrite s) = SeqCst
access_order (Rmw op s) = SeqCst
access_order (CmpXchg ty) = SeqCst
