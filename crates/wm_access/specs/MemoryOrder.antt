use Rattle.std.specs.Prelude.{Bool, true, false}
use Rattle.wm_access.specs.declared.MemoryOrder.{MemoryOrder}
use Rattle.wm_access.specs.declared.MemoryOrder.TheVariants.{Unordered, SeqCst}

-- an access is atomic if its order is SeqCst
abbrev pub is_sequential : MemoryOrder → Bool
is_sequential Unordered = false
is_sequential SeqCst = true
