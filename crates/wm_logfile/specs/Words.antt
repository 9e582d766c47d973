-- The words of a document.
use Rattle.std.specs.Prelude.{ℕ, List, codes}
use Rattle.wm_event.specs.declared.event.EventKind.{EventKind}
use Rattle.wm_event.specs.declared.event.EventKind.TheVariants.{Read, Write, Update}
use Rattle.wm_access.specs.declared.MemoryOrder.{MemoryOrder}
use Rattle.wm_access.specs.declared.MemoryOrder.TheVariants.{Unordered, SeqCst}

abbrev pub kind_word : EventKind → List ℕ
kind_word Read = codes "r"
kind_word Write = codes "w"
kind_word Update = codes "x"

abbrev pub order_word : MemoryOrder → List ℕ
order_word Unordered = codes "un"
order_word SeqCst = codes "sc"
