-- What a sentence states about the byte where a memory rule is broken.
use Rattle.std.specs.Prelude.{◌≡◌, ◌+◌, ◌<◌, ℕ, Some}
use Rattle.wm_event.specs.Byte.{byte_of}
use Rattle.wm_event.specs.Execution.{Execution, byte_by}
use Rattle.wm_event.specs.declared.event.Event.{Event}
use Rattle.wm_event.specs.declared.rule.RuleFault.{RuleFault}
use Rattle.wm_explain.specs.declared.rule.RuleSentence.{RuleSentence}

-- the address of the byte, in the range of the read
abbrev pub IsAddressOf : Execution → RuleFault → ℕ → Type 0
IsAddressOf x f address = (e : Event) → x.event_of f.event ≡ Some e → address ≡ e.address + f.byte

-- the value that the read has there
abbrev pub IsReadAt : Execution → RuleFault → ℕ → Type 0
IsReadAt x f read = (e : Event) → x.event_of f.event ≡ Some e → f.byte < 8 → read ≡ byte_of e.read f.byte

-- the byte's address, the value that the read has there, and the value that the writer leaves there
pub record IsSaidOf (x : Execution) (f : RuleFault) (said : RuleSentence) : Type 0 where
  pub fault : said.fault ≡ f
  pub address : IsAddressOf x f said.address
  pub read : IsReadAt x f said.read
  pub written : said.written ≡ byte_by x f.writer said.address
