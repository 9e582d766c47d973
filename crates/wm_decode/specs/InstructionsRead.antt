-- What reading instructions adds to the blocks.
use Rattle.std.specs.Prelude.{◌≡◌, ℕ, ◌+◌, List, ◌∷◌, ◌++◌, length, Result, Ok, Err}
use Rattle.wm_ast.specs.declared.instr.Instr.{Instr}
use Rattle.wm_decode.specs.declared.fault.ItemFault.{ItemFault}
use Rattle.wm_decode.specs.ReadingInstructions.{Body, One, closed_in, instr_in, instrs_in}
use Rattle.wm_decode.specs.Stop.{Stop}
use Rattle.wm_decode.specs.Implements.{Fails}

module _ {X : Type 0} (old new : List (List Instr)) where
  -- the instructions, the byte that closes them and the bytes after it
  abbrev pub InstrsRead : (X → List Instr × ℕ × List ℕ) → Result X ItemFault → Result Body Stop → Type 0
  InstrsRead view (Ok x) read = (nested : List (List Instr)) × (new ≡ old ++ nested) × (read ≡ Ok (record { instrs = (view x).0; nested = nested; closer = (view x).1; rest = (view x).2 }))
  InstrsRead view (Err e) read = Fails e read

  -- the number of a block, the byte that closes it and the bytes after it
  abbrev pub BlockRead : (X → ℕ × ℕ × List ℕ) → Result X ItemFault → Result Body Stop → Type 0
  BlockRead view (Ok x) read = (b : Body) × ((view x).0 ≡ length old) × (new ≡ old ++ b.instrs ∷ b.nested) × (read ≡ Ok b) × (b.closer ≡ (view x).1) × (b.rest ≡ (view x).2)
  BlockRead view (Err e) read = Fails e read

  -- the number of a block and the bytes after its end
  abbrev pub ClosedRead : (X → ℕ × List ℕ) → Result X ItemFault → Result Body Stop → Type 0
  ClosedRead view (Ok x) read = (b : Body) × ((view x).0 ≡ length old) × (new ≡ old ++ b.instrs ∷ b.nested) × (read ≡ Ok b) × (b.rest ≡ (view x).1)
  ClosedRead view (Err e) read = Fails e read

  -- an instruction and the bytes after it
  abbrev pub InstrRead : (X → Instr × List ℕ) → Result X ItemFault → Result One Stop → Type 0
  InstrRead view (Ok x) read = (nested : List (List Instr)) × (new ≡ old ++ nested) × (read ≡ Ok (record { instr = (view x).0; nested = nested; rest = (view x).1 }))
  InstrRead view (Err e) read = Fails e read

  -- what the code read is what the reading gives at this nesting depth, from the next number of a block on
  abbrev pub ReadsInstrs : ℕ → (X → List Instr × ℕ × List ℕ) → Result X ItemFault → List ℕ → Type 0
  ReadsInstrs depth view result bytes = InstrsRead view result (instrs_in depth (length old) bytes)

  abbrev pub ReadsBlock : ℕ → (X → ℕ × ℕ × List ℕ) → Result X ItemFault → List ℕ → Type 0
  ReadsBlock depth view result bytes = BlockRead view result (instrs_in depth (length old + 1) bytes)

  abbrev pub ReadsClosed : ℕ → (X → ℕ × List ℕ) → Result X ItemFault → List ℕ → Type 0
  ReadsClosed depth view result bytes = ClosedRead view result (closed_in depth (length old + 1) bytes)

  abbrev pub ReadsInstr : ℕ → ℕ → (X → Instr × List ℕ) → Result X ItemFault → List ℕ → Type 0
  ReadsInstr depth op view result bytes = InstrRead view result (instr_in depth (length old) op bytes)
