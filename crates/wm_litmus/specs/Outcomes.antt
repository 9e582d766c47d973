-- How the threads of a run ended, as text.
use Rattle.std.specs.Prelude.{ℕ, zero, suc, List, [], ◌∷◌, ◌++◌, Some, None, codes, flat_map}
use Rattle.std.specs.Fmt.{decimal}
use Rattle.wm_event.specs.declared.log.End.{End}
use Rattle.wm_event.specs.declared.log.End.TheVariants.{Done, Trap, Cut}
use Rattle.wm_event.specs.declared.log.ThreadLog.{ThreadLog}
use Rattle.wm_event.specs.TrapText.{trap_text}

-- the value in decimal, `-` for none, the trap's name, or `cut`
abbrev pub end_text : End → List ℕ
end_text (Done (Some value)) = decimal value
end_text (Done None) = codes "-"
end_text (Trap kind) = codes "trap:" ++ trap_text kind
end_text Cut = codes "cut"

-- the separator before the end of a thread
abbrev pub separator_text : ℕ → List ℕ
separator_text zero = []
separator_text (suc number) = codes " "

-- each thread's end, with a space between them
abbrev pub outcome_text : List ThreadLog → List ℕ
outcome_text [] = []
outcome_text (thread ∷ threads) = end_text thread.end ++ flat_map (λ (other : ThreadLog). codes " " ++ end_text other.end) threads
