use Rattle.std.specs.Prelude.{ℕ, ◌*◌, ◌^◌, ◌<◌}
use Rattle.wm_access.specs.declared.AccessWidth.{AccessWidth}
use Rattle.wm_access.specs.declared.AccessWidth.TheVariants.{One, Two, Four, Eight}

-- how many bytes an access takes
abbrev pub bytes_of : AccessWidth → ℕ
bytes_of One = 1
bytes_of Two = 2
bytes_of Four = 4
bytes_of Eight = 8

-- a value of this number of bytes
abbrev pub Fits : AccessWidth → ℕ → Type 0
Fits width v = v < 2 ^ (8 * bytes_of width)
