-- A byte fits every width.
use Rattle.std.proofs.Common.{ℕ, ◌*◌, ◌<◌, ◌^◌, arith}
use Rattle.wm_access.specs.declared.AccessWidth.{AccessWidth}
use Rattle.wm_access.specs.declared.AccessWidth.TheVariants.{One, Two, Four, Eight}
use Rattle.wm_access.specs.AccessWidth.{bytes_of}

pub small_fits : (w : AccessWidth) (v : ℕ) → v < 256 → v < 2 ^ (8 * bytes_of w)
small_fits One v h = omega (arith, h)
small_fits Two v h = omega (arith, h)
small_fits Four v h = omega (arith, h)
small_fits Eight v h = omega (arith, h)

pub half_fits : (v : ℕ) → v < 65536 → v < 2 ^ (8 * bytes_of Eight)
half_fits v h = omega (arith, h)
