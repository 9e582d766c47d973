-- The limits of a module.
use Rattle.std.specs.Prelude.{ℕ}

-- The most initial pages, functions, and parameters and locals of a function, and the maximal nesting depth of blocks.
pub record Bounds : Type 0 where
  pub pages : ℕ
  pub functions : ℕ
  pub locals : ℕ
  pub nesting : ℕ

-- the limits of this project
abbrev pub profile : Bounds
profile = record { pages = 16; functions = 1000; locals = 1000; nesting = 64 }

-- the most bytes of a module
abbrev pub max_module_bytes : ℕ
max_module_bytes = 1048576
