-- The initial memory of a module.
use Rattle.std.proofs.Common.{◌≡◌, ℕ, List, sym, ◌∙◌, arith}
use Rattle.std.proofs.lemmas.Grind.{same_number_lists}
use Rattle.wm_ast.specs.declared.module.Module.{Module}
use Rattle.wm_valid.specs.Valid.{IsInit}

-- a module has one initial memory
pub one_init : (m : Module) (xs ys : List ℕ) → IsInit m xs → IsInit m ys → xs ≡ ys
one_init m xs ys a b =
    same_number_lists xs ys (a.size ∙ sym b.size)
    (λ k lt. a.each k (omega (arith, lt, a.size)) ∙ sym (b.each k (omega (arith, lt, a.size))))
