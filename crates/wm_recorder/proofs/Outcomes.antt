-- What holds of a result, told of each outcome.
use Rattle.std.proofs.Common.{Result, Ok, Err}
use Rattle.std.specs.Prelude.{IfOk, IfErr}

pub of_ok : {X Y : Type 0} (holds : Result X Y → Type 0) (r : Result X Y) → holds r → IfOk r (λ x. holds (Ok x))
of_ok holds (Ok x) is = is
of_ok holds (Err y) is = tt

pub of_err : {X Y : Type 0} (holds : Result X Y → Type 0) (r : Result X Y) → holds r → IfErr r (λ y. holds (Err y))
of_err holds (Ok x) is = tt
of_err holds (Err y) is = is
