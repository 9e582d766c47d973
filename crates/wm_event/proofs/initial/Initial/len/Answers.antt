use Rattle.std.proofs.Common.{◌<◌, ℕ, List, All, subst}
use Rattle.wm_event.proofs.ZeroLemmas.{bytes_with_zeros}
use Rattle.wm_event.proofs.initial.Initial.len.Goals as goal

pub returns-clause-bytes : goal.returns-clause-bytes
returns-clause-bytes c =
    let kept : All (λ b. b < 256) c.self.inside.bytes.items = subst (λ (xs : List ℕ). All (λ b. b < 256) xs) c.as_slice.ensures.value c.as_bytes-bytes.ensures.bound in
    subst (λ (xs : List ℕ). All (λ b. b < 256) xs) c.self.view_is (bytes_with_zeros c.self.inside.bytes.items c.self.inside.len kept)
