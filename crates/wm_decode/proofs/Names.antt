-- Names are read as they are spelled.
use Rattle.std.proofs.Common.{◌≡◌, ℕ, Bool, true, false, cond, List, length, Ok, Err, refl}
use Rattle.std.specs.Str.{IsUtf8, is_utf8}
use Rattle.std.proofs.lemmas.Str.{IsUtf8-from_is_utf8, is_utf8-from_IsUtf8}
use Rattle.wm_decode.specs.declared.fault.FaultKind.TheVariants.{BadName}
use Rattle.wm_decode.specs.Stop.{Stop, stop}
use Rattle.wm_decode.specs.ReadingVectors.{byte_vector_at, name_at}

pub name_found : (bytes text rest : List ℕ) → byte_vector_at bytes ≡ Ok (text, rest) → IsUtf8 text → name_at bytes ≡ Ok (text, rest)
unfolding name_at
name_found bytes text rest e u = rw (e, is_utf8-from_IsUtf8 text u) refl

refused : (s : Stop) (b : Bool) (x : List ℕ × List ℕ) → (b ≡ true → ⊥) → cond b (Ok x) (Err s) ≡ Err s
refused s true x h = absurd (h refl)
refused s false x h = refl

pub name_bad : (bytes text rest : List ℕ) → byte_vector_at bytes ≡ Ok (text, rest) → ¬ (IsUtf8 text) → name_at bytes ≡ Err (stop BadName (length bytes))
unfolding name_at
name_bad bytes text rest e u = rw e (refused (stop BadName (length bytes)) (is_utf8 text) (text, rest) (λ h. u (IsUtf8-from_is_utf8 text h)))
