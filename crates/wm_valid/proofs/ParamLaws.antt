-- The arguments of a call, from the last to the first.
use Rattle.std.proofs.Common.{◌≡◌, ℕ, suc, zero, ◌-◌, ◌<◌, ◌≤◌, List, [], ◌∷◌, Option, Some, None, sym, ap, ◌∙◌, length, reverse, take, get_or, arith}
use Rattle.std.proofs.Math.Seq.{take-suc}
use Rattle.std.proofs.lemmas.List.{reverse-append}
use Rattle.wm_ast.specs.declared.types.ValType.{ValType}
use Rattle.wm_valid.specs.InstrTypes.{◌>>=◌}
use Rattle.wm_valid.specs.Implements.{Unless}
use Rattle.wm_valid.specs.declared.fault.InstrFault.{InstrFault}
use Rattle.wm_valid.specs.declared.fault.InstrFault.TheVariants.{Breaks, OutOfMemory}
use Rattle.wm_valid.specs.Stacks.{Stack, take_one, take_all}

pub unless_then : {P Q : Type 0} (e : InstrFault) → (P → Q) → Unless e P → Unless e Q
unless_then OutOfMemory f h = tt
unless_then (Breaks kind) f h = f h

last_first : (params : List ValType) (n : ℕ) (d : ValType) (s : Stack) → 0 < n → n ≤ length params → take_all (reverse (take n params)) s ≡ (take_one (get_or params (n - 1) d) s >>= take_all (reverse (take (n - 1) params)))
last_first params zero d s more within = absurd (omega arith)
last_first params (suc k) d s more within =
    let one : suc k - 1 ≡ k = omega arith in
    let lt : k < length params = omega arith in
    rw one (ap (λ (l : List ValType). take_all l s) (ap reverse (take-suc params k d lt) ∙ reverse-append (take k params) (get_or params k d ∷ [])))

pub params_goes : (params : List ValType) (n : ℕ) (d : ValType) (s s1 : Stack) (whole : Option Stack) → 0 < n → n ≤ length params → take_one (get_or params (n - 1) d) s ≡ Some s1
    → take_all (reverse (take n params)) s ≡ whole → take_all (reverse (take (n - 1) params)) s1 ≡ whole
params_goes params n d s s1 whole more within e h = ap (λ (o : Option Stack). o >>= take_all (reverse (take (n - 1) params))) (sym e) ∙ sym (last_first params n d s more within) ∙ h

pub params_fails : (params : List ValType) (n : ℕ) (d : ValType) (s : Stack) (whole : Option Stack) → 0 < n → n ≤ length params → take_all (reverse (take n params)) s ≡ whole
    → take_one (get_or params (n - 1) d) s ≡ None → whole ≡ None
params_fails params n d s whole more within h e = sym h ∙ last_first params n d s more within ∙ ap (λ (o : Option Stack). o >>= take_all (reverse (take (n - 1) params))) e
