-- The labels of a table.
use Rattle.std.proofs.Common.{◌≡◌, ℕ, suc, zero, ◌<◌, List, [], ◌∷◌, Option, Some, None, Bool, true, false, Result, Ok, Err, refl, sym, subst, length, get_or, slice_get, if◌then◌else◌, arith}
use Rattle.std.specs.Prelude.{IfErr}
use Rattle.std.proofs.lemmas.List.Elements.{Contains-get_or}
use Rattle.wm_ast.specs.declared.types.ValType.{ValType}
use Rattle.wm_ast.specs.declared.instr.Instr.{Instr}
use Rattle.wm_valid.specs.InstrTypes.{Context, Labels, ◌>>=◌, all_same, same, table_type}
use Rattle.wm_valid.specs.Implements.{BrokenBy, IsUntyped, TableFault}
use Rattle.wm_valid.specs.Locations.{BreaksRule, KeepsOthers}
use Rattle.wm_valid.specs.declared.fault.FaultKind.{FaultKind}
use Rattle.wm_valid.specs.declared.fault.FaultKind.TheVariants.{Label}
use Rattle.wm_valid.specs.declared.fault.InstrFault.{InstrFault}
use Rattle.wm_valid.specs.declared.fault.InstrFault.TheVariants.{Breaks, OutOfMemory}

gives_none : {X Y : Type 0} (o : Option X) (f : X → Option Y) → ((x : X) → f x ≡ None) → (o >>= f) ≡ None
gives_none None f h = refl
gives_none (Some x) f h = h x

none_if : {X : Type 0} (b : Bool) (o : Option X) → o ≡ None → (if b then o else None) ≡ None
none_if true o h = h
none_if false o h = refl

-- where one of these labels isn't there, they have no one type
none_same : (labels : Labels) (t : Option ValType) (ks : List ℕ) (i : ℕ) → i < length ks → slice_get labels (get_or ks i 0) ≡ None → all_same labels t ks ≡ None
none_same labels t [] i within none = absurd (omega arith)
none_same labels t (k ∷ ks) zero within none = rw none refl
none_same labels t (k ∷ ks) (suc i) within none =
    gives_none (slice_get labels k) (λ u. if same u t then all_same labels t ks else None) (λ u. none_if (same u t) (all_same labels t ks) (none_same labels t ks i (omega arith) none))

pub no_table : (labels : Labels) (ks : List ℕ) (l i : ℕ) → i < length ks → slice_get labels (get_or ks i 0) ≡ None → table_type labels ks l ≡ None
no_table labels ks l i within none = gives_none (slice_get labels l) (λ t. all_same labels t ks) (λ t. none_same labels t ks i within none)

pub missing : (e : FaultKind) (labels : Labels) (ks : List ℕ) (l i : ℕ) → e ≡ Label → slice_get labels (get_or ks i 0) ≡ None → i < length ks → TableFault labels ks l e
missing e labels ks l i is none within =
    let in-range : suc i < length (l ∷ ks) = omega arith in
    subst (λ (q : FaultKind). TableFault labels ks l q) (sym is) (get_or ks i 0, Contains-get_or (l ∷ ks) (suc i) 0 in-range, none)

-- an instruction that keeps the other rules breaks that of types
broken : (e : InstrFault) (C : Context) (labels : Labels) (i : Instr) → KeepsOthers C labels i → IsUntyped e → BrokenBy C labels i e
broken OutOfMemory C labels i keeps h = tt
broken (Breaks kind) C labels i keeps h = subst (BreaksRule C labels i) (sym h) keeps

pub untyped_breaks : {X : Type 0} (r : Result X InstrFault) (C : Context) (labels : Labels) (i : Instr) → KeepsOthers C labels i → IfErr r IsUntyped → IfErr r (BrokenBy C labels i)
untyped_breaks (Ok x) C labels i keeps h = tt
untyped_breaks (Err e) C labels i keeps h = broken e C labels i keeps h
