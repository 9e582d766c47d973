-- A step of the innermost place, seen from outside.
use Rattle.std.proofs.Common.{◌≡◌, ℕ, zero, suc, ◌+◌, ◌-◌, ◌≤◌, ◌<◌, List, [], ◌∷◌, ◌++◌, length, Option, Some, None, refl, sym, ap, ◌∙◌, arith, get_or}
use Rattle.std.specs.Prelude.{slice_get, IfSome, drop, Bool, true, false}
use Rattle.std.proofs.lemmas.Option.{slice_get-get_or}
use Rattle.wm_ast.specs.declared.module.Module.{Module}
use Rattle.wm_ast.specs.declared.instr.Instr.{Instr}
use Rattle.wm_ast.specs.Module.{block_in}
use Rattle.wm_event.specs.declared.op.OpFields.{OpFields}
use Rattle.wm_event.specs.declared.log.TrapKind.{TrapKind}
use Rattle.wm_machine.specs.declared.value.TypedValue.{TypedValue}
use Rattle.wm_machine.specs.declared.action.Action.{Action}
use Rattle.wm_machine.specs.Functions.{continuation, from_place}
use Rattle.wm_machine.specs.Term.{Vars, Term, Here, Label, Next, Leaves, Returns, Traps, Stuck}
use Rattle.wm_machine.specs.Step.{reduce, branch_to, continue_with, act, after, enter, returned}
use Rattle.wm_machine.specs.Nest.{Nest, Position, after_branch, carried_top, joined}
use Rattle.wm_machine.specs.Action.{does}
use Rattle.wm_machine.specs.Configuration.{around, left_of}
use Rattle.wm_machine.specs.Inside.{out_of_labels, seen, back}

module _ (m : Module) (read : ℕ) where
  pub labels_lift : (depth func : ℕ) (vars : Vars) (ps : List Position) (t : Term) → reduce m read depth func vars (around m func ps t) ≡ out_of_labels m func vars ps (reduce m read depth func vars t)
  labels_lift depth func vars [] t = refl
  labels_lift depth func vars (p ∷ ps) t = labels_lift depth func vars ps (Label p.operands (continuation m func p.block p.at) t)

  pub labels_next : (func : ℕ) (vars vars' : Vars) (made : Option OpFields) (ps : List Position) (t : Term) → out_of_labels m func vars ps (Next made vars' t) ≡ Next made vars' (around m func ps t)
  labels_next func vars vars' made [] t = refl
  labels_next func vars vars' made (p ∷ ps) t = labels_next func vars vars' made ps (Label p.operands (continuation m func p.block p.at) t)

  pub labels_traps : (func : ℕ) (vars : Vars) (kind : TrapKind) (ps : List Position) → out_of_labels m func vars ps (Traps kind) ≡ Traps kind
  labels_traps func vars kind [] = refl
  labels_traps func vars kind (p ∷ ps) = labels_traps func vars kind ps

  pub labels_returns : (func : ℕ) (vars : Vars) (values : List TypedValue) (ps : List Position) → out_of_labels m func vars ps (Returns values) ≡ Returns values
  labels_returns func vars values [] = refl
  labels_returns func vars values (p ∷ ps) = labels_returns func vars values ps

  pub labels_stuck : (func : ℕ) (vars : Vars) (ps : List Position) → out_of_labels m func vars ps Stuck ≡ Stuck
  labels_stuck func vars [] = refl
  labels_stuck func vars (p ∷ ps) = labels_stuck func vars ps

-- an instruction after which the next one of its block comes
pub continues_within : (m : Module) (func block at : ℕ) (vars vars' : Vars) (operands : List TypedValue) (outer : List Position) (made : Option OpFields) (i : Instr) → continuation m func block at ≡ i ∷ continuation m func block (at + 1) → seen m func (out_of_labels m func vars outer (Next made vars' (Here operands (after (continuation m func block at))))) ≡ Next None vars' (around m func outer (Here operands (continuation m func block (at + 1))))
continues_within m func block at vars vars' operands outer made i h =
    let e = labels_next m 0 func vars vars' made outer (Here operands (continuation m func block (at + 1))) in
    rw h (ap (seen m func) e)

-- an instruction that enters a block
pub enters_within : (m : Module) (func block : ℕ) (vars : Vars) (operands : List TypedValue) (outer : List Position) (instrs instrs' : List Instr) → block_in m.funcs func block ≡ Some instrs' → seen m func (out_of_labels m func vars outer (enter (block_in m.funcs func block) vars operands instrs)) ≡ Next None vars (around m func outer (Label operands instrs (Here [] (continuation m func block 0))))
enters_within m func block vars operands outer instrs instrs' h =
    let e = labels_next m 0 func vars vars None outer (Label operands instrs (Here [] instrs')) in
    rw h (ap (seen m func) e)

pub enters_none : (m : Module) (func block : ℕ) (vars : Vars) (operands : List TypedValue) (outer : List Position) (instrs : List Instr) → block_in m.funcs func block ≡ None → seen m func (out_of_labels m func vars outer (enter (block_in m.funcs func block) vars operands instrs)) ≡ Stuck
enters_none m func block vars operands outer instrs h = rw h (ap (seen m func) (labels_stuck m 0 func vars outer))

-- a return through the labels round it
pub returns_out : (m : Module) (func : ℕ) (vars : Vars) (operands : List TypedValue) (outer : List Position) → seen m func (out_of_labels m func vars outer (Returns operands)) ≡ back (returned m func operands)
returns_out m func vars operands outer = ap (seen m func) (labels_returns m 0 func vars operands outer)

pub traps_out : (m : Module) (func : ℕ) (vars : Vars) (kind : TrapKind) (outer : List Position) → seen m func (out_of_labels m func vars outer (Traps kind)) ≡ Traps kind
traps_out m func vars kind outer = ap (seen m func) (labels_traps m 0 func vars kind outer)

pub stuck_out : (m : Module) (func : ℕ) (vars : Vars) (outer : List Position) → seen m func (out_of_labels m func vars outer Stuck) ≡ Stuck
stuck_out m func vars outer = ap (seen m func) (labels_stuck m 0 func vars outer)

-- a branch out of the function
pub leaves_func : (m : Module) (func : ℕ) (vars : Vars) (values : List TypedValue) (outer : List Position) (label : ℕ) → length outer ≤ label → out_of_labels m func vars outer (Leaves label values) ≡ Leaves (label - length outer) values
leaves_func m func vars values [] label h = ap (λ k. Leaves k values) (omega arith)
leaves_func m func vars values (p ∷ ps) zero h = absurd (omega arith)
leaves_func m func vars values (p ∷ ps) (suc l) h = leaves_func m func vars values ps l (omega arith) ∙ ap (λ k. Leaves k values) (omega arith)

-- a branch to a block round it
pub leaves_at : (m : Module) (func : ℕ) (vars : Vars) (values : List TypedValue) (outer : List Position) (label : ℕ) (p : Position) → slice_get outer label ≡ Some p → out_of_labels m func vars outer (Leaves label values) ≡ out_of_labels m func vars (drop (label + 1) outer) (branch_to vars p.operands (continuation m func p.block p.at) values)
leaves_at m func vars values [] label p h = cc
leaves_at m func vars values (q ∷ ps) zero p h = let e : q ≡ p = cc in ap (λ (r : Position). out_of_labels m func vars ps (branch_to vars r.operands (continuation m func r.block r.at) values)) e
leaves_at m func vars values (q ∷ ps) (suc l) p h =
    let e : suc (l + 1) ≡ suc l + 1 = omega arith in
    leaves_at m func vars values ps l p h ∙ ap (λ (k : ℕ). out_of_labels m func vars (drop k (q ∷ ps)) (branch_to vars p.operands (continuation m func p.block p.at) values)) e

-- where unwinding leads
pub after_branch_at : (label : ℕ) (values : List TypedValue) (outer : List Position) (p : Position) → slice_get outer label ≡ Some p → after_branch label values outer ≡ Some record { operands = values ++ p.operands; block = p.block; at = p.at; outer = drop (label + 1) outer }
after_branch_at label values [] p h = cc
after_branch_at zero values (q ∷ ps) p h = let e : q ≡ p = cc in ap (λ (r : Position). Some record { operands = values ++ r.operands; block = r.block; at = r.at; outer = ps }) e
after_branch_at (suc l) values (q ∷ ps) p h =
    let e : suc (l + 1) ≡ suc l + 1 = omega arith in
    after_branch_at l values ps p h ∙ ap (λ (k : ℕ). Some record { operands = values ++ p.operands; block = p.block; at = p.at; outer = drop k (q ∷ ps) }) e

abbrev pub At : List Position → ℕ → ℕ → ℕ → Type 0
At outer label block at = IfSome (slice_get outer label) (λ p. (block ≡ p.block) × (at ≡ p.at))

record Found (outer : List Position) (label block at : ℕ) : Type 0 where
  place : Position
  found : slice_get outer label ≡ Some place
  block_is : block ≡ place.block
  at_is : at ≡ place.at

find : (outer : List Position) (label block at : ℕ) → label < length outer → At outer label block at → Found outer label block at
find outer label block at within is =
    let d : Position = record { operands = []; block = 0; at = 0 } in
    let e = slice_get-get_or outer label d within in
    let h = rw e at is in
    record { place = get_or outer label d; found = e; block_is = h.0; at_is = h.1 }

-- the branch and the unwinding agree
pub branches_to : (m : Module) (func : ℕ) (vars : Vars) (values : List TypedValue) (outer : List Position) (label block at next : ℕ) (carry : Bool) (n : Nest) → label < length outer → At outer label block at → after_branch label (carried_top carry values) outer ≡ Some n → ((operands : List TypedValue) → branch_to vars operands (continuation m func block at) values ≡ continue_with vars (carried_top carry values ++ operands) (continuation m func block next)) → seen m func (out_of_labels m func vars outer (Leaves label values)) ≡ Next None vars (around m func n.outer (Here n.operands (continuation m func n.block next)))
branches_to m func vars values outer label block at next carry n within is h branches =
    let f = find outer label block at within is in
    let p = f.place in
    let cs = carried_top carry values in
    let t1 : continuation m func p.block p.at ≡ continuation m func block at = ap (λ (b : ℕ). continuation m func b p.at) (sym f.block_is) ∙ ap (λ (a : ℕ). continuation m func block a) (sym f.at_is) in
    let e1 = leaves_at m func vars values outer label p f.found in
    let e2 : branch_to vars p.operands (continuation m func p.block p.at) values ≡ continue_with vars (cs ++ p.operands) (continuation m func block next) = ap (λ (i : List Instr). branch_to vars p.operands i values) t1 ∙ branches p.operands in
    let e3 = labels_next m 0 func vars vars None (drop (label + 1) outer) (Here (cs ++ p.operands) (continuation m func block next)) in
    let e4 = sym (after_branch_at label cs outer p f.found) ∙ h in
    let r : Nest = record { operands = cs ++ p.operands; block = p.block; at = p.at; outer = drop (label + 1) outer } in
    let inj : r ≡ n = cc in
    let e5 = ap (λ (b : ℕ). Next None vars (around m func (drop (label + 1) outer) (Here (cs ++ p.operands) (continuation m func b next)))) f.block_is in
    ap (seen m func) (e1 ∙ ap (out_of_labels m func vars (drop (label + 1) outer)) e2 ∙ e3)
    ∙ e5 ∙ ap (λ (k : Nest). Next None vars (around m func k.outer (Here k.operands (continuation m func k.block next)))) inj

pub branches_stuck : (m : Module) (func : ℕ) (vars : Vars) (values : List TypedValue) (outer : List Position) (label block at : ℕ) → label < length outer → At outer label block at → ((operands : List TypedValue) → branch_to vars operands (continuation m func block at) values ≡ Stuck) → seen m func (out_of_labels m func vars outer (Leaves label values)) ≡ Stuck
branches_stuck m func vars values outer label block at within is branches =
    let f = find outer label block at within is in
    let p = f.place in
    let t1 : continuation m func p.block p.at ≡ continuation m func block at = ap (λ (b : ℕ). continuation m func b p.at) (sym f.block_is) ∙ ap (λ (a : ℕ). continuation m func block a) (sym f.at_is) in
    let e1 = leaves_at m func vars values outer label p f.found in
    let e2 : branch_to vars p.operands (continuation m func p.block p.at) values ≡ Stuck = ap (λ (i : List Instr). branch_to vars p.operands i values) t1 ∙ branches p.operands in
    ap (seen m func) (e1 ∙ ap (out_of_labels m func vars (drop (label + 1) outer)) e2 ∙ labels_stuck m 0 func vars (drop (label + 1) outer))

-- a branch past the function
pub branches_past : (m : Module) (func : ℕ) (vars : Vars) (values : List TypedValue) (outer : List Position) (label : ℕ) → length outer < label → seen m func (out_of_labels m func vars outer (Leaves label values)) ≡ Stuck
branches_past m func vars values outer label h =
    let k = label - length outer - 1 in
    let e : label - length outer ≡ suc k = omega arith in
    let le : length outer ≤ label = omega arith in
    ap (seen m func) (leaves_func m func vars values outer label le ∙ ap (λ (j : ℕ). Leaves j values) e)

-- a branch to the function's label
pub branches_out : (m : Module) (func : ℕ) (vars : Vars) (values : List TypedValue) (outer : List Position) (label : ℕ) → length outer ≡ label → seen m func (out_of_labels m func vars outer (Leaves label values)) ≡ back (returned m func values)
branches_out m func vars values outer label h =
    let e : label - length outer ≡ 0 = omega arith in
    let le : length outer ≤ label = omega arith in
    ap (seen m func) (leaves_func m func vars values outer label le ∙ ap (λ (j : ℕ). Leaves j values) e)

after_from : (o : Option (List Instr)) (at : ℕ) → after (from_place o at) ≡ from_place o (at + 1)
after_from None at = refl
after_from (Some b) at = after_drop b at
  where
    after_drop : (xs : List Instr) (k : ℕ) → after (drop k xs) ≡ drop (k + 1) xs
    after_drop [] zero = refl
    after_drop [] (suc k) = let e : suc (k + 1) ≡ suc k + 1 = omega arith in ap (λ (j : ℕ). drop j []) e
    after_drop (x ∷ xs) zero = refl
    after_drop (x ∷ xs) (suc k) = let e : suc (k + 1) ≡ suc k + 1 = omega arith in after_drop xs k ∙ ap (λ (j : ℕ). drop j (x ∷ xs)) e

-- the end of a block that is in another
pub closes_within : (m : Module) (read depth func : ℕ) (vars : Vars) (operands : List TypedValue) (block at : ℕ) (outer : List Position) (n : Nest) → continuation m func block at ≡ [] → joined operands outer ≡ Some n → seen m func (reduce m read depth func vars (around m func outer (Here operands (continuation m func block at)))) ≡ Next None vars (around m func n.outer (Here n.operands (continuation m func n.block (n.at + 1))))
closes_within m read depth func vars operands block at [] n h e = cc
closes_within m read depth func vars operands block at (p ∷ ps) n h e =
    let r : Nest = record { operands = operands ++ p.operands; block = p.block; at = p.at; outer = ps } in
    let inj : r ≡ n = cc in
    let e1 = labels_lift m read depth func vars (p ∷ ps) (Here operands (continuation m func block at)) in
    let e2 = ap (λ (i : List Instr). out_of_labels m func vars (p ∷ ps) (reduce m read depth func vars (Here operands i))) h in
    let e3 = ap (λ (i : List Instr). out_of_labels m func vars ps (continue_with vars (operands ++ p.operands) i)) (after_from (block_in m.funcs func p.block) p.at) in
    let e4 = labels_next m 0 func vars vars None ps (Here (operands ++ p.operands) (continuation m func p.block (p.at + 1))) in
    ap (seen m func) (e1 ∙ e2 ∙ e3 ∙ e4) ∙ ap (λ (k : Nest). Next None vars (around m func k.outer (Here k.operands (continuation m func k.block (k.at + 1))))) inj

pub not_false : (b : Bool) → (b ≡ false → ⊥) → b ≡ true
not_false true h = refl
not_false false h = absurd (h refl)

-- the end of a body
pub ends_out : (m : Module) (read depth func : ℕ) (vars : Vars) (operands : List TypedValue) (block at : ℕ) (outer : List Position) → continuation m func block at ≡ [] → length outer ≡ 0 → seen m func (reduce m read depth func vars (around m func outer (Here operands (continuation m func block at)))) ≡ back (returned m func operands)
ends_out m read depth func vars operands block at [] h q = ap (λ (i : List Instr). seen m func (reduce m read depth func vars (Here operands i))) h
ends_out m read depth func vars operands block at (p ∷ ps) h q = absurd (omega arith)

-- an instruction
pub acts : (m : Module) (read depth func : ℕ) (vars : Vars) (nest : Nest) (i : Instr) (action : Action) → continuation m func nest.block nest.at ≡ i ∷ continuation m func nest.block (nest.at + 1) → ((d r f : ℕ) (rest : List Instr) → act m d r f vars nest.operands i rest ≡ does m d r f vars nest.operands (i ∷ rest) action) → reduce m read depth func vars (left_of m func nest) ≡ out_of_labels m func vars nest.outer (does m depth read func vars nest.operands (continuation m func nest.block nest.at) action)
acts m read depth func vars nest i action h f =
    labels_lift m read depth func vars nest.outer (Here nest.operands (continuation m func nest.block nest.at))
    ∙ ap (out_of_labels m func vars nest.outer) (rw h (f depth read func (continuation m func nest.block (nest.at + 1))))

pub closed_at : (operands : List TypedValue) (outer : List Position) (n : Nest) (block at : ℕ) → joined operands outer ≡ Some n → At outer 0 block at → at ≡ n.at
closed_at operands [] n block at e h = cc
closed_at operands (p ∷ ps) n block at e h =
    let r : Nest = record { operands = operands ++ p.operands; block = p.block; at = p.at; outer = ps } in
    let inj : r ≡ n = cc in
    h.1 ∙ ap (λ (k : Nest). k.at) inj
