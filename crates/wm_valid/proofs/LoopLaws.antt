-- A block instruction by instruction.
use Rattle.std.proofs.Common.{◌≡◌, ℕ, ◌+◌, ◌<◌, ◌≤◌, List, [], ◌∷◌, ◌++◌, Some, sym, ap, subst, ◌∙◌, length, take, drop, get_or, slice_get}
use Rattle.std.proofs.lemmas.List.{take-append-drop, take_all, drop_more}
use Rattle.wm_ast.specs.declared.instr.Instr.{Instr}
use Rattle.wm_valid.specs.InstrTypes.{Context, Labels}
use Rattle.wm_valid.specs.Stacks.{Stack}
use Rattle.wm_valid.specs.Implements.{MapsStack, Counted, CountedBlock, Located, LocatedBlock}
use Rattle.wm_valid.specs.declared.fault.InstrFault.{InstrFault}
use Rattle.wm_valid.proofs.BodyLaws.{SoFar, goes_on}
use Rattle.wm_valid.proofs.PlaceLaws.{counted_more, located_block}
use Rattle.wm_valid.proofs.Laid.{taken_more}

pub next_item : {X : Type 0} (xs : List X) (i : ℕ) (x : X) → i < length xs → x ≡ get_or xs i x → drop i xs ≡ x ∷ drop (i + 1) xs
next_item {X} xs i x h is = drop_more xs i x h ∙ ap (λ (z : X). z ∷ drop (i + 1) xs) (sym is)

pub split_item : {X : Type 0} (xs : List X) (i : ℕ) (x : X) → i < length xs → x ≡ get_or xs i x → xs ≡ take i xs ++ x ∷ drop (i + 1) xs
split_item {X} xs i x h is = sym (take-append-drop i xs) ∙ ap (λ (l : List X). take i xs ++ l) (next_item xs i x h is)

pub stepped : (C : Context) (n : ℕ) (labels same_labels : Labels) (items : List Instr) (i : ℕ) (item : Instr) (s s1 : Stack) → i < length items → item ≡ get_or items i item → same_labels ≡ labels
    → SoFar C n labels items (drop i items) s → MapsStack C n labels item s s1 → SoFar C n same_labels items (drop (i + 1) items) s1
stepped C n labels same_labels items i item s s1 within is same so turned =
    subst (λ (l : Labels). SoFar C n l items (drop (i + 1) items) s1) (sym same)
    (goes_on C n labels items (drop (i + 1) items) item s s1 (subst (λ (l : List Instr). SoFar C n labels items l s) (next_item items i item within is) so) turned)

pub counted_item : (blocks : List (List Instr)) (items : List Instr) (i : ℕ) (item : Instr) (first mid next : ℕ) → i < length items → item ≡ get_or items i item → Counted blocks (take i items) first mid
    → Counted blocks (item ∷ []) mid next → Counted blocks (take (i + 1) items) first next
counted_item blocks items i item first mid next within is a b =
    subst (λ (l : List Instr). Counted blocks l first next) (sym (taken_more items i item within is)) (counted_more blocks (take i items) item first mid next a b)

pub located_item : (e : InstrFault) (C : Context) (labels same_labels : Labels) (block : ℕ) (items : List Instr) (i : ℕ) (item : Instr) (first mid n : ℕ) → i < length items → item ≡ get_or items i item → same_labels ≡ labels
    → slice_get C.blocks block ≡ Some items → Counted C.blocks (take i items) first mid → Located C same_labels (item ∷ []) mid n e → LocatedBlock C labels block first n e
located_item e C labels same_labels block items i item first mid n within is same there a h =
    located_block e C labels block (take i items) (drop (i + 1) items) item first mid n (there ∙ ap Some (split_item items i item within is)) a (subst (λ (l : Labels). Located C l (item ∷ []) mid n e) same h)

pub counted_whole : (C : Context) (block : ℕ) (items : List Instr) (i first n : ℕ) → length items ≤ i → slice_get C.blocks block ≡ Some items → Counted C.blocks (take i items) first n → CountedBlock C block first n
counted_whole C block items i first n done there a = (items, there, subst (λ (l : List Instr). Counted C.blocks l first n) (take_all i items done) a)
