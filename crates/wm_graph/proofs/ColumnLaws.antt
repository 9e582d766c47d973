-- Items that are taken in order.
use Rattle.std.proofs.Common.{◌≡◌, ◌+◌, ℕ, List, [], ◌∷◌, ◌++◌, Some, ap, sym, ◌∙◌, drop, map, slice_get}
use Rattle.std.proofs.lemmas.List.{append_assoc, drop_more, map-append}
use Rattle.std.proofs.lemmas.Option.{get_or_from_slice_get, slice_get_within}
use Rattle.wm_access.specs.declared.AccessWidth.TheVariants.{One}
use Rattle.wm_access.specs.declared.MemoryOrder.TheVariants.{Unordered}
use Rattle.wm_event.specs.declared.event.Event.{Event}
use Rattle.wm_event.specs.declared.event.EventKind.TheVariants.{Read}

-- what was made of the items so far, and what is to be made of the others, is what is to be made of all
pub taken_one : {A B : Type 0} (f : A → B) (done : List A) (x : A) (all : List B) (i : ℕ) → map f done ++ drop i all ≡ all → slice_get all i ≡ Some (f x)
    → map f (done ++ x ∷ []) ++ drop (i + 1) all ≡ all
taken_one f done x all i so_far here =
    let next : drop i all ≡ f x ∷ drop (i + 1) all =
    drop_more all i (f x) (slice_get_within all i (f x) here) ∙ ap (λ y. y ∷ drop (i + 1) all) (get_or_from_slice_get all i (f x) (f x) here) in
    ap (λ xs. xs ++ drop (i + 1) all) (map-append f done (x ∷ [])) ∙ append_assoc (map f done) (f x ∷ []) (drop (i + 1) all)
    ∙ ap (λ xs. map f done ++ xs) (sym next) ∙ so_far

-- a stand-in for a missing event
abbrev pub blank : Event
blank = record { thread = 0; number = 0; kind = Read; order = Unordered; address = 0; width = One; read = 0; written = 0 }
