-- The tokens of a list, one item more at a time.
use Rattle.std.proofs.Common.{◌≡◌, ℕ, ◌+◌, ◌<◌, ◌≤◌, List, [], ◌∷◌, ◌++◌, length, get_or, take, map, refl, sym, ap, ◌∙◌, append_assoc, append-nil}
use Rattle.std.proofs.lemmas.List.{take_more, map_push, take_all}
use Rattle.json.specs.Token.{Token, begin_array, end_array}
use Rattle.json.specs.Tree.{items_tokens}
use Rattle.serde_json.specs.Data.{Data}
use Rattle.serde_json.specs.View.{items_of}
use Rattle.serde_json.specs.Written.{items_outline}
use Rattle.wm_logfile.specs.Document.{list}
use Rattle.wm_logfile.specs.Tokens.{tokens_of, cells_tokens}

cells_tokens-push : (ds : List Data) (d : Data) → cells_tokens (ds ++ d ∷ []) ≡ cells_tokens ds ++ tokens_of d
cells_tokens-push [] d = append-nil (tokens_of d)
cells_tokens-push (x ∷ ds) d = ap (λ (ts : List Token). tokens_of x ++ ts) (cells_tokens-push ds d) ∙ sym (append_assoc (tokens_of x) (cells_tokens ds) (tokens_of d))

items_are : (ds : List Data) → items_tokens (items_outline (items_of ds)) ≡ cells_tokens ds ++ end_array ∷ []
items_are [] = refl
items_are (d ∷ ds) = ap (λ (ts : List Token). tokens_of d ++ ts) (items_are ds) ∙ sym (append_assoc (tokens_of d) (cells_tokens ds) (end_array ∷ []))

-- the tokens of a list are those of its items between the brackets
pub list_tokens : (ds : List Data) → tokens_of (list ds) ≡ begin_array ∷ (cells_tokens ds ++ end_array ∷ [])
list_tokens ds = ap (λ (ts : List Token). begin_array ∷ ts) (items_are ds)

-- those of the first items
abbrev pub front_tokens : {A : Type 0} → (A → Data) → List A → ℕ → List Token
front_tokens spell xs i = cells_tokens (map spell (take i xs))

pub one_more : {A : Type 0} (spell : A → Data) (xs : List A) (i : ℕ) (x : A) → i < length xs → x ≡ get_or xs i x → front_tokens spell xs (i + 1) ≡ front_tokens spell xs i ++ tokens_of (spell x)
one_more spell xs i x lt is =
    let longer : take (i + 1) xs ≡ take i xs ++ x ∷ [] = take_more xs i x lt ∙ rw (← is) refl in
    rw (longer, map_push) (cells_tokens-push (map spell (take i xs)) (spell x))

pub all_done : {A : Type 0} (spell : A → Data) (xs : List A) (i : ℕ) → length xs ≤ i → front_tokens spell xs i ≡ cells_tokens (map spell xs)
all_done spell xs i le = ap (λ ys. cells_tokens (map spell ys)) (take_all i xs le)
