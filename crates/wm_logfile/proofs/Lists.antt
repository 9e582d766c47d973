-- Arrays as lists.
use Rattle.std.proofs.Common.{◌≡◌, ◌<◌, arith, length, List, [], ◌∷◌, Some, refl, ap, sym, ◌∙◌}
use Rattle.serde_json.specs.Data.{Data, null, boolean, number, string, array, object, Items, no_items, item}
use Rattle.serde_json.specs.View.{items_of}
use Rattle.wm_logfile.specs.Reading.{data_list, list_at, items_in}
use Rattle.wm_logfile.specs.Document.{list}

pub data_list-items_of : (ds : List Data) → data_list (items_of ds) ≡ ds
data_list-items_of [] = refl
data_list-items_of (d ∷ ds) = ap (λ (xs : List Data). d ∷ xs) (data_list-items_of ds)

pub items_of-data_list : (ds : Items) → items_of (data_list ds) ≡ ds
items_of-data_list no_items = refl
items_of-data_list (item d ds) = ap (λ (xs : Items). item d xs) (items_of-data_list ds)

pub list_takes : (d : Data) (ds : List Data) → list_at d ≡ Some ds → d ≡ list ds
list_takes null ds e = absurd cc
list_takes (boolean b) ds e = absurd cc
list_takes (number n) ds e = absurd cc
list_takes (string s) ds e = absurd cc
list_takes (array js) ds e =
    let same : data_list js ≡ ds = cc in
    ap array (sym (items_of-data_list js) ∙ ap items_of same)
list_takes (object ms) ds e = absurd cc

pub list_again : (ds : List Data) → list_at (list ds) ≡ Some ds
list_again ds = ap (λ (xs : List Data). Some xs) (data_list-items_of ds)

-- a value with items is a list
pub list_of_items_in : (d : Data) → 0 < length (items_in d) → d ≡ list (items_in d)
list_of_items_in null lt = absurd (omega arith)
list_of_items_in (boolean b) lt = absurd (omega arith)
list_of_items_in (number n) lt = absurd (omega arith)
list_of_items_in (string s) lt = absurd (omega arith)
list_of_items_in (array js) lt = ap array (sym (items_of-data_list js))
list_of_items_in (object ms) lt = absurd (omega arith)
