use Rattle.std.proofs.Common.{◌≡◌, ◌<◌, ◌≤◌, Some, length, refl, subst, sym, slice_get, ⊎_elim}
use Rattle.std.proofs.lemmas.Bool.{cases_lt, false≢true}
use Rattle.std.proofs.lemmas.Option.{slice_get_past, slice_get_read}
use Rattle.wm_sites.proofs.Noting.{number_put, row_put_back, no_row}
use Rattle.wm_sites.proofs.opcode_numbers.note.Goals as goal

pub returns-in-Some-get_mut : goal.returns-in-Some-get_mut
returns-in-Some-get_mut c =
    let table = c.args.table.now in
    let row = c.in-Some.places.now in
    let found = c.in-Some.ensures.item in
    let is : slice_get table.items c.args.here.block ≡ Some row = slice_get_read table.items (length table.items) c.args.here.block row refl found.3.0 found.1 in
    number_put table.items c.args.here c.args.number row is (subst (λ n. c.args.here.at < n) row.ok.0 (c.in-Some-get_mut.ensures.variant.0 refl))

pub returns-in_default-get_mut : goal.returns-in_default-get_mut
returns-in_default-get_mut c =
    let table = c.args.table.now in
    let row = c.in-Some.places.now in
    let at = c.args.here.at in
    let found = c.in-Some.ensures.item in
    let is : slice_get table.items c.args.here.block ≡ Some row = slice_get_read table.items (length table.items) c.args.here.block row refl found.3.0 found.1 in
    let past : length row.items ≤ at =
    ⊎_elim
    (λ (lt : at < length row.items). absurd (false≢true (c.in_default-get_mut.ensures.variant.1 (subst (λ n. at < n) (sym row.ok.0) lt))))
    (λ (le : length row.items ≤ at). le)
    (cases_lt at (length row.items)) in
    row_put_back table.items c.args.here c.args.number row is past

pub returns-in_default : goal.returns-in_default
returns-in_default c =
    let table = c.args.table.now in
    let block = c.args.here.block in
    let past : length table.items ≤ block =
    ⊎_elim
    (λ (lt : block < length table.items). absurd (false≢true (c.in_default.ensures.variant.1 (subst (λ n. block < n) (sym table.ok.0) lt))))
    (λ (le : length table.items ≤ block). le)
    (cases_lt block (length table.items)) in
    no_row table.items c.args.here c.args.number (slice_get_past table.items block past)
