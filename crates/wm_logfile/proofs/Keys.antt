-- The laws of the names of events, and of lists of writers.
use Rattle.std.proofs.Common.{◌≡◌, ℕ, List, [], ◌∷◌, Option, Some, ap, refl, subst, ◌∙◌, arith, ◌≤◌}
use Rattle.std.specs.List.{All}
use Rattle.serde_json.specs.Data.{Data}
use Rattle.wm_event.specs.declared.event.EventId.{EventId}
use Rattle.wm_event.specs.declared.event.EventId.TheVariants.{Init, At}
use Rattle.wm_event.specs.declared.event.EventKey.{EventKey}
use Rattle.wm_logfile.specs.Document.{count, writer_cells, writer, event_writers, thread_writers, writers, key_cells, event_key, keys, WriterFits, KeyFits}
use Rattle.wm_logfile.specs.Reading.{◌>>=◌, number_at, u32_max, writer_from, writer_at, event_writers_at, thread_writers_at, writers_at, key_from, key_at, keys_at}
use Rattle.wm_logfile.proofs.Format.{bind_some, IsFormat, listed, all_items}
use Rattle.wm_logfile.proofs.Leaves.{numbers}

abbrev named : ℕ → ℕ → EventKey
named t i = record { thread = t; number = i }

key_takes : (ds : List Data) (p : EventKey) → key_from ds ≡ Some p → (ds ≡ key_cells p) × KeyFits p
unfolding key_from
key_takes [] w h = absurd cc
key_takes (a ∷ []) w h = absurd cc
key_takes (a ∷ b ∷ []) w h =
    let t = bind_some (number_at u32_max a) (λ x. number_at u32_max b >>= λ y. Some (named x y)) w h in
    let i = bind_some (number_at u32_max b) (λ y. Some (named t.0 y)) w t.2 in
    let t-is = (numbers u32_max).takes a t.0 t.1 in
    let i-is = (numbers u32_max).takes b i.0 i.1 in
    let P : EventKey → Type 0 = λ x. (a ∷ b ∷ [] ≡ key_cells x) × KeyFits x in
    let same : named t.0 i.0 ≡ w = cc in
    subst P same (ap (λ (x : Data). x ∷ b ∷ []) t-is.0 ∙ ap (λ (x : Data). count t.0 ∷ x ∷ []) i-is.0, record { thread = omega (arith, t-is.1); number = omega (arith, i-is.1) })
key_takes (a ∷ b ∷ c ∷ ds) w h = absurd cc

key_again : (p : EventKey) → KeyFits p → key_from (key_cells p) ≡ Some p
unfolding key_from
key_again p h =
    let ht : p.thread ≤ u32_max = omega (arith, h.thread) in
    let hi : p.number ≤ u32_max = omega (arith, h.number) in
    rw ((numbers u32_max).again p.thread ht, (numbers u32_max).again p.number hi) refl

writer_takes : (ds : List Data) (w : EventId) → writer_from ds ≡ Some w → (ds ≡ writer_cells w) × WriterFits w
writer_takes [] w h =
    let P : EventId → Type 0 = λ x. ([] ≡ writer_cells x) × WriterFits x in
    let same : Init ≡ w = cc in
    subst P same (refl, tt)
writer_takes (d ∷ ds) w h =
    let one = bind_some (key_from (d ∷ ds)) (λ k. Some (At k)) w h in
    let P : EventId → Type 0 = λ x. (d ∷ ds ≡ writer_cells x) × WriterFits x in
    let same : At one.0 ≡ w = cc in
    subst P same (key_takes (d ∷ ds) one.0 one.1)

writer_again : (w : EventId) → WriterFits w → writer_from (writer_cells w) ≡ Some w
writer_again Init h = refl
writer_again (At k) h = ap (λ (r : Option EventKey). r >>= λ j. Some (At j)) (key_again k h)

ids : IsFormat writer_at writer WriterFits
ids = listed writer_from writer_cells WriterFits (record { takes = λ ds w h. writer_takes ds w h; again = λ w h. writer_again w h })

-- the writers of an event
pub by_lists : IsFormat event_writers_at event_writers (All WriterFits)
by_lists = all_items writer_at writer WriterFits ids

pub all_writers : IsFormat writers_at writers (All (All (All WriterFits)))
all_writers = all_items thread_writers_at thread_writers (All (All WriterFits)) (all_items event_writers_at event_writers (All WriterFits) by_lists)

pub all_keys : IsFormat keys_at keys (All KeyFits)
all_keys = all_items key_at event_key KeyFits (listed key_from key_cells KeyFits (record { takes = λ ds w h. key_takes ds w h; again = λ w h. key_again w h }))
