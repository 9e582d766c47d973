-- The text of a list of races.
use Rattle.std.proofs.Common.{◌≡◌, ℕ, zero, suc, List, [], ◌∷◌, ◌++◌, ◌-◌, codes, length, min, take, refl, sym, ap, ◌∙◌, append_assoc, arith}
use Rattle.std.specs.Fmt.{decimal}
use Rattle.std.proofs.lemmas.List.{append-nil, length-take}
use Rattle.std.proofs.lemmas.List.Concat.{flat_map-append}
use Rattle.wm_litmus.specs.Prints.{ended}
use Rattle.wm_litmus.specs.Races.{ListsRaces, lines_text, more_text, no_races_text, sequential_text, shown_text}

-- one race more, whose line was added
pub line_added : {X : Type 0} (line : X → List ℕ) (races : List X) (race : X) (text row written : List ℕ) → text ≡ shown_text line races → row ≡ ended (line race)
    → written ≡ text ++ row → written ≡ shown_text line (races ++ race ∷ [])
line_added {X} line races race text row written before is more =
    more
    ∙ ap (λ t. t ++ row) before
    ∙ ap (λ l. shown_text line races ++ l) (is ∙ sym (append-nil (ended (line race))))
    ∙ sym (flat_map-append (λ (r : X). ended (line r)) races (race ∷ []))

-- a line of parts, and its newline after the last one
pub ended_4 : (a b c d : List ℕ) → ended (a ++ b ++ c ++ d) ≡ a ++ (b ++ (c ++ (d ++ 10 ∷ [])))
ended_4 a b c d = simp append_assoc

pub ended_8 : (a b c d e f g h : List ℕ) → ended ((a ++ b ++ c ++ d) ++ e ++ f ++ g ++ h) ≡ a ++ (b ++ (c ++ (d ++ (e ++ (f ++ (g ++ (h ++ 10 ∷ [])))))))
ended_8 a b c d e f g h = simp append_assoc

-- how many lines are left out, of some
pub more_of : (n : ℕ) → (n ≡ 0 → ⊥) → more_text n ≡ codes "and " ++ (decimal n ++ (codes " more" ++ 10 ∷ []))
more_of zero some = absurd (some refl)
more_of (suc n) some = simp append_assoc

pub ended_none : (a b c d e : List ℕ) → ended (a ++ b ++ c ++ d) ++ ended e ≡ a ++ (b ++ (c ++ (d ++ (10 ∷ e ++ 10 ∷ []))))
ended_none a b c d e = simp append_assoc

-- what is printed of no race, and of some
pub lists_none : {X : Type 0} (line : X → List ℕ) (threads events : ℕ) (races : List X) (text : List ℕ) → length races ≡ 0
    → text ≡ ended (no_races_text threads events) ++ ended sequential_text → ListsRaces line threads events races 0 text
lists_none line threads events [] text none is = record { status_is = refl; text_is = is }
lists_none line threads events (race ∷ races) text none is = absurd cc

pub lists_some : {X : Type 0} (line : X → List ℕ) (threads events : ℕ) (races : List X) (text : List ℕ) → (length races ≡ 0 → ⊥) → text ≡ lines_text line races
    → ListsRaces line threads events races 1 text
lists_some line threads events [] text some is = absurd (some refl)
lists_some line threads events (race ∷ races) text some is = record { status_is = refl; text_is = is }

-- how many of this number are left out
pub left_out : {X : Type 0} (shown races : List X) → shown ≡ take 1000 races → length races - length shown ≡ length races - 1000
left_out shown races is =
    let few : length shown ≡ min 1000 (length races) = ap length is ∙ length-take 1000 races in
    omega (arith, few)
