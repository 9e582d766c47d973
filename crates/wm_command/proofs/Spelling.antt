-- The turn, the item and the start of a word, by what is read of its pieces.
use Rattle.std.proofs.Common.{◌≡◌, ◌≢◌, ℕ, ◌^◌, List, [], ◌∷◌, zero, suc, false, Option, None, Some, refl, sym, ap, ◌∙◌, inl, inr}
use Rattle.std.proofs.lemmas.Bool.{cond-false, ne_eqb}
use Rattle.std.specs.Option.{option_map}
use Rattle.std.specs.Prelude.{◌==◌, replicate}
use Rattle.wm_run.specs.declared.turn.Turn.{Turn}
use Rattle.wm_run.specs.declared.turn.Turn.TheVariants.{Step, Drain}
use Rattle.wm_command.specs.Each.{each}
use Rattle.wm_command.specs.Numbers.{number_of, pieces}
use Rattle.wm_command.specs.Starts.{argument_of, start_of, start_of_pieces, start_with}
use Rattle.wm_command.specs.Turns.{drain_at, drain_of, item_turns, repeated, small, turn_of}
use Rattle.wm_command.proofs.Digits.{number_below_others}
use Rattle.wm_command.proofs.Parting.{digits_whole}

-- ---- drains

pub drain_alone : (word : List ℕ) (thread : Option ℕ) → pieces 47 word ≡ word ∷ [] → thread ≡ small word → drain_of (pieces 47 word) ≡ option_map Drain thread
drain_alone word thread one is = ap drain_of one ∙ ap (option_map Drain) (sym is)

drain_at_none : (thread : Option ℕ) → drain_at thread None ≡ None
drain_at_none None = refl
drain_at_none (Some number) = refl

pub drain_pair : (word a b : List ℕ) (thread index : Option ℕ) → pieces 47 word ≡ a ∷ pieces 47 b → thread ≡ small a → index ≡ small b
    → drain_of (pieces 47 word) ≡ drain_at thread index
drain_pair word a b thread index cut first second =
    elim (digits_whole 47 b refl) [
      | inl one ↦ rw (cut, one, first, second) refl
      | inr more ↦ let none : index ≡ None = second ∙ number_below_others (2 ^ 32) b more.4 in rw (cut, more.3, none) (sym (drain_at_none thread))
    ]

-- ---- turns

pub turn_drain : (word rest : List ℕ) → word ≡ 100 ∷ rest → turn_of word ≡ drain_of (pieces 47 rest)
turn_drain word rest is = ap turn_of is

none_of_nothing : small [] ≡ None
unfolding number_of
none_of_nothing = refl

pub turn_step : (word : List ℕ) (thread : Option ℕ) → ((rest : List ℕ) → word ≢ 100 ∷ rest) → thread ≡ small word → turn_of word ≡ option_map Step thread
turn_step [] thread other is = sym (ap (option_map Step) (is ∙ none_of_nothing))
turn_step (first ∷ rest) thread other is =
    let no : (first == 100) ≡ false = ne_eqb first 100 (λ e. other rest (ap (λ b. b ∷ rest) e)) in
    cond-false (first == 100) (drain_of (pieces 47 rest)) (option_map Step (small (first ∷ rest))) no ∙ ap (option_map Step) (sym is)

-- ---- items

pub item_alone : (word : List ℕ) (turn : Option Turn) → pieces 42 word ≡ word ∷ [] → turn ≡ turn_of word → item_turns word ≡ repeated turn (Some 1)
item_alone word turn one is = rw (one, is) refl

repeated_none : (turn : Option Turn) → repeated turn None ≡ None
repeated_none None = refl
repeated_none (Some turn) = refl

pub item_pair : (word a b : List ℕ) (turn : Option Turn) (times : Option ℕ) → pieces 42 word ≡ a ∷ pieces 42 b → turn ≡ turn_of a → times ≡ small b
    → item_turns word ≡ repeated turn times
item_pair word a b turn times cut first second =
    elim (digits_whole 42 b refl) [
      | inl one ↦ rw (cut, one, first, second) refl
      | inr more ↦ let none : times ≡ None = second ∙ number_below_others (2 ^ 32) b more.4 in rw (cut, more.3, none) (sym (repeated_none turn))
    ]

pub repeated_some : (turn : Turn) (times : ℕ) → times ≢ 0 → repeated (Some turn) (Some times) ≡ Some (replicate times turn)
repeated_some turn zero other = absurd (other refl)
repeated_some turn (suc times) other = refl

-- ---- starts

pub start_alone : (word : List ℕ) → pieces 58 word ≡ word ∷ [] → start_of word ≡ Some (start_with word [])
unfolding start_of
start_alone word one = ap start_of_pieces one

pub start_pair : (word name rest : List ℕ) (args : Option (List ℕ)) → pieces 58 word ≡ name ∷ pieces 58 rest → each argument_of (pieces 58 rest) ≡ args
    → start_of word ≡ option_map (start_with name) args
unfolding start_of
start_pair word name rest args cut is = ap start_of_pieces cut ∙ ap (option_map (start_with name)) is
