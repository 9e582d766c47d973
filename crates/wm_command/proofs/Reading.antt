-- Starts of words that are read one after the other.
use Rattle.std.proofs.Common.{◌≡◌, ◌+◌, ◌<◌, ℕ, List, [], ◌∷◌, ◌++◌, Bor, None, Some, get_or, length, map, take, sym, arith}
use Rattle.std.proofs.lemmas.List.{get_or-map, length-map}
use Rattle.wm_event.specs.declared.log.Start.{Start}
use Rattle.wm_command.specs.Starts.{start_of, starts_of}
use Rattle.wm_command.proofs.Every.{each_next, each_none}

pub start_none : (words : List (Bor (List ℕ))) (i : ℕ) (d : Bor (List ℕ)) → i < length words → start_of (get_or words i d).now ≡ None
    → starts_of (map (λ word. word.now) words) ≡ None
start_none words i d inside none =
    let texts = map (λ (word : Bor (List ℕ)). word.now) words in
    let within : i < length texts = let long = length-map words (λ (word : Bor (List ℕ)). word.now) in omega (arith, long, inside) in
    each_none start_of texts i (get_or words i d).now within (sym (get_or-map (λ word. word.now) words i d (get_or words i d).now inside)) none

pub start_next : (words : List (Bor (List ℕ))) (i : ℕ) (d : Bor (List ℕ)) (starts : List Start) (start : Start) → i < length words
    → starts_of (take i (map (λ word. word.now) words)) ≡ Some starts → start_of (get_or words i d).now ≡ Some start
    → starts_of (take (i + 1) (map (λ word. word.now) words)) ≡ Some (starts ++ start ∷ [])
start_next words i d starts start inside h is =
    let texts = map (λ (word : Bor (List ℕ)). word.now) words in
    let within : i < length texts = let long = length-map words (λ (word : Bor (List ℕ)). word.now) in omega (arith, long, inside) in
    each_next start_of texts i starts (get_or words i d).now start within (sym (get_or-map (λ word. word.now) words i d (get_or words i d).now inside)) h is
