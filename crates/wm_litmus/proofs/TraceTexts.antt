-- The text of a trace.
use Rattle.std.proofs.Common.{Bor, Option, ◌≡◌, ℕ, ◌+◌, ◌<◌, ◌≤◌, List, [], ◌∷◌, ◌++◌, codes, drop, get_or, length, refl, sym, ap, ap₂, ◌∙◌, append_assoc, arith}
use Rattle.std.proofs.lemmas.List.{append-nil, drop_all, drop_more}
use Rattle.std.specs.Prelude.{option_copied}
use Rattle.wm_event.specs.declared.event.Event.{Event}
use Rattle.wm_event.specs.declared.event.EventId.{EventId}
use Rattle.wm_event.specs.declared.event.EventKey.{EventKey}
use Rattle.wm_event.specs.declared.log.ThreadLog.{ThreadLog}
use Rattle.wm_event.specs.Log.{event_in}
use Rattle.wm_races.specs.declared.site.Site.{Site}
use Rattle.wm_run.specs.declared.scripts.traced.TracedTurn.{TracedTurn}
use Rattle.wm_run.specs.Run.{Record}
use Rattle.wm_litmus.specs.Prints.{ended}
use Rattle.wm_litmus.specs.Trace.{from_text, ids_text, keys_text, line_text, lines_text, pending_text}

-- names that are there, or not
pub from_none : (ids : List EventId) → length ids ≡ 0 → from_text ids ≡ []
from_none [] none = refl
from_none (id ∷ ids) none = absurd cc

pub from_some : (ids : List EventId) → (length ids ≡ 0 → ⊥) → from_text ids ≡ codes " from" ++ ids_text ids
from_some [] some = absurd (some refl)
from_some (id ∷ ids) some = refl

pub pending_none : (keys : List EventKey) → length keys ≡ 0 → pending_text keys ≡ []
pending_none [] none = refl
pending_none (key ∷ keys) none = absurd cc

pub pending_some : (keys : List EventKey) → (length keys ≡ 0 → ⊥) → pending_text keys ≡ codes " pending" ++ keys_text keys
pending_some [] some = absurd (some refl)
pending_some (key ∷ keys) some = refl

-- a line of parts, and its newline after the last one
pub ended_5 : (a b c d e : List ℕ) → ended (a ++ b ++ c ++ d ++ e) ≡ a ++ (b ++ (c ++ (d ++ (e ++ 10 ∷ []))))
ended_5 a b c d e = simp append_assoc

pub ended_2 : (a b c : List ℕ) → a ++ ended (b ++ c) ≡ a ++ (b ++ (c ++ 10 ∷ []))
ended_2 a b c = simp append_assoc

pub joined_3 : (a b c : List ℕ) → a ++ b ++ c ≡ a ++ (b ++ c)
joined_3 a b c = simp append_assoc

pub joined_4 : (a b c d : List ℕ) → (a ++ b) ++ c ++ d ≡ a ++ (b ++ (c ++ d))
joined_4 a b c d = simp append_assoc

-- the event of a name, as the log of a run gives it
pub event_is : (o : Option (Bor Event)) (shown log : List ThreadLog) (key : EventKey) (found : Option Event) → option_copied o ≡ event_in shown key → shown ≡ log → option_copied o ≡ found
    → event_in log key ≡ found
event_is o shown log key found copied same is = sym (ap (λ (l : List ThreadLog). event_in l key) same) ∙ sym copied ∙ is

-- one turn more, whose line was added
pub line_added : (run : Record) (entries : List TracedTurn) (sites : List Site) (n : ℕ) (entry : TracedTurn) (site : Site) (text row written all : List ℕ)
    → n < length entries → length sites ≡ length entries → entry ≡ get_or entries n entry → site ≡ get_or sites n site
    → row ≡ ended (line_text run entry site) → written ≡ text ++ row
    → text ++ lines_text run (drop n entries) (drop n sites) ≡ all
    → written ++ lines_text run (drop (n + 1) entries) (drop (n + 1) sites) ≡ all
line_added run entries sites n entry site text row written all below same is is' of_row more before =
    let below' : n < length sites = omega (arith, below, same) in
    let here : drop n entries ≡ entry ∷ drop (n + 1) entries = drop_more entries n entry below ∙ ap (λ x. x ∷ drop (n + 1) entries) (sym is) in
    let there : drop n sites ≡ site ∷ drop (n + 1) sites = drop_more sites n site below' ∙ ap (λ x. x ∷ drop (n + 1) sites) (sym is') in
    let rest = lines_text run (drop (n + 1) entries) (drop (n + 1) sites) in
    ap (λ (t : List ℕ). t ++ rest) (more ∙ ap (λ r. text ++ r) of_row)
    ∙ append_assoc text (ended (line_text run entry site)) rest
    ∙ sym (ap (λ t. text ++ t) (ap₂ (lines_text run) here there))
    ∙ before

-- all lines
pub all_lines : (run : Record) (entries : List TracedTurn) (sites : List Site) (n : ℕ) (text : List ℕ) → length entries ≤ n
    → text ++ lines_text run (drop n entries) (drop n sites) ≡ lines_text run entries sites → text ≡ lines_text run entries sites
all_lines run entries sites n text past is =
    sym (append-nil text) ∙ sym (ap (λ (xs : List TracedTurn). text ++ lines_text run xs (drop n sites)) (drop_all n entries past)) ∙ is
