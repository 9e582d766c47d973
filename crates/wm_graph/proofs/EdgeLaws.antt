-- No edge is missing.
use Rattle.std.proofs.Common.{◌≡◌, ◌<◌, ◌++◌, ℕ, List, get_or, length, [], ◌∷◌, All, Option, Some, IfSome, refl, subst, sym, ◌∙◌}
use Rattle.std.proofs.lemmas.List.Elements.{All-weaker, Contains-append_left}
use Rattle.std.proofs.lemmas.Option.{get_or_from_slice_get, same_Some, slice_get-get_or, slice_get_within}
use Rattle.std.specs.List.{Contains, HoldsAt}
use Rattle.wm_event.specs.Event.{key_of}
use Rattle.wm_event.specs.LoggedRun.{LoggedRun}
use Rattle.wm_event.specs.Witness.{writers_in}
use Rattle.wm_event.specs.declared.event.Event.{Event}
use Rattle.wm_event.specs.declared.event.EventKey.{EventKey}
use Rattle.wm_event.specs.declared.log.ThreadLog.{ThreadLog}
use Rattle.wm_graph.specs.Edges.{AreComplete, HasEdge, HasEdgesOf, HasEdgesTo, HasReads, HasShownEdgesTo, Keeps, Precedes, ReadsByte, ShowsContrary, ordered}
use Rattle.wm_graph.specs.declared.edges.Edge.{Edge}
use Rattle.wm_graph.specs.declared.edges.EdgeKind.{EdgeKind}
use Rattle.wm_graph.specs.declared.shown.Shown.{Shown}
use Rattle.wm_graph.specs.declared.edges.EdgeKind.TheVariants.{Sequenced}
use Rattle.wm_hb.specs.ReadsFrom.{AreFromWriters, NamesByte}
use Rattle.wm_hb.specs.declared.reads_from.WriterRun.{WriterRun}
use Rattle.wm_event.specs.declared.event.EventId.{EventId}
use Rattle.wm_event.specs.declared.event.EventId.TheVariants.{Init, At}

-- the edge of the order, if there is one, is included
pub shows_found : (x : LoggedRun) (edges : List Edge) (a : EventId) (b : EventKey) (found : Option Edge)
    → ((first : EventKey) → a ≡ At first → Precedes x (At b) first → found ≡ Some (ordered b first)) → IfSome found (Contains edges) → ShowsContrary x edges a b
shows_found x edges Init b found gives there = tt
shows_found x edges (At a) b found gives there = λ before. subst (λ edge. IfSome edge (Contains edges)) (gives a refl before) there

-- each byte of a run has its edge
abbrev pub IsDrawn : LoggedRun → List Edge → EventKey → WriterRun → Type 0
IsDrawn x edges reader run = (k : ℕ) → NamesByte run k → HasEdge x edges (ReadsByte k) run.writer reader

pub keeps_itself : (edges : List Edge) → Keeps edges edges
keeps_itself edges = λ edge here. here

pub keeps_after : (first second third : List Edge) → Keeps first second → Keeps second third → Keeps first third
keeps_after first second third one two = λ edge here. two edge (one edge here)

pub keeps_pushed : (edges : List Edge) (edge : Edge) → Keeps edges (edges ++ edge ∷ [])
keeps_pushed edges edge = λ other here. Contains-append_left edges (edge ∷ []) other here

pub kept_contrary : (x : LoggedRun) (old new : List Edge) (a : EventId) (b : EventKey) → Keeps old new → ShowsContrary x old a b → ShowsContrary x new a b
kept_contrary x old new Init b keeps shows = tt
kept_contrary x old new (At a) b keeps shows = λ before. keeps (ordered b a) (shows before)

pub kept_edge : (x : LoggedRun) (old new : List Edge) (P : EdgeKind → Type 0) (a : EventId) (b : EventKey) → Keeps old new → HasEdge x old P a b → HasEdge x new P a b
kept_edge x old new P a b keeps edge = record {
  kind = edge.kind;
  has = edge.has;
  is_there = keeps record { from = a; to = b; kind = edge.kind } edge.is_there;
  contrary = kept_contrary x old new a b keeps edge.contrary;
}

pub kept_drawn : (x : LoggedRun) (old new : List Edge) (reader : EventKey) (run : WriterRun) → Keeps old new → IsDrawn x old reader run → IsDrawn x new reader run
kept_drawn x old new reader run keeps drawn = λ k names. kept_edge x old new (ReadsByte k) run.writer reader keeps (drawn k names)

pub kept_edges_to : (x : LoggedRun) (old new : List Edge) (event : Event) → Keeps old new → HasEdgesTo x old event → HasEdgesTo x new event
kept_edges_to x old new event keeps there = (
  λ a next. kept_edge x old new (λ kind. kind ≡ Sequenced) (At a) (key_of event) keeps (there.0 a next),
  λ k w reads. kept_edge x old new (ReadsByte k) w (key_of event) keeps (there.1 k w reads),
)

pub kept_shown_edges_to : (x : LoggedRun) (shown : Shown) (old new : List Edge) (event : Event) → Keeps old new → HasShownEdgesTo x shown old event → HasShownEdgesTo x shown new event
kept_shown_edges_to x shown old new event keeps there = λ is_shown. kept_edges_to x old new event keeps (there is_shown)

pub kept_edges_of : (x : LoggedRun) (shown : Shown) (old new : List Edge) (thread : ThreadLog) → Keeps old new → HasEdgesOf x shown old thread → HasEdgesOf x shown new thread
kept_edges_of x shown old new thread keeps there =
    All-weaker (HasShownEdgesTo x shown old) (HasShownEdgesTo x shown new) (λ event edges. kept_shown_edges_to x shown old new event keeps edges) thread.events there

pub kept_complete : (x : LoggedRun) (shown : Shown) (old new : List Edge) → Keeps old new → AreComplete x shown old → AreComplete x shown new
kept_complete x shown old new keeps complete =
    All-weaker (HasEdgesOf x shown old) (HasEdgesOf x shown new) (λ thread edges. kept_edges_of x shown old new thread keeps edges) x.log complete

-- the byte of a read is in a run of its writer, so its edge is there
pub reads_of_runs : (x : LoggedRun) (edges : List Edge) (reader : EventKey) (runs : List WriterRun) → AreFromWriters (writers_in x.witness reader) runs
    → All (IsDrawn x edges reader) runs → HasReads x edges reader
reads_of_runs x edges reader runs from drawn = λ k w reads.
    let named = from.each k w reads in
    let run = named.1 in
    let here = named.2 in
    let names = named.3 in
    let writer = from.from_writers named.0 run here k names in
    let same : run.writer ≡ w = same_Some run.writer w (sym writer ∙ reads) in
    let drawn_run : IsDrawn x edges reader run = subst (IsDrawn x edges reader) (get_or_from_slice_get runs named.0 run run here)
    (drawn named.0 run (slice_get_within runs named.0 run here)) in
    subst (λ w. HasEdge x edges (ReadsByte k) w reader) same (drawn_run k names)

-- what holds of an item that is there, read with one default, holds with each
pub at_any_default : {X : Type 0} (P : X → Type 0) (xs : List X) (i : ℕ) (default : X) → i < length xs → P (get_or xs i default) → HoldsAt P xs i
at_any_default P xs i default inside holds = λ d. subst P (sym (get_or_from_slice_get xs i (get_or xs i default) d (slice_get-get_or xs i default inside))) holds

-- the run that an index past the end gives
abbrev pub blank_run : WriterRun
blank_run = record { writer = Init; first = 0; last = 0 }
