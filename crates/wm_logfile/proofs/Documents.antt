-- Two logs with their witnesses, and the texts that spell them in each version.
use Rattle.std.proofs.Common.{[], ◌∷◌, List, ℕ, refl, ◌≡◌}
use Rattle.std.proofs.lemmas.List.Elements.{All-cons, All-nil}
use Rattle.std.specs.Fmt.{digits}
use Rattle.std.specs.Prelude.{All, Some, codes}
use Rattle.json.proofs.Printed.Utf8.{IsUtf8-are_ascii}
use Rattle.serde_json.specs.Written.{compact_text}
use Rattle.serde_json.proofs.OnLiterals.{serde_json_on_literals}
use Rattle.wm_access.specs.declared.AccessWidth.TheVariants.{Four, Eight}
use Rattle.wm_access.specs.declared.MemoryOrder.TheVariants.{Unordered}
use Rattle.wm_event.specs.declared.event.EventId.TheVariants.{At}
use Rattle.wm_event.specs.declared.event.EventKey.{EventKey}
use Rattle.wm_event.specs.declared.event.EventKind.TheVariants.{Read, Write}
use Rattle.wm_event.specs.declared.log.End.TheVariants.{Cut, Done}
use Rattle.wm_event.specs.declared.log.ThreadLog.{ThreadLog}
use Rattle.wm_event.specs.declared.witness.Witness.{Witness}
use Rattle.wm_event.specs.declared.event.Event.{Event}
use Rattle.wm_event.specs.Fitting.{FitsEvent, FitsLog}
use Rattle.wm_logfile.specs.Document.{Spells, document_1, document_2}
use Rattle.wm_logfile.specs.Document.IsDocument.{first, second}

-- ---- one thread, cut before its first step

cut_log : List ThreadLog
cut_log = record { start = record { name = codes "a"; args = [] }; end = Cut; steps = 0; events = [] } ∷ []

cut_witness : Witness
cut_witness = record { writers = [] ∷ []; order = [] }

cut_1 : List ℕ
cut_1 = codes "[\"wasm-litmus-log\",1,[[\"a\",[],[\"cut\"],0,[]]],[[[]],[]]]"

cut_2 : List ℕ
cut_2 = codes "[\"wasm-litmus-log\",2,[[\"a\",[],[\"cut\"],0,[]]],[]]"

cut_fits : FitsLog cut_log cut_witness
unfolding cut_log cut_witness
cut_fits = record { counts = refl; writes = All-cons (λ l. All (FitsEvent cut_witness) l.events) _ [] (All-nil _) (All-nil _) }

cut_1_spells : Spells cut_1 cut_log cut_witness
unfolding serde_json_on_literals cut_1 cut_log cut_witness
cut_1_spells = record { utf8 = IsUtf8-are_ascii cut_1 refl; value = document_1 cut_log cut_witness; text = refl; spelled = first refl }

cut_2_spells : Spells cut_2 cut_log cut_witness
unfolding serde_json_on_literals cut_2 cut_log cut_witness
cut_2_spells = record { utf8 = IsUtf8-are_ascii cut_2 refl; value = document_2 cut_log cut_witness; text = refl; spelled = second cut_fits refl }

cut_is_written : compact_text (document_2 cut_log cut_witness) ≡ cut_2
unfolding serde_json_on_literals digits cut_2 cut_log cut_witness
cut_is_written = refl

-- ---- a write of 8 bytes, and a read of 4 of them

store : EventKey
store = record { thread = 0; number = 0 }

load : EventKey
load = record { thread = 0; number = 1 }

stored : Event
stored = record { thread = 0; number = 0; kind = Write; order = Unordered; address = 0; width = Eight; read = 0; written = 578437695752307201 }

loaded : Event
loaded = record { thread = 0; number = 1; kind = Read; order = Unordered; address = 2; width = Four; read = 100992003; written = 0 }

pair_log : List ThreadLog
pair_log = record { start = record { name = codes "a"; args = [] }; end = Done (Some 100992003); steps = 6; events = stored ∷ loaded ∷ [] } ∷ []

pair_witness : Witness
pair_witness = record { writers = ([] ∷ (At store ∷ At store ∷ At store ∷ At store ∷ []) ∷ []) ∷ []; order = store ∷ load ∷ [] }

pair_1 : List ℕ
pair_1 = codes "[\"wasm-litmus-log\",1,[[\"a\",[],[\"done\",[100992003]],6,[[\"w\",\"un\",0,8,578437695752307201],[\"r\",\"un\",2,4,100992003]]]],[[[[],[[0,0],[0,0],[0,0],[0,0]]]],[[0,0],[0,1]]]]"

pair_2 : List ℕ
pair_2 = codes "[\"wasm-litmus-log\",2,[[\"a\",[],[\"done\",[100992003]],6,[[\"w\",\"un\",0,8,578437695752307201],[\"r\",\"un\",2,4,100992003,[[0,0],[0,0],[0,0],[0,0]]]]]],[[0,0],[0,1]]]"

pair_fits : FitsLog pair_log pair_witness
unfolding pair_log pair_witness stored loaded store load
pair_fits = record {
  counts = refl;
  writes = All-cons (λ l. All (FitsEvent pair_witness) l.events) _ []
      (All-cons (FitsEvent pair_witness) stored (loaded ∷ []) (λ _. refl) (All-cons (FitsEvent pair_witness) loaded [] (λ e. absurd cc) (All-nil _)))
      (All-nil _);
}

pair_1_spells : Spells pair_1 pair_log pair_witness
unfolding serde_json_on_literals pair_1 pair_log pair_witness stored loaded store load
pair_1_spells = record { utf8 = IsUtf8-are_ascii pair_1 refl; value = document_1 pair_log pair_witness; text = refl; spelled = first refl }

pair_2_spells : Spells pair_2 pair_log pair_witness
unfolding serde_json_on_literals pair_2 pair_log pair_witness stored loaded store load
pair_2_spells = record { utf8 = IsUtf8-are_ascii pair_2 refl; value = document_2 pair_log pair_witness; text = refl; spelled = second pair_fits refl }

pair_is_written : compact_text (document_2 pair_log pair_witness) ≡ pair_2
unfolding serde_json_on_literals digits pair_2 pair_log pair_witness stored loaded store load
pair_is_written = refl
