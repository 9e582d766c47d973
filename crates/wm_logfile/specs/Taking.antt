-- What is taken from the front of a text's tokens.
use Rattle.std.specs.Prelude.{◌≡◌, ◌≤◌, ℕ, List, [], ◌∷◌, ◌++◌, length, Option, Some, IsUtf8}
use Rattle.json.specs.Token.{Token}
use Rattle.json.specs.Json.{items, value}
use Rattle.serde_json.specs.Data.{Data}
use Rattle.serde_json.specs.Read.{of_json, of_items, converted, read}
use Rattle.serde_json.specs.View.{items_of}
use Rattle.wm_event.specs.Limits.{max_steps}
use Rattle.wm_event.specs.declared.event.Event.{Event}
use Rattle.wm_event.specs.declared.event.EventKind.{EventKind}
use Rattle.wm_event.specs.declared.log.ThreadLog.{ThreadLog}
use Rattle.wm_event.specs.declared.witness.Witness.{Witness}
use Rattle.wm_logfile.specs.declared.thread.ThreadHead.{ThreadHead}
use Rattle.wm_logfile.specs.declared.document.Version.{Version}
use Rattle.wm_logfile.specs.Reading.{◌>>=◌, list_at, result_from, pair_at, kind_at, values_len, values_at, event_from, document_at, start_at, end_at, number_at}

-- the tokens begin with the tokens of the value, which nests at most k deep, and the rest comes after
pub record Leads (k : ℕ) (ts : List Token) (d : Data) (rest : List Token) : Type 0 where
  pub at : (depth : ℕ) → k ≤ depth → converted of_json (value depth ts) ≡ Some (d, rest)

-- the tokens begin with the tokens of the values up to the end of a list, and the rest comes after
pub record LeadsOn (k : ℕ) (ts : List Token) (ds : List Data) (rest : List Token) : Type 0 where
  pub at : (depth n : ℕ) → k ≤ depth → length ts ≤ n → converted of_items (items (value depth) n ts) ≡ Some (items_of ds, rest)

-- the tokens begin with the tokens of the values, and a list continues with the rest
pub record Passes (k : ℕ) (ts : List Token) (ds : List Data) (rest : List Token) : Type 0 where
  pub on : (depth : ℕ) (es : List Data) (end : List Token) → k ≤ depth → LeadsOn depth rest es end → LeadsOn depth ts (ds ++ es) end

-- a value was taken that reads as x
pub record Taken {X : Type 0} (k : ℕ) (reads : Data → Option X) (old : List Token) (x : X) (new : List Token) : Type 0 where
  pub value : Data
  pub leads : Leads k old value new
  pub read : reads value ≡ Some x

-- values up to the end of a list were taken that read as x
pub record TakenOn {X : Type 0} (k : ℕ) (reads : List Data → Option X) (old : List Token) (x : X) (new : List Token) : Type 0 where
  pub values : List Data
  pub leads : LeadsOn k old values new
  pub read : reads values ≡ Some x

-- values inside of a list were taken that read as x
pub record TakenFront {X : Type 0} (k : ℕ) (reads : List Data → Option X) (old : List Token) (x : X) (new : List Token) : Type 0 where
  pub values : List Data
  pub passes : Passes k old values new
  pub read : reads values ≡ Some x

-- the values of an event of the kind were taken
pub record TakenValues (kind : EventKind) (old : List Token) (read written : ℕ) (new : List Token) : Type 0 where
  pub values : List Data
  pub passes : Passes 0 old values new
  pub count : length values ≡ values_len kind
  pub pair : values_at kind values ≡ Some (read, written)

-- the items of an event were taken up to its values
pub record TakenEvent (thread number : ℕ) (old : List Token) (e : Event) (new : List Token) : Type 0 where
  pub tag : Data
  pub order : Data
  pub address : Data
  pub width : Data
  pub values : List Data
  pub passes : Passes 0 old (tag ∷ order ∷ address ∷ width ∷ values) new
  pub kind : kind_at tag ≡ Some e.kind
  pub count : length values ≡ values_len e.kind
  pub event : event_from thread number e.kind order address width values ≡ Some e

-- the items of a thread were taken up to its events
pub record TakenHead (old : List Token) (head : ThreadHead) (new : List Token) : Type 0 where
  pub name : Data
  pub args : Data
  pub end : Data
  pub steps : Data
  pub passes : Passes 2 old (name ∷ args ∷ end ∷ steps ∷ []) new
  pub started : start_at name args ≡ Some head.start
  pub ended : end_at end ≡ Some head.end
  pub counted : number_at max_steps steps ≡ Some head.steps

-- the result of a function, if it has one
abbrev pub result_at : Data → Option (Option ℕ)
result_at d = list_at d >>= result_from

-- what comes after the version of a document was taken
pub record TakenPair (version : Version) (old : List Token) (log : List ThreadLog) (w : Witness) (new : List Token) : Type 0 where
  pub threads : Data
  pub last : Data
  pub passes : Passes 6 old (threads ∷ last ∷ []) new
  pub pair : pair_at version threads last ≡ Some (log, w)

-- the text is a document that reads as the log with the witness
pub record TakenText (text : List ℕ) (log : List ThreadLog) (w : Witness) : Type 0 where
  pub value : Data
  pub text_is : read text ≡ Some value
  pub given : document_at value ≡ Some (log, w)

-- the bytes are the text of a document that reads as the log with the witness
pub record TakenDocument (bytes : List ℕ) (log : List ThreadLog) (w : Witness) : Type 0 where
  pub utf8 : IsUtf8 bytes
  pub value : Data
  pub text : read bytes ≡ Some value
  pub given : document_at value ≡ Some (log, w)
