-- The answers of the command `races`.
use Rattle.std.specs.Prelude.{◌≡◌, ◌≢◌, ℕ, zero, suc, ◌-◌, List, [], ◌∷◌, ◌++◌, codes, length, false, take, ⊤}
use Rattle.std.specs.Fmt.{decimal, digits}
use Rattle.std.specs.List.{flat_map}
use Rattle.wm_ast.specs.declared.module.Module.{Module}
use Rattle.wm_check.specs.declared.verdict.Verdict.{Verdict}
use Rattle.wm_check.specs.declared.verdict.Verdict.TheVariants.{Allowed, Refused, Broken}
use Rattle.wm_check.specs.Checked.{verdict_by}
use Rattle.wm_check.specs.Run.{IsCandidateOf, IsModuleOf}
use Rattle.wm_check.specs.Verdicts.{Says}
use Rattle.wm_check.specs.Texts.{verdict_status, verdict_text}
use Rattle.wm_event.specs.declared.event.EventKey.{EventKey}
use Rattle.wm_event.specs.declared.log.ThreadLog.{ThreadLog}
use Rattle.wm_event.specs.declared.rule.Judgement.TheVariants.{Valid}
use Rattle.wm_event.specs.declared.witness.Witness.{Witness}
use Rattle.wm_event.specs.LoggedRun.{LoggedRun, execution}
use Rattle.wm_event.specs.Rules.{IsValid}
use Rattle.wm_event.specs.Shape.{IsWellShaped, event_count}
use Rattle.wm_event.specs.Texts.{key_text}
use Rattle.wm_sites.specs.Sites.{AreEventSites, Code}
use Rattle.wm_logfile.specs.DocumentBytes.{IsDocumentOf}
use Rattle.wm_races.specs.declared.pair.RacingPair.{RacingPair}
use Rattle.wm_races.specs.declared.site.Site.{Site}
use Rattle.wm_races.specs.declared.site.SiteRace.{SiteRace}
use Rattle.wm_races.specs.Races.{IsRaceList}
use Rattle.wm_races.specs.Report.{HasSites, IsRaceReport}
use Rattle.wm_litmus.specs.declared.answer.Answer.{Answer}
use Rattle.wm_litmus.specs.Prints.{Gives, ended}
use Rattle.wm_litmus.specs.Rules.{AnswersRules, run_over}
use Rattle.wm_sequential.specs.Sequential.{IsSequential}

-- ---- lines

abbrev pub races_status : {X : Type 0} → List X → ℕ
races_status [] = 0
races_status (race ∷ races) = 1

-- a run of this number of threads and events without a race
abbrev pub no_races_text : ℕ → ℕ → List ℕ
no_races_text threads events = codes "no races threads=" ++ decimal threads ++ codes " events=" ++ decimal events

-- and then its order is one of sequential consistency
abbrev pub sequential_text : List ℕ
sequential_text = codes "sequentially consistent in the order of the log"

-- an event and the write that it races with
abbrev pub race_text : EventKey → EventKey → List ℕ
race_text event write = codes "race " ++ key_text event ++ codes " with " ++ key_text write

abbrev pub site_text : Site → List ℕ
site_text site =
    codes " function=" ++ decimal site.function ++ codes " instruction=" ++ decimal site.instruction ++ codes " offset=0x" ++ digits 16 false site.offset

-- the line of a race
abbrev pub pair_text : RacingPair → List ℕ
pair_text pair = race_text pair.event pair.write

-- the line of the races between two instructions: the first one, how many there are, and both instructions
abbrev pub sites_text : SiteRace → List ℕ
sites_text race = race_text race.event race.write ++ codes " times=" ++ decimal race.count ++ site_text race.site ++ site_text race.other

-- a line for each race
abbrev pub shown_text : {X : Type 0} → (X → List ℕ) → List X → List ℕ
shown_text line races = flat_map (λ race. ended (line race)) races

-- how many lines are left out
abbrev pub more_text : ℕ → List ℕ
more_text zero = []
more_text (suc n) = ended (codes "and " ++ decimal (suc n) ++ codes " more")

-- at most 1,000 lines
abbrev pub lines_text : {X : Type 0} → (X → List ℕ) → List X → List ℕ
lines_text line races = shown_text line (take 1000 races) ++ more_text (length races - 1000)

-- everything that is printed for the races of a run of this number of threads and events
abbrev pub races_text : {X : Type 0} → (X → List ℕ) → ℕ → ℕ → List X → List ℕ
races_text line threads events [] = ended (no_races_text threads events) ++ ended sequential_text
races_text line threads events (race ∷ races) = lines_text line (race ∷ races)

-- the status and the text that list the races of a run
pub record ListsRaces {X : Type 0} (line : X → List ℕ) (threads events : ℕ) (races : List X) (status : ℕ) (text : List ℕ) : Type 0 where
  pub status_is : status ≡ races_status races
  pub text_is : text ≡ races_text line threads events races

-- the answer lists the races, given the first 1,000 and their total number
abbrev pub ListsFirst : {X : Type 0} → (X → List ℕ) → ℕ → ℕ → List X → ℕ → Answer → Type 0
ListsFirst {X} line threads events shown total answer =
    (races : List X) → shown ≡ take 1000 races → total ≡ length races → Gives (ListsRaces line threads events races) answer

-- ---- for a module and a document

-- the status and the text list the races of a run, reported by the instructions that make its events. A run without a race
-- is sequentially consistent in its own order
pub record ReportsRaces (code : Code) (run : LoggedRun) (status : ℕ) (text : List ℕ) : Type 0 where
  pub sites : List (List Site)
  pub has_sites : HasSites run.log sites
  pub of_events : AreEventSites code run.log sites
  pub races : List SiteRace
  pub report : IsRaceReport (execution run) sites races
  pub sequential : races ≡ [] → IsSequential (execution run)
  pub lists : ListsRaces sites_text (length run.log) (event_count run.log) races status text

abbrev pub IsNotAllowed : Verdict → Type 0
IsNotAllowed (Allowed certificate) = ⊥
IsNotAllowed (Refused refusal) = ⊤
IsNotAllowed (Broken breach) = ⊤

-- the status and the text that answer a module and a document: the races of an allowed run; otherwise the line of the
-- verdict
pub data AnswersRaces (module_bytes document_bytes : List ℕ) (status : ℕ) (text : List ℕ) : Type 0 where
  listed : («module» : Module) (run : LoggedRun) → IsCandidateOf module_bytes document_bytes «module» run
      → Says module_bytes document_bytes (verdict_by run.log Valid) → IsValid (execution run)
      → ReportsRaces (record { «module» = «module»; bytes = module_bytes }) run status text
      → AnswersRaces module_bytes document_bytes status text
  told : (verdict : Verdict) → Says module_bytes document_bytes verdict → IsNotAllowed verdict
      → status ≡ verdict_status verdict → text ≡ ended (verdict_text verdict) → AnswersRaces module_bytes document_bytes status text

-- an answer to these bytes of a document and to those of a module, if these spell the module
abbrev pub RacesOver : Code → List ℕ → Answer → Type 0
RacesOver code document_bytes answer = IsModuleOf code.bytes code.module → Gives (AnswersRaces code.bytes document_bytes) answer

-- ---- for a document alone

-- the status and the text list the races of a valid run, one by one. A run without a race is sequentially consistent in its
-- own order
pub record ReportsOwnRaces (run : LoggedRun) (status : ℕ) (text : List ℕ) : Type 0 where
  pub races : List RacingPair
  pub list : IsRaceList (execution run) races
  pub sequential : races ≡ [] → IsSequential (execution run)
  pub lists : ListsRaces pair_text (length run.log) (event_count run.log) races status text

-- the status and the text that answer a document: the races of its run over 16 pages of zeros, if the memory rules allow
-- it; otherwise the answer of `rules`
pub data AnswersEventRaces (bytes : List ℕ) (status : ℕ) (text : List ℕ) : Type 0 where
  listed : (log : List ThreadLog) (witness : Witness) → IsDocumentOf bytes log witness → IsWellShaped (run_over 16 log witness)
      → IsValid (execution (run_over 16 log witness)) → ReportsOwnRaces (run_over 16 log witness) status text
      → AnswersEventRaces bytes status text
  told : status ≢ 0 → AnswersRules bytes status text → AnswersEventRaces bytes status text
