-- Laws of taking whole documents.
use Rattle.std.proofs.Common.{◌≡◌, ℕ, ◌≤◌, List, [], ◌∷◌, Option, Some, option_and_then, refl, ap, ◌∙◌, arith}
use Rattle.std.specs.Prelude.{codes, IsUtf8}
use Rattle.json.specs.Token.{Token}
use Rattle.json.specs.Json as json
use Rattle.json.specs.Json.{after_end_array, if_last, value}
use Rattle.json.specs.Lex.{tokens}
use Rattle.serde_json.specs.Data.{Data}
use Rattle.serde_json.specs.Find.{as_str}
use Rattle.serde_json.specs.Read.{of_json, converted}
use Rattle.wm_event.specs.declared.event.EventId.{EventId}
use Rattle.wm_event.specs.declared.event.EventKey.{EventKey}
use Rattle.wm_event.specs.declared.log.ThreadLog.{ThreadLog}
use Rattle.wm_event.specs.declared.witness.Witness.{Witness}
use Rattle.wm_logfile.specs.declared.document.Version.{Version}
use Rattle.wm_logfile.specs.declared.document.Version.TheVariants.{First, Second}
use Rattle.wm_logfile.specs.Document.{count, list}
use Rattle.wm_logfile.specs.Reading.{◌>>=◌, number_at, u64_max, firsts, seconds, few_at, limited_thread_at, limited_thread_by_at, writers_at, keys_at, witness_from, witness_at, name_at, version_from, version_at, parts_from, pair_at, document_at}
use Rattle.wm_logfile.specs.Taking.{Leads, Passes, Taken, TakenPair, TakenText, TakenDocument}
use Rattle.wm_logfile.proofs.Lists.{list_again}
use Rattle.wm_logfile.proofs.Leaves.{numbers}
use Rattle.wm_logfile.proofs.Taking.{weaker, passes_one, passes_more, list_leads, front_taken, converted_some}

two : (k : ℕ) (old : List Token) (a : Data) (mid : List Token) (b : Data) (new : List Token) → Leads k old a mid → Leads k mid b new → Passes k old (a ∷ b ∷ []) new
two k old a mid b new h i =
    let le : k ≤ k = omega arith in
    passes_more k k k old (a ∷ []) mid (b ∷ []) new le le (passes_one k old a mid h) (passes_one k mid b new i)

witness_read : (a b : Data) (ws : List (List (List EventId))) (o : List EventKey) → writers_at a ≡ Some ws → keys_at b ≡ Some o → witness_from (a ∷ b ∷ []) ≡ Some (record { writers = ws; order = o })
unfolding witness_from
witness_read a b ws o e f = rw (e, f) refl

pub witness_taken : (old opened : List Token) (ws : List (List (List EventId))) (mid : List Token) (o : List EventKey) (now new : List Token) → old ≡ Token.begin_array ∷ opened → Taken 4 writers_at opened ws mid → Taken 2 keys_at mid o now
    → after_end_array now ≡ Some new → Taken 5 witness_at old (record { writers = ws; order = o }) new
witness_taken old opened ws mid o now new is h i closed =
    let le : 2 ≤ 4 = omega arith in
    front_taken 4 witness_from old opened now new _ is (record {
      values = h.value ∷ i.value ∷ [];
      passes = two 4 opened h.value mid i.value now h.leads (weaker 2 4 mid i.value now le i.leads);
      read = witness_read h.value i.value ws o h.read i.read;
    }) closed

pub name_taken : (old : List Token) (s : List ℕ) (new : List Token) → Taken 0 as_str old s new → s ≡ codes "wasm-litmus-log" → Taken 0 name_at old tt new
name_taken old s new h word = record { value = h.value; leads = h.leads; read = rw (h.read, word) refl }

version_read : (d : Data) (n : ℕ) (v : Version) → d ≡ count n → version_from n ≡ Some v → version_at d ≡ Some v
version_read d n v is e = rw is e

pub version_taken : (old : List Token) (n : ℕ) (v : Version) (new : List Token) → Taken 0 (number_at u64_max) old n new → version_from n ≡ Some v → Taken 0 version_at old v new
version_taken old n v new h e = record { value = h.value; leads = h.leads; read = version_read h.value n v ((numbers u64_max).takes h.value n h.read).0 e }

pub pair_1_taken : (old : List Token) (ts : List ThreadLog) (mid : List Token) (w : Witness) (new : List Token) → Taken 4 (few_at limited_thread_at) old ts mid → Taken 5 witness_at mid w new → TakenPair First old ts w new
pair_1_taken old ts mid w new h i =
    let le4 : 4 ≤ 6 = omega arith in
    let le5 : 5 ≤ 6 = omega arith in
    record {
      threads = h.value;
      last = i.value;
      passes = two 6 old h.value mid i.value new (weaker 4 6 old h.value mid le4 h.leads) (weaker 5 6 mid i.value new le5 i.leads);
      pair = rw (h.read, i.read) refl;
    }

pub pair_2_taken : (old : List Token) (ps : List (ThreadLog × List (List EventId))) (mid : List Token) (o : List EventKey) (new : List Token) (ls : List ThreadLog) (ws : List (List (List EventId)))
    → Taken 6 (few_at limited_thread_by_at) old ps mid → Taken 2 keys_at mid o new → ls ≡ firsts ps → ws ≡ seconds ps → TakenPair Second old ls (record { writers = ws; order = o }) new
pair_2_taken old ps mid o new ls ws h i first_are second_are =
    let le2 : 2 ≤ 6 = omega arith in
    record {
      threads = h.value;
      last = i.value;
      passes = two 6 old h.value mid i.value new h.leads (weaker 2 6 mid i.value new le2 i.leads);
      pair = rw (first_are, second_are, h.read, i.read) refl;
    }

parts_read : (a b c d : Data) (v : Version) → name_at a ≡ Some tt → version_at b ≡ Some v → parts_from (a ∷ b ∷ c ∷ d ∷ []) ≡ Some (v, c, d)
unfolding parts_from
parts_read a b c d v e f = rw (e, f) refl

pub whole_taken : (old opened s1 : List Token) (v : Version) (s2 : List Token) (log : List ThreadLog) (w : Witness) (s3 new : List Token) → old ≡ Token.begin_array ∷ opened → Taken 0 name_at opened tt s1 → Taken 0 version_at s1 v s2
    → TakenPair v s2 log w s3 → after_end_array s3 ≡ Some new → Taken 7 document_at old (log, w) new
whole_taken old opened s1 v s2 log w s3 new is name version pair closed =
    let le0 : 0 ≤ 6 = omega arith in
    let le6 : 6 ≤ 6 = omega arith in
    let ds : List Data = name.value ∷ version.value ∷ pair.threads ∷ pair.last ∷ [] in
    record {
      value = list ds;
      leads = list_leads 6 old opened ds s3 new is
          (passes_more 0 6 6 opened (name.value ∷ []) s1 (version.value ∷ pair.threads ∷ pair.last ∷ []) s3 le0 le6 (passes_one 0 opened name.value s1 name.leads)
          (passes_more 0 6 6 s1 (version.value ∷ []) s2 (pair.threads ∷ pair.last ∷ []) s3 le0 le6 (passes_one 0 s1 version.value s2 version.leads) pair.passes))
          closed;
      read = ap (λ (o : Option (List Data)). o >>= parts_from >>= λ p. pair_at p.0 p.1 p.2) (list_again ds)
          ∙ ap (λ (o : Option (Version × Data × Data)). o >>= λ p. pair_at p.0 p.1 p.2) (parts_read name.value version.value pair.threads pair.last v name.read version.read)
          ∙ pair.pair;
    }

-- ---- the whole text

abbrev whole : Option (json.Json × List Token) → Option Data
whole o = option_and_then of_json (option_and_then (λ p. if_last p.0 p.1) o)

whole_read : (o : Option (json.Json × List Token)) (d : Data) → converted of_json o ≡ Some (d, []) → whole o ≡ Some d
whole_read o d e = let j = converted_some of_json o d [] e in ap whole j.1 ∙ j.2

pub text_taken_whole : (text : List ℕ) (old : List Token) (log : List ThreadLog) (w : Witness) (new : List Token) → old ≡ tokens text → Taken 7 document_at old (log, w) new → new ≡ [] → TakenText text log w
text_taken_whole text old log w new is h done =
    let deep : 7 ≤ 127 = omega arith in
    let all : converted of_json (value 127 (tokens text)) ≡ Some (h.value, []) = rw (is, done) at (h.leads.at 127 deep) in
    record { value = h.value; text_is = whole_read (value 127 (tokens text)) h.value all; given = h.read }

pub bytes_taken : (bytes text : List ℕ) (log : List ThreadLog) (w : Witness) → text ≡ bytes → IsUtf8 bytes → TakenText text log w → TakenDocument bytes log w
bytes_taken bytes text log w is utf8 h = record { utf8 = utf8; value = h.value; text = rw is at h.text_is; given = h.given }
