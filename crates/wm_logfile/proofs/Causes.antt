-- The first fault of a document, and what it means for the document.
use Rattle.std.proofs.Common.{◌≡◌, ℕ, ◌<◌, ◌⊎◌, inl, inr, ◌||◌, Bool, true, false, cond, eqb, leb, List, [], ◌∷◌, length, Option, Some, None, Result, Ok, Err, refl, sym, ap, subst, ◌∙◌}
use Rattle.std.specs.Prelude.{codes, IfErr}
use Rattle.std.proofs.lemmas.Bool.{eqb-true, leb-false, lt-leb}
use Rattle.std.proofs.lemmas.Option.{same_Some}
use Rattle.std.proofs.lemmas.Slice.Eq.{bytes_eq-Decides}
use Rattle.std.specs.Option.{option_or, option_map_or}
use Rattle.std.specs.Str.{bytes_eq}
use Rattle.serde_json.specs.Data.{Data, Num, null, boolean, number, string, array, object, unsigned, negative, float}
use Rattle.serde_json.specs.Find.{as_number, as_str, as_u64}
use Rattle.wm_logfile.specs.declared.document.Version.{Version}
use Rattle.wm_logfile.specs.declared.document.Version.TheVariants.{First, Second}
use Rattle.wm_logfile.specs.declared.fault.DocFault.{DocFault}
use Rattle.wm_logfile.specs.declared.fault.DocFault.TheVariants.{NotJson, BadShape, BadVersion, NumberRange, TooLarge, OutOfMemory, Misplaced}
use Rattle.wm_logfile.specs.declared.fault.ReadFault.{ReadFault}
use Rattle.wm_logfile.specs.declared.fault.ReadFault.TheVariants.{Shape, Range, Memory}
use Rattle.wm_logfile.specs.Causes.{HasOtherVersion, HasTooManyThreads, IsCause, IsFaultOf, IsOtherVersion}
use Rattle.wm_logfile.specs.Document.{count, document_cells, list}
use Rattle.wm_logfile.specs.Faults.{DocFaults, IsDocFirst, as_document}
use Rattle.wm_logfile.specs.Forms.{Form, first_fault, is_word, items_fault, numbered_fault, unless}
use Rattle.wm_logfile.specs.Grammar.{format_name, keys, thread, thread_by, witness}
use Rattle.wm_logfile.specs.FirstFault.{as_first, document_fault, few_fault, pair_fault, parts_fault_with, threads_fault, version_fault}
use Rattle.wm_logfile.specs.Paths.{child}
use Rattle.wm_logfile.specs.Reading.{◌>>=◌, list_at, parts_from, version_from}
use Rattle.wm_logfile.proofs.DocumentPlaces.{first_none, one_of_two}
use Rattle.wm_logfile.proofs.Leaves.{texts}
use Rattle.wm_logfile.proofs.Lists.{list_takes, list_again}
use Rattle.wm_logfile.proofs.Whole.{parts_cells, parts_take, version_number, version_takes}

abbrev Found : Type 0
Found = Option DocFault

-- the name of the format
abbrev head : Data
head = string (codes "wasm-litmus-log")

abbrev in_parts : List Data → Found
in_parts = parts_fault_with (λ v threads last. pair_fault v [] threads last) []

-- ---- what a fault came from

-- a list, or another value
pub from_list : (f : List Data → Found) (path : List ℕ) (o : Option (List Data)) (e : DocFault) → option_map_or f o (Some (BadShape path)) ≡ Some e → (BadShape path ≡ e) ⊎ ((ds : List Data) × (o ≡ Some ds) × (f ds ≡ Some e))
from_list f path None e h = inl (same_Some (BadShape path) e h)
from_list f path (Some ds) e h = inr (ds, refl, h)

from_choice : (b : Bool) (x y : Found) (e : DocFault) → cond b x y ≡ Some e → (x ≡ Some e) ⊎ ((b ≡ false) × (y ≡ Some e))
from_choice true x y e h = inl h
from_choice false x y e h = inr (refl, h)

-- a fault of a value inside is not a fault of the whole document
pub inside_no_version : (x : Option ReadFault) → as_first x ≡ Some BadVersion → ⊥
inside_no_version None h = absurd cc
inside_no_version (Some (Shape p)) h = (let same : BadShape p ≡ BadVersion = cc in absurd cc)
inside_no_version (Some (Range p)) h = (let same : NumberRange p ≡ BadVersion = cc in absurd cc)
inside_no_version (Some Memory) h = (let same : OutOfMemory ≡ BadVersion = cc in absurd cc)

pub inside_not_large : (x : Option ReadFault) → as_first x ≡ Some TooLarge → ⊥
inside_not_large None h = absurd cc
inside_not_large (Some (Shape p)) h = (let same : BadShape p ≡ TooLarge = cc in absurd cc)
inside_not_large (Some (Range p)) h = (let same : NumberRange p ≡ TooLarge = cc in absurd cc)
inside_not_large (Some Memory) h = (let same : OutOfMemory ≡ TooLarge = cc in absurd cc)

-- ---- the threads

few_no_version : (f : ℕ → List ℕ → Data → Option ReadFault) (path : List ℕ) (ds : List Data) → few_fault f path ds ≡ Some BadVersion → ⊥
few_no_version f path ds h =
    elim (from_choice (leb (length ds) 16) (as_first (items_fault f path 0 ds)) (Some TooLarge) BadVersion h) [
      | inl inside ↦ inside_no_version (items_fault f path 0 ds) inside
      | inr large ↦ (let same : TooLarge ≡ BadVersion = same_Some TooLarge BadVersion large.1 in absurd cc)
    ]

few_large : (f : ℕ → List ℕ → Data → Option ReadFault) (path : List ℕ) (ds : List Data) → few_fault f path ds ≡ Some TooLarge → 16 < length ds
few_large f path ds h =
    elim (from_choice (leb (length ds) 16) (as_first (items_fault f path 0 ds)) (Some TooLarge) TooLarge h) [
      | inl inside ↦ absurd (inside_not_large (items_fault f path 0 ds) inside)
      | inr large ↦ leb-false (length ds) 16 large.0
    ]

threads_no_version : (form : Form) (path : List ℕ) (d : Data) → threads_fault form path d ≡ Some BadVersion → ⊥
threads_no_version form path d h =
    elim (from_list (few_fault (numbered_fault (first_fault form)) path) path (list_at d) BadVersion h) [
      | inl same ↦ absurd cc
      | inr few ↦ few_no_version (numbered_fault (first_fault form)) path few.0 few.2
    ]

-- a list of more threads than a document may have
abbrev IsLong : Data → Type 0
IsLong d = (ts : List Data) × (d ≡ list ts) × (16 < length ts)

threads_large : (form : Form) (path : List ℕ) (d : Data) → threads_fault form path d ≡ Some TooLarge → IsLong d
threads_large form path d h =
    elim (from_list (few_fault (numbered_fault (first_fault form)) path) path (list_at d) TooLarge h) [
      | inl same ↦ absurd cc
      | inr few ↦ (few.0, list_takes d few.0 few.1, few_large (numbered_fault (first_fault form)) path few.0 few.2)
    ]

many_threads : (form : Form) (path : List ℕ) (ts : List Data) → 16 < length ts → threads_fault form path (list ts) ≡ Some TooLarge
many_threads form path ts many =
    let h : leb (length ts) 16 ≡ false = lt-leb (length ts) 16 many in
    ap (λ (o : Option (List Data)). option_map_or (few_fault (numbered_fault (first_fault form)) path) o (Some (BadShape path))) (list_again ts)
    ∙ ap (λ (b : Bool). cond b (as_first (items_fault (numbered_fault (first_fault form)) path 0 ts)) (Some TooLarge)) h

-- ---- after the version

pair_no_version : (v : Version) (threads last : Data) → pair_fault v [] threads last ≡ Some BadVersion → ⊥
pair_no_version First threads last h =
    elim (one_of_two (threads_fault thread (child [] 2) threads) (as_first (first_fault witness (child [] 3) last)) BadVersion h) [
      | inl first ↦ threads_no_version thread (child [] 2) threads first
      | inr second ↦ inside_no_version (first_fault witness (child [] 3) last) second.1
    ]
pair_no_version Second threads last h =
    elim (one_of_two (threads_fault thread_by (child [] 2) threads) (as_first (first_fault keys (child [] 3) last)) BadVersion h) [
      | inl first ↦ threads_no_version thread_by (child [] 2) threads first
      | inr second ↦ inside_no_version (first_fault keys (child [] 3) last) second.1
    ]

pair_large : (v : Version) (threads last : Data) → pair_fault v [] threads last ≡ Some TooLarge → IsLong threads
pair_large First threads last h =
    elim (one_of_two (threads_fault thread (child [] 2) threads) (as_first (first_fault witness (child [] 3) last)) TooLarge h) [
      | inl first ↦ threads_large thread (child [] 2) threads first
      | inr second ↦ absurd (inside_not_large (first_fault witness (child [] 3) last) second.1)
    ]
pair_large Second threads last h =
    elim (one_of_two (threads_fault thread_by (child [] 2) threads) (as_first (first_fault keys (child [] 3) last)) TooLarge h) [
      | inl first ↦ threads_large thread_by (child [] 2) threads first
      | inr second ↦ absurd (inside_not_large (first_fault keys (child [] 3) last) second.1)
    ]

many_pair : (v : Version) (ts : List Data) (last : Data) → 16 < length ts → pair_fault v [] (list ts) last ≡ Some TooLarge
many_pair First ts last many = ap (λ (x : Found). option_or x (as_first (first_fault witness (child [] 3) last))) (many_threads thread (child [] 2) ts many)
many_pair Second ts last many = ap (λ (x : Found). option_or x (as_first (first_fault keys (child [] 3) last))) (many_threads thread_by (child [] 2) ts many)

-- ---- the version

number_takes : (d : Data) (n : Num) → as_number d ≡ Some n → d ≡ number n
number_takes null n e = absurd cc
number_takes (boolean b) n e = absurd cc
number_takes (number m) n e = ap number (same_Some m n e)
number_takes (string s) n e = absurd cc
number_takes (array ds) n e = absurd cc
number_takes (object ms) n e = absurd cc

no_version : (n : Num) → (as_u64 n >>= version_from) ≡ None → IsOtherVersion n
no_version n none = record {
  not_first = λ is. (let one : (as_u64 n >>= version_from) ≡ Some First = ap (λ (m : Num). as_u64 m >>= version_from) is in absurd cc);
  not_second = λ is. (let two : (as_u64 n >>= version_from) ≡ Some Second = ap (λ (m : Num). as_u64 m >>= version_from) is in absurd cc);
}

neither : (a b : Bool) → (a ≡ true → ⊥) → (b ≡ true → ⊥) → cond a (Some First) (cond b (Some Second) None) ≡ None
neither true b one two = absurd (one refl)
neither false true one two = absurd (two refl)
neither false false one two = refl

other_version : (n : Num) → IsOtherVersion n → (as_u64 n >>= version_from) ≡ None
other_version (unsigned v) other = neither (eqb v 1) (eqb v 2) (λ h. other.not_first (ap unsigned (eqb-true v 1 h))) (λ h. other.not_second (ap unsigned (eqb-true v 2 h)))
other_version (negative z) other = refl
other_version (float x) other = refl

-- the version is another one, or what comes after a known one is at fault
abbrev VersionFault : (Version → Found) → Data → DocFault → Type 0
VersionFault behind d e = ((n : Num) × (d ≡ number n) × IsOtherVersion n × (BadVersion ≡ e)) ⊎ ((v : Version) × (d ≡ count (version_number v)) × (behind v ≡ Some e))

from_version : (behind : Version → Found) (o : Option Version) (e : DocFault) → option_map_or behind o (Some BadVersion) ≡ Some e → ((o ≡ None) × (BadVersion ≡ e)) ⊎ ((v : Version) × (o ≡ Some v) × (behind v ≡ Some e))
from_version behind None e h = inl (refl, same_Some BadVersion e h)
from_version behind (Some v) e h = inr (v, refl, h)

from_number : (behind : Version → Found) (path : List ℕ) (d : Data) (o : Option Num) (e : DocFault) → as_number d ≡ o → version_fault behind path o ≡ Some e → (BadShape path ≡ e) ⊎ VersionFault behind d e
from_number behind path d None e is h = inl (same_Some (BadShape path) e h)
from_number behind path d (Some n) e is h =
    elim (from_version behind (as_u64 n >>= version_from) e h) [
      | inl none ↦ inr (inl (n, number_takes d n is, no_version n none.0, none.1))
      | inr known ↦ inr (inr (known.0, version_takes d known.0 (ap (λ (m : Option Num). m >>= as_u64 >>= version_from) is ∙ known.1), known.2))
    ]

-- ---- the name

word_is : (word : List ℕ) (o : Option (List ℕ)) → is_word (word ∷ []) o ≡ true → o ≡ Some word
word_is word None h = absurd cc
word_is word (Some s) h = ap (λ (t : List ℕ). Some t) ((bytes_eq-Decides s word).0 (first_true (bytes_eq s word) h))
  where
    first_true : (b : Bool) → (b || false) ≡ true → b ≡ true
    first_true true h = refl
    first_true false h = absurd cc

no_unless : (b : Bool) (f : ReadFault) → unless b f ≡ None → b ≡ true
no_unless true f h = refl
no_unless false f h = absurd cc

named : (d : Data) (path : List ℕ) → first_fault format_name path d ≡ None → d ≡ head
named d path h = (texts.takes d (codes "wasm-litmus-log") (word_is (codes "wasm-litmus-log") (as_str d) (no_unless (is_word (codes "wasm-litmus-log" ∷ []) (as_str d)) (Shape path) h))).0

-- ---- the whole

-- where a fault of the whole document came from
record From (d : Data) (e : DocFault) : Type 0 where
  version : Data
  threads : Data
  last : Data
  is : d ≡ list (head ∷ version ∷ threads ∷ last ∷ [])
  fault : VersionFault (λ v. pair_fault v [] threads last) version e

-- no fault of a value inside
record IsWhole (e : DocFault) : Type 0 where
  shape : (path : List ℕ) → BadShape path ≡ e → ⊥
  inside : (x : Option ReadFault) → as_first x ≡ Some e → ⊥

in_four : (e : DocFault) (whole : IsWhole e) (a b c d : Data) → in_parts (a ∷ b ∷ c ∷ d ∷ []) ≡ Some e → From (list (a ∷ b ∷ c ∷ d ∷ [])) e
in_four e whole a b c d h =
    elim (one_of_two (as_first (first_fault format_name (child [] 0) a)) (version_fault (λ v. pair_fault v [] c d) (child [] 1) (as_number b)) e h) [
      | inl first ↦ absurd (whole.inside (first_fault format_name (child [] 0) a) first)
      | inr second ↦ elim (from_number (λ v. pair_fault v [] c d) (child [] 1) b (as_number b) e refl second.1) [
        | inl shape ↦ absurd (whole.shape (child [] 1) shape)
        | inr fault ↦ record {
          version = b;
          threads = c;
          last = d;
          is = ap (λ (x : Data). list (x ∷ b ∷ c ∷ d ∷ [])) (named a (child [] 0) (first_none (first_fault format_name (child [] 0) a) second.0));
          fault = fault;
        }
      ]
    ]

in_cells : (e : DocFault) (whole : IsWhole e) (ds : List Data) → in_parts ds ≡ Some e → From (list ds) e
in_cells e whole [] h = absurd (whole.shape [] (same_Some (BadShape []) e h))
in_cells e whole (a ∷ []) h = absurd (whole.shape [] (same_Some (BadShape []) e h))
in_cells e whole (a ∷ b ∷ []) h = absurd (whole.shape [] (same_Some (BadShape []) e h))
in_cells e whole (a ∷ b ∷ c ∷ []) h = absurd (whole.shape [] (same_Some (BadShape []) e h))
in_cells e whole (a ∷ b ∷ c ∷ d ∷ []) h = in_four e whole a b c d h
in_cells e whole (a ∷ b ∷ c ∷ d ∷ f ∷ ds) h = absurd (whole.shape [] (same_Some (BadShape []) e h))

from : (e : DocFault) (whole : IsWhole e) (d : Data) → document_fault d ≡ Some e → From d e
unfolding document_fault
from e whole d h =
    elim (from_list in_parts [] (list_at d) e h) [
      | inl shape ↦ absurd (whole.shape [] shape)
      | inr cells ↦ subst (λ (x : Data). From x e) (sym (list_takes d cells.0 cells.1)) (in_cells e whole cells.0 cells.2)
    ]

of_version : (d : Data) → document_fault d ≡ Some BadVersion → HasOtherVersion d
of_version d h =
    let f = from BadVersion (record { shape = λ path same. absurd cc; inside = inside_no_version }) d h in
    elim f.fault [
      | inl other ↦ record { version = other.0; threads = f.threads; last = f.last; is = f.is ∙ ap (λ (x : Data). list (head ∷ x ∷ f.threads ∷ f.last ∷ [])) other.1; other = other.2 }
      | inr known ↦ absurd (pair_no_version known.0 f.threads f.last known.2)
    ]

of_threads : (d : Data) → document_fault d ≡ Some TooLarge → HasTooManyThreads d
of_threads d h =
    let f = from TooLarge (record { shape = λ path same. absurd cc; inside = inside_not_large }) d h in
    elim f.fault [
      | inl other ↦ (let same : BadVersion ≡ TooLarge = other.3 in absurd cc)
      | inr known ↦ (
          let long = pair_large known.0 f.threads f.last known.2 in
          record {
            version = version_number known.0;
            known = elim known.0 as (λ v. (version_number v ≡ 1) ⊎ (version_number v ≡ 2)) [ First ↦ inl refl | Second ↦ inr refl ];
            threads = long.0;
            last = f.last;
            is = f.is ∙ ap (λ (x : Data). list (head ∷ x ∷ f.threads ∷ f.last ∷ [])) known.1 ∙ ap (λ (x : Data). list (head ∷ count (version_number known.0) ∷ x ∷ f.last ∷ [])) long.1;
            many = long.2;
          })
    ]

-- ---- the faults that a document has

of_list : (ds : List Data) → document_fault (list ds) ≡ in_parts ds
unfolding document_fault
of_list ds = ap (λ (o : Option (List Data)). option_map_or in_parts o (Some (BadShape []))) (list_again ds)

pub is_other : (d : Data) → HasOtherVersion d → document_fault d ≡ Some BadVersion
is_other d has =
    ap document_fault has.is ∙ of_list (head ∷ number has.version ∷ has.threads ∷ has.last ∷ [])
    ∙ ap (λ (o : Option Version). option_map_or (λ v. pair_fault v [] has.threads has.last) o (Some BadVersion)) (other_version has.version has.other)

known_many : (version : ℕ) (ts : List Data) (last : Data) → (version ≡ 1) ⊎ (version ≡ 2) → 16 < length ts → in_parts (document_cells version ts last) ≡ Some TooLarge
known_many version ts last (inl one) many = ap (λ (n : ℕ). in_parts (document_cells n ts last)) one ∙ many_pair First ts last many
known_many version ts last (inr two) many = ap (λ (n : ℕ). in_parts (document_cells n ts last)) two ∙ many_pair Second ts last many

pub is_large : (d : Data) → HasTooManyThreads d → document_fault d ≡ Some TooLarge
is_large d has =
    ap document_fault has.is ∙ of_list (document_cells has.version has.threads has.last) ∙ known_many has.version has.threads has.last has.known has.many

-- ---- where the parts of a document are at fault

-- a fault of the threads is the first one, whatever comes after them
pub or_inside : (e : DocFault) (x : Found) (z : Option ReadFault) → IsDocFirst e x → IsDocFirst e (option_or x (as_first z))
or_inside NotJson x z first = absurd first
or_inside (BadShape p) x z first = rw first refl
or_inside BadVersion x z first = rw first refl
or_inside (NumberRange p) x z first = rw first refl
or_inside TooLarge x z first = rw first refl
or_inside OutOfMemory x z first = (
  λ h. elim (one_of_two x (as_first z) BadVersion h) [ inl one ↦ first.0 one | inr two ↦ inside_no_version z two.1 ],
  λ h. elim (one_of_two x (as_first z) TooLarge h) [ inl one ↦ first.1 one | inr two ↦ inside_not_large z two.1 ],
)
or_inside Misplaced x z first = absurd first

pub at_threads : (form : Form) (path at : List ℕ) (d : Data) (z : Option ReadFault) (e : DocFault) → at ≡ child path 2 → IsDocFirst e (threads_fault form at d) → IsDocFirst e (option_or (threads_fault form (child path 2) d) (as_first z))
at_threads form path at d z e place first = or_inside e (threads_fault form (child path 2) d) z (subst (λ (p : List ℕ). IsDocFirst e (threads_fault form p d)) place first)

-- another value than a list
pub no_list : (d : Data) (f : ReadFault) (path : List ℕ) → list_at d ≡ None → f ≡ Shape path → path ≡ [] → IsDocFirst (as_document f) (document_fault d)
unfolding document_fault
no_list d f path none is whole =
    let first : document_fault d ≡ Some (BadShape []) = ap (λ (o : Option (List Data)). option_map_or in_parts o (Some (BadShape []))) none in
    subst (λ (g : ReadFault). IsDocFirst (as_document g) (document_fault d)) (sym is) (subst (λ (p : List ℕ). document_fault d ≡ Some (BadShape p)) (sym whole) first)

some_list : (d : Data) (ds : List Data) → list_at d ≡ Some ds → document_fault d ≡ in_parts ds
some_list d ds is = ap document_fault (list_takes d ds is) ∙ of_list ds

-- a fault up to the version stays the first one
known_front : (behind : Version → Found) (path : List ℕ) (o : Option Version) (e : DocFault) → option_map_or (λ v. None) o (Some BadVersion) ≡ Some e → option_map_or behind o (Some BadVersion) ≡ Some e
known_front behind path None e h = h
known_front behind path (Some v) e h = absurd cc

version_front : (behind : Version → Found) (path : List ℕ) (o : Option Num) (e : DocFault) → version_fault (λ v. None) path o ≡ Some e → version_fault behind path o ≡ Some e
version_front behind path None e h = h
version_front behind path (Some n) e h = known_front behind path (as_u64 n >>= version_from) e h

parts_front : (ds : List Data) (e : DocFault) → parts_fault_with (λ v threads last. None) [] ds ≡ Some e → in_parts ds ≡ Some e
parts_front [] e h = h
parts_front (a ∷ []) e h = h
parts_front (a ∷ b ∷ []) e h = h
parts_front (a ∷ b ∷ c ∷ []) e h = h
parts_front (a ∷ b ∷ c ∷ d ∷ []) e h =
    elim (one_of_two (as_first (first_fault format_name (child [] 0) a)) (version_fault (λ v. None) (child [] 1) (as_number b)) e h) [
      | inl first ↦ ap (λ (x : Found). option_or x (version_fault (λ v. pair_fault v [] c d) (child [] 1) (as_number b))) first
      | inr second ↦ ap (λ (x : Found). option_or x (version_fault (λ v. pair_fault v [] c d) (child [] 1) (as_number b))) second.0
          ∙ version_front (λ v. pair_fault v [] c d) (child [] 1) (as_number b) e second.1
    ]
parts_front (a ∷ b ∷ c ∷ d ∷ f ∷ ds) e h = h

pub front_fault : (d : Data) (ds : List Data) (path : List ℕ) (e : DocFault) → list_at d ≡ Some ds → path ≡ [] → IsDocFirst e (parts_fault_with (λ v threads last. None) path ds) → (e ≡ OutOfMemory → ⊥) → IsDocFirst e (document_fault d)
front_fault d ds path e is whole first no_want =
    front e (subst (λ (p : List ℕ). IsDocFirst e (parts_fault_with (λ v threads last. None) p ds)) whole first) no_want
  where
    found : (g : DocFault) → parts_fault_with (λ v threads last. None) [] ds ≡ Some g → document_fault d ≡ Some g
    found g h = some_list d ds is ∙ parts_front ds g h

    front : (g : DocFault) → IsDocFirst g (parts_fault_with (λ v threads last. None) [] ds) → (g ≡ OutOfMemory → ⊥) → IsDocFirst g (document_fault d)
    front NotJson h other = absurd h
    front (BadShape p) h other = found (BadShape p) h
    front BadVersion h other = found BadVersion h
    front (NumberRange p) h other = found (NumberRange p) h
    front TooLarge h other = found TooLarge h
    front OutOfMemory h other = absurd (other refl)
    front Misplaced h other = absurd h

in_known : (v : Version) (threads last : Data) → in_parts (parts_cells (v, threads, last)) ≡ pair_fault v [] threads last
in_known First threads last = refl
in_known Second threads last = refl

-- after a known version
pub pair_document : {X : Type 0} (d : Data) (ds : List Data) (v w : Version) (threads last : Data) (path : List ℕ) (r : Result X DocFault) → list_at d ≡ Some ds → parts_from ds ≡ Some (v, threads, last) → v ≡ w → path ≡ []
    → DocFaults r (pair_fault w path threads last) → DocFaults r (document_fault d)
pair_document d ds v w threads last path r is read same whole first =
    let all : document_fault d ≡ pair_fault w [] threads last =
    some_list d ds is ∙ ap in_parts (parts_take ds (v, threads, last) read).0 ∙ in_known v threads last ∙ ap (λ (x : Version). pair_fault x [] threads last) same in
    subst (λ (x : Found). DocFaults r x) (sym all) (subst (λ (p : List ℕ). DocFaults r (pair_fault w p threads last)) whole first)

-- ---- the meaning of the first fault

said : (d : Data) (e : DocFault) → document_fault d ≡ Some e → IsCause e d → IsFaultOf d e
said d e first cause = record {
  cause = cause;
  other_version = λ has. same_Some e BadVersion (sym first ∙ is_other d has);
  many_threads = λ has. same_Some e TooLarge (sym first ∙ is_large d has);
}

pub fault_of : (d : Data) (e : DocFault) → IsDocFirst e (document_fault d) → IsFaultOf d e
fault_of d NotJson first = absurd first
fault_of d (BadShape path) first = said d (BadShape path) first first
fault_of d BadVersion first = said d BadVersion first (of_version d first)
fault_of d (NumberRange path) first = said d (NumberRange path) first first
fault_of d TooLarge first = said d TooLarge first (of_threads d first)
fault_of d OutOfMemory first = record { cause = tt; other_version = λ has. absurd (first.0 (is_other d has)); many_threads = λ has. absurd (first.1 (is_large d has)) }
fault_of d Misplaced first = absurd first

pub faults_of : {X : Type 0} (d : Data) (r : Result X DocFault) → DocFaults r (document_fault d) → IfErr r (IsFaultOf d)
faults_of d (Ok x) first = tt
faults_of d (Err e) first = fault_of d e first
