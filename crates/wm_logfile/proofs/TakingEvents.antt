-- Laws of taking events.
use Rattle.std.proofs.Common.{◌≡◌, true, ℕ, ◌≤◌, List, [], ◌∷◌, ◌++◌, length, take, drop, Some, eqb, refl, arith}
use Rattle.std.proofs.Math.Seq.{take-append_seam, drop-append_seam}
use Rattle.std.proofs.lemmas.List.{length-append}
use Rattle.json.specs.Token.{Token}
use Rattle.json.specs.Json.{after_end_array}
use Rattle.serde_json.specs.Data.{Data}
use Rattle.wm_access.specs.declared.AccessWidth.{AccessWidth}
use Rattle.wm_access.specs.declared.MemoryOrder.{MemoryOrder}
use Rattle.wm_access.specs.declared.MemoryOrder.TheVariants.{SeqCst}
use Rattle.wm_event.specs.declared.event.Event.{Event}
use Rattle.wm_event.specs.declared.event.EventId.{EventId}
use Rattle.wm_event.specs.declared.event.EventId.TheVariants.{Init, At}
use Rattle.wm_event.specs.declared.event.EventKey.{EventKey}
use Rattle.wm_event.specs.declared.event.EventKind.{EventKind}
use Rattle.wm_event.specs.declared.event.EventKind.TheVariants.{Read, Write, Update}
use Rattle.wm_logfile.specs.Reading.{◌>>=◌, number_at, u32_max, u64_max, width_from, width_at, kind_at, order_at, order_for, values_len, values_at, is_count, event_from, fields_at, event_at, key_from, key_at, writer_from, writer_at, event_writers_at, by_from, values_by_len, is_count_by, fields_by_at, event_by_at}
use Rattle.wm_logfile.specs.Taking.{Leads, Passes, Taken, TakenOn, TakenFront, TakenValues, TakenEvent}
use Rattle.wm_logfile.proofs.Taking.{passes_nothing, passes_one, passes_more, passes_end, list_taken, front_taken}

-- ---- the parts of an event

pub order_taken : (kind : EventKind) (old : List Token) (o : MemoryOrder) (new : List Token) → Taken 0 order_at old o new → (kind ≡ Update → o ≡ SeqCst) → Taken 0 (order_for kind) old o new
order_taken Read old o new h e = record { value = h.value; leads = h.leads; read = h.read }
order_taken Write old o new h e = record { value = h.value; leads = h.leads; read = h.read }
order_taken Update old o new h e = record { value = h.value; leads = h.leads; read = rw h.read (rw (e refl) refl) }

pub width_taken : (old : List Token) (n : ℕ) (w : AccessWidth) (new : List Token) → Taken 0 (number_at 8) old n new → width_from n ≡ Some w → Taken 0 width_at old w new
width_taken old n w new h e = record { value = h.value; leads = h.leads; read = rw h.read e }

one : (old : List Token) (d : Data) (new : List Token) → Leads 0 old d new → Passes 0 old (d ∷ []) new
one old d new h = passes_one 0 old d new h

both : (old : List Token) (ds : List Data) (mid : List Token) (es : List Data) (new : List Token) → Passes 0 old ds mid → Passes 0 mid es new → Passes 0 old (ds ++ es) new
both old ds mid es new h more = let le : 0 ≤ 0 = omega arith in passes_more 0 0 0 old ds mid es new le le h more

pub read_taken : (old : List Token) (n : ℕ) (new : List Token) → Taken 0 (number_at u64_max) old n new → TakenValues Read old n 0 new
read_taken old n new h = record { values = h.value ∷ []; passes = one old h.value new h.leads; count = refl; pair = rw h.read refl }

pub written_taken : (old : List Token) (n : ℕ) (new : List Token) → Taken 0 (number_at u64_max) old n new → TakenValues Write old 0 n new
written_taken old n new h = record { values = h.value ∷ []; passes = one old h.value new h.leads; count = refl; pair = rw h.read refl }

pub updated_taken : (old : List Token) (m : ℕ) (mid : List Token) (n : ℕ) (new : List Token) → Taken 0 (number_at u64_max) old m mid → Taken 0 (number_at u64_max) mid n new → TakenValues Update old m n new
updated_taken old m mid n new h i = record {
  values = h.value ∷ i.value ∷ [];
  passes = both old (h.value ∷ []) mid (i.value ∷ []) new (one old h.value mid h.leads) (one mid i.value new i.leads);
  count = refl;
  pair = rw (h.read, i.read) refl;
}

read_from : (t n : ℕ) (k : EventKind) (order address width : Data) (values : List Data) (o : MemoryOrder) (a : ℕ) (w : AccessWidth) (r x : ℕ)
    → order_for k order ≡ Some o → number_at u32_max address ≡ Some a → width_at width ≡ Some w → values_at k values ≡ Some (r, x)
    → event_from t n k order address width values ≡ Some (record { thread = t; number = n; kind = k; order = o; address = a; width = w; read = r; written = x })
read_from t n k order address width values o a w r x e f g h = rw (e, f, g, h) refl

pub event_front_taken : (t n : ℕ) (k : EventKind) (o : MemoryOrder) (a : ℕ) (w : AccessWidth) (r x : ℕ) (old s1 s2 s3 s4 new : List Token)
    → Taken 0 kind_at old k s1 → Taken 0 (order_for k) s1 o s2 → Taken 0 (number_at u32_max) s2 a s3 → Taken 0 width_at s3 w s4 → TakenValues k s4 r x new
    → TakenEvent t n old (record { thread = t; number = n; kind = k; order = o; address = a; width = w; read = r; written = x }) new
event_front_taken t n k o a w r x old s1 s2 s3 s4 new e f g h i = record {
  tag = e.value;
  order = f.value;
  address = g.value;
  width = h.value;
  values = i.values;
  passes =
      both old (e.value ∷ []) s1 (f.value ∷ g.value ∷ h.value ∷ i.values) new (one old e.value s1 e.leads)
      (both s1 (f.value ∷ []) s2 (g.value ∷ h.value ∷ i.values) new (one s1 f.value s2 f.leads)
      (both s2 (g.value ∷ []) s3 (h.value ∷ i.values) new (one s2 g.value s3 g.leads)
      (both s3 (h.value ∷ []) s4 i.values new (one s3 h.value s4 h.leads) i.passes)));
  kind = e.read;
  count = i.count;
  event = read_from t n k f.value g.value h.value i.values o a w r x f.read g.read h.read i.pair;
}

-- ---- an event

counted : (k : EventKind) → is_count (values_len k) ≡ true
counted Read = refl
counted Write = refl
counted Update = refl

same_count : (k : EventKind) → eqb (values_len k) (values_len k) ≡ true
same_count Read = refl
same_count Write = refl
same_count Update = refl

fields_read : (t n : ℕ) (tag order address width : Data) (values : List Data) (k : EventKind) (e : Event) → kind_at tag ≡ Some k → length values ≡ values_len k → event_from t n k order address width values ≡ Some e
    → fields_at t n (tag ∷ order ∷ address ∷ width ∷ values) ≡ Some e
unfolding fields_at
fields_read t n tag order address width values k e is many h = rw (many, counted k, is, same_count k) h

pub event_taken : (t n : ℕ) (old opened now new : List Token) (e : Event) → old ≡ Token.begin_array ∷ opened → TakenEvent t n opened e now → after_end_array now ≡ Some new → Taken 1 (event_at t n) old e new
event_taken t n old opened now new e is h closed =
    front_taken 0 (fields_at t n) old opened now new e is (record {
      values = h.tag ∷ h.order ∷ h.address ∷ h.width ∷ h.values;
      passes = h.passes;
      read = fields_read t n h.tag h.order h.address h.width h.values e.kind e h.kind h.count h.event;
    }) closed

-- ---- the name of an event

pub numbers_taken : (old : List Token) (t : ℕ) (mid : List Token) (n : ℕ) (new : List Token) → Taken 0 (number_at u32_max) old t mid → Taken 0 (number_at u32_max) mid n new → TakenFront 0 key_from old (record { thread = t; number = n }) new
unfolding key_from
numbers_taken old t mid n new h i = record {
  values = h.value ∷ i.value ∷ [];
  passes = both old (h.value ∷ []) mid (i.value ∷ []) new (one old h.value mid h.leads) (one mid i.value new i.leads);
  read = rw (h.read, i.read) refl;
}

init_taken : (old opened new : List Token) → old ≡ Token.begin_array ∷ opened → after_end_array opened ≡ Some new → Taken 1 writer_at old Init new
init_taken old opened new is closed =
    front_taken 0 writer_from old opened opened new Init is (record { values = []; passes = passes_nothing 0 opened; read = refl }) closed

pub empty_taken : (old new : List Token) → old ≡ Token.begin_array ∷ Token.end_array ∷ new → Taken 1 writer_at old Init new
empty_taken old new is = init_taken old (Token.end_array ∷ new) new is refl

named : (ds : List Data) (key : EventKey) → key_from ds ≡ Some key → writer_from ds ≡ Some (At key)
unfolding key_from
named [] key e = absurd cc
named (d ∷ ds) key e = rw e refl

pub named_taken : (old opened now new : List Token) (key : EventKey) → old ≡ Token.begin_array ∷ opened → TakenFront 0 key_from opened key now → after_end_array now ≡ Some new → Taken 1 writer_at old (At key) new
named_taken old opened now new key is h closed =
    front_taken 0 writer_from old opened now new (At key) is (record { values = h.values; passes = h.passes; read = named h.values key h.read }) closed

-- ---- an event with the writers of the bytes that it read

counted_by : (k : EventKind) (values more : List Data) (ws : List EventId) → length values ≡ values_len k → by_from k more ≡ Some ws → length (values ++ more) ≡ values_by_len k
counted_by Read values [] ws many e = absurd cc
counted_by Read values (m ∷ []) ws many e = omega (arith, many, length-append values (m ∷ []))
counted_by Read values (m ∷ n ∷ more) ws many e = absurd cc
counted_by Write values [] ws many e = omega (arith, many, length-append values [])
counted_by Write values (m ∷ more) ws many e = absurd cc
counted_by Update values [] ws many e = absurd cc
counted_by Update values (m ∷ []) ws many e = omega (arith, many, length-append values (m ∷ []))
counted_by Update values (m ∷ n ∷ more) ws many e = absurd cc

is_count-by : (k : EventKind) → is_count_by (values_by_len k) ≡ true
is_count-by Read = refl
is_count-by Write = refl
is_count-by Update = refl

same_count_by : (k : EventKind) → eqb (values_by_len k) (values_by_len k) ≡ true
same_count_by Read = refl
same_count_by Write = refl
same_count_by Update = refl

parts_read : (t n : ℕ) (order address width : Data) (values more front back : List Data) (k : EventKind) (e : Event) (ws : List EventId) → front ≡ values → back ≡ more
    → event_from t n k order address width values ≡ Some e → by_from k more ≡ Some ws
    → ◌>>=◌ {B = Event × List EventId} (event_from t n k order address width front) (λ x. ◌>>=◌ {B = Event × List EventId} (by_from k back) (λ ys. Some (x, ys))) ≡ Some (e, ws)
parts_read t n order address width values more front back k e ws f b h i = rw (f, b, h, i) refl

fields_by_read : (t n : ℕ) (tag order address width : Data) (values more : List Data) (k : EventKind) (e : Event) (ws : List EventId) → kind_at tag ≡ Some k → length values ≡ values_len k
    → event_from t n k order address width values ≡ Some e → by_from k more ≡ Some ws → fields_by_at t n (tag ∷ order ∷ address ∷ width ∷ (values ++ more)) ≡ Some (e, ws)
unfolding fields_by_at
fields_by_read t n tag order address width values more k e ws is many h i =
    let front : take (values_len k) (values ++ more) ≡ values = rw (← many) (take-append_seam values more) in
    let back : drop (values_len k) (values ++ more) ≡ more = rw (← many) (drop-append_seam values more) in
    rw (counted_by k values more ws many i, is_count-by k, is, same_count_by k) (parts_read t n order address width values more _ _ k e ws front back h i)

pub event_by_taken : (t n : ℕ) (old opened now new : List Token) (e : Event) (ws : List EventId) → old ≡ Token.begin_array ∷ opened → TakenEvent t n opened e now → TakenOn 2 (by_from e.kind) now ws new
    → Taken 3 (event_by_at t n) old (e, ws) new
event_by_taken t n old opened now new e ws is h b =
    let le : 0 ≤ 2 = omega arith in
    list_taken 2 (fields_by_at t n) old opened (e, ws) new is (record {
      values = h.tag ∷ h.order ∷ h.address ∷ h.width ∷ (h.values ++ b.values);
      leads = h.passes.on 2 b.values new le b.leads;
      read = fields_by_read t n h.tag h.order h.address h.width h.values b.values e.kind e ws h.kind h.count h.event b.read;
    })

pub no_writers_taken : (kind : EventKind) (old new : List Token) → kind ≡ Write → after_end_array old ≡ Some new → TakenOn 2 (by_from kind) old [] new
no_writers_taken kind old new is closed = record { values = []; leads = passes_end 2 old [] old new (passes_nothing 2 old) closed; read = rw is refl }

by_read : (kind : EventKind) (by : Data) (ws : List EventId) → (kind ≡ Write → ⊥) → event_writers_at by ≡ Some ws → by_from kind (by ∷ []) ≡ Some ws
by_read Read by ws not e = e
by_read Write by ws not e = absurd (not refl)
by_read Update by ws not e = e

pub writers_taken : (kind : EventKind) (old : List Token) (ws : List EventId) (mid new : List Token) → (kind ≡ Write → ⊥) → Taken 2 event_writers_at old ws mid → after_end_array mid ≡ Some new → TakenOn 2 (by_from kind) old ws new
writers_taken kind old ws mid new not h closed = record {
  values = h.value ∷ [];
  leads = passes_end 2 old (h.value ∷ []) mid new (passes_one 2 old h.value mid h.leads) closed;
  read = by_read kind h.value ws not h.read;
}

pub key_taken : (old opened now new : List Token) (key : EventKey) → old ≡ Token.begin_array ∷ opened → TakenFront 0 key_from opened key now → after_end_array now ≡ Some new → Taken 1 key_at old key new
key_taken old opened now new key is h closed = front_taken 0 key_from old opened now new key is h closed
