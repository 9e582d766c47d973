-- Laws of taking threads.
use Rattle.std.proofs.Common.{◌≡◌, ℕ, suc, ◌≤◌, List, [], ◌∷◌, length, Option, Some, None, refl, ap, ◌∙◌, arith}
use Rattle.std.specs.Prelude.{codes}
use Rattle.std.proofs.lemmas.Bool.{le-leb}
use Rattle.json.specs.Token.{Token}
use Rattle.json.specs.Json.{after_end_array}
use Rattle.serde_json.specs.Data.{Data}
use Rattle.serde_json.specs.Find.{as_str}
use Rattle.wm_event.specs.declared.event.Event.{Event}
use Rattle.wm_event.specs.declared.event.EventId.{EventId}
use Rattle.wm_event.specs.declared.log.End.{End}
use Rattle.wm_event.specs.declared.log.End.TheVariants.{Done, Trap, Cut}
use Rattle.wm_event.specs.declared.log.TrapKind.{TrapKind}
use Rattle.wm_logfile.specs.declared.thread.ThreadHead.{ThreadHead}
use Rattle.wm_logfile.specs.Document.{list}
use Rattle.wm_logfile.specs.Reading.{◌>>=◌, list_at, number_at, u64_max, traverse, items_at, trap_at, result_from, end_from, end_at, start_at, head_from, head_at, with_events, thread_at, thread_by_at, number_event_at, number_event_by_at, firsts, seconds, few_from, few_at}
use Rattle.wm_logfile.specs.Taking.{Leads, Passes, Taken, TakenOn, TakenHead, result_at}
use Rattle.wm_logfile.proofs.Format.{bind_some}
use Rattle.wm_logfile.proofs.Lists.{list_again}
use Rattle.wm_logfile.proofs.Taking.{weaker, passes_nothing, passes_one, passes_more, passes_end, list_leads, list_taken, front_taken}

-- ---- ends

pub no_result_taken : (old new : List Token) → after_end_array old ≡ Some new → TakenOn 0 result_from old None new
no_result_taken old new closed = record { values = []; leads = passes_end 0 old [] old new (passes_nothing 0 old) closed; read = refl }

pub result_taken : (old : List Token) (v : ℕ) (mid new : List Token) → Taken 0 (number_at u64_max) old v mid → after_end_array mid ≡ Some new → TakenOn 0 result_from old (Some v) new
result_taken old v mid new h closed = record { values = h.value ∷ []; leads = passes_end 0 old (h.value ∷ []) mid new (passes_one 0 old h.value mid h.leads) closed; read = rw h.read refl }

pub results_taken : (old opened : List Token) (v : Option ℕ) (new : List Token) → old ≡ Token.begin_array ∷ opened → TakenOn 0 result_from opened v new → Taken 1 result_at old v new
results_taken old opened v new is h = list_taken 0 result_from old opened v new is h

pub cut_taken : (old opened : List Token) (s : List ℕ) (mid new : List Token) → old ≡ Token.begin_array ∷ opened → Taken 0 as_str opened s mid → s ≡ codes "cut" → after_end_array mid ≡ Some new → Taken 2 end_at old Cut new
unfolding end_from
cut_taken old opened s mid new is h word closed =
    let le : 0 ≤ 1 = omega arith in
    front_taken 1 end_from old opened mid new Cut is (record {
      values = h.value ∷ [];
      passes = passes_one 1 opened h.value mid (weaker 0 1 opened h.value mid le h.leads);
      read = rw (h.read, word) refl;
    }) closed

two : (old : List Token) (a : Data) (mid : List Token) (b : Data) (new : List Token) → Leads 0 old a mid → Leads 1 mid b new → Passes 1 old (a ∷ b ∷ []) new
two old a mid b new h i =
    let le : 0 ≤ 1 = omega arith in
    let same : 1 ≤ 1 = omega arith in
    passes_more 0 1 1 old (a ∷ []) mid (b ∷ []) new le same (passes_one 0 old a mid h) (passes_one 1 mid b new i)

done_read : (a b : Data) (v : Option ℕ) → as_str a ≡ Some (codes "done") → result_at b ≡ Some v → end_from (a ∷ b ∷ []) ≡ Some (Done v)
unfolding end_from
done_read a b v e f = rw (e, f) refl

pub done_taken : (old opened : List Token) (s : List ℕ) (mid : List Token) (v : Option ℕ) (now new : List Token) → old ≡ Token.begin_array ∷ opened → Taken 0 as_str opened s mid → s ≡ codes "done"
    → Taken 1 result_at mid v now → after_end_array now ≡ Some new → Taken 2 end_at old (Done v) new
done_taken old opened s mid v now new is h word i closed =
    front_taken 1 end_from old opened now new (Done v) is (record {
      values = h.value ∷ i.value ∷ [];
      passes = two opened h.value mid i.value now h.leads i.leads;
      read = done_read h.value i.value v (h.read ∙ ap (λ (x : List ℕ). Some x) word) i.read;
    }) closed

trap_read : (a b : Data) (k : TrapKind) → as_str a ≡ Some (codes "trap") → trap_at b ≡ Some k → end_from (a ∷ b ∷ []) ≡ Some (Trap k)
unfolding end_from
trap_read a b k e f = rw (e, f) refl

pub trapped_taken : (old opened : List Token) (s : List ℕ) (mid : List Token) (k : TrapKind) (now new : List Token) → old ≡ Token.begin_array ∷ opened → Taken 0 as_str opened s mid → s ≡ codes "trap"
    → Taken 0 trap_at mid k now → after_end_array now ≡ Some new → Taken 2 end_at old (Trap k) new
trapped_taken old opened s mid k now new is h word i closed =
    let le : 0 ≤ 1 = omega arith in
    front_taken 1 end_from old opened now new (Trap k) is (record {
      values = h.value ∷ i.value ∷ [];
      passes = two opened h.value mid i.value now h.leads (weaker 0 1 mid i.value now le i.leads);
      read = trap_read h.value i.value k (h.read ∙ ap (λ (x : List ℕ). Some x) word) i.read;
    }) closed

-- ---- a thread's log

start_read : (name args : Data) (s : List ℕ) (xs : List ℕ) → as_str name ≡ Some s → items_at (λ _ d. number_at u64_max d) args ≡ Some xs → start_at name args ≡ Some (record { name = s; args = xs })
start_read name args s xs e f = rw (e, f) refl

pub head_taken : (old : List Token) (s : List ℕ) (s1 : List Token) (xs : List ℕ) (s2 : List Token) (e : End) (s3 : List Token) (n : ℕ) (new : List Token)
    → Taken 0 as_str old s s1 → Taken 1 (items_at (λ _ d. number_at u64_max d)) s1 xs s2 → Taken 2 end_at s2 e s3 → Taken 0 (number_at 1000000) s3 n new
    → TakenHead old (record { start = record { name = s; args = xs }; end = e; steps = n }) new
head_taken old s s1 xs s2 e s3 n new f g h i =
    let le0 : 0 ≤ 2 = omega arith in
    let le1 : 1 ≤ 2 = omega arith in
    let le2 : 2 ≤ 2 = omega arith in
    record {
      name = f.value;
      args = g.value;
      end = h.value;
      steps = i.value;
      passes =
          passes_more 0 2 2 old (f.value ∷ []) s1 (g.value ∷ h.value ∷ i.value ∷ []) new le0 le2 (passes_one 0 old f.value s1 f.leads)
          (passes_more 1 2 2 s1 (g.value ∷ []) s2 (h.value ∷ i.value ∷ []) new le1 le2 (passes_one 1 s1 g.value s2 g.leads)
          (passes_more 2 0 2 s2 (h.value ∷ []) s3 (i.value ∷ []) new le2 le0 (passes_one 2 s2 h.value s3 h.leads) (passes_one 0 s3 i.value new i.leads)));
      started = start_read f.value g.value s xs f.read g.read;
      ended = h.read;
      counted = i.read;
    }

head_read : (name args end steps events : Data) (h : ThreadHead) → start_at name args ≡ Some h.start → end_at end ≡ Some h.end → number_at 1000000 steps ≡ Some h.steps
    → head_from (name ∷ args ∷ end ∷ steps ∷ events ∷ []) ≡ Some (h, events)
unfolding head_from
head_read name args end steps events h e f g = rw (e, f, g) refl

head_again : (ds : List Data) (h : ThreadHead) (events : Data) → head_from ds ≡ Some (h, events) → head_at (list ds) ≡ Some (h, events)
head_again ds h events e = ap (λ (o : Option (List Data)). o >>= head_from) (list_again ds) ∙ e

whole : (k : ℕ) (old : List Token) (h : ThreadHead) (mid : List Token) (d : Data) (now new opened : List Token) → 2 ≤ k → old ≡ Token.begin_array ∷ opened → (t : TakenHead opened h mid) → Leads k mid d now → after_end_array now ≡ Some new
    → Leads (suc k) old (list (t.name ∷ t.args ∷ t.end ∷ t.steps ∷ d ∷ [])) new
whole k old h mid d now new opened le is t l closed =
    let same : k ≤ k = omega arith in
    list_leads k old opened (t.name ∷ t.args ∷ t.end ∷ t.steps ∷ d ∷ []) now new is
    (passes_more 2 k k opened (t.name ∷ t.args ∷ t.end ∷ t.steps ∷ []) mid (d ∷ []) now le same t.passes (passes_one k mid d now l)) closed

pub thread_taken : (t : ℕ) (old opened mid now new : List Token) (h : ThreadHead) (es : List Event) → old ≡ Token.begin_array ∷ opened → TakenHead opened h mid → Taken 2 (items_at (number_event_at t)) mid es now → after_end_array now ≡ Some new
    → Taken 3 (thread_at t) old (with_events h es) new
thread_taken t old opened mid now new h es is head events closed =
    let le : 2 ≤ 2 = omega arith in
    let first = head_again _ h events.value (head_read head.name head.args head.end head.steps events.value h head.started head.ended head.counted) in
    record {
      value = list (head.name ∷ head.args ∷ head.end ∷ head.steps ∷ events.value ∷ []);
      leads = whole 2 old h mid events.value now new opened le is head events.leads closed;
      read = ap (λ (o : Option (ThreadHead × Data)). o >>= λ p. items_at (number_event_at t) p.1 >>= λ xs. Some (with_events p.0 xs)) first
          ∙ ap (λ (o : Option (List Event)). o >>= λ xs. Some (with_events h xs)) events.read;
    }

pub thread_by_taken : (t : ℕ) (old opened mid now new : List Token) (h : ThreadHead) (ps : List (Event × List EventId)) (es : List Event) (ws : List (List EventId)) → old ≡ Token.begin_array ∷ opened → TakenHead opened h mid
    → Taken 4 (items_at (number_event_by_at t)) mid ps now → after_end_array now ≡ Some new → es ≡ firsts ps → ws ≡ seconds ps
    → Taken 5 (thread_by_at t) old (with_events h es, ws) new
thread_by_taken t old opened mid now new h ps es ws is head events closed first_are second_are =
    let le : 2 ≤ 4 = omega arith in
    let first = head_again _ h events.value (head_read head.name head.args head.end head.steps events.value h head.started head.ended head.counted) in
    record {
      value = list (head.name ∷ head.args ∷ head.end ∷ head.steps ∷ events.value ∷ []);
      leads = whole 4 old h mid events.value now new opened le is head events.leads closed;
      read = rw (first_are, second_are)
          (ap (λ (o : Option (ThreadHead × Data)). o >>= λ p. items_at (number_event_by_at t) p.1 >>= λ xs. Some (with_events p.0 (firsts xs), seconds xs)) first
          ∙ ap (λ (o : Option (List (Event × List EventId))). o >>= λ xs. Some (with_events h (firsts xs), seconds xs)) events.read);
    }

-- ---- at most sixteen threads

traverse-length : {A : Type 0} (f : ℕ → Data → Option A) (n : ℕ) (ds : List Data) (xs : List A) → traverse f n ds ≡ Some xs → length ds ≡ length xs
traverse-length {A} f n [] xs e = let none : [] ≡ xs = cc in ap (λ (ys : List A). length ys) none
traverse-length {A} f n (d ∷ ds) xs e =
    let one = bind_some (f n d) (λ a. traverse f (suc n) ds >>= λ rest. Some (a ∷ rest)) xs e in
    let two = bind_some (traverse f (suc n) ds) (λ rest. Some (one.0 ∷ rest)) xs one.2 in
    let same : one.0 ∷ two.0 ≡ xs = cc in
    ap suc (traverse-length f (suc n) ds two.0 two.1) ∙ ap (λ (ys : List A). length ys) same

few_read : {A : Type 0} (f : ℕ → Data → Option A) (ds : List Data) (xs : List A) → traverse f 0 ds ≡ Some xs → length xs ≤ 16 → few_from f ds ≡ Some xs
few_read f ds xs e few =
    let short : length ds ≤ 16 = omega (arith, traverse-length f 0 ds xs e, few) in
    rw (le-leb (length ds) 16 short) e

pub few_taken : {A : Type 0} (k : ℕ) (f : ℕ → Data → Option A) (old : List Token) (xs : List A) (new : List Token) → Taken k (items_at f) old xs new → length xs ≤ 16 → Taken k (few_at f) old xs new
few_taken k f old xs new h few =
    let ds = bind_some (list_at h.value) (traverse f 0) xs h.read in
    record { value = h.value; leads = h.leads; read = ap (λ (o : Option (List Data)). o >>= few_from f) ds.1 ∙ few_read f ds.0 xs ds.2 few }
