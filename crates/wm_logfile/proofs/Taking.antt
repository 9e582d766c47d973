-- Laws of what is taken from the front of a text's tokens.
use Rattle.std.proofs.Common.{◌≡◌, ℕ, suc, ◌+◌, ◌-◌, ◌<◌, ◌≤◌, ◌^◌, get_or, lt-ltb, ne_eqb, false, List, [], ◌∷◌, ◌++◌, length, Option, Some, None, option_map, refl, sym, ap, ◌∙◌, subst, arith, append_assoc}
use Rattle.std.proofs.lemmas.List.{append-nil, length-append}
use Rattle.std.specs.Prelude.{SomeIff, IfSome}
use Rattle.fast_float.specs.Text.{Parts, scan, digits_of, IsInteger}
use Rattle.json.specs.Token.{Token}
use Rattle.json.specs.Json as json
use Rattle.json.specs.Json.{Parse, parse_map, after_end_array, items, value}
use Rattle.json.proofs.Grammar.{left, value_is, value-begin_array, items_end, items_more, skip_value-shorter}
use Rattle.serde_json.specs.Data.{Data, array, string, unsigned, item}
use Rattle.serde_json.specs.Find.{as_str}
use Rattle.serde_json.specs.Read.{of_json, of_items, converted, number_of, number_from}
use Rattle.wm_logfile.specs.Document.{list, count}
use Rattle.wm_logfile.specs.Reading.{◌>>=◌, list_at, number_at, traverse}
use Rattle.wm_logfile.specs.Taking.{Leads, LeadsOn, Passes, Taken, TakenOn, TakenFront}
use Rattle.wm_logfile.proofs.Lists.{list_again}
use Rattle.wm_logfile.proofs.Format.{bind_some}
use Rattle.wm_logfile.proofs.Leaves.{numbers}

-- ---- the conversion to data

abbrev pick : {A : Type 0} → A → Option A → A
pick d None = d
pick d (Some a) = a

found : {A B : Type 0} (a : A) (r s : List Token) (x : Option B) (b : B) → option_map {U = B × List Token} (λ y. (y, r)) x ≡ Some (b, s) → (r ≡ s) × (x ≡ Some b)
found a r s None b e = absurd (cc)
found a r s (Some y) b e = let same = ap (pick (y, r)) e in (ap (λ p. p.1) same, ap (λ p. Some p.0) same)

pub converted_some : {A B : Type 0} (f : A → Option B) (o : Option (A × List Token)) (b : B) (r : List Token) → converted f o ≡ Some (b, r) → (a : A) × (o ≡ Some (a, r)) × (f a ≡ Some b)
converted_some f None b r e = absurd (cc)
converted_some f (Some p) b r e = let both = found p.0 p.1 r (f p.0) b e in (p.0, ap (λ s. Some (p.0, s)) both.0, both.1)

twice : {A B : Type 0} (g : A → B) (r : List Token) (x : Option A) → option_map (λ b. (b, r)) (option_map g x) ≡ parse_map g (option_map (λ a. (a, r)) x)
twice g r None = refl
twice g r (Some a) = refl

converted-array : (o : Option (json.Items × List Token)) → converted of_json (parse_map json.array o) ≡ parse_map array (converted of_items o)
converted-array None = refl
converted-array (Some p) = twice array p.1 (of_items p.0)

with_item : (j : json.Json) (d : Data) → of_json j ≡ Some d → (o : Option (json.Items × List Token)) → converted of_items (parse_map (json.item j) o) ≡ parse_map (item d) (converted of_items o)
with_item j d e None = refl
with_item j d e (Some p) = rw e (twice (item d) p.1 (of_items p.0))

-- ---- values and lists

not_end_with : (a : Parse json.Items) (o : Parse json.Members) (ts : List Token) (j : json.Json) (r : List Token) → json.value_with a o ts ≡ Some (j, r) → after_end_array ts ≡ None
not_end_with a o [] j r e = refl
not_end_with a o (Token.begin_object ∷ ts) j r e = refl
not_end_with a o (Token.end_object ∷ ts) j r e = refl
not_end_with a o (Token.begin_array ∷ ts) j r e = refl
not_end_with a o (Token.end_array ∷ ts) j r e = absurd (cc)
not_end_with a o (Token.key s ∷ ts) j r e = refl
not_end_with a o (Token.string s ∷ ts) j r e = refl
not_end_with a o (Token.number s ∷ ts) j r e = refl
not_end_with a o (Token.boolean b ∷ ts) j r e = refl
not_end_with a o (Token.null ∷ ts) j r e = refl
not_end_with a o (Token.bad ∷ ts) j r e = refl

not_end : (depth : ℕ) (ts : List Token) (j : json.Json) (r : List Token) → value depth ts ≡ Some (j, r) → after_end_array ts ≡ None
not_end depth ts j r e = not_end_with _ _ ts j r (sym (value_is depth ts) ∙ e)

pub weaker : (j k : ℕ) (ts : List Token) (d : Data) (rest : List Token) → j ≤ k → Leads j ts d rest → Leads k ts d rest
weaker j k ts d rest le h = record { at = λ depth deep. h.at depth (omega (arith, le, deep)) }

cons : (k : ℕ) (ts : List Token) (d : Data) (mid : List Token) (es : List Data) (rest : List Token) → Leads k ts d mid → LeadsOn k mid es rest → LeadsOn k ts (d ∷ es) rest
cons k ts d mid es rest h more = record {
  at = λ depth n deep enough.
      let j = converted_some of_json (value depth ts) d mid (h.at depth deep) in
      let short : length mid < length ts = skip_value-shorter depth ts mid (ap left j.1) in
      ap (converted of_items) (items_more (value depth) n ts mid j.0 (omega (arith, short, enough)) (not_end depth ts j.0 mid j.1) j.1)
      ∙ with_item j.0 d j.2 (items (value depth) (n - 1) mid)
      ∙ ap (parse_map (item d)) (more.at depth (n - 1) deep (omega (arith, short, enough)));
}

nil : (k : ℕ) (ts rest : List Token) → after_end_array ts ≡ Some rest → LeadsOn k ts [] rest
nil k ts rest e = record { at = λ depth n deep enough. ap (converted of_items) (items_end (value depth) n ts rest enough e) }

listed : (k : ℕ) (ts : List Token) (ds : List Data) (rest : List Token) → LeadsOn k ts ds rest → Leads (suc k) (Token.begin_array ∷ ts) (list ds) rest
listed k ts ds rest h = record {
  at = λ depth deep.
      let less : length ts ≤ length ts = omega arith in
      ap (converted of_json) (value-begin_array depth ts (omega (arith, deep)))
      ∙ converted-array (items (value (depth - 1)) (length ts) ts)
      ∙ ap (parse_map array) (h.at (depth - 1) (length ts) (omega (arith, deep)) less);
}

-- ---- texts and numbers

pub text_taken : (s : List ℕ) (ts : List Token) → Taken 0 as_str (Token.string s ∷ ts) s ts
text_taken s ts = record {
  value = string s;
  leads = record { at = λ depth deep. ap (converted of_json) (value_is depth (Token.string s ∷ ts)) };
  read = refl;
}

pub number_taken : (limit n : ℕ) (s : List ℕ) (ts : List Token) → number_of s ≡ Some (unsigned n) → n ≤ limit → Taken 0 (number_at limit) (Token.number s ∷ ts) n ts
number_taken limit n s ts e le = record {
  value = count n;
  leads = record { at = λ depth deep. ap (converted of_json) (value_is depth (Token.number s ∷ ts)) ∙ rw e refl };
  read = (numbers limit).again n le;
}

pub natural : (s : List ℕ) (p : Parts) (r : Option ℕ) → p ≡ scan s → (get_or s 0 0 ≡ 45 → ⊥) → SomeIff r (IsInteger p × (digits_of p < 2 ^ 64)) (digits_of p) → IfSome r (λ n. number_of s ≡ Some (unsigned n))
unfolding number_of
natural s p None is ne h = tt
natural s p (Some n) is ne h =
    let i = h.0.0 in
    let read : number_from false p ≡ Some (unsigned (digits_of p)) = rw (lt-ltb _ _ i.0, i.1, i.2, lt-ltb _ _ h.0.1) refl in
    rw (ne_eqb (get_or s 0 0) 45 ne) (ap (number_from false) (sym is) ∙ read ∙ ap (λ m. Some (unsigned m)) (sym h.1))

-- what a text is read as
pub word_taken : {X : Type 0} (reads : List ℕ → Option X) (old : List Token) (s : List ℕ) (x : X) (new : List Token) → Taken 0 as_str old s new → reads s ≡ Some x → Taken 0 (λ d. as_str d >>= reads) old x new
word_taken reads old s x new h e = record { value = h.value; leads = h.leads; read = rw h.read e }

-- ---- passing values of a list

pub passes_nothing : (k : ℕ) (ts : List Token) → Passes k ts [] ts
passes_nothing k ts = record { on = λ depth es end deep h. h }

pub passes_one : (k : ℕ) (ts : List Token) (d : Data) (mid : List Token) → Leads k ts d mid → Passes k ts (d ∷ []) mid
passes_one k ts d mid h = record { on = λ depth es end deep more. cons depth ts d mid es end (weaker k depth ts d mid deep h) more }

pub passes_more : (j k m : ℕ) (ts : List Token) (ds : List Data) (mid : List Token) (es : List Data) (rest : List Token) → j ≤ m → k ≤ m → Passes j ts ds mid → Passes k mid es rest → Passes m ts (ds ++ es) rest
passes_more j k m ts ds mid es rest jm km h more = record {
  on = λ depth fs end deep last.
      subst (λ gs. LeadsOn depth ts gs end) (sym (append_assoc ds es fs))
      (h.on depth (es ++ fs) end (omega (arith, jm, deep)) (more.on depth fs end (omega (arith, km, deep)) last));
}

-- the bracket closes the list
pub passes_end : (k : ℕ) (ts : List Token) (ds : List Data) (mid rest : List Token) → Passes k ts ds mid → after_end_array mid ≡ Some rest → LeadsOn k ts ds rest
passes_end k ts ds mid rest h e =
    let le : k ≤ k = omega arith in
    subst (λ gs. LeadsOn k ts gs rest) (append-nil ds) (h.on k [] rest le (nil k mid rest e))

-- a list was taken whose items read as x
pub list_taken : {X : Type 0} (k : ℕ) (reads : List Data → Option X) (old mid : List Token) (x : X) (new : List Token) → old ≡ Token.begin_array ∷ mid → TakenOn k reads mid x new → Taken (suc k) (λ d. list_at d >>= reads) old x new
list_taken k reads old mid x new e h = record {
  value = list h.values;
  leads = rw e (listed k mid h.values new h.leads);
  read = ap (λ (o : Option (List Data)). o >>= reads) (list_again h.values) ∙ h.read;
}

-- the brackets around values make a list of them
pub list_leads : (k : ℕ) (old opened : List Token) (ds : List Data) (now new : List Token) → old ≡ Token.begin_array ∷ opened → Passes k opened ds now → after_end_array now ≡ Some new → Leads (suc k) old (list ds) new
list_leads k old opened ds now new e h closed = rw e (listed k opened ds new (passes_end k opened ds now new h closed))

pub front_taken : {X : Type 0} (k : ℕ) (reads : List Data → Option X) (old opened now new : List Token) (x : X) → old ≡ Token.begin_array ∷ opened → TakenFront k reads opened x now → after_end_array now ≡ Some new → Taken (suc k) (λ d. list_at d >>= reads) old x new
front_taken k reads old opened now new x e h closed = list_taken k reads old opened x new e (record {
  values = h.values;
  leads = passes_end k opened h.values now new h.passes closed;
  read = h.read;
})

-- ---- the items of a list one after the other

put : {A : Type 0} (r : Option A) (s : Option (List A)) (a : A) (rest : List A) → r ≡ Some a → s ≡ Some rest → (r >>= λ b. s >>= λ others. Some (b ∷ others)) ≡ Some (a ∷ rest)
put r s a rest e f = rw (e, f) refl

traverse_more : {A : Type 0} (f : ℕ → Data → Option A) (n m : ℕ) (ds : List Data) (xs : List A) (d : Data) (x : A) → m ≡ n + length ds → traverse f n ds ≡ Some xs → f m d ≡ Some x → traverse f n (ds ++ d ∷ []) ≡ Some (xs ++ x ∷ [])
traverse_more {A} f n m [] xs d x is h e =
    let at : m ≡ n = omega (arith, is) in
    let one : f n d ≡ Some x = subst (λ i. f i d ≡ Some x) at e in
    let none : [] ≡ xs = cc in
    subst (λ (ys : List A). traverse f n (d ∷ []) ≡ Some (ys ++ x ∷ [])) none (put (f n d) (Some []) x [] one refl)
traverse_more {A} f n m (c ∷ ds) xs d x is h e =
    let one = bind_some (f n c) (λ a. traverse f (suc n) ds >>= λ rest. Some (a ∷ rest)) xs h in
    let two = bind_some (traverse f (suc n) ds) (λ rest. Some (one.0 ∷ rest)) xs one.2 in
    let at : m ≡ suc n + length ds = omega (arith, is) in
    let more = traverse_more f (suc n) m ds two.0 d x at two.1 e in
    let same : one.0 ∷ two.0 ≡ xs = cc in
    subst (λ (ys : List A). traverse f n (c ∷ (ds ++ d ∷ [])) ≡ Some (ys ++ x ∷ [])) same (put (f n c) (traverse f (suc n) (ds ++ d ∷ [])) one.0 (two.0 ++ x ∷ []) one.1 more)

-- this number of items of a list were taken
pub record TakenItems {A : Type 0} (k : ℕ) (f : ℕ → Data → Option A) (old : List Token) (xs : List A) (i : ℕ) (new : List Token) : Type 0 where
  pub front : TakenFront k (traverse f 0) old xs new
  pub many : i ≡ 0 + length front.values

pub no_items_taken : {A : Type 0} (k : ℕ) (f : ℕ → Data → Option A) (ts : List Token) (xs : List A) → xs ≡ [] → TakenItems k f ts xs 0 ts
no_items_taken k f ts xs e = record { front = record { values = []; passes = passes_nothing k ts; read = rw e refl }; many = refl }

pub one_more_taken : {A : Type 0} (k : ℕ) (f : ℕ → Data → Option A) (old : List Token) (xs : List A) (i : ℕ) (now : List Token) (x : A) (new : List Token) → TakenItems k f old xs i now → Taken k (f i) now x new → TakenItems k f old (xs ++ x ∷ []) (i + 1) new
one_more_taken k f old xs i now x new h t =
    let le : k ≤ k = omega arith in
    let ds = h.front.values in
    record {
      front = record {
        values = ds ++ t.value ∷ [];
        passes = passes_more k k k old ds now (t.value ∷ []) new le le h.front.passes (passes_one k now t.value new t.leads);
        read = traverse_more f 0 i ds xs t.value x h.many h.front.read t.read;
      };
      many = omega (arith, h.many, length-append ds (t.value ∷ []));
    }

pub items_taken : {A : Type 0} (k : ℕ) (f : ℕ → Data → Option A) (old : List Token) (xs : List A) (i : ℕ) (now new : List Token) → TakenItems k f old xs i now → after_end_array now ≡ Some new → TakenOn k (traverse f 0) old xs new
items_taken k f old xs i now new h e = record { values = h.front.values; leads = passes_end k old h.front.values now new h.front.passes e; read = h.front.read }
