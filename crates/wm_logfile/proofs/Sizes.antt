-- The value of a text has no more parts than the text has bytes.
use Rattle.std.proofs.Common.{◌≡◌, ℕ, zero, suc, ◌+◌, ◌<◌, ◌≤◌, Bool, true, false, List, [], ◌∷◌, length, Option, Some, None, option_map, option_and_then, Ordering, Less, Equal, Greater, refl, subst, arith}
use Rattle.std.specs.Prelude.{⊤}
use Rattle.std.specs.Ordering.{match_ordering}
use Rattle.json.specs.Token.{Token}
use Rattle.json.specs.Lex.{Lexeme, token, comma, colon, Class, quote, backslash, operator, space, other, class, Mode, between, in_word, in_string, in_escape, lex_byte, lex, begins_colon, may_begin, may_close, Place, fresh, after_value, after_comma, after_key, if_allowed, place_token, punctuate, tokens}
use Rattle.json.specs.Json as json
use Rattle.json.specs.Json.{Parse, parse_map, after_end_array, read_key, items_step, members_step, items, members, value_with, value, if_last}
use Rattle.serde_json.specs.Data.{Data, null, boolean, number, string, array, object, Items, no_items, item, Members, no_members, member, put}
use Rattle.serde_json.specs.Read.{number_of, of_json, of_items, of_members, max_depth, read}
use Rattle.wm_logfile.specs.Limits.{max_document_bytes}

-- ---- the parts of a value

abbrev mutual
  -- the values in a value, itself included
  pub size : Data → ℕ
  size null = 1
  size (boolean b) = 1
  size (number n) = 1
  size (string s) = 1
  size (array ds) = suc (items_size ds)
  size (object ms) = suc (members_size ms)

  pub items_size : Items → ℕ
  items_size no_items = 0
  items_size (item d ds) = size d + items_size ds

  pub members_size : Members → ℕ
  members_size no_members = 0
  members_size (member k d ms) = size d + members_size ms

abbrev mutual
  text_size : json.Json → ℕ
  text_size json.null = 1
  text_size (json.boolean b) = 1
  text_size (json.number s) = 1
  text_size (json.string s) = 1
  text_size (json.array js) = suc (text_items js)
  text_size (json.object ms) = suc (text_members ms)

  text_items : json.Items → ℕ
  text_items json.no_items = 0
  text_items (json.item j js) = text_size j + text_items js

  text_members : json.Members → ℕ
  text_members json.no_members = 0
  text_members (json.member k j ms) = text_size j + text_members ms

-- ---- from bytes to tokens

lex_byte-length : (m : Mode) (c : Class) (x : ℕ) (xs : List ℕ) (k : Mode → List Lexeme) (n : ℕ) → ((next : Mode) → length (k next) ≤ n) → length (lex_byte m c x xs k) ≤ suc n
lex_byte-length between quote x xs k n h = omega (arith, h in_string)
lex_byte-length between backslash x xs k n h = omega (arith, h in_word)
lex_byte-length between operator x xs k n h = omega (arith, h between)
lex_byte-length between space x xs k n h = omega (arith, h between)
lex_byte-length between other x xs k n h = omega (arith, h in_word)
lex_byte-length in_word quote x xs k n h = omega (arith, h in_word)
lex_byte-length in_word backslash x xs k n h = omega (arith, h in_word)
lex_byte-length in_word operator x xs k n h = omega (arith, h between)
lex_byte-length in_word space x xs k n h = omega (arith, h between)
lex_byte-length in_word other x xs k n h = omega (arith, h in_word)
lex_byte-length in_string quote x xs k n h = omega (arith, h between)
lex_byte-length in_string backslash x xs k n h = omega (arith, h in_escape)
lex_byte-length in_string operator x xs k n h = omega (arith, h in_string)
lex_byte-length in_string space x xs k n h = omega (arith, h in_string)
lex_byte-length in_string other x xs k n h = omega (arith, h in_string)
lex_byte-length in_escape c x xs k n h = omega (arith, h in_string)

lex-length : (m : Mode) (xs : List ℕ) → length (lex m xs) ≤ length xs
unfolding lex
lex-length m [] = omega arith
lex-length m (x ∷ xs) = lex_byte-length m (class x) x xs (λ next. lex next xs) (length xs) (λ next. lex-length next xs)

if_allowed-length : (b : Bool) (t : Token) (k : Place → List Token) (next : Place) (n : ℕ) → length (k next) ≤ suc n → length (if_allowed b t k next) ≤ suc (suc n)
if_allowed-length true t k next n h = omega arith
if_allowed-length false t k next n h = omega arith

place_token-length : (p : Place) (t : Token) (before : Bool) (k : Place → List Token) (n : ℕ) → ((next : Place) → length (k next) ≤ suc n) → length (place_token p t before k) ≤ suc (suc n)
place_token-length p Token.begin_object before k n h = if_allowed-length (may_begin p) Token.begin_object k fresh n (h fresh)
place_token-length p Token.end_object before k n h = if_allowed-length (may_close p) Token.end_object k after_value n (h after_value)
place_token-length p Token.begin_array before k n h = if_allowed-length (may_begin p) Token.begin_array k fresh n (h fresh)
place_token-length p Token.end_array before k n h = if_allowed-length (may_close p) Token.end_array k after_value n (h after_value)
place_token-length p (Token.key s) before k n h = omega arith
place_token-length p (Token.string s) true k n h = if_allowed-length (may_begin p) (Token.key s) k after_key n (h after_key)
place_token-length p (Token.string s) false k n h = if_allowed-length (may_begin p) (Token.string s) k after_value n (h after_value)
place_token-length p (Token.number s) before k n h = if_allowed-length (may_begin p) (Token.number s) k after_value n (h after_value)
place_token-length p (Token.boolean b) before k n h = if_allowed-length (may_begin p) (Token.boolean b) k after_value n (h after_value)
place_token-length p Token.null before k n h = if_allowed-length (may_begin p) Token.null k after_value n (h after_value)
place_token-length p Token.bad before k n h = omega arith

-- one more token may tell of a fault at the end
punctuate-length : (p : Place) (ls : List Lexeme) → length (punctuate p ls) ≤ suc (length ls)
unfolding punctuate
punctuate-length fresh [] = omega arith
punctuate-length after_value [] = omega arith
punctuate-length after_comma [] = omega arith
punctuate-length after_key [] = omega arith
punctuate-length fresh (token t ∷ ls) = place_token-length fresh t (begins_colon ls) (λ next. punctuate next ls) (length ls) (λ next. punctuate-length next ls)
punctuate-length after_value (token t ∷ ls) = place_token-length after_value t (begins_colon ls) (λ next. punctuate next ls) (length ls) (λ next. punctuate-length next ls)
punctuate-length after_comma (token t ∷ ls) = place_token-length after_comma t (begins_colon ls) (λ next. punctuate next ls) (length ls) (λ next. punctuate-length next ls)
punctuate-length after_key (token t ∷ ls) = place_token-length after_key t (begins_colon ls) (λ next. punctuate next ls) (length ls) (λ next. punctuate-length next ls)
punctuate-length fresh (comma ∷ ls) = omega arith
punctuate-length after_value (comma ∷ ls) = omega (arith, punctuate-length after_comma ls)
punctuate-length after_comma (comma ∷ ls) = omega arith
punctuate-length after_key (comma ∷ ls) = omega arith
punctuate-length fresh (colon ∷ ls) = omega arith
punctuate-length after_value (colon ∷ ls) = omega arith
punctuate-length after_comma (colon ∷ ls) = omega arith
punctuate-length after_key (colon ∷ ls) = omega (arith, punctuate-length fresh ls)

tokens-length : (text : List ℕ) → length (tokens text) ≤ suc (length text)
tokens-length text = omega (arith, punctuate-length fresh (lex between text), lex-length between text)

-- ---- from tokens to the tree of the text

-- what was read and the tokens that are left are together no more than these
abbrev Within : {A : Type 0} → (A → ℕ) → ℕ → Option (A × List Token) → Type 0
Within f n None = ⊤
Within f n (Some p) = f p.0 + length p.1 ≤ n

abbrev Shrinks : {A : Type 0} → (A → ℕ) → Parse A → Type 0
Shrinks f p = (ts : List Token) → Within f (length ts) (p ts)

mapped : {A B : Type 0} (f : A → ℕ) (g : B → ℕ) (m n : ℕ) (h : A → B) → ((a : A) (k : ℕ) → f a + k ≤ m → g (h a) + k ≤ n) → (o : Option (A × List Token)) → Within f m o → Within g n (parse_map h o)
mapped f g m n h step None within = tt
mapped f g m n h step (Some p) within = step p.0 (length p.1) within

and_more : {B : Type 0} (g : B → ℕ) (n : ℕ) (h : json.Json → B → B) → ((j : json.Json) (b : B) → g (h j b) ≡ text_size j + g b) → (more : Parse B) → Shrinks g more
    → (o : Option (json.Json × List Token)) → Within text_size n o → Within g n (option_and_then (λ q. parse_map (h q.0) (more q.1)) o)
and_more g n h is more shrinks None within = tt
and_more g n h is more shrinks (Some q) within = mapped g g (length q.1) n (h q.0) (λ b k le. omega (arith, is q.0 b, le, within)) (more q.1) (shrinks q.1)

end_array-shorter : (ts rest : List Token) → after_end_array ts ≡ Some rest → length rest ≤ length ts
end_array-shorter [] rest e = absurd cc
end_array-shorter (Token.begin_object ∷ ts) rest e = absurd cc
end_array-shorter (Token.end_object ∷ ts) rest e = absurd cc
end_array-shorter (Token.begin_array ∷ ts) rest e = absurd cc
end_array-shorter (Token.end_array ∷ ts) rest e = (let same : ts ≡ rest = cc in subst (λ (r : List Token). length r ≤ suc (length ts)) same (omega arith))
end_array-shorter (Token.key s ∷ ts) rest e = absurd cc
end_array-shorter (Token.string s ∷ ts) rest e = absurd cc
end_array-shorter (Token.number s ∷ ts) rest e = absurd cc
end_array-shorter (Token.boolean b ∷ ts) rest e = absurd cc
end_array-shorter (Token.null ∷ ts) rest e = absurd cc
end_array-shorter (Token.bad ∷ ts) rest e = absurd cc

read_key-shorter : (ts : List Token) → Within (λ _. 0) (length ts) (read_key ts)
read_key-shorter [] = tt
read_key-shorter (Token.begin_object ∷ ts) = tt
read_key-shorter (Token.end_object ∷ ts) = omega arith
read_key-shorter (Token.begin_array ∷ ts) = tt
read_key-shorter (Token.end_array ∷ ts) = tt
read_key-shorter (Token.key s ∷ ts) = omega arith
read_key-shorter (Token.string s ∷ ts) = tt
read_key-shorter (Token.number s ∷ ts) = tt
read_key-shorter (Token.boolean b ∷ ts) = tt
read_key-shorter (Token.null ∷ ts) = tt
read_key-shorter (Token.bad ∷ ts) = tt

longer : {A : Type 0} (f : A → ℕ) (m n : ℕ) (o : Option (A × List Token)) → m ≤ n → Within f m o → Within f n o
longer f m n None le within = tt
longer f m n (Some p) le within = omega arith

module _ (p : Parse json.Json) (shrinks : Shrinks text_size p) where
  item_turn : (more : Parse json.Items) → Shrinks text_items more → (ts : List Token) (o : Option (List Token)) → after_end_array ts ≡ o → Within text_items (length ts) (items_step p more ts o)
  item_turn more again ts (Some rest) e = omega (arith, end_array-shorter ts rest e)
  item_turn more again ts None e = and_more text_items (length ts) json.item (λ j b. refl) more again (p ts) (shrinks ts)

  Shrinks-items : (n : ℕ) → Shrinks text_items (items p n)
  unfolding items
  Shrinks-items zero ts = tt
  Shrinks-items (suc n) ts = item_turn (items p n) (Shrinks-items n) ts (after_end_array ts) refl

  member_turn : (more : Parse json.Members) → Shrinks text_members more → (n : ℕ) (o : Option (Option (List ℕ) × List Token)) → Within (λ _. 0) n o → Within text_members n (option_and_then (λ q. members_step p more q.0 q.1) o)
  member_turn more again n None within = tt
  member_turn more again n (Some (None, s)) within = omega arith
  member_turn more again n (Some (Some k, s)) within =
      longer text_members (length s) n (option_and_then (λ q. parse_map (json.member k q.0) (more q.1)) (p s)) (omega arith)
      (and_more text_members (length s) (json.member k) (λ j b. refl) more again (p s) (shrinks s))

  Shrinks-members : (n : ℕ) → Shrinks text_members (members p n)
  unfolding members
  Shrinks-members zero ts = tt
  Shrinks-members (suc n) ts = member_turn (members p n) (Shrinks-members n) (length ts) (read_key ts) (read_key-shorter ts)

one_level : (a : Parse json.Items) (o : Parse json.Members) → ((ts : List Token) → Within text_size (suc (length ts)) (parse_map json.array (a ts))) → ((ts : List Token) → Within text_size (suc (length ts)) (parse_map json.object (o ts)))
    → Shrinks text_size (value_with a o)
one_level a o p q [] = tt
one_level a o p q (Token.begin_object ∷ ts) = q ts
one_level a o p q (Token.end_object ∷ ts) = tt
one_level a o p q (Token.begin_array ∷ ts) = p ts
one_level a o p q (Token.end_array ∷ ts) = tt
one_level a o p q (Token.key s ∷ ts) = tt
one_level a o p q (Token.string s ∷ ts) = omega arith
one_level a o p q (Token.number s ∷ ts) = omega arith
one_level a o p q (Token.boolean b ∷ ts) = omega arith
one_level a o p q (Token.null ∷ ts) = omega arith
one_level a o p q (Token.bad ∷ ts) = tt

Shrinks-value : (d : ℕ) → Shrinks text_size (value d)
unfolding value
Shrinks-value zero = one_level (λ ts. None) (λ ts. None) (λ ts. tt) (λ ts. tt)
Shrinks-value (suc d) =
    one_level (λ ts. items (value d) (length ts) ts) (λ ts. members (value d) (length ts) ts)
    (λ ts. mapped text_items text_size (length ts) (suc (length ts)) json.array (λ js k le. omega arith) (items (value d) (length ts) ts) (Shrinks-items (value d) (Shrinks-value d) (length ts) ts))
    (λ ts. mapped text_members text_size (length ts) (suc (length ts)) json.object (λ ms k le. omega arith) (members (value d) (length ts) ts) (Shrinks-members (value d) (Shrinks-value d) (length ts) ts))

-- ---- from the tree of the text to its value

abbrev AtMost : {A : Type 0} → (A → ℕ) → ℕ → Option A → Type 0
AtMost f n None = ⊤
AtMost f n (Some a) = f a ≤ n

AtMost-map : {A B : Type 0} (f : A → ℕ) (g : B → ℕ) (m n : ℕ) (h : A → B) → ((a : A) → f a ≤ m → g (h a) ≤ n) → (o : Option A) → AtMost f m o → AtMost g n (option_map h o)
AtMost-map f g m n h k None x = tt
AtMost-map f g m n h k (Some a) x = k a x

AtMost-and_then : {A B : Type 0} (f : A → ℕ) (g : B → ℕ) (m n : ℕ) (h : A → Option B) → ((a : A) → f a ≤ m → AtMost g n (h a)) → (o : Option A) → AtMost f m o → AtMost g n (option_and_then h o)
AtMost-and_then f g m n h k None x = tt
AtMost-and_then f g m n h k (Some a) x = k a x

flat : {A : Type 0} (o : Option A) → AtMost (λ _. 0) 0 o
flat None = tt
flat (Some a) = omega arith

match_ordering-size : (o : Ordering) (a b c : Members) (n : ℕ) → members_size a ≤ n → members_size b ≤ n → members_size c ≤ n → members_size (match_ordering o a b c) ≤ n
match_ordering-size Less a b c n p q r = p
match_ordering-size Equal a b c n p q r = q
match_ordering-size Greater a b c n p q r = r

put-size : (k : List ℕ) (d : Data) (ms : Members) → members_size (put k d ms) ≤ size d + members_size ms
put-size k d no_members = omega arith
put-size k d (member l e ms) =
    match_ordering-size _ (member k d (member l e ms)) (member l d ms) (member l e (put k d ms)) _ (omega arith) (omega arith) (omega (arith, put-size k d ms))

mutual
  of_json-size : (j : json.Json) → AtMost size (text_size j) (of_json j)
  of_json-size json.null = omega arith
  of_json-size (json.boolean b) = omega arith
  of_json-size (json.number s) = AtMost-map (λ _. 0) size 0 1 number (λ a x. omega arith) (number_of s) (flat _)
  of_json-size (json.string s) = omega arith
  of_json-size (json.array js) = AtMost-map items_size size (text_items js) (suc (text_items js)) array (λ a x. omega arith) (of_items js) (of_items-size js)
  of_json-size (json.object ms) = AtMost-map members_size size (text_members ms) (suc (text_members ms)) object (λ a x. omega arith) (of_members ms no_members) (of_members-size ms no_members (text_members ms) (omega arith))

  of_items-size : (js : json.Items) → AtMost items_size (text_items js) (of_items js)
  of_items-size json.no_items = omega arith
  of_items-size (json.item j js) =
      AtMost-and_then size items_size (text_size j) (text_size j + text_items js) _
      (λ d x. AtMost-map items_size items_size (text_items js) (text_size j + text_items js) (item d) (λ ds y. omega arith) (of_items js) (of_items-size js)) (of_json j) (of_json-size j)

  of_members-size : (ms : json.Members) (found : Members) (n : ℕ) → text_members ms + members_size found ≤ n → AtMost members_size n (of_members ms found)
  of_members-size json.no_members found n h = omega arith
  of_members-size (json.member name j ms) found n h =
      AtMost-and_then size members_size (text_size j) n _ (λ d x. of_members-size ms (put name d found) n (omega (arith, h, x, put-size name d found))) (of_json j) (of_json-size j)

last-size : (n : ℕ) (o : Option (json.Json × List Token)) → Within text_size n o → AtMost text_size n (option_and_then (λ p. if_last p.0 p.1) o)
last-size n None within = tt
last-size n (Some (j, [])) within = omega arith
last-size n (Some (j, t ∷ r)) within = tt

of_json-below : (n : ℕ) (j : json.Json) → text_size j ≤ n → AtMost size n (of_json j)
of_json-below n j le = below (of_json j) (of_json-size j)
  where
    below : (o : Option Data) → AtMost size (text_size j) o → AtMost size n o
    below None h = tt
    below (Some d) h = omega arith

size-read : (text : List ℕ) (d : Data) → read text ≡ Some d → size d ≤ suc (length text)
size-read text d e =
    let n = length (tokens text) in
    let all : AtMost size n (read text) = AtMost-and_then text_size size n n of_json (of_json-below n) _ (last-size n (value max_depth (tokens text)) (Shrinks-value max_depth (tokens text))) in
    let le : size d ≤ n = subst (AtMost size n) e all in
    omega (arith, le, tokens-length text)

-- so each index in the value has 32 bits
pub size-document : (text : List ℕ) (d : Data) → read text ≡ Some d → length text ≤ max_document_bytes → size d < 4294967296
size-document text d e small = omega (arith, size-read text d e, small)
