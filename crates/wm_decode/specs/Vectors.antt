-- Vectors, names, and values with their size before them (Core 1.0, sections 5.1.3, 5.2.4 and 5.5.2).
use Rattle.std.specs.Prelude.{◌≡◌, ℕ, List, [], ◌∷◌, ◌++◌, length}
use Rattle.std.specs.Str.{IsUtf8}
use Rattle.wm_decode.specs.Numbers.{U32}

-- The bytes spell the items, one after the other.
pub data Each {X : Type 0} (Item : List ℕ → X → Type 0) : List ℕ → List X → Type 0 where
  no_more : Each Item [] []
  one_more : {text rest : List ℕ} {x : X} {xs : List X} → Item text x → Each Item rest xs → Each Item (text ++ rest) (x ∷ xs)

-- The bytes spell the number of items, and the items.
pub record Vector {X : Type 0} (Item : List ℕ → X → Type 0) (text : List ℕ) (xs : List X) : Type 0 where
  pub count : List ℕ
  pub items : List ℕ
  pub parts : text ≡ count ++ items
  pub counted : U32 count (length xs)
  pub each : Each Item items xs

-- The bytes spell the number of bytes, and these bytes.
pub record ByteVector (text : List ℕ) (bytes : List ℕ) : Type 0 where
  pub count : List ℕ
  pub parts : text ≡ count ++ bytes
  pub counted : U32 count (length bytes)

-- The bytes spell a name: a vector of bytes that are UTF-8.
pub record Name (text : List ℕ) (name : List ℕ) : Type 0 where
  pub spelled : ByteVector text name
  pub utf8 : IsUtf8 name

-- The bytes spell the number of bytes after them, and these bytes spell x.
pub record Sized {X : Type 0} (Item : List ℕ → X → Type 0) (text : List ℕ) (x : X) : Type 0 where
  pub size : List ℕ
  pub content : List ℕ
  pub parts : text ≡ size ++ content
  pub counted : U32 size (length content)
  pub spelled : Item content x
