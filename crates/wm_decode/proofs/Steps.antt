-- Steps of reading, taken apart.
use Rattle.std.proofs.Common.{◌≡◌, ℕ, Bool, true, false, cond, List, [], ◌∷◌, ◌++◌, Result, Ok, Err, refl, ap, subst, ◌⊎◌, inl, inr}
use Rattle.wm_decode.specs.Stop.{Stop, map_stop}
use Rattle.wm_decode.specs.Numbers.{IsBytes}
use Rattle.wm_decode.specs.Reading.{◌>>=◌}

-- the value of a step that answered
pub bound : {A B : Type 0} (r : Result A Stop) (f : A → Result B Stop) (y : B) → (r >>= f) ≡ Ok y → (x : A) × (r ≡ Ok x) × (f x ≡ Ok y)
bound (Ok x) f y e = (x, refl, e)
bound (Err s) f y e = absurd cc

-- the same step after the same first one
pub bind_same : {A B : Type 0} (o : Result A Stop) (f g : A → Result B Stop) → ((x : A) → o ≡ Ok x → f x ≡ g x) → (o >>= f) ≡ (o >>= g)
bind_same (Ok x) f g h = h x refl
bind_same (Err e) f g h = refl

-- which way a test went
pub chosen : {A : Type 0} (b : Bool) (x y z : A) → cond b x y ≡ z → ((b ≡ true) × (x ≡ z)) ⊎ ((b ≡ false) × (y ≡ z))
chosen true x y z e = inl (refl, e)
chosen false x y z e = inr (refl, e)

-- a test that led on
pub passed : {A : Type 0} (s : Stop) (b : Bool) (y : Result A Stop) (z : A) → cond b (Err s) y ≡ Ok z → (b ≡ false) × (y ≡ Ok z)
passed s true y z e = absurd cc
passed s false y z e = (refl, e)

-- a test that was met
pub met : {A : Type 0} (s : Stop) (b : Bool) (y : Result A Stop) (z : A) → cond b y (Err s) ≡ Ok z → (b ≡ true) × (y ≡ Ok z)
met s true y z e = (refl, e)
met s false y z e = absurd cc

-- what answered, whatever it would have done to a stop
pub unmapped : {A : Type 0} (f : Stop → Stop) (r : Result A Stop) (x : A) → map_stop f r ≡ Ok x → r ≡ Ok x
unmapped f (Ok y) x e = e
unmapped f (Err s) x e = absurd cc

-- an answer
abbrev pub answer : {A : Type 0} → A → Result A Stop
answer x = Ok x

abbrev pub answered : {X : Type 0} → X → List ℕ → Result (X × List ℕ) Stop
answered x rest = Ok (x, rest)

pub ok_is : {A : Type 0} (x y : A) → answer x ≡ answer y → x ≡ y
ok_is x y e = cc

-- the parts of a pair that was answered
pub pair_is : {A B : Type 0} (x y : A × B) → answer x ≡ answer y → (x.0 ≡ y.0) × (x.1 ≡ y.1)
pair_is {A = A} {B = B} x y e = let p = ok_is x y e in (ap (λ (z : A × B). z.0) p, ap (λ (z : A × B). z.1) p)

pub bytes_after : (text rest : List ℕ) → IsBytes (text ++ rest) → IsBytes rest
bytes_after [] rest fits = fits
bytes_after (b ∷ text) rest fits = bytes_after text rest fits.1

pub fits_behind : (bytes text rest : List ℕ) → IsBytes bytes → bytes ≡ text ++ rest → IsBytes rest
fits_behind bytes text rest fits e = bytes_after text rest (subst IsBytes e fits)
