-- What a writer has gained of a text, write by write.
use Rattle.std.proofs.Common.{◌≡◌, ℕ, ◌+◌, ◌-◌, List, [], ◌++◌, length, take, drop, Option, None, Some, refl, sym, ap, ◌∙◌, subst, append_assoc, length-drop, arith}
use Rattle.std.specs.Io.KnownBytes.{Appends, Keeps}
use Rattle.std.proofs.lemmas.List.{append-nil, drop-drop, take_all}
use Rattle.std.proofs.Math.Seq.{take-add}
use Rattle.wm_stream.specs.Output.{AppendsFront}

-- the writer has some first bytes of the text, and these are left
pub record HasFront (old new : Option (List ℕ)) (text left : List ℕ) : Type 0 where
  pub count : ℕ
  pub rest : left ≡ drop count text
  pub gained : Appends old new (take count text)

append_none : (xs : List ℕ) → xs ≡ xs ++ []
append_none xs = sym (append-nil xs)

nothing : (a : Option (List ℕ)) (text : List ℕ) → Appends a a (take 0 text)
nothing None text = tt
nothing (Some xs) text = append_none xs

joined : (a b c : Option (List ℕ)) (xs ys : List ℕ) → Appends a b xs → Appends b c ys → Appends a c (xs ++ ys)
joined None b c xs ys p q = tt
joined (Some old) None c xs ys p q = absurd p
joined (Some old) (Some between) None xs ys p q = absurd q
joined (Some old) (Some between) (Some new) xs ys p q = q ∙ ap (λ l. l ++ ys) p ∙ append_assoc old xs ys

kept : (a b c : Option (List ℕ)) (xs : List ℕ) → Appends a b xs → Keeps b c → Appends a c xs
kept None b c xs p q = tt
kept (Some old) None c xs p q = absurd p
kept (Some old) (Some between) None xs p q = absurd q
kept (Some old) (Some between) (Some new) xs p q = q ∙ p

pub begins : (a : Option (List ℕ)) (text : List ℕ) → HasFront a a text text
begins a text = record { count = 0; rest = refl; gained = nothing a text }

pub goes_on : (a b c : Option (List ℕ)) (text left : List ℕ) (n : ℕ) → HasFront a b text left → Appends b c (take n left) → HasFront a c text (drop n left)
goes_on a b c text left n h more = record {
  count = h.count + n;
  rest = ap (drop n) h.rest ∙ drop-drop n h.count text;
  gained = let both : take h.count text ++ take n left ≡ take (h.count + n) text = ap (λ l. take h.count text ++ take n l) h.rest ∙ sym (take-add h.count n text) in
      subst (Appends a c) both (joined a b c (take h.count text) (take n left) h.gained more);
}

pub stays : (a b c : Option (List ℕ)) (text left : List ℕ) → HasFront a b text left → Keeps b c → HasFront a c text left
stays a b c text left h same = record { count = h.count; rest = h.rest; gained = kept a b c (take h.count text) h.gained same }

-- if nothing comes after the first bytes, they are all
take_whole : (count : ℕ) (text : List ℕ) → length (drop count text) ≡ 0 → take count text ≡ text
take_whole count text none = take_all count text (omega (arith, length-drop count text))

pub whole : (a b : Option (List ℕ)) (text left : List ℕ) → HasFront a b text left → length left ≡ 0 → Appends a b text
whole a b text left h none = let all : take h.count text ≡ text = take_whole h.count text (sym (ap length h.rest) ∙ none) in subst (Appends a b) all h.gained

pub front : (a b : Option (List ℕ)) (text left : List ℕ) → HasFront a b text left → AppendsFront a b text
front a b text left h = (h.count, h.gained)

-- what is written whole is a front
pub front_of_whole : (a b : Option (List ℕ)) (text : List ℕ) → Appends a b text → AppendsFront a b text
front_of_whole a b text all = (length text, subst (Appends a b) (sym (take_all (length text) text (omega arith))) all)

-- the rest of a slice, as the code cuts it
pub rest_is : (xs : List ℕ) (n : ℕ) → take (length xs - n) (drop n xs) ≡ drop n xs
rest_is xs n = take_all (length xs - n) (drop n xs) (omega (arith, length-drop n xs))
