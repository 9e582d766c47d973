-- A value with its size: reading that stops in it does so whatever comes after the faulty item.
use Rattle.std.proofs.Common.{◌≡◌, ℕ, ◌+◌, ◌≤◌, ◌<◌, Bool, true, false, cond, ltb, eqb, List, [], ◌∷◌, ◌++◌, length, take, drop, Result, Ok, Err, refl, sym, ap, subst, ◌∙◌, arith, append_assoc, length-append, ◌⊎◌, inl, inr}
use Rattle.std.proofs.lemmas.Bool.{eqb-true, ltb-false}
use Rattle.std.proofs.lemmas.List.{append-nil, length-take-le}
use Rattle.std.proofs.Math.Seq.{take-append-add}
use Rattle.wm_decode.specs.declared.fault.FaultKind.{FaultKind}
use Rattle.wm_decode.specs.declared.fault.FaultKind.TheVariants as kind
use Rattle.wm_decode.specs.Begins.{IsItem}
use Rattle.wm_decode.specs.Numbers.{U32, IsBytes}
use Rattle.wm_decode.specs.Stop.{Stop, stop, before, inner_kind, map_stop}
use Rattle.wm_decode.specs.Vectors.{ByteVector}
use Rattle.wm_decode.specs.Reading.{◌>>=◌}
use Rattle.wm_decode.specs.ReadingVectors.{own_bytes_at, filled_at}
use Rattle.wm_decode.proofs.NumberLaws.{unsigned_again}
use Rattle.wm_decode.proofs.Lawful.{own_bytes_take, own_bytes_again, bytes_within}
use Rattle.wm_decode.proofs.Lasting.{IsNoLimit, Moved, Moves, Refused, Steady, Stopped, Stops, refused_then, stops_first}
use Rattle.wm_decode.proofs.LastingItems.{pair}

-- the kind of a fault as it is seen from outside
outer_is_item : (k : FaultKind) (item : List ℕ) → IsItem k item → IsItem (inner_kind k) item
outer_is_item kind.Truncated item h = h
outer_is_item kind.Magic item h = h
outer_is_item kind.Version item h = h
outer_is_item kind.BadNumber item h = h
outer_is_item kind.BadName item h = h
outer_is_item kind.SectionOrder item h = h
outer_is_item kind.SectionSize item h = h
outer_is_item kind.CountMismatch item h = h
outer_is_item (kind.UnknownOpcode byte) item h = h
outer_is_item (kind.Unsupported feature) item h = h
outer_is_item (kind.Limit limit) item h = h
outer_is_item kind.DuplicateExport item h = h

same_limit : (k : FaultKind) → IsNoLimit (inner_kind k) ≡ IsNoLimit k
same_limit kind.Truncated = refl
same_limit kind.Magic = refl
same_limit kind.Version = refl
same_limit kind.BadNumber = refl
same_limit kind.BadName = refl
same_limit kind.SectionOrder = refl
same_limit kind.SectionSize = refl
same_limit kind.CountMismatch = refl
same_limit (kind.UnknownOpcode byte) = refl
same_limit (kind.Unsupported feature) = refl
same_limit (kind.Limit limit) = refl
same_limit kind.DuplicateExport = refl

refused_before : {A : Type 0} (n : ℕ) (r : Result A Stop) → Refused r → Refused (map_stop (before n) r)
refused_before n (Ok x) h = absurd h
refused_before n (Err s) h = subst (λ (t : Type 0). t) (sym (same_limit s.kind)) h

-- what the own bytes are where others come after the first of them: as many as before, if there are enough
abbrev Changed : Stop → List ℕ → List ℕ → ℕ → Result (List ℕ × List ℕ) Stop → Type 0
Changed short front more n r = (r ≡ Err short) ⊎ ((within : List ℕ) × (after : List ℕ) × (r ≡ Ok (front ++ within, after)) × (length within ≡ n))

pub changed : (short : Stop) (size content front back more : List ℕ) → U32 size (length content) → content ≡ front ++ back → Changed short front more (length back) (own_bytes_at short (size ++ (front ++ more)))
unfolding own_bytes_at
changed short size content front back more counted parts = rw (unsigned_again counted (front ++ more)) (by (ltb (length (front ++ more)) (length content)) refl) where
  split : Result (List ℕ × List ℕ) Stop
  split = Ok (take (length content) (front ++ more), drop (length content) (front ++ more))

  by : (t : Bool) → ltb (length (front ++ more)) (length content) ≡ t → Changed short front more (length back) (cond t (Err short) split)
  by true e = inl refl
  by false e =
      let long : length content ≤ length (front ++ more) = ltb-false (length (front ++ more)) (length content) e in
      let len : length content ≡ length front + length back = ap length parts ∙ length-append front back in
      let enough : length back ≤ length more = omega (arith, length-append front more) in
      let is : take (length content) (front ++ more) ≡ front ++ take (length back) more = ap (λ (n : ℕ). take n (front ++ more)) len ∙ take-append-add front more (length back) in
      let whole = λ (l : List ℕ). let o : Result (List ℕ × List ℕ) Stop = Ok (l, drop (length content) (front ++ more)) in o in
      inr (take (length back) more, drop (length content) (front ++ more), ap whole is, length-take-le (length back) more enough)

module _ {X : Type 0} (item_at : List ℕ → Result (X × List ℕ) Stop) where
  refused_filled : (content after : List ℕ) → Refused (item_at content) → Refused (filled_at item_at (content, after))
  unfolding filled_at
  refused_filled content after h = refused_then (map_stop (before (length after)) (item_at content)) _ (refused_before (length after) (item_at content) h)

  -- a value that leaves bytes
  refused_long : (content after : List ℕ) (x : X) (rest : List ℕ) → item_at content ≡ Ok (x, rest) → 0 < length rest → Refused (filled_at item_at (content, after))
  unfolding filled_at
  refused_long content after x [] e long = absurd (omega arith)
  refused_long content after x (b ∷ rest) e long = rw e (refused (eqb (length (b ∷ rest)) 0) refl) where
    refused : (t : Bool) → eqb (length (b ∷ rest)) 0 ≡ t → Refused {A = X × List ℕ} (cond t (Ok (x, after)) (Err (stop kind.SectionSize (length (b ∷ rest) + length after))))
    refused true is = absurd (let n : length (b ∷ rest) ≡ 0 = eqb-true (length (b ∷ rest)) 0 is in omega arith)
    refused false is = tt

  abbrev filled_with : List ℕ → X × List ℕ → Result (X × List ℕ) Stop
  filled_with after y = cond (eqb (length y.1) 0) (Ok (y.0, after)) (Err (stop kind.SectionSize (length y.1 + length after)))

  -- whatever stops reading where there are fewer bytes than the size states, it is no limit; where reading of the content
  -- leaves bytes, it would leave others too
  module _ (inner : Bool) (short : List ℕ → Stop) (short_ok : (l : List ℕ) → IsNoLimit (short l).kind)
      (own_stops : (seen bytes : List ℕ) → IsBytes bytes → Stops inner (λ l. own_bytes_at (short l) l) seen bytes (own_bytes_at (short bytes) bytes))
      (inside : (seen bytes : List ℕ) → IsBytes bytes → Stops true item_at seen bytes (item_at bytes))
      (surplus : (bytes : List ℕ) (x : X) (b : ℕ) (rest : List ℕ) → IsBytes bytes → item_at bytes ≡ Ok (x, b ∷ rest) → Moved pair item_at bytes (x, b ∷ rest)) where
    abbrev Whole : List ℕ → Result (X × List ℕ) Stop
    Whole l = own_bytes_at (short l) l >>= filled_at item_at

    refused_with : (size content front back more : List ℕ) → U32 size (length content) → content ≡ front ++ back
        → ((within after : List ℕ) → length within ≡ length back → Refused (filled_at item_at (front ++ within, after))) → Refused (Whole ((size ++ front) ++ more))
    refused_with size content front back more counted parts h =
        subst (λ (l : List ℕ). Refused (Whole l)) (sym (append_assoc size front more)) (by (own_bytes_at (short l) l) (changed (short l) size content front back more counted parts)) where
          l : List ℕ
          l = size ++ (front ++ more)

          by : (r : Result (List ℕ × List ℕ) Stop) → Changed (short l) front more (length back) r → Refused (r >>= filled_at item_at)
          by r (inl e) = rw e (short_ok l)
          by r (inr w) = rw w.2 (h w.0 w.1 w.3)

    module _ (seen bytes content after : List ℕ) (fits : IsBytes bytes) (own : own_bytes_at (short bytes) bytes ≡ Ok (content, after)) where
      spelled : (text : List ℕ) × (bytes ≡ text ++ after) × ByteVector text content
      spelled = own_bytes_take (short bytes) bytes content after fits own

      parts : bytes ≡ spelled.2.count ++ (content ++ after)
      parts = spelled.1 ∙ ap (λ (l : List ℕ). l ++ after) spelled.2.parts ∙ append_assoc spelled.2.count content after

      content_fits : IsBytes content
      content_fits = bytes_within spelled.2.count content after (subst IsBytes (spelled.1 ∙ ap (λ (l : List ℕ). l ++ after) spelled.2.parts) fits)

      parts_at : (front back : List ℕ) → content ≡ front ++ back → bytes ≡ (spelled.2.count ++ front) ++ (back ++ after)
      parts_at front back e = parts ∙ ap (λ (l : List ℕ). spelled.2.count ++ (l ++ after)) e ∙ simp append_assoc

      stops_inside : (s : Stop) → Stopped true item_at (seen ++ spelled.2.count) content s → Stopped inner Whole seen bytes (before (length after) s)
      stops_inside s t = record {
        front = t.front;
        item = t.item;
        read = spelled.2.count ++ t.read;
        rest = t.rest ++ after;
        parts = parts_at t.read t.rest t.parts;
        cut = sym (append_assoc seen spelled.2.count t.read) ∙ t.cut;
        left_is = omega (arith, t.left_is, length-append t.rest after);
        is_item = outer_is_item s.kind t.item t.is_item;
        lasts = λ more few. refused_with spelled.2.count content t.read t.rest more spelled.2.counted t.parts (λ within after2 len.
            refused_filled (t.read ++ within) after2 (t.lasts within (λ depends. omega (arith, len))));
      }

      stops_beyond : (x : X) (rest : List ℕ) → 0 < length rest → Moved pair item_at content (x, rest) → Stopped inner Whole seen bytes (stop kind.SectionSize (length rest + length after))
      stops_beyond x rest long m =
          let same : rest ≡ m.rest = ap (λ (y : X × List ℕ). y.1) m.is in record {
            front = seen ++ (spelled.2.count ++ m.text);
            item = [];
            read = spelled.2.count ++ m.text;
            rest = m.rest ++ after;
            parts = parts_at m.text m.rest m.parts;
            cut = sym (append-nil (seen ++ (spelled.2.count ++ m.text)));
            left_is = omega (arith, ap length same, length-append m.rest after);
            is_item = omega arith;
            lasts = λ more few. refused_with spelled.2.count content m.text m.rest more spelled.2.counted m.parts (λ within after2 len.
                refused_long (m.text ++ within) after2 m.value within (m.again within) (omega (arith, len, ap length same, long)));
          }

      filled_stops : (r : Result (X × List ℕ) Stop) → item_at content ≡ r → Stops true item_at (seen ++ spelled.2.count) content r → Stops inner Whole seen bytes (map_stop (before (length after)) r >>= filled_with after)
      filled_stops (Err s) e h = λ limit. stops_inside s (h (subst (λ (t : Type 0). t) (same_limit s.kind) limit))
      filled_stops (Ok (x, [])) e h = tt
      filled_stops (Ok (x, b ∷ rest)) e h = by (eqb (length (b ∷ rest)) 0) where
        by : (t : Bool) → Stops inner Whole seen bytes (cond t (Ok (x, after)) (Err (stop kind.SectionSize (length (b ∷ rest) + length after))))
        by true = tt
        by false = λ limit. stops_beyond x (b ∷ rest) (omega arith) (surplus content x b rest content_fits e)

      filled_moves : (r : Result (X × List ℕ) Stop) → item_at content ≡ r → Moves pair Whole bytes (map_stop (before (length after)) r >>= filled_with after)
      unfolding filled_at
      filled_moves (Err s) e = tt
      filled_moves (Ok (x, [])) e = record {
        value = x;
        text = spelled.0;
        rest = after;
        is = refl;
        parts = spelled.1;
        again = λ more. rw (own_bytes_again (short (spelled.0 ++ more)) spelled.0 content more spelled.2, e) refl;
      }
      filled_moves (Ok (x, b ∷ rest)) e = by (eqb (length (b ∷ rest)) 0) refl where
        by : (t : Bool) → eqb (length (b ∷ rest)) 0 ≡ t → Moves pair Whole bytes (cond t (Ok (x, after)) (Err (stop kind.SectionSize (length (b ∷ rest) + length after))))
        by false is = tt
        by true is = absurd (let n : length (b ∷ rest) ≡ 0 = eqb-true (length (b ∷ rest)) 0 is in omega arith)

    whole_moves : (bytes : List ℕ) → IsBytes bytes → (r : Result (List ℕ × List ℕ) Stop) → own_bytes_at (short bytes) bytes ≡ r → Moves pair Whole bytes (r >>= filled_at item_at)
    unfolding filled_at
    whole_moves bytes fits (Err s) e = tt
    whole_moves bytes fits (Ok (content, after)) e = filled_moves [] bytes content after fits e (item_at content) refl

    whole_stops : (seen bytes : List ℕ) → IsBytes bytes → (r : Result (List ℕ × List ℕ) Stop) → own_bytes_at (short bytes) bytes ≡ r → Stops inner Whole seen bytes (r >>= filled_at item_at)
    unfolding filled_at
    whole_stops seen bytes fits (Err s) e = stops_first inner (λ l. own_bytes_at (short l) l) (λ l. filled_at item_at) seen bytes s (subst (Stops inner (λ l. own_bytes_at (short l) l) seen bytes) e (own_stops seen bytes fits))
    whole_stops seen bytes fits (Ok (content, after)) e = filled_stops seen bytes content after fits e (item_at content) refl (inside (seen ++ (spelled seen bytes content after fits e).2.count) content (content_fits seen bytes content after fits e))

    pub whole_steady : {k : ℕ} → Steady k inner pair [] Whole
    whole_steady = record {
      moves = λ bytes fits. whole_moves bytes fits.0 (own_bytes_at (short bytes) bytes) refl;
      stops = λ seen earlier bytes e fits. whole_stops seen bytes fits.0 (own_bytes_at (short bytes) bytes) refl;
    }
