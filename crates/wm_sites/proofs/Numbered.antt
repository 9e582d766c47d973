-- Each instruction of the blocks that bytes spell is an opcode with a number, and as many opcodes are spelled before it.
use Rattle.std.proofs.Common.{◌≡◌, ℕ, zero, suc, ◌+◌, ◌<◌, ◌≤◌, Bool, true, false, List, [], ◌∷◌, ◌++◌, length, Option, Some, None, refl, sym, ap, subst, ◌∙◌, slice_get, ⊎_elim, inl, inr, append_assoc, arith}
use Rattle.std.specs.Prelude.{◌⊎◌, Ok, Err, nat_lt, if◌then◌else◌}
use Rattle.std.proofs.lemmas.Option.{none-some, same_Some}
use Rattle.wm_ast.specs.declared.types.ValType.{ValType}
use Rattle.wm_ast.specs.declared.instr.Else.TheVariants.{Present}
use Rattle.wm_ast.specs.declared.instr.Instr.{Instr}
use Rattle.wm_ast.specs.declared.instr.Instr.TheVariants.{If}
use Rattle.wm_decode.specs.Instructions.{block_type, indexed_instr, alone, indexed, br_table, access, memory_size, i32_const, i64_const, atomic, Plain, plain_instr, Spells, none, plain, block, loop, if_then, if_else}
use Rattle.wm_decode.specs.Reading.{signed_at, unsigned_at}
use Rattle.wm_decode.specs.ReadingVectors.{vector_at}
use Rattle.wm_decode.specs.ReadingInstructions.{InstrAt, immediates_at, access_at, atomic_access_at}
use Rattle.wm_decode.specs.Opcodes.{lookup, opcode_at, control_opcodes, memory_opcodes, comparison_opcodes, arithmetic_32_opcodes, arithmetic_64_opcodes, other_opcodes}
use Rattle.wm_valid.specs.Locations.{Part, parts, Opcodes, none as no_instr, instr, part}
use Rattle.wm_sites.specs.declared.opcode_numbers.BlockPosition.{BlockPosition}
use Rattle.wm_sites.specs.Numbering.{begin_of, next_of, IsNumberedFrom, here, behind, in_part, past_part}
use Rattle.wm_sites.specs.Offsets.{OpcodeText, plain as plain_text, begin_block, begin_loop, begin_if, else_between, end_after, OpcodeTexts, no_opcode, opcode}

-- ---- an instruction without blocks

is_empty : List Part → Bool
is_empty [] = true
is_empty (p ∷ ps) = false

empty_is : (ps : List Part) → is_empty ps ≡ true → ps ≡ []
unfolding is_empty
empty_is [] h = refl
empty_is (p ∷ ps) h = cc

-- whether the instruction that is read, if one is, has no blocks
reads_no_blocks : InstrAt → Bool
reads_no_blocks (Ok read) = is_empty (parts read.0)
reads_no_blocks (Err stop) = true

either_is : {X : Type 0} (b : Bool) (first other : Option X) (x : X) → (if b then first else other) ≡ Some x → (first ≡ Some x) ⊎ (other ≡ Some x)
either_is true first other x h = inl h
either_is false first other x h = inr h

both_true : (a b : Bool) → (if a then b else false) ≡ true → (a ≡ true) × (b ≡ true)
both_true true b h = (refl, h)
both_true false b h = cc

-- all entries pass a test
abbrev all_pass : {X : Type 0} → (X → Bool) → List (ℕ × X) → Bool
all_pass test [] = true
all_pass test (e ∷ es) = if test e.1 then all_pass test es else false

listed_pass : {X : Type 0} (test : X → Bool) (es : List (ℕ × X)) (code : ℕ) (x : X) → all_pass test es ≡ true → lookup code es ≡ Some x → test x ≡ true
listed_pass test [] code x all is = absurd (none-some x is)
listed_pass test (e ∷ es) code x all is =
    let two = both_true (test e.1) (all_pass test es) all in
    ⊎_elim
    (λ (first : Some e.1 ≡ Some x). subst (λ y. test y ≡ true) (same_Some e.1 x first) two.0)
    (λ (other : lookup code es ≡ Some x). listed_pass test es code x two.1 other)
    (either_is _ (Some e.1) (lookup code es) x is)

opcode_reads_none : (code : ℕ) (op : _) → opcode_at code ≡ Some op → reads_no_blocks (immediates_at op []) ≡ true
unfolding opcode_at immediates_at access_at atomic_access_at signed_at unsigned_at vector_at reads_no_blocks is_empty
opcode_reads_none code op is = by (nat_lt code 0x28) (nat_lt code 0x41) (nat_lt code 0x45) (nat_lt code 0x67) (nat_lt code 0x79) (nat_lt code 0x8B) is
  where
    by : (a b c d e f : Bool) → (if a then lookup code control_opcodes else (if b then lookup code memory_opcodes else (if c then lookup code other_opcodes else (if d then lookup code comparison_opcodes else (
        if e then lookup code arithmetic_32_opcodes else (if f then lookup code arithmetic_64_opcodes else lookup code other_opcodes)))))) ≡ Some op → reads_no_blocks (immediates_at op []) ≡ true
    by true b c d e f is = listed_pass (λ y. reads_no_blocks (immediates_at y [])) control_opcodes code op refl is
    by false true c d e f is = listed_pass (λ y. reads_no_blocks (immediates_at y [])) memory_opcodes code op refl is
    by false false true d e f is = listed_pass (λ y. reads_no_blocks (immediates_at y [])) other_opcodes code op refl is
    by false false false true e f is = listed_pass (λ y. reads_no_blocks (immediates_at y [])) comparison_opcodes code op refl is
    by false false false false true f is = listed_pass (λ y. reads_no_blocks (immediates_at y [])) arithmetic_32_opcodes code op refl is
    by false false false false false true is = listed_pass (λ y. reads_no_blocks (immediates_at y [])) arithmetic_64_opcodes code op refl is
    by false false false false false false is = listed_pass (λ y. reads_no_blocks (immediates_at y [])) other_opcodes code op refl is

indexed_parts : (kind : _) (n : ℕ) → parts (indexed_instr kind n) ≡ []
indexed_parts kind n = grind arith

no_parts : {text : List ℕ} {i : Instr} → Plain text i → parts i ≡ []
unfolding immediates_at reads_no_blocks
no_parts (plain_instr {code = code} is (alone {i = i})) = empty_is (parts i) (opcode_reads_none code _ is)
no_parts (plain_instr is (indexed {kind = kind} {n = n} number)) = indexed_parts kind n
no_parts (plain_instr is (br_table labels other)) = refl
no_parts (plain_instr is (access alignment offset)) = refl
no_parts (plain_instr is memory_size) = refl
no_parts (plain_instr is (i32_const n)) = refl
no_parts (plain_instr is (i64_const n)) = refl
no_parts (plain_instr is (atomic number meaning alignment offset)) = refl

-- ---- the blocks from a number on

-- the blocks from this number on are these
abbrev pub Holds : List (List Instr) → ℕ → List (List Instr) → Type 0
Holds blocks next nested = (i : ℕ) (body : List Instr) → slice_get nested i ≡ Some body → slice_get blocks (next + i) ≡ Some body

get_front : (xs ys : List (List Instr)) (i : ℕ) (x : List Instr) → slice_get xs i ≡ Some x → slice_get (xs ++ ys) i ≡ Some x
get_front [] ys i x is = absurd (none-some x is)
get_front (y ∷ xs) ys zero x is = is
get_front (y ∷ xs) ys (suc i) x is = get_front xs ys i x is

get_back : (xs ys : List (List Instr)) (i : ℕ) → slice_get (xs ++ ys) (length xs + i) ≡ slice_get ys i
get_back [] ys i = let same : 0 + i ≡ i = omega arith in ap (slice_get ys) same
get_back (x ∷ xs) ys i =
    let same : suc (length xs) + i ≡ suc (length xs + i) = omega arith in ap (slice_get (x ∷ xs ++ ys)) same ∙ get_back xs ys i

get_either : (xs ys : List (List Instr)) (i : ℕ) (x : List Instr) → slice_get (xs ++ ys) i ≡ Some x → (slice_get xs i ≡ Some x) ⊎ ((j : ℕ) × (i ≡ length xs + j) × (slice_get ys j ≡ Some x))
get_either [] ys i x is = let same : i ≡ 0 + i = omega arith in inr (i, same, is)
get_either (y ∷ xs) ys zero x is = inl is
get_either (y ∷ xs) ys (suc i) x is = ⊎_elim
    (λ (first : slice_get xs i ≡ Some x). inl first)
    (λ (other : (j : ℕ) × (i ≡ length xs + j) × (slice_get ys j ≡ Some x)). let e = other.1 in let same : suc i ≡ suc (length xs) + other.0 = omega (arith, e) in inr (other.0, same, other.2))
    (get_either xs ys i x is)

module _ (blocks : List (List Instr)) (next : ℕ) where
  first_held : (body : List Instr) (bs : List (List Instr)) → Holds blocks next (body ∷ bs) → slice_get blocks next ≡ Some body
  first_held body bs holds = let same : next + 0 ≡ next = omega arith in subst (λ (n : ℕ). slice_get blocks n ≡ Some body) same (holds 0 body refl)

  others_held : (body : List Instr) (bs : List (List Instr)) → Holds blocks next (body ∷ bs) → Holds blocks (next + 1) bs
  others_held body bs holds i x is =
      let same : next + suc i ≡ next + 1 + i = omega arith in subst (λ (n : ℕ). slice_get blocks n ≡ Some x) same (holds (suc i) x is)

  front_held : (bs cs : List (List Instr)) → Holds blocks next (bs ++ cs) → Holds blocks next bs
  front_held bs cs holds i x is = holds i x (get_front bs cs i x is)

  back_held : (bs cs : List (List Instr)) → Holds blocks next (bs ++ cs) → Holds blocks (next + length bs) cs
  back_held bs cs holds i x is =
      let same : next + (length bs + i) ≡ next + length bs + i = omega arith in
      subst (λ (n : ℕ). slice_get blocks n ≡ Some x) same (holds (length bs + i) x (get_back bs cs i ∙ is))

-- ---- the positions of instructions

-- the position is that of one of these instructions, of which the first is at p
pub record IsAmong (p : BlockPosition) (instrs : List Instr) (q : BlockPosition) : Type 0 where
  pub block : q.block ≡ p.block
  pub from : p.at ≤ q.at
  pub before : q.at < p.at + length instrs

-- the position is that of an instruction of one of these blocks, of which the first has this number
pub record IsIn (next : ℕ) (nested : List (List Instr)) (q : BlockPosition) : Type 0 where
  pub index : ℕ
  pub body : List Instr
  pub is_body : slice_get nested index ≡ Some body
  pub block : q.block ≡ next + index
  pub before : q.at < length body

abbrev pub IsOf : BlockPosition → List Instr → ℕ → List (List Instr) → BlockPosition → Type 0
IsOf p instrs next nested q = IsAmong p instrs q ⊎ IsIn next nested q

same_position : (p q : BlockPosition) → q.block ≡ p.block → q.at ≡ p.at → q ≡ p
same_position p q b a =
    ap (λ (n : ℕ). let r : BlockPosition = record { block = n; at = q.at } in r) b ∙ ap (λ (n : ℕ). let r : BlockPosition = record { block = p.block; at = n } in r) a

same_or_more : (a b : ℕ) → a ≤ b → (b ≡ a) ⊎ (a + 1 ≤ b)
same_or_more zero zero le = inl refl
same_or_more zero (suc b) le = inr (omega arith)
same_or_more (suc a) zero le = absurd (omega arith)
same_or_more (suc a) (suc b) le = ⊎_elim (λ (same : b ≡ a). inl (ap suc same)) (λ (more : a + 1 ≤ b). inr (omega arith)) (same_or_more a b (omega arith))

none_of : (p q : BlockPosition) (next : ℕ) → IsOf p [] next [] q → ⊥
none_of p q next (inl among) = omega arith
none_of p q next (inr within) = none-some within.body within.is_body

-- the first instruction's, or that of a later one or of a block
of_instr : (p q : BlockPosition) (i : Instr) (is : List Instr) (next : ℕ) (nested : List (List Instr)) → IsOf p (i ∷ is) next nested q → (q ≡ p) ⊎ IsOf (next_of p) is next nested q
of_instr p q i is next nested (inl among) = ⊎_elim
    (λ (same : q.at ≡ p.at). inl (same_position p q among.block same))
    (λ (more : p.at + 1 ≤ q.at). let end : q.at < p.at + 1 + length is = omega arith in inr (inl (record { block = among.block; from = more; before = end })))
    (same_or_more p.at q.at among.from)
of_instr p q i is next nested (inr within) = inr (inr within)

-- that of an instruction of the first block or a block in it, or of others
of_block : (p q : BlockPosition) (is : List Instr) (next : ℕ) (body : List Instr) (bs cs : List (List Instr)) → IsOf p is next (body ∷ bs ++ cs) q
    → IsOf (begin_of next) body (next + 1) bs q ⊎ IsOf p is (next + 1 + length bs) cs q
of_block p q is next body bs cs (inl among) = inr (inl among)
of_block p q is next body bs cs (inr within) = by within.index within.is_body within.block
  where
    by : (index : ℕ) → slice_get (body ∷ bs ++ cs) index ≡ Some within.body → q.block ≡ next + index → IsOf (begin_of next) body (next + 1) bs q ⊎ IsOf p is (next + 1 + length bs) cs q
    by zero is_body number =
        let same = ap length (same_Some body within.body is_body) in
        let first_is : q.block ≡ next = omega (arith, number) in
        let least : 0 ≤ q.at = omega arith in
        let end : q.at < 0 + length body = omega (arith, same) in
        inl (inl (record { block = first_is; from = least; before = end }))
    by (suc k) is_body number = ⊎_elim
        (λ (first : slice_get bs k ≡ Some within.body).
        let first_is : q.block ≡ next + 1 + k = omega (arith, number) in inl (inr (record { index = k; body = within.body; is_body = first; block = first_is; before = within.before })))
        (λ (other : (j : ℕ) × (k ≡ length bs + j) × (slice_get cs j ≡ Some within.body)).
        let e = other.1 in
        let first_is : q.block ≡ next + 1 + length bs + other.0 = omega (arith, number, e) in
        inr (inr (record { index = other.0; body = within.body; is_body = other.2; block = first_is; before = within.before })))
        (get_either bs cs k within.body is_body)

-- an empty block has no instruction
of_empty : (p q : BlockPosition) (is : List Instr) (next : ℕ) (cs : List (List Instr)) → IsOf p is next ([] ∷ cs) q → IsOf p is (next + 1) cs q
of_empty p q is next cs of = ⊎_elim
    (λ (first : IsOf (begin_of next) [] (next + 1) [] q). absurd (none_of (begin_of next) q (next + 1) first))
    (λ (other : IsOf p is (next + 1 + 0) cs q). let same : next + 1 + 0 ≡ next + 1 = omega arith in subst (λ (n : ℕ). IsOf p is n cs q) same other)
    (of_block p q is next [] [] cs of)

-- ---- how many opcodes a text spells

-- the blocks and then the instructions have as many opcodes as the text spells
pub record Counted (blocks : List (List Instr)) (ps : List Part) (text : List ℕ) (instrs : List Instr) : Type 0 where
  pub count : ℕ
  pub opcodes : Opcodes blocks ps instrs count
  pub texts : OpcodeTexts count text

texts_append : {j k : ℕ} {first other : List ℕ} → OpcodeTexts j first → OpcodeTexts k other → OpcodeTexts (j + k) (first ++ other)
texts_append {k = k} {other = other} no_opcode more = let same : k ≡ 0 + k = omega arith in subst (λ (n : ℕ). OpcodeTexts n other) same more
texts_append {k = k} {other = other} (opcode {n = n} {text = text} {rest = rest} one texts) more =
    let same : 1 + (n + k) ≡ 1 + n + k = omega arith in
    subst (λ (xs : List ℕ). OpcodeTexts (1 + n + k) xs) (sym (append_assoc text rest other))
    (subst (λ (c : ℕ). OpcodeTexts c (text ++ (rest ++ other))) same (opcode one (texts_append texts more)))

texts_past : {j k : ℕ} {inner end other : List ℕ} → OpcodeTexts j inner → OpcodeText end → OpcodeTexts k other → OpcodeTexts (j + 1 + k) (inner ++ (end ++ other))
texts_past {j} {k} {inner} {end} {other} texts one more =
    let same : j + (1 + k) ≡ j + 1 + k = omega arith in subst (λ (c : ℕ). OpcodeTexts c (inner ++ (end ++ other))) same (texts_append texts (opcode one more))

count_first : {blocks : List (List Instr)} {i : Instr} {first text : List ℕ} {is : List Instr} → OpcodeText first → Counted blocks (parts i) text is → Counted blocks [] (first ++ text) (i ∷ is)
count_first one c = record { count = 1 + c.count; opcodes = instr c.opcodes; texts = opcode one c.texts }

count_part : {blocks : List (List Instr)} {ps : List Part} {inner end text : List ℕ} {is : List Instr} (p : Part) (body : List Instr) → slice_get blocks p.block ≡ Some body → Counted blocks [] inner body → OpcodeText end
    → Counted blocks ps text is → Counted blocks (p ∷ ps) (inner ++ (end ++ text)) is
count_part p body is_body inside one c =
    record { count = inside.count + 1 + c.count; opcodes = part body is_body inside.opcodes c.opcodes; texts = texts_past inside.texts one c.texts }

abbrev part_of : Option ValType → ℕ → Part
part_of label next = record { label = label; block = next }

-- an `if` with an else part, its bytes and its blocks grouped from the left and from the right
else_text : (ty : Option ValType) (first second rest : List ℕ) → 0x04 ∷ block_type ty ∷ first ++ 0x05 ∷ second ++ 0x0B ∷ rest ≡ 0x04 ∷ block_type ty ∷ (first ++ (0x05 ∷ (second ++ (0x0B ∷ rest))))
else_text ty first second rest = ap (λ (xs : List ℕ). 0x04 ∷ block_type ty ∷ xs) (append_assoc first (0x05 ∷ second) (0x0B ∷ rest))

blocks_assoc : (one : List Instr) (bs : List (List Instr)) (other : List Instr) (cs ds : List (List Instr)) → one ∷ bs ++ other ∷ cs ++ ds ≡ one ∷ (bs ++ (other ∷ (cs ++ ds)))
blocks_assoc one bs other cs ds = ap (λ (xs : List (List Instr)). one ∷ xs) (append_assoc bs (other ∷ cs) ds)

pub counted : {depth_left next : ℕ} {text : List ℕ} {instrs : List Instr} {nested : List (List Instr)} → Spells depth_left next text instrs nested → (blocks : List (List Instr)) → Holds blocks next nested
    → Counted blocks [] text instrs
counted none blocks holds = record { count = 0; opcodes = no_instr; texts = no_opcode }
counted (plain {rest = rest} {is = is} one more) blocks holds =
    count_first (plain_text one) (subst (λ (ps : List Part). Counted blocks ps rest is) (sym (no_parts one)) (counted more blocks holds))
counted (block {next = next} {ty = ty} {body = body} {bs = bs} {cs = cs} room first more) blocks holds =
    let others = others_held blocks next body (bs ++ cs) holds in
    count_first (begin_block ty)
    (count_part (part_of ty next) body (first_held blocks next body (bs ++ cs) holds) (counted first blocks (front_held blocks (next + 1) bs cs others)) end_after
    (counted more blocks (back_held blocks (next + 1) bs cs others)))
counted (loop {next = next} {ty = ty} {body = body} {bs = bs} {cs = cs} room first more) blocks holds =
    let others = others_held blocks next body (bs ++ cs) holds in
    count_first (begin_loop ty)
    (count_part (part_of None next) body (first_held blocks next body (bs ++ cs) holds) (counted first blocks (front_held blocks (next + 1) bs cs others)) end_after
    (counted more blocks (back_held blocks (next + 1) bs cs others)))
counted (if_then {next = next} {ty = ty} {yes = body} {bs = bs} {cs = cs} room first more) blocks holds =
    let others = others_held blocks next body (bs ++ [] ∷ cs) holds in
    let last = others_held blocks (next + 1 + length bs) [] cs (back_held blocks (next + 1) bs ([] ∷ cs) others) in
    count_first (begin_if ty)
    (count_part (part_of ty next) body (first_held blocks next body (bs ++ [] ∷ cs) holds) (counted first blocks (front_held blocks (next + 1) bs ([] ∷ cs) others)) end_after (counted more blocks last))
counted (if_else {next = next} {ty = ty} {first = inner} {second = between} {rest = rest} {yes = body} {no = otherwise} {is = is} {bs = bs} {cs = cs} {ds = ds} room first other more) blocks holds =
    let made = If ty next (next + 1 + length bs) Present in
    let right = subst (Holds blocks next) (blocks_assoc body bs otherwise cs ds) holds in
    let others = others_held blocks next body (bs ++ (otherwise ∷ (cs ++ ds))) right in
    let second = back_held blocks (next + 1) bs (otherwise ∷ (cs ++ ds)) others in
    let last = others_held blocks (next + 1 + length bs) otherwise (cs ++ ds) second in
    subst (λ (xs : List ℕ). Counted blocks [] xs (made ∷ is)) (sym (else_text ty inner between rest))
    (count_first {i = made} (begin_if ty)
    (count_part (part_of ty next) body (first_held blocks next body (bs ++ (otherwise ∷ (cs ++ ds))) right) (counted first blocks (front_held blocks (next + 1) bs (otherwise ∷ (cs ++ ds)) others)) else_between
    (count_part (part_of ty (next + 1 + length bs)) otherwise (first_held blocks (next + 1 + length bs) otherwise (cs ++ ds) second) (counted other blocks (front_held blocks (next + 1 + length bs + 1) cs ds last)) end_after
    (counted more blocks (back_held blocks (next + 1 + length bs + 1) cs ds last)))))

-- ---- the number and the text of an instruction

-- the opcode at a position has a number, and the text before it spells as many opcodes
pub record Numbered (blocks : List (List Instr)) (p : BlockPosition) (ps : List Part) (text : List ℕ) (instrs : List Instr) (q : BlockPosition) : Type 0 where
  pub number : ℕ
  pub numbered : IsNumberedFrom blocks p ps instrs q number
  pub earlier : List ℕ
  pub own : List ℕ
  pub later : List ℕ
  pub text_is : text ≡ earlier ++ (own ++ later)
  pub skipped : OpcodeTexts number earlier
  pub is_opcode : OpcodeText own

at_first : {blocks : List (List Instr)} {p q : BlockPosition} {first : List ℕ} {instrs : List Instr} (text : List ℕ) → OpcodeText first → q ≡ p → Numbered blocks p [] (first ++ text) instrs q
at_first {blocks} {p} {q} {first} {instrs} text one same =
    subst (Numbered blocks p [] (first ++ text) instrs) (sym same)
    (record { number = 0; numbered = here; earlier = []; own = first; later = text; text_is = refl; skipped = no_opcode; is_opcode = one })

after_first : {blocks : List (List Instr)} {p q : BlockPosition} {i : Instr} {first text : List ℕ} {is : List Instr} → OpcodeText first → Numbered blocks (next_of p) (parts i) text is q
    → Numbered blocks p [] (first ++ text) (i ∷ is) q
after_first {first = first} one n = record {
  number = 1 + n.number;
  numbered = behind n.numbered;
  earlier = first ++ n.earlier;
  own = n.own;
  later = n.later;
  text_is = ap (λ (xs : List ℕ). first ++ xs) n.text_is ∙ sym (append_assoc first n.earlier (n.own ++ n.later));
  skipped = opcode one n.skipped;
  is_opcode = n.is_opcode;
}

in_first : {blocks : List (List Instr)} {p q : BlockPosition} {ps : List Part} {inner : List ℕ} {is : List Instr} (text : List ℕ) (x : Part) (body : List Instr) → slice_get blocks x.block ≡ Some body
    → Numbered blocks (begin_of x.block) [] inner body q → Numbered blocks p (x ∷ ps) (inner ++ text) is q
in_first text x body is_body n = record {
  number = n.number;
  numbered = in_part body is_body n.numbered;
  earlier = n.earlier;
  own = n.own;
  later = n.later ++ text;
  text_is = ap (λ (xs : List ℕ). xs ++ text) n.text_is ∙ append_assoc n.earlier (n.own ++ n.later) text ∙ ap (λ (xs : List ℕ). n.earlier ++ xs) (append_assoc n.own n.later text);
  skipped = n.skipped;
  is_opcode = n.is_opcode;
}

past_first : {blocks : List (List Instr)} {p q : BlockPosition} {ps : List Part} {inner end text : List ℕ} {is : List Instr} (x : Part) (body : List Instr) → slice_get blocks x.block ≡ Some body
    → Counted blocks [] inner body → OpcodeText end → Numbered blocks p ps text is q → Numbered blocks p (x ∷ ps) (inner ++ (end ++ text)) is q
past_first {inner = inner} {end = end} x body is_body c one n = record {
  number = c.count + 1 + n.number;
  numbered = past_part body is_body c.opcodes n.numbered;
  earlier = inner ++ (end ++ n.earlier);
  own = n.own;
  later = n.later;
  text_is = ap (λ (xs : List ℕ). inner ++ (end ++ xs)) n.text_is ∙ regrouped inner end n.earlier (n.own ++ n.later);
  skipped = texts_past c.texts one n.skipped;
  is_opcode = n.is_opcode;
}
  where
    regrouped : (a b c d : List ℕ) → a ++ (b ++ (c ++ d)) ≡ (a ++ (b ++ c)) ++ d
    regrouped a b c d = simp append_assoc

-- an instruction, and then what comes after it
number_instr : {blocks : List (List Instr)} {first text : List ℕ} {is : List Instr} (p q : BlockPosition) (i : Instr) (next : ℕ) (nested : List (List Instr)) → OpcodeText first
    → (IsOf (next_of p) is next nested q → Numbered blocks (next_of p) (parts i) text is q) → IsOf p (i ∷ is) next nested q → Numbered blocks p [] (first ++ text) (i ∷ is) q
number_instr {text = text} {is = is} p q i next nested one after of = ⊎_elim
    (λ (same : q ≡ p). at_first text one same)
    (λ (other : IsOf (next_of p) is next nested q). after_first one (after other))
    (of_instr p q i is next nested of)

-- a block, the `else` or `end` after it, and then what comes after that
number_part : {blocks : List (List Instr)} {ps : List Part} {inner end text : List ℕ} (p q : BlockPosition) (is : List Instr) (label : Option ValType) (next : ℕ) (body : List Instr) (bs cs : List (List Instr))
    → slice_get blocks next ≡ Some body → Counted blocks [] inner body → OpcodeText end
    → (IsOf (begin_of next) body (next + 1) bs q → Numbered blocks (begin_of next) [] inner body q) → (IsOf p is (next + 1 + length bs) cs q → Numbered blocks p ps text is q)
    → IsOf p is next (body ∷ bs ++ cs) q → Numbered blocks p (part_of label next ∷ ps) (inner ++ (end ++ text)) is q
number_part {end = end} {text = text} p q is label next body bs cs is_body inside one within after of = ⊎_elim
    (λ (first : IsOf (begin_of next) body (next + 1) bs q). in_first (end ++ text) (part_of label next) body is_body (within first))
    (λ (other : IsOf p is (next + 1 + length bs) cs q). past_first (part_of label next) body is_body inside one (after other))
    (of_block p q is next body bs cs of)

pub numbered : {depth_left next : ℕ} {text : List ℕ} {instrs : List Instr} {nested : List (List Instr)} → Spells depth_left next text instrs nested → (blocks : List (List Instr)) → Holds blocks next nested
    → (p q : BlockPosition) → IsOf p instrs next nested q → Numbered blocks p [] text instrs q
numbered (none {next = next}) blocks holds p q of = absurd (none_of p q next of)
numbered (plain {next = next} {rest = rest} {i = i} {is = is} {bs = bs} one more) blocks holds p q of =
    number_instr p q i next bs (plain_text one)
    (λ other. subst (λ (ps : List Part). Numbered blocks (next_of p) ps rest is q) (sym (no_parts one)) (numbered more blocks holds (next_of p) q other)) of
numbered (block {next = next} {ty = ty} {body = body} {is = is} {bs = bs} {cs = cs} room first more) blocks holds p q of =
    let others = others_held blocks next body (bs ++ cs) holds in
    let front = front_held blocks (next + 1) bs cs others in
    number_instr p q _ next (body ∷ bs ++ cs) (begin_block ty)
    (number_part (next_of p) q is ty next body bs cs (first_held blocks next body (bs ++ cs) holds) (counted first blocks front) end_after
    (numbered first blocks front (begin_of next) q) (numbered more blocks (back_held blocks (next + 1) bs cs others) (next_of p) q)) of
numbered (loop {next = next} {ty = ty} {body = body} {is = is} {bs = bs} {cs = cs} room first more) blocks holds p q of =
    let others = others_held blocks next body (bs ++ cs) holds in
    let front = front_held blocks (next + 1) bs cs others in
    number_instr p q _ next (body ∷ bs ++ cs) (begin_loop ty)
    (number_part (next_of p) q is None next body bs cs (first_held blocks next body (bs ++ cs) holds) (counted first blocks front) end_after
    (numbered first blocks front (begin_of next) q) (numbered more blocks (back_held blocks (next + 1) bs cs others) (next_of p) q)) of
numbered (if_then {next = next} {ty = ty} {yes = body} {is = is} {bs = bs} {cs = cs} room first more) blocks holds p q of =
    let others = others_held blocks next body (bs ++ [] ∷ cs) holds in
    let front = front_held blocks (next + 1) bs ([] ∷ cs) others in
    let last = others_held blocks (next + 1 + length bs) [] cs (back_held blocks (next + 1) bs ([] ∷ cs) others) in
    number_instr p q _ next (body ∷ bs ++ [] ∷ cs) (begin_if ty)
    (number_part (next_of p) q is ty next body bs ([] ∷ cs) (first_held blocks next body (bs ++ [] ∷ cs) holds) (counted first blocks front) end_after
    (numbered first blocks front (begin_of next) q)
    (λ other. numbered more blocks last (next_of p) q (of_empty (next_of p) q is (next + 1 + length bs) cs other))) of
numbered (if_else {next = next} {ty = ty} {first = inner} {second = between} {rest = rest} {yes = body} {no = otherwise} {is = is} {bs = bs} {cs = cs} {ds = ds} room first other more) blocks holds p q of =
    let made = If ty next (next + 1 + length bs) Present in
    let right = subst (Holds blocks next) (blocks_assoc body bs otherwise cs ds) holds in
    let others = others_held blocks next body (bs ++ (otherwise ∷ (cs ++ ds))) right in
    let front = front_held blocks (next + 1) bs (otherwise ∷ (cs ++ ds)) others in
    let second = back_held blocks (next + 1) bs (otherwise ∷ (cs ++ ds)) others in
    let last = others_held blocks (next + 1 + length bs) otherwise (cs ++ ds) second in
    let within = front_held blocks (next + 1 + length bs + 1) cs ds last in
    subst (λ (xs : List ℕ). Numbered blocks p [] xs (made ∷ is) q) (sym (else_text ty inner between rest))
    (number_instr p q made next (body ∷ (bs ++ (otherwise ∷ (cs ++ ds)))) (begin_if ty)
    (number_part (next_of p) q is ty next body bs (otherwise ∷ (cs ++ ds)) (first_held blocks next body (bs ++ (otherwise ∷ (cs ++ ds))) right) (counted first blocks front) else_between
    (numbered first blocks front (begin_of next) q)
    (number_part (next_of p) q is ty (next + 1 + length bs) otherwise cs ds (first_held blocks (next + 1 + length bs) otherwise (cs ++ ds) second) (counted other blocks within) end_after
    (numbered other blocks within (begin_of (next + 1 + length bs)) q)
    (numbered more blocks (back_held blocks (next + 1 + length bs + 1) cs ds last) (next_of p) q)))
    (subst (λ (xs : List (List Instr)). IsOf p (made ∷ is) next xs q) (blocks_assoc body bs otherwise cs ds) of))
