-- The number of an instruction, from its block's outwards.
use Rattle.std.proofs.Common.{◌≡◌, ℕ, ◌+◌, ◌-◌, ◌^◌, ◌≤◌, min, List, [], ◌∷◌, ◌++◌, Option, Some, refl, sym, subst, slice_get, Result, Ok, Err, inl, inr, ◌∙◌, arith}
use Rattle.std.specs.Prelude.{IfErr}
use Rattle.wm_ast.specs.declared.types.ValType.{ValType}
use Rattle.wm_ast.specs.declared.instr.Else.{Else}
use Rattle.wm_ast.specs.declared.instr.Else.TheVariants.{Present, Absent}
use Rattle.wm_ast.specs.declared.instr.Instr.{Instr}
use Rattle.wm_ast.specs.declared.instr.Instr.TheVariants.{Block, Loop, If}
use Rattle.wm_valid.specs.InstrTypes.{Context, Labels}
use Rattle.wm_valid.specs.Locations.{Part, parts, Opcodes, none, instr, part, At, here, behind, in_part, past_part, IsEnd, last, end_behind, end_in_part, end_past_part, number_of, BreaksRule, KeepsOthers, FaultyAt}
use Rattle.wm_valid.specs.Implements.{IsUntyped, BrokenBy, Counted, Located, Counts, CountedBlock, LocatedBlock, CountsBlock, StopsAt, LocatedNested, CountedElse, LocatedElse}
use Rattle.wm_valid.specs.declared.fault.FaultKind.{FaultKind}
use Rattle.wm_valid.specs.declared.fault.InstrFault.{InstrFault}
use Rattle.wm_valid.specs.declared.fault.InstrFault.TheVariants.{Breaks, OutOfMemory}
use Rattle.wm_valid.proofs.BodyLaws.{IsPlain}

zero_plus : (l : ℕ) → l ≡ 0 + l
zero_plus l = omega arith

one_plus : (k l : ℕ) → 1 + (k + l) ≡ 1 + k + l
one_plus k l = omega arith

regroup : (j k l : ℕ) → j + 1 + (k + l) ≡ j + 1 + k + l
regroup j k l = omega arith

-- an instruction after others
past : {blocks : List (List Instr)} {ps : List Part} {is : List Instr} {k : ℕ} (labels under : Labels) (rest : List Instr) (l : ℕ) (i : Instr) → Opcodes blocks ps is k → At blocks labels [] rest l i under
    → At blocks labels ps (is ++ rest) (k + l) i under
past {blocks} labels under rest l i none a = subst (λ (n : ℕ). At blocks labels [] rest n i under) (zero_plus l) a
past {blocks} labels under rest l i (instr {i = first} {rest = is} {k = k} ops) a =
    subst (λ (n : ℕ). At blocks labels [] (first ∷ is ++ rest) n i under) (one_plus k l) (behind (past labels under rest l i ops a))
past {blocks} labels under rest l i (part {p = p} {ps = ps} {rest = is} {j = j} {k = k} body there inner ops) a =
    subst (λ (n : ℕ). At blocks labels (p ∷ ps) (is ++ rest) n i under) (regroup j k l) (past_part body there inner (past labels under rest l i ops a))

-- an `else` or an `end` after others
end_past : {blocks : List (List Instr)} {ps : List Part} {is : List Instr} {k : ℕ} (rest : List Instr) (l : ℕ) → Opcodes blocks ps is k → IsEnd blocks [] rest l → IsEnd blocks ps (is ++ rest) (k + l)
end_past {blocks} rest l none a = subst (λ (n : ℕ). IsEnd blocks [] rest n) (zero_plus l) a
end_past {blocks} rest l (instr {i = first} {rest = is} {k = k} ops) a =
    subst (λ (n : ℕ). IsEnd blocks [] (first ∷ is ++ rest) n) (one_plus k l) (end_behind (end_past rest l ops a))
end_past {blocks} rest l (part {p = p} {ps = ps} {rest = is} {j = j} {k = k} body there inner ops) a =
    subst (λ (n : ℕ). IsEnd blocks (p ∷ ps) (is ++ rest) n) (regroup j k l) (end_past_part body there inner (end_past rest l ops a))

-- the `end` after everything that was counted
end_of : {blocks : List (List Instr)} {ps : List Part} {is : List Instr} {k : ℕ} → Opcodes blocks ps is k → IsEnd blocks ps is k
end_of none = last
end_of (instr ops) = end_behind (end_of ops)
end_of (part body there inner ops) = end_past_part body there inner (end_of ops)

count_past : {blocks : List (List Instr)} {ps : List Part} {is : List Instr} {k : ℕ} (rest : List Instr) (l : ℕ) → Opcodes blocks ps is k → Opcodes blocks [] rest l → Opcodes blocks ps (is ++ rest) (k + l)
count_past {blocks} rest l none a = subst (λ (n : ℕ). Opcodes blocks [] rest n) (zero_plus l) a
count_past {blocks} rest l (instr {i = first} {rest = is} {k = k} ops) a =
    subst (λ (n : ℕ). Opcodes blocks [] (first ∷ is ++ rest) n) (one_plus k l) (instr (count_past rest l ops a))
count_past {blocks} rest l (part {p = p} {ps = ps} {rest = is} {j = j} {k = k} body there inner ops) a =
    subst (λ (n : ℕ). Opcodes blocks (p ∷ ps) (is ++ rest) n) (regroup j k l) (part body there inner (count_past rest l ops a))

number_more : (m first a b mid next : ℕ) → mid ≡ min (first + a) m → next ≡ min (mid + b) m → next ≡ min (first + (a + b)) m
number_more m first a b mid next e f = omega arith

pub counted_none : (blocks : List (List Instr)) (first : ℕ) → first ≤ 2 ^ 64 - 1 → Counted blocks [] first first
counted_none blocks first fits = record { opcodes = 0; are_opcodes = none; is_next = fitting first (2 ^ 64 - 1) fits }
  where
    fitting : (first m : ℕ) → first ≤ m → first ≡ min (first + 0) m
    fitting first m h = omega arith

pub counted_more : (blocks : List (List Instr)) (before : List Instr) (i : Instr) (first mid next : ℕ) → Counted blocks before first mid → Counted blocks (i ∷ []) mid next → Counted blocks (before ++ i ∷ []) first next
counted_more blocks before i first mid next a b = record {
  opcodes = a.opcodes + b.opcodes;
  are_opcodes = count_past (i ∷ []) b.opcodes a.are_opcodes b.are_opcodes;
  is_next = number_more (2 ^ 64 - 1) first a.opcodes b.opcodes mid next a.is_next b.is_next;
}

faulty_more : (C : Context) (labels : Labels) (before rest : List Instr) (kind : FaultKind) (first mid n : ℕ) → Counted C.blocks before first mid → FaultyAt C labels rest kind mid n → FaultyAt C labels (before ++ rest) kind first n
faulty_more C labels before rest kind first mid n a (inl b) = inl (record {
  number = a.opcodes + b.number;
  instr = b.instr;
  under = b.under;
  at = past labels b.under rest b.number b.instr a.are_opcodes b.at;
  breaks = b.breaks;
  is_number = number_more (2 ^ 64 - 1) first a.opcodes b.number mid n a.is_next b.is_number;
})
faulty_more C labels before rest kind first mid n a (inr b) = inr (
  b.0,
  record {
    number = a.opcodes + b.1.number;
    end = end_past rest b.1.number a.are_opcodes b.1.end;
    is_number = number_more (2 ^ 64 - 1) first a.opcodes b.1.number mid n a.is_next b.1.is_number;
  },
)

-- a fault in a block's body is one of the block
pub located_block : (e : InstrFault) (C : Context) (labels : Labels) (block : ℕ) (before after : List Instr) (i : Instr) (first mid n : ℕ) → slice_get C.blocks block ≡ Some (before ++ i ∷ after) → Counted C.blocks before first mid
    → Located C labels (i ∷ []) mid n e → LocatedBlock C labels block first n e
located_block OutOfMemory C labels block before after i first mid n there a h = tt
located_block (Breaks kind) C labels block before after i first mid n there a h = (before ++ i ∷ after, there, faulty_more C labels before (i ∷ after) kind first mid n a (h after))

-- what was counted stays so if the refusal is an allocation failure
pub counts : {X : Type 0} (r : Result X InstrFault) (C : Context) (labels : Labels) (is : List Instr) (first n : ℕ) → IfErr r (λ e. e ≡ OutOfMemory) → Counted C.blocks is first n → Counts r C labels is first n
counts (Ok x) C labels is first n kind h = h
counts (Err e) C labels is first n kind h = subst (Located C labels is first n) (sym kind) tt

-- the operands of a block are wrong at its end
at_end : (e : InstrFault) (C : Context) (labels : Labels) (block first n : ℕ) → IsUntyped e → CountedBlock C block first n → LocatedBlock C labels block first n e
at_end OutOfMemory C labels block first n kind h = tt
at_end (Breaks other) C labels block first n kind h = (h.0, h.1, inr (kind, record { number = h.2.opcodes; end = end_of h.2.are_opcodes; is_number = h.2.is_next }))

pub counts_block : {X : Type 0} (r : Result X InstrFault) (C : Context) (labels : Labels) (block first n : ℕ) → IfErr r IsUntyped → CountedBlock C block first n → CountsBlock r C labels block first n
counts_block (Ok x) C labels block first n kind h = h
counts_block (Err e) C labels block first n kind h = at_end e C labels block first n kind h

plain_parts : (i : Instr) → IsPlain i → parts i ≡ []
plain_parts (Block t b) h = absurd h
plain_parts (Loop t b) h = absurd h
plain_parts (If t one other p) h = absurd h
plain_parts _ h = refl

pub plain_counted : (blocks : List (List Instr)) (i : Instr) (first next : ℕ) → IsPlain i → next ≡ number_of (first + 1) → Counted blocks (i ∷ []) first next
plain_counted blocks i first next h e = record {
  opcodes = 1 + 0;
  are_opcodes = instr (subst (λ (ps : List Part). Opcodes blocks ps [] 0) (sym (plain_parts i h)) none);
  is_next = e;
}

pub plain_located : (e : InstrFault) (C : Context) (labels : Labels) (i : Instr) (first : ℕ) → first ≤ 2 ^ 64 - 1 → BrokenBy C labels i e → Located C labels (i ∷ []) first first e
plain_located OutOfMemory C labels i first fits h = tt
plain_located (Breaks kind) C labels i first fits h = λ after. inl (record { number = 0; instr = i; under = labels; at = here; breaks = h; is_number = fitting first (2 ^ 64 - 1) fits })
  where
    fitting : (first m : ℕ) → first ≤ m → first ≡ min (first + 0) m
    fitting first m h = omega arith

number_inside : (m first p j mid next : ℕ) → p ≡ min (first + 1) m → mid ≡ min (p + j) m → next ≡ min (mid + 1) m → next ≡ min (first + (1 + (j + 1 + 0))) m
number_inside m first p j mid next e f g = omega arith

-- an instruction with one block
pub one_part : (C : Context) (i : Instr) (t : Option ValType) (b first p mid next : ℕ) → parts i ≡ record { label = t; block = b } ∷ [] → p ≡ number_of (first + 1) → CountedBlock C b p mid → next ≡ number_of (mid + 1)
    → Counted C.blocks (i ∷ []) first next
one_part C i t b first p mid next is e h f = record {
  opcodes = 1 + (h.2.opcodes + 1 + 0);
  are_opcodes = instr (subst (λ (ps : List Part). Opcodes C.blocks ps [] (h.2.opcodes + 1 + 0)) (sym is) (part h.0 h.1 h.2.are_opcodes none));
  is_next = number_inside (2 ^ 64 - 1) first p h.2.opcodes mid next e h.2.is_next f;
}

number_first : (m first p k n : ℕ) → p ≡ min (first + 1) m → n ≡ min (p + k) m → n ≡ min (first + (1 + k)) m
number_first m first p k n e f = omega arith

-- an instruction that keeps the rules but that of types, at which the refusal stops
pub stops_located : (e : InstrFault) (C : Context) (labels : Labels) (i : Instr) (first n : ℕ) → first ≤ 2 ^ 64 - 1 → KeepsOthers C labels i → StopsAt e first n → Located C labels (i ∷ []) first n e
stops_located OutOfMemory C labels i first n fits keeps h = tt
stops_located (Breaks kind) C labels i first n fits keeps h =
    let broken : BrokenBy C labels i (Breaks kind) = subst (BreaksRule C labels i) (sym h.0) keeps in
    subst (λ (k : ℕ). Located C labels (i ∷ []) first k (Breaks kind)) (sym h.1) (plain_located (Breaks kind) C labels i first fits broken)

-- a fault in an instruction's first block
inside_first : (C : Context) (labels : Labels) (i : Instr) (t : Option ValType) (b : ℕ) (ps : List Part) (kind : FaultKind) (first n : ℕ) (body after : List Instr) → parts i ≡ record { label = t; block = b } ∷ ps
    → slice_get C.blocks b ≡ Some body → FaultyAt C (t ∷ labels) body kind (number_of (first + 1)) n → FaultyAt C labels (i ∷ after) kind first n
inside_first C labels i t b ps kind first n body after is there (inl r) = inl (record {
  number = 1 + r.number;
  instr = r.instr;
  under = r.under;
  at = behind (subst (λ (qs : List Part). At C.blocks labels qs after r.number r.instr r.under) (sym is) (in_part body there r.at));
  breaks = r.breaks;
  is_number = number_first (2 ^ 64 - 1) first (number_of (first + 1)) r.number n refl r.is_number;
})
inside_first C labels i t b ps kind first n body after is there (inr r) = inr (
  r.0,
  record {
    number = 1 + r.1.number;
    end = end_behind (subst (λ (qs : List Part). IsEnd C.blocks qs after r.1.number) (sym is) (end_in_part body there r.1.end));
    is_number = number_first (2 ^ 64 - 1) first (number_of (first + 1)) r.1.number n refl r.1.is_number;
  },
)

pub first_located : (e : InstrFault) (C : Context) (labels : Labels) (i : Instr) (t : Option ValType) (b : ℕ) (ps : List Part) (first n : ℕ) → first ≤ 2 ^ 64 - 1 → parts i ≡ record { label = t; block = b } ∷ ps → KeepsOthers C labels i
    → LocatedNested C (t ∷ labels) b first n e → Located C labels (i ∷ []) first n e
first_located e C labels i t b ps first n fits is keeps (inl stop) = stops_located e C labels i first n fits keeps stop
first_located OutOfMemory C labels i t b ps first n fits is keeps (inr h) = tt
first_located (Breaks kind) C labels i t b ps first n fits is keeps (inr h) = λ after. inside_first C labels i t b ps kind first n h.0 after is h.1 h.2

pub if_first_located : (e : InstrFault) (C : Context) (labels : Labels) (t : Option ValType) (one other : ℕ) (part : Else) (first n : ℕ) → first ≤ 2 ^ 64 - 1 → LocatedNested C (t ∷ labels) one first n e
    → Located C labels (If t one other part ∷ []) first n e
if_first_located e C labels t one other Present first n fits h =
    first_located e C labels (If t one other Present) t one (record { label = t; block = other } ∷ []) first n fits refl ((λ z. z), (λ z. z), (λ z. z), (λ p z. z)) h
if_first_located e C labels t one other Absent first n fits h = first_located e C labels (If t one other Absent) t one [] first n fits refl ((λ z. z), (λ z. z), (λ z. z), (λ p z. z)) h

number_two : (m first p j mid k mid2 next : ℕ) → p ≡ min (first + 1) m → mid ≡ min (p + j) m → mid2 ≡ min (min (mid + 1) m + k) m → next ≡ min (mid2 + 1) m → next ≡ min (first + (1 + (j + 1 + (k + 1 + 0)))) m
number_two m first p j mid k mid2 next e f g h = omega arith

pub if_counted : (C : Context) (t : Option ValType) (one other : ℕ) (part : Else) (first p mid mid2 next : ℕ) → p ≡ number_of (first + 1) → CountedBlock C one p mid → CountedElse C other part mid mid2 → next ≡ number_of (mid2 + 1)
    → Counted C.blocks (If t one other part ∷ []) first next
if_counted C t one other Present first p mid mid2 next e h g f = record {
  opcodes = 1 + (h.2.opcodes + 1 + (g.2.opcodes + 1 + 0));
  are_opcodes = instr (part h.0 h.1 h.2.are_opcodes (part g.0 g.1 g.2.are_opcodes none));
  is_next = number_two (2 ^ 64 - 1) first p h.2.opcodes mid g.2.opcodes mid2 next e h.2.is_next g.2.is_next f;
}
if_counted C t one other Absent first p mid mid2 next e h g f =
    one_part C (If t one other Absent) t one first p mid next refl e h (subst (λ (q : ℕ). next ≡ number_of (q + 1)) g f)

number_second : (m first j mid k n : ℕ) → mid ≡ min (min (first + 1) m + j) m → n ≡ min (min (mid + 1) m + k) m → n ≡ min (first + (1 + (j + 1 + k))) m
number_second m first j mid k n e f = omega arith

number_between : (m first j mid : ℕ) → mid ≡ min (min (first + 1) m + j) m → mid ≡ min (first + (1 + j)) m
number_between m first j mid e = omega arith

-- a fault in the second block of an `if`
inside_second : (C : Context) (labels : Labels) (t : Option ValType) (one other : ℕ) (kind : FaultKind) (first mid n : ℕ) (body after : List Instr) → CountedBlock C one (number_of (first + 1)) mid → slice_get C.blocks other ≡ Some body
    → FaultyAt C (t ∷ labels) body kind (number_of (mid + 1)) n → FaultyAt C labels (If t one other Present ∷ after) kind first n
inside_second C labels t one other kind first mid n body after h there (inl r) = inl (record {
  number = 1 + (h.2.opcodes + 1 + r.number);
  instr = r.instr;
  under = r.under;
  at = behind (past_part h.0 h.1 h.2.are_opcodes (in_part body there r.at));
  breaks = r.breaks;
  is_number = number_second (2 ^ 64 - 1) first h.2.opcodes mid r.number n h.2.is_next r.is_number;
})
inside_second C labels t one other kind first mid n body after h there (inr r) = inr (
  r.0,
  record {
    number = 1 + (h.2.opcodes + 1 + r.1.number);
    end = end_behind (end_past_part h.0 h.1 h.2.are_opcodes (end_in_part body there r.1.end));
    is_number = number_second (2 ^ 64 - 1) first h.2.opcodes mid r.1.number n h.2.is_next r.1.is_number;
  },
)

-- a fault at the opcode after an instruction's first block
stops_behind : (e : InstrFault) (C : Context) (labels : Labels) (i : Instr) (t : Option ValType) (b : ℕ) (ps : List Part) (first mid n : ℕ) → parts i ≡ record { label = t; block = b } ∷ ps
    → CountedBlock C b (number_of (first + 1)) mid → StopsAt e mid n → Located C labels (i ∷ []) first n e
stops_behind OutOfMemory C labels i t b ps first mid n is h stop = tt
stops_behind (Breaks kind) C labels i t b ps first mid n is h stop = λ after. inr (
  stop.0,
  record {
    number = 1 + h.2.opcodes;
    end = end_behind (subst (λ (qs : List Part). IsEnd C.blocks qs after h.2.opcodes) (sym is) (end_in_part h.0 h.1 (end_of h.2.are_opcodes)));
    is_number = stop.1 ∙ number_between (2 ^ 64 - 1) first h.2.opcodes mid h.2.is_next;
  },
)

-- a fault in the else part of an `if`
pub if_else_located : (e : InstrFault) (C : Context) (labels : Labels) (t : Option ValType) (one other : ℕ) (part : Else) (first mid n : ℕ) → CountedBlock C one (number_of (first + 1)) mid → LocatedElse C labels other t part mid n e
    → Located C labels (If t one other part ∷ []) first n e
if_else_located e C labels t one other Absent first mid n h g = stops_behind e C labels (If t one other Absent) t one [] first mid n refl h g
if_else_located e C labels t one other Present first mid n h (inl g) = stops_behind e C labels (If t one other Present) t one (record { label = t; block = other } ∷ []) first mid n refl h g
if_else_located OutOfMemory C labels t one other Present first mid n h (inr g) = tt
if_else_located (Breaks kind) C labels t one other Present first mid n h (inr g) = λ after. inside_second C labels t one other kind first mid n g.0 after h g.1 g.2
