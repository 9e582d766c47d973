-- Where an opcode begins, by the body of its function.
use Rattle.std.proofs.Common.{◌≡◌, ℕ, ◌+◌, List, ◌++◌, length, drop, slice_get, Some, None, refl, sym, ap, subst, ◌∙◌, append_assoc, length-append, arith}
use Rattle.std.proofs.lemmas.Option.{none-some, same_Some}
use Rattle.wm_module_bytes.proofs.Steps.{dropped}
use Rattle.wm_sites.specs.Bodies.{AreBodies, AreOpcodes, BodyBegins, OpcodeFollows}
use Rattle.wm_sites.specs.Offsets.{OpcodeBegins}
use Rattle.wm_sites.specs.Sites.{AreOffsets}

module _ {bytes : List ℕ} {f n offset : ℕ} (o : OpcodeBegins bytes f n offset) where
  abbrev pub body_offset : ℕ
  body_offset = length o.front + (length o.body.bodies + length o.body.size)

  regroup_body : (bodies size count locals opcodes after : List ℕ) → (bodies ++ (size ++ (count ++ locals))) ++ (opcodes ++ after) ≡ bodies ++ (size ++ ((count ++ locals) ++ (opcodes ++ after)))
  regroup_body bodies size count locals opcodes after = simp append_assoc

  items_are : o.items ≡ o.body.bodies ++ (o.body.size ++ ((o.body.count ++ o.body.locals) ++ (o.opcodes ++ o.body.after)))
  items_are =
      o.body.parts ∙ ap (λ (xs : List ℕ). xs ++ (o.opcodes ++ o.body.after)) o.body.before_is
      ∙ regroup_body o.body.bodies o.body.size o.body.count o.body.locals o.opcodes o.body.after

  pub begins_body : BodyBegins bytes f body_offset
  begins_body = record {
    front = o.front;
    items = o.items;
    section = o.section;
    is_function = o.is_function;
    bodies = o.body.bodies;
    size = o.body.size;
    content = length (o.body.count ++ (o.body.locals ++ o.opcodes));
    rest = (o.body.count ++ o.body.locals) ++ (o.opcodes ++ o.body.after);
    parts = items_are;
    earlier = o.body.earlier;
    sized = o.body.sized;
    is_offset = refl;
  }

  abbrev rest : List ℕ
  rest = (o.text ++ o.later) ++ (o.body.after ++ o.section.after)

  regroup : (front bodies size locals earlier text after more : List ℕ)
      → front ++ ((bodies ++ (size ++ (locals ++ ((earlier ++ text) ++ after)))) ++ more) ≡ (front ++ (bodies ++ size)) ++ (locals ++ (earlier ++ (text ++ (after ++ more))))
  regroup front bodies size locals earlier text after more = simp append_assoc

  abbrev all_before : List ℕ
  all_before = o.front ++ (o.body.bodies ++ o.body.size)

  bytes_are : bytes ≡ all_before ++ ((o.body.count ++ o.body.locals) ++ (o.earlier ++ rest))
  bytes_are =
      o.section.parts ∙ ap (λ (xs : List ℕ). o.front ++ (xs ++ o.section.after)) items_are
      ∙ ap (λ (xs : List ℕ). o.front ++ ((o.body.bodies ++ (o.body.size ++ ((o.body.count ++ o.body.locals) ++ (xs ++ o.body.after)))) ++ o.section.after)) o.parts
      ∙ regroup o.front o.body.bodies o.body.size (o.body.count ++ o.body.locals) o.earlier (o.text ++ o.later) o.body.after o.section.after

  place : body_offset ≡ 0 + length all_before
  place = omega (arith, length-append o.front (o.body.bodies ++ o.body.size), length-append o.body.bodies o.body.size)

  pub begins_after : OpcodeFollows bytes body_offset n offset
  begins_after = record {
    locals = o.body.count ++ o.body.locals;
    earlier = o.earlier;
    rest = rest;
    parts = ap (λ (k : ℕ). drop k bytes) place ∙ dropped bytes 0 all_before ((o.body.count ++ o.body.locals) ++ (o.earlier ++ rest)) bytes_are;
    declared = record {
      count = o.body.count;
      locals = o.body.locals;
      declarations = o.body.declarations;
      types = o.body.types;
      parts = refl;
      counted = o.body.counted;
      declared = o.body.declared;
    };
    skipped = o.skipped;
    is_offset = omega (arith, o.is_offset, ap length o.body.before_is, length-append o.body.bodies (o.body.size ++ (o.body.count ++ o.body.locals)), length-append o.body.size (o.body.count ++ o.body.locals));
  }

-- the offsets in a body are those of its function
pub offsets_found : (bytes : List ℕ) (f body count : ℕ) (bodies offsets : List ℕ) → AreBodies bytes bodies → slice_get bodies f ≡ Some body → AreOpcodes bytes body count offsets → AreOffsets bytes f count offsets
offsets_found bytes f body count bodies offsets are is opcodes n at begins below =
    let same : body_offset begins ≡ body = same_Some (body_offset begins) body (sym (are f (body_offset begins) (begins_body begins)) ∙ is) in
    opcodes n at (subst (λ (x : ℕ). OpcodeFollows bytes x n at) same (begins_after begins)) below

-- a function without a body has no opcode that begins in the bytes
pub no_offsets : (bytes : List ℕ) (f count : ℕ) (bodies offsets : List ℕ) → AreBodies bytes bodies → slice_get bodies f ≡ None → AreOffsets bytes f count offsets
no_offsets bytes f count bodies offsets are none n at begins below = absurd (none-some (body_offset begins) (sym none ∙ are f (body_offset begins) (begins_body begins)))
