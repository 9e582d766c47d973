-- The subcommand that was met, and what its words mean.
use Rattle.std.proofs.Common.{◌≡◌, ℕ, zero, suc, ◌<◌, ◌≤◌, inl, inr, true, false, List, [], ◌∷◌, ◌++◌, codes, length, get_or, map, Option, None, Some, option_map, refl, sym, ap, ap₂, subst, ◌∙◌, arith, Bor}
use Rattle.std.specs.Prelude.{Contains, IfSome}
use Rattle.std.specs.Str.{bytes_eq}
use Rattle.std.proofs.lemmas.List.{length-map}
use Rattle.std.proofs.lemmas.Slice.Eq.{bytes_eq-Decides}
use Rattle.std.proofs.lemmas.Option.{same_Some}
use Rattle.clap.specs.Words.{Row, Text, first_of, first_value, found_of, rows_of, subcommand_name_of, subcommand_rows_of}
use Rattle.clap.specs.declared.parser.matches.ArgMatches.{ArgMatches}
use Rattle.clap.specs.declared.parser.matches.Found.{Found}
use Rattle.clap.proofs.WalkLemmas.{first_value-rows}
use Rattle.wm_command.specs.Commands.{HasFields, IsNamed, LacksField, LacksFields, Means, NamesNoCommand, absent_of, fields_of, name_of, required_of}
use Rattle.wm_command.specs.declared.command.Command.{Command}
use Rattle.wm_command.specs.declared.command.Command.TheVariants.{OfRun, OfDocument, Witness, Stream, Drive, Trace, Run, Explore, Witnesses, Help, Version}
use Rattle.wm_command.specs.declared.command.WitnessWords.TheVariants.{One, Two, Three}
use Rattle.wm_command.specs.declared.command.DocumentTask.TheVariants as document
use Rattle.wm_command.specs.declared.command.LineTask.TheVariants as line
use Rattle.wm_command.specs.declared.command.RunTask.TheVariants as run

-- the first parts of pairs
first_parts : {X Y Z : Type 0} (f : X → Y) (g : X → Z) (o : Option X) → option_map f o ≡ option_map (λ (p : Y × Z). p.0) (option_map (λ x. (f x, g x)) o)
first_parts f g None = refl
first_parts f g (Some x) = refl

pair_of : (o : Option (Text × List Row)) (name : Text) (rows : List Row) → Some name ≡ option_map (λ (p : Text × List Row). p.0) o → Some rows ≡ option_map (λ (p : Text × List Row). p.1) o → o ≡ Some (name, rows)
pair_of None name rows h k = absurd cc
pair_of (Some p) name rows h k = let a : p.0 ≡ name = cc in let b : p.1 ≡ rows = cc in ap₂ (λ (x : Text) (y : List Row). Some (x, y)) a b

-- its name and its rows
pub entered_is : (m : ArgMatches) (r : Option (Bor Text × Bor ArgMatches)) (name : Bor Text) (words : Bor ArgMatches) → r ≡ Some (name, words)
    → option_map (λ (p : Bor Text × Bor ArgMatches). p.0.now) r ≡ subcommand_name_of m
    → option_map (λ (p : Bor Text × Bor ArgMatches). rows_of (found_of p.1.now)) r ≡ option_map (λ (p : Text × List Row). p.1) (subcommand_rows_of m)
    → subcommand_rows_of m ≡ Some (name.now, rows_of (found_of words.now))
entered_is m r name words is named rows =
    pair_of (subcommand_rows_of m) name.now (rows_of (found_of words.now))
    (sym (ap (option_map (λ (p : Bor Text × Bor ArgMatches). p.0.now)) is) ∙ named ∙ first_parts _ _ _)
    (sym (ap (option_map (λ (p : Bor Text × Bor ArgMatches). rows_of (found_of p.1.now))) is) ∙ rows)

-- the value of a word, or that it has none
pub value_is : (f : Found) (id : Text) (o : Option (Bor Text)) (v : Bor Text) → o ≡ Some v → option_map (λ (s : Bor Text). s.now) o ≡ first_value f id → first_of id (rows_of f) ≡ Some v.now
value_is f id o v is got = sym (first_value-rows f id) ∙ sym got ∙ ap (option_map (λ (s : Bor Text). s.now)) is

pub no_value : (f : Found) (id : Text) (o : Option (Bor Text)) → o ≡ None → option_map (λ (s : Bor Text). s.now) o ≡ first_value f id → first_of id (rows_of f) ≡ None
no_value f id o is got = sym (first_value-rows f id) ∙ sym got ∙ ap (option_map (λ (s : Bor Text). s.now)) is

pub some_value : (f : Found) (id : Text) (o : Option (Bor Text)) → option_map (λ (s : Bor Text). s.now) o ≡ first_value f id → IfSome o (λ v. first_of id (rows_of f) ≡ Some v.now)
some_value f id None got = tt
some_value f id (Some v) got = value_is f id (Some v) v refl got

-- one subcommand has one name and one list of rows
parts : (found : Option (Text × List Row)) (name other : Text) (rows others : List Row) → found ≡ Some (name, rows) → found ≡ Some (other, others) → (name ≡ other) × (rows ≡ others)
parts found name other rows others is also =
    let same = same_Some (name, rows) (other, others) (sym is ∙ also) in
    (ap (λ (p : Text × List Row). p.0) same, ap (λ (p : Text × List Row). p.1) same)

-- the fields of each command begin with the words that its form requires
fields_begin : (command : Command) → (others : List Text) × (map (λ (field : Text × Text). field.0) (fields_of command) ≡ required_of (name_of command) ++ others)
fields_begin (OfRun run.Check m d) = ([], refl)
fields_begin (OfRun run.Complete m d) = ([], refl)
fields_begin (OfRun run.Verify m d) = ([], refl)
fields_begin (OfRun run.Races m d) = (codes "document" ∷ [], refl)
fields_begin (OfRun run.Explain m d) = (codes "document" ∷ [], refl)
fields_begin (OfRun run.Graph m d) = (codes "document" ∷ [], refl)
fields_begin (OfDocument document.Rules d) = ([], refl)
fields_begin (OfDocument document.Migrate d) = ([], refl)
fields_begin (OfDocument document.Races d) = ([], refl)
fields_begin (OfDocument document.Explain d) = ([], refl)
fields_begin (OfDocument document.Graph d) = ([], refl)
fields_begin (Witness (One a)) = ([], refl)
fields_begin (Witness (Two a b)) = (codes "document" ∷ [], refl)
fields_begin (Witness (Three a b c)) = (codes "document" ∷ codes "nodes" ∷ [], refl)
fields_begin (Stream line.Verify m) = ([], refl)
fields_begin (Stream line.Witness m) = ([], refl)
fields_begin (Drive m t) = ([], refl)
fields_begin (Trace m t) = ([], refl)
fields_begin (Run m r) = ([], refl)
fields_begin (Explore m n) = ([], refl)
fields_begin (Witnesses m n) = ([], refl)
fields_begin Help = ([], refl)
fields_begin Version = ([], refl)

-- no field that has a value lacks one
has_or_lacks : (rows : List Row) (fields : List (Text × Text)) → HasFields rows fields → LacksField rows (map (λ (field : Text × Text). field.0) fields) → ⊥
has_or_lacks rows [] has lacks = lacks
has_or_lacks rows (field ∷ fields) has (inl none) = let no : None ≡ Some field.1 = sym none ∙ has.0 in absurd cc
has_or_lacks rows (field ∷ fields) has (inr lacks) = has_or_lacks rows fields has.1 lacks

-- what lacks one of some words lacks one of more
lacks_more : (rows : List Row) (ids others : List Text) → LacksField rows ids → LacksField rows (ids ++ others)
lacks_more rows [] others lacks = absurd lacks
lacks_more rows (id ∷ ids) others (inl none) = inl none
lacks_more rows (id ∷ ids) others (inr lacks) = inr (lacks_more rows ids others lacks)

-- a subcommand that lacks a word that its form requires is no command
pub no_command : (name : Text) (rows : List Row) (ids : List Text) → required_of name ≡ ids → LacksField rows ids → NamesNoCommand name rows
no_command name rows ids are lacks command is =
    let same = sym are ∙ ap required_of is.0 in
    let begin = fields_begin command in
    has_or_lacks rows (fields_of command) is.1
    (subst (LacksField rows) (ap (λ xs. xs ++ begin.0) same ∙ sym begin.1) (lacks_more rows ids begin.0 lacks))

-- the command of a subcommand's name and rows is that of the subcommand
pub means_some : (o : Option Command) (found : Option (Text × List Row)) (name : Text) (rows : List Row) → found ≡ Some (name, rows)
    → IfSome o (IsNamed name rows) → IfSome o (Means found)
means_some None found name rows is named = tt
means_some (Some command) found name rows is named = (rows, is ∙ ap (λ (t : Text). Some (t, rows)) named.0, named.1, named.2)

pub means_none : (found : Option (Text × List Row)) (name : Text) (rows : List Row) → found ≡ Some (name, rows)
    → NamesNoCommand name rows → (command : Command) → Means found command → ⊥
means_none found name rows is none command means =
    let same = parts found name (name_of command) rows means.0 is means.1 in
    none command (
      same.0,
      subst (λ (r : List Row). HasFields r (fields_of command)) (sym same.1) means.2,
      subst (λ (r : List Row). LacksFields r (absent_of command)) (sym same.1) means.3,
    )

-- a word is there as a text where one of the words is that text
word_at : (ws : List (Bor Text)) (t : Text) (k : ℕ) → k < length ws → ((d : Bor Text) → bytes_eq (get_or ws k d).now t ≡ true) → get_or (map (λ (w : Bor Text). w.now) ws) k t ≡ t
word_at [] t k below same = absurd (omega arith)
word_at (w ∷ ws) t zero below same = (bytes_eq-Decides w.now t).0 (same w)
word_at (w ∷ ws) t (suc k) below same = word_at ws t k (omega arith) same

no_word_at : (ws : List (Bor Text)) (t : Text) (k : ℕ) → k < length ws → ((d : Bor Text) → bytes_eq (get_or ws k d).now t ≡ false) → get_or (map (λ (w : Bor Text). w.now) ws) k t ≡ t → ⊥
no_word_at [] t k below other is = absurd (omega arith)
no_word_at (w ∷ ws) t zero below other is = let both : true ≡ false = sym ((bytes_eq-Decides w.now t).1 is) ∙ other w in cc
no_word_at (w ∷ ws) t (suc k) below other is = no_word_at ws t k (omega arith) other is

pub has_word : (ws : List (Bor Text)) (t : Text) (k : ℕ) → k < length ws → ((d : Bor Text) → bytes_eq (get_or ws k d).now t ≡ true) → Contains (map (λ (w : Bor Text). w.now) ws) t
has_word ws t k below same = (k, omega (arith, below, length-map ws (λ (w : Bor Text). w.now)), word_at ws t k below same)

pub has_no_word : (ws : List (Bor Text)) (t : Text) → ((k : ℕ) (d : Bor Text) → 0 ≤ k → k < length ws → bytes_eq (get_or ws k d).now t ≡ false) → Contains (map (λ (w : Bor Text). w.now) ws) t → ⊥
has_no_word ws t none has =
    let below : has.0 < length ws = omega (arith, has.1, length-map ws (λ (w : Bor Text). w.now)) in
    no_word_at ws t has.0 below (λ d. none has.0 d (omega arith) below) has.2
