use Rattle.std.proofs.Common.{◌≡◌, ◌∙◌, inl, inr, [], ap, codes, map, refl, subst, sym}
use Rattle.std.proofs.lemmas.Result.{err_from_is_err_and}
use Rattle.clap.specs.declared.error.Error.{Error}
use Rattle.clap.specs.Words.{HasKind, IsAmong, Kinds, app_of, fault_of, is_simple, is_simple_and_free, kind_of, subcommand_of, subcommand_rows_of}
use Rattle.wm_command.specs.declared.command.CommandFault.TheVariants.{Words}
use Rattle.wm_command.specs.Commands.{Means, fault_of_kind, wmlab_app}
use Rattle.wm_command.proofs.Entered.{has_no_word, has_word}
use Rattle.wm_command.proofs.command.read_command.Goals as goal

pub returns-then-contains-clause-refused : goal.returns-then-contains-clause-refused
returns-then-contains-clause-refused c = λ _ command is.
    let k = c.if-contains.ensures.cases in
    is.plain (has_word c.args.words.now (codes "--") k.0 k.1 k.2)

pub returns-in-Some-clause-read : goal.returns-in-Some-clause-read
returns-in-Some-clause-read c =
    let ws = map (λ w. w.now) c.args.words.now in
    let found = c.in_ok-matches.ensures.matches (ap is_simple c.in_ok-parser.ensures) in
    let rows_is : subcommand_rows_of c.in_ok-matches.matches ≡ subcommand_of wmlab_app ws = found.1 ∙ ap (λ a. subcommand_of a ws) c.in_ok-parser.ensures in
    let means = c.in-Some.ensures.some in
    let kinds = c.in_ok-matches.ensures.kinds (ap is_simple_and_free c.in_ok-parser.ensures) in
    let taken : fault_of wmlab_app ws ≡ [] = ap (λ a. fault_of a ws) (sym c.in_ok-parser.ensures) ∙ kinds in
    record {
      plain = has_no_word c.args.words.now (codes "--") c.if-contains.ensures.cases;
      taken = taken;
      means = rw (← rows_is) means;
    }

-- an error of a parse that doesn't fail is an allocation failure
no_words : (e : Error) (kinds : Kinds) → kinds ≡ [] → HasKind kinds e → fault_of_kind (kind_of e) ≡ Words → ⊥
no_words e kinds none (inl memory) words = let wrong = sym (ap fault_of_kind memory) ∙ words in absurd cc
no_words e kinds none (inr among) words = absurd (subst (IsAmong (kind_of e)) none among)

pub returns-in_err-matches-clause-refused : goal.returns-in_err-matches-clause-refused
returns-in_err-matches-clause-refused c = λ refused command is.
    let ws = map (λ w. w.now) c.args.words.now in
    let kinds = c.in_err-matches.ensures.kinds (ap is_simple_and_free c.in_ok-parser.ensures) in
    let none : fault_of (app_of c.in_ok-parser.field-0) ws ≡ [] = ap (λ a. fault_of a ws) c.in_ok-parser.ensures ∙ is.taken in
    let p = err_from_is_err_and c.from_residual-in_err-matches.result c.from_residual-in_err-matches.ensures.1 in
    let met = sym p.1 ∙ refused in
    let same : p.0 ≡ Words = cc in
    no_words c.in_err-matches.field-0.0 (fault_of (app_of c.in_ok-parser.field-0) ws) none kinds (sym p.2 ∙ same)

pub returns-clause-refused : goal.returns-clause-refused
returns-clause-refused c = λ _ command is.
    let ws = map (λ w. w.now) c.args.words.now in
    let found = c.in_ok-matches.ensures.matches (ap is_simple c.in_ok-parser.ensures) in
    let rows_is : subcommand_rows_of c.in_ok-matches.matches ≡ subcommand_of wmlab_app ws = found.1 ∙ ap (λ a. subcommand_of a ws) c.in_ok-parser.ensures in
    c.in-None.ensures.none refl command (subst (λ f. Means f command) (sym rows_is) is.means)
