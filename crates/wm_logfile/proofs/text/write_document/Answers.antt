use Rattle.std.proofs.Common.{◌≡◌, ◌++◌, List, String, Global, refl, ap, ◌∙◌}
use Rattle.std.specs.Prelude.{string_bytes, IsUtf8}
use Rattle.std.proofs.Math.Logic.{∥∥₁_elim}
use Rattle.std.proofs.Props.{props}
use Rattle.json.specs.Lex.{tokens}
use Rattle.json.specs.Print.{print}
use Rattle.json.specs.Token.{Token}
use Rattle.serde_json.proofs.Texts.{print-outline}
use Rattle.wm_logfile.specs.Document.{document_2}
use Rattle.wm_logfile.specs.Document.IsDocument.{second}
use Rattle.wm_logfile.specs.Tokens.{tokens_of}
use Rattle.wm_logfile.proofs.Plain.{reads_back}
use Rattle.wm_logfile.proofs.text.write_document.Goals as goal

known : (c : goal.After-text_of) → c.write_whole.new.out.tokens ≡ tokens_of (document_2 c.args.log.now c.args.witness.now)
known c = c.in_ok-write_whole.ensures.1 ∙ ap (λ (ts : List Token). ts ++ tokens_of (document_2 c.threads.result.now c.args.witness.now)) c.new-out.ensures.tokens ∙ ap (λ log. tokens_of (document_2 log c.args.witness.now)) c.threads.ensures.value

pub returns-clause-text : goal.returns-clause-text
returns-clause-text c = c.text_of.ensures.text ∙ ap print (known c) ∙ print-outline (document_2 c.args.log.now c.args.witness.now)

text_is_utf8 : (s : String Global) → IsUtf8 (string_bytes s)
text_is_utf8 s = ∥∥₁_elim s.ok (hlevel props) (λ p. p)

pub returns-clause-again : goal.returns-clause-again
returns-clause-again c = λ small limits. record {
  small = small;
  spelled = record {
    utf8 = text_is_utf8 c.text_of.result;
    value = document_2 c.args.log.now c.args.witness.now;
    text = reads_back c.args.log.now c.args.witness.now (string_bytes c.text_of.result) limits (ap tokens c.text_of.ensures.text ∙ c.text_of.ensures.reads_back ∙ known c);
    spelled = second c.requires refl;
  };
  is_log = c.threads.ensures.log;
  limits = limits;
}
