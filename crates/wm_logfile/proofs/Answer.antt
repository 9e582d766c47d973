-- What the reader of a whole document answers.
use Rattle.std.proofs.Common.{◌≡◌, ◌<◌, ◌≤◌, inl, inr, List, ℕ, length, None, Some, Result, Ok, Err, refl, sym, subst, ◌∙◌, arith}
use Rattle.std.proofs.lemmas.Option.{none-some, same_Some}
use Rattle.std.specs.Prelude.{IfOk, IfErr, IsUtf8}
use Rattle.serde_json.specs.Data.{Data}
use Rattle.serde_json.specs.Read.{read}
use Rattle.wm_event.specs.declared.log.ThreadLog.{ThreadLog}
use Rattle.wm_event.specs.declared.witness.Witness.{Witness}
use Rattle.wm_logfile.specs.declared.fault.DocFault.{DocFault}
use Rattle.wm_logfile.specs.declared.fault.DocFault.TheVariants.{NotJson, BadShape, BadVersion, NumberRange, TooLarge, OutOfMemory, Misplaced}
use Rattle.wm_logfile.specs.Causes.{HasOtherVersion, HasTooManyThreads, IsCause, IsCauseIn, IsFaultOf, IsTextOf, IsTextWith, IsTooLarge}
use Rattle.wm_logfile.specs.DocumentBytes.{IsNoDocument}
use Rattle.wm_logfile.specs.Faults.{DocGives}
use Rattle.wm_event.specs.Log.{IsLog}
use Rattle.wm_logfile.specs.Document.{IsWithinLimits, Spells}
use Rattle.wm_logfile.specs.Reading.{document_at}
use Rattle.wm_logfile.specs.Taking.{TakenDocument}
use Rattle.wm_logfile.proofs.Whole.{is_document, only_one, none_spelled, refusal}

abbrev pub shown : List ThreadLog × Witness → List ThreadLog × Witness
shown p = (p.0, p.1)

-- the bytes are text of the value, of which the answer is given
pub record Answers (bytes : List ℕ) (d : Data) (r : Result (List ThreadLog × Witness) DocFault) : Type 0 where
  pub utf8 : IsUtf8 bytes
  pub text : read bytes ≡ Some d
  pub given : DocGives shown r (document_at d)

-- what quick reading takes is the answer to the value of the text
pub taken : (bytes : List ℕ) (p : List ThreadLog × Witness) → (h : TakenDocument bytes p.0 p.1) → Answers bytes h.value (Ok p)
taken bytes p h = record { utf8 = h.utf8; text = h.text; given = h.given }

pub spelled : (bytes : List ℕ) (d : Data) (r : Result (List ThreadLog × Witness) DocFault) → Answers bytes d r → IfOk r (λ p. Spells bytes p.0 p.1)
spelled bytes d (Ok p) h = record { utf8 = h.utf8; value = d; text = h.text; spelled = (is_document d p.0 p.1 h.given).0 }
spelled bytes d (Err e) h = tt

pub within : (bytes : List ℕ) (d : Data) (r : Result (List ThreadLog × Witness) DocFault) → length bytes ≤ 8388608 → Answers bytes d r → IfOk r (λ p. (length bytes ≤ 8388608) × IsLog p.0 × IsWithinLimits p.0 p.1)
within bytes d (Ok p) le h = (let e = is_document d p.0 p.1 h.given in (le, e.1, e.2))
within bytes d (Err e) le h = tt

pub only : (bytes : List ℕ) (d : Data) (r : Result (List ThreadLog × Witness) DocFault) → Answers bytes d r → IfOk r (λ p. (l : List ThreadLog) → (w : Witness) → IsLog l → IsWithinLimits l w → Spells bytes l w → (l ≡ p.0) × (w ≡ p.1))
only bytes d (Ok p) h = λ l w is fits spelling. (let one = only_one bytes d p.0 p.1 l w h.text h.given is fits spelling in (one.0, sym (sym one.1)))
only bytes d (Err e) h = tt

-- what the fault means for the value, it means for the bytes
cause_in : (bytes : List ℕ) (d : Data) (fault : DocFault) → length bytes ≤ 8388608 → IsTextOf bytes d → IsCause fault d → IsCauseIn fault bytes
cause_in bytes d NotJson small text cause = absurd cause
cause_in bytes d (BadShape path) small text cause = record { small = small; value = d; text = text; holds = cause }
cause_in bytes d BadVersion small text cause = record { small = small; value = d; text = text; holds = cause }
cause_in bytes d (NumberRange path) small text cause = record { small = small; value = d; text = text; holds = cause }
cause_in bytes d TooLarge small text cause = inr (record { small = small; value = d; text = text; holds = cause })
cause_in bytes d OutOfMemory small text cause = tt
cause_in bytes d Misplaced small text cause = cause

-- what is so of the value of a text
holds_of : (P : Data → Type 0) (bytes : List ℕ) (d : Data) → read bytes ≡ Some d → IsTextWith P bytes → P d
holds_of P bytes d text with_it = subst P (same_Some with_it.value d (sym with_it.text.text ∙ text)) with_it.holds

many_of : (bytes : List ℕ) (d : Data) → length bytes ≤ 8388608 → read bytes ≡ Some d → IsTooLarge bytes → HasTooManyThreads d
many_of bytes d small text (inl large) = absurd (omega (arith, small, large))
many_of bytes d small text (inr many) = holds_of HasTooManyThreads bytes d text many

pub refused : (bytes : List ℕ) (d : Data) (r : Result (List ThreadLog × Witness) DocFault) → length bytes ≤ 8388608 → Answers bytes d r → IfErr r (IsFaultOf d)
    → IfErr r (λ e. (e ≡ OutOfMemory → ⊥) → IsNoDocument bytes e)
refused bytes d (Ok p) small h of = tt
refused bytes d (Err e) small h of = λ memory. record {
  no_document = λ l w document. none_spelled bytes d h.text (refusal e d memory h.given) l w document.is_log document.limits document.spelled;
  cause = cause_in bytes d e small (record { utf8 = h.utf8; text = h.text }) of.cause;
  no_json = λ none. absurd (none.none d (record { utf8 = h.utf8; text = h.text }));
  other_version = λ other. of.other_version (holds_of HasOtherVersion bytes d h.text other);
  too_large = λ large. of.many_threads (many_of bytes d small h.text large);
  no_want = memory;
}

pub large_document : (bytes : List ℕ) → 8388608 < length bytes → IsNoDocument bytes TooLarge
large_document bytes large = record {
  no_document = λ l w document. (let small = document.small in omega (arith, small, large));
  cause = inl large;
  no_json = λ none. (let small = none.small in absurd (omega (arith, small, large)));
  other_version = λ other. (let small = other.small in absurd (omega (arith, small, large)));
  too_large = λ _. refl;
  no_want = λ is. cc;
}

no_text : (bytes : List ℕ) → (IsUtf8 bytes → read bytes ≡ None) → (d : Data) → IsTextOf bytes d → ⊥
no_text bytes none d text = none-some d (sym (none text.utf8) ∙ text.text)

not_too_large : (bytes : List ℕ) → length bytes ≤ 8388608 → (IsUtf8 bytes → read bytes ≡ None) → IsTooLarge bytes → ⊥
not_too_large bytes small none (inl large) = omega (arith, small, large)
not_too_large bytes small none (inr many) = no_text bytes none many.value many.text

pub no_json : (bytes : List ℕ) → length bytes ≤ 8388608 → (IsUtf8 bytes → read bytes ≡ None) → IsNoDocument bytes NotJson
no_json bytes small none = record {
  no_document = λ l w document. no_text bytes none document.spelled.value (record { utf8 = document.spelled.utf8; text = document.spelled.text });
  cause = record { small = small; none = no_text bytes none };
  no_json = λ _. refl;
  other_version = λ other. absurd (no_text bytes none other.value other.text);
  too_large = λ large. absurd (not_too_large bytes small none large);
  no_want = λ is. cc;
}

-- reading names no misplaced witness
pub not_misplaced : (bytes : List ℕ) (e : DocFault) → e ≡ Misplaced → ((e ≡ OutOfMemory → ⊥) → IsNoDocument bytes e) → ⊥
not_misplaced bytes e is refused = (let none : IsNoDocument bytes Misplaced = subst (IsNoDocument bytes) is (refused (λ want. (let same : Misplaced ≡ OutOfMemory = sym is ∙ want in absurd cc))) in none.cause)
