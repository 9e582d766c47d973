-- What standard error gains.
use Rattle.std.proofs.Common.{◌≡◌, ℕ, ◌+◌, ◌≤◌, List, ◌++◌, length, min, take, Bool, true, false, true≢false, is_err, OnErr, OnOk, Option, Result, Ok, Err, sym, subst, ◌∙◌, arith}
use Rattle.std.specs.Io.KnownBytes.{Appends}
use Rattle.std.proofs.KnownBytes.{Appends-nil, Appends-trans}
use Rattle.std.proofs.lemmas.List.{take-append-le, take_min}
use Rattle.wm_litmus.specs.declared.program.Failure.TheVariants.{OutOfMemory}
use Rattle.wm_litmus.specs.Failures.{TellsFailure}
use Rattle.wm_stream.specs.Output.{AppendsFront}
use Rattle.wm_stream.proofs.Printing.{take_past}
use Rattle.wm_stream.proofs.Writing.{front_of_whole}

pub told_nothing : (before after : ℕ) (a : Option (List ℕ)) → TellsFailure before after a a
told_nothing before after a = record { failure = OutOfMemory; cause = λ named. absurd named; gains = (0, Appends-nil a) }

-- a front of a text is one of a longer text
pub front_more : (a b : Option (List ℕ)) (s t : List ℕ) → AppendsFront a b s → AppendsFront a b (s ++ t)
front_more a b s t (n, gains) =
    let least : min n (length s) ≤ length s = omega arith in
    let same : take n s ≡ take (min n (length s)) (s ++ t) = sym (take_min n s) ∙ sym (take-append-le (min n (length s)) s t least) in
    (min n (length s), subst (Appends a b) same gains)

-- a text, and a front of one after it
pub front_join : (a b c : Option (List ℕ)) (s t : List ℕ) → Appends a b s → AppendsFront b c t → AppendsFront a c (s ++ t)
front_join a b c s t first (n, gains) = (length s + n, subst (Appends a c) (sym (take_past s t n)) (Appends-trans a b c s (take n t) first gains))

-- whichever a write answered, a front was written
pub front_of_either : {T E : Type 0} (a b : Option (List ℕ)) (s : List ℕ) (r : Result T E) → OnOk r (Appends a b s) → OnErr r (AppendsFront a b s) → AppendsFront a b s
front_of_either a b s (Ok x) whole front = front_of_whole a b s whole
front_of_either a b s (Err e) whole front = front

pub was_err : {T E P : Type 0} (r : Result T E) (b : Bool) → b ≡ is_err r → b ≡ true → OnErr r P → P
was_err (Ok x) b is holds p = absurd (true≢false (sym holds ∙ is))
was_err (Err e) b is holds p = p

pub was_ok : {T E P : Type 0} (r : Result T E) (b : Bool) → b ≡ is_err r → b ≡ false → OnOk r P → P
was_ok (Ok x) b is holds p = p
was_ok (Err e) b is holds p = absurd (true≢false (sym is ∙ holds))
