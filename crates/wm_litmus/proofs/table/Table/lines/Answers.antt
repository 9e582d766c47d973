use Rattle.std.proofs.Common.{false, ◌-◌, ◌^◌, ℕ, Bor, [], ◌∷◌, ◌++◌, rules, ◌≡◌, ◌∙◌, codes, map, sym, ap}
use Rattle.std.specs.Fmt.{decimal, format_spec, padded_integral}
use Rattle.std.specs.List.{flat_map}
use Rattle.std.specs.Map.Iter.{deref_pair}
use Rattle.std.specs.Prelude.{String, string_bytes}
use Rattle.std.specs.declared.alloc.Global.{Global}
use Rattle.std.proofs.lemmas.List.{map-append}
use Rattle.std.proofs.lemmas.Map.Iter.{iter_end}
use Rattle.wm_litmus.specs.Counts.{row_of}
use Rattle.wm_litmus.specs.Table.{row_text}
use Rattle.wm_litmus.proofs.Padding.{row_written}
use Rattle.wm_litmus.proofs.table.Table.lines.Goals as goal

pub loop-outcome-preserved : goal.loop-outcome-preserved
loop-outcome-preserved c =
    let item : Bor (String Global) × Bor ℕ = (c.in-Some.outcome, c.in-Some.count) in
    row_written (string_bytes c.loop-outcome.text) (string_bytes c.push_str.new.self) c.as_str-in-loop-outcome.result.now (map deref_pair c.loop-outcome.yielded) (deref_pair item)
    c.loop-outcome.invariant
    (c.as_str-in-loop-outcome.ensures.value ∙ c.in_ok-line.ensures
    ∙ ap (λ outcome. padded_integral (format_spec 32 3 0 8 (2 ^ 64 - 1)) false [] (decimal c.in-Some.count.now) ++ (codes "  " ++ (outcome ++ codes "\n"))) c.as_str.ensures.value)
    c.in_ok-push_str.ensures.bytes
    ∙ ap (λ entries. flat_map row_text (map row_of entries)) (sym (map-append deref_pair c.loop-outcome.yielded (item ∷ [])))

pub returns : goal.returns
returns c =
    let all : map deref_pair c.loop-outcome.yielded ≡ c.args.self.now.counts.entries = search (rules, iter_end) in
    c.loop-outcome.invariant ∙ ap (λ entries. flat_map row_text (map row_of entries)) all
