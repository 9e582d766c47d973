-- An execution whose accesses are all atomic is causal.
use Rattle.std.proofs.Common.{◌≡◌, ℕ, ◌+◌, ◌-◌, ◌<◌, true, false, inl, inr, [], Option, None, Some, length, refl, sym, ap, ◌∙◌, arith, nat_le, nat_lt, ◌&&◌, if◌then◌else◌}
use Rattle.std.specs.Prelude.{◌⊎◌, option_and_then}
use Rattle.std.proofs.lemmas.Bool.{and_parts, cases_Bool, leb-true, ltb-true}
use Rattle.std.proofs.lemmas.Option.{none-some, slice_get_within}
use Rattle.wm_access.specs.AccessWidth.{bytes_of}
use Rattle.wm_event.specs.Byte.{byte_of}
use Rattle.wm_event.specs.Event.{byte_written, reads, writes}
use Rattle.wm_event.specs.Execution.{ReadsFrom, byte_by}
use Rattle.wm_event.specs.LoggedRun.{LoggedRun, execution}
use Rattle.wm_event.specs.Rules.{IsValid}
use Rattle.wm_event.specs.Shape.{IsWellShaped}
use Rattle.wm_event.specs.Witness.{writers_in}
use Rattle.wm_event.specs.declared.event.Event.{Event}
use Rattle.wm_event.specs.declared.event.EventId.TheVariants.{At}
use Rattle.wm_event.specs.declared.event.EventKey.{EventKey}
use Rattle.wm_explore.specs.Executions.{IsCausal}
use Rattle.wm_explore.specs.Uniform.{HasByte, IsUniform, UniformIsCausal}
use Rattle.wm_explore.proofs.Beginnings.{some_of}
use Rattle.wm_explore.proofs.Ranges.{read_byte}

-- an event that leaves a byte has it
left_byte : (f : Event) (a value : ℕ) → byte_written f a ≡ Some value → HasByte f a
left_byte f a value h = by (cases_Bool (writes f && (nat_le f.address a && nat_lt a (f.address + bytes_of f.width))))
  where
    by : ((writes f && (nat_le f.address a && nat_lt a (f.address + bytes_of f.width))) ≡ true) ⊎ ((writes f && (nat_le f.address a && nat_lt a (f.address + bytes_of f.width))) ≡ false) → HasByte f a
    by (inl holds) =
        let inside = and_parts (nat_le f.address a) (nat_lt a (f.address + bytes_of f.width)) (and_parts (writes f) (nat_le f.address a && nat_lt a (f.address + bytes_of f.width)) holds).1 in
        (leb-true f.address a inside.0, ltb-true a (f.address + bytes_of f.width) inside.1)
    by (inr not) = absurd (none-some value (sym (ap (λ c. if c then Some (byte_of f.written (a - f.address)) else None) not) ∙ h))

module _ (run : LoggedRun) (shaped : IsWellShaped run) (uniform : IsUniform (execution run)) (valid : IsValid (execution run)) where
  -- the writer of a byte comes before the reader in the order
  writer_before : (r w : EventKey) (k : ℕ) (e : Event) → (execution run).event_of r ≡ Some e → ReadsFrom (execution run) r k (At w) → (execution run).place_of w < (execution run).place_of r
  writer_before r w k e at from = by ((execution run).event_of w) refl
    where
      wrote : byte_by (execution run) (At w) (e.address + k) ≡ Some (byte_of e.read k)
      wrote = (valid.keeps_written_values r e k (At w) at from).1

      here : HasByte e (e.address + k)
      here =
          let lt = read_byte (reads e) (bytes_of e.width) (length (writers_in run.witness r)) k (shaped.good r e at).count (slice_get_within (writers_in run.witness r) k (At w) from) in
          (omega arith, omega (arith, lt))

      by : (o : Option Event) → (execution run).event_of w ≡ o → (execution run).place_of w < (execution run).place_of r
      by None is = absurd (none-some _ (sym (ap (option_and_then (λ f. byte_written f (e.address + k))) is) ∙ wrote))
      by (Some f) is =
          let there = left_byte f (e.address + k) _ (sym (ap (option_and_then (λ f. byte_written f (e.address + k))) is) ∙ wrote) in
          let lt = valid.keeps_order (At w) (At r) (
            [],
            inr (record {
              writer = f;
              reader = e;
              is_writer = is;
              is_reader = at;
              writer_atomic = uniform.atomic w f is;
              reader_atomic = uniform.atomic r e at;
              ranges = uniform.ranges w r f e (e.address + k) is at there here;
              reads = (k, from);
            }),
          ) in
          omega (arith, lt)

  causal : IsCausal (execution run)
  causal = (
    (execution run).place_of,
    record {
      threads = λ a b before. let lt = valid.keeps_order (At a) (At b) ([], inl before) in omega (arith, lt);
      reads = λ r w k there from. let e = some_of ((execution run).event_of r) there in writer_before r w k e.0 e.1 from;
    },
  )

pub uniform-is-causal : UniformIsCausal
uniform-is-causal run shaped uniform valid = causal run shaped uniform valid
