use Rattle.std.proofs.Common.{◌≡◌, ◌+◌, ◌<◌, ℕ, length, reverse}
use Rattle.wm_event.specs.declared.event.EventKey.{EventKey}
use Rattle.wm_event.specs.declared.event.EventId.TheVariants.{At}
use Rattle.wm_event.specs.LoggedRun.{execution}
use Rattle.wm_hb.specs.Chain.{Leads}
use Rattle.wm_hb.specs.Table.{IsReachedAt, IsTable, StandsAt, links_at}
use Rattle.wm_hb.proofs.chain.links_back.Given as goal

abbrev pub invariant-loop-place : goal.invariant-loop-place
invariant-loop-place l = record {
  inside : l.place < length l.table;
  reached : (d : ℕ) × IsReachedAt l.table l.place d;
  size : links_at l.table l.place + length l.links.items ≡ links_at l.table l.to;
  leads : (a b c : EventKey) → IsTable l.candidate a l.table → StandsAt l.candidate l.to b → StandsAt l.candidate l.place c
      → Leads (execution l.candidate) (At c) (reverse l.links.items) (At b);
}

abbrev pub decreases-loop-place : goal.decreases-loop-place
decreases-loop-place l = links_at l.table l.place
