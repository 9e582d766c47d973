-- What holds of each step of a history.
use Rattle.std.proofs.Common.{◌≡◌, ℕ, Bool, true, false, List, [], ◌∷◌, ◌+◌, ◌==◌, ◌≤◌, ◌*◌, length, refl, sym, ◌∙◌, if◌then◌else◌}
use Rattle.std.proofs.lemmas.Bool.{false≢true}
use Rattle.wm_event.specs.declared.event.Event.{Event}
use Rattle.wm_event.specs.declared.event.EventId.{EventId}
use Rattle.wm_event.specs.declared.event.EventKind.TheVariants as kind
use Rattle.wm_event.specs.declared.op.OpKind.{OpKind}
use Rattle.wm_event.specs.declared.op.OpKind.TheVariants.{Read, Write, Rmw, CmpXchg}
use Rattle.wm_memory.specs.declared.history_step.HistoryStep.{HistoryStep}
use Rattle.wm_memory.specs.declared.history_step.HistoryStep.TheVariants.{Access, Drain, DrainAt}
use Rattle.wm_event.specs.Event.{reads, kind_reads}
use Rattle.wm_access.specs.AccessWidth.{bytes_of, Fits}
use Rattle.wm_access.specs.declared.AccessWidth.{AccessWidth}
use Rattle.wm_access.specs.declared.MemoryOrder.{MemoryOrder}
use Rattle.std.proofs.lemmas.Nat.{pow_pos}
use Rattle.std.proofs.Math.Nat.{mod-lt}
use Rattle.wm_event.specs.Op.{made_kind, made_read, made_written, KindFits}
use Rattle.wm_memory.specs.Visibility.{Passes, Step, Made, Drained, waiting, visible, accesses, seen, value_at, writers_after, steps}
use Rattle.wm_memory.specs.Legal.{IsLegal}
use Rattle.wm_memory.proofs.Lists.{passes_first}

pub record Good (initial : List ℕ) (s : List Step) (e : Event) (ws : List EventId) : Type 0 where
  pub number : e.number ≡ accesses s e.thread
  pub range : e.address + bytes_of e.width ≤ length initial
  pub writers : ws ≡ writers_after initial s e
  pub written : Fits e.width e.written
  pub unread : reads e ≡ false → e.read ≡ 0
  pub value : reads e ≡ true → e.read ≡ value_at (seen initial (visible s e.thread)) e.address (bytes_of e.width)

abbrev pub Sound : List ℕ → List Step → Type 0
Sound initial [] = Unit {0}
Sound initial (Drained t k ∷ s) = Passes k (waiting s t) × Sound initial s
Sound initial (Made e ws ∷ s) = Good initial s e ws × Sound initial s

pub read_is : (a : OpKind) (r : ℕ) → kind_reads (made_kind a r) ≡ true → made_read a r ≡ r
read_is Read r h = refl
read_is (Write v) r h = absurd (false≢true h)
read_is (Rmw m v) r h = refl
read_is (CmpXchg x y) r h = refl

exchange_reads : (b : Bool) → kind_reads (if b then kind.Update else kind.Read) ≡ true
exchange_reads true = refl
exchange_reads false = refl

pub unread_is : (a : OpKind) (r : ℕ) → kind_reads (made_kind a r) ≡ false → made_read a r ≡ 0
unread_is Read r h = absurd (false≢true (sym h))
unread_is (Write v) r h = refl
unread_is (Rmw m v) r h = absurd (false≢true (sym h))
unread_is (CmpXchg x y) r h = absurd (false≢true (sym h ∙ exchange_reads (r == x)))

zero_fits : (width : AccessWidth) → Fits width 0
zero_fits width = pow_pos (8 * bytes_of width)

new_fits : (width : AccessWidth) (new : ℕ) (b : Bool) → Fits width new → Fits width (if b then new else 0)
new_fits width new true h = h
new_fits width new false h = zero_fits width

pub written_fits : (width : AccessWidth) (a : OpKind) (order : MemoryOrder) (r : ℕ) → KindFits a order width → Fits width (made_written width a r)
written_fits width Read order r h = zero_fits width
written_fits width (Write v) order r h = h
written_fits width (Rmw op v) order r h = mod-lt _ (pow_pos (8 * bytes_of width))
written_fits width (CmpXchg x y) order r h = new_fits width y (r == x) h.1

pub sound_steps : (threads : ℕ) (initial : List ℕ) (history : List HistoryStep) → IsLegal threads initial history → Sound initial (steps initial history)
sound_steps threads initial [] h = tt
sound_steps threads initial (Drain t ∷ older) h = (passes_first (waiting (steps initial older) t), sound_steps threads initial older h.0)
sound_steps threads initial (DrainAt t k ∷ older) h = (h.1.2, sound_steps threads initial older h.0)
sound_steps threads initial (Access t op ∷ older) h = (
  record {
    number = refl;
    range = h.1.1;
    writers = refl;
    unread = unread_is op.kind (value_at (seen initial (visible (steps initial older) t)) op.address (bytes_of op.width));
    written = written_fits op.width op.kind op.order (value_at (seen initial (visible (steps initial older) t)) op.address (bytes_of op.width)) h.1.2;
    value = read_is op.kind (value_at (seen initial (visible (steps initial older) t)) op.address (bytes_of op.width));
  },
  sound_steps threads initial older h.0,
)
