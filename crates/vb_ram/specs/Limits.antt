-- What a guest within the limits has.
use Rattle.std.specs.Prelude.{ℕ, ◌≤◌}
use Rattle.vb_virtio.specs.declared.limits.TheConstants.{MIN_GUEST_PAGES, MAX_GUEST_PAGES}
use Rattle.vb_virtio.specs.declared.limits.TheConstants.{MIN_QUEUE_SIZE, MAX_QUEUE_SIZE}
use Rattle.vb_virtio.specs.declared.limits.TheConstants.{MAX_PROCESSORS}

-- The sizes of a guest lie between these limits.
pub record AreWithinLimits (pages queue_size processors : ℕ) : Type 0 where
  pub pages_least : MIN_GUEST_PAGES ≤ pages
  pub pages_most : pages ≤ MAX_GUEST_PAGES
  pub queue_least : MIN_QUEUE_SIZE ≤ queue_size
  pub queue_most : queue_size ≤ MAX_QUEUE_SIZE
  pub processors_least : 1 ≤ processors
  pub processors_most : processors ≤ MAX_PROCESSORS
