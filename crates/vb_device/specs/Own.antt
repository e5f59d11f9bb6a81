-- The numbers of the frames that a device gave out of its own (profile), as a set.
use Rattle.std.specs.Prelude.{◌≡◌, ℕ, Bool, not, ◌==◌, List, filter}
use Rattle.vb_virtio.specs.Tests.{is_in}

-- Whether the number is among them.
abbrev pub has : List ℕ → ℕ → Bool
has own number = is_in number own

-- The same numbers, whatever the order, and however often a list has one.
abbrev pub SameSet : List ℕ → List ℕ → Type 0
SameSet own other = (n : ℕ) → has own n ≡ has other n

-- All of them but this one.
abbrev pub without : List ℕ → ℕ → List ℕ
without own number = filter (λ n. not (n == number)) own
