-- The numbers of the allocator, as plain numbers.
use Rattle.vb_virtio.specs.declared.limits.TheConstants.{MAX_ORDER}
use Rattle.std.proofs.Common.{◌≡◌, [], ◌∷◌}
use Rattle.{std.proofs.Common.refl, vb_pages.specs.declared.lists.TheConstants.{LIST_SIZE, BATCH}}
use Rattle.vb_pages.specs.declared.{table.TheConstants.MAX_PAGES, free.TheConstants.REQUEST_PAGES}

-- a processor's list when it is full, and the pages that go into one or come out of it at once
lists_are : LIST_SIZE ∷ BATCH ∷ [] ≡ 16 ∷ 8 ∷ []
lists_are = refl

-- the largest order, the most pages that there may be, and the pages of a request
pages_are : MAX_ORDER ∷ MAX_PAGES ∷ REQUEST_PAGES ∷ [] ≡ 9 ∷ 262144 ∷ 256 ∷ []
pages_are = refl
