-- What a guest counts for on a host, and what it can give in each tier, by what is known of it. All
-- in pages.
use Rattle.std.specs.Prelude.{ℕ, ◌+◌, ◌-◌, ◌*◌, ◌/◌, ◌^◌, Bool, ◌&&◌, ◌||◌, ◌==◌}
use Rattle.std.specs.Prelude.{false, nat_lt, if◌then◌else◌, min, max}
use Rattle.vb_policy.specs.declared.figures.Budget.{Budget}
use Rattle.vb_policy.specs.declared.figures.Contact.{Contact}
use Rattle.vb_policy.specs.declared.figures.Contact.TheVariants.{Starting, Silent, Heard, Away}
use Rattle.vb_policy.specs.declared.figures.Figures.{Figures}
use Rattle.vb_policy.specs.declared.guest.Guest.{Guest}

-- the contact of a number that anybody may have written
abbrev pub contact_of : ℕ → Contact
contact_of n =
    if n == 1 then Silent else (if n == 2 then Heard else (if n == 3 then Away else Starting))

-- ---- what it counts for

-- A guest that is granted its frames, and one whose balloon doesn't count, counts for all its
-- memory, whatever its contact.
abbrev pub is_lent : Figures → Bool
is_lent g = nat_lt 0 g.strict || nat_lt 0 g.uncounted

abbrev pub given : Figures → ℕ
given g = min g.ballooned g.pages

-- Of the others a silent one counts for what it holds and what is in its balloon, and one that has
-- gone for what it still holds.
abbrev pub charged : Contact → Figures → ℕ
charged Starting g = g.pages
charged Heard g = g.pages
charged Silent g = min (g.held + given g) g.pages
charged Away g = g.held

abbrev pub counts : Figures → ℕ
counts g = if is_lent g then g.pages else charged (contact_of g.contact) g

-- ---- what it can give

-- it waits for frames
abbrev pub waits : Figures → Bool
waits g = is_lent g && nat_lt 0 g.asked

-- it isn't asked for more than it has given: in any tier, and of what it uses for nothing or for
-- page cache
abbrev pub is_paused : Figures → Bool
is_paused g = nat_lt 0 g.paused

abbrev pub is_spared : Figures → Bool
is_spared g = is_paused g || nat_lt 0 g.pressed

-- What it can give by its own word, where of `room` pages at its last statistics `floor` are to
-- stay. A silent guest gives no more than it has given.
abbrev pub tells : Contact → Bool → ℕ → ℕ → Figures → ℕ
tells Starting limited floor room g = 0
tells Away limited floor room g = 0
tells Silent limited floor room g = given g
tells Heard limited floor room g =
    if limited then min (min (g.ballooned_then + room) g.pages - floor) (given g)
    else min (g.ballooned_then + room) g.pages - floor

-- One that waits gives what stays in its balloon when it has what it waits for, and one whose
-- balloon doesn't count nothing.
abbrev pub spares : Bool → ℕ → ℕ → Figures → ℕ
spares limited floor room g =
    if waits g then g.pages - (g.lent + g.asked)
    else (if nat_lt 0 g.uncounted then 0
    else min (tells (contact_of g.contact) limited floor room g) (counts g))

-- Its least pages stay to it.
abbrev pub gives : Bool → ℕ → ℕ → Figures → ℕ
gives limited floor room g = min (spares limited floor room g) (counts g - g.least)

-- ---- tier after tier

-- Linux keeps some pages free for itself, more of a larger memory.
abbrev pub loose : Budget → Figures → ℕ
loose b g = max (b.floor / 2) (g.pages / 512)

-- its floor, and its reserve, in percent of its pages
abbrev pub reserved : Budget → Figures → ℕ
reserved b g = min (b.floor + g.pages * min 100 b.reserve / 100) (2 ^ 32 - 1)

abbrev pub unused_of : Budget → Figures → ℕ
unused_of b g = gives (is_spared g) (loose b g) (min g.available g.free) g

abbrev pub cached_of : Budget → Figures → ℕ
cached_of b g = gives (is_spared g) (reserved b g) g.available g

abbrev pub spare_of : Budget → Figures → ℕ
spare_of b g = gives (is_paused g) b.floor g.available g

-- with less than the floor by the slack
abbrev pub most_of : Budget → Figures → ℕ
most_of b g = gives (is_paused g) (b.floor - b.slack) g.available g

-- ---- what it is asked for

-- What it has above its most pages is asked of it, as far as it can give it; but not while it
-- waits.
abbrev pub forced : Budget → Figures → ℕ
forced b g = if waits g then 0 else min (counts g - g.most) (spare_of b g)

-- A pressed guest is poor: its target so far counts as more than may be.
abbrev pub target_of : Budget → Figures → ℕ
target_of b g = if nat_lt 0 g.pressed then 4294967295 else g.target - forced b g

-- what is decided on: what it can give beside what is forced
abbrev pub guest_of : Budget → Figures → Guest
guest_of b g = record {
  unused = unused_of b g - forced b g;
  cached = cached_of b g - forced b g;
  spare = spare_of b g - forced b g;
  weight = g.weight;
  priority = g.priority;
  target = target_of b g;
  most = most_of b g - forced b g;
  waits = waits g;
}

-- ---- what a guest that waits takes in the end

-- All its memory but for what it could give by its own word, with its floor: no more than its most
-- pages. Beyond what is lent to it that is at least what it asks for.
abbrev pub uses : Budget → Figures → ℕ
uses b g = min (g.pages - tells (contact_of g.contact) false b.floor g.available g) g.most

abbrev pub wants : Budget → Figures → ℕ
wants b g = if waits g then max g.asked (uses b g - g.lent) else 0

-- ---- while somebody waits on a short host: the first that waits is served alone

-- a quarter of the floor stays
abbrev pub last_of : Budget → Figures → ℕ
last_of b g = gives (is_paused g) (b.floor / 4) g.available g

-- it waits, and others wait before it
abbrev pub waits_behind : Figures → Bool
waits_behind g = waits g && g.first == 0

-- What a guest that waits after another has stays to it, and of the others a quarter of the floor.
abbrev pub yields : Budget → Figures → ℕ
yields b g =
    if waits_behind g then min (g.pages - g.lent) (counts g - g.least) else last_of b g

abbrev pub yielding : Budget → Figures → Guest
yielding b g = record (guest_of b g) { spare = yields b g - forced b g }
