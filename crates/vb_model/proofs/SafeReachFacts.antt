-- What is promised of a safe course reaches all its states and entries: of any guests, by any calls
-- of any actors, first or after another entry, of any page that the promise speaks of.
use Rattle.std.proofs.Common.{List, [], arith, false, inl, inr, refl, sym, true, ℕ, ◌+◌, ◌∙◌, ◌∷◌}
use Rattle.std.proofs.Common.{◌≡◌, ◌≤◌, ◌⊎◌}
use Rattle.std.specs.Prelude.{Bool, IsSome, IsTrue, None, Option, Some, drop, length, take}
use Rattle.vb_model.specs.declared.replies.Reply.TheVariants.{Served}
use Rattle.vb_virtio.proofs.Differ.{differ}
use Rattle.vb_virtio.specs.Memory.{overwritten}
use Rattle.vb_virtio.specs.Features.{version_1}
use Rattle.vb_virtio.specs.Status.{contains}
use Rattle.vb_virtio.specs.declared.refusals.Refusal.TheVariants.{Broken, RingBroken}
use Rattle.vb_model.proofs.Samples.{ready}
use Rattle.vb_model.specs.Courses.{Course, IsAt}
use Rattle.vb_model.specs.Driver.{contents_of}
use Rattle.vb_model.specs.Guest.{Guest, frame_of, is_ballooned}
use Rattle.vb_model.specs.{GuestRun.{Called, Entry}, Histories.{IsNamed, IsSafeCourse}}
use Rattle.vb_model.specs.{Pages.{is_place, place_of}, Requests.{given_away}}
use Rattle.vb_model.specs.declared.calls.{Actor.{Actor}, Call.{Call, TheVariants.{Read, Write}}}
use Rattle.vb_model.specs.declared.calls.Claim.{Claim}
use Rattle.vb_model.specs.declared.places.Place.TheVariants.{Giving, Lent, Reserved, Used}
use Rattle.vb_model.specs.declared.replies.Reply.{Reply, TheVariants.{Done, ReadBytes, Refused}}

-- three states, and what came between
abbrev course : Guest → Option Entry → Guest → Option Entry → Guest → Course
course a x b y c = record { first = a; entries = x ∷ y ∷ []; after = b ∷ c ∷ [] }

-- ---- each state

abbrev InEach : (Guest → Type 0) → Type 0
InEach P = (a b c : Guest) (x y : Option Entry) → IsSafeCourse (course a x b y c)
    → P a × P b × P c

each_agreed : InEach (λ g. g.status ≡ 15 → IsTrue (contains 0x100000027 g.features)
    × IsTrue (version_1 g.features))
each_agreed a b c x y s = (s.agreed 0 a refl, s.agreed 1 b refl, s.agreed 2 c refl)

each_counts : InEach (λ g. g.actual ≡ given_away g.places g.deflate)
each_counts a b c x y s = (s.actual 0 a refl, s.actual 1 b refl, s.actual 2 c refl)

-- a lent page is ballooned, and so is one on its way, in either direction
abbrev IsBallooned : Guest → ℕ → Type 0
IsBallooned g page = IsTrue (is_ballooned g.ballooned page)

each_ballooned : InEach (λ g. (page : ℕ)
    → (IsTrue (is_place Lent (place_of g.places page)) → IsBallooned g page)
    × (IsNamed page g.inflate.done → IsBallooned g page)
    × (IsNamed page g.deflate.posted → IsBallooned g page)
    × (IsNamed page g.deflate.taken → IsBallooned g page))
each_ballooned a b c x y s = (
  (λ page. (
    λ l. (s.both_agree 0 a refl page).1 (inl l),
    λ n. (s.both_agree 0 a refl page).1 (inr (inl n)),
    λ n. (s.both_agree 0 a refl page).1 (inr (inr (inl n))),
    λ n. (s.both_agree 0 a refl page).1 (inr (inr (inr n))),
  )),
  (λ page. (
    λ l. (s.both_agree 1 b refl page).1 (inl l),
    λ n. (s.both_agree 1 b refl page).1 (inr (inl n)),
    λ n. (s.both_agree 1 b refl page).1 (inr (inr (inl n))),
    λ n. (s.both_agree 1 b refl page).1 (inr (inr (inr n))),
  )),
  (λ page. (
    λ l. (s.both_agree 2 c refl page).1 (inl l),
    λ n. (s.both_agree 2 c refl page).1 (inr (inl n)),
    λ n. (s.both_agree 2 c refl page).1 (inr (inr (inl n))),
    λ n. (s.both_agree 2 c refl page).1 (inr (inr (inr n))),
  )),
)

-- and no other is
each_ballooned_just_so : InEach (λ g. (page : ℕ) → IsBallooned g page
    → IsTrue (is_place Lent (place_of g.places page)) ⊎ (IsNamed page g.inflate.done
    ⊎ (IsNamed page g.deflate.posted ⊎ IsNamed page g.deflate.taken)))
each_ballooned_just_so a b c x y s = (
  (λ page. (s.both_agree 0 a refl page).0),
  (λ page. (s.both_agree 1 b refl page).0),
  (λ page. (s.both_agree 2 c refl page).0),
)

-- ---- each entry: a frame that is kept, what a page holds, faults

abbrev KeepsFrame : ℕ → Guest → Guest → Type 0
KeepsFrame page g new = (frame : ℕ) → IsAt g page Used → IsAt new page Used
    → frame_of g.frames page ≡ Some frame → frame_of new.frames page ≡ Some frame

each_keeps_frame : (a b c : Guest) (x y : Option Entry) (page : ℕ)
    → IsSafeCourse (course a x b y c) → KeepsFrame page a b × KeepsFrame page b c
each_keeps_frame a b c x y page s = (
  (λ frame. s.keeps_frame 0 page frame a b refl refl),
  (λ frame. s.keeps_frame 1 page frame b c refl refl),
)

-- where the entry is none of the guest's, or a call of another kind
abbrev Holds : ℕ → Guest → Guest → Type 0
Holds page g new = (contents_of new page ≡ contents_of g page)
    ⊎ (IsSome (frame_of g.frames page) × (frame_of new.frames page ≡ None))

each_holds : (a b c : Guest) (x : Option Entry) (page : ℕ) → IsSafeCourse (course a x b None c)
    → (IsAt b page Reserved → ⊥) → Holds page b c
each_holds a b c x page s none = s.keeps_contents 1 page b c refl refl none (λ own. cc)

abbrev is_write : Call → Bool
is_write (Write page offset bytes) = true
is_write call = false

each_call_holds : (a b c : Guest) (y : Option Entry) (actor : Actor) (call : Call)
    (claims : List Claim) (reply : Reply) (page : ℕ) → is_write call ≡ false
    → IsSafeCourse (course a (Some (Called actor call claims reply)) b y c)
    → (IsAt a page Reserved → ⊥) → Holds page a b
each_call_holds a b c y actor call claims reply page other s none =
    s.keeps_contents 0 page a b refl refl none (λ own. grind arith)

-- ---- its own writes and reads, by any actor, whatever its claims were given

abbrev by : Actor → Call → List Claim → Reply → Option Entry
by actor call claims reply = Some (Called actor call claims reply)

each_write : (a b c : Guest) (x : Option Entry) (actor : Actor) (claims : List Claim)
    (page offset : ℕ) (bytes : List ℕ)
    → IsSafeCourse (course a x b (by actor (Write page offset bytes) claims Done) c)
    → (offset + length bytes ≤ length (contents_of b page))
    × (contents_of c page ≡ overwritten offset bytes (contents_of b page))
each_write a b c x actor claims page offset bytes s =
    s.writes 1 page offset bytes b c refl refl (actor, claims, refl)

each_read : (a b c : Guest) (x : Option Entry) (actor : Actor) (claims : List Claim)
    (page offset len : ℕ) (bytes : List ℕ)
    → IsSafeCourse (course a x b (by actor (Read page offset len) claims (ReadBytes bytes)) c)
    → (length bytes ≡ len) × (bytes ≡ take len (drop offset (contents_of b page)))
each_read a b c x actor claims page offset len bytes s =
    s.reads 1 page offset len bytes b refl (actor, claims, refl)

no_fault : (a b c : Guest) (x y : Option Entry) (actor : Actor) (call : Call) (claims : List Claim)
    (fault : ℕ)
    → (IsSafeCourse (course a (by actor call claims (Refused (Broken fault))) b y c) → ⊥)
    × (IsSafeCourse (course a x b (by actor call claims (Refused (Broken fault))) c) → ⊥)
    × (IsSafeCourse (course a (by actor call claims (Refused RingBroken)) b y c) → ⊥)
    × (IsSafeCourse (course a x b (by actor call claims (Refused RingBroken)) c) → ⊥)
    × ((chains : ℕ)
    → IsSafeCourse (course a x b (by actor call claims (Served chains (Some fault))) c) → ⊥)
no_fault a b c x y actor call claims fault = (
  λ s. (s.not_broken 0 fault call (Refused (Broken fault)) (actor, claims, refl)).0 refl,
  λ s. (s.not_broken 1 fault call (Refused (Broken fault)) (actor, claims, refl)).0 refl,
  λ s. (s.not_broken 0 fault call (Refused RingBroken) (actor, claims, refl)).1 refl,
  λ s. (s.not_broken 1 fault call (Refused RingBroken) (actor, claims, refl)).1 refl,
  λ chains s. (s.not_broken 1 fault call (Served chains (Some fault)) (actor, claims, refl)).2 chains
      refl,
)

-- ---- a page that one entry offers isn't handed out by the next, in whatever guests

not_at_once : (a b c : Guest) (x y : Option Entry) (page : ℕ) → (IsAt a page Giving → ⊥)
    → IsAt b page Giving → IsAt c page Used → IsSafeCourse (course a x b y c) → ⊥
not_at_once a b c x y page before giving used s =
    let told = s.told_first page 0 1 (omega arith) (a, b, refl, refl, before, giving)
    (b, c, refl, refl, (λ at. (let e : Giving ≡ Used = sym giving ∙ at in cc)), used) in
    omega (arith, told.since, told.later, told.before)

-- ---- bytes at the borders: a read from the second byte on, and past the last; a write there

abbrev two_bytes : List ℕ → Guest
two_bytes bytes = record ready { contents = bytes ∷ [] }

abbrev reads_so : Actor → (offset len : ℕ) → List ℕ → Course
reads_so actor offset len bytes = course ready None (two_bytes (1 ∷ 2 ∷ []))
    (by actor (Read 0 offset len) [] (ReadBytes bytes)) ready

abbrev SameBytes : List ℕ → List ℕ → Type 0
SameBytes a b = a ≡ b

read_otherwise : (actor : Actor) (bytes : List ℕ)
    → (IsSafeCourse (reads_so actor 1 1 (1 ∷ [])) → ⊥)
    × (IsSafeCourse (reads_so actor 1 0 (2 ∷ [])) → ⊥)
    × (IsSafeCourse (reads_so actor 1 2 bytes) → ⊥) × (IsSafeCourse (reads_so actor 2 1 bytes) → ⊥)
read_otherwise actor bytes = (
  λ s. (let e : SameBytes (1 ∷ []) (2 ∷ []) = (each_read _ _ _ _ actor _ 0 1 1 _ s).1 in cc),
  λ s. differ 1 0 refl (each_read _ _ _ _ actor _ 0 1 0 _ s).0,
  λ s. grind (arith, each_read _ _ _ _ actor _ 0 1 2 bytes s),
  λ s. grind (arith, each_read _ _ _ _ actor _ 0 2 1 bytes s),
)

written_at_1 : (actor : Actor) (bytes : List ℕ) → IsSafeCourse (course ready None (two_bytes (1 ∷ 2
    ∷ [])) (by actor (Write 0 1 (7 ∷ [])) [] Done) (two_bytes bytes)) → bytes ≡ 1 ∷ 7 ∷ []
written_at_1 actor bytes s = (each_write _ _ _ _ actor _ 0 1 (7 ∷ []) s).1
