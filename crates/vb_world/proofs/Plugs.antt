-- A host is made, and guests are plugged in.
use Rattle.{std.proofs.Common.{◌≡◌, ℕ, suc, ◌+◌, ◌<◌, ◌≤◌, Bool, true}, vb_frames.specs.Out.is_out}
use Rattle.std.proofs.Common.{false, cond, List, [], ◌∷◌, length, get_or, map, refl, sym, ap, subst}
use Rattle.std.proofs.Common.{◌∙◌, inl, inr, arith, Option, Some, None, is_some, count_by, All}
use Rattle.std.specs.{List.remove, Prelude.{◌==◌, MatchOption, replicate, ⊤, nat_le, if◌then◌else◌}}
use Rattle.std.proofs.lemmas.List.{get_or_past, get_or-replicate, length-replicate}
use Rattle.std.proofs.lemmas.Bool.{cases_lt, Decides.{eqb_tells, nat_tests}}
use Rattle.{slab.specs.Slab.{Slab, get, slab_len, Updates}, vb_ram.specs.{Pages.Pages, Part.Part}}
use Rattle.vb_model.proofs.Changes.{with_guest-same, with_guest-other}
use Rattle.vb_model.specs.{Guest.{Guest, Config, fresh}, World.{World, guest_at, with_guest, made}}
use Rattle.vb_virtio.specs.Limits.{max_guests, is_config}
use Rattle.vb_virtio.specs.declared.refusals.Refusal.TheVariants.{NoMemory, TooMany, NoDevice}
use Rattle.vb_virtio.specs.declared.refusals.Refusal.TheVariants.{BadConfig}
use Rattle.vb_model.specs.HostEvents.{Plugs, PlugsIn, WorldStep}
use Rattle.{vb_model.specs.HostRefusals.plugged_count, vb_slot.specs.Spare.IsSpare}
use Rattle.vb_model.specs.declared.calls.{Event.{Event, TheVariants.Plug}, GuestSize.GuestSize}
use Rattle.vb_model.specs.declared.replies.Reply.{Reply, TheVariants.{Plugged, Refused}}
use Rattle.{vb_slot.proofs.Fresh.backs_none, vb_world.proofs.Guests.{backing-with, count-with}}
use Rattle.vb_world.{specs.Hosts.{IsHost, StandsAt, AreSpares, backing_at}, proofs.Calls.no_guest}

-- ---- a host as made

none_out : (n f : ℕ) → is_out (replicate n false) f ≡ false
none_out n f = elim (cases_lt f n) [
  | inl l ↦ get_or-replicate n f false false l
  | inr l ↦ get_or_past (replicate n false) f false
      (omega (arith, l, length-replicate {A = Bool} n false))
]

spares_of : {D : Type 0} (P : D → Type 0) (paced : D → Bool) (ds : List D) → All P ds
    → AreSpares (λ d p. P d × (paced d ≡ p)) ds (map paced ds)
spares_of P paced [] all = tt
spares_of P paced (d ∷ ds) all = (
  (all 0 d (omega arith), refl),
  spares_of P paced ds (λ k e l. all (suc k) e (omega (arith, l))),
)

pub host_made : {S D : Type 0} (Stand : S → Guest → Type 0) (P : D → Type 0) (paced : D → Bool)
    (slots : Slab S) (out : List Bool) (devices : List D) (frames : ℕ)
    → slots.slots ≡ [] → max_guests ≤ slots.capacity → out ≡ replicate frames false → All P devices
    → IsHost Stand (λ d p. P d × (paced d ≡ p)) slots out devices (made frames (map paced devices))
host_made Stand P paced slots out devices frames empty room none all = record {
  guests = λ n. rw empty tt;
  count = rw empty refl;
  few = omega arith;
  room = room;
  next = tt;
  frames = rw none (length-replicate frames false);
  backed = λ f. rw (none, none_out frames f) refl;
  spares = spares_of P paced devices all;
}

-- ---- a plug

-- the size that a plug asks for
abbrev pub sized : ℕ → ℕ → ℕ → GuestSize
sized pages queue_size processors =
    record { pages = pages; queue_size = queue_size; processors = processors }

module _ {S D : Type 0} (Stand : S → Guest → Type 0) (Spare : D → Bool → Type 0) (slots : Slab S)
    (out : List Bool) (devices : List D) (w : World) where
  -- the first of the devices is a spare of the world
  pub record HasSpare (d : D) (rest : List D) : Type 0 where
    pub paced : Bool
    pub others : List Bool
    pub there : w.spares ≡ paced ∷ others
    pub spare : Spare d paced
    pub spares : AreSpares Spare rest others

  pub spare_of : (d : D) (rest : List D) → IsHost Stand Spare slots out devices w
      → devices ≡ d ∷ rest → HasSpare d rest
  spare_of d rest host e =
      of w.spares refl (subst (λ (ds : List D). AreSpares Spare ds w.spares) e host.spares)
    where
      of : (ps : List Bool) → w.spares ≡ ps → AreSpares Spare (d ∷ rest) ps → HasSpare d rest
      of [] there h = absurd h
      of (p ∷ ps) there h =
          record { paced = p; others = ps; there = there; spare = h.0; spares = h.1 }

  plugs : (n : ℕ) (s : S) (slots' : Slab S) (g : Guest) → IsHost Stand Spare slots out devices w
      → get slots n ≡ None → Updates slots slots' n (Some s) → Stand s g
      → (m : ℕ) → StandsAt Stand (get slots' m) (guest_at (with_guest n (Some g) w.guests) m)
  plugs n s slots' g host e new stands m = elim (eqb_tells m n) [
    | inl same ↦ subst
        (λ (k : ℕ). StandsAt Stand (get slots' k) (guest_at (with_guest n (Some g) w.guests) k))
        (sym same.1) (rw (new.changed, with_guest-same n (Some g) w.guests) stands)
    | inr other ↦
        rw (new.others m other.1, with_guest-other n m (Some g) w.guests (λ h. other.1 (sym h)))
        (host.guests m)
  ]

  one_more : (n : ℕ) (g : Guest) → guest_at w.guests n ≡ None
      → count_by is_some (with_guest n (Some g) w.guests) ≡ plugged_count w + 1
  one_more n g none = let b = ap {B = ℕ} (λ (x : Option Guest). cond (is_some x) 1 0) none in
      omega (arith, count-with n (Some g) w.guests, b)

  pub plugged : (n : ℕ) (s : S) (slots' : Slab S) (d : D) (rest : List D)
      (pages queue_size processors : ℕ) → IsHost Stand Spare slots out devices w
      → devices ≡ d ∷ rest → slab_len slots < max_guests → n ≡ slots.vacant_key → get slots n ≡ None
      → Updates slots slots' n (Some s) → slab_len slots' ≡ slab_len slots + 1 → slots'.capacity
      ≡ slots.capacity → (pace : Bool) → ((p : Bool) → Spare d p → pace ≡ p) → Stand s (fresh
      (record { pages = pages; queue_size = queue_size; processors = processors; paced = pace }) 0)
      → (new : World) × IsHost Stand Spare slots' out rest new
      × PlugsIn (sized pages queue_size processors) w.spares w (Plugged n) new
  plugged n s slots' d rest pages queue_size processors host e few key vacant new len capacity
      pace is_pace stands =
      let has = spare_of d rest host e in
      let config : Config = record {
        pages = pages;
        queue_size = queue_size;
        processors = processors;
        paced = has.paced;
      } in
      let g : Guest = fresh config 0 in
      let none = no_guest Stand Spare slots out devices w n host vacant in
      let after : World = record {
        frames = w.frames;
        guests = with_guest n (Some g) w.guests;
        spares = has.others;
        vacated = None;
      } in let stood : IsHost Stand Spare slots' out rest after = record {
        guests = plugs n s slots' g host vacant new (subst (λ (b : Bool). Stand s (fresh (record {
          pages = pages;
          queue_size = queue_size;
          processors = processors;
          paced = b;
        }) 0)) (is_pace has.paced has.spare) stands);
        count = len ∙ (ap (λ (k : ℕ). k + 1) host.count ∙ sym (one_more n g none));
        few = omega (arith, few, host.count, one_more n g none);
        room = omega (arith, host.room, capacity);
        next = tt;
        frames = host.frames;
        backed = λ f.
            let a = ap (backing_at f) none in
            omega (arith, host.backed f, backing-with f n (Some g) w.guests, a, backs_none f pages);
        spares = has.spares;
      } in
      let plug : Plugs config has.others w (Plugged n) after =
      (n, none, given host key, refl, refl) in (
        after,
        stood,
        subst (λ (ps : List Bool). PlugsIn (sized pages queue_size processors) ps w (Plugged n)
            after) (sym has.there) (inr plug),
      )
    where
      given : IsHost Stand Spare slots out devices w → n ≡ slots.vacant_key
          → MatchOption w.vacated ⊤ (λ last. n ≡ last)
      given host key = of w.vacated host.next where
        of : (o : Option ℕ) → MatchOption o ⊤ (λ last. last ≡ slots.vacant_key)
            → MatchOption o ⊤ (λ last. n ≡ last)
        of None h = tt
        of (Some last) h = key ∙ sym h

  -- there was no memory for it
  pub not_plugged : (pages queue_size processors : ℕ) → IsHost Stand Spare slots out devices w
      → 0 < length devices → PlugsIn (sized pages queue_size processors) w.spares w (Refused NoMemory) w
  not_plugged pages queue_size processors host some = of devices w.spares host.spares some where
    of : (ds : List D) (ps : List Bool) → AreSpares Spare ds ps → 0 < length ds
        → PlugsIn (sized pages queue_size processors) ps w (Refused NoMemory) w
    of [] ps h l = absurd (omega (arith, l))
    of (d ∷ ds) [] h l = absurd h
    of (d ∷ ds) (p ∷ ps) h l = inl (refl, refl)

  -- the device is where it was
  pub device_back : (d d' : D) (rest : List D) → IsHost Stand Spare slots out devices w
      → devices ≡ d ∷ rest → ((p : Bool) → Spare d p → Spare d' p)
      → IsHost Stand Spare slots out (d' ∷ rest) w
  device_back d d' rest host e same = let has = spare_of d rest host e in record {
    guests = host.guests;
    count = host.count;
    few = host.few;
    room = host.room;
    next = host.next;
    frames = host.frames;
    backed = host.backed;
    spares = rw has.there (same has.paced has.spare, has.spares);
  }

-- ---- which of a plug's answers it is

pub config_none : {A : Type 0} (b : Bool) (x : A) (o : Option A) → o ≡ (if b then Some x else None)
    → o ≡ None → b ≡ false
config_none true x o e none = absurd (cc (sym e ∙ none))
config_none false x o e none = refl

pub record IsConfig {A : Type 0} (b : Bool) (x y : A) : Type 0 where
  pub fits : b ≡ true
  pub same : y ≡ x

pub config_some : {A : Type 0} (b : Bool) (x y : A) (o : Option A)
    → o ≡ (if b then Some x else None) → o ≡ Some y → IsConfig b x y
config_some true x y o e some = record { fits = refl; same = cc (sym some ∙ e) }
config_some false x y o e some = absurd (cc (sym e ∙ some))

at_most : (m n : ℕ) → m ≤ n → nat_le m n ≡ true
at_most m n h = grind (arith, nat_tests)

above : (m n : ℕ) → n < m → nat_le m n ≡ false
above m n h = grind (arith, nat_tests)

-- the event that plugs in a guest of this size
abbrev plug : (pages queue_size processors : ℕ) → Event
plug pages queue_size processors =
    Plug (record { pages = pages; queue_size = queue_size; processors = processors })

pub bad_config : (w : World) (pages queue_size processors : ℕ)
    → is_config pages queue_size processors ≡ false
    → WorldStep w (plug pages queue_size processors) (Refused BadConfig) w
bad_config w pages queue_size processors e = rw e (refl, refl)

module _ {S D : Type 0} (Stand : S → Guest → Type 0) (Spare : D → Bool → Type 0) (slots : Slab S)
    (out : List Bool) (devices : List D) (w : World) (pages queue_size processors : ℕ) where
  pub too_many : IsHost Stand Spare slots out devices w
      → is_config pages queue_size processors ≡ true → max_guests ≤ slab_len slots
      → WorldStep w (plug pages queue_size processors) (Refused TooMany) w
  too_many host e most =
      rw (e, at_most max_guests (plugged_count w) (omega (arith, most, host.count))) (refl, refl)

  pub no_device : IsHost Stand Spare slots out devices w
      → is_config pages queue_size processors ≡ true → slab_len slots < max_guests
      → length devices ≡ 0 → WorldStep w (plug pages queue_size processors) (Refused NoDevice) w
  no_device host e few none = rw (
    e,
    above max_guests (plugged_count w) (omega (arith, few, host.count)),
    none_left devices w.spares host.spares none,
  ) (refl, refl) where
    none_left : (ds : List D) (ps : List Bool) → AreSpares Spare ds ps → length ds ≡ 0 → ps ≡ []
    none_left [] [] h e = refl
    none_left [] (p ∷ ps) h e = absurd h
    none_left (d ∷ ds) ps h e = absurd (omega (arith, e))

  pub plug_happens : (reply : Reply) (new : World) → IsHost Stand Spare slots out devices w
      → is_config pages queue_size processors ≡ true → slab_len slots < max_guests
      → 0 < length devices → PlugsIn (sized pages queue_size processors) w.spares w reply new
      → WorldStep w (plug pages queue_size processors) reply new
  plug_happens reply new host e few some happens = rw (
    e,
    above max_guests (plugged_count w) (omega (arith, few, host.count)),
    some_left devices w.spares host.spares some,
  ) happens where
    some_left : (ds : List D) (ps : List Bool) → AreSpares Spare ds ps → 0 < length ds
        → (length ps == 0) ≡ false
    some_left [] ps h e = absurd (omega (arith, e))
    some_left (d ∷ ds) [] h e = absurd h
    some_left (d ∷ ds) (p ∷ ps) h e = elim (eqb_tells
        (length (p ∷ ps)) 0) [ inl same ↦ absurd (omega (arith, same.1)) | inr other ↦ other.0 ]

pub none_there : {n : ℕ} → true ≡ (n == 0) → n ≡ 0
none_there {n = n} e =
    elim (eqb_tells n 0) [ inl same ↦ same.1 | inr other ↦ absurd (cc (e ∙ other.0)) ]

pub some_there : {n : ℕ} → false ≡ (n == 0) → 0 < n
some_there {n = n} e = elim (eqb_tells n 0) [
  | inl same ↦ absurd (cc (e ∙ same.0))
  | inr other ↦ grind (arith, other.1)
]

-- the first of a list, and the others
pub first_removed : {A : Type 0} (xs : List A) (x : A) (ys : List A) → 0 < length xs
    → x ≡ get_or xs 0 x → ys ≡ remove xs 0 → xs ≡ x ∷ ys
first_removed [] x ys l first rest = absurd (omega (arith, l))
first_removed (y ∷ xs) x ys l first rest = cc (first, rest)

-- a device that says what another one said
pub spare_like : {m m' : Pages} {p p' : Part} (b : Bool) → m' ≡ m → p' ≡ p
    → IsSpare m p × (p.paced ≡ b) → IsSpare m' p' × (p'.paced ≡ b)
spare_like b e f h = rw (e, f) h
