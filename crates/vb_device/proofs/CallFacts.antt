-- What calls leave of a device, worked out.
use Rattle.std.proofs.Common.{◌≡◌, ◌↔◌, ℕ, true, false, List, [], ◌∷◌, map, refl, arith, ap}
use Rattle.std.specs.Prelude.{Some, None, length}
use Rattle.vb_virtio.specs.Queues.{Request}
use Rattle.vb_ram.{specs.Pages.{Page, Pages}, specs.Part.{Part, QueuePart, no_part, no_queue}}
use Rattle.vb_device.specs.declared.claimed.Claimed.TheVariants.{AskHost, NoFrame}
use Rattle.vb_device.specs.Calls.{taking, settled, using, without_frames, lost_frames, next_visit}
use Rattle.vb_device.specs.Calls.{attached, Claims, PutsBack, PopsLoose, HandsBack}
use Rattle.vb_device.specs.BaseCalls.{visited_queue, page_to_visit, flags_after}
use Rattle.vb_device.{specs.Discards.{discarded, frames_behind}, specs.Faults.needing_reset}
use Rattle.vb_device.specs.{Own.{has, without}, Calls.{HasChain, HasFault}}
use Rattle.vb_device.specs.Queues.{queue_end, next_available}
use Rattle.vb_ring.specs.{Entries.next_entry, Layout.layout_of}
use Rattle.vb_chain.specs.{Chain.{ChainGives, FaultGives}, Table.descriptor_at}
use Rattle.vb_chain.specs.declared.{fault.ChainFault.ChainFault, pieces.Piece.Piece}

abbrev pub asked : ℕ → List ℕ → ℕ → Request
asked head pages visited = record { head = head; pages = pages; visited = visited }

abbrev pub queue : ℕ → List Request → QueuePart
queue at taken = record { next_avail = at; next_used = at; taken = taken }

abbrev pub frame : ℕ → Page
frame number = record { number = number; bytes = [] }

-- of the pages 1 to 3 the second has no frame
abbrev pub mem : Pages
mem = None ∷ Some (frame 7) ∷ None ∷ Some (frame 9) ∷ []

abbrev pub busy : Part
busy = record no_part {
  status = 15;
  ballooned = false ∷ true ∷ false ∷ false ∷ [];
  inflate = queue 65535 (asked 1 (1 ∷ []) 1 ∷ asked 0 (3 ∷ 2 ∷ []) 0 ∷ []);
  report = queue 5 (asked 0 (1 ∷ []) 0 ∷ []);
  paced = true;
}

-- ---- frames

bare : discarded (1 ∷ 2 ∷ []) mem ≡ None ∷ None ∷ None ∷ Some (frame 9) ∷ []
bare = refl

behind : frames_behind mem (3 ∷ 2 ∷ 1 ∷ 4 ∷ []) ≡ 9 ∷ 7 ∷ []
behind = refl

-- a deflate's pages keep theirs; a page that is twice loses one
lost : lost_frames 0 (3 ∷ 2 ∷ []) mem ∷ lost_frames 1 (3 ∷ 2 ∷ []) mem ∷ lost_frames 4 (3 ∷ 3 ∷ []) mem ∷ []
    ≡ (9 ∷ []) ∷ [] ∷ (9 ∷ []) ∷ []
lost = refl

kept : without_frames 1 (3 ∷ []) mem ≡ mem
kept = refl

popped : PopsLoose (record busy { loose = 7 ∷ 9 ∷ [] }) (record busy { loose = 9 ∷ [] })
    (Some (frame 7))
popped = (λ n. refl, refl, refl)

popped_none : PopsLoose (record busy { loose = 7 ∷ [] }) (record busy { loose = 7 ∷ [] }) None → ⊥
popped_none none = omega (arith, ap (λ (l : List ℕ). length l) none.0)

-- a device with these frames loose and these of its own out
abbrev pub keeper : List ℕ → List ℕ → Part
keeper loose own = record busy { loose = loose; keeps = true; own = own }

-- another's is given out, and one of the device's own that was met is taken back; or it isn't yet
another_given : HandsBack (keeper (9 ∷ 7 ∷ []) (9 ∷ 4 ∷ [])) (keeper [] (4 ∷ [])) (Some (frame 7))
another_given = grind arith

given_first : HandsBack (keeper (9 ∷ 7 ∷ []) (9 ∷ [])) (keeper (9 ∷ []) (9 ∷ [])) (Some (frame 7))
given_first = grind arith

own_taken_back : HandsBack (keeper (9 ∷ []) (4 ∷ 9 ∷ [])) (keeper [] (4 ∷ [])) None
own_taken_back = grind arith

-- an own one isn't given out; another's isn't kept, nor an own one lost or forgotten while it is
-- out; nor is one given out that wasn't loose, nor does another come to be loose and own
not_back : (HandsBack (keeper (9 ∷ []) (9 ∷ [])) (keeper [] (9 ∷ [])) (Some (frame 9)) → true ≡ false)
    × (HandsBack (keeper (9 ∷ []) (9 ∷ [])) (keeper [] []) (Some (frame 9)) → ⊥)
    × (HandsBack (keeper (7 ∷ []) (9 ∷ [])) (keeper [] (9 ∷ [])) None → ⊥)
    × (HandsBack (keeper (9 ∷ []) (9 ∷ [])) (keeper [] (9 ∷ [])) None → ⊥)
    × (HandsBack (keeper [] (9 ∷ [])) (keeper [] []) None → ⊥)
    × (HandsBack (keeper [] (9 ∷ [])) (keeper [] (9 ∷ [])) (Some (frame 7)) → ⊥)
    × (HandsBack (keeper (4 ∷ 7 ∷ []) (4 ∷ [])) (keeper (9 ∷ []) (9 ∷ [])) (Some (frame 7))
    → false ≡ true)
not_back = (
  λ back. back.1,
  λ back. omega (arith, back.0.balance 9),
  λ back. omega (arith, back.0.balance 7),
  λ back. omega (arith, back.0.balance 9),
  λ back. omega (arith, back.0.balance 9),
  λ back. omega (arith, back.0.balance 7),
  λ back. back.0.own 9 refl,
)

-- ---- a queue: the index goes round, a new request is the last, and those after a used one close
-- up

takes : taking 0 4 (2 ∷ []) busy ≡ record busy {
  inflate = record {
    next_avail = 0;
    next_used = 65535;
    taken = asked 1 (1 ∷ []) 1 ∷ asked 0 (3 ∷ 2 ∷ []) 0 ∷ asked 4 (2 ∷ []) 0 ∷ [];
  };
}
takes = refl

uses : using 0 0 busy ≡ record busy {
  inflate = record { next_avail = 65535; next_used = 0; taken = asked 0 (3 ∷ 2 ∷ []) 0 ∷ [] };
}
uses = refl

uses_the_second : using 0 1 busy
    ≡ record busy { inflate = record { next_avail = 65535; next_used = 0; taken = asked 1 (1 ∷ []) 1 ∷ [] } }
uses_the_second = refl

-- the two counts of an end are apart, and what is next goes by the first
abbrev counted : Part
counted = record busy { report = record { next_avail = 5; next_used = 6; taken = [] }; queue_size = 8 }

an_end : queue_end 4 counted ≡ record {
  layout = layout_of 3 8;
  size = 8;
  ready = true;
  next_avail = 5;
  next_used = 6;
}
an_end = refl

next_of_it : (m : Pages) → next_available 4 m counted ≡ next_entry m (layout_of 3 8) 8 5
next_of_it m = refl

-- chains and faults are those of the queue's own table
chains : (m : Pages) (h : ℕ) (pieces : List Piece) (fault : ChainFault)
    → (HasChain 4 mem counted h pieces ↔ ChainGives (descriptor_at mem 3) 8 16384 h pieces)
    × (HasFault 4 mem counted h fault ↔ FaultGives (descriptor_at mem 3) 8 16384 h fault)
chains m h pieces fault = ((λ is. is, λ is. is), (λ is. is, λ is. is))

settles : map (λ q. (settled q (1 ∷ 3 ∷ []) busy).ballooned) (0 ∷ 1 ∷ 4 ∷ [])
    ≡ (false ∷ true ∷ false ∷ true ∷ []) ∷ (false ∷ false ∷ false ∷ false ∷ [])
    ∷ (false ∷ true ∷ false ∷ false ∷ []) ∷ []
settles = refl

flags : map (λ q. flags_after q (1 ∷ 3 ∷ []) busy.ballooned) (0 ∷ 1 ∷ 4 ∷ [])
    ≡ map (λ q. (settled q (1 ∷ 3 ∷ []) busy).ballooned) (0 ∷ 1 ∷ 4 ∷ [])
flags = refl

-- an inflate's page is visited before a report's, and only by a device that visits
visits : (next_visit 0 busy ≡ Some 3) × (next_visit 4 busy ≡ Some 1)
    × (next_visit 0 (record busy { paced = false }) ≡ None)
visits = (refl, refl, refl)

next : (visited_queue busy ≡ 0) × (page_to_visit busy ≡ Some 3)
    × (visited_queue (record busy { inflate = no_queue }) ≡ 4)
next = (refl, refl, refl)

-- ---- faults, guests and own frames

needs_reset : needing_reset busy ≡ record busy { status = 79 }
needs_reset = refl

a_guest : attached (record { pages = 3; queue_size = 8; processors = 1 }) busy
    ≡ record no_part { ballooned = false ∷ false ∷ false ∷ []; queue_size = 8; paced = true }
a_guest = refl

-- nothing is left of the guest before
another_guest : attached (record { pages = 1; queue_size = 8; processors = 1 })
    (record busy { target = 5; actual = 3; features = 1; queue_size = 2 })
    ≡ record no_part { ballooned = false ∷ []; queue_size = 8; paced = true }
another_guest = refl

own : map (has (4 ∷ 6 ∷ [])) (4 ∷ 5 ∷ 6 ∷ []) ≡ true ∷ false ∷ true ∷ []
own = refl

one_less : without (4 ∷ 6 ∷ 4 ∷ []) 4 ≡ 6 ∷ []
one_less = refl

asks_the_host : Claims busy busy AskHost × (Claims busy busy NoFrame → false ≡ true)
asks_the_host = ((refl, refl), λ claims. claims.0)

comes_back : PutsBack busy busy (frame 7) (Some (frame 7))
    × (PutsBack busy busy (frame 7) None → false ≡ true)
comes_back = ((refl, refl, refl), λ back. back.0)
