-- What memory has next is done, and is one thing.
use Rattle.vb_monitor.proofs.StillFound.{ByFound, ends_so}
use Rattle.vb_monitor.specs.Chains.{CopiesBy, ServesPieces}
use Rattle.vb_monitor.{specs.declared.outcome.Tally.Tally, specs.Machine.{next_chain, serves}}
use Rattle.vb_monitor.{specs.Accesses.Access, specs.Giving.Then, specs.Ends.Whole}
use Rattle.vb_monitor.specs.Still.{AfterReads, ServesTaken, DoesNext, HasNext, in_memory, head_in}
use Rattle.vb_monitor.specs.Still.{is_read, length_of}
use Rattle.vb_core.{specs.declared.kinds.Kind.Kind, specs.declared.device.Denial.TheVariants.Broken}
use Rattle.vb_core.specs.declared.kinds.Kind.TheVariants.{Inflate, Deflate, Statistics, Hint, Report}
use Rattle.vb_core.{specs.declared.device.Device.Device, specs.declared.ring.Virtqueue.Virtqueue}
use Rattle.vb_core.specs.Devices.{needing_reset}
use Rattle.std.proofs.Common.{◌≡◌, ◌∙◌, ap, sym, subst, refl, inl, inr, ℕ, Bool, true, false, List, []}
use Rattle.std.proofs.Common.{Option, Some, None, Result, Ok, Err}
use Rattle.std.specs.Prelude.{◌&&◌}
use Rattle.vb_chain.{specs.declared.pieces.Piece.Piece, specs.declared.fault.ChainFault.ChainFault}
use Rattle.vb_monitor.specs.Within.{ChainWithin, FaultWithin}
use Rattle.vb_monitor.proofs.WithinLemmas.{chain_is_within, chain_or_fault_within, fault_is_within}
use Rattle.vb_ring.specs.declared.device.Taken.{Taken}

-- ---- what is done

pub served_broken : (still : List Access → Type 0) (kind : Kind) (w : Whole) (next : Then)
    (d : Device) (t : Tally) (head : ℕ)
    (pieces : List Piece) (f : ChainFault) (log : List Access) → is_read kind ≡ true →
    t.given ≡ false → still log → length_of kind t.longest pieces ≡ Err f →
    ServesPieces kind w next d t head pieces log →
    (w.outcome.why ≡ Some (Broken f)) × (w.device ≡ needing_reset d) × still []
served_broken still Inflate w next d t head pieces f log read none stays e h =
    ends_so still t.given w (needing_reset d) t (Some (Broken f)) false log none stays
    (subst (λ (o : Result ℕ ChainFault). CopiesBy o w next d t head pieces log) e h)
served_broken still Deflate w next d t head pieces f log read none stays e h =
    ends_so still t.given w (needing_reset d) t (Some (Broken f)) false log none stays
    (subst (λ (o : Result ℕ ChainFault). CopiesBy o w next d t head pieces log) e h)
served_broken still Statistics w next d t head pieces f log read none stays e h =
    ends_so still t.given w (needing_reset d) t (Some (Broken f)) false log none stays
    (subst (λ (o : Result ℕ ChainFault). CopiesBy o w next d t head pieces log) e h)
served_broken still Hint w next d t head pieces f log read none stays e h = absurd cc
served_broken still Report w next d t head pieces f log read none stays e h = absurd cc

pub by_length : (still : List Access → Type 0) (w : Whole) (d : Device) (t : Tally)
    (taken : Taken) (o : Result ℕ ChainFault) (log : List Access)
    → is_read w.kind ≡ true → t.given ≡ false → length_of w.kind t.longest taken.chain ≡ o
    → AfterReads still (serves w t d taken.head taken.chain) log
    → ServesTaken still taken o w t d log
by_length still w d t taken (Err f) log read none e h =
    served_broken still w.kind w (next_chain w t) d t taken.head taken.chain f h.rest read none
    h.still_so e h.is
by_length still w d t taken (Ok bytes) log read none e h = h

pub by_found : (still : List Access → Type 0) (w : Whole) (d : Device) (t : Tally) (found : Result
    (Option Taken) ChainFault) (log : List Access) → is_read w.kind ≡ true → t.given ≡ false →
    ByFound still found w d t log → DoesNext still w t d log found
by_found still w d t (Err f) log read none h = h
by_found still w d t (Ok None) log read none h = h
by_found still w d t (Ok (Some taken)) log read none h =
    by_length still w d t taken (length_of w.kind t.longest taken.chain) log read none refl h

pub first_of : (a b : Bool) → (a && b) ≡ true → a ≡ true
first_of true b e = refl
first_of false b e = absurd cc

-- ---- memory has one thing next

one_of : (a b : ℕ) (o : Result (Option ℕ) ChainFault) → o ≡ Ok (Some a) → o ≡ Ok (Some b) → a ≡ b
one_of a b o e f = cc

one_fault : (byte : ℕ → ℕ) (end : ℕ) (r : Virtqueue) (f g : ChainFault) →
    HasNext byte end r (Err f) → HasNext byte end r (Err g) → f ≡ g
one_fault byte end r f g (inl h) (inl k) = cc
one_fault byte end r f g (inl h) (inr k) = let e = k.is_next in absurd cc
one_fault byte end r f g (inr h) (inl k) = let e = h.is_next in absurd cc
one_fault byte end r f g (inr h) (inr k) =
    fault_is_within (in_memory byte r.table) r.size end h.head f g h.gives
    (subst (λ (n : ℕ). FaultWithin (in_memory byte r.table) r.size end n g)
    (one_of k.head h.head (head_in byte r) k.is_next h.is_next) k.gives)

no_chain_breaks : (byte : ℕ → ℕ) (end : ℕ) (r : Virtqueue) (taken : Taken) (f : ChainFault) →
    HasNext byte end r (Ok (Some taken)) → HasNext byte end r (Err f) → ⊥
no_chain_breaks byte end r taken f h (inl k) = let e = h.0 in cc
no_chain_breaks byte end r taken f h (inr k) =
    chain_or_fault_within (in_memory byte r.table) r.size end taken.head taken.chain f h.1
    (subst (λ (n : ℕ). FaultWithin (in_memory byte r.table) r.size end n f)
    (one_of k.head taken.head (head_in byte r) k.is_next h.0) k.gives)

none_breaks : (byte : ℕ → ℕ) (end : ℕ) (r : Virtqueue) (f : ChainFault) →
    HasNext byte end r (Ok None) → HasNext byte end r (Err f) → ⊥
none_breaks byte end r f h (inl k) = cc
none_breaks byte end r f h (inr k) = let e = k.is_next in cc

same_chain : (byte : ℕ → ℕ) (end : ℕ) (r : Virtqueue) (one other : Taken) →
    HasNext byte end r (Ok (Some one)) → HasNext byte end r (Ok (Some other)) → one ≡ other
same_chain byte end r one other h k =
    let head : other.head ≡ one.head = one_of other.head one.head (head_in byte r) k.0 h.0 in
    let chain : one.chain ≡ other.chain =
    chain_is_within (in_memory byte r.table) r.size end one.head one.chain other.chain h.1
    (subst (λ (n : ℕ). ChainWithin (in_memory byte r.table) r.size end n other.chain) head k.1) in
    ap (λ (n : ℕ). record { head = n; chain = one.chain }) (sym head)
    ∙ ap (λ (ps : List Piece). record { head = other.head; chain = ps }) chain

pub one_next : (byte : ℕ → ℕ) (end : ℕ) (r : Virtqueue)
    (one other : Result (Option Taken) ChainFault) → HasNext byte end r one →
    HasNext byte end r other → one ≡ other
one_next byte end r (Err f) (Err g) h k = ap (λ (x : ChainFault). Err x) (one_fault byte end r f g h k)
one_next byte end r (Err f) (Ok None) h k = absurd (none_breaks byte end r f k h)
one_next byte end r (Err f) (Ok (Some b)) h k = absurd (no_chain_breaks byte end r b f k h)
one_next byte end r (Ok None) (Err g) h k = absurd (none_breaks byte end r g h k)
one_next byte end r (Ok None) (Ok None) h k = refl
one_next byte end r (Ok None) (Ok (Some b)) h k = let e = k.0 in absurd cc
one_next byte end r (Ok (Some a)) (Err g) h k = absurd (no_chain_breaks byte end r a g h k)
one_next byte end r (Ok (Some a)) (Ok None) h k = let e = h.0 in absurd cc
one_next byte end r (Ok (Some a)) (Ok (Some b)) h k =
    ap (λ (x : Taken). Ok (Some x)) (same_chain byte end r a b h k)
