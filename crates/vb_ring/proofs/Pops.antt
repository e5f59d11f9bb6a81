-- The contract of a pop, put together at each of its ends.
use Rattle.std.specs.Prelude.{◌≡◌, ℕ, ◌+◌, ◌*◌, ◌%◌, ◌≤◌, true, false, List, Option, Some, None}
use Rattle.{std.proofs.Common.{arith, sym, ◌∙◌, ap}, vb_chain.specs.Chain.{ChainGives, FaultGives}}
use Rattle.{std.specs.Prelude.{Result, Ok, Err, length, slice_get, refl}, vb_ram.specs.Pages.Pages}
use Rattle.vb_chain.specs.declared.{fault.ChainFault.ChainFault, pieces.Piece.Piece}
use Rattle.{vb_chain.specs.Table.descriptor_at, vb_ring.specs.declared.device.Taken.Taken}
use Rattle.vb_ring.specs.{Entries.next_entry, Ends.{DeviceEnd, IsDeviceEnd}, Meaning.ShowsAvail}
use Rattle.vb_ring.{proofs.EntryLaws.entry_shown, specs.Calls.{PopsBy, after_pop}}

never : true ≡ false → ⊥
never e = cc

none_some : (r : Result (Option ℕ) ChainFault) (h : ℕ) → r ≡ Ok None → r ≡ Ok (Some h) → ⊥
none_some r h a b = cc

err_ok : (r : Result (Option ℕ) ChainFault) (f : ChainFault) (o : Option ℕ) → r ≡ Err f → r ≡ Ok o
    → ⊥
err_ok r f o a b = cc

same_head : (r : Result (Option ℕ) ChainFault) (h k : ℕ) → r ≡ Ok (Some h) → r ≡ Ok (Some k) → h ≡ k
same_head r h k a b = cc

next_shown : (mem : Pages) (q : DeviceEnd) → IsDeviceEnd q → (heads : List ℕ) (t : ℕ)
    → ShowsAvail mem q.layout q.size heads → t % 65536 ≡ q.next_avail → t ≤ length heads
    → length heads ≤ t + q.size
    → next_entry mem q.layout q.size q.next_avail ≡ Ok (slice_get heads t)
next_shown mem q is_end heads t shows at low near =
    entry_shown mem q.layout q.size heads t q.next_avail is_end.fits.size shows at low near

pub pops_idle : (mem : Pages) (q : DeviceEnd) → IsDeviceEnd q → q.ready ≡ false
    → PopsBy mem q q (Ok None)
pops_idle mem q is_end idle = grind (arith, never, next_shown)

pub pops_none : (mem : Pages) (q : DeviceEnd) → IsDeviceEnd q
    → next_entry mem q.layout q.size q.next_avail ≡ Ok None → PopsBy mem q q (Ok None)
pops_none mem q is_end next = grind (arith, err_ok, none_some, next_shown)

pub pops_chain : (mem : Pages) (q : DeviceEnd) (taken : Taken) → IsDeviceEnd q → q.ready ≡ true
    → next_entry mem q.layout q.size q.next_avail ≡ Ok (Some taken.head)
    → ChainGives (descriptor_at mem q.layout.table) q.size (4096 * length mem) taken.head
    taken.chain → ((pieces : List Piece)
    → ChainGives (descriptor_at mem q.layout.table) q.size (4096 * length mem) taken.head pieces
    → taken.chain ≡ pieces)
    → ((f : ChainFault) → FaultGives (descriptor_at mem q.layout.table) q.size (4096 * length mem)
    taken.head f → ⊥) → PopsBy mem q (after_pop q (Ok (Some taken))) (Ok (Some taken))
pops_chain mem q taken is_end ready next gives each_chain each_fault = record {
  is_end = is_end;
  state = refl;
  not_ready = λ e. absurd (never (sym ready ∙ e));
  none = λ r e. absurd (none_some _ taken.head e next);
  jump = λ f r e. absurd (err_ok _ f (Some taken.head) e next);
  chain = λ h pieces r e others.
      let same : taken.head ≡ h = same_head _ taken.head h next e in
      (same, each_chain pieces (rw same others));
  fault = λ h f r e others.
      let same : taken.head ≡ h = same_head _ taken.head h next e in
      absurd (each_fault f (rw same others));
  found = (ready, next, gives);
  shown = next_shown mem q is_end;
}

pub pops_fault : (mem : Pages) (q : DeviceEnd) (head : ℕ) (fault : ChainFault) → IsDeviceEnd q
    → q.ready ≡ true → next_entry mem q.layout q.size q.next_avail ≡ Ok (Some head)
    → ((pieces : List Piece)
    → ChainGives (descriptor_at mem q.layout.table) q.size (4096 * length mem) head pieces → ⊥)
    → ((f : ChainFault) → FaultGives (descriptor_at mem q.layout.table) q.size (4096 * length mem)
    head f → fault ≡ f) → PopsBy mem q q (Err fault)
pops_fault mem q head fault is_end ready next each_chain each_fault = record {
  is_end = is_end;
  state = refl;
  not_ready = λ e. absurd (never (sym ready ∙ e));
  none = λ r e. absurd (none_some _ head e next);
  jump = λ f r e. absurd (err_ok _ f (Some head) e next);
  chain = λ h pieces r e others.
      let same : head ≡ h = same_head _ head h next e in absurd (each_chain pieces
      (rw same others));
  fault = λ h f r e others.
      let same : head ≡ h = same_head _ head h next e in ap Err (each_fault f (rw same others));
  found = tt;
  shown = next_shown mem q is_end;
}
